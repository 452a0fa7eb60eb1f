-- A clause more in the lists of its two watches.
use Rattle.std.proofs.Common.{◌≡◌, ℕ, ◌+◌, ◌-◌, ◌<◌, ◌≤◌, ◌==◌, Bool, true, false, cond, List, [], ◌∷◌, ◌++◌, refl, arith, ap, sym, ◌∙◌, inl, inr, length, length-append, length-set, get_or, set, get_or-set_other, get_or-set_same, take, slice_get, slice_index, slice_index_or, slice_set, Some, zero, suc}
use Rattle.std.proofs.lemmas.Bool.{cases_eq}
use Rattle.std.proofs.lemmas.Bool.Decides.{eqb_tells}
use Rattle.std.proofs.lemmas.List.{set-get_or}
use Rattle.std.proofs.Math.Seq.{take-append_seam}
use Rattle.dsv_cnf.specs.Literal.{code_of}
use Rattle.dsv_solver.specs.Adding.{with_clause, without_last, with_both}
use Rattle.dsv_solver.specs.Watched.{IsAt, IsListed, IsPairOver}
use Rattle.dsv_solver.specs.declared.watches.Pair.{Pair}
use Rattle.dsv_solver.proofs.WatchLemmas.{IsAt-pushed, IsAt-new}
use Rattle.dsv_solver.proofs.Backs.{push-cases}

-- a write of what was there
pub put_back : (lists : List (List ℕ)) (at : ℕ) → slice_set lists at (slice_index_or lists at []) ≡ lists
put_back lists at = set-get_or lists at []

set_set : (lists : List (List ℕ)) (at : ℕ) (x y : List ℕ) → set (set lists at x) at y ≡ set lists at y
set_set [] at x y = refl
set_set (l ∷ ls) zero x y = refl
set_set (l ∷ ls) (suc at) x y = ap (λ ks. l ∷ ks) (set_set ls at x y)

pub popped : (lists : List (List ℕ)) (at clause : ℕ) → at < length lists → without_last (with_clause lists at clause) at ≡ lists
popped lists at clause h =
    let l : List ℕ = slice_index_or lists at [] in
    let now : get_or (set lists at (l ++ clause ∷ [])) at [] ≡ l ++ clause ∷ [] = get_or-set_same lists at (l ++ clause ∷ []) [] h in
    let n : length (l ++ clause ∷ []) - 1 ≡ length l = omega (arith, length-append l (clause ∷ [])) in
    let prefix : take (length (l ++ clause ∷ []) - 1) (l ++ clause ∷ []) ≡ l = rw n (take-append_seam l (clause ∷ [])) in
    ap (λ (x : List ℕ). set (set lists at (l ++ clause ∷ [])) at (take (length x - 1) x)) now ∙ (ap (set (set lists at (l ++ clause ∷ [])) at) prefix ∙ (set_set lists at (l ++ clause ∷ []) l ∙ set-get_or lists at []))

-- ---- what the lists have then
pub at_kept : (lists : List (List ℕ)) (at clause k i : ℕ) → at < length lists → IsAt (get_or lists k []) i → IsAt (get_or (with_clause lists at clause) k []) i
at_kept lists at clause k i h a =
    elim (cases_eq k at) [
      | inl same ↦ let now : get_or (with_clause lists at clause) k [] ≡ get_or lists k [] ++ clause ∷ [] = rw same (get_or-set_same lists at (get_or lists at [] ++ clause ∷ []) [] h) in rw now (IsAt-pushed (get_or lists k []) clause i a)
      | inr other ↦ let now : get_or (with_clause lists at clause) k [] ≡ get_or lists k [] = get_or-set_other lists at k (get_or lists at [] ++ clause ∷ []) [] other in rw now a
    ]

pub at_new : (lists : List (List ℕ)) (at clause : ℕ) → at < length lists → IsAt (get_or (with_clause lists at clause) at []) clause
at_new lists at clause h =
    let now : get_or (with_clause lists at clause) at [] ≡ get_or lists at [] ++ clause ∷ [] = get_or-set_same lists at (get_or lists at [] ++ clause ∷ []) [] h in
    rw now (IsAt-new (get_or lists at []) clause)

pub record AreBelow (n : ℕ) (lists : List (List ℕ)) : Type 0 where
  pub each : (k j : ℕ) → j < length (get_or lists k []) → slice_index (get_or lists k []) j < n

new_below : (n clause : ℕ) (xs : List ℕ) → clause < n → ((j : ℕ) → j < length xs → slice_index xs j < n) → (j : ℕ) → j < length (xs ++ clause ∷ []) → slice_index (xs ++ clause ∷ []) j < n
new_below n clause [] lt h zero i = lt
new_below n clause [] lt h (suc j) i = absurd (omega (arith, i))
new_below n clause (x ∷ xs) lt h zero i = h zero (omega arith)
new_below n clause (x ∷ xs) lt h (suc j) i = new_below n clause xs lt (λ k l. h (suc k) (omega (arith, l))) j (omega (arith, i))

pub below_more : (n : ℕ) (lists : List (List ℕ)) (at clause : ℕ) → at < length lists → clause < n → AreBelow n lists → AreBelow n (with_clause lists at clause)
below_more n lists at clause h lt b =
    record {
      each = λ k j i.
          elim (cases_eq k at) [
            | inl same ↦ let now : get_or (with_clause lists at clause) k [] ≡ get_or lists k [] ++ clause ∷ [] = rw same (get_or-set_same lists at (get_or lists at [] ++ clause ∷ []) [] h) in
                rw now (new_below n clause (get_or lists k []) lt (b.each k) j (rw now at i))
            | inr other ↦ let now : get_or (with_clause lists at clause) k [] ≡ get_or lists k [] = get_or-set_other lists at k (get_or lists at [] ++ clause ∷ []) [] other in
                rw now (b.each k j (rw now at i))
          ];
    }

-- lists with a clause in both
pub record HasBoth (lists now : List (List ℕ)) (one other clause : ℕ) : Type 0 where
  pub len : length now ≡ length lists
  pub kept : (k i : ℕ) → IsAt (get_or lists k []) i → IsAt (get_or now k []) i
  pub at_one : IsAt (get_or now one []) clause
  pub at_other : IsAt (get_or now other []) clause
  pub below : (n : ℕ) → clause < n → AreBelow n lists → AreBelow n now

both_by : (lists : List (List ℕ)) (one other clause : ℕ) (b : Bool) → one < length lists → other < length lists → (b ≡ true → one ≡ other) → HasBoth lists (cond b (with_clause lists one clause) (with_clause (with_clause lists one clause) other clause)) one other clause
both_by lists one other clause true h g e =
    record {
      len = length-set lists one (get_or lists one [] ++ clause ∷ []);
      kept = λ k i a. at_kept lists one clause k i h a;
      at_one = at_new lists one clause h;
      at_other = rw (← e refl) (at_new lists one clause h);
      below = λ n lt b. below_more n lists one clause h lt b;
    }
both_by lists one other clause false h g e =
    let mid = with_clause lists one clause in
    let len : length mid ≡ length lists = length-set lists one (get_or lists one [] ++ clause ∷ []) in
    let k : other < length mid = omega (arith, len, g) in
    record {
      len = length-set mid other (get_or mid other [] ++ clause ∷ []) ∙ len;
      kept = λ x i a. at_kept mid other clause x i k (at_kept lists one clause x i h a);
      at_one = at_kept mid other clause one clause k (at_new lists one clause h);
      at_other = at_new mid other clause k;
      below = λ n lt b. below_more n mid other clause k lt (below_more n lists one clause h lt b);
    }

pub has_both : (lists now : List (List ℕ)) (one other clause : ℕ) → now ≡ with_both lists one other clause → one < length lists → other < length lists → HasBoth lists now one other clause
has_both lists now one other clause e h g = rw e (both_by lists one other clause (one == other) h g (λ t. elim (eqb_tells one other) [ inl p ↦ p.1 | inr p ↦ absurd (let f = p.0 in cc) ]))

-- ---- empty lists
pub record AllEmpty (n : ℕ) (lists : List (List ℕ)) : Type 0 where
  pub count : length lists ≡ n
  pub each : (k : ℕ) → get_or lists k [] ≡ []

pub no_pair : (ps : List Pair) (i : ℕ) (p : Pair) → ps ≡ [] → slice_get ps i ≡ Some p → ⊥
no_pair ps i p e g = let f = rw e at g in cc

pub empty_below : (n : ℕ) (xs : List (List ℕ)) (m : ℕ) → AllEmpty n xs → AreBelow m xs
empty_below n xs m h = record { each = λ k j i. absurd (omega (arith, i, ap length (h.each k))) }

-- ---- one more clause
pub over_more : (vars : ℕ) (ps : List Pair) (p : Pair) → IsPairOver vars p → ((i : ℕ) (q : Pair) → slice_get ps i ≡ Some q → IsPairOver vars q) → (i : ℕ) (q : Pair) → slice_get (ps ++ p ∷ []) i ≡ Some q → IsPairOver vars q
over_more vars ps p h all i q e = elim (push-cases ps p q i e) [ inl old ↦ all i q old | inr new ↦ rw new.1 h ]

pub listed_more : (lists now : List (List ℕ)) (ps : List Pair) (p : Pair) (clause : ℕ) → clause ≡ length ps → HasBoth lists now (code_of p.one) (code_of p.other) clause → ((i : ℕ) (q : Pair) → slice_get ps i ≡ Some q → IsListed lists i q) → (i : ℕ) (q : Pair) → slice_get (ps ++ p ∷ []) i ≡ Some q → IsListed now i q
listed_more lists now ps p clause n h all i q e =
    elim (push-cases ps p q i e) [
      | inl old ↦ let a = all i q old in record { one = h.kept (code_of q.one) i a.one; other = h.kept (code_of q.other) i a.other }
      | inr new ↦ let s : i ≡ clause = new.0 ∙ sym n in rw (new.1, s) (record { one = h.at_one; other = h.at_other })
    ]

pub below_next : (n m : ℕ) (lists : List (List ℕ)) → n ≤ m → AreBelow n lists → AreBelow m lists
below_next n m lists le b = record { each = λ k j i. omega (arith, le, b.each k j i) }
