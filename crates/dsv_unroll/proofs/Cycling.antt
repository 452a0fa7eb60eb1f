-- Which starts cycle, as a run of bits; and that a period has its multiples.
use Rattle.std.proofs.Common.{◌≡◌, ℕ, zero, suc, ◌+◌, ◌*◌, ◌<◌, ◌≤◌, Bool, true, false, not, ◌||◌, ◌⊎◌, inl, inr, List, [], ◌∷◌, ◌++◌, refl, arith, ap, sym, ◌∙◌, length}
use Rattle.std.specs.Prelude.{nat_lt, if◌then◌else◌}
use Rattle.std.specs.List.{list_any}
use Rattle.std.specs.Ordering.{int_eq}
use Rattle.std.proofs.Math.IntN.{ℤ, pos}
use Rattle.std.proofs.lemmas.Bool.{cases_lt}
use Rattle.std.proofs.lemmas.Bool.Decides.{nat_tests}
use Rattle.std.proofs.lemmas.List.{replicate_more, replicate-append-replicate, length-map}
use Rattle.std.proofs.lemmas.List.Folds.{list_any-append}
use Rattle.dsv_system.specs.Runs.{SampleRow, rows_from, past_after}
use Rattle.dsv_system.specs.Systems.{zeros}
use Rattle.dsv_system.proofs.RunLemmas.{past-append, rows-append}
use Rattle.dsv_netlist.specs.Nodes.{Net, step_of}
use Rattle.dsv_unroll.proofs.CycleTerms.{matches, equal_true, equal_from}

-- ---- runs, one sample more
-- whether an output isn't 0
abbrev pub is_sound : SampleRow → Bool
is_sound r = not (int_eq r.y (pos 0))

-- the registers and whether an output wasn't 0 after so many samples without input
abbrev pub quiet_past : Net → List ℤ → ℕ → List ℤ
quiet_past net ss p = past_after (step_of net) ss (zeros p)

abbrev pub has_sound : Net → List ℤ → ℕ → Bool
has_sound net ss p = list_any is_sound (rows_from (step_of net) ss (zeros p))

past_more : (net : Net) (ss : List ℤ) (p : ℕ) → quiet_past net ss (p + 1) ≡ (step_of net (quiet_past net ss p) (pos 0)).past
past_more net ss p = ap (past_after (step_of net) ss) (sym (replicate_more p (pos 0))) ∙ past-append (step_of net) ss (zeros p) (pos 0 ∷ [])

or_last : (a b : Bool) → (a || (b || false)) ≡ (a || b)
or_last true b = refl
or_last false true = refl
or_last false false = refl

sound_more : (net : Net) (ss : List ℤ) (p : ℕ) → has_sound net ss (p + 1) ≡ (has_sound net ss p || not (int_eq (step_of net (quiet_past net ss p) (pos 0)).y (pos 0)))
sound_more net ss p =
    ap (λ (xs : List ℤ). list_any is_sound (rows_from (step_of net) ss xs)) (sym (replicate_more p (pos 0)))
    ∙ (ap (list_any is_sound) (rows-append (step_of net) ss (zeros p) (pos 0 ∷ []))
    ∙ (list_any-append is_sound (rows_from (step_of net) ss (zeros p)) (rows_from (step_of net) (quiet_past net ss p) (pos 0 ∷ []))
    ∙ or_last (has_sound net ss p) (not (int_eq (step_of net (quiet_past net ss p) (pos 0)).y (pos 0)))))

-- ---- the registers hold the start
matches_false : (rs ss : List ℤ) → matches false rs ss ≡ false
matches_false [] ss = refl
matches_false (r ∷ rs) [] = refl
matches_false (r ∷ rs) (s ∷ ss) = matches_false rs ss

matches_self : (ss : List ℤ) → matches true ss ss ≡ true
matches_self [] = refl
matches_self (s ∷ ss) = rw (equal_true s s refl) (matches_self ss)

matches_by : (r s : ℤ) (rs ss : List ℤ) (q : Bool) → int_eq r s ≡ q → matches q rs ss ≡ true → (matches true rs ss ≡ true → rs ≡ ss) → (r ∷ rs) ≡ (s ∷ ss)
matches_by r s rs ss true e h f = ap (λ (x : ℤ). x ∷ rs) (equal_from r s e) ∙ ap (λ (xs : List ℤ). s ∷ xs) (f h)
matches_by r s rs ss false e h f = absurd (let c = sym (matches_false rs ss) ∙ h in cc)

matches_same : (rs ss : List ℤ) → length rs ≡ length ss → matches true rs ss ≡ true → rs ≡ ss
matches_same [] [] l h = refl
matches_same [] (s ∷ ss) l h = absurd (omega arith)
matches_same (r ∷ rs) [] l h = absurd (omega arith)
matches_same (r ∷ rs) (s ∷ ss) l h = matches_by r s rs ss (int_eq r s) refl h (matches_same rs ss (omega arith))

matches_start : (b : Bool) (rs ss : List ℤ) → matches b rs ss ≡ true → b ≡ true
matches_start true rs ss h = refl
matches_start false rs ss h = absurd (let c = sym (matches_false rs ss) ∙ h in cc)

-- ---- what is found
abbrev pub finds_from : Net → List ℤ → ℕ → ℕ → ℕ → List ℤ → Bool → Bool → Bool
finds_from net ss periods sample zero rs loud f = f
finds_from net ss periods sample (suc left) rs loud f =
    let q = step_of net rs (pos 0) in
    let l = loud || not (int_eq q.y (pos 0)) in
    finds_from net ss periods (sample + 1) left q.past l (if nat_lt periods (2 * sample) then f || matches l q.past ss else f)

-- p samples bring the start back, and one of their outputs isn't 0
pub record IsCycle (net : Net) (ss : List ℤ) (p : ℕ) : Type 0 where
  pub back : quiet_past net ss p ≡ ss
  pub sound : has_sound net ss p ≡ true

pub record IsFound (net : Net) (ss : List ℤ) (periods p : ℕ) : Type 0 where
  pub some : 1 ≤ p
  pub most : p ≤ periods
  pub cycle : IsCycle net ss p

or_split : (a b : Bool) → (a || b) ≡ true → (a ≡ true) ⊎ (b ≡ true)
or_split true b h = inl refl
or_split false b h = inr h

found_split : (net : Net) (ss : List ℤ) (periods sample : ℕ) (l : Bool) (rs : List ℤ) (f t : Bool) → (if t then f || matches l rs ss else f) ≡ true → (f ≡ true) ⊎ (matches l rs ss ≡ true)
found_split net ss periods sample l rs f true h = or_split f (matches l rs ss) h
found_split net ss periods sample l rs f false h = inl h

-- where a cycle is found, there is one
pub found_from : (net : Net) (ss : List ℤ) (periods done left : ℕ) (f : Bool) → length ss ≡ length net.next → done + left ≤ periods
    → finds_from net ss periods (done + 1) left (quiet_past net ss done) (has_sound net ss done) f ≡ true → (f ≡ true) ⊎ ((p : ℕ) × IsFound net ss periods p)
found_from net ss periods done zero f n b h = inl h
found_from net ss periods done (suc left) f n b h =
    let q = step_of net (quiet_past net ss done) (pos 0) in
    let l = has_sound net ss done || not (int_eq q.y (pos 0)) in
    let t = nat_lt periods (2 * (done + 1)) in
    let f2 = if t then f || matches l q.past ss else f in
    let h2 : finds_from net ss periods (done + 1 + 1) left (quiet_past net ss (done + 1)) (has_sound net ss (done + 1)) f2 ≡ true = rw (past_more net ss done, sound_more net ss done) h in
    elim (found_from net ss periods (done + 1) left f2 n (omega arith) h2) [
      | inl e ↦ elim (found_split net ss periods (done + 1) l q.past f t e) [
        | inl g ↦ inl g
        | inr g ↦ inr (
          done + 1,
          record {
            some = omega arith;
            most = omega arith;
            cycle = record {
              back = past_more net ss done ∙ matches_same q.past ss (length-map net.next _ ∙ sym n) (let m = matches_start l q.past ss g in rw m at g);
              sound = sound_more net ss done ∙ matches_start l q.past ss g;
            };
          },
        )
      ]
      | inr e ↦ inr e
    ]

if_true : (t m : Bool) → (if t then true || m else true) ≡ true
if_true true m = refl
if_true false m = refl

found_stays : (net : Net) (ss : List ℤ) (periods sample left : ℕ) (rs : List ℤ) (loud : Bool) → finds_from net ss periods sample left rs loud true ≡ true
found_stays net ss periods sample zero rs loud = refl
found_stays net ss periods sample (suc left) rs loud =
    let q = step_of net rs (pos 0) in
    let l = loud || not (int_eq q.y (pos 0)) in
    ap (finds_from net ss periods (sample + 1) left q.past l) (if_true (nat_lt periods (2 * sample)) (matches l q.past ss)) ∙ found_stays net ss periods (sample + 1) left q.past l

found_keeps : (net : Net) (ss : List ℤ) (periods sample left : ℕ) (rs : List ℤ) (loud f : Bool) → f ≡ true → finds_from net ss periods sample left rs loud f ≡ true
found_keeps net ss periods sample left rs loud f e = rw e (found_stays net ss periods sample left rs loud)

asked_found : (t f m : Bool) → t ≡ true → m ≡ true → (if t then f || m else f) ≡ true
asked_found true true m e h = refl
asked_found true false m e h = h
asked_found false f m e h = absurd cc

-- a cycle that is asked for is found
pub asked_from : (net : Net) (ss : List ℤ) (periods done left p : ℕ) (f : Bool) → done < p → p ≤ done + left → periods < 2 * p → IsCycle net ss p
    → finds_from net ss periods (done + 1) left (quiet_past net ss done) (has_sound net ss done) f ≡ true
asked_from net ss periods done zero p f a b c h = absurd (omega arith)
asked_from net ss periods done (suc left) p f a b c h =
    let q = step_of net (quiet_past net ss done) (pos 0) in
    let l = has_sound net ss done || not (int_eq q.y (pos 0)) in
    let t = nat_lt periods (2 * (done + 1)) in
    let f2 = if t then f || matches l q.past ss else f in
    elim (cases_lt (done + 1) p) [
      | inl less ↦ (let r = asked_from net ss periods (done + 1) left p f2 less (omega arith) c h in rw (past_more net ss done, sound_more net ss done) at r)
      | inr more ↦ (let e : p ≡ done + 1 = omega arith in
          let back : q.past ≡ ss = sym (past_more net ss done) ∙ (ap (quiet_past net ss) (sym e) ∙ h.back) in
          let loud : l ≡ true = sym (sound_more net ss done) ∙ (ap (has_sound net ss) (sym e) ∙ h.sound) in
          let m : matches l q.past ss ≡ true = rw (loud, back) (matches_self ss) in
          let asked : t ≡ true = grind (arith, nat_tests) in
          found_keeps net ss periods (done + 1 + 1) left q.past l f2 (asked_found t f (matches l q.past ss) asked m))
    ]

-- ---- multiples
double : (net : Net) (ss : List ℤ) (p : ℕ) → IsCycle net ss p → IsCycle net ss (p + p)
double net ss p h =
    let z : zeros (p + p) ≡ zeros p ++ zeros p = sym (replicate-append-replicate p p (pos 0)) in
    record {
      back = ap (past_after (step_of net) ss) z ∙ (past-append (step_of net) ss (zeros p) (zeros p) ∙ (ap (λ (s : List ℤ). past_after (step_of net) s (zeros p)) h.back ∙ h.back));
      sound = ap (λ (xs : List ℤ). list_any is_sound (rows_from (step_of net) ss xs)) z
          ∙ (ap (list_any is_sound) (rows-append (step_of net) ss (zeros p) (zeros p))
          ∙ (list_any-append is_sound (rows_from (step_of net) ss (zeros p)) (rows_from (step_of net) (quiet_past net ss p) (zeros p)) ∙ ap (λ (b : Bool). b || list_any is_sound (rows_from (step_of net) (quiet_past net ss p) (zeros p))) h.sound));
    }

-- a period has a multiple above half the periods
pub record IsAsked (net : Net) (ss : List ℤ) (periods p : ℕ) : Type 0 where
  pub found : IsFound net ss periods p
  pub above : periods < 2 * p

pub multiple_asked : (net : Net) (ss : List ℤ) (periods p fuel : ℕ) → periods < p + fuel → IsFound net ss periods p → (m : ℕ) × IsAsked net ss periods m
multiple_asked net ss periods p zero l h = absurd (let k = h.most in omega arith)
multiple_asked net ss periods p (suc fuel) l h = elim (cases_lt periods (p + p)) [
  | inl less ↦ (p, record { found = h; above = omega arith })
  | inr more ↦ (let s = h.some in multiple_asked net ss periods (p + p) fuel (omega arith) (record { some = omega arith; most = more; cycle = double net ss p h.cycle }))
]

-- ---- both ways
pub found_is : (net : Net) (ss : List ℤ) (periods : ℕ) → length ss ≡ length net.next → finds_from net ss periods 1 periods ss false false ≡ true → (p : ℕ) × IsFound net ss periods p
found_is net ss periods n h = elim (found_from net ss periods 0 periods false n (omega arith) h) [
  | inl e ↦ absurd cc
  | inr e ↦ e
]

pub is_found : (net : Net) (ss : List ℤ) (periods p : ℕ) → IsFound net ss periods p → finds_from net ss periods 1 periods ss false false ≡ true
is_found net ss periods p h =
    let s = h.some in
    let m = multiple_asked net ss periods p (periods + 1) (omega arith) h in
    let a = m.1 in
    let k = a.found.some in
    let j = a.found.most in
    asked_from net ss periods 0 periods m.0 false (omega arith) (omega arith) a.above a.found.cycle
