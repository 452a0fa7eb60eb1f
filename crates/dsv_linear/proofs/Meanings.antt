-- What operations on coefficients do to a form's meaning.
use Rattle.std.proofs.Common.{◌≡◌, ℕ, zero, suc, ◌<◌, ◌≤◌, ◌==◌, inl, inr, Bool, true, false, if◌then◌else◌, List, [], ◌∷◌, ◌++◌, length, get_or, replicate, refl, sym, ap, ◌∙◌, arith, rules}
use Rattle.std.specs.Prelude.{Some}
use Rattle.std.proofs.Math.IntN.{ℤ, pos, negsuc, ◌+ℤ◌, ◌-ℤ◌, ◌*ℤ◌, +ℤ_idr}
use Rattle.std.proofs.lemmas.Int.{ints}
use Rattle.std.proofs.lemmas.List.{get_or_append_left, get_or_push, get_or_past, length_push, length-replicate}
use Rattle.std.proofs.lemmas.Bool.{cases_lt}
use lib.Signed.{◌<ℤ◌, ◌≤ℤ◌}
use Rattle.dsv_algebra.proofs.Normaliser.{ring, env, var, num, plus, times, minus}
use Rattle.dsv_algebra.proofs.Signs.{mul_positive}
use Rattle.dsv_algebra.proofs.Sums.{sum_same, sum_add, sum_scale, sum_none}
use Rattle.dsv_algebra.specs.Narrow.{narrow_of}
use Rattle.dsv_algebra.specs.Vectors.{sum_to}
use Rattle.dsv_system.specs.Systems.{zeros}
use Rattle.dsv_netlist.specs.Nodes.{at}
use Rattle.dsv_linear.specs.declared.range.Range.{Range}
use Rattle.dsv_linear.specs.Forms.{◌>>=◌, scale, range_scale, range, entries, total, longer, sums, differences, products, unit, range_at}
use Rattle.dsv_linear.specs.Meaning.{sum_at, Means, LiesIn, AreSymbols, grown}
use Rattle.dsv_linear.proofs.Numbers.{some_of, narrow_is, none_times, times_none, times_up}

-- ---- lists and sums of numbers
pub record AreEntries (n : ℕ) (f : ℕ → ℤ) (list : List ℤ) : Type 0 where
  pub long : length list ≡ n
  pub each : (j : ℕ) → j < n → at list j ≡ f j

none_left : (f : ℕ → ℤ) (list : List ℤ) → Some [] ≡ Some list → AreEntries 0 f list
none_left f [] e = record { long = refl; each = λ j p. absurd (omega arith) }
none_left f (x ∷ list) e = absurd cc

pub entries_are : (n : ℕ) (f : ℕ → ℤ) (list : List ℤ) → entries n f ≡ Some list → AreEntries n f list
entries_are zero f list e = none_left f list e
entries_are (suc n) f list e =
    let first = some_of (entries n f) (λ list. narrow_of (f n) >>= λ entry. Some (list ++ entry ∷ [])) list e in
    let second = some_of (narrow_of (f n)) (λ entry. Some (first.0 ++ entry ∷ [])) list first.2 in
    let before = entries_are n f first.0 first.1 in
    let here : second.0 ≡ f n = narrow_is (f n) second.0 second.1 in
    let same : list ≡ first.0 ++ second.0 ∷ [] = let s = second.2 in cc in
    rw same (record {
      long = omega (arith, before.long, length_push first.0 second.0);
      each = λ j p. elim (cases_lt j n) [
        | inl q ↦ get_or_append_left first.0 (second.0 ∷ []) (pos 0) j (omega (arith, before.long)) ∙ before.each j q
        | inr q ↦ (let s : n ≡ j = omega arith in get_or_push first.0 second.0 (pos 0) j (before.long ∙ s) ∙ here ∙ ap f s)
      ];
    })

-- the entries after the last are 0
pub entry_at : (n : ℕ) (f : ℕ → ℤ) (list : List ℤ) → AreEntries n f list → ((j : ℕ) → n ≤ j → f j ≡ pos 0) → (j : ℕ) → at list j ≡ f j
entry_at n f list a z j = elim (cases_lt j n) [
  | inl p ↦ a.each j p
  | inr p ↦ get_or_past list j (pos 0) (omega (arith, a.long)) ∙ sym (z j p)
]

plus_same : (a b c d : ℤ) → a ≡ b → c ≡ d → a +ℤ c ≡ b +ℤ d
plus_same a b c d e g = rw (e, g) refl

pub total_is : (n : ℕ) (f : ℕ → ℤ) (t : ℤ) → total n f ≡ Some t → t ≡ sum_to n f
total_is zero f t e = cc
total_is (suc n) f t e =
    let first = some_of (total n f) (λ sum. narrow_of (f n) >>= λ term. narrow_of (sum +ℤ term)) t e in
    let second = some_of (narrow_of (f n)) (λ term. narrow_of (first.0 +ℤ term)) t first.2 in
    narrow_is (first.0 +ℤ second.0) t second.2 ∙ plus_same first.0 (sum_to n f) second.0 (f n) (total_is n f first.0 first.1) (narrow_is (f n) second.0 second.1)

-- ---- sums and products
pub longer_left : (m n : ℕ) → m ≤ longer m n
longer_left m n = grind arith

pub longer_right : (m n : ℕ) → n ≤ longer m n
longer_right m n = grind arith

pub longer_least : (m n k : ℕ) → m ≤ k → n ≤ k → longer m n ≤ k
longer_least m n k p q = grind arith

pub past : (form : List ℤ) (n j : ℕ) → length form ≤ n → n ≤ j → at form j ≡ pos 0
past form n j p q = get_or_past form j (pos 0) (omega arith)

add_spread : (a b u : ℤ) → (a +ℤ b) *ℤ u ≡ a *ℤ u +ℤ b *ℤ u
add_spread a b u = let p = var 0 in let q = var 1 in let x = var 2 in ring (env (a ∷ b ∷ u ∷ [])) (times (plus p q) x) (plus (times p x) (times q x)) refl

sub_spread : (a b u : ℤ) → (a -ℤ b) *ℤ u ≡ a *ℤ u +ℤ negsuc 0 *ℤ (b *ℤ u)
sub_spread a b u = ring (env (a ∷ b ∷ u ∷ [])) (times (plus (var 0) (minus (var 1))) (var 2)) (plus (times (var 0) (var 2)) (times (num (negsuc 0)) (times (var 1) (var 2)))) refl

add_grouped : (s v w : ℤ) → s *ℤ (v +ℤ w) ≡ s *ℤ v +ℤ s *ℤ w
add_grouped s v w = let p = var 0 in let q = var 1 in let x = var 2 in ring (env (s ∷ v ∷ w ∷ [])) (times p (plus q x)) (plus (times p q) (times p x)) refl

sub_grouped : (s v w : ℤ) → s *ℤ (v -ℤ w) ≡ s *ℤ v +ℤ negsuc 0 *ℤ (s *ℤ w)
sub_grouped s v w = ring (env (s ∷ v ∷ w ∷ [])) (times (var 0) (plus (var 1) (minus (var 2)))) (plus (times (var 0) (var 1)) (times (num (negsuc 0)) (times (var 0) (var 2)))) refl

pub sums_mean : (n : ℕ) (k : ℤ) (us : ℕ → ℤ) (left right h : List ℤ) (v w : ℤ) → sums left right ≡ Some h → Means n k us left v → Means n k us right w → Means n k us h (v +ℤ w)
sums_mean n k us left right h v w e m l =
    let count = longer (length left) (length right) in
    let a = entries_are count (λ j. at left j +ℤ at right j) h e in
    let p = longer_left (length left) (length right) in
    let q = longer_right (length left) (length right) in
    let each = entry_at count (λ j. at left j +ℤ at right j) h a (λ j r. rw (past left count j p r, past right count j q r) refl) in
    let s : sum_at n h us ≡ sum_at n left us +ℤ sum_at n right us =
    sum_same n (λ j. at h j *ℤ us j) (λ j. at left j *ℤ us j +ℤ at right j *ℤ us j) (λ j r. ap (λ t. t *ℤ us j) (each j) ∙ add_spread (at left j) (at right j) (us j))
    ∙ sum_add n (λ j. at left j *ℤ us j) (λ j. at right j *ℤ us j) in
    record {
      short = let b = longer_least (length left) (length right) n m.short l.short in omega (arith, a.long);
      exact = add_grouped (pos scale *ℤ k) v w ∙ rw (m.exact, l.exact) (sym s);
    }

pub differences_mean : (n : ℕ) (k : ℤ) (us : ℕ → ℤ) (left right h : List ℤ) (v w : ℤ) → differences left right ≡ Some h → Means n k us left v → Means n k us right w → Means n k us h (v -ℤ w)
differences_mean n k us left right h v w e m l =
    let count = longer (length left) (length right) in
    let a = entries_are count (λ j. at left j -ℤ at right j) h e in
    let p = longer_left (length left) (length right) in
    let q = longer_right (length left) (length right) in
    let each = entry_at count (λ j. at left j -ℤ at right j) h a (λ j r. rw (past left count j p r, past right count j q r) refl) in
    let s : sum_at n h us ≡ sum_at n left us +ℤ negsuc 0 *ℤ sum_at n right us =
    sum_same n (λ j. at h j *ℤ us j) (λ j. at left j *ℤ us j +ℤ negsuc 0 *ℤ (at right j *ℤ us j)) (λ j r. ap (λ t. t *ℤ us j) (each j) ∙ sub_spread (at left j) (at right j) (us j))
    ∙ sum_add n (λ j. at left j *ℤ us j) (λ j. negsuc 0 *ℤ (at right j *ℤ us j))
    ∙ ap (λ t. sum_at n left us +ℤ t) (sum_scale n (negsuc 0) (λ j. at right j *ℤ us j)) in
    record {
      short = let b = longer_least (length left) (length right) n m.short l.short in omega (arith, a.long);
      exact = sub_grouped (pos scale *ℤ k) v w ∙ rw (m.exact, l.exact) (sym s);
    }

pub turned : (c s v : ℤ) → s *ℤ (c *ℤ v) ≡ c *ℤ (s *ℤ v)
turned c s v = let p = var 0 in let q = var 1 in let x = var 2 in ring (env (c ∷ s ∷ v ∷ [])) (times q (times p x)) (times p (times q x)) refl

regrouped : (c a u : ℤ) → (c *ℤ a) *ℤ u ≡ c *ℤ (a *ℤ u)
regrouped c a u = let p = var 0 in let q = var 1 in let x = var 2 in ring (env (c ∷ a ∷ u ∷ [])) (times (times p q) x) (times p (times q x)) refl

pub products_mean : (n : ℕ) (k : ℤ) (us : ℕ → ℤ) (c : ℤ) (form h : List ℤ) (v : ℤ) → products c form ≡ Some h → Means n k us form v → Means n k us h (c *ℤ v)
products_mean n k us c form h v e m =
    let a = entries_are (length form) (λ j. c *ℤ at form j) h e in
    let each = entry_at (length form) (λ j. c *ℤ at form j) h a (λ j r. ap (λ t. c *ℤ t) (past form (length form) j (omega arith) r) ∙ times_none c) in
    let s : sum_at n h us ≡ c *ℤ sum_at n form us =
    sum_same n (λ j. at h j *ℤ us j) (λ j. c *ℤ (at form j *ℤ us j)) (λ j r. ap (λ t. t *ℤ us j) (each j) ∙ regrouped c (at form j) (us j))
    ∙ sum_scale n c (λ j. at form j *ℤ us j) in
    record { short = omega (arith, a.long, m.short); exact = turned c (pos scale *ℤ k) v ∙ ap (λ t. c *ℤ t) m.exact ∙ sym s }

-- ---- a symbol more
pub same_place : (n : ℕ) → (n == n) ≡ true
same_place n = search rules

other_place : (n j : ℕ) → j < n → (j == n) ≡ false
other_place n j p = search rules

choose : (b c : Bool) (x y : ℤ) → b ≡ c → (if b then x else y) ≡ (if c then x else y)
choose b c x y e = ap (λ d. if d then x else y) e

pub grown_last : (s : ℤ) (n : ℕ) (us : ℕ → ℤ) (u : ℤ) → grown s n us u n ≡ u
grown_last s n us u = choose (n == n) true u (s *ℤ us n) (same_place n)

pub grown_before : (s : ℤ) (n : ℕ) (us : ℕ → ℤ) (u : ℤ) (j : ℕ) → j < n → grown s n us u j ≡ s *ℤ us j
grown_before s n us u j p = choose (j == n) false u (s *ℤ us j) (other_place n j p)

-- the sum of the symbols before
pub sum_before : (s : ℤ) (n : ℕ) (us : ℕ → ℤ) (u : ℤ) (form : List ℤ) → sum_at n form (grown s n us u) ≡ s *ℤ sum_at n form us
sum_before s n us u form =
    sum_same n (λ j. at form j *ℤ grown s n us u j) (λ j. s *ℤ (at form j *ℤ us j)) (λ j p. ap (λ t. at form j *ℤ t) (grown_before s n us u j p) ∙ turned s (at form j) (us j))
    ∙ sum_scale n s (λ j. at form j *ℤ us j)

pub stretched : (c k s v : ℤ) → c *ℤ (k *ℤ s) *ℤ v ≡ s *ℤ (c *ℤ k *ℤ v)
stretched c k s v = ring (env (c ∷ k ∷ s ∷ v ∷ [])) (times (times (var 0) (times (var 1) (var 2))) (var 3)) (times (var 2) (times (times (var 0) (var 1)) (var 3))) refl

pub means_grown : (n : ℕ) (k : ℤ) (us : ℕ → ℤ) (s u : ℤ) (form : List ℤ) (v : ℤ) → Means n k us form v → Means (suc n) (k *ℤ s) (grown s n us u) form v
means_grown n k us s u form v m =
    let last : at form n *ℤ grown s n us u n ≡ pos 0 = ap (λ t. t *ℤ grown s n us u n) (past form n n m.short (omega arith)) ∙ none_times (grown s n us u n) in
    record {
      short = omega (arith, m.short);
      exact = stretched (pos scale) k s v ∙ ap (λ t. s *ℤ t) m.exact ∙ sym (sum_before s n us u form) ∙ sym (ap (λ t. sum_at n form (grown s n us u) +ℤ t) last ∙ +ℤ_idr (sum_at n form (grown s n us u)));
    }

pub lies_grown : (k s : ℤ) (r : Range) (u : ℤ) → pos 0 <ℤ s → LiesIn k r u → LiesIn (k *ℤ s) r (s *ℤ u)
lies_grown k s r u p l =
    let turn : (x : ℤ) → k *ℤ s *ℤ x ≡ s *ℤ (k *ℤ x) = λ x. ring (env (k ∷ s ∷ x ∷ [])) (times (times (var 0) (var 1)) (var 2)) (times (var 1) (times (var 0) (var 2))) refl in
    let move : pos range_scale *ℤ (s *ℤ u) ≡ s *ℤ (pos range_scale *ℤ u) = turned s (pos range_scale) u in
    record {
      least = rw (turn r.low, move) (times_up s (k *ℤ r.low) (pos range_scale *ℤ u) (omega (arith, ints)) l.least);
      most = rw (turn r.high, move) (times_up s (pos range_scale *ℤ u) (k *ℤ r.high) (omega (arith, ints)) l.most);
    }

pub symbols_grown : (k : ℤ) (us : ℕ → ℤ) (ranges : List Range) (s u : ℤ) (r : Range) → pos 0 <ℤ s → AreSymbols k us ranges → LiesIn (k *ℤ s) r u
    → AreSymbols (k *ℤ s) (grown s (length ranges) us u) (ranges ++ r ∷ [])
symbols_grown k us ranges s u r p a l = record {
  positive = mul_positive k s a.positive p;
  within = λ j q. elim (cases_lt j (length ranges)) [
    | inl h ↦ rw (get_or_append_left ranges (r ∷ []) (range (pos 0) (pos 0)) j h, grown_before s (length ranges) us u j h) (lies_grown k s (range_at ranges j) (us j) p (a.within j h))
    | inr h ↦ (let e : length ranges ≡ j = omega (arith, length_push ranges r) in
        rw (get_or_push ranges r (range (pos 0) (pos 0)) j e, ← e, grown_last s (length ranges) us u) l)
  ];
}

-- ---- an input
pub replicated : {X : Type 0} (m i : ℕ) (x d : X) → i < m → get_or (replicate m x) i d ≡ x
replicated zero i x d p = absurd (omega arith)
replicated (suc m) zero x d p = refl
replicated (suc m) (suc i) x d p = replicated m i x d (omega arith)

pub unit_means : (n : ℕ) (k : ℤ) (us : ℕ → ℤ) (x : ℤ) → Means (suc n) (k *ℤ pos 1) (grown (pos 1) n us (k *ℤ x)) (unit n) x
unit_means n k us x =
    let ws = grown (pos 1) n us (k *ℤ x) in
    let long : length (zeros n) ≡ n = length-replicate n (pos 0) in
    let z : sum_at n (unit n) ws ≡ pos 0 =
    sum_same n (λ j. at (unit n) j *ℤ ws j) (λ j. pos 0) (λ j p. ap (λ t. t *ℤ ws j) (get_or_append_left (zeros n) (pos scale ∷ []) (pos 0) j (omega arith) ∙ replicated n j (pos 0) (pos 0) p) ∙ none_times (ws j))
    ∙ sum_none n in
    let last : at (unit n) n ≡ pos scale = get_or_push (zeros n) (pos scale) (pos 0) n long in
    record {
      short = omega (arith, length_push (zeros n) (pos scale));
      exact = rw (z, last, grown_last (pos 1) n us (k *ℤ x)) (ring (env (pos scale ∷ k ∷ x ∷ [])) (times (times (var 0) (times (var 1) (num (pos 1)))) (var 2)) (plus (num (pos 0)) (times (var 0) (times (var 1) (var 2)))) refl);
    }

pub input_lies : (k low high x : ℤ) → pos 0 <ℤ k → low ≤ℤ x → x ≤ℤ high → LiesIn (k *ℤ pos 1) (range (pos range_scale *ℤ low) (pos range_scale *ℤ high)) (k *ℤ x)
input_lies k low high x p l h =
    let turn : (z : ℤ) → k *ℤ pos 1 *ℤ (pos range_scale *ℤ z) ≡ pos range_scale *ℤ (k *ℤ z) = λ z. ring (env (k ∷ pos range_scale ∷ z ∷ [])) (times (times (var 0) (num (pos 1))) (times (var 1) (var 2))) (times (var 1) (times (var 0) (var 2))) refl in
    record {
      least = rw (turn low) (times_up (pos range_scale) (k *ℤ low) (k *ℤ x) (omega (arith, ints)) (times_up k low x (omega (arith, ints)) l));
      most = rw (turn high) (times_up (pos range_scale) (k *ℤ x) (k *ℤ high) (omega (arith, ints)) (times_up k x high (omega (arith, ints)) h));
    }
