-- Registers in a candidate's set: sums of coefficients times registers, and whether they fulfil inequalities.
use Rattle.std.proofs.Common.{◌≡◌, ℕ, ◌+◌, ◌-◌, ◌^◌, ◌<◌, ◌≤◌, ◌⊎◌, Bool, true, false, ◌&&◌, inl, inr, List, [], ◌∷◌, refl, ap₂, length, drop, get_or, arith}
use Rattle.std.specs.Prelude.{◌+ℤ◌, ◌*ℤ◌, ◌≤ℤ◌, neg_ℤ}
use Rattle.std.specs.Int.RustNames.{unsigned_abs}
use Rattle.std.specs.List.{All, list_all}
use Rattle.std.proofs.Math.IntN.{ℤ, pos, negsuc}
use Rattle.std.proofs.lemmas.Bool.{leb-true}
use Rattle.std.proofs.lemmas.Int.{ints, unsigned_abs-mul, fits_signed_from_abs, to_z-of_z, by_lt_z}
use Rattle.std.proofs.lemmas.Nat.{mul-le}
use Rattle.std.proofs.lemmas.List.{drop_more}
use Rattle.std.proofs.lemmas.List.Elements.{All-nil, All-cons, All-head, All-tail}
use Rattle.std.proofs.lemmas.List.Folds.{list_all_at}
use mir.Syntax.{w64, w128}
use mir.Val.{SFits, to_z, of_z}
use Rattle.dsv_word.specs.Width.{widest_word}
use Rattle.dsv_template.specs.declared.candidate.Candidate.{Candidate}
use Rattle.dsv_template.specs.declared.candidate.Inequality.{Inequality}
use Rattle.dsv_template.specs.Limits.{most_coefficient}
use Rattle.dsv_template.specs.Candidates.{IsSomeWord, IsInSet, Fulfils, combination, is_small, is_fit_for, is_shaped, most_entry}

-- ---- a coefficient times a register
size_bounds : (b : ℕ) (v : ℤ) → unsigned_abs v ≤ b → (neg_ℤ (pos b) ≤ℤ v) × (v ≤ℤ pos b)
size_bounds b (pos a) h = (omega (arith, ints), omega (arith, ints))
size_bounds b (negsuc a) h = (omega (arith, ints), omega (arith, ints))

word_size : (r : ℤ) → IsSomeWord r → unsigned_abs r ≤ 2 ^ (widest_word - 1)
word_size (pos a) w = let h = w.high in omega (arith, ints)
word_size (negsuc a) w = let l = w.low in omega (arith, ints)

pub entry_size : (c r : ℤ) → is_small c ≡ true → IsSomeWord r → unsigned_abs (c *ℤ r) ≤ most_entry
entry_size c r s w =
    let small : unsigned_abs c ≤ most_coefficient = leb-true (unsigned_abs c) most_coefficient s in
    let m = mul-le (unsigned_abs c) (unsigned_abs r) most_coefficient (2 ^ (widest_word - 1)) small (word_size r w) in
    omega (arith, unsigned_abs-mul c r, m)

pub entry_bounds : (c r : ℤ) → is_small c ≡ true → IsSomeWord r → (neg_ℤ (pos most_entry) ≤ℤ (c *ℤ r)) × ((c *ℤ r) ≤ℤ pos most_entry)
entry_bounds c r s w = size_bounds most_entry (c *ℤ r) (entry_size c r s w)

-- as the code computes it
pub entry_read : (c r a b : ℤ) → is_small c ≡ true → IsSomeWord r → a ≡ to_z w64 (of_z w64 c) → b ≡ to_z w64 (of_z w64 r) → to_z w128 (of_z w128 (to_z w128 (of_z w128 a) *ℤ to_z w128 (of_z w128 b))) ≡ c *ℤ r
entry_read c r a b s w e f =
    let small : unsigned_abs c ≤ most_coefficient = leb-true (unsigned_abs c) most_coefficient s in
    let size = word_size r w in
    let all = entry_size c r s w in
    let first : SFits w64 c = fits_signed_from_abs w64 c (omega arith) in
    let second : SFits w64 r = fits_signed_from_abs w64 r (omega arith) in
    let left : SFits w128 c = fits_signed_from_abs w128 c (omega arith) in
    let right : SFits w128 r = fits_signed_from_abs w128 r (omega arith) in
    let product : SFits w128 (c *ℤ r) = fits_signed_from_abs w128 (c *ℤ r) (omega arith) in
    rw (e, f, to_z-of_z w64 c first, to_z-of_z w64 r second, to_z-of_z w128 c left, to_z-of_z w128 r right) (to_z-of_z w128 (c *ℤ r) product)

-- ---- sums
pub combination-drop : (cs rs : List ℤ) (i : ℕ) → i < length cs → i < length rs
    → combination (drop i cs) (drop i rs) ≡ get_or cs i (pos 0) *ℤ get_or rs i (pos 0) +ℤ combination (drop (i + 1) cs) (drop (i + 1) rs)
combination-drop cs rs i h k = ap₂ combination (drop_more cs i (pos 0) h) (drop_more rs i (pos 0) k)

-- ---- shapes
both : (a b : Bool) → (a && b) ≡ true → (a ≡ true) × (b ≡ true)
both true b h = (refl, h)
both false b h = absurd cc

-- what a shaped candidate's numbers are
pub record IsShaped (registers : ℕ) (c : Candidate) : Type 0 where
  pub fit : list_all (is_fit_for registers) c.inequalities.items ≡ true
  pub deep : 1 ≤ c.depth

pub shaped_parts : (n : ℕ) (c : Candidate) → is_shaped n c ≡ true → IsShaped n c
shaped_parts n c h =
    let first = both _ _ h in
    let second = both _ _ first.0 in
    let third = both _ _ second.0 in
    record { fit = third.0; deep = leb-true 1 c.depth second.1 }

pub list_all-here : {X : Type 0} (p : X → Bool) (xs : List X) (i : ℕ) (d : X) → i < length xs → list_all p xs ≡ true → p (get_or xs i d) ≡ true
list_all-here p xs i d l h = by (p (get_or xs i d)) refl
  where
    by : (b : Bool) → p (get_or xs i d) ≡ b → p (get_or xs i d) ≡ true
    by true e = e
    by false e = absurd (let n = list_all_at p xs i d l e in (cc))

-- ---- either in the set or not
le_cases : (a b : ℤ) → (a ≤ℤ b) ⊎ (a ≤ℤ b → ⊥)
le_cases a b = by_lt_z b a (λ h. inr (λ k. omega (arith, ints))) (λ h. inl h)

all_cases : {X : Type 0} (P : X → Type 0) → ((x : X) → P x ⊎ (P x → ⊥)) → (xs : List X) → All P xs ⊎ (All P xs → ⊥)
all_cases P each [] = inl (All-nil P)
all_cases P each (x ∷ xs) = elim (each x) [
  | inl here ↦ elim (all_cases P each xs) [
    | inl rest ↦ inl (All-cons P x xs here rest)
    | inr none ↦ inr (λ h. none (All-tail P x xs h))
  ]
  | inr none ↦ inr (λ h. none (All-head P x xs h))
]

pub inside_cases : (c : Candidate) (rs : List ℤ) → IsInSet c rs ⊎ (IsInSet c rs → ⊥)
inside_cases c rs = all_cases (Fulfils rs) (λ i. le_cases (combination i.coefficients.items rs) i.bound) c.inequalities.items
