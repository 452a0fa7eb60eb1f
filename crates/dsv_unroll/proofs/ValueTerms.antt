-- The term of an input's value spells the value where that is in range, and some word else.
use Rattle.std.proofs.Common.{◌≡◌, ℕ, zero, suc, ◌+◌, ◌-◌, ◌*◌, ◌/◌, ◌^◌, ◌<◌, ◌≤◌, Bool, true, false, inl, inr, List, refl, arith, ap, sym, ◌∙◌, length}
use Rattle.std.specs.Prelude.{max, nat_lt, int_lt, if◌then◌else◌, ◌<ℤ◌, ◌≤ℤ◌}
use Rattle.std.specs.Int.Count.{count_leading_zeros}
use Rattle.std.proofs.Math.IntN.{ℤ, pos, negsuc}
use Rattle.std.proofs.lemmas.Int.{ints}
use Rattle.std.proofs.lemmas.Nat.{pow_pos, pow-add, leading_le}
use Rattle.std.proofs.lemmas.Bool.{cases_lt}
use Rattle.std.proofs.lemmas.Bool.Decides.{nat_tests}
use Rattle.dsv_word.specs.Words.{lo, hi}
use Rattle.dsv_term.specs.declared.node.TermId.{TermId}
use Rattle.dsv_term.specs.declared.node.TermNode.TheVariants.{Constant, Extract}
use Rattle.dsv_term.specs.Building.{Built, built_of, with_node}
use Rattle.dsv_term.specs.Growth.{AreSound}
use Rattle.dsv_term.specs.Terms.{KeepsTerms, width_of, word_of, HasBits}
use Rattle.dsv_term.specs.TermsView.{TermsView}
use Rattle.dsv_term.specs.Word.{IsWidth, residue, signed_of, extract_of}
use Rattle.dsv_term.proofs.Words.{residue_fits}
use Rattle.dsv_term.proofs.Building.{KeepsTerms-self, constant_gives, extract_gives}
use Rattle.dsv_term.proofs.Complement.{IsSpelled, spelled, signed-spelled, signed_reads, low-spelled}
use Rattle.dsv_unroll.specs.Goals.{magnitude, range_width, value_term}
use Rattle.dsv_unroll.specs.Ready.{IsLeastWidth}
use Rattle.dsv_unroll.specs.Rules.{width_for}
use Rattle.dsv_unroll.proofs.RuleTerms.{room_wider, width_for-least}
use Rattle.dsv_unroll.proofs.Follows.{Means, means_added}
use Rattle.dsv_unroll.proofs.FitTerms.{not_less}

-- ---- the width of a range
-- a number of more than k binary digits has no zeros above the lowest k
no_zeros : (k a : ℕ) → 2 ^ k ≤ a → count_leading_zeros k a ≡ 0
unfolding count_leading_zeros
no_zeros zero a h = refl
no_zeros (suc k) zero h = absurd (let p = pow_pos (suc k) in omega arith)
no_zeros (suc k) (suc n) h = no_zeros k (suc n / 2) (let p : 2 ^ (k + 1) ≡ 2 ^ k * 2 = pow-add 2 k 1 in omega arith)

too_wide : (bound : ℕ) → count_leading_zeros 128 bound ≡ 0 → width_for bound ≡ 129
too_wide bound e = ap (λ (k : ℕ). 129 - k) e

room_of : (bound bits : ℕ) → width_for bound ≤ bits → bits ≤ 128 → bound < 2 ^ (bits - 1)
room_of bound bits l s = elim (cases_lt bound (2 ^ 128)) [
  | inl less ↦ room_wider bound bits less l
  | inr more ↦ absurd (let e = too_wide bound (no_zeros 128 bound more) in omega arith)
]

pub width_for-some : (bound : ℕ) → 1 ≤ width_for bound
width_for-some bound = let l = leading_le 128 bound in omega arith

pub width_for-width : (bound : ℕ) → bound < 2 ^ 64 → IsWidth (width_for bound)
width_for-width bound h = record { some = width_for-some bound; narrow = let l = width_for-least bound 64 (omega arith) h in omega arith }

spelled_by : (bits : ℕ) (z : ℤ) → magnitude z < 2 ^ (bits - 1) → IsSpelled bits z
spelled_by bits (pos m) h = record { low = omega (arith, ints); high = omega (arith, ints) }
spelled_by bits (negsuc m) h = record { low = omega (arith, ints); high = omega (arith, ints) }

magnitude_below : (bits : ℕ) (z : ℤ) → IsSpelled bits z → magnitude z < 2 ^ (bits - 1)
magnitude_below bits (pos m) s = omega (arith, ints, s.high)
magnitude_below bits (negsuc m) s = omega (arith, ints, s.low)

-- a range's width spells its ends
record SpellsEnds (bits : ℕ) (low high : ℤ) : Type 0 where
  least : IsSpelled bits low
  greatest : IsSpelled bits high

range_spells : (bits : ℕ) (low high : ℤ) → range_width low high ≤ bits → bits ≤ 128 → SpellsEnds bits low high
range_spells bits low high l s =
    let r = room_of (max (magnitude low) (magnitude high)) bits l s in
    record { least = spelled_by bits low (omega arith); greatest = spelled_by bits high (omega arith) }

between_spelled : (bits : ℕ) (low high z : ℤ) → SpellsEnds bits low high → low ≤ℤ z → z ≤ℤ high → IsSpelled bits z
between_spelled bits low high z e l h = record { low = omega (arith, ints, e.least.low); high = omega (arith, ints, e.greatest.high) }

-- and takes no more bits than what spells them
range_narrow : (n : ℕ) (low high : ℤ) → 1 ≤ n → n ≤ 128 → SpellsEnds n low high → range_width low high ≤ n
range_narrow n low high p s e =
    let a = magnitude_below n low e.least in
    let b = magnitude_below n high e.greatest in
    let l = width_for-least (max (magnitude low) (magnitude high)) (n - 1) (omega arith) (omega arith) in
    omega arith

pub range_width-least : (low high : ℤ) → IsWidth (range_width low high) → low ≤ℤ high → IsLeastWidth (range_width low high) low high
range_width-least low high w o =
    let narrow = w.narrow in
    let e = range_spells (range_width low high) low high (omega arith) (omega arith) in
    record {
      least = e.least.low;
      greatest = omega (arith, ints, e.greatest.high);
      no_less = λ n p l h. elim (cases_lt 128 n) [
        | inl more ↦ omega arith
        | inr fits ↦ range_narrow n low high p fits (record { least = record { low = l; high = omega (arith, ints) }; greatest = record { low = omega (arith, ints); high = omega (arith, ints) } })
      ];
    }

-- ---- the value
-- the number that the term spells where the input spells z
abbrev pub value_of : ℕ → ℤ → ℤ → ℤ → ℤ
value_of n low high z =
    if int_lt low high then (if nat_lt (range_width low high) n then signed_of (spelled (range_width low high) z) else z)
    else low

pub less : (a b : ℤ) → int_lt a b ≡ true → a <ℤ b
less a b e = grind (arith, ints)

narrower : (a b : ℕ) → nat_lt a b ≡ true → a < b
narrower a b e = grind (arith, nat_tests)

right_by : (n : ℕ) (low high z : ℤ) (p q : Bool) → int_lt low high ≡ p → nat_lt (range_width low high) n ≡ q → n ≤ 128 → low ≤ℤ z → z ≤ℤ high
    → (if p then (if q then signed_of (spelled (range_width low high) z) else z) else low) ≡ z
right_by n low high z true true e d s l h =
    let bits = range_width low high in
    let k = narrower bits n d in
    signed-spelled bits z (width_for-some (max (magnitude low) (magnitude high))) (between_spelled bits low high z (range_spells bits low high (omega arith) (omega arith)) l h)
right_by n low high z true false e d s l h = refl
right_by n low high z false q e d s l h = let k = not_less low high e in omega (arith, ints)

pub value_right : (n : ℕ) (low high z : ℤ) → n ≤ 128 → low ≤ℤ z → z ≤ℤ high → value_of n low high z ≡ z
value_right n low high z s l h = right_by n low high z (int_lt low high) (nat_lt (range_width low high) n) refl refl s l h

-- ---- the term
pub record ValueStands (values : List ℕ) (t : TermsView) (n : ℕ) (v : ℤ) (b : Built) : Type 0 where
  pub sound : AreSound b.terms
  pub inputs : b.terms.inputs ≡ t.inputs
  pub kept : KeepsTerms t b.terms
  pub stands : b.id.0 < length b.terms.nodes
  pub narrow : width_of b.terms b.id ≤ n
  pub means : Means b.terms values b.id v

value_by : (values : List ℕ) (t : TermsView) (n : ℕ) (low high z : ℤ) (x : TermId) (p q : Bool) → int_lt low high ≡ p → nat_lt (range_width low high) n ≡ q → low ≤ℤ hi n → lo n ≤ℤ high → IsWidth n → AreSound t → HasBits t x n
    → word_of t values x ≡ spelled n z → IsSpelled n z
    → ValueStands values t n (if p then (if q then signed_of (spelled (range_width low high) z) else z) else low)
    (if p then (if q then with_node t (Extract x (range_width low high - 1) 0) else built_of t x) else with_node t (Constant (range_width low high) (residue (range_width low high) low)))
value_by values t n low high z x true true e d l h w s b g f =
    let bits = range_width low high in
    let k = narrower bits n d in
    let o = width_for-some (max (magnitude low) (magnitude high)) in
    let c = with_node t (Extract x (bits - 1) 0) in
    let gc = extract_gives t x (bits - 1) 0 s b.stands (omega arith) (let i = b.width in omega arith) in
    let m : bits - 1 + 1 - 0 ≡ bits = omega arith in
    let width : width_of c.terms c.id ≡ bits = gc.adds.width ∙ m in
    let r = signed_reads bits (residue bits z) o (residue_fits bits z) in
    let word : word_of c.terms values c.id ≡ spelled bits (signed_of (spelled bits z)) =
    gc.word values ∙ (ap (extract_of (bits - 1) 0) g ∙ (low-spelled bits n z o (omega arith) ∙ ap (λ (i : ℕ). record { width = bits; number = i }) (sym r.same))) in
    record {
      sound = gc.adds.sound;
      inputs = gc.adds.inputs;
      kept = gc.adds.kept;
      stands = gc.adds.stands;
      narrow = omega arith;
      means = means_added c.terms values c.id bits (signed_of (spelled bits z)) width (record { word = word; fits = r.fits });
    }
value_by values t n low high z x true false e d l h w s b g f =
    record {
      sound = s;
      inputs = refl;
      kept = KeepsTerms-self t;
      stands = b.stands;
      narrow = let i = b.width in omega arith;
      means = means_added t values x n z b.width (record { word = g; fits = f });
    }
value_by values t n low high z x false q e d l h w s b g f =
    let bits = range_width low high in
    let k = not_less low high e in
    let narrow = w.narrow in
    let ends : SpellsEnds n low high = record { least = record { low = omega (arith, ints); high = omega (arith, ints) }; greatest = record { low = omega (arith, ints); high = omega (arith, ints) } } in
    let m = range_narrow n low high w.some (omega arith) ends in
    let least = (range_spells bits low high (omega arith) (omega arith)).least in
    let c = with_node t (Constant bits (residue bits low)) in
    let gc = constant_gives t bits (residue bits low) s (record { some = width_for-some (max (magnitude low) (magnitude high)); narrow = omega arith }) (residue_fits bits low) in
    let width : width_of c.terms c.id ≡ bits = gc.adds.width in
    record {
      sound = gc.adds.sound;
      inputs = gc.adds.inputs;
      kept = gc.adds.kept;
      stands = gc.adds.stands;
      narrow = omega arith;
      means = means_added c.terms values c.id bits low width (record { word = gc.word values; fits = least });
    }

pub value_stands : (values : List ℕ) (t : TermsView) (n : ℕ) (low high z : ℤ) (x : TermId) → low ≤ℤ hi n → lo n ≤ℤ high → IsWidth n → AreSound t → HasBits t x n → word_of t values x ≡ spelled n z → IsSpelled n z
    → ValueStands values t n (value_of n low high z) (value_term t n low high x)
value_stands values t n low high z x l h w s b g f = value_by values t n low high z x (int_lt low high) (nat_lt (range_width low high) n) refl refl l h w s b g f
