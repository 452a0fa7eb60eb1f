-- How the code takes bits from inside a term.
use Rattle.std.proofs.Common.{◌≡◌, ℕ, suc, ◌+◌, ◌-◌, ◌<◌, ◌≤◌, true, false, Option, Some, None, refl, arith, ap, sym, ◌∙◌, length, slice_get}
use Rattle.std.specs.Prelude.{nat_lt, nat_le}
use Rattle.std.proofs.lemmas.Bool.Decides.{nat_tests}
use Rattle.dsv_term.specs.declared.node.TermId.{TermId}
use Rattle.dsv_term.specs.declared.node.TermNode.{TermNode}
use Rattle.dsv_term.specs.declared.node.TermNode.TheVariants.{Concat, Sext, Extract}
use Rattle.dsv_term.specs.Growth.{AreSound}
use Rattle.dsv_term.specs.TermsView.{TermsView}
use Rattle.dsv_term.proofs.Building.{stands-width}
use Rattle.dsv_rewrite.specs.declared.part.Part.{Part}
use Rattle.dsv_rewrite.specs.Constants.{node_at}
use Rattle.dsv_rewrite.specs.Parts.{inside_extract, inside_joined, inner_part, innermost_part, or_inside}
use Rattle.dsv_rewrite.specs.Ready.{IsPart}
use Rattle.dsv_rewrite.proofs.PartRules.{inner_part_same}
use Rattle.dsv_rewrite.proofs.Standing.{node_made, node_at-is}

pub part_small : (t : TermsView) (p : Part) → AreSound t → IsPart t p → p.high < 128
part_small t p s h = let w = (stands-width t p.of s h.stands).narrow in omega (arith, h.inside)

pub joined_stands : (t : TermsView) (p : Part) (a b : TermId) → AreSound t → IsPart t p → slice_get t.nodes p.of.0 ≡ Some (Concat a b) → b.0 < length t.nodes
joined_stands t p a b s h e = let m = node_made t p.of (Concat a b) s h.stands e in omega (arith, m.count, m.lawful.second, h.stands)

pub extended_stands : (t : TermsView) (p : Part) (a : TermId) (w : ℕ) → AreSound t → IsPart t p → slice_get t.nodes p.of.0 ≡ Some (Sext a w) → a.0 < length t.nodes
extended_stands t p a w s h e = let m = node_made t p.of (Sext a w) s h.stands e in omega (arith, m.count, m.lawful.stands, h.stands)

pub extract_small : (t : TermsView) (p : Part) (a : TermId) (high low : ℕ) → AreSound t → IsPart t p → slice_get t.nodes p.of.0 ≡ Some (Extract a high low) → p.high + low < 128
extract_small t p a high low s h e =
    let q = inside_extract a low p in
    let k = inner_part_same t p q s h (ap (λ (n : TermNode). inner_part t n p) (node_at-is t p.of (Extract a high low) e)) in
    part_small t q s k.part

pub inner_part_is : (t : TermsView) (p : Part) (n : TermNode) (o : Option Part) → slice_get t.nodes p.of.0 ≡ Some n → o ≡ inner_part t n p → o ≡ inner_part t (node_at t p.of) p
inner_part_is t p n o e g = g ∙ ap (λ (m : TermNode). inner_part t m p) (sym (node_at-is t p.of n e))

test_true : (a b : ℕ) → a < b → nat_lt a b ≡ true
test_true a b h = grind (arith, nat_tests)

test_false : (a b : ℕ) → b ≤ a → nat_lt a b ≡ false
test_false a b h = grind (arith, nat_tests)

within_true : (a b : ℕ) → a ≤ b → nat_le a b ≡ true
within_true a b h = grind (arith, nat_tests)

within_false : (a b : ℕ) → b < a → nat_le a b ≡ false
within_false a b h = grind (arith, nat_tests)

pub joined_lower : (a b : TermId) (bits : ℕ) (p : Part) → p.high < bits → Some (record p { of = b }) ≡ inside_joined a b bits p
joined_lower a b bits p h = rw (test_true p.high bits h) refl

pub joined_upper : (a b : TermId) (bits : ℕ) (p : Part) → bits ≤ p.high → bits ≤ p.low → Some (record { of = a; high = p.high - bits; low = p.low - bits }) ≡ inside_joined a b bits p
joined_upper a b bits p h l = rw (test_false p.high bits h, within_true bits p.low l) refl

pub joined_across : (a b : TermId) (bits : ℕ) (p : Part) → bits ≤ p.high → p.low < bits → None ≡ inside_joined a b bits p
joined_across a b bits p h l = rw (test_false p.high bits h, within_false bits p.low l) refl

pub not_inner : (t : TermsView) (p : Part) (n : TermNode) → ((a b : TermId) → n ≡ Concat a b → ⊥) → ((a : TermId) (w : ℕ) → n ≡ Sext a w → ⊥) → ((a : TermId) (high low : ℕ) → n ≡ Extract a high low → ⊥) → None ≡ inner_part t n p
not_inner t p (Concat a b) f g h = absurd (f a b refl)
not_inner t p (Sext a w) f g h = absurd (g a w refl)
not_inner t p (Extract a high low) f g h = absurd (h a high low refl)
not_inner t p n f g h = refl

-- ---- one step further in
pub step_in : (n k : ℕ) (t : TermsView) (p : Part) (o : Option Part) → k < n → o ≡ inner_part t (node_at t p.of) p → innermost_part (n - k) t p ≡ or_inside p (λ q. innermost_part (n - (k + 1)) t q) o
step_in n k t p o h e =
    let s : n - k ≡ suc (n - (k + 1)) = omega arith in
    rw s (ap (or_inside p (λ q. innermost_part (n - (k + 1)) t q)) (sym e))
