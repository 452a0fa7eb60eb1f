-- What the term of a rounded value adds, and which number it spells.
use Rattle.std.proofs.Common.{◌≡◌, ℕ, ◌+◌, ◌-◌, ◌*◌, ◌^◌, ◌<◌, ◌≤◌, Bool, true, false, List, refl, arith, ap, sym, subst, ◌∙◌, length}
use Rattle.std.specs.Prelude.{◌==◌, max, if◌then◌else◌}
use Rattle.std.specs.Int.RustNames.{unsigned_abs}
use Rattle.std.proofs.Math.IntN.{ℤ, pos, ◌+ℤ◌, +ℤ_idr}
use Rattle.std.proofs.Math.Nat.{le-max_left, pow-le-pow_right}
use Rattle.std.proofs.lemmas.Nat.{pow-add, pow_pos}
use Rattle.std.proofs.lemmas.Int.{ints}
use Rattle.std.proofs.lemmas.Bool.{eqb-true}
use Rattle.dsv_algebra.specs.Floor.{floor_of}
use Rattle.dsv_netlist.proofs.Sizes.{size_within, within_size}
use Rattle.dsv_term.specs.Limits.{max_width}
use Rattle.dsv_term.specs.declared.node.TermId.{TermId}
use Rattle.dsv_term.specs.declared.node.TermNode.TheVariants.{Constant, Add, Extract}
use Rattle.dsv_term.specs.declared.word.Word.{Word}
use Rattle.dsv_term.specs.Building.{Built, built_of, with_node}
use Rattle.dsv_term.specs.Growth.{AreSound, Adds}
use Rattle.dsv_term.specs.Terms.{width_of, word_of}
use Rattle.dsv_term.specs.TermsView.{TermsView}
use Rattle.dsv_term.specs.Word.{IsWidth, sum_of, extract_of}
use Rattle.dsv_term.proofs.Building.{stands-width, Gives, Adds-both, Adds-none, Adds-width, later, constant_gives, sum_gives, extract_gives}
use Rattle.dsv_term.proofs.Complement.{IsSpelled, spelled, wider_spelled, sum-spelled, shift-spelled, floor_spelled, residue-small}
use Rattle.dsv_unroll.specs.Ready.{IsValue}
use Rattle.dsv_unroll.specs.Rules.{width_for, widened_term, with_addend, shift_width, shifted_term}
use Rattle.dsv_unroll.proofs.RuleTerms.{Spells, widened, width_for-least, lesser_width, lesser_fits}

-- ---- the addend
pub record AddsTo (t : TermsView) (id : TermId) (bits addend : ℕ) (b : Built) : Type 0 where
  pub adds : Adds t b.terms b.id bits
  pub spells : (values : List ℕ) (z : ℤ) → Spells t values id bits z → IsSpelled bits (z +ℤ pos addend) → Spells b.terms values b.id bits (z +ℤ pos addend)

with_addend_by : (t : TermsView) (id : TermId) (bits addend : ℕ) (q : Bool) → (addend == 0) ≡ q → AreSound t → id.0 < length t.nodes → width_of t id ≡ bits → IsWidth bits → addend < 2 ^ bits
    → AddsTo t id bits addend (if q then built_of t id else (let c = with_node t (Constant bits addend) in with_node c.terms (Add id c.id)))
with_addend_by t id bits addend true e s h w n l =
    let zero_bit : addend ≡ 0 = eqb-true addend 0 e in
    record {
      adds = Adds-none t id bits s h w;
      spells = λ values z p f. let k : z ≡ z +ℤ pos addend = sym (+ℤ_idr z) ∙ ap (λ (a : ℕ). z +ℤ pos a) (sym zero_bit) in subst (λ (y : ℤ). Spells t values id bits y) k p;
    }
with_addend_by t id bits addend false e s h w n l =
    let c = with_node t (Constant bits addend) in
    let gc = constant_gives t bits addend s n l in
    let i = later t c.terms id gc.adds.kept h in
    let g = sum_gives c.terms id c.id gc.adds.sound i.stands gc.adds.stands (i.width ∙ (w ∙ sym gc.adds.width)) in
    let b = with_node c.terms (Add id c.id) in
    record {
      adds = Adds-width t b.terms b.id (width_of c.terms id) bits (Adds-both t c.terms b.terms c.id b.id bits (width_of c.terms id) gc.adds g.adds) (i.width ∙ w);
      spells = λ values z p f. record {
        word = g.word values ∙ (ap (λ (v : Word). sum_of v (word_of c.terms values c.id)) (i.word values ∙ p.word)
            ∙ (ap (sum_of (spelled bits z)) (gc.word values ∙ ap (λ (m : ℕ). record { width = bits; number = m }) (sym (residue-small bits addend l))) ∙ sum-spelled bits z (pos addend)));
        fits = f;
      };
    }

pub addend_added : (t : TermsView) (id : TermId) (bits addend : ℕ) → AreSound t → id.0 < length t.nodes → width_of t id ≡ bits → IsWidth bits → addend < 2 ^ bits
    → AddsTo t id bits addend (with_addend t bits addend id)
addend_added t id bits addend s h w n l = with_addend_by t id bits addend (addend == 0) refl s h w n l

-- ---- the bits from the point up
pub record Shifts (t : TermsView) (of : TermId) (bound addend f bits : ℕ) (b : Built) : Type 0 where
  pub adds : Adds t b.terms b.id bits
  pub spells : (values : List ℕ) (z : ℤ) → Spells t values of (width_of t of) z → unsigned_abs z ≤ bound → Spells b.terms values b.id bits (floor_of (z +ℤ pos addend) (2 ^ f))

cut : (t : TermsView) (id : TermId) (v f : ℕ) → AreSound t → id.0 < length t.nodes → width_of t id ≡ v + f → 1 ≤ v → Gives t (with_node t (Extract id (v + f - 1) f)) (v + f - 1 + 1 - f) (λ values. extract_of (v + f - 1) f (word_of t values id))
cut t id v f s h w p = extract_gives t id (v + f - 1) f s h (omega arith) (omega arith)

shifted_by : (t : TermsView) (of : TermId) (bound addend f v : ℕ) → AreSound t → IsValue t of → width_of t of ≤ v + f → v + f ≤ max_width → 1 ≤ v → addend < 2 ^ (v + f)
    → ((z : ℤ) → IsSpelled (width_of t of) z → unsigned_abs z ≤ bound → IsSpelled (v + f) (z +ℤ pos addend))
    → Shifts t of bound addend f v (let a = widened_term t of (v + f) in let b = with_addend a.terms (v + f) addend a.id in with_node b.terms (Extract b.id (v + f - 1) f))
shifted_by t of bound addend f v s h w n p l r =
    let bits = v + f in
    let a = widened_term t of bits in
    let wa = widened t of bits s h.stands w n in
    let b = with_addend a.terms bits addend a.id in
    let wb = addend_added a.terms a.id bits addend wa.adds.sound wa.adds.stands wa.adds.width (record { some = omega arith; narrow = n }) l in
    let g = cut b.terms b.id v f wb.adds.sound wb.adds.stands wb.adds.width p in
    let c = with_node b.terms (Extract b.id (bits - 1) f) in
    let k : v + f - 1 + 1 - f ≡ v = omega arith in
    record {
      adds = Adds-width t c.terms c.id (bits - 1 + 1 - f) v (Adds-both t b.terms c.terms b.id c.id bits (bits - 1 + 1 - f) (Adds-both t a.terms b.terms a.id b.id bits bits wa.adds wb.adds) g.adds) k;
      spells = λ values z m u.
          let y = z +ℤ pos addend in
          let fits = r z m.fits u in
          let q = wb.spells values z (wa.spells values z m) fits in
          record {
            word = g.word values ∙ (ap (extract_of (bits - 1) f) q.word ∙ shift-spelled v f y p fits);
            fits = floor_spelled v f y p fits;
          };
    }

-- a number with an addend below 2^f has at most one bit more than it and that
with_one_more : (w f addend : ℕ) (z : ℤ) → 1 ≤ w → addend ≤ 2 ^ f → IsSpelled w z → IsSpelled (max w (f + 1) + 1) (z +ℤ pos addend)
with_one_more w f addend z s l h =
    let bits = max w (f + 1) in
    let k = wider_spelled w bits z (le-max_left w (f + 1)) h in
    let e : bits + 1 - 1 ≡ 1 + (bits - 1) = omega arith in
    let p : 2 ^ (bits + 1 - 1) ≡ 2 * 2 ^ (bits - 1) = ap (λ (i : ℕ). 2 ^ i) e ∙ pow-add 2 1 (bits - 1) in
    let q : 2 ^ f ≤ 2 ^ (bits - 1) = pow-le-pow_right (omega arith) (omega arith) in
    record { low = omega (arith, ints, p, k.low); high = omega (arith, ints, p, q, k.high) }

-- the width of a term with an addend, by whether that is 0
abbrev width_by : Bool → ℕ → ℕ → ℕ
width_by b bits w = if b then bits else lesser_width bits (bits + 1) w

width_by-narrow : (b : Bool) (bits w k : ℕ) → bits ≤ k → w ≤ k → width_by b bits w ≤ k
width_by-narrow true bits w k h l = h
width_by-narrow false bits w k h l = omega arith

width_by-within : (b : Bool) (bits w : ℕ) → bits ≤ width_by b bits w
width_by-within true bits w = omega arith
width_by-within false bits w = omega arith

addend_fits : (b : Bool) (w f bound addend : ℕ) (z : ℤ) → (addend == 0) ≡ b → 1 ≤ w → bound + addend < 2 ^ 128 → addend ≤ 2 ^ f → IsSpelled w z → unsigned_abs z ≤ bound
    → IsSpelled (width_by b (max w (f + 1)) (width_for (bound + addend))) (z +ℤ pos addend)
addend_fits true w f bound addend z e s l m h k =
    let zero_bit : addend ≡ 0 = eqb-true addend 0 e in
    let same : z ≡ z +ℤ pos addend = sym (+ℤ_idr z) ∙ ap (λ (a : ℕ). z +ℤ pos a) (sym zero_bit) in
    subst (λ (y : ℤ). IsSpelled (max w (f + 1)) y) same (wider_spelled w (max w (f + 1)) z (le-max_left w (f + 1)) h)
addend_fits false w f bound addend z e s l m h k =
    lesser_fits (max w (f + 1)) (max w (f + 1) + 1) (bound + addend) (z +ℤ pos addend) (omega arith) l (with_one_more w f addend z s m h)
    (let u = size_within bound z k in within_size (bound + addend) (z +ℤ pos addend) (record { low = omega (arith, ints, u.low); high = omega (arith, ints, u.high) }))

pub shift_width-narrow : (t : TermsView) (of : TermId) (bound addend f : ℕ) → IsValue t of → bound < 2 ^ 126 → addend ≤ 2 ^ f → f ≤ 48 → shift_width t bound addend f of ≤ 128
shift_width-narrow t of bound addend f h l m k =
    let limit : 2 ^ f ≤ 2 ^ 48 = pow-le-pow_right (omega arith) k in
    width_by-narrow (addend == 0) (max (width_of t of) (f + 1)) (width_for (bound + addend)) 128 (omega (arith, h.narrow)) (width_for-least (bound + addend) 127 (omega arith) (omega arith))

-- the bits from the point up are fewer
pub shift_width-point : (t : TermsView) (of : TermId) (bound addend f : ℕ) → f < shift_width t bound addend f of
shift_width-point t of bound addend f = let h = width_by-within (addend == 0) (max (width_of t of) (f + 1)) (width_for (bound + addend)) in omega (arith, h)

-- the addend is spelled in these bits
pub addend_room : (t : TermsView) (of : TermId) (bound addend f : ℕ) → addend ≤ 2 ^ f → addend < 2 ^ shift_width t bound addend f of
addend_room t of bound addend f l =
    let p = shift_width-point t of bound addend f in
    let more : 2 ^ (f + 1) ≤ 2 ^ shift_width t bound addend f of = pow-le-pow_right (omega arith) (omega arith) in
    let double : 2 ^ (f + 1) ≡ 2 ^ f * 2 = pow-add 2 f 1 in
    let one = pow_pos f in
    omega (arith, double)

pub shifted : (t : TermsView) (of : TermId) (bound addend f : ℕ) → AreSound t → IsValue t of → bound < 2 ^ 126 → addend ≤ 2 ^ f → f ≤ 48
    → Shifts t of bound addend f (shift_width t bound addend f of - f) (shifted_term t bound addend f of)
shifted t of bound addend f s h l m k =
    let bits = shift_width t bound addend f of in
    let w = width_of t of in
    let some = (stands-width t of s h.stands).some in
    let one = shift_width-point t of bound addend f in
    let e : bits - f + f ≡ bits = omega arith in
    let limit : 2 ^ f ≤ 2 ^ 48 = pow-le-pow_right (omega arith) k in
    let P : ℕ → Type 0 = λ w. Shifts t of bound addend f (bits - f) (let a = widened_term t of w in let b = with_addend a.terms w addend a.id in with_node b.terms (Extract b.id (w - 1) f)) in
    subst P e (shifted_by t of bound addend f (bits - f) s h
    (rw e (let i = width_by-within (addend == 0) (max w (f + 1)) (width_for (bound + addend)) in omega (arith, i)))
    (rw e (shift_width-narrow t of bound addend f h l m k))
    (omega arith)
    (rw e (addend_room t of bound addend f m))
    (rw e (λ z i u. addend_fits (addend == 0) w f bound addend z refl some (omega arith) m i u)))
