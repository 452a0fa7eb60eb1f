-- Sections whose tables are looked at one after another.
use Rattle.std.proofs.Common.{◌≡◌, ℕ, suc, ◌+◌, ◌<◌, List, [], ◌∷◌, ◌++◌, length, get_or, take, refl, sym, subst, ap, ◌∙◌, arith}
use Rattle.std.proofs.Math.Seq.{take-suc}
use Rattle.std.proofs.lemmas.Option.{slice_get_read}
use Rattle.dsv_quantiser.specs.QuantisedView.{QuantisedView}
use Rattle.dsv_table.specs.declared.finding.TableFinding.{TableFinding}
use Rattle.dsv_poly_table.specs.Sections.{IsInsideSection, AreInside, IsFirstOther}

with_inside : (qs : List QuantisedView) (fs : List TableFinding) (q : QuantisedView) (f : TableFinding) → AreInside qs fs → IsInsideSection q f → AreInside (qs ++ q ∷ []) (fs ++ f ∷ [])
with_inside [] [] q f h k = (k, tt)
with_inside (p ∷ ps) (g ∷ gs) q f h k = (h.0, with_inside ps gs q f h.1 k)
with_inside [] (g ∷ gs) q f h k = absurd h
with_inside (p ∷ ps) [] q f h k = absurd h

-- one section more
pub next_inside : (q : QuantisedView) (sections : List QuantisedView) (fs : List TableFinding) (f : TableFinding) (i : ℕ) → AreInside (take i sections) fs → i < length sections → q ≡ get_or sections i q
    → IsInsideSection q f → AreInside (take (i + 1) sections) (fs ++ f ∷ [])
next_inside q sections fs f i h l e k =
    let n : i + 1 ≡ suc i = omega arith in
    let more : take (i + 1) sections ≡ take i sections ++ q ∷ [] = ap (λ (m : ℕ). take m sections) n ∙ take-suc sections i q l ∙ ap (λ (r : QuantisedView). take i sections ++ r ∷ []) (sym e) in
    subst (λ (qs : List QuantisedView). AreInside qs (fs ++ f ∷ [])) (sym more) (with_inside (take i sections) fs q f h k)

-- the first that isn't
pub first_other : (q : QuantisedView) (sections : List QuantisedView) (fs : List TableFinding) (i : ℕ) → AreInside (take i sections) fs → i < length sections → q ≡ get_or sections i q → IsFirstOther sections i q
first_other q sections fs i h l e = record {
  here = slice_get_read sections (length sections) i q refl l e;
  findings = fs;
  before = h;
}
