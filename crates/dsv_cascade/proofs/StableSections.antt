-- Sections that are judged one after another.
use Rattle.std.proofs.Common.{◌≡◌, ℕ, suc, ◌+◌, ◌<◌, List, [], ◌∷◌, ◌++◌, length, get_or, take, refl, sym, subst, ap, ◌∙◌, arith}
use Rattle.std.proofs.Math.Seq.{take-suc}
use Rattle.std.specs.Prelude.{slice_get, Some}
use Rattle.std.specs.List.{All}
use Rattle.std.proofs.lemmas.List.{length-take}
use Rattle.std.proofs.lemmas.List.Elements.{All-nil, All-cons}
use Rattle.std.proofs.lemmas.Option.{slice_get_read}
use Rattle.dsv_quantiser.specs.QuantisedView.{QuantisedView}
use Rattle.dsv_cascade.specs.declared.stability.SectionOffer.{SectionOffer}
use Rattle.dsv_cascade.specs.declared.stability.SectionFault.{SectionFault}
use Rattle.dsv_cascade.specs.declared.stability.CascadeForms.TheVariants as forms
use Rattle.dsv_cascade.specs.Stability.{IsStableSection, IsStableAlone, AreStable, HasFault, AreJudged}

-- ---- sections that are stable so far
pub length-stable : (qs : List QuantisedView) (offers : List SectionOffer) → AreStable qs offers → length offers ≡ length qs
length-stable [] [] h = refl
length-stable (q ∷ qs) (s ∷ ss) h = ap suc (length-stable qs ss h.1)
length-stable [] (s ∷ ss) h = absurd h
length-stable (q ∷ qs) [] h = absurd h

stable_alone : (qs : List QuantisedView) (offers : List SectionOffer) → AreStable qs offers → All IsStableAlone qs
stable_alone [] offers h = All-nil IsStableAlone
stable_alone (q ∷ qs) (s ∷ ss) h = All-cons IsStableAlone q qs (s, h.0) (stable_alone qs ss h.1)
stable_alone (q ∷ qs) [] h = absurd h

-- ---- one section more
with_stable : (qs : List QuantisedView) (offers : List SectionOffer) (q : QuantisedView) (s : SectionOffer) → AreStable qs offers → IsStableSection q s → AreStable (qs ++ q ∷ []) (offers ++ s ∷ [])
with_stable [] [] q s h k = (k, tt)
with_stable (p ∷ ps) (r ∷ rs) q s h k = (h.0, with_stable ps rs q s h.1 k)
with_stable [] (r ∷ rs) q s h k = absurd h
with_stable (p ∷ ps) [] q s h k = absurd h

pub later_stable : (first q : QuantisedView) (later : List QuantisedView) (offers : List SectionOffer) (s : SectionOffer) (i : ℕ) → AreStable (first ∷ take i later) offers → i < length later → q ≡ get_or later i q
    → IsStableSection q s → AreStable (first ∷ take (i + 1) later) (offers ++ s ∷ [])
later_stable first q later offers s i h l e k =
    let n : i + 1 ≡ suc i = omega arith in
    let more : take (i + 1) later ≡ take i later ++ q ∷ [] = ap (λ (m : ℕ). take m later) n ∙ take-suc later i q l ∙ ap (λ (r : QuantisedView). take i later ++ r ∷ []) (sym e) in
    subst (λ (qs : List QuantisedView). AreStable (first ∷ qs) (offers ++ s ∷ [])) (sym more) (with_stable (first ∷ take i later) offers q s h k)

-- ---- the first section that isn't
judged : (sections : List QuantisedView) (place section : ℕ) (q : QuantisedView) (found : SectionFault) → section ≡ place → slice_get sections place ≡ Some q → All IsStableAlone (take place sections)
    → HasFault q found → AreJudged sections (forms.NotAll section found)
judged sections place section q found e here before u = (
  q,
  record {
    here = ap (slice_get sections) e ∙ here;
    before = subst (λ (k : ℕ). All IsStableAlone (take k sections)) (sym e) before;
  },
  u,
)

pub first_judged : (first : QuantisedView) (later : List QuantisedView) (section : ℕ) (found : SectionFault) → section ≡ 0 → HasFault first found → AreJudged (first ∷ later) (forms.NotAll section found)
first_judged first later section found e u = judged (first ∷ later) 0 section first found e refl (All-nil IsStableAlone) u

pub later_judged : (first q : QuantisedView) (later : List QuantisedView) (offers : List SectionOffer) (i section : ℕ) (found : SectionFault) → AreStable (first ∷ take i later) offers → i < length later → q ≡ get_or later i q
    → section ≡ length offers → HasFault q found → AreJudged (first ∷ later) (forms.NotAll section found)
later_judged first q later offers i section found h l e n u =
    let place : section ≡ suc i = omega (arith, n, length-stable (first ∷ take i later) offers h, length-take i later) in
    let here = slice_get_read later (length later) i q refl l e in
    judged (first ∷ later) (suc i) section q found place here (stable_alone (first ∷ take i later) offers h) u
