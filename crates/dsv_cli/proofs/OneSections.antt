-- What is found of a cascade's sections is one.
use Rattle.std.proofs.Common.{◌≡◌, ◌∙◌, ◌⊎◌, inl, inr, sym, ap, subst, refl, ℕ, zero, suc, ◌<◌, ◌≤◌, false, List, [], ◌∷◌, Some, None, Err, take, ap₂, arith}
use Rattle.std.specs.Prelude.{slice_get, Result}
use Rattle.std.specs.Int.RustNames.{unsigned_abs}
use Rattle.std.proofs.Math.IntN.{ℤ}
use Rattle.std.proofs.lemmas.Bool.{cases_order}
use Rattle.dsv_base.specs.Lists.{Pairwise}
use Rattle.dsv_quantiser.specs.QuantisedView.{QuantisedView}
use Rattle.dsv_forms.specs.declared.offers.Falls.{Falls}
use Rattle.dsv_forms.specs.declared.offers.KeptAway.{KeptAway}
use Rattle.dsv_forms.specs.declared.offers.FormOffer.{FormOffer}
use Rattle.dsv_forms.specs.declared.offers.FormOffer.TheVariants as offered
use Rattle.dsv_closed_forms.specs.ClosedForm.{closed_form_of, second_limit}
use Rattle.dsv_delta.specs.declared.refusal.PolyWide.{PolyWide}
use Rattle.dsv_tested.specs.Tested.{tested_of}
use Rattle.dsv_tested.specs.declared.side.Side.TheVariants as side
use Rattle.dsv_tested.specs.declared.side.Tested.{Tested}
use Rattle.dsv_cascade.specs.Stability.{IsStableSection, AreStable, IsStableAlone, IsFirstUnstable, IsFirstOver, HasFault, AreJudged}
use Rattle.dsv_cascade.specs.declared.stability.SectionOffer.{SectionOffer}
use Rattle.dsv_cascade.specs.declared.stability.CascadeForms.{CascadeForms}
use Rattle.dsv_cascade.specs.declared.stability.CascadeForms.TheVariants as forms
use Rattle.dsv_cascade.specs.declared.stability.SectionFault.{SectionFault}
use Rattle.dsv_cascade.specs.declared.stability.SectionFault.TheVariants as fault
use Rattle.dsv_table.specs.Findings.{IsFinding}
use Rattle.dsv_table.specs.RootSize.{is_inside}
use Rattle.dsv_table.specs.declared.finding.TableFinding.{TableFinding}
use Rattle.dsv_table.specs.declared.verdict.TableVerdict.{TableVerdict}
use Rattle.dsv_table.specs.declared.verdict.TableVerdict.TheVariants as verdict
use Rattle.dsv_table.proofs.Findings.{one_finding}
use Rattle.dsv_poly_table.specs.Sections.{IsOfPoles, IsInsideSection, AreInside, IsFirstOther, AreTabled}
use Rattle.dsv_poly_table.specs.declared.sections.SectionTables.{SectionTables}
use Rattle.dsv_poly_table.specs.declared.sections.SectionTables.TheVariants as tables
use Rattle.dsv_cli.specs.OneAnswer.{SameOffer, SameFault, SameForms}
use Rattle.dsv_cli.proofs.OneTested.{one_poly, poly_or_wide, one_refusal}
use Rattle.dsv_cli.proofs.OneForms.{one_fall, offer_falls, offer_kept_away, value_of}
use Rattle.dsv_files.proofs.Pairwise.{some_once, before_place}

-- ---- one polynomial, one form
one_wide : (came : Result Tested PolyWide) (i j : ℕ) → came ≡ Err (record { index = i }) → came ≡ Err (record { index = j }) → i ≡ j
one_wide came i j e f = ap (λ (w : PolyWide). w.index) (one_refusal came (record { index = i }) (record { index = j }) e f)

one_offer : (p q : List ℤ) (a b : FormOffer) → p ≡ q → closed_form_of p ≡ Some a → closed_form_of q ≡ Some b → a ≡ b
one_offer p q a b e h k = let j = rw (← e) at k in cc

falls_or_kept : (p q : List ℤ) (a : Falls) (b : KeptAway) → p ≡ q → closed_form_of p ≡ Some (offered.Falls a) → closed_form_of q ≡ Some (offered.KeptAway b) → ⊥
falls_or_kept p q a b e h k = let j = rw (← e) at k in cc

form_or_none : (p q : List ℤ) (a : FormOffer) → p ≡ q → closed_form_of p ≡ Some a → closed_form_of q ≡ None → ⊥
form_or_none p q a e h k = let j = rw (← e) at k in cc

one_at : {A : Type 0} (xs : List A) (i j : ℕ) (a b : A) → slice_get xs i ≡ Some a → slice_get xs j ≡ Some b → i ≡ j → a ≡ b
one_at xs i j a b h k e = some_once a b (sym h ∙ ap (slice_get xs) e ∙ k)

-- ---- stable sections
one_stable : (q : QuantisedView) (s t : SectionOffer) → IsStableSection q s → IsStableSection q t → SameOffer s t
one_stable q s t h k =
    let same = one_poly (tested_of q side.Denominator) s.poly t.poly h.poly_of k.poly_of in
    let offers = offer_falls s.offer t.offer (one_offer s.poly t.poly (offered.Falls s.offer) (offered.Falls t.offer) same h.closed k.closed) in
    (same, offers, one_fall s.poly t.poly s.offer.form t.offer.form s.fall t.fall same (ap (λ (x : Falls). x.form) offers) h.stable.fall_form k.stable.fall_form)

all_stable : (qs : List QuantisedView) (ss ts : List SectionOffer) → AreStable qs ss → AreStable qs ts → Pairwise SameOffer ss ts
all_stable [] [] [] h k = tt
all_stable [] [] (t ∷ ts) h k = absurd k
all_stable [] (s ∷ ss) ts h k = absurd h
all_stable (q ∷ qs) [] ts h k = absurd h
all_stable (q ∷ qs) (s ∷ ss) [] h k = absurd k
all_stable (q ∷ qs) (s ∷ ss) (t ∷ ts) h k = (one_stable q s t h.0 k.0, all_stable qs ss ts h.1 k.1)

stable_at : (qs : List QuantisedView) (ss : List SectionOffer) (i : ℕ) (q : QuantisedView) → slice_get qs i ≡ Some q → AreStable qs ss → IsStableAlone q
stable_at [] ss i q e h = absurd (cc)
stable_at (p ∷ qs) [] i q e h = absurd h
stable_at (p ∷ qs) (s ∷ ss) zero q e h = (s, subst (λ z. IsStableSection z s) (one_at (p ∷ qs) zero zero p q refl e refl) h.0)
stable_at (p ∷ qs) (s ∷ ss) (suc i) q e h = stable_at qs ss i q e h.1

-- ---- faults
stable_or_not : (q : QuantisedView) (why : SectionFault) → IsStableAlone q → HasFault q why → ⊥
stable_or_not q (fault.KeptAway poly offer fall value) (s, h) (has, closed, away) = falls_or_kept s.poly poly s.offer offer (one_poly (tested_of q side.Denominator) s.poly poly h.poly_of has) h.closed closed
stable_or_not q (fault.Wide index) (s, h) k = poly_or_wide (tested_of q side.Denominator) s.poly (record { index = index }) h.poly_of k
stable_or_not q (fault.NoClosedForm index) (s, h) (poly, has, none, over) =
    form_or_none s.poly poly (offered.Falls s.offer) (one_poly (tested_of q side.Denominator) s.poly poly h.poly_of has) h.closed none

one_over : (cs : List ℤ) (i j : ℕ) → IsFirstOver cs i → IsFirstOver cs j → (i ≡ j) ⊎ ((i < j) ⊎ (j < i)) → i ≡ j
one_over cs i j h k (inl e) = e
one_over cs i j (c, at, over, before) (d, there, more, earlier) (inr (inl l)) =
    absurd (let small = before_place (λ z. unsigned_abs z ≤ second_limit) cs i j c at l earlier in omega (arith, small, over))
one_over cs i j (c, at, over, before) (d, there, more, earlier) (inr (inr l)) =
    absurd (let small = before_place (λ z. unsigned_abs z ≤ second_limit) cs j i d there l before in omega (arith, small, more))

one_fault : (q : QuantisedView) (a b : SectionFault) → HasFault q a → HasFault q b → SameFault a b
one_fault q (fault.KeptAway p o f v) (fault.KeptAway r u g w) (has, closed, h) (have, same, k) =
    let e = one_poly (tested_of q side.Denominator) p r has have in
    let offers = offer_kept_away o u (one_offer p r (offered.KeptAway o) (offered.KeptAway u) e closed same) in (
      e,
      offers,
      one_fall p r o.form u.form f g e (ap (λ (x : KeptAway). x.form) offers) h.fall_form k.fall_form,
      h.value_at ∙ ap (λ poly. value_of poly o) e ∙ ap (value_of r) offers ∙ sym k.value_at,
    )
one_fault q (fault.KeptAway p o f v) (fault.Wide j) (has, closed, h) k = absurd (poly_or_wide (tested_of q side.Denominator) p (record { index = j }) has k)
one_fault q (fault.KeptAway p o f v) (fault.NoClosedForm j) (has, closed, h) (r, have, none, over) = absurd (form_or_none p r (offered.KeptAway o) (one_poly (tested_of q side.Denominator) p r has have) closed none)
one_fault q (fault.Wide i) (fault.Wide j) h k = ap fault.Wide (one_wide (tested_of q side.Denominator) i j h k)
one_fault q (fault.Wide i) (fault.KeptAway r u g w) h (have, same, k) = absurd (poly_or_wide (tested_of q side.Denominator) r (record { index = i }) have h)
one_fault q (fault.Wide i) (fault.NoClosedForm j) h (r, have, none, over) = absurd (poly_or_wide (tested_of q side.Denominator) r (record { index = i }) have h)
one_fault q (fault.NoClosedForm i) (fault.NoClosedForm j) (p, has, none, over) (r, have, lacks, more) =
    let e = one_poly (tested_of q side.Denominator) p r has have in
    ap fault.NoClosedForm (one_over r i j (subst (λ cs. IsFirstOver cs i) e over) more (cases_order i j))
one_fault q (fault.NoClosedForm i) (fault.KeptAway r u g w) (p, has, none, over) (have, same, k) = absurd (form_or_none r p (offered.KeptAway u) (one_poly (tested_of q side.Denominator) r p have has) same none)
one_fault q (fault.NoClosedForm i) (fault.Wide j) (p, has, none, over) k = absurd (poly_or_wide (tested_of q side.Denominator) p (record { index = j }) has k)

-- ---- all sections
first_fault : (qs : List QuantisedView) (i j : ℕ) (p q : QuantisedView) (a b : SectionFault) → IsFirstUnstable qs i p → HasFault p a → IsFirstUnstable qs j q → HasFault q b → (i ≡ j) ⊎ ((i < j) ⊎ (j < i))
    → SameForms (forms.NotAll i a) (forms.NotAll j b)
first_fault qs i j p q a b f h g k (inl e) = (e, one_fault q a b (subst (λ z. HasFault z a) (one_at qs i j p q f.here g.here e) h) k)
first_fault qs i j p q a b f h g k (inr (inl l)) = absurd (stable_or_not p a (before_place IsStableAlone qs i j p f.here l g.before) h)
first_fault qs i j p q a b f h g k (inr (inr l)) = absurd (stable_or_not q b (before_place IsStableAlone qs j i q g.here l f.before) k)

pub one_judgement : (qs : List QuantisedView) (f g : CascadeForms) → AreJudged qs f → AreJudged qs g → SameForms f g
one_judgement qs (forms.Falls ss) (forms.Falls ts) h k = all_stable qs ss ts h k
one_judgement qs (forms.Falls ss) (forms.NotAll j b) h (q, g, k) = absurd (stable_or_not q b (stable_at qs ss j q g.here h) k)
one_judgement qs (forms.NotAll i a) (forms.Falls ts) (p, f, h) k = absurd (stable_or_not p a (stable_at qs ts i p f.here k) h)
one_judgement qs (forms.NotAll i a) (forms.NotAll j b) (p, f, h) (q, g, k) = first_fault qs i j p q a b f h g k (cases_order i j)

-- ---- tables
one_of_poles : (q : QuantisedView) (f g : TableFinding) → IsOfPoles q f → IsOfPoles q g → f ≡ g
one_of_poles q f g h k =
    let e = one_poly (tested_of q side.Denominator) f.poly g.poly h.poles k.poles in
    one_finding g.poly f g (subst (λ cs. IsFinding cs f) e h.finding) k.finding

all_inside : (qs : List QuantisedView) (fs gs : List TableFinding) → AreInside qs fs → AreInside qs gs → fs ≡ gs
all_inside [] [] [] h k = refl
all_inside [] [] (g ∷ gs) h k = absurd k
all_inside [] (f ∷ fs) gs h k = absurd h
all_inside (q ∷ qs) [] gs h k = absurd h
all_inside (q ∷ qs) (f ∷ fs) [] h k = absurd k
all_inside (q ∷ qs) (f ∷ fs) (g ∷ gs) h k = ap₂ (λ x xs. x ∷ xs) (one_of_poles q f g h.0.0 k.0.0) (all_inside qs fs gs h.1 k.1)

-- the section's table is inside
abbrev IsInsideAlone : QuantisedView → Type 0
IsInsideAlone q = (f : TableFinding) × IsInsideSection q f

inside_at : (qs : List QuantisedView) (fs : List TableFinding) (i : ℕ) (q : QuantisedView) → slice_get qs i ≡ Some q → AreInside qs fs → IsInsideAlone q
inside_at [] fs i q e h = absurd (cc)
inside_at (p ∷ qs) [] i q e h = absurd h
inside_at (p ∷ qs) (f ∷ fs) zero q e h = (f, subst (λ z. IsInsideSection z f) (one_at (p ∷ qs) zero zero p q refl e refl) h.0)
inside_at (p ∷ qs) (f ∷ fs) (suc i) q e h = inside_at qs fs i q e h.1

inside_before : (qs : List QuantisedView) (fs : List TableFinding) (i j : ℕ) (q : QuantisedView) → slice_get qs i ≡ Some q → i < j → AreInside (take j qs) fs → IsInsideAlone q
inside_before qs fs i zero q e l h = absurd (omega arith)
inside_before [] fs i (suc j) q e l h = absurd (cc)
inside_before (p ∷ qs) [] i (suc j) q e l h = absurd h
inside_before (p ∷ qs) (f ∷ fs) zero (suc j) q e l h = (f, subst (λ z. IsInsideSection z f) (one_at (p ∷ qs) zero zero p q refl e refl) h.0)
inside_before (p ∷ qs) (f ∷ fs) (suc i) (suc j) q e l h = inside_before qs fs i j q e (omega (arith, l)) h.1

-- why the first other section isn't inside
abbrev IsOther : QuantisedView → SectionTables → Type 0
IsOther q (tables.Inside findings) = ⊥
IsOther q (tables.NotInside section found) = IsOfPoles q found × (is_inside found.verdict ≡ false)
IsOther q (tables.Wide section index) = tested_of q side.Denominator ≡ Err (record { index = index })

inside_verdict : (v : TableVerdict) → v ≡ verdict.Inside → is_inside v ≡ false → ⊥
inside_verdict v e h = let k = rw e at h in cc

inside_or_not : (q : QuantisedView) (found : SectionTables) → IsInsideAlone q → IsOther q found → ⊥
inside_or_not q (tables.Inside findings) h k = k
inside_or_not q (tables.NotInside section found) h k =
    inside_verdict h.0.verdict h.1.1 (ap (λ (x : TableFinding). is_inside x.verdict) (one_of_poles q h.0 found h.1.0 k.0) ∙ k.1)
inside_or_not q (tables.Wide section index) h k = poly_or_wide (tested_of q side.Denominator) h.0.poly (record { index = index }) h.1.0.poles k

-- the section that it is about
abbrev section_in : SectionTables → ℕ
section_in (tables.Inside findings) = 0
section_in (tables.NotInside section found) = section
section_in (tables.Wide section index) = section

one_other : (q : QuantisedView) (f g : SectionTables) → IsOther q f → IsOther q g → section_in f ≡ section_in g → f ≡ g
one_other q (tables.NotInside i f) (tables.NotInside j g) h k e = ap₂ tables.NotInside e (one_of_poles q f g h.0 k.0)
one_other q (tables.NotInside i f) (tables.Wide j w) h k e = absurd (poly_or_wide (tested_of q side.Denominator) f.poly (record { index = w }) h.0.poles k)
one_other q (tables.Wide i v) (tables.NotInside j g) h k e = absurd (poly_or_wide (tested_of q side.Denominator) g.poly (record { index = v }) k.0.poles h)
one_other q (tables.Wide i v) (tables.Wide j w) h k e = ap₂ tables.Wide e (one_wide (tested_of q side.Denominator) v w h k)
one_other q (tables.Inside f) g h k e = absurd h
one_other q f (tables.Inside g) h k e = absurd k

first_other : (qs : List QuantisedView) (f g : SectionTables) (p q : QuantisedView) → IsFirstOther qs (section_in f) p → IsOther p f → IsFirstOther qs (section_in g) q → IsOther q g
    → (section_in f ≡ section_in g) ⊎ ((section_in f < section_in g) ⊎ (section_in g < section_in f)) → f ≡ g
first_other qs f g p q a h b k (inl e) = one_other q f g (subst (λ z. IsOther z f) (one_at qs (section_in f) (section_in g) p q a.here b.here e) h) k e
first_other qs f g p q a h b k (inr (inl l)) = absurd (inside_or_not p f (inside_before qs b.findings (section_in f) (section_in g) p a.here l b.before) h)
first_other qs f g p q a h b k (inr (inr l)) = absurd (inside_or_not q g (inside_before qs a.findings (section_in g) (section_in f) q b.here l a.before) k)

-- what is found is that all are inside, or what the first other comes to
data Tabled (qs : List QuantisedView) (found : SectionTables) : Type 0 where
  all : (fs : List TableFinding) → found ≡ tables.Inside fs → AreInside qs fs → Tabled qs found
  other : (q : QuantisedView) → IsFirstOther qs (section_in found) q → IsOther q found → Tabled qs found

tabled : (qs : List QuantisedView) (found : SectionTables) → AreTabled qs found → Tabled qs found
tabled qs (tables.Inside fs) h = all fs refl h
tabled qs (tables.NotInside section found) h = other h.0 h.1 (h.2, h.3)
tabled qs (tables.Wide section index) h = other h.0 h.1 h.2

tabled_once : (qs : List QuantisedView) (f g : SectionTables) → Tabled qs f → Tabled qs g → f ≡ g
tabled_once qs f g (all fs e h) (all gs d k) = e ∙ ap tables.Inside (all_inside qs fs gs h k) ∙ sym d
tabled_once qs f g (all fs e h) (other q b k) = absurd (inside_or_not q g (inside_at qs fs (section_in g) q b.here h) k)
tabled_once qs f g (other p a h) (all gs d k) = absurd (inside_or_not p f (inside_at qs gs (section_in f) p a.here k) h)
tabled_once qs f g (other p a h) (other q b k) = first_other qs f g p q a h b k (cases_order (section_in f) (section_in g))

pub one_tabling : (qs : List QuantisedView) (f g : SectionTables) → AreTabled qs f → AreTabled qs g → f ≡ g
one_tabling qs f g h k = tabled_once qs f g (tabled qs f h) (tabled qs g k)
