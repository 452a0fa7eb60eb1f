-- Sections that are tried one after another.
use Rattle.std.proofs.Common.{◌≡◌, ℕ, suc, ◌+◌, ◌<◌, ◌≤◌, List, [], ◌∷◌, ◌++◌, length, get_or, take, refl, sym, subst, ap, ◌∙◌, arith}
use Rattle.std.specs.Prelude.{slice_get}
use Rattle.std.specs.List.{All}
use Rattle.std.proofs.Math.Seq.{take-suc}
use Rattle.std.proofs.lemmas.List.{take_all}
use Rattle.std.proofs.lemmas.List.Elements.{All-nil, All-cons, All-push}
use Rattle.std.proofs.lemmas.Option.{slice_get_read}
use Rattle.dsv_quantiser.specs.QuantisedView.{QuantisedView}
use Rattle.dsv_cascade.specs.declared.cascade.CascadeRefusal.{CascadeRefusal}
use Rattle.dsv_cascade.specs.Sections.{Fits, IsMisfit, IsRefused, place_of}

-- the first of the later sections that doesn't fit
pub later_misfit : (first q : QuantisedView) (later : List QuantisedView) (i : ℕ) (why : CascadeRefusal) → Fits first first → All (Fits first) (take i later) → i < length later → q ≡ get_or later i q
    → place_of why ≡ suc i → IsMisfit first q why → IsRefused first (first ∷ later) why
later_misfit first q later i why f h l e p m = record {
  section = q;
  here = ap (slice_get (first ∷ later)) p ∙ slice_get_read later (length later) i q refl l e;
  before = subst (λ (k : ℕ). All (Fits first) (take k (first ∷ later))) (sym p) (All-cons (Fits first) first (take i later) f h);
  misfit = m;
}

pub first_misfit : (first : QuantisedView) (later : List QuantisedView) (why : CascadeRefusal) → place_of why ≡ 0 → IsMisfit first first why → IsRefused first (first ∷ later) why
first_misfit first later why p m = record {
  section = first;
  here = ap (slice_get (first ∷ later)) p;
  before = subst (λ (k : ℕ). All (Fits first) (take k (first ∷ later))) (sym p) (All-nil (Fits first));
  misfit = m;
}

-- one section more that fits
pub one_more : (first q : QuantisedView) (later : List QuantisedView) (i : ℕ) → All (Fits first) (take i later) → i < length later → q ≡ get_or later i q → Fits first q → All (Fits first) (take (i + 1) later)
one_more first q later i h l e f =
    let n : i + 1 ≡ suc i = omega arith in
    let s : take (i + 1) later ≡ take i later ++ q ∷ [] = ap (λ (k : ℕ). take k later) n ∙ take-suc later i q l ∙ ap (λ (r : QuantisedView). take i later ++ r ∷ []) (sym e) in
    subst (All (Fits first)) (sym s) (All-push (Fits first) (take i later) q h f)

pub all_of_them : (first : QuantisedView) (later : List QuantisedView) (i : ℕ) → Fits first first → All (Fits first) (take i later) → length later ≤ i → All (Fits first) (first ∷ later)
all_of_them first later i f h l = All-cons (Fits first) first later f (subst (All (Fits first)) (take_all i later l) h)
