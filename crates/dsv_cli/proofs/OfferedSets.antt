-- What is known of the sets that were offered, and of a good one among them.
use Rattle.std.proofs.Common.{◌≡◌, ℕ, zero, suc, false, true, List, [], ◌∷◌, ◌++◌, Option, Some, take, slice_get, refl, sym, subst, arith}
use Rattle.std.specs.List.{All, Contains}
use Rattle.std.proofs.Math.IntN.{ℤ}
use Rattle.dsv_meaning.specs.Systems.{equations_of}
use Rattle.dsv_quantiser.specs.QuantisedView.{QuantisedView}
use Rattle.std.proofs.lemmas.Option.{get_or_from_slice_get, slice_get_within}
use Rattle.dsv_system.specs.Breaks.{IsInside, IsFirstBreak}
use Rattle.dsv_system.specs.Systems.{rows}
use Rattle.dsv_word.specs.Words.{IsWord}
use Rattle.dsv_template.specs.declared.candidate.Candidate.{Candidate}
use Rattle.dsv_template.specs.declared.kept.KeptSet.{KeptSet}
use Rattle.dsv_template.specs.declared.verdict.Why.{Why}
use Rattle.dsv_template.specs.declared.verdict.Why.TheVariants as why
use Rattle.dsv_invariant.specs.Causes.{IsCause}
use Rattle.dsv_invariant.specs.Sets.{IsGoodCause, IsNotGood, candidates, GaveUpOn, IsGoodSet, WereOffered}
use Rattle.dsv_base.specs.Lists.{AreBlocks}
use Rattle.dsv_cli.proofs.Blocks.{stands}

-- ---- a candidate among those that were kept
contains-behind : {X : Type 0} (before xs : List X) (x : X) → Contains xs x → Contains (before ++ xs) x
contains-behind [] xs x h = h
contains-behind (b ∷ before) xs x h =
    let t = contains-behind before xs x h in
    (suc t.0, (let l = t.1 in omega arith), t.2)

contains-before : {X : Type 0} (xs behind : List X) (x : X) → Contains xs x → Contains (xs ++ behind) x
contains-before [] behind x h = absurd (let l = h.1 in omega arith)
contains-before (y ∷ xs) behind x (zero, l, e) = (zero, (omega arith), e)
contains-before (y ∷ xs) behind x (suc k, l, e) =
    let t = contains-before xs behind x (k, (omega arith), e) in
    (suc t.0, (let m = t.1 in omega arith), t.2)

kept_with : (kept : List KeptSet) (c : Candidate) → Contains (candidates kept) c → (k : KeptSet) × Contains kept k × (k.candidate ≡ c)
kept_with [] c h = absurd (let l = h.1 in omega arith)
kept_with (k ∷ kept) c (zero, l, e) = (k, (zero, (omega arith), refl), e)
kept_with (k ∷ kept) c (suc i, l, e) =
    let t = kept_with kept c (i, (omega arith), e) in
    (t.0, (suc t.1.0, (let m = t.1.1 in omega arith), t.1.2), t.2)

-- what holds of all holds of one of them
of_one : {X : Type 0} (P : X → Type 0) (xs : List X) (x : X) → All P xs → Contains xs x → P x
of_one P xs x a h = subst P h.2 (a h.0 x h.1)

-- what holds of all holds of the one at a place
of_row : {X : Type 0} (P : X → Type 0) (xs : List X) (i : ℕ) (x : X) → slice_get xs i ≡ Some x → All P xs → P x
of_row P xs i x e a = subst P (get_or_from_slice_get xs i x x e) (a i x (slice_get_within xs i x e))

-- ---- a good set isn't refused
not_false : (b : _) → b ≡ true → b ≡ false → ⊥
not_false b h k = cc

-- an exact value that is no word isn't in rows without one
first_or_none : (quantised : QuantisedView) (start : List ℤ) (input : ℤ) (value : ℕ) (exact : ℤ) → IsFirstBreak quantised.format (rows (equations_of quantised) start (input ∷ [])) 0 value exact
    → All (IsInside quantised.format) (rows (equations_of quantised) start (input ∷ [])) → ⊥
first_or_none quantised start input value exact f a =
    let all = rows (equations_of quantised) start (input ∷ []) in
    let inside : IsInside quantised.format f.row = of_row (IsInside quantised.format) all 0 f.row f.here a in
    f.outside (of_row (IsWord quantised.format) f.row.exact value exact f.first inside)

refused_only_by_giving_up : (quantised : QuantisedView) (conflicts : ℕ) (c : Candidate) (found : Why) → IsGoodSet quantised c → IsCause quantised conflicts c found → (IsGoodCause found → ⊥) → GaveUpOn found
refused_only_by_giving_up quantised conflicts c (why.Good logs) g h n = absurd (n tt)
refused_only_by_giving_up quantised conflicts c (why.Base inputs) g h n = let l = h.1 in absurd (l.outside (g.kept.begins inputs l.few l.in_range))
refused_only_by_giving_up quantised conflicts c (why.Leaves start inputs) g h n =
    let l = h.1.1 in absurd (l.outside (g.kept.stays start inputs l.state l.many l.in_range l.inside))
refused_only_by_giving_up quantised conflicts c (why.Unsafe start input value exact) g h n =
    let u = h.1.1 in
    absurd (first_or_none quantised start input value exact u.first (g.kept.safe start input u.state u.inside u.at_least u.at_most))
refused_only_by_giving_up quantised conflicts c (why.Spent part log) g h n = tt
refused_only_by_giving_up quantised conflicts c why.BadShape g h n = absurd (not_false _ g.shaped h)

of_candidate : (quantised : QuantisedView) (conflicts : ℕ) (c : Candidate) (k : KeptSet) → k.candidate ≡ c → IsGoodSet quantised c → IsNotGood quantised conflicts k → GaveUpOn k.why
of_candidate quantised conflicts c k e g h = refused_only_by_giving_up quantised conflicts k.candidate k.why (subst (IsGoodSet quantised) (sym e) g) h.cause h.not_good

pub were_offered : (quantised : QuantisedView) (conflicts : ℕ) (told : List (Option (List Candidate))) (kept : List KeptSet) → AreBlocks 32 told (candidates kept) → All (IsNotGood quantised conflicts) kept
    → WereOffered quantised told kept
were_offered quantised conflicts told kept b a = record {
  blocks = b;
  complete = λ i cs c e h g.
      let s = stands told i cs (candidates kept) e b in
      let there : Contains (candidates kept) c = subst (λ (l : List Candidate). Contains l c) (sym s.split) (contains-behind s.before (take 32 cs ++ s.behind) c (contains-before (take 32 cs) s.behind c h)) in
      let t = kept_with kept c there in
      (t.0, t.1, t.2, of_candidate quantised conflicts c t.0 t.2 g (of_one (IsNotGood quantised conflicts) kept t.0 a t.1));
}
