-- Sections in series.
use Rattle.std.proofs.Common.{◌≡◌, ℕ, suc, ◌+◌, ◌-◌, ◌<◌, ◌≤◌, List, [], ◌∷◌, length, drop, get_or, refl, sym, ap, subst, ◌∙◌, arith, All, drop-cons}
use Rattle.std.proofs.lemmas.List.Elements.{All-cons}
use Rattle.dsv_algebra.specs.Vectors.{Vector}
use Rattle.dsv_quantiser.specs.QuantisedView.{QuantisedView, IsQuantisedView}
use Rattle.dsv_loop.specs.Loops.{TransferView, section_transfer, in_series, controller_transfer}
use Rattle.dsv_loop.specs.Recursion.{filtered, Meets, AreInSeries}
use Rattle.dsv_loop.proofs.Signals.{length-product, filtered-same, filtered-swap, filtered-product}
use Rattle.dsv_loop.proofs.Sides.{IsProper, section_proper, controller_proper}

-- what one makes of the other's output
pub meets_series : (f g : TransferView) (w v x : Vector) (t : ℕ) → IsProper f → IsProper g
    → ((i : ℕ) → i < length g.b → Meets f v x (t + i)) → ((i : ℕ) → i < length f.a → Meets g w v (t + i)) → Meets (in_series f g) w x t
meets_series f g w v x t is_f is_g first second =
    filtered-product f.a g.a w t is_g.some
    ∙ filtered-same f.a (filtered g.a w) (filtered g.b v) t second
    ∙ filtered-swap f.a g.b v t
    ∙ filtered-same g.b (filtered f.a v) (filtered f.b x) t first
    ∙ filtered-swap g.b f.b x t
    ∙ sym (filtered-product f.b g.b x t (omega (arith, is_g.some, is_g.one_length)))

pub series_meets : (qs : List QuantisedView) (x : ℕ → Vector) (n : ℕ) → All IsQuantisedView qs → AreInSeries qs x n → (t : ℕ) → t + length (controller_transfer qs).a ≤ n
    → Meets (controller_transfer qs) (x (length qs)) (x 0) t
series_meets [] x n all h t few = refl
series_meets (q ∷ qs) x n all h t few =
    let f = section_transfer q in
    let g = controller_transfer qs in
    let rest : All IsQuantisedView qs = λ k d p. all (suc k) d (omega arith) in
    let is_f = section_proper q (all 0 q (omega arith)) in
    let is_g = controller_proper qs rest in
    let long = length-product f.a g.a in
    let some_f = is_f.some in
    let some_g = is_g.some in
    let one = is_g.one_length in
    meets_series f g (x (length (q ∷ qs))) (x 1) (x 0) t is_f is_g (λ i p. h.0 (t + i) (omega arith)) (λ i p. series_meets qs (λ k. x (suc k)) n rest h.1 (t + i) (omega arith))

-- ---- one section more in front
pub one_more_section : (qs : List QuantisedView) (turn i : ℕ) (q d : QuantisedView) (g h : TransferView) → turn < length qs → i ≡ length qs - 1 - turn → q ≡ get_or qs i d
    → g ≡ controller_transfer (drop (length qs - turn) qs) → h ≡ in_series (section_transfer q) g → h ≡ controller_transfer (drop (length qs - (turn + 1)) qs)
one_more_section qs turn i q d g h less at is rest made =
    let place : length qs - (turn + 1) ≡ i = omega arith in
    let next : length qs - turn ≡ suc i = omega arith in
    made
    ∙ ap (λ x. in_series (section_transfer q) x) (rest ∙ ap (λ k. controller_transfer (drop k qs)) next)
    ∙ ap (λ x. in_series (section_transfer x) (controller_transfer (drop (suc i) qs))) is
    ∙ ap controller_transfer (sym (drop-cons qs i d (omega arith)) ∙ ap (λ k. drop k qs) (sym place))

pub one_more_quantised : (qs : List QuantisedView) (turn i : ℕ) (q d : QuantisedView) → turn < length qs → i ≡ length qs - 1 - turn → q ≡ get_or qs i d
    → All IsQuantisedView (drop (length qs - turn) qs) → IsQuantisedView q → All IsQuantisedView (drop (length qs - (turn + 1)) qs)
one_more_quantised qs turn i q d less at is rest one =
    let place : length qs - (turn + 1) ≡ i = omega arith in
    let next : length qs - turn ≡ suc i = omega arith in
    let here : IsQuantisedView (get_or qs i d) = subst IsQuantisedView is one in
    let after : All IsQuantisedView (drop (suc i) qs) = subst (λ k. All IsQuantisedView (drop k qs)) next rest in
    rw (place, drop-cons qs i d (omega arith)) (All-cons IsQuantisedView (get_or qs i d) (drop (suc i) qs) here after)
