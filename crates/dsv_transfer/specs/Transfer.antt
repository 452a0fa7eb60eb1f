-- What a controller's coefficients in z say of its written equations.
--
-- A signal is a list, its value at sample 0 first.
use Rattle.std.specs.Prelude.{◌≡◌, ℕ, suc, ◌-◌, ◌<◌, ◌≤◌, List, length, Ok, ℤ, ◌*ℤ◌}
use Rattle.dsv_algebra.specs.Vectors.{vector_of, dot}
use Rattle.dsv_quantiser.specs.QuantisedView.{QuantisedView, IsQuantisedView}
use Rattle.dsv_meaning.specs.Systems.{equations_of}
use Rattle.dsv_tested.specs.Tested.{z_list}
use Rattle.dsv_roundoff.specs.Written.{RunsFrom}

-- c_0 s(n) + c_1 s(n-1) + .. + c_N s(n-N), for a sample n that comes after N others
abbrev pub combined : List ℤ → List ℤ → ℕ → ℤ
combined cs signal n = dot (length cs) (vector_of cs) (λ k. vector_of signal (n - k))

-- For every quantised controller and every exact run of its written equations, from any registers
-- and over any denominator: in each sample that comes after N others, N being the order,
-- a_0 y(n) + .. + a_N y(n-N) is b_0 x(n) + .. + b_N x(n-N), with the coefficients in z by which
-- stability and the loop with a plant are decided. The outputs are over the denominator d.
abbrev pub RunsMeetTheTransferFunction : Type 0
RunsMeetTheTransferFunction = (q : QuantisedView) → IsQuantisedView q → (b a : List ℤ)
    → z_list q q.b ≡ Ok b → z_list q q.a ≡ Ok a
    → (start : List ℤ) → length start ≡ (equations_of q).many
    → (d : ℤ) (xs ys : List ℤ) → RunsFrom q d ((equations_of q).start start) xs ys
    → (n : ℕ) → length q.a ≤ suc n → n < length xs
    → combined a ys n ≡ d *ℤ combined b xs n
