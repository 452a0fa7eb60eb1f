-- What the rows of a controller show of it.
use Rattle.std.proofs.Common.{◌≡◌, ◌<◌, List, length, Option, subst, arith}
use Rattle.std.proofs.Math.IntN.{ℤ, pos}
use Rattle.std.specs.Prelude.{IfSome}
use Rattle.std.proofs.lemmas.Int.{ints}
use Rattle.std.proofs.lemmas.Nat.{pow_pos}
use lib.Signed.{◌<ℤ◌}
use Rattle.dsv_algebra.specs.Vectors.{matrix_of}
use Rattle.dsv_state_space.specs.StateForms.{one_of}
use Rattle.dsv_state_space.specs.StateView.{StateView, IsStateView}
use Rattle.dsv_system_table.specs.SystemFindings.{IsSystemFinding}
use Rattle.dsv_table.specs.declared.finding.TableFinding.{TableFinding}
use Rattle.dsv_state_table.specs.StateFindings.{IsStateFinding}

-- there is a row
pub some_row : (s : StateView) (rows : List (List ℤ)) → IsStateView s → rows ≡ s.a → 0 < length rows
some_row s rows lawful r =
    let some = lawful.some in
    let many = lawful.rows in
    rw r (omega (arith, some, many))

-- the word of 1 is positive
one_positive : (s : StateView) → pos 0 <ℤ one_of s
one_positive s = let p = pow_pos s.format.frac_bits in omega (arith, ints, p)

pub scale_positive : (s : StateView) (q : ℤ) → q ≡ one_of s → pos 0 <ℤ q
scale_positive s q e = rw e (one_positive s)

-- What is found of the rows is found of the controller.
pub state_finding_is : (s : StateView) (rows : List (List ℤ)) (q : ℤ) (found : Option TableFinding) → IsStateView s → rows ≡ s.a → q ≡ one_of s
    → IfSome found (IsSystemFinding (length rows) q (matrix_of rows)) → IfSome found (IsStateFinding s)
state_finding_is s rows q found lawful r o f =
    subst (λ d. IfSome found (IsSystemFinding d (one_of s) (matrix_of s.a))) lawful.rows
    (subst (λ z. IfSome found (IsSystemFinding (length s.a) z (matrix_of s.a))) o
    (subst (λ l. IfSome found (IsSystemFinding (length l) q (matrix_of l))) r f))
