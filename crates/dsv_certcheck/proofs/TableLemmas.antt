-- What a polynomial's table shows if it has positive first numbers alone.
use Rattle.std.proofs.Common.{◌≡◌, ◌-◌, List, length, subst}
use Rattle.std.proofs.Math.IntN.{ℤ, pos}
use lib.Signed.{◌<ℤ◌}
use Rattle.dsv_algebra.specs.Vectors.{vector_of}
use Rattle.dsv_table.specs.Table.{verdict_of}
use Rattle.dsv_table.specs.Verdicts.{HasFallingForm, IsShown}
use Rattle.dsv_table.specs.declared.verdict.TableVerdict.TheVariants as verdict
use Rattle.dsv_table.proofs.Verdicts.{decides}

pub inside_falls : (c : List ℤ) → pos 0 <ℤ vector_of c 0 → verdict_of c ≡ verdict.Inside → HasFallingForm (length c - 1) (vector_of c)
inside_falls c lead inside =
    let d = length c - 1 in
    subst (λ v. IsShown v d (vector_of c)) inside (decides d (vector_of c) lead)
