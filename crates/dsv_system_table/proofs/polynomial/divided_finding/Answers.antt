use Rattle.std.proofs.Common.{◌-◌, length, rules}
use Rattle.dsv_algebra.specs.Vectors.{vector_of}
use Rattle.dsv_table.specs.Systems.{divided}
use Rattle.dsv_system_table.specs.Rows.{AreEntries}
use Rattle.dsv_system_table.proofs.Polynomials.{divided_lead, divided_finding_is}
use Rattle.dsv_system_table.proofs.polynomial.divided_finding.Goals as goal

pub finding_of-requires-clause-lead : goal.finding_of-requires-clause-lead
finding_of-requires-clause-lead c =
    let row = c.args.coefficients.now in
    let q = c.args.q.now in
    let list = c.as_slice.result.now in
    let a : AreEntries (length row) (divided (length row - 1) q (vector_of row)) list = search rules in
    divided_lead row list q c.requires.some c.requires.lead c.requires.scale a

pub returns : goal.returns
returns c =
    let row = c.args.coefficients.now in
    let q = c.args.q.now in
    let list = c.as_slice.result.now in
    let a : AreEntries (length row) (divided (length row - 1) q (vector_of row)) list = search rules in
    divided_finding_is row list q c.in_ok-found.found a c.in_ok-found.ensures
