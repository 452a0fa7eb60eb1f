use Rattle.std.proofs.Common.{[], ◌∷◌, ◌++◌}
use Rattle.std.specs.Prelude.{codes}
use Rattle.dsv_base.proofs.TakingLemmas.{writes_after, writes_cut}
use Rattle.dsv_cli.proofs.told.put_name.Goals as goal

pub returns-in_err-put_all : goal.returns-in_err-put_all
returns-in_err-put_all g c =
    writes_cut {x = codes "/* "} (c.args.name.now ++ (codes " */" ++ 10 ∷ [])) c.from_residual.ensures.0 c.in_err-put_all.ensures.cut

pub returns-in_err-put_all-2 : goal.returns-in_err-put_all-2
returns-in_err-put_all-2 g c =
    writes_after {x = codes "/* "} {y = c.args.name.now ++ (codes " */" ++ 10 ∷ [])} c.in_ok-put_all.ensures.whole
    (writes_cut {x = c.args.name.now} (codes " */" ++ 10 ∷ []) c.from_residual-in_err-put_all-2.ensures.0 c.in_err-put_all-2.ensures.cut)

pub returns : goal.returns
returns g c =
    writes_after {x = codes "/* "} {y = c.args.name.now ++ (codes " */" ++ 10 ∷ [])} c.in_ok-put_all.ensures.whole
    (writes_after {x = c.args.name.now} {y = codes " */" ++ 10 ∷ []} c.in_ok-put_all-2.ensures.whole c.put_all-3.ensures)
