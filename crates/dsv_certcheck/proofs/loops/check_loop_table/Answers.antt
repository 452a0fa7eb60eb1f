use Rattle.std.proofs.Common.{◌≡◌, ◌∙◌, [], ◌∷◌, ap, sym, Ok, rules}
use Rattle.dsv_names.specs.declared.property.Property.TheVariants as property
use Rattle.dsv_names.specs.declared.property.RootProperty.TheVariants as root
use Rattle.dsv_loop.specs.Loops.{loop_of}
use Rattle.dsv_certfile.specs.declared.job.Size.TheVariants as size
use Rattle.dsv_certcheck.proofs.CheckLemmas.{on_ok}
use Rattle.dsv_certcheck.proofs.LoopLemmas.{falling_loop}
use Rattle.dsv_certcheck.proofs.loops.check_loop_table.Goals as goal

pub returns-in_ok-poly-in-OfRoots-Stability-OfLoop-clause-shows : goal.returns-in_ok-poly-in-OfRoots-Stability-OfLoop-clause-shows
returns-in_ok-poly-in-OfRoots-Stability-OfLoop-clause-shows c =
    let job = c.args.job.now in
    let q = c.args.quantised.now in
    let run = c.args.run.now in
    let t = c.in_ok-poly-in-OfRoots-Stability-OfLoop in
    let stable : job.property ≡ property.OfRoots root.Stability = search rules in
    let of_loop : job.size ≡ size.OfLoop = search rules in
    let found : loop_of (q ∷ []) run.sample_time run.plant.now ≡ Ok t.poly =
    ap (λ qs. loop_of qs run.sample_time run.plant.now) (sym c.from_ref-sections.ensures.value) ∙ t.ensures.value in
    on_ok c.check_table.result
    (λ inside. falling_loop q run.sample_time run.plant.now job.property job.size t.poly stable of_loop found t.ensures.lead inside)
    (rw c.as_slice.ensures at c.check_table.ensures.shows)
