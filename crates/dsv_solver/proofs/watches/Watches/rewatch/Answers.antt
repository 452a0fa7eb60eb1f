use Rattle.std.proofs.Common.{arith, ap, ◌≡◌, ◌<◌, length, length-set, ◌∙◌, slice_get, Some}
use Rattle.std.proofs.lemmas.Option.{slice_get_within}
use Rattle.dsv_cnf.specs.Literal.{code_of}
use Rattle.dsv_cnf.proofs.LiteralLemmas.{code-below}
use Rattle.dsv_solver.specs.WatchView.{WatchView}
use Rattle.dsv_solver.specs.Watched.{IsPairOver}
use Rattle.dsv_solver.proofs.WatchLemmas.{rewatched, listed-kept, over-kept, below-kept, code-apart}
use Rattle.dsv_solver.proofs.watches.Watches.rewatch.Goals as goal

pub invariant_of-self-2 : goal.invariant_of-self-2
invariant_of-self-2 c =
    let i = c.self.invariant in
    let vars : c.self.inside.vars ≡ c.args.self.now.vars = ap (λ (w : WatchView). w.vars) c.self.view_is in
    let lists : c.self.inside.lists.items ≡ c.args.self.now.lists = ap (λ (w : WatchView). w.lists) c.self.view_is in
    let pairs : c.self.inside.pairs.items ≡ c.args.self.now.pairs = ap (λ (w : WatchView). w.pairs) c.self.view_is in
    let over : IsPairOver c.self.inside.vars c.args.pair = rw vars c.requires.pair_over in
    let was : slice_get c.self.inside.pairs.items c.args.watch.clause ≡ Some c.args.old = rw pairs c.requires.was in
    let lf : code_of c.args.watch.literal < length c.self.inside.lists.items = omega (arith, code-below c.args.watch.literal c.self.inside.vars (omega (arith, vars, c.requires.over)), i.room) in
    let la : code_of c.args.pair.one < length c.self.inside.lists.items = omega (arith, code-below c.args.pair.one c.self.inside.vars over.one, i.room) in
    let r = rewatched c.self.inside.lists.items (code_of c.args.pair.one) (code_of c.args.watch.literal) c.args.watch.clause c.args.watch.place c.code.result c.code-2.result c.index_mut.result.now c.push.new.self c.index_mut-2.result.now c.swap_remove.new.self c.code.ensures c.code-2.ensures c.index_mut.ensures.value c.in_ok-push.ensures.ok c.index_mut-2.ensures.value c.swap_remove.ensures.len c.swap_remove.ensures.moved c.swap_remove.ensures.others (rw lists c.requires.at) (rw lists c.requires.inside) (code-apart c.args.pair.one c.args.watch.literal c.requires.one_moves) la lf in
    record {
      few_vars = i.few_vars;
      room = length-set _ _ _ ∙ (length-set _ _ _ ∙ i.room);
      over = over-kept c.self.inside.vars c.args.watch.clause c.self.inside.pairs.items c.args.pair over i.over;
      listed = listed-kept c.self.inside.lists.items _ (code_of c.args.watch.literal) c.args.watch.clause c.args.watch.place c.self.inside.pairs.items c.args.old c.args.pair r (code-apart c.args.pair.other c.args.watch.literal c.requires.other_stays) c.requires.stays was i.listed;
      below = λ k l lt. omega (arith, length-set c.self.inside.pairs.items c.args.watch.clause c.args.pair, below-kept (length c.self.inside.pairs.items) c.self.inside.lists.items _ _ _ c.args.watch.clause c.args.watch.place r (slice_get_within c.self.inside.pairs.items c.args.watch.clause c.args.old was) i.below k l lt);
    }
