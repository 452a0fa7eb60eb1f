use Rattle.std.proofs.Common.{◌≡◌, ℕ, true, [], ◌∷◌, ◌++◌, subst, arith}
use Rattle.std.proofs.lemmas.Grind.{common_steps}
use Rattle.std.proofs.lemmas.List.Elements.{All-get_or}
use Rattle.std.proofs.lemmas.Option.{get_or_from_slice_get}
use Rattle.dsv_netlist.specs.Conditions.{names_word}
use Rattle.dsv_netlist.proofs.Naming.{names_word-below}
use Rattle.dsv_cascade.specs.Netlists.{moved_place}
use Rattle.dsv_cascade.proofs.SeriesLists.{mapped_after}
use Rattle.dsv_cascade.proofs.netlist.series_next.Goals as goal

pub place_after-requires : goal.place_after-requires
place_after-requires c =
    let net = c.args.second.now in
    let place = c.next-place.result in
    let named : ℕ → Type 0 = λ k. names_word net.nodes k ≡ true in
    let here = subst named (get_or_from_slice_get net.next c.loop-k.k place 0 c.next-place.ensures) (All-get_or named net.next c.loop-k.k 0 (omega arith) c.requires.second.next) in
    omega (arith, names_word-below net.nodes place here, c.requires.second.few_nodes)

pub loop-k-preserved : goal.loop-k-preserved
loop-k-preserved c =
    let pushed : c.push.new.self.items ≡ c.loop-k.next.items ++ c.place_after.result ∷ [] = grind (arith, common_steps) in
    mapped_after (moved_place c.args.first.now) c.args.first.now.next c.args.second.now.next c.loop-k.next.items c.push.new.self.items 0 c.loop-k.k c.next-place.result c.place_after.result (omega arith) (omega arith) c.loop-k.invariant c.next-place.ensures c.place_after.ensures pushed
