use Rattle.std.proofs.Common.{ap, map, take, length, ◌∙◌, to_z, of_z, w64}
use Rattle.std.proofs.lemmas.Int.{to_z-of_z}
use Rattle.dsv_netlist.specs.Nodes.{at}
use Rattle.dsv_netlist.specs.Inside.{view_of}
use Rattle.dsv_netlist.proofs.Runs.{net_safe, words_inside, done_inside, loaded_words}
use Rattle.dsv_netlist.proofs.netlist.Netlist.step.Goals as goal

pub run_nodes-values-requires-clause-safe : goal.run_nodes-values-requires-clause-safe
run_nodes-values-requires-clause-safe c =
    let x = to_z w64 (of_z w64 c.args.x) in
    let words = words_inside c.self.inside c.args.self.now c.args.regs.now c.args.x x c.self.view_is (record { many = c.requires.registers; words = c.requires.words; input = c.requires.input }) (to_z-of_z w64 c.args.x c.ranges.x) in
    rw c.as_slice-nodes.ensures.value (net_safe (view_of c.self.inside) c.args.regs.now x c.self.invariant.netlist words)

pub load-requires-clause-named : goal.load-requires-clause-named
load-requires-clause-named c =
    let d = done_inside c.self.inside c.args.self.now c.args.regs.now c.args.x (to_z w64 (of_z w64 c.args.x)) c.as_slice-nodes.result.now c.run_nodes-values.result c.self.view_is c.self.invariant.netlist (record { many = c.requires.registers; words = c.requires.words; input = c.requires.input }) (to_z-of_z w64 c.args.x c.ranges.x) c.as_slice-nodes.ensures.value c.run_nodes-values.ensures.values in
    rw c.as_slice.ensures.value d.named

pub load-requires-clause-words : goal.load-requires-clause-words
load-requires-clause-words c =
    let d = done_inside c.self.inside c.args.self.now c.args.regs.now c.args.x (to_z w64 (of_z w64 c.args.x)) c.as_slice-nodes.result.now c.run_nodes-values.result c.self.view_is c.self.invariant.netlist (record { many = c.requires.registers; words = c.requires.words; input = c.requires.input }) (to_z-of_z w64 c.args.x c.ranges.x) c.as_slice-nodes.ensures.value c.run_nodes-values.ensures.values in
    rw c.as_slice.ensures.value d.words

pub bounds-done-self-inside : goal.bounds-done-self-inside
bounds-done-self-inside c =
    let d = done_inside c.self.inside c.args.self.now c.args.regs.now c.args.x (to_z w64 (of_z w64 c.args.x)) c.as_slice-nodes.result.now c.run_nodes-values.result c.self.view_is c.self.invariant.netlist (record { many = c.requires.registers; words = c.requires.words; input = c.requires.input }) (to_z-of_z w64 c.args.x c.ranges.x) c.as_slice-nodes.ensures.value c.run_nodes-values.ensures.values in
    d.below

pub word_of-requires : goal.word_of-requires
word_of-requires c =
    let d = done_inside c.self.inside c.args.self.now c.args.regs.now c.args.x (to_z w64 (of_z w64 c.args.x)) c.as_slice-nodes.result.now c.run_nodes-values.result c.self.view_is c.self.invariant.netlist (record { many = c.requires.registers; words = c.requires.words; input = c.requires.input }) (to_z-of_z w64 c.args.x c.ranges.x) c.as_slice-nodes.ensures.value c.run_nodes-values.ensures.values in
    d.word

pub returns-clause-words : goal.returns-clause-words
returns-clause-words c =
    let d = done_inside c.self.inside c.args.self.now c.args.regs.now c.args.x (to_z w64 (of_z w64 c.args.x)) c.as_slice-nodes.result.now c.run_nodes-values.result c.self.view_is c.self.invariant.netlist (record { many = c.requires.registers; words = c.requires.words; input = c.requires.input }) (to_z-of_z w64 c.args.x c.ranges.x) c.as_slice-nodes.ensures.value c.run_nodes-values.ensures.values in
    let values = take (length c.as_slice-nodes.result.now) c.run_nodes-values.result in
    loaded_words c.self.inside c.args.self.now values c.load.new.registers c.self.view_is d (c.load.ensures ∙ ap (map (at values)) c.as_slice.ensures.value)
