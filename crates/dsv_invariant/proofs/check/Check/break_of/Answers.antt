use Rattle.std.proofs.Common.{◌≡◌, ◌∙◌, ◌-◌, ap, sym, subst, length, take, get_or, arith}
use Rattle.std.proofs.Math.IntN.{pos}
use Rattle.std.proofs.lemmas.Result.{IfOk-weaker}
use Rattle.dsv_meaning.specs.Equations.{order, registers_of}
use Rattle.dsv_template.specs.declared.verdict.SetPart.{SetPart}
use Rattle.dsv_template.proofs.Membership.{shaped_parts}
use Rattle.dsv_unroll.specs.SetGoals.{set_inputs}
use Rattle.dsv_invariant.specs.Breaking.{DoBreak, IsFoundAt, IsBreakOf, IsUnsafeSample}
use Rattle.dsv_invariant.proofs.BrokenRuns.{early_leaves, early_stands, broken_start, not_safe, unsafe_found}
use Rattle.dsv_invariant.proofs.check.Check.break_of.Goals as goal

pub leaving_inputs-requires-clause-leaves : goal.leaving_inputs-requires-clause-leaves
leaving_inputs-requires-clause-leaves c =
    let q = c.args.self.now.quantised.now in
    let candidate = c.args.self.now.candidate.now in
    let words = c.args.words.now in
    early_leaves q c.args.self.now.net.now candidate words c.args.self.now.realises.runs (subst (λ (p : SetPart). DoBreak q candidate p words) c.in-Base.is c.requires.breaks)

pub returns-in_ok-leaving_inputs-in-Base : goal.returns-in_ok-leaving_inputs-in-Base
returns-in_ok-leaving_inputs-in-Base c = λ conflicts before.
    let q = c.args.self.now.quantised.now in
    let net = c.args.self.now.net.now in
    let candidate = c.args.self.now.candidate.now in
    let words = c.args.words.now in
    let deep = (shaped_parts (registers_of q.realisation (order q)) candidate c.args.self.now.shaped).deep in
    let many : length words ≡ candidate.depth - 1 = c.requires.many ∙ ap (set_inputs net candidate) c.in-Base.is in
    let found = c.in_ok-leaving_inputs-in-Base.ensures in
    early_stands q net candidate words c.in_ok-leaving_inputs-in-Base.field-0 c.args.self.now.realises.runs (subst (λ (p : SetPart). DoBreak q candidate p words) c.in-Base.is c.requires.breaks) (omega arith) found.first found.leaves

pub unsafe_sample-requires-clause-input : goal.unsafe_sample-requires-clause-input
unsafe_sample-requires-clause-input c =
    let q = c.args.self.now.quantised.now in
    let candidate = c.args.self.now.candidate.now in
    let words = c.args.words.now in
    (broken_start q c.args.self.now.net.now candidate words c.registers-registers.result c.args.self.now.realises.runs c.args.self.now.realises.quantised (subst (λ (p : SetPart). DoBreak q candidate p words) c.in-Safe.is c.requires.breaks) c.registers-registers.ensures).word

pub unsafe_sample-requires-clause-breaks : goal.unsafe_sample-requires-clause-breaks
unsafe_sample-requires-clause-breaks c =
    let q = c.args.self.now.quantised.now in
    let net = c.args.self.now.net.now in
    let candidate = c.args.self.now.candidate.now in
    let words = c.args.words.now in
    let k = c.registers-registers.result in
    let start = broken_start q net candidate words k c.args.self.now.realises.runs c.args.self.now.realises.quantised (subst (λ (p : SetPart). DoBreak q candidate p words) c.in-Safe.is c.requires.breaks) c.registers-registers.ensures in
    not_safe q net candidate (take k words) (get_or words k (pos 0)) c.args.self.now.realises.runs start

pub returns-in-Safe : goal.returns-in-Safe
returns-in-Safe c =
    let q = c.args.self.now.quantised.now in
    let net = c.args.self.now.net.now in
    let candidate = c.args.self.now.candidate.now in
    let words = c.args.words.now in
    let k = c.registers-registers.result in
    let start = broken_start q net candidate words k c.args.self.now.realises.runs c.args.self.now.realises.quantised (subst (λ (p : SetPart). DoBreak q candidate p words) c.in-Safe.is c.requires.breaks) c.registers-registers.ensures in
    IfOk-weaker _ (IsUnsafeSample net (take k words) (get_or words k (pos 0))) (IsBreakOf q candidate c.args.part)
    (λ why u conflicts. subst (λ (p : SetPart). IsFoundAt q conflicts candidate p why) (sym c.in-Safe.is)
    (unsafe_found q net candidate (take k words) (get_or words k (pos 0)) conflicts why c.args.self.now.realises.runs start u)) c.unsafe_sample.ensures
