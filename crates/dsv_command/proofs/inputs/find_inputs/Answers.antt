use Rattle.std.proofs.Common.{rules, ◌≡◌, ◌∙◌, sym, ◌<◌, [], ◌∷◌, ◌++◌, length, Some, None}
use Rattle.std.specs.List.{before_first, after_first, position_or_len}
use Rattle.dsv_command.specs.Inputs.{is_comma, input_of, pieces}
use Rattle.dsv_command.proofs.InputLemmas.{turn, uncut, no_input, one_more, last_one}
use Rattle.dsv_command.proofs.inputs.find_inputs.Goals as goal

pub returns-in_err-find_input : goal.returns-in_err-find_input
returns-in_err-find_input c =
    let rest = c.loop-first.rest.now in
    let first : c.in-Some.first.now ≡ before_first is_comma rest = search rules in
    let others : c.in-Some.others.now ≡ after_first is_comma rest = search rules in
    let inside : position_or_len is_comma rest < length rest = search rules in
    let none : input_of c.in-Some.first.now ≡ None = search rules in
    let parts = turn rest c.in-Some.first.now c.in-Some.others.now inside first others in
    rw c.from_residual.ensures
    (sym (no_input c.loop-first.inputs.items c.in-Some.first.now (pieces c.in-Some.others.now) none) ∙ (rw parts at c.loop-first.invariant.1))

pub loop-first-preserved : goal.loop-first-preserved
loop-first-preserved c =
    let rest = c.loop-first.rest.now in
    let first : c.in-Some.first.now ≡ before_first is_comma rest = search rules in
    let others : c.in-Some.others.now ≡ after_first is_comma rest = search rules in
    let inside : position_or_len is_comma rest < length rest = search rules in
    let number : input_of c.in-Some.first.now ≡ Some c.in_ok-find_input.field-0 = search rules in
    let pushed : c.try_push.new.self.items ≡ c.loop-first.inputs.items ++ c.in_ok-find_input.field-0 ∷ [] = search rules in
    let parts = turn rest c.in-Some.first.now c.in-Some.others.now inside first others in
    let more = one_more c.loop-first.inputs.items c.in-Some.first.now (pieces c.in-Some.others.now) c.in_ok-find_input.field-0 number in
    (search rules, rw pushed (sym more ∙ (rw parts at c.loop-first.invariant.1)))

pub returns-in_err-find_input-2 : goal.returns-in_err-find_input-2
returns-in_err-find_input-2 c =
    let rest = c.loop-first.rest.now in
    let last : position_or_len is_comma rest ≡ length rest = search rules in
    let none : input_of rest ≡ None = search rules in
    rw c.from_residual-in_err-find_input-2.ensures (sym (no_input c.loop-first.inputs.items rest [] none) ∙ (rw (uncut rest last) at c.loop-first.invariant.1))

pub returns : goal.returns
returns c =
    let rest = c.loop-first.rest.now in
    let last : position_or_len is_comma rest ≡ length rest = search rules in
    let number : input_of rest ≡ Some c.in_ok-find_input-2.field-0 = search rules in
    let pushed : c.try_push-2.new.self.items ≡ c.loop-first.inputs.items ++ c.in_ok-find_input-2.field-0 ∷ [] = search rules in
    let room : length c.loop-first.inputs.items < 64 = search rules in
    rw pushed
    (sym (last_one c.loop-first.inputs.items rest c.in_ok-find_input-2.field-0 number room) ∙ (rw (uncut rest last) at c.loop-first.invariant.1))
