use Rattle.std.proofs.Common.{rules, ◌≡◌, ◌⊎◌, ◌∙◌, sym, ◌<◌, ◌≤◌, true, false, List, [], ◌∷◌, ◌++◌, length, map, Bor, ℕ}
use Rattle.std.proofs.lemmas.List.{length-map}
use Rattle.std.specs.List.{before_first, after_first, position_or_len}
use Rattle.dsv_command.specs.SectionNames.{is_nameless, most_later}
use Rattle.dsv_command.specs.Inputs.{is_comma, pieces}
use Rattle.dsv_command.proofs.InputLemmas.{turn, uncut}
use Rattle.dsv_command.proofs.NameLemmas.{not_taken, name_taken, last_taken}
use Rattle.dsv_command.proofs.section_names.find_names.Goals as goal

abbrev texts : List (Bor (List ℕ)) → List (List ℕ)
texts names = map (λ name. name.now) names

pub loop-first-preserved : goal.loop-first-preserved
loop-first-preserved c =
    let rest = c.loop-first.rest.now in
    let first : c.in-Some.first.now ≡ before_first is_comma rest = search rules in
    let others : c.in-Some.others.now ≡ after_first is_comma rest = search rules in
    let inside : position_or_len is_comma rest < length rest = search rules in
    let filled : is_nameless c.in-Some.first.now ≡ false = search rules in
    let pushed : texts c.push_name.new.names.items ≡ texts c.loop-first.names.items ++ c.in-Some.first.now ∷ [] = search rules in
    let parts = turn rest c.in-Some.first.now c.in-Some.others.now inside first others in
    let more = name_taken (texts c.loop-first.names.items) c.in-Some.first.now (pieces c.in-Some.others.now) filled in
    (search rules, rw pushed (sym more ∙ (rw parts at c.loop-first.invariant.1)))

pub returns-in_err-push_name-2 : goal.returns-in_err-push_name-2
returns-in_err-push_name-2 c =
    let rest = c.loop-first.rest.now in
    let last : position_or_len is_comma rest ≡ length rest = search rules in
    let refused : (is_nameless rest ≡ true) ⊎ (most_later ≤ length c.loop-first.names.items) = search rules in
    rw c.from_residual-in_err-push_name-2.ensures (sym (not_taken (texts c.loop-first.names.items) (length c.loop-first.names.items) rest [] (length-map c.loop-first.names.items (λ (name : Bor (List ℕ)). name.now)) refused) ∙ (rw (uncut rest last) at c.loop-first.invariant.1))

pub returns : goal.returns
returns c =
    let rest = c.loop-first.rest.now in
    let last : position_or_len is_comma rest ≡ length rest = search rules in
    let filled : is_nameless rest ≡ false = search rules in
    let pushed : texts c.push_name-2.new.names.items ≡ texts c.loop-first.names.items ++ rest ∷ [] = search rules in
    let room : length c.loop-first.names.items < most_later = search rules in
    rw pushed (sym (last_taken (texts c.loop-first.names.items) (length c.loop-first.names.items) rest (length-map c.loop-first.names.items (λ (name : Bor (List ℕ)). name.now)) filled room) ∙ (rw (uncut rest last) at c.loop-first.invariant.1))
