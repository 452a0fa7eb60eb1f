use Rattle.std.proofs.Common.{rules, ◌∙◌, sym, ◌+◌, ◌≤◌, length}
use Rattle.dsv_files.proofs.TitleTokens.{found_within}
use Rattle.dsv_files.proofs.titles.title_of.Goals as goal

pub overflow_add-token : goal.overflow_add-token
overflow_add-token c =
    let token = c.in-Some.token in
    let inside : token.at + token.len ≤ length c.args.bytes.now =
    found_within (length c.args.bytes.now) c.in-Ok.tokens token c.in-Ok.ensures.places (sym c.in-Some.is ∙ rw c.as_slice.ensures at c.title_token.ensures) in
    search rules

pub slice_bounds-from_slice-end : goal.slice_bounds-from_slice-end
slice_bounds-from_slice-end c =
    let token = c.in-Some.token in
    let inside : token.at + token.len ≤ length c.args.bytes.now =
    found_within (length c.args.bytes.now) c.in-Ok.tokens token c.in-Ok.ensures.places (sym c.in-Some.is ∙ rw c.as_slice.ensures at c.title_token.ensures) in
    search rules
