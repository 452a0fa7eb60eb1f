use Rattle.std.proofs.Common.{◌≡◌, ◌≤◌, false, drop}
use Rattle.dsv_files.specs.Titles.{title_token}
use Rattle.dsv_files.proofs.titles.title_token.Given as goal

abbrev pub invariant-loop-token : goal.invariant-loop-token
invariant-loop-token l = (title_token 0 false l.tokens ≡ title_token l.depth l.named (drop l.token-index l.tokens)) × (l.depth ≤ l.token-index)
