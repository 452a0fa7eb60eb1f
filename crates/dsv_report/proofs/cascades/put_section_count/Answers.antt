use Rattle.std.proofs.Common.{rules, ◌≡◌, ◌∙◌, length, map, ℕ, List, Bor}
use Rattle.std.proofs.lemmas.List.{length-map}
use Rattle.dsv_report.proofs.cascades.put_section_count.Goals as goal

pub returns : goal.returns
returns g c =
    let names = c.args.later.now.items in
    let many : length (map (λ (name : Bor (List ℕ)). name.now) names) ≡ length names = length-map names (λ (name : Bor (List ℕ)). name.now) in
    let count : length names ≡ c.len.result = search rules in
    rw (many ∙ count) c.put_numbered.ensures
