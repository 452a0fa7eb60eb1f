use Rattle.std.proofs.Common.{List, Bool, ℕ, false, ◌*◌, ap, ◌∙◌, ◌≡◌, vec_len, arith}
use Rattle.std.specs.Prelude.{replicate}
use Rattle.dsv_cnf.specs.LiteralSet.{SetView, empty_set}
use Rattle.dsv_cnf.proofs.SetLemmas.{set-fresh, set-clear}
use Rattle.dsv_cnf.proofs.literal_set.LiteralSet.clear.Goals as goal

pub returns-then-self : goal.returns-then-self
returns-then-self c =
    let i = c.self.inside in
    let seen : List Bool → SetView = λ marks. record { vars = i.vars; marks = marks } in
    let zeros = c.fill.ensures.items (λ y h. h) ∙ (let room : vec_len i.marks ≡ 2 * i.vars = omega (arith, c.self.invariant.room) in ap (λ (n : ℕ). replicate {A = ℕ} n 0) room) in
    ap seen (set-fresh c.fill.new.self.items (2 * i.vars) zeros) ∙ ap (λ (s : SetView). empty_set s.vars) c.self.view_is

pub returns : goal.returns
returns c =
    let i = c.self.inside in
    let seen : List Bool → SetView = λ marks. record { vars = i.vars; marks = marks } in
    ap seen (set-clear i.marks.items i.round c.self.invariant.past ∙ ap (λ (n : ℕ). replicate n false) c.self.invariant.room)
    ∙ ap (λ (s : SetView). empty_set s.vars) c.self.view_is
