use Rattle.std.proofs.Common.{arith, ap, ◌<◌, length, ◌∙◌, refl}
use Rattle.dsv_cnf.proofs.LiteralLemmas.{code-below}
use Rattle.dsv_cnf.specs.Literal.{code_of}
use Rattle.dsv_cnf.specs.LiteralSet.{SetView, set_of, with}
use Rattle.dsv_cnf.proofs.SetLemmas.{set-insert}
use Rattle.dsv_cnf.proofs.literal_set.LiteralSet.insert.Goals as goal

pub returns-clause-set : goal.returns-clause-set
returns-clause-set c =
    let i = c.self.inside in
    let below : c.args.literal.var < i.vars = omega (arith, c.requires, ap (λ (s : SetView). s.vars) c.self.view_is) in
    let mark : code_of c.args.literal < length i.marks.items = omega (arith, code-below c.args.literal i.vars below, c.self.invariant.room) in
    set-insert i.marks.items _ c.args.literal i.round c.code.result c.self.invariant.begun mark c.code.ensures refl
    ∙ ap (λ (s : SetView). with c.args.literal (set_of s)) c.self.view_is
