use Rattle.std.proofs.Common.{ap, sym, ◌∙◌}
use Rattle.dsv_rewrite.specs.Constants.{constant_of}
use Rattle.dsv_rewrite.proofs.Standing.{constant_node, node_at-is, not_constant}
use Rattle.dsv_rewrite.proofs.constants.constant_at.Goals as goal

pub returns-in-Constant-clause-word : goal.returns-in-Constant-clause-word
returns-in-Constant-clause-word c =
    (constant_node c.args.terms.now c.args.id c.node.result (record { width = c.in-Constant.width; number = c.in-Constant.value }) c.requires.sound c.requires.stands c.node.ensures.node (ap constant_of c.in-Constant.is)).fits

pub returns-in-Constant-clause-width : goal.returns-in-Constant-clause-width
returns-in-Constant-clause-width c =
    (constant_node c.args.terms.now c.args.id c.node.result (record { width = c.in-Constant.width; number = c.in-Constant.value }) c.requires.sound c.requires.stands c.node.ensures.node (ap constant_of c.in-Constant.is)).width

pub returns-in_default : goal.returns-in_default
returns-in_default c = record {
  constant = not_constant c.node.result c.in_default.not-Constant ∙ ap constant_of (sym (node_at-is c.args.terms.now c.args.id c.node.result c.node.ensures.node));
  word = tt;
  width = tt;
}
