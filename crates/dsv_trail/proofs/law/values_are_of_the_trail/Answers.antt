use Rattle.std.proofs.Common.{refl}
use Rattle.dsv_trail.specs.Marks.{mark_of}
use Rattle.dsv_trail.proofs.MarkLemmas.{literal-stands, literal-true, negation-false, negation-stands}
use Rattle.dsv_trail.proofs.law.values_are_of_the_trail.Goals as goal

pub returns : goal.returns
returns c =
    record {
      stands = λ t l h. literal-stands t.marks l (mark_of t.marks l.var) refl h;
      negation_stands = λ t l h. negation-stands t.marks l (mark_of t.marks l.var) refl h;
      is_true = λ t i l s h. literal-true t.vars t.marks i l s.marks h;
      is_false = λ t i l s h. negation-false t.vars t.marks i l s.marks h;
    }
