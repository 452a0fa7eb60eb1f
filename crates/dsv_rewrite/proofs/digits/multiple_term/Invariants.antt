use Rattle.dsv_rewrite.specs.Ready.{copies_of, multiple_of}
use Rattle.dsv_rewrite.proofs.MultipleRules.{IsMultiple}
use Rattle.dsv_rewrite.proofs.digits.multiple_term.Given as goal

abbrev pub invariant-loop-shift : goal.invariant-loop-shift
invariant-loop-shift l = IsMultiple l.fn.terms l.a l.coeff l.width (multiple_of l.terms (copies_of l.copies)) l.rest l.shift
