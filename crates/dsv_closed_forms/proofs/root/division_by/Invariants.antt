use Rattle.dsv_closed_forms.proofs.Division.{IsDivision}
use Rattle.dsv_closed_forms.proofs.root.division_by.Given as goal

abbrev pub invariant-loop-i : goal.invariant-loop-i
invariant-loop-i l = IsDivision l.t l.c l.i l.carry l.quotient
