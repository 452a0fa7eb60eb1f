use Rattle.dsv_closed_forms.proofs.Accepted.{closed_form_accepted}
use Rattle.dsv_closed_forms.proofs.Choices.{first_choice, second_choice}
use Rattle.dsv_closed_forms.proofs.law.closed_forms_are_accepted.Goals as goal

pub returns-clause-accepted : goal.returns-clause-accepted
returns-clause-accepted c = closed_form_accepted

pub returns-clause-first : goal.returns-clause-first
returns-clause-first c = first_choice

pub returns-clause-second : goal.returns-clause-second
returns-clause-second c = second_choice
