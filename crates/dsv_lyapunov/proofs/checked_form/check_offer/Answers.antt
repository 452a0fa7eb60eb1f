use Rattle.std.proofs.Common.{arith, rules, ◌∙◌}
use mir.Val.{SFits}
use mir.Syntax.{w128}
use Rattle.std.proofs.lemmas.Int.{to_z-of_z}
use Rattle.dsv_lyapunov.proofs.checked_form.check_offer.Goals as goal

pub returns-in_ok-fall-in-Falls-clause-shown : goal.returns-in_ok-fall-in-Falls-clause-shown
returns-in_ok-fall-in-Falls-clause-shown c = record {
  falls = c.in_ok-fall-in-Falls.ensures.falls;
  places = omega (arith, c.in_ok-fall-in-Falls.ensures.places);
  fall_form = c.in_ok-fall-in-Falls.ensures.fall;
  few = omega (arith, c.in_ok-fall-in-Falls.ensures.places, c.in_ok-fall-in-Falls.ensures.few);
}

pub returns-in_ok-fall-in-KeptAway-clause-shown : goal.returns-in_ok-fall-in-KeptAway-clause-shown
returns-in_ok-fall-in-KeptAway-clause-shown c =
    let fits : SFits w128 c.in_ok-fall-in-KeptAway.value = search rules in
    record {
      away = c.in_ok-fall-in-KeptAway.ensures.away;
      value_at = to_z-of_z w128 c.in_ok-fall-in-KeptAway.value fits ∙ c.in_ok-fall-in-KeptAway.ensures.value;
      places = omega (arith, c.in_ok-fall-in-KeptAway.ensures.places);
      fall_form = c.in_ok-fall-in-KeptAway.ensures.fall;
      few = omega (arith, c.in_ok-fall-in-KeptAway.ensures.places, c.in_ok-fall-in-KeptAway.ensures.few);
    }
