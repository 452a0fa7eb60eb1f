use Rattle.dsv_table.proofs.Verdicts.{decides, factors_do_not_count}
use Rattle.dsv_table.proofs.Systems.{systems_fall}
use Rattle.dsv_table.proofs.SystemsAway.{systems_are_kept_away}
use Rattle.dsv_table.proofs.Rates.{falls_at_rate}
use Rattle.dsv_table.proofs.RatesAway.{kept_away_at_rate}
use Rattle.dsv_table.proofs.law.tables_decide.Goals as goal

pub returns-clause-decides : goal.returns-clause-decides
returns-clause-decides c = decides

pub returns-clause-factors : goal.returns-clause-factors
returns-clause-factors c = factors_do_not_count

pub returns-clause-systems : goal.returns-clause-systems
returns-clause-systems c = systems_fall

pub returns-clause-away : goal.returns-clause-away
returns-clause-away c = systems_are_kept_away

pub returns-clause-rates : goal.returns-clause-rates
returns-clause-rates c = falls_at_rate

pub returns-clause-rates_away : goal.returns-clause-rates_away
returns-clause-rates_away c = kept_away_at_rate
