use Rattle.dsv_loop.proofs.Series.{series_meets}
use Rattle.dsv_loop.proofs.law.sections_are_in_series.Goals as goal

pub returns : goal.returns
returns c = series_meets
