-- What subjects become.
use Rattle.std.specs.Prelude.{◌≡◌}
use Rattle.dsv_system.specs.Systems.{Agree, behaviour_of}
use Rattle.dsv_netlist.specs.Counts.{counts_of}
use Rattle.dsv_netlist.specs.Systems.{system_of}
use Rattle.dsv_realise.specs.SubjectView.{SubjectView}
use Rattle.dsv_realise.specs.declared.subject_netlist.SubjectNetlist.{SubjectNetlist}

-- The netlist is the subject's, with the range of its inputs, and nothing tells its runs from those
-- of the subject's equations.
pub record IsNetlistOf (s : SubjectView) (made : SubjectNetlist) : Type 0 where
  pub net : made.net ≡ s.net
  pub low : made.low ≡ s.low
  pub high : made.high ≡ s.high
  pub products : (counts_of made.net).products ≡ s.products
  pub runs : Agree (behaviour_of (system_of made.net)) s.runs
