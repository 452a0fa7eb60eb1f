-- What is asked of subjects: how they behave, over which inputs, and by which netlist.
use Rattle.std.specs.Prelude.{ℕ, ℤ}
use Rattle.dsv_system.specs.Systems.{Behaviour}
use Rattle.dsv_netlist.specs.Nodes.{Net}

-- How a subject behaves by its equations, the range of its inputs, how many products a sample
-- takes, and the netlist that it becomes.
pub record SubjectView : Type 0 where
  pub runs : Behaviour
  pub low : ℤ
  pub high : ℤ
  pub products : ℕ
  pub net : Net
