-- What the bounds mean.
use Rattle.dsv_word.specs.Words.{IsWord}
use Rattle.std.specs.Prelude.{◌≡◌, ℕ, ◌<◌, ◌≤◌, List, length, slice_index, ℤ}
use Rattle.std.specs.List.{All}
use Rattle.std.specs.Int.RustNames.{unsigned_abs}
use Rattle.dsv_netlist.specs.Nodes.{Net, at, sample_of}
use Rattle.dsv_netlist.specs.Bounds.{bounds_of}
use Rattle.dsv_netlist.specs.Conditions.{IsNetlist}

-- as many registers as the netlist has, and an input, all of them words
pub record AreWords (net : Net) (registers : List ℤ) (x : ℤ) : Type 0 where
  pub many : length registers ≡ length net.next
  pub words : All (IsWord net.format) registers
  pub input : IsWord net.format x

-- in every sample of every netlist, from words, no node's value is greater in size than its bound
abbrev pub ValuesAreBounded : Type 0
ValuesAreBounded = (net : Net) (registers : List ℤ) (x : ℤ) → IsNetlist net
    → AreWords net registers x
    → (i : ℕ) → i < length net.nodes
    → unsigned_abs (at (sample_of net.format registers x net.nodes).values i)
    ≤ slice_index (bounds_of net.format net.nodes) i
