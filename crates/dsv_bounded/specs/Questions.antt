-- Serves private contracts: what a goal asks of the values of its inputs, and starts.
use Rattle.std.specs.Prelude.{◌≡◌, ℕ, ◌-◌, List, ℤ, pos, replicate, length, take}
use Rattle.std.specs.List.{All}
use Rattle.dsv_netlist.specs.Nodes.{Net}
use Rattle.dsv_system.specs.Breaks.{Breaks}
use Rattle.dsv_term.specs.declared.node.TermId.{TermId}
use Rattle.dsv_term.specs.Terms.{AreValues, word_of}
use Rattle.dsv_term.specs.TermsView.{TermsView}
use Rattle.dsv_unroll.specs.Words.{HasCycle, cycle_start, spelled_words}
use Rattle.dsv_word.specs.Words.{width, IsWord}
use Rattle.dsv_netlist.specs.Systems.{runs_of}

-- The inputs have these widths, and the root is 1 exactly at the values that have the fact.
pub record Asks (t : TermsView) (root : TermId) (widths : List ℕ) (P : List ℕ → Type 0) : Type 0
  where
    pub inputs : t.inputs ≡ widths
    pub holds : (values : List ℕ) → AreValues widths values
        → (word_of t values root).number ≡ 1 → P values
    pub shows : (values : List ℕ) → AreValues widths values → P values
        → (word_of t values root).number ≡ 1

-- some values of these widths have the fact
abbrev pub SomeHave : List ℕ → (List ℕ → Type 0) → Type 0
SomeHave widths P = (values : List ℕ) × AreValues widths values × P values

-- no values of these widths have the fact
abbrev pub NoneHave : List ℕ → (List ℕ → Type 0) → Type 0
NoneHave widths P = (values : List ℕ) → AreValues widths values → P values → ⊥

-- the inputs that the values spell break the netlist, over inputs from `low` to `high`
abbrev pub DoBreak : Net → ℤ → ℤ → List ℕ → Type 0
DoBreak net low high values =
    Breaks (runs_of net) low high (spelled_words net.format values)

-- so many words of the netlist's format
abbrev pub input_widths : Net → ℕ → List ℕ
input_widths net n = replicate n (width net.format)

-- how many registers of a netlist aren't feed-forward
abbrev pub free_registers : Net → ℕ
free_registers net = length net.next - net.feed_forward

-- the start that the values spell has a cycle of a period up to this
abbrev pub DoCycle : Net → ℕ → List ℕ → Type 0
DoCycle net periods values = HasCycle net (cycle_start net values) periods

-- The registers of a netlist hold words.
pub record AreRegisters (net : Net) (registers : List ℤ) : Type 0 where
  pub many : length registers ≡ length net.next
  pub words : All (IsWord net.format) registers

-- A netlist can start so: 0 in the feed-forward registers, and words in the others.
pub record IsStart (net : Net) (start : List ℤ) : Type 0 where
  pub many : length start ≡ length net.next
  pub quiet : All (λ w. w ≡ pos 0) (take net.feed_forward start)
  pub words : All (IsWord net.format) start
