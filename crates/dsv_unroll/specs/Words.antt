-- What the values of a goal's inputs mean, and what its root says.
use Rattle.std.specs.Prelude.{◌≡◌, ℕ, ◌≤◌, true, false, List, [], ◌∷◌, ◌++◌, length, map, take}
use Rattle.std.specs.Prelude.{drop, ℤ}
use Rattle.dsv_word.specs.declared.format.Format.{Format}
use Rattle.dsv_word.specs.Words.{width}
use Rattle.dsv_system.specs.Systems.{zeros, AreInRange}
use Rattle.dsv_system.specs.Cycles.{Cycles}
use Rattle.dsv_netlist.specs.Nodes.{Net}
use Rattle.dsv_netlist.specs.Systems.{system_of, runs_of}
use Rattle.dsv_template.specs.declared.candidate.Candidate.{Candidate}
use Rattle.dsv_template.specs.declared.verdict.SetPart.{SetPart}
use Rattle.dsv_template.specs.declared.verdict.SetPart.TheVariants as part
use Rattle.dsv_template.specs.Kept.{LeavesEarly, LeavesLater, BreaksFrom}
use Rattle.dsv_term.specs.declared.word.Word.{Word}
use Rattle.dsv_term.specs.Word.{signed_of, bit_of}

-- the number of a format's word that this value spells in two's complement
abbrev pub spelled_word : Format → ℕ → ℤ
spelled_word format value = signed_of (record { width = width format; number = value })

-- the words that the values spell
abbrev pub spelled_words : Format → List ℕ → List ℤ
spelled_words format values = map (spelled_word format) values

-- the start words: 0 in the feed-forward registers, and the words that the values spell
abbrev pub cycle_start : Net → List ℕ → List ℤ
cycle_start net values = zeros net.feed_forward ++ spelled_words net.format values

-- the start has a cycle of a period up to this one
abbrev pub HasCycle : Net → List ℤ → ℕ → Type 0
HasCycle net start periods = (p : ℕ) × (1 ≤ p) × (p ≤ periods)
    × Cycles (runs_of net) start p

-- The bit is 1 exactly where this holds, and else 0.
pub record Tells (bit : Word) (holds : Type 0) : Type 0 where
  pub one : holds → bit ≡ bit_of true
  pub zero : (holds → ⊥) → bit ≡ bit_of false
  pub only : bit ≡ bit_of true → holds

-- ---- sets
-- the words of a start, and the inputs after them
abbrev pub start_of : Net → List ℤ → List ℤ
start_of net words = take (length net.next) words

abbrev pub inputs_of : Net → List ℤ → List ℤ
inputs_of net words = drop (length net.next) words

-- These words break a sentence of the candidate: for the base they are inputs, and after some of
-- them the registers aren't in the set; for the others they are a start and inputs.
abbrev pub BreaksPart : Net → ℤ → ℤ → Candidate → SetPart → List ℤ → Type 0
BreaksPart net low high candidate part.Base words = AreInRange low high words
    × ((n : ℕ) × LeavesEarly (List ℤ) (system_of net) low high candidate (take n words))
BreaksPart net low high candidate part.Step words =
    LeavesLater (List ℤ) (system_of net) low high candidate (start_of net words)
    (inputs_of net words)
BreaksPart net low high candidate part.Safe words = (x : ℤ) × (inputs_of net words ≡ x ∷ [])
    × BreaksFrom (List ℤ) (system_of net) low high candidate (start_of net words) x
