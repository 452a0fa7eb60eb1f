-- What the facts of a netlist's run say.
use Rattle.std.specs.Prelude.{◌≡◌, ℕ, ◌<◌, List, [], ◌∷◌, ◌++◌, length, take, slice_index_or}
use Rattle.std.specs.Prelude.{ℤ, ◌≤ℤ◌}
use Rattle.std.specs.List.{All}
use Rattle.dsv_word.specs.declared.format.Format.{Format}
use Rattle.dsv_word.specs.Words.{IsWord}
use Rattle.dsv_system.specs.Runs.{SampleRow}
use Rattle.dsv_system.specs.Systems.{rows, zeros, AreInRange}
use Rattle.dsv_netlist.specs.Nodes.{Net, at}
use Rattle.dsv_netlist.specs.Systems.{system_of}
use Rattle.dsv_linear.specs.declared.fact.Fact.{Fact}
use Rattle.dsv_linear.specs.declared.fact.Fact.TheVariants as fact

-- v isn't below the one nor above the other
pub record Between (low high v : ℤ) : Type 0 where
  pub least : low ≤ℤ v
  pub most : v ≤ℤ high

-- two ends that are words, and a value between them
pub record LiesWithin (format : Format) (low high v : ℤ) : Type 0 where
  pub low_word : IsWord format low
  pub high_word : IsWord format high
  pub between : Between low high v

-- the fact is true of a value
abbrev pub HoldsOf : Format → Fact → ℤ → Type 0
HoldsOf format fact.Open v = Unit {0}
HoldsOf format fact.Inside v = IsWord format v
HoldsOf format (fact.Within low high) v = LiesWithin format low high v

-- Each exact value has its fact, nothing being said of those after the last: it is true of the
-- value if all exact values before it are words.
abbrev pub Hold : Format → List Fact → List ℤ → Type 0
Hold format facts exact = (m : ℕ) → m < length exact → All (IsWord format) (take m exact)
    → HoldsOf format (slice_index_or facts m fact.Open) (at exact m)

-- the exact values of these samples, in their order
abbrev pub exact_values : List SampleRow → List ℤ
exact_values [] = []
exact_values (row ∷ rows) = row.exact ++ exact_values rows

-- over all lists of `samples` inputs in the range, from registers of zeros, the facts hold of the
-- netlist's exact values
abbrev pub AreFacts : Net → ℤ → ℤ → ℕ → List Fact → Type 0
AreFacts net low high samples facts = (xs : List ℤ) → length xs ≡ samples → AreInRange low high xs
    → Hold net.format facts (exact_values (rows (system_of net) (zeros (length net.next)) xs))
