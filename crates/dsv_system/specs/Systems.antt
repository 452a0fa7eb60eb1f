-- Systems that run in words: the written equations of a realisation are one, and so is its netlist.
use Rattle.std.specs.Prelude.{◌≡◌, ℕ, List, length, replicate, ℤ, pos, ◌≤ℤ◌}
use Rattle.std.specs.List.{All}
use Rattle.dsv_word.specs.declared.format.Format.{Format}
use Rattle.dsv_system.specs.Runs.{Sampled, SampleRow, rows_from, past_after}

-- how a system starts from words in its registers, one sample, the registers in a past, how many
-- there are and how many of the first ones are feed-forward, and the format
pub record System (P : Type 0) : Type 0 where
  pub start : List ℤ → P
  pub sample : P → ℤ → Sampled P
  pub registers : P → List ℤ
  pub many : ℕ
  pub forward : ℕ
  pub format : Format

-- the rows of a run from these words in the registers, over these inputs
abbrev pub rows : {P : Type 0} → System P → List ℤ → List ℤ → List SampleRow
rows m start xs = rows_from m.sample (m.start start) xs

-- the registers after these inputs
abbrev pub registers_after : {P : Type 0} → System P → List ℤ → List ℤ → List ℤ
registers_after m start xs = m.registers (past_after m.sample (m.start start) xs)

abbrev pub zeros : ℕ → List ℤ
zeros n = replicate n (pos 0)

abbrev pub AreInRange : ℤ → ℤ → List ℤ → Type 0
AreInRange low high xs = All (λ x. (low ≤ℤ x) × (x ≤ℤ high)) xs

-- ---- what a system does from words in its registers, whatever pasts it keeps
-- the rows of a run from words in the registers over inputs, the registers after it, how many there
-- are and how many of the first ones are feed-forward, and the format
pub record Behaviour : Type 0 where
  pub rows : List ℤ → List ℤ → List SampleRow
  pub registers : List ℤ → List ℤ → List ℤ
  pub many : ℕ
  pub forward : ℕ
  pub format : Format

-- what a system does, whatever pasts it keeps
abbrev pub behaviour_of : {P : Type 0} → System P → Behaviour
behaviour_of m = record {
  rows = rows m;
  registers = registers_after m;
  many = m.many;
  forward = m.forward;
  format = m.format;
}

-- Two behaviours that nothing tells apart: as many registers, as many of them feed-forward, the
-- same format, and from every start with so many words and over all inputs the same rows and the
-- same registers.
pub record Agree (b c : Behaviour) : Type 0 where
  pub many : b.many ≡ c.many
  pub forward : b.forward ≡ c.forward
  pub format : b.format ≡ c.format
  pub rows : (start xs : List ℤ) → length start ≡ c.many → b.rows start xs ≡ c.rows start xs
  pub registers : (start xs : List ℤ) → length start ≡ c.many
      → b.registers start xs ≡ c.registers start xs
