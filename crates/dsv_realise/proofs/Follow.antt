-- One step that is one sample of the equations makes whole runs the same.
use Rattle.std.proofs.Common.{◌≡◌, List, [], ◌∷◌, refl}
use Rattle.std.proofs.Math.IntN.{ℤ}
use Rattle.dsv_netlist.specs.Nodes.{Net, step_of}
use Rattle.dsv_system.specs.Runs.{Sampled, rows_from, past_after}
use Rattle.dsv_system.specs.Systems.{rows, registers_after}
use Rattle.dsv_netlist.specs.Systems.{system_of}

-- one step of the netlist is one sample of the equations, which keeps what is good
pub record Follows (P : Type 0) (net : Net) (regs : P → List ℤ) (sample : P → ℤ → Sampled P) (IsGood : P → Type 0) (p : P) (x : ℤ) : Type 0 where
  pub y : (step_of net (regs p) x).y ≡ (sample p x).y
  pub exact : (step_of net (regs p) x).exact ≡ (sample p x).exact
  pub after : (step_of net (regs p) x).past ≡ regs (sample p x).past
  pub good : IsGood (sample p x).past

pub same_rows : (P : Type 0) (net : Net) (regs : P → List ℤ) (sample : P → ℤ → Sampled P) (IsGood : P → Type 0) → ((p : P) (x : ℤ) → IsGood p → Follows P net regs sample IsGood p x) → (p : P) (xs : List ℤ) → IsGood p → rows (system_of net) (regs p) xs ≡ rows_from sample p xs
same_rows P net regs sample IsGood f p [] g = refl
same_rows P net regs sample IsGood f p (x ∷ xs) g =
    let h = f p x g in
    let q = (sample p x).past in
    let e : rows (system_of net) (step_of net (regs p) x).past xs ≡ rows_from sample q xs = rw h.after (same_rows P net regs sample IsGood f q xs h.good) in
    rw (h.y, h.exact, e) refl

pub same_registers : (P : Type 0) (net : Net) (regs : P → List ℤ) (sample : P → ℤ → Sampled P) (IsGood : P → Type 0) → ((p : P) (x : ℤ) → IsGood p → Follows P net regs sample IsGood p x) → (p : P) (xs : List ℤ) → IsGood p → registers_after (system_of net) (regs p) xs ≡ regs (past_after sample p xs)
same_registers P net regs sample IsGood f p [] g = refl
same_registers P net regs sample IsGood f p (x ∷ xs) g =
    let h = f p x g in
    rw h.after (same_registers P net regs sample IsGood f (sample p x).past xs h.good)
