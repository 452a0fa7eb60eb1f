-- Serves private contracts: what breaks the sentences of a candidate, and what is found of one.
use Rattle.std.specs.Prelude.{◌≡◌, ℕ, List, [], ◌∷◌, length, take, drop, ℤ}
use Rattle.dsv_meaning.specs.Equations.{Past}
use Rattle.dsv_meaning.specs.Systems.{equations_of}
use Rattle.dsv_netlist.specs.Nodes.{Net, step_of}
use Rattle.dsv_netlist.specs.Systems.{system_of}
use Rattle.dsv_quantiser.specs.QuantisedView.{QuantisedView}
use Rattle.dsv_system.specs.OutsideValues.{IsFirstOutside}
use Rattle.dsv_system.specs.Systems.{System, registers_after, zeros}
use Rattle.dsv_system.specs.Systems.{AreInRange}
use Rattle.dsv_template.specs.declared.candidate.Candidate.{Candidate}
use Rattle.dsv_template.specs.declared.verdict.SetPart.{SetPart}
use Rattle.dsv_template.specs.declared.verdict.SetPart.TheVariants as part
use Rattle.dsv_template.specs.declared.verdict.Why.{Why}
use Rattle.dsv_template.specs.declared.verdict.Why.TheVariants as why
use Rattle.dsv_template.specs.Candidates.{IsInSet}
use Rattle.dsv_template.specs.Kept.{LeavesEarly, LeavesLater, BreaksFrom}
use Rattle.dsv_invariant.specs.Causes.{HoldBefore, IsFinding}

-- After these inputs, from registers of zeros, the netlist's registers aren't in the set.
abbrev pub DoLeave : Net → Candidate → List ℤ → Type 0
DoLeave net candidate inputs =
    IsInSet candidate (registers_after (system_of net) (zeros (length net.next)) inputs) → ⊥

-- These words break a part's sentence in a system: for the base they are inputs, and after some of
-- them the registers aren't in the set; for the others they are a start and inputs.
abbrev pub BreakIn : (P : Type 0) → System P → ℤ → ℤ → Candidate → SetPart → List ℤ → Type 0
BreakIn P m low high candidate part.Base words = AreInRange low high words
    × ((n : ℕ) × LeavesEarly P m low high candidate (take n words))
BreakIn P m low high candidate part.Step words =
    LeavesLater P m low high candidate (take m.many words) (drop m.many words)
BreakIn P m low high candidate part.Safe words = (x : ℤ) × (drop m.many words ≡ x ∷ [])
    × BreaksFrom P m low high candidate (take m.many words) x

-- the words break the part's sentence in the controller's written equations
abbrev pub DoBreak : QuantisedView → Candidate → SetPart → List ℤ → Type 0
DoBreak q candidate part words =
    BreakIn Past (equations_of q) q.xlo q.xhi candidate part words

-- what is found of a candidate where the sentences before a part's hold
abbrev pub IsFoundAt : QuantisedView → ℕ → Candidate → SetPart → Why → Type 0
IsFoundAt q conflicts candidate part why =
    HoldBefore q candidate part → IsFinding q conflicts candidate why

-- what is found where the part's sentence is broken, however long was searched
abbrev pub IsBreakOf : QuantisedView → Candidate → SetPart → Why → Type 0
IsBreakOf q candidate part why = (conflicts : ℕ) → IsFoundAt q conflicts candidate part why

-- this start and this input, with the first exact value of the netlist's sample that is no word
abbrev pub IsUnsafeSample : Net → List ℤ → ℤ → Why → Type 0
IsUnsafeSample net start input (why.Unsafe given x value exact) = (given ≡ start) × (x ≡ input)
    × IsFirstOutside net.format (step_of net start input).exact value exact
IsUnsafeSample net start input (why.Good logs) = ⊥
IsUnsafeSample net start input (why.Base inputs) = ⊥
IsUnsafeSample net start input (why.Leaves given inputs) = ⊥
IsUnsafeSample net start input (why.Spent part log) = ⊥
IsUnsafeSample net start input why.BadShape = ⊥
