-- What the program of a netlist does.
use Rattle.std.specs.Prelude.{◌≡◌, List, ◌∷◌, ◌++◌, length, map, Some, ℤ}
use Rattle.std.specs.List.{All}
use Rattle.dsv_word.specs.Words.{IsWord, width, fit}
use Rattle.dsv_system.specs.Runs.{SampleRow, Sampled}
use Rattle.dsv_system.specs.Systems.{Behaviour, Agree, zeros}
use Rattle.dsv_netlist.specs.Nodes.{Net, step_of}
use Rattle.dsv_netlist.specs.Conditions.{IsNetlist}
use Rattle.dsv_netlist.specs.Law.{AreWords}
use Rattle.dsv_netlist.specs.Systems.{runs_of}
use Rattle.dsv_c.specs.Meaning.{CValue, c_value, scope, after_declarations, calls_of, start_of}
use Rattle.dsv_c.specs.Meaning.{StepResult, code_step, members_after_init, code_results}
use Rattle.dsv_c.specs.Programs.{word_type, program_of}
use Rattle.dsv_c.specs.Codable.{IsCodable}

abbrev pub step_result : Sampled (List ℤ) → StepResult
step_result s = record { result = s.y; members = s.past }

-- from registers and an input that are words, a step of the code isn't stuck, and gives the output
-- and the registers that the netlist's step gives
abbrev pub CodeStepsAsNetlist : Type 0
CodeStepsAsNetlist = (net : Net) (registers : List ℤ) (x : ℤ)
    → IsNetlist net → IsCodable net → AreWords net registers x
    → code_step (program_of net) registers x ≡ Some (step_result (step_of net registers x))

-- The locals of a step: the input, the registers, and the word that each exact value becomes, in
-- their order. So value_j in the text is value j of the reports.
abbrev pub locals_in : Net → List ℤ → ℤ → List ℤ
locals_in net registers x = (x ∷ registers)
    ++ map (fit net.format.overflow (width net.format)) (step_of net registers x).exact

abbrev pub as_locals : Net → List ℤ → List CValue
as_locals net words = map (c_value (word_type net.format)) words

abbrev pub CodeValuesAsNetlist : Type 0
CodeValuesAsNetlist = (net : Net) (registers : List ℤ) (x : ℤ)
    → IsNetlist net → IsCodable net → AreWords net registers x
    → after_declarations (calls_of (program_of net)) (program_of net).locals
    (start_of (program_of net) registers x)
    ≡ Some (scope (as_locals net (locals_in net registers x)) (as_locals net registers))

-- init sets as many registers as there are to 0
abbrev pub CodeStartsAsNetlist : Type 0
CodeStartsAsNetlist = (net : Net) (members : List ℤ) → length members ≡ length net.next
    → members_after_init (program_of net) members ≡ Some (zeros (length net.next))

-- over any list of words, from any words in the registers, the code's results are the outputs of
-- whatever agrees with the netlist, as the written equations do
abbrev pub CodeRunsAsNetlist : Type 0
CodeRunsAsNetlist = (net : Net) (b : Behaviour) (registers xs : List ℤ)
    → Agree (runs_of net) b → IsNetlist net → IsCodable net
    → length registers ≡ length net.next
    → All (IsWord net.format) registers → All (IsWord net.format) xs
    → code_results (program_of net) registers xs
    ≡ Some (map (λ (r : SampleRow). r.y) (b.rows registers xs))
