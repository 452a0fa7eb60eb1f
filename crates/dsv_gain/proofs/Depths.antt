-- The depth of the first pass.
use Rattle.std.proofs.Common.{◌≡◌, ℕ, zero, suc, List, [], ◌∷◌, take, sym, subst, arith}
use Rattle.std.specs.List.{All}
use Rattle.std.proofs.Math.IntN.{ℤ, pos}
use Rattle.std.proofs.lemmas.Int.{ints}
use Rattle.std.proofs.lemmas.List.Elements.{All-head, All-tail, All-nil, All-cons, All-weaker}
use Rattle.dsv_word.specs.Words.{IsWord}
use Rattle.dsv_system.specs.Breaks.{IsInside}
use Rattle.dsv_system.specs.Runs.{row_at, rows_from}
use Rattle.dsv_system.specs.Systems.{AreInRange}
use Rattle.dsv_netlist.specs.Nodes.{Net, sample_of, step_of}
use Rattle.dsv_netlist.specs.Conditions.{IsNetlist}
use Rattle.dsv_linear.specs.Forms.{range}
use Rattle.dsv_linear.proofs.Runs.{all_between}
use Rattle.dsv_network.specs.declared.outlook.Gain.{Gain}
use Rattle.dsv_network.specs.declared.outlook.Outlook.TheVariants as outlook
use Rattle.dsv_network.specs.Runs.{Fits}
use Rattle.dsv_network.specs.Laws.{AreFit}
use Rattle.dsv_network.proofs.Depths.{IsSafe}
use Rattle.dsv_network.proofs.Depths as depths
use Rattle.dsv_network.proofs.Forgetting as forgetting
use Rattle.dsv_gain.specs.Gains.{symbol_of_range, register_symbols, words_network, first_gain}
use Rattle.dsv_gain.specs.Safe.{AreRegisters, AreInsideFor}
use Rattle.dsv_gain.proofs.Values.{word_fits, fits_word}
use Rattle.dsv_gain.proofs.WordRuns.{exact_is, values_over, run_given}
use Rattle.dsv_gain.proofs.Symbols.{symbols_long, registers_in, inputs_lie}

pub first_found_again : (net : Net) (low high : ℤ) (limit : ℕ) (gain : Gain) → first_gain net low high limit ≡ outlook.Safe gain → IsSafe (first_gain net low high (suc gain.depth))
unfolding first_gain
first_found_again net low high limit gain h = depths.found_again (words_network net low high) (register_symbols net low high) limit gain h

-- ---- rows and the values of nodes
fits_all : (net : Net) (low high : ℤ) (words xs : List ℤ) (n : ℕ) → All (IsInside net.format) (take n (rows_from (step_of net) words xs)) → All (AreFit (words_network net low high) (pos 1)) (take n (values_over net words xs))
fits_all net low high words xs zero a = All-nil (AreFit (words_network net low high) (pos 1))
fits_all net low high words [] (suc n) a = All-nil (AreFit (words_network net low high) (pos 1))
fits_all net low high words (x ∷ xs) (suc n) a =
    let step = step_of net words x in
    let rest = take n (rows_from (step_of net) step.past xs) in
    let values = (sample_of net.format words x net.nodes).values in
    let Q = Fits net.format (pos 1) in
    All-cons (AreFit (words_network net low high) (pos 1)) values (take n (values_over net step.past xs))
    (subst (All Q) (sym (exact_is net.format (symbol_of_range (range low high)) words x net.nodes)) (All-weaker (IsWord net.format) Q (λ v w. word_fits net.format v w) step.exact (All-head (IsInside net.format) (row_at step x) rest a)))
    (fits_all net low high step.past xs n (All-tail (IsInside net.format) (row_at step x) rest a))

inside_all : (net : Net) (low high : ℤ) (words xs : List ℤ) (n : ℕ) → All (AreFit (words_network net low high) (pos 1)) (take n (values_over net words xs)) → All (IsInside net.format) (take n (rows_from (step_of net) words xs))
inside_all net low high words xs zero a = All-nil (IsInside net.format)
inside_all net low high words [] (suc n) a = All-nil (IsInside net.format)
inside_all net low high words (x ∷ xs) (suc n) a =
    let step = step_of net words x in
    let rest = take n (values_over net step.past xs) in
    let values = (sample_of net.format words x net.nodes).values in
    let Q = Fits net.format (pos 1) in
    let fit = AreFit (words_network net low high) (pos 1) in
    All-cons (IsInside net.format) (row_at step x) (take n (rows_from (step_of net) step.past xs))
    (All-weaker Q (IsWord net.format) (λ v b. fits_word net.format v b) step.exact (subst (All Q) (exact_is net.format (symbol_of_range (range low high)) words x net.nodes) (All-head fit values rest a)))
    (inside_all net low high step.past xs n (All-tail fit values rest a))

-- ---- the law
pub first_forgets : (net : Net) (low high : ℤ) (limit : ℕ) (gain : Gain) → IsNetlist net → IsWord net.format low → IsWord net.format high → first_gain net low high limit ≡ outlook.Safe gain
    → (registers xs : List ℤ) → AreRegisters net low high registers → AreInRange low high xs → AreInsideFor net registers xs gain.depth → AreInsideFor net registers xs (suc gain.depth)
unfolding first_gain
first_forgets net low high limit gain n l h e registers xs r a inside =
    inside_all net low high registers xs (suc gain.depth)
    (forgetting.depths_forget (words_network net low high) (register_symbols net low high) limit gain e (symbols_long net low high n) (pos 1) (omega (arith, ints)) registers (values_over net registers xs) (registers_in net low high registers n r)
    (run_given net (symbol_of_range (range low high)) registers xs (inputs_lie low high xs (all_between low high xs a))) (fits_all net low high registers xs gain.depth inside))
