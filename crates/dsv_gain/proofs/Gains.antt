-- The ranges of the first pass hold in every run.
use Rattle.std.proofs.Common.{◌≡◌, ℕ, List, [], ◌∷◌, length, refl, sym, subst, arith}
use Rattle.std.specs.List.{All}
use Rattle.std.proofs.Math.IntN.{ℤ, pos}
use Rattle.std.proofs.lemmas.Int.{ints}
use Rattle.std.proofs.lemmas.List.Elements.{All-head, All-tail, All-weaker}
use Rattle.dsv_word.specs.Words.{IsWord}
use Rattle.dsv_system.specs.Runs.{SampleRow, rows_from}
use Rattle.dsv_system.specs.Systems.{zeros}
use Rattle.dsv_system.specs.Breaks.{IsInside}
use Rattle.dsv_system.proofs.Words.{no_break}
use Rattle.dsv_netlist.specs.Nodes.{Net, step_of}
use Rattle.dsv_netlist.specs.Conditions.{IsNetlist}
use Rattle.dsv_linear.specs.Facts.{Between}
use Rattle.dsv_linear.specs.declared.range.Range.{Range}
use Rattle.dsv_linear.specs.Forms.{range}
use Rattle.dsv_linear.proofs.Runs.{all_between}
use Rattle.dsv_network.specs.declared.outlook.Gain.{Gain}
use Rattle.dsv_network.specs.declared.outlook.Outlook.TheVariants as outlook
use Rattle.dsv_network.specs.Runs.{RunsGiven}
use Rattle.dsv_network.specs.Laws.{IsWithin}
use Rattle.dsv_network.proofs.Holding.{AreKept}
use Rattle.dsv_network.proofs.Finds.{gain_holds, gains_within}
use Rattle.dsv_gain.specs.Gains.{symbol_of_range, register_symbols, words_network, first_gain}
use Rattle.dsv_gain.specs.Safe.{AreRegisters, LieWithin, HoldInRuns, NeverBreaks}
use Rattle.dsv_gain.proofs.Values.{lie_words}
use Rattle.dsv_gain.proofs.WordRuns.{values_over, run_given, rows_lie}
use Rattle.dsv_gain.proofs.Pasts.{zeros_registers, step_registers}
use Rattle.dsv_gain.proofs.Symbols.{registers_in, inputs_lie}

-- a run from here on
record IsRun (net : Net) (low high : ℤ) (samples : List (List ℤ)) : Type 0 where
  words : List ℤ
  xs : List ℤ
  in_range : All (Between low high) xs
  registers : AreRegisters net low high words
  are : samples ≡ values_over net words xs

run_next : (net : Net) (low high : ℤ) (values : List ℤ) (samples : List (List ℤ)) → IsNetlist net → IsWord net.format low → IsWord net.format high → (words xs : List ℤ) → All (Between low high) xs → AreRegisters net low high words
    → values ∷ samples ≡ values_over net words xs → IsRun net low high samples
run_next net low high values samples n l h words [] a r e = absurd cc
run_next net low high values samples n l h words (x ∷ xs) a r e = record {
  words = (step_of net words x).past;
  xs = xs;
  in_range = All-tail (Between low high) x xs a;
  registers = step_registers net low high words x n l h (All-head (Between low high) x xs a) r;
  are = cc;
}

-- which keep their starts
runs_kept : (net : Net) (low high : ℤ) (ranges : List Range) → IsNetlist net → IsWord net.format low → IsWord net.format high → AreKept (words_network net low high) (pos 1) (register_symbols net low high) ranges (IsRun net low high)
runs_kept net low high ranges n l h = record {
  registers = λ samples r. r.words;
  given = λ samples r. subst (λ (v : List (List ℤ)). RunsGiven (words_network net low high) (pos 1) r.words v) (sym r.are) (run_given net (symbol_of_range (range low high)) r.words r.xs (inputs_lie low high r.xs r.in_range));
  inside = λ samples r. registers_in net low high r.words n r.registers;
  next = λ values samples r q. run_next net low high values samples n l h r.words r.xs r.in_range r.registers r.are;
}

pub first_safe : (net : Net) (low high : ℤ) (limit : ℕ) (gain : Gain) → IsNetlist net → IsWord net.format low → IsWord net.format high → first_gain net low high limit ≡ outlook.Safe gain → HoldInRuns net low high gain.ranges
unfolding first_gain
first_safe net low high limit gain n l h e xs a =
    let start = zeros (length net.next) in
    let input = symbol_of_range (range low high) in
    let inputs = all_between low high xs a in
    let registers = zeros_registers net low high n in
    let samples = values_over net start xs in
    rows_lie net input gain.ranges start xs
    (gain_holds (words_network net low high) (register_symbols net low high) limit gain e (pos 1) (omega (arith, ints)) (IsRun net low high) (runs_kept net low high gain.ranges n l h)
    (registers_in net low high start n registers) samples (record { words = start; xs = xs; in_range = inputs; registers = registers; are = refl }) (run_given net input start xs (inputs_lie low high xs inputs)))

-- where each exact value lies in a range of words, nothing breaks
pub none_breaks : (net : Net) (low high : ℤ) (ranges : List Range) → HoldInRuns net low high ranges → NeverBreaks net low high
none_breaks net low high ranges h xs b =
    let rs = rows_from (step_of net) (zeros (length net.next)) xs in
    no_break net.format rs (All-weaker (λ (r : SampleRow). LieWithin net.format ranges r.exact) (IsInside net.format) (λ r l. lie_words net.format ranges r.exact l) rs (h xs b.in_range)) b.broken

pub first_within : (net : Net) (low high : ℤ) (limit : ℕ) (gain : Gain) → first_gain net low high limit ≡ outlook.Safe gain → IsWithin limit gain
unfolding first_gain
first_within net low high limit gain e = gains_within (words_network net low high) (register_symbols net low high) limit gain e
