-- The ranges of a depth hold in every run from registers of zeros that stay in their starts.
use Rattle.std.proofs.Common.{◌≡◌, ℕ, zero, suc, List, [], ◌∷◌, length, map, take, refl, sym, subst, ap, ◌∙◌, arith}
use Rattle.std.specs.Prelude.{Option, Some, None}
use Rattle.std.specs.List.{All}
use Rattle.std.proofs.Math.IntN.{ℤ, pos}
use Rattle.std.proofs.lemmas.List.{length-replicate}
use Rattle.std.proofs.lemmas.List.Elements.{All-head, All-tail, All-nil, All-cons, All-weaker}
use lib.Signed.{◌<ℤ◌}
use Rattle.dsv_system.specs.Systems.{zeros}
use Rattle.dsv_netlist.specs.Nodes.{at}
use Rattle.dsv_linear.specs.declared.range.Range.{Range}
use Rattle.dsv_linear.specs.Forms.{◌>>=◌}
use Rattle.dsv_linear.proofs.Numbers.{some_of}
use Rattle.dsv_linear.proofs.Meanings.{replicated}
use Rattle.dsv_network.specs.declared.network.Network.{Network}
use Rattle.dsv_network.specs.declared.pass.Pass.{Pass}
use Rattle.dsv_network.specs.Samples.{after_pass}
use Rattle.dsv_network.specs.Gains.{hulls, hulls_after, start_pass, ranges_from, ranges_of}
use Rattle.dsv_network.specs.Runs.{RunsGiven, shown_in, ShowsIn, AreIn, Keeps}
use Rattle.dsv_network.specs.Laws.{HoldInRuns, RangesHold}
use Rattle.dsv_network.proofs.Values.{lie_fits}
use Rattle.dsv_network.proofs.SampleRanges.{pass_words, hulls_left, hulls_right, run_ends, later_words, run_are, after_are}
use Rattle.dsv_network.proofs.Passes.{not_below, run_lies, next_has, all_have}
use Rattle.dsv_network.proofs.Symbols.{in_long, registers_stand}

-- what a pass shows: the ranges of all runs from zeros up to a sample, and those of that sample after any registers in their starts
pub record IsPassed (net : Network) (n : ℕ) (pass : Pass) (seen : Option (List Range)) (ranges : List Range) : Type 0 where
  pub all : List Range
  pub last : List Range
  pub run_is : run_ends (length net.next) net n pass seen ≡ Some all
  pub step_is : later_words 0 net n pass ≡ Some last
  pub ranges_are : hulls all last ≡ ranges

passed : (net : Network) (n : ℕ) (pass : Pass) (seen : Option (List Range)) (ranges : List Range) → ranges_from net.nodes net.next n pass seen ≡ Some ranges → IsPassed net n pass seen ranges
passed net zero pass seen ranges e =
    let one = some_of (pass_words (length net.next) net.nodes pass) (λ now. pass_words 0 net.nodes pass >>= λ last. Some (hulls (hulls_after seen now) last)) ranges e in
    let two = some_of (pass_words 0 net.nodes pass) (λ last. Some (hulls (hulls_after seen one.0) last)) ranges one.2 in
    record {
      all = hulls_after seen one.0;
      last = two.0;
      run_is = ap (λ (o : Option (List Range)). o >>= λ ends. Some (hulls_after seen ends)) one.1;
      step_is = two.1;
      ranges_are = let last = two.2 in cc;
    }
passed net (suc n) pass seen ranges e =
    let after = after_pass net.nodes net.next pass in
    let one = some_of (pass_words (length net.next) net.nodes pass) (λ now. ranges_from net.nodes net.next n after (Some (hulls_after seen now))) ranges e in
    let rest = passed net n after (Some (hulls_after seen one.0)) ranges one.2 in
    record {
      all = rest.all;
      last = rest.last;
      run_is = ap (λ (o : Option (List Range)). o >>= λ ends. run_ends (length net.next) net n after (Some (hulls_after seen ends))) one.1 ∙ rest.run_is;
      step_is = rest.step_is;
      ranges_are = rest.ranges_are;
    }

zeros_long : (n : ℕ) → length (zeros n) ≡ n
zeros_long n = length-replicate n (pos 0)

-- ---- the induction
-- runs from registers in their starts, of which, where a sample shows only what lies in these
-- ranges, what comes after it is one too
pub record AreKept (net : Network) (over : ℤ) (starts ranges : List Range)
    (P : List (List ℤ) → Type 0) : Type 0 where
  pub registers : (samples : List (List ℤ)) → P samples → List ℤ
  pub given : (samples : List (List ℤ)) (p : P samples)
      → RunsGiven net over (registers samples p) samples
  pub inside : (samples : List (List ℤ)) (p : P samples) → AreIn over starts (registers samples p)
  pub next : (values : List ℤ) (samples : List (List ℤ)) → P (values ∷ samples)
      → ShowsIn net over ranges values → P samples

front_part : {X : Type 0} (P : X → Type 0) (n : ℕ) (xs : List X) → All P (take (suc n) xs) → All P (take n xs)
front_part P zero [] a = All-nil P
front_part P (suc n) [] a = All-nil P
front_part P zero (x ∷ xs) a = All-nil P
front_part P (suc n) (x ∷ xs) a = All-cons P x (take n xs) (All-head P x (take (suc n) xs) a) (front_part P n xs (All-tail P x (take (suc n) xs) a))

-- over every denominator, where runs stay in the starts: in each of them from registers of zeros what each sample shows lies in these ranges
abbrev pub HoldAlways : Network → List Range → List Range → Type 1
HoldAlways net starts ranges = (over : ℤ) → pos 0 <ℤ over → (P : List (List ℤ) → Type 0) → AreKept net over starts ranges P → AreIn over starts (zeros (length net.next)) → (samples : List (List ℤ)) → P samples
    → RunsGiven net over (zeros (length net.next)) samples → All (ShowsIn net over ranges) samples

pub passed_hold : (net : Network) (starts : List Range) (n : ℕ) (ranges : List Range) → IsPassed net n (start_pass net starts) None ranges → HoldAlways net starts ranges
passed_hold net starts n ranges it over o P kept begin samples run given =
    let f = net.format in
    let up = not_below over o in
    let pass = start_pass net starts in
    let count = length net.next in
    let zero_start = zeros count in
    let first = run_are count net n pass None it.all refl tt it.run_is in
    let last = after_are 0 net n pass it.last refl it.step_is in
    let long : length it.all ≡ length it.last = first.many ∙ sym last.many in
    let all = hulls it.all it.last in
    let Q = ShowsIn net over all in
    let shown = shown_in [] net.nodes in
    let k = subst (λ (rs : List Range). AreKept net over starts rs P) (sym it.ranges_are) kept in
    let same : length starts ≡ length net.next = sym (in_long over starts zero_start begin) ∙ zeros_long count in
    let lies = run_lies count net over n samples pass zero_start None it.all refl tt it.run_is given (registers_stand count net over starts zero_start o begin same (omega arith) (λ j l. replicated count j (pos 0) (pos 0) l)) in
    let begun = All-weaker (ShowsIn net over it.all) Q (λ values q. hulls_left over f it.all it.last (shown values) up long q last.words) (take (suc n) samples) lies in
    let always = all_have P Q n
    (λ values rest p q. k.next values rest p q)
    (λ rest p q. next_has 0 net over Q n rest pass (k.registers rest p) it.last
    (λ values l. lie_fits over f all (shown values) up l) (λ values l. hulls_right over f it.all it.last (shown values) up long first.words l) it.step_is
    (k.given rest p) (registers_stand 0 net over starts (k.registers rest p) o (k.inside rest p) same (omega arith) (λ j l. absurd (omega arith))) q)
    samples run (front_part Q n samples begun) in
    subst (λ (rs : List Range). All (ShowsIn net over rs) samples) it.ranges_are always

-- ---- starts that every sample keeps
-- from here on, from registers in their starts
record IsRun (net : Network) (over : ℤ) (starts : List Range) (samples : List (List ℤ)) : Type 0 where
  registers : List ℤ
  given : RunsGiven net over registers samples
  inside : AreIn over starts registers

runs_kept : (net : Network) (over : ℤ) (starts ranges : List Range) → Keeps net over starts ranges → AreKept net over starts ranges (IsRun net over starts)
runs_kept net over starts ranges keeps = record {
  registers = λ samples r. r.registers;
  given = λ samples r. r.given;
  inside = λ samples r. r.inside;
  next = λ values samples r l. record { registers = map (at values) net.next; given = r.given.1; inside = keeps r.registers values r.inside r.given.0 l };
}

pub hold_always : (net : Network) (starts ranges : List Range) → HoldAlways net starts ranges → HoldInRuns net starts ranges
hold_always net starts ranges h over o keeps begin samples given =
    h over o (IsRun net over starts) (runs_kept net over starts ranges keeps) begin samples (record { registers = zeros (length net.next); given = given; inside = begin }) given

pub depth_holds : (net : Network) (starts : List Range) (depth : ℕ) (ranges : List Range) → ranges_of net starts depth ≡ Some ranges → HoldAlways net starts ranges
unfolding ranges_of
depth_holds net starts depth ranges e = passed_hold net starts depth ranges (passed net depth (start_pass net starts) None ranges e)

pub ranges_hold : RangesHold
ranges_hold net starts depth ranges e = hold_always net starts ranges (depth_holds net starts depth ranges e)
