-- Starts of netlists.
use Rattle.std.proofs.Common.{◌≡◌, ℕ, ◌≤◌, List, ◌++◌, refl, arith, ap, sym, subst, ◌∙◌, length, take, drop}
use Rattle.std.specs.List.{All}
use Rattle.std.proofs.Math.IntN.{ℤ, pos}
use Rattle.std.proofs.Math.Seq.{take-append_seam}
use Rattle.std.proofs.lemmas.List.{length-append, length-drop, length-replicate}
use Rattle.std.proofs.lemmas.List.Elements.{All-append, All-drop, All-replicate}
use Rattle.dsv_netlist.specs.Nodes.{Net}
use Rattle.dsv_system.specs.Systems.{zeros}
use Rattle.dsv_word.specs.Words.{IsWord}
use Rattle.dsv_bounded.specs.Questions.{IsStart, AreRegisters}
use Rattle.dsv_bounded.proofs.WordValues.{zeros_are_words}

-- zeros, and then the words of the other registers
pub start_stands : (net : Net) (rs start : List ℤ) → net.feed_forward ≤ length net.next → AreRegisters net rs → start ≡ zeros net.feed_forward ++ drop net.feed_forward rs → IsStart net start
start_stands net rs start below r s =
    let k = net.feed_forward in
    let m = r.many in
    let l : k ≤ length rs = omega (arith, m, below) in
    let n = length-replicate k (pos 0) in
    let seam : take k (zeros k ++ drop k rs) ≡ zeros k = subst (λ (i : ℕ). take i (zeros k ++ drop k rs) ≡ zeros k) n (take-append_seam (zeros k) (drop k rs)) in
    let first : take k start ≡ zeros k = ap (λ (xs : List ℤ). take k xs) s ∙ seam in
    record {
      many = omega (arith, ap length s, length-append (zeros k) (drop k rs), n, length-drop k rs, l, m);
      quiet = subst (All (λ (z : ℤ). z ≡ pos 0)) (sym first) (All-replicate (λ (z : ℤ). z ≡ pos 0) k (pos 0) refl);
      words = subst (All (IsWord net.format)) (sym s)
          (All-append (IsWord net.format) (zeros k) (drop k rs) (zeros_are_words net.format (zeros k) k refl) (All-drop (IsWord net.format) k rs r.words));
    }
