-- Runs of netlists go on from their registers alone, and so do those of systems that run alike.
use Rattle.std.proofs.Common.{◌≡◌, ℕ, List, [], ◌∷◌, ◌++◌, ◌∙◌, refl, ap, sym, subst, length, arith}
use Rattle.std.specs.Prelude.{◌≤ℤ◌}
use Rattle.std.proofs.Math.IntN.{ℤ, pos}
use Rattle.std.proofs.lemmas.Int.{ints}
use Rattle.std.proofs.lemmas.List.{length-map, length-replicate}
use Rattle.std.proofs.lemmas.List.Elements.{All-head, All-tail}
use Rattle.dsv_word.specs.Words.{width, lo, hi, IsWord}
use Rattle.dsv_bounded.proofs.WordValues.{zeros_are_words}
use Rattle.dsv_netlist.specs.Conditions.{IsNetlist}
use Rattle.dsv_netlist.specs.Nodes.{Net, at, sample_of, step_of}
use Rattle.dsv_netlist.specs.Systems.{system_of}
use Rattle.dsv_system.specs.Runs.{SampleRow}
use Rattle.dsv_system.specs.Systems.{System, rows, registers_after, zeros, AreInRange, behaviour_of, Agree}
use Rattle.dsv_system.proofs.RunLemmas.{past-append, rows-append}
use Rattle.dsv_template.specs.Kept.{IsState, IsStepwise}
use Rattle.dsv_unroll.proofs.Runs.{registers_words}
use Rattle.dsv_invariant.proofs.Alike.{state_alike}

-- ---- netlists
-- an input in range is a word
pub word_in_range : (net : Net) (low high x : ℤ) → lo (width net.format) ≤ℤ low → high ≤ℤ hi (width net.format) → (low ≤ℤ x) × (x ≤ℤ high) → IsWord net.format x
word_in_range net low high x l h r = let a = r.0 in let b = r.1 in record { low = omega (arith, ints); high = omega (arith, ints) }

pub next_state : (net : Net) (start : List ℤ) (x : ℤ) → IsNetlist net → IsState (List ℤ) (system_of net) start → IsWord net.format x → IsState (List ℤ) (system_of net) (step_of net start x).past
next_state net start x n s w = record {
  many = length-map net.next (at (sample_of net.format start x net.nodes).values);
  words = registers_words net start x n (record { many = s.many; words = s.words; input = w });
}

net_states : (net : Net) (low high : ℤ) (start xs : List ℤ) → IsNetlist net → lo (width net.format) ≤ℤ low → high ≤ℤ hi (width net.format) → IsState (List ℤ) (system_of net) start → AreInRange low high xs
    → IsState (List ℤ) (system_of net) (registers_after (system_of net) start xs)
net_states net low high start [] n l h s r = s
net_states net low high start (x ∷ xs) n l h s r =
    let R : ℤ → Type 0 = λ z. (low ≤ℤ z) × (z ≤ℤ high) in
    let one = next_state net start x n s (word_in_range net low high x l h (All-head R x xs r)) in
    net_states net low high (step_of net start x).past xs n l h one (All-tail R x xs r)

pub net_stepwise : (net : Net) (low high : ℤ) → IsNetlist net → lo (width net.format) ≤ℤ low → high ≤ℤ hi (width net.format) → IsStepwise (List ℤ) (system_of net) low high
net_stepwise net low high n l h = record {
  begins = record { many = length-replicate (length net.next) (pos 0); words = zeros_are_words net.format (zeros (length net.next)) (length net.next) refl };
  states = λ start xs s r. net_states net low high start xs n l h s r;
  registers = λ start xs ys s r. past-append (step_of net) start xs ys;
  rows = λ start xs ys s r. rows-append (step_of net) start xs ys;
}

-- ---- systems that run alike
pub stepwise_alike : (P Q : Type 0) (m : System P) (n : System Q) (low high : ℤ) → Agree (behaviour_of m) (behaviour_of n) → Agree (behaviour_of n) (behaviour_of m) → IsStepwise P m low high → IsStepwise Q n low high
stepwise_alike P Q m n low high a b s =
    let start_of : (start : List ℤ) → IsState Q n start → IsState P m start = λ start t. state_alike Q P n m start b t in
    let after : (start xs : List ℤ) → IsState Q n start → registers_after n start xs ≡ registers_after m start xs = λ start xs t. b.registers start xs (t.many ∙ b.many) in
    let states : (start xs : List ℤ) → IsState Q n start → AreInRange low high xs → IsState Q n (registers_after n start xs)
    = λ start xs t r. subst (IsState Q n) (sym (after start xs t)) (state_alike P Q m n (registers_after m start xs) a (s.states start xs (start_of start t) r)) in
    record {
      begins = state_alike P Q m n (zeros n.many) a (subst (λ (k : ℕ). IsState P m (zeros k)) a.many s.begins);
      states = states;
      registers = λ start xs ys t r.
          after start (xs ++ ys) t ∙ (s.registers start xs ys (start_of start t) r ∙ (ap (λ (rs : List ℤ). registers_after m rs ys) (sym (after start xs t))
          ∙ sym (after (registers_after n start xs) ys (states start xs t r))));
      rows = λ start xs ys t r.
          let now = registers_after n start xs in
          let u = states start xs t r in
          b.rows start (xs ++ ys) (t.many ∙ b.many) ∙ (s.rows start xs ys (start_of start t) r
          ∙ (ap (λ (rs : List SampleRow). rs ++ rows m (registers_after m start xs) ys) (sym (b.rows start xs (t.many ∙ b.many)))
          ∙ (ap (λ (rs : List ℤ). rows n start xs ++ rows m rs ys) (sym (after start xs t))
          ∙ ap (λ (rs : List SampleRow). rows n start xs ++ rs) (sym (b.rows now ys (u.many ∙ b.many))))));
    }
