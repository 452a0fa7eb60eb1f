-- What breaks a candidate's sentences breaks them in each system that runs alike.
use Rattle.std.proofs.Common.{◌≡◌, ℕ, List, [], ◌∷◌, ◌∙◌, ap, sym, subst, length, take, drop}
use Rattle.std.proofs.Math.IntN.{ℤ, pos}
use Rattle.std.specs.List.{All, Contains}
use Rattle.std.proofs.lemmas.List.{length-replicate}
use Rattle.dsv_word.specs.declared.format.Format.{Format}
use Rattle.dsv_word.specs.Words.{IsWord}
use Rattle.dsv_netlist.specs.Nodes.{Net}
use Rattle.dsv_netlist.specs.Systems.{system_of}
use Rattle.dsv_system.specs.Breaks.{IsOutside}
use Rattle.dsv_system.specs.Runs.{SampleRow}
use Rattle.dsv_system.specs.Systems.{System, registers_after, zeros, behaviour_of, Agree}
use Rattle.dsv_template.specs.declared.candidate.Candidate.{Candidate}
use Rattle.dsv_template.specs.declared.verdict.SetPart.{SetPart}
use Rattle.dsv_template.specs.declared.verdict.SetPart.TheVariants as part
use Rattle.dsv_template.specs.Candidates.{IsInSet}
use Rattle.dsv_template.specs.Kept.{IsState, LeavesEarly, LeavesLater, BreaksFrom}
use Rattle.dsv_unroll.specs.Words.{BreaksPart}
use Rattle.dsv_invariant.specs.Breaking.{BreakIn}

pub zero_registers : (P Q : Type 0) (m : System P) (n : System Q) (xs : List ℤ) → Agree (behaviour_of m) (behaviour_of n) → registers_after m (zeros m.many) xs ≡ registers_after n (zeros n.many) xs
zero_registers P Q m n xs a =
    a.registers (zeros m.many) xs (length-replicate m.many (pos 0) ∙ a.many) ∙ ap (λ (k : ℕ). registers_after n (zeros k) xs) a.many

pub state_alike : (P Q : Type 0) (m : System P) (n : System Q) (start : List ℤ) → Agree (behaviour_of m) (behaviour_of n) → IsState P m start → IsState Q n start
state_alike P Q m n start a s = record {
  many = s.many ∙ a.many;
  words = subst (λ (f : Format). All (IsWord f) start) a.format s.words;
}

early_alike : (P Q : Type 0) (m : System P) (n : System Q) (low high : ℤ) (c : Candidate) (inputs : List ℤ) → Agree (behaviour_of m) (behaviour_of n) → LeavesEarly P m low high c inputs → LeavesEarly Q n low high c inputs
early_alike P Q m n low high c inputs a h = record {
  in_range = h.in_range;
  few = h.few;
  outside = λ i. h.outside (subst (IsInSet c) (sym (zero_registers P Q m n inputs a)) i);
}

later_alike : (P Q : Type 0) (m : System P) (n : System Q) (low high : ℤ) (c : Candidate) (start inputs : List ℤ) → Agree (behaviour_of m) (behaviour_of n) → LeavesLater P m low high c start inputs → LeavesLater Q n low high c start inputs
later_alike P Q m n low high c start inputs a h =
    let l : length start ≡ n.many = h.state.many ∙ a.many in
    record {
      state = state_alike P Q m n start a h.state;
      in_range = h.in_range;
      many = h.many;
      inside = λ k p. subst (IsInSet c) (a.registers start (take k inputs) l) (h.inside k p);
      outside = λ i. h.outside (subst (IsInSet c) (sym (a.registers start inputs l)) i);
    }

from_alike : (P Q : Type 0) (m : System P) (n : System Q) (low high : ℤ) (c : Candidate) (start : List ℤ) (x : ℤ) → Agree (behaviour_of m) (behaviour_of n) → BreaksFrom P m low high c start x → BreaksFrom Q n low high c start x
from_alike P Q m n low high c start x a h =
    let l : length start ≡ n.many = h.state.many ∙ a.many in
    let b = h.broken in
    record {
      state = state_alike P Q m n start a h.state;
      inside = h.inside;
      at_least = h.at_least;
      at_most = h.at_most;
      broken = (b.0, subst (λ (rs : List SampleRow). Contains rs b.0) (a.rows start (x ∷ []) l) b.1, subst (λ (f : Format). IsOutside f b.0) a.format b.2);
    }

pub break_alike : (P Q : Type 0) (m : System P) (n : System Q) (low high : ℤ) (c : Candidate) (p : SetPart) (words : List ℤ) → Agree (behaviour_of m) (behaviour_of n) → BreakIn P m low high c p words → BreakIn Q n low high c p words
break_alike P Q m n low high c part.Base words a b = (b.0, (b.1.0, early_alike P Q m n low high c (take b.1.0 words) a b.1.1))
break_alike P Q m n low high c part.Step words a b =
    subst (λ (k : ℕ). LeavesLater Q n low high c (take k words) (drop k words)) a.many (later_alike P Q m n low high c (take m.many words) (drop m.many words) a b)
break_alike P Q m n low high c part.Safe words a b =
    subst (λ (k : ℕ). (x : ℤ) × (drop k words ≡ x ∷ []) × BreaksFrom Q n low high c (take k words) x) a.many
    (b.0, b.1, from_alike P Q m n low high c (take m.many words) b.0 a b.2)

-- ---- netlists
pub given_break : (net : Net) (low high : ℤ) (c : Candidate) (p : SetPart) (words : List ℤ) → BreaksPart net low high c p words → BreakIn (List ℤ) (system_of net) low high c p words
given_break net low high c part.Base words b = b
given_break net low high c part.Step words b = b
given_break net low high c part.Safe words b = b

pub wanted_break : (net : Net) (low high : ℤ) (c : Candidate) (p : SetPart) (words : List ℤ) → BreakIn (List ℤ) (system_of net) low high c p words → BreaksPart net low high c p words
wanted_break net low high c part.Base words b = b
wanted_break net low high c part.Step words b = b
wanted_break net low high c part.Safe words b = b
