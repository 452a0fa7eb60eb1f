-- The formula of a goal is exact.
use Rattle.std.proofs.Common.{◌≡◌, ℕ, ◌+◌, ◌*◌, ◌<◌, Bool, true, false, ◌||◌, List, [], ◌∷◌, refl, arith, ap, sym, ◌∙◌, length, get_or, inl, inr}
use Rattle.std.specs.Prelude.{slice_index}
use Rattle.std.proofs.lemmas.Bool.{cases_lt}
use Rattle.std.proofs.lemmas.List.Elements.{All-nil, All-cons}
use Rattle.dsv_cnf.specs.Literal.{Literal, literal_value}
use Rattle.dsv_cnf.specs.Formula.{clause_value}
use Rattle.dsv_term.specs.declared.node.TermId.{TermId}
use Rattle.dsv_term.specs.declared.word.Word.{Word}
use Rattle.dsv_term.specs.Terms.{AreTerms, AreValues, width_of, word_of}
use Rattle.dsv_term.specs.TermsView.{TermsView}
use Rattle.dsv_blast.specs.Gates.{positive}
use Rattle.dsv_blast.specs.Words.{bits_value, bit, number_of}
use Rattle.dsv_blast.specs.Blast.{total, bits_at, bits_word, first_circuit, input_places, blast_of, cnf_of, input_values, RunsGates, Agree, IsExact}
use Rattle.dsv_blast.proofs.Truths.{satisfies-left, satisfies-right, satisfies-both}
use Rattle.dsv_blast.proofs.Growth.{IsCircuit}
use Rattle.dsv_blast.proofs.NodeValues.{word-at, width-at}
use Rattle.dsv_blast.proofs.Nodes.{IsNext, AreBuilt, nodes-built}
use Rattle.dsv_blast.proofs.Inputs.{over-places, like-places, values-fit, assigned, assigned-last, places-spell}

unit_says : (b : Bool) → (b || false) ≡ true → b ≡ true
unit_says true h = refl
unit_says false h = h

says_unit : (b : Bool) → b ≡ true → (b || false) ≡ true
says_unit true h = refl
says_unit false h = h

pub first-circuit : (n : ℕ) → IsCircuit (first_circuit n)
first-circuit n =
    let h : n < n + 1 = omega arith in
    record {
      stands = h;
      over = (All-cons (λ (l : Literal). l.var < n + 1) (positive n) [] h (All-nil (λ (l : Literal). l.var < n + 1)), tt);
      fixed = λ v k. unit_says (v n) k.0;
    }

pub start : (t : TermsView) → AreTerms t → IsNext t.inputs (input_places t) [] t.nodes (first_circuit (total t.inputs))
start t h = record {
  bits_of = record {
    sound = first-circuit (total t.inputs);
    placed = over-places 0 t.inputs (total t.inputs + 1) (omega arith);
    over = tt;
    like = like-places 0 t.inputs;
    widths = λ k d p. absurd (omega arith);
  };
  lawful = h.lawful;
}

pub built : (t : TermsView) → AreTerms t → AreBuilt t.inputs (input_places t) [] t.nodes (first_circuit (total t.inputs)) (blast_of t)
unfolding blast_of
built t h = nodes-built t.inputs (input_places t) [] t.nodes (first_circuit (total t.inputs)) h.inputs (start t h)

-- the root of a goal
pub record HasRoot (t : TermsView) (root : TermId) : Type 0 where
  pub terms : AreTerms t
  pub one_bit : width_of t root ≡ 1

root-wide : (t : TermsView) (root : TermId) → HasRoot t root → length (bits_at (blast_of t).bits root.0) ≡ 1
root-wide t root h = sym (width-at (blast_of t).bits root.0) ∙ (ap (λ ws. slice_index ws root.0) (built t h.terms).widths ∙ h.one_bit)

-- the word of a node is what its bits spell
node-word : (t : TermsView) (id : TermId) (v : ℕ → Bool) → AreTerms t → RunsGates t v → word_of t (input_values (input_places t) v) id ≡ bits_word v (bits_at (blast_of t).bits id.0)
node-word t id v h r = ap (λ (ws : List Word). get_or ws id.0 (record { width = 0; number = 0 })) ((built t h).says v r) ∙ word-at v (blast_of t).bits id.0

true_one : (b : Bool) → (b || false) ≡ true → bit b + 2 * 0 ≡ 1
true_one true h = refl
true_one false h = cc

one_true : (b : Bool) → bit b + 2 * 0 ≡ 1 → (b || false) ≡ true
one_true true h = refl
one_true false h = absurd (omega arith)

clause-number : (v : ℕ → Bool) (ls : List Literal) → length ls ≡ 1 → clause_value v ls ≡ true → number_of (bits_value v ls) ≡ 1
clause-number v [] e h = absurd (omega arith)
clause-number v (l ∷ []) e h = true_one (literal_value v l) h
clause-number v (l ∷ m ∷ ls) e h = absurd (omega arith)

number-clause : (v : ℕ → Bool) (ls : List Literal) → length ls ≡ 1 → number_of (bits_value v ls) ≡ 1 → clause_value v ls ≡ true
number-clause v [] e h = absurd (omega arith)
number-clause v (l ∷ []) e h = one_true (literal_value v l) h
number-clause v (l ∷ m ∷ ls) e h = absurd (omega arith)

agree_next : (n : ℕ) (v w : ℕ → Bool) → Agree n v w → v n ≡ w n → Agree (n + 1) v w
agree_next n v w a e = λ k h. elim (cases_lt k n) [ inl l ↦ a k l | inr l ↦ let s : k ≡ n = omega arith in rw s e ]

all_runs : (t : TermsView) (values : List ℕ) → AreTerms t → AreValues t.inputs values → (v : ℕ → Bool) × ((input_values (input_places t) v ≡ values) × RunsGates t v)
all_runs t values h a =
    let n = total t.inputs in
    let b = built t h in
    let first : ℕ → Bool = assigned t.inputs values in
    let p = b.grows.runs first (says_unit (first n) (assigned-last t.inputs values), tt) in
    (p.values, (places-spell p.values 0 t.inputs values (λ k lt. ap p.values (omega arith) ∙ sym (p.agrees k (omega arith))) a, p.holds))

pub exact : (t : TermsView) (root : TermId) → HasRoot t root → IsExact t root (cnf_of t root)
unfolding cnf_of
exact t root h =
    let b = built t h.terms in
    let wide = root-wide t root h in
    let gates = (blast_of t).circuit.formula.clauses in
    let bits = bits_at (blast_of t).bits root.0 in
    record {
      values = values-fit t.inputs;
      nodes = λ v r i less. sym (node-word t (record { 0 = i }) v h.terms r);
      makes = λ v s.
          let r = satisfies-left v gates (bits ∷ []) s in
          ap (λ (w : Word). w.number) (node-word t root v h.terms r) ∙ clause-number v bits wide (satisfies-right v gates (bits ∷ []) s).0;
      satisfies = λ v r m. satisfies-both v gates (bits ∷ []) r (number-clause v bits wide (sym (ap (λ (w : Word). w.number) (node-word t root v h.terms r)) ∙ m), tt);
      every = λ values a. all_runs t values h.terms a;
      only = λ v w r s a.
          let n = total t.inputs in
          let one = first-circuit n in
          b.grows.only v w r s (agree_next n v w a (one.fixed v (b.grows.less v r) ∙ sym (one.fixed w (b.grows.less w s))));
    }
