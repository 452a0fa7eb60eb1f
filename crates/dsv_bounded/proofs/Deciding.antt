-- What is found for the formula of a simple goal is so of the goal.
use Rattle.std.proofs.Common.{◌≡◌, ℕ, Bool, List, refl, ap, sym, subst, ◌∙◌}
use Rattle.std.specs.Prelude.{◌↔◌}
use Rattle.dsv_blast.specs.Blast.{input_places, input_values, IsExact, IsDecisive}
use Rattle.dsv_cnf.specs.Formula.{IsSatisfiable, assignment_of}
use Rattle.dsv_cnf.specs.FormulaView.{FormulaView}
use Rattle.dsv_cnf.specs.Literal.{Literal}
use Rattle.dsv_term.specs.declared.node.TermId.{TermId}
use Rattle.dsv_term.specs.declared.word.Word.{Word}
use Rattle.dsv_term.specs.Terms.{AreValues, word_of}
use Rattle.dsv_term.specs.TermsView.{TermsView}

-- The goal s, r has the inputs and the root values of the goal t, root.
pub record IsSame (t : TermsView) (root : TermId) (s : TermsView) (r : TermId) : Type 0 where
  pub inputs : s.inputs ≡ t.inputs
  pub value : (values : List ℕ) → AreValues t.inputs values → word_of s values r ≡ word_of t values root

pub values_over : (t s : TermsView) (root r : TermId) (f : FormulaView) (places : List (List Literal)) (v : ℕ → Bool) → IsSame t root s r → places ≡ input_places s → IsExact s r f → AreValues t.inputs (input_values places v)
values_over t s root r f places v same p e =
    subst (λ (is : List ℕ). AreValues is (input_values places v)) same.inputs
    (subst (λ (ps : List (List Literal)). AreValues s.inputs (input_values ps v)) (sym p) (e.values v))

number_of_word : (t s : TermsView) (root r : TermId) (values : List ℕ) → IsSame t root s r → AreValues t.inputs values → (word_of s values r).number ≡ (word_of t values root).number
number_of_word t s root r values same a = ap (λ (w : Word). w.number) (same.value values a)

pub decisive_over : (t s : TermsView) (root r : TermId) (f : FormulaView) (places : List (List Literal)) → IsSame t root s r → places ≡ input_places s → IsExact s r f → IsDecisive s r f places → IsDecisive t root f places
decisive_over t s root r f places same p e d = record {
  found = λ values m.
      let v = assignment_of values in
      sym (number_of_word t s root r (input_values places v) same (values_over t s root r f places v same p e)) ∙ d.found values m;
  none = λ u values a one.
      d.none u values (subst (λ (is : List ℕ). AreValues is values) (sym same.inputs) a) (number_of_word t s root r values same a ∙ one);
}

pub told_over : (t s : TermsView) (root r : TermId) (f : FormulaView) → IsSame t root s r → IsExact s r f
    → IsSatisfiable f.clauses ↔ ((values : List ℕ) × AreValues t.inputs values × ((word_of t values root).number ≡ 1))
told_over t s root r f same e = (
  (λ sat.
      let v = sat.0 in
      let values = input_values (input_places s) v in
      let a : AreValues t.inputs values = values_over t s root r f (input_places s) v same refl e in
      (values, a, sym (number_of_word t s root r values same a) ∙ e.makes v sat.1)),
  (λ h.
      let p = e.every h.0 (subst (λ (is : List ℕ). AreValues is h.0) (sym same.inputs) h.1) in
      let one : (word_of s h.0 r).number ≡ 1 = number_of_word t s root r h.0 same h.1 ∙ h.2 in
      (p.0, e.satisfies p.0 p.1.1 (ap (λ (xs : List ℕ). (word_of s xs r).number) p.1.0 ∙ one))),
)
