-- The inputs of a goal, before its nodes, and the root after them.
use Rattle.std.proofs.Common.{◌≡◌, ℕ, zero, suc, ◌+◌, ◌<◌, ◌≤◌, inl, inr, List, [], ◌∷◌, ◌++◌, refl, arith, ap, sym, subst, ◌∙◌, length, append_assoc, slice_index, get_or, drop}
use Rattle.std.specs.Prelude.{All}
use Rattle.std.proofs.lemmas.List.{length_push, get_or_push, get_or_append_left, append-nil}
use Rattle.std.proofs.lemmas.List.Elements.{All-nil}
use Rattle.std.proofs.lemmas.Option.{get_or_from_slice_get}
use Rattle.std.proofs.lemmas.Bool.{cases_lt}
use Rattle.dsv_term.specs.declared.node.TermId.{TermId}
use Rattle.dsv_term.specs.declared.node.TermNode.{TermNode}
use Rattle.dsv_term.specs.declared.node.TermNode.TheVariants.{Input}
use Rattle.dsv_term.specs.Building.{built_of, with_new_input}
use Rattle.dsv_term.specs.Growth.{AreSound}
use Rattle.dsv_term.specs.Terms.{KeepsTerms, AreTerms, width_of, word_of}
use Rattle.dsv_term.specs.TermsView.{TermsView, no_terms}
use Rattle.dsv_term.specs.Word.{IsWidth}
use Rattle.dsv_term.proofs.Building.{new_input_gives}
use Rattle.dsv_rewrite.specs.Rules.{term_of, Rewritten, rewritten_from, inputs_from, simple_of}
use Rattle.dsv_rewrite.specs.Simple.{AreSimple, IsSimple}
use Rattle.dsv_rewrite.proofs.PassRules.{IsInputTerm, IsNextPass, IsSame}
use Rattle.dsv_rewrite.proofs.Standing.{old_simple}

-- Terms that are inputs alone.
record AreInputs (t : TermsView) : Type 0 where
  sound : AreSound t
  simple : AreSimple t
  count : length t.nodes ≡ length t.inputs
  starts : (id : TermId) → id.0 < length t.inputs → IsInputTerm t.inputs t id

input_simple : (t u : TermsView) (k : ℕ) → AreSound t → KeepsTerms t u → u.nodes ≡ t.nodes ++ Input k ∷ [] → AreSimple t → AreSimple u
input_simple t u k s kept e a i n h g = elim (cases_lt i (length t.nodes)) [
  | inl less ↦ old_simple t u i n s kept a less g
  | inr more ↦
      let long : length u.nodes ≡ length t.nodes + 1 = ap length e ∙ length_push t.nodes (Input k) in
      let last : get_or (t.nodes ++ Input k ∷ []) i (Input 0) ≡ Input k = get_or_push t.nodes (Input k) (Input 0) i (omega arith) in
      let got : get_or u.nodes i (Input 0) ≡ n = get_or_from_slice_get u.nodes i n (Input 0) g in
      let is : Input k ≡ n = sym last ∙ (ap (λ (ns : List TermNode). get_or ns i (Input 0)) (sym e) ∙ got) in
      subst (λ (p : TermNode). IsSimple u p) is tt
]

inputs_more : (t : TermsView) (w : ℕ) → AreInputs t → IsWidth w → AreInputs (with_new_input t w).terms
unfolding with_new_input
inputs_more t w h l =
    let u = (with_new_input t w).terms in
    let g = new_input_gives t w h.sound l in
    let n = length t.inputs in
    let c = h.count in
    record {
      sound = g.sound;
      simple = input_simple t u n h.sound g.kept refl h.simple;
      count = omega (arith, length_push t.nodes (Input n), length_push t.inputs w);
      starts = λ id p. elim (cases_lt id.0 n) [
        | inl less ↦
            let q = h.starts id less in
            let e : slice_index t.inputs id.0 ≡ slice_index (t.inputs ++ w ∷ []) id.0 = sym (get_or_append_left t.inputs (w ∷ []) 0 id.0 less) in
            record {
              stands = g.kept.longer id q.stands;
              width = g.kept.widths id q.stands ∙ (q.width ∙ e);
              word = λ values. g.kept.words values id q.stands ∙ (q.word values ∙ ap (λ (k : ℕ). record { width = k; number = slice_index values id.0 }) e);
            }
        | inr more ↦
            let z : id.0 ≡ n = omega (arith, length_push t.inputs w) in
            let e : slice_index (t.inputs ++ w ∷ []) id.0 ≡ w = get_or_push t.inputs w 0 id.0 (sym z) in
            let same : record { 0 = length t.nodes } ≡ id = ap (λ (k : ℕ). let j : TermId = record { 0 = k } in j) (omega arith) in
            record {
              stands = subst (λ (j : TermId). j.0 < length u.nodes) same g.stands;
              width = subst (λ (j : TermId). width_of u j ≡ w) same g.width ∙ sym e;
              word = λ values. subst (λ (j : TermId). word_of u values j ≡ record { width = w; number = slice_index values n }) same (g.word values)
                  ∙ (ap (λ (k : ℕ). record { width = k; number = slice_index values n }) (sym e) ∙ ap (λ (k : ℕ). record { width = slice_index (t.inputs ++ w ∷ []) id.0; number = slice_index values k }) (sym z));
            }
      ];
    }

new_inputs : (t : TermsView) (w : ℕ) → (with_new_input t w).terms.inputs ≡ t.inputs ++ w ∷ []
unfolding with_new_input
new_inputs t w = refl

-- Inputs of these widths after those that stood.
record PutsInputs (t u : TermsView) (widths : List ℕ) : Type 0 where
  all : AreInputs u
  inputs : u.inputs ≡ t.inputs ++ widths

puts_inputs : (widths : List ℕ) (t : TermsView) → AreInputs t → All IsWidth widths → PutsInputs t (inputs_from widths t) widths
puts_inputs [] t h w = record { all = h; inputs = sym (append-nil t.inputs) }
puts_inputs (x ∷ xs) t h w =
    let first : IsWidth x = w 0 0 (omega arith) in
    let rest = puts_inputs xs (with_new_input t x).terms (inputs_more t x h first) (λ k d p. w (suc k) d (omega arith)) in
    record { all = rest.all; inputs = rest.inputs ∙ (ap (λ (ys : List ℕ). ys ++ xs) (new_inputs t x) ∙ append_assoc t.inputs (x ∷ []) xs) }

none_put : AreInputs no_terms
none_put = record {
  sound = record { inputs = All-nil IsWidth; lawful = tt };
  simple = λ i n h e. absurd (omega arith);
  count = refl;
  starts = λ id h. absurd (omega arith);
}

-- ---- before the first node
abbrev pub first_terms : TermsView → Rewritten
first_terms old = record { terms = inputs_from old.inputs no_terms; ids = [] }

pub pass_start : (old t : TermsView) (ids : List TermId) → AreTerms old → t ≡ inputs_from old.inputs no_terms → ids ≡ [] → IsNextPass old 0 t ids (rewritten_from old.nodes (first_terms old))
pass_start old t ids h e i =
    let u = inputs_from old.inputs no_terms in
    let p = puts_inputs old.inputs no_terms none_put h.inputs in
    let r : IsNextPass old 0 u [] (rewritten_from old.nodes (first_terms old)) = record {
      pass = record {
        sound = p.all.sound;
        simple = p.all.simple;
        inputs = p.inputs;
        starts = λ id l. subst (λ (ws : List ℕ). IsInputTerm ws u id) p.inputs (p.all.starts id (subst (λ (ws : List ℕ). id.0 < length ws) (sym p.inputs) l));
        count = refl;
        same = λ a l. absurd (omega arith);
      };
      rest = refl;
    } in
    subst (λ (js : List TermId). IsNextPass old 0 t js (rewritten_from old.nodes (first_terms old))) (sym i)
    (subst (λ (v : TermsView). IsNextPass old 0 v [] (rewritten_from old.nodes (first_terms old))) (sym e) r)

-- ---- after the last
pub record IsRewritten (old t : TermsView) (root new : TermId) : Type 0 where
  pub made : built_of t new ≡ simple_of old root
  pub inputs : t.inputs ≡ old.inputs
  pub simple : AreSimple t
  pub same : IsSame old t root new

made_by : (old t : TermsView) (ids : List TermId) (root : TermId) → record { terms = t; ids = ids } ≡ rewritten_from old.nodes (first_terms old) → built_of t (term_of ids root) ≡ simple_of old root
unfolding simple_of
made_by old t ids root e = ap (λ (r : Rewritten). built_of r.terms (term_of r.ids root)) e

nothing_left : (xs : List TermNode) (i : ℕ) → length xs ≤ i → drop i xs ≡ []
nothing_left [] zero h = refl
nothing_left [] (suc i) h = refl
nothing_left (x ∷ xs) zero h = absurd (omega arith)
nothing_left (x ∷ xs) (suc i) h = nothing_left xs i (omega arith)

pub pass_end : (old t : TermsView) (i : ℕ) (ids : List TermId) (root new : TermId) → length old.nodes ≤ i → root.0 < i → new ≡ term_of ids root → IsNextPass old i t ids (rewritten_from old.nodes (first_terms old)) → IsRewritten old t root new
pass_end old t i ids root new l h e p =
    let d : record { terms = t; ids = ids } ≡ rewritten_from old.nodes (first_terms old) = ap (λ (ns : List TermNode). rewritten_from ns (record { terms = t; ids = ids })) (sym (nothing_left old.nodes i l)) ∙ p.rest in
    subst (λ (j : TermId). IsRewritten old t root j) (sym e)
    (record { made = made_by old t ids root d; inputs = p.pass.inputs; simple = p.pass.simple; same = p.pass.same root h })
