-- One more input.
use Rattle.std.proofs.Common.{◌≡◌, ℕ, ◌-◌, ◌≤◌, false, List, [], ◌∷◌, ◌++◌, refl, arith, ap, ◌∙◌, length, take, slice_index}
use Rattle.std.specs.List.{list_any}
use Rattle.std.proofs.lemmas.Bool.Decides.{nat_tests}
use Rattle.std.proofs.lemmas.List.{get_or_push, length_push, take_at}
use Rattle.std.proofs.lemmas.List.Elements.{All-push}
use Rattle.dsv_term.specs.declared.node.TermId.{TermId}
use Rattle.dsv_term.specs.declared.node.TermNode.{TermNode}
use Rattle.dsv_term.specs.declared.node.TermNode.TheVariants.{Input}
use Rattle.dsv_term.specs.Building.{built_of, with_new_input}
use Rattle.dsv_term.specs.Making.{same_node, made_nodes}
use Rattle.dsv_term.specs.TermNode.{word_at, node_width, IsLawful, AreLawful}
use Rattle.dsv_term.specs.Terms.{widths_of, AreTerms, KeepsTerms, Makes, MakesInput}
use Rattle.dsv_term.specs.TermsView.{TermsView}
use Rattle.dsv_term.specs.Word.{IsWidth}
use Rattle.dsv_term.proofs.Lawful.{words-more, widths-more, AreLawful-more}
use Rattle.dsv_term.proofs.Made.{absent, KeepsTerms-both}

-- ---- no node is an input to come
no_input : (inputs ws : List ℕ) (n : TermNode) (k : ℕ) → IsLawful inputs ws n → length inputs ≤ k → same_node (Input k) n ≡ false
no_input inputs ws (Input j) k l h = grind (arith, nat_tests)
no_input inputs ws n k l h = refl

no_inputs : (inputs : List ℕ) (ns : List TermNode) (ws : List ℕ) (k : ℕ) → AreLawful inputs ns ws → length inputs ≤ k → list_any (same_node (Input k)) ns ≡ false
no_inputs inputs [] ws k l h = refl
no_inputs inputs (n ∷ ns) ws k l h = rw (no_input inputs ws n k l.0 h) (no_inputs inputs ns (ws ++ node_width inputs ws n ∷ []) k l.1 h)

-- ---- the terms with one more input
abbrev pub with_input : TermsView → ℕ → TermsView
with_input t bits = record t { inputs = t.inputs ++ bits ∷ [] }

pub record TakesInput (t u : TermsView) : Type 0 where
  pub terms : AreTerms u
  pub widths : widths_of u ≡ widths_of t
  pub kept : KeepsTerms t u

pub takes_input : (t : TermsView) (bits : ℕ) → AreTerms t → IsWidth bits → TakesInput t (with_input t bits)
takes_input t bits h w =
    let same = widths-more t.inputs (bits ∷ []) t.nodes [] h.lawful in
    record {
      terms = record {
        few = h.few;
        inputs = All-push IsWidth t.inputs bits h.inputs w;
        lawful = AreLawful-more t.inputs (bits ∷ []) t.nodes [] h.lawful;
        apart = h.apart;
      };
      widths = same;
      kept = record {
        longer = λ id p. p;
        nodes = λ id p. refl;
        widths = λ id p. ap (λ (ws : List ℕ). slice_index ws id.0) same;
        words = λ values id p. ap (λ ws. word_at ws id) (words-more t.inputs (bits ∷ []) values [] t.nodes [] h.lawful);
      };
    }

input_built : (t u : TermsView) (bits : ℕ) (id : TermId) → u ≡ record { inputs = t.inputs ++ bits ∷ []; nodes = t.nodes ++ Input (length t.inputs) ∷ [] } → id.0 ≡ length t.nodes → built_of u id ≡ with_new_input t bits
unfolding with_new_input
input_built t u bits id e at =
    ap (λ (v : TermsView). built_of v id) e
    ∙ ap (λ (k : ℕ). let j : TermId = record { 0 = k } in built_of (record { inputs = t.inputs ++ bits ∷ []; nodes = t.nodes ++ Input (length t.inputs) ∷ [] }) j) at

pub makes_input : (t u : TermsView) (bits : ℕ) (id : TermId) → AreTerms t → IsWidth bits → Makes (with_input t bits) u (Input (length t.inputs)) id → MakesInput t u bits id
makes_input t u bits id h w m =
    let none : list_any (same_node (Input (length t.inputs))) t.nodes ≡ false = no_inputs t.inputs t.nodes [] (length t.inputs) h.lawful (omega arith) in
    let last : made_nodes t.nodes (Input (length t.inputs)) ≡ t.nodes ++ Input (length t.inputs) ∷ [] = rw none refl in
    let terms : u ≡ record { inputs = t.inputs ++ bits ∷ []; nodes = t.nodes ++ Input (length t.inputs) ∷ [] } =
    m.nodes ∙ ap (λ ns. record { inputs = t.inputs ++ bits ∷ []; nodes = ns }) last in
    let place = m.id ∙ absent (same_node (Input (length t.inputs))) t.nodes none in
    record {
      built = input_built t u bits id terms place;
      terms = terms;
      id = place;
      width = m.width ∙ get_or_push t.inputs bits 0 (length t.inputs) refl;
      kept = KeepsTerms-both t (with_input t bits) u (takes_input t bits h w).kept m.kept;
    }

-- ---- the input is taken away again
pub record IsBack (t u : TermsView) (inputs ws : List ℕ) : Type 0 where
  pub terms : record { inputs = inputs; nodes = u.nodes } ≡ t
  pub widths : ws ≡ widths_of t

pub back : (t u : TermsView) (bits n : ℕ) (inputs ws : List ℕ) → AreTerms t → IsWidth bits → u ≡ with_input t bits → n ≡ length u.inputs → inputs ≡ take (n - 1) u.inputs → ws ≡ widths_of u → IsBack t u inputs ws
back t u bits n inputs ws h w e l i d =
    let all : u.inputs ≡ t.inputs ++ bits ∷ [] = ap (λ (v : TermsView). v.inputs) e in
    let nodes : u.nodes ≡ t.nodes = ap (λ (v : TermsView). v.nodes) e in
    let short : n - 1 ≡ length t.inputs = omega (arith, ap length all, length_push t.inputs bits) in
    let same : inputs ≡ t.inputs = i ∙ rw (all, short) (take_at t.inputs (bits ∷ []) (length t.inputs) refl) in
    record {
      terms = rw (same, nodes) refl;
      widths = d ∙ (ap widths_of e ∙ (takes_input t bits h w).widths);
    }
