-- Steps of the pass over all nodes.
use Rattle.std.proofs.Common.{◌≡◌, ℕ, zero, suc, ◌+◌, ◌<◌, List, [], ◌∷◌, ◌++◌, refl, arith, ap, sym, subst, ◌∙◌, length, map, drop, get_or, drop-cons}
use Rattle.std.specs.Prelude.{All}
use Rattle.dsv_cnf.specs.Literal.{Literal}
use Rattle.dsv_cnf.specs.Formula.{IsOver, AreOver, assignment_of}
use Rattle.dsv_term.specs.declared.node.TermNode.{TermNode}
use Rattle.dsv_term.specs.declared.node.TermNode.TheVariants.{Input}
use Rattle.dsv_term.specs.Word.{IsWidth}
use Rattle.dsv_term.specs.TermNode.{IsLawful}
use Rattle.dsv_term.specs.declared.node.TermId.{TermId}
use Rattle.dsv_term.specs.Terms.{AreTerms, width_of, word_of}
use Rattle.dsv_term.proofs.Made.{widths_count}
use Rattle.std.proofs.lemmas.List.{length-map}
use Rattle.dsv_cnf.specs.FormulaView.{FormulaView}
use Rattle.dsv_blast.proofs.NodeValues.{over-at}
use Rattle.dsv_blast.proofs.Inputs.{over-places, like-places}
use Rattle.dsv_term.specs.TermsView.{TermsView}
use Rattle.dsv_blast.specs.CircuitView.{CircuitView}
use Rattle.dsv_blast.specs.Pushing.{AreEarlier, with_clauses}
use Rattle.dsv_blast.specs.Blast.{places_from, total, node_built, blast_from, first_circuit, blast_of, bits_at, input_places, cnf_of, IsExact, IsDecisive}
use Rattle.dsv_blast.proofs.Nodes.{IsNext, next}
use Rattle.dsv_blast.proofs.Exactness.{start, built, exact}

pub next-start : (t : TermsView) (places bits : List (List Literal)) (vars : ℕ) (c : CircuitView) → AreTerms t → places ≡ places_from 0 t.inputs → vars ≡ total t.inputs → c ≡ first_circuit vars → bits ≡ [] → IsNext t.inputs places bits t.nodes c
next-start t places bits vars c h e f g k = rw (k, g, f, e) (start t h)

pub blast-start : (t : TermsView) (places bits : List (List Literal)) (vars : ℕ) (c : CircuitView) → places ≡ places_from 0 t.inputs → vars ≡ total t.inputs → c ≡ first_circuit vars → bits ≡ [] → blast_from places t.nodes c bits ≡ blast_of t
unfolding blast_of
blast-start t places bits vars c e f g k = rw (k, g, f, e) refl

-- the node at a place, and those after it
drop-at : (nodes : List TermNode) (i : ℕ) → i < length nodes → drop i nodes ≡ get_or nodes i (Input 0) ∷ drop (i + 1) nodes
drop-at nodes i h = let e : suc i ≡ i + 1 = omega arith in drop-cons nodes i (Input 0) h ∙ ap (λ k. get_or nodes i (Input 0) ∷ drop k nodes) e

at_node : (inputs : List ℕ) (places bits : List (List Literal)) (nodes : List TermNode) (i : ℕ) (c : CircuitView) → i < length nodes → IsNext inputs places bits (drop i nodes) c → IsNext inputs places bits (get_or nodes i (Input 0) ∷ drop (i + 1) nodes) c
at_node inputs places bits nodes i c h k = subst (λ (ns : List TermNode). IsNext inputs places bits ns c) (drop-at nodes i h) k

pub earlier-at : (inputs : List ℕ) (places bits : List (List Literal)) (ns : List TermNode) (c : CircuitView) → IsNext inputs places bits ns c → AreEarlier c bits
earlier-at inputs places bits ns c h = record { over = h.bits_of.over; widths = h.bits_of.widths }

pub lawful-at : (inputs : List ℕ) (places bits : List (List Literal)) (nodes : List TermNode) (i : ℕ) (c : CircuitView) → i < length nodes → IsNext inputs places bits (drop i nodes) c → IsLawful (map length places) (map length bits) (get_or nodes i (Input 0))
lawful-at inputs places bits nodes i c h k =
    let a = at_node inputs places bits nodes i c h k in
    subst (λ (ws : List ℕ). IsLawful ws (map length bits) (get_or nodes i (Input 0))) (sym a.bits_of.like) a.lawful.0

pub next-at : (inputs : List ℕ) (places bits more : List (List Literal)) (nodes : List TermNode) (i : ℕ) (c d : CircuitView) (word : List Literal) → i < length nodes → All IsWidth inputs
    → d ≡ (node_built places bits c (get_or nodes i (Input 0))).circuit → word ≡ (node_built places bits c (get_or nodes i (Input 0))).bits → more ≡ bits ++ word ∷ []
    → IsNext inputs places bits (drop i nodes) c → IsNext inputs places more (drop (i + 1) nodes) d
next-at inputs places bits more nodes i c d word h w e f g k = rw (g, e, f) (next inputs places bits (get_or nodes i (Input 0)) (drop (i + 1) nodes) c w (at_node inputs places bits nodes i c h k))

pub blast-at : (places bits more : List (List Literal)) (nodes : List TermNode) (i : ℕ) (c d : CircuitView) (word : List Literal) → i < length nodes
    → d ≡ (node_built places bits c (get_or nodes i (Input 0))).circuit → word ≡ (node_built places bits c (get_or nodes i (Input 0))).bits → more ≡ bits ++ word ∷ []
    → blast_from places (drop (i + 1) nodes) d more ≡ blast_from places (drop i nodes) c bits
blast-at places bits more nodes i c d word h e f g = rw (g, e, f) (sym (ap (λ ns. blast_from places ns c bits) (drop-at nodes i h)))

pub all-over : (n : ℕ) (bits : List (List Literal)) → AreOver n bits → All (IsOver n) bits
all-over n [] h = λ k d p. absurd (omega arith)
all-over n (b ∷ bs) h = λ k d p. at bs h.0 (all-over n bs h.1) k d p
  where
    at : (bs : List (List Literal)) → IsOver n b → All (IsOver n) bs → (k : ℕ) (d : List Literal) → k < length (b ∷ bs) → IsOver n (get_or (b ∷ bs) k d)
    at bs x y zero d p = x
    at bs x y (suc k) d p = y k d (omega arith)

pub over-same : (m n : ℕ) (bits : List (List Literal)) → n ≡ m → All (IsOver m) bits → All (IsOver n) bits
over-same m n bits e h = subst (λ (k : ℕ). All (IsOver k) bits) (sym e) h

-- What the last step rests on.
pub record IsWired (root : TermId) (places bits : List (List Literal)) (c : CircuitView) : Type 0 where
  pub stands : root.0 < length bits
  pub root_over : IsOver c.formula.vars (bits_at bits root.0)
  pub places_over : All (IsOver c.formula.vars) places
  pub widths : All IsWidth (map length places)

pub wired : (t : TermsView) (root : TermId) (places bits : List (List Literal)) (c : CircuitView) → AreTerms t → root.0 < length t.nodes → places ≡ input_places t → bits ≡ (blast_of t).bits → c ≡ (blast_of t).circuit → IsWired root places bits c
wired t root places bits c h l e f g =
    let b = built t h in
    let d = (blast_of t).circuit in
    let first = total t.inputs + 1 in
    rw (e, f, g)
    (record {
      stands = omega (arith, length-map (blast_of t).bits length, ap length b.widths, widths_count t);
      root_over = over-at d.formula.vars (blast_of t).bits root.0 b.over;
      places_over = all-over d.formula.vars (input_places t) (over-places 0 t.inputs d.formula.vars (omega (arith, b.grows.longer)));
      widths = rw (like-places 0 t.inputs) h.inputs;
    })

pub formula-is : (t : TermsView) (root : TermId) (bits : List (List Literal)) (c : CircuitView) (literals : List Literal) → bits ≡ (blast_of t).bits → c ≡ (blast_of t).circuit → literals ≡ bits_at bits root.0 → (with_clauses c (literals ∷ [])).formula ≡ cnf_of t root
unfolding cnf_of
formula-is t root bits c literals e f g = rw (g, e, f) refl

pub exact-is : (t : TermsView) (root : TermId) (f : FormulaView) → AreTerms t → width_of t root ≡ 1 → f ≡ cnf_of t root → IsExact t root f
exact-is t root f h w e = rw e (exact t root (record { terms = h; one_bit = w }))

pub decisive-is : (t : TermsView) (root : TermId) (f : FormulaView) (places : List (List Literal)) → IsExact t root f → places ≡ input_places t → IsDecisive t root f places
decisive-is t root f places h e = rw e (record {
  found = λ values m. h.makes (assignment_of values) m.satisfies;
  none = λ u values a one.
      let p = h.every values a in
      u p.0 (h.satisfies p.0 p.1.1 (ap (λ xs. (word_of t xs root).number) p.1.0 ∙ one));
})
