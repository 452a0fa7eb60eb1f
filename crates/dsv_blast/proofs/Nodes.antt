-- All nodes one after another.
use Rattle.std.proofs.Common.{◌≡◌, ℕ, Bool, List, [], ◌∷◌, ◌++◌, refl, ap, sym, ◌∙◌, length, map}
use Rattle.std.specs.Prelude.{All}
use Rattle.std.proofs.lemmas.List.{map_push}
use Rattle.dsv_cnf.specs.Literal.{Literal}
use Rattle.dsv_cnf.specs.Formula.{Satisfies, AreOver}
use Rattle.dsv_term.specs.declared.node.TermNode.{TermNode}
use Rattle.dsv_term.specs.Word.{IsWidth}
use Rattle.dsv_term.specs.TermNode.{node_word, node_width, words_from, widths_from, AreLawful}
use Rattle.dsv_term.proofs.Words.{AreWidths}
use Rattle.dsv_blast.specs.CircuitView.{CircuitView}
use Rattle.dsv_blast.specs.Blast.{bits_word, node_built, Blast, blast_from, input_values}
use Rattle.dsv_blast.proofs.Growth.{Grows, grows-same, grows-both, are_over-more, are_over-append}
use Rattle.dsv_blast.proofs.NodeValues.{AreBits, node-gives}

-- what is known after one node more
pub record IsNext (inputs : List ℕ) (places bits : List (List Literal)) (ns : List TermNode) (c : CircuitView) : Type 0 where
  pub bits_of : AreBits inputs places bits c
  pub lawful : AreLawful inputs ns (map length bits)

pushed_widths : (inputs : List ℕ) (bits : List (List Literal)) (b : List Literal) (n : TermNode) → length b ≡ node_width inputs (map length bits) n → map length (bits ++ b ∷ []) ≡ map length bits ++ node_width inputs (map length bits) n ∷ []
pushed_widths inputs bits b n e = map_push length bits b ∙ ap (λ w. map length bits ++ w ∷ []) e

pub next : (inputs : List ℕ) (places bits : List (List Literal)) (n : TermNode) (ns : List TermNode) (c : CircuitView) → All IsWidth inputs → IsNext inputs places bits (n ∷ ns) c
    → IsNext inputs places (bits ++ (node_built places bits c n).bits ∷ []) ns (node_built places bits c n).circuit
next inputs places bits n ns c i h =
    let g = node-gives inputs places bits c n h.bits_of h.lawful.0 in
    let r = node_built places bits c n in
    let d = r.circuit in
    let e = pushed_widths inputs bits r.bits n g.wide in
    record {
      bits_of = record {
        sound = g.grows.sound;
        placed = are_over-more c.formula.vars d.formula.vars places g.grows.longer h.bits_of.placed;
        over = are_over-append d.formula.vars bits (r.bits ∷ []) (are_over-more c.formula.vars d.formula.vars bits g.grows.longer h.bits_of.over) (g.over, tt);
        like = h.bits_of.like;
        widths = rw e (AreWidths inputs (n ∷ []) (map length bits) i h.bits_of.widths (h.lawful.0, tt));
      };
      lawful = rw e h.lawful.1;
    }

-- The bits of all nodes spell their words.
pub record AreBuilt (inputs : List ℕ) (places bits : List (List Literal)) (ns : List TermNode) (c : CircuitView) (r : Blast) : Type 0 where
  pub grows : Grows c r.circuit
  pub over : AreOver r.circuit.formula.vars r.bits
  pub widths : map length r.bits ≡ widths_from inputs ns (map length bits)
  pub says : (v : ℕ → Bool) → Satisfies v r.circuit.formula.clauses → words_from inputs (input_values places v) ns (map (bits_word v) bits) ≡ map (bits_word v) r.bits

pub nodes-built : (inputs : List ℕ) (places bits : List (List Literal)) (ns : List TermNode) (c : CircuitView) → All IsWidth inputs → IsNext inputs places bits ns c → AreBuilt inputs places bits ns c (blast_from places ns c bits)
nodes-built inputs places bits [] c i h = record { grows = grows-same c h.bits_of.sound; over = h.bits_of.over; widths = refl; says = λ v k. refl }
nodes-built inputs places bits (n ∷ ns) c i h =
    let g = node-gives inputs places bits c n h.bits_of h.lawful.0 in
    let r = node_built places bits c n in
    let ih = nodes-built inputs places (bits ++ r.bits ∷ []) ns r.circuit i (next inputs places bits n ns c i h) in
    record {
      grows = grows-both c r.circuit (blast_from places ns r.circuit (bits ++ r.bits ∷ [])).circuit g.grows ih.grows;
      over = ih.over;
      widths = ih.widths ∙ ap (widths_from inputs ns) (pushed_widths inputs bits r.bits n g.wide);
      says = λ v k.
          let e : bits_word v r.bits ≡ node_word inputs (input_values places v) (map (bits_word v) bits) n = g.says v (ih.grows.less v k) in
          ap (words_from inputs (input_values places v) ns) (ap (λ w. map (bits_word v) bits ++ w ∷ []) (sym e) ∙ sym (map_push (bits_word v) bits r.bits)) ∙ ih.says v k;
    }
