-- One step of two netlists in series is a step of each.
use Rattle.std.proofs.Common.{◌≡◌, ℕ, true, List, [], ◌∷◌, ◌++◌, length, map, drop, refl, sym, ap, ◌∙◌, arith}
use Rattle.std.specs.List.{All}
use Rattle.std.proofs.Math.IntN.{ℤ, pos}
use Rattle.std.proofs.lemmas.List.{append-nil, map-append, get_or_append_left}
use Rattle.std.proofs.lemmas.List.Elements.{All-head, All-tail}
use Rattle.dsv_word.specs.declared.format.Format.{Format}
use Rattle.dsv_system.specs.Runs.{Sampled}
use Rattle.dsv_netlist.specs.declared.node.Node.{Node}
use Rattle.dsv_netlist.specs.Nodes.{Net, at, Sample, sample_from, sample_of, step_from, step_of}
use Rattle.dsv_netlist.specs.Conditions.{names_word, IsNetlist}
use Rattle.dsv_netlist.proofs.Runs.{from-length}
use Rattle.dsv_netlist.proofs.Naming.{names_word-below}
use Rattle.dsv_cascade.specs.Netlists.{moved_place, moved, joined}
use Rattle.dsv_cascade.proofs.MovedNodes.{HasOneInput, HasOutput, get_or-moved_place, sample_after, sample_from-moved, sample_from-cons, sample_from-append, sample_from-registers}

-- all of the first netlist's values, and the one of its output
output_value : (a : Net) (rs : List ℤ) (x : ℤ) → IsNetlist a → HasOutput a (sample_of a.format rs x a.nodes).values (step_of a rs x).y (pos 0)
output_value a rs x h =
    let l = from-length a.format rs x a.nodes (record { values = []; exact = [] }) in
    record { many = omega (arith, l); within = omega (arith, l, names_word-below a.nodes a.output h.output); value = refl }

-- what the second netlist gives, from the value of its input on
sample_of-second : (b : Net) (f : Format) (rs : List ℤ) (y : ℤ) → b.format ≡ f → (o : HasOneInput b.nodes) → sample_of b.format rs y b.nodes ≡ sample_from f rs y o.rest (record { values = y ∷ []; exact = [] })
sample_of-second b f rs y e o = ap (λ (d : Format). sample_of d rs y b.nodes) e ∙ ap (sample_of f rs y) o.begins

sample_of-cons : (b : Net) (rs : List ℤ) (y : ℤ) → HasOneInput b.nodes → (sample_of b.format rs y b.nodes).values ≡ y ∷ drop 1 (sample_of b.format rs y b.nodes).values
sample_of-cons b rs y o = rw (sample_of-second b b.format rs y refl o) (sample_from-cons b.format rs y y o.rest [] [])

sample_of-joined : (a b : Net) (ra rb : List ℤ) (x : ℤ) → IsNetlist a → b.format ≡ a.format → HasOneInput b.nodes → length ra ≡ length a.next
    → sample_of a.format (ra ++ rb) x (joined a b).nodes ≡ sample_after (sample_of a.format ra x a.nodes).values (step_of a ra x).exact (sample_of b.format rb (step_of a ra x).y b.nodes)
sample_of-joined a b ra rb x g e o l =
    let f = a.format in
    let ms = map (moved a) o.rest in
    let none : Sample = record { values = []; exact = [] } in
    let vs = (sample_of f ra x a.nodes).values in
    let es = (sample_of f ra x a.nodes).exact in
    let y = (step_of a ra x).y in
    ap (λ (w : List Node). sample_of f (ra ++ rb) x (a.nodes ++ map (moved a) (drop 1 w))) o.begins
    ∙ sample_from-append f (ra ++ rb) x a.nodes ms none
    ∙ ap (sample_from f (ra ++ rb) x ms) (sample_from-registers f ra rb x a.nodes none (rw l g.registers))
    ∙ ap (λ (us : List ℤ). sample_from f (ra ++ rb) x ms (record { values = us; exact = es })) (sym (append-nil vs))
    ∙ ap (λ (us : List ℤ). sample_from f (ra ++ rb) x ms (record { values = vs ++ []; exact = us })) (sym (append-nil es))
    ∙ sample_from-moved a f ra rb vs es x y o.rest [] [] (output_value a ra x g) l o.inner
    ∙ ap (sample_after vs es) (sym (sample_of-second b f rb y e o))

map-same : (f g : ℕ → ℤ) (P : ℕ → Type 0) (ks : List ℕ) → ((k : ℕ) → P k → f k ≡ g k) → All P ks → map f ks ≡ map g ks
map-same f g P [] h i = refl
map-same f g P (k ∷ ks) h i = rw (h k (All-head P k ks i), map-same f g P ks h (All-tail P k ks i)) refl

map-moved_place : (a : Net) (vs ws : List ℤ) (y : ℤ) (ks : List ℕ) → HasOutput a vs y (pos 0) → map (at (vs ++ ws)) (map (moved_place a) ks) ≡ map (at (y ∷ ws)) ks
map-moved_place a vs ws y [] h = refl
map-moved_place a vs ws y (k ∷ ks) h = rw (get_or-moved_place a vs ws y (pos 0) k h, map-moved_place a vs ws y ks h) refl

-- a step, and one of the netlist after it
abbrev pub step_then : Sampled (List ℤ) → Sampled (List ℤ) → Sampled (List ℤ)
step_then s t = record { y = t.y; exact = s.exact ++ t.exact; past = s.past ++ t.past }

pub step_of-joined : (a b : Net) (ra rb : List ℤ) (x : ℤ) → IsNetlist a → b.format ≡ a.format → HasOneInput b.nodes → length ra ≡ length a.next
    → step_of (joined a b) (ra ++ rb) x ≡ step_then (step_of a ra x) (step_of b rb (step_of a ra x).y)
step_of-joined a b ra rb x g e o l =
    let s = step_of a ra x in
    let vs = (sample_of a.format ra x a.nodes).values in
    let second = sample_of b.format rb s.y b.nodes in
    let us = second.values in
    let h = output_value a ra x g in
    let cons = sample_of-cons b rb s.y o in
    let output : at (vs ++ drop 1 us) (moved_place a b.output) ≡ at us b.output =
    get_or-moved_place a vs (drop 1 us) s.y (pos 0) b.output h ∙ ap (λ (w : List ℤ). at w b.output) (sym cons) in
    let first_next : map (at (vs ++ drop 1 us)) a.next ≡ map (at vs) a.next =
    map-same (at (vs ++ drop 1 us)) (at vs) (λ k. names_word a.nodes k ≡ true) a.next (λ k w. get_or_append_left vs (drop 1 us) (pos 0) k (omega (arith, h.many, names_word-below a.nodes k w))) g.next in
    let second_next : map (at (vs ++ drop 1 us)) (map (moved_place a) b.next) ≡ map (at us) b.next =
    map-moved_place a vs (drop 1 us) s.y b.next h ∙ ap (λ (w : List ℤ). map (at w) b.next) (sym cons) in
    ap (step_from (joined a b)) (sample_of-joined a b ra rb x g e o l) ∙ rw (output, map-append (at (vs ++ drop 1 us)) a.next (map (moved_place a) b.next), first_next, second_next) refl
