-- A node is found where it stands, and else it is put last.
use Rattle.std.proofs.Common.{◌≡◌, ◌≢◌, ℕ, ◌+◌, ◌^◌, ◌<◌, Bool, true, false, not, cond, List, [], ◌∷◌, ◌++◌, Some, refl, arith, ap, sym, subst, ◌∙◌, length, length-append, slice_index, slice_get, get_or}
use Rattle.std.specs.Prelude.{AllPairs}
use Rattle.std.specs.List.{list_any, position_or_len}
use Rattle.std.proofs.lemmas.List.{append-nil, get_or_append_left}
use Rattle.std.proofs.lemmas.List.Folds.{list_any_at}
use Rattle.std.proofs.lemmas.List.Quantifiers.{all_pairs_push}
use Rattle.std.proofs.lemmas.List.Sums.{position_or_len_is}
use Rattle.std.proofs.lemmas.Option.{slice_get-get_or}
use Rattle.indexmap.specs.IndexSet.{insert_key}
use Rattle.dsv_term.specs.declared.node.TermId.{TermId}
use Rattle.dsv_term.specs.declared.node.TermNode.{TermNode}
use Rattle.dsv_term.specs.declared.node.TermNode.TheVariants.{Input}
use Rattle.dsv_term.specs.contracts.node.TermNodePartialEq.TheImpl.{eq-value}
use Rattle.dsv_term.specs.Building.{built_of, with_node}
use Rattle.dsv_term.specs.Making.{same_node, made_nodes, made_id}
use Rattle.dsv_term.specs.TermNode.{word_at, node_word, words_from, node_width, widths_from, IsLawful, AreLawful}
use Rattle.dsv_term.specs.Terms.{widths_of, AreTerms, KeepsTerms, Makes, words_of, word_of}
use Rattle.dsv_term.specs.TermsView.{TermsView}
use Rattle.dsv_term.proofs.Entries.{length-entries}
use Rattle.dsv_term.proofs.Lawful.{AreLawful-push, prefix-keeps, word-at, width-at}
use Rattle.dsv_term.proofs.Nodes.{node_word-same, node_width-same}
use Rattle.dsv_term.proofs.Same.{eq-is_same, same-node, same_self}
use Rattle.dsv_algebra.proofs.Booleans.{not_true}

-- ---- the first node that passes a test
record IsFound (p : TermNode → Bool) (ns : List TermNode) : Type 0 where
  before : List TermNode
  node : TermNode
  after : List TermNode
  split : ns ≡ before ++ node ∷ after
  place : position_or_len p ns ≡ length before
  passes : p node ≡ true

found_by : (p : TermNode → Bool) (n : TermNode) (ns : List TermNode) (b : Bool) → p n ≡ b → list_any p (n ∷ ns) ≡ true → (list_any p ns ≡ true → IsFound p ns) → IsFound p (n ∷ ns)
found_by p n ns true e h rest = record { before = []; node = n; after = ns; split = refl; place = rw e refl; passes = e }
found_by p n ns false e h rest =
    let f = rest (rw e at h) in
    let place = f.place in
    record { before = n ∷ f.before; node = f.node; after = f.after; split = ap (λ ms. n ∷ ms) f.split; place = rw e (omega arith); passes = f.passes }

found : (p : TermNode → Bool) (ns : List TermNode) → list_any p ns ≡ true → IsFound p ns
found p [] h = cc
found p (n ∷ ns) h = found_by p n ns (p n) refl h (found p ns)

absent_by : (p : TermNode → Bool) (n : TermNode) (ns : List TermNode) (b : Bool) → p n ≡ b → list_any p (n ∷ ns) ≡ false → (list_any p ns ≡ false → position_or_len p ns ≡ length ns) → position_or_len p (n ∷ ns) ≡ length (n ∷ ns)
absent_by p n ns true e h rest = absurd (let f = rw e at h in cc)
absent_by p n ns false e h rest = let f = rest (rw e at h) in rw e (omega arith)

pub absent : (p : TermNode → Bool) (ns : List TermNode) → list_any p ns ≡ false → position_or_len p ns ≡ length ns
absent p [] h = refl
absent p (n ∷ ns) h = absent_by p n ns (p n) refl h (absent p ns)

-- ---- where a made node stands
pub record IsPlaced (nodes made : List TermNode) (node : TermNode) (id : ℕ) : Type 0 where
  before : List TermNode
  after : List TermNode
  rest : List TermNode
  split : made ≡ before ++ node ∷ after
  place : id ≡ length before
  longer : made ≡ nodes ++ rest

placed_by : (nodes : List TermNode) (node : TermNode) (b : Bool) → list_any (same_node node) nodes ≡ b → IsPlaced nodes (cond b nodes (nodes ++ node ∷ [])) node (made_id nodes node)
placed_by nodes node true e =
    let f = found (same_node node) nodes e in
    let same = same-node node f.node f.passes in
    record { before = f.before; after = f.after; rest = []; split = f.split ∙ ap (λ m. f.before ++ m ∷ f.after) (sym same); place = f.place; longer = sym (append-nil nodes) }
placed_by nodes node false e =
    record { before = nodes; after = []; rest = node ∷ []; split = refl; place = absent (same_node node) nodes e; longer = refl }

pub placed : (nodes : List TermNode) (node : TermNode) → IsPlaced nodes (made_nodes nodes node) node (made_id nodes node)
placed nodes node = placed_by nodes node (list_any (same_node node) nodes) refl

-- ---- earlier terms
node-kept : (nodes rest : List TermNode) (k : ℕ) (d : TermNode) → k < length nodes → slice_get (nodes ++ rest) k ≡ slice_get nodes k
node-kept nodes rest k d h =
    slice_get-get_or (nodes ++ rest) k d (omega (arith, length-append nodes rest))
    ∙ (ap Some (get_or_append_left nodes rest d k h) ∙ sym (slice_get-get_or nodes k d h))

pub prefix-kept : (t : TermsView) (rest : List TermNode) → KeepsTerms t (record t { nodes = t.nodes ++ rest })
prefix-kept t rest =
    record {
      longer = λ id p. omega (arith, length-append t.nodes rest);
      nodes = λ id p. node-kept t.nodes rest id.0 (Input 0) p;
      widths = λ id p. prefix-keeps (node_width t.inputs) t.nodes rest id.0 0 p;
      words = λ values id p. prefix-keeps (node_word t.inputs values) t.nodes rest id.0 (record { width = 0; number = 0 }) p;
    }

pub KeepsTerms-both : (t u v : TermsView) → KeepsTerms t u → KeepsTerms u v → KeepsTerms t v
KeepsTerms-both t u v h k =
    record {
      longer = λ id p. k.longer id (h.longer id p);
      nodes = λ id p. k.nodes id (h.longer id p) ∙ h.nodes id p;
      widths = λ id p. k.widths id (h.longer id p) ∙ h.widths id p;
      words = λ values id p. k.words values id (h.longer id p) ∙ h.words values id p;
    }

-- ---- the terms with a node that was absent
not_there : (nodes : List TermNode) (node : TermNode) (k : ℕ) (d : TermNode) → list_any (same_node node) nodes ≡ false → k < length nodes → get_or nodes k d ≢ node
not_there nodes node k d none h e =
    let there = list_any_at (same_node node) nodes k d h (ap (same_node node) e ∙ same_self node) in cc

pub AreTerms-push : (t : TermsView) (node : TermNode) → AreTerms t → IsLawful t.inputs (widths_of t) node → list_any (same_node node) t.nodes ≡ false → length t.nodes + 1 < 2 ^ 31 → AreTerms (record t { nodes = t.nodes ++ node ∷ [] })
AreTerms-push t node h l none few =
    record {
      few = omega (arith, length-append t.nodes (node ∷ []));
      inputs = h.inputs;
      lawful = AreLawful-push t.inputs t.nodes node [] h.lawful l;
      apart = all_pairs_push (λ a b. a ≢ b) t.nodes node h.apart (λ k d p. not_there t.nodes node k d none p);
    }

made_lawful_by : (t : TermsView) (node : TermNode) (b : Bool) → list_any (same_node node) t.nodes ≡ b → AreLawful t.inputs t.nodes [] → IsLawful t.inputs (widths_of t) node → AreLawful t.inputs (cond b t.nodes (t.nodes ++ node ∷ [])) []
made_lawful_by t node true e h l = h
made_lawful_by t node false e h l = AreLawful-push t.inputs t.nodes node [] h l

pub made_lawful : (t : TermsView) (node : TermNode) → AreLawful t.inputs t.nodes [] → IsLawful t.inputs (widths_of t) node → AreLawful t.inputs (made_nodes t.nodes node) []
made_lawful t node h l = made_lawful_by t node (list_any (same_node node) t.nodes) refl h l

-- ---- what a maker says
pub record IsMade (t u : TermsView) (node : TermNode) (id : TermId) : Type 0 where
  pub makes : Makes t u node id
  pub word : (values : List ℕ) → word_of u values id ≡ node_word t.inputs values (words_of t values) node

pub made_keeps : (t : TermsView) (made : List TermNode) (node : TermNode) (id : ℕ) → IsPlaced t.nodes made node id → KeepsTerms t (record t { nodes = made })
made_keeps t made node id p =
    let P : List TermNode → Type 0 = λ ns. KeepsTerms t (record t { nodes = ns }) in
    subst P (sym p.longer) (prefix-kept t p.rest)

pub made_stands : (nodes made : List TermNode) (node : TermNode) (id : ℕ) → IsPlaced nodes made node id → id < length made
made_stands nodes made node id p = omega (arith, p.place, ap length p.split, length-append p.before (node ∷ p.after))

pub made_width : (t : TermsView) (made : List TermNode) (node : TermNode) (id : TermId) → IsPlaced t.nodes made node id.0 → IsLawful t.inputs (widths_of t) node → AreLawful t.inputs made [] → slice_index (widths_from t.inputs made []) id.0 ≡ node_width t.inputs (widths_of t) node
made_width t made node id p l h =
    let k = made_keeps t made node id.0 p in
    let n = length-entries (node_width t.inputs) t.nodes [] in
    let w = width-at t.inputs p.before p.after node id (rw p.split at h) p.place in
    (rw (← p.split) at w) ∙ node_width-same t.inputs t.inputs (widths_of t) (widths_from t.inputs made []) node l (λ i q. refl) (λ a q. k.widths a (omega arith))

pub made_word : (t : TermsView) (made : List TermNode) (node : TermNode) (id : TermId) → IsPlaced t.nodes made node id.0 → IsLawful t.inputs (widths_of t) node → AreLawful t.inputs made [] → (values : List ℕ) → word_at (words_from t.inputs values made []) id ≡ node_word t.inputs values (words_of t values) node
made_word t made node id p l h values =
    let k = made_keeps t made node id.0 p in
    let n = length-entries (node_width t.inputs) t.nodes [] in
    let w = word-at t.inputs values p.before p.after node id (rw p.split at h) p.place in
    (rw (← p.split) at w) ∙ node_word-same t.inputs t.inputs values (widths_of t) (words_from t.inputs values made []) (words_of t values) node l (λ i q. refl) (λ a q. k.words values a (omega arith))

built_by : (t : TermsView) (keys : List TermNode) (node : TermNode) (id : TermId) → keys ≡ made_nodes t.nodes node → id.0 ≡ made_id t.nodes node → built_of (record t { nodes = keys }) id ≡ with_node t node
unfolding with_node
built_by t keys node id all at =
    ap (λ (ns : List TermNode). built_of (record { inputs = t.inputs; nodes = ns }) id) all
    ∙ ap (λ (k : ℕ). let j : TermId = record { 0 = k } in built_of (record { inputs = t.inputs; nodes = made_nodes t.nodes node }) j) at

-- in the words of the derived test, which the set of nodes has
pub made : (t : TermsView) (keys : List TermNode) (node : TermNode) (id : TermId) → AreTerms t → IsLawful t.inputs (widths_of t) node
    → keys ≡ insert_key eq-value.it t.nodes node → id.0 ≡ position_or_len (eq-value.it node) t.nodes → IsMade t (record t { nodes = keys }) node id
made t keys node id h l e i =
    let all : keys ≡ made_nodes t.nodes node = e ∙ ap (λ (q : TermNode → TermNode → Bool). insert_key q t.nodes node) eq-is_same in
    let at : id.0 ≡ made_id t.nodes node = i ∙ ap (λ (q : TermNode → TermNode → Bool). position_or_len (q node) t.nodes) eq-is_same in
    let p : IsPlaced t.nodes keys node id.0 = rw (all, at) (placed t.nodes node) in
    let lawful : AreLawful t.inputs keys [] = rw all (made_lawful t node h.lawful l) in
    record {
      makes = record {
        built = built_by t keys node id all at;
        nodes = ap (λ ns. record { inputs = t.inputs; nodes = ns }) all;
        id = at;
        stands = made_stands t.nodes keys node id.0 p;
        width = made_width t keys node id p l lawful;
        kept = made_keeps t keys node id.0 p;
      };
      word = made_word t keys node id p l lawful;
    }

-- ---- a node that was added
pub record IsAdded (t : TermsView) (keys : List TermNode) (node : TermNode) : Type 0 where
  pub pushed : keys ≡ t.nodes ++ node ∷ []
  pub terms : AreTerms (record t { nodes = keys })

absent_cond : (b : Bool) (xs ys : List TermNode) → not b ≡ true → cond b xs ys ≡ ys
absent_cond true xs ys h = cc
absent_cond false xs ys h = refl

pub added : (t : TermsView) (keys : List TermNode) (node : TermNode) (new : Bool) → AreTerms t → IsLawful t.inputs (widths_of t) node → length t.nodes + 1 < 2 ^ 31
    → new ≡ not (list_any (eq-value.it node) t.nodes) → new ≡ true → keys ≡ insert_key eq-value.it t.nodes node → IsAdded t keys node
added t keys node new h l few e i k =
    let none : not (list_any (eq-value.it node) t.nodes) ≡ true = sym e ∙ i in
    let pushed : keys ≡ t.nodes ++ node ∷ [] = k ∙ absent_cond (list_any (eq-value.it node) t.nodes) t.nodes (t.nodes ++ node ∷ []) none in
    let gone : list_any (same_node node) t.nodes ≡ false = ap (λ (q : TermNode → TermNode → Bool). list_any (q node) t.nodes) (sym eq-is_same) ∙ not_true (list_any (eq-value.it node) t.nodes) none in
    let P : List TermNode → Type 0 = λ ns. AreTerms (record t { nodes = ns }) in
    record { pushed = pushed; terms = subst P (sym pushed) (AreTerms-push t node h l gone few) }

-- ---- a node that stands at one place alone
not_same : (a b : TermNode) (q : Bool) → same_node a b ≡ q → a ≢ b → q ≡ false
not_same a b true e h = absurd (h (same-node a b e))
not_same a b false e h = refl

pub only_there : (nodes : List TermNode) (k : ℕ) (d : TermNode) → AllPairs (λ a b. a ≢ b) nodes → k < length nodes → made_id nodes (get_or nodes k d) ≡ k
only_there nodes k d apart h =
    let node = get_or nodes k d in
    position_or_len_is (same_node node) nodes k d (omega arith)
    (λ j p. not_same node (get_or nodes j d) (same_node node (get_or nodes j d)) refl (λ q. apart j k d p h (sym q)))
    (λ _. same_self node)

-- every term has a width
pub widths_count : (t : TermsView) → length (widths_of t) ≡ length t.nodes
widths_count t = omega (arith, length-entries (node_width t.inputs) t.nodes [])

-- the same, for terms that are seen as t
pub made_seen : (inside t : TermsView) (keys : List TermNode) (node : TermNode) (id : TermId) → inside ≡ t → AreTerms inside → IsLawful t.inputs (widths_of t) node
    → keys ≡ insert_key eq-value.it inside.nodes node → id.0 ≡ position_or_len (eq-value.it node) inside.nodes → IsMade t (record inside { nodes = keys }) node id
made_seen inside t keys node id e h l k i =
    let P : TermsView → Type 0 = λ u. IsMade u (record inside { nodes = keys }) node id in
    subst P e (made inside keys node id h (rw (← e) at l) k i)

-- a node that is there isn't added
pub not_both : (there new : Bool) → new ≡ true → new ≡ not there → there ≡ true → ⊥
not_both there new n e t = let f = ap not t in cc
