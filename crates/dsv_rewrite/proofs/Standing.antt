-- What a term that stands is made of, and what rules ask of the terms that they add.
use Rattle.std.proofs.Common.{◌≡◌, ℕ, suc, ◌+◌, ◌<◌, ◌≤◌, Bool, true, false, cond, inl, inr, List, [], ◌∷◌, ◌++◌, Option, Some, None, refl, arith, ap, sym, subst, ◌∙◌, length, take, drop, length-take, slice_index, slice_get, get_or}
use Rattle.std.specs.Prelude.{unwrap_or}
use Rattle.std.specs.List.{list_any, position_or_len}
use Rattle.std.proofs.lemmas.List.{take-append-drop, drop_more, length-map, length_push, get_or_push}
use Rattle.std.proofs.lemmas.Option.{unwrap_or-slice_get, get_or_from_slice_get}
use Rattle.std.proofs.lemmas.Bool.{cases_lt}
use Rattle.dsv_term.specs.declared.node.TermId.{TermId}
use Rattle.dsv_term.specs.declared.node.TermNode.{TermNode}
use Rattle.dsv_term.specs.declared.node.TermNode.TheVariants.{Input, Constant, Add, Sub, Slt, Sle, Ult, Eq, And, Or, Concat, Neg, Not, MulConst, Sext, Extract, Ite}
use Rattle.dsv_term.specs.declared.word.Word.{Word}
use Rattle.dsv_term.specs.Building.{Built, built_of, with_node}
use Rattle.dsv_term.specs.Growth.{AreSound, Adds}
use Rattle.dsv_term.specs.Making.{made_nodes, made_id, same_node}
use Rattle.dsv_term.specs.TermNode.{word_at, node_word, words_from, node_width, widths_from, IsLawful, AreLawful}
use Rattle.dsv_term.specs.Terms.{KeepsTerms, AreValues, widths_of, width_of, words_of, word_of}
use Rattle.dsv_term.specs.TermsView.{TermsView}
use Rattle.dsv_term.specs.Word.{IsWord}
use Rattle.dsv_term.proofs.Building.{Adds-none, Adds-both, node_gives}
use Rattle.dsv_term.proofs.Entries.{length-entries}
use Rattle.dsv_term.proofs.Lawful.{AreLawful-at, prefix-keeps, word-at, width-at}
use Rattle.dsv_term.proofs.Made.{widths_count, absent}
use Rattle.dsv_term.proofs.Same.{same-node}
use Rattle.dsv_term.proofs.Words.{words_of_nodes, known}
use Rattle.dsv_rewrite.specs.Constants.{node_at, constant_of, constant_at, constant_term}
use Rattle.dsv_rewrite.specs.Simple.{IsOpen, OneIsOpen, IsSimple, AreSimple}

-- ---- the node of a term
-- A term's node is lawful after the earlier ones, and its word is made of theirs.
pub record IsMadeOf (t : TermsView) (id : TermId) (n : TermNode) : Type 0 where
  pub earlier : List ℕ
  pub count : length earlier ≡ id.0
  pub same : (a : TermId) → a.0 < id.0 → slice_index earlier a.0 ≡ width_of t a
  pub lawful : IsLawful t.inputs earlier n
  pub width : width_of t id ≡ node_width t.inputs (widths_of t) n
  pub word : (values : List ℕ) → word_of t values id ≡ node_word t.inputs values (words_of t values) n

pub made_of : (t : TermsView) (id : TermId) → AreSound t → id.0 < length t.nodes → IsMadeOf t id (node_at t id)
made_of t id s h =
    let before = take id.0 t.nodes in
    let after = drop (id.0 + 1) t.nodes in
    let n = node_at t id in
    let split : t.nodes ≡ before ++ n ∷ after = sym (take-append-drop id.0 t.nodes) ∙ ap (λ (ns : List TermNode). before ++ ns) (drop_more t.nodes id.0 (Input 0) h) in
    let place : id.0 ≡ length before = omega (arith, length-take id.0 t.nodes) in
    let lawful : AreLawful t.inputs (before ++ n ∷ after) [] = subst (λ (ns : List TermNode). AreLawful t.inputs ns []) split s.lawful in
    record {
      earlier = widths_from t.inputs before [];
      count = omega (arith, length-entries (node_width t.inputs) before []);
      same = λ a p. subst (λ (ns : List TermNode). get_or (widths_from t.inputs before []) a.0 0 ≡ get_or (widths_from t.inputs ns []) a.0 0) (sym split)
          (sym (prefix-keeps (node_width t.inputs) before (n ∷ after) a.0 0 (omega arith)));
      lawful = AreLawful-at t.inputs before after n [] lawful;
      width = subst (λ (ns : List TermNode). slice_index (widths_from t.inputs ns []) id.0 ≡ node_width t.inputs (widths_from t.inputs ns []) n) (sym split) (width-at t.inputs before after n id lawful place);
      word = λ values. subst (λ (ns : List TermNode). word_at (words_from t.inputs values ns []) id ≡ node_word t.inputs values (words_from t.inputs values ns []) n) (sym split) (word-at t.inputs values before after n id lawful place);
    }

pub node_at-is : (t : TermsView) (id : TermId) (n : TermNode) → slice_get t.nodes id.0 ≡ Some n → node_at t id ≡ n
node_at-is t id n e = get_or_from_slice_get t.nodes id.0 n (Input 0) e

pub node_at-later : (t u : TermsView) (id : TermId) → KeepsTerms t u → id.0 < length t.nodes → node_at u id ≡ node_at t id
node_at-later t u id k h =
    sym (unwrap_or-slice_get u.nodes id.0 (Input 0)) ∙ (ap (λ (o : Option TermNode). unwrap_or o (Input 0)) (k.nodes id h) ∙ unwrap_or-slice_get t.nodes id.0 (Input 0))

-- ---- words
pub record IsKnownWord (t : TermsView) (values : List ℕ) (id : TermId) : Type 0 where
  pub word : IsWord (word_of t values id)
  pub width : (word_of t values id).width ≡ width_of t id

pub known_word : (t : TermsView) (values : List ℕ) (id : TermId) → AreSound t → AreValues t.inputs values → id.0 < length t.nodes → IsKnownWord t values id
known_word t values id s v l =
    let all = words_of_nodes t.inputs values t.nodes [] s.inputs v (λ k d p. absurd (omega arith)) s.lawful in
    let n = length-entries (node_word t.inputs values) t.nodes [] in
    let k = known (words_of t values) id all.words (omega (arith, length-map (words_of t values) (λ (w : Word). w.width))) in
    record { word = k.word; width = k.width ∙ ap (λ (ws : List ℕ). slice_index ws id.0) all.widths }

-- ---- constants
-- The term is this constant.
pub record IsConstantTerm (t : TermsView) (id : TermId) (x : Word) : Type 0 where
  pub word : (values : List ℕ) → word_of t values id ≡ x
  pub fits : IsWord x
  pub width : x.width ≡ width_of t id

constant_of-is : (t : TermsView) (id : TermId) (n : TermNode) (x : Word) → IsMadeOf t id n → constant_of n ≡ Some x → IsConstantTerm t id x
constant_of-is t id (Constant w v) x m e =
    let d : Word = record { width = 0; number = 0 } in
    let same : record { width = w; number = v } ≡ x = ap (λ (o : Option Word). unwrap_or o d) e in
    let l = m.lawful in
    subst (λ (y : Word). IsConstantTerm t id y) same (record { word = m.word; fits = record { lawful = l.lawful; fits = l.fits }; width = sym m.width })
constant_of-is t id n x m e = absurd cc

pub constant_is : (t : TermsView) (id : TermId) (x : Word) → AreSound t → id.0 < length t.nodes → constant_at t id ≡ Some x → IsConstantTerm t id x
constant_is t id x s h e = constant_of-is t id (node_at t id) x (made_of t id s h) e

-- ---- nodes that are simple
open_later : (t u : TermsView) (a : TermId) → KeepsTerms t u → a.0 < length t.nodes → IsOpen t a → IsOpen u a
open_later t u a k h o = ap constant_of (node_at-later t u a k h) ∙ o

one_open_later : (t u : TermsView) (a b : TermId) → KeepsTerms t u → a.0 < length t.nodes → b.0 < length t.nodes → OneIsOpen t a b → OneIsOpen u a b
one_open_later t u a b k h g o = elim o [
  | inl p ↦ inl (open_later t u a k h p)
  | inr p ↦ inr (open_later t u b k g p)
]

simple_later : (t u : TermsView) (inputs ws : List ℕ) (n : TermNode) → length ws ≤ length t.nodes → IsLawful inputs ws n → KeepsTerms t u → IsSimple t n → IsSimple u n
simple_later t u inputs ws (Input i) c l k s = tt
simple_later t u inputs ws (Constant w v) c l k s = tt
simple_later t u inputs ws (Add a b) c l k s = one_open_later t u a b k (omega (arith, l.first)) (omega (arith, l.second)) s
simple_later t u inputs ws (Sub a b) c l k s = one_open_later t u a b k (omega (arith, l.first)) (omega (arith, l.second)) s
simple_later t u inputs ws (Slt a b) c l k s = one_open_later t u a b k (omega (arith, l.first)) (omega (arith, l.second)) s
simple_later t u inputs ws (Sle a b) c l k s = one_open_later t u a b k (omega (arith, l.first)) (omega (arith, l.second)) s
simple_later t u inputs ws (Ult a b) c l k s = one_open_later t u a b k (omega (arith, l.first)) (omega (arith, l.second)) s
simple_later t u inputs ws (Eq a b) c l k s = one_open_later t u a b k (omega (arith, l.first)) (omega (arith, l.second)) s
simple_later t u inputs ws (And a b) c l k s = one_open_later t u a b k (omega (arith, l.first)) (omega (arith, l.second)) s
simple_later t u inputs ws (Or a b) c l k s = one_open_later t u a b k (omega (arith, l.first)) (omega (arith, l.second)) s
simple_later t u inputs ws (Concat a b) c l k s = one_open_later t u a b k (omega (arith, l.first)) (omega (arith, l.second)) s
simple_later t u inputs ws (Neg a) c l k s = open_later t u a k (omega (arith, l)) s
simple_later t u inputs ws (Not a) c l k s = open_later t u a k (omega (arith, l)) s
simple_later t u inputs ws (MulConst a m) c l k s = s
simple_later t u inputs ws (Sext a w) c l k s = open_later t u a k (omega (arith, l.stands)) s
simple_later t u inputs ws (Extract a h j) c l k s = open_later t u a k (omega (arith, l.stands)) s
simple_later t u inputs ws (Ite q a b) c l k s = elim s [
  | inl p ↦ inl (open_later t u q k (omega (arith, l.stands)) p)
  | inr p ↦ inr (one_open_later t u a b k (omega (arith, l.alike.first)) (omega (arith, l.alike.second)) p)
]

-- ---- what a rule says
-- Terms are added so that a term with this word stands, and if all nodes were simple, they still are.
pub record Rewrites (t : TermsView) (b : Built) (bits : ℕ) (meaning : List ℕ → Word) : Type 0 where
  pub adds : Adds t b.terms b.id bits
  pub word : (values : List ℕ) → AreValues t.inputs values → word_of b.terms values b.id ≡ meaning values
  pub simple : AreSimple t → AreSimple b.terms

-- the nodes that stood are simple among the later ones
pub old_simple : (t u : TermsView) (i : ℕ) (n : TermNode) → AreSound t → KeepsTerms t u → AreSimple t → i < length t.nodes → slice_get u.nodes i ≡ Some n → IsSimple u n
old_simple t u i n s k a h e =
    let id : TermId = record { 0 = i } in
    let here : slice_get t.nodes i ≡ Some n = sym (k.nodes id h) ∙ e in
    let m = subst (λ (p : TermNode). IsMadeOf t id p) (node_at-is t id n here) (made_of t id s h) in
    simple_later t u t.inputs m.earlier n (omega (arith, m.count)) m.lawful k (a i n h here)

pub push_simple : (t u : TermsView) (n : TermNode) → AreSound t → KeepsTerms t u → IsLawful t.inputs (widths_of t) n → IsSimple t n → u.nodes ≡ t.nodes ++ n ∷ [] → AreSimple t → AreSimple u
push_simple t u n s k l q e a i m h g = elim (cases_lt i (length t.nodes)) [
  | inl less ↦ old_simple t u i m s k a less g
  | inr more ↦
      let long : length u.nodes ≡ length t.nodes + 1 = ap length e ∙ length_push t.nodes n in
      let last : get_or (t.nodes ++ n ∷ []) i (Input 0) ≡ n = get_or_push t.nodes n (Input 0) i (omega arith) in
      let got : get_or u.nodes i (Input 0) ≡ m = get_or_from_slice_get u.nodes i m (Input 0) g in
      let is : n ≡ m = sym last ∙ (ap (λ (ns : List TermNode). get_or ns i (Input 0)) (sym e) ∙ got) in
      let new = simple_later t u t.inputs (widths_of t) n (omega (arith, widths_count t)) l k q in
      subst (λ (p : TermNode). IsSimple u p) is new
]

made_simple : (t u : TermsView) (n : TermNode) (b : Bool) → list_any (same_node n) t.nodes ≡ b → AreSound t → KeepsTerms t u → IsLawful t.inputs (widths_of t) n → IsSimple t n → u.nodes ≡ made_nodes t.nodes n → AreSimple t → AreSimple u
made_simple t u n true b s k l q e a i m h g =
    let same : u.nodes ≡ t.nodes = e ∙ rw b refl in
    old_simple t u i m s k a (let z = ap length same in omega arith) g
made_simple t u n false b s k l q e a i m h g = push_simple t u n s k l q (e ∙ rw b refl) a i m h g

pub node_rewrites : (t : TermsView) (n : TermNode) → AreSound t → IsLawful t.inputs (widths_of t) n → IsSimple t n
    → Rewrites t (with_node t n) (node_width t.inputs (widths_of t) n) (λ values. node_word t.inputs values (words_of t values) n)
unfolding with_node
node_rewrites t n s l q =
    let g = node_gives t n s l in
    record {
      adds = g.adds;
      word = λ values v. g.word values;
      simple = λ a. made_simple t (with_node t n).terms n (list_any (same_node n) t.nodes) refl s g.adds.kept l q refl a;
    }

-- a term that stands already
pub kept_rewrites : (t : TermsView) (a : TermId) (bits : ℕ) (meaning : List ℕ → Word) → AreSound t → a.0 < length t.nodes → width_of t a ≡ bits → ((values : List ℕ) → AreValues t.inputs values → word_of t values a ≡ meaning values)
    → Rewrites t (built_of t a) bits meaning
kept_rewrites t a bits meaning s h w e = record { adds = Adds-none t a bits s h w; word = e; simple = λ z. z }

-- the same in other words
pub rewrites_as : (t : TermsView) (b : Built) (m n : ℕ) (f g : List ℕ → Word) → Rewrites t b m f → m ≡ n → ((values : List ℕ) → AreValues t.inputs values → f values ≡ g values) → Rewrites t b n g
rewrites_as t b m n f g r w e = record { adds = subst (λ (k : ℕ). Adds t b.terms b.id k) w r.adds; word = λ values v. r.word values v ∙ e values v; simple = r.simple }

pub constant_rewrites : (t : TermsView) (x : Word) → AreSound t → IsWord x → Rewrites t (constant_term t x) x.width (λ values. x)
constant_rewrites t x s h = node_rewrites t (Constant x.width x.number) s (record { lawful = h.lawful; fits = h.fits }) tt

pub constant_node : (t : TermsView) (id : TermId) (n : TermNode) (x : Word) → AreSound t → id.0 < length t.nodes → slice_get t.nodes id.0 ≡ Some n → constant_of n ≡ Some x → IsConstantTerm t id x
constant_node t id n x s h g e = constant_is t id x s h (ap constant_of (node_at-is t id n g) ∙ e)

pub not_constant : (n : TermNode) → ((w v : ℕ) → n ≡ Constant w v → ⊥) → None ≡ constant_of n
not_constant (Constant w v) h = absurd (h w v refl)
not_constant n h = refl

-- ---- the node that was made
later_entry : (p : TermNode → Bool) (n d : TermNode) (ns : List TermNode) (k : ℕ) → p (get_or ns k d) ≡ true → p (get_or (n ∷ ns) (k + 1) d) ≡ true
later_entry p n d ns k e = let z : suc k ≡ k + 1 = omega arith in subst (λ (m : ℕ). p (get_or (n ∷ ns) m d) ≡ true) z e

found_by : (p : TermNode → Bool) (n d : TermNode) (ns : List TermNode) (b : Bool) → p n ≡ b → list_any p (n ∷ ns) ≡ true → (list_any p ns ≡ true → p (get_or ns (position_or_len p ns) d) ≡ true) → p (get_or (n ∷ ns) (position_or_len p (n ∷ ns)) d) ≡ true
found_by p n d ns true g e rest = rw g g
found_by p n d ns false g e rest =
    let k = position_or_len p ns in
    let next : k + 1 ≡ 1 + k = omega arith in
    rw g (subst (λ (m : ℕ). p (get_or (n ∷ ns) m d) ≡ true) next (later_entry p n d ns k (rest (rw g at e))))

found_at : (p : TermNode → Bool) (ns : List TermNode) (d : TermNode) → list_any p ns ≡ true → p (get_or ns (position_or_len p ns) d) ≡ true
found_at p [] d e = absurd cc
found_at p (n ∷ ns) d e = found_by p n d ns (p n) refl e (λ g. found_at p ns d g)

made_at_by : (ns : List TermNode) (n d : TermNode) (b : Bool) → list_any (same_node n) ns ≡ b → get_or (cond b ns (ns ++ n ∷ [])) (made_id ns n) d ≡ n
made_at_by ns n d true e = sym (same-node n (get_or ns (made_id ns n) d) (found_at (same_node n) ns d e))
made_at_by ns n d false e = get_or_push ns n d (made_id ns n) (sym (absent (same_node n) ns e))

pub node_at-made : (t : TermsView) (n : TermNode) → node_at (with_node t n).terms (with_node t n).id ≡ n
unfolding with_node
node_at-made t n = made_at_by t.nodes n (Input 0) (list_any (same_node n) t.nodes) refl

-- ---- one rule after another
pub rewrites_then : (t : TermsView) (a b : Built) (m n : ℕ) (f g h : List ℕ → Word) → Rewrites t a m f → Rewrites a.terms b n g → ((values : List ℕ) → AreValues t.inputs values → g values ≡ h values) → Rewrites t b n h
rewrites_then t a b m n f g h r s e = record {
  adds = Adds-both t a.terms b.terms a.id b.id m n r.adds s.adds;
  word = λ values v. s.word values (subst (λ (i : List ℕ). AreValues i values) (sym r.adds.inputs) v) ∙ e values v;
  simple = λ z. s.simple (r.simple z);
}

pub node_made : (t : TermsView) (id : TermId) (n : TermNode) → AreSound t → id.0 < length t.nodes → slice_get t.nodes id.0 ≡ Some n → IsMadeOf t id n
node_made t id n s h e = subst (λ (m : TermNode). IsMadeOf t id m) (node_at-is t id n e) (made_of t id s h)
