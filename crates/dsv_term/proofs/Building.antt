-- What a node adds to sound terms: earlier terms stay, and its word is made of theirs.
use Rattle.std.proofs.Common.{◌≡◌, ℕ, ◌+◌, ◌-◌, ◌^◌, ◌<◌, ◌≤◌, List, [], ◌∷◌, ◌++◌, refl, arith, ap, sym, subst, ◌∙◌, length, slice_index}
use Rattle.std.proofs.Math.IntN.{ℤ}
use Rattle.dsv_term.specs.Limits.{max_width}
use Rattle.dsv_term.specs.declared.node.TermId.{TermId}
use Rattle.dsv_term.specs.declared.node.TermNode.{TermNode}
use Rattle.dsv_term.specs.declared.node.TermNode.TheVariants.{Input, Constant, Add, Sub, Slt, Sle, Eq, And, Or, Not, MulConst, Sext, Extract, Ite}
use Rattle.dsv_term.specs.declared.word.Word.{Word}
use Rattle.dsv_term.specs.Building.{Built, built_of, with_node, with_new_input}
use Rattle.dsv_term.specs.Growth.{AreSound, Adds}
use Rattle.dsv_term.specs.Making.{made_nodes, made_id}
use Rattle.dsv_term.specs.TermNode.{word_at, node_word, node_width, IsLawful, AreLawful, AreAlike}
use Rattle.dsv_term.specs.Terms.{KeepsTerms, AreTerms, widths_of, width_of, words_of, word_of}
use Rattle.dsv_term.specs.TermsView.{TermsView}
use Rattle.dsv_term.specs.Word.{IsWidth, sum_of, difference_of, product_of, signed_less_of, signed_at_most_of, same_of, and_of, or_of, complement_of, extended_of, extract_of, choice_of}
use Rattle.dsv_term.proofs.Made.{placed, made_keeps, made_stands, made_width, made_word, made_lawful, widths_count, prefix-kept, KeepsTerms-both}
use Rattle.dsv_term.proofs.Lawful.{AreLawful-push, AreLawful-more, words-more, widths-more, word-at, width-at}
use Rattle.std.proofs.lemmas.List.{get_or_push, length_push}
use Rattle.std.proofs.lemmas.List.Elements.{All-push}
use Rattle.dsv_term.proofs.Words.{AreWidths}

-- What is added, and the word of the added term at all values of the inputs.
pub record Gives (t : TermsView) (b : Built) (bits : ℕ) (meaning : List ℕ → Word) : Type 0 where
  pub adds : Adds t b.terms b.id bits
  pub word : (values : List ℕ) → word_of b.terms values b.id ≡ meaning values

pub node_gives : (t : TermsView) (n : TermNode) → AreSound t → IsLawful t.inputs (widths_of t) n
    → Gives t (with_node t n) (node_width t.inputs (widths_of t) n) (λ values. node_word t.inputs values (words_of t values) n)
unfolding with_node
node_gives t n s l =
    let p = placed t.nodes n in
    let lawful = made_lawful t n s.lawful l in
    let id : TermId = record { 0 = made_id t.nodes n } in
    record {
      adds = record {
        sound = record { inputs = s.inputs; lawful = lawful };
        inputs = refl;
        kept = made_keeps t (made_nodes t.nodes n) n (made_id t.nodes n) p;
        stands = made_stands t.nodes (made_nodes t.nodes n) n (made_id t.nodes n) p;
        width = made_width t (made_nodes t.nodes n) n id p l lawful;
      };
      word = made_word t (made_nodes t.nodes n) n id p l lawful;
    }

pub AreTerms-sound : (t : TermsView) → AreTerms t → AreSound t
AreTerms-sound t h = record { inputs = h.inputs; lawful = h.lawful }

-- a term that stands has a lawful width
pub stands-width : (t : TermsView) (id : TermId) → AreSound t → id.0 < length t.nodes → IsWidth (width_of t id)
stands-width t id s h = AreWidths t.inputs t.nodes [] s.inputs (λ k d p. absurd (omega arith)) s.lawful id.0 0 (omega (arith, widths_count t))

pub KeepsTerms-self : (t : TermsView) → KeepsTerms t t
KeepsTerms-self t = record { longer = λ id p. p; nodes = λ id p. refl; widths = λ id p. refl; words = λ values id p. refl }

-- one after the other
pub Adds-both : (t u v : TermsView) (a b : TermId) (m n : ℕ) → Adds t u a m → Adds u v b n → Adds t v b n
Adds-both t u v a b m n h k =
    record {
      sound = k.sound;
      inputs = k.inputs ∙ h.inputs;
      kept = KeepsTerms-both t u v h.kept k.kept;
      stands = k.stands;
      width = k.width;
    }

-- terms that are what a definition builds
pub Adds-built : (t u : TermsView) (id : TermId) (b : Built) (bits : ℕ) → built_of u id ≡ b → Adds t b.terms b.id bits → Adds t u id bits
Adds-built t u id b bits e a = subst (λ (p : Built). Adds t p.terms p.id bits) (sym e) a

pub Adds-width : (t u : TermsView) (id : TermId) (m n : ℕ) → Adds t u id m → m ≡ n → Adds t u id n
Adds-width t u id m n a e = subst (λ (k : ℕ). Adds t u id k) e a

-- a term that stands, as one that is added
pub Adds-none : (t : TermsView) (id : TermId) (bits : ℕ) → AreSound t → id.0 < length t.nodes → width_of t id ≡ bits → Adds t t id bits
Adds-none t id bits s h e = record { sound = s; inputs = refl; kept = KeepsTerms-self t; stands = h; width = e }

-- an earlier term after more were added
pub record IsLater (old new : TermsView) (id : TermId) : Type 0 where
  pub stands : id.0 < length new.nodes
  pub width : width_of new id ≡ width_of old id
  pub word : (values : List ℕ) → word_of new values id ≡ word_of old values id

pub later : (old new : TermsView) (id : TermId) → KeepsTerms old new → id.0 < length old.nodes → IsLater old new id
later old new id k h = record { stands = k.longer id h; width = k.widths id h; word = λ values. k.words values id h }

-- ---- by kind
pub listed : (t : TermsView) (id : TermId) → id.0 < length t.nodes → id.0 < length (widths_of t)
listed t id h = omega (arith, widths_count t)

alike : (t : TermsView) (a b : TermId) → a.0 < length t.nodes → b.0 < length t.nodes → width_of t a ≡ width_of t b → AreAlike (widths_of t) a b
alike t a b h k e = record { first = listed t a h; second = listed t b k; same = e }

pub constant_gives : (t : TermsView) (bits value : ℕ) → AreSound t → IsWidth bits → value < 2 ^ bits
    → Gives t (with_node t (Constant bits value)) bits (λ values. record { width = bits; number = value })
constant_gives t bits value s w h = node_gives t (Constant bits value) s (record { lawful = w; fits = h })

pub sum_gives : (t : TermsView) (a b : TermId) → AreSound t → a.0 < length t.nodes → b.0 < length t.nodes → width_of t a ≡ width_of t b
    → Gives t (with_node t (Add a b)) (width_of t a) (λ values. sum_of (word_of t values a) (word_of t values b))
sum_gives t a b s h k e = node_gives t (Add a b) s (alike t a b h k e)

pub difference_gives : (t : TermsView) (a b : TermId) → AreSound t → a.0 < length t.nodes → b.0 < length t.nodes → width_of t a ≡ width_of t b
    → Gives t (with_node t (Sub a b)) (width_of t a) (λ values. difference_of (word_of t values a) (word_of t values b))
difference_gives t a b s h k e = node_gives t (Sub a b) s (alike t a b h k e)

pub signed_less_gives : (t : TermsView) (a b : TermId) → AreSound t → a.0 < length t.nodes → b.0 < length t.nodes → width_of t a ≡ width_of t b
    → Gives t (with_node t (Slt a b)) 1 (λ values. signed_less_of (word_of t values a) (word_of t values b))
signed_less_gives t a b s h k e = node_gives t (Slt a b) s (alike t a b h k e)

pub signed_at_most_gives : (t : TermsView) (a b : TermId) → AreSound t → a.0 < length t.nodes → b.0 < length t.nodes → width_of t a ≡ width_of t b
    → Gives t (with_node t (Sle a b)) 1 (λ values. signed_at_most_of (word_of t values a) (word_of t values b))
signed_at_most_gives t a b s h k e = node_gives t (Sle a b) s (alike t a b h k e)

pub same_gives : (t : TermsView) (a b : TermId) → AreSound t → a.0 < length t.nodes → b.0 < length t.nodes → width_of t a ≡ width_of t b
    → Gives t (with_node t (Eq a b)) 1 (λ values. same_of (word_of t values a) (word_of t values b))
same_gives t a b s h k e = node_gives t (Eq a b) s (alike t a b h k e)

pub and_gives : (t : TermsView) (a b : TermId) → AreSound t → a.0 < length t.nodes → b.0 < length t.nodes → width_of t a ≡ width_of t b
    → Gives t (with_node t (And a b)) (width_of t a) (λ values. and_of (word_of t values a) (word_of t values b))
and_gives t a b s h k e = node_gives t (And a b) s (alike t a b h k e)

pub or_gives : (t : TermsView) (a b : TermId) → AreSound t → a.0 < length t.nodes → b.0 < length t.nodes → width_of t a ≡ width_of t b
    → Gives t (with_node t (Or a b)) (width_of t a) (λ values. or_of (word_of t values a) (word_of t values b))
or_gives t a b s h k e = node_gives t (Or a b) s (alike t a b h k e)

pub complement_gives : (t : TermsView) (a : TermId) → AreSound t → a.0 < length t.nodes
    → Gives t (with_node t (Not a)) (width_of t a) (λ values. complement_of (word_of t values a))
complement_gives t a s h = node_gives t (Not a) s (listed t a h)

pub product_gives : (t : TermsView) (a : TermId) (coeff : ℤ) → AreSound t → a.0 < length t.nodes
    → Gives t (with_node t (MulConst a coeff)) (width_of t a) (λ values. product_of coeff (word_of t values a))
product_gives t a coeff s h = node_gives t (MulConst a coeff) s (listed t a h)

pub extension_gives : (t : TermsView) (a : TermId) (bits : ℕ) → AreSound t → a.0 < length t.nodes → width_of t a ≤ bits → bits ≤ max_width
    → Gives t (with_node t (Sext a bits)) bits (λ values. extended_of bits (word_of t values a))
extension_gives t a bits s h w n = node_gives t (Sext a bits) s (record { stands = listed t a h; wider = w; narrow = n })

pub extract_gives : (t : TermsView) (a : TermId) (high low : ℕ) → AreSound t → a.0 < length t.nodes → low ≤ high → high < width_of t a
    → Gives t (with_node t (Extract a high low)) (high + 1 - low) (λ values. extract_of high low (word_of t values a))
extract_gives t a high low s h o i = node_gives t (Extract a high low) s (record { stands = listed t a h; order = o; inside = i })

pub choice_gives : (t : TermsView) (c a b : TermId) → AreSound t → c.0 < length t.nodes → a.0 < length t.nodes → b.0 < length t.nodes → width_of t c ≡ 1 → width_of t a ≡ width_of t b
    → Gives t (with_node t (Ite c a b)) (width_of t a) (λ values. choice_of (word_of t values c) (word_of t values a) (word_of t values b))
choice_gives t c a b s g h k w e = node_gives t (Ite c a b) s (record { stands = listed t c g; bit = w; alike = alike t a b h k e })

-- ---- inputs
-- What one more input adds.
pub record GivesInput (t : TermsView) (b : Built) (bits : ℕ) : Type 0 where
  pub sound : AreSound b.terms
  pub inputs : b.terms.inputs ≡ t.inputs ++ bits ∷ []
  pub kept : KeepsTerms t b.terms
  pub stands : b.id.0 < length b.terms.nodes
  pub width : width_of b.terms b.id ≡ bits
  pub word : (values : List ℕ) → word_of b.terms values b.id ≡ record { width = bits; number = slice_index values (length t.inputs) }

pub new_input_gives : (t : TermsView) (bits : ℕ) → AreSound t → IsWidth bits → GivesInput t (with_new_input t bits) bits
unfolding with_new_input
new_input_gives t bits s w =
    let u : TermsView = record t { inputs = t.inputs ++ bits ∷ [] } in
    let n = Input (length t.inputs) in
    let lawful : AreLawful u.inputs t.nodes [] = AreLawful-more t.inputs (bits ∷ []) t.nodes [] s.lawful in
    let here : length t.inputs < length u.inputs = omega (arith, length_push t.inputs bits) in
    let all = AreLawful-push u.inputs t.nodes n [] lawful here in
    let id : TermId = record { 0 = length t.nodes } in
    let widths = widths-more t.inputs (bits ∷ []) t.nodes [] s.lawful in
    let now : KeepsTerms t u = record {
      longer = λ i p. p;
      nodes = λ i p. refl;
      widths = λ i p. ap (λ (ws : List ℕ). slice_index ws i.0) widths;
      words = λ values i p. ap (λ ws. word_at ws i) (words-more t.inputs (bits ∷ []) values [] t.nodes [] s.lawful);
    } in
    let last : u.inputs ≡ u.inputs = refl in
    let read : slice_index u.inputs (length t.inputs) ≡ bits = get_or_push t.inputs bits 0 (length t.inputs) refl in
    record {
      sound = record { inputs = All-push IsWidth t.inputs bits s.inputs w; lawful = all };
      inputs = refl;
      kept = KeepsTerms-both t u (record u { nodes = t.nodes ++ n ∷ [] }) now (prefix-kept u (n ∷ []));
      stands = omega (arith, length_push t.nodes n);
      width = width-at u.inputs t.nodes [] n id all refl ∙ read;
      word = λ values. word-at u.inputs values t.nodes [] n id all refl ∙ ap (λ (k : ℕ). record { width = k; number = slice_index values (length t.inputs) }) read;
    }
