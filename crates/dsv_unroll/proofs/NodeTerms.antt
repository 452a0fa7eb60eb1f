-- What the term of a node adds.
use Rattle.std.proofs.Common.{◌≡◌, ℕ, ◌+◌, ◌-◌, ◌^◌, ◌<◌, ◌≤◌, Bool, true, false, inl, inr, List, [], ◌∷◌, ◌++◌, refl, arith, ◌∙◌, length}
use Rattle.std.specs.Prelude.{◌==◌, nat_lt, if◌then◌else◌, slice_index_or}
use Rattle.std.proofs.Math.Nat.{pow-le-pow_right}
use Rattle.std.proofs.lemmas.Bool.{cases_lt}
use Rattle.std.proofs.lemmas.Bool.Decides.{nat_tests}
use Rattle.std.proofs.lemmas.List.{get_or_append_left, get_or_push, length_push}
use Rattle.std.proofs.lemmas.List.Elements.{All-get_or}
use Rattle.std.proofs.lemmas.Nat.{pow_pos}
use Rattle.dsv_names.specs.declared.rounding.Rounding.{Rounding}
use Rattle.dsv_names.specs.declared.rounding.Rounding.TheVariants as rounding
use Rattle.dsv_word.specs.declared.format.Format.{Format}
use Rattle.dsv_word.specs.Words.{width}
use Rattle.dsv_netlist.specs.declared.node.Node.{Node}
use Rattle.dsv_netlist.specs.declared.node.Node.TheVariants as node
use Rattle.dsv_netlist.specs.Limits.{bound_limit}
use Rattle.dsv_netlist.specs.Nodes.{Net}
use Rattle.dsv_netlist.specs.Bounds.{bounds_of}
use Rattle.dsv_netlist.specs.Conditions.{IsNetlist, NamesBelow, ReadsBelow}
use Rattle.dsv_netlist.proofs.BoundLemmas.{from-length}
use Rattle.dsv_term.specs.declared.node.TermId.{TermId}
use Rattle.dsv_term.specs.Building.{Built, built_of}
use Rattle.dsv_term.specs.Growth.{AreSound, Adds}
use Rattle.dsv_term.specs.Terms.{KeepsTerms, width_of}
use Rattle.dsv_term.specs.TermsView.{TermsView}
use Rattle.dsv_term.proofs.Building.{Adds-none, later}
use Rattle.dsv_unroll.specs.declared.rules.FitRule.{FitRule}
use Rattle.dsv_unroll.specs.declared.rules.FitRule.TheVariants as fit_rule
use Rattle.dsv_unroll.specs.Ready.{IsValue, AreReady}
use Rattle.dsv_unroll.specs.Rules.{Unrolled, unrolled_of, product_width, product_term, scaled_width, scaled_term, sum_width, shift_width, shifted_term, addend_of, is_whole, addend_at, fitted_term, word_term, term_at, bound_at, node_term}
use Rattle.dsv_unroll.proofs.RuleTerms.{value_later, product_made, product_narrow, scaled_made, scaled_narrow, sum_made, difference_made, sum_narrow}
use Rattle.dsv_unroll.proofs.RoundTerms.{shift_width-narrow, shifted}
use Rattle.dsv_unroll.proofs.FitTerms.{tested_fits}
use Rattle.dsv_unroll.proofs.FaithfulTerms.{word_fits}

-- ---- numbers of a netlist
pub bound_small : (net : Net) (i : ℕ) → IsNetlist net → i < length net.nodes → bound_at net i < 2 ^ 126
bound_small net i n h =
    All-get_or (λ (b : ℕ). b < bound_limit) (bounds_of net.format net.nodes) i 0 (omega (arith, from-length net.format net.nodes [], h)) n.bounded

pub point_small : (f : Format) → f.frac_bits ≤ 48
point_small f = let l = f.lawful in omega (arith, l.0, l.1, l.2)

pub width_some : (f : Format) → 1 ≤ width f
width_some f = let l = f.lawful in omega (arith, l.0, l.1)

pub width_small : (f : Format) → width f ≤ 48
width_small f = let l = f.lawful in omega (arith, l.2)

addend_is_small : (r : Rounding) (f : ℕ) → addend_of r f ≤ 2 ^ f
addend_is_small rounding.Floor f = omega (arith, pow_pos f)
addend_is_small rounding.Ceil f = omega arith
addend_is_small rounding.Nearest f = pow-le-pow_right (omega arith) (omega arith)

if_small : (q : Bool) (a k : ℕ) → a ≤ k → (if q then 0 else a) ≤ k
if_small true a k h = omega arith
if_small false a k h = h

pub addend_small : (net : Net) (of : ℕ) → addend_at net of ≤ 2 ^ net.format.frac_bits
addend_small net of =
    if_small (is_whole net.format.frac_bits (slice_index_or net.nodes of node.Input)) (addend_of net.format.rounding net.format.frac_bits) (2 ^ net.format.frac_bits)
    (addend_is_small net.format.rounding net.format.frac_bits)

-- ---- what is added
pub record NodeAdds (t : TermsView) (u : Unrolled) : Type 0 where
  pub sound : AreSound u.terms
  pub inputs : u.terms.inputs ≡ t.inputs
  pub kept : KeepsTerms t u.terms
  pub value : IsValue u.terms u.id
  pub overflowed_stands : u.overflowed.0 < length u.terms.nodes
  pub overflowed_bit : width_of u.terms u.overflowed ≡ 1

-- a term that is added, and the bit as it was
plain : (t : TermsView) (b : Built) (bits : ℕ) (overflowed : TermId) → Adds t b.terms b.id bits → bits ≤ 127 → overflowed.0 < length t.nodes → width_of t overflowed ≡ 1 → NodeAdds t (unrolled_of b overflowed)
plain t b bits overflowed a n s w =
    let l = later t b.terms overflowed a.kept s in
    record { sound = a.sound; inputs = a.inputs; kept = a.kept; value = record { stands = a.stands; narrow = omega (arith, a.width, n) }; overflowed_stands = l.stands; overflowed_bit = l.width ∙ w }

standing : (t : TermsView) (id overflowed : TermId) → AreSound t → IsValue t id → overflowed.0 < length t.nodes → width_of t overflowed ≡ 1 → NodeAdds t (unrolled_of (built_of t id) overflowed)
standing t id overflowed s v k w = plain t (built_of t id) (width_of t id) overflowed (Adds-none t id (width_of t id) s v.stands refl) v.narrow k w

rounded_by : (t : TermsView) (bound addend f : ℕ) (of overflowed : TermId) (q : Bool) → AreSound t → IsValue t of → bound < 2 ^ 126 → addend ≤ 2 ^ f → f ≤ 48 → (f == 0) ≡ q → overflowed.0 < length t.nodes → width_of t overflowed ≡ 1
    → NodeAdds t (unrolled_of (if q then built_of t of else shifted_term t bound addend f of) overflowed)
rounded_by t bound addend f of overflowed true s v l m k e bs bw = standing t of overflowed s v bs bw
rounded_by t bound addend f of overflowed false s v l m k e bs bw =
    let h = shifted t of bound addend f s v l m k in
    let p : 1 ≤ f = grind (arith, nat_tests) in
    plain t (shifted_term t bound addend f of) (shift_width t bound addend f of - f) overflowed h.adds (omega (arith, shift_width-narrow t of bound addend f v l m k)) bs bw

faithful_by : (t : TermsView) (f : Format) (of overflowed : TermId) (q : Bool) → nat_lt (width f) (width_of t of) ≡ q → AreSound t → IsValue t of → overflowed.0 < length t.nodes → width_of t overflowed ≡ 1
    → NodeAdds t (if q then unrolled_of (word_term f.overflow t (width f) of) overflowed else unrolled_of (built_of t of) overflowed)
faithful_by t f of overflowed true e s v bs bw =
    let l : width f < width_of t of = grind (arith, nat_tests) in
    let h = word_fits f.overflow t of (width f) s v.stands (width_some f) (omega arith) in
    let b = word_term f.overflow t (width f) of in
    plain t b (width_of b.terms b.id) overflowed h.adds (omega (arith, h.narrow, width_small f)) bs bw
faithful_by t f of overflowed false e s v bs bw = standing t of overflowed s v bs bw

fitted_adds : (rule : FitRule) (t : TermsView) (f : Format) (of overflowed : TermId) → AreSound t → IsValue t of → overflowed.0 < length t.nodes → width_of t overflowed ≡ 1 → NodeAdds t (fitted_term rule f t of overflowed)
fitted_adds fit_rule.Tested t f of overflowed s v bs bw =
    let h = tested_fits t of (width f) overflowed s v (width_some f) bs bw in
    record { sound = h.adds.sound; inputs = h.adds.inputs; kept = h.adds.kept; value = record { stands = h.adds.stands; narrow = h.narrow }; overflowed_stands = h.overflowed_stands; overflowed_bit = h.overflowed_bit }
fitted_adds fit_rule.Faithful t f of overflowed s v bs bw = faithful_by t f of overflowed (nat_lt (width f) (width_of t of)) refl s v bs bw

pub node_adds : (rule : FitRule) (net : Net) (registers : List TermId) (x : TermId) (t : TermsView) (ids : List TermId) (overflowed : TermId) (n : Node) → IsNetlist net → AreReady net registers x t ids overflowed
    → length ids < length net.nodes → NamesBelow (length ids) n → ReadsBelow (length registers) n → NodeAdds t (node_term rule net registers x t ids overflowed n)
node_adds rule net registers x t ids overflowed node.Input net_ r l b d = standing t x overflowed r.sound r.input r.overflowed_stands r.overflowed_bit
node_adds rule net registers x t ids overflowed (node.Reg k) net_ r l b d = standing t (term_at registers k) overflowed r.sound (r.registers_stand k d) r.overflowed_stands r.overflowed_bit
node_adds rule net registers x t ids overflowed (node.MulConst c of) net_ r l b d =
    let bound = bound_at net (length ids) in
    let small = bound_small net (length ids) net_ l in
    let v = r.nodes of b in
    let h = product_made t bound c (term_at ids of) r.sound v small in
    plain t (product_term t bound c (term_at ids of)) (product_width t bound c (term_at ids of)) overflowed h.adds (product_narrow t bound c (term_at ids of) v small) r.overflowed_stands r.overflowed_bit
node_adds rule net registers x t ids overflowed (node.Round of) net_ r l b d =
    rounded_by t (bound_at net of) (addend_at net of) net.format.frac_bits (term_at ids of) overflowed (net.format.frac_bits == 0) r.sound (r.nodes of b) (bound_small net of net_ (omega arith)) (addend_small net of) (point_small net.format) refl r.overflowed_stands r.overflowed_bit
node_adds rule net registers x t ids overflowed (node.Add i j) net_ r l b d =
    let bound = bound_at net (length ids) in
    let small = bound_small net (length ids) net_ l in
    let h = sum_made t bound (term_at ids i) (term_at ids j) r.sound (r.nodes i b.0) (r.nodes j b.1) small in
    plain t _ (sum_width t bound (term_at ids i) (term_at ids j)) overflowed h.adds (sum_narrow t bound (term_at ids i) (term_at ids j) (r.nodes i b.0) (r.nodes j b.1) small) r.overflowed_stands r.overflowed_bit
node_adds rule net registers x t ids overflowed (node.Sub i j) net_ r l b d =
    let bound = bound_at net (length ids) in
    let small = bound_small net (length ids) net_ l in
    let h = difference_made t bound (term_at ids i) (term_at ids j) r.sound (r.nodes i b.0) (r.nodes j b.1) small in
    plain t _ (sum_width t bound (term_at ids i) (term_at ids j)) overflowed h.adds (sum_narrow t bound (term_at ids i) (term_at ids j) (r.nodes i b.0) (r.nodes j b.1) small) r.overflowed_stands r.overflowed_bit
node_adds rule net registers x t ids overflowed (node.Fit of) net_ r l b d = fitted_adds rule t net.format (term_at ids of) overflowed r.sound (r.nodes of b) r.overflowed_stands r.overflowed_bit
node_adds rule net registers x t ids overflowed (node.Scale of) net_ r l b d =
    let bound = bound_at net (length ids) in
    let small = bound_small net (length ids) net_ l in
    let v = r.nodes of b in
    let f = net.format.frac_bits in
    let h = scaled_made t bound f (term_at ids of) r.sound v small in
    plain t (scaled_term t bound f (term_at ids of)) (scaled_width t bound f (term_at ids of)) overflowed h.adds (scaled_narrow t bound f (term_at ids of) v small) r.overflowed_stands r.overflowed_bit

-- ---- ready after a node
-- a fact of all terms so far and of one more
pub all_more : (P : TermId → Type 0) (ids : List TermId) (id : TermId) → ((i : ℕ) → i < length ids → P (term_at ids i)) → P id → (i : ℕ) → i < length (ids ++ id ∷ []) → P (term_at (ids ++ id ∷ []) i)
all_more P ids id h p i l = elim (cases_lt i (length ids)) [
  | inl less ↦ rw (get_or_append_left ids (id ∷ []) (record { 0 = 0 }) i less) (h i less)
  | inr more ↦ (let e : length ids ≡ i = omega (arith, length_push ids id) in rw (get_or_push ids id (record { 0 = 0 }) i e) p)
]

pub ready_with : (net : Net) (registers : List TermId) (x : TermId) (t : TermsView) (ids : List TermId) (overflowed : TermId) (u : Unrolled) → AreReady net registers x t ids overflowed → NodeAdds t u → AreReady net registers x u.terms (ids ++ u.id ∷ []) u.overflowed
ready_with net registers x t ids overflowed u r a =
    record {
      sound = a.sound;
      nodes = all_more (IsValue u.terms) ids u.id (λ i p. value_later t u.terms (term_at ids i) a.kept (r.nodes i p)) a.value;
      count = r.count;
      registers_stand = λ k p. value_later t u.terms (term_at registers k) a.kept (r.registers_stand k p);
      input = value_later t u.terms x a.kept r.input;
      overflowed_stands = a.overflowed_stands;
      overflowed_bit = a.overflowed_bit;
    }
