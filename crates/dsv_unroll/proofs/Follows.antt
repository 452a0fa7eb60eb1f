-- The terms of a sample spell its values as long as no value was outside, and a bit says whether one was.
use Rattle.std.proofs.Common.{◌≡◌, ℕ, ◌-◌, ◌^◌, ◌<◌, ◌≤◌, Bool, true, false, ◌||◌, List, refl, arith, ap, sym, subst, ◌∙◌, length}
use Rattle.std.specs.Prelude.{◌==◌, nat_lt, if◌then◌else◌, slice_index_or}
use Rattle.std.specs.Int.RustNames.{unsigned_abs}
use Rattle.std.proofs.Math.IntN.{ℤ, pos, ◌+ℤ◌, ◌-ℤ◌, ◌*ℤ◌}
use Rattle.std.proofs.lemmas.Int.{ints}
use Rattle.std.proofs.lemmas.Bool.{eqb-true}
use Rattle.std.proofs.lemmas.Bool.Decides.{nat_tests}
use Rattle.dsv_algebra.specs.Floor.{floor_of}
use Rattle.dsv_names.specs.declared.overflow_mode.OverflowMode.{OverflowMode}
use Rattle.dsv_names.specs.declared.overflow_mode.OverflowMode.TheVariants as overflow_mode
use Rattle.dsv_names.specs.declared.rounding.Rounding.{Rounding}
use Rattle.dsv_word.specs.declared.format.Format.{Format}
use Rattle.dsv_word.specs.Words.{width, fit, wrapped_word}
use Rattle.dsv_word.specs.Quotients.{whole_shift}
use Rattle.dsv_word.proofs.Meanings.{saturated_is}
use Rattle.dsv_netlist.specs.declared.node.Node.{Node}
use Rattle.dsv_netlist.specs.declared.node.Node.TheVariants as node
use Rattle.dsv_netlist.specs.Nodes.{Net, at, node_value}
use Rattle.dsv_netlist.specs.Conditions.{IsNetlist, NamesBelow, ReadsBelow}
use Rattle.dsv_term.specs.declared.node.TermId.{TermId}
use Rattle.dsv_term.specs.Building.{Built, built_of}
use Rattle.dsv_term.specs.Growth.{AreSound}
use Rattle.dsv_term.specs.Terms.{KeepsTerms, width_of, word_of}
use Rattle.dsv_term.specs.TermsView.{TermsView}
use Rattle.dsv_term.specs.Word.{bit_of}
use Rattle.dsv_term.proofs.Building.{KeepsTerms-self}
use Rattle.dsv_term.proofs.Complement.{IsSpelled, only_spelled, wider_spelled}
use Rattle.dsv_unroll.specs.declared.rules.FitRule.{FitRule}
use Rattle.dsv_unroll.specs.declared.rules.FitRule.TheVariants as fit_rule
use Rattle.dsv_unroll.specs.Ready.{IsValue, AreReady}
use Rattle.dsv_unroll.specs.Rules.{Unrolled, unrolled_of, rounded_term, shift_width, shifted_term, sum_term, difference_term, addend_of, is_whole, addend_at, fitted_term, word_term, term_at, bound_at, node_term}
use Rattle.dsv_unroll.proofs.RuleTerms.{Spells, spells_later, Multiplies, product_made, scaled_made, sum_made, difference_made}
use Rattle.dsv_unroll.proofs.Rounding.{IsTimes, shift_none, shift_floor, shift_times}
use Rattle.dsv_unroll.proofs.RoundTerms.{shifted}
use Rattle.dsv_unroll.proofs.FitTerms.{is_outside, inside_spelled, tested_fits}
use Rattle.dsv_unroll.proofs.FaithfulTerms.{word_fits, wrapped_residue, wrapped_spelled}
use Rattle.dsv_unroll.proofs.NodeTerms.{bound_small, addend_small, point_small, width_some}

-- the term spells the number in its own width
pub record Means (t : TermsView) (values : List ℕ) (id : TermId) (z : ℤ) : Type 0 where
  pub spells : Spells t values id (width_of t id) z

pub means_later : (t u : TermsView) (values : List ℕ) (id : TermId) (z : ℤ) → KeepsTerms t u → id.0 < length t.nodes → Means t values id z → Means u values id z
means_later t u values id z k h m =
    let s = spells_later t u values id (width_of t id) z k h m.spells in
    record { spells = subst (λ (w : ℕ). Spells u values id w z) (sym (k.widths id h)) s }

-- a term that was added in so many bits
pub means_added : (t : TermsView) (values : List ℕ) (id : TermId) (bits : ℕ) (z : ℤ) → width_of t id ≡ bits → Spells t values id bits z → Means t values id z
means_added t values id bits z e s = record { spells = subst (λ (w : ℕ). Spells t values id w z) (sym e) s }

-- ---- a sample so far
pub record Follows (values : List ℕ) (regs : List ℤ) (x : ℤ) (registers : List TermId) (input : TermId) (t : TermsView) (ids : List TermId) (overflowed : TermId) (vals : List ℤ) (b : Bool) : Type 0 where
  pub count : length ids ≡ length vals
  pub overflows : word_of t values overflowed ≡ bit_of b
  pub nodes : b ≡ false → (i : ℕ) → i < length ids → Means t values (term_at ids i) (at vals i)
  pub registers_mean : b ≡ false → (k : ℕ) → k < length registers → Means t values (term_at registers k) (at regs k)
  pub input_means : Means t values input x

-- ---- a node
pub record NodeMeans (values : List ℕ) (u : Unrolled) (v : ℤ) (b now : Bool) : Type 0 where
  pub value : now ≡ false → Means u.terms values u.id v
  pub before : now ≡ false → b ≡ false
  pub overflows : word_of u.terms values u.overflowed ≡ bit_of now

-- whether the node shows a break
abbrev pub node_overflow : FitRule → ℕ → List ℤ → Node → Bool
node_overflow fit_rule.Tested n vals (node.Fit of) = is_outside n (at vals of)
node_overflow rule n vals d = false

fit_inside : (mode : OverflowMode) (n : ℕ) (z : ℤ) → 1 ≤ n → IsSpelled n z → fit mode n z ≡ z
fit_inside overflow_mode.Wrap n z p h = only_spelled n (wrapped_word n z) z p (wrapped_spelled n z p) h (sym (wrapped_residue n z p))
fit_inside overflow_mode.Saturate n z p h = let w = saturated_is n z in let l = h.low in let k = h.high in w.inside l (omega (arith, ints))

-- a node that fits no value
not_fitted : (values : List ℕ) (t : TermsView) (b : Built) (overflowed : TermId) (v : ℤ) (f : Bool) → KeepsTerms t b.terms → overflowed.0 < length t.nodes → word_of t values overflowed ≡ bit_of f → (f ≡ false → Means b.terms values b.id v)
    → NodeMeans values (unrolled_of b overflowed) v f (f || false)
not_fitted values t b overflowed v f k h w m =
    let e : (f || false) ≡ f = right f in
    record {
      value = λ q. m (sym e ∙ q);
      before = λ q. sym e ∙ q;
      overflows = k.words values overflowed h ∙ (w ∙ ap bit_of (sym e));
    }
  where
    right : (f : Bool) → (f || false) ≡ f
    right true = refl
    right false = refl

-- the number that a rounded term spells
rounded_at : (r : Rounding) (f : ℕ) (whole : Bool) (v : ℤ) → 1 ≤ f → (whole ≡ true → IsTimes v (2 ^ f)) → whole_shift r f v ≡ floor_of (v +ℤ pos (if whole then 0 else addend_of r f)) (2 ^ f)
rounded_at r f true v p h = shift_times r f v p (h refl)
rounded_at r f false v p h = shift_floor r f v p

-- what is known of the values that a node is made of
pub record NodeKnown (net : Net) (vals : List ℤ) (v : ℤ) (n : Node) : Type 0 where
  pub size : unsigned_abs v ≤ bound_at net (length vals)
  pub sizes : (i : ℕ) → i < length vals → unsigned_abs (at vals i) ≤ bound_at net i
  pub wholes : (i : ℕ) → i < length vals → is_whole net.format.frac_bits (slice_index_or net.nodes i node.Input) ≡ true → IsTimes (at vals i) (2 ^ net.format.frac_bits)

round_means : (values : List ℕ) (net : Net) (t : TermsView) (vals : List ℤ) (of : ℕ) (id overflowed : TermId) (b q : Bool) (v : ℤ) → (net.format.frac_bits == 0) ≡ q → AreSound t → IsValue t id → of < length vals
    → overflowed.0 < length t.nodes → word_of t values overflowed ≡ bit_of b → IsNetlist net → of < length net.nodes → NodeKnown net vals v (node.Round of) → (b ≡ false → Means t values id (at vals of))
    → NodeMeans values (unrolled_of (if q then built_of t id else shifted_term t (bound_at net of) (addend_at net of) net.format.frac_bits id) overflowed) (whole_shift net.format.rounding net.format.frac_bits (at vals of)) b (b || false)
round_means values net t vals of id overflowed b true v e s sv l bs w n ln k m =
    let z = at vals of in
    let f0 : net.format.frac_bits ≡ 0 = eqb-true net.format.frac_bits 0 e in
    let same : z ≡ whole_shift net.format.rounding net.format.frac_bits z = sym (ap (λ (f : ℕ). whole_shift net.format.rounding f z) f0 ∙ shift_none net.format.rounding z) in
    not_fitted values t (built_of t id) overflowed (whole_shift net.format.rounding net.format.frac_bits z) b (KeepsTerms-self t) bs w (λ q. subst (Means t values id) same (m q))
round_means values net t vals of id overflowed b false v e s sv l bs w n ln k m =
    let z = at vals of in
    let f = net.format.frac_bits in
    let bound = bound_at net of in
    let addend = addend_at net of in
    let h = shifted t id bound addend f s sv (bound_small net of n ln) (addend_small net of) (point_small net.format) in
    let c = shifted_term t bound addend f id in
    let p : 1 ≤ f = grind (arith, nat_tests) in
    let same : floor_of (z +ℤ pos addend) (2 ^ f) ≡ whole_shift net.format.rounding f z = sym (rounded_at net.format.rounding f (is_whole f (slice_index_or net.nodes of node.Input)) z p (k.wholes of l)) in
    not_fitted values t c overflowed (whole_shift net.format.rounding f z) b h.adds.kept bs w
    (λ q. subst (Means c.terms values c.id) same (means_added c.terms values c.id (shift_width t bound addend f id - f) (floor_of (z +ℤ pos addend) (2 ^ f)) h.adds.width (h.spells values z (m q).spells (k.sizes of l))))

faithful_means : (values : List ℕ) (t : TermsView) (f : Format) (of overflowed : TermId) (b q : Bool) (z : ℤ) → nat_lt (width f) (width_of t of) ≡ q → AreSound t → IsValue t of → overflowed.0 < length t.nodes
    → word_of t values overflowed ≡ bit_of b → (b ≡ false → Means t values of z)
    → NodeMeans values (if q then unrolled_of (word_term f.overflow t (width f) of) overflowed else unrolled_of (built_of t of) overflowed) (fit f.overflow (width f) z) b (b || false)
faithful_means values t f of overflowed b true z e s v bs w m =
    let l : width f < width_of t of = grind (arith, nat_tests) in
    let h = word_fits f.overflow t of (width f) s v.stands (width_some f) (omega arith) in
    not_fitted values t (word_term f.overflow t (width f) of) overflowed (fit f.overflow (width f) z) b h.adds.kept bs w (λ q. record { spells = h.spells values z (m q).spells })
faithful_means values t f of overflowed b false z e s v bs w m =
    let l : width_of t of ≤ width f = grind (arith, nat_tests) in
    not_fitted values t (built_of t of) overflowed (fit f.overflow (width f) z) b (KeepsTerms-self t) bs w
    (λ q. let p = m q in subst (Means t values of) (sym (fit_inside f.overflow (width f) z (width_some f) (wider_spelled (width_of t of) (width f) z l p.spells.fits))) p)

tested_means : (values : List ℕ) (t : TermsView) (f : Format) (of overflowed : TermId) (b : Bool) (z : ℤ) → AreSound t → IsValue t of → overflowed.0 < length t.nodes → width_of t overflowed ≡ 1
    → word_of t values overflowed ≡ bit_of b → (b ≡ false → Means t values of z)
    → NodeMeans values (fitted_term fit_rule.Tested f t of overflowed) (fit f.overflow (width f) z) b (b || is_outside (width f) z)
tested_means values t f of overflowed true z s v bs bw w m =
    let h = tested_fits t of (width f) overflowed s v (width_some f) bs bw in
    record { value = λ q. absurd cc; before = λ q. q; overflows = h.stays values w }
tested_means values t f of overflowed false z s v bs bw w m =
    let h = tested_fits t of (width f) overflowed s v (width_some f) bs bw in
    let p = (m refl).spells in
    record {
      value = λ q. let k = h.value values z p q in let e = fit_inside f.overflow (width f) z (width_some f) (inside_spelled (width f) z q) in
          record { spells = subst (λ (y : ℤ). Spells (fitted_term fit_rule.Tested f t of overflowed).terms values (fitted_term fit_rule.Tested f t of overflowed).id (width_of (fitted_term fit_rule.Tested f t of overflowed).terms (fitted_term fit_rule.Tested f t of overflowed).id) y) (sym e) k };
      before = λ q. refl;
      overflows = h.overflows values z false p w;
    }

fitted_means : (rule : FitRule) (values : List ℕ) (t : TermsView) (f : Format) (of overflowed : TermId) (b : Bool) (vals : List ℤ) (i : ℕ) → AreSound t → IsValue t of → overflowed.0 < length t.nodes → width_of t overflowed ≡ 1
    → word_of t values overflowed ≡ bit_of b → (b ≡ false → Means t values of (at vals i))
    → NodeMeans values (fitted_term rule f t of overflowed) (fit f.overflow (width f) (at vals i)) b (b || node_overflow rule (width f) vals (node.Fit i))
fitted_means fit_rule.Tested values t f of overflowed b vals i s v bs bw w m = tested_means values t f of overflowed b (at vals i) s v bs bw w m
fitted_means fit_rule.Faithful values t f of overflowed b vals i s v bs bw w m = faithful_means values t f of overflowed b (nat_lt (width f) (width_of t of)) (at vals i) refl s v bs w m

product_means : (values : List ℕ) (net : Net) {registers : List TermId} {input : TermId} (t : TermsView) (ids : List TermId) (overflowed : TermId) (vals : List ℤ) (b : Bool) (c : ℤ) (i bits : ℕ) (q : Built) → Multiplies t (bound_at net (length ids)) c (term_at ids i) bits q → AreReady net registers input t ids overflowed
    → length ids ≡ length vals → word_of t values overflowed ≡ bit_of b → (b ≡ false → (j : ℕ) → j < length ids → Means t values (term_at ids j) (at vals j)) → i < length ids → unsigned_abs (c *ℤ at vals i) ≤ bound_at net (length vals)
    → NodeMeans values (unrolled_of q overflowed) (c *ℤ at vals i) b (b || false)
product_means values net t ids overflowed vals b c i bits q p r e w m bk k =
    not_fitted values t q overflowed (c *ℤ at vals i) b p.adds.kept r.overflowed_stands w
    (λ o. means_added q.terms values q.id bits (c *ℤ at vals i) p.adds.width (p.spells values (at vals i) (m o i bk).spells (rw e k)))

sum_means : (values : List ℕ) (net : Net) {registers : List TermId} {input : TermId} (t : TermsView) (ids : List TermId) (overflowed : TermId) (vals : List ℤ) (b : Bool) (i j : ℕ) → IsNetlist net → AreReady net registers input t ids overflowed
    → length ids ≡ length vals → word_of t values overflowed ≡ bit_of b → (b ≡ false → (k : ℕ) → k < length ids → Means t values (term_at ids k) (at vals k)) → length ids < length net.nodes → (i < length ids) × (j < length ids)
    → unsigned_abs (at vals i +ℤ at vals j) ≤ bound_at net (length vals)
    → NodeMeans values (unrolled_of (sum_term t (bound_at net (length ids)) (term_at ids i) (term_at ids j)) overflowed) (at vals i +ℤ at vals j) b (b || false)
sum_means values net t ids overflowed vals b i j h r e w m l bk k =
    let bound = bound_at net (length ids) in
    let p = sum_made t bound (term_at ids i) (term_at ids j) r.sound (r.nodes i bk.0) (r.nodes j bk.1) (bound_small net (length ids) h l) in
    let q = sum_term t bound (term_at ids i) (term_at ids j) in
    not_fitted values t q overflowed (at vals i +ℤ at vals j) b p.adds.kept r.overflowed_stands w
    (λ o. means_added q.terms values q.id _ (at vals i +ℤ at vals j) p.adds.width (p.spells values (at vals i) (at vals j) (m o i bk.0).spells (m o j bk.1).spells (rw e k)))

difference_means : (values : List ℕ) (net : Net) {registers : List TermId} {input : TermId} (t : TermsView) (ids : List TermId) (overflowed : TermId) (vals : List ℤ) (b : Bool) (i j : ℕ) → IsNetlist net → AreReady net registers input t ids overflowed
    → length ids ≡ length vals → word_of t values overflowed ≡ bit_of b → (b ≡ false → (k : ℕ) → k < length ids → Means t values (term_at ids k) (at vals k)) → length ids < length net.nodes → (i < length ids) × (j < length ids)
    → unsigned_abs (at vals i -ℤ at vals j) ≤ bound_at net (length vals)
    → NodeMeans values (unrolled_of (difference_term t (bound_at net (length ids)) (term_at ids i) (term_at ids j)) overflowed) (at vals i -ℤ at vals j) b (b || false)
difference_means values net t ids overflowed vals b i j h r e w m l bk k =
    let bound = bound_at net (length ids) in
    let p = difference_made t bound (term_at ids i) (term_at ids j) r.sound (r.nodes i bk.0) (r.nodes j bk.1) (bound_small net (length ids) h l) in
    let q = difference_term t bound (term_at ids i) (term_at ids j) in
    not_fitted values t q overflowed (at vals i -ℤ at vals j) b p.adds.kept r.overflowed_stands w
    (λ o. means_added q.terms values q.id _ (at vals i -ℤ at vals j) p.adds.width (p.spells values (at vals i) (at vals j) (m o i bk.0).spells (m o j bk.1).spells (rw e k)))

round_node : (values : List ℕ) (net : Net) {registers : List TermId} {input : TermId} (t : TermsView) (ids : List TermId) (overflowed : TermId) (vals : List ℤ) (b : Bool) (i : ℕ) {v : ℤ} → IsNetlist net → AreReady net registers input t ids overflowed
    → length ids ≡ length vals → word_of t values overflowed ≡ bit_of b → (b ≡ false → (j : ℕ) → j < length ids → Means t values (term_at ids j) (at vals j)) → length ids < length net.nodes → i < length ids → NodeKnown net vals v (node.Round i)
    → NodeMeans values (unrolled_of (rounded_term t (bound_at net i) (addend_at net i) net.format.frac_bits (term_at ids i)) overflowed) (whole_shift net.format.rounding net.format.frac_bits (at vals i)) b (b || false)
round_node values net t ids overflowed vals b i {v} h r e w m l bk k =
    round_means values net t vals i (term_at ids i) overflowed b (net.format.frac_bits == 0) v refl r.sound (r.nodes i bk) (omega arith) r.overflowed_stands w h (omega arith) k (λ q. m q i bk)

pub node_means : (rule : FitRule) (values : List ℕ) (net : Net) (regs : List ℤ) (x : ℤ) (registers : List TermId) (input : TermId) (t : TermsView) (ids : List TermId) (overflowed : TermId) (vals : List ℤ) (b : Bool) (n : Node)
    → IsNetlist net → AreReady net registers input t ids overflowed → Follows values regs x registers input t ids overflowed vals b → length ids < length net.nodes → NamesBelow (length ids) n → ReadsBelow (length registers) n
    → NodeKnown net vals (node_value net.format regs x vals n) n
    → NodeMeans values (node_term rule net registers input t ids overflowed n) (node_value net.format regs x vals n) b (b || node_overflow rule (width net.format) vals n)
node_means fit_rule.Tested values net regs x registers input t ids overflowed vals b node.Input h r f l bk rd k = not_fitted values t (built_of t input) overflowed x b (KeepsTerms-self t) r.overflowed_stands f.overflows (λ q. f.input_means)
node_means fit_rule.Faithful values net regs x registers input t ids overflowed vals b node.Input h r f l bk rd k = not_fitted values t (built_of t input) overflowed x b (KeepsTerms-self t) r.overflowed_stands f.overflows (λ q. f.input_means)
node_means fit_rule.Tested values net regs x registers input t ids overflowed vals b (node.Reg i) h r f l bk rd k = not_fitted values t (built_of t (term_at registers i)) overflowed (at regs i) b (KeepsTerms-self t) r.overflowed_stands f.overflows (λ q. f.registers_mean q i rd)
node_means fit_rule.Faithful values net regs x registers input t ids overflowed vals b (node.Reg i) h r f l bk rd k = not_fitted values t (built_of t (term_at registers i)) overflowed (at regs i) b (KeepsTerms-self t) r.overflowed_stands f.overflows (λ q. f.registers_mean q i rd)
node_means fit_rule.Tested values net regs x registers input t ids overflowed vals b (node.MulConst c i) h r f l bk rd k =
    product_means values net t ids overflowed vals b c i _ _ (product_made t (bound_at net (length ids)) c (term_at ids i) r.sound (r.nodes i bk) (bound_small net (length ids) h l)) r f.count f.overflows f.nodes bk k.size
node_means fit_rule.Faithful values net regs x registers input t ids overflowed vals b (node.MulConst c i) h r f l bk rd k =
    product_means values net t ids overflowed vals b c i _ _ (product_made t (bound_at net (length ids)) c (term_at ids i) r.sound (r.nodes i bk) (bound_small net (length ids) h l)) r f.count f.overflows f.nodes bk k.size
node_means fit_rule.Tested values net regs x registers input t ids overflowed vals b (node.Round i) h r f l bk rd k = round_node values net t ids overflowed vals b i h r f.count f.overflows f.nodes l bk k
node_means fit_rule.Faithful values net regs x registers input t ids overflowed vals b (node.Round i) h r f l bk rd k = round_node values net t ids overflowed vals b i h r f.count f.overflows f.nodes l bk k
node_means fit_rule.Tested values net regs x registers input t ids overflowed vals b (node.Add i j) h r f l bk rd k = sum_means values net t ids overflowed vals b i j h r f.count f.overflows f.nodes l bk k.size
node_means fit_rule.Faithful values net regs x registers input t ids overflowed vals b (node.Add i j) h r f l bk rd k = sum_means values net t ids overflowed vals b i j h r f.count f.overflows f.nodes l bk k.size
node_means fit_rule.Tested values net regs x registers input t ids overflowed vals b (node.Sub i j) h r f l bk rd k = difference_means values net t ids overflowed vals b i j h r f.count f.overflows f.nodes l bk k.size
node_means fit_rule.Faithful values net regs x registers input t ids overflowed vals b (node.Sub i j) h r f l bk rd k = difference_means values net t ids overflowed vals b i j h r f.count f.overflows f.nodes l bk k.size
node_means rule values net regs x registers input t ids overflowed vals b (node.Fit i) h r f l bk rd k =
    fitted_means rule values t net.format (term_at ids i) overflowed b vals i r.sound (r.nodes i bk) r.overflowed_stands r.overflowed_bit f.overflows (λ q. f.nodes q i bk)
node_means fit_rule.Tested values net regs x registers input t ids overflowed vals b (node.Scale i) h r f l bk rd k =
    product_means values net t ids overflowed vals b (pos (2 ^ net.format.frac_bits)) i _ _ (scaled_made t (bound_at net (length ids)) net.format.frac_bits (term_at ids i) r.sound (r.nodes i bk) (bound_small net (length ids) h l)) r f.count f.overflows f.nodes bk k.size
node_means fit_rule.Faithful values net regs x registers input t ids overflowed vals b (node.Scale i) h r f l bk rd k =
    product_means values net t ids overflowed vals b (pos (2 ^ net.format.frac_bits)) i _ _ (scaled_made t (bound_at net (length ids)) net.format.frac_bits (term_at ids i) r.sound (r.nodes i bk) (bound_small net (length ids) h l)) r f.count f.overflows f.nodes bk k.size
