-- What nodes give in a sample, one after another.
use Rattle.std.proofs.Common.{◌≡◌, ℕ, ◌+◌, ◌<◌, ◌≤◌, Bool, true, false, List, [], ◌∷◌, ◌++◌, length, refl, sym, ap, ◌∙◌, arith}
use Rattle.std.specs.Prelude.{if◌then◌else◌}
use Rattle.std.proofs.Math.IntN.{ℤ, pos, ◌+ℤ◌, ◌-ℤ◌, ◌*ℤ◌}
use Rattle.std.proofs.lemmas.List.{get_or_append_left, get_or_push, length_push, append-nil}
use Rattle.dsv_word.specs.declared.format.Format.{Format}
use Rattle.dsv_word.specs.Words.{width, fit}
use Rattle.dsv_word.specs.Quotients.{whole_shift}
use Rattle.dsv_netlist.specs.declared.node.Node.{Node}
use Rattle.dsv_netlist.specs.declared.node.Node.TheVariants.{MulConst, Round, Fit}
use Rattle.dsv_netlist.specs.Nodes.{at, Sample, node_value, node_exact, after_node, sample_from, sample_of}
use Rattle.dsv_netlist.proofs.Runs.{from-length}
use Rattle.dsv_meaning.specs.Lines.{Sum, product, joined_value}
use Rattle.dsv_realise.specs.Making.{Made, put, with_product, sum_node, with_sum}

abbrev pub fit_in : Format → ℤ → ℤ
fit_in f v = fit f.overflow (width f) v

abbrev pub round_in : Format → ℤ → ℤ
round_in f v = whole_shift f.rounding f.frac_bits v

pub from_push : (f : Format) (rs : List ℤ) (x : ℤ) (ns : List Node) (n : Node) (s : Sample) → sample_from f rs x (put ns n) s ≡ after_node f rs x (sample_from f rs x ns s) n
from_push f rs x [] n s = refl
from_push f rs x (m ∷ ms) n s = from_push f rs x ms n (after_node f rs x s m)

pub of_push : (f : Format) (rs : List ℤ) (x : ℤ) (ns : List Node) (n : Node) → sample_of f rs x (put ns n) ≡ after_node f rs x (sample_of f rs x ns) n
of_push f rs x ns n = from_push f rs x ns n (record { values = []; exact = [] })

pub of-length : (f : Format) (rs : List ℤ) (x : ℤ) (ns : List Node) → length (sample_of f rs x ns).values ≡ length ns
of-length f rs x ns = omega (arith, from-length f rs x ns (record { values = []; exact = [] }))

-- a state with these values and exact values, reached by so many nodes
pub record IsAt (f : Format) (rs : List ℤ) (x : ℤ) (ns : List Node) (vs es : List ℤ) : Type 0 where
  pub values : (sample_of f rs x ns).values ≡ vs
  pub exact : (sample_of f rs x ns).exact ≡ es

-- a node more, of value v, that adds no exact value
pub plain : (f : Format) (rs : List ℤ) (x : ℤ) (ns : List Node) (n : Node) (vs es : List ℤ) (v : ℤ) → IsAt f rs x ns vs es → node_exact vs n ≡ [] → node_value f rs x vs n ≡ v → IsAt f rs x (put ns n) (vs ++ v ∷ []) es
plain f rs x ns n vs es v h k e =
    record {
      values = ap (λ (s : Sample). s.values) (of_push f rs x ns n) ∙ ap (λ (w : List ℤ). w ++ node_value f rs x w n ∷ []) h.values ∙ ap (λ (u : ℤ). vs ++ u ∷ []) e;
      exact = ap (λ (s : Sample). s.exact) (of_push f rs x ns n) ∙ ap (λ (w : List ℤ). (sample_of f rs x ns).exact ++ node_exact w n) h.values ∙ ap (λ (w : List ℤ). (sample_of f rs x ns).exact ++ w) k ∙ append-nil (sample_of f rs x ns).exact ∙ h.exact;
    }

-- a Fit node more, whose node has the value e
pub fits : (f : Format) (rs : List ℤ) (x : ℤ) (ns : List Node) (i : ℕ) (vs es : List ℤ) (e : ℤ) → IsAt f rs x ns vs es → at vs i ≡ e → IsAt f rs x (put ns (Fit i)) (vs ++ fit_in f e ∷ []) (es ++ e ∷ [])
fits f rs x ns i vs es e h k =
    record {
      values = ap (λ (s : Sample). s.values) (of_push f rs x ns (Fit i)) ∙ ap (λ (w : List ℤ). w ++ fit_in f (at w i) ∷ []) h.values ∙ ap (λ (u : ℤ). vs ++ fit_in f u ∷ []) k;
      exact = ap (λ (s : Sample). s.exact) (of_push f rs x ns (Fit i)) ∙ ap (λ (w : List ℤ). (sample_of f rs x ns).exact ++ at w i ∷ []) h.values ∙ ap (λ (w : List ℤ). w ++ at vs i ∷ []) h.exact ∙ ap (λ (u : ℤ). es ++ u ∷ []) k;
    }

pub at-length : (f : Format) (rs : List ℤ) (x : ℤ) (ns : List Node) (vs es : List ℤ) → IsAt f rs x ns vs es → length vs ≡ length ns
at-length f rs x ns vs es h = sym (ap length h.values) ∙ of-length f rs x ns

pub at_last : (vs : List ℤ) (v : ℤ) (n : ℕ) → length vs ≡ n → at (vs ++ v ∷ []) n ≡ v
at_last vs v n h = get_or_push vs v (pos 0) n h

pub at_old : (vs ws : List ℤ) (i : ℕ) → i < length vs → at (vs ++ ws) i ≡ at vs i
at_old vs ws i h = get_or_append_left vs ws (pos 0) i h

-- the older values stand among the newer
pub record Keeps (vs ws : List ℤ) : Type 0 where
  pub longer : length vs ≤ length ws
  pub old : (i : ℕ) → i < length vs → at ws i ≡ at vs i

pub keeps_self : (vs : List ℤ) → Keeps vs vs
keeps_self vs = record { longer = omega arith; old = λ i h. refl }

pub keeps_more : (vs ws : List ℤ) (v : ℤ) → Keeps vs ws → Keeps vs (ws ++ v ∷ [])
keeps_more vs ws v k = record { longer = omega (arith, k.longer, length_push ws v); old = λ i h. at_old ws (v ∷ []) i (omega (arith, k.longer, h)) ∙ k.old i h }

pub keeps_both : (us vs ws : List ℤ) → Keeps us vs → Keeps vs ws → Keeps us ws
keeps_both us vs ws j k = record { longer = omega (arith, j.longer, k.longer); old = λ i h. k.old i (omega (arith, j.longer, h)) ∙ j.old i h }

-- what these nodes give beyond the values vs: those stand, the exact values are the sum's, and so is the value at the place
pub record Gives (f : Format) (rs : List ℤ) (x : ℤ) (vs : List ℤ) (m : Made) (s : Sum) : Type 0 where
  pub now : List ℤ
  pub stands : IsAt f rs x m.nodes now s.exact
  pub keeps : Keeps vs now
  pub within : m.place < length now
  pub value : at now m.place ≡ s.value

pub product_gives : (f : Format) (rs : List ℤ) (x : ℤ) (ns : List Node) (vs es : List ℤ) (c : ℤ) (i : ℕ) (w : ℤ) → IsAt f rs x ns vs es → at vs i ≡ w → Gives f rs x vs (with_product ns c i) (product f es c w)
product_gives f rs x ns vs es c i w h e =
    let p = c *ℤ w in
    let r = round_in f p in
    let vs1 = vs ++ p ∷ [] in
    let vs2 = vs1 ++ r ∷ [] in
    let a = put ns (MulConst c i) in
    let b = put a (Round (length ns)) in
    let h1 : IsAt f rs x a vs1 es = plain f rs x ns (MulConst c i) vs es p h refl (ap (λ (u : ℤ). c *ℤ u) e) in
    let h2 : IsAt f rs x b vs2 es = plain f rs x a (Round (length ns)) vs1 es r h1 refl (ap (round_in f) (at_last vs p (length ns) (at-length f rs x ns vs es h))) in
    let h3 : IsAt f rs x (put b (Fit (length a))) (vs2 ++ fit_in f r ∷ []) (es ++ r ∷ []) = fits f rs x b (length a) vs2 es r h2 (at_last vs1 r (length a) (at-length f rs x a vs1 es h1)) in
    let l : length vs2 ≡ length b = at-length f rs x b vs2 es h2 in
    record {
      now = vs2 ++ fit_in f r ∷ [];
      stands = h3;
      keeps = keeps_more vs vs2 (fit_in f r) (keeps_more vs vs1 r (keeps_more vs vs p (keeps_self vs)));
      within = omega (arith, l, length_push vs2 (fit_in f r));
      value = at_last vs2 (fit_in f r) (length b) l;
    }

abbrev pub joint : Bool → ℤ → ℤ → ℤ
joint away v u = if away then v -ℤ u else v +ℤ u

pub joining_value : (f : Format) (rs : List ℤ) (x : ℤ) (vs : List ℤ) (away : Bool) (i j : ℕ) (v u : ℤ) → at vs i ≡ v → at vs j ≡ u → node_value f rs x vs (sum_node away i j) ≡ joint away v u
joining_value f rs x vs true i j v u e g = rw (e, g) refl
joining_value f rs x vs false i j v u e g = rw (e, g) refl

pub joining_exact : (vs : List ℤ) (away : Bool) (i j : ℕ) → node_exact vs (sum_node away i j) ≡ []
joining_exact vs true i j = refl
joining_exact vs false i j = refl

pub sum_gives : (f : Format) (rs : List ℤ) (x : ℤ) (ns : List Node) (vs : List ℤ) (away : Bool) (i j : ℕ) (v : ℤ) (s : Sum) → IsAt f rs x ns vs s.exact → at vs i ≡ v → at vs j ≡ s.value → Gives f rs x vs (with_sum away ns i j) (joined_value f away v s)
sum_gives f rs x ns vs away i j v s h e g =
    let t = joint away v s.value in
    let a = put ns (sum_node away i j) in
    let vs1 = vs ++ t ∷ [] in
    let h1 : IsAt f rs x a vs1 s.exact = plain f rs x ns (sum_node away i j) vs s.exact t h (joining_exact vs away i j) (joining_value f rs x vs away i j v s.value e g) in
    let h2 : IsAt f rs x (put a (Fit (length ns))) (vs1 ++ fit_in f t ∷ []) (s.exact ++ t ∷ []) = fits f rs x a (length ns) vs1 s.exact t h1 (at_last vs t (length ns) (at-length f rs x ns vs s.exact h)) in
    let l : length vs1 ≡ length a = at-length f rs x a vs1 s.exact h1 in
    record {
      now = vs1 ++ fit_in f t ∷ [];
      stands = h2;
      keeps = keeps_more vs vs1 (fit_in f t) (keeps_more vs vs t (keeps_self vs));
      within = omega (arith, l, length_push vs1 (fit_in f t));
      value = at_last vs1 (fit_in f t) (length a) l;
    }
