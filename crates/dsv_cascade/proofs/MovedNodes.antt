-- The nodes of a netlist after those of another give what they give alone.
use Rattle.std.proofs.Common.{◌≡◌, ℕ, zero, suc, ◌+◌, ◌*◌, ◌^◌, ◌<◌, List, [], ◌∷◌, ◌++◌, length, get_or, map, drop, refl, sym, ap, ◌∙◌, append_assoc}
use Rattle.std.specs.List.{All}
use Rattle.std.specs.Int.RustNames.{unsigned_abs}
use Rattle.std.proofs.Math.IntN.{ℤ, pos, ◌*ℤ◌}
use Rattle.std.proofs.lemmas.List.{get_or_append_left, get_or-append-add}
use Rattle.std.proofs.lemmas.List.Elements.{All-head, All-tail}
use Rattle.dsv_word.specs.declared.format.Format.{Format}
use Rattle.dsv_word.specs.Words.{width, fit}
use Rattle.dsv_word.specs.Quotients.{whole_shift}
use Rattle.dsv_netlist.specs.declared.node.Node.{Node}
use Rattle.dsv_netlist.specs.declared.node.Node.TheVariants.{Input, Reg, MulConst, Round, Add, Sub, Fit, Scale}
use Rattle.dsv_netlist.specs.Nodes.{Net, at, Sample, node_value, node_exact, after_node, sample_from}
use Rattle.dsv_netlist.specs.Bounds.{node_bound, bounds_from}
use Rattle.dsv_netlist.specs.Conditions.{ReadsBelow}
use Rattle.dsv_cascade.specs.Netlists.{moved_place, moved}

-- ---- nodes that are no input
abbrev pub IsInner : Node → Type 0
IsInner Input = ⊥
IsInner node = Unit {0}

-- the input stands first, and nowhere else
pub record HasOneInput (ns : List Node) : Type 0 where
  pub rest : List Node
  pub begins : ns ≡ Input ∷ rest
  pub inner : All IsInner rest

-- ---- what the first netlist's nodes have: the one of its output has v
pub record HasOutput {X : Type 0} (a : Net) (vs : List X) (v d : X) : Type 0 where
  pub many : length vs ≡ length a.nodes
  pub within : a.output < length vs
  pub value : get_or vs a.output d ≡ v

pub get_or-moved_place : {X : Type 0} (a : Net) (vs ws : List X) (v d : X) (k : ℕ) → HasOutput a vs v d → get_or (vs ++ ws) (moved_place a k) d ≡ get_or (v ∷ ws) k d
get_or-moved_place a vs ws v d zero h = get_or_append_left vs ws d a.output h.within ∙ h.value
get_or-moved_place a vs ws v d (suc k) h = ap (λ (n : ℕ). get_or (vs ++ ws) (n + k) d) (sym h.many) ∙ get_or-append-add vs ws k d

-- ---- values
node_value-moved : (a : Net) (f : Format) (ra rb vs ws : List ℤ) (x y : ℤ) (n : Node) → HasOutput a vs y (pos 0) → length ra ≡ length a.next → IsInner n
    → node_value f (ra ++ rb) x (vs ++ ws) (moved a n) ≡ node_value f rb y (y ∷ ws) n
node_value-moved a f ra rb vs ws x y Input h l i = absurd i
node_value-moved a f ra rb vs ws x y (Reg k) h l i = ap (λ (n : ℕ). at (ra ++ rb) (n + k)) (sym l) ∙ get_or-append-add ra rb k (pos 0)
node_value-moved a f ra rb vs ws x y (MulConst c k) h l i = ap (λ (u : ℤ). c *ℤ u) (get_or-moved_place a vs ws y (pos 0) k h)
node_value-moved a f ra rb vs ws x y (Round k) h l i = ap (whole_shift f.rounding f.frac_bits) (get_or-moved_place a vs ws y (pos 0) k h)
node_value-moved a f ra rb vs ws x y (Add j k) h l i = rw (get_or-moved_place a vs ws y (pos 0) j h, get_or-moved_place a vs ws y (pos 0) k h) refl
node_value-moved a f ra rb vs ws x y (Sub j k) h l i = rw (get_or-moved_place a vs ws y (pos 0) j h, get_or-moved_place a vs ws y (pos 0) k h) refl
node_value-moved a f ra rb vs ws x y (Fit k) h l i = ap (fit f.overflow (width f)) (get_or-moved_place a vs ws y (pos 0) k h)
node_value-moved a f ra rb vs ws x y (Scale k) h l i = ap (λ (u : ℤ). pos (2 ^ f.frac_bits) *ℤ u) (get_or-moved_place a vs ws y (pos 0) k h)

node_exact-moved : (a : Net) (vs ws : List ℤ) (y : ℤ) (n : Node) → HasOutput a vs y (pos 0) → node_exact (vs ++ ws) (moved a n) ≡ node_exact (y ∷ ws) n
node_exact-moved a vs ws y (Fit k) h = ap (λ (u : ℤ). u ∷ []) (get_or-moved_place a vs ws y (pos 0) k h)
node_exact-moved a vs ws y node h = refl

-- a sample after these values and exact values: all its values but the first, which is that of the input
abbrev pub sample_after : List ℤ → List ℤ → Sample → Sample
sample_after vs es s = record { values = vs ++ drop 1 s.values; exact = es ++ s.exact }

pub sample_from-moved : (a : Net) (f : Format) (ra rb vs es : List ℤ) (x y : ℤ) (ns : List Node) (ws fs : List ℤ) → HasOutput a vs y (pos 0) → length ra ≡ length a.next → All IsInner ns
    → sample_from f (ra ++ rb) x (map (moved a) ns) (record { values = vs ++ ws; exact = es ++ fs }) ≡ sample_after vs es (sample_from f rb y ns (record { values = y ∷ ws; exact = fs }))
sample_from-moved a f ra rb vs es x y [] ws fs h l i = refl
sample_from-moved a f ra rb vs es x y (n ∷ ns) ws fs h l i =
    let v = node_value f rb y (y ∷ ws) n in
    let e = node_exact (y ∷ ws) n in
    let rest = map (moved a) ns in
    let values : vs ++ ws ++ node_value f (ra ++ rb) x (vs ++ ws) (moved a n) ∷ [] ≡ vs ++ (ws ++ v ∷ []) =
    ap (λ (u : ℤ). vs ++ ws ++ u ∷ []) (node_value-moved a f ra rb vs ws x y n h l (All-head IsInner n ns i)) ∙ append_assoc vs ws (v ∷ []) in
    let exact : es ++ fs ++ node_exact (vs ++ ws) (moved a n) ≡ es ++ (fs ++ e) =
    ap (λ (us : List ℤ). es ++ fs ++ us) (node_exact-moved a vs ws y n h) ∙ append_assoc es fs e in
    ap (λ (us : List ℤ). sample_from f (ra ++ rb) x rest (record { values = us; exact = es ++ fs ++ node_exact (vs ++ ws) (moved a n) })) values
    ∙ ap (λ (us : List ℤ). sample_from f (ra ++ rb) x rest (record { values = vs ++ (ws ++ v ∷ []); exact = us })) exact
    ∙ sample_from-moved a f ra rb vs es x y ns (ws ++ v ∷ []) (fs ++ e) h l (All-tail IsInner n ns i)

-- the input's value stays the first
pub sample_from-cons : (f : Format) (rs : List ℤ) (x y : ℤ) (ns : List Node) (ws es : List ℤ)
    → (sample_from f rs x ns (record { values = y ∷ ws; exact = es })).values ≡ y ∷ drop 1 (sample_from f rs x ns (record { values = y ∷ ws; exact = es })).values
sample_from-cons f rs x y [] ws es = refl
sample_from-cons f rs x y (n ∷ ns) ws es = sample_from-cons f rs x y ns (ws ++ node_value f rs x (y ∷ ws) n ∷ []) (es ++ node_exact (y ∷ ws) n)

-- ---- nodes one after another
pub sample_from-append : (f : Format) (rs : List ℤ) (x : ℤ) (ns ms : List Node) (s : Sample) → sample_from f rs x (ns ++ ms) s ≡ sample_from f rs x ms (sample_from f rs x ns s)
sample_from-append f rs x [] ms s = refl
sample_from-append f rs x (n ∷ ns) ms s = sample_from-append f rs x ns ms (after_node f rs x s n)

-- registers that no node reads change nothing
node_value-registers : (f : Format) (ra rb : List ℤ) (x : ℤ) (vs : List ℤ) (n : Node) → ReadsBelow (length ra) n → node_value f (ra ++ rb) x vs n ≡ node_value f ra x vs n
node_value-registers f ra rb x vs (Reg k) h = get_or_append_left ra rb (pos 0) k h
node_value-registers f ra rb x vs node h = refl

pub sample_from-registers : (f : Format) (ra rb : List ℤ) (x : ℤ) (ns : List Node) (s : Sample) → All (ReadsBelow (length ra)) ns → sample_from f (ra ++ rb) x ns s ≡ sample_from f ra x ns s
sample_from-registers f ra rb x [] s h = refl
sample_from-registers f ra rb x (n ∷ ns) s h =
    ap (λ (v : ℤ). sample_from f (ra ++ rb) x ns (record { values = s.values ++ v ∷ []; exact = s.exact ++ node_exact s.values n })) (node_value-registers f ra rb x s.values n (All-head (ReadsBelow (length ra)) n ns h))
    ∙ sample_from-registers f ra rb x ns (after_node f ra x s n) (All-tail (ReadsBelow (length ra)) n ns h)

-- ---- bounds
node_bound-moved : (a : Net) (f : Format) (bs cs : List ℕ) (w : ℕ) (n : Node) → HasOutput a bs w 0 → IsInner n → node_bound f (bs ++ cs) (moved a n) ≡ node_bound f (w ∷ cs) n
node_bound-moved a f bs cs w Input h i = absurd i
node_bound-moved a f bs cs w (Reg k) h i = refl
node_bound-moved a f bs cs w (MulConst c k) h i = ap (λ (u : ℕ). unsigned_abs c * u) (get_or-moved_place a bs cs w 0 k h)
node_bound-moved a f bs cs w (Round k) h i = get_or-moved_place a bs cs w 0 k h
node_bound-moved a f bs cs w (Add j k) h i = rw (get_or-moved_place a bs cs w 0 j h, get_or-moved_place a bs cs w 0 k h) refl
node_bound-moved a f bs cs w (Sub j k) h i = rw (get_or-moved_place a bs cs w 0 j h, get_or-moved_place a bs cs w 0 k h) refl
node_bound-moved a f bs cs w (Fit k) h i = refl
node_bound-moved a f bs cs w (Scale k) h i = ap (λ (u : ℕ). 2 ^ f.frac_bits * u) (get_or-moved_place a bs cs w 0 k h)

pub bounds_from-moved : (a : Net) (f : Format) (bs : List ℕ) (w : ℕ) (ns : List Node) (cs : List ℕ) → HasOutput a bs w 0 → All IsInner ns → bounds_from f (map (moved a) ns) (bs ++ cs) ≡ bs ++ drop 1 (bounds_from f ns (w ∷ cs))
bounds_from-moved a f bs w [] cs h i = refl
bounds_from-moved a f bs w (n ∷ ns) cs h i =
    let b = node_bound f (w ∷ cs) n in
    let same : bs ++ cs ++ node_bound f (bs ++ cs) (moved a n) ∷ [] ≡ bs ++ (cs ++ b ∷ []) =
    ap (λ (u : ℕ). bs ++ cs ++ u ∷ []) (node_bound-moved a f bs cs w n h (All-head IsInner n ns i)) ∙ append_assoc bs cs (b ∷ []) in
    ap (bounds_from f (map (moved a) ns)) same ∙ bounds_from-moved a f bs w ns (cs ++ b ∷ []) h (All-tail IsInner n ns i)

pub bounds_from-append : (f : Format) (ns ms : List Node) (bs : List ℕ) → bounds_from f (ns ++ ms) bs ≡ bounds_from f ms (bounds_from f ns bs)
bounds_from-append f [] ms bs = refl
bounds_from-append f (n ∷ ns) ms bs = bounds_from-append f ns ms (bs ++ node_bound f bs n ∷ [])
