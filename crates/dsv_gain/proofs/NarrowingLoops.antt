-- Loops over what registers hold, over boxes and over passes.
use Rattle.std.proofs.Common.{◌≡◌, ℕ, zero, suc, ◌+◌, ◌-◌, ◌<◌, inl, inr, ◌⊎◌, false, List, [], ◌∷◌, ◌++◌, length, get_or, take, drop, refl, sym, ap, ◌∙◌, arith}
use Rattle.std.specs.Prelude.{Option, Some, None}
use Rattle.std.proofs.Math.IntN.{ℤ}
use Rattle.std.proofs.lemmas.List.{take_more}
use Rattle.dsv_netlist.specs.declared.node.Node.{Node}
use Rattle.dsv_netlist.specs.Nodes.{Net}
use Rattle.dsv_linear.specs.declared.range.Range.{Range}
use Rattle.dsv_linear.proofs.Numbers.{some_of}
use Rattle.dsv_linear.specs.Forms.{◌>>=◌, range, scaled_range}
use Rattle.dsv_network.specs.declared.network.Network.{Network}
use Rattle.dsv_network.specs.declared.outlook.Outlook.{Outlook}
use Rattle.dsv_network.specs.Gains as networks
use Rattle.dsv_gain.specs.Gains.{words_network}
use Rattle.dsv_gain.specs.Narrowing.{all_of, held_after, held_in, kept_ranges, box_ranges, are_narrower, narrower_ranges, or_else, narrowed}

-- ---- what is made of each
joined : {X Y : Type 0} (make : X → Option Y) (x : X) (y : Y) (xs : List X) (ys : List Y) → make x ≡ Some y → all_of make xs ≡ Some ys → all_of make (xs ++ x ∷ []) ≡ Some (ys ++ y ∷ [])
joined {X} {Y} make x y [] ys e h =
    let none : [] ≡ ys = cc in
    ap (λ (o : Option Y). o >>= λ z. Some (z ∷ [])) e ∙ ap (λ (zs : List Y). Some (zs ++ y ∷ [])) none
joined {X} {Y} make x y (w ∷ xs) ys e h =
    let one = some_of (make w) (λ v. all_of make xs >>= λ zs. Some (v ∷ zs)) ys h in
    let two = some_of (all_of make xs) (λ zs. Some (one.0 ∷ zs)) ys one.2 in
    let front : one.0 ∷ two.0 ≡ ys = let g = two.2 in cc in
    ap (λ (o : Option Y). o >>= λ v. all_of make (xs ++ x ∷ []) >>= λ zs. Some (v ∷ zs)) one.1
    ∙ ap (λ (o : Option (List Y)). o >>= λ zs. Some (one.0 ∷ zs)) (joined make x y xs two.0 e two.1)
    ∙ ap (λ (zs : List Y). Some (zs ++ y ∷ [])) front

-- one more
pub all_more : {X Y : Type 0} (make : X → Option Y) (xs : List X) (d : X) (i : ℕ) (ys now : List Y) (y : Y) → i < length xs → all_of make (take i xs) ≡ Some ys → make (get_or xs i d) ≡ Some y → now ≡ ys ++ y ∷ []
    → all_of make (take (i + 1) xs) ≡ Some now
all_more {X} {Y} make xs d i ys now y l h e n =
    ap (all_of make) (take_more xs i d l) ∙ joined make (get_or xs i d) y (take i xs) ys e h ∙ ap (λ (zs : List Y). Some zs) (sym n)

-- nothing is made of one of them
stop_after : {X Y : Type 0} (o : Option X) (p : Option (List X)) (both : X → List X → Y) → p ≡ None → (o >>= λ y. p >>= λ ys. Some (both y ys)) ≡ None
stop_after None p both e = refl
stop_after (Some y) p both e = rw e refl

pub all_stop : {X Y : Type 0} (make : X → Option Y) (xs : List X) (d : X) (i : ℕ) → i < length xs → make (get_or xs i d) ≡ None → all_of make xs ≡ None
all_stop make [] d i l e = absurd (omega arith)
all_stop {X} {Y} make (x ∷ xs) d zero l e = ap (λ (o : Option Y). o >>= λ y. all_of make xs >>= λ ys. Some (y ∷ ys)) e
all_stop {X} {Y} make (x ∷ xs) d (suc i) l e = stop_after (make x) (all_of make xs) (λ y ys. y ∷ ys) (all_stop make xs d i (omega arith) e)

-- ---- what registers hold
-- one time more
pub held_more : (input : Range) (nodes : List Node) (next : List ℕ) (ranges box more : List Range) (n i : ℕ) (all : Option (List Range)) → i < n → held_in (n - i) input nodes next ranges box ≡ all → Some more ≡ held_after input nodes next ranges box
    → held_in (n - (i + 1)) input nodes next ranges more ≡ all
held_more input nodes next ranges box more n i all l h e =
    let k : n - i ≡ suc (n - (i + 1)) = omega arith in
    ap (λ (o : Option (List Range)). o >>= held_in (n - (i + 1)) input nodes next ranges) e
    ∙ sym (ap (λ m. held_in m input nodes next ranges box) k)
    ∙ h

-- nothing is known of them
pub held_stop : (input : Range) (nodes : List Node) (next : List ℕ) (ranges box : List Range) (n i : ℕ) (all : Option (List Range)) → i < n → held_in (n - i) input nodes next ranges box ≡ all → None ≡ held_after input nodes next ranges box → None ≡ all
held_stop input nodes next ranges box n i all l h e =
    let k : n - i ≡ suc (n - (i + 1)) = omega arith in
    ap (λ (o : Option (List Range)). o >>= held_in (n - (i + 1)) input nodes next ranges) e
    ∙ sym (ap (λ m. held_in m input nodes next ranges box) k)
    ∙ h

-- ---- which ranges are narrower
-- there is no pair left
none_left : (rs : List Range) → are_narrower rs [] ≡ false
none_left [] = refl
none_left (r ∷ rs) = refl

pub narrower_past : (rs ss : List Range) (i : ℕ) → (i ≡ length rs) ⊎ (i ≡ length ss) → are_narrower (drop i rs) (drop i ss) ≡ false
narrower_past [] ss zero h = refl
narrower_past [] ss (suc i) h = refl
narrower_past (r ∷ rs) [] zero h = refl
narrower_past (r ∷ rs) [] (suc i) h = none_left (drop i rs)
narrower_past (r ∷ rs) (s ∷ ss) zero h = elim h [ inl e ↦ absurd (omega arith) | inr e ↦ absurd (omega arith) ]
narrower_past (r ∷ rs) (s ∷ ss) (suc i) h = narrower_past rs ss i (elim h [ inl e ↦ inl (omega arith) | inr e ↦ inr (omega arith) ])

-- ---- passes
pub narrowed_more : (net : Net) (low high : ℤ) (limit n i : ℕ) (ranges narrower all : List Range) → i < n → narrowed (n - i) net low high limit ranges ≡ all → Some narrower ≡ narrower_ranges net low high limit ranges
    → narrowed (n - (i + 1)) net low high limit narrower ≡ all
narrowed_more net low high limit n i ranges narrower all l h e =
    let k : n - i ≡ suc (n - (i + 1)) = omega arith in
    ap (or_else ranges (narrowed (n - (i + 1)) net low high limit)) e
    ∙ sym (ap (λ m. narrowed m net low high limit ranges) k)
    ∙ h

-- ---- a pass from a box
pub found_of : (net : Net) (low high : ℤ) (limit : ℕ) (list symbols : List Range) (network : Network) (found : Outlook) (input : Range) (result : Option (List Range)) → Some symbols ≡ all_of scaled_range list → network ≡ words_network net low high
    → found ≡ networks.gain_of network symbols limit → input ≡ range low high → result ≡ kept_ranges net input list found → result ≡ box_ranges net low high limit list
found_of net low high limit list symbols network found input result s n f i r =
    let search : List Range → Outlook = λ these. networks.gain_of (words_network net low high) these limit in
    r ∙ ap (λ j. kept_ranges net j list found) i
    ∙ ap (kept_ranges net (range low high) list) (f ∙ ap (λ m. networks.gain_of m symbols limit) n)
    ∙ ap (λ (o : Option (List Range)). o >>= λ these. kept_ranges net (range low high) list (search these)) s
