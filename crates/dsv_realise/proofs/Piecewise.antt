-- Lines and chains made piece after piece.
use Rattle.std.proofs.Common.{◌≡◌, ℕ, zero, suc, ◌+◌, ◌-◌, ◌<◌, Bool, false, List, [], ◌∷◌, ◌++◌, length, get_or, drop, refl, sym, ap, ◌∙◌, arith, append_assoc}
use Rattle.std.proofs.Math.IntN.{ℤ, pos}
use Rattle.std.proofs.lemmas.List.{append-nil, drop_more}
use Rattle.dsv_netlist.specs.declared.node.Node.{Node}
use Rattle.dsv_names.specs.declared.realisation.Realisation.TheVariants.{Ddfi}
use Rattle.dsv_quantiser.specs.QuantisedView.{QuantisedView}
use Rattle.dsv_meaning.specs.declared.summands.Summand.{Summand}
use Rattle.dsv_meaning.specs.declared.summands.Summand.TheVariants.{Times}
use Rattle.dsv_meaning.specs.Lines.{summands}
use Rattle.dsv_meaning.specs.Equations.{order, transposed_line, delta_line}
use Rattle.dsv_realise.specs.Making.{Made, line_nodes, Chained, no_places, with_place, with_transposed, with_delta, with_transposed_delta}
use Rattle.dsv_realise.specs.Netlists.{count, newest_at, first_form, delta_inputs, delta_outputs, net_with, net_as}
use Rattle.dsv_realise.proofs.LineNodes.{same_summands}

-- ---- chains
count_first : (i n : ℕ) → i < n → count i (n - i) ≡ i ∷ count (i + 1) (n - (i + 1))
count_first i n h = let e : n - i ≡ suc (n - (i + 1)) = omega arith in ap (count i) e

-- one new word of a transposed chain more
pub transposed_more : (q : QuantisedView) (y i : ℕ) (ns ms : List Node) (ps qs : List ℕ) (p : ℕ) (all : Chained) → i < length q.a → length q.b ≡ length q.a
    → record { nodes = ms; place = p } ≡ line_nodes q ns (transposed_line (get_or q.b i (pos 0)) (get_or q.a i (pos 0)) 0 y (count (i + 1) (order q - i))) → qs ≡ ps ++ p ∷ []
    → with_transposed q 0 y (drop i q.b) (drop i q.a) (count i (length q.a - i)) (record { nodes = ns; places = ps }) ≡ all
    → with_transposed q 0 y (drop (i + 1) q.b) (drop (i + 1) q.a) (count (i + 1) (length q.a - (i + 1))) (record { nodes = ms; places = qs }) ≡ all
transposed_more q y i ns ms ps qs p all h l m e before =
    let bi = get_or q.b i (pos 0) in
    let ai = get_or q.a i (pos 0) in
    let rest = count (i + 1) (length q.a - (i + 1)) in
    let few : order q - i ≡ length q.a - (i + 1) = omega arith in
    let line : record { nodes = ms; place = p } ≡ line_nodes q ns (transposed_line bi ai 0 y rest) = m ∙ ap (λ (k : ℕ). line_nodes q ns (transposed_line bi ai 0 y (count (i + 1) k))) few in
    let step : with_transposed q 0 y (drop i q.b) (drop i q.a) (count i (length q.a - i)) (record { nodes = ns; places = ps })
    ≡ with_transposed q 0 y (drop (i + 1) q.b) (drop (i + 1) q.a) rest (with_place (record { nodes = ns; places = ps }) (line_nodes q ns (transposed_line bi ai 0 y rest))) =
    rw (drop_more q.b i (pos 0) (omega arith), drop_more q.a i (pos 0) h, count_first i (length q.a) h) refl in
    let same : record { nodes = ms; places = qs } ≡ with_place (record { nodes = ns; places = ps }) (line_nodes q ns (transposed_line bi ai 0 y rest)) =
    ap (λ (js : List ℕ). record { nodes = ms; places = js }) e ∙ ap (with_place (record { nodes = ns; places = ps })) line in
    ap (with_transposed q 0 y (drop (i + 1) q.b) (drop (i + 1) q.a) rest) same ∙ sym step ∙ before

-- one new word of a delta chain more
pub delta_more : (q : QuantisedView) (older node end : ℕ) (ns ms : List Node) (ps qs : List ℕ) (p : ℕ) (all : Chained) → node < end
    → record { nodes = ms; place = p } ≡ line_nodes q ns (delta_line q node older) → qs ≡ ps ++ p ∷ []
    → with_delta q older (count node (end - node)) (record { nodes = ns; places = ps }) ≡ all
    → with_delta q node (count (node + 1) (end - (node + 1))) (record { nodes = ms; places = qs }) ≡ all
delta_more q older node end ns ms ps qs p all h m e before =
    let rest = count (node + 1) (end - (node + 1)) in
    let made = line_nodes q ns (delta_line q node older) in
    let step : with_delta q older (count node (end - node)) (record { nodes = ns; places = ps }) ≡ with_delta q node rest (with_place (record { nodes = ns; places = ps }) made) = rw (count_first node end h) refl in
    let same : record { nodes = ms; places = qs } ≡ with_place (record { nodes = ns; places = ps }) made =
    ap (λ (js : List ℕ). record { nodes = ms; places = js }) e ∙ ap (with_place (record { nodes = ns; places = ps })) m in
    ap (with_delta q node rest) same ∙ sym step ∙ before

-- a chain after another
pub delta_after : (q : QuantisedView) (before : ℕ) (ks : List ℕ) (ns : List Node) (ps qs : List ℕ)
    → with_delta q before ks (record { nodes = ns; places = ps ++ qs }) ≡ record { nodes = (with_delta q before ks (record { nodes = ns; places = qs })).nodes; places = ps ++ (with_delta q before ks (record { nodes = ns; places = qs })).places }
delta_after q before [] ns ps qs = refl
delta_after q before (k ∷ ks) ns ps qs =
    let m = line_nodes q ns (delta_line q k before) in
    ap (λ (js : List ℕ). with_delta q k ks (record { nodes = m.nodes; places = js })) (append_assoc ps qs (m.place ∷ [])) ∙ delta_after q k ks m.nodes ps (qs ++ m.place ∷ [])

pub delta_pair : (q : QuantisedView) (ns n1 n2 : List Node) (y n : ℕ) (p0 p1 p2 : List ℕ) → record { nodes = ns; place = y } ≡ first_form q → p0 ≡ [] → n ≡ order q
    → record { nodes = n1; places = p1 } ≡ with_delta q 0 (count 1 (order q)) (record { nodes = ns; places = p0 })
    → record { nodes = n2; places = p2 } ≡ with_delta q y (count (n + 1) (order q)) (record { nodes = n1; places = p1 })
    → net_with q Ddfi n2 p2 y ≡ net_as Ddfi q
delta_pair q ns n1 n2 y n p0 p1 p2 f z e one two =
    let first : record { nodes = n1; places = p1 } ≡ delta_inputs q = one ∙ ap (λ (js : List ℕ). with_delta q 0 (count 1 (order q)) (record { nodes = ns; places = js })) z ∙ ap (λ (m : Made). with_delta q 0 (count 1 (order q)) (no_places m.nodes)) f in
    let place : y ≡ (first_form q).place = ap (λ (m : Made). m.place) f in
    let c = delta_inputs q in
    let ks = count (order q + 1) (order q) in
    let second : record { nodes = n2; places = p2 } ≡ record { nodes = (delta_outputs q).nodes; places = c.places ++ (delta_outputs q).places } =
    two ∙ ap (λ (j : ℕ). with_delta q y (count (j + 1) (order q)) (record { nodes = n1; places = p1 })) e ∙ ap (λ (m : Chained). with_delta q y ks m) first ∙ ap (λ (j : ℕ). with_delta q j ks c) place
    ∙ ap (λ (js : List ℕ). with_delta q (first_form q).place ks (record { nodes = c.nodes; places = js })) (sym (append-nil c.places)) ∙ delta_after q (first_form q).place ks c.nodes c.places [] in
    ap (λ (m : Chained). net_with q Ddfi m.nodes m.places y) second ∙ ap (net_with q Ddfi (delta_outputs q).nodes (c.places ++ (delta_outputs q).places)) place

-- one new word of a transposed delta chain more
pub transposed_delta_more : (q : QuantisedView) (y i : ℕ) (ns n1 ms : List Node) (ps qs : List ℕ) (t p : ℕ) (all : Chained) → i < length q.a → length q.b ≡ length q.a
    → record { nodes = n1; place = t } ≡ line_nodes q ns (transposed_line (get_or q.b i (pos 0)) (get_or q.a i (pos 0)) 0 y (count (i + 1) (order q - i)))
    → record { nodes = ms; place = p } ≡ line_nodes q n1 (delta_line q i t) → qs ≡ ps ++ p ∷ []
    → with_transposed_delta q 0 y (drop i q.b) (drop i q.a) (count i (length q.a - i)) (record { nodes = ns; places = ps }) ≡ all
    → with_transposed_delta q 0 y (drop (i + 1) q.b) (drop (i + 1) q.a) (count (i + 1) (length q.a - (i + 1))) (record { nodes = ms; places = qs }) ≡ all
transposed_delta_more q y i ns n1 ms ps qs t p all h l m u e before =
    let bi = get_or q.b i (pos 0) in
    let ai = get_or q.a i (pos 0) in
    let rest = count (i + 1) (length q.a - (i + 1)) in
    let few : order q - i ≡ length q.a - (i + 1) = omega arith in
    let made = line_nodes q ns (transposed_line bi ai 0 y rest) in
    let line : record { nodes = n1; place = t } ≡ made = m ∙ ap (λ (k : ℕ). line_nodes q ns (transposed_line bi ai 0 y (count (i + 1) k))) few in
    let delta : record { nodes = ms; place = p } ≡ line_nodes q made.nodes (delta_line q i made.place) = u ∙ ap (λ (k : Made). line_nodes q k.nodes (delta_line q i k.place)) line in
    let step : with_transposed_delta q 0 y (drop i q.b) (drop i q.a) (count i (length q.a - i)) (record { nodes = ns; places = ps })
    ≡ with_transposed_delta q 0 y (drop (i + 1) q.b) (drop (i + 1) q.a) rest (with_place (record { nodes = ns; places = ps }) (line_nodes q made.nodes (delta_line q i made.place))) =
    rw (drop_more q.b i (pos 0) (omega arith), drop_more q.a i (pos 0) h, count_first i (length q.a) h) refl in
    let same : record { nodes = ms; places = qs } ≡ with_place (record { nodes = ns; places = ps }) (line_nodes q made.nodes (delta_line q i made.place)) =
    ap (λ (js : List ℕ). record { nodes = ms; places = js }) e ∙ ap (with_place (record { nodes = ns; places = ps })) delta in
    ap (with_transposed_delta q 0 y (drop (i + 1) q.b) (drop (i + 1) q.a) rest) same ∙ sym step ∙ before

-- ---- summands
newest_later : (k n : ℕ) → 0 < n → n ≡ newest_at k n
newest_later k zero h = absurd (omega arith)
newest_later k (suc n) h = refl

-- the first product, and then the others
pub forward_built : (bs : List ℤ) (k : ℕ) → 0 < length bs → Times false (get_or bs 0 (pos 0)) k ∷ summands false (drop 1 bs) (λ i. i) 1 ≡ summands false bs (newest_at k) 0
forward_built [] k h = absurd (omega arith)
forward_built (c ∷ cs) k h = ap (λ (ts : List (Summand ℕ)). Times false c k ∷ ts) (same_summands false cs (λ i. i) (newest_at k) 1 1 (λ i l. newest_later k (1 + i) (omega arith)))

newest_zero : (n : ℕ) → newest_at 0 n ≡ n
newest_zero zero = refl
newest_zero (suc n) = refl

pub newest_input : (bs : List ℤ) → summands false bs (newest_at 0) 0 ≡ summands false bs (λ i. i) 0
newest_input bs = same_summands false bs (newest_at 0) (λ i. i) 0 0 (λ i h. newest_zero (0 + i))

-- the products so far, and one more
pub products_more : (away : Bool) (cs : List ℤ) (i w : ℕ) (c : ℤ) (old new : List (Summand ℕ)) → i < length cs → c ≡ get_or cs i (pos 0)
    → new ≡ old ++ Times away c w ∷ [] → new ++ summands away (drop (i + 1) cs) (λ j. j) (w + 1) ≡ old ++ summands away (drop i cs) (λ j. j) w
products_more away cs i w c old new l p g =
    let rest = summands away (drop (i + 1) cs) (λ (j : ℕ). j) (w + 1) in
    let heads : Times away c w ∷ rest ≡ summands away (drop i cs) (λ j. j) w = ap (λ v. Times away v w ∷ rest) p ∙ sym (ap (λ vs. summands away vs (λ (j : ℕ). j) w) (drop_more cs i (pos 0) l)) in
    ap (λ (ts : List (Summand ℕ)). ts ++ rest) g ∙ append_assoc old (Times away c w ∷ []) rest ∙ ap (λ (ts : List (Summand ℕ)). old ++ ts) heads
