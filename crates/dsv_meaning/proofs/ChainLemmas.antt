-- Chains, one register more.
use Rattle.std.proofs.Common.{◌≡◌, ℕ, ◌+◌, ◌<◌, List, [], ◌∷◌, ◌++◌, length, drop, get_or, sym, ap, ◌∙◌}
use Rattle.std.proofs.Math.IntN.{ℤ, pos}
use Rattle.std.proofs.lemmas.List.{drop_more, drop-drop}
use Rattle.dsv_quantiser.specs.QuantisedView.{QuantisedView}
use Rattle.dsv_meaning.specs.Lines.{Sum}
use Rattle.dsv_meaning.specs.Equations.{line_of, Chain, chain_with, delta_line, transposed_line, delta_chain, transposed_chain, transposed_delta_chain}

-- the words from the i-th on, of which that is the first
from_place : (ws : List ℤ) (i : ℕ) (w : ℤ) → i < length ws → w ≡ get_or ws i (pos 0) → w ∷ drop (i + 1) ws ≡ drop i ws
from_place ws i w h e = ap (λ v. v ∷ drop (i + 1) ws) e ∙ sym (drop_more ws i (pos 0) h)

-- the chain with one word more
added : (rs new : List ℤ) (s t : Sum) → new ≡ rs ++ s.value ∷ [] → s ≡ t → chain_with (record { words = rs; exact = [] }) t ≡ record { words = new; exact = s.exact }
added rs new s t n e = ap (λ (v : Sum). record { words = rs ++ v.value ∷ []; exact = v.exact }) (sym e) ∙ ap (λ v. record { words = v; exact = s.exact }) (sym n)

pub delta_more : (q : QuantisedView) (old rs new es : List ℤ) (i : ℕ) (before w : ℤ) (s : Sum) → i < length old
    → w ≡ get_or old i (pos 0) → s ≡ line_of q es (delta_line q w before) → new ≡ rs ++ s.value ∷ []
    → delta_chain q w (drop (i + 1) old) (record { words = new; exact = s.exact }) ≡ delta_chain q before (drop i old) (record { words = rs; exact = es })
delta_more q old rs new es i before w s h e g n =
    ap (delta_chain q w (drop (i + 1) old)) (sym (added rs new s (line_of q es (delta_line q w before)) n g))
    ∙ ap (λ ws. delta_chain q before ws (record { words = rs; exact = es })) (from_place old i w h e)

pub transposed_more : (q : QuantisedView) (x y : ℤ) (bs cs old rest rs new es : List ℤ) (i : ℕ) (b a : ℤ) (s : Sum)
    → i < length bs → i < length cs → b ≡ get_or bs i (pos 0) → a ≡ get_or cs i (pos 0) → rest ≡ drop (i + 1) old → s ≡ line_of q es (transposed_line b a x y rest) → new ≡ rs ++ s.value ∷ []
    → transposed_chain q x y (drop (i + 1) bs) (drop (i + 1) cs) (drop (i + 1) old) (record { words = new; exact = s.exact })
    ≡ transposed_chain q x y (drop i bs) (drop i cs) (drop i old) (record { words = rs; exact = es })
transposed_more q x y bs cs old rest rs new es i b a s hb hc eb ec r g n =
    let tail : drop (i + 1) old ≡ drop 1 (drop i old) = sym (drop-drop 1 i old) in
    let t = line_of q es (transposed_line b a x y (drop 1 (drop i old))) in
    let same : s ≡ t = g ∙ ap (λ v. line_of q es (transposed_line b a x y v)) (r ∙ tail) in
    let start : Chain = record { words = rs; exact = es } in
    ap (transposed_chain q x y (drop (i + 1) bs) (drop (i + 1) cs) (drop (i + 1) old)) (sym (added rs new s t n same))
    ∙ ap (λ v. transposed_chain q x y (drop (i + 1) bs) (drop (i + 1) cs) v (chain_with start t)) tail
    ∙ ap (λ v. transposed_chain q x y v (a ∷ drop (i + 1) cs) (drop i old) start) (from_place bs i b hb eb)
    ∙ ap (λ v. transposed_chain q x y (drop i bs) v (drop i old) start) (from_place cs i a hc ec)

pub transposed_delta_more : (q : QuantisedView) (x y : ℤ) (bs cs old rest rs new es : List ℤ) (i : ℕ) (b a w : ℤ) (t s : Sum)
    → i < length bs → i < length cs → i < length old → b ≡ get_or bs i (pos 0) → a ≡ get_or cs i (pos 0) → w ≡ get_or old i (pos 0) → rest ≡ drop (i + 1) old
    → t ≡ line_of q es (transposed_line b a x y rest) → s ≡ line_of q t.exact (delta_line q w t.value) → new ≡ rs ++ s.value ∷ []
    → transposed_delta_chain q x y (drop (i + 1) bs) (drop (i + 1) cs) (drop (i + 1) old) (record { words = new; exact = s.exact })
    ≡ transposed_delta_chain q x y (drop i bs) (drop i cs) (drop i old) (record { words = rs; exact = es })
transposed_delta_more q x y bs cs old rest rs new es i b a w t s hb hc hw eb ec ew r g m n =
    let u = line_of q es (transposed_line b a x y (drop (i + 1) old)) in
    let change : t ≡ u = g ∙ ap (λ v. line_of q es (transposed_line b a x y v)) r in
    let same : s ≡ line_of q u.exact (delta_line q w u.value) = m ∙ ap (λ (v : Sum). line_of q v.exact (delta_line q w v.value)) change in
    let start : Chain = record { words = rs; exact = es } in
    ap (transposed_delta_chain q x y (drop (i + 1) bs) (drop (i + 1) cs) (drop (i + 1) old)) (sym (added rs new s (line_of q u.exact (delta_line q w u.value)) n same))
    ∙ ap (λ v. transposed_delta_chain q x y v (a ∷ drop (i + 1) cs) (w ∷ drop (i + 1) old) start) (from_place bs i b hb eb)
    ∙ ap (λ v. transposed_delta_chain q x y (drop i bs) v (w ∷ drop (i + 1) old) start) (from_place cs i a hc ec)
    ∙ ap (λ v. transposed_delta_chain q x y (drop i bs) (drop i cs) v start) (from_place old i w hw ew)
