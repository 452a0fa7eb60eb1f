-- The lines of new states, one after another.
use Rattle.std.proofs.Common.{◌≡◌, ℕ, suc, ◌+◌, ◌<◌, ◌≤◌, List, [], ◌∷◌, ◌++◌, length, drop, get_or, refl, sym, ap, ◌∙◌, add-one, drop-cons}
use Rattle.std.proofs.Math.IntN.{ℤ}
use Rattle.std.proofs.lemmas.List.{drop_all}
use Rattle.dsv_netlist.specs.declared.node.Node.{Node}
use Rattle.dsv_netlist.specs.Nodes.{net_from}
use Rattle.dsv_realise.specs.Making.{Made, made_at, Chained, chained_at, no_places, with_place}
use Rattle.dsv_realise.specs.Netlists.{sources}
use Rattle.dsv_word.specs.declared.format.Format.{Format}
use Rattle.dsv_state_space.specs.Netlists.{with_state_line, output_of, with_states, states_of, net_of_state}
use Rattle.dsv_state_space.specs.StateView.{StateView, states}

split_at : {A : Type 0} (xs : List A) (i : ℕ) (x : A) → i < length xs → x ≡ get_or xs i x → drop i xs ≡ x ∷ drop (i + 1) xs
split_at xs i x h is = drop-cons xs i x h ∙ ap (λ y. y ∷ drop (suc i) xs) (sym is) ∙ ap (λ m. x ∷ drop m xs) (sym (add-one i))

-- a line more
pub states_more : (bs : List ℤ) (rows : List (List ℤ)) (i : ℕ) (b : ℤ) (row : List ℤ) (ns ms : List Node) (next longer : List ℕ) (place : ℕ) → i < length bs → i < length rows → b ≡ get_or bs i b → row ≡ get_or rows i row
    → made_at ms place ≡ with_state_line ns b row → longer ≡ next ++ place ∷ []
    → with_states (drop (i + 1) bs) (drop (i + 1) rows) (chained_at ms longer) ≡ with_states (drop i bs) (drop i rows) (chained_at ns next)
states_more bs rows i b row ns ms next longer place h k e f made is =
    let c = chained_at ns next in
    let one : with_states (drop i bs) (drop i rows) c ≡ with_states (drop (i + 1) bs) (drop (i + 1) rows) (with_place c (with_state_line ns b row)) =
    ap (λ xs. with_states xs (drop i rows) c) (split_at bs i b h e) ∙ ap (λ ys. with_states (b ∷ drop (i + 1) bs) ys c) (split_at rows i row k f) in
    sym (one
    ∙ ap (λ (m : Made). with_states (drop (i + 1) bs) (drop (i + 1) rows) (with_place c m)) (sym made)
    ∙ ap (λ l. with_states (drop (i + 1) bs) (drop (i + 1) rows) (chained_at ms l)) (sym is))

-- after the last
pub states_end : (bs : List ℤ) (rows : List (List ℤ)) (i : ℕ) (c : Chained) → length bs ≤ i → with_states (drop i bs) (drop i rows) c ≡ c
states_end bs rows i c h = ap (λ xs. with_states xs (drop i rows) c) (drop_all i bs h)

-- the netlist of its parts
pub state_net_made : (s : StateView) (ns ms all : List Node) (next : List ℕ) (y n : ℕ) (d : ℤ) (row : List ℤ) (f : Format) → ns ≡ sources n → n ≡ states s → d ≡ s.d → row ≡ s.c → made_at ms y ≡ with_state_line ns d row
    → chained_at all next ≡ with_states s.b s.a (no_places ms) → f ≡ s.format → net_from all next y 0 f ≡ net_of_state s
state_net_made s ns ms all next y n d row f begun many direct outputs made chained format =
    let first : ns ≡ sources (states s) = begun ∙ ap sources many in
    let out : made_at ms y ≡ output_of s = made ∙ rw (first, direct, outputs) refl in
    let cs : chained_at all next ≡ states_of s = chained ∙ ap (λ (m : Made). with_states s.b s.a (no_places m.nodes)) out in
    ap (λ (c : Chained). net_from c.nodes c.places y 0 f) cs
    ∙ ap (λ (m : Made). net_from (states_of s).nodes (states_of s).places m.place 0 f) out
    ∙ ap (net_from (states_of s).nodes (states_of s).places (output_of s).place 0) format
