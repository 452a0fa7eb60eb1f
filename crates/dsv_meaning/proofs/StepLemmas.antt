-- Samples from their lines, for each realisation.
use Rattle.std.proofs.Common.{◌≡◌, ℕ, List, [], ◌∷◌, ◌++◌, length, take, drop, refl, sym, ap, ◌∙◌, append_assoc}
use Rattle.std.proofs.Math.IntN.{ℤ}
use Rattle.std.proofs.lemmas.List.{append-nil}
use Rattle.dsv_names.specs.declared.realisation.Realisation.TheVariants.{Dfi, Dfii, Tdfii, Ddfi, Ddfii, Tddfii}
use Rattle.dsv_quantiser.specs.QuantisedView.{QuantisedView}
use Rattle.dsv_meaning.specs.declared.summands.Summand.TheVariants.{Alone}
use Rattle.dsv_meaning.specs.Lines.{Sum}
use Rattle.dsv_meaning.specs.Equations.{line_of, order, feedback, ago, Chain, chain_with, no_words, forward_summands, feedback_summands, transposed_output, delta_line, delta_chain, transposed_chain, transposed_delta_chain}
use Rattle.dsv_system.specs.Runs.{Sampled}
use Rattle.dsv_meaning.specs.Stepping.{step_as, delay_line}

-- ---- delay lines
pub delayed_is : (done : List ℤ) (x : ℤ) (ws : List ℤ) → delay_line done x ws ≡ done ++ take (length ws) (x ∷ ws)
delayed_is done x [] = sym (append-nil done)
delayed_is done x (w ∷ ws) = delayed_is (done ++ x ∷ []) w ws ∙ append_assoc done (x ∷ []) (take (length ws) (w ∷ ws))

delayed_take : (done : List ℤ) (n : ℕ) (x : ℤ) (ws : List ℤ) → length ws ≡ n → delay_line done x ws ≡ done ++ take n (x ∷ ws)
delayed_take done n x ws e = delayed_is done x ws ∙ ap (λ m. done ++ take m (x ∷ ws)) e

-- ---- direct forms
pub dfi_sample : (q : QuantisedView) (r u v first new : List ℤ) (x : ℤ) (y : Sum) → u ≡ take (order q) r → v ≡ drop (order q) r → length u ≡ order q → length v ≡ order q
    → y ≡ line_of q [] (forward_summands q (ago (x ∷ u)) ++ feedback_summands q (ago v) 0) → first ≡ delay_line [] x u → new ≡ delay_line first y.value v
    → record { y = y.value; exact = y.exact; past = new } ≡ step_as Dfi q r x
unfolding step_as
dfi_sample q r u v first new x y a b m n e g h =
    let z = line_of q [] (forward_summands q (ago (x ∷ take (order q) r)) ++ feedback_summands q (ago (drop (order q) r)) 0) in
    let same : y ≡ z = e ∙ ap (λ w. line_of q [] (forward_summands q (ago (x ∷ w)) ++ feedback_summands q (ago v) 0)) a
    ∙ ap (λ w. line_of q [] (forward_summands q (ago (x ∷ take (order q) r)) ++ feedback_summands q (ago w) 0)) b in
    let registers : new ≡ take (order q) (x ∷ take (order q) r) ++ take (order q) (y.value ∷ drop (order q) r) =
    h ∙ delayed_take first (order q) y.value v n ∙ ap (λ w. w ++ take (order q) (y.value ∷ v)) (g ∙ delayed_take [] (order q) x u m)
    ∙ ap (λ w. take (order q) (x ∷ w) ++ take (order q) (y.value ∷ v)) a ∙ ap (λ w. take (order q) (x ∷ take (order q) r) ++ take (order q) (y.value ∷ w)) b in
    ap (λ w. record { y = y.value; exact = y.exact; past = w }) registers
    ∙ ap (λ (t : Sum). record { y = t.value; exact = t.exact; past = take (order q) (x ∷ take (order q) r) ++ take (order q) (t.value ∷ drop (order q) r) }) same

pub dfii_sample : (q : QuantisedView) (r new : List ℤ) (x : ℤ) (w y : Sum) → length r ≡ order q → w ≡ line_of q [] (Alone x ∷ feedback_summands q (ago r) 0)
    → y ≡ line_of q w.exact (forward_summands q (ago (w.value ∷ r))) → new ≡ delay_line [] w.value r
    → record { y = y.value; exact = y.exact; past = new } ≡ step_as Dfii q r x
unfolding step_as
dfii_sample q r new x w y m e g h =
    ap (λ s. record { y = y.value; exact = y.exact; past = s }) (h ∙ delayed_take [] (order q) w.value r m)
    ∙ ap (λ (t : Sum). record { y = t.value; exact = t.exact; past = take (order q) (w.value ∷ r) }) g
    ∙ ap (λ (t : Sum). let z = line_of q t.exact (forward_summands q (ago (t.value ∷ r))) in
    record { y = z.value; exact = z.exact; past = take (order q) (t.value ∷ r) }) e

pub tdfii_sample : (q : QuantisedView) (r : List ℤ) (x : ℤ) (y : Sum) (c : Chain) → y ≡ line_of q [] (transposed_output q x r)
    → c ≡ transposed_chain q x y.value (drop 1 q.b) (feedback q) r (no_words y.exact)
    → record { y = y.value; exact = c.exact; past = c.words } ≡ step_as Tdfii q r x
unfolding step_as
tdfii_sample q r x y c e g =
    ap (λ (d : Chain). record { y = y.value; exact = d.exact; past = d.words }) g
    ∙ ap (λ (t : Sum). let d = transposed_chain q x t.value (drop 1 q.b) (feedback q) r (no_words t.exact) in record { y = t.value; exact = d.exact; past = d.words }) e

-- ---- delta forms
-- the chain after other words
abbrev chain_after : List ℤ → Chain → Chain
chain_after front c = record { words = front ++ c.words; exact = c.exact }

delta_chain_after : (q : QuantisedView) (before : ℤ) (ws front : List ℤ) (c : Chain) → delta_chain q before ws (chain_after front c) ≡ chain_after front (delta_chain q before ws c)
delta_chain_after q before [] front c = refl
delta_chain_after q before (w ∷ ws) front c =
    let s = line_of q c.exact (delta_line q w before) in
    ap (λ v. delta_chain q w ws (record { words = v; exact = s.exact })) (append_assoc front c.words (s.value ∷ [])) ∙ delta_chain_after q w ws front (chain_with c s)

pub ddfi_sample : (q : QuantisedView) (r u v : List ℤ) (x : ℤ) (y : Sum) (c d : Chain) → u ≡ take (order q) r → v ≡ drop (order q) r
    → y ≡ line_of q [] (forward_summands q (ago (x ∷ u)) ++ feedback_summands q (ago v) 0) → c ≡ delta_chain q x u (no_words y.exact) → d ≡ delta_chain q y.value v c
    → record { y = y.value; exact = d.exact; past = d.words } ≡ step_as Ddfi q r x
unfolding step_as
ddfi_sample q r u v x y c d a b e g h =
    let with_both : List ℤ → List ℤ → Sampled (List ℤ) = λ (s t : List ℤ).
    let z = line_of q [] (forward_summands q (ago (x ∷ s)) ++ feedback_summands q (ago t) 0) in
    let j = delta_chain q x s (no_words z.exact) in
    let k = delta_chain q z.value t (no_words j.exact) in
    record { y = z.value; exact = k.exact; past = j.words ++ k.words } in
    let apart : d ≡ chain_after c.words (delta_chain q y.value v (no_words c.exact)) =
    h ∙ ap (λ w. delta_chain q y.value v (record { words = w; exact = c.exact })) (sym (append-nil c.words)) ∙ delta_chain_after q y.value v c.words (no_words c.exact) in
    ap (λ (j : Chain). record { y = y.value; exact = j.exact; past = j.words }) apart
    ∙ ap (λ (j : Chain). let k = delta_chain q y.value v (no_words j.exact) in record { y = y.value; exact = k.exact; past = j.words ++ k.words }) g
    ∙ ap (λ (z : Sum). let j = delta_chain q x u (no_words z.exact) in let k = delta_chain q z.value v (no_words j.exact) in
    record { y = z.value; exact = k.exact; past = j.words ++ k.words }) e
    ∙ ap (λ s. with_both s v) a ∙ ap (with_both (take (order q) r)) b

pub ddfii_sample : (q : QuantisedView) (r : List ℤ) (x : ℤ) (w y : Sum) (c : Chain) → w ≡ line_of q [] (Alone x ∷ feedback_summands q (ago r) 0)
    → y ≡ line_of q w.exact (forward_summands q (ago (w.value ∷ r))) → c ≡ delta_chain q w.value r (no_words y.exact)
    → record { y = y.value; exact = c.exact; past = c.words } ≡ step_as Ddfii q r x
unfolding step_as
ddfii_sample q r x w y c e g h =
    ap (λ (d : Chain). record { y = y.value; exact = d.exact; past = d.words }) h
    ∙ ap (λ (t : Sum). let d = delta_chain q w.value r (no_words t.exact) in record { y = t.value; exact = d.exact; past = d.words }) g
    ∙ ap (λ (t : Sum). let z = line_of q t.exact (forward_summands q (ago (t.value ∷ r))) in let d = delta_chain q t.value r (no_words z.exact) in
    record { y = z.value; exact = d.exact; past = d.words }) e

pub tddfii_sample : (q : QuantisedView) (r : List ℤ) (x : ℤ) (y : Sum) (c : Chain) → y ≡ line_of q [] (transposed_output q x r)
    → c ≡ transposed_delta_chain q x y.value (drop 1 q.b) (feedback q) r (no_words y.exact)
    → record { y = y.value; exact = c.exact; past = c.words } ≡ step_as Tddfii q r x
unfolding step_as
tddfii_sample q r x y c e g =
    ap (λ (d : Chain). record { y = y.value; exact = d.exact; past = d.words }) g
    ∙ ap (λ (t : Sum). let d = transposed_delta_chain q x t.value (drop 1 q.b) (feedback q) r (no_words t.exact) in record { y = t.value; exact = d.exact; past = d.words }) e
