-- Lists of summands, one more.
use Rattle.std.proofs.Common.{◌≡◌, ℕ, ◌+◌, ◌<◌, ◌≤◌, Bool, false, List, [], ◌∷◌, ◌++◌, length, drop, get_or, refl, sym, ap, ◌∙◌, arith, add-one, append_assoc}
use Rattle.std.proofs.Math.IntN.{ℤ, pos}
use Rattle.std.proofs.lemmas.List.{drop_more}
use Rattle.dsv_meaning.specs.declared.summands.Summand.{Summand}
use Rattle.dsv_meaning.specs.declared.summands.Summand.TheVariants.{Times}
use Rattle.dsv_meaning.specs.Lines.{summands}
use Rattle.dsv_meaning.specs.Equations.{ago}

-- the products so far, and one more
pub products_more : (away : Bool) (cs ws : List ℤ) (i : ℕ) (c w : ℤ) (old new : List (Summand ℤ)) → i < length cs → c ≡ get_or cs i (pos 0) → w ≡ get_or ws i (pos 0)
    → new ≡ old ++ Times away c w ∷ [] → new ++ summands away (drop (i + 1) cs) (ago ws) (i + 1) ≡ old ++ summands away (drop i cs) (ago ws) i
products_more away cs ws i c w old new l p q g =
    let rest = summands away (drop (i + 1) cs) (ago ws) (i + 1) in
    let heads : Times away c w ∷ rest ≡ summands away (drop i cs) (ago ws) i =
    ap (λ v. Times away v w ∷ rest) p ∙ ap (λ v. Times away (get_or cs i (pos 0)) v ∷ rest) q ∙ sym (ap (λ vs. summands away vs (ago ws) i) (drop_more cs i (pos 0) l)) in
    ap (λ (ts : List (Summand ℤ)). ts ++ rest) g ∙ append_assoc old (Times away c w ∷ []) rest ∙ ap (λ (ts : List (Summand ℤ)). old ++ ts) heads

-- summands that leave out the newest word
pub summands_after : (away : Bool) (cs : List ℤ) (x : ℤ) (ws : List ℤ) (k : ℕ) → summands away cs (ago (x ∷ ws)) (k + 1) ≡ summands away cs (ago ws) k
summands_after away [] x ws k = refl
summands_after away (c ∷ cs) x ws k =
    let e : ago (x ∷ ws) (k + 1) ≡ ago ws k = ap (ago (x ∷ ws)) (add-one k) in
    ap (λ w. Times away c w ∷ summands away cs (ago (x ∷ ws)) (k + 1 + 1)) e ∙ ap (λ ts. Times away c (ago ws k) ∷ ts) (summands_after away cs x ws (k + 1))

-- the first product is that of the newest word
pub forward_built : (bs : List ℤ) (x : ℤ) (ws : List ℤ) → 1 ≤ length bs
    → Times false (get_or bs 0 (pos 0)) x ∷ summands false (drop 1 bs) (ago ws) 0 ≡ summands false bs (ago (x ∷ ws)) 0
forward_built [] x ws h = absurd (omega arith)
forward_built (b ∷ bs) x ws h = ap (λ ts. Times false b x ∷ ts) (sym (summands_after false bs x ws 0))
