-- Parts of equal lists.
use Rattle.std.proofs.Common.{◌≡◌, ℕ, ◌+◌, List, ◌∷◌, ◌++◌, length, drop, ap, sym, ◌∙◌}
use Rattle.std.proofs.Math.Seq.{drop-append_seam}
use Rattle.std.proofs.lemmas.List.{drop-drop}

pub first_same : {X : Type 0} (a b : X) (ps qs : List X) → a ∷ ps ≡ b ∷ qs → a ≡ b
first_same a b ps qs e = cc

pub rest_same : {X : Type 0} (a b : X) (ps qs : List X) → a ∷ ps ≡ b ∷ qs → ps ≡ qs
rest_same a b ps qs e = cc

-- what comes after the same list
pub cancel : {X : Type 0} (xs ys zs : List X) → xs ++ ys ≡ xs ++ zs → ys ≡ zs
cancel xs ys zs e = sym (drop-append_seam xs ys) ∙ ap (drop (length xs)) e ∙ drop-append_seam xs zs

-- what comes after the list that comes after so many elements
pub drop-more : {X : Type 0} (xs ys rest : List X) (at : ℕ) → drop at xs ≡ ys ++ rest → drop (at + length ys) xs ≡ rest
drop-more xs ys rest at e = sym (drop-drop (length ys) at xs) ∙ ap (drop (length ys)) e ∙ drop-append_seam ys rest
