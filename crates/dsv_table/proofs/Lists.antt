-- Lists that are made number by number.
use Rattle.std.proofs.Common.{◌≡◌, ℕ, ◌+◌, ◌<◌, List, [], ◌∷◌, ◌++◌, length, below_more, sym, ap, ◌∙◌, arith}
use Rattle.std.proofs.Math.IntN.{ℤ, pos}
use Rattle.std.proofs.Math.ListN.{get_or-append}
use Rattle.std.proofs.Math.Seq.{get_or-append_seam}
use Rattle.dsv_algebra.specs.Vectors.{Vector, vector_of}

-- one number more
pub entries_more : (f : Vector) (xs : List ℤ) (x : ℤ) (k : ℕ) → length xs ≡ k → ((i : ℕ) → i < k → vector_of xs i ≡ f i) → x ≡ f k
    → (i : ℕ) → i < k + 1 → vector_of (xs ++ x ∷ []) i ≡ f i
entries_more f xs x k p same e =
    below_more (λ i. vector_of (xs ++ x ∷ []) i ≡ f i) k
    (λ i b. get_or-append xs (x ∷ []) (pos 0) i (omega arith) ∙ same i b)
    (ap (λ n. vector_of (xs ++ x ∷ []) n) (sym p) ∙ get_or-append_seam xs x [] (pos 0) ∙ e)
