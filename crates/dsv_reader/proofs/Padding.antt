-- Lists with zeros after them.
use Rattle.std.proofs.Common.{◌≡◌, ℕ, suc, ◌-◌, ◌<◌, List, [], ◌∷◌, ◌++◌, length, sym, ap, ◌∙◌, arith, append_assoc, length-append}
use Rattle.std.specs.Prelude.{replicate}
use Rattle.dsv_fraction.specs.Ratio.{Ratio, zero}
use Rattle.dsv_reader.specs.Reading.{padded_list}

-- one more zero
pub padded_more : (n : ℕ) (xs : List Ratio) → length xs < n → padded_list n (xs ++ zero ∷ []) ≡ padded_list n xs
padded_more n xs h =
    let e : n - length (xs ++ zero ∷ []) ≡ n - length xs - 1 = omega (arith, length-append xs (zero ∷ [])) in
    let f : n - length xs ≡ suc (n - length xs - 1) = omega arith in
    append_assoc xs (zero ∷ []) (replicate (n - length (xs ++ zero ∷ [])) zero)
    ∙ ap (λ k. xs ++ zero ∷ replicate k zero) e
    ∙ ap (λ k. xs ++ replicate k zero) (sym f)
