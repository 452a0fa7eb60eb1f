-- What a node over words makes of them is a word.
use Rattle.std.proofs.Common.{◌≡◌, ℕ, ◌+◌, ◌<◌, ◌≤◌, List, [], ◌∷◌, ◌++◌, refl, arith}
use Rattle.std.specs.Prelude.{All}
use Rattle.std.proofs.lemmas.List.Elements.{All-nil, All-cons}
use Rattle.dsv_term.specs.Limits.{max_width}
use Rattle.dsv_term.specs.declared.node.TermNode.{TermNode}
use Rattle.dsv_term.specs.declared.node.TermNode.TheVariants.{Add, Sub, Slt, Sle, Ult, Eq, And, Or, Concat, Neg, Not, MulConst, Sext, Extract}
use Rattle.dsv_term.specs.declared.word.Word.{Word}
use Rattle.dsv_term.specs.TermNode.{word_widths, node_word, IsLawful}
use Rattle.dsv_term.specs.Terms.{AreValues}
use Rattle.dsv_term.specs.Word.{IsWidth, IsWord, sum_of, difference_of, negation_of, product_of, signed_less_of, signed_at_most_of, less_of, same_of, and_of, or_of, complement_of, joined_of, extended_of, extract_of}
use Rattle.dsv_term.proofs.Words.{words_of_nodes}
use Rattle.std.proofs.Math.IntN.{ℤ}

no_values : AreValues [] []
no_values = record { count = refl; fit = λ k h. absurd (omega arith) }

node_folds : (ws : List Word) (n : TermNode) → All IsWord ws → IsLawful [] (word_widths ws) n → All IsWord (ws ++ node_word [] [] ws n ∷ [])
node_folds ws n h l = (words_of_nodes [] [] (n ∷ []) ws (All-nil IsWidth) no_values h (l, tt)).words

fold_two : (x y : Word) (n : TermNode) → IsWord x → IsWord y → IsLawful [] (x.width ∷ y.width ∷ []) n → IsWord (node_word [] [] (x ∷ y ∷ []) n)
fold_two x y n h k l =
    let d : Word = record { width = 0; number = 0 } in
    node_folds (x ∷ y ∷ []) n (All-cons IsWord x (y ∷ []) h (All-cons IsWord y [] k (All-nil IsWord))) l 2 d (omega arith)

fold_one : (x : Word) (n : TermNode) → IsWord x → IsLawful [] (x.width ∷ []) n → IsWord (node_word [] [] (x ∷ []) n)
fold_one x n h l =
    let d : Word = record { width = 0; number = 0 } in
    node_folds (x ∷ []) n (All-cons IsWord x [] h (All-nil IsWord)) l 1 d (omega arith)

pub IsWord-sum : (x y : Word) → IsWord x → IsWord y → x.width ≡ y.width → IsWord (sum_of x y)
IsWord-sum x y h k e = fold_two x y (Add (record { 0 = 0 }) (record { 0 = 1 })) h k (record { first = omega arith; second = omega arith; same = e })

pub IsWord-difference : (x y : Word) → IsWord x → IsWord y → x.width ≡ y.width → IsWord (difference_of x y)
IsWord-difference x y h k e = fold_two x y (Sub (record { 0 = 0 }) (record { 0 = 1 })) h k (record { first = omega arith; second = omega arith; same = e })

pub IsWord-signed_less : (x y : Word) → IsWord x → IsWord y → x.width ≡ y.width → IsWord (signed_less_of x y)
IsWord-signed_less x y h k e = fold_two x y (Slt (record { 0 = 0 }) (record { 0 = 1 })) h k (record { first = omega arith; second = omega arith; same = e })

pub IsWord-signed_at_most : (x y : Word) → IsWord x → IsWord y → x.width ≡ y.width → IsWord (signed_at_most_of x y)
IsWord-signed_at_most x y h k e = fold_two x y (Sle (record { 0 = 0 }) (record { 0 = 1 })) h k (record { first = omega arith; second = omega arith; same = e })

pub IsWord-less : (x y : Word) → IsWord x → IsWord y → x.width ≡ y.width → IsWord (less_of x y)
IsWord-less x y h k e = fold_two x y (Ult (record { 0 = 0 }) (record { 0 = 1 })) h k (record { first = omega arith; second = omega arith; same = e })

pub IsWord-same : (x y : Word) → IsWord x → IsWord y → x.width ≡ y.width → IsWord (same_of x y)
IsWord-same x y h k e = fold_two x y (Eq (record { 0 = 0 }) (record { 0 = 1 })) h k (record { first = omega arith; second = omega arith; same = e })

pub IsWord-and : (x y : Word) → IsWord x → IsWord y → x.width ≡ y.width → IsWord (and_of x y)
IsWord-and x y h k e = fold_two x y (And (record { 0 = 0 }) (record { 0 = 1 })) h k (record { first = omega arith; second = omega arith; same = e })

pub IsWord-or : (x y : Word) → IsWord x → IsWord y → x.width ≡ y.width → IsWord (or_of x y)
IsWord-or x y h k e = fold_two x y (Or (record { 0 = 0 }) (record { 0 = 1 })) h k (record { first = omega arith; second = omega arith; same = e })

pub IsWord-joined : (x y : Word) → IsWord x → IsWord y → x.width + y.width ≤ max_width → IsWord (joined_of x y)
IsWord-joined x y h k e = fold_two x y (Concat (record { 0 = 0 }) (record { 0 = 1 })) h k (record { first = omega arith; second = omega arith; narrow = e })

pub IsWord-negation : (x : Word) → IsWord x → IsWord (negation_of x)
IsWord-negation x h = fold_one x (Neg (record { 0 = 0 })) h (omega arith)

pub IsWord-complement : (x : Word) → IsWord x → IsWord (complement_of x)
IsWord-complement x h = fold_one x (Not (record { 0 = 0 })) h (omega arith)

pub IsWord-product : (c : ℤ) (x : Word) → IsWord x → IsWord (product_of c x)
IsWord-product c x h = fold_one x (MulConst (record { 0 = 0 }) c) h (omega arith)

pub IsWord-extended : (width : ℕ) (x : Word) → IsWord x → x.width ≤ width → width ≤ max_width → IsWord (extended_of width x)
IsWord-extended width x h w n = fold_one x (Sext (record { 0 = 0 }) width) h (record { stands = omega arith; wider = w; narrow = n })

pub IsWord-extract : (high low : ℕ) (x : Word) → IsWord x → low ≤ high → high < x.width → IsWord (extract_of high low x)
IsWord-extract high low x h o i = fold_one x (Extract (record { 0 = 0 }) high low) h (record { stands = omega arith; order = o; inside = i })
