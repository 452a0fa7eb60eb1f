-- A node's width and word are made of the nodes that it refers to, whatever else stands.
use Rattle.std.proofs.Common.{◌≡◌, ℕ, ◌<◌, List, ◌++◌, refl, arith, ap, ◌∙◌, length, length-append, slice_index}
use Rattle.dsv_term.specs.declared.node.TermId.{TermId}
use Rattle.dsv_term.specs.declared.node.TermNode.{TermNode}
use Rattle.dsv_term.specs.declared.node.TermNode.TheVariants.{Input, Constant, Add, Sub, Slt, Sle, Ult, Eq, And, Or, Concat, Neg, Not, MulConst, Sext, Extract, Ite}
use Rattle.dsv_term.specs.declared.word.Word.{Word}
use Rattle.dsv_term.specs.Word.{sum_of, difference_of, negation_of, product_of, signed_less_of, signed_at_most_of, less_of, same_of, and_of, or_of, complement_of, joined_of, extended_of, extract_of, choice_of}
use Rattle.dsv_term.specs.TermNode.{word_at, node_word, node_width, IsLawful}

word_two : (f : Word → Word → Word) (ws vs : List Word) (a b : TermId) → word_at ws a ≡ word_at vs a → word_at ws b ≡ word_at vs b → f (word_at ws a) (word_at ws b) ≡ f (word_at vs a) (word_at vs b)
word_two f ws vs a b e g = cc

-- the same word where the nodes that it refers to have the same words
pub node_word-same : (inputs now values widths : List ℕ) (ws vs : List Word) (n : TermNode) → IsLawful inputs widths n
    → ((k : ℕ) → k < length inputs → slice_index now k ≡ slice_index inputs k)
    → ((id : TermId) → id.0 < length widths → word_at ws id ≡ word_at vs id)
    → node_word now values ws n ≡ node_word inputs values vs n
node_word-same inputs now values widths ws vs (Input k) l i e = ap (λ (w : ℕ). record { width = w; number = slice_index values k }) (i k l)
node_word-same inputs now values widths ws vs (Constant w v) l i e = refl
node_word-same inputs now values widths ws vs (Add a b) l i e = word_two sum_of ws vs a b (e a l.first) (e b l.second)
node_word-same inputs now values widths ws vs (Sub a b) l i e = word_two difference_of ws vs a b (e a l.first) (e b l.second)
node_word-same inputs now values widths ws vs (Slt a b) l i e = word_two signed_less_of ws vs a b (e a l.first) (e b l.second)
node_word-same inputs now values widths ws vs (Sle a b) l i e = word_two signed_at_most_of ws vs a b (e a l.first) (e b l.second)
node_word-same inputs now values widths ws vs (Ult a b) l i e = word_two less_of ws vs a b (e a l.first) (e b l.second)
node_word-same inputs now values widths ws vs (Eq a b) l i e = word_two same_of ws vs a b (e a l.first) (e b l.second)
node_word-same inputs now values widths ws vs (And a b) l i e = word_two and_of ws vs a b (e a l.first) (e b l.second)
node_word-same inputs now values widths ws vs (Or a b) l i e = word_two or_of ws vs a b (e a l.first) (e b l.second)
node_word-same inputs now values widths ws vs (Concat a b) l i e = word_two joined_of ws vs a b (e a l.first) (e b l.second)
node_word-same inputs now values widths ws vs (Neg a) l i e = ap negation_of (e a l)
node_word-same inputs now values widths ws vs (Not a) l i e = ap complement_of (e a l)
node_word-same inputs now values widths ws vs (MulConst a c) l i e = ap (product_of c) (e a l)
node_word-same inputs now values widths ws vs (Sext a w) l i e = ap (extended_of w) (e a l.stands)
node_word-same inputs now values widths ws vs (Extract a h k) l i e = ap (extract_of h k) (e a l.stands)
node_word-same inputs now values widths ws vs (Ite c a b) l i e =
    word_two (choice_of (word_at ws c)) ws vs a b (e a l.alike.first) (e b l.alike.second) ∙ ap (λ (w : Word). choice_of w (word_at vs a) (word_at vs b)) (e c l.stands)

-- the same width where the nodes that it refers to have the same widths
pub node_width-same : (inputs now widths ws : List ℕ) (n : TermNode) → IsLawful inputs widths n
    → ((k : ℕ) → k < length inputs → slice_index now k ≡ slice_index inputs k)
    → ((id : TermId) → id.0 < length widths → slice_index ws id.0 ≡ slice_index widths id.0)
    → node_width now ws n ≡ node_width inputs widths n
node_width-same inputs now widths ws (Input k) l i e = i k l
node_width-same inputs now widths ws (Add a b) l i e = e a l.first
node_width-same inputs now widths ws (Sub a b) l i e = e a l.first
node_width-same inputs now widths ws (And a b) l i e = e a l.first
node_width-same inputs now widths ws (Or a b) l i e = e a l.first
node_width-same inputs now widths ws (Concat a b) l i e = let p = e a l.first in let q = e b l.second in cc
node_width-same inputs now widths ws (Neg a) l i e = e a l
node_width-same inputs now widths ws (Not a) l i e = e a l
node_width-same inputs now widths ws (MulConst a c) l i e = e a l
node_width-same inputs now widths ws (Ite c a b) l i e = e a l.alike.first
node_width-same inputs now widths ws n l i e = refl

-- more inputs leave a node lawful
pub IsLawful-more : (inputs more ws : List ℕ) (n : TermNode) → IsLawful inputs ws n → IsLawful (inputs ++ more) ws n
IsLawful-more inputs more ws (Input k) l = omega (arith, length-append inputs more)
IsLawful-more inputs more ws n l = l
