-- Terms as a list of nodes: which are lawful, how wide they are, and the words that they stand for.
use Rattle.std.specs.Prelude.{◌≡◌, ℕ, ◌+◌, ◌-◌, ◌^◌, ◌<◌, ◌≤◌, List, []}
use Rattle.std.specs.Prelude.{◌∷◌, ◌++◌, length, map, slice_index, slice_index_or}
use Rattle.dsv_term.specs.Limits.{max_width}
use Rattle.dsv_term.specs.declared.node.TermId.{TermId}
use Rattle.dsv_term.specs.declared.node.TermNode.{TermNode}
use Rattle.dsv_term.specs.declared.node.TermNode.TheVariants.{Input, Constant, Add, Sub, Slt}
use Rattle.dsv_term.specs.declared.node.TermNode.TheVariants.{Sle, Ult, Eq, And, Or, Concat, Neg}
use Rattle.dsv_term.specs.declared.node.TermNode.TheVariants.{Not, MulConst, Sext, Extract, Ite}
use Rattle.dsv_term.specs.declared.word.Word.{Word}
use Rattle.dsv_term.specs.Word.{IsWidth, sum_of, difference_of, negation_of, product_of}
use Rattle.dsv_term.specs.Word.{signed_less_of, signed_at_most_of, less_of, same_of, and_of, or_of}
use Rattle.dsv_term.specs.Word.{complement_of, joined_of, extended_of, extract_of, choice_of}

-- the entries of all nodes, after those of earlier nodes: each is made of the ones before it
abbrev pub entries_from : {X : Type 0} → (List X → TermNode → X) → List TermNode → List X → List X
entries_from entry [] xs = xs
entries_from entry (n ∷ ns) xs = entries_from entry ns (xs ++ entry xs n ∷ [])

abbrev pub word_at : List Word → TermId → Word
word_at ws id = slice_index_or ws id.0 (record { width = 0; number = 0 })

-- how wide words are
abbrev pub word_widths : List Word → List ℕ
word_widths ws = map (λ (w : Word). w.width) ws

-- what a node stands for, where the inputs have these widths and values and the earlier nodes stand
-- for these words
abbrev pub node_word : List ℕ → List ℕ → List Word → TermNode → Word
node_word inputs values ws (Input k) =
    record { width = slice_index inputs k; number = slice_index values k }
node_word inputs values ws (Constant width value) = record { width = width; number = value }
node_word inputs values ws (Add a b) = sum_of (word_at ws a) (word_at ws b)
node_word inputs values ws (Sub a b) = difference_of (word_at ws a) (word_at ws b)
node_word inputs values ws (Slt a b) = signed_less_of (word_at ws a) (word_at ws b)
node_word inputs values ws (Sle a b) = signed_at_most_of (word_at ws a) (word_at ws b)
node_word inputs values ws (Ult a b) = less_of (word_at ws a) (word_at ws b)
node_word inputs values ws (Eq a b) = same_of (word_at ws a) (word_at ws b)
node_word inputs values ws (And a b) = and_of (word_at ws a) (word_at ws b)
node_word inputs values ws (Or a b) = or_of (word_at ws a) (word_at ws b)
node_word inputs values ws (Concat a b) = joined_of (word_at ws a) (word_at ws b)
node_word inputs values ws (Neg a) = negation_of (word_at ws a)
node_word inputs values ws (Not a) = complement_of (word_at ws a)
node_word inputs values ws (MulConst a coeff) = product_of coeff (word_at ws a)
node_word inputs values ws (Sext a width) = extended_of width (word_at ws a)
node_word inputs values ws (Extract a high low) = extract_of high low (word_at ws a)
node_word inputs values ws (Ite c a b) = choice_of (word_at ws c) (word_at ws a) (word_at ws b)

-- the words of these nodes, after those of earlier ones
abbrev pub words_from : List ℕ → List ℕ → List TermNode → List Word → List Word
words_from inputs values nodes ws = entries_from (node_word inputs values) nodes ws

-- how wide a node is, where the earlier ones have these widths
abbrev pub node_width : List ℕ → List ℕ → TermNode → ℕ
node_width inputs ws (Input k) = slice_index inputs k
node_width inputs ws (Constant width value) = width
node_width inputs ws (Add a b) = slice_index ws a.0
node_width inputs ws (Sub a b) = slice_index ws a.0
node_width inputs ws (Slt a b) = 1
node_width inputs ws (Sle a b) = 1
node_width inputs ws (Ult a b) = 1
node_width inputs ws (Eq a b) = 1
node_width inputs ws (And a b) = slice_index ws a.0
node_width inputs ws (Or a b) = slice_index ws a.0
node_width inputs ws (Concat a b) = slice_index ws a.0 + slice_index ws b.0
node_width inputs ws (Neg a) = slice_index ws a.0
node_width inputs ws (Not a) = slice_index ws a.0
node_width inputs ws (MulConst a coeff) = slice_index ws a.0
node_width inputs ws (Sext a width) = width
node_width inputs ws (Extract a high low) = high + 1 - low
node_width inputs ws (Ite c a b) = slice_index ws a.0

-- the widths of these nodes, after those of earlier ones
abbrev pub widths_from : List ℕ → List TermNode → List ℕ → List ℕ
widths_from inputs nodes ws = entries_from (node_width inputs) nodes ws

-- Two earlier nodes of one width.
pub record AreAlike (ws : List ℕ) (a b : TermId) : Type 0 where
  pub first : a.0 < length ws
  pub second : b.0 < length ws
  pub same : slice_index ws a.0 ≡ slice_index ws b.0

-- Two earlier nodes that are not too wide together.
pub record AreNarrow (ws : List ℕ) (a b : TermId) : Type 0 where
  pub first : a.0 < length ws
  pub second : b.0 < length ws
  pub narrow : slice_index ws a.0 + slice_index ws b.0 ≤ max_width

-- A constant that its bits can spell.
pub record IsConstant (width value : ℕ) : Type 0 where
  pub lawful : IsWidth width
  pub fits : value < 2 ^ width

-- An earlier node that is at most so wide.
pub record IsExtension (ws : List ℕ) (a : TermId) (width : ℕ) : Type 0 where
  pub stands : a.0 < length ws
  pub wider : slice_index ws a.0 ≤ width
  pub narrow : width ≤ max_width

-- Bits of an earlier node.
pub record IsExtract (ws : List ℕ) (a : TermId) (high low : ℕ) : Type 0 where
  pub stands : a.0 < length ws
  pub order : low ≤ high
  pub inside : high < slice_index ws a.0

-- An earlier bit, and two earlier nodes of one width.
pub record IsChoice (ws : List ℕ) (c a b : TermId) : Type 0 where
  pub stands : c.0 < length ws
  pub bit : slice_index ws c.0 ≡ 1
  pub alike : AreAlike ws a b

-- A node refers to earlier nodes, which have these widths, and they are as wide as SMT-LIB asks it.
abbrev pub IsLawful : List ℕ → List ℕ → TermNode → Type 0
IsLawful inputs ws (Input k) = k < length inputs
IsLawful inputs ws (Constant width value) = IsConstant width value
IsLawful inputs ws (Add a b) = AreAlike ws a b
IsLawful inputs ws (Sub a b) = AreAlike ws a b
IsLawful inputs ws (Slt a b) = AreAlike ws a b
IsLawful inputs ws (Sle a b) = AreAlike ws a b
IsLawful inputs ws (Ult a b) = AreAlike ws a b
IsLawful inputs ws (Eq a b) = AreAlike ws a b
IsLawful inputs ws (And a b) = AreAlike ws a b
IsLawful inputs ws (Or a b) = AreAlike ws a b
IsLawful inputs ws (Concat a b) = AreNarrow ws a b
IsLawful inputs ws (Neg a) = a.0 < length ws
IsLawful inputs ws (Not a) = a.0 < length ws
IsLawful inputs ws (MulConst a coeff) = a.0 < length ws
IsLawful inputs ws (Sext a width) = IsExtension ws a width
IsLawful inputs ws (Extract a high low) = IsExtract ws a high low
IsLawful inputs ws (Ite c a b) = IsChoice ws c a b

-- All nodes are lawful, after earlier ones of these widths.
abbrev pub AreLawful : List ℕ → List TermNode → List ℕ → Type 0
AreLawful inputs [] ws = Unit {0}
AreLawful inputs (n ∷ ns) ws = IsLawful inputs ws n
    × AreLawful inputs ns (ws ++ node_width inputs ws n ∷ [])
