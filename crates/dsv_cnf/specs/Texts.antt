-- What the text of a formula is, apart from how it is read: comment lines, a header line, and
-- pieces between blanks, which are the clauses' literals, each clause with a 0 after them.
use Rattle.std.specs.Prelude.{◌≡◌, ℕ, ◌+◌, ◌-◌, ◌^◌, ◌≤◌, Bool, true, not, ◌==◌, List, [], ◌∷◌}
use Rattle.std.specs.Prelude.{◌++◌, length, map, codes, decimal}
use Rattle.std.specs.List.{flat_map, list_all}
use Rattle.dsv_text.specs.Bytes.{is_blank}
use Rattle.dsv_cnf.specs.Dimacs.{header_text, sign_text}
use Rattle.dsv_cnf.specs.Formula.{AreOver}
use Rattle.dsv_cnf.specs.FormulaView.{FormulaView}
use Rattle.dsv_cnf.specs.Literal.{Literal}

-- ---- comment lines

-- any byte but a line feed
abbrev pub in_line : ℕ → Bool
in_line b = not (b == 10)

-- the bytes stand in one line
abbrev pub IsInLine : List ℕ → Type 0
IsInLine bytes = list_all in_line bytes ≡ true

abbrev pub AreInLines : List (List ℕ) → Type 0
AreInLines [] = Unit {0}
AreInLines (bytes ∷ more) = IsInLine bytes × AreInLines more

-- `c`, the comment's bytes, and a line feed
abbrev pub comment_line : List ℕ → List ℕ
comment_line bytes = codes "c" ++ bytes ++ codes "\n"

-- ---- pieces between blanks

-- the piece of a literal: its sign, and its variable numbered from 1
abbrev pub literal_piece : Literal → List ℕ
literal_piece l = sign_text l ++ decimal (l.var + 1)

-- the piece that ends a clause
abbrev pub end_piece : List ℕ
end_piece = codes "0"

abbrev pub clause_pieces : List Literal → List (List ℕ)
clause_pieces c = map literal_piece c ++ end_piece ∷ []

-- each byte is a blank
abbrev pub IsGap : List ℕ → Type 0
IsGap bytes = list_all is_blank bytes ≡ true

-- no byte is left, or a blank comes first
abbrev pub IsApart : List ℕ → Type 0
IsApart [] = Unit {0}
IsApart (b ∷ bs) = is_blank b ≡ true

-- a gap, the piece, and a rest apart from it, which has the property
pub record IsNext (piece : List ℕ) (IsRest : List ℕ → Type 0) (text : List ℕ) : Type 0 where
  pub gap : List ℕ
  pub blanks : IsGap gap
  pub rest : List ℕ
  pub split : text ≡ gap ++ piece ++ rest
  pub apart : IsApart rest
  pub goes_on : IsRest rest

-- the text is these pieces, with at least one blank between two of them, and with any number of
-- blanks before the first and after the last
abbrev pub AreSpaced : List (List ℕ) → List ℕ → Type 0
AreSpaced [] text = IsGap text
AreSpaced (piece ∷ pieces) text = IsNext piece (AreSpaced pieces) text

-- ---- the whole text

-- The bytes are a text of this formula.
pub record IsTextOf (f : FormulaView) (bytes : List ℕ) : Type 0 where
  -- comment lines, the header line, and a body
  pub comments : List (List ℕ)
  pub lines : AreInLines comments
  pub body : List ℕ
  pub text : bytes
      ≡ flat_map comment_line comments ++ header_text f.vars (length f.clauses) ++ body
  -- whose pieces are those of all clauses
  pub pieces : AreSpaced (flat_map clause_pieces f.clauses) body
  -- which are over the header's variables
  pub over : AreOver f.vars f.clauses
  -- and the header's numbers aren't too large
  pub few_vars : f.vars ≤ 2 ^ 31
  pub few_clauses : length f.clauses ≤ 2 ^ 32 - 1
