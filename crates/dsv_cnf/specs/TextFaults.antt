-- Why a text is of no formula, apart from how it is read: the byte at which it stops to begin
-- comment lines and a header, the first piece that no clause has, or another number of clauses.
use Rattle.std.specs.Prelude.{◌≡◌, ℕ, ◌-◌, ◌^◌, ◌<◌, ◌≤◌, ◌⊎◌, true, false, List, [], ◌∷◌}
use Rattle.std.specs.Prelude.{◌++◌, length, codes, decimal}
use Rattle.std.specs.List.{flat_map}
use Rattle.dsv_text.specs.Bytes.{is_blank}
use Rattle.dsv_cnf.specs.Dimacs.{header_text}
use Rattle.dsv_cnf.specs.Formula.{AreOver}
use Rattle.dsv_cnf.specs.Literal.{Literal}
use Rattle.dsv_cnf.specs.Texts.{AreInLines, comment_line, literal_piece, end_piece, clause_pieces}
use Rattle.dsv_cnf.specs.Texts.{IsApart, AreSpaced}
use Rattle.dsv_cnf.specs.declared.reader.CnfRefusal.{CnfRefusal}
use Rattle.dsv_cnf.specs.declared.reader.CnfRefusal.TheVariants as refusal

-- The text is comment lines and a header line with these numbers.
pub record IsHead (vars clauses : ℕ) (text : List ℕ) : Type 0 where
  pub comments : List (List ℕ)
  pub lines : AreInLines comments
  pub text_is : text ≡ flat_map comment_line comments ++ header_text vars clauses

-- ---- the header breaks off

-- The bytes and then this byte begin comment lines and a header line whose numbers are at most
-- these.
pub record GoesOn (most_vars most_clauses : ℕ) (front : List ℕ) (byte : ℕ) : Type 0 where
  pub more : List ℕ
  pub vars : ℕ
  pub clauses : ℕ
  pub head : IsHead vars clauses (front ++ byte ∷ more)
  pub few_vars : vars ≤ most_vars
  pub few_clauses : clauses ≤ most_clauses

-- the text ends, or with its next byte no header goes on, not even one whose numbers are too large
abbrev pub BreaksOff : List ℕ → List ℕ → Type 0
BreaksOff front [] = Unit {0}
BreaksOff front (b ∷ bs) = GoesOn (2 ^ 64 - 1) (2 ^ 64 - 1) front b → ⊥

-- The bytes before the offset begin comment lines and a header line, and there the text breaks off.
pub record IsBroken (bytes : List ℕ) (at : ℕ) : Type 0 where
  pub front : List ℕ
  pub next : ℕ
  pub begins : GoesOn (2 ^ 31) (2 ^ 32 - 1) front next
  pub rest : List ℕ
  pub breaks : BreaksOff front rest
  pub split : bytes ≡ front ++ rest
  pub place : at ≡ length front

-- ---- a number of the header is too large

-- what stands before the number of variables
pub record IsBeforeVars (front : List ℕ) : Type 0 where
  pub comments : List (List ℕ)
  pub lines : AreInLines comments
  pub text_is : front ≡ flat_map comment_line comments ++ codes "p cnf "

-- what stands before the number of clauses
pub record IsBeforeClauses (front : List ℕ) : Type 0 where
  pub comments : List (List ℕ)
  pub lines : AreInLines comments
  pub vars : ℕ
  pub few_vars : vars ≤ 2 ^ 31
  pub text_is : front
      ≡ flat_map comment_line comments ++ codes "p cnf " ++ decimal vars ++ codes " "

-- After such a text, from the offset on, a number over the limit stands, or digits that begin one.
pub record IsOverLimit (limit : ℕ) (IsBefore : List ℕ → Type 0) (bytes : List ℕ) (at : ℕ)
    : Type 0 where
  pub front : List ℕ
  pub before : IsBefore front
  pub number : ℕ
  pub over : limit < number
  pub small : number < 2 ^ 64
  pub rest : List ℕ
  pub split : bytes ≡ front ++ decimal number ++ rest
  pub place : at ≡ length front

-- the header breaks off at the offset, or its number there is too large
abbrev pub IsHeaderFault : List ℕ → ℕ → Type 0
IsHeaderFault bytes at = IsBroken bytes at ⊎ (IsOverLimit (2 ^ 31) IsBeforeVars bytes at
    ⊎ IsOverLimit (2 ^ 32 - 1) IsBeforeClauses bytes at)

-- ---- a piece that no clause has

-- a literal over so many variables, or the end of a clause
abbrev pub IsItem : ℕ → List ℕ → Type 0
IsItem vars piece = (piece ≡ end_piece)
    ⊎ ((l : Literal) × (piece ≡ literal_piece l) × (l.var < vars))

abbrev pub AreItems : ℕ → List (List ℕ) → Type 0
AreItems vars [] = Unit {0}
AreItems vars (piece ∷ pieces) = IsItem vars piece × AreItems vars pieces

abbrev pub HasNoBlank : List ℕ → Type 0
HasNoBlank [] = Unit {0}
HasNoBlank (b ∷ bs) = (is_blank b ≡ false) × HasNoBlank bs

-- there is a byte, and none is a blank
pub record IsPiece (piece : List ℕ) : Type 0 where
  pub some : 0 < length piece
  pub whole : HasNoBlank piece

-- there is no byte, or the last is a blank
abbrev pub EndsApart : List ℕ → Type 0
EndsApart [] = Unit {0}
EndsApart (b ∷ []) = is_blank b ≡ true
EndsApart (b ∷ c ∷ cs) = EndsApart (c ∷ cs)

-- All pieces of the body before the offset are literals and ends of clauses, and the piece there is
-- neither.
pub record IsLiteralFault (bytes : List ℕ) (at : ℕ) : Type 0 where
  -- the header
  pub vars : ℕ
  pub clauses : ℕ
  pub few_vars : vars ≤ 2 ^ 31
  pub few_clauses : clauses ≤ 2 ^ 32 - 1
  pub head : List ℕ
  pub is_head : IsHead vars clauses head
  -- the pieces before
  pub before : List ℕ
  pub items : List (List ℕ)
  pub pieces : AreSpaced items before
  pub are_items : AreItems vars items
  -- the piece, apart from what stands before and after it
  pub piece : List ℕ
  pub is_piece : IsPiece piece
  pub other : IsItem vars piece → ⊥
  pub after : List ℕ
  pub apart_before : EndsApart before
  pub apart_after : IsApart after
  pub text : bytes ≡ head ++ before ++ piece ++ after
  pub place : at ≡ length (head ++ before)

-- ---- another number of clauses

-- All pieces of the body are literals and ends of clauses, but not those of as many clauses as the
-- header says; the offset is that of the end.
pub record IsCountFault (bytes : List ℕ) (at : ℕ) : Type 0 where
  -- the header
  pub vars : ℕ
  pub clauses : ℕ
  pub few_vars : vars ≤ 2 ^ 31
  pub few_clauses : clauses ≤ 2 ^ 32 - 1
  pub head : List ℕ
  pub is_head : IsHead vars clauses head
  -- the pieces
  pub body : List ℕ
  pub items : List (List ℕ)
  pub pieces : AreSpaced items body
  pub are_items : AreItems vars items
  pub other : (cs : List (List Literal)) → length cs ≡ clauses → AreOver vars cs
      → items ≡ flat_map clause_pieces cs → ⊥
  pub text : bytes ≡ head ++ body
  pub place : at ≡ length bytes

-- ---- the first fault of a text
abbrev pub IsFaultOf : List ℕ → CnfRefusal → Type 0
IsFaultOf bytes (refusal.Header at) = IsHeaderFault bytes at
IsFaultOf bytes (refusal.Literal at) = IsLiteralFault bytes at
IsFaultOf bytes (refusal.Count at) = IsCountFault bytes at
IsFaultOf bytes refusal.NoMemory = ⊥

-- the text has this fault, or there was no memory
abbrev pub IsRefusalOf : List ℕ → CnfRefusal → Type 0
IsRefusalOf bytes why = (why ≡ refusal.NoMemory) ⊎ IsFaultOf bytes why
