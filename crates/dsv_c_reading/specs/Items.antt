-- A text of C in pieces: what stands before a pair of braces, and the lines between them, each of
-- which ends with a semicolon.
use Rattle.std.specs.Prelude.{ℕ, ◌==◌, if◌then◌else◌, List, [], ◌∷◌, ◌++◌, Option, Some, None}
use Rattle.std.specs.Option.{option_and_then}
use Rattle.std.specs.Str.{byte}
use Rattle.dsv_c_reading.specs.Lexemes.{Lexeme, Word, Digits, Mark, Points, Line}
use Rattle.dsv_c_reading.specs.Machines.{Gone, gone, steps}

pub record Item : Type 0 where
  pub head : List Lexeme
  pub lines : List (List Lexeme)

pub data Place : Type 0 where
  -- before a brace, after these tokens
  before : List Lexeme → Place
  -- between braces: what stood before them, the lines so far, and the tokens of the next one
  between : List Lexeme → List (List Lexeme) → List Lexeme → Place

abbrev pub goes : Place → Option (Gone Place Item)
goes place = Some (gone [] place)

-- a brace can't close in a line
abbrev pub closed : List Lexeme → List (List Lexeme) → List Lexeme → Option (Gone Place Item)
closed head lines [] = Some (gone (record { head = head; lines = lines } ∷ []) (before []))
closed head lines (l ∷ ls) = None

abbrev pub mark_before : List Lexeme → ℕ → Option (Gone Place Item)
mark_before head m = if m == byte "{" then goes (between head [] []) else
    if m == byte "}" then None else goes (before (head ++ Mark m ∷ []))

abbrev pub mark_between : List Lexeme → List (List Lexeme) → List Lexeme → ℕ
    → Option (Gone Place Item)
mark_between head lines line m =
    if m == byte ";" then goes (between head (lines ++ line ∷ []) []) else
    if m == byte "}" then closed head lines line else
    if m == byte "{" then None else goes (between head lines (line ++ Mark m ∷ []))

abbrev pub item_next : Place → Lexeme → Option (Gone Place Item)
item_next (before head) (Word w) = goes (before (head ++ Word w ∷ []))
item_next (before head) (Digits n) = goes (before (head ++ Digits n ∷ []))
item_next (before head) (Mark m) = mark_before head m
item_next (before head) Points = goes (before (head ++ Points ∷ []))
item_next (before head) (Line l) = None
item_next (between head lines line) (Word w) = goes (between head lines (line ++ Word w ∷ []))
item_next (between head lines line) (Digits n) = goes (between head lines (line ++ Digits n ∷ []))
item_next (between head lines line) (Mark m) = mark_between head lines line m
item_next (between head lines line) Points = goes (between head lines (line ++ Points ∷ []))
item_next (between head lines line) (Line l) = None

-- nothing stands after the last brace
abbrev pub ended : List Item → List Lexeme → Option (List Item)
ended items [] = Some items
ended items (l ∷ ls) = None

abbrev pub whole_items : Gone Place Item → Option (List Item)
whole_items g = elim g.state [
  | before head ↦ ended g.out head
  | between head lines line ↦ None
]

abbrev pub items_of : List Lexeme → Option (List Item)
items_of ls = option_and_then whole_items (steps item_next (before []) ls)
