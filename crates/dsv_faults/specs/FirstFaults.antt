-- The first fault of a controller's file, said of its whole text as `IsTextOf` says what a file
-- without faults is: up to some stage all is as it has to be, and there the text is at fault.
use Rattle.std.specs.Prelude.{◌≡◌, ◌↔◌, ℕ, List, length, true, Ok, Err}
use Rattle.dsv_names.specs.declared.want.Wanted.{Wanted}
use Rattle.dsv_token.specs.Pieces.{IsCut, StopsAt}
use Rattle.dsv_token.specs.Text.{utf8_test}
use Rattle.dsv_token.specs.declared.refusal.FileRefusal.{FileRefusal}
use Rattle.dsv_token.specs.declared.refusal.FileRefusal.TheVariants as refusal
use Rattle.dsv_token.specs.declared.token.Token.{Token}
use Rattle.dsv_syntax.specs.Beginnings.{IsUnexpectedAt}
use Rattle.dsv_syntax.specs.Grammar.{IsFile}
use Rattle.dsv_syntax.specs.Parsing.{syntax_of}
use Rattle.dsv_syntax.specs.declared.parsing.Syntax.{Syntax}
use Rattle.dsv_reader.specs.Values.{AreValuesOf}
use Rattle.dsv_reader.specs.Reading.{blocks_of, controller_from, reading}
use Rattle.dsv_faults.specs.Types.{Values, Blocks}
use Rattle.dsv_faults.specs.FieldFaults.{IsFieldFault}

-- the bytes are UTF-8, and without gaps they are these tokens
pub record AreTokensOf (bytes : List ℕ) (ts : List Token) : Type 0 where
  pub text : utf8_test bytes ≡ Ok tt
  pub cut : IsCut true 0 bytes ts

-- the tokens are no file's, and this is the first place where they can't go on
pub record IsUnexpected (bytes : List ℕ) (at : ℕ) (w : Wanted) : Type 0 where
  pub tokens : List Token
  pub are : AreTokensOf bytes tokens
  pub place : IsUnexpectedAt (length bytes) tokens at
  -- what is wanted there, as the reading token by token has it
  pub wanted : syntax_of (length bytes) tokens ≡ Err (refusal.Unexpected at w)

-- The refusal is the first fault of the bytes as a controller's file.
pub data IsFirstFault (bytes : List ℕ) : FileRefusal → Type 0 where
  -- from an offset on they aren't UTF-8
  text : (r : FileRefusal) → utf8_test bytes ≡ Err r → IsFirstFault bytes r
  -- they are, and the text is stuck at a piece that is neither a gap nor a token
  token : (at : ℕ) → utf8_test bytes ≡ Ok tt → StopsAt true 0 bytes at
      → IsFirstFault bytes (refusal.Token at)
  -- the text is tokens and gaps, and the tokens aren't a file's
  unexpected : (at : ℕ) (w : Wanted) → IsUnexpected bytes at w
      → IsFirstFault bytes (refusal.Unexpected at w)
  -- the tokens are a file's, and one of its fields is at fault
  fields : (ts : List Token) (s : Syntax) (r : FileRefusal) → AreTokensOf bytes ts → IsFile ts s
      → IsFieldFault bytes s.entries r → IsFirstFault bytes r
  -- each field that stands has its value, and a block lacks a field
  blocks : (ts : List Token) (s : Syntax) (v : Values) (r : FileRefusal) → AreTokensOf bytes ts
      → IsFile ts s → AreValuesOf bytes s.entries v → blocks_of s v ≡ Err r → IsFirstFault bytes r
  -- no block lacks one, and a size, the leading coefficient, a quotient or the width is at fault
  whole : (ts : List Token) (s : Syntax) (v : Values) (b : Blocks) (r : FileRefusal)
      → AreTokensOf bytes ts → IsFile ts s → AreValuesOf bytes s.entries v → blocks_of s v ≡ Ok b
      → controller_from b ≡ Err r → IsFirstFault bytes r

-- A controller's file is refused for its first fault, and for nothing else.
abbrev pub FirstFaultsAreRead : Type 0
FirstFaultsAreRead = (bytes : List ℕ) (r : FileRefusal)
    → (reading bytes ≡ Err r) ↔ IsFirstFault bytes r
