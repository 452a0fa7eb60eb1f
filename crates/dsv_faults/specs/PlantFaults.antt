-- The first fault of a plant's file, said of its whole text as `IsPlantText` says what a plant's
-- file without faults is.
use Rattle.std.specs.Prelude.{◌≡◌, ◌↔◌, ℕ, List, length, true, Ok, Err}
use Rattle.dsv_names.specs.declared.want.Wanted.{Wanted}
use Rattle.dsv_token.specs.Pieces.{StopsAt}
use Rattle.dsv_token.specs.Text.{utf8_test}
use Rattle.dsv_token.specs.declared.refusal.FileRefusal.{FileRefusal}
use Rattle.dsv_token.specs.declared.refusal.FileRefusal.TheVariants as refusal
use Rattle.dsv_token.specs.declared.token.Token.{Token}
use Rattle.dsv_syntax.specs.Grammar.{IsPlantFile}
use Rattle.dsv_syntax.specs.Parsing.{plant_syntax_of}
use Rattle.dsv_syntax.specs.declared.parsing.Syntax.{Syntax}
use Rattle.dsv_reader.specs.Values.{AreValuesOf}
use Rattle.dsv_reader.specs.Reading.{system_of, plant_from, plant_reading}
use Rattle.dsv_faults.specs.Types.{Values, System}
use Rattle.dsv_faults.specs.FieldFaults.{IsFieldFault}
use Rattle.dsv_faults.specs.FirstFaults.{AreTokensOf}
use Rattle.dsv_faults.specs.PlantBeginnings.{IsPlantUnexpectedAt}

-- the tokens are no plant's file, and this is the first place where they can't go on
pub record IsPlantUnexpected (bytes : List ℕ) (at : ℕ) (w : Wanted) : Type 0 where
  pub tokens : List Token
  pub are : AreTokensOf bytes tokens
  pub place : IsPlantUnexpectedAt (length bytes) tokens at
  -- what is wanted there, as the reading token by token has it
  pub wanted : plant_syntax_of (length bytes) tokens ≡ Err (refusal.Unexpected at w)

-- The refusal is the first fault of the bytes as a plant's file.
pub data IsPlantFault (bytes : List ℕ) : FileRefusal → Type 0 where
  -- from an offset on they aren't UTF-8
  text : (r : FileRefusal) → utf8_test bytes ≡ Err r → IsPlantFault bytes r
  -- they are, and the text is stuck at a piece that is neither a gap nor a token
  token : (at : ℕ) → utf8_test bytes ≡ Ok tt → StopsAt true 0 bytes at
      → IsPlantFault bytes (refusal.Token at)
  -- the text is tokens and gaps, and the tokens aren't a plant's file
  unexpected : (at : ℕ) (w : Wanted) → IsPlantUnexpected bytes at w
      → IsPlantFault bytes (refusal.Unexpected at w)
  -- the tokens are a plant's file, and one of its fields is at fault
  fields : (ts : List Token) (s : Syntax) (r : FileRefusal) → AreTokensOf bytes ts
      → IsPlantFile (length bytes) ts s → IsFieldFault bytes s.entries r → IsPlantFault bytes r
  -- each field that stands has its value, and the block lacks a field
  block : (ts : List Token) (s : Syntax) (v : Values) (r : FileRefusal) → AreTokensOf bytes ts
      → IsPlantFile (length bytes) ts s → AreValuesOf bytes s.entries v
      → system_of s.system v.system ≡ Err r → IsPlantFault bytes r
  -- it lacks none, and a size or the leading coefficient is at fault
  whole : (ts : List Token) (s : Syntax) (v : Values) (b : System) (r : FileRefusal)
      → AreTokensOf bytes ts → IsPlantFile (length bytes) ts s → AreValuesOf bytes s.entries v
      → system_of s.system v.system ≡ Ok b → plant_from b ≡ Err r → IsPlantFault bytes r

-- A plant's file is refused for its first fault, and for nothing else.
abbrev pub FirstPlantFaultsAreRead : Type 0
FirstPlantFaultsAreRead = (bytes : List ℕ) (r : FileRefusal)
    → (plant_reading bytes ≡ Err r) ↔ IsPlantFault bytes r
