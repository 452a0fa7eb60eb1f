-- What the file of a controller or of a plant is, apart from how it is read: a text, cut into gaps
-- and tokens, whose tokens are in the grammar; where no field that is read stands twice, with the
-- values of these fields.
use Rattle.std.specs.Prelude.{◌≡◌, ℕ, List, length, true, Ok, Err}
use Rattle.dsv_token.specs.Pieces.{IsCut}
use Rattle.dsv_token.specs.Text.{utf8_test}
use Rattle.dsv_token.specs.declared.refusal.FileRefusal.{FileRefusal}
use Rattle.dsv_token.specs.declared.token.Token.{Token}
use Rattle.dsv_syntax.specs.Grammar.{IsFile, IsPlantFile}
use Rattle.dsv_syntax.specs.declared.parsing.Syntax.{Syntax}
use Rattle.dsv_reader.specs.declared.fields.Values.{Values}
use Rattle.dsv_reader.specs.declared.blocks.System.{System}
use Rattle.dsv_reader.specs.declared.blocks.Blocks.{Blocks}
use Rattle.dsv_reader.specs.Controllers.{ControllerView}
use Rattle.dsv_reader.specs.Plants.{PlantView}
use Rattle.dsv_reader.specs.Values.{AreValuesOf}
use Rattle.dsv_reader.specs.Reading.{blocks_of, controller_from, reading}
use Rattle.dsv_reader.specs.Reading.{system_of, plant_from}

-- The bytes are the text of this controller.
pub record IsTextOf (bytes : List ℕ) (c : ControllerView) : Type 0 where
  -- they are UTF-8
  pub text : utf8_test bytes ≡ Ok tt
  -- without gaps they are these tokens
  pub tokens : List Token
  pub cut : IsCut true 0 bytes tokens
  -- which are these fields in their blocks
  pub syntax : Syntax
  pub grammar : IsFile tokens syntax
  -- of which those that are read stand at most once, and have these values
  pub values : Values
  pub table : AreValuesOf bytes syntax.entries values
  -- with those that a file has to have
  pub blocks : Blocks
  pub whole : blocks_of syntax values ≡ Ok blocks
  -- of which the controller is made
  pub made : controller_from blocks ≡ Ok c

-- The refusal is the first fault of the bytes.
abbrev pub IsFaultOf : List ℕ → FileRefusal → Type 0
IsFaultOf bytes r = reading bytes ≡ Err r

-- The bytes are the text of this plant.
pub record IsPlantText (bytes : List ℕ) (p : PlantView) : Type 0 where
  -- they are UTF-8
  pub text : utf8_test bytes ≡ Ok tt
  -- without gaps they are these tokens
  pub tokens : List Token
  pub cut : IsCut true 0 bytes tokens
  -- which are these fields in the one block that a plant has
  pub syntax : Syntax
  pub grammar : IsPlantFile (length bytes) tokens syntax
  -- of which those that are read stand at most once, and have these values
  pub values : Values
  pub table : AreValuesOf bytes syntax.entries values
  -- with those that a plant has to have
  pub system : System
  pub whole : system_of syntax.system values.system ≡ Ok system
  -- of which the plant is made
  pub made : plant_from system ≡ Ok p
