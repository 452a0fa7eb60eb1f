-- Where the tokens of a plant's file can't go on, said by the grammar alone.
use Rattle.std.specs.Prelude.{◌≡◌, ℕ, List, [], ◌∷◌, ◌++◌}
use Rattle.dsv_token.specs.declared.token.Token.{Token}
use Rattle.dsv_syntax.specs.declared.parsing.Syntax.{Syntax}
use Rattle.dsv_syntax.specs.Grammar.{IsPlantFile}

-- some plant's file, wherever it ends, begins with these tokens
pub record PlantBegins (ts : List Token) : Type 0 where
  pub others : List Token
  pub end : ℕ
  pub syntax : Syntax
  pub file : IsPlantFile end (ts ++ others) syntax

-- the tokens before the one at this place begin a plant's file, and those through it begin none
pub record PlantStopsAt (ts : List Token) (at : ℕ) : Type 0 where
  pub before : List Token
  pub token : Token
  pub after : List Token
  pub whole : ts ≡ before ++ token ∷ after
  pub place : token.at ≡ at
  pub begins : PlantBegins before
  pub none : PlantBegins (before ++ token ∷ []) → ⊥

-- the tokens begin a plant's file and are none, and this is where they end
pub record PlantEndsEarly (end : ℕ) (ts : List Token) (at : ℕ) : Type 0 where
  pub place : end ≡ at
  pub begins : PlantBegins ts
  pub no_file : (s : Syntax) → IsPlantFile end ts s → ⊥

-- the first place where tokens that end at the offset `end` are no plant's file any more
pub data IsPlantUnexpectedAt (end : ℕ) (ts : List Token) (at : ℕ) : Type 0 where
  token : PlantStopsAt ts at → IsPlantUnexpectedAt end ts at
  early : PlantEndsEarly end ts at → IsPlantUnexpectedAt end ts at
