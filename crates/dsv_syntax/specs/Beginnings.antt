-- Where a file's tokens can't go on, said by the grammar alone.
use Rattle.std.specs.Prelude.{◌≡◌, ℕ, List, [], ◌∷◌, ◌++◌}
use Rattle.dsv_token.specs.declared.token.Token.{Token}
use Rattle.dsv_syntax.specs.declared.parsing.Syntax.{Syntax}
use Rattle.dsv_syntax.specs.Grammar.{IsFile}

-- some file begins with these tokens
pub record Begins (ts : List Token) : Type 0 where
  pub others : List Token
  pub syntax : Syntax
  pub file : IsFile (ts ++ others) syntax

-- the tokens before the one at this place begin a file, and those through it begin none
pub record StopsAt (ts : List Token) (at : ℕ) : Type 0 where
  pub before : List Token
  pub token : Token
  pub after : List Token
  pub whole : ts ≡ before ++ token ∷ after
  pub place : token.at ≡ at
  pub begins : Begins before
  pub none : Begins (before ++ token ∷ []) → ⊥

-- the tokens begin a file and are none, and this is where they end
pub record EndsEarly (end : ℕ) (ts : List Token) (at : ℕ) : Type 0 where
  pub place : end ≡ at
  pub begins : Begins ts
  pub no_file : (s : Syntax) → IsFile ts s → ⊥

-- the first place where tokens that end at the offset `end` are no file any more
pub data IsUnexpectedAt : ℕ → List Token → ℕ → Type 0 where
  token : (end : ℕ) (ts : List Token) (at : ℕ) → StopsAt ts at → IsUnexpectedAt end ts at
  early : (end : ℕ) (ts : List Token) (at : ℕ) → EndsEarly end ts at → IsUnexpectedAt end ts at
