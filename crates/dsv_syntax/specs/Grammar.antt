-- The grammar of the files of controllers and plants, on whole lists of tokens:
--
-- file           = any order of: system, implementation, at most one hardware
-- system         = "digital_system" name "=" fields ";"
-- implementation = "implementation" name "=" fields ";"
-- hardware       = "hardware" name "=" fields ";"
-- plant          = system
-- fields         = "{" [ field { "," field } [ "," ] ] "}"
-- field          = "." fieldname "=" value
-- list           = "{" [ number { "," number } [ "," ] ] "}"
--
-- A value is a list, a number, or, of a field that is passed over, a number, a name or tokens in
-- balanced braces. Each type below says of a list of tokens that a part of the file stands at its
-- front, and which tokens are left after it.
use Rattle.std.specs.Prelude.{◌≡◌, ℕ, true, false, List, [], ◌∷◌, ◌++◌, Some}
use Rattle.dsv_names.specs.declared.block.Block.{Block}
use Rattle.dsv_names.specs.declared.block.Block.TheVariants.{System}
use Rattle.dsv_token.specs.declared.token.Word.{Word}
use Rattle.dsv_token.specs.declared.token.Word.TheVariants as word
use Rattle.dsv_token.specs.declared.token.TokenKind.TheVariants as kind
use Rattle.dsv_token.specs.declared.token.Token.{Token}
use Rattle.dsv_syntax.specs.declared.entry.Label.{Label}
use Rattle.dsv_syntax.specs.declared.entry.Label.TheVariants as label
use Rattle.dsv_syntax.specs.declared.entry.Entry.{Entry}
use Rattle.dsv_syntax.specs.declared.parser.Closed.{Closed}
use Rattle.dsv_syntax.specs.declared.parsing.Syntax.{Syntax}
use Rattle.dsv_syntax.specs.Parsing.{label_of, is_list, is_alone, is_mark}
use Rattle.dsv_syntax.specs.Parsing.{is_closed, with_close, none_closed}

-- the numbers of a list, from after its opening brace to its closing one
pub data Numbers : List Token → List Token → List Token → Type 0 where
  none : (c : Token) (rest : List Token) → c.kind ≡ kind.Close → Numbers (c ∷ rest) [] rest
  last : (n c : Token) (rest : List Token) → n.kind ≡ kind.Number → c.kind ≡ kind.Close
      → Numbers (n ∷ c ∷ rest) (n ∷ []) rest
  more : (n c : Token) (ts ns rest : List Token) → n.kind ≡ kind.Number → c.kind ≡ kind.Comma
      → Numbers ts ns rest → Numbers (n ∷ c ∷ ts) (n ∷ ns) rest

-- tokens with balanced braces, from after the opening brace to the closing one, and the numbers
-- among them
pub data Group : List Token → List Token → List Token → Type 0 where
  close : (c : Token) (rest : List Token) → c.kind ≡ kind.Close → Group (c ∷ rest) [] rest
  number : (n : Token) (ts ns rest : List Token) → n.kind ≡ kind.Number → Group ts ns rest
      → Group (n ∷ ts) (n ∷ ns) rest
  mark : (t : Token) (ts ns rest : List Token) → is_mark t.kind ≡ true → Group ts ns rest
      → Group (t ∷ ts) ns rest
  nested : (o : Token) (ts ms middle ns rest : List Token) → o.kind ≡ kind.Open → Group ts ms middle
      → Group middle ns rest → Group (o ∷ ts) (ms ++ ns) rest

-- the value of a field, the place where it begins, and its numbers
pub data Value : Label → List Token → ℕ → List Token → List Token → Type 0 where
  list : (l : Label) (o : Token) (ts ns rest : List Token) → is_list l ≡ true → o.kind ≡ kind.Open
      → Numbers ts ns rest → Value l (o ∷ ts) o.at ns rest
  alone : (l : Label) (n : Token) (rest : List Token) → is_alone l ≡ true → n.kind ≡ kind.Number
      → Value l (n ∷ rest) n.at (n ∷ []) rest
  passed_number : (n : Token) (rest : List Token) → n.kind ≡ kind.Number
      → Value label.Passed (n ∷ rest) n.at (n ∷ []) rest
  passed_name : (w : Word) (n : Token) (rest : List Token) → n.kind ≡ kind.Name w
      → Value label.Passed (n ∷ rest) n.at [] rest
  passed_group : (o : Token) (ts ns rest : List Token) → o.kind ≡ kind.Open → Group ts ns rest
      → Value label.Passed (o ∷ ts) o.at ns rest

-- a field of a block
pub data IsField : Block → List Token → Entry → List Token → Type 0 where
  field : (b : Block) (l : Label) (d n e : Token) (place : ℕ) (ts ns rest : List Token) →
      d.kind ≡ kind.Dot → label_of b n.kind ≡ Some l → e.kind ≡ kind.Equals
      → Value l ts place ns rest →
      IsField b (d ∷ n ∷ e ∷ ts) (record { label = l; dot = d.at; place = place; numbers = ns })
      rest

-- the fields of a block, from after its opening brace, and the place of its closing one
pub data Fields : Block → List Token → List Entry → ℕ → List Token → Type 0 where
  none : (b : Block) (c : Token) (rest : List Token) → c.kind ≡ kind.Close
      → Fields b (c ∷ rest) [] c.at rest
  last : (b : Block) (ts : List Token) (f : Entry) (c : Token) (rest : List Token)
      → IsField b ts f (c ∷ rest) → c.kind ≡ kind.Close → Fields b ts (f ∷ []) c.at rest
  more : (b : Block) (ts us : List Token) (f : Entry) (fs : List Entry) (c : Token) (place : ℕ)
      (rest : List Token) →
      IsField b ts f (c ∷ us) → c.kind ≡ kind.Comma → Fields b us fs place rest
      → Fields b ts (f ∷ fs) place rest

-- a block, and the place of its closing brace
pub data IsBlock : Block → List Token → List Entry → ℕ → List Token → Type 0 where
  block : (b : Block) (w : Word) (k n e o s : Token) (ts rest : List Token) (fs : List Entry)
      (place : ℕ) →
      k.kind ≡ kind.Name (word.Block b) → n.kind ≡ kind.Name w → e.kind ≡ kind.Equals
      → o.kind ≡ kind.Open →
      Fields b ts fs place (s ∷ rest) → s.kind ≡ kind.Semicolon
      → IsBlock b (k ∷ n ∷ e ∷ o ∷ ts) fs place rest

-- blocks, none of them twice, after some that stood before, to the file's end; the fields of all,
-- and where each block is closed
pub data Blocks : Closed → List Token → List Entry → Closed → Type 0 where
  done : (c : Closed) → Blocks c [] [] c
  more : (b : Block) (c d : Closed) (ts rest : List Token) (fs gs : List Entry) (place : ℕ) →
      is_closed b c ≡ false → IsBlock b ts fs place rest → Blocks (with_close b place c) rest gs d
      → Blocks c ts (fs ++ gs) d

-- a whole file
pub record IsFile (ts : List Token) (s : Syntax) : Type 0 where
  pub closed : Closed
  pub blocks : Blocks none_closed ts s.entries closed
  pub system : closed.system ≡ Some s.system
  pub implementation : closed.implementation ≡ Some s.implementation

-- the whole file of a plant, which ends at the offset `end`: one block and nothing after it
pub record IsPlantFile (end : ℕ) (ts : List Token) (s : Syntax) : Type 0 where
  pub only : IsBlock System ts s.entries s.system []
  pub place : s.implementation ≡ end
