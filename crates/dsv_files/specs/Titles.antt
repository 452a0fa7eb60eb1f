-- The name of a controller in its file: NAME in `digital_system NAME = { .. };`.
use Rattle.std.specs.Prelude.{ℕ, suc, ◌-◌, ◌==◌, ◌&&◌, Bool, true, false, if◌then◌else◌}
use Rattle.std.specs.Prelude.{List, [], ◌∷◌, take, drop, Option, Some, None, Result, Ok, Err}
use Rattle.dsv_names.specs.declared.block.Block.TheVariants.{System}
use Rattle.dsv_token.specs.Lexing.{tokens_of}
use Rattle.dsv_token.specs.declared.refusal.FileRefusal.{FileRefusal}
use Rattle.dsv_token.specs.declared.token.Token.{Token}
use Rattle.dsv_token.specs.declared.token.TokenKind.{TokenKind}
use Rattle.dsv_token.specs.declared.token.TokenKind.TheVariants as kind
use Rattle.dsv_token.specs.declared.token.Word.TheVariants as word
use Rattle.dsv_files.specs.Files.{FileKind, a_controller}

abbrev pub is_system_word : TokenKind → Bool
is_system_word (kind.Name (word.Block System)) = true
is_system_word other = false

abbrev pub is_name : TokenKind → Bool
is_name (kind.Name w) = true
is_name other = false

-- the word `digital_system` outside of braces, of which so many are open
abbrev pub is_system : ℕ → TokenKind → Bool
is_system depth k = depth == 0 && is_system_word k

-- a name, if it stands after that word
abbrev pub is_title : Bool → TokenKind → Bool
is_title named k = named && is_name k

-- how many braces are open after a token, if so many are before it
abbrev pub depth_after : ℕ → TokenKind → ℕ
depth_after depth kind.Open = suc depth
depth_after depth kind.Close = depth - 1
depth_after depth other = depth

-- The first name that stands after `digital_system` outside of braces: so many are open before
-- these tokens, and that word is before them or not.
abbrev pub title_token : ℕ → Bool → List Token → Option Token
title_token depth named [] = None
title_token depth named (t ∷ ts) = if is_title named t.kind then Some t
    else title_token (depth_after depth t.kind) (is_system depth t.kind) ts

abbrev pub token_bytes : List ℕ → Option Token → List ℕ
token_bytes bytes None = []
token_bytes bytes (Some t) = take t.len (drop t.at bytes)

abbrev pub title_among : List ℕ → Result (List Token) FileRefusal → List ℕ
title_among bytes (Ok tokens) = token_bytes bytes (title_token 0 false tokens)
title_among bytes (Err r) = []

-- the bytes of the name
abbrev pub title_in : List ℕ → List ℕ
title_in bytes = title_among bytes (tokens_of bytes)

-- files of other kinds have none
abbrev pub title_for : FileKind → List ℕ → List ℕ
title_for a_controller bytes = title_in bytes
title_for kind bytes = []
