-- The names that the grammar knows.
use Rattle.std.specs.Prelude.{ℕ, List, Option, Some, None}
use Rattle.dsv_names.specs.Names.{value_named}
use Rattle.dsv_names.specs.Blocks.{block_name, blocks}
use Rattle.dsv_names.specs.Fields.{field_name, fields}
use Rattle.dsv_names.specs.Settings.{setting_name, settings}
use Rattle.dsv_names.specs.declared.block.Block.{Block}
use Rattle.dsv_names.specs.declared.field.Field.{Field}
use Rattle.dsv_names.specs.declared.setting.Setting.{Setting}
use Rattle.dsv_token.specs.declared.token.Word.{Word}
use Rattle.dsv_token.specs.declared.token.Word.TheVariants as word

-- the word of the first of these that is one
abbrev pub first_word : Option Block → Option Field → Option Setting → Word
first_word (Some b) f s = word.Block b
first_word None (Some f) s = word.Field f
first_word None None (Some s) = word.Setting s
first_word None None None = word.Other

abbrev pub word_of : List ℕ → Word
word_of name = first_word (value_named block_name blocks name) (value_named field_name fields name)
    (value_named setting_name settings name)
