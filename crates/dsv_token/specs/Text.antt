-- When bytes are text.
use Rattle.std.specs.Prelude.{◌==◌, if◌then◌else◌, ℕ, List, length, Result, Ok, Err}
use Rattle.std.specs.Str.Lossy.{utf8_valid_len}
use Rattle.dsv_token.specs.declared.refusal.FileRefusal.{FileRefusal}
use Rattle.dsv_token.specs.declared.refusal.FileRefusal.TheVariants as refusal

-- that the bytes are UTF-8, or else the offset where their longest prefix that is ends
abbrev pub utf8_test : List ℕ → Result (Unit {0}) FileRefusal
utf8_test bytes = if utf8_valid_len bytes == length bytes then Ok tt
    else Err (refusal.Utf8 (utf8_valid_len bytes))
