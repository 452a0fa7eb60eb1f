-- Bytes that are text.
use Rattle.std.proofs.Common.{◌≡◌, ℕ, ◌==◌, true, List, length, refl}
use Rattle.std.specs.Prelude.{Ok}
use Rattle.std.specs.Str.{IsUtf8}
use Rattle.std.specs.Str.Lossy.{utf8_valid_len}
use Rattle.std.proofs.lemmas.Str.{utf8_valid_len-IsUtf8}
use Rattle.std.proofs.lemmas.Bool.{eq-eqb}
use Rattle.dsv_token.specs.Text.{utf8_test}

-- bytes that are UTF-8 pass
pub text_ok : (bytes : List ℕ) → IsUtf8 bytes → Ok tt ≡ utf8_test bytes
text_ok bytes h =
    let e : (utf8_valid_len bytes == length bytes) ≡ true = eq-eqb (utf8_valid_len bytes) (length bytes) (utf8_valid_len-IsUtf8 bytes h) in
    rw (e, utf8_test) refl
