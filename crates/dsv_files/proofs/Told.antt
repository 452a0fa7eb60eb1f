-- What holds of the bytes that came of a file, told or not.
use Rattle.std.proofs.Common.{ℕ, ◌+◌, ◌<◌, List, length, replicate, refl, arith}
use Rattle.std.proofs.lemmas.List.{length-replicate}
use Rattle.std.specs.Prelude.{Option, Some, None, IfSome}
use Rattle.dsv_base.specs.Seen.{CameOf}

-- what follows of the bytes that came
pub along : {P Q : List ℕ → Type 0} (told : Option (List ℕ)) → ((bytes : List ℕ) → P bytes → Q bytes) → CameOf told P → CameOf told Q
along told f h = (h.0, h.1, f h.0 h.2)

longer : (n : ℕ) → n < length {A = ℕ} (replicate (n + 1) 0)
longer n = omega (arith, length-replicate {A = ℕ} (n + 1) 0)

-- more bytes came than a limit
pub more_came : (limit : ℕ) (told : Option (List ℕ)) → IfSome told (λ bytes. limit < length bytes) → CameOf told (λ bytes. limit < length bytes)
more_came limit None h = (replicate (limit + 1) 0, tt, longer limit)
more_came limit (Some file) h = (file, refl, h)
