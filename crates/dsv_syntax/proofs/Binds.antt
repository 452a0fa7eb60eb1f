-- Steps that follow one another.
use Rattle.std.proofs.Common.{◌≡◌, refl}
use Rattle.std.specs.Prelude.{Result, Ok, Err}
use Rattle.dsv_token.specs.declared.refusal.FileRefusal.{FileRefusal}
use Rattle.dsv_text.specs.Stages.{◌>>=◌}

pub record Bound {A B : Type 0} (r : Result A FileRefusal) (f : A → Result B FileRefusal) (y : B) : Type 0 where
  pub value : A
  pub first : r ≡ Ok value
  pub second : f value ≡ Ok y

-- what came from two steps came from both
pub unbind : {A B : Type 0} (r : Result A FileRefusal) (f : A → Result B FileRefusal) (y : B) → (r >>= f) ≡ Ok y → Bound r f y
unbind (Ok x) f y e = record { value = x; first = refl; second = e }
unbind (Err d) f y e = absurd (cc)
