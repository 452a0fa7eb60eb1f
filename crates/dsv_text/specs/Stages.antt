-- Stages that may refuse, one after another: the first refusal is the answer.
use Rattle.std.specs.Prelude.{Result, Ok, Err}

-- the first stage, and after what it gives the second
abbrev pub and_then : {A B E : Type 0} → Result A E → (A → Result B E) → Result B E
and_then (Ok x) f = f x
and_then (Err e) f = Err e

infixl 10 ◌>>=◌
abbrev pub ◌>>=◌ : {A B E : Type 0} → Result A E → (A → Result B E) → Result B E
(Ok x) >>= f = f x
(Err e) >>= f = Err e
