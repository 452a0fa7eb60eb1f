-- Answers that may be want of memory in place of what is meant.
use Rattle.std.specs.Prelude.{◌≡◌, Result, Ok, Err}
use Rattle.dsv_token.specs.declared.refusal.FileRefusal.{FileRefusal}
use Rattle.dsv_token.specs.declared.refusal.FileRefusal.TheVariants as refusal

-- the refusal is the one that is meant, or there was no memory
abbrev pub Refuses : {X : Type 0} → FileRefusal → Result X FileRefusal → Type 0
Refuses refusal.NoMemory meant = Unit {0}
Refuses r meant = meant ≡ Err r

-- the result, seen by the view, is what is meant, or there was no memory
abbrev pub Gives : {X Y : Type 0} → (X → Y) → Result X FileRefusal → Result Y FileRefusal → Type 0
Gives view (Ok x) meant = meant ≡ Ok (view x)
Gives view (Err r) meant = Refuses r meant
