-- A refusal of two stages is one of the first, or one of the second after what the first gives.
use Rattle.std.proofs.Common.{◌≡◌, ◌⊎◌, inl, inr, refl}
use Rattle.std.specs.Prelude.{Result, Ok, Err}
use Rattle.dsv_token.specs.declared.refusal.FileRefusal.{FileRefusal}
use Rattle.dsv_text.specs.Stages.{◌>>=◌}

same_refusal : {A B : Type 0} (d r : FileRefusal) → ◌≡◌ {A = Result B FileRefusal} (Err d) (Err r) → ◌≡◌ {A = Result A FileRefusal} (Err d) (Err r)
same_refusal d r e = let f : d ≡ r = cc in cc

pub refused : {A B : Type 0} (x : Result A FileRefusal) (f : A → Result B FileRefusal) (r : FileRefusal) → (x >>= f) ≡ Err r →
    (x ≡ Err r) ⊎ ((a : A) × (x ≡ Ok a) × (f a ≡ Err r))
refused (Ok a) f r e = inr (a, refl, e)
refused {A} {B} (Err d) f r e = inl (same_refusal {A = A} {B = B} d r e)
