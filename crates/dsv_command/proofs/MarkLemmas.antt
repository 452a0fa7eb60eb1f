-- Shapes of arguments, as they are read.
use Rattle.std.proofs.Common.{◌≡◌, ◌≢◌, ◌<◌, ◌==◌, ◌+◌, suc, ℕ, Bool, true, false, not, ◌||◌, cond, List, [], ◌∷◌, length, None, refl, ap, arith}
use Rattle.std.specs.List.{list_any, position_or_len}
use Rattle.std.proofs.lemmas.Bool.Decides.{nat_tests}
use Rattle.dsv_command.specs.Shapes.{plain, long, dashed, dash, is_dash, is_equals, shape_of, shape_after_dash, shape_after_dashes}

none_step : (bs : List ℕ) (x : Bool) → (position_or_len is_equals bs ≡ length bs → list_any is_equals bs ≡ false) → cond (not x) (1 + position_or_len is_equals bs) 0 ≡ suc (length bs) → (x || list_any is_equals bs) ≡ false
none_step bs true ih h = absurd (omega arith)
none_step bs false ih h = ih (omega arith)

none_equals : (bs : List ℕ) → position_or_len is_equals bs ≡ length bs → list_any is_equals bs ≡ false
none_equals [] h = refl
none_equals (b ∷ bs) h = none_step bs (is_equals b) (none_equals bs) h

some_step : (bs : List ℕ) (x : Bool) → (position_or_len is_equals bs < length bs → list_any is_equals bs ≡ true) → cond (not x) (1 + position_or_len is_equals bs) 0 < suc (length bs) → (x || list_any is_equals bs) ≡ true
some_step bs true ih h = refl
some_step bs false ih h = ih (omega arith)

pub long_alone : (bs : List ℕ) → (length bs == 0) ≡ false → position_or_len is_equals bs ≡ length bs → long bs None ≡ shape_after_dashes bs
long_alone [] e h = absurd (cc)
long_alone (b ∷ bs) e h = rw (none_equals (b ∷ bs) h) refl

not_dash : (b : ℕ) (bs : List ℕ) (x : Bool) → is_dash b ≡ x → ((rest : List ℕ) → b ∷ bs ≢ dash ∷ rest) → is_dash b ≡ false
not_dash b bs true e h = absurd (h bs (ap (λ n. n ∷ bs) (grind (arith, nat_tests))))
not_dash b bs false e h = e

pub dashed_alone : (bs : List ℕ) → (length bs == 0) ≡ false → ((rest : List ℕ) → bs ≢ dash ∷ rest) → dashed ≡ shape_after_dash bs
dashed_alone [] e h = absurd (cc)
dashed_alone (b ∷ bs) e h = rw (not_dash b bs (is_dash b) refl h) refl

pub plain_alone : (bs : List ℕ) → ((rest : List ℕ) → bs ≢ dash ∷ rest) → plain ≡ shape_of bs
plain_alone [] h = refl
plain_alone (b ∷ bs) h = rw (not_dash b bs (is_dash b) refl h) refl
