-- Formats with the same widths and modes are the same.
use Rattle.std.proofs.Common.{◌≡◌, ℕ, subst, ap}
use Rattle.std.proofs.Math.Bridge.{le_prop}
use Rattle.dsv_names.specs.declared.overflow_mode.OverflowMode.{OverflowMode}
use Rattle.dsv_names.specs.declared.rounding.Rounding.{Rounding}
use Rattle.dsv_word.specs.Width.{IsLawful}
use Rattle.dsv_word.specs.declared.format.Format.{Format}

abbrev made : (int_bits frac_bits : ℕ) (rounding : Rounding) (overflow : OverflowMode) → IsLawful int_bits frac_bits → Format
made i f r o lawful = record { int_bits = i; frac_bits = f; rounding = r; overflow = o; lawful = lawful }

made_again : (i f : ℕ) (r : Rounding) (o : OverflowMode) (l m : IsLawful i f) → made i f r o l ≡ made i f r o m
made_again i f r o l m = let p : IsProp (IsLawful i f) = hlevel le_prop in ap (made i f r o) (p l m)

made_once : (i j f g : ℕ) (r s : Rounding) (o p : OverflowMode) → i ≡ j → f ≡ g → r ≡ s → o ≡ p → (l : IsLawful i f) (m : IsLawful j g)
    → made i f r o l ≡ made j g s p m
made_once i j f g r s o p ei ef er eo l =
    subst (λ p. (m : IsLawful j g) → made i f r o l ≡ made j g s p m) eo
    (subst (λ s. (m : IsLawful j g) → made i f r o l ≡ made j g s o m) er
    (subst (λ g. (m : IsLawful j g) → made i f r o l ≡ made j g r o m) ef
    (subst (λ j. (m : IsLawful j f) → made i f r o l ≡ made j f r o m) ei
    (made_again i f r o l))))

pub one_format : (x y : Format) → x.int_bits ≡ y.int_bits → x.frac_bits ≡ y.frac_bits → x.rounding ≡ y.rounding → x.overflow ≡ y.overflow → x ≡ y
one_format x y i f r o =
    made_once x.int_bits y.int_bits x.frac_bits y.frac_bits x.rounding y.rounding x.overflow y.overflow i f r o x.lawful y.lawful
