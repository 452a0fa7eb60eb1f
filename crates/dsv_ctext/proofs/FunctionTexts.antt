-- The texts of helper functions, as their writers see them.
use Rattle.std.proofs.Common.{◌≡◌, ℕ, List, [], ◌∷◌, ◌++◌, refl, sym, ap, ◌∙◌}
use Rattle.std.proofs.lemmas.List.{append-nil}
use Rattle.dsv_word.specs.declared.format.Format.{Format}
use Rattle.dsv_word.specs.Words.{width, lo, hi}
use Rattle.dsv_names.specs.declared.overflow_mode.OverflowMode.TheVariants as overflow_mode
use Rattle.std.proofs.Math.IntN.{pos}
use Rattle.std.specs.Prelude.{codes, ◌^◌, ◌-◌}
use Rattle.std.specs.Fmt.{signed_decimal}
use Rattle.dsv_ctext.specs.Texts.{type_name}
use Rattle.std.proofs.Common.{append_assoc}
use Rattle.dsv_c.specs.declared.c_type.CType.{CType}
use Rattle.dsv_c.specs.Syntax.{Rounded, Fitted, Local, Cast}
use Rattle.dsv_c.specs.Programs.{word_type, addend_code, floor_code, rounded_code, fitted_code, fitted_value}
use Rattle.dsv_ctext.specs.HelperTexts.{function_head, helper_local_line, function_tail, function_text, cast_start, wrap_start, wrap_end, low_part, high_part}

pub rounded_written : (f : Format) (t : CType) → function_text (record { name = Rounded t; function = rounded_code f t })
    ≡ function_head (Rounded t) (record { parameter = t; locals = []; value = Local 0; result = t })
    ++ (helper_local_line (record { type = t; value = addend_code f.rounding f.frac_bits }) ++ function_tail (floor_code 1 f.frac_bits))
rounded_written f t =
    let head = function_head (Rounded t) (record { parameter = t; locals = []; value = Local 0; result = t }) in
    let line = helper_local_line (record { type = t; value = addend_code f.rounding f.frac_bits }) in
    ap (λ (x : List ℕ). head ++ (x ++ function_tail (floor_code 1 f.frac_bits))) (append-nil line)

pub fitted_written : (f : Format) (t w : CType) → w ≡ word_type f → function_text (record { name = Fitted t; function = fitted_code f t })
    ≡ function_head (Fitted t) (record { parameter = t; locals = []; value = Local 0; result = w }) ++ function_tail (Cast w (fitted_value f.overflow (width f)))
fitted_written f t w e = ap (λ (u : CType). function_head (Fitted t) (record { parameter = t; locals = []; value = Local 0; result = u }) ++ function_tail (Cast u (fitted_value f.overflow (width f)))) (sym e)

cast_apart : (r o t c s e : List ℕ) → (r ++ ((o ++ (t ++ c)) ++ s)) ++ e ≡ ((r ++ o) ++ t ++ c) ++ (s ++ e)
cast_apart r o t c s e = simp append_assoc refl

wrap_apart : (a m b h c k d e : List ℕ) → (a ++ (m ++ (b ++ (h ++ (c ++ (k ++ d)))))) ++ e ≡ ((a ++ m) ++ b) ++ (((h ++ c) ++ k) ++ (d ++ e))
wrap_apart a m b h c k d e = simp append_assoc refl

saturate_apart : (a l b m c h d k f e : List ℕ) → (a ++ (l ++ (b ++ (m ++ (c ++ (h ++ (d ++ (k ++ f)))))))) ++ e ≡ ((((a ++ l) ++ b) ++ m) ++ c) ++ (h ++ (d ++ (k ++ ((f ++ e) ++ []))))
saturate_apart a l b m c h d k f e = simp (append_assoc, append-nil) refl

abbrev pub ending : List ℕ
ending = codes ";" ++ 10 ∷ (codes "}" ++ 10 ∷ 10 ∷ [])

pub wrap_written : (w : CType) (n : ℕ) → function_tail (Cast w (fitted_value overflow_mode.Wrap n)) ≡ cast_start w ++ (wrap_start n ++ wrap_end n)
wrap_written w n =
    let m = signed_decimal (pos (2 ^ n - 1)) in
    let h = signed_decimal (pos (2 ^ (n - 1))) in
    let s = codes "(((v & " ++ (m ++ (codes ") ^ " ++ (h ++ (codes ") - " ++ (h ++ codes ")"))))) in
    cast_apart (codes "    return ") (codes "(") (type_name w) (codes ")") s ending
    ∙ ap (λ (x : List ℕ). cast_start w ++ x) (wrap_apart (codes "(((v & ") m (codes ") ^ ") h (codes ") - ") h (codes ")") ending)

pub saturate_written : (w : CType) (n : ℕ) → function_tail (Cast w (fitted_value overflow_mode.Saturate n)) ≡ cast_start w ++ (low_part (lo n) ++ high_part (hi n))
saturate_written w n =
    let l = signed_decimal (lo n) in
    let h = signed_decimal (hi n) in
    let s = codes "(v < " ++ (l ++ (codes " ? " ++ (l ++ (codes " : (" ++ (h ++ (codes " < v ? " ++ (h ++ codes " : v))"))))))) in
    cast_apart (codes "    return ") (codes "(") (type_name w) (codes ")") s ending
    ∙ ap (λ (x : List ℕ). cast_start w ++ x) (saturate_apart (codes "(v < ") l (codes " ? ") l (codes " : (") h (codes " < v ? ") h (codes " : v))") ending)
