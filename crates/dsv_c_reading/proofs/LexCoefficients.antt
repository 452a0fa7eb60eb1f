-- The end of a value's line, with the comment on its products.
use Rattle.std.proofs.Common.{◌≡◌, refl, arith, ℕ, ◌+◌, ◌*◌, ◌/◌, ◌^◌, ◌<◌, ◌≤◌, true, false, List, [], ◌∷◌, ◌++◌, Some}
use Rattle.std.specs.Prelude.{codes}
use Rattle.std.specs.List.{list_all}
use Rattle.std.specs.Int.RustNames.{unsigned_abs}
use Rattle.std.proofs.Math.IntN.{ℤ, pos, negsuc}
use Rattle.std.proofs.lemmas.Nat.{pow_pos}
use Rattle.std.proofs.lemmas.Bool.{and_from}
use Rattle.dsv_c.specs.Syntax.{Expr, Constant, Local, Member, Cast, Times, Plus, Minus, Over, Mask, Flip, Choice, Call}
use Rattle.dsv_ctext.specs.Comments.{factor_of, coefficients_of, millionths, sign_text, digit_at, six_places, millionths_text, value_text, values_text, comment_text, commented_end}
use Rattle.dsv_c_reading.specs.Machines.{gone, steps}
use Rattle.dsv_c_reading.specs.Lexemes.{Mark, nothing, comment, lex_next}
use Rattle.dsv_c_reading.proofs.Readable.{IsReadable}
use Rattle.dsv_c_reading.proofs.Runs.{steps_then}
use Rattle.dsv_c_reading.proofs.LexPieces.{Piece, closing_piece, blank, named}
use Rattle.dsv_c_reading.proofs.LexSizes.{power_within}
use Rattle.dsv_c_reading.proofs.LexQuiet.{is_quiet, IsQuiet, quiet_join, quiet_decimal, quiet_rest}
use Rattle.dsv_c_reading.proofs.LexComments.{InComment, comment_join, quiet_then}

-- ---- the coefficients are small
abbrev AreSmall : List ℤ → Type 0
AreSmall [] = Unit {0}
AreSmall (c ∷ cs) = (unsigned_abs c < 2 ^ 63) × AreSmall cs

small_join : (cs ds : List ℤ) → AreSmall cs → AreSmall ds → AreSmall (cs ++ ds)
small_join [] ds h k = k
small_join (c ∷ cs) ds h k = (h.0, small_join cs ds h.1 k)

factor_small : (n m : ℕ) (e : Expr) → IsReadable n m e → AreSmall (factor_of e)
factor_small n m (Constant c) h = (h, tt)
factor_small n m (Local k) h = tt
factor_small n m (Member k) h = tt
factor_small n m (Cast t e) h = tt
factor_small n m (Times a b) h = tt
factor_small n m (Plus a b) h = tt
factor_small n m (Minus a b) h = tt
factor_small n m (Over e k) h = tt
factor_small n m (Mask e k) h = tt
factor_small n m (Flip e k) h = tt
factor_small n m (Choice a b c d) h = tt
factor_small n m (Call f e) h = tt

coefficients_small : (n m : ℕ) (e : Expr) → IsReadable n m e → AreSmall (coefficients_of e)
coefficients_small n m (Constant c) h = tt
coefficients_small n m (Local k) h = tt
coefficients_small n m (Member k) h = tt
coefficients_small n m (Cast t e) h = coefficients_small n m e h
coefficients_small n m (Times a b) h = small_join (factor_of a) (coefficients_of b) (factor_small n m a h.0) (coefficients_small n m b h.1)
coefficients_small n m (Plus a b) h = small_join (coefficients_of a) (coefficients_of b) (coefficients_small n m a h.0) (coefficients_small n m b h.1)
coefficients_small n m (Minus a b) h = small_join (coefficients_of a) (coefficients_of b) (coefficients_small n m a h.0) (coefficients_small n m b h.1)
coefficients_small n m (Over e k) h = coefficients_small n m e h.0
coefficients_small n m (Mask e k) h = coefficients_small n m e h.0
coefficients_small n m (Flip e k) h = coefficients_small n m e h.0
coefficients_small n m (Choice a b c d) h =
    small_join (coefficients_of a) (coefficients_of b ++ (coefficients_of c ++ coefficients_of d)) (coefficients_small n m a h.0)
    (small_join (coefficients_of b) (coefficients_of c ++ coefficients_of d) (coefficients_small n m b h.1) (small_join (coefficients_of c) (coefficients_of d) (coefficients_small n m c h.2) (coefficients_small n m d h.3)))
coefficients_small n m (Call f e) h = coefficients_small n m e h

-- ---- their texts
division_less : (a d : ℕ) → 0 < d → a / d ≤ a
division_less a d h = omega arith

millionths_small : (f : ℕ) (c : ℤ) → f ≤ 64 → unsigned_abs c < 2 ^ 63 → millionths f c < 10 ^ 64
millionths_small f c h k =
    let p : 2 ^ f ≤ 2 ^ 64 = power_within f 64 h in
    let half : 2 ^ f / 2 ≤ 2 ^ f = omega arith in
    let less = division_less (unsigned_abs c * 1000000 + 2 ^ f / 2) (2 ^ f) (pow_pos f) in
    omega arith

sign_quiet : (c : ℤ) → IsQuiet (sign_text c)
sign_quiet (pos n) = record { bytes = refl }
sign_quiet (negsuc n) = record { bytes = refl }

digit_quiet : (n power : ℕ) (ds : List ℕ) → IsQuiet ds → IsQuiet (digit_at n power ∷ ds)
digit_quiet n power ds h = record { bytes = and_from (is_quiet (digit_at n power)) (list_all is_quiet ds) (quiet_rest (n / power)) h.bytes }

places_quiet : (n : ℕ) → IsQuiet (six_places n)
places_quiet n =
    digit_quiet n 100000 (digit_at n 10000 ∷ digit_at n 1000 ∷ digit_at n 100 ∷ digit_at n 10 ∷ digit_at n 1 ∷ [])
    (digit_quiet n 10000 (digit_at n 1000 ∷ digit_at n 100 ∷ digit_at n 10 ∷ digit_at n 1 ∷ [])
    (digit_quiet n 1000 (digit_at n 100 ∷ digit_at n 10 ∷ digit_at n 1 ∷ [])
    (digit_quiet n 100 (digit_at n 10 ∷ digit_at n 1 ∷ [])
    (digit_quiet n 10 (digit_at n 1 ∷ [])
    (digit_quiet n 1 [] (record { bytes = refl }))))))

millionths_quiet : (n : ℕ) → n < 10 ^ 64 → IsQuiet (millionths_text n)
millionths_quiet n h =
    let point : IsQuiet (codes ".") = record { bytes = refl } in
    quiet_join (quiet_decimal (n / 1000000) (omega arith)) (quiet_join point (places_quiet n))

value_quiet : (f : ℕ) (c : ℤ) → f ≤ 64 → unsigned_abs c < 2 ^ 63 → IsQuiet (value_text f c)
value_quiet f c h k = quiet_join (sign_quiet c) (millionths_quiet (millionths f c) (millionths_small f c h k))

more_quiet : (f : ℕ) (cs : List ℤ) → f ≤ 64 → AreSmall cs → IsQuiet (values_text f true cs)
more_quiet f [] h s = record { bytes = refl }
more_quiet f (c ∷ cs) h s =
    let start : IsQuiet (codes ", ") = record { bytes = refl } in
    quiet_join start (quiet_join (value_quiet f c h s.0) (more_quiet f cs h s.1))

-- ---- the end of the line
values_run : (f : ℕ) (c : ℤ) (cs : List ℤ) → f ≤ 64 → AreSmall (c ∷ cs) → InComment (comment false) (((value_text f c ++ values_text f true cs) ++ codes " */") ++ 10 ∷ []) nothing
values_run f c cs h s = comment_join (comment false) nothing nothing ((value_text f c ++ values_text f true cs) ++ codes " */") (10 ∷ [])
    (quiet_then (value_text f c ++ values_text f true cs) (codes " */") (quiet_join (value_quiet f c h s.0) (more_quiet f cs h s.1)) refl) refl

end_runs : (f : ℕ) (cs : List ℤ) → f ≤ 64 → AreSmall cs → steps lex_next nothing (codes ";" ++ (comment_text f cs ++ 10 ∷ [])) ≡ Some (gone (Mark 59 ∷ []) nothing)
end_runs f [] h s = refl
end_runs f (c ∷ cs) h s = steps_then lex_next nothing (comment false) nothing (codes "; /* ") (((value_text f c ++ values_text f true cs) ++ codes " */") ++ 10 ∷ []) (Mark 59 ∷ []) [] refl (values_run f c cs h s)

pub commented_piece : (n m f : ℕ) (e : Expr) → f ≤ 64 → IsReadable n m e → Piece named (commented_end f e) (Mark 59 ∷ []) blank
commented_piece n m f e h r = closing_piece named 59 (comment_text f (coefficients_of e) ++ 10 ∷ []) (Mark 59 ∷ []) refl (end_runs f (coefficients_of e) h (coefficients_small n m e r))
