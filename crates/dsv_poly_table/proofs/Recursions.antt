-- The recursion, whose rows are in lowest terms, and the table agree.
use Rattle.std.proofs.Common.{◌≡◌, ◌≤◌, ◌<◌, ℕ, zero, suc, ◌+◌, ◌-◌, ◌*◌, true, false, int_lt, List, length, inl, inr, refl, sym, ◌∙◌, subst, arith}
use Rattle.std.proofs.Math.IntN.{ℤ, pos, negsuc, ◌*ℤ◌}
use Rattle.std.specs.Int.RustNames.{unsigned_abs}
use Rattle.std.proofs.lemmas.Int.{ints}
use Rattle.std.proofs.lemmas.Bool.Decides.{nat_tests}
use Rattle.std.proofs.lemmas.Nat.{mul-le}
use lib.Signed.{◌<ℤ◌}
use Rattle.dsv_algebra.specs.Vectors.{Vector, vector_of}
use Rattle.dsv_jury.specs.Jury.{last_leads, jury_of}
use Rattle.dsv_jury.specs.Rows.{IsNext, IsVerdictFrom}
use Rattle.dsv_jury.specs.declared.verdict.Jury.{Jury}
use Rattle.dsv_jury.specs.declared.verdict.Jury.TheVariants as jury
use Rattle.dsv_jury.proofs.Meaning.{one_verdict}
use Rattle.dsv_table.specs.Table.{row_after, verdict_from}
use Rattle.dsv_table.specs.declared.verdict.TableVerdict.{TableVerdict}
use Rattle.dsv_table.specs.declared.verdict.TableVerdict.TheVariants as verdict
use Rattle.dsv_table.proofs.Verdicts.{decides, factors_do_not_count, verdict_same}
use Rattle.dsv_poly_table.specs.Recursion.{IsJuryShown, JuryIsShown}

square_is : (x : ℤ) → x *ℤ x ≡ pos (unsigned_abs x * unsigned_abs x)
square_is (pos n) = refl
square_is (negsuc n) = refl

-- The first number of the next row is positive if the row's first number is greater in size than
-- its last one, and else it isn't.
first_positive : (d : ℕ) (l : Vector) → last_leads (suc d) l ≡ false → int_lt (pos 0) (row_after (suc d) l 0) ≡ true
first_positive d l h =
    let a = unsigned_abs (l 0) in
    let b = unsigned_abs (l (suc d)) in
    let less : b < a = grind (arith, nat_tests) in
    let squares : suc b * suc b ≤ a * a = mul-le (suc b) (suc b) a a less less in
    let apart : b * b < a * a = omega arith in
    let last : suc d - 0 ≡ suc d = omega arith in
    rw (last, square_is (l 0), square_is (l (suc d))) (grind (arith, ints))

first_not_positive : (d : ℕ) (l : Vector) → last_leads (suc d) l ≡ true → int_lt (pos 0) (row_after (suc d) l 0) ≡ false
first_not_positive d l h =
    let a = unsigned_abs (l 0) in
    let b = unsigned_abs (l (suc d)) in
    let less : a ≤ b = grind (arith, nat_tests) in
    let squares : a * a ≤ b * b = mul-le a a b b less less in
    let last : suc d - 0 ≡ suc d = omega arith in
    rw (last, square_is (l 0), square_is (l (suc d))) (grind (arith, ints))

-- what a verdict of the recursion says of the table's
abbrev Agrees : Jury → TableVerdict → Type 0
Agrees jury.Inside v = v ≡ verdict.Inside
Agrees (jury.NotInside row) v = v ≡ verdict.NotInside (row + 1)
Agrees (jury.Wide row) v = Unit {0}

-- The table goes on with the next row in lowest terms.
next_same : (d n : ℕ) (row next : List ℤ) → last_leads (suc d) (vector_of row) ≡ false → IsNext (suc d) row next
    → verdict_from (suc d) n (vector_of row) ≡ verdict_from d (n + 1) (vector_of next)
next_same d n row next h is =
    let f = is.factor in
    let R = row_after (suc d) (vector_of row) in
    let p : pos 0 <ℤ pos f = omega (arith, ints, is.positive) in
    rw (first_positive d (vector_of row) h)
    (verdict_same d (n + 1) R (λ i. pos f *ℤ vector_of next i) (λ i b. sym (is.same i (omega arith)))
    ∙ factors_do_not_count d (n + 1) (pos f) (vector_of next) p)

agrees : (d n : ℕ) (row : List ℤ) (v : Jury) → IsVerdictFrom d n row v → Agrees v (verdict_from d n (vector_of row))
agrees zero n row v h = rw h refl
agrees (suc d) n row v (inl (t, e)) = rw (e, first_not_positive d (vector_of row) t) refl
agrees (suc d) n row v (inr (t, next, is, inl (w, e))) = rw e tt
agrees (suc d) n row v (inr (t, next, is, inr (w, rest))) =
    subst (λ (x : TableVerdict). Agrees v x) (sym (next_same d n row next t is)) (agrees d (n + 1) next v rest)

-- what a verdict that agrees with the table's shows
shown_by : (c : List ℤ) (v : Jury) → pos 0 <ℤ vector_of c 0 → Agrees v (verdict_from (length c - 1) 0 (vector_of c)) → IsJuryShown v c
shown_by c jury.Inside p e = let s = decides (length c - 1) (vector_of c) p in rw e at s
shown_by c (jury.NotInside row) p e = let s = decides (length c - 1) (vector_of c) p in rw e at s
shown_by c (jury.Wide row) p e = tt

pub jury_is_shown : JuryIsShown
jury_is_shown c some p =
    shown_by c (jury_of c) p (agrees (length c - 1) 0 c (jury_of c) ((one_verdict c (jury_of c)).1 refl))
