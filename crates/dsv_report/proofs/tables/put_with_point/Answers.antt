use Rattle.std.proofs.Common.{◌≡◌, ap, ℕ, ◌-◌, ◌<◌, ◌≤◌, ◌++◌, List, length, take, drop, replicate, codes, if◌then◌else◌, arith}
use Rattle.std.proofs.lemmas.Bool.{lt-ltb, le-ltb}
use Rattle.std.proofs.lemmas.List.{take_all, length-drop}
use Rattle.dsv_base.proofs.TakingLemmas.{writes_after, writes_cut}
use Rattle.dsv_report.specs.Tables.{with_point}
use Rattle.dsv_report.proofs.tables.put_with_point.Goals as goal

abbrev long_text : List ℕ → List ℕ
long_text digits = take (length digits - 5) digits ++ (codes "." ++ drop (length digits - 5) digits)

abbrev short_text : List ℕ → List ℕ
short_text digits = codes "0." ++ (replicate (5 - length digits) 48 ++ digits)

of_long : (digits : List ℕ) → 5 < length digits → with_point digits ≡ long_text digits
of_long digits h = ap (λ b. if b then long_text digits else short_text digits) (lt-ltb 5 (length digits) h)

of_short : (digits : List ℕ) → length digits ≤ 5 → with_point digits ≡ short_text digits
of_short digits h = ap (λ b. if b then long_text digits else short_text digits) (le-ltb 5 (length digits) h)

-- the text from a place on
rest_text : (n : ℕ) (digits : List ℕ) → take (length digits - n) (drop n digits) ≡ drop n digits
rest_text n digits = take_all (length digits - n) (drop n digits) (omega (arith, length-drop n digits))

pub returns-in_err-put_all-2 : goal.returns-in_err-put_all-2
returns-in_err-put_all-2 g c =
    let digits = c.args.digits.now in
    rw (of_long digits (omega (arith, c.if-count-gt5.true))) (writes_after c.in_ok-put_all.ensures.whole
    (writes_cut (drop (length digits - 5) digits) c.from_residual-in_err-put_all-2.ensures.0 c.in_err-put_all-2.ensures.cut))

pub returns-in_err-put_all-3 : goal.returns-in_err-put_all-3
returns-in_err-put_all-3 g c =
    let digits = c.args.digits.now in
    rw (of_short digits (omega (arith, c.if-count-gt5.false)))
    (writes_cut (replicate (5 - length digits) 48 ++ digits) c.from_residual-in_err-put_all-3.ensures.0 c.in_err-put_all-3.ensures.cut)

pub returns-in_err-put_zeros : goal.returns-in_err-put_zeros
returns-in_err-put_zeros g c =
    let digits = c.args.digits.now in
    rw (of_short digits (omega (arith, c.if-count-gt5.false))) (writes_after c.in_ok-put_all-3.ensures.whole
    (writes_cut digits c.from_residual-in_err-put_zeros.ensures.0 c.in_err-put_zeros.ensures.cut))

pub returns-in_ok-put_all-2 : goal.returns-in_ok-put_all-2
returns-in_ok-put_all-2 g c =
    let digits = c.args.digits.now in
    rw (of_long digits (omega (arith, c.if-count-gt5.true)))
    (writes_after c.in_ok-put_all.ensures.whole
    (writes_after c.in_ok-put_all-2.ensures.whole (rw (rest_text (length digits - 5) digits) at c.put_all-then-count-gt5-2.ensures)))

pub returns-in_ok-put_zeros : goal.returns-in_ok-put_zeros
returns-in_ok-put_zeros g c =
    rw (of_short c.args.digits.now (omega (arith, c.if-count-gt5.false)))
    (writes_after c.in_ok-put_all-3.ensures.whole (writes_after c.in_ok-put_zeros.ensures.whole c.put_all-else-count-gt5-2.ensures))
