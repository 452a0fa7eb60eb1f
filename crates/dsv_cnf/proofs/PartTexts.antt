-- What stands between two blanks, and the texts of literals.
use Rattle.std.proofs.Common.{◌≡◌, ℕ, ◌+◌, ◌-◌, ◌*◌, ◌^◌, ◌<◌, ◌≤◌, ◌==◌, ◌&&◌, Bool, true, false, List, [], ◌∷◌, ◌++◌, Some, None, cond, length, get_or, codes, decimal, refl, arith, ap, sym, ◌∙◌, nat_lt}
use Rattle.std.specs.Prelude.{Option}
use Rattle.std.proofs.lemmas.Bool.{eqb-true}
use Rattle.std.proofs.lemmas.Bool.Decides.{nat_tests}
use Rattle.std.proofs.lemmas.Fmt.{decimal_digit, decimal-digits_value, first_decimal, decimal_nonempty}
use Rattle.std.proofs.lemmas.Str.Parse.{IsNumeralModel, numerals_by_fold}
use Rattle.std.proofs.Common.{rules}
use Rattle.dsv_text.specs.Bytes.{is_digit}
use Rattle.dsv_cnf.specs.Literal.{Literal}
use Rattle.dsv_cnf.specs.Reading.{digits_from, number_of, part_of, part_of_number}
use Rattle.dsv_cnf.specs.Texts.{literal_piece, end_piece}
use Rattle.dsv_cnf.specs.declared.reader.Piece.{Piece}
use Rattle.dsv_cnf.specs.declared.reader.Piece.TheVariants as part
use Rattle.dsv_cnf.proofs.Digits.{AreDigits, value_after, Spells, spells-decimal, part-positive, part-negative}

-- ---- digits that are read

pub is-digit : (b : ℕ) → is_digit b ≡ true → (48 ≤ b) × (b ≤ 57)
is-digit b h = grind (arith, nat_tests)

-- The bytes are digits, and write a number of at most the limit after a value.
pub record SpellsOn (limit value n : ℕ) (bs : List ℕ) : Type 0 where
  pub digits : AreDigits bs
  pub value_is : value_after value bs ≡ n
  pub small : n ≤ limit

digits_on : (limit value n b : ℕ) (bs : List ℕ) (x y : Bool) → is_digit b ≡ x → nat_lt limit (10 * value + (b - 48)) ≡ y
    → ((v : ℕ) → v ≤ limit → digits_from limit v bs ≡ Some n → SpellsOn limit v n bs)
    → cond x (cond y None (digits_from limit (10 * value + (b - 48)) bs)) None ≡ Some n → SpellsOn limit value n (b ∷ bs)
digits_on limit value n b bs true false h k ih e =
    let d = is-digit b h in
    let fits : 10 * value + (b - 48) ≤ limit = grind (arith, nat_tests) in
    let s = ih (10 * value + (b - 48)) fits e in
    record { digits = (d.0, d.1, s.digits); value_is = s.value_is; small = s.small }
digits_on limit value n b bs true true h k ih e = absurd (cc)
digits_on limit value n b bs false y h k ih e = absurd (cc)

some_only : (a b : ℕ) → ◌≡◌ {A = Option ℕ} (Some a) (Some b) → a ≡ b
some_only a b e = cc

digits_read : (bs : List ℕ) (limit value n : ℕ) → value ≤ limit → digits_from limit value bs ≡ Some n → SpellsOn limit value n bs
digits_read [] limit value n h e = let same : value ≡ n = some_only value n e in record { digits = tt; value_is = same; small = omega (arith, same) }
digits_read (b ∷ bs) limit value n h e =
    digits_on limit value n b bs (is_digit b) (nat_lt limit (10 * value + (b - 48))) refl refl (λ v k f. digits_read bs limit v n k f) e

own : IsNumeralModel AreDigits (value_after 0)
own = numerals_by_fold _ (search rules) value_after (search rules)

-- digits with no leading zero are the decimal number of their value
pub decimal-spelled : (n : ℕ) (ds : List ℕ) → Spells n ds → 0 < length ds → (get_or ds 0 0 ≡ 48 → length ds ≡ 1) → n < 2 ^ 64 → decimal n ≡ ds
decimal-spelled n ds w some lead small =
    let v = w.value in
    ap decimal (sym w.value) ∙ decimal-digits_value own ds w.digits some lead (omega (arith, v, small))

number_on : (limit n b : ℕ) (bs : List ℕ) (x : Bool) → limit < 2 ^ 64 → ((b == 48) && nat_lt 1 (length (b ∷ bs))) ≡ x
    → cond x None (digits_from limit 0 (b ∷ bs)) ≡ Some n → (decimal n ≡ b ∷ bs) × (n ≤ limit)
number_on limit n b bs true wide h e = absurd (cc)
number_on limit n b bs false wide h e =
    let s = digits_read (b ∷ bs) limit 0 n (omega arith) e in
    let small = s.small in
    let lead : b ≡ 48 → length (b ∷ bs) ≡ 1 = λ z. grind (arith, nat_tests, h, z) in
    (decimal-spelled n (b ∷ bs) (record { digits = s.digits; value = s.value_is }) (omega arith) lead (omega (arith, small, wide)), s.small)

pub number_read : (limit n : ℕ) (text : List ℕ) → limit < 2 ^ 64 → number_of limit text ≡ Some n → (decimal n ≡ text) × (n ≤ limit)
number_read limit n [] wide e = absurd (cc)
number_read limit n (b ∷ bs) wide e = number_on limit n b bs ((b == 48) && nat_lt 1 (length (b ∷ bs))) wide refl e

-- ---- the text of each part

abbrev pub SaidPart : ℕ → List ℕ → Piece → Type 0
SaidPart vars text part.Nothing = text ≡ []
SaidPart vars text part.End = text ≡ end_piece
SaidPart vars text (part.Is l) = (text ≡ literal_piece l) × (l.var < vars)
SaidPart vars text part.Wrong = Unit {0}

said_signed : (vars n : ℕ) (text : List ℕ) (positive x : Bool) → (n == 0) ≡ x → decimal n ≡ text → n ≤ vars
    → SaidPart vars (cond positive [] (codes "-") ++ text) (cond x (cond positive part.End part.Wrong) (part.Is (record { var = n - 1; positive = positive })))
said_signed vars n text true true z e le =
    let none : n ≡ 0 = eqb-true n 0 z in
    sym e ∙ ap decimal none ∙ decimal_digit 0 (omega arith)
said_signed vars n text false true z e le = tt
said_signed vars n text positive false z e le =
    let some : 0 < n = grind (arith, nat_tests) in
    let same : n ≡ n - 1 + 1 = omega (arith, some) in
    (ap (λ t. cond positive [] (codes "-") ++ t) (sym e ∙ ap decimal same), omega (arith, some, le))

said_number : (vars : ℕ) (text : List ℕ) (positive : Bool) (o : Option ℕ) → ((n : ℕ) → o ≡ Some n → (decimal n ≡ text) × (n ≤ vars))
    → SaidPart vars (cond positive [] (codes "-") ++ text) (part_of_number positive o)
said_number vars text positive None h = tt
said_number vars text positive (Some n) h = let p = h n refl in said_signed vars n text positive (n == 0) refl p.0 p.1

said_text : (vars b : ℕ) (bs : List ℕ) (x : Bool) → vars < 2 ^ 64 → (b == 45) ≡ x
    → SaidPart vars (b ∷ bs) (cond x (part_of_number false (number_of vars bs)) (part_of_number true (number_of vars (b ∷ bs))))
said_text vars b bs true wide h =
    let e : b ≡ 45 = eqb-true b 45 h in
    rw e (said_number vars bs false (number_of vars bs) (λ n f. number_read vars n bs wide f))
said_text vars b bs false wide h = said_number vars (b ∷ bs) true (number_of vars (b ∷ bs)) (λ n f. number_read vars n (b ∷ bs) wide f)

pub said_part : (vars : ℕ) (text : List ℕ) → vars < 2 ^ 64 → SaidPart vars text (part_of vars text)
said_part vars [] wide = refl
said_part vars (b ∷ bs) wide = said_text vars b bs (b == 45) wide refl

-- ---- the part of each text

part-signed : (vars n : ℕ) (positive : Bool) → n < vars → vars ≤ 2 ^ 31 → part_of vars (cond positive [] (codes "-") ++ decimal (n + 1)) ≡ part.Is (record { var = n; positive = positive })
part-signed vars n true lt few =
    let wide : n + 1 < 2 ^ 64 = omega (arith, lt, few) in
    part-positive vars n (decimal (n + 1)) (spells-decimal (n + 1) wide) (decimal_nonempty (n + 1) wide) (first_decimal (n + 1) (omega arith) wide) lt
part-signed vars n false lt few =
    let wide : n + 1 < 2 ^ 64 = omega (arith, lt, few) in
    part-negative vars n (decimal (n + 1)) (spells-decimal (n + 1) wide) (decimal_nonempty (n + 1) wide) (first_decimal (n + 1) (omega arith) wide) lt

pub part-literal : (vars : ℕ) (l : Literal) → l.var < vars → vars ≤ 2 ^ 31 → part_of vars (literal_piece l) ≡ part.Is l
part-literal vars l lt few = part-signed vars l.var l.positive lt few

pub part-end : (vars : ℕ) → part_of vars end_piece ≡ part.End
part-end vars = let zero : nat_lt vars 0 ≡ false = grind (arith, nat_tests) in rw zero refl
