-- The steps of a header line: a word or a number, and what stands in their place.
use Rattle.std.proofs.Common.{◌≡◌, ℕ, ◌+◌, ◌-◌, ◌*◌, ◌^◌, ◌<◌, ◌≤◌, ◌==◌, Bool, true, false, List, [], ◌∷◌, ◌++◌, ◌⊎◌, inl, inr, Ok, Err, cond, length, get_or, decimal, refl, arith, ap, sym, ◌∙◌, nat_lt}
use Rattle.std.specs.Prelude.{Result}
use Rattle.std.proofs.lemmas.Bool.{eqb-true, eq-eqb}
use Rattle.std.proofs.lemmas.Bool.Decides.{nat_tests}
use Rattle.std.proofs.lemmas.Fmt.{decimal_digit, decimal_nonempty}
use Rattle.dsv_text.specs.Bytes.{is_digit}
use Rattle.dsv_cnf.specs.Reading.{word_end, digits_end, number_end}
use Rattle.dsv_cnf.specs.declared.reader.CnfRefusal.{CnfRefusal}
use Rattle.dsv_cnf.specs.declared.reader.CnfRefusal.TheVariants as refusal
use Rattle.dsv_cnf.specs.declared.reader.Number.{Number}
use Rattle.dsv_cnf.proofs.Digits.{AreDigits, value_after, spells-decimal, digit-is, reads-number}
use Rattle.dsv_cnf.proofs.ListLemmas.{first_same}
use Rattle.dsv_cnf.proofs.PartTexts.{is-digit, decimal-spelled}

-- ---- words

-- no byte is left, or another comes first
abbrev pub BeginsNot : ℕ → List ℕ → Type 0
BeginsNot wanted [] = Unit {0}
BeginsNot wanted (b ∷ bs) = (b == wanted) ≡ false

-- So many bytes of the word stand there, and the next doesn't.
pub record WordStops (word text : List ℕ) (k : ℕ) : Type 0 where
  pub front : List ℕ
  pub wanted : ℕ
  pub more : List ℕ
  pub is_word : word ≡ front ++ wanted ∷ more
  pub rest : List ℕ
  pub split : text ≡ front ++ rest
  pub other : BeginsNot wanted rest
  pub place : k ≡ length front

abbrev pub SaidWord : List ℕ → List ℕ → ℕ → Result ℕ CnfRefusal → Type 0
SaidWord word text at (Ok end) = (rest : List ℕ) × (text ≡ word ++ rest) × (end ≡ at + length word)
SaidWord word text at (Err e) = (k : ℕ) × (e ≡ refusal.Header (at + k)) × WordStops word text k

word_here : (w : ℕ) (ws text : List ℕ) (at : ℕ) → BeginsNot w text → SaidWord (w ∷ ws) text at (Err (refusal.Header at))
word_here w ws text at h =
    let e : at ≡ at + 0 = omega arith in
    (0, ap refusal.Header e, record { front = []; wanted = w; more = ws; is_word = refl; rest = text; split = refl; other = h; place = refl })

word_later : (w b : ℕ) (ws bs : List ℕ) (at : ℕ) (a : Result ℕ CnfRefusal) → b ≡ w → SaidWord ws bs (at + 1) a → SaidWord (w ∷ ws) (b ∷ bs) at a
word_later w b ws bs at (Ok end) h s =
    let e = s.2 in
    (s.0, ap (λ n. n ∷ bs) h ∙ ap (λ t. w ∷ t) s.1, omega (arith, e))
word_later w b ws bs at (Err r) h s =
    let e : at + 1 + s.0 ≡ at + (s.0 + 1) = omega arith in
    let p = s.2.place in (
      s.0 + 1,
      s.1 ∙ ap refusal.Header e,
      record {
        front = w ∷ s.2.front;
        wanted = s.2.wanted;
        more = s.2.more;
        is_word = ap (λ t. w ∷ t) s.2.is_word;
        rest = s.2.rest;
        split = ap (λ n. n ∷ bs) h ∙ ap (λ t. w ∷ t) s.2.split;
        other = s.2.other;
        place = omega (arith, p);
      },
    )

pub said_word : (word text : List ℕ) (at : ℕ) → SaidWord word text at (word_end word text at)
said_word [] text at = let e : at ≡ at + 0 = omega arith in (text, refl, e)
said_word (w ∷ ws) [] at = word_here w ws [] at tt
said_word (w ∷ ws) (b ∷ bs) at =
    elim (b == w) as (λ x. (b == w) ≡ x → SaidWord (w ∷ ws) (b ∷ bs) at (cond x (word_end ws bs (at + 1)) (Err (refusal.Header at)))) [
      | true ↦ λ h. word_later w b ws bs at (word_end ws bs (at + 1)) (eqb-true b w h) (said_word ws bs (at + 1))
      | false ↦ λ h. word_here w ws (b ∷ bs) at h
    ] refl

-- a word is taken
pub word-taken : (word rest : List ℕ) (at : ℕ) → word_end word (word ++ rest) at ≡ Ok (at + length word)
word-taken [] rest at = let e : at ≡ at + 0 = omega arith in ap Ok e
word-taken (w ∷ ws) rest at =
    let same : (w == w) ≡ true = eq-eqb w w refl in
    let e : at + 1 + length ws ≡ at + length (w ∷ ws) = omega arith in
    rw same (word-taken ws rest (at + 1) ∙ ap Ok e)

-- ---- numbers

-- no byte is left, or no digit comes first
abbrev pub BeginsNoDigit : List ℕ → Type 0
BeginsNoDigit [] = Unit {0}
BeginsNoDigit (b ∷ bs) = is_digit b ≡ false

-- The text begins with digits that write this number after a value.
record DigitsStand (value n : ℕ) (text : List ℕ) : Type 0 where
  digits : List ℕ
  are : AreDigits digits
  value_is : value_after value digits ≡ n
  rest : List ℕ
  split : text ≡ digits ++ rest

abbrev SaidDigits : ℕ → ℕ → ℕ → List ℕ → ℕ → Result Number CnfRefusal → Type 0
SaidDigits limit start value text at (Ok n) = (d : DigitsStand value n.value text) × (n.end ≡ at + length d.digits) × BeginsNoDigit d.rest × (n.value ≤ limit)
SaidDigits limit start value text at (Err e) = (e ≡ refusal.Header start) × (n : ℕ) × DigitsStand value n text × (limit < n) × (n ≤ 10 * limit + 9)

abbrev stand_more : (value n b : ℕ) (bs : List ℕ) → is_digit b ≡ true → DigitsStand (10 * value + (b - 48)) n bs → DigitsStand value n (b ∷ bs)
stand_more value n b bs h s =
    let d = is-digit b h in
    record { digits = b ∷ s.digits; are = (d.0, d.1, s.are); value_is = s.value_is; rest = s.rest; split = ap (λ t. b ∷ t) s.split }

digits_later : (limit start value b : ℕ) (bs : List ℕ) (at : ℕ) (a : Result Number CnfRefusal) → is_digit b ≡ true → SaidDigits limit start (10 * value + (b - 48)) bs (at + 1) a → SaidDigits limit start value (b ∷ bs) at a
digits_later limit start value b bs at (Ok n) h s =
    let e = s.1 in
    (stand_more value n.value b bs h s.0, omega (arith, e), s.2, s.3)
digits_later limit start value b bs at (Err r) h s = (s.0, s.1, stand_more value s.1 b bs h s.2, s.3, s.4)

digits_by : (limit start value b : ℕ) (bs : List ℕ) (at : ℕ) (x y : Bool) → value ≤ limit → is_digit b ≡ x → nat_lt limit (10 * value + (b - 48)) ≡ y
    → (10 * value + (b - 48) ≤ limit → SaidDigits limit start (10 * value + (b - 48)) bs (at + 1) (digits_end limit start (10 * value + (b - 48)) bs (at + 1)))
    → SaidDigits limit start value (b ∷ bs) at (cond x (cond y (Err (refusal.Header start)) (digits_end limit start (10 * value + (b - 48)) bs (at + 1))) (Ok (record { value = value; end = at })))
digits_by limit start value b bs at true true le h k ih =
    let d = is-digit b h in
    let lo = d.0 in
    let hi = d.1 in
    let over : limit < 10 * value + (b - 48) = grind (arith, nat_tests, k) in
    (refl, 10 * value + (b - 48), record { digits = b ∷ []; are = (d.0, d.1, tt); value_is = refl; rest = bs; split = refl }, over, omega (arith, le, hi))
digits_by limit start value b bs at true false le h k ih =
    let fits : 10 * value + (b - 48) ≤ limit = grind (arith, nat_tests, k) in
    digits_later limit start value b bs at (digits_end limit start (10 * value + (b - 48)) bs (at + 1)) h (ih fits)
digits_by limit start value b bs at false y le h k ih =
    let e : at ≡ at + 0 = omega arith in
    (record { digits = []; are = tt; value_is = refl; rest = b ∷ bs; split = refl }, e, h, le)

said_digits : (text : List ℕ) (limit start value at : ℕ) → value ≤ limit → SaidDigits limit start value text at (digits_end limit start value text at)
said_digits [] limit start value at le =
    let e : at ≡ at + 0 = omega arith in
    (record { digits = []; are = tt; value_is = refl; rest = []; split = refl }, e, tt, le)
said_digits (b ∷ bs) limit start value at le =
    digits_by limit start value b bs at (is_digit b) (nat_lt limit (10 * value + (b - 48))) le refl refl (λ k. said_digits bs limit start (10 * value + (b - 48)) (at + 1) k)

-- digits over the limit stand first: a number, or the first digits of one
pub record IsTooLarge (limit : ℕ) (text : List ℕ) : Type 0 where
  pub number : ℕ
  pub rest : List ℕ
  pub split : text ≡ decimal number ++ rest
  pub over : limit < number
  pub small : number ≤ 10 * limit + 9

-- The number stands first, and no digit of it comes after.
pub record NumberStands (limit : ℕ) (text : List ℕ) (at : ℕ) (n : Number) : Type 0 where
  pub rest : List ℕ
  pub split : text ≡ decimal n.value ++ rest
  pub place : n.end ≡ at + length (decimal n.value)
  pub small : n.value ≤ limit
  pub whole : (n.value ≡ 0) ⊎ BeginsNoDigit rest

abbrev pub SaidNumber : ℕ → List ℕ → ℕ → Result Number CnfRefusal → Type 0
SaidNumber limit text at (Ok n) = NumberStands limit text at n
SaidNumber limit text at (Err e) = (e ≡ refusal.Header at) × (BeginsNoDigit text ⊎ IsTooLarge limit text)

some_digit : (b : ℕ) (bs ds rest : List ℕ) → is_digit b ≡ true → b ∷ bs ≡ ds ++ rest → BeginsNoDigit rest → 0 < length ds
some_digit b bs [] [] h e k = absurd (cc)
some_digit b bs [] (c ∷ cs) h e k = let f : b ≡ c = first_same b c bs cs e in absurd (cc)
some_digit b bs (d ∷ ds) rest h e k = omega arith

no_lead : (b : ℕ) (bs ds rest : List ℕ) → (b == 48) ≡ false → b ∷ bs ≡ ds ++ rest → get_or ds 0 0 ≡ 48 → length ds ≡ 1
no_lead b bs [] rest h e z = absurd (omega (arith, z))
no_lead b bs (d ∷ ds) rest h e z =
    let f : b ≡ d = first_same b d bs (ds ++ rest) e in
    let same : (b == 48) ≡ true = eq-eqb b 48 (f ∙ z) in
    absurd (cc)

digits_some : (n value : ℕ) (ds : List ℕ) → value < n → value_after value ds ≡ n → 0 < length ds
digits_some n value [] lt e = absurd (omega (arith, lt, e))
digits_some n value (d ∷ ds) lt e = omega arith

number_by : (limit b : ℕ) (bs : List ℕ) (at : ℕ) (a : Result Number CnfRefusal) → limit < 2 ^ 60 → is_digit b ≡ true → (b == 48) ≡ false
    → SaidDigits limit at 0 (b ∷ bs) at a → SaidNumber limit (b ∷ bs) at a
number_by limit b bs at (Ok n) wide h k s =
    let ds = s.0.digits in
    let rest = s.0.rest in
    let small = s.3 in
    let some : 0 < length ds = some_digit b bs ds rest h s.0.split s.2 in
    let e : decimal n.value ≡ ds = decimal-spelled n.value ds (record { digits = s.0.are; value = s.0.value_is }) some (no_lead b bs ds rest k s.0.split) (omega (arith, small, wide)) in
    record {
      rest = rest;
      split = s.0.split ∙ ap (λ t. t ++ rest) (sym e);
      place = s.1 ∙ ap (λ t. at + length t) (sym e);
      small = s.3;
      whole = inr s.2;
    }
number_by limit b bs at (Err r) wide h k s =
    let n = s.1 in
    let ds = s.2.digits in
    let rest = s.2.rest in
    let over = s.3 in
    let few = s.4 in
    let some : 0 < length ds = digits_some n 0 ds (omega (arith, over)) s.2.value_is in
    let e : decimal n ≡ ds = decimal-spelled n ds (record { digits = s.2.are; value = s.2.value_is }) some (no_lead b bs ds rest k s.2.split) (omega (arith, few, wide)) in
    (s.0, inr (record { number = n; rest = rest; split = s.2.split ∙ ap (λ t. t ++ rest) (sym e); over = s.3; small = s.4 }))

number_zero : (limit b : ℕ) (bs : List ℕ) (at : ℕ) → (b == 48) ≡ true → SaidNumber limit (b ∷ bs) at (Ok (record { value = 0; end = at + 1 }))
number_zero limit b bs at h =
    let zero : decimal 0 ≡ 48 ∷ [] = decimal_digit 0 (omega arith) in
    record {
      rest = bs;
      split = ap (λ n. n ∷ bs) (eqb-true b 48 h) ∙ ap (λ t. t ++ bs) (sym zero);
      place = ap (λ t. at + length t) (sym zero);
      small = omega arith;
      whole = inl refl;
    }

pub said_number_end : (limit : ℕ) (text : List ℕ) (at : ℕ) → limit < 2 ^ 60 → SaidNumber limit text at (number_end limit text at)
said_number_end limit [] at wide = (refl, inl tt)
said_number_end limit (b ∷ bs) at wide =
    elim (is_digit b) as (λ x. is_digit b ≡ x → SaidNumber limit (b ∷ bs) at (cond x (cond (b == 48) (Ok (record { value = 0; end = at + 1 })) (digits_end limit at 0 (b ∷ bs) at)) (Err (refusal.Header at)))) [
      | true ↦ λ h. elim (b == 48) as (λ y. (b == 48) ≡ y → SaidNumber limit (b ∷ bs) at (cond y (Ok (record { value = 0; end = at + 1 })) (digits_end limit at 0 (b ∷ bs) at))) [
        | true ↦ λ k. number_zero limit b bs at k
        | false ↦ λ k. number_by limit b bs at (digits_end limit at 0 (b ∷ bs) at) wide h k (said_digits (b ∷ bs) limit at 0 at (omega arith))
      ] refl
      | false ↦ λ h. (refl, inl h)
    ] refl

-- a number is taken, where a byte comes after that goes on with none of it
pub number-taken : (limit n c : ℕ) (cs : List ℕ) (at : ℕ) → limit < 2 ^ 64 → n ≤ limit → (n ≡ 0) ⊎ BeginsNoDigit (c ∷ cs) → number_end limit (decimal n ++ c ∷ cs) at ≡ Ok (record { value = n; end = at + length (decimal n) })
number-taken limit n c cs at wide le (inr h) = reads-number limit n c cs at (omega (arith, wide, le)) le h
number-taken limit n c cs at wide le (inl z) =
    let zero : decimal 0 ≡ 48 ∷ [] = decimal_digit 0 (omega arith) in
    rw (z, zero) refl

-- a decimal number begins with a digit
pub decimal-first : (n b : ℕ) (rest more : List ℕ) → n < 2 ^ 64 → b ∷ more ≡ decimal n ++ rest → is_digit b ≡ true
decimal-first n b rest more h e = first_digit (decimal n) b rest more (spells-decimal n h).digits (decimal_nonempty n h) e
  where
    first_digit : (ds : List ℕ) (b : ℕ) (rest more : List ℕ) → AreDigits ds → 0 < length ds → b ∷ more ≡ ds ++ rest → is_digit b ≡ true
    first_digit [] b rest more are some e = absurd (omega (arith, some))
    first_digit (d ∷ ds) b rest more are some e = ap is_digit (first_same b d more (ds ++ rest) e) ∙ digit-is d are.0 are.1
