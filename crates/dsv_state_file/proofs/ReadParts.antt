-- What was read of a line is what stands there.
use Rattle.std.proofs.Common.{◌≡◌, ◌∙◌, sym, ap, ℕ, suc, ◌+◌, ◌≤◌, Bool, true, false, List, [], ◌∷◌, ◌++◌, length, Option, Some, None, decimal, refl, arith, append_assoc, codes, IfOk}
use Rattle.std.specs.Prelude.{Result, Ok, Err, if◌then◌else◌, ◌==◌, ◌&&◌, nat_le}
use Rattle.std.specs.Str.{bytes_eq}
use Rattle.std.proofs.lemmas.Bool.{and_parts, eqb-true, leb-true}
use Rattle.std.proofs.lemmas.Fmt.{decimal_digit}
use Rattle.std.proofs.lemmas.List.{append-nil}
use Rattle.std.proofs.lemmas.Slice.Eq.{bytes_eq-Decides}
use Rattle.dsv_text.specs.Stages.{◌>>=◌}
use Rattle.dsv_fraction.specs.Ratio.{Ratio}
use Rattle.dsv_fraction.specs.Decimal.{decimal_of}
use Rattle.dsv_fraction.specs.declared.decimal.DecimalRefusal.{DecimalRefusal}
use Rattle.dsv_lines.specs.Numerals.{numeral_of, positive_of}
use Rattle.dsv_lines.specs.Pieces.{piece_at}
use Rattle.dsv_lines.specs.Texts.{Line}
use Rattle.dsv_lines.proofs.NumeralBounds.{positive_has}
use Rattle.dsv_lines.proofs.ReadNumerals.{decimal-numeral_of, decimal-positive_of}
use Rattle.dsv_state_file.specs.Decimals.{has_suffix, or_none, bare_decimal}
use Rattle.dsv_state_file.specs.Limits.{most_states, greatest_int_bits, greatest_frac_bits, least_width, greatest_width}
use Rattle.dsv_state_file.specs.Reading.{words_after, or_number, version_in, is_width, format_in, decimals_from, vector_in, range_in, states_in, entry_at}
use Rattle.dsv_state_file.specs.StateTexts.{IsDecimal, AreDecimals}
use Rattle.dsv_state_file.specs.declared.words.Format.{Format}
use Rattle.dsv_state_file.specs.declared.reader.Range.{Range}
use Rattle.dsv_state_file.specs.declared.refusal.StateRefusal.{StateRefusal}
use Rattle.dsv_state_file.specs.declared.refusal.StateRefusal.TheVariants as refusal
use Rattle.dsv_state_file.proofs.Binds.{unbind, passed}

-- ---- words
pub record AreWords (word : List ℕ) (count : ℕ) (pieces words : Line) : Type 0 where
  pub pieces_are : pieces ≡ word ∷ words
  pub many : length words ≡ count

same_bytes : (xs ys : List ℕ) → bytes_eq xs ys ≡ true → xs ≡ ys
same_bytes xs ys h = (bytes_eq-Decides xs ys).0 h

pub words_read : (word : List ℕ) (count n : ℕ) (pieces words : Line) → words_after word count n pieces ≡ Ok words → AreWords word count pieces words
words_read word count n [] words e = absurd (cc)
words_read word count n (first ∷ others) words e =
    let p = passed (bytes_eq first word && length others == count) others words (refusal.Line n) e in
    let q = and_parts (bytes_eq first word) (length others == count) p.0 in
    record {
      pieces_are = ap (λ w. w ∷ others) (same_bytes first word q.0) ∙ ap (λ ws. word ∷ ws) p.1;
      many = ap length (sym p.1) ∙ eqb-true (length others) count q.1;
    }

pub number_read : {X : Type 0} (n place : ℕ) (o : Option X) (x : X) → or_number n place o ≡ Ok x → o ≡ Some x
number_read n place None x e = absurd (cc)
number_read n place (Some y) x e = cc

one_word : (words : Line) → length words ≡ 1 → words ≡ piece_at words 0 ∷ []
one_word [] h = absurd (omega (arith, h))
one_word (w ∷ []) h = refl
one_word (w ∷ v ∷ ws) h = absurd (omega (arith, h))

two_words : (words : Line) → length words ≡ 2 → words ≡ piece_at words 0 ∷ piece_at words 1 ∷ []
two_words [] h = absurd (omega (arith, h))
two_words (w ∷ []) h = absurd (omega (arith, h))
two_words (w ∷ v ∷ []) h = refl
two_words (w ∷ v ∷ u ∷ ws) h = absurd (omega (arith, h))

-- ---- whole numbers
-- a line of a word and a number
one_number : (word : List ℕ) (l words : Line) (n : ℕ) → l ≡ word ∷ words → length words ≡ 1 → decimal n ≡ piece_at words 0 → l ≡ word ∷ decimal n ∷ []
one_number word l words n e h k = e ∙ ap (λ ws. word ∷ ws) (one_word words h ∙ ap (λ p. p ∷ []) (sym k))

decimal_one : decimal 1 ≡ codes "1"
decimal_one = decimal_digit 1 (omega arith)

is_one : (n : ℕ) → (1 ≤ n) × (n ≤ 1) → n ≡ 1
is_one n h = omega (arith, h.0, h.1)

pub version_read : (n : ℕ) (l : Line) (v : ℕ) → version_in n l ≡ Ok v → l ≡ codes "dsv-state-space" ∷ codes "1" ∷ []
version_read n l v e =
    let a = unbind (words_after (codes "dsv-state-space") 1 n l) (λ words. or_number n 0 (positive_of 1 (piece_at words 0))) v e in
    let w = words_read (codes "dsv-state-space") 1 n l a.value a.first in
    let o = number_read n 0 (positive_of 1 (piece_at a.value 0)) v a.second in
    let one : v ≡ 1 = is_one v (rw o at (positive_has 1 (piece_at a.value 0))) in
    let d : decimal v ≡ piece_at a.value 0 = decimal-positive_of 1 (piece_at a.value 0) v (omega arith) o in
    one_number (codes "dsv-state-space") l a.value v w.pieces_are w.many d
    ∙ ap (λ p. codes "dsv-state-space" ∷ p ∷ []) (ap decimal one ∙ decimal_one)

pub record IsFormat (n : ℕ) (l : Line) (f : Format) : Type 0 where
  pub line : l ≡ codes "format" ∷ decimal f.int_bits ∷ decimal f.frac_bits ∷ []
  pub some : 1 ≤ f.int_bits
  pub wide : least_width ≤ f.int_bits + f.frac_bits
  pub narrow : f.int_bits + f.frac_bits ≤ greatest_width

abbrev format_of : ℕ → ℕ → Format
format_of i f = record { int_bits = i; frac_bits = f }

format_line : (l words : Line) (first second : List ℕ) (i f : ℕ) → l ≡ codes "format" ∷ words → words ≡ first ∷ second ∷ []
    → decimal i ≡ first → decimal f ≡ second → l ≡ codes "format" ∷ decimal i ∷ decimal f ∷ []
format_line l words first second i f e w h k = rw (h, k) (e ∙ ap (λ ws. codes "format" ∷ ws) w)

pub format_read : (n : ℕ) (l : Line) (f : Format) → format_in n l ≡ Ok f → IsFormat n l f
format_read n l f e =
    let a = unbind (words_after (codes "format") 2 n l)
    (λ words. or_number n 0 (positive_of greatest_int_bits (piece_at words 0)) >>= λ i. or_number n 1 (numeral_of greatest_frac_bits (piece_at words 1)) >>= λ f.
    if is_width (i + f) then Ok (format_of i f) else Err (refusal.Width n)) f e in
    let w = words_read (codes "format") 2 n l a.value a.first in
    let first = piece_at a.value 0 in
    let second = piece_at a.value 1 in
    let b = unbind (or_number n 0 (positive_of greatest_int_bits first))
    (λ i. or_number n 1 (numeral_of greatest_frac_bits second) >>= λ f. if is_width (i + f) then Ok (format_of i f) else Err (refusal.Width n)) f a.second in
    let i = number_read n 0 (positive_of greatest_int_bits first) b.value b.first in
    let c = unbind (or_number n 1 (numeral_of greatest_frac_bits second)) (λ f. if is_width (b.value + f) then Ok (format_of b.value f) else Err (refusal.Width n)) f b.second in
    let k = number_read n 1 (numeral_of greatest_frac_bits second) c.value c.first in
    let p = passed (is_width (b.value + c.value)) (format_of b.value c.value) f (refusal.Width n) c.second in
    let q = and_parts (nat_le least_width (b.value + c.value)) (nat_le (b.value + c.value) greatest_width) p.0 in
    let has : (1 ≤ b.value) × (b.value ≤ greatest_int_bits) = rw i at (positive_has greatest_int_bits first) in
    let whole : IsFormat n l (format_of b.value c.value) = record {
      line = format_line l a.value first second b.value c.value w.pieces_are (two_words a.value w.many)
          (decimal-positive_of greatest_int_bits first b.value (omega arith) i) (decimal-numeral_of greatest_frac_bits second c.value (omega arith) k);
      some = has.0;
      wide = leb-true least_width (b.value + c.value) q.0;
      narrow = leb-true (b.value + c.value) greatest_width q.1;
    } in
    rw p.1 at whole

pub record AreStates (l : Line) (states : ℕ) : Type 0 where
  pub line : l ≡ codes "states" ∷ decimal states ∷ []
  pub some : 1 ≤ states
  pub few : states ≤ most_states

pub states_read : (n : ℕ) (l : Line) (states : ℕ) → states_in n l ≡ Ok states → AreStates l states
states_read n l states e =
    let a = unbind (words_after (codes "states") 1 n l) (λ words. or_number n 0 (positive_of most_states (piece_at words 0))) states e in
    let w = words_read (codes "states") 1 n l a.value a.first in
    let o = number_read n 0 (positive_of most_states (piece_at a.value 0)) states a.second in
    let has : (1 ≤ states) × (states ≤ most_states) = rw o at (positive_has most_states (piece_at a.value 0)) in
    record {
      line = one_number (codes "states") l a.value states w.pieces_are w.many
          (decimal-positive_of most_states (piece_at a.value 0) states (omega arith) o);
      some = has.0;
      few = has.1;
    }

-- ---- decimals
decimal_step : (text : List ℕ) (value : Ratio) (b : Bool) (r : Result Ratio DecimalRefusal) → has_suffix text ≡ b → decimal_of text ≡ r
    → (if b then None else or_none r) ≡ Some value → IsDecimal text value
decimal_step text value true r h d e = absurd (cc)
decimal_step text value false (Err why) h d e = absurd (cc)
decimal_step text value false (Ok x) h d e = let same : x ≡ value = cc in record { is = d ∙ ap Ok same; bare = h }

pub decimal_read : (text : List ℕ) (value : Ratio) → bare_decimal text ≡ Some value → IsDecimal text value
decimal_read text value e = decimal_step text value (has_suffix text) (decimal_of text) refl refl e

pub record AreRead (old new : List Ratio) (words : Line) : Type 0 where
  pub values : List Ratio
  pub new_are : new ≡ old ++ values
  pub are : AreDecimals words values

pub decimals_read : (n : ℕ) (xs : List Ratio) (words : Line) (zs : List Ratio) → decimals_from n xs words ≡ Ok zs → AreRead xs zs words
decimals_read n xs [] zs e = let same : xs ≡ zs = cc in record { values = []; new_are = sym same ∙ sym (append-nil xs); are = tt }
decimals_read n xs (w ∷ ws) zs e =
    let b = unbind (or_number n (length xs) (bare_decimal w)) (λ x. decimals_from n (xs ++ x ∷ []) ws) zs e in
    let d = decimal_read w b.value (number_read n (length xs) (bare_decimal w) b.value b.first) in
    let r = decimals_read n (xs ++ b.value ∷ []) ws zs b.second in
    record {
      values = b.value ∷ r.values;
      new_are = r.new_are ∙ append_assoc xs (b.value ∷ []) r.values;
      are = (d, r.are);
    }

pub length-decimals : (words : Line) (values : List Ratio) → AreDecimals words values → length words ≡ length values
length-decimals [] [] h = refl
length-decimals (w ∷ ws) (v ∷ vs) h = ap suc (length-decimals ws vs h.1)
length-decimals [] (v ∷ vs) h = absurd h
length-decimals (w ∷ ws) [] h = absurd h

pub record IsVector (word : List ℕ) (count : ℕ) (l : Line) (values : List Ratio) : Type 0 where
  pub words : Line
  pub line : l ≡ word ∷ words
  pub many : length values ≡ count
  pub are : AreDecimals words values

pub vector_read : (word : List ℕ) (count n : ℕ) (l : Line) (values : List Ratio) → vector_in word count n l ≡ Ok values → IsVector word count l values
vector_read word count n l values e =
    let a = unbind (words_after word count n l) (decimals_from n []) values e in
    let w = words_read word count n l a.value a.first in
    let r = decimals_read n [] a.value values a.second in
    let are : AreDecimals a.value values = rw (← r.new_are) at r.are in
    record { words = a.value; line = w.pieces_are; many = sym (length-decimals a.value values are) ∙ w.many; are = are }

pub record IsRange (l : Line) (range : Range) : Type 0 where
  pub min : List ℕ
  pub max : List ℕ
  pub line : l ≡ codes "range" ∷ min ∷ max ∷ []
  pub is_min : IsDecimal min range.min
  pub is_max : IsDecimal max range.max

abbrev pub range_of : List Ratio → Range
range_of xs = record { min = entry_at xs 0; max = entry_at xs 1 }

range_step : (l words : Line) (xs : List Ratio) → l ≡ codes "range" ∷ words → length xs ≡ 2 → AreDecimals words xs → IsRange l (range_of xs)
range_step l [] [] e h k = absurd (omega (arith, h))
range_step l [] (x ∷ xs) e h k = absurd k
range_step l (w ∷ ws) [] e h k = absurd k
range_step l (w ∷ []) (x ∷ []) e h k = absurd (omega (arith, h))
range_step l (w ∷ []) (x ∷ y ∷ xs) e h k = absurd (k.1)
range_step l (w ∷ v ∷ ws) (x ∷ []) e h k = absurd (k.1)
range_step l (w ∷ v ∷ []) (x ∷ y ∷ []) e h k = record { min = w; max = v; line = e; is_min = k.0; is_max = k.1.0 }
range_step l (w ∷ v ∷ u ∷ ws) (x ∷ y ∷ []) e h k = absurd (k.1.1)
range_step l (w ∷ v ∷ ws) (x ∷ y ∷ z ∷ xs) e h k = absurd (omega (arith, h))

pub range_read : (n : ℕ) (l : Line) (range : Range) → range_in n l ≡ Ok range → IsRange l range
range_read n l range e =
    let a = unbind (vector_in (codes "range") 2 n l) (λ xs. Ok (range_of xs)) range e in
    let v = vector_read (codes "range") 2 n l a.value a.first in
    let same : range_of a.value ≡ range = let s = a.second in cc in
    rw same at (range_step l v.words a.value v.line v.many v.are)

pub record IsOne (l : Line) (value : Ratio) : Type 0 where
  pub text : List ℕ
  pub line : l ≡ codes "d" ∷ text ∷ []
  pub is : IsDecimal text value

pub one_read : (l words : Line) (xs : List Ratio) → l ≡ codes "d" ∷ words → length xs ≡ 1 → AreDecimals words xs → IsOne l (entry_at xs 0)
one_read l [] [] e h k = absurd (omega (arith, h))
one_read l [] (x ∷ xs) e h k = absurd k
one_read l (w ∷ ws) [] e h k = absurd k
one_read l (w ∷ []) (x ∷ []) e h k = record { text = w; line = e; is = k.0 }
one_read l (w ∷ v ∷ ws) (x ∷ []) e h k = absurd (k.1)
one_read l (w ∷ ws) (x ∷ y ∷ xs) e h k = absurd (omega (arith, h))

pub vector_has : (word : List ℕ) (count n : ℕ) (l : Line) (r : Result (List Ratio) StateRefusal) → r ≡ vector_in word count n l → IfOk r (λ xs. length xs ≡ count)
vector_has word count n l (Ok xs) e = (vector_read word count n l xs (sym e)).many
vector_has word count n l (Err why) e = tt
