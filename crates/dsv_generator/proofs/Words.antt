-- Generated controllers always become words, and small ones.
use Rattle.std.proofs.Common.{◌≡◌, ℕ, zero, suc, ◌<◌, ◌⊎◌, ◌%◌, ◌&&◌, Bool, true, false, List, [], ◌∷◌, ◌++◌, length, refl, sym, ap, ◌∙◌, subst, inl, inr, arith, if◌then◌else◌, nat_le, Result, Ok, Err}
use Rattle.std.proofs.Math.IntN.{ℤ, pos, negsuc, ◌-ℤ◌}
use Rattle.std.proofs.lemmas.Bool.{and_parts}
use Rattle.std.proofs.lemmas.Bool.Decides.{Decides-int_eq}
use Rattle.std.specs.Ordering.{int_eq}
use Rattle.std.specs.Int.RustNames.{unsigned_abs}
use Rattle.dsv_algebra.specs.Gcd.{gcd}
use Rattle.dsv_algebra.specs.Floor.{floor_of}
use Rattle.dsv_fraction.specs.Ratio.{Ratio, one}
use Rattle.dsv_fraction.specs.Ratio as ratio
use Rattle.dsv_fraction.specs.Arithmetic.{is_bounded, bounded_ratio, too_wide}
use Rattle.dsv_fraction.specs.declared.fraction.TooWide.{TooWide}
use Rattle.dsv_names.specs.declared.list_name.ListName.{ListName}
use Rattle.dsv_names.specs.declared.list_name.ListName.TheVariants as list
use Rattle.dsv_names.specs.declared.realisation.Realisation.TheVariants.{Dfi}
use Rattle.dsv_text.specs.Stages.{◌>>=◌}
use Rattle.dsv_word.specs.Quotients.{word_of as quotient_of}
use Rattle.dsv_word.specs.declared.format.Format.{Format}
use Rattle.dsv_quantiser.specs.QuantisedView.{QuantisedView}
use Rattle.dsv_quantiser.specs.Quantising.{or_wide, is_word, fitting_word, word_at, words_from, a_words, b_words, range_of, quantised_of}
use Rattle.dsv_quantiser.specs.declared.refusal.QuantRefusal.{QuantRefusal}
use Rattle.dsv_quantiser.specs.declared.refusal.QuantRefusal.TheVariants as refusal
use Rattle.dsv_generator.specs.Controllers.{IsGeneratedFormat, number_with, controller_with}
use Rattle.dsv_generator.specs.Draws.{number_of, word_of}
use Rattle.dsv_generator.specs.Small.{IsSmall, greatest_size}
use Rattle.dsv_quantiser.proofs.Formats.{one_format}
use Rattle.dsv_meaning.proofs.WorkedControllers.{format_3_4}

-- ---- all words
abbrev centred : ℕ → ℤ
centred k = pos k -ℤ pos 32

abbrev comes_back : ℤ → Result ℤ TooWide → Bool
comes_back w (Ok z) = int_eq z w
comes_back w (Err e) = false

abbrev is_small : ℤ → Bool
is_small w = nat_le (unsigned_abs w) greatest_size

abbrev passes : ℕ → Bool
passes k = is_bounded (number_with (centred k)) && (comes_back (centred k) (quotient_of floor_of 4 (number_with (centred k)))
    && (is_word format_3_4 (centred k) && is_small (centred k)))

abbrev all_below : (ℕ → Bool) → ℕ → Bool
all_below p zero = true
all_below p (suc n) = p n && all_below p n

below_or_last : (k n : ℕ) → k < suc n → (k < n) ⊎ (k ≡ n)
below_or_last k n h = grind arith

below_at : (p : ℕ → Bool) (n k : ℕ) → all_below p n ≡ true → k < n → p k ≡ true
below_at p zero k e h = absurd (omega arith)
below_at p (suc n) k e h =
    elim (below_or_last k n h) [
      | inl less ↦ below_at p n k (and_parts (p n) (all_below p n) e).1 less
      | inr last ↦ ap p last ∙ (and_parts (p n) (all_below p n) e).0
    ]

all_pass : all_below passes 64 ≡ true
unfolding gcd
all_pass = refl

passes_at : (state : ℕ) → passes (number_of state % 64) ≡ true
passes_at state = below_at passes 64 (number_of state % 64) all_pass (omega arith)

-- what is known of the word of a state
record IsGood (w : ℤ) : Type 0 where
  bounded : is_bounded (number_with w) ≡ true
  back : comes_back w (quotient_of floor_of 4 (number_with w)) ≡ true
  word : is_word format_3_4 w ≡ true
  small : is_small w ≡ true

good : (state : ℕ) → IsGood (word_of state)
good state =
    let k : ℕ = number_of state % 64 in
    let first = and_parts (is_bounded (number_with (centred k))) _ (passes_at state) in
    let second = and_parts (comes_back (centred k) (quotient_of floor_of 4 (number_with (centred k)))) _ first.1 in
    let third = and_parts (is_word format_3_4 (centred k)) (is_small (centred k)) second.1 in
    record { bounded = first.0; back = second.0; word = third.0; small = third.1 }

pub number_is_bounded : (state : ℕ) → bounded_ratio (number_with (word_of state)) ≡ Ok (number_with (word_of state))
number_is_bounded state =
    ap (λ b. if b then Ok (number_with (word_of state)) else Err too_wide) (good state).bounded

-- ---- one word
same_number : (w : ℤ) (r : Result ℤ TooWide) → comes_back w r ≡ true → r ≡ Ok w
same_number w (Ok z) e = ap Ok (((Decides-int_eq z w).0 e))
same_number w (Err x) e = absurd cc

one_word : (name : ListName) (i : ℕ) (w : ℤ) → IsGood w → word_at format_3_4 name i (number_with w) ≡ Ok w
one_word name i w g =
    ap (λ (r : Result ℤ TooWide). or_wide name i r >>= λ v. fitting_word format_3_4 name i v) (same_number w _ g.back)
    ∙ ap (λ (b : Bool). if b then Ok w else Err (refusal.CoefficientRange name i w)) g.word

zero_word : (name : ListName) (i : ℕ) → word_at format_3_4 name i ratio.zero ≡ Ok (pos 0)
unfolding gcd
zero_word name i = refl

-- ---- all of it
next_word : (name : ListName) (q : Ratio) (qs : List Ratio) (out : List ℤ) (w : ℤ) → word_at format_3_4 name (length out) q ≡ Ok w
    → words_from format_3_4 name (q ∷ qs) out ≡ words_from format_3_4 name qs (out ++ w ∷ [])
next_word name q qs out w e = ap (λ (o : Result ℤ QuantRefusal). o >>= λ v. words_from format_3_4 name qs (out ++ v ∷ [])) e

numerator_words : (b0 b1 : ℤ) → IsGood b0 → IsGood b1
    → b_words format_3_4 (number_with b0 ∷ number_with b1 ∷ ratio.zero ∷ []) ≡ Ok (b0 ∷ b1 ∷ pos 0 ∷ [])
numerator_words b0 b1 g h =
    next_word list.B (number_with b0) (number_with b1 ∷ ratio.zero ∷ []) [] b0 (one_word list.B 0 b0 g)
    ∙ next_word list.B (number_with b1) (ratio.zero ∷ []) (b0 ∷ []) b1 (one_word list.B 1 b1 h)
    ∙ next_word list.B ratio.zero [] (b0 ∷ b1 ∷ []) (pos 0) (zero_word list.B 2)

denominator_words : (a1 a2 : ℤ) → IsGood a1 → IsGood a2
    → a_words format_3_4 (one ∷ number_with a1 ∷ number_with a2 ∷ []) ≡ Ok (pos 16 ∷ a1 ∷ a2 ∷ [])
denominator_words a1 a2 g h =
    next_word list.A (number_with a1) (number_with a2 ∷ []) (pos 16 ∷ []) a1 (one_word list.A 1 a1 g)
    ∙ next_word list.A (number_with a2) [] (pos 16 ∷ a1 ∷ []) a2 (one_word list.A 2 a2 h)

abbrev minus_one : Ratio
minus_one = record { num = negsuc 0; den = 1 }

abbrev words_with : ℤ → ℤ → ℤ → ℤ → QuantisedView
words_with a1 a2 b0 b1 = record {
  b = b0 ∷ b1 ∷ pos 0 ∷ [];
  a = pos 16 ∷ a1 ∷ a2 ∷ [];
  delta = pos 0;
  xlo = negsuc 15;
  xhi = pos 16;
  format = format_3_4;
  realisation = Dfi;
  wide = false;
}

abbrev put_together : List ℤ → List ℤ → ℤ → ℤ → QuantisedView
put_together num den low high = record { b = num; a = den; delta = pos 0; xlo = low; xhi = high; format = format_3_4; realisation = Dfi; wide = false }

-- the inputs are from -16 to 16
whole_range : (num den : List ℤ) → (range_of format_3_4 minus_one one >>= λ r. Ok (put_together num den r.lo r.hi)) ≡ Ok (put_together num den (negsuc 15) (pos 16))
unfolding gcd
whole_range num den = refl

become : (a1 a2 b0 b1 : ℤ) → IsGood a1 → IsGood a2 → IsGood b0 → IsGood b1
    → quantised_of (controller_with a1 a2 b0 b1 format_3_4) format_3_4 Dfi ≡ Ok (words_with a1 a2 b0 b1)
become a1 a2 b0 b1 ga1 ga2 gb0 gb1 =
    ap (λ (o : Result (List ℤ) QuantRefusal). o >>= λ num. a_words format_3_4 (one ∷ number_with a1 ∷ number_with a2 ∷ []) >>= λ den.
    range_of format_3_4 minus_one one >>= λ r. Ok (put_together num den r.lo r.hi)) (numerator_words b0 b1 gb0 gb1)
    ∙ ap (λ (o : Result (List ℤ) QuantRefusal). o >>= λ den. range_of format_3_4 minus_one one >>= λ r. Ok (put_together (b0 ∷ b1 ∷ pos 0 ∷ []) den r.lo r.hi)) (denominator_words a1 a2 ga1 ga2)
    ∙ whole_range (b0 ∷ b1 ∷ pos 0 ∷ []) (pos 16 ∷ a1 ∷ a2 ∷ [])

generated_small : (a1 a2 b0 b1 : ℤ) → IsGood a1 → IsGood a2 → IsGood b0 → IsGood b1 → IsSmall (words_with a1 a2 b0 b1)
generated_small a1 a2 b0 b1 ga1 ga2 gb0 gb1 = record {
  format = record { int_bits = refl; frac_bits = refl; rounding = refl; overflow = refl };
  realisation = refl;
  numerator = record { places = refl; within = rw (gb0.small, gb1.small) refl };
  denominator = record { places = refl; within = rw (ga1.small, ga2.small) refl };
}

-- for any format with its widths and modes
becomes_in : (format : Format) → IsGeneratedFormat format → (s1 s2 s3 s4 : ℕ)
    → quantised_of (controller_with (word_of s1) (word_of s2) (word_of s3) (word_of s4) format) format Dfi
    ≡ Ok (words_with (word_of s1) (word_of s2) (word_of s3) (word_of s4))
becomes_in format is s1 s2 s3 s4 =
    let same = one_format format format_3_4 is.int_bits is.frac_bits is.rounding is.overflow in
    ap (λ (f : Format). quantised_of (controller_with (word_of s1) (word_of s2) (word_of s3) (word_of s4) f) f Dfi) same
    ∙ become (word_of s1) (word_of s2) (word_of s3) (word_of s4) (good s1) (good s2) (good s3) (good s4)

apart : (q : QuantisedView) (r : QuantRefusal) → Ok q ≡ Err r → ⊥
apart q r e = absurd cc

abbrev in_ok : QuantisedView → Result QuantisedView QuantRefusal
in_ok q = Ok q

one_value : (p q : QuantisedView) → in_ok p ≡ in_ok q → p ≡ q
one_value p q e = cc

pub never_refused : (format : Format) (s1 s2 s3 s4 : ℕ) (r : QuantRefusal) → IsGeneratedFormat format
    → quantised_of (controller_with (word_of s1) (word_of s2) (word_of s3) (word_of s4) format) format Dfi ≡ Err r → ⊥
never_refused format s1 s2 s3 s4 r is e =
    apart (words_with (word_of s1) (word_of s2) (word_of s3) (word_of s4)) r (sym (becomes_in format is s1 s2 s3 s4) ∙ e)

pub small_words : (format : Format) (s1 s2 s3 s4 : ℕ) (q : QuantisedView) → IsGeneratedFormat format
    → quantised_of (controller_with (word_of s1) (word_of s2) (word_of s3) (word_of s4) format) format Dfi ≡ Ok q → IsSmall q
small_words format s1 s2 s3 s4 q is e =
    let made = words_with (word_of s1) (word_of s2) (word_of s3) (word_of s4) in
    subst (λ p. IsSmall p) (one_value made q (sym (becomes_in format is s1 s2 s3 s4) ∙ e))
    (generated_small (word_of s1) (word_of s2) (word_of s3) (word_of s4) (good s1) (good s2) (good s3) (good s4))

pub ruleset generated_words = (never_refused, small_words)
