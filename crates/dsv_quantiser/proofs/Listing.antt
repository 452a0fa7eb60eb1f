-- Lists of words.
use Rattle.dsv_word.specs.Words.{IsWord}
use Rattle.std.proofs.Common.{◌≡◌, ℕ, suc, ◌+◌, ◌-◌, ◌<◌, ◌≤◌, ◌⊎◌, List, [], ◌∷◌, ◌++◌, length, take, drop, get_or, refl, sym, ap, ◌∙◌, subst, inl, inr, arith, add-one, zero-add, length-append, drop-cons, Result, Ok}
use Rattle.std.proofs.Math.IntN.{ℤ, pos}
use Rattle.std.proofs.Math.ListN.{get_or-append}
use Rattle.std.proofs.Math.Seq.{get_or-append_seam}
use Rattle.std.proofs.lemmas.List.{take_more, get_or_default, length-drop}
use Rattle.std.proofs.lemmas.Grind.{get_or_after_one}
use Rattle.dsv_fraction.specs.Ratio.{Ratio, zero as nought}
use Rattle.dsv_word.specs.declared.format.Format.{Format}
use Rattle.dsv_reader.specs.Controllers.{ControllerView}
use Rattle.dsv_names.specs.declared.realisation.Realisation.{Realisation}
use Rattle.dsv_names.specs.declared.list_name.ListName.{ListName}
use Rattle.dsv_quantiser.specs.declared.refusal.QuantRefusal.{QuantRefusal}
use Rattle.dsv_fraction.specs.Ratio.{most_coefficients}
use Rattle.dsv_quantiser.specs.QuantisedView.{IsQuantisedView, IsDeltaWord, unit}
use Rattle.dsv_text.specs.Stages.{◌>>=◌}
use Rattle.dsv_quantiser.specs.Quantising.{word_at, words_from}
use Rattle.dsv_quantiser.specs.Meaning.{IsWordOf, IsRangeOf, IsInWords}
use Rattle.dsv_quantiser.specs.Parts.{AreWordsOf}

-- one fraction more
pub words_step : (f : Format) (name : ListName) (qs : List Ratio) (i n : ℕ) (q : Ratio) (out : List ℤ) (w : ℤ) (o : Result ℤ QuantRefusal) → i < length qs
    → q ≡ get_or qs i q → n ≡ length out → o ≡ word_at f name n q → o ≡ Ok w
    → words_from f name (drop (i + 1) qs) (out ++ w ∷ []) ≡ words_from f name (drop i qs) out
words_step f name qs i n q out w o h is e given fine =
    sym (ap (λ r. words_from f name r out) (drop-cons qs i q h ∙ ap (λ x. x ∷ drop (suc i) qs) (sym is))
    ∙ ap (λ m. word_at f name m q >>= λ w. words_from f name (drop (suc i) qs) (out ++ w ∷ [])) (sym e)
    ∙ ap (λ m. m >>= λ w. words_from f name (drop (suc i) qs) (out ++ w ∷ [])) (sym given ∙ fine)
    ∙ ap (λ m. words_from f name (drop m qs) (out ++ w ∷ [])) (sym (add-one i)))

-- ---- what they mean
pub no_words : (f : Format) (prefix : List ℤ) → AreWordsOf f [] prefix prefix
no_words f prefix = record { places = omega arith; same = λ k h. refl; each = λ k h. absurd (omega arith) }

below_or_last : (k n : ℕ) → k < n + 1 → (k < n) ⊎ (k ≡ n)
below_or_last k n h = grind arith

more : (f : Format) (qs : List Ratio) (prefix out : List ℤ) (q : Ratio) (w : ℤ) → AreWordsOf f qs prefix out → IsWordOf f q w → AreWordsOf f (qs ++ q ∷ []) prefix (out ++ w ∷ [])
more f qs prefix out q w so is = record {
  places = omega (arith, so.places, length-append out (w ∷ []), length-append qs (q ∷ []));
  same = λ k h. get_or-append out (w ∷ []) (pos 0) k (omega (arith, so.places)) ∙ so.same k h;
  each = λ k h.
      elim (below_or_last k (length qs) (omega (arith, length-append qs (q ∷ [])))) [
        | inl less ↦
            let P : Ratio → ℤ → Type 0 = λ r z. IsWordOf f r z in
            rw (get_or-append qs (q ∷ []) nought k less, get_or-append out (w ∷ []) (pos 0) (length prefix + k) (omega (arith, so.places))) (so.each k less)
        | inr last ↦
            rw (last, get_or-append_seam qs q [] nought, ← so.places, get_or-append_seam out w [] (pos 0)) is
      ];
}

pub words_more : (f : Format) (qs : List Ratio) (i : ℕ) (prefix out : List ℤ) (q : Ratio) (w : ℤ) → i < length qs → q ≡ get_or qs i q
    → AreWordsOf f (take i qs) prefix out → IsWordOf f q w → AreWordsOf f (take (i + 1) qs) prefix (out ++ w ∷ [])
words_more f qs i prefix out q w h is so word =
    let P : List Ratio → Type 0 = λ r. AreWordsOf f r prefix (out ++ w ∷ []) in
    subst P (sym (take_more qs i q h ∙ ap (λ x. take i qs ++ x ∷ []) (sym is))) (more f (take i qs) prefix out q w so word)

-- a denominator's words after the leading one
after_first : (f : Format) (a : List Ratio) (words : List ℤ) (i : ℕ) → AreWordsOf f (drop 1 a) (unit f ∷ []) words → 1 ≤ i → i < length a
    → IsWordOf f (get_or a i nought) (get_or words i (pos 0))
after_first f a words i so some h =
    let at : 1 + (i - 1) ≡ i = omega arith in
    let P : ℕ → Type 0 = λ n. IsWordOf f (get_or a n nought) (get_or words n (pos 0)) in
    let Q : Ratio → Type 0 = λ r. IsWordOf f r (get_or words (1 + (i - 1)) (pos 0)) in
    subst P at (subst Q (get_or_after_one a (i - 1) nought) (so.each (i - 1) (omega (arith, length-drop 1 a))))

pub in_words_meant : (c : ControllerView) (f : Format) (k : Realisation) (b a : List Ratio) (num den : List ℤ) (d low high : ℤ) → 1 ≤ length a
    → AreWordsOf f b [] num → AreWordsOf f (drop 1 a) (unit f ∷ []) den → IsRangeOf f c.min c.max (record { lo = low; hi = high })
    → IsInWords c f k b a d (record { b = num; a = den; delta = d; xlo = low; xhi = high; format = f; realisation = k; wide = c.wide })
in_words_meant c f k b a num den d low high some is so range = record {
  same_format = refl;
  same_realisation = refl;
  same_wide = refl;
  same_delta = refl;
  leading = so.same 0 (omega arith);
  b_places = omega (arith, is.places);
  a_places = omega (arith, so.places, length-drop 1 a);
  b_words = λ i h. let P : ℕ → Type 0 = λ n. IsWordOf f (get_or b i nought) (get_or num n (pos 0)) in subst P (zero-add i) (is.each i h);
  a_words = λ i p h. after_first f a den i so p h;
  range = range;
}

-- ---- what stays true
pub is_quantised : (c : ControllerView) (f : Format) (k : Realisation) (b a : List Ratio) (num den : List ℤ) (d low high : ℤ) → length b ≡ length a → 1 ≤ length a → length a ≤ most_coefficients
    → IsDeltaWord f k d → IsInWords c f k b a d (record { b = num; a = den; delta = d; xlo = low; xhi = high; format = f; realisation = k; wide = c.wide })
    → IsQuantisedView (record { b = num; a = den; delta = d; xlo = low; xhi = high; format = f; realisation = k; wide = c.wide })
is_quantised c f k b a num den d low high same some few delta is = record {
  one_length = omega (arith, is.b_places, is.a_places);
  some = omega (arith, is.a_places);
  few = omega (arith, is.a_places);
  leading = is.leading;
  b_words = λ i e h.
      let P : ℤ → Type 0 = λ w. IsWord f w in
      subst P (sym (get_or_default num i e (pos 0) h)) (is.b_words i (omega (arith, is.b_places))).word;
  a_words = λ i e h.
      let less : 1 + i < length den = omega (arith, length-drop 1 den) in
      let P : ℤ → Type 0 = λ w. IsWord f w in
      subst P (sym (get_or_after_one den i e ∙ get_or_default den (1 + i) e (pos 0) less)) (is.a_words (1 + i) (omega arith) (omega (arith, is.a_places))).word;
  delta = delta;
  low = is.range.low;
  order = is.range.order;
  high = is.range.high;
}
