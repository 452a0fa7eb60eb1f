-- What a reader says of a line, as one that is wanted.
use Rattle.std.proofs.Common.{◌≡◌, ◌∙◌, sym, ap, subst, ℕ, zero, suc, ◌+◌, ◌^◌, ◌<◌, ◌≤◌, Bool, true, false, List, [], ◌∷◌, ◌++◌, length, length-append, replicate, Option, Some, None, decimal, refl, arith, codes}
use Rattle.std.specs.Prelude.{Result, Ok, Err, if◌then◌else◌, ◌==◌, ◌&&◌, nat_le}
use Rattle.std.specs.Str.{bytes_eq}
use Rattle.std.proofs.lemmas.Bool.{and_parts, and_from, both_ways, eqb-true, eq-eqb, leb-true}
use Rattle.std.proofs.lemmas.Bool.Decides.{nat_tests}
use Rattle.std.proofs.lemmas.List.{length-replicate}
use Rattle.std.proofs.lemmas.Slice.Eq.{bytes_eq-Decides}
use Rattle.dsv_text.specs.Stages.{◌>>=◌}
use Rattle.dsv_fraction.specs.Ratio.{Ratio}
use Rattle.dsv_lines.specs.Numerals.{numeral_of, positive_of}
use Rattle.dsv_lines.specs.Pieces.{piece_at}
use Rattle.dsv_lines.specs.Texts.{Line}
use Rattle.dsv_lines.proofs.NumeralBounds.{numeral_within, positive_has}
use Rattle.dsv_lines.proofs.ReadNumerals.{decimal-numeral_of, decimal-positive_of}
use Rattle.dsv_lines.proofs.WrittenNumerals.{numeral_of-decimal, positive_of-decimal}
use Rattle.dsv_state_file.specs.Decimals.{bare_decimal}
use Rattle.dsv_state_file.specs.Faults.{WantedNumber, IsWanted, AreWanted, IsFirstOther, Meaning, HasWidth, Means, WantedLine, want_of, vector_line, version_line, format_line, states_line, end_line}
use Rattle.dsv_state_file.specs.Limits.{most_states, greatest_int_bits, greatest_frac_bits, least_width, greatest_width}
use Rattle.dsv_state_file.specs.Reading.{words_after, or_number, version_in, is_width, format_in, decimals_from, vector_in, range_in, states_in}
use Rattle.dsv_state_file.specs.declared.words.Format.{Format}
use Rattle.dsv_state_file.specs.declared.refusal.StateRefusal.{StateRefusal}
use Rattle.dsv_state_file.specs.declared.refusal.StateRefusal.TheVariants as refusal
use Rattle.dsv_state_file.proofs.ReadParts.{decimal_read, range_of}
use Rattle.dsv_state_file.proofs.WrittenFiles.{bare_is}

-- the line is the form's word and as many words as numbers are wanted
pub record IsFormed (want : WantedLine) (l words : Line) : Type 0 where
  pub line : l ≡ want.word ∷ words
  pub many : length words ≡ length want.numbers

-- the line is as wanted where the value says so of the number of states
pub record IsGood {X : Type 0} (want : WantedLine) (T : X → ℕ → Type 0) (l : Line) (x : X) : Type 0 where
  pub words : Line
  pub formed : IsFormed want l words
  pub numbers : AreWanted want.numbers words
  pub means : (states : ℕ) → T x states → Means want.meaning states words

-- the line has this fault
abbrev pub IsBad : WantedLine → ℕ → Line → StateRefusal → Type 0
IsBad want n l (refusal.Line m) = (m ≡ n) × ((words : Line) → IsFormed want l words → ⊥)
IsBad want n l (refusal.Number m place) = (m ≡ n) × (words : Line) × IsFormed want l words × IsFirstOther want.numbers words place
IsBad want n l (refusal.Width m) =
    (m ≡ n) × (words : Line) × IsFormed want l words × AreWanted want.numbers words × (want.meaning ≡ Meaning.bits) × (HasWidth words → ⊥)

abbrev pub Judges : {X : Type 0} → WantedLine → (X → ℕ → Type 0) → ℕ → Line → Result X StateRefusal → Type 0
Judges want T n l (Ok x) = IsGood want T l x
Judges want T n l (Err why) = IsBad want n l why

-- nothing is said of the number of states
abbrev pub Anything : {X : Type 0} → X → ℕ → Type 0
Anything x states = Unit {0}

-- ---- the word of the line, and how many words follow
abbrev SayWords : WantedLine → ℕ → Line → Result Line StateRefusal → Type 0
SayWords want n l (Ok words) = IsFormed want l words
SayWords want n l (Err why) = (why ≡ refusal.Line n) × ((words : Line) → IsFormed want l words → ⊥)

same_words : (want : WantedLine) (count : ℕ) (first : List ℕ) (others words : Line) → length want.numbers ≡ count → IsFormed want (first ∷ others) words
    → bytes_eq first want.word && length others == count ≡ true
same_words want count first others words c h =
    let first_is : first ≡ want.word = let e = h.line in cc in
    let others_are : others ≡ words = let e = h.line in cc in
    and_from (bytes_eq first want.word) (length others == count) ((bytes_eq-Decides first want.word).1 first_is) (eq-eqb (length others) count (ap length others_are ∙ h.many ∙ c))

words_step : (want : WantedLine) (count n : ℕ) (first : List ℕ) (others : Line) (b : Bool) → length want.numbers ≡ count → bytes_eq first want.word && length others == count ≡ b
    → SayWords want n (first ∷ others) (if b then Ok others else Err (refusal.Line n))
words_step want count n first others true c e =
    let p = and_parts (bytes_eq first want.word) (length others == count) e in
    record { line = ap (λ w. w ∷ others) ((bytes_eq-Decides first want.word).0 p.0); many = eqb-true (length others) count p.1 ∙ sym c }
words_step want count n first others false c e =
    (refl, λ words h. both_ways (bytes_eq first want.word && length others == count) e (same_words want count first others words c h))

words_say : (want : WantedLine) (count n : ℕ) (l : Line) → length want.numbers ≡ count → SayWords want n l (words_after want.word count n l)
words_say want count n [] c = (refl, λ words h. let e = h.line in cc)
words_say want count n (first ∷ others) c = words_step want count n first others (bytes_eq first want.word && length others == count) c refl

after_words : {X : Type 0} (want : WantedLine) (T : X → ℕ → Type 0) (n : ℕ) (l : Line) (r : Result Line StateRefusal) (g : Line → Result X StateRefusal) → SayWords want n l r
    → ((words : Line) → IsFormed want l words → Judges want T n l (g words)) → Judges want T n l (r >>= g)
after_words want T n l (Ok words) g h k = k words h
after_words want T n l (Err why) g h k = subst (λ w. IsBad want n l w) (sym h.0) (refl, h.1)

-- ---- one whole number
-- a number from 1 on is read just where it stands
positive_is : (limit : ℕ) (word : List ℕ) (x : ℕ) → limit < 10 ^ 64 → positive_of limit word ≡ Some x → (1 ≤ x) × (x ≤ limit) × (word ≡ decimal x)
positive_is limit word x wide e = let h = rw e at (positive_has limit word) in (h.0, h.1, sym (decimal-positive_of limit word x wide e))

no_positive : (limit : ℕ) (word : List ℕ) → limit < 10 ^ 64 → positive_of limit word ≡ None → IsWanted (WantedNumber.whole 1 limit) word → ⊥
no_positive limit word wide e h = let both : Some h.0 ≡ None = sym (ap (positive_of limit) h.3 ∙ positive_of-decimal limit h.0 wide h.1 h.2) ∙ e in cc

number_step : (word : List ℕ) (limit n : ℕ) (meaning : Meaning) (T : ℕ → ℕ → Type 0) (l : Line) (w : List ℕ) (o : Option ℕ) → limit < 10 ^ 64
    → IsFormed (want_of word (WantedNumber.whole 1 limit ∷ []) meaning) l (w ∷ []) → positive_of limit w ≡ o
    → ((x states : ℕ) → x ≤ limit → T x states → w ≡ decimal x → Means meaning states (w ∷ []))
    → Judges (want_of word (WantedNumber.whole 1 limit ∷ []) meaning) T n l (or_number n 0 o)
number_step word limit n meaning T l w None wide f e say = (refl, w ∷ [], f, no_positive limit w wide e)
number_step word limit n meaning T l w (Some x) wide f e say =
    let p = positive_is limit w x wide e in
    record { words = w ∷ []; formed = f; numbers = ((x, p.0, p.1, p.2), tt); means = λ states t. say x states p.1 t p.2 }

one_number : (word : List ℕ) (limit n : ℕ) (meaning : Meaning) (T : ℕ → ℕ → Type 0) (l words : Line) → limit < 10 ^ 64 → IsFormed (want_of word (WantedNumber.whole 1 limit ∷ []) meaning) l words
    → ((x states : ℕ) (w : List ℕ) → x ≤ limit → T x states → w ≡ decimal x → Means meaning states (w ∷ []))
    → Judges (want_of word (WantedNumber.whole 1 limit ∷ []) meaning) T n l (or_number n 0 (positive_of limit (piece_at words 0)))
one_number word limit n meaning T l [] wide f say = let e = f.many in absurd (omega (arith, e))
one_number word limit n meaning T l (w ∷ []) wide f say = number_step word limit n meaning T l w (positive_of limit w) wide f refl (λ x states. say x states w)
one_number word limit n meaning T l (w ∷ v ∷ ws) wide f say = let e = f.many in absurd (omega (arith, e))

pub version_judged : (n : ℕ) (l : Line) → Judges version_line Anything n l (version_in n l)
version_judged n l =
    after_words version_line Anything n l (words_after (codes "dsv-state-space") 1 n l) (λ words. or_number n 0 (positive_of 1 (piece_at words 0))) (words_say version_line 1 n l refl)
    (λ words f. one_number (codes "dsv-state-space") 1 n Meaning.nothing Anything l words (omega arith) f (λ _ _ _ _ _ _. tt))

-- the number is that of the states
abbrev pub IsCount : ℕ → ℕ → Type 0
IsCount x states = x ≡ states

pub states_judged : (n : ℕ) (l : Line) → Judges states_line IsCount n l (states_in n l)
states_judged n l =
    after_words states_line IsCount n l (words_after (codes "states") 1 n l) (λ words. or_number n 0 (positive_of most_states (piece_at words 0))) (words_say states_line 1 n l refl)
    (λ words f. one_number (codes "states") most_states n Meaning.order IsCount l words (omega arith) f
    (λ x states w few t e. (ap (λ v. v ∷ []) (e ∙ ap decimal t), omega (arith, few, t))))

-- ---- the format
numeral_is : (limit : ℕ) (word : List ℕ) (x : ℕ) → limit < 10 ^ 64 → numeral_of limit word ≡ Some x → (x ≤ limit) × (word ≡ decimal x)
numeral_is limit word x wide e = (rw e at (numeral_within limit word), sym (decimal-numeral_of limit word x wide e))

no_numeral : (limit : ℕ) (word : List ℕ) → limit < 10 ^ 64 → numeral_of limit word ≡ None → IsWanted (WantedNumber.whole 0 limit) word → ⊥
no_numeral limit word wide e h = let both : Some h.0 ≡ None = sym (ap (numeral_of limit) h.3 ∙ numeral_of-decimal limit h.0 wide h.2) ∙ e in cc

pub same_decimal : (i k : ℕ) → i ≤ greatest_width → k ≤ greatest_width → decimal i ≡ decimal k → i ≡ k
same_decimal i k h g e =
    let both : Some i ≡ Some k = sym (numeral_of-decimal greatest_width i (omega arith) h) ∙ ap (numeral_of greatest_width) e ∙ numeral_of-decimal greatest_width k (omega arith) g in cc

-- words of other bits have another width
no_width : (a b : List ℕ) (i f : ℕ) → i ≤ greatest_int_bits → f ≤ greatest_frac_bits → a ≡ decimal i → b ≡ decimal f → is_width (i + f) ≡ false → HasWidth (a ∷ b ∷ []) → ⊥
no_width a b i f hi hf ea eb other h =
    let words = h.2 in
    let first : a ≡ decimal h.0 = cc in
    let second : b ≡ decimal h.1 = cc in
    let si : i ≡ h.0 = same_decimal i h.0 (omega (arith, hi)) (omega (arith, h.4)) (sym ea ∙ first) in
    let sf : f ≡ h.1 = same_decimal f h.1 (omega (arith, hf)) (omega (arith, h.4)) (sym eb ∙ second) in
    let wide : is_width (h.0 + h.1) ≡ true =
    and_from (nat_le least_width (h.0 + h.1)) (nat_le (h.0 + h.1) greatest_width) (grind (arith, nat_tests, h.3)) (grind (arith, nat_tests, h.4)) in
    let sum : i + f ≡ h.0 + h.1 = omega (arith, si, sf) in
    both_ways (is_width (i + f)) other (ap is_width sum ∙ wide)

width_step : (n : ℕ) (l : Line) (a b : List ℕ) (i f : ℕ) (w : Bool) → IsFormed format_line l (a ∷ b ∷ []) → (1 ≤ i) × (i ≤ greatest_int_bits) × (a ≡ decimal i) → (f ≤ greatest_frac_bits) × (b ≡ decimal f)
    → is_width (i + f) ≡ w → Judges {X = Format} format_line Anything n l (if w then Ok (record { int_bits = i; frac_bits = f }) else Err (refusal.Width n))
width_step n l a b i f true formed p q e =
    let k = and_parts (nat_le least_width (i + f)) (nat_le (i + f) greatest_width) e in
    let least : least_width ≤ i + f = leb-true least_width (i + f) k.0 in
    let most : i + f ≤ greatest_width = leb-true (i + f) greatest_width k.1 in
    let words : a ∷ b ∷ [] ≡ decimal i ∷ decimal f ∷ [] = ap (λ v. v ∷ b ∷ []) p.2 ∙ ap (λ v. decimal i ∷ v ∷ []) q.1 in
    record {
      words = a ∷ b ∷ [];
      formed = formed;
      numbers = ((i, p.0, p.1, p.2), ((f, omega arith, q.0, q.1), tt));
      means = λ _ _. (i, f, words, least, most);
    }
width_step n l a b i f false formed p q e =
    (refl, a ∷ b ∷ [], formed, ((i, p.0, p.1, p.2), ((f, omega arith, q.0, q.1), tt)), refl, no_width a b i f p.1 q.0 p.2 q.1 e)

frac_step : (n : ℕ) (l : Line) (a b : List ℕ) (i : ℕ) (o : Option ℕ) → IsFormed format_line l (a ∷ b ∷ []) → (1 ≤ i) × (i ≤ greatest_int_bits) × (a ≡ decimal i) → numeral_of greatest_frac_bits b ≡ o
    → Judges {X = Format} format_line Anything n l (or_number n 1 o >>= λ f. if is_width (i + f) then Ok (record { int_bits = i; frac_bits = f }) else Err (refusal.Width n))
frac_step n l a b i None formed p e = (refl, a ∷ b ∷ [], formed, ((i, p.0, p.1, p.2), no_numeral greatest_frac_bits b (omega arith) e))
frac_step n l a b i (Some f) formed p e = width_step n l a b i f (is_width (i + f)) formed p (numeral_is greatest_frac_bits b f (omega arith) e) refl

abbrev format_after : ℕ → List ℕ → Option ℕ → Result Format StateRefusal
format_after n b o =
    or_number n 0 o >>= λ i. or_number n 1 (numeral_of greatest_frac_bits b) >>= λ f. if is_width (i + f) then Ok (record { int_bits = i; frac_bits = f }) else Err (refusal.Width n)

int_step : (n : ℕ) (l : Line) (a b : List ℕ) (o : Option ℕ) → IsFormed format_line l (a ∷ b ∷ []) → positive_of greatest_int_bits a ≡ o → Judges format_line Anything n l (format_after n b o)
int_step n l a b None formed e = (refl, a ∷ b ∷ [], formed, no_positive greatest_int_bits a (omega arith) e)
int_step n l a b (Some i) formed e = frac_step n l a b i (numeral_of greatest_frac_bits b) formed (positive_is greatest_int_bits a i (omega arith) e) refl

two_numbers : (n : ℕ) (l words : Line) → IsFormed format_line l words → Judges format_line Anything n l (format_after n (piece_at words 1) (positive_of greatest_int_bits (piece_at words 0)))
two_numbers n l [] f = let e = f.many in absurd (omega (arith, e))
two_numbers n l (a ∷ []) f = let e = f.many in absurd (omega (arith, e))
two_numbers n l (a ∷ b ∷ []) f = int_step n l a b (positive_of greatest_int_bits a) f refl
two_numbers n l (a ∷ b ∷ c ∷ ws) f = let e = f.many in absurd (omega (arith, e))

pub format_judged : (n : ℕ) (l : Line) → Judges format_line Anything n l (format_in n l)
format_judged n l =
    after_words format_line Anything n l (words_after (codes "format") 2 n l) (λ words. format_after n (piece_at words 1) (positive_of greatest_int_bits (piece_at words 0)))
    (words_say format_line 2 n l refl) (two_numbers n l)

-- ---- decimals
no_decimal : (word : List ℕ) → bare_decimal word ≡ None → IsWanted WantedNumber.fraction word → ⊥
no_decimal word e h = let both : Some h.0 ≡ None = sym (bare_is word h.0 h.1) ∙ e in cc

-- the words are decimals, or there is a first one that isn't, of which so many stand before them
abbrev SayDecimals : ℕ → ℕ → Line → Result (List Ratio) StateRefusal → Type 0
SayDecimals n before words (Ok xs) = AreWanted (replicate (length words) WantedNumber.fraction) words
SayDecimals n before words (Err why) = (place : ℕ) × (why ≡ refusal.Number n (before + place)) × IsFirstOther (replicate (length words) WantedNumber.fraction) words place

one_more : (n before : ℕ) (word : List ℕ) (words : Line) (x : Ratio) (r : Result (List Ratio) StateRefusal) → bare_decimal word ≡ Some x → SayDecimals n (before + 1) words r
    → SayDecimals n before (word ∷ words) r
one_more n before word words x (Ok xs) e h = ((x, decimal_read word x e), h)
one_more n before word words x (Err why) e h =
    (suc h.0, h.1 ∙ ap (refusal.Number n) (omega arith), ((x, decimal_read word x e), h.2))

decimal_step : (n : ℕ) (xs : List Ratio) (word : List ℕ) (words : Line) (o : Option Ratio) → bare_decimal word ≡ o
    → ((x : Ratio) → SayDecimals n (length (xs ++ x ∷ [])) words (decimals_from n (xs ++ x ∷ []) words))
    → SayDecimals n (length xs) (word ∷ words) (or_number n (length xs) o >>= λ x. decimals_from n (xs ++ x ∷ []) words)
decimal_step n xs word words None e h = (zero, ap (refusal.Number n) (omega arith), no_decimal word e)
decimal_step n xs word words (Some x) e h =
    one_more n (length xs) word words x (decimals_from n (xs ++ x ∷ []) words) e
    (subst (λ k. SayDecimals n k words (decimals_from n (xs ++ x ∷ []) words)) (length-append xs (x ∷ [])) (h x))

decimals_say : (n : ℕ) (xs : List Ratio) (words : Line) → SayDecimals n (length xs) words (decimals_from n xs words)
decimals_say n xs [] = tt
decimals_say n xs (word ∷ words) = decimal_step n xs word words (bare_decimal word) refl (λ x. decimals_say n (xs ++ x ∷ []) words)

decimals_judged : (word : List ℕ) (count n : ℕ) (l words : Line) (r : Result (List Ratio) StateRefusal) → IsFormed (vector_line word count) l words
    → length words ≡ count → SayDecimals n 0 words r → Judges (vector_line word count) Anything n l r
decimals_judged word count n l words (Ok xs) f e h =
    record { words = words; formed = f; numbers = subst (λ k. AreWanted (replicate k WantedNumber.fraction) words) e h; means = λ _ _. tt }
decimals_judged word count n l words (Err why) f e h =
    subst (λ w. IsBad (vector_line word count) n l w) (sym (h.1 ∙ ap (refusal.Number n) (omega arith)))
    (refl, words, f, subst (λ k. IsFirstOther (replicate k WantedNumber.fraction) words h.0) e h.2)

pub vector_judged : (word : List ℕ) (count n : ℕ) (l : Line) → Judges (vector_line word count) Anything n l (vector_in word count n l)
vector_judged word count n l =
    let long = length-replicate count WantedNumber.fraction in
    after_words (vector_line word count) Anything n l (words_after word count n l) (decimals_from n []) (words_say (vector_line word count) count n l long)
    (λ words f. decimals_judged word count n l words (decimals_from n [] words) f (f.many ∙ long) (decimals_say n [] words))

-- what is made of the value
made : {X Y : Type 0} (want : WantedLine) (n : ℕ) (l : Line) (r : Result X StateRefusal) (h : X → Y) → Judges want Anything n l r → Judges want Anything n l (r >>= λ x. Ok (h x))
made want n l (Ok x) h k = record { words = k.words; formed = k.formed; numbers = k.numbers; means = λ states t. k.means states t }
made want n l (Err why) h k = k

pub range_judged : (n : ℕ) (l : Line) → Judges (vector_line (codes "range") 2) Anything n l (range_in n l)
range_judged n l = made (vector_line (codes "range") 2) n l (vector_in (codes "range") 2 n l) range_of (vector_judged (codes "range") 2 n l)

-- ---- the last line
end_step : (n : ℕ) (l : Line) (r : Result Line StateRefusal) → SayWords end_line n l r → Judges end_line Anything n l r
end_step n l (Ok []) f = record { words = []; formed = f; numbers = tt; means = λ _ _. tt }
end_step n l (Ok (w ∷ ws)) f = let e = f.many in absurd (omega (arith, e))
end_step n l (Err why) h = subst (λ w. IsBad end_line n l w) (sym h.0) (refl, h.1)

pub end_judged : (n : ℕ) (l : Line) → Judges end_line Anything n l (words_after (codes "end") 0 n l)
end_judged n l = end_step n l (words_after (codes "end") 0 n l) (words_say end_line 0 n l refl)
