-- Comment lines and a header line, step by step: what was taken, or where the text breaks off.
use Rattle.std.proofs.Common.{◌≡◌, ℕ, ◌+◌, ◌-◌, ◌^◌, ◌<◌, ◌≤◌, ◌==◌, true, List, [], ◌∷◌, ◌++◌, ◌⊎◌, inl, inr, Ok, Err, length, drop, codes, decimal, refl, arith, ap, sym, subst, ◌∙◌, append_assoc, length-append}
use Rattle.std.specs.Prelude.{Result}
use Rattle.std.proofs.lemmas.Bool.{eq-eqb}
use Rattle.std.proofs.lemmas.Fmt.{decimal_digit}
use Rattle.dsv_text.specs.Bytes.{is_digit}
use Rattle.dsv_text.specs.Stages.{and_then}
use Rattle.dsv_cnf.specs.Reading.{header_of, number_end, word_end}
use Rattle.dsv_cnf.specs.declared.reader.CnfRefusal.{CnfRefusal}
use Rattle.dsv_cnf.specs.declared.reader.CnfRefusal.TheVariants as refusal
use Rattle.dsv_cnf.specs.declared.reader.Header.{Header}
use Rattle.dsv_cnf.specs.declared.reader.Number.{Number}
use Rattle.dsv_cnf.proofs.HeaderSteps.{BeginsNot, WordStops, SaidWord, BeginsNoDigit, IsTooLarge, SaidNumber, number-taken, decimal-first}
use Rattle.dsv_cnf.proofs.ListLemmas.{cancel, first_same}

-- ---- the header by its steps, whatever the greatest numbers are

abbrev pub last_step : List ℕ → Number → Number → Result Header CnfRefusal
last_step bytes vars clauses =
    and_then (word_end (codes "\n") (drop clauses.end bytes) clauses.end) (λ end. Ok (record { vars = vars.value; clauses = clauses.value; end = end }))

abbrev pub clauses_step : ℕ → List ℕ → Number → ℕ → Result Header CnfRefusal
clauses_step most bytes vars c = and_then (number_end most (drop c bytes) c) (last_step bytes vars)

abbrev pub space_step : ℕ → List ℕ → Number → Result Header CnfRefusal
space_step most bytes vars = and_then (word_end (codes " ") (drop vars.end bytes) vars.end) (clauses_step most bytes vars)

abbrev pub vars_step : ℕ → ℕ → List ℕ → ℕ → Result Header CnfRefusal
vars_step most_vars most bytes v = and_then (number_end most_vars (drop v bytes) v) (space_step most bytes)

abbrev pub header_within : ℕ → ℕ → List ℕ → ℕ → Result Header CnfRefusal
header_within most_vars most bytes at = and_then (word_end (codes "p cnf ") (drop at bytes) at) (vars_step most_vars most bytes)

pub header-within : (bytes : List ℕ) (at : ℕ) → header_of bytes at ≡ header_within (2 ^ 31) (2 ^ 32 - 1) bytes at
header-within bytes at = refl

-- ---- texts

-- a word, and then a text of the property
abbrev pub WordThen : List ℕ → (List ℕ → Type 0) → List ℕ → Type 0
WordThen word L text = (rest : List ℕ) × (text ≡ word ++ rest) × L rest

-- a number of at most this, and then a text of the property
abbrev pub NumberThen : ℕ → (List ℕ → Type 0) → List ℕ → Type 0
NumberThen most L text = (n : ℕ) × (n ≤ most) × (rest : List ℕ) × (text ≡ decimal n ++ rest) × L rest

abbrev pub IsEmpty : List ℕ → Type 0
IsEmpty text = text ≡ []

-- no byte that stands next may follow the bytes before
abbrev pub Refuses : (List ℕ → Type 0) → List ℕ → List ℕ → Type 0
Refuses W front [] = Unit {0}
Refuses W front (b ∷ bs) = (more : List ℕ) → W (front ++ b ∷ more) → ⊥

-- The first bytes, so many, begin a text of the one property, and with the next byte none of the
-- other.
pub record IsStuck (L W : List ℕ → Type 0) (text : List ℕ) (k : ℕ) : Type 0 where
  pub front : List ℕ
  pub rest : List ℕ
  pub split : text ≡ front ++ rest
  pub place : k ≡ length front
  pub next : ℕ
  pub more : List ℕ
  pub begins : L (front ++ next ∷ more)
  pub refuses : Refuses W front rest

-- the fault is after a word
abbrev pub AfterWord : List ℕ → (List ℕ → ℕ → Type 0) → List ℕ → ℕ → Type 0
AfterWord word B text k = (rest : List ℕ) × (text ≡ word ++ rest) × (j : ℕ) × (k ≡ length word + j) × B rest j

-- the fault is a number that is too large, or is after a number
abbrev pub InNumber : ℕ → (List ℕ → ℕ → Type 0) → List ℕ → ℕ → Type 0
InNumber most B text k = ((k ≡ 0) × IsTooLarge most text) ⊎ ((n : ℕ) × (n ≤ most) × (rest : List ℕ) × (text ≡ decimal n ++ rest) × (j : ℕ) × (k ≡ length (decimal n) + j) × B rest j)

abbrev pub NoFault : List ℕ → ℕ → Type 0
NoFault text k = ⊥

-- What is read of a text: the header, whose text is a function of it, or the place of a fault.
abbrev pub HeaderOutcome : (Header → List ℕ) → (Header → Type 0) → (List ℕ → ℕ → Type 0) → List ℕ → ℕ → Result Header CnfRefusal → Type 0
HeaderOutcome F P S text at (Ok h) = (body : List ℕ) × (text ≡ F h ++ body) × (h.end ≡ at + length (F h)) × P h
HeaderOutcome F P S text at (Err e) = (k : ℕ) × (e ≡ refusal.Header (at + k)) × S text k

abbrev pub Fault : (List ℕ → Type 0) → (List ℕ → Type 0) → (List ℕ → ℕ → Type 0) → List ℕ → ℕ → Type 0
Fault L W B text k = IsStuck L W text k ⊎ B text k

-- ---- a step over a word

stuck-in_word : (L W : List ℕ → Type 0) (word text z : List ℕ) (k : ℕ) → L z → WordStops word text k → IsStuck (WordThen word L) (WordThen word W) text k
stuck-in_word L W word text z k l s = record {
  front = s.front;
  rest = s.rest;
  split = s.split;
  place = s.place;
  next = s.wanted;
  more = s.more ++ z;
  begins = (z, sym (append_assoc s.front (s.wanted ∷ s.more) z) ∙ ap (λ t. t ++ z) (sym s.is_word), l);
  refuses = word_refuses word s.front s.wanted s.more s.rest s.is_word s.other;
}
  where
    word_refuses : (word front : List ℕ) (wanted : ℕ) (more rest : List ℕ) → word ≡ front ++ wanted ∷ more → BeginsNot wanted rest → Refuses (WordThen word W) front rest
    word_refuses word front wanted more [] e h = tt
    word_refuses word front wanted more (b ∷ bs) e h = λ m w.
        let f : front ++ b ∷ m ≡ front ++ wanted ∷ (more ++ w.0) = w.1 ∙ ap (λ t. t ++ w.0) e ∙ append_assoc front (wanted ∷ more) w.0 in
        let g : b ∷ m ≡ wanted ∷ (more ++ w.0) = cancel front (b ∷ m) (wanted ∷ (more ++ w.0)) f in
        let same : (b == wanted) ≡ true = eq-eqb b wanted (first_same b wanted m (more ++ w.0) g) in
        absurd (cc)

stuck-after_word : (L W : List ℕ → Type 0) (word text rest : List ℕ) (j : ℕ) → text ≡ word ++ rest → IsStuck L W rest j → IsStuck (WordThen word L) (WordThen word W) text (length word + j)
stuck-after_word L W word text rest j e s = record {
  front = word ++ s.front;
  rest = s.rest;
  split = e ∙ ap (λ t. word ++ t) s.split ∙ sym (append_assoc word s.front s.rest);
  place = let p = s.place in omega (arith, p, length-append word s.front);
  next = s.next;
  more = s.more;
  begins = (s.front ++ s.next ∷ s.more, append_assoc word s.front (s.next ∷ s.more), s.begins);
  refuses = later_refuses word s.front s.rest s.refuses;
}
  where
    later_refuses : (word front rest : List ℕ) → Refuses W front rest → Refuses (WordThen word W) (word ++ front) rest
    later_refuses word front [] h = tt
    later_refuses word front (b ∷ bs) h = λ m w.
        let f : front ++ b ∷ m ≡ w.0 = cancel word (front ++ b ∷ m) w.0 (sym (append_assoc word front (b ∷ m)) ∙ w.1) in
        h m (subst W (sym f) w.2)

fault-after_word : (L W : List ℕ → Type 0) (B : List ℕ → ℕ → Type 0) (word text rest : List ℕ) (j : ℕ) → text ≡ word ++ rest → Fault L W B rest j
    → Fault (WordThen word L) (WordThen word W) (AfterWord word B) text (length word + j)
fault-after_word L W B word text rest j e (inl s) = inl (stuck-after_word L W word text rest j e s)
fault-after_word L W B word text rest j e (inr b) = inr (rest, e, j, refl, b)

outcome-later : (F : Header → List ℕ) (P : Header → Type 0) (L W : List ℕ → Type 0) (B : List ℕ → ℕ → Type 0) (word text rest : List ℕ) (at : ℕ) (o : Result Header CnfRefusal) → text ≡ word ++ rest
    → HeaderOutcome F P (Fault L W B) rest (at + length word) o → HeaderOutcome (λ h. word ++ F h) P (Fault (WordThen word L) (WordThen word W) (AfterWord word B)) text at o
outcome-later F P L W B word text rest at (Ok h) e s =
    let p = s.2 in
    (s.0, e ∙ ap (λ t. word ++ t) s.1 ∙ sym (append_assoc word (F h) s.0), omega (arith, p, length-append word (F h)), s.3)
outcome-later F P L W B word text rest at (Err r) e s =
    let n : at + length word + s.0 ≡ at + (length word + s.0) = omega arith in
    (length word + s.0, s.1 ∙ ap refusal.Header n, fault-after_word L W B word text rest s.0 e s.2)

pub outcome-word : (F : Header → List ℕ) (P : Header → Type 0) (L W : List ℕ → Type 0) (B : List ℕ → ℕ → Type 0) (word text z : List ℕ) (at : ℕ) (a : Result ℕ CnfRefusal) (K : ℕ → Result Header CnfRefusal)
    → L z → SaidWord word text at a → ((rest : List ℕ) → text ≡ word ++ rest → HeaderOutcome F P (Fault L W B) rest (at + length word) (K (at + length word)))
    → HeaderOutcome (λ h. word ++ F h) P (Fault (WordThen word L) (WordThen word W) (AfterWord word B)) text at (and_then a K)
outcome-word F P L W B word text z at (Ok end) K l s tail =
    let Q : ℕ → Type 0 = λ n. HeaderOutcome (λ h. word ++ F h) P (Fault (WordThen word L) (WordThen word W) (AfterWord word B)) text at (K n) in
    subst Q (sym s.2) (outcome-later F P L W B word text s.0 at (K (at + length word)) s.1 (tail s.0 s.1))
outcome-word F P L W B word text z at (Err e) K l s tail = (s.0, s.1, inl (stuck-in_word L W word text z s.0 l s.2))

-- ---- a step over a number

-- the property's texts have a first byte, and that is no digit
abbrev pub FirstNoDigit : (List ℕ → Type 0) → Type 0
FirstNoDigit W = (text : List ℕ) → W text → (0 < length text) × BeginsNoDigit text

numbers_same : (n v e f : ℕ) → ◌≡◌ {A = Result Number CnfRefusal} (Ok (record { value = n; end = e })) (Ok (record { value = v; end = f })) → n ≡ v
numbers_same n v e f h = ap value_in h
  where
    value_in : Result Number CnfRefusal → ℕ
    value_in (Ok m) = m.value
    value_in (Err r) = 0

-- a number and what comes after are those that stand there
same_number : (most n v c : ℕ) (cs rest : List ℕ) → most < 2 ^ 64 → n ≤ most → v ≤ most → (n ≡ 0) ⊎ BeginsNoDigit (c ∷ cs) → 0 < length rest → BeginsNoDigit rest
    → decimal n ++ c ∷ cs ≡ decimal v ++ rest → n ≡ v
same_number most n v c cs [] wide le lv h some k e = absurd (omega (arith, some))
same_number most n v c cs (d ∷ ds) wide le lv h some k e =
    let f = number-taken most n c cs 0 wide le h in
    let g = number-taken most v d ds 0 wide lv (inr k) in
    numbers_same n v (0 + length (decimal n)) (0 + length (decimal v)) (sym f ∙ ap (λ t. number_end most t 0) e ∙ g)

-- the byte after `front` decides nothing of what stands before it
whole_front : (n : ℕ) (front : List ℕ) (b : ℕ) (bs more : List ℕ) → (n ≡ 0) ⊎ BeginsNoDigit (front ++ b ∷ bs) → (n ≡ 0) ⊎ BeginsNoDigit (front ++ b ∷ more)
whole_front n front b bs more (inl z) = inl z
whole_front n [] b bs more (inr h) = inr h
whole_front n (c ∷ cs) b bs more (inr h) = inr h

-- a text with a byte after `front` begins with a byte
split_front : (front : List ℕ) (b : ℕ) (more : List ℕ) → (c : ℕ) × (cs : List ℕ) × (front ++ b ∷ more ≡ c ∷ cs)
split_front [] b more = (b, more, refl)
split_front (c ∷ cs) b more = (c, cs ++ b ∷ more, refl)

number_refuses : (W : List ℕ → Type 0) (most n : ℕ) (front rest : List ℕ) → FirstNoDigit W → most < 2 ^ 64 → n ≤ most → (n ≡ 0) ⊎ BeginsNoDigit (front ++ rest) → Refuses W front rest → Refuses (NumberThen most W) (decimal n ++ front) rest
number_refuses W most n front [] first wide le h r = tt
number_refuses W most n front (b ∷ bs) first wide le h r = λ m w.
    let v = w.0 in
    let t = w.2 in
    let y = front ++ b ∷ m in
    let f : decimal n ++ y ≡ decimal v ++ t = sym (append_assoc (decimal n) front (b ∷ m)) ∙ w.3 in
    let k = split_front front b m in
    let tail = first t w.4 in
    let whole : (n ≡ 0) ⊎ BeginsNoDigit (k.0 ∷ k.1) = subst (λ s. (n ≡ 0) ⊎ BeginsNoDigit s) k.2 (whole_front n front b bs m h) in
    let same : n ≡ v = same_number most n v k.0 k.1 t wide le w.1 whole tail.0 tail.1 (ap (λ s. decimal n ++ s) (sym k.2) ∙ f) in
    let g : y ≡ t = cancel (decimal n) y t (f ∙ ap (λ (x : ℕ). decimal x ++ t) (sym same)) in
    r m (subst W (sym g) w.4)

stuck-after_number : (L W : List ℕ → Type 0) (limit most n : ℕ) (text rest : List ℕ) (j : ℕ) → FirstNoDigit W → most < 2 ^ 64 → limit ≤ most → n ≤ limit → text ≡ decimal n ++ rest → (n ≡ 0) ⊎ BeginsNoDigit rest
    → IsStuck L W rest j → IsStuck (NumberThen limit L) (NumberThen most W) text (length (decimal n) + j)
stuck-after_number L W limit most n text rest j first wide fits le e whole s = record {
  front = decimal n ++ s.front;
  rest = s.rest;
  split = e ∙ ap (λ t. decimal n ++ t) s.split ∙ sym (append_assoc (decimal n) s.front s.rest);
  place = let p = s.place in omega (arith, p, length-append (decimal n) s.front);
  next = s.next;
  more = s.more;
  begins = (n, le, s.front ++ s.next ∷ s.more, append_assoc (decimal n) s.front (s.next ∷ s.more), s.begins);
  refuses = number_refuses W most n s.front s.rest first wide (omega (arith, le, fits)) (subst (λ t. (n ≡ 0) ⊎ BeginsNoDigit t) s.split whole) s.refuses;
}

stuck-no_number : (L W : List ℕ → Type 0) (limit most : ℕ) (text z : List ℕ) → most < 2 ^ 64 → L z → BeginsNoDigit text → IsStuck (NumberThen limit L) (NumberThen most W) text 0
stuck-no_number L W limit most text z wide l h =
    let zero : decimal 0 ≡ 48 ∷ [] = decimal_digit 0 (omega arith) in
    record {
      front = [];
      rest = text;
      split = refl;
      place = refl;
      next = 48;
      more = z;
      begins = (0, omega arith, z, ap (λ t. t ++ z) (sym zero), l);
      refuses = none_refuses text h;
    }
  where
    none_refuses : (text : List ℕ) → BeginsNoDigit text → Refuses (NumberThen most W) [] text
    none_refuses [] h = tt
    none_refuses (b ∷ bs) h = λ m w.
        let le = w.1 in
        let d : is_digit b ≡ true = decimal-first w.0 b w.2 m (omega (arith, le, wide)) w.3 in
        absurd (cc)

fault-after_number : (L W : List ℕ → Type 0) (B : List ℕ → ℕ → Type 0) (limit most n : ℕ) (text rest : List ℕ) (j : ℕ) → FirstNoDigit W → most < 2 ^ 64 → limit ≤ most → n ≤ limit → text ≡ decimal n ++ rest
    → (n ≡ 0) ⊎ BeginsNoDigit rest → Fault L W B rest j → Fault (NumberThen limit L) (NumberThen most W) (InNumber limit B) text (length (decimal n) + j)
fault-after_number L W B limit most n text rest j first wide fits le e whole (inl s) = inl (stuck-after_number L W limit most n text rest j first wide fits le e whole s)
fault-after_number L W B limit most n text rest j first wide fits le e whole (inr b) = inr (inr (n, le, rest, e, j, refl, b))

-- where the rest says of the header what its number is
outcome-counted : (F : Header → List ℕ) (P Q : Header → Type 0) (g : Header → ℕ) (L W : List ℕ → Type 0) (B : List ℕ → ℕ → Type 0) (limit most n : ℕ) (text rest : List ℕ) (at : ℕ) (o : Result Header CnfRefusal)
    → FirstNoDigit W → most < 2 ^ 64 → limit ≤ most → n ≤ limit → text ≡ decimal n ++ rest → (n ≡ 0) ⊎ BeginsNoDigit rest → ((h : Header) → P h → (g h ≡ n) × Q h)
    → HeaderOutcome F P (Fault L W B) rest (at + length (decimal n)) o → HeaderOutcome (λ h. decimal (g h) ++ F h) Q (Fault (NumberThen limit L) (NumberThen most W) (InNumber limit B)) text at o
outcome-counted F P Q g L W B limit most n text rest at (Ok h) first wide fits le e whole is s =
    let p = s.2 in
    let i = is h s.3 in
    let same : decimal n ≡ decimal (g h) = ap decimal (sym i.0) in
    let len : length (decimal n) ≡ length (decimal (g h)) = ap (λ t. length t) same in (
      s.0,
      e ∙ ap (λ t. decimal n ++ t) s.1 ∙ sym (append_assoc (decimal n) (F h) s.0) ∙ ap (λ t. t ++ F h ++ s.0) same,
      omega (arith, p, len, length-append (decimal (g h)) (F h)),
      i.1,
    )
outcome-counted F P Q g L W B limit most n text rest at (Err r) first wide fits le e whole is s =
    let k : at + length (decimal n) + s.0 ≡ at + (length (decimal n) + s.0) = omega arith in
    (length (decimal n) + s.0, s.1 ∙ ap refusal.Header k, fault-after_number L W B limit most n text rest s.0 first wide fits le e whole s.2)

pub outcome-number : (F : Header → List ℕ) (P : Number → Header → Type 0) (Q : Header → Type 0) (g : Header → ℕ) (L W : List ℕ → Type 0) (B : List ℕ → ℕ → Type 0) (limit most : ℕ) (text z : List ℕ) (at : ℕ) (a : Result Number CnfRefusal)
    (K : Number → Result Header CnfRefusal) → FirstNoDigit W → most < 2 ^ 64 → limit ≤ most → L z → SaidNumber limit text at a → ((n : Number) (h : Header) → n.value ≤ limit → P n h → (g h ≡ n.value) × Q h)
    → ((n : Number) (rest : List ℕ) → text ≡ decimal n.value ++ rest → n.end ≡ at + length (decimal n.value) → HeaderOutcome F (P n) (Fault L W B) rest (at + length (decimal n.value)) (K n))
    → HeaderOutcome (λ h. decimal (g h) ++ F h) Q (Fault (NumberThen limit L) (NumberThen most W) (InNumber limit B)) text at (and_then a K)
outcome-number F P Q g L W B limit most text z at (Ok n) K first wide fits l s is tail =
    outcome-counted F (P n) Q g L W B limit most n.value text s.rest at (K n) first wide fits s.small s.split s.whole (λ h p. is n h s.small p) (tail n s.rest s.split s.place)
outcome-number F P Q g L W B limit most text z at (Err e) K first wide fits l s is tail =
    let n : at ≡ at + 0 = omega arith in (
      0,
      s.0 ∙ ap refusal.Header n,
      elim s.1 [
        | inl h ↦ inl (stuck-no_number L W limit most text z wide l h)
        | inr h ↦ inr (inl (refl, h))
      ],
    )
