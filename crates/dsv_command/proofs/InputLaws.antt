-- The inputs of a text, by the rules and by what stands between its commas.
use Rattle.std.proofs.Common.{◌≡◌, ℕ, suc, ◌≤◌, Bool, true, false, not, ◌||◌, ◌&&◌, List, [], ◌∷◌, ◌++◌, length, drop, Option, Some, None, ℤ, refl, sym, ap, subst, ◌∙◌, arith}
use Rattle.std.specs.Prelude.{◌==◌, nat_le, if◌then◌else◌, option_map, option_and_then, pos}
use Rattle.std.specs.List.{list_any}
use Rattle.std.proofs.lemmas.Bool.{leb-true, le-leb}
use Rattle.std.proofs.lemmas.Bool.Decides.{nat_tests}
use Rattle.dsv_text.specs.Bytes.{has_byte, is_digit}
use Rattle.dsv_text.specs.Digits.{digits_len, digits_value, short_number}
use Rattle.dsv_fraction.specs.Arithmetic.{with_sign}
use Rattle.dsv_command.specs.Inputs.{most_inputs, most_digits, comma, minus, is_comma, onto_first, pieces, after_minus, input_of, all_inputs, inputs_of}
use Rattle.dsv_command.specs.Rules.{IsInput, AreNumbers, AreInputs}

-- ---- digits
-- the text is digits alone
abbrev AllDigits : List ℕ → Type 0
AllDigits text = digits_len text ≡ length text

record IsDigitFirst (b : ℕ) (bs : List ℕ) : Type 0 where
  pub first : is_digit b ≡ true
  pub others : AllDigits bs

digits_by : (b : ℕ) (bs : List ℕ) (x : Bool) → is_digit b ≡ x → elim x [ true ↦ suc (digits_len bs) | false ↦ 0 ] ≡ suc (length bs) → IsDigitFirst b bs
digits_by b bs true e h = record { first = e; others = omega arith }
digits_by b bs false e h = absurd (omega arith)

digit_first : (b : ℕ) (bs : List ℕ) → AllDigits (b ∷ bs) → IsDigitFirst b bs
digit_first b bs h = digits_by b bs (is_digit b) refl h

digits_in : (text : List ℕ) (n : ℕ) (a b c : Bool) → (digits_len text == length text) ≡ b → (if a && b && c then Some (digits_value 0 text) else None) ≡ Some n → AllDigits text
digits_in text n a true c e h = grind (arith, e, nat_tests)
digits_in text n true false c e h = absurd (cc)
digits_in text n false false c e h = absurd (cc)

-- a short number is digits alone
short_digits : (text : List ℕ) (n : ℕ) → short_number most_digits text ≡ Some n → AllDigits text
short_digits text n h = digits_in text n (not (length text == 0)) (digits_len text == length text) (nat_le (length text) most_digits) refl h

no_minus_first : (b : ℕ) → is_digit b ≡ true → (b == minus) ≡ false
no_minus_first b h = grind (arith, nat_tests)

no_comma_first : (b : ℕ) → is_digit b ≡ true → is_comma b ≡ false
no_comma_first b h = grind (arith, nat_tests)

no_minus : (text : List ℕ) → AllDigits text → has_byte minus text ≡ false
no_minus [] h = refl
no_minus (b ∷ bs) h = no_minus_first b (digit_first b bs h).first

pub no_or : (a b : Bool) → a ≡ false → b ≡ false → (a || b) ≡ false
no_or false false e f = refl
no_or true b e f = absurd (cc)
no_or false true e f = absurd (cc)

no_comma : (text : List ℕ) → AllDigits text → list_any is_comma text ≡ false
no_comma [] h = refl
no_comma (b ∷ bs) h = let d = digit_first b bs h in no_or (is_comma b) (list_any is_comma bs) (no_comma_first b d.first) (no_comma bs d.others)

-- ---- one input
input_by : (b : Bool) (text : List ℕ) (n : ℕ) → has_byte minus text ≡ b → short_number most_digits (drop (if b then 1 else 0) text) ≡ Some n → input_of text ≡ Some (with_sign b n)
input_by b text n e h = rw (e, h) refl

input_read : (text : List ℕ) (n : ℤ) → IsInput text n → input_of text ≡ Some n
input_read text n (IsInput.positive t m h) = input_by false t m (no_minus t (short_digits t m h)) h
input_read text n (IsInput.negative t digits m e h) = ap input_of e ∙ input_by true (minus ∷ digits) m refl h

pub same_byte : (a b : ℕ) → (a == b) ≡ true → a ≡ b
same_byte a b h = grind (arith, nat_tests)

found_by : (text : List ℕ) (n : ℤ) (b : Bool) (found : Option ℕ) → short_number most_digits (drop (if b then 1 else 0) text) ≡ found → has_byte minus text ≡ b → option_map (with_sign b) found ≡ Some n → IsInput text n
found_by text n b None e f h = absurd (cc)
found_by text n false (Some m) e f h = let same : pos m ≡ n = cc in subst (IsInput text) same (IsInput.positive text m e)
found_by [] n true (Some m) e f h = absurd (cc)
found_by (c ∷ cs) n true (Some m) e f h =
    let same : with_sign true m ≡ n = cc in
    subst (IsInput (c ∷ cs)) same (IsInput.negative (c ∷ cs) cs m (ap (λ x. x ∷ cs) (same_byte c minus f)) e)

input_found : (text : List ℕ) (n : ℤ) → input_of text ≡ Some n → IsInput text n
input_found text n h = found_by text n (has_byte minus text) (short_number most_digits (after_minus text)) refl refl h

input_has_no_comma : (text : List ℕ) (n : ℤ) → IsInput text n → list_any is_comma text ≡ false
input_has_no_comma text n (IsInput.positive t m h) = no_comma t (short_digits t m h)
input_has_no_comma text n (IsInput.negative t digits m e h) = ap (list_any is_comma) e ∙ no_comma digits (short_digits digits m h)

-- ---- pieces
pub record NoneFirst (a b : Bool) : Type 0 where
  pub first : a ≡ false
  pub others : b ≡ false

none_of : (a b : Bool) → (a || b) ≡ false → NoneFirst a b
none_of false b h = record { first = refl; others = h }
none_of true b h = absurd (cc)

onto_by : (b : ℕ) (bs p : List ℕ) (ps : List (List ℕ)) → is_comma b ≡ false → pieces bs ≡ p ∷ ps → pieces (b ∷ bs) ≡ (b ∷ p) ∷ ps
onto_by b bs p ps e f = rw (e, f) refl

pub joined_pieces : (first rest : List ℕ) → list_any is_comma first ≡ false → pieces (first ++ comma ∷ rest) ≡ first ∷ pieces rest
joined_pieces [] rest e = refl
joined_pieces (b ∷ bs) rest e =
    let h = none_of (is_comma b) (list_any is_comma bs) e in onto_by b (bs ++ comma ∷ rest) bs (pieces rest) h.first (joined_pieces bs rest h.others)

pub one_piece : (text : List ℕ) → list_any is_comma text ≡ false → pieces text ≡ text ∷ []
one_piece [] e = refl
one_piece (b ∷ bs) e = let h = none_of (is_comma b) (list_any is_comma bs) e in onto_by b bs bs [] h.first (one_piece bs h.others)

-- ---- from the rules to the pieces
record AllRead (ps : List (List ℕ)) (ns : List ℤ) : Type 0 where
  pub numbers : all_inputs ps ≡ Some ns
  pub many : length ps ≡ length ns

read_more : (p : List ℕ) (ps : List (List ℕ)) (n : ℤ) (ns : List ℤ) → input_of p ≡ Some n → AllRead ps ns → AllRead (p ∷ ps) (n ∷ ns)
read_more p ps n ns e h = record { numbers = rw (e, h.numbers) refl; many = let m = h.many in omega arith }

numbers_read : (text : List ℕ) (ns : List ℤ) → AreNumbers text ns → AllRead (pieces text) ns
numbers_read text ns (AreNumbers.last t n h) =
    rw (one_piece t (input_has_no_comma t n h)) (read_more t [] n [] (input_read t n h) (record { numbers = refl; many = refl }))
numbers_read text ns (AreNumbers.more t first rest n ms e h g) =
    rw (ap pieces e ∙ joined_pieces first rest (input_has_no_comma first n h)) (read_more first (pieces rest) n ms (input_read first n h) (numbers_read rest ms g))

few_read : (text : List ℕ) (ns : List ℤ) → AllRead (pieces text) ns → length ns ≤ most_inputs → inputs_of text ≡ Some ns
few_read text ns h few = let m = h.many in rw (le-leb (length (pieces text)) most_inputs (omega arith)) h.numbers

pub inputs_read : (text : List ℕ) (ns : List ℤ) → AreInputs text ns → inputs_of text ≡ Some ns
inputs_read text ns h = few_read text ns (numbers_read text ns h.numbers) h.few

-- ---- from the pieces to the rules

-- the text is cut by its first comma
record IsCut (text p : List ℕ) (ps : List (List ℕ)) : Type 0 where
  pub rest : List ℕ
  pub same : text ≡ p ++ comma ∷ rest
  pub others : pieces rest ≡ ps

comma_cut : (b : ℕ) (bs p q : List ℕ) (qs : List (List ℕ)) → is_comma b ≡ true → [] ∷ pieces bs ≡ p ∷ q ∷ qs → IsCut (b ∷ bs) p (q ∷ qs)
comma_cut b bs p q qs e h =
    let none : [] ≡ p = cc in
    let same : b ≡ comma = same_byte b comma e in
    record { rest = bs; same = ap (λ x. x ∷ bs) same ∙ ap (λ x. x ++ comma ∷ bs) none; others = cc }

other_cut : (b : ℕ) (bs p q : List ℕ) (qs : List (List ℕ)) (ps : List (List ℕ)) → pieces bs ≡ ps → ((x : List ℕ) → pieces bs ≡ x ∷ q ∷ qs → IsCut bs x (q ∷ qs)) →
    onto_first b ps ≡ p ∷ q ∷ qs → IsCut (b ∷ bs) p (q ∷ qs)
other_cut b bs p q qs [] e ih h = absurd (cc)
other_cut b bs p q qs (x ∷ ps) e ih h =
    let first : b ∷ x ≡ p = cc in
    let others : ps ≡ q ∷ qs = cc in
    let c = ih x (e ∙ ap (λ xs. x ∷ xs) others) in
    record { rest = c.rest; same = ap (λ xs. b ∷ xs) c.same ∙ ap (λ xs. xs ++ comma ∷ c.rest) first; others = c.others }

cut_by : (b : ℕ) (bs p q : List ℕ) (qs : List (List ℕ)) (c : Bool) → is_comma b ≡ c → ((x : List ℕ) → pieces bs ≡ x ∷ q ∷ qs → IsCut bs x (q ∷ qs)) →
    (if c then [] ∷ pieces bs else onto_first b (pieces bs)) ≡ p ∷ q ∷ qs → IsCut (b ∷ bs) p (q ∷ qs)
cut_by b bs p q qs true e ih h = comma_cut b bs p q qs e h
cut_by b bs p q qs false e ih h = other_cut b bs p q qs (pieces bs) refl ih h

cut_first : (text p q : List ℕ) (qs : List (List ℕ)) → pieces text ≡ p ∷ q ∷ qs → IsCut text p (q ∷ qs)
cut_first [] p q qs h = absurd (cc)
cut_first (b ∷ bs) p q qs h = cut_by b bs p q qs (is_comma b) refl (λ x. cut_first bs x q qs) h

pub some_piece : (text : List ℕ) → pieces text ≡ [] → ⊥
some_piece [] h = cc
some_piece (b ∷ bs) h = some_by b bs (is_comma b) (pieces bs) h
  where
    some_by : (b : ℕ) (bs : List ℕ) (c : Bool) (ps : List (List ℕ)) → (if c then [] ∷ pieces bs else onto_first b ps) ≡ [] → ⊥
    some_by b bs true ps h = cc
    some_by b bs false [] h = cc
    some_by b bs false (p ∷ ps) h = cc

alone_by : (b : ℕ) (bs p : List ℕ) (c : Bool) (ps : List (List ℕ)) → pieces bs ≡ ps → ((x : List ℕ) → pieces bs ≡ x ∷ [] → bs ≡ x) → (if c then [] ∷ ps else onto_first b ps) ≡ p ∷ [] → b ∷ bs ≡ p
alone_by b bs p true ps e ih h = let none : ps ≡ [] = cc in absurd (some_piece bs (e ∙ none))
alone_by b bs p false [] e ih h = absurd (some_piece bs e)
alone_by b bs p false (x ∷ ps) e ih h =
    let none : ps ≡ [] = cc in
    let same : b ∷ x ≡ p = cc in
    ap (λ xs. b ∷ xs) (ih x (e ∙ ap (λ xs. x ∷ xs) none)) ∙ same

alone : (text p : List ℕ) → pieces text ≡ p ∷ [] → text ≡ p
alone [] p h = cc
alone (b ∷ bs) p h = alone_by b bs p (is_comma b) (pieces bs) refl (alone bs) h

-- the number of the first piece, and those of the others
record MoreFound (p : List ℕ) (ps : List (List ℕ)) (ns : List ℤ) : Type 0 where
  pub n : ℤ
  pub others : List ℤ
  pub first : input_of p ≡ Some n
  pub rest : all_inputs ps ≡ Some others
  pub same : n ∷ others ≡ ns

found_more : (p : List ℕ) (ps : List (List ℕ)) (ns : List ℤ) (x : Option ℤ) (y : Option (List ℤ)) → input_of p ≡ x → all_inputs ps ≡ y →
    option_and_then (λ first. option_map (λ others. first ∷ others) y) x ≡ Some ns → MoreFound p ps ns
found_more p ps ns None y e f h = absurd (cc)
found_more p ps ns (Some n) None e f h = absurd (cc)
found_more p ps ns (Some n) (Some others) e f h = record { n = n; others = others; first = e; rest = f; same = cc }

more_found : (p : List ℕ) (ps : List (List ℕ)) (ns : List ℤ) → all_inputs (p ∷ ps) ≡ Some ns → MoreFound p ps ns
more_found p ps ns h = found_more p ps ns (input_of p) (all_inputs ps) refl refl h

last_found : (text p : List ℕ) (ns : List ℤ) → text ≡ p → MoreFound p [] ns → AreNumbers text ns
last_found text p ns e m =
    let none : [] ≡ m.others = let r = m.rest in cc in
    let same : m.n ∷ [] ≡ ns = ap (λ xs. m.n ∷ xs) none ∙ m.same in
    subst (AreNumbers text) same (AreNumbers.last text m.n (subst (λ x. IsInput x m.n) (sym e) (input_found p m.n m.first)))

cut_found : (text p : List ℕ) (ps : List (List ℕ)) (ns : List ℤ) (c : IsCut text p ps) (m : MoreFound p ps ns) → AreNumbers c.rest m.others → AreNumbers text ns
cut_found text p ps ns c m h = subst (AreNumbers text) m.same (AreNumbers.more text p c.rest m.n m.others c.same (input_found p m.n m.first) h)

numbers_found : (ps : List (List ℕ)) (text : List ℕ) (ns : List ℤ) → pieces text ≡ ps → all_inputs ps ≡ Some ns → AreNumbers text ns
numbers_found [] text ns e h = absurd (some_piece text e)
numbers_found (p ∷ []) text ns e h = last_found text p ns (alone text p e) (more_found p [] ns h)
numbers_found (p ∷ q ∷ qs) text ns e h =
    let c = cut_first text p q qs e in
    let m = more_found p (q ∷ qs) ns h in
    cut_found text p (q ∷ qs) ns c m (numbers_found (q ∷ qs) c.rest m.others c.others m.rest)

inputs_by : (text : List ℕ) (ns : List ℤ) (b : Bool) → nat_le (length (pieces text)) most_inputs ≡ b → (if b then all_inputs (pieces text) else None) ≡ Some ns → AreInputs text ns
inputs_by text ns false e h = absurd (cc)
inputs_by text ns true e h =
    let found = numbers_found (pieces text) text ns refl h in
    let few : length (pieces text) ≤ most_inputs = leb-true (length (pieces text)) most_inputs e in
    let m = (numbers_read text ns found).many in
    record { numbers = found; few = omega arith }

pub inputs_found : (text : List ℕ) (ns : List ℤ) → inputs_of text ≡ Some ns → AreInputs text ns
inputs_found text ns h = inputs_by text ns (nat_le (length (pieces text)) most_inputs) refl h
