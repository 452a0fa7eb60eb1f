-- Which texts are free names: the names of locals and of members.
use Rattle.std.proofs.Common.{◌≡◌, ℕ, ◌-◌, ◌^◌, ◌<◌, ◌≤◌, Bool, true, false, List, [], ◌∷◌, ◌++◌, length, take, drop, refl, sym, ap, ◌∙◌, arith, decimal}
use Rattle.std.specs.Prelude.{codes, not, nat_lt, ◌||◌, ◌&&◌, Option, Some, None}
use Rattle.std.specs.List.{list_any, list_all}
use Rattle.std.specs.Str.{bytes_eq}
use Rattle.std.proofs.lemmas.Bool.{and_parts, or_parts, both_ways}
use Rattle.std.proofs.lemmas.Bool.Decides.{nat_tests}
use Rattle.std.proofs.lemmas.List.{take-append-drop}
use Rattle.std.proofs.lemmas.Slice.Eq.{bytes_eq-Decides}
use Rattle.dsv_text.specs.Bytes.{is_digit}
use Rattle.dsv_names.specs.Names.{value_named}
use Rattle.dsv_text.specs.Digits.{digits_value}
use Rattle.dsv_command.specs.CodeNames.{keywords, ends_so, ends_as_stdint, starts_name}
use Rattle.dsv_lines.proofs.WrittenNumerals.{decimal_is}
use Rattle.dsv_ctext.specs.Texts.{section_text, member_text, type_name}
use Rattle.dsv_ctext.specs.declared.names.MemberName.{MemberName}
use Rattle.dsv_c.specs.Programs.{helper_order}
use Rattle.dsv_c_reading.specs.Bodies.{is_free, is_helper_name}
use Rattle.dsv_c_reading.specs.Expressions.{c_types, helper_name}
use Rattle.dsv_c_reading.specs.Labels.{IsMember}
use Rattle.dsv_c_reading.proofs.ParseNames.{both_false, IsLocalName}

-- ---- texts that a test tells apart
by_test : (same : Bool) (test : List ℕ → Bool) (a b : List ℕ) → bytes_eq a b ≡ same → test a ≡ true → test b ≡ false → same ≡ false
by_test true test a b e h k = absurd (both_ways (test b) k (ap test (sym ((bytes_eq-Decides a b).0 e)) ∙ h))
by_test false test a b e h k = refl

pub told_apart : (test : List ℕ → Bool) (a b : List ℕ) → test a ≡ true → test b ≡ false → bytes_eq a b ≡ false
told_apart test a b h k = by_test (bytes_eq a b) test a b refl h k

by_other_test : (same : Bool) (test : List ℕ → Bool) (a b : List ℕ) → bytes_eq a b ≡ same → test a ≡ false → test b ≡ true → same ≡ false
by_other_test true test a b e h k = absurd (both_ways (test a) h (ap test ((bytes_eq-Decides a b).0 e) ∙ k))
by_other_test false test a b e h k = refl

pub told_apart_other : (test : List ℕ → Bool) (a b : List ℕ) → test a ≡ false → test b ≡ true → bytes_eq a b ≡ false
told_apart_other test a b h k = by_other_test (bytes_eq a b) test a b refl h k

-- a text that passes the test is none of these, which don't
none_same : (test : List ℕ → Bool) (name : List ℕ) (ks : List (List ℕ)) → test name ≡ true → list_any test ks ≡ false → list_any (bytes_eq name) ks ≡ false
none_same test name [] h k = refl
none_same test name (w ∷ ks) h k =
    let p = or_parts (test w) (list_any test ks) k in
    both_false (bytes_eq name w) (list_any (bytes_eq name) ks) (told_apart test name w h p.0) (none_same test name ks h p.1)

none_called : {A : Type 0} (test : List ℕ → Bool) (name : List ℕ) (called : A → List ℕ) (vs : List A) → test name ≡ true → list_any (λ v. test (called v)) vs ≡ false → list_any (λ v. bytes_eq (called v) name) vs ≡ false
none_called test name called [] h k = refl
none_called test name called (v ∷ vs) h k =
    let p = or_parts (test (called v)) (list_any (λ v. test (called v)) vs) k in
    both_false (bytes_eq (called v) name) (list_any (λ v. bytes_eq (called v) name) vs) (told_apart_other test (called v) name p.0 h) (none_called test name called vs h p.1)

none_found : {A : Type 0} (test : List ℕ → Bool) (name : List ℕ) (called : A → List ℕ) (vs : List A) → test name ≡ true → list_any (λ v. test (called v)) vs ≡ false → value_named called vs name ≡ None
none_found test name called [] h k = refl
none_found test name called (v ∷ vs) h k =
    let p = or_parts (test (called v)) (list_any (λ v. test (called v)) vs) k in
    rw (told_apart_other test (called v) name p.0 h) (none_found test name called vs h p.1)

-- ---- texts that end with a digit
-- whether the last byte is a digit; of an empty text, whether the byte before it is
abbrev ends_by : Bool → List ℕ → Bool
ends_by digit [] = digit
ends_by digit (b ∷ bs) = ends_by (is_digit b) bs

ends_after : (digit : Bool) (xs : List ℕ) (y : ℕ) (ys : List ℕ) → ends_by digit (xs ++ (y ∷ ys)) ≡ ends_by (is_digit y) ys
ends_after digit [] y ys = refl
ends_after digit (x ∷ xs) y ys = ends_after (is_digit x) xs y ys

digits_end : (ds : List ℕ) → list_all is_digit ds ≡ true → ends_by true ds ≡ true
digits_end [] h = refl
digits_end (d ∷ ds) h = let p = and_parts (is_digit d) (list_all is_digit ds) h in rw p.0 (digits_end ds p.1)

some_digits_end : (digit : Bool) (ds : List ℕ) → 0 < length ds → list_all is_digit ds ≡ true → ends_by digit ds ≡ true
some_digits_end digit [] s h = absurd (omega arith)
some_digits_end digit (d ∷ ds) s h = digits_end (d ∷ ds) h

-- a text that ends with a digit has no end that doesn't
cut_differs : (text : List ℕ) (n e : ℕ) (es : List ℕ) → ends_by false text ≡ true → ends_by (is_digit e) es ≡ false → drop n text ≡ e ∷ es → ⊥
cut_differs text n e es h k s =
    both_ways (ends_by false text) (ap (ends_by false) (sym (take-append-drop n text) ∙ ap (λ (ys : List ℕ). take n text ++ ys) s) ∙ (ends_after false (take n text) e es ∙ k)) h

ends_otherwise : (same : Bool) (text : List ℕ) (n e : ℕ) (es : List ℕ) → ends_by false text ≡ true → ends_by (is_digit e) es ≡ false → bytes_eq (drop n text) (e ∷ es) ≡ same → same ≡ false
ends_otherwise true text n e es h k s = absurd (cut_differs text n e es h k ((bytes_eq-Decides (drop n text) (e ∷ es)).0 s))
ends_otherwise false text n e es h k s = refl

no_end : (text : List ℕ) (e : ℕ) (es : List ℕ) → ends_by false text ≡ true → ends_by (is_digit e) es ≡ false → ends_so text (e ∷ es) ≡ false
no_end text e es h k = ends_otherwise (ends_so text (e ∷ es)) text (length text - length (e ∷ es)) e es h k refl

no_stdint_end : (text : List ℕ) → ends_by false text ≡ true → ends_as_stdint text ≡ false
no_stdint_end text h =
    both_false (ends_so text (codes "_t") || ends_so text (codes "_C")) (ends_so text (codes "_MIN") || ends_so text (codes "_MAX"))
    (both_false (ends_so text (codes "_t")) (ends_so text (codes "_C")) (no_end text 95 (codes "t") h refl) (no_end text 95 (codes "C") h refl))
    (both_false (ends_so text (codes "_MIN")) (ends_so text (codes "_MAX")) (no_end text 95 (codes "MIN") h refl) (no_end text 95 (codes "MAX") h refl))

-- ---- free names
-- what makes a name free
free_from : (name : List ℕ) → starts_name name ≡ true → list_any (bytes_eq name) keywords ≡ false → ends_as_stdint name ≡ false → is_helper_name name ≡ false → bytes_eq name (codes "s") ≡ false → is_free name ≡ true
free_from name a b c d e = joined (starts_name name) (list_any (bytes_eq name) keywords) (ends_as_stdint name) (is_helper_name name) (bytes_eq name (codes "s")) a b c d e
  where
    joined : (p q r s t : Bool) → p ≡ true → q ≡ false → r ≡ false → s ≡ false → t ≡ false → (p && (not q && (not r && (not s && not t)))) ≡ true
    joined p q r s t a b c d e = rw (a, b, c, d, e) refl

-- the second byte comes before all letters
abbrev pub is_low_second : List ℕ → Bool
is_low_second [] = false
is_low_second (a ∷ []) = false
is_low_second (a ∷ b ∷ bs) = nat_lt b 97

-- a name with such a second byte, and a digit at the end, is no other name
low_name : (name : List ℕ) → starts_name name ≡ true → is_low_second name ≡ true → ends_by false name ≡ true → IsLocalName name
low_name name s l e = record {
  free = free_from name s (none_same is_low_second name keywords l refl) (no_stdint_end name e) (none_called is_low_second name helper_name helper_order l refl) (told_apart is_low_second name (codes "s") l refl);
  no_type = none_found is_low_second name type_name c_types l refl;
  no_helper = none_found is_low_second name helper_name helper_order l refl;
  not_state = told_apart is_low_second name (codes "s") l refl;
}

-- ---- the names of members
letter_starts : (letter : ℕ) (bs : List ℕ) → 97 ≤ letter → letter ≤ 122 → starts_name (letter ∷ bs) ≡ true
letter_starts letter bs h k = grind (arith, nat_tests)

low_digits : (b : ℕ) (ds es rest : List ℕ) → 0 < length ds → list_all is_digit ds ≡ true → is_low_second (b ∷ ((ds ++ es) ++ rest)) ≡ true
low_digits b [] es rest s h = absurd (omega arith)
low_digits b (d ∷ ds) es rest s h = low_digit d (and_parts (is_digit d) (list_all is_digit ds) h).0
  where
    low_digit : (d : ℕ) → is_digit d ≡ true → nat_lt d 97 ≡ true
    low_digit d h = grind (arith, nat_tests)

member_ends : (front : List ℕ) (letter number : ℕ) → number < 2 ^ 32 → ends_by false (front ++ (letter ∷ 95 ∷ decimal number)) ≡ true
member_ends front letter number h =
    let d = decimal_is number (omega (arith, h)) in
    ends_after false front letter (95 ∷ decimal number) ∙ some_digits_end false (decimal number) d.some d.digits

-- a member's name is a free one
member_free : (section : Option ℕ) (letter number : ℕ) → IsMember (record { section = section; letter = letter; number = number }) → IsLocalName (section_text section ++ (letter ∷ 95 ∷ decimal number))
member_free None letter number h = low_name (letter ∷ 95 ∷ decimal number) (letter_starts letter (95 ∷ decimal number) h.least h.greatest) refl (member_ends [] letter number h.number)
member_free (Some section) letter number h =
    let d = decimal_is section (omega (arith, h.section)) in
    low_name (section_text (Some section) ++ (letter ∷ 95 ∷ decimal number)) refl (low_digits 115 (decimal section) (95 ∷ []) (letter ∷ 95 ∷ decimal number) d.some d.digits) (member_ends (section_text (Some section)) letter number h.number)

pub member_name-free : (m : MemberName) → IsMember m → IsLocalName (member_text m)
member_name-free m h = member_free m.section m.letter m.number h

member_low : (section : Option ℕ) (letter number : ℕ) → IsMember (record { section = section; letter = letter; number = number }) → is_low_second (section_text section ++ (letter ∷ 95 ∷ decimal number)) ≡ true
member_low None letter number h = refl
member_low (Some section) letter number h =
    let d = decimal_is section (omega (arith, h.section)) in
    low_digits 115 (decimal section) (95 ∷ []) (letter ∷ 95 ∷ decimal number) d.some d.digits

pub member_name-low : (m : MemberName) → IsMember m → is_low_second (member_text m) ≡ true
member_name-low m h = member_low m.section m.letter m.number h

-- ---- the names of values
pub value_name-free : (n : ℕ) → n < 2 ^ 32 → IsLocalName (codes "value_" ++ decimal n)
value_name-free n h =
    let d = decimal_is n (omega (arith, h)) in
    let name = codes "value_" ++ decimal n in
    record {
      free = free_from name refl refl (no_stdint_end name (some_digits_end false (decimal n) d.some d.digits)) refl refl;
      no_type = refl;
      no_helper = refl;
      not_state = refl;
    }

value_differs : (same : Bool) (i k : ℕ) → i < k → k < 2 ^ 32 → bytes_eq (decimal i) (decimal k) ≡ same → same ≡ false
value_differs true i k h l e =
    let s : i ≡ k = sym (decimal_is i (omega (arith, h, l))).value ∙ (ap (digits_value 0) ((bytes_eq-Decides (decimal i) (decimal k)).0 e) ∙ (decimal_is k (omega (arith, l))).value) in
    absurd (omega (arith, h, s))
value_differs false i k h l e = refl

pub value_names-differ : (i k : ℕ) → i < k → k < 2 ^ 32 → bytes_eq (codes "value_" ++ decimal i) (codes "value_" ++ decimal k) ≡ false
value_names-differ i k h l = value_differs (bytes_eq (decimal i) (decimal k)) i k h l refl
