-- What clap's tests say of an argument, by its shape.
use Rattle.std.proofs.Common.{◌≡◌, ◌∙◌, ℕ, ◌+◌, Bool, true, false, not, cond, ◌||◌, List, [], ◌∷◌, length, take, map, Option, Some, None, refl, sym, ap, ap₂, String, Global, string_bytes, eqb-true, arith}
use Rattle.std.specs.List.{list_any, before_first, after_first, position_or_len}
use Rattle.std.specs.Str.{bytes_eq, chars, IsUtf8, encode_utf8_all}
use Rattle.std.proofs.Math.Seq.{take-length}
use Rattle.std.proofs.lemmas.Str.{IsUtf8-past_char, encodes-chars}
use Rattle.std.proofs.lemmas.Grind.{not_there}
use lib.Utf8
use Rattle.clap.specs.Lexer.{long_of, short_of}
use Rattle.clap.specs.Walk.{Text}
use Rattle.dsv_command.specs.Shapes.{ShapeView, plain, stop, long, dashed, dash, is_dash, is_equals, shape_of, shape_after_dash, shape_after_dashes}

-- ---- what is known by the shape

abbrev pub is_stop : Text → Bool
is_stop argument = bytes_eq argument (dash ∷ dash ∷ [])

pub record LooksPlain (argument : Text) : Type 0 where
  pub no_stop : is_stop argument ≡ false
  pub no_long : long_of argument ≡ None
  pub no_short : short_of argument ≡ None

pub record LooksLong (argument name : Text) (value : Option Text) : Type 0 where
  pub no_stop : is_stop argument ≡ false
  pub parts : long_of argument ≡ Some (name, value)

-- a single `-` stands before a byte and more
pub record LooksDashed (argument : Text) : Type 0 where
  pub first : ℕ
  pub more : Text
  pub same : argument ≡ dash ∷ first ∷ more
  pub no_stop : is_stop argument ≡ false
  pub no_long : long_of argument ≡ None
  pub short : short_of argument ≡ Some (first ∷ more)

abbrev pub Looks : ShapeView → Text → Type 0
Looks plain argument = LooksPlain argument
Looks stop argument = is_stop argument ≡ true
Looks (long name value) argument = LooksLong argument name value
Looks dashed argument = LooksDashed argument

-- ---- byte by byte

pub neither : (a b : Bool) → (a || b) ≡ false → (a ≡ false) × (b ≡ false)
neither true b e = cc
neither false b e = (refl, e)

place_of_none : (bytes : Text) → list_any is_equals bytes ≡ false → position_or_len is_equals bytes ≡ length bytes
place_of_none [] e = refl
place_of_none (b ∷ bs) e =
    let here = (neither (is_equals b) (list_any is_equals bs) e).0 in
    let later = place_of_none bs (neither (is_equals b) (list_any is_equals bs) e).1 in
    ap₂ (λ x n. cond (not x) (1 + n) 0) here later ∙ omega arith

-- with no `=` all of a text stands before the first
all_before : (bytes : Text) → list_any is_equals bytes ≡ false → before_first is_equals bytes ≡ bytes
all_before bytes e = ap (λ n. take n bytes) (place_of_none bytes e) ∙ take-length bytes

third_byte : (a b c : ℕ) (more : Text) (t : Bool) → is_dash a ≡ true → is_dash b ≡ true → list_any is_equals (c ∷ more) ≡ t
    → Looks (cond t (long (before_first is_equals (c ∷ more)) (Some (after_first is_equals (c ∷ more)))) (long (c ∷ more) None)) (a ∷ b ∷ c ∷ more)
third_byte a b c more true d e f = record { no_stop = rw (d, e) refl; parts = rw (d, e, f) refl }
third_byte a b c more false d e f = record { no_stop = rw (d, e) refl; parts = rw (d, e, f) (ap (λ name. Some (name, None)) (all_before (c ∷ more) f)) }

dashes : (a b : ℕ) (rest : Text) → is_dash a ≡ true → is_dash b ≡ true → Looks (shape_after_dashes rest) (a ∷ b ∷ rest)
dashes a b [] d e = rw (d, e) refl
dashes a b (c ∷ more) d e = third_byte a b c more (list_any is_equals (c ∷ more)) d e refl

second_byte : (a b : ℕ) (rest : Text) (t : Bool) → is_dash a ≡ true → is_dash b ≡ t → Looks (cond t (shape_after_dashes rest) dashed) (a ∷ b ∷ rest)
second_byte a b rest true d e = dashes a b rest d e
second_byte a b rest false d e = record {
  first = b;
  more = rest;
  same = ap (λ x. x ∷ b ∷ rest) (eqb-true a dash d);
  no_stop = rw (d, e) refl;
  no_long = rw (d, e) refl;
  short = rw (d, e) refl;
}

first_byte : (a : ℕ) (rest : Text) (t : Bool) → is_dash a ≡ t → Looks (cond t (shape_after_dash rest) plain) (a ∷ rest)
first_byte a rest false d = record { no_stop = rw d refl; no_long = rw d refl; no_short = rw d refl }
first_byte a [] true d = record { no_stop = rw d refl; no_long = rw d refl; no_short = rw d refl }
first_byte a (b ∷ rest) true d = second_byte a b rest (is_dash b) d refl

pub looks : (argument : Text) → Looks (shape_of argument) argument
looks [] = record { no_stop = refl; no_long = refl; no_short = refl }
looks (a ∷ rest) = first_byte a rest (is_dash a) refl

-- ---- characters

-- a byte and more after a `-` have a first character
abbrev pub HasCharacters : Text → Type 0
HasCharacters argument = (first : ℕ) (more : Text) → argument ≡ dash ∷ first ∷ more → chars (first ∷ more) ≡ [] → ⊥

abbrev pub HaveCharacters : List Text → Type 0
HaveCharacters [] = Unit {0}
HaveCharacters (argument ∷ arguments) = HasCharacters argument × HaveCharacters arguments

utf8_characters : (argument : Text) → ∥ IsUtf8 argument ∥₁ → HasCharacters argument
unfolding lib.Utf8.encode
utf8_characters argument utf8 = λ first more same none. not_there utf8 (λ valid.
    let rest : IsUtf8 (first ∷ more) = IsUtf8-past_char argument (first ∷ more) dash valid same in
    let nothing : first ∷ more ≡ [] = sym (encodes-chars (first ∷ more) rest) ∙ ap encode_utf8_all none in
    cc)

pub strings_have_characters : (strings : List (String Global)) → HaveCharacters (map string_bytes strings)
strings_have_characters [] = tt
strings_have_characters (s ∷ ss) = (utf8_characters (string_bytes s) s.ok, strings_have_characters ss)
