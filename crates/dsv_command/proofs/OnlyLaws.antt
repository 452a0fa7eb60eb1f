-- Options that are given, and those that aren't.
use Rattle.std.proofs.Common.{◌≡◌, ℕ, Bool, true, false, ◌||◌, List, [], ◌∷◌, ◌++◌, Option, Some, None, refl}
use Rattle.std.specs.Prelude.{map, if◌then◌else◌}
use Rattle.std.specs.List.{list_any}
use Rattle.std.specs.Map.{lookup}
use Rattle.std.specs.Str.{bytes_eq}
use Rattle.std.proofs.lemmas.Slice.Eq.{bytes_eq-Decides}
use Rattle.dsv_command.specs.Finding.{first_other}
use Rattle.dsv_command.specs.Parts.{PartView, file, flag, choice, is_given, value_of}
use Rattle.dsv_command.specs.Rules.{AreParts, HasOption, HasOnly}

-- ---- the first other option, and the rule that there is none
abbrev nothing : Option (List ℕ)
nothing = None

none_step : (parts : List PartView) (own : List (List ℕ)) (name : List ℕ) (names : List (List ℕ)) (a g : Bool) → list_any (bytes_eq name) own ≡ a → is_given parts name ≡ g
    → (first_other parts own names ≡ None → HasOnly parts own names) → (if a then first_other parts own names else if g then Some name else first_other parts own names) ≡ None
    → HasOnly parts own (name ∷ names)
none_step parts own name names true g e f ih h = ((λ k. e), ih h)
none_step parts own name names false true e f ih h = absurd (cc)
none_step parts own name names false false e f ih h = ((λ k. absurd (cc)), ih h)

pub only_by_first : (parts : List PartView) (own names : List (List ℕ)) → first_other parts own names ≡ None → HasOnly parts own names
only_by_first parts own [] h = tt
only_by_first parts own (name ∷ names) h = none_step parts own name names (list_any (bytes_eq name) own) (is_given parts name) refl refl (only_by_first parts own names) h

first_step : (parts : List PartView) (own : List (List ℕ)) (name : List ℕ) (names : List (List ℕ)) (a g : Bool) → list_any (bytes_eq name) own ≡ a → is_given parts name ≡ g
    → (is_given parts name ≡ true → list_any (bytes_eq name) own ≡ true) → first_other parts own names ≡ None
    → (if a then first_other parts own names else if g then Some name else first_other parts own names) ≡ None
first_step parts own name names true g e f h k = k
first_step parts own name names false true e f h k = absurd (let m = h f in cc)
first_step parts own name names false false e f h k = k

pub first_by_only : (parts : List PartView) (own names : List (List ℕ)) → HasOnly parts own names → first_other parts own names ≡ None
first_by_only parts own [] h = refl
first_by_only parts own (name ∷ names) h =
    first_step parts own name names (list_any (bytes_eq name) own) (is_given parts name) refl refl h.0 (first_by_only parts own names h.1)

off_by : (g a : Bool) → (g ≡ true → a ≡ true) → a ≡ false → g ≡ false
off_by false a h e = refl
off_by true a h e = absurd (let k = h refl in cc)

-- an option that isn't one's own isn't given
pub off : (parts : List PartView) (own : List (List ℕ)) (name : List ℕ) → (is_given parts name ≡ true → list_any (bytes_eq name) own ≡ true) → list_any (bytes_eq name) own ≡ false
    → is_given parts name ≡ false
off parts own name h e = off_by (is_given parts name) (list_any (bytes_eq name) own) h e

-- an option that isn't given keeps every rule of this form
pub unless : (parts : List PartView) (name : List ℕ) (b : Bool) → is_given parts name ≡ false → is_given parts name ≡ true → b ≡ true
unless parts name b e f = absurd (cc)

pub only_append : (parts : List PartView) (own names more : List (List ℕ)) → HasOnly parts own names → HasOnly parts own more → HasOnly parts own (names ++ more)
only_append parts own [] more h k = k
only_append parts own (name ∷ names) more h k = (h.0, only_append parts own names more h.1 k)

pub only_before : (parts : List PartView) (own names more : List (List ℕ)) → HasOnly parts own (names ++ more) → HasOnly parts own names
only_before parts own [] more h = tt
only_before parts own (name ∷ names) more h = (h.0, only_before parts own names more h.1)

pub only_after : (parts : List PartView) (own names more : List (List ℕ)) → HasOnly parts own (names ++ more) → HasOnly parts own more
only_after parts own [] more h = h
only_after parts own (name ∷ names) more h = only_after parts own names more h.1

-- ---- values of what isn't given

or_right : (a b : Bool) → (a || b) ≡ false → b ≡ false
or_right false b h = h
or_right true b h = absurd (cc)

value_step : (n value name : List ℕ) (ps : List PartView) (b : Bool) → bytes_eq n name ≡ b → (b || is_given ps name) ≡ false → value_of name ps ≡ None → (if b then Some value else value_of name ps) ≡ None
value_step n value name ps true e h k = absurd (cc)
value_step n value name ps false e h k = k

pub no_value : (parts : List PartView) (name : List ℕ) → is_given parts name ≡ false → value_of name parts ≡ None
no_value [] name h = refl
no_value (file text ∷ ps) name h = no_value ps name h
no_value (flag n ∷ ps) name h = no_value ps name (or_right (bytes_eq n name) (is_given ps name) h)
no_value (choice n value ∷ ps) name h = value_step n value name ps (bytes_eq n name) refl h (no_value ps name (or_right (bytes_eq n name) (is_given ps name) h))

given_step : (n name : List ℕ) (value text : List ℕ) (ps : List PartView) (b : Bool) → bytes_eq n name ≡ b → (if b then Some value else value_of name ps) ≡ Some text
    → (value_of name ps ≡ Some text → is_given ps name ≡ true) → (b || is_given ps name) ≡ true
given_step n name value text ps true e h ih = refl
given_step n name value text ps false e h ih = ih h

or_true : (a b : Bool) → b ≡ true → (a || b) ≡ true
or_true true b h = refl
or_true false b h = h

pub value_given : (parts : List PartView) (name text : List ℕ) → value_of name parts ≡ Some text → is_given parts name ≡ true
value_given [] name text h = absurd (cc)
value_given (file t ∷ ps) name text h = value_given ps name text h
value_given (flag n ∷ ps) name text h = or_true (bytes_eq n name) (is_given ps name) (value_given ps name text h)
value_given (choice n value ∷ ps) name text h = given_step n name value text ps (bytes_eq n name) refl h (value_given ps name text)

-- ---- options of the table stand in parts as it says
abbrev pub AreTyped : List (List ℕ × Bool) → List PartView → Type 0
AreTyped options [] = Unit {0}
AreTyped options (file text ∷ ps) = AreTyped options ps
AreTyped options (flag name ∷ ps) = HasOption options name false × AreTyped options ps
AreTyped options (choice name value ∷ ps) = HasOption options name true × AreTyped options ps

files_typed : (options : List (List ℕ × Bool)) (rest : List (List ℕ)) → AreTyped options (map file rest)
files_typed options [] = tt
files_typed options (text ∷ rest) = files_typed options rest

pub parts_typed : (options : List (List ℕ × Bool)) (arguments : List (List ℕ)) (parts : List PartView) → AreParts options arguments parts → AreTyped options parts
parts_typed options arguments parts (AreParts.none o) = tt
parts_typed options arguments parts (AreParts.joined o a name value rest ps s k g) = (k, parts_typed o rest ps g)
parts_typed options arguments parts (AreParts.apart o a name value rest ps s k v g) = (k, parts_typed o rest ps g)
parts_typed options arguments parts (AreParts.alone o a name rest ps s k g) = (k, parts_typed o rest ps g)
parts_typed options arguments parts (AreParts.plain o a rest ps s g) = parts_typed o rest ps g
parts_typed options arguments parts (AreParts.stop o a rest s) = files_typed o rest

-- a flag isn't an option that takes a value
other_name : (options : List (List ℕ × Bool)) (n name : List ℕ) (b : Bool) → bytes_eq n name ≡ b → HasOption options n false → HasOption options name true → bytes_eq n name ≡ false
other_name options n name false e f t = e
other_name options n name true e f t = absurd (let same : n ≡ name = (bytes_eq-Decides n name).0 e in let k : lookup (bytes_eq name) options ≡ Some false = rw same at f in cc)

unvalued_step : (n value name : List ℕ) (ps : List PartView) (b : Bool) → (if b then Some value else value_of name ps) ≡ None → (value_of name ps ≡ None → is_given ps name ≡ false) → (b || is_given ps name) ≡ false
unvalued_step n value name ps true h ih = absurd (cc)
unvalued_step n value name ps false h ih = ih h

no_or : (a b : Bool) → a ≡ false → b ≡ false → (a || b) ≡ false
no_or false b e f = f
no_or true b e f = absurd (cc)

-- an option that takes a value and has none isn't given
pub unvalued : (options : List (List ℕ × Bool)) (parts : List PartView) (name : List ℕ) → AreTyped options parts → HasOption options name true → value_of name parts ≡ None → is_given parts name ≡ false
unvalued options [] name t k h = refl
unvalued options (file text ∷ ps) name t k h = unvalued options ps name t k h
unvalued options (flag n ∷ ps) name t k h = no_or (bytes_eq n name) (is_given ps name) (other_name options n name (bytes_eq n name) refl t.0 k) (unvalued options ps name t.1 k h)
unvalued options (choice n value ∷ ps) name t k h = unvalued_step n value name ps (bytes_eq n name) h (unvalued options ps name t.1 k)
