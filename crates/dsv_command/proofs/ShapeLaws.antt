-- What an argument is by its looks, and the rules that say so.
use Rattle.std.proofs.Common.{◌≡◌, ℕ, suc, ◌+◌, Bool, true, false, not, ◌||◌, cond, List, [], ◌∷◌, ◌++◌, length, take, drop, Some, None, refl, ap, ◌∙◌, inl, inr, arith}
use Rattle.std.specs.Prelude.{if◌then◌else◌}
use Rattle.std.specs.List.{list_any, position_or_len, before_first, after_first}
use Rattle.std.proofs.Math.Seq.{take-append_seam, drop-append-add}
use Rattle.std.proofs.lemmas.List.Folds.{list_any-append}
use Rattle.dsv_command.specs.Shapes.{ShapeView, plain, stop, long, dashed, dash, equals_sign, is_dash, is_equals, shape_of, shape_after_dash, shape_after_dashes}
use Rattle.dsv_command.specs.Rules.{IsPlain, IsStop, IsOption, IsOptionWithValue}
use Rattle.dsv_command.proofs.InputLaws.{no_or, same_byte}

-- ---- the first `=` of a text

-- what the first byte that passes cuts a text into
pub record IsSplit (p : ℕ → Bool) (text before after : List ℕ) (c : ℕ) : Type 0 where
  pub same : text ≡ before ++ c ∷ after
  pub none : list_any p before ≡ false

split_longer : (b : ℕ) (bs : List ℕ) (p n : ℕ) → n ≡ suc p → is_equals b ≡ false → IsSplit is_equals bs (take p bs) (drop (p + 1) bs) equals_sign →
    IsSplit is_equals (b ∷ bs) (take n (b ∷ bs)) (drop (n + 1) (b ∷ bs)) equals_sign
split_longer b bs p n e f s =
    let next : n + 1 ≡ suc (p + 1) = omega arith in
    rw (next, e) (record { same = ap (λ xs. b ∷ xs) s.same; none = no_or (is_equals b) (list_any is_equals (take p bs)) f s.none })

split_step : (b : ℕ) (bs : List ℕ) (x : Bool) → is_equals b ≡ x → (list_any is_equals bs ≡ true → IsSplit is_equals bs (before_first is_equals bs) (after_first is_equals bs) equals_sign) →
    (x || list_any is_equals bs) ≡ true →
    let n = cond (not x) (1 + position_or_len is_equals bs) 0 in IsSplit is_equals (b ∷ bs) (take n (b ∷ bs)) (drop (n + 1) (b ∷ bs)) equals_sign
split_step b bs true e ih h = record { same = ap (λ c. c ∷ bs) (same_byte b equals_sign e); none = refl }
split_step b bs false e ih h = split_longer b bs (position_or_len is_equals bs) (1 + position_or_len is_equals bs) (omega arith) e (ih h)

pub split_first : (text : List ℕ) → list_any is_equals text ≡ true → IsSplit is_equals text (before_first is_equals text) (after_first is_equals text) equals_sign
split_first [] h = absurd (cc)
split_first (b ∷ bs) h = split_step b bs (is_equals b) refl (split_first bs) h

-- ---- from the shape to the rules
abbrev pub IsShape : List ℕ → ShapeView → Type 0
IsShape argument plain = IsPlain argument
IsShape argument stop = IsStop argument
IsShape argument (long name None) = IsOption argument name
IsShape argument (long name (Some value)) = IsOptionWithValue argument name value
IsShape argument dashed = Unit {0}

long_shape : (b : ℕ) (bs : List ℕ) (x : Bool) → list_any is_equals (b ∷ bs) ≡ x →
    IsShape (dash ∷ dash ∷ b ∷ bs) (if x then long (before_first is_equals (b ∷ bs)) (Some (after_first is_equals (b ∷ bs))) else long (b ∷ bs) None)
long_shape b bs true e =
    let s = split_first (b ∷ bs) e in record { same = ap (λ xs. dash ∷ dash ∷ xs) s.same; no_equals = s.none }
long_shape b bs false e = record { same = refl; no_equals = e; some_name = λ h. cc }

dashes_shape : (bs : List ℕ) → IsShape (dash ∷ dash ∷ bs) (shape_after_dashes bs)
dashes_shape [] = refl
dashes_shape (b ∷ bs) = long_shape b bs (list_any is_equals (b ∷ bs)) refl

second_shape : (b : ℕ) (bs : List ℕ) (x : Bool) → is_dash b ≡ x → IsShape (dash ∷ b ∷ bs) (if x then shape_after_dashes bs else dashed)
second_shape b bs true e = rw (same_byte b dash e) (dashes_shape bs)
second_shape b bs false e = tt

dash_shape : (bs : List ℕ) → IsShape (dash ∷ bs) (shape_after_dash bs)
dash_shape [] = inr refl
dash_shape (b ∷ bs) = second_shape b bs (is_dash b) refl

first_shape : (b : ℕ) (bs : List ℕ) (x : Bool) → is_dash b ≡ x → IsShape (b ∷ bs) (if x then shape_after_dash bs else plain)
first_shape b bs true e = rw (same_byte b dash e) (dash_shape bs)
first_shape b bs false e = inl e

pub shape_is : (argument : List ℕ) → IsShape argument (shape_of argument)
shape_is [] = inl refl
shape_is (b ∷ bs) = first_shape b bs (is_dash b) refl

-- ---- from the rules to the shape
plain_by : (b : ℕ) (bs : List ℕ) → is_dash b ≡ false → shape_of (b ∷ bs) ≡ plain
plain_by b bs e = rw e refl

pub plain_shape : (argument : List ℕ) → IsPlain argument → shape_of argument ≡ plain
plain_shape [] h = refl
plain_shape (b ∷ bs) (inl e) = plain_by b bs e
plain_shape (b ∷ bs) (inr e) = ap shape_of e

pub stop_shape : (argument : List ℕ) → IsStop argument → shape_of argument ≡ stop
stop_shape argument e = rw e refl

after_dashes_alone : (name : List ℕ) → list_any is_equals name ≡ false → (name ≡ [] → ⊥) → shape_after_dashes name ≡ long name None
after_dashes_alone [] e some = absurd (some refl)
after_dashes_alone (b ∷ bs) e some = rw e refl

pub option_shape : (argument name : List ℕ) → IsOption argument name → shape_of argument ≡ long name None
option_shape argument name h = rw h.same (after_dashes_alone name h.no_equals h.some_name)

first_step : (x y : Bool) (n m : ℕ) → (x || y) ≡ false → (y ≡ false → n ≡ m) → cond (not x) (1 + n) 0 ≡ suc m
first_step true y n m e f = absurd (cc)
first_step false y n m e f = let h = f e in omega arith

-- the first `=` stands after a text without one
first_after : (before after : List ℕ) → list_any is_equals before ≡ false → position_or_len is_equals (before ++ equals_sign ∷ after) ≡ length before
first_after [] after e = refl
first_after (b ∷ bs) after e = first_step (is_equals b) (list_any is_equals bs) (position_or_len is_equals (bs ++ equals_sign ∷ after)) (length bs) e (first_after bs after)

before_is : (before after : List ℕ) → list_any is_equals before ≡ false → before_first is_equals (before ++ equals_sign ∷ after) ≡ before
before_is before after e = rw (first_after before after e) (take-append_seam before (equals_sign ∷ after))

after_is : (before after : List ℕ) → list_any is_equals before ≡ false → after_first is_equals (before ++ equals_sign ∷ after) ≡ after
after_is before after e = rw (first_after before after e) (drop-append-add before (equals_sign ∷ after) 1)

pub or_true : (a : Bool) → (a || true) ≡ true
or_true true = refl
or_true false = refl

has_equals : (before after : List ℕ) → list_any is_equals (before ++ equals_sign ∷ after) ≡ true
has_equals before after = list_any-append is_equals before (equals_sign ∷ after) ∙ or_true (list_any is_equals before)

long_by : (xs before after : List ℕ) → list_any is_equals xs ≡ true → before_first is_equals xs ≡ before → after_first is_equals xs ≡ after → shape_after_dashes xs ≡ long before (Some after)
long_by [] before after e f g = absurd (cc)
long_by (b ∷ bs) before after e f g = rw (e, f, g) refl

pub value_shape : (argument name value : List ℕ) → IsOptionWithValue argument name value → shape_of argument ≡ long name (Some value)
value_shape argument name value h =
    ap shape_of h.same ∙ long_by (name ++ equals_sign ∷ value) name value (has_equals name value) (before_is name value h.no_equals) (after_is name value h.no_equals)
