-- What the C means. None is a step that is stuck: C99 leaves it undefined or to the implementation.
--
-- A value is a number and a type that is no wider than its expression's type in C: all types are
-- signed, so integer promotions (6.3.1.1) and the usual arithmetic conversions (6.3.1.8) keep the
-- number and only make types wider. So C's type has each result that the type named here has, on
-- every implementation that has int32_t and int64_t, however many bits its int and long have.
use Rattle.std.specs.Prelude.{ℕ, ◌+◌, ◌^◌, Bool, true, false, if◌then◌else◌}
use Rattle.std.specs.Prelude.{List, [], ◌∷◌, ◌++◌, length, map, set, Option, Some, None, slice_get}
use Rattle.std.specs.Prelude.{ℤ, pos, neg_ℤ, ◌+ℤ◌, ◌-ℤ◌, ◌*ℤ◌, int_lt, nat_lt}
use Rattle.std.specs.Option.{option_and_then}
use Rattle.std.specs.Int.{int_rem_euclid}
use Rattle.std.specs.Int.RustNames.{unsigned_abs}
use Rattle.dsv_algebra.specs.Floor.{floor_of}
use Rattle.dsv_c.specs.declared.c_type.CType.{CType}
use Rattle.dsv_c.specs.declared.c_type.CType.TheVariants.{Int, Int32, Int64}
use Rattle.dsv_c.specs.Syntax.{Helper, Rounded, Fitted, Expr, Constant, Local, Member, Cast}
use Rattle.dsv_c.specs.Syntax.{Times, Plus, Minus, Over, Mask, Flip, Choice, Call}
use Rattle.dsv_c.specs.Syntax.{Declaration, Store, Function, NamedFunction, Program}

pub record CValue : Type 0 where
  pub type : CType
  pub number : ℤ

abbrev pub c_value : CType → ℤ → CValue
c_value type number = record { type = type; number = number }

-- the bits of a type, its sign among them: an int has at least 16 (5.2.4.2.1)
abbrev pub bits : CType → ℕ
bits Int = 16
bits Int32 = 32
bits Int64 = 64

-- one more than the greatest number of a type; the least one is this one's negative
abbrev pub limit : CType → ℕ
limit Int = 2 ^ 15
limit Int32 = 2 ^ 31
limit Int64 = 2 ^ 63

-- the wider of two types
abbrev pub wider_type : CType → CType → CType
wider_type Int t = t
wider_type Int32 Int = Int32
wider_type Int32 Int32 = Int32
wider_type Int32 Int64 = Int64
wider_type Int64 t = Int64

abbrev pub has_number : CType → ℤ → Bool
has_number type v =
    if int_lt v (neg_ℤ (pos (limit type))) then false else int_lt v (pos (limit type))

-- A number that is to be of a type: a signed result outside of its type is undefined (6.5), and a
-- conversion of a number that the new type doesn't have is the implementation's (6.3.1.3).
abbrev pub in_type : CType → ℤ → Option CValue
in_type type v = if has_number type v then Some (c_value type v) else None

-- A decimal constant has the first type of int, long and long long that has it (6.4.4.1). How many
-- bits that one has is the implementation's: 16 at least. None has 2^63 for certain.
abbrev pub constant : ℤ → Option CValue
constant c = if nat_lt (unsigned_abs c) (limit Int64) then Some (c_value Int c) else None

-- with two operands, or stuck
abbrev pub on_both : (CValue → CValue → Option CValue) → Option CValue → Option CValue
    → Option CValue
on_both f a b = option_and_then (λ u. option_and_then (λ v. f u v) b) a

-- a sum, a difference or a product, in the wider type of both
abbrev pub operation : (ℤ → ℤ → ℤ) → Option CValue → Option CValue → Option CValue
operation f a b = on_both (λ u v. in_type (wider_type u.type v.type) (f u.number v.number)) a b

abbrev pub conversion : CType → Option CValue → Option CValue
conversion type a = option_and_then (λ v. in_type type v.number) a

-- a quotient by d, cut off toward zero (6.5.5)
abbrev pub quotient : ℤ → ℕ → ℤ
quotient v d = if int_lt v (pos 0) then neg_ℤ (floor_of (neg_ℤ v) d) else floor_of v d

-- a value over 2^k, a constant that the value's type has
abbrev pub quotient_by : ℕ → CValue → Option CValue
quotient_by k v = if nat_lt (k + 1) (bits v.type)
    then Some (c_value v.type (quotient v.number (2 ^ k))) else None

-- Two's complement without padding (7.18.1.1): v & (2^k - 1) is v modulo 2^k. C99 says so of
-- int32_t and int64_t, and not of int.
abbrev pub low_bits : CType → ℕ → ℤ → Option CValue
low_bits Int k v = None
low_bits Int32 k v =
    if nat_lt k 32 then Some (c_value Int32 (int_rem_euclid v (pos (2 ^ k)))) else None
low_bits Int64 k v =
    if nat_lt k 64 then Some (c_value Int64 (int_rem_euclid v (pos (2 ^ k)))) else None

-- Of a number from 0 to 2^(k + 1) - 1, bit k is its last: v ^ 2^k has it turned. Others aren't
-- used, and count as stuck.
abbrev pub bit_flip : ℕ → ℤ → ℤ
bit_flip k v = if int_lt v (pos (2 ^ k)) then v +ℤ pos (2 ^ k) else v -ℤ pos (2 ^ k)

abbrev pub has_bits : ℕ → ℤ → Bool
has_bits k v = if int_lt v (pos 0) then false else int_lt v (pos (2 ^ (k + 1)))

abbrev pub flip : ℕ → CValue → Option CValue
flip k v = if nat_lt (k + 1) (bits v.type)
    then (if has_bits k v.number then Some (c_value v.type (bit_flip k v.number)) else None)
    else None

-- only one arm is evaluated; C converts it to the wider type of both (6.5.15)
abbrev pub choice : Option CValue → Option CValue → CValue → CValue → Option CValue
choice taken other u v = if int_lt u.number v.number then taken else other

-- ---- expressions
-- what an expression sees
pub record Scope : Type 0 where
  pub locals : List CValue
  pub members : List CValue

abbrev pub scope : List CValue → List CValue → Scope
scope locals members = record { locals = locals; members = members }

-- what calls give
abbrev pub Calls : Type 0
Calls = Helper → ℤ → Option CValue

abbrev pub value_of : Calls → Scope → Expr → Option CValue
value_of calls s (Constant c) = constant c
value_of calls s (Local k) = slice_get s.locals k
value_of calls s (Member k) = slice_get s.members k
value_of calls s (Cast type e) = conversion type (value_of calls s e)
value_of calls s (Times a b) =
    operation (λ u v. u *ℤ v) (value_of calls s a) (value_of calls s b)
value_of calls s (Plus a b) =
    operation (λ u v. u +ℤ v) (value_of calls s a) (value_of calls s b)
value_of calls s (Minus a b) =
    operation (λ u v. u -ℤ v) (value_of calls s a) (value_of calls s b)
value_of calls s (Over e k) = option_and_then (quotient_by k) (value_of calls s e)
value_of calls s (Mask e k) =
    option_and_then (λ v. low_bits v.type k v.number) (value_of calls s e)
value_of calls s (Flip e k) = option_and_then (flip k) (value_of calls s e)
value_of calls s (Choice a b c d) = on_both
    (choice (value_of calls s c) (value_of calls s d)) (value_of calls s a) (value_of calls s b)
value_of calls s (Call helper e) =
    option_and_then (λ v. calls helper v.number) (value_of calls s e)

-- ---- statements
-- a local more; it is initialised as if by assignment (6.7.8)
abbrev pub with_local : Scope → CValue → Scope
with_local s v = scope (s.locals ++ v ∷ []) s.members

abbrev pub after_declarations : Calls → List Declaration → Scope → Option Scope
after_declarations calls [] s = Some s
after_declarations calls (d ∷ ds) s =
    option_and_then (λ v. after_declarations calls ds (with_local s v))
    (conversion d.type (value_of calls s d.value))

-- a member is stored, if there is one of this number
abbrev pub with_member : Scope → ℕ → CValue → Option Scope
with_member s k v =
    if nat_lt k (length s.members) then Some (scope s.locals (set s.members k v)) else None

abbrev pub after_stores : Calls → CType → List Store → Scope → Option Scope
after_stores calls type [] s = Some s
after_stores calls type (t ∷ ts) s =
    option_and_then
    (λ v. option_and_then (after_stores calls type ts) (with_member s t.member v))
    (conversion type (value_of calls s t.value))

-- ---- functions and steps
-- a helper function calls none
abbrev pub no_calls : Calls
no_calls helper v = None

-- a call: the argument is converted to the parameter's type (6.5.2.2), and what is returned to the
-- result's (6.8.6.4)
abbrev pub call_result : Function → ℤ → Option CValue
call_result f v =
    option_and_then
    (λ parameter. option_and_then (λ s. conversion f.result (value_of no_calls s f.value))
    (after_declarations no_calls f.locals (scope (parameter ∷ []) [])))
    (in_type f.parameter v)

abbrev pub is_same_type : CType → CType → Bool
is_same_type Int Int = true
is_same_type Int Int32 = false
is_same_type Int Int64 = false
is_same_type Int32 Int = false
is_same_type Int32 Int32 = true
is_same_type Int32 Int64 = false
is_same_type Int64 Int = false
is_same_type Int64 Int32 = false
is_same_type Int64 Int64 = true

abbrev pub is_same_helper : Helper → Helper → Bool
is_same_helper (Rounded t) (Rounded u) = is_same_type t u
is_same_helper (Rounded t) (Fitted u) = false
is_same_helper (Fitted t) (Rounded u) = false
is_same_helper (Fitted t) (Fitted u) = is_same_type t u

-- the function of a name, if there is one
abbrev pub function_of : Helper → List NamedFunction → Option Function
function_of name [] = None
function_of name (f ∷ fs) =
    if is_same_helper f.name name then Some f.function else function_of name fs

abbrev pub calls_of : Program → Calls
calls_of p helper v = option_and_then (λ f. call_result f v) (function_of helper p.functions)

-- what a step gives: its result, and the members after it
pub record StepResult : Type 0 where
  pub result : ℤ
  pub members : List ℤ

abbrev pub number_of : CValue → ℤ
number_of v = v.number

-- what a step begins with: its parameter, and the members as they stand
abbrev pub start_of : Program → List ℤ → ℤ → Scope
start_of p members x = scope (c_value p.word x ∷ []) (map (c_value p.word) members)

abbrev pub step_end : Program → Scope → Option StepResult
step_end p s =
    option_and_then (λ y. Some (record { result = y.number; members = map number_of s.members }))
    (conversion p.word (value_of (calls_of p) s p.value))

abbrev pub code_step : Program → List ℤ → ℤ → Option StepResult
code_step p members x =
    option_and_then
    (λ s. option_and_then (step_end p) (after_stores (calls_of p) p.word p.stores s))
    (after_declarations (calls_of p) p.locals (start_of p members x))

-- the members after init, whatever they were
abbrev pub members_after_init : Program → List ℤ → Option (List ℤ)
members_after_init p members =
    option_and_then (λ s. Some (map number_of s.members))
    (after_stores no_calls p.word p.start (scope [] (map (c_value p.word) members)))

-- the results of a step for each of these inputs, one after another
abbrev pub code_results : Program → List ℤ → List ℤ → Option (List ℤ)
code_results p members [] = Some []
code_results p members (x ∷ xs) =
    option_and_then
    (λ s. option_and_then (λ ys. Some (s.result ∷ ys)) (code_results p s.members xs))
    (code_step p members x)
