-- Expressions as tokens of C, and how they are read.
--
-- whole = operand | operand op operand | operand '/' number | operand '&' number | operand '^'
-- number
--         | operand '<' operand '?' operand ':' operand
-- operand = number | name | s->name | (type)operand | helper(whole) | (whole)
--
-- An operand never has an operator outside parentheses, so no rule of precedence matters but that
-- a cast and a sign bind tighter than an operator.
use Rattle.std.specs.Prelude.{ℕ, zero, suc, ◌+◌, ◌-◌, ◌^◌, ◌<◌, ◌==◌, Bool, true, false}
use Rattle.std.specs.Prelude.{if◌then◌else◌}
use Rattle.std.specs.Prelude.{List, [], ◌∷◌, ◌++◌, Option, Some, None, codes, ℤ, pos}
use Rattle.std.specs.Option.{option_and_then}
use Rattle.std.specs.Fmt.{signed_decimal}
use Rattle.dsv_c.specs.declared.c_type.CType.{CType}
use Rattle.dsv_ctext.specs.declared.names.Labels.{Labels}
use Rattle.dsv_c.specs.Syntax.{Helper, Expr, Constant, Local, Member, Cast, Times, Plus, Minus}
use Rattle.dsv_c.specs.Syntax.{Over, Mask, Flip, Choice, Call}
use Rattle.dsv_ctext.specs.Texts.{local_name, member_name, type_name, call_head}

pub data Token : Type 0 where
  -- a decimal constant, with its sign
  Number : ℤ → Token
  Name : ℕ → Token
  Arrow : ℕ → Token
  -- "(type)", and a helper function's name with its parenthesis
  ToType : CType → Token
  Calling : Helper → Token
  Open : Token
  Close : Token
  Star : Token
  Cross : Token
  Dash : Token
  Slash : Token
  And : Token
  Hat : Token
  Below : Token
  Then : Token
  Else : Token

abbrev pub spelling : Labels → Token → List ℕ
spelling names (Number c) = signed_decimal c
spelling names (Name k) = local_name names k
spelling names (Arrow k) = codes "s->" ++ member_name names k
spelling names (ToType t) = codes "(" ++ type_name t ++ codes ")"
spelling names (Calling h) = call_head h
spelling names Open = codes "("
spelling names Close = codes ")"
spelling names Star = codes " * "
spelling names Cross = codes " + "
spelling names Dash = codes " - "
spelling names Slash = codes " / "
spelling names And = codes " & "
spelling names Hat = codes " ^ "
spelling names Below = codes " < "
spelling names Then = codes " ? "
spelling names Else = codes " : "

-- ---- writing
abbrev pub open_tokens : Bool → List Token
open_tokens inner = if inner then Open ∷ [] else []

abbrev pub close_tokens : Bool → List Token
close_tokens inner = if inner then Close ∷ [] else []

-- the tokens of an expression; `inner` says whether it is an operand
abbrev pub tokens : Bool → Expr → List Token
tokens inner (Constant c) = Number c ∷ []
tokens inner (Local k) = Name k ∷ []
tokens inner (Member k) = Arrow k ∷ []
tokens inner (Cast t e) = ToType t ∷ tokens true e
tokens inner (Times a b) =
    open_tokens inner ++ (tokens true a ++ (Star ∷ (tokens true b ++ close_tokens inner)))
tokens inner (Plus a b) =
    open_tokens inner ++ (tokens true a ++ (Cross ∷ (tokens true b ++ close_tokens inner)))
tokens inner (Minus a b) =
    open_tokens inner ++ (tokens true a ++ (Dash ∷ (tokens true b ++ close_tokens inner)))
tokens inner (Over e k) =
    open_tokens inner ++ (tokens true e ++ (Slash ∷ Number (pos (2 ^ k)) ∷ close_tokens inner))
tokens inner (Mask e k) =
    open_tokens inner ++ (tokens true e ++ (And ∷ Number (pos (2 ^ k - 1)) ∷ close_tokens inner))
tokens inner (Flip e k) =
    open_tokens inner ++ (tokens true e ++ (Hat ∷ Number (pos (2 ^ k)) ∷ close_tokens inner))
tokens inner (Choice a b c d) = open_tokens inner ++ (tokens true a
    ++ (Below ∷ (tokens true b ++ (Then ∷ (tokens true c ++ (Else ∷ (tokens true d
    ++ close_tokens inner)))))))
tokens inner (Call h e) = Calling h ∷ (tokens false e ++ Close ∷ [])

-- ---- reading
-- what was read, and what is left
pub record Got : Type 0 where
  pub expr : Expr
  pub rest : List Token

abbrev pub got : Expr → List Token → Option Got
got e rest = Some (record { expr = e; rest = rest })

-- the k below n with 2^k = d, if there is one
abbrev pub power_below : ℕ → ℕ → Option ℕ
power_below zero d = None
power_below (suc n) d = if 2 ^ n == d then Some n else power_below n d

-- with the k below 64 whose power of two is the number at the head, plus `less`
abbrev pub power_at : ℕ → (ℕ → Expr) → List Token → Option Got
power_at less make (Number (pos d) ∷ ts) =
    option_and_then (λ k. got (make k) ts) (power_below 64 (d + less))
power_at less make ts = None

abbrev pub right_of : (List Token → Option Got) → (Expr → Expr) → List Token → Option Got
right_of operand make ts = option_and_then (λ b. got (make b.expr) b.rest) (operand ts)

abbrev pub else_of : (List Token → Option Got) → (Expr → Expr) → List Token → Option Got
else_of operand make (Else ∷ ts) = right_of operand make ts
else_of operand make ts = None

abbrev pub then_of : (List Token → Option Got) → (Expr → Expr → Expr) → List Token → Option Got
then_of operand make (Then ∷ ts) =
    option_and_then (λ c. else_of operand (make c.expr) c.rest) (operand ts)
then_of operand make ts = None

-- what may follow an operand
abbrev pub after : (List Token → Option Got) → Expr → List Token → Option Got
after operand a (Star ∷ ts) = right_of operand (Times a) ts
after operand a (Cross ∷ ts) = right_of operand (Plus a) ts
after operand a (Dash ∷ ts) = right_of operand (Minus a) ts
after operand a (Slash ∷ ts) = power_at 0 (Over a) ts
after operand a (And ∷ ts) = power_at 1 (Mask a) ts
after operand a (Hat ∷ ts) = power_at 0 (Flip a) ts
after operand a (Below ∷ ts) =
    option_and_then (λ b. then_of operand (Choice a b.expr) b.rest) (operand ts)
after operand a ts = got a ts

abbrev pub whole_of : (List Token → Option Got) → List Token → Option Got
whole_of operand ts = option_and_then (λ a. after operand a.expr a.rest) (operand ts)

abbrev pub close_of : (Expr → Expr) → Got → Option Got
close_of make g = elim g.rest [
  | [] ↦ None
  | t ∷ ts ↦ elim t [
    | Number c ↦ None
    | Name k ↦ None
    | Arrow k ↦ None
    | ToType u ↦ None
    | Calling h ↦ None
    | Open ↦ None
    | Close ↦ got (make g.expr) ts
    | Star ↦ None
    | Cross ↦ None
    | Dash ↦ None
    | Slash ↦ None
    | And ↦ None
    | Hat ↦ None
    | Below ↦ None
    | Then ↦ None
    | Else ↦ None
  ]
]

-- an operand, with parentheses at most n deep
abbrev pub operand_of : ℕ → List Token → Option Got
operand_of zero ts = None
operand_of (suc n) [] = None
operand_of (suc n) (Number c ∷ ts) = got (Constant c) ts
operand_of (suc n) (Name k ∷ ts) = got (Local k) ts
operand_of (suc n) (Arrow k ∷ ts) = got (Member k) ts
operand_of (suc n) (ToType t ∷ ts) = right_of (operand_of n) (Cast t) ts
operand_of (suc n) (Calling h ∷ ts) =
    option_and_then (close_of (Call h)) (whole_of (operand_of n) ts)
operand_of (suc n) (Open ∷ ts) = option_and_then (close_of (λ e. e)) (whole_of (operand_of n) ts)
operand_of (suc n) (Close ∷ ts) = None
operand_of (suc n) (Star ∷ ts) = None
operand_of (suc n) (Cross ∷ ts) = None
operand_of (suc n) (Dash ∷ ts) = None
operand_of (suc n) (Slash ∷ ts) = None
operand_of (suc n) (And ∷ ts) = None
operand_of (suc n) (Hat ∷ ts) = None
operand_of (suc n) (Below ∷ ts) = None
operand_of (suc n) (Then ∷ ts) = None
operand_of (suc n) (Else ∷ ts) = None

-- ---- which expressions are read back
-- how deep the expression is
abbrev pub depth : Expr → ℕ
depth (Constant c) = 1
depth (Local k) = 1
depth (Member k) = 1
depth (Cast t e) = depth e + 1
depth (Times a b) = depth a + depth b + 1
depth (Plus a b) = depth a + depth b + 1
depth (Minus a b) = depth a + depth b + 1
depth (Over e k) = depth e + 1
depth (Mask e k) = depth e + 1
depth (Flip e k) = depth e + 1
depth (Choice a b c d) = depth a + depth b + depth c + depth d + 1
depth (Call h e) = depth e + 1

-- the powers of two in it are below 2^64
abbrev pub IsPlain : Expr → Type 0
IsPlain (Constant c) = Unit {0}
IsPlain (Local k) = Unit {0}
IsPlain (Member k) = Unit {0}
IsPlain (Cast t e) = IsPlain e
IsPlain (Times a b) = IsPlain a × IsPlain b
IsPlain (Plus a b) = IsPlain a × IsPlain b
IsPlain (Minus a b) = IsPlain a × IsPlain b
IsPlain (Over e k) = IsPlain e × (k < 64)
IsPlain (Mask e k) = IsPlain e × (k < 64)
IsPlain (Flip e k) = IsPlain e × (k < 64)
IsPlain (Choice a b c d) = IsPlain a × IsPlain b × IsPlain c × IsPlain d
IsPlain (Call h e) = IsPlain e
