-- The text of expressions.
use Rattle.std.specs.Prelude.{ℕ, zero, suc, ◌-◌, ◌^◌, Bool, true, false, if◌then◌else◌}
use Rattle.std.specs.Prelude.{nat_lt, List, [], ◌∷◌, ◌++◌, length, slice_index_or, codes, ℤ, pos}
use Rattle.std.specs.Prelude.{Option, Some, None}
use Rattle.std.specs.Fmt.{signed_decimal, decimal}
use Rattle.dsv_c.specs.declared.c_type.CType.{CType}
use Rattle.dsv_c.specs.declared.c_type.CType.TheVariants.{Int, Int32, Int64}
use Rattle.dsv_ctext.specs.declared.names.Labels.{Labels}
use Rattle.dsv_ctext.specs.declared.names.MemberName.{MemberName}
use Rattle.dsv_ctext.specs.declared.fragments.Fragment.{Fragment}
use Rattle.dsv_ctext.specs.declared.fragments.Fragment.TheVariants as fragment
use Rattle.dsv_c.specs.Syntax.{Helper, Rounded, Fitted, Expr, Constant, Local, Member, Cast}
use Rattle.dsv_c.specs.Syntax.{Times, Plus, Minus, Over, Mask, Flip, Choice, Call}

abbrev pub fragment_text : Fragment → List ℕ
fragment_text (fragment.Bytes bytes) = bytes.now
fragment_text (fragment.Byte byte) = byte ∷ []
fragment_text (fragment.Number n) = signed_decimal n

-- ---- names
abbrev pub name_limit : ℕ
name_limit = 2000

-- "s2_" in section 2 of a cascade
abbrev pub section_text : Option ℕ → List ℕ
section_text None = []
section_text (Some section) = codes "s" ++ signed_decimal (pos section) ++ codes "_"

-- x_1, or s2_x_1
abbrev pub member_text : MemberName → List ℕ
member_text m =
    section_text m.section ++ (m.letter ∷ codes "_" ++ signed_decimal (pos m.number))

abbrev pub no_member : MemberName
no_member = record { section = None; letter = 0; number = 0 }

abbrev pub member_name : Labels → ℕ → List ℕ
member_name names k = member_text (slice_index_or names.members.now k no_member)

abbrev pub local_name_after : Labels → ℕ → List ℕ
local_name_after names k = if nat_lt k (length names.members.now) then member_name names k
    else codes "value_" ++ decimal (k - length names.members.now)

-- local 0 is the parameter, then there are the members, and then the values that reports number
abbrev pub local_name : Labels → ℕ → List ℕ
local_name names zero = codes "x"
local_name names (suc k) = local_name_after names k

abbrev pub type_name : CType → List ℕ
type_name Int = codes "int"
type_name Int32 = codes "int32_t"
type_name Int64 = codes "int64_t"

-- ---- what expressions are put together from
abbrev pub left_parenthesis : Bool → List ℕ
left_parenthesis inner = if inner then codes "(" else []

abbrev pub right_parenthesis : Bool → List ℕ
right_parenthesis inner = if inner then codes ")" else []

abbrev pub rounded_head : CType → List ℕ
rounded_head Int = codes "rounded16("
rounded_head Int32 = codes "rounded32("
rounded_head Int64 = codes "rounded64("

abbrev pub fitted_head : CType → List ℕ
fitted_head Int = codes "word16("
fitted_head Int32 = codes "word32("
fitted_head Int64 = codes "word64("

abbrev pub call_head : Helper → List ℕ
call_head (Rounded t) = rounded_head t
call_head (Fitted t) = fitted_head t

-- ---- expressions
-- An operand that has an operator stands in parentheses. `inner` says whether this expression is
-- an operand.
abbrev pub code_text : Labels → Bool → Expr → List ℕ
code_text names inner (Constant c) = signed_decimal c
code_text names inner (Local k) = local_name names k
code_text names inner (Member k) = codes "s->" ++ member_name names k
code_text names inner (Cast t e) = codes "(" ++ type_name t ++ codes ")" ++ code_text names true e
code_text names inner (Times a b) = left_parenthesis inner ++ code_text names true a
    ++ codes " * " ++ code_text names true b ++ right_parenthesis inner
code_text names inner (Plus a b) = left_parenthesis inner ++ code_text names true a
    ++ codes " + " ++ code_text names true b ++ right_parenthesis inner
code_text names inner (Minus a b) = left_parenthesis inner ++ code_text names true a
    ++ codes " - " ++ code_text names true b ++ right_parenthesis inner
code_text names inner (Over e k) = left_parenthesis inner ++ code_text names true e
    ++ codes " / " ++ decimal (2 ^ k) ++ right_parenthesis inner
code_text names inner (Mask e k) = left_parenthesis inner ++ code_text names true e
    ++ codes " & " ++ decimal (2 ^ k - 1) ++ right_parenthesis inner
code_text names inner (Flip e k) = left_parenthesis inner ++ code_text names true e
    ++ codes " ^ " ++ decimal (2 ^ k) ++ right_parenthesis inner
code_text names inner (Choice a b c d) =
    left_parenthesis inner ++ code_text names true a ++ codes " < " ++ code_text names true b
    ++ codes " ? " ++ code_text names true c ++ codes " : " ++ code_text names true d
    ++ right_parenthesis inner
code_text names inner (Call h e) = call_head h ++ code_text names false e ++ codes ")"

-- ---- the same of an operand that is made wide
abbrev pub cast_text : CType → CType → List ℕ
cast_text Int64 Int = codes "(int64_t)"
cast_text Int64 Int32 = codes "(int64_t)"
cast_text Int64 Int64 = []
cast_text Int t = []
cast_text Int32 t = []

abbrev pub product_head : Bool → ℤ → CType → CType → List ℕ
product_head inner c need have =
    left_parenthesis inner ++ signed_decimal c ++ codes " * " ++ cast_text need have
