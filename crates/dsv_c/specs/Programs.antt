-- The program of a netlist.
--
-- Local 0 is the input, local k + 1 is register k, and then each node that fits a value has a
-- local, in their order. What other nodes give stands as an expression in place of their names.
use Rattle.std.specs.Prelude.{Bool, true, false, ℕ, zero, suc, ◌+◌, ◌-◌, ◌^◌, ◌==◌}
use Rattle.std.specs.Prelude.{if◌then◌else◌, List, [], ◌∷◌, ◌++◌, length, map, slice_index}
use Rattle.std.specs.Prelude.{slice_index_or, ℤ, pos, nat_lt}
use Rattle.dsv_names.specs.declared.rounding.Rounding.{Rounding}
use Rattle.dsv_names.specs.declared.rounding.Rounding.TheVariants as rounding
use Rattle.dsv_names.specs.declared.overflow_mode.OverflowMode.{OverflowMode}
use Rattle.dsv_names.specs.declared.overflow_mode.OverflowMode.TheVariants as overflow_mode
use Rattle.dsv_word.specs.declared.format.Format.{Format}
use Rattle.dsv_word.specs.Words.{width, lo, hi}
use Rattle.dsv_netlist.specs.declared.node.Node.{Node}
use Rattle.dsv_netlist.specs.declared.node.Node.TheVariants.{Input, Reg, MulConst}
use Rattle.dsv_netlist.specs.declared.node.Node.TheVariants.{Round, Add, Sub, Fit, Scale}
use Rattle.dsv_netlist.specs.Nodes.{Net}
use Rattle.dsv_netlist.specs.Bounds.{node_bound}
use Rattle.dsv_c.specs.declared.c_type.CType.{CType}
use Rattle.dsv_c.specs.declared.c_type.CType.TheVariants.{Int, Int32, Int64}
use Rattle.dsv_c.specs.Syntax.{Helper, Rounded, Fitted, Expr, Constant, Local, Member, Cast}
use Rattle.dsv_c.specs.Syntax.{Times, Plus, Minus, Over, Mask, Flip, Choice, Call}
use Rattle.dsv_c.specs.Syntax.{Declaration, Store, Function, NamedFunction, Program}
use Rattle.dsv_c.specs.Meaning.{limit, wider_type, is_same_helper}

-- ---- types
-- the type of words
abbrev pub word_type : Format → CType
word_type format = if nat_lt (width format) 33 then Int32 else Int64

-- more than what rounding and fitting add to a value
abbrev pub headroom : Format → ℕ
headroom format = 2 ^ width format

-- the type of values up to this bound, and up to what rounding and fitting add to them
abbrev pub type_for : Format → ℕ → CType
type_for format bound = if nat_lt (bound + headroom format) (limit Int32) then Int32 else Int64

-- ---- helper functions
-- the parameter, with what is added to it before it is divided by 2^f and rounded down
abbrev pub addend_code : Rounding → ℕ → Expr
addend_code rounding.Floor f = Local 0
addend_code rounding.Ceil f = Plus (Local 0) (Constant (pos (2 ^ f - 1)))
addend_code rounding.Nearest f =
    if f == 0 then Local 0 else Plus (Local 0) (Constant (pos (2 ^ (f - 1))))

-- the floor of v / 2^f, of a local v: (v - (v & (2^f - 1))) / 2^f
abbrev pub floor_code : ℕ → ℕ → Expr
floor_code v f = Over (Minus (Local v) (Mask (Local v) f)) f

-- static type rounded(type v) { const type t = ..; return (t - (t & (2^f - 1))) / 2^f; }
abbrev pub rounded_code : Format → CType → Function
rounded_code format type = record {
  parameter = type;
  locals = record { type = type; value = addend_code format.rounding format.frac_bits } ∷ [];
  value = floor_code 1 format.frac_bits;
  result = type;
}

-- ((v & (2^n - 1)) ^ 2^(n-1)) - 2^(n-1), or v < lo ? lo : hi < v ? hi : v
abbrev pub fitted_value : OverflowMode → ℕ → Expr
fitted_value overflow_mode.Wrap n =
    Minus (Flip (Mask (Local 0) n) (n - 1)) (Constant (pos (2 ^ (n - 1))))
fitted_value overflow_mode.Saturate n = Choice (Local 0) (Constant (lo n)) (Constant (lo n))
    (Choice (Constant (hi n)) (Local 0) (Constant (hi n)) (Local 0))

-- static word fitted(type v) { return (word)(..); }
abbrev pub fitted_code : Format → CType → Function
fitted_code format type = record {
  parameter = type;
  locals = [];
  value = Cast (word_type format) (fitted_value format.overflow (width format));
  result = word_type format;
}

abbrev pub helper_code : Format → Helper → Function
helper_code format (Rounded type) = rounded_code format type
helper_code format (Fitted type) = fitted_code format type

abbrev pub has_helper : Helper → List Helper → Bool
has_helper name [] = false
has_helper name (h ∷ hs) = if is_same_helper h name then true else has_helper name hs

-- ---- nodes
-- an expression and its type
pub record TypedExpr : Type 0 where
  pub expr : Expr
  pub type : CType

abbrev pub typed_expr : Expr → CType → TypedExpr
typed_expr expr type = record { expr = expr; type = type }

-- an expression that isn't of type int64_t is made so
abbrev pub as_wide : CType → Expr → TypedExpr
as_wide Int e = typed_expr (Cast Int64 e) Int64
as_wide Int32 e = typed_expr (Cast Int64 e) Int64
as_wide Int64 e = typed_expr e Int64

-- an expression of at least this type
abbrev pub as_needed : CType → TypedExpr → TypedExpr
as_needed Int c = c
as_needed Int32 c = c
as_needed Int64 c = as_wide c.type c.expr

-- Of a product, the operand has the type that the product needs. Of a sum the left one has.
abbrev pub product_code : ℤ → TypedExpr → TypedExpr
product_code c e = typed_expr (Times (Constant c) e.expr) e.type

abbrev pub sum_code : (Expr → Expr → Expr) → TypedExpr → TypedExpr → TypedExpr
sum_code op left right = typed_expr (op left.expr right.expr) (wider_type left.type right.type)

abbrev pub code_at : List TypedExpr → ℕ → TypedExpr
code_at codes i = slice_index_or codes i (typed_expr (Local 0) Int)

-- what the node of this bound reads of node i
abbrev pub operand_code : Format → ℕ → List TypedExpr → ℕ → TypedExpr
operand_code format bound codes i = as_needed (type_for format bound) (code_at codes i)

-- the helper function for a node's value
abbrev pub helper_type : Format → List ℕ → List TypedExpr → ℕ → CType
helper_type format bounds codes of =
    wider_type (type_for format (slice_index bounds of)) (code_at codes of).type

-- The expression of a node, if these are the bounds and the expressions of the nodes before it, and
-- so many locals stand.
abbrev pub node_code : Format → List ℕ → List TypedExpr → ℕ → Node → TypedExpr
node_code format bounds codes locals Input = typed_expr (Local 0) (word_type format)
node_code format bounds codes locals (Reg register) =
    typed_expr (Local (register + 1)) (word_type format)
node_code format bounds codes locals (MulConst coeff of) = product_code coeff
    (operand_code format (node_bound format bounds (MulConst coeff of)) codes of)
node_code format bounds codes locals (Round of) =
    typed_expr (Call (Rounded (helper_type format bounds codes of)) (code_at codes of).expr)
    (helper_type format bounds codes of)
node_code format bounds codes locals (Add left right) = sum_code Plus
    (operand_code format (node_bound format bounds (Add left right)) codes left)
    (code_at codes right)
node_code format bounds codes locals (Sub left right) = sum_code Minus
    (operand_code format (node_bound format bounds (Sub left right)) codes left)
    (code_at codes right)
node_code format bounds codes locals (Fit of) = typed_expr (Local locals) (word_type format)
node_code format bounds codes locals (Scale of) = product_code (pos (2 ^ format.frac_bits))
    (operand_code format (node_bound format bounds (Scale of)) codes of)

-- the local that a node needs
abbrev pub node_locals : Format → List ℕ → List TypedExpr → Node → List Declaration
node_locals format bounds codes Input = []
node_locals format bounds codes (Reg register) = []
node_locals format bounds codes (MulConst coeff of) = []
node_locals format bounds codes (Round of) = []
node_locals format bounds codes (Add left right) = []
node_locals format bounds codes (Sub left right) = []
node_locals format bounds codes (Fit of) = record {
  type = word_type format;
  value = Call (Fitted (helper_type format bounds codes of)) (code_at codes of).expr;
} ∷ []
node_locals format bounds codes (Scale of) = []

-- the helper function that a node calls
abbrev pub node_helpers : Format → List ℕ → List TypedExpr → Node → List Helper
node_helpers format bounds codes Input = []
node_helpers format bounds codes (Reg register) = []
node_helpers format bounds codes (MulConst coeff of) = []
node_helpers format bounds codes (Round of) = Rounded (helper_type format bounds codes of) ∷ []
node_helpers format bounds codes (Add left right) = []
node_helpers format bounds codes (Sub left right) = []
node_helpers format bounds codes (Fit of) = Fitted (helper_type format bounds codes of) ∷ []
node_helpers format bounds codes (Scale of) = []

-- the expressions of all nodes, and the locals, if `locals` stand before
abbrev pub codes_from : Format → List Node → List ℕ → List TypedExpr → ℕ → List TypedExpr
codes_from format [] bounds codes locals = codes
codes_from format (node ∷ nodes) bounds codes locals =
    codes_from format nodes (bounds ++ node_bound format bounds node ∷ [])
    (codes ++ node_code format bounds codes locals node ∷ [])
    (locals + length (node_locals format bounds codes node))

abbrev pub locals_from : Format → List Node → List ℕ → List TypedExpr → ℕ → List Declaration
locals_from format [] bounds codes locals = []
locals_from format (node ∷ nodes) bounds codes locals = node_locals format bounds codes node
    ++ locals_from format nodes (bounds ++ node_bound format bounds node ∷ [])
    (codes ++ node_code format bounds codes locals node ∷ [])
    (locals + length (node_locals format bounds codes node))

abbrev pub helpers_from : Format → List Node → List ℕ → List TypedExpr → ℕ → List Helper
helpers_from format [] bounds codes locals = []
helpers_from format (node ∷ nodes) bounds codes locals = node_helpers format bounds codes node
    ++ helpers_from format nodes (bounds ++ node_bound format bounds node ∷ [])
    (codes ++ node_code format bounds codes locals node ∷ [])
    (locals + length (node_locals format bounds codes node))

-- the order in which helper functions stand
abbrev pub helper_order : List Helper
helper_order =
    Rounded Int ∷ Fitted Int ∷ Rounded Int32 ∷ Fitted Int32 ∷ Rounded Int64 ∷ Fitted Int64 ∷ []

abbrev pub named_function : Format → Helper → NamedFunction
named_function format h = record { name = h; function = helper_code format h }

-- the functions that are called, in that order
abbrev pub functions_among : Format → List Helper → List Helper → List NamedFunction
functions_among format called [] = []
functions_among format called (h ∷ order) = if has_helper h called
    then named_function format h ∷ functions_among format called order
    else functions_among format called order

abbrev pub functions_for : Format → List Helper → List NamedFunction
functions_for format called = functions_among format called helper_order

-- ---- registers
-- n members are read into locals, from member k on
abbrev pub loads_from : CType → ℕ → ℕ → List Declaration
loads_from type k zero = []
loads_from type k (suc n) = record { type = type; value = Member k } ∷ loads_from type (k + 1) n

-- members are stored, from member k on
abbrev pub stores_from : ℕ → List Expr → List Store
stores_from k [] = []
stores_from k (e ∷ es) = record { member = k; value = e } ∷ stores_from (k + 1) es

-- ---- the program
-- how many locals stand before the first node: the input and the registers
abbrev pub first_local : Net → ℕ
first_local net = length net.next + 1

abbrev pub codes_of : Net → List TypedExpr
codes_of net = codes_from net.format net.nodes [] [] (first_local net)

abbrev pub program_of : Net → Program
program_of net = record {
  word = word_type net.format;
  functions =
      functions_for net.format (helpers_from net.format net.nodes [] [] (first_local net));
  start = stores_from 0 (map (λ k. Constant (pos 0)) net.next);
  locals = loads_from (word_type net.format) 0 (length net.next)
      ++ locals_from net.format net.nodes [] [] (first_local net);
  stores = stores_from 0 (map (λ k. (code_at (codes_of net) k).expr) net.next);
  value = (code_at (codes_of net) net.output).expr;
}
