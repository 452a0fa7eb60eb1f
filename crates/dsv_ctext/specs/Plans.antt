-- Serves private contracts: what the writer of expressions is given.
use Rattle.std.specs.Prelude.{◌≡◌, ℕ, zero, suc, ◌+◌, ◌<◌, ◌≤◌, ◌^◌, Bool, true, false, codes}
use Rattle.std.specs.Prelude.{Option, Some, None, List, [], ◌∷◌, ◌++◌, length, slice_index}
use Rattle.std.specs.Prelude.{slice_index_or, ℤ, pos}
use Rattle.dsv_word.specs.declared.format.Format.{Format}
use Rattle.dsv_netlist.specs.Nodes.{Net}
use Rattle.dsv_netlist.specs.Bounds.{node_bound, bounds_of}
use Rattle.dsv_netlist.specs.Conditions.{IsNetlist}
use Rattle.dsv_c.specs.declared.c_type.CType.{CType}
use Rattle.dsv_c.specs.declared.c_type.CType.TheVariants.{Int, Int32, Int64}
use Rattle.dsv_c.specs.Meaning.{wider_type}
use Rattle.dsv_c.specs.Programs.{TypedExpr, word_type, type_for, codes_of, code_at, node_code}
use Rattle.dsv_c.specs.Programs.{node_locals, first_local}
use Rattle.dsv_c.specs.Codable.{node_at}
use Rattle.dsv_c.specs.Syntax.{Member, Constant}
use Rattle.dsv_ctext.specs.ProgramTexts.{declarations_text, declaration_line, store_line}
use Rattle.dsv_netlist.specs.declared.node.Node.{Node}
use Rattle.dsv_netlist.specs.declared.node.Node.TheVariants.{Input, Reg, MulConst, Round, Add}
use Rattle.dsv_netlist.specs.declared.node.Node.TheVariants.{Sub, Fit, Scale}
use Rattle.dsv_ctext.specs.declared.names.Labels.{Labels}
use Rattle.dsv_ctext.specs.declared.nodes.Arity.{Arity}
use Rattle.dsv_ctext.specs.declared.nodes.Arity.TheVariants as arity
use Rattle.dsv_ctext.specs.Texts.{left_parenthesis, right_parenthesis, cast_text, local_name}
use Rattle.dsv_ctext.specs.Texts.{product_head, rounded_head, name_limit}

-- the type that the value of node i needs
abbrev pub need_of : Net → ℕ → CType
need_of net i = type_for net.format (slice_index (bounds_of net.format net.nodes) i)

abbrev pub one_of : Net → ℤ
one_of net = pos (2 ^ net.format.frac_bits)

abbrev pub sum_head : Bool → CType → CType → List ℕ
sum_head inner need have = left_parenthesis inner ++ cast_text need have

abbrev pub type_at : List CType → ℕ → CType
type_at types i = slice_index_or types i Int

-- ---- types
abbrev pub widened_type : CType → CType → CType
widened_type Int64 have = Int64
widened_type Int have = have
widened_type Int32 have = have

abbrev pub node_type : Net → List CType → ℕ → Node → CType
node_type net types i Input = word_type net.format
node_type net types i (Reg register) = word_type net.format
node_type net types i (MulConst coeff of) = widened_type (need_of net i) (type_at types of)
node_type net types i (Round of) = wider_type (need_of net of) (type_at types of)
node_type net types i (Add left right) =
    wider_type (widened_type (need_of net i) (type_at types left)) (type_at types right)
node_type net types i (Sub left right) =
    wider_type (widened_type (need_of net i) (type_at types left)) (type_at types right)
node_type net types i (Fit of) = word_type net.format
node_type net types i (Scale of) = widened_type (need_of net i) (type_at types of)

-- the types of the first n nodes' expressions
abbrev pub AreTypes : Net → ℕ → List CType → Type 0
AreTypes net n types = (i : ℕ) → i < n → type_at types i ≡ (code_at (codes_of net) i).type

-- how many locals stand before node i of these, if so many stand before them all
abbrev pub locals_before : Format → List Node → List ℕ → List TypedExpr → ℕ → ℕ → ℕ
locals_before format [] bounds codes locals i = locals
locals_before format (node ∷ nodes) bounds codes locals zero = locals
locals_before format (node ∷ nodes) bounds codes locals (suc i) =
    locals_before format nodes (bounds ++ node_bound format bounds node ∷ [])
    (codes ++ node_code format bounds codes locals node ∷ [])
    (locals + length (node_locals format bounds codes node)) i

-- how many locals stand before each of the first n nodes
abbrev pub AreLocals : Net → ℕ → List ℕ → Type 0
AreLocals net n locals = (i : ℕ) → i < n
    → slice_index locals i ≡ locals_before net.format net.nodes [] [] (first_local net) i

abbrev pub locals_of_node : Node → ℕ
locals_of_node Input = 0
locals_of_node (Reg register) = 0
locals_of_node (MulConst coeff of) = 0
locals_of_node (Round of) = 0
locals_of_node (Add left right) = 0
locals_of_node (Sub left right) = 0
locals_of_node (Fit of) = 1
locals_of_node (Scale of) = 0

abbrev pub AreSmall : ℕ → List ℕ → Type 0
AreSmall n locals = (i : ℕ) → i < n → slice_index locals i < name_limit

-- ---- an expression by its operands
abbrev pub arity_of : Node → Arity
arity_of Input = arity.None
arity_of (Reg register) = arity.None
arity_of (MulConst coeff of) = arity.One
arity_of (Round of) = arity.One
arity_of (Add left right) = arity.Two
arity_of (Sub left right) = arity.Two
arity_of (Fit of) = arity.None
arity_of (Scale of) = arity.One

abbrev pub left_of : Node → ℕ
left_of Input = 0
left_of (Reg register) = 0
left_of (MulConst coeff of) = of
left_of (Round of) = of
left_of (Add left right) = left
left_of (Sub left right) = left
left_of (Fit of) = 0
left_of (Scale of) = of

abbrev pub right_of : Node → ℕ
right_of Input = 0
right_of (Reg register) = 0
right_of (MulConst coeff of) = 0
right_of (Round of) = 0
right_of (Add left right) = right
right_of (Sub left right) = right
right_of (Fit of) = 0
right_of (Scale of) = 0

abbrev pub sign_of : Node → List ℕ
sign_of Input = []
sign_of (Reg register) = []
sign_of (MulConst coeff of) = []
sign_of (Round of) = []
sign_of (Add left right) = codes " + "
sign_of (Sub left right) = codes " - "
sign_of (Fit of) = []
sign_of (Scale of) = []

abbrev pub tail_of : Node → Bool → List ℕ
tail_of Input inner = []
tail_of (Reg register) inner = []
tail_of (MulConst coeff of) inner = right_parenthesis inner
tail_of (Round of) inner = codes ")"
tail_of (Add left right) inner = right_parenthesis inner
tail_of (Sub left right) inner = right_parenthesis inner
tail_of (Fit of) inner = []
tail_of (Scale of) inner = right_parenthesis inner

abbrev pub is_operand : Node → Bool
is_operand Input = true
is_operand (Reg register) = true
is_operand (MulConst coeff of) = true
is_operand (Round of) = false
is_operand (Add left right) = true
is_operand (Sub left right) = true
is_operand (Fit of) = true
is_operand (Scale of) = true

abbrev pub head_of : Labels → Net → List CType → List ℕ → Bool → ℕ → Node → List ℕ
head_of names net types locals inner i Input = local_name names 0
head_of names net types locals inner i (Reg register) = local_name names (register + 1)
head_of names net types locals inner i (MulConst coeff of) =
    product_head inner coeff (need_of net i) (type_at types of)
head_of names net types locals inner i (Round of) = rounded_head (type_at types i)
head_of names net types locals inner i (Add left right) =
    sum_head inner (need_of net i) (type_at types left)
head_of names net types locals inner i (Sub left right) =
    sum_head inner (need_of net i) (type_at types left)
head_of names net types locals inner i (Fit of) = local_name names (slice_index locals i)
head_of names net types locals inner i (Scale of) =
    product_head inner (one_of net) (need_of net i) (type_at types of)

-- the coefficient of a node that is a product
abbrev pub node_factor : Net → Node → List ℤ
node_factor net Input = []
node_factor net (Reg register) = []
node_factor net (MulConst coeff of) = coeff ∷ []
node_factor net (Round of) = []
node_factor net (Add left right) = []
node_factor net (Sub left right) = []
node_factor net (Fit of) = []
node_factor net (Scale of) = one_of net ∷ []

abbrev pub has_values : List ℤ → Bool
has_values [] = false
has_values (c ∷ cs) = true

-- the types and the locals' numbers of a netlist's expressions
pub record IsPlan (net : Net) (types : List CType) (locals : List ℕ) : Type 0 where
  pub netlist : IsNetlist net
  pub typed : length net.nodes ≤ length types
  pub numbered : length net.nodes ≤ length locals
  pub each_type : AreTypes net (length net.nodes) types
  pub each_local : AreLocals net (length net.nodes) locals
  pub small : AreSmall (length net.nodes) locals

-- what a node fits, if it does
abbrev pub fitted_of : Node → Option ℕ
fitted_of Input = None
fitted_of (Reg register) = None
fitted_of (MulConst coeff of) = None
fitted_of (Round of) = None
fitted_of (Add left right) = None
fitted_of (Sub left right) = None
fitted_of (Fit of) = Some of
fitted_of (Scale of) = None

-- ---- lines
-- the locals of node i, which is a line or none
abbrev pub node_line : Labels → Net → ℕ → List ℕ
node_line names net i =
    declarations_text names (locals_before net.format net.nodes [] [] (first_local net) i)
    (node_locals net.format (bounds_of net.format net.nodes) (codes_of net) (node_at net i))

abbrev pub load_line : Labels → CType → ℕ → List ℕ
load_line names type k = declaration_line names (k + 1) (record { type = type; value = Member k })

abbrev pub store_of : Labels → Net → ℕ → List ℕ
store_of names net k = store_line names (record {
  member = k;
  value = (code_at (codes_of net) (slice_index net.next k)).expr;
})

abbrev pub init_line : Labels → ℕ → List ℕ
init_line names k = store_line names (record { member = k; value = Constant (pos 0) })
