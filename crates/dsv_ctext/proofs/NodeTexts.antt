-- The text of a node's expression by its operands.
use Rattle.std.proofs.Common.{◌≡◌, ℕ, ◌+◌, ◌<◌, ◌≤◌, Bool, true, false, List, [], ◌++◌, length, refl, sym, ap, subst, ◌∙◌, arith, append_assoc}
use Rattle.std.specs.Prelude.{slice_index, codes}
use Rattle.std.specs.Fmt.{signed_decimal}
use Rattle.std.proofs.Math.IntN.{ℤ}
use Rattle.dsv_netlist.specs.Nodes.{Net}
use Rattle.dsv_netlist.specs.Bounds.{bounds_of, node_bound}
use Rattle.dsv_netlist.specs.Conditions.{NamesBelow}
use Rattle.dsv_netlist.specs.declared.node.Node.{Node}
use Rattle.dsv_netlist.specs.declared.node.Node.TheVariants.{Input, Reg, MulConst, Round, Add, Sub, Fit, Scale}
use Rattle.dsv_c.specs.declared.c_type.CType.{CType}
use Rattle.dsv_c.specs.declared.c_type.CType.TheVariants.{Int, Int32, Int64}
use Rattle.dsv_ctext.specs.declared.names.Labels.{Labels}
use Rattle.dsv_ctext.specs.declared.nodes.Arity.{Arity}
use Rattle.dsv_ctext.specs.declared.nodes.Arity.TheVariants as arity
use Rattle.dsv_c.specs.Syntax.{Expr, Plus, Minus}
use Rattle.dsv_c.specs.Programs.{TypedExpr, as_wide, as_needed, code_at, codes_of, node_code, product_code, sum_code, type_for, helper_type}
use Rattle.dsv_ctext.specs.Plans.{locals_before}
use Rattle.dsv_ctext.specs.Texts.{code_text, left_parenthesis, right_parenthesis, cast_text, product_head, rounded_head, local_name}
use Rattle.dsv_ctext.specs.Plans.{IsPlan, need_of, one_of, sum_head, type_at, arity_of, left_of, right_of, sign_of, tail_of, is_operand, head_of}
use Rattle.dsv_c.specs.Codable.{node_at}
use Rattle.dsv_ctext.proofs.Whole.{code_is, names_back, bound_is}

wide_text : (names : Labels) (t : CType) (e : Expr) → code_text names true (as_wide t e).expr ≡ cast_text Int64 t ++ code_text names true e
wide_text names Int e = refl
wide_text names Int32 e = refl
wide_text names Int64 e = refl

pub widened_text : (names : Labels) (t : CType) (c : TypedExpr) → code_text names true (as_needed t c).expr ≡ cast_text t c.type ++ code_text names true c.expr
widened_text names Int c = refl
widened_text names Int32 c = refl
widened_text names Int64 c = wide_text names c.type c.expr

five : (a b c d e f : List ℕ) → a ++ b ++ c ++ (d ++ e) ++ f ≡ (a ++ b ++ c ++ d) ++ (e ++ f)
five a b c d e f = simp append_assoc refl

four : (a d e s g f : List ℕ) → a ++ (d ++ e) ++ s ++ g ++ f ≡ (a ++ d) ++ (e ++ (s ++ (g ++ f)))
four a d e s g f = simp append_assoc refl

pub product_text : (names : Labels) (inner : Bool) (k : ℤ) (t : CType) (c : TypedExpr)
    → code_text names inner (product_code k (as_needed t c)).expr ≡ product_head inner k t c.type ++ (code_text names true c.expr ++ right_parenthesis inner)
product_text names inner k t c =
    ap (λ (w : List ℕ). left_parenthesis inner ++ signed_decimal k ++ codes " * " ++ w ++ right_parenthesis inner) (widened_text names t c)
    ∙ five (left_parenthesis inner) (signed_decimal k) (codes " * ") (cast_text t c.type) (code_text names true c.expr) (right_parenthesis inner)

pub plus_text : (names : Labels) (inner : Bool) (t : CType) (c d : TypedExpr)
    → code_text names inner (sum_code Plus (as_needed t c) d).expr ≡ sum_head inner t c.type ++ (code_text names true c.expr ++ (codes " + " ++ (code_text names true d.expr ++ right_parenthesis inner)))
plus_text names inner t c d =
    ap (λ (w : List ℕ). left_parenthesis inner ++ w ++ codes " + " ++ code_text names true d.expr ++ right_parenthesis inner) (widened_text names t c)
    ∙ four (left_parenthesis inner) (cast_text t c.type) (code_text names true c.expr) (codes " + ") (code_text names true d.expr) (right_parenthesis inner)

pub minus_text : (names : Labels) (inner : Bool) (t : CType) (c d : TypedExpr)
    → code_text names inner (sum_code Minus (as_needed t c) d).expr ≡ sum_head inner t c.type ++ (code_text names true c.expr ++ (codes " - " ++ (code_text names true d.expr ++ right_parenthesis inner)))
minus_text names inner t c d =
    ap (λ (w : List ℕ). left_parenthesis inner ++ w ++ codes " - " ++ code_text names true d.expr ++ right_parenthesis inner) (widened_text names t c)
    ∙ four (left_parenthesis inner) (cast_text t c.type) (code_text names true c.expr) (codes " - ") (code_text names true d.expr) (right_parenthesis inner)

-- ---- every node
abbrev pub by_arity : Arity → List ℕ → List ℕ → List ℕ → List ℕ → List ℕ → List ℕ
by_arity arity.None head left sign right tail = head
by_arity arity.One head left sign right tail = head ++ (left ++ tail)
by_arity arity.Two head left sign right tail = head ++ (left ++ (sign ++ (right ++ tail)))

-- the text of the expression of this node, at place i
abbrev pub node_text : Labels → Net → List CType → List ℕ → Bool → ℕ → Node → List ℕ
node_text names net types locals inner i n = by_arity (arity_of n) (head_of names net types locals inner i n)
    (code_text names (is_operand n) (code_at (codes_of net) (left_of n)).expr) (sign_of n) (code_text names true (code_at (codes_of net) (right_of n)).expr) (tail_of n inner)

record Placing (net : Net) (types : List CType) (locals : List ℕ) (i : ℕ) (n : Node) : Type 0 where
  plan : IsPlan net types locals
  there : i < length net.nodes
  back : NamesBelow i n
  code : code_at (codes_of net) i ≡ node_code net.format (bounds_of net.format net.nodes) (codes_of net) (locals_before net.format net.nodes [] [] (length net.next + 1) i) n
  bound : slice_index (bounds_of net.format net.nodes) i ≡ node_bound net.format (bounds_of net.format net.nodes) n

-- the head of a product or a sum, of the types that the plan has
product_heads : (inner : Bool) (k : ℤ) (t u s r : CType) → t ≡ u → s ≡ r → product_head inner k t s ≡ product_head inner k u r
product_heads inner k t u s r e g = rw (e, g) refl

sum_heads : (inner : Bool) (t u s r : CType) → t ≡ u → s ≡ r → sum_head inner t s ≡ sum_head inner u r
sum_heads inner t u s r e g = rw (e, g) refl

typed_there : (net : Net) (types : List CType) (locals : List ℕ) (i k : ℕ) → IsPlan net types locals → i < length net.nodes → k < i → (code_at (codes_of net) k).type ≡ type_at types k
typed_there net types locals i k p h l = sym (p.each_type k (omega arith))

needed : (net : Net) (types : List CType) (locals : List ℕ) (i : ℕ) (n : Node) → Placing net types locals i n → type_for net.format (node_bound net.format (bounds_of net.format net.nodes) n) ≡ need_of net i
needed net types locals i n p = ap (type_for net.format) (sym p.bound)

text_by : (names : Labels) (net : Net) (types : List CType) (locals : List ℕ) (inner : Bool) (i : ℕ) (n : Node) → Placing net types locals i n
    → code_text names inner (node_code net.format (bounds_of net.format net.nodes) (codes_of net) (locals_before net.format net.nodes [] [] (length net.next + 1) i) n).expr ≡ node_text names net types locals inner i n
text_by names net types locals inner i Input p = refl
text_by names net types locals inner i (Reg k) p = refl
text_by names net types locals inner i (Fit k) p = ap (local_name names) (sym (p.plan.each_local i p.there))
text_by names net types locals inner i (Round k) p =
    let t = helper_type net.format (bounds_of net.format net.nodes) (codes_of net) k in
    let e : type_at types i ≡ t = p.plan.each_type i p.there ∙ ap (λ (c : TypedExpr). c.type) p.code in
    append_assoc (rounded_head t) (code_text names false (code_at (codes_of net) k).expr) (codes ")")
    ∙ ap (λ (u : CType). rounded_head u ++ (code_text names false (code_at (codes_of net) k).expr ++ codes ")")) (sym e)
text_by names net types locals inner i (MulConst c k) p =
    let t = type_for net.format (node_bound net.format (bounds_of net.format net.nodes) (MulConst c k)) in
    let e = code_at (codes_of net) k in
    product_text names inner c t e
    ∙ ap (λ (h : List ℕ). h ++ (code_text names true e.expr ++ right_parenthesis inner)) (product_heads inner c t (need_of net i) e.type (type_at types k) (needed net types locals i (MulConst c k) p) (typed_there net types locals i k p.plan p.there p.back))
text_by names net types locals inner i (Scale k) p =
    let t = type_for net.format (node_bound net.format (bounds_of net.format net.nodes) (Scale k)) in
    let e = code_at (codes_of net) k in
    product_text names inner (one_of net) t e
    ∙ ap (λ (h : List ℕ). h ++ (code_text names true e.expr ++ right_parenthesis inner)) (product_heads inner (one_of net) t (need_of net i) e.type (type_at types k) (needed net types locals i (Scale k) p) (typed_there net types locals i k p.plan p.there p.back))
text_by names net types locals inner i (Add k m) p =
    let t = type_for net.format (node_bound net.format (bounds_of net.format net.nodes) (Add k m)) in
    let c = code_at (codes_of net) k in
    let d = code_at (codes_of net) m in
    plus_text names inner t c d
    ∙ ap (λ (h : List ℕ). h ++ (code_text names true c.expr ++ (codes " + " ++ (code_text names true d.expr ++ right_parenthesis inner)))) (sum_heads inner t (need_of net i) c.type (type_at types k) (needed net types locals i (Add k m) p) (typed_there net types locals i k p.plan p.there p.back.0))
text_by names net types locals inner i (Sub k m) p =
    let t = type_for net.format (node_bound net.format (bounds_of net.format net.nodes) (Sub k m)) in
    let c = code_at (codes_of net) k in
    let d = code_at (codes_of net) m in
    minus_text names inner t c d
    ∙ ap (λ (h : List ℕ). h ++ (code_text names true c.expr ++ (codes " - " ++ (code_text names true d.expr ++ right_parenthesis inner)))) (sum_heads inner t (need_of net i) c.type (type_at types k) (needed net types locals i (Sub k m) p) (typed_there net types locals i k p.plan p.there p.back.0))

pub text_is : (names : Labels) (net : Net) (types : List CType) (locals : List ℕ) (inner : Bool) (i : ℕ) (n : Node) → IsPlan net types locals → i < length net.nodes → n ≡ node_at net i
    → code_text names inner (code_at (codes_of net) i).expr ≡ node_text names net types locals inner i n
text_is names net types locals inner i n p h e =
    let place : Placing net types locals i (node_at net i) = record {
      plan = p;
      there = h;
      back = names_back net.nodes i Input h p.netlist.backwards;
      code = code_is net i Input h p.netlist.backwards;
      bound = bound_is net i Input h p.netlist.backwards;
    } in
    let here = ap (λ (c : TypedExpr). code_text names inner c.expr) (code_is net i Input h p.netlist.backwards) ∙ text_by names net types locals inner i (node_at net i) place in
    subst (λ (m : Node). code_text names inner (code_at (codes_of net) i).expr ≡ node_text names net types locals inner i m) (sym e) here

-- by how many operands the node has
pub leaf_text : (names : Labels) (net : Net) (types : List CType) (locals : List ℕ) (inner : Bool) (i : ℕ) (n : Node) → IsPlan net types locals → i < length net.nodes → n ≡ node_at net i → arity_of n ≡ arity.None
    → code_text names inner (code_at (codes_of net) i).expr ≡ head_of names net types locals inner i n
leaf_text names net types locals inner i n p h e a = rw a at (text_is names net types locals inner i n p h e)

pub one_text : (names : Labels) (net : Net) (types : List CType) (locals : List ℕ) (inner : Bool) (i : ℕ) (n : Node) → IsPlan net types locals → i < length net.nodes → n ≡ node_at net i → arity_of n ≡ arity.One
    → code_text names inner (code_at (codes_of net) i).expr ≡ head_of names net types locals inner i n ++ (code_text names (is_operand n) (code_at (codes_of net) (left_of n)).expr ++ tail_of n inner)
one_text names net types locals inner i n p h e a = rw a at (text_is names net types locals inner i n p h e)

pub two_text : (names : Labels) (net : Net) (types : List CType) (locals : List ℕ) (inner : Bool) (i : ℕ) (n : Node) → IsPlan net types locals → i < length net.nodes → n ≡ node_at net i → arity_of n ≡ arity.Two
    → code_text names inner (code_at (codes_of net) i).expr ≡ head_of names net types locals inner i n ++ (code_text names true (code_at (codes_of net) (left_of n)).expr ++ (sign_of n ++ (code_text names true (code_at (codes_of net) (right_of n)).expr ++ tail_of n inner)))
two_text names net types locals inner i n p h e a = rw (a, two_operand n a) at (text_is names net types locals inner i n p h e)
  where
    two_operand : (n : Node) → arity_of n ≡ arity.Two → is_operand n ≡ true
    two_operand Input e = refl
    two_operand (Reg k) e = refl
    two_operand (MulConst c k) e = refl
    two_operand (Round k) e = absurd cc
    two_operand (Add k m) e = refl
    two_operand (Sub k m) e = refl
    two_operand (Fit k) e = refl
    two_operand (Scale k) e = refl

-- the operands stand before the node
pub left_back : (i : ℕ) (n : Node) → NamesBelow i n → arity_of n ≡ arity.One → left_of n < i
left_back i Input b e = absurd cc
left_back i (Reg k) b e = absurd cc
left_back i (MulConst c k) b e = b
left_back i (Round k) b e = b
left_back i (Add k m) b e = absurd cc
left_back i (Sub k m) b e = absurd cc
left_back i (Fit k) b e = absurd cc
left_back i (Scale k) b e = b

pub both_back : (i : ℕ) (n : Node) → NamesBelow i n → arity_of n ≡ arity.Two → (left_of n < i) × (right_of n < i)
both_back i Input b e = absurd cc
both_back i (Reg k) b e = absurd cc
both_back i (MulConst c k) b e = absurd cc
both_back i (Round k) b e = absurd cc
both_back i (Add k m) b e = b
both_back i (Sub k m) b e = b
both_back i (Fit k) b e = absurd cc
both_back i (Scale k) b e = absurd cc

-- with types and locals as long as the nodes
pub back_more : (i m : ℕ) (n : Node) → i ≤ m → NamesBelow i n → NamesBelow m n
back_more i m Input l b = tt
back_more i m (Reg k) l b = tt
back_more i m (MulConst c k) l b = omega arith
back_more i m (Round k) l b = omega arith
back_more i m (Add k j) l b = (omega (arith, b.0), omega (arith, b.1))
back_more i m (Sub k j) l b = (omega (arith, b.0), omega (arith, b.1))
back_more i m (Fit k) l b = omega arith
back_more i m (Scale k) l b = omega arith

-- ---- as a writer of them sees it
pub one_written : (names : Labels) (net : Net) (types : List CType) (locals : List ℕ) (inner : Bool) (i : ℕ) (n : Node) (a : Arity) (operand : Bool) (left : ℕ) (tail : List ℕ) → IsPlan net types locals → i < length net.nodes
    → n ≡ node_at net i → a ≡ arity_of n → a ≡ arity.One → operand ≡ is_operand n → left ≡ left_of n → tail ≡ tail_of n inner
    → code_text names inner (code_at (codes_of net) i).expr ≡ head_of names net types locals inner i n ++ (code_text names operand (code_at (codes_of net) left).expr ++ tail)
one_written names net types locals inner i n a operand left tail p h e x y o l t = rw (o, l, t) (one_text names net types locals inner i n p h e (sym x ∙ y))

pub two_written : (names : Labels) (net : Net) (types : List CType) (locals : List ℕ) (inner : Bool) (i : ℕ) (n : Node) (a : Arity) (left right : ℕ) (sign tail : List ℕ) → IsPlan net types locals → i < length net.nodes
    → n ≡ node_at net i → a ≡ arity_of n → a ≡ arity.Two → left ≡ left_of n → right ≡ right_of n → sign ≡ sign_of n → tail ≡ tail_of n inner
    → code_text names inner (code_at (codes_of net) i).expr ≡ head_of names net types locals inner i n ++ (code_text names true (code_at (codes_of net) left).expr ++ (sign ++ (code_text names true (code_at (codes_of net) right).expr ++ tail)))
two_written names net types locals inner i n a left right sign tail p h e x y l r s t = rw (l, r, s, t) (two_text names net types locals inner i n p h e (sym x ∙ y))
