-- The coefficients in nodes' expressions, and the comments that name them.
use Rattle.std.proofs.Common.{◌≡◌, ℕ, ◌+◌, ◌<◌, Bool, true, false, ◌||◌, List, [], ◌∷◌, ◌++◌, length, refl, sym, ap, ◌∙◌, append_assoc}
use Rattle.std.proofs.Math.IntN.{ℤ}
use Rattle.dsv_netlist.specs.Nodes.{Net}
use Rattle.dsv_netlist.specs.Bounds.{bounds_of, node_bound}
use Rattle.dsv_netlist.specs.Conditions.{IsNetlist}
use Rattle.dsv_netlist.specs.declared.node.Node.{Node}
use Rattle.dsv_netlist.specs.declared.node.Node.TheVariants.{Input, Reg, MulConst, Round, Add, Sub, Fit, Scale}
use Rattle.dsv_c.specs.declared.c_type.CType.{CType}
use Rattle.dsv_c.specs.declared.c_type.CType.TheVariants.{Int, Int32, Int64}
use Rattle.dsv_c.specs.Codable.{node_at}
use Rattle.dsv_c.specs.Syntax.{Expr}
use Rattle.dsv_c.specs.Programs.{TypedExpr, as_wide, as_needed, code_at, codes_of, node_code, type_for}
use Rattle.dsv_ctext.specs.declared.nodes.Arity.{Arity}
use Rattle.dsv_ctext.specs.declared.nodes.Arity.TheVariants as arity
use Rattle.dsv_ctext.specs.Comments.{coefficients_of, value_text, separator, values_text, comment_text}
use Rattle.std.specs.Prelude.{codes}
use Rattle.std.proofs.lemmas.List.{append-nil}
use Rattle.dsv_ctext.specs.Plans.{arity_of, left_of, right_of, node_factor, one_of, has_values, locals_before}
use Rattle.dsv_ctext.proofs.Whole.{code_is}

-- ---- expressions
wide_same : (t : CType) (e : Expr) → coefficients_of (as_wide t e).expr ≡ coefficients_of e
wide_same Int e = refl
wide_same Int32 e = refl
wide_same Int64 e = refl

needed_same : (t : CType) (c : TypedExpr) → coefficients_of (as_needed t c).expr ≡ coefficients_of c.expr
needed_same Int c = refl
needed_same Int32 c = refl
needed_same Int64 c = wide_same c.type c.expr

-- the coefficients of a node's operands
abbrev pub values_at : Net → ℕ → List ℤ
values_at net i = coefficients_of (code_at (codes_of net) i).expr

abbrev pub values_by : Arity → List ℤ → List ℤ → List ℤ → List ℤ
values_by arity.None own left right = []
values_by arity.One own left right = own ++ left
values_by arity.Two own left right = left ++ right

abbrev pub node_values : Net → Node → List ℤ
node_values net n = values_by (arity_of n) (node_factor net n) (values_at net (left_of n)) (values_at net (right_of n))

values_of : (net : Net) (l : ℕ) (n : Node) → coefficients_of (node_code net.format (bounds_of net.format net.nodes) (codes_of net) l n).expr ≡ node_values net n
values_of net l Input = refl
values_of net l (Reg k) = refl
values_of net l (Fit k) = refl
values_of net l (Round k) = refl
values_of net l (MulConst c k) = ap (λ (xs : List ℤ). c ∷ xs) (needed_same (type_for net.format (node_bound net.format (bounds_of net.format net.nodes) (MulConst c k))) (code_at (codes_of net) k))
values_of net l (Scale k) = ap (λ (xs : List ℤ). one_of net ∷ xs) (needed_same (type_for net.format (node_bound net.format (bounds_of net.format net.nodes) (Scale k))) (code_at (codes_of net) k))
values_of net l (Add k m) = ap (λ (xs : List ℤ). xs ++ values_at net m) (needed_same (type_for net.format (node_bound net.format (bounds_of net.format net.nodes) (Add k m))) (code_at (codes_of net) k))
values_of net l (Sub k m) = ap (λ (xs : List ℤ). xs ++ values_at net m) (needed_same (type_for net.format (node_bound net.format (bounds_of net.format net.nodes) (Sub k m))) (code_at (codes_of net) k))

values_are : (net : Net) (i : ℕ) (n : Node) → IsNetlist net → i < length net.nodes → n ≡ node_at net i → values_at net i ≡ node_values net n
values_are net i n w h e =
    ap (λ (c : TypedExpr). coefficients_of c.expr) (code_is net i Input h w.backwards)
    ∙ (values_of net (locals_before net.format net.nodes [] [] (length net.next + 1) i) (node_at net i) ∙ ap (node_values net) (sym e))

-- ---- by how many operands the node has
pub no_values : (net : Net) (i : ℕ) (n : Node) (a : Arity) → IsNetlist net → i < length net.nodes → n ≡ node_at net i → a ≡ arity_of n → a ≡ arity.None → values_at net i ≡ []
no_values net i n a w h e x y = let z : arity_of n ≡ arity.None = sym x ∙ y in rw z at (values_are net i n w h e)

pub one_values : (net : Net) (i : ℕ) (n : Node) (a : Arity) (own : List ℤ) (left : ℕ) → IsNetlist net → i < length net.nodes → n ≡ node_at net i → a ≡ arity_of n → a ≡ arity.One → own ≡ node_factor net n → left ≡ left_of n
    → values_at net i ≡ own ++ values_at net left
one_values net i n a own left w h e x y f l = let z : arity_of n ≡ arity.One = sym x ∙ y in rw (f, l) (rw z at (values_are net i n w h e))

pub two_values : (net : Net) (i : ℕ) (n : Node) (a : Arity) (left right : ℕ) → IsNetlist net → i < length net.nodes → n ≡ node_at net i → a ≡ arity_of n → a ≡ arity.Two → left ≡ left_of n → right ≡ right_of n
    → values_at net i ≡ values_at net left ++ values_at net right
two_values net i n a left right w h e x y l r = let z : arity_of n ≡ arity.Two = sym x ∙ y in rw (l, r) (rw z at (values_are net i n w h e))

-- ---- whether there are any
has_append : (xs ys : List ℤ) → has_values (xs ++ ys) ≡ (has_values xs || has_values ys)
has_append [] ys = refl
has_append (x ∷ xs) ys = refl

pub has_both : (all xs ys : List ℤ) (a b r : Bool) → all ≡ xs ++ ys → a ≡ has_values xs → b ≡ has_values ys → r ≡ (a || b) → r ≡ has_values all
has_both all xs ys a b r e x y z = rw (e, has_append xs ys, z, x, y) refl

-- ---- their text
after_none : (s : Bool) → (s || false) ≡ s
after_none true = refl
after_none false = refl

after_some : (s : Bool) → (s || true) ≡ true
after_some true = refl
after_some false = refl

values_split : (f : ℕ) (s : Bool) (xs ys : List ℤ) → values_text f s (xs ++ ys) ≡ values_text f s xs ++ values_text f (s || has_values xs) ys
values_split f s [] ys = rw (after_none s) refl
values_split f s (x ∷ xs) ys =
    let more = values_split f true xs ys in
    rw (after_some s)
    (ap (λ (t : List ℕ). separator s ++ (value_text f x ++ t)) more
    ∙ (ap (λ (t : List ℕ). separator s ++ t) (sym (append_assoc (value_text f x) (values_text f true xs) (values_text f true ys)))
    ∙ sym (append_assoc (separator s) (value_text f x ++ values_text f true xs) (values_text f true ys))))

pub values_written : (f : ℕ) (s t u : Bool) (all xs ys : List ℤ) → all ≡ xs ++ ys → u ≡ has_values xs → t ≡ (s || u) → values_text f s all ≡ values_text f s xs ++ values_text f t ys
values_written f s t u all xs ys e h g = rw (e, g, h) (values_split f s xs ys)

pub one_value : (f : ℕ) (s : Bool) (c : ℤ) → values_text f s (c ∷ []) ≡ separator s ++ value_text f c
one_value f s c = ap (λ (t : List ℕ). separator s ++ t) (append-nil (value_text f c))

pub comment_written : (f : ℕ) (b : Bool) (xs : List ℤ) → b ≡ has_values xs → b ≡ true → comment_text f xs ≡ values_text f false xs ++ codes " */"
comment_written f b [] e h = absurd (cc)
comment_written f b (x ∷ xs) e h = refl

pub no_comment : (f : ℕ) (b : Bool) (xs : List ℤ) → b ≡ has_values xs → b ≡ false → comment_text f xs ≡ []
no_comment f b [] e h = refl
no_comment f b (x ∷ xs) e h = absurd (cc)
