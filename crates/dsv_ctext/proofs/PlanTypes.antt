-- The types of nodes' expressions, and the numbers of their locals.
use Rattle.std.proofs.Common.{◌≡◌, ℕ, ◌+◌, ◌<◌, inl, inr, List, [], length, set, refl, sym, ap, ◌∙◌, arith}
use Rattle.std.specs.Prelude.{slice_index}
use Rattle.std.proofs.lemmas.Bool.{cases_lt}
use Rattle.std.proofs.lemmas.List.{get_or-set_same, get_or-set_other}
use Rattle.dsv_netlist.specs.Nodes.{Net}
use Rattle.dsv_netlist.specs.Bounds.{bounds_of, node_bound}
use Rattle.dsv_netlist.specs.Conditions.{IsNetlist, NamesBelow}
use Rattle.dsv_netlist.specs.declared.node.Node.{Node}
use Rattle.dsv_netlist.specs.declared.node.Node.TheVariants.{Input, Reg, MulConst, Round, Add, Sub, Fit, Scale}
use Rattle.dsv_c.specs.declared.c_type.CType.{CType}
use Rattle.dsv_c.specs.declared.c_type.CType.TheVariants.{Int, Int32, Int64}
use Rattle.dsv_c.specs.Syntax.{Expr}
use Rattle.dsv_c.specs.Meaning.{wider_type}
use Rattle.dsv_c.specs.Programs.{TypedExpr, as_wide, as_needed, code_at, codes_of, node_code, type_for}
use Rattle.dsv_ctext.specs.Plans.{locals_before}
use Rattle.dsv_ctext.specs.Plans.{need_of, type_at, widened_type, node_type, AreTypes}
use Rattle.dsv_c.specs.Codable.{node_at}
use Rattle.dsv_ctext.proofs.Whole.{code_is, names_back, bound_is}

wide_type : (t : CType) (e : Expr) → (as_wide t e).type ≡ Int64
wide_type Int e = refl
wide_type Int32 e = refl
wide_type Int64 e = refl

widened_type_is : (t : CType) (c : TypedExpr) (u : CType) → u ≡ c.type → widened_type t u ≡ (as_needed t c).type
widened_type_is Int c u e = e
widened_type_is Int32 c u e = e
widened_type_is Int64 c u e = sym (wide_type c.type c.expr)

product_type : (t s : CType) (c : TypedExpr) (u : CType) → t ≡ s → u ≡ c.type → widened_type t u ≡ (as_needed s c).type
product_type t s c u e g = ap (λ (x : CType). widened_type x u) e ∙ widened_type_is s c u g

sum_type : (t s : CType) (c d : TypedExpr) (u v : CType) → t ≡ s → u ≡ c.type → v ≡ d.type → wider_type (widened_type t u) v ≡ wider_type (as_needed s c).type d.type
sum_type t s c d u v e g h = ap (λ (x : CType). wider_type x v) (ap (λ (x : CType). widened_type x u) e ∙ widened_type_is s c u g) ∙ ap (wider_type (as_needed s c).type) h

node_type_by : (net : Net) (types : List CType) (i : ℕ) (n : Node) → AreTypes net i types → NamesBelow i n → slice_index (bounds_of net.format net.nodes) i ≡ node_bound net.format (bounds_of net.format net.nodes) n
    → node_type net types i n ≡ (node_code net.format (bounds_of net.format net.nodes) (codes_of net) (locals_before net.format net.nodes [] [] (length net.next + 1) i) n).type
node_type_by net types i Input a b e = refl
node_type_by net types i (Reg k) a b e = refl
node_type_by net types i (Fit k) a b e = refl
node_type_by net types i (Round k) a b e = ap (wider_type (need_of net k)) (a k b)
node_type_by net types i (MulConst c k) a b e = product_type (need_of net i) (type_for net.format (node_bound net.format (bounds_of net.format net.nodes) (MulConst c k))) (code_at (codes_of net) k) (type_at types k) (ap (type_for net.format) e) (a k b)
node_type_by net types i (Scale k) a b e = product_type (need_of net i) (type_for net.format (node_bound net.format (bounds_of net.format net.nodes) (Scale k))) (code_at (codes_of net) k) (type_at types k) (ap (type_for net.format) e) (a k b)
node_type_by net types i (Add k m) a b e = sum_type (need_of net i) (type_for net.format (node_bound net.format (bounds_of net.format net.nodes) (Add k m))) (code_at (codes_of net) k) (code_at (codes_of net) m) (type_at types k) (type_at types m) (ap (type_for net.format) e) (a k b.0) (a m b.1)
node_type_by net types i (Sub k m) a b e = sum_type (need_of net i) (type_for net.format (node_bound net.format (bounds_of net.format net.nodes) (Sub k m))) (code_at (codes_of net) k) (code_at (codes_of net) m) (type_at types k) (type_at types m) (ap (type_for net.format) e) (a k b.0) (a m b.1)

node_type_is : (net : Net) (types : List CType) (i : ℕ) → IsNetlist net → i < length net.nodes → AreTypes net i types → node_type net types i (node_at net i) ≡ (code_at (codes_of net) i).type
node_type_is net types i w h a =
    let back = names_back net.nodes i Input h w.backwards in
    node_type_by net types i (node_at net i) a back (bound_is net i Input h w.backwards) ∙ ap (λ (c : TypedExpr). c.type) (sym (code_is net i Input h w.backwards))

pub types_more : (net : Net) (types now : List CType) (i : ℕ) (made : CType) → IsNetlist net → i < length net.nodes → i < length types → AreTypes net i types → made ≡ node_type net types i (node_at net i) → now ≡ set types i made → AreTypes net (i + 1) now
types_more net types now i made w h l a e g k p = elim (cases_lt k i) [
  | inl less ↦ rw g (get_or-set_other types i k made Int (λ (s : k ≡ i). absurd (omega arith)) ∙ a k less)
  | inr late ↦ (let s : i ≡ k = omega arith in rw (g, ← s) (get_or-set_same types i made Int l ∙ (e ∙ node_type_is net types i w h a)))
]
