-- A node is made where it doesn't stand yet.
use Rattle.std.specs.Prelude.{ℕ, Bool, false, List, ◌==◌, ◌&&◌}
use Rattle.std.specs.List.{position_or_len}
use Rattle.std.specs.Ordering.{int_eq}
use Rattle.indexmap.specs.IndexSet.{insert_key}
use Rattle.dsv_term.specs.declared.node.TermNode.{TermNode}
use Rattle.dsv_term.specs.declared.node.TermNode.TheVariants.{Input, Constant, Add, Sub, Slt}
use Rattle.dsv_term.specs.declared.node.TermNode.TheVariants.{Sle, Ult, Eq, And, Or, Concat, Neg}
use Rattle.dsv_term.specs.declared.node.TermNode.TheVariants.{Not, MulConst, Sext, Extract, Ite}

abbrev pub same_node : TermNode → TermNode → Bool
same_node (Input k) (Input j) = k == j
same_node (Constant w v) (Constant x u) = (w == x) && (v == u)
same_node (Add a b) (Add c d) = (a.0 == c.0) && (b.0 == d.0)
same_node (Sub a b) (Sub c d) = (a.0 == c.0) && (b.0 == d.0)
same_node (Slt a b) (Slt c d) = (a.0 == c.0) && (b.0 == d.0)
same_node (Sle a b) (Sle c d) = (a.0 == c.0) && (b.0 == d.0)
same_node (Ult a b) (Ult c d) = (a.0 == c.0) && (b.0 == d.0)
same_node (Eq a b) (Eq c d) = (a.0 == c.0) && (b.0 == d.0)
same_node (And a b) (And c d) = (a.0 == c.0) && (b.0 == d.0)
same_node (Or a b) (Or c d) = (a.0 == c.0) && (b.0 == d.0)
same_node (Concat a b) (Concat c d) = (a.0 == c.0) && (b.0 == d.0)
same_node (Neg a) (Neg c) = a.0 == c.0
same_node (Not a) (Not c) = a.0 == c.0
same_node (MulConst a m) (MulConst c n) = (a.0 == c.0) && int_eq m n
same_node (Sext a w) (Sext c x) = (a.0 == c.0) && (w == x)
same_node (Extract a h l) (Extract c i m) = (a.0 == c.0) && ((h == i) && (l == m))
same_node (Ite a b c) (Ite d e f) = (a.0 == d.0) && ((b.0 == e.0) && (c.0 == f.0))
same_node _ _ = false

-- the nodes with this one, which is put last unless it stands there
abbrev pub made_nodes : List TermNode → TermNode → List TermNode
made_nodes nodes node = insert_key same_node nodes node

-- its number then
abbrev pub made_id : List TermNode → TermNode → ℕ
made_id nodes node = position_or_len (same_node node) nodes
