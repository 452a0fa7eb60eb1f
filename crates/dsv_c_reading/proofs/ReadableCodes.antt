-- The expressions of nodes and the locals among them name only what is declared before them.
use Rattle.std.proofs.Common.{◌≡◌, ℕ, ◌+◌, ◌^◌, ◌<◌, ◌≤◌, inl, inr, List, [], ◌∷◌, ◌++◌, length, length-append, sym, subst, arith}
use Rattle.std.specs.List.{All}
use Rattle.std.proofs.lemmas.Bool.{cases_lt}
use Rattle.std.proofs.lemmas.List.{get_or_past}
use Rattle.std.proofs.lemmas.List.Elements.{All-get_or, All-push, All-weaker, All-head, All-tail}
use Rattle.dsv_word.specs.declared.format.Format.{Format}
use Rattle.dsv_netlist.specs.declared.node.Node.{Node}
use Rattle.dsv_netlist.specs.declared.node.Node.TheVariants.{Input, Reg, MulConst, Round, Add, Sub, Fit, Scale}
use Rattle.dsv_netlist.specs.Bounds.{node_bound}
use Rattle.dsv_netlist.specs.Conditions.{ReadsBelow}
use Rattle.dsv_c.specs.declared.c_type.CType.{CType}
use Rattle.dsv_c.specs.declared.c_type.CType.TheVariants.{Int, Int32, Int64}
use Rattle.dsv_c.specs.Syntax.{Expr, Constant, Local, Member, Cast, Times, Plus, Minus, Over, Mask, Flip, Choice, Call, Declaration}
use Rattle.dsv_c.specs.Programs.{type_for, TypedExpr, typed_expr, as_wide, as_needed, code_at, operand_code, node_code, node_locals, codes_from, locals_from}
use Rattle.dsv_c.specs.Codable.{HasConstant}
use Rattle.dsv_c.proofs.Helpers.{word_bound_small, unit_small}
use Rattle.dsv_c_reading.proofs.Readable.{IsReadable, AreReadable}

-- ---- more locals
pub readable_later : (n k m : ℕ) (e : Expr) → n ≤ k → IsReadable n m e → IsReadable k m e
readable_later n k m (Constant c) l h = h
readable_later n k m (Local i) l h = omega arith
readable_later n k m (Member i) l h = h
readable_later n k m (Cast t e) l h = readable_later n k m e l h
readable_later n k m (Times a b) l h = (readable_later n k m a l h.0, readable_later n k m b l h.1)
readable_later n k m (Plus a b) l h = (readable_later n k m a l h.0, readable_later n k m b l h.1)
readable_later n k m (Minus a b) l h = (readable_later n k m a l h.0, readable_later n k m b l h.1)
readable_later n k m (Over e i) l h = (readable_later n k m e l h.0, h.1)
readable_later n k m (Mask e i) l h = (readable_later n k m e l h.0, h.1)
readable_later n k m (Flip e i) l h = (readable_later n k m e l h.0, h.1)
readable_later n k m (Choice a b c d) l h = (readable_later n k m a l h.0, readable_later n k m b l h.1, readable_later n k m c l h.2, readable_later n k m d l h.3)
readable_later n k m (Call g e) l h = readable_later n k m e l h

pub readable_joined : (n m : ℕ) (ds es : List Declaration) → AreReadable n m ds → AreReadable (n + length ds) m es → AreReadable n m (ds ++ es)
readable_joined n m [] es h k = subst (λ (i : ℕ). AreReadable i m es) (omega arith) k
readable_joined n m (d ∷ ds) es h k =
    let same : n + length (d ∷ ds) ≡ n + 1 + length ds = omega arith in
    (h.0, readable_joined (n + 1) m ds es h.1 (subst (λ (i : ℕ). AreReadable i m es) same k))

-- ---- expressions with types
pub record IsRead (n m : ℕ) (c : TypedExpr) : Type 0 where
  pub expr : IsReadable n m c.expr

read_later : (n k m : ℕ) (cs : List TypedExpr) → n ≤ k → All (IsRead n m) cs → All (IsRead k m) cs
read_later n k m cs l h = All-weaker (IsRead n m) (IsRead k m) (λ c r. record { expr = readable_later n k m c.expr l r.expr }) cs h

-- what stands at a place, even if none of the expressions does
pub code_at_read : (n m : ℕ) (cs : List TypedExpr) (i : ℕ) → 0 < n → All (IsRead n m) cs → IsRead n m (code_at cs i)
code_at_read n m cs i s h = elim (cases_lt i (length cs)) [
  | inl l ↦ All-get_or (IsRead n m) cs i (typed_expr (Local 0) Int) l h
  | inr g ↦ subst (IsRead n m) (sym (get_or_past cs i (typed_expr (Local 0) Int) g)) (record { expr = s })
]

wide_read : (n m : ℕ) (t : CType) (e : Expr) → IsReadable n m e → IsRead n m (as_wide t e)
wide_read n m Int e h = record { expr = h }
wide_read n m Int32 e h = record { expr = h }
wide_read n m Int64 e h = record { expr = h }

needed_read : (n m : ℕ) (t : CType) (c : TypedExpr) → IsRead n m c → IsRead n m (as_needed t c)
needed_read n m Int c h = h
needed_read n m Int32 c h = h
needed_read n m Int64 c h = wide_read n m c.type c.expr h.expr

operand_read : (f : Format) (bound n m : ℕ) (cs : List TypedExpr) (i : ℕ) → 0 < n → All (IsRead n m) cs → IsRead n m (operand_code f bound cs i)
operand_read f bound n m cs i s h = needed_read n m (type_for f bound) (code_at cs i) (code_at_read n m cs i s h)

-- ---- a node
-- what is known before a node, if l locals stand and m registers
pub record Before (m l : ℕ) (cs : List TypedExpr) : Type 0 where
  pub many : m + 1 ≤ l
  pub codes : All (IsRead l m) cs

-- 2^frac_bits is a constant of 64 bits
unit_short : (f : Format) → 2 ^ f.frac_bits < 2 ^ 63
unit_short f = let u = unit_small f in let s = word_bound_small f in omega arith

-- k locals stand after it
node_read : (f : Format) (m l k : ℕ) (bs : List ℕ) (cs : List TypedExpr) (n : Node) → m + 1 ≤ l → l + length (node_locals f bs cs n) ≤ k → All (IsRead k m) cs → ReadsBelow m n → HasConstant n → IsRead k m (node_code f bs cs l n)
node_read f m l k bs cs Input s t h r c = record { expr = omega arith }
node_read f m l k bs cs (Reg i) s t h r c = record { expr = omega arith }
node_read f m l k bs cs (MulConst a i) s t h r c = record { expr = (c, (operand_read f (node_bound f bs (MulConst a i)) k m cs i (omega arith) h).expr) }
node_read f m l k bs cs (Round i) s t h r c = record { expr = (code_at_read k m cs i (omega arith) h).expr }
node_read f m l k bs cs (Add i j) s t h r c = record { expr = ((operand_read f (node_bound f bs (Add i j)) k m cs i (omega arith) h).expr, (code_at_read k m cs j (omega arith) h).expr) }
node_read f m l k bs cs (Sub i j) s t h r c = record { expr = ((operand_read f (node_bound f bs (Sub i j)) k m cs i (omega arith) h).expr, (code_at_read k m cs j (omega arith) h).expr) }
node_read f m l k bs cs (Fit i) s t h r c = record { expr = omega arith }
node_read f m l k bs cs (Scale i) s t h r c = record { expr = (unit_short f, (operand_read f (node_bound f bs (Scale i)) k m cs i (omega arith) h).expr) }

node_locals_read : (f : Format) (m l : ℕ) (bs : List ℕ) (cs : List TypedExpr) (n : Node) → Before m l cs → AreReadable l m (node_locals f bs cs n)
node_locals_read f m l bs cs Input b = tt
node_locals_read f m l bs cs (Reg k) b = tt
node_locals_read f m l bs cs (MulConst k i) b = tt
node_locals_read f m l bs cs (Round i) b = tt
node_locals_read f m l bs cs (Add i j) b = tt
node_locals_read f m l bs cs (Sub i j) b = tt
node_locals_read f m l bs cs (Fit i) b = ((code_at_read l m cs i (omega (arith, b.many)) b.codes).expr, tt)
node_locals_read f m l bs cs (Scale i) b = tt

before_more : (f : Format) (m l : ℕ) (bs : List ℕ) (cs : List TypedExpr) (n : Node) → Before m l cs → ReadsBelow m n → HasConstant n → Before m (l + length (node_locals f bs cs n)) (cs ++ node_code f bs cs l n ∷ [])
before_more f m l bs cs n b r c =
    let k = l + length (node_locals f bs cs n) in
    record {
      many = omega (arith, b.many);
      codes = All-push (IsRead k m) cs (node_code f bs cs l n) (read_later l k m cs (omega arith) b.codes) (node_read f m l k bs cs n b.many (omega arith) (read_later l k m cs (omega arith) b.codes) r c);
    }

-- ---- all nodes
pub record AreRead (f : Format) (m l : ℕ) (ns : List Node) (bs : List ℕ) (cs : List TypedExpr) : Type 0 where
  pub locals : AreReadable l m (locals_from f ns bs cs l)
  pub codes : All (IsRead (l + length (locals_from f ns bs cs l)) m) (codes_from f ns bs cs l)

pub nodes_read : (f : Format) (m l : ℕ) (ns : List Node) (bs : List ℕ) (cs : List TypedExpr) → Before m l cs → All (ReadsBelow m) ns → All HasConstant ns → AreRead f m l ns bs cs
nodes_read f m l [] bs cs b r c = record { locals = tt; codes = read_later l (l + 0) m cs (omega arith) b.codes }
nodes_read f m l (n ∷ ns) bs cs b r c =
    let ds = node_locals f bs cs n in
    let k = l + length ds in
    let more_bs = bs ++ node_bound f bs n ∷ [] in
    let more_cs = cs ++ node_code f bs cs l n ∷ [] in
    let es = locals_from f ns more_bs more_cs k in
    let more = nodes_read f m k ns more_bs more_cs (before_more f m l bs cs n b (All-head (ReadsBelow m) n ns r) (All-head HasConstant n ns c)) (All-tail (ReadsBelow m) n ns r) (All-tail HasConstant n ns c) in
    let same : k + length es ≡ l + length (ds ++ es) = omega (arith, length-append ds es) in
    record {
      locals = readable_joined l m ds es (node_locals_read f m l bs cs n b) more.locals;
      codes = subst (λ (i : ℕ). All (IsRead i m) (codes_from f ns more_bs more_cs k)) same more.codes;
    }

-- ---- how many locals
node_locals_few : (f : Format) (bs : List ℕ) (cs : List TypedExpr) (n : Node) → length (node_locals f bs cs n) ≤ 1
node_locals_few f bs cs Input = omega arith
node_locals_few f bs cs (Reg k) = omega arith
node_locals_few f bs cs (MulConst k i) = omega arith
node_locals_few f bs cs (Round i) = omega arith
node_locals_few f bs cs (Add i j) = omega arith
node_locals_few f bs cs (Sub i j) = omega arith
node_locals_few f bs cs (Fit i) = omega arith
node_locals_few f bs cs (Scale i) = omega arith

pub locals_from_few : (f : Format) (ns : List Node) (bs : List ℕ) (cs : List TypedExpr) (l : ℕ) → length (locals_from f ns bs cs l) ≤ length ns
locals_from_few f [] bs cs l = omega arith
locals_from_few f (n ∷ ns) bs cs l =
    let ds = node_locals f bs cs n in
    let more_bs = bs ++ node_bound f bs n ∷ [] in
    let more_cs = cs ++ node_code f bs cs l n ∷ [] in
    let es = locals_from f ns more_bs more_cs (l + length ds) in
    omega (arith, length-append ds es, node_locals_few f bs cs n, locals_from_few f ns more_bs more_cs (l + length ds))
