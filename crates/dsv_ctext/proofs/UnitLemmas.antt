-- Which helper functions are called, and the whole text.
use Rattle.std.proofs.Common.{◌≡◌, ℕ, ◌+◌, ◌<◌, Bool, true, false, ◌||◌, List, [], ◌∷◌, ◌++◌, length, drop, refl, sym, ap, subst, ◌∙◌, arith, append_assoc}
use Rattle.std.specs.Prelude.{if◌then◌else◌}
use Rattle.std.specs.List.{flat_map}
use Rattle.std.proofs.lemmas.List.{append-nil, length_push, drop_more}
use Rattle.dsv_word.specs.declared.format.Format.{Format}
use Rattle.dsv_netlist.specs.Nodes.{Net}
use Rattle.dsv_netlist.specs.Bounds.{node_bound, bounds_from, bounds_of}
use Rattle.dsv_netlist.specs.Conditions.{NamesBelow, AllNameBack, IsNetlist}
use Rattle.dsv_netlist.specs.declared.node.Node.{Node}
use Rattle.dsv_netlist.specs.declared.node.Node.TheVariants.{Input, Reg, MulConst, Round, Add, Sub, Fit, Scale}
use Rattle.dsv_c.specs.declared.c_type.CType.{CType}
use Rattle.dsv_c.specs.declared.c_type.CType.TheVariants.{Int, Int32, Int64}
use Rattle.dsv_ctext.specs.declared.names.Labels.{Labels}
use Rattle.dsv_c.specs.Syntax.{Helper, Rounded, Fitted}
use Rattle.dsv_c.specs.Meaning.{is_same_helper}
use Rattle.dsv_c.specs.Programs.{TypedExpr, codes_of, node_code, node_locals, node_helpers, codes_from, helpers_from, has_helper, functions_among, word_type, program_of}
use Rattle.dsv_ctext.specs.Comments.{title_text, step_remark}
use Rattle.dsv_ctext.specs.ProgramTexts.{struct_text, init_text, step_text}
use Rattle.dsv_ctext.specs.HelperTexts.{function_text}
use Rattle.dsv_ctext.specs.UnitTexts.{functions_text, unit_text, called_in, called_at, part_text, type_parts}
use Rattle.dsv_ctext.proofs.Whole.{Agrees, prefix_agrees}

node_helpers-same : (f : Format) (k : ℕ) (bs bs' : List ℕ) (cs cs' : List TypedExpr) (n : Node) → Agrees k bs bs' cs cs' → NamesBelow k n → node_helpers f bs cs n ≡ node_helpers f bs' cs' n
node_helpers-same f k bs bs' cs cs' Input a h = refl
node_helpers-same f k bs bs' cs cs' (Reg r) a h = refl
node_helpers-same f k bs bs' cs cs' (MulConst c i) a h = refl
node_helpers-same f k bs bs' cs cs' (Round i) a h = rw (a.bounds i h, a.codes i h) refl
node_helpers-same f k bs bs' cs cs' (Add i j) a h = refl
node_helpers-same f k bs bs' cs cs' (Sub i j) a h = refl
node_helpers-same f k bs bs' cs cs' (Fit i) a h = rw (a.bounds i h, a.codes i h) refl
node_helpers-same f k bs bs' cs cs' (Scale i) a h = refl

-- the calls of all nodes, over the bounds and the expressions of all
helpers_all : (f : Format) (ns : List Node) (bs : List ℕ) (cs : List TypedExpr) (l : ℕ) → length bs ≡ length cs → AllNameBack (length cs) ns
    → helpers_from f ns bs cs l ≡ flat_map (node_helpers f (bounds_from f ns bs) (codes_from f ns bs cs l)) ns
helpers_all f [] bs cs l e a = refl
helpers_all f (n ∷ ns) bs cs l e a =
    let b = node_bound f bs n in
    let c = node_code f bs cs l n in
    let first = node_helpers-same f (length cs) bs (bounds_from f (n ∷ ns) bs) cs (codes_from f (n ∷ ns) bs cs l) n (prefix_agrees f (n ∷ ns) bs cs l e) a.0 in
    let rest = helpers_from f ns (bs ++ b ∷ []) (cs ++ c ∷ []) (l + length (node_locals f bs cs n)) in
    let more = helpers_all f ns (bs ++ b ∷ []) (cs ++ c ∷ []) (l + length (node_locals f bs cs n)) (omega (arith, length_push bs b, length_push cs c)) (subst (λ (k : ℕ). AllNameBack k ns) (sym (length_push cs c)) a.1) in
    ap (λ (hs : List Helper). hs ++ rest) first ∙ ap (λ (hs : List Helper). node_helpers f (bounds_from f (n ∷ ns) bs) (codes_from f (n ∷ ns) bs cs l) n ++ hs) more

-- the calls of the nodes from number i on
abbrev pub called_from : Net → ℕ → List Helper
called_from net i = flat_map (node_helpers net.format (bounds_of net.format net.nodes) (codes_of net)) (drop i net.nodes)

pub called_all : (net : Net) → IsNetlist net → called_in net ≡ called_from net 0
called_all net w =
    let l = length net.next + 1 in
    let d : drop 0 net.nodes ≡ net.nodes = refl in
    helpers_all net.format net.nodes [] [] l refl w.backwards

has_among : (h : Helper) (xs ys : List Helper) → has_helper h (xs ++ ys) ≡ (has_helper h xs || has_helper h ys)
has_among h [] ys = refl
has_among h (x ∷ xs) ys = has_by (is_same_helper x h) (has_helper h (xs ++ ys)) (has_helper h xs) (has_helper h ys) (has_among h xs ys)
  where
    has_by : (same both first second : Bool) → both ≡ (first || second) → (if same then true else both) ≡ ((if same then true else first) || second)
    has_by true both first second e = refl
    has_by false both first second e = e

-- a node more that was looked at
pub called_more : (net : Net) (h : Helper) (i : ℕ) → i < length net.nodes → has_helper h (called_from net i) ≡ (has_helper h (called_at net i) || has_helper h (called_from net (i + 1)))
called_more net h i l =
    let g = node_helpers net.format (bounds_of net.format net.nodes) (codes_of net) in
    ap (λ (ns : List Node). has_helper h (flat_map g ns)) (drop_more net.nodes i Input l) ∙ has_among h (called_at net i) (called_from net (i + 1))

-- ---- the texts of the functions
part_by : (net : Net) (h : Helper) (order : List Helper) (listed : Bool) → has_helper h (called_in net) ≡ listed
    → flat_map function_text (functions_among net.format (called_in net) (h ∷ order)) ≡ part_text net h ++ flat_map function_text (functions_among net.format (called_in net) order)
part_by net h order true e = rw e refl
part_by net h order false e = rw e refl

parts : (net : Net) (h : Helper) (order : List Helper) → flat_map function_text (functions_among net.format (called_in net) (h ∷ order)) ≡ part_text net h ++ flat_map function_text (functions_among net.format (called_in net) order)
parts net h order = part_by net h order (has_helper h (called_in net)) refl

two_parts : (net : Net) (t : CType) (order : List Helper) → flat_map function_text (functions_among net.format (called_in net) (Rounded t ∷ Fitted t ∷ order)) ≡ type_parts net t ++ flat_map function_text (functions_among net.format (called_in net) order)
two_parts net t order =
    parts net (Rounded t) (Fitted t ∷ order) ∙ (ap (λ (x : List ℕ). part_text net (Rounded t) ++ x) (parts net (Fitted t) order)
    ∙ sym (append_assoc (part_text net (Rounded t)) (part_text net (Fitted t)) (flat_map function_text (functions_among net.format (called_in net) order))))

pub functions_written : (net : Net) → functions_text (program_of net) ≡ type_parts net Int ++ (type_parts net Int32 ++ (type_parts net Int64 ++ []))
functions_written net =
    two_parts net Int (Rounded Int32 ∷ Fitted Int32 ∷ Rounded Int64 ∷ Fitted Int64 ∷ []) ∙ ap (λ (x : List ℕ). type_parts net Int ++ x) (two_parts net Int32 (Rounded Int64 ∷ Fitted Int64 ∷ [])
    ∙ ap (λ (x : List ℕ). type_parts net Int32 ++ x) (two_parts net Int64 []))

pub functions_written_as : (net : Net) → functions_text (program_of net) ≡ type_parts net Int ++ (type_parts net Int32 ++ type_parts net Int64)
functions_written_as net = functions_written net ∙ ap (λ (x : List ℕ). type_parts net Int ++ (type_parts net Int32 ++ x)) (append-nil (type_parts net Int64))

pub unit_written : (names : Labels) (net : Net) (word : CType) (many : ℕ) → word ≡ word_type net.format → many ≡ length net.next → unit_text names (length net.next) (program_of net)
    ≡ title_text names.remarks ++ (struct_text names word many ++ (functions_text (program_of net) ++ (init_text names (length net.next) (program_of net) ++ ((10 ∷ step_remark names.remarks) ++ step_text names (length net.next) (program_of net)))))
unit_written names net word many e m =
    let rest = functions_text (program_of net) ++ (init_text names (length net.next) (program_of net) ++ ((10 ∷ step_remark names.remarks) ++ step_text names (length net.next) (program_of net))) in
    ap (λ (t : CType). title_text names.remarks ++ (struct_text names t (length net.next) ++ rest)) (sym e) ∙ ap (λ (k : ℕ). title_text names.remarks ++ (struct_text names word k ++ rest)) (sym m)
