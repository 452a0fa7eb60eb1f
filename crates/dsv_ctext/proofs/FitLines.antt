-- The lines of nodes and of stores, as their writers see them.
use Rattle.std.proofs.Common.{◌≡◌, ℕ, ◌+◌, ◌<◌, false, List, [], ◌++◌, length, refl, sym, ap, subst, ◌∙◌, arith, rules, append_assoc}
use Rattle.std.specs.Prelude.{slice_index, slice_get, Some, None, codes, IsTrue}
use Rattle.std.proofs.lemmas.List.{append-nil}
use Rattle.std.proofs.lemmas.List.Elements.{All-get_or}
use Rattle.std.proofs.lemmas.Option.{get_or_from_slice_get}
use Rattle.dsv_netlist.specs.Nodes.{Net}
use Rattle.dsv_netlist.specs.Bounds.{bounds_of}
use Rattle.dsv_netlist.specs.Conditions.{IsNetlist, NamesBelow, names_word}
use Rattle.dsv_netlist.proofs.Naming.{names_word-below}
use Rattle.dsv_netlist.specs.declared.node.Node.{Node}
use Rattle.dsv_netlist.specs.declared.node.Node.TheVariants.{Input, Reg, MulConst, Round, Add, Sub, Fit, Scale}
use Rattle.dsv_c.specs.declared.c_type.CType.{CType}
use Rattle.dsv_ctext.specs.declared.names.Labels.{Labels}
use Rattle.dsv_c.specs.Meaning.{wider_type}
use Rattle.dsv_c.specs.Programs.{code_at, codes_of, node_locals, word_type, helper_type, program_of}
use Rattle.dsv_ctext.specs.Plans.{locals_before}
use Rattle.dsv_ctext.specs.Texts.{code_text, fitted_head}
use Rattle.std.specs.List.{flat_map}
use Rattle.dsv_ctext.specs.Comments.{commented_end}
use Rattle.dsv_ctext.specs.ProgramTexts.{declaration_head, declarations_text, store_head, store_line, line_end, lines_from, step_head, step_tail, step_end, step_text, init_head, init_tail, init_text}
use Rattle.dsv_ctext.proofs.LineTexts.{locals_text, stores_text, start_text}
use Rattle.dsv_ctext.specs.Plans.{IsPlan, need_of, type_at, fitted_of, node_line, store_of, load_line, init_line}
use Rattle.dsv_c.specs.Codable.{node_at}
use Rattle.dsv_ctext.proofs.Whole.{names_back}

regrouped : (h f n p e : List ℕ) → (h ++ ((f ++ n ++ p) ++ e)) ++ [] ≡ h ++ (f ++ (n ++ (p ++ e)))
regrouped h f n p e = append-nil (h ++ ((f ++ n ++ p) ++ e)) ∙ ap (λ (t : List ℕ). h ++ t) (append_assoc (f ++ n) p e ∙ append_assoc f n (p ++ e))

abbrev pub fit_text : Labels → Net → CType → ℕ → ℕ → List ℕ
fit_text names net t l of = declaration_head names (word_type net.format) l ++ (fitted_head t ++ (code_text names false (code_at (codes_of net) of).expr ++ (codes ")" ++ commented_end names.remarks.format.frac_bits (code_at (codes_of net) of).expr)))

fit_text_by : (names : Labels) (net : Net) (l i of : ℕ) (n : Node) → fitted_of n ≡ Some of → NamesBelow i n
    → (declarations_text names l (node_locals net.format (bounds_of net.format net.nodes) (codes_of net) n) ≡ fit_text names net (helper_type net.format (bounds_of net.format net.nodes) (codes_of net) of) l of) × (of < i)
fit_text_by names net l i of Input e b = absurd cc
fit_text_by names net l i of (Reg k) e b = absurd cc
fit_text_by names net l i of (MulConst c k) e b = absurd cc
fit_text_by names net l i of (Round k) e b = absurd cc
fit_text_by names net l i of (Add k m) e b = absurd cc
fit_text_by names net l i of (Sub k m) e b = absurd cc
fit_text_by names net l i of (Scale k) e b = absurd cc
fit_text_by names net l i of (Fit k) e b =
    let s : k ≡ of = cc in
    let t = helper_type net.format (bounds_of net.format net.nodes) (codes_of net) k in
    let here : declarations_text names l (node_locals net.format (bounds_of net.format net.nodes) (codes_of net) (Fit k)) ≡ fit_text names net t l k =
    regrouped (declaration_head names (word_type net.format) l) (fitted_head t) (code_text names false (code_at (codes_of net) k).expr) (codes ")") (commented_end names.remarks.format.frac_bits (code_at (codes_of net) k).expr) in
    (here ∙ ap (λ (m : ℕ). fit_text names net (helper_type net.format (bounds_of net.format net.nodes) (codes_of net) m) l m) s, subst (λ (m : ℕ). m < i) s b)

-- the line of a node that fits a value
pub fit_line : (names : Labels) (net : Net) (types : List CType) (locals : List ℕ) (i of : ℕ) (n : Node) → IsPlan net types locals → i < length net.nodes → n ≡ node_at net i → fitted_of n ≡ Some of
    → (node_line names net i ≡ fit_text names net (wider_type (need_of net of) (type_at types of)) (slice_index locals i) of) × (of < i)
fit_line names net types locals i of n p h e f =
    let l = locals_before net.format net.nodes [] [] (length net.next + 1) i in
    let back = names_back net.nodes i Input h p.netlist.backwards in
    let b = fit_text_by names net l i of (node_at net i) (ap fitted_of (sym e) ∙ f) back in
    let t : (code_at (codes_of net) of).type ≡ type_at types of = sym (p.each_type of (omega (arith, b.1))) in
    (b.0 ∙ (ap (λ (u : CType). fit_text names net (wider_type (need_of net of) u) l of) t ∙ ap (λ (m : ℕ). fit_text names net (wider_type (need_of net of) (type_at types of)) m of) (sym (p.each_local i h))), b.1)

none_by : (names : Labels) (net : Net) (l : ℕ) (n : Node) → fitted_of n ≡ None → declarations_text names l (node_locals net.format (bounds_of net.format net.nodes) (codes_of net) n) ≡ []
none_by names net l Input e = refl
none_by names net l (Reg k) e = refl
none_by names net l (MulConst c k) e = refl
none_by names net l (Round k) e = refl
none_by names net l (Add k m) e = refl
none_by names net l (Sub k m) e = refl
none_by names net l (Fit k) e = absurd cc
none_by names net l (Scale k) e = refl

pub no_line : (names : Labels) (net : Net) (i : ℕ) (n : Node) → n ≡ node_at net i → fitted_of n ≡ None → node_line names net i ≡ []
no_line names net i n e f = none_by names net (locals_before net.format net.nodes [] [] (length net.next + 1) i) (node_at net i) (ap fitted_of (sym e) ∙ f)

-- ---- stores
pub next_below : (net : Net) (k r : ℕ) → IsNetlist net → k < length net.next → slice_get net.next k ≡ Some r → r < length net.nodes
next_below net k r w h e =
    let there = All-get_or (λ i. IsTrue (names_word net.nodes i)) net.next k 0 h w.next in
    let same = get_or_from_slice_get net.next k r 0 e in
    let named_function : IsTrue (names_word net.nodes r) = subst (λ (i : ℕ). IsTrue (names_word net.nodes i)) same there in
    names_word-below net.nodes r (search rules)

pub store_written : (names : Labels) (net : Net) (k r : ℕ) → slice_get net.next k ≡ Some r → store_of names net k ≡ store_head names k ++ (code_text names false (code_at (codes_of net) r).expr ++ line_end)
store_written names net k r e = ap (λ (i : ℕ). store_head names k ++ (code_text names false (code_at (codes_of net) i).expr ++ line_end)) (get_or_from_slice_get net.next k r 0 e)

-- ---- the step function
pub output_below : (net : Net) → IsNetlist net → net.output < length net.nodes
output_below net w = let e = w.output in names_word-below net.nodes net.output (search rules)

around : (h l n s t : List ℕ) → h ++ ((l ++ n) ++ (s ++ t)) ≡ h ++ (l ++ (n ++ (s ++ t)))
around h l n s t = ap (λ (x : List ℕ). h ++ x) (append_assoc l n (s ++ t))

pub step_written : (names : Labels) (net : Net) → IsNetlist net → step_text names (length net.next) (program_of net)
    ≡ step_head names (word_type net.format) (length net.next) ++ (lines_from (load_line names (word_type net.format)) 0 (length net.next) ++ (lines_from (node_line names net) 0 (length net.nodes)
    ++ (lines_from (store_of names net) 0 (length net.next) ++ step_tail names (code_at (codes_of net) net.output).expr)))
step_written names net w =
    let h = step_head names (word_type net.format) (length net.next) in
    let t = step_tail names (code_at (codes_of net) net.output).expr in
    ap (λ (x : List ℕ). h ++ (x ++ (flat_map (store_line names) (program_of net).stores ++ t))) (locals_text names net w)
    ∙ (ap (λ (x : List ℕ). h ++ ((lines_from (load_line names (word_type net.format)) 0 (length net.next) ++ lines_from (node_line names net) 0 (length net.nodes)) ++ (x ++ t))) (stores_text names net)
    ∙ around h (lines_from (load_line names (word_type net.format)) 0 (length net.next)) (lines_from (node_line names net) 0 (length net.nodes)) (lines_from (store_of names net) 0 (length net.next)) t)

pub init_written : (names : Labels) (net : Net) → init_text names (length net.next) (program_of net) ≡ init_head names (length net.next) ++ (lines_from (init_line names) 0 (length net.next) ++ init_tail)
init_written names net = ap (λ (x : List ℕ). init_head names (length net.next) ++ (x ++ init_tail)) (start_text names net)

-- as the writers see them
pub step_written_as : (names : Labels) (net : Net) (word : CType) (many : ℕ) → IsNetlist net → word ≡ word_type net.format → many ≡ length net.next → step_text names (length net.next) (program_of net)
    ≡ step_head names word many ++ (lines_from (load_line names word) 0 many ++ (lines_from (node_line names net) 0 (length net.nodes) ++ (lines_from (store_of names net) 0 (length net.next) ++ step_tail names (code_at (codes_of net) net.output).expr)))
step_written_as names net word many w e m =
    step_written names net w
    ∙ (ap (λ (t : CType). step_head names t (length net.next) ++ (lines_from (load_line names t) 0 (length net.next) ++ (lines_from (node_line names net) 0 (length net.nodes) ++ (lines_from (store_of names net) 0 (length net.next) ++ step_tail names (code_at (codes_of net) net.output).expr)))) (sym e)
    ∙ ap (λ (k : ℕ). step_head names word k ++ (lines_from (load_line names word) 0 k ++ (lines_from (node_line names net) 0 (length net.nodes) ++ (lines_from (store_of names net) 0 (length net.next) ++ step_tail names (code_at (codes_of net) net.output).expr)))) (sym m))

pub init_written_as : (names : Labels) (net : Net) (many : ℕ) → many ≡ length net.next → init_text names (length net.next) (program_of net) ≡ init_head names many ++ (lines_from (init_line names) 0 many ++ init_tail)
init_written_as names net many m = init_written names net ∙ ap (λ (k : ℕ). init_head names k ++ (lines_from (init_line names) 0 k ++ init_tail)) (sym m)

pub tail_written : (names : Labels) (net : Net) (k : ℕ) → k ≡ net.output → step_tail names (code_at (codes_of net) net.output).expr ≡ codes "    return " ++ (code_text names false (code_at (codes_of net) k).expr ++ step_end)
tail_written names net k e = ap (λ (m : ℕ). step_tail names (code_at (codes_of net) m).expr) (sym e)
