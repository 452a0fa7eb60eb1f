-- The text of a program as lines by numbers.
use Rattle.std.proofs.Common.{◌≡◌, ℕ, zero, suc, ◌+◌, ◌-◌, ◌<◌, List, [], ◌∷◌, ◌++◌, length, map, get_or, refl, sym, ap, subst, ◌∙◌, arith, append_assoc}
use Rattle.std.specs.Prelude.{slice_index}
use Rattle.std.specs.List.{flat_map}
use Rattle.std.proofs.Math.IntN.{pos}
use Rattle.std.proofs.lemmas.List.{append-nil}
use Rattle.dsv_base.specs.Seen.{SinkSeen}
use Rattle.dsv_base.specs.Taking.{Wrote, CutShort}
use Rattle.dsv_base.proofs.TakingLemmas.{wrote_more, cut_later, cut_more}
use Rattle.dsv_word.specs.declared.format.Format.{Format}
use Rattle.dsv_netlist.specs.Nodes.{Net}
use Rattle.dsv_netlist.specs.Bounds.{node_bound, bounds_from}
use Rattle.dsv_netlist.specs.Conditions.{AllNameBack, IsNetlist}
use Rattle.dsv_netlist.specs.declared.node.Node.{Node}
use Rattle.dsv_netlist.specs.declared.node.Node.TheVariants.{Input}
use Rattle.std.proofs.lemmas.List.{length_push}
use Rattle.dsv_c.specs.declared.c_type.CType.{CType}
use Rattle.dsv_ctext.specs.declared.names.Labels.{Labels}
use Rattle.dsv_c.specs.Syntax.{Constant, Declaration}
use Rattle.dsv_c.specs.Programs.{TypedExpr, code_at, codes_of, node_code, node_locals, codes_from, locals_from, loads_from, stores_from, word_type, program_of}
use Rattle.dsv_ctext.specs.Plans.{locals_before}
use Rattle.dsv_ctext.specs.ProgramTexts.{lines_from, declaration_line, declarations_text, store_line}
use Rattle.dsv_ctext.specs.Plans.{node_line, load_line, store_of, init_line}
use Rattle.dsv_ctext.proofs.Whole.{node_locals-same, prefix_agrees}

-- ---- lines
pub lines_last : (line : ℕ → List ℕ) (k n : ℕ) → lines_from line k (suc n) ≡ lines_from line k n ++ line (k + n)
lines_last line k zero =
    let z : k + 0 ≡ k = omega arith in
    append-nil (line k) ∙ ap line (sym z)
lines_last line k (suc n) =
    let s : k + 1 + n ≡ k + suc n = omega arith in
    ap (λ (t : List ℕ). line k ++ t) (lines_last line (k + 1) n ∙ ap (λ (m : ℕ). lines_from line (k + 1) n ++ line m) s) ∙ sym (append_assoc (line k) (lines_from line (k + 1) n) (line (k + suc n)))

pub lines_next : (line : ℕ → List ℕ) (i : ℕ) → lines_from line 0 (i + 1) ≡ lines_from line 0 i ++ line i
lines_next line i =
    let s : i + 1 ≡ suc i = omega arith in
    let z : 0 + i ≡ i = omega arith in
    ap (lines_from line 0) s ∙ (lines_last line 0 i ∙ ap (λ (m : ℕ). lines_from line 0 i ++ line m) z)

lines_parted : (line : ℕ → List ℕ) (k a b : ℕ) → lines_from line k (a + b) ≡ lines_from line k a ++ lines_from line (k + a) b
lines_parted line k zero b =
    let z : 0 + b ≡ b = omega arith in
    let y : k + 0 ≡ k = omega arith in
    ap (lines_from line k) z ∙ ap (λ (m : ℕ). lines_from line m b) (sym y)
lines_parted line k (suc a) b =
    let s : suc a + b ≡ suc (a + b) = omega arith in
    let t : k + 1 + a ≡ k + suc a = omega arith in
    ap (lines_from line k) s ∙ (ap (λ (x : List ℕ). line k ++ x) (lines_parted line (k + 1) a b ∙ ap (λ (m : ℕ). lines_from line (k + 1) a ++ lines_from line m b) t)
    ∙ sym (append_assoc (line k) (lines_from line (k + 1) a) (lines_from line (k + suc a) b)))

-- a line more was written, or cut short
pub line_wrote : {a b c : SinkSeen} (line : ℕ → List ℕ) (i : ℕ) → Wrote a b (lines_from line 0 i) → Wrote b c (line i) → Wrote a c (lines_from line 0 (i + 1))
line_wrote line i f g = rw (lines_next line i) (wrote_more f g)

pub line_cut : {a b c : SinkSeen} (line : ℕ → List ℕ) (i n : ℕ) → i < n → Wrote a b (lines_from line 0 i) → CutShort b c (line i) → CutShort a c (lines_from line 0 n)
line_cut line i n h f g =
    let e : n ≡ i + 1 + (n - (i + 1)) = omega arith in
    let whole : lines_from line 0 n ≡ (lines_from line 0 i ++ line i) ++ lines_from line (0 + (i + 1)) (n - (i + 1)) =
    ap (lines_from line 0) e ∙ (lines_parted line 0 (i + 1) (n - (i + 1)) ∙ ap (λ (t : List ℕ). t ++ lines_from line (0 + (i + 1)) (n - (i + 1))) (lines_next line i)) in
    rw whole (cut_more (lines_from line (0 + (i + 1)) (n - (i + 1))) (cut_later f g))

lines_same : (f g : ℕ → List ℕ) (k n : ℕ) → ((i : ℕ) → i < k + n → f i ≡ g i) → lines_from f k n ≡ lines_from g k n
lines_same f g k zero h = refl
lines_same f g k (suc n) h = rw (h k (omega arith), lines_same f g (k + 1) n (λ i l. h i (omega arith))) refl

lines_shift : (f : ℕ → List ℕ) (k m n : ℕ) → m ≡ suc k → lines_from f m n ≡ lines_from (λ i. f (suc i)) k n
lines_shift f k m zero e = refl
lines_shift f k m (suc n) e = rw e (ap (λ (t : List ℕ). f (suc k) ++ t) (lines_shift f (k + 1) (suc k + 1) n (omega arith)))

-- ---- declarations
declarations-append : (names : Labels) (k : ℕ) (xs ys : List Declaration) → declarations_text names k (xs ++ ys) ≡ declarations_text names k xs ++ declarations_text names (k + length xs) ys
declarations-append names k [] ys = let z : k + 0 ≡ k = omega arith in ap (λ (m : ℕ). declarations_text names m ys) (sym z)
declarations-append names k (x ∷ xs) ys =
    let s : k + 1 + length xs ≡ k + length (x ∷ xs) = omega arith in
    ap (λ (t : List ℕ). declaration_line names k x ++ t) (declarations-append names (k + 1) xs ys ∙ ap (λ (m : ℕ). declarations_text names (k + 1) xs ++ declarations_text names m ys) s)
    ∙ sym (append_assoc (declaration_line names k x) (declarations_text names (k + 1) xs) (declarations_text names (k + length (x ∷ xs)) ys))

loads-length : (t : CType) (k n : ℕ) → length (loads_from t k n) ≡ n
loads-length t k zero = refl
loads-length t k (suc n) = omega (arith, loads-length t (k + 1) n)

pub loads_text : (names : Labels) (t : CType) (k n : ℕ) → declarations_text names (k + 1) (loads_from t k n) ≡ lines_from (load_line names t) k n
loads_text names t k zero = refl
loads_text names t k (suc n) = ap (λ (x : List ℕ). load_line names t k ++ x) (loads_text names t (k + 1) n)

-- the locals of nodes, over the bounds and the expressions of all nodes
abbrev pub line_among : Labels → Format → List Node → List ℕ → List TypedExpr → ℕ → List ℕ → List TypedExpr → ℕ → List ℕ
line_among names f ns bs cs l bounds codes i = declarations_text names (locals_before f ns bs cs l i) (node_locals f bounds codes (get_or ns i Input))

locals_text_from : (names : Labels) (f : Format) (ns : List Node) (bs : List ℕ) (cs : List TypedExpr) (l : ℕ) → length bs ≡ length cs → AllNameBack (length cs) ns
    → declarations_text names l (locals_from f ns bs cs l) ≡ lines_from (line_among names f ns bs cs l (bounds_from f ns bs) (codes_from f ns bs cs l)) 0 (length ns)
locals_text_from names f [] bs cs l e a = refl
locals_text_from names f (n ∷ ns) bs cs l e a =
    let b = node_bound f bs n in
    let c = node_code f bs cs l n in
    let ds = node_locals f bs cs n in
    let bounds = bounds_from f (n ∷ ns) bs in
    let all = codes_from f (n ∷ ns) bs cs l in
    let line = line_among names f (n ∷ ns) bs cs l bounds all in
    let first : declarations_text names l ds ≡ line 0 = ap (declarations_text names l) (node_locals-same f (length cs) bs bounds cs all n (prefix_agrees f (n ∷ ns) bs cs l e) a.0) in
    let more = locals_text_from names f ns (bs ++ b ∷ []) (cs ++ c ∷ []) (l + length ds) (omega (arith, length_push bs b, length_push cs c)) (subst (λ (k : ℕ). AllNameBack k ns) (sym (length_push cs c)) a.1) in
    let rest = locals_from f ns (bs ++ b ∷ []) (cs ++ c ∷ []) (l + length ds) in
    declarations-append names l ds rest ∙ (ap (λ (t : List ℕ). t ++ declarations_text names (l + length ds) rest) first
    ∙ ap (λ (t : List ℕ). line 0 ++ t) (more ∙ sym (lines_shift line 0 1 (length ns) refl)))

pub locals_text : (names : Labels) (net : Net) → IsNetlist net → declarations_text names 1 (program_of net).locals
    ≡ lines_from (load_line names (word_type net.format)) 0 (length net.next) ++ lines_from (node_line names net) 0 (length net.nodes)
locals_text names net w =
    let t = word_type net.format in
    let l = length net.next + 1 in
    let loads = loads_from t 0 (length net.next) in
    let rest = locals_from net.format net.nodes [] [] l in
    let s : 1 + length loads ≡ l = omega (arith, loads-length t 0 (length net.next)) in
    declarations-append names 1 loads rest
    ∙ (ap (λ (m : ℕ). declarations_text names 1 loads ++ declarations_text names m rest) s
    ∙ (ap (λ (x : List ℕ). x ++ declarations_text names l rest) (loads_text names t 0 (length net.next))
    ∙ ap (λ (x : List ℕ). lines_from (load_line names t) 0 (length net.next) ++ x) (locals_text_from names net.format net.nodes [] [] l refl w.backwards)))

-- ---- stores
stores_text_from : (names : Labels) (codes : List TypedExpr) (ks all : List ℕ) (j : ℕ) → ((i : ℕ) → i < length ks → get_or ks i 0 ≡ get_or all (j + i) 0)
    → flat_map (store_line names) (stores_from j (map (λ k. (code_at codes k).expr) ks)) ≡ lines_from (λ k. store_line names (record { member = k; value = (code_at codes (slice_index all k)).expr })) j (length ks)
stores_text_from names codes [] all j h = refl
stores_text_from names codes (k ∷ ks) all j h =
    let z : j + 0 ≡ j = omega arith in
    let here : k ≡ get_or all j 0 = h 0 (omega arith) ∙ ap (λ (m : ℕ). get_or all m 0) z in
    let more = stores_text_from names codes ks all (j + 1) (λ i l. let s : j + suc i ≡ j + 1 + i = omega arith in h (suc i) (omega arith) ∙ ap (λ (m : ℕ). get_or all m 0) s) in
    ap (λ (m : ℕ). store_line names (record { member = j; value = (code_at codes m).expr }) ++ flat_map (store_line names) (stores_from (j + 1) (map (λ k. (code_at codes k).expr) ks))) here
    ∙ ap (λ (t : List ℕ). store_line names (record { member = j; value = (code_at codes (slice_index all j)).expr }) ++ t) more

pub stores_text : (names : Labels) (net : Net) → flat_map (store_line names) (program_of net).stores ≡ lines_from (store_of names net) 0 (length net.next)
stores_text names net = stores_text_from names (codes_of net) net.next net.next 0 (λ i l. let z : 0 + i ≡ i = omega arith in ap (λ (m : ℕ). get_or net.next m 0) (sym z))

init_text_from : (names : Labels) (ks : List ℕ) (j : ℕ) → flat_map (store_line names) (stores_from j (map (λ k. Constant (pos 0)) ks)) ≡ lines_from (init_line names) j (length ks)
init_text_from names [] j = refl
init_text_from names (k ∷ ks) j = ap (λ (t : List ℕ). init_line names j ++ t) (init_text_from names ks (j + 1))

pub start_text : (names : Labels) (net : Net) → flat_map (store_line names) (program_of net).start ≡ lines_from (init_line names) 0 (length net.next)
start_text names net = init_text_from names net.next 0
