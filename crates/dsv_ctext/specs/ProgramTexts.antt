-- The text of a program.
use Rattle.std.specs.Prelude.{ℕ, zero, suc, ◌+◌, ◌==◌, false, if◌then◌else◌}
use Rattle.std.specs.Prelude.{List, [], ◌∷◌, ◌++◌, codes}
use Rattle.std.specs.List.{flat_map, concat}
use Rattle.dsv_c.specs.declared.c_type.CType.{CType}
use Rattle.dsv_ctext.specs.declared.names.Labels.{Labels}
use Rattle.dsv_c.specs.Syntax.{Expr, Declaration, Store, Program}
use Rattle.dsv_ctext.specs.Comments.{commented_end}
use Rattle.dsv_ctext.specs.Texts.{member_name, local_name, type_name, code_text}

-- lines by their numbers: n of them from number k on
abbrev pub lines_from : (ℕ → List ℕ) → ℕ → ℕ → List ℕ
lines_from line k zero = []
lines_from line k (suc n) = line k ++ lines_from line (k + 1) n

-- ---- statements
abbrev pub line_end : List ℕ
line_end = codes ";" ++ 10 ∷ []

abbrev pub declaration_start : CType → List ℕ
declaration_start type = codes "    const " ++ type_name type ++ codes " "

abbrev pub declaration_head : Labels → CType → ℕ → List ℕ
declaration_head names type k = declaration_start type ++ (local_name names k ++ codes " = ")

abbrev pub declaration_line : Labels → ℕ → Declaration → List ℕ
declaration_line names k d = declaration_head names d.type k
    ++ (code_text names false d.value ++ commented_end names.remarks.format.frac_bits d.value)

-- the locals, the first of which has the number k
abbrev pub declarations_text : Labels → ℕ → List Declaration → List ℕ
declarations_text names k [] = []
declarations_text names k (d ∷ ds) =
    declaration_line names k d ++ declarations_text names (k + 1) ds

abbrev pub store_head : Labels → ℕ → List ℕ
store_head names k = codes "    s->" ++ (member_name names k ++ codes " = ")

abbrev pub store_line : Labels → Store → List ℕ
store_line names s = store_head names s.member ++ (code_text names false s.value ++ line_end)

-- ---- functions
-- a struct without registers has a member `none`, which is stored so that s is used
abbrev pub none_store : ℕ → List ℕ
none_store many = if many == 0 then codes "    s->none = 0;" ++ 10 ∷ [] else []

abbrev pub step_head_end : List ℕ
step_head_end = codes " x)" ++ 10 ∷ (codes "{" ++ 10 ∷ [])

-- word NAME_step(NAME_state *s, word x)
abbrev pub step_head : Labels → CType → ℕ → List ℕ
step_head names word many = concat (type_name word ∷ codes " " ∷ names.prefix.now ∷ codes "_step("
    ∷ names.prefix.now ∷ codes "_state *s, " ∷ type_name word ∷ step_head_end ∷ none_store many
    ∷ [])

abbrev pub step_end : List ℕ
step_end = codes ";" ++ 10 ∷ (codes "}" ++ 10 ∷ [])

abbrev pub step_tail : Labels → Expr → List ℕ
step_tail names value = codes "    return " ++ (code_text names false value ++ step_end)

-- word step(state *s, word x) { locals stores return value; }
abbrev pub step_text : Labels → ℕ → Program → List ℕ
step_text names many p = step_head names p.word many ++ (declarations_text names 1 p.locals
    ++ (flat_map (store_line names) p.stores ++ step_tail names p.value))

-- void init(state *s) { start }
abbrev pub init_head_end : List ℕ
init_head_end = codes "_state *s)" ++ 10 ∷ (codes "{" ++ 10 ∷ [])

abbrev pub init_head : Labels → ℕ → List ℕ
init_head names many = concat (codes "void " ∷ names.prefix.now ∷ codes "_init("
    ∷ names.prefix.now ∷ init_head_end ∷ none_store many ∷ [])

abbrev pub init_tail : List ℕ
init_tail = codes "}" ++ 10 ∷ []

abbrev pub init_text : Labels → ℕ → Program → List ℕ
init_text names many p = init_head names many ++ (flat_map (store_line names) p.start ++ init_tail)

-- ---- the struct
abbrev pub member_line : Labels → CType → ℕ → List ℕ
member_line names word k = codes "    " ++ (type_name word ++ (codes " "
    ++ (member_name names k ++ (codes ";" ++ 10 ∷ []))))

abbrev pub struct_head : List ℕ
struct_head = codes "#include <stdint.h>" ++ 10 ∷ 10 ∷ (codes "typedef struct {" ++ 10 ∷ [])

abbrev pub struct_tail : Labels → List ℕ
struct_tail names = codes "} " ++ names.prefix.now ++ codes "_state;" ++ 10 ∷ 10 ∷ []

-- a struct has a member (6.7.2.1)
abbrev pub none_line : ℕ → List ℕ
none_line many = if many == 0 then codes "    int32_t none;" ++ 10 ∷ [] else []

-- typedef struct { word name; .. } state;
abbrev pub struct_text : Labels → CType → ℕ → List ℕ
struct_text names word many = struct_head
    ++ (lines_from (member_line names word) 0 many ++ (none_line many ++ struct_tail names))
