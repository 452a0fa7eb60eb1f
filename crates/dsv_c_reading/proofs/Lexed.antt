-- The tokens of a program's text.
use Rattle.std.proofs.Common.{◌≡◌, ◌∙◌, ap, refl, sym, subst, arith, ℕ, zero, suc, ◌+◌, ◌^◌, ◌<◌, ◌≤◌, ◌==◌, Bool, true, false, List, [], ◌∷◌, ◌++◌, length, Some, append_assoc}
use Rattle.std.specs.Prelude.{codes, option_map, if◌then◌else◌}
use Rattle.std.specs.Option.{option_and_then}
use Rattle.std.specs.List.{flat_map}
use Rattle.std.proofs.lemmas.List.{append-nil}
use Rattle.std.proofs.lemmas.Grind.{flat_map-append}
use Rattle.dsv_c.specs.declared.c_type.CType.{CType}
use Rattle.dsv_c.specs.Syntax.{Program}
use Rattle.dsv_ctext.specs.Texts.{member_name, local_name, type_name}
use Rattle.dsv_ctext.specs.Comments.{title_text, step_remark}
use Rattle.dsv_ctext.specs.ProgramTexts.{lines_from, member_line, struct_head, struct_tail, struct_text, init_head, init_text, step_head, step_head_end, none_store, step_text}
use Rattle.dsv_ctext.specs.UnitTexts.{unit_text}
use Rattle.dsv_ctext.specs.declared.names.Labels.{Labels}
use Rattle.dsv_c_reading.specs.Labels.{IsIdentifier, AreMembers, AreRemarks}
use Rattle.dsv_c_reading.specs.Machines.{after_out}
use Rattle.dsv_c_reading.specs.Lexemes.{Lexeme, Word, Mark, Line, lexed, lexemes_of}
use Rattle.dsv_c_reading.proofs.Spelled.{local_lines, stored_lines, return_line, none_lines, field_lines, none_field, struct_item, init_item, step_item, function_item, line_lexemes, item_lexemes, state_name, unit_lexemes}
use Rattle.dsv_c_reading.proofs.Readable.{IsReadableProgram}
use Rattle.dsv_c_reading.proofs.LexPieces.{Piece, blank, piece_join, piece_runs, runs_piece, no_piece, from_blank, to_free}
use Rattle.dsv_c_reading.proofs.LexWords.{word_piece}
use Rattle.dsv_c_reading.proofs.LexTokens.{type_word}
use Rattle.dsv_c_reading.proofs.LexNames.{member_name_word, prefixed}
use Rattle.dsv_c_reading.proofs.LexComments.{title_runs, remark_runs}
use Rattle.dsv_c_reading.proofs.LexLines.{constant, after_name, blank_piece, declarations_piece, stores_piece, return_piece, none_piece, parts_piece, opening_piece}
use Rattle.dsv_c_reading.proofs.LexHelpers.{functions_piece}

-- what holds of the names
record AreNames (names : Labels) (many : ℕ) : Type 0 where
  prefix : IsIdentifier names.prefix.now
  members : AreMembers names.members.now
  count : length names.members.now ≡ many

-- ---- the struct
member_piece : (names : Labels) (many k : ℕ) (word : CType) → AreNames names many → k < many → Piece blank (member_line names word k) (line_lexemes (Word (type_name word) ∷ Word (member_name names k) ∷ [])) blank
member_piece names many k word h l =
    piece_join (constant (codes "    ") [] refl) (piece_join (word_piece (type_word word)) (piece_join blank_piece (piece_join (word_piece (member_name_word names k h.members (omega (arith, h.count)))) (after_name 59 (10 ∷ []) (Mark 59 ∷ []) refl refl))))

fields_piece : (names : Labels) (many k n : ℕ) (word : CType) → AreNames names many → k + n ≤ many → Piece blank (lines_from (member_line names word) k n) (flat_map line_lexemes (field_lines names word k n)) blank
fields_piece names many k zero word h l = no_piece
fields_piece names many k (suc n) word h l = piece_join (member_piece names many k word h (omega arith)) (fields_piece names many (k + 1) n word h (omega arith))

none_by : (b : Bool) → Piece blank (if b then codes "    int32_t none;" ++ 10 ∷ [] else []) (flat_map line_lexemes (if b then (Word (codes "int32_t") ∷ Word (codes "none") ∷ []) ∷ [] else [])) blank
none_by true = runs_piece (codes "    int32_t none;" ++ 10 ∷ []) (Word (codes "int32_t") ∷ Word (codes "none") ∷ Mark 59 ∷ []) refl
none_by false = no_piece

-- the brace, the struct's name and its semicolon
struct_end : (names : Labels) (many : ℕ) → AreNames names many → Piece blank (struct_tail names) (Mark 125 ∷ Word (state_name names) ∷ Mark 59 ∷ []) blank
struct_end names many h =
    let end = after_name 59 (10 ∷ 10 ∷ []) (Mark 59 ∷ []) refl refl in
    let name = parts_piece names.prefix.now (codes "_state") (59 ∷ 10 ∷ 10 ∷ []) (prefixed names (codes "_state") h.prefix refl) end in
    subst (λ (x : List ℕ). Piece blank x (Mark 125 ∷ Word (state_name names) ∷ Mark 59 ∷ []) blank) (sym (append_assoc (codes "} " ++ names.prefix.now) (codes "_state;") (10 ∷ 10 ∷ []) ∙ append_assoc (codes "} ") names.prefix.now (codes "_state;" ++ 10 ∷ 10 ∷ [])))
    (piece_join (constant (codes "} ") (Mark 125 ∷ []) refl) name)

-- the struct's lines and its end, as they stand in the tokens
struct_apart : (fs ns : List (List Lexeme)) (rest : List Lexeme) → flat_map line_lexemes fs ++ (flat_map line_lexemes ns ++ (Mark 125 ∷ rest)) ≡ (flat_map line_lexemes (fs ++ ns) ++ Mark 125 ∷ []) ++ rest
struct_apart fs ns rest = simp (flat_map-append, append_assoc) refl

struct_piece : (names : Labels) (many : ℕ) (word : CType) → AreNames names many → Piece blank (struct_text names word many) (Line (codes "include <stdint.h>") ∷ (item_lexemes (struct_item names word many) ++ (Word (state_name names) ∷ Mark 59 ∷ []))) blank
struct_piece names many word h =
    let head = Line (codes "include <stdint.h>") ∷ Word (codes "typedef") ∷ Word (codes "struct") ∷ Mark 123 ∷ [] in
    subst (λ (ls : List Lexeme). Piece blank (struct_text names word many) (head ++ ls) blank) (struct_apart (field_lines names word 0 many) (none_field many) (Word (state_name names) ∷ Mark 59 ∷ []))
    (piece_join (runs_piece struct_head head refl) (piece_join (fields_piece names many 0 many word h (omega arith)) (piece_join (none_by (many == 0)) (struct_end names many h))))

-- ---- NAME_init
abbrev init_name : Labels → List ℕ
init_name names = names.prefix.now ++ codes "_init"

abbrev step_name : Labels → List ℕ
step_name names = names.prefix.now ++ codes "_step"

-- void NAME_init(NAME_state *s) {
init_head_piece : (names : Labels) (many : ℕ) → AreNames names many
    → Piece blank (init_head names many) (Word (codes "void") ∷ Word (init_name names) ∷ Mark 40 ∷ Word (state_name names) ∷ Mark 42 ∷ Word (codes "s") ∷ Mark 41 ∷ Mark 123 ∷ (flat_map line_lexemes (none_lines many) ++ [])) blank
init_head_piece names many h =
    let end = after_name 32 (codes "*s)" ++ 10 ∷ (codes "{" ++ 10 ∷ [])) (Mark 42 ∷ Word (codes "s") ∷ Mark 41 ∷ Mark 123 ∷ []) refl refl in
    let body = piece_join end (piece_join (none_piece many) no_piece) in
    let state = parts_piece names.prefix.now (codes "_state") ((codes " *s)" ++ 10 ∷ (codes "{" ++ 10 ∷ [])) ++ (none_store many ++ [])) (prefixed names (codes "_state") h.prefix refl) body in
    let called = piece_join opening_piece state in
    piece_join (constant (codes "void ") (Word (codes "void") ∷ []) refl)
    (parts_piece names.prefix.now (codes "_init") (codes "(" ++ (names.prefix.now ++ (codes "_state" ++ ((codes " *s)" ++ 10 ∷ (codes "{" ++ 10 ∷ [])) ++ (none_store many ++ []))))) (prefixed names (codes "_init") h.prefix refl) called)

-- the lines of NAME_init and its end
init_apart : (ns ss : List (List Lexeme)) → (flat_map line_lexemes ns ++ []) ++ (flat_map line_lexemes ss ++ Mark 125 ∷ []) ≡ flat_map line_lexemes (ns ++ ss) ++ Mark 125 ∷ []
init_apart ns ss = simp (flat_map-append, append_assoc, append-nil) refl

init_piece : (names : Labels) (many : ℕ) (p : Program) → AreNames names many → IsReadableProgram many p → Piece blank (init_text names many p) (item_lexemes (init_item names many p)) blank
init_piece names many p h r =
    let head = Word (codes "void") ∷ Word (init_name names) ∷ Mark 40 ∷ Word (state_name names) ∷ Mark 42 ∷ Word (codes "s") ∷ Mark 41 ∷ Mark 123 ∷ [] in
    subst (λ (ls : List Lexeme). Piece blank (init_text names many p) (head ++ ls) blank) (init_apart (none_lines many) (stored_lines (local_name names) (member_name names) p.start))
    (piece_join (init_head_piece names many h) (piece_join (stores_piece names 0 many p.start h.members h.count (omega arith) r.start) (runs_piece (codes "}" ++ 10 ∷ []) (Mark 125 ∷ []) refl)))

-- ---- NAME_step
-- word NAME_step(NAME_state *s, word x) {
step_head_piece : (names : Labels) (many : ℕ) (word : CType) → AreNames names many
    → Piece blank (step_head names word many) (Word (type_name word) ∷ Word (step_name names) ∷ Mark 40 ∷ Word (state_name names) ∷ Mark 42 ∷ Word (codes "s") ∷ Mark 44 ∷ Word (type_name word) ∷ Word (codes "x") ∷ Mark 41 ∷ Mark 123 ∷ (flat_map line_lexemes (none_lines many) ++ [])) blank
step_head_piece names many word h =
    let end = after_name 32 (codes "x)" ++ 10 ∷ (codes "{" ++ 10 ∷ [])) (Word (codes "x") ∷ Mark 41 ∷ Mark 123 ∷ []) refl refl in
    let input = piece_join (word_piece (type_word word)) (piece_join end (piece_join (none_piece many) no_piece)) in
    let pointer = piece_join (to_free (after_name 32 (codes "*s, ") (Mark 42 ∷ Word (codes "s") ∷ Mark 44 ∷ []) refl refl)) input in
    let rest = type_name word ++ (step_head_end ++ (none_store many ++ [])) in
    let state = parts_piece names.prefix.now (codes "_state") (codes " *s, " ++ rest) (prefixed names (codes "_state") h.prefix refl) pointer in
    let called = piece_join opening_piece state in
    let name = parts_piece names.prefix.now (codes "_step") (codes "(" ++ (names.prefix.now ++ (codes "_state" ++ (codes " *s, " ++ rest)))) (prefixed names (codes "_step") h.prefix refl) called in
    from_blank (piece_join (word_piece (type_word word)) (piece_join blank_piece name))

-- the lines of NAME_step and its end
step_apart : (ns ds ss : List (List Lexeme)) (r : List Lexeme) → (flat_map line_lexemes ns ++ []) ++ (flat_map line_lexemes ds ++ (flat_map line_lexemes ss ++ (line_lexemes r ++ Mark 125 ∷ []))) ≡ flat_map line_lexemes (ns ++ (ds ++ (ss ++ r ∷ []))) ++ Mark 125 ∷ []
step_apart ns ds ss r = simp (flat_map-append, append_assoc, append-nil) refl

step_piece : (names : Labels) (many : ℕ) (p : Program) → AreNames names many → names.remarks.format.frac_bits ≤ 64 → IsReadableProgram many p → length p.locals < 2 ^ 32 → Piece blank (step_text names many p) (item_lexemes (step_item names many p)) blank
step_piece names many p h f r l =
    let local = local_name names in
    let member = member_name names in
    let head = Word (type_name p.word) ∷ Word (step_name names) ∷ Mark 40 ∷ Word (state_name names) ∷ Mark 42 ∷ Word (codes "s") ∷ Mark 44 ∷ Word (type_name p.word) ∷ Word (codes "x") ∷ Mark 41 ∷ Mark 123 ∷ [] in
    let few : length p.locals + 1 ≤ 2 ^ 33 = omega arith in
    let few_locals : 1 + length p.locals ≤ 2 ^ 33 = omega arith in
    subst (λ (ls : List Lexeme). Piece blank (step_text names many p) (head ++ ls) blank) (step_apart (none_lines many) (local_lines local member 1 p.locals) (stored_lines local member p.stores) (return_line local member p.value))
    (piece_join (step_head_piece names many p.word h) (piece_join (declarations_piece names many 1 p.locals h.members h.count f few_locals r.locals)
    (piece_join (stores_piece names (length p.locals + 1) many p.stores h.members h.count few r.stores) (return_piece names (length p.locals + 1) many p.value h.members h.count few r.value))))

-- ---- the whole
whole_apart : (s : List Lexeme) (a b : Lexeme) (fs i t : List Lexeme) → (s ++ (a ∷ b ∷ [])) ++ (fs ++ (i ++ t)) ≡ s ++ (a ∷ b ∷ (fs ++ (i ++ t)))
whole_apart s a b fs i t = append_assoc s (a ∷ b ∷ []) (fs ++ (i ++ t))

unit_piece : (names : Labels) (many : ℕ) (p : Program) → AreNames names many → AreRemarks names.remarks → IsReadableProgram many p → length p.locals < 2 ^ 32 → Piece blank (unit_text names many p) (unit_lexemes names many p) blank
unit_piece names many p h c r l =
    let fs = flat_map (λ f. item_lexemes (function_item f)) p.functions in
    let i = item_lexemes (init_item names many p) in
    let t = item_lexemes (step_item names many p) in
    let words = c.words in
    let few : names.remarks.format.frac_bits ≤ 64 = omega (arith, words) in
    let end = piece_join (runs_piece (10 ∷ step_remark names.remarks) [] (ap (option_map (after_out [])) (remark_runs names.remarks c))) (step_piece names many p h few r l) in
    subst (λ (ls : List Lexeme). Piece blank (unit_text names many p) (Line (codes "include <stdint.h>") ∷ ls) blank) (whole_apart (item_lexemes (struct_item names p.word many)) (Word (state_name names)) (Mark 59) fs i t)
    (piece_join (runs_piece (title_text names.remarks) [] (title_runs names.remarks c)) (piece_join (struct_piece names many p.word h) (piece_join (functions_piece p r.helpers) (piece_join (init_piece names many p h r) end))))

-- The bytes of a program's text are its tokens.
pub unit_lexed : (names : Labels) (many : ℕ) (p : Program) → IsIdentifier names.prefix.now → AreMembers names.members.now → AreRemarks names.remarks
    → length names.members.now ≡ many → IsReadableProgram many p → length p.locals < 2 ^ 32 → lexemes_of (unit_text names many p) ≡ Some (unit_lexemes names many p)
unit_lexed names many p i m r c h l = ap (option_and_then lexed) (piece_runs (unit_piece names many p (record { prefix = i; members = m; count = c }) r h l))
