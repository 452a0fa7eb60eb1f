-- The tokens of a program's text are read as that program.
use Rattle.std.proofs.Common.{◌≡◌, ℕ, ◌^◌, ◌<◌, ◌≤◌, List, [], ◌∷◌, ◌++◌, length, map, refl, sym, ap, subst, ◌∙◌, arith, append_assoc}
use Rattle.std.specs.Prelude.{Some}
use Rattle.std.specs.List.{All, flat_map}
use Rattle.std.specs.Option.{option_and_then}
use Rattle.std.specs.Str.{byte}
use Rattle.std.proofs.lemmas.List.{append-nil}
use Rattle.std.proofs.lemmas.List.Elements.{All-cons, All-head, All-tail}
use Rattle.dsv_word.specs.Words.{width}
use Rattle.dsv_c.specs.Programs.{helper_order}
use Rattle.dsv_c.specs.Syntax.{NamedFunction, Program}
use Rattle.dsv_ctext.specs.Texts.{member_text, member_name}
use Rattle.dsv_ctext.specs.declared.names.Labels.{Labels}
use Rattle.dsv_c_reading.specs.Items.{Item, items_of}
use Rattle.dsv_c_reading.specs.Labels.{IsIdentifier, AreMembers}
use Rattle.dsv_c_reading.specs.Lexemes.{Lexeme, Word, Mark}
use Rattle.dsv_c_reading.specs.Units.{Field, registers_of, functions_of, last_functions, pieces_read, items_read, tokens_read}
use Rattle.dsv_c_reading.proofs.Readable.{AreHelpers, IsReadableProgram}
use Rattle.dsv_c_reading.proofs.Spelled.{struct_item, function_item, init_item, step_item, item_lexemes, state_name, program_lexemes, unit_lexemes}
use Rattle.dsv_c_reading.proofs.ParseItems.{IsPiece, items_are}
use Rattle.dsv_c_reading.proofs.ParseLines.{struct_piece, function_pieces}
use Rattle.dsv_c_reading.proofs.ParseFunctions.{functions, functions_read, helpers_once}
use Rattle.dsv_c_reading.proofs.ParseStruct.{fields_from, instead, struct_read, registers_read}
use Rattle.dsv_c_reading.proofs.ParsePieces.{with_state, state_read, last_read}

-- ---- the tokens as those of pieces
-- the pieces after the struct
abbrev after_struct_items : Labels → ℕ → Program → List NamedFunction → List Item
after_struct_items names many p fs = map function_item fs ++ init_item names many p ∷ step_item names many p ∷ []

-- those of the functions
functions_lexemes : (names : Labels) (many : ℕ) (p : Program) (fs : List NamedFunction)
    → flat_map (λ f. item_lexemes (function_item f)) fs ++ (item_lexemes (init_item names many p) ++ item_lexemes (step_item names many p)) ≡ flat_map item_lexemes (after_struct_items names many p fs)
functions_lexemes names many p [] = ap (λ (ls : List Lexeme). item_lexemes (init_item names many p) ++ ls) (sym (append-nil (item_lexemes (step_item names many p))))
functions_lexemes names many p (f ∷ fs) =
    append_assoc (item_lexemes (function_item f)) (flat_map (λ f. item_lexemes (function_item f)) fs) (item_lexemes (init_item names many p) ++ item_lexemes (step_item names many p))
    ∙ ap (λ (ls : List Lexeme). item_lexemes (function_item f) ++ ls) (functions_lexemes names many p fs)

-- those after the struct, with NAME_state
state_lexemes : (w : List ℕ) (xs : List Item) (i : Item) (is : List Item) → flat_map item_lexemes (with_state w (xs ++ i ∷ is)) ≡ Word w ∷ Mark (byte ";") ∷ flat_map item_lexemes (xs ++ i ∷ is)
state_lexemes w [] i is = refl
state_lexemes w (x ∷ xs) i is = refl

abbrev all_items : Labels → ℕ → Program → List Item
all_items names many p = struct_item names p.word many ∷ with_state (state_name names) (after_struct_items names many p p.functions)

lexemes_of_items : (names : Labels) (many : ℕ) (p : Program) → program_lexemes names many p ≡ flat_map item_lexemes (all_items names many p)
lexemes_of_items names many p =
    ap (λ (ls : List Lexeme). item_lexemes (struct_item names p.word many) ++ (Word (state_name names) ∷ Mark (byte ";") ∷ ls)) (functions_lexemes names many p p.functions)
    ∙ ap (λ (ls : List Lexeme). item_lexemes (struct_item names p.word many) ++ ls) (sym (state_lexemes (state_name names) (map function_item p.functions) (init_item names many p) (step_item names many p ∷ [])))

-- ---- the pieces of these tokens
with_state-pieces : (w : List ℕ) (items : List Item) → All IsPiece items → All IsPiece (with_state w items)
with_state-pieces w [] h = h
with_state-pieces w (i ∷ is) h =
    let first = All-head IsPiece i is h in
    All-cons IsPiece (record { head = Word w ∷ Mark (byte ";") ∷ i.head; lines = i.lines }) is (record { head = first.head; lines = first.lines }) (All-tail IsPiece i is h)

items_found : (names : Labels) (many : ℕ) (p : Program) → items_of (program_lexemes names many p) ≡ Some (all_items names many p)
items_found names many p =
    let rest = after_struct_items names many p p.functions in
    ap items_of (lexemes_of_items names many p)
    ∙ items_are (all_items names many p) (All-cons IsPiece (struct_item names p.word many) (with_state (state_name names) rest) (struct_piece names p.word many) (with_state-pieces (state_name names) rest (function_pieces names many p p.functions)))

-- ---- the program of these pieces
functions_found : (names : Labels) (many : ℕ) (p : Program) → AreHelpers p → functions_of (after_struct_items names many p p.functions) ≡ Some (functions p.functions (init_item names many p ∷ step_item names many p ∷ []))
functions_found names many p h =
    let end = init_item names many p ∷ step_item names many p ∷ [] in
    let e = h.functions in
    subst (λ (fs : List NamedFunction). functions_of (map function_item fs ++ end) ≡ Some (functions fs end)) (sym e)
    (functions_read h.format h.called helper_order end helpers_once (subst (λ (fs : List NamedFunction). 1 ≤ length fs → width h.format < 63) e h.small) refl)

-- whichever piece is the first after the struct
rest_found : (names : Labels) (fields : List Field) (xs : List Item) (i : Item) (is : List Item)
    → pieces_read fields (with_state (state_name names) (xs ++ i ∷ is)) ≡ option_and_then (last_functions names.prefix.now (registers_of fields)) (functions_of (xs ++ i ∷ is))
rest_found names fields [] i is = state_read names.prefix.now fields i is
rest_found names fields (x ∷ xs) i is = state_read names.prefix.now fields x (xs ++ i ∷ is)

program_found : (names : Labels) (many : ℕ) (p : Program) → AreMembers names.members.now → length names.members.now ≡ many → IsReadableProgram many p → length p.locals < 2 ^ 32
    → items_read (all_items names many p) ≡ Some (record { prefix = names.prefix.now; members = map member_text names.members.now; program = p })
program_found names many p lawful count h few =
    let rest = after_struct_items names many p p.functions in
    let regs = fields_from (member_name names) p.word 0 many in
    let fields = regs ++ instead many in
    let end = init_item names many p ∷ step_item names many p ∷ [] in
    ap (option_and_then (λ (fs : List Field). pieces_read fs (with_state (state_name names) rest))) (struct_read names lawful p.word many (omega arith))
    ∙ (rest_found names fields (map function_item p.functions) (init_item names many p) (step_item names many p ∷ [])
    ∙ (ap (λ (fs : List Field). option_and_then (last_functions names.prefix.now fs) (functions_of rest)) (registers_read names lawful p.word many (omega arith))
    ∙ (ap (option_and_then (last_functions names.prefix.now regs)) (functions_found names many p h.helpers)
    ∙ last_read names many p lawful count h few)))

pub unit_parsed : (names : Labels) (many : ℕ) (p : Program) → IsIdentifier names.prefix.now → AreMembers names.members.now
    → length names.members.now ≡ many → IsReadableProgram many p → length p.locals < 2 ^ 32
    → tokens_read (unit_lexemes names many p) ≡ Some (record { prefix = names.prefix.now; members = map member_text names.members.now; program = p })
unit_parsed names many p i lawful count h few = ap (option_and_then items_read) (items_found names many p) ∙ program_found names many p lawful count h few
