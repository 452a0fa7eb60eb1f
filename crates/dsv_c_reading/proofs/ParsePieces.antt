-- The pieces after the struct are read as the program's functions.
use Rattle.std.proofs.Common.{◌≡◌, ℕ, ◌+◌, ◌-◌, ◌^◌, ◌<◌, Bool, true, List, [], ◌∷◌, ◌++◌, length, map, refl, sym, ap, subst, ◌∙◌, arith, length-append}
use Rattle.std.specs.Prelude.{codes, ◌&&◌, Some, None, option_map, if◌then◌else◌}
use Rattle.std.specs.Option.{option_and_then}
use Rattle.std.specs.Str.{bytes_eq, byte}
use Rattle.std.proofs.Math.Seq.{drop-append_seam, take-append_seam}
use Rattle.dsv_c.specs.declared.c_type.CType.{CType}
use Rattle.dsv_c.specs.Syntax.{Program, Store}
use Rattle.dsv_ctext.specs.Texts.{member_text, member_name, local_name, type_name}
use Rattle.dsv_ctext.specs.declared.names.Labels.{Labels}
use Rattle.dsv_c_reading.specs.Bodies.{Body, body_of, stores_of}
use Rattle.dsv_c_reading.specs.Expressions.{Scope, type_named}
use Rattle.dsv_c_reading.specs.Items.{Item}
use Rattle.dsv_c_reading.specs.Labels.{AreMembers}
use Rattle.dsv_c_reading.specs.Lexemes.{Lexeme, Word, Mark}
use Rattle.dsv_c_reading.specs.Units.{CUnit, Field, names_of, name_before, AfterStruct, after_struct, functions_of, is_init, step_word, start_of, step_of, init_scope, step_scope, both_read, unit_of, last_functions, registers_of, pieces_read}
use Rattle.dsv_c_reading.proofs.Readable.{IsReadableProgram}
use Rattle.dsv_c_reading.proofs.ReadExpressions.{named}
use Rattle.dsv_c_reading.proofs.Spelled.{local_lines, stored_lines, return_line, init_item, step_item}
use Rattle.dsv_c_reading.proofs.ParseBodies.{type_read, are_named, MayBeDeclared, stores_read, body_read}
use Rattle.dsv_c_reading.proofs.ParseFunctions.{functions}
use Rattle.dsv_c_reading.proofs.ParseLabels.{members_differ, member_names, locals_differ, local_free}
use Rattle.dsv_c_reading.proofs.ParseNames.{first_names, AreDifferent, same_text}
use Rattle.dsv_c_reading.proofs.ParseStruct.{fields_from, words_only, names_are_first, lines_used}

-- ---- NAME_state
name_found : (prefix end : List ℕ) → name_before end (prefix ++ end) ≡ Some prefix
name_found prefix end =
    let n : length (prefix ++ end) - length end ≡ length prefix = omega (arith, length-append prefix end) in
    rw (n, drop-append_seam prefix end, take-append_seam prefix end, same_text end) refl

-- the tokens after the struct stand before the head of the first of the pieces
abbrev pub with_state : List ℕ → List Item → List Item
with_state w [] = []
with_state w (i ∷ is) = record { head = Word w ∷ Mark (byte ";") ∷ i.head; lines = i.lines } ∷ is

after_state : (prefix : List ℕ) (head : List Lexeme) → after_struct (Word (prefix ++ codes "_state") ∷ Mark (byte ";") ∷ head) ≡ Some (record { prefix = prefix; head = head })
after_state prefix head = ap (option_map (λ (p : List ℕ). after p head)) (name_found prefix (codes "_state"))
  where
    after : List ℕ → List Lexeme → AfterStruct
    after p head = record { prefix = p; head = head }

pub state_read : (prefix : List ℕ) (fields : List Field) (i : Item) (is : List Item) → pieces_read fields (with_state (prefix ++ codes "_state") (i ∷ is)) ≡ option_and_then (last_functions prefix (registers_of fields)) (functions_of (i ∷ is))
state_read prefix fields i is =
    ap (option_and_then (λ (a : AfterStruct). option_and_then (last_functions a.prefix (registers_of fields)) (functions_of (record { head = a.head; lines = i.lines } ∷ is)))) (after_state prefix i.head)

-- ---- heads
init_head : (names : Labels) (many : ℕ) (p : Program) → is_init names.prefix.now (init_item names many p).head ≡ true
init_head names many p = tested (bytes_eq init init) (bytes_eq state state) (same_text init) (same_text state)
  where
    init : List ℕ
    init = names.prefix.now ++ codes "_init"

    state : List ℕ
    state = names.prefix.now ++ codes "_state"

    tested : (a b : Bool) → a ≡ true → b ≡ true → ((true && a) && (true && b)) && (true && (true && true)) ≡ true
    tested a b h k = rw (h, k) refl

step_head : (names : Labels) (many : ℕ) (p : Program) → step_word names.prefix.now (step_item names many p).head ≡ Some p.word
step_head names many p = tested (bytes_eq step step) (bytes_eq state state) (bytes_eq word word) (same_text step) (same_text state) (same_text word)
  where
    step : List ℕ
    step = names.prefix.now ++ codes "_step"

    state : List ℕ
    state = names.prefix.now ++ codes "_state"

    word : List ℕ
    word = type_name p.word

    tested : (a b c : Bool) → a ≡ true → b ≡ true → c ≡ true → (if (a && (true && b)) && ((true && (true && true)) && (c && (true && true))) then type_named (type_name p.word) else None) ≡ Some p.word
    tested a b c h k l = rw (h, k, l) (type_read p.word)

-- ---- bodies
module _ (names : Labels) (many : ℕ) (p : Program) (lawful : AreMembers names.members.now) (count : length names.members.now ≡ many) (h : IsReadableProgram many p) (few : length p.locals < 2 ^ 32) where
  abbrev local : ℕ → List ℕ
  local = local_name names

  abbrev member : ℕ → List ℕ
  member = member_name names

  abbrev fields : List Field
  fields = fields_from member p.word 0 many

  abbrev last : ℕ
  last = length p.locals + 1

  may_be_declared : MayBeDeclared local member last many
  may_be_declared = record {
    locals = locals_differ names lawful (length p.locals) (omega arith);
    free = λ k l. local_free names lawful k (omega arith);
    members = subst (AreDifferent member) count (members_differ names lawful);
  }

  abbrev within : List (List ℕ) → List (List ℕ) → Scope
  within locals members = record { locals = locals; members = members }

  start_read : start_of (init_scope fields) fields (init_item names many p).lines ≡ Some p.start
  start_read =
      ap (option_and_then (stores_of (init_scope fields))) (lines_used member p.word many (stored_lines local member p.start))
      ∙ (ap (λ (ms : List (List ℕ)). stores_of (within [] ms) (stored_lines local member p.start)) (names_are_first member p.word many)
      ∙ stores_read local member last many may_be_declared 0 p.start (omega arith) h.start)

  abbrev step_body : Body
  step_body = record { locals = p.locals; stores = p.stores; value = p.value }

  step_read : step_of (step_scope fields) fields (step_item names many p).lines ≡ Some step_body
  step_read =
      let lines = local_lines local member 1 p.locals ++ (stored_lines local member p.stores ++ return_line local member p.value ∷ []) in
      ap (option_and_then (body_of (step_scope fields))) (lines_used member p.word many lines)
      ∙ (ap (λ (ms : List (List ℕ)). body_of (within (codes "x" ∷ []) ms) lines) (names_are_first member p.word many)
      ∙ body_read local member last many may_be_declared 1 p.locals p.stores p.value (omega arith) (are_named 1 many p.locals h.locals) h.stores (named last many p.value h.value))

  -- ---- the functions over the struct
  abbrev pub unit : CUnit
  unit = record { prefix = names.prefix.now; members = map member_text names.members.now; program = p }

  members_read : names_of fields ≡ map member_text names.members.now
  members_read = names_are_first member p.word many ∙ (ap (first_names member) (sym count) ∙ sym (member_names names lawful))

  over_struct : both_read names.prefix.now fields p.functions p.word (init_item names many p).lines (step_item names many p).lines ≡ Some unit
  over_struct =
      let init = (init_item names many p).lines in
      let step = (step_item names many p).lines in
      let make = unit_of names.prefix.now fields p.functions p.word in
      ap (λ (b : Bool). if b then option_and_then (λ (ss : List Store). option_map (make ss) (step_of (step_scope fields) fields step)) (start_of (init_scope fields) fields init) else None) (words_only member p.word 0 many)
      ∙ (ap (option_and_then (λ (ss : List Store). option_map (make ss) (step_of (step_scope fields) fields step))) start_read
      ∙ (ap (option_map (make p.start)) step_read
      ∙ ap (λ (ms : List (List ℕ)). Some (unit_with ms)) members_read))
    where
      unit_with : List (List ℕ) → CUnit
      unit_with ms = record { prefix = names.prefix.now; members = ms; program = p }

  pub last_read : last_functions names.prefix.now fields (functions p.functions (init_item names many p ∷ step_item names many p ∷ [])) ≡ Some unit
  last_read =
      let init = (init_item names many p).lines in
      let step = (step_item names many p).lines in
      let both = λ (word : CType). both_read names.prefix.now fields p.functions word init step in
      ap (λ (b : Bool). if b then option_and_then both (step_word names.prefix.now (step_item names many p).head) else None) (init_head names many p)
      ∙ (ap (option_and_then both) (step_head names many p) ∙ over_struct)
