-- The piece of a struct is read as its fields.
use Rattle.std.proofs.Common.{◌≡◌, ℕ, zero, suc, ◌+◌, ◌<◌, ◌≤◌, ◌==◌, Bool, true, false, List, [], ◌∷◌, ◌++◌, length, refl, sym, ap, ◌∙◌, arith, append_assoc}
use Rattle.std.specs.Prelude.{codes, ◌&&◌, Some, None, option_map, if◌then◌else◌}
use Rattle.std.specs.Option.{option_and_then}
use Rattle.std.specs.Str.{bytes_eq}
use Rattle.std.proofs.lemmas.Bool.{ne_eqb}
use Rattle.std.proofs.lemmas.List.{append-nil}
use Rattle.std.proofs.Math.Numerals.{add-one}
use Rattle.dsv_c.specs.declared.c_type.CType.{CType}
use Rattle.dsv_c.specs.declared.c_type.CType.TheVariants.{Int, Int32, Int64}
use Rattle.dsv_c.specs.Meaning.{is_same_type}
use Rattle.dsv_ctext.specs.Texts.{member_name, type_name}
use Rattle.dsv_ctext.specs.declared.names.Labels.{Labels}
use Rattle.dsv_c_reading.specs.Bodies.{is_new}
use Rattle.dsv_c_reading.specs.Expressions.{type_named}
use Rattle.dsv_c_reading.specs.Labels.{AreMembers}
use Rattle.dsv_c_reading.specs.Lexemes.{Lexeme, Word}
use Rattle.dsv_c_reading.specs.Units.{Field, field_of, fields_of, struct_of, is_unused, registers_of, have_type, names_of, used_lines}
use Rattle.dsv_c_reading.proofs.Spelled.{none_lines, field_lines, none_field, struct_item}
use Rattle.dsv_c_reading.proofs.ParseBodies.{type_read}
use Rattle.dsv_c_reading.proofs.ParseLabels.{members_differ, member_free, member_not_none}
use Rattle.dsv_c_reading.proofs.ParseNames.{first_names, is_new_from, new_name}

-- ---- fields
abbrev pub field : CType → List ℕ → Field
field type name = record { type = type; name = name }

-- the fields of members, the first of which has the number k
abbrev pub fields_from : (ℕ → List ℕ) → CType → ℕ → ℕ → List Field
fields_from member word k zero = []
fields_from member word k (suc n) = field word (member k) ∷ fields_from member word (k + 1) n

-- what the struct has in place of registers, if it has none
abbrev pub instead : ℕ → List Field
instead zero = field Int32 (codes "none") ∷ []
instead (suc n) = []

same_type : (t : CType) → is_same_type t t ≡ true
same_type Int = refl
same_type Int32 = refl
same_type Int64 = refl

pub words_only : (member : ℕ → List ℕ) (word : CType) (k n : ℕ) → have_type word (fields_from member word k n) ≡ true
words_only member word k zero = refl
words_only member word k (suc n) = rw (same_type word) (words_only member word (k + 1) n)

names_from : (member : ℕ → List ℕ) (word : CType) (k n : ℕ) → first_names member k ++ names_of (fields_from member word k n) ≡ first_names member (k + n)
names_from member word k zero = let z : k + 0 ≡ k = omega arith in append-nil (first_names member k) ∙ ap (first_names member) (sym z)
names_from member word k (suc n) =
    let rest = names_of (fields_from member word (k + 1) n) in
    let s : k + 1 + n ≡ k + suc n = omega arith in
    sym (append_assoc (first_names member k) (member k ∷ []) rest)
    ∙ (ap (λ (j : ℕ). first_names member j ++ rest) (sym (add-one k)) ∙ (names_from member word (k + 1) n ∙ ap (first_names member) s))

pub names_are_first : (member : ℕ → List ℕ) (word : CType) (n : ℕ) → names_of (fields_from member word 0 n) ≡ first_names member n
names_are_first member word n = let z : 0 + n ≡ n = omega arith in names_from member word 0 n ∙ ap (first_names member) z

-- ---- the line of a struct without registers
not_zero : (n : ℕ) → (suc n == 0) ≡ false
not_zero n = ne_eqb (suc n) 0 (λ e. omega (arith, e))

no_lines : (n : ℕ) → none_lines (suc n) ≡ []
no_lines n = rw (not_zero n) refl

no_field : (n : ℕ) → none_field (suc n) ≡ []
no_field n = rw (not_zero n) refl

pub lines_used : (member : ℕ → List ℕ) (word : CType) (n : ℕ) (lines : List (List Lexeme)) → used_lines (fields_from member word 0 n) (none_lines n ++ lines) ≡ Some lines
lines_used member word zero lines = refl
lines_used member word (suc n) lines = ap (λ (ls : List (List Lexeme)). Some (ls ++ lines)) (no_lines n)

-- ---- members
module _ (names : Labels) (lawful : AreMembers names.members.now) (word : CType) where
  abbrev many : ℕ
  many = length names.members.now

  abbrev member : ℕ → List ℕ
  member = member_name names

  new_member : (k : ℕ) → k < many → is_new (member k) (first_names member k) ≡ true
  new_member k h = is_new_from (member k) (first_names member k) (member_free names lawful k h).free (new_name member many k (members_differ names lawful) h)

  field_read : (k : ℕ) → k < many → field_of (first_names member k) (Word (type_name word) ∷ Word (member k) ∷ []) ≡ Some (field word (member k))
  field_read k h =
      ap (λ (b : Bool). if b then option_map (λ (t : CType). field t (member k)) (type_named (type_name word)) else None) (new_member k h)
      ∙ ap (option_map (λ (t : CType). field t (member k))) (type_read word)

  fields_read : (k n : ℕ) → k + n ≤ many → fields_of (first_names member k) (field_lines names word k n) ≡ Some (fields_from member word k n)
  fields_read k zero h = refl
  fields_read k (suc n) h =
      let lines = field_lines names word (k + 1) n in
      ap (option_and_then (λ (f : Field). option_map (λ (fs : List Field). f ∷ fs) (fields_of (first_names member k ++ f.name ∷ []) lines))) (field_read k (omega arith))
      ∙ (ap (λ (j : ℕ). option_map (λ (fs : List Field). field word (member k) ∷ fs) (fields_of (first_names member j) lines)) (sym (add-one k))
      ∙ ap (option_map (λ (fs : List Field). field word (member k) ∷ fs)) (fields_read (k + 1) n (omega arith)))

  struct_by : (n : ℕ) → n ≤ many → fields_of [] (field_lines names word 0 n ++ none_field n) ≡ Some (fields_from member word 0 n ++ instead n)
  struct_by zero h = refl
  struct_by (suc n) h =
      ap (λ (ls : List (List Lexeme)). fields_of [] (field_lines names word 0 (suc n) ++ ls)) (no_field n) ∙ (ap (fields_of []) (append-nil (field_lines names word 0 (suc n))) ∙ (fields_read 0 (suc n) (omega arith) ∙ ap (λ (fs : List Field). Some fs) (sym (append-nil (fields_from member word 0 (suc n))))))

  pub struct_read : (n : ℕ) → n ≤ many → struct_of (struct_item names word n) ≡ Some (fields_from member word 0 n ++ instead n)
  struct_read n h = struct_by n h

  -- a member isn't `none`
  is_used : 1 ≤ many → is_unused (field word (member 0)) ≡ false
  is_used h = both (is_same_type word Int32) (bytes_eq (member 0) (codes "none")) (member_not_none names lawful 0 h)
    where
      both : (a b : Bool) → b ≡ false → (a && b) ≡ false
      both true b h = h
      both false b h = refl

  pub registers_read : (n : ℕ) → n ≤ many → registers_of (fields_from member word 0 n ++ instead n) ≡ fields_from member word 0 n
  registers_read zero h = refl
  registers_read (suc zero) h = rw (is_used (omega arith)) refl
  registers_read (suc (suc n)) h = append-nil (fields_from member word 0 (suc (suc n)))
