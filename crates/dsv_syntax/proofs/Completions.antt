-- From each place of the grammar a file can be completed.
use Rattle.std.proofs.Common.{◌≡◌, ℕ, zero, suc, ◌+◌, ◌-◌, ◌≤◌, false, List, [], ◌∷◌, ◌++◌, Option, Some, None, refl, ap, subst, ◌∙◌, arith}
use Rattle.std.specs.Prelude.{Ok}
use Rattle.dsv_names.specs.declared.field.Field.TheVariants as field
use Rattle.dsv_names.specs.declared.block.Block.{Block}
use Rattle.dsv_names.specs.declared.block.Block.TheVariants as block
use Rattle.dsv_token.specs.declared.token.Word.TheVariants as word
use Rattle.dsv_token.specs.declared.token.TokenKind.{TokenKind}
use Rattle.dsv_token.specs.declared.token.TokenKind.TheVariants as kind
use Rattle.dsv_token.specs.declared.token.Token.{Token}
use Rattle.dsv_syntax.specs.declared.entry.Label.{Label}
use Rattle.dsv_syntax.specs.declared.entry.Label.TheVariants as label
use Rattle.dsv_syntax.specs.declared.entry.Entry.{Entry}
use Rattle.dsv_syntax.specs.declared.parser.Place.{Place}
use Rattle.dsv_syntax.specs.declared.parser.Place.TheVariants as place
use Rattle.dsv_syntax.specs.declared.parser.Closed.{Closed}
use Rattle.dsv_syntax.specs.declared.parser.Parser.{Parser}
use Rattle.dsv_syntax.specs.declared.parsing.Syntax.{Syntax}
use Rattle.dsv_syntax.specs.Parsing.{is_closed, with_close, declaration_start, value_place, field_done, blank_entry, entry_with, step_at, parsed_from}
use Rattle.dsv_syntax.proofs.States.{within, goes}
use Rattle.dsv_syntax.proofs.ReadLemmas.{group_left}
use Rattle.dsv_syntax.proofs.Steps.{CanGoOn}

-- some tokens end the file from here
pub record IsCompleted (p : Parser) : Type 0 where
  pub others : List Token
  pub syntax : Syntax
  pub read : parsed_from 0 p others ≡ Ok syntax

-- a token of a completion; where it stands doesn't matter
abbrev mark : TokenKind → Token
mark k = record { kind = k; at = 0; len = 0 }

-- what a token leads to can be completed, and so can what is before it
by_token : (k : TokenKind) (p q : Parser) → step_at p.place k (mark k) p ≡ Ok q → IsCompleted q → IsCompleted p
by_token k p q e h = record { others = mark k ∷ h.others; syntax = h.syntax; read = goes 0 p q (mark k) h.others k refl e ∙ h.read }

-- every state of this place can be completed
abbrev AreCompleted : Place → Type 0
AreCompleted pl = (b : Block) (c : Closed) (es : List Entry) (e : Entry) (k : ℕ) → IsCompleted (within pl b c es e k)

-- a block without fields
by_block : (d b : Block) (c : Closed) (es : List Entry) (e : Entry) (k : ℕ) → is_closed d c ≡ false →
    IsCompleted (within place.Declaration d (with_close d 0 c) es e k) → IsCompleted (within place.Declaration b c es e k)
by_block d b c es e k free h =
    let first = within place.Declaration b c es e k in
    by_token (kind.Name (word.Block d)) first (within place.BlockName d c es e k) (ap (λ x. declaration_start x d (mark (kind.Name (word.Block d))) first) free) (
    by_token (kind.Name word.Other) (within place.BlockName d c es e k) (within place.BlockEquals d c es e k) refl (
    by_token kind.Equals (within place.BlockEquals d c es e k) (within place.BlockOpen d c es e k) refl (
    by_token kind.Open (within place.BlockOpen d c es e k) (within place.FieldDot d c es e k) refl (
    by_token kind.Close (within place.FieldDot d c es e k) (within place.Semicolon d (with_close d 0 c) es e k) refl (
    by_token kind.Semicolon (within place.Semicolon d (with_close d 0 c) es e k) (within place.Declaration d (with_close d 0 c) es e k) refl h)))))

-- both blocks that a file wants stood there
both_stood : (s i : ℕ) (h : Option ℕ) (b : Block) (es : List Entry) (e : Entry) (k : ℕ) →
    IsCompleted (within place.Declaration b (record { system = Some s; implementation = Some i; hardware = h }) es e k)
both_stood s i h b es e k = record { others = []; syntax = record { entries = es; system = s; implementation = i }; read = refl }

system_stood : (s : ℕ) (i h : Option ℕ) (b : Block) (es : List Entry) (e : Entry) (k : ℕ) →
    IsCompleted (within place.Declaration b (record { system = Some s; implementation = i; hardware = h }) es e k)
system_stood s (Some i) h b es e k = both_stood s i h b es e k
system_stood s None h b es e k =
    by_block block.Implementation b (record { system = Some s; implementation = None; hardware = h }) es e k refl (both_stood s 0 h block.Implementation es e k)

blocks_stood : (s i h : Option ℕ) (b : Block) (es : List Entry) (e : Entry) (k : ℕ) →
    IsCompleted (within place.Declaration b (record { system = s; implementation = i; hardware = h }) es e k)
blocks_stood (Some s) i h b es e k = system_stood s i h b es e k
blocks_stood None i h b es e k =
    by_block block.System b (record { system = None; implementation = i; hardware = h }) es e k refl (system_stood 0 i h block.System es e k)

any_declaration : AreCompleted place.Declaration
any_declaration b c es e k = blocks_stood c.system c.implementation c.hardware b es e k

any_semicolon : AreCompleted place.Semicolon
any_semicolon b c es e k =
    by_token kind.Semicolon (within place.Semicolon b c es e k) (within place.Declaration b c es e k) refl (any_declaration b c es e k)

any_field_dot : AreCompleted place.FieldDot
any_field_dot b c es e k =
    by_token kind.Close (within place.FieldDot b c es e k) (within place.Semicolon b (with_close b 0 c) es e k) refl (any_semicolon b (with_close b 0 c) es e k)

any_block_open : AreCompleted place.BlockOpen
any_block_open b c es e k = by_token kind.Open (within place.BlockOpen b c es e k) (within place.FieldDot b c es e k) refl (any_field_dot b c es e k)

any_block_equals : AreCompleted place.BlockEquals
any_block_equals b c es e k = by_token kind.Equals (within place.BlockEquals b c es e k) (within place.BlockOpen b c es e k) refl (any_block_open b c es e k)

any_block_name : AreCompleted place.BlockName
any_block_name b c es e k =
    by_token (kind.Name word.Other) (within place.BlockName b c es e k) (within place.BlockEquals b c es e k) refl (any_block_equals b c es e k)

any_field_comma : AreCompleted place.FieldComma
any_field_comma b c es e k =
    by_token kind.Close (within place.FieldComma b c es e k) (within place.Semicolon b (with_close b 0 c) es e k) refl (any_semicolon b (with_close b 0 c) es e k)

-- after the value of the open field
after_value : (p : Parser) → IsCompleted (field_done p)
after_value p = any_field_comma p.block p.closed (p.entries ++ p.entry ∷ []) blank_entry 0

any_list_comma : AreCompleted place.ListComma
any_list_comma b c es e k =
    let p = within place.ListComma b c es e k in by_token kind.Close p (field_done p) refl (after_value p)

any_list_number : AreCompleted place.ListNumber
any_list_number b c es e k =
    let p = within place.ListNumber b c es e k in by_token kind.Close p (field_done p) refl (after_value p)

any_list_open : AreCompleted place.ListOpen
any_list_open b c es e k =
    by_token kind.Open (within place.ListOpen b c es e k) (within place.ListNumber b c es (entry_with 0 [] e) k) refl (any_list_number b c es (entry_with 0 [] e) k)

any_number : AreCompleted place.Number
any_number b c es e k =
    let t = mark kind.Number in
    let q = within place.Number b c es (entry_with 0 (t ∷ []) e) k in
    by_token kind.Number (within place.Number b c es e k) (field_done q) refl (after_value q)

any_value : AreCompleted place.Value
any_value b c es e k =
    let t = mark kind.Number in
    let q = within place.Value b c es (entry_with 0 (t ∷ []) e) k in
    by_token kind.Number (within place.Value b c es e k) (field_done q) refl (after_value q)

-- each open brace is closed
any_group : (deep : ℕ) (b : Block) (c : Closed) (es : List Entry) (e : Entry) → IsCompleted (within place.Group b c es e (deep + 1))
any_group zero b c es e =
    let p = within place.Group b c es e 1 in by_token kind.Close p (field_done p) refl (after_value p)
any_group (suc deep) b c es e =
    let more : 1 ≤ suc deep = omega arith in
    let one : deep + 1 ≡ suc deep = omega arith in
    by_token kind.Close (within place.Group b c es e (suc deep + 1)) (within place.Group b c es e (suc deep)) (ap Ok (group_left b c es e (suc deep) more)) (
    subst (λ x. IsCompleted (within place.Group b c es e x)) one (any_group deep b c es e))

open_group : (b : Block) (c : Closed) (es : List Entry) (e : Entry) (k : ℕ) → 1 ≤ k → IsCompleted (within place.Group b c es e k)
open_group b c es e k h =
    let less : (k - 1) + 1 ≡ k = omega arith in
    subst (λ x. IsCompleted (within place.Group b c es e x)) less (any_group (k - 1) b c es e)

field_value : (l : Label) (b : Block) (c : Closed) (es : List Entry) (e : Entry) (k : ℕ) → IsCompleted (within (value_place l) b c es e k)
field_value (label.Field field.B) b c es e k = any_list_open b c es e k
field_value (label.Field field.A) b c es e k = any_list_open b c es e k
field_value label.Passed b c es e k = any_value b c es e k
field_value l b c es e k = any_number b c es e k

any_field_equals : AreCompleted place.FieldEquals
any_field_equals b c es e k =
    by_token kind.Equals (within place.FieldEquals b c es e k) (within (value_place e.label) b c es e k) refl (field_value e.label b c es e k)

-- a field of each block
any_field_name : AreCompleted place.FieldName
any_field_name block.System c es e k =
    let l = label.Field field.ASize in
    by_token (kind.Name (word.Field field.ASize)) (within place.FieldName block.System c es e k) (within place.FieldEquals block.System c es (record e { label = l }) k) refl (
    any_field_equals block.System c es (record e { label = l }) k)
any_field_name block.Implementation c es e k =
    let l = label.Field field.Max in
    by_token (kind.Name (word.Field field.Max)) (within place.FieldName block.Implementation c es e k) (within place.FieldEquals block.Implementation c es (record e { label = l }) k) refl (
    any_field_equals block.Implementation c es (record e { label = l }) k)
any_field_name block.Hardware c es e k =
    let l = label.Passed in
    by_token (kind.Name word.Other) (within place.FieldName block.Hardware c es e k) (within place.FieldEquals block.Hardware c es (record e { label = l }) k) refl (
    any_field_equals block.Hardware c es (record e { label = l }) k)

state_completed : (pl : Place) (b : Block) (c : Closed) (es : List Entry) (e : Entry) (k : ℕ) → CanGoOn pl k → IsCompleted (within pl b c es e k)
state_completed place.Declaration b c es e k h = any_declaration b c es e k
state_completed place.BlockName b c es e k h = any_block_name b c es e k
state_completed place.BlockEquals b c es e k h = any_block_equals b c es e k
state_completed place.BlockOpen b c es e k h = any_block_open b c es e k
state_completed place.FieldDot b c es e k h = any_field_dot b c es e k
state_completed place.FieldName b c es e k h = any_field_name b c es e k
state_completed place.FieldEquals b c es e k h = any_field_equals b c es e k
state_completed place.ListOpen b c es e k h = any_list_open b c es e k
state_completed place.ListNumber b c es e k h = any_list_number b c es e k
state_completed place.ListComma b c es e k h = any_list_comma b c es e k
state_completed place.Number b c es e k h = any_number b c es e k
state_completed place.Value b c es e k h = any_value b c es e k
state_completed place.Group b c es e k h = open_group b c es e k h
state_completed place.FieldComma b c es e k h = any_field_comma b c es e k
state_completed place.Semicolon b c es e k h = any_semicolon b c es e k

-- a parser that can go on can come to the end of a file
pub completed : (p : Parser) → CanGoOn p.place p.depth → IsCompleted p
completed p h = state_completed p.place p.block p.closed p.entries p.entry p.depth h
