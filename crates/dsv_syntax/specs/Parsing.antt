-- Reading a file's tokens one by one: what is wanted next, and the first token that can't go on.
use Rattle.std.specs.Prelude.{ℕ, ◌+◌, ◌-◌, ◌==◌, Bool, true, false, List, [], ◌∷◌}
use Rattle.std.specs.Prelude.{◌++◌, Result, Ok, Err, Option, Some, None, is_some, if◌then◌else◌}
use Rattle.dsv_token.specs.declared.refusal.FileRefusal.{FileRefusal}
use Rattle.dsv_token.specs.declared.refusal.FileRefusal.TheVariants as refusal
use Rattle.dsv_names.specs.declared.field.Field.{Field}
use Rattle.dsv_names.specs.declared.field.Field.TheVariants as field
use Rattle.dsv_names.specs.declared.want.Wanted.{Wanted}
use Rattle.dsv_names.specs.declared.want.Wanted.TheVariants as wanted
use Rattle.dsv_names.specs.declared.block.Block.{Block}
use Rattle.dsv_names.specs.declared.block.Block.TheVariants as block
use Rattle.dsv_token.specs.declared.token.Word.{Word}
use Rattle.dsv_token.specs.declared.token.Word.TheVariants as word
use Rattle.dsv_token.specs.declared.token.TokenKind.{TokenKind}
use Rattle.dsv_token.specs.declared.token.TokenKind.TheVariants as kind
use Rattle.dsv_token.specs.declared.token.Token.{Token}
use Rattle.dsv_syntax.specs.declared.entry.Label.{Label}
use Rattle.dsv_syntax.specs.declared.entry.Label.TheVariants as label
use Rattle.dsv_syntax.specs.declared.entry.Entry.{Entry}
use Rattle.dsv_syntax.specs.declared.parser.Place.{Place}
use Rattle.dsv_syntax.specs.declared.parser.Place.TheVariants as place
use Rattle.dsv_syntax.specs.declared.parser.Closed.{Closed}
use Rattle.dsv_syntax.specs.declared.parser.Parser.{Parser}
use Rattle.dsv_syntax.specs.declared.parsing.Syntax.{Syntax}
use Rattle.dsv_text.specs.Stages.{◌>>=◌}

-- ---- the table of fields
-- the field is one of the block digital_system
abbrev pub is_of_system : Field → Bool
is_of_system field.B = true
is_of_system field.A = true
is_of_system field.BSize = true
is_of_system field.ASize = true
is_of_system field.SampleTime = true
is_of_system f = false

-- which field a word names in a block; in the block hardware each other name is passed over
abbrev pub label_named : Block → Word → Option Label
label_named block.System (word.Field f) = if is_of_system f then Some (label.Field f) else None
label_named block.Implementation (word.Field f) = if is_of_system f then None
    else Some (label.Field f)
label_named block.Hardware (word.Setting s) = Some (label.Setting s)
label_named block.Hardware w = Some label.Passed
label_named b w = None

abbrev pub label_of : Block → TokenKind → Option Label
label_of b (kind.Name w) = label_named b w
label_of b k = None

-- the field's value is a list
abbrev pub is_list : Label → Bool
is_list (label.Field field.B) = true
is_list (label.Field field.A) = true
is_list l = false

-- the field's value is one number
abbrev pub is_alone : Label → Bool
is_alone (label.Field field.B) = false
is_alone (label.Field field.A) = false
is_alone label.Passed = false
is_alone l = true

-- a token that is neither a brace nor a number
abbrev pub is_mark : TokenKind → Bool
is_mark kind.Open = false
is_mark kind.Close = false
is_mark kind.Number = false
is_mark k = true

-- ---- blocks that are closed
abbrev pub none_closed : Closed
none_closed = record { system = None; implementation = None; hardware = None }

-- the block stood before
abbrev pub is_closed : Block → Closed → Bool
is_closed block.System c = is_some c.system
is_closed block.Implementation c = is_some c.implementation
is_closed block.Hardware c = is_some c.hardware

abbrev pub with_close : Block → ℕ → Closed → Closed
with_close block.System at c = record c { system = Some at }
with_close block.Implementation at c = record c { implementation = Some at }
with_close block.Hardware at c = record c { hardware = Some at }

-- ---- a token, where something is wanted
abbrev pub unexpected_token : Token → Wanted → Result Parser FileRefusal
unexpected_token t w = Err (refusal.Unexpected t.at w)

-- the entry of no field
abbrev pub blank_entry : Entry
blank_entry = record { label = label.Passed; dot = 0; place = 0; numbers = [] }

-- the open field has all of its value
abbrev pub field_done : Parser → Parser
field_done p = record p {
  place = place.FieldComma;
  entry = blank_entry;
  depth = 0;
  entries = p.entries ++ p.entry ∷ [];
}

-- the value of the open field begins here
abbrev pub entry_with : ℕ → List Token → Entry → Entry
entry_with at ns e = record e { place = at; numbers = ns }

-- the open field has one more number
abbrev pub with_number : Token → Entry → Entry
with_number n e = record e { numbers = e.numbers ++ n ∷ [] }

-- the block's closing brace
abbrev pub block_done : Token → Parser → Parser
block_done t p = record p { place = place.Semicolon; closed = with_close p.block t.at p.closed }

abbrev pub declaration_start : Bool → Block → Token → Parser → Result Parser FileRefusal
declaration_start true b t p = unexpected_token t wanted.Declaration
declaration_start false b t p = Ok (record p { place = place.BlockName; block = b })

abbrev pub declaration : TokenKind → Token → Parser → Result Parser FileRefusal
declaration (kind.Name (word.Block b)) t p = declaration_start (is_closed b p.closed) b t p
declaration k t p = unexpected_token t wanted.Declaration

abbrev pub block_name : TokenKind → Token → Parser → Result Parser FileRefusal
block_name (kind.Name w) t p = Ok (record p { place = place.BlockEquals })
block_name k t p = unexpected_token t wanted.Name

abbrev pub block_equals : TokenKind → Token → Parser → Result Parser FileRefusal
block_equals kind.Equals t p = Ok (record p { place = place.BlockOpen })
block_equals k t p = unexpected_token t wanted.Equals

abbrev pub block_open : TokenKind → Token → Parser → Result Parser FileRefusal
block_open kind.Open t p = Ok (record p { place = place.FieldDot })
block_open k t p = unexpected_token t wanted.Open

abbrev pub field_dot : TokenKind → Token → Parser → Result Parser FileRefusal
field_dot kind.Dot t p = Ok
    (record p { place = place.FieldName; entry = record p.entry { dot = t.at } })
field_dot kind.Close t p = Ok (block_done t p)
field_dot k t p = unexpected_token t wanted.FieldOrClose

abbrev pub field_label : Option Label → Token → Parser → Result Parser FileRefusal
field_label (Some l) t p =
    Ok (record p { place = place.FieldEquals; entry = record p.entry { label = l } })
field_label None t p = unexpected_token t wanted.FieldName

abbrev pub field_name : TokenKind → Token → Parser → Result Parser FileRefusal
field_name k t p = field_label (label_of p.block k) t p

-- where the value of a field begins
abbrev pub value_place : Label → Place
value_place (label.Field field.B) = place.ListOpen
value_place (label.Field field.A) = place.ListOpen
value_place label.Passed = place.Value
value_place l = place.Number

abbrev pub field_equals : TokenKind → Token → Parser → Result Parser FileRefusal
field_equals kind.Equals t p = Ok (record p { place = value_place p.entry.label })
field_equals k t p = unexpected_token t wanted.Equals

abbrev pub list_open : TokenKind → Token → Parser → Result Parser FileRefusal
list_open kind.Open t p =
    Ok (record p { place = place.ListNumber; entry = entry_with t.at [] p.entry })
list_open k t p = unexpected_token t wanted.Open

abbrev pub list_number : TokenKind → Token → Parser → Result Parser FileRefusal
list_number kind.Number t p =
    Ok (record p { place = place.ListComma; entry = with_number t p.entry })
list_number kind.Close t p = Ok (field_done p)
list_number k t p = unexpected_token t wanted.NumberOrClose

abbrev pub list_comma : TokenKind → Token → Parser → Result Parser FileRefusal
list_comma kind.Comma t p = Ok (record p { place = place.ListNumber })
list_comma kind.Close t p = Ok (field_done p)
list_comma k t p = unexpected_token t wanted.CommaOrClose

abbrev pub number : TokenKind → Token → Parser → Result Parser FileRefusal
number kind.Number t p = Ok (field_done (record p { entry = entry_with t.at (t ∷ []) p.entry }))
number k t p = unexpected_token t wanted.Number

abbrev pub value : TokenKind → Token → Parser → Result Parser FileRefusal
value kind.Number t p = Ok (field_done (record p { entry = entry_with t.at (t ∷ []) p.entry }))
value (kind.Name w) t p = Ok (field_done (record p { entry = entry_with t.at [] p.entry }))
value kind.Open t p = Ok (record p {
  place = place.Group;
  depth = 1;
  entry = entry_with t.at [] p.entry;
})
value k t p = unexpected_token t wanted.Value

-- a closing brace in a group: the group's own, or that of one inside it
abbrev pub group_closed : Bool → Parser → Parser
group_closed true p = field_done p
group_closed false p = record p { depth = p.depth - 1 }

abbrev pub group : TokenKind → Token → Parser → Result Parser FileRefusal
group kind.Open t p = Ok (record p { depth = p.depth + 1 })
group kind.Close t p = Ok (group_closed (p.depth == 1) p)
group kind.Number t p = Ok (record p { entry = with_number t p.entry })
group k t p = Ok p

abbrev pub field_comma : TokenKind → Token → Parser → Result Parser FileRefusal
field_comma kind.Comma t p = Ok (record p { place = place.FieldDot })
field_comma kind.Close t p = Ok (block_done t p)
field_comma k t p = unexpected_token t wanted.CommaOrClose

abbrev pub semicolon : TokenKind → Token → Parser → Result Parser FileRefusal
semicolon kind.Semicolon t p = Ok (record p { place = place.Declaration })
semicolon k t p = unexpected_token t wanted.Semicolon

abbrev pub step_at : Place → TokenKind → Token → Parser → Result Parser FileRefusal
step_at place.Declaration k t p = declaration k t p
step_at place.BlockName k t p = block_name k t p
step_at place.BlockEquals k t p = block_equals k t p
step_at place.BlockOpen k t p = block_open k t p
step_at place.FieldDot k t p = field_dot k t p
step_at place.FieldName k t p = field_name k t p
step_at place.FieldEquals k t p = field_equals k t p
step_at place.ListOpen k t p = list_open k t p
step_at place.ListNumber k t p = list_number k t p
step_at place.ListComma k t p = list_comma k t p
step_at place.Number k t p = number k t p
step_at place.Value k t p = value k t p
step_at place.Group k t p = group k t p
step_at place.FieldComma k t p = field_comma k t p
step_at place.Semicolon k t p = semicolon k t p

-- ---- the file's end
abbrev pub wanted_at : Place → Wanted
wanted_at place.Declaration = wanted.Declaration
wanted_at place.BlockName = wanted.Name
wanted_at place.BlockEquals = wanted.Equals
wanted_at place.BlockOpen = wanted.Open
wanted_at place.FieldDot = wanted.FieldOrClose
wanted_at place.FieldName = wanted.FieldName
wanted_at place.FieldEquals = wanted.Equals
wanted_at place.ListOpen = wanted.Open
wanted_at place.ListNumber = wanted.NumberOrClose
wanted_at place.ListComma = wanted.CommaOrClose
wanted_at place.Number = wanted.Number
wanted_at place.Value = wanted.Value
wanted_at place.Group = wanted.Close
wanted_at place.FieldComma = wanted.CommaOrClose
wanted_at place.Semicolon = wanted.Semicolon

-- both blocks that a file wants stood there
abbrev pub whole_of : ℕ → Option ℕ → Option ℕ → List Entry → Result Syntax FileRefusal
whole_of end (Some system) (Some implementation) es =
    Ok (record { entries = es; system = system; implementation = implementation })
whole_of end s i es = Err (refusal.Unexpected end wanted.Declaration)

abbrev pub finish_at : Place → ℕ → Parser → Result Syntax FileRefusal
finish_at place.Declaration end p = whole_of end p.closed.system p.closed.implementation p.entries
finish_at q end p = Err (refusal.Unexpected end (wanted_at q))

-- ---- all tokens, after what was read; the file ends at the offset `end`
abbrev pub parsed_from : ℕ → Parser → List Token → Result Syntax FileRefusal
parsed_from end p [] = finish_at p.place end p
parsed_from end p (t ∷ ts) = step_at p.place t.kind t p >>= λ q. parsed_from end q ts

-- nothing was read, and these blocks can't stand any more
abbrev pub start_after : Closed → Parser
start_after closed = record {
  place = place.Declaration;
  block = block.System;
  closed = closed;
  entry = blank_entry;
  depth = 0;
  entries = [];
}

abbrev pub start : Parser
start = start_after none_closed

-- what stands in a file with these tokens, or the first of them that can't go on
abbrev pub syntax_of : ℕ → List Token → Result Syntax FileRefusal
syntax_of end ts = parsed_from end start ts

-- ---- the file of a plant, in which the block digital_system alone can stand
abbrev pub plant_closed : ℕ → Closed
plant_closed end = record { system = None; implementation = Some end; hardware = Some end }

abbrev pub plant_start : ℕ → Parser
plant_start end = start_after (plant_closed end)

-- what stands in a plant's file with these tokens, or the first of them that can't go on
abbrev pub plant_syntax_of : ℕ → List Token → Result Syntax FileRefusal
plant_syntax_of end ts = parsed_from end (plant_start end) ts
