-- What is read is in the grammar.
use Rattle.std.proofs.Common.{◌≡◌, ℕ, zero, suc, ◌+◌, ◌≤◌, ◌<◌, ◌==◌, Bool, true, false, List, [], ◌∷◌, ◌++◌, length, Option, Some, None, refl, sym, ap, subst, ◌∙◌, arith, append_assoc, append-nil}
use Rattle.std.specs.Prelude.{Result, Ok}
use Rattle.dsv_token.specs.declared.refusal.FileRefusal.{FileRefusal}
use Rattle.dsv_names.specs.declared.field.Field.TheVariants as field
use Rattle.dsv_names.specs.declared.block.Block.{Block}
use Rattle.dsv_names.specs.declared.block.Block.TheVariants as block
use Rattle.dsv_token.specs.declared.token.Word.{Word}
use Rattle.dsv_token.specs.declared.token.Word.TheVariants as word
use Rattle.dsv_token.specs.declared.token.TokenKind.{TokenKind}
use Rattle.dsv_token.specs.declared.token.TokenKind.TheVariants as kind
use Rattle.dsv_token.specs.declared.token.Token.{Token}
use Rattle.dsv_syntax.specs.declared.entry.Label.{Label}
use Rattle.dsv_syntax.specs.declared.entry.Label.TheVariants as label
use Rattle.dsv_syntax.specs.declared.entry.Entry.{Entry}
use Rattle.dsv_syntax.specs.declared.parser.Place.{Place}
use Rattle.dsv_syntax.specs.declared.parser.Place.TheVariants as place
use Rattle.dsv_syntax.specs.declared.parser.Closed.{Closed}
use Rattle.dsv_syntax.specs.declared.parser.Parser.{Parser}
use Rattle.dsv_syntax.specs.declared.parsing.Syntax.{Syntax}
use Rattle.dsv_text.specs.Stages.{◌>>=◌}
use Rattle.dsv_syntax.specs.Parsing.{is_list, is_alone, is_mark, is_closed, with_close, none_closed, value_place, declaration_start, declaration, block_name, block_equals, block_open, field_label, label_of, field_dot, field_equals, field_comma, list_open, list_number, list_comma, number, value, group, group_closed, semicolon, parsed_from, syntax_of, whole_of}
use Rattle.dsv_syntax.specs.Grammar.{Numbers, Group, Value, IsField, Fields, IsBlock, Blocks, IsFile}
use Rattle.dsv_syntax.proofs.States.{entry, between, within, after_field}
use Rattle.dsv_syntax.proofs.ReadLemmas.{group_left}

-- what is read after the first token
abbrev pub next : ℕ → List Token → Parser → Result Syntax FileRefusal
next end ts q = parsed_from end q ts

-- ---- lists
-- the rest of a list, after a number or not
abbrev ListFrom : Bool → List Token → List Token → List Token → Type 0
ListFrom false ts ns rest = Numbers ts ns rest
ListFrom true ts ns rest = (m : Token) → m.kind ≡ kind.Number → Numbers (m ∷ ts) (m ∷ ns) rest

abbrev list_place : Bool → Place
list_place false = place.ListNumber
list_place true = place.ListComma

-- a list was read, and then what follows it
record NumbersTaken (end : ℕ) (b : Block) (c : Closed) (es : List Entry) (l : Label) (dot at : ℕ) (ms : List Token) (after : Bool) (ts : List Token) (out : Syntax) : Type 0 where
  pub ns : List Token
  pub rest : List Token
  pub grammar : ListFrom after ts ns rest
  pub goes_on : parsed_from end (after_field b c es (entry l dot at (ms ++ ns))) rest ≡ Ok out
  pub shorter : length rest < length ts

list_closed : (after : Bool) (t : Token) (r : List Token) → t.kind ≡ kind.Close → ListFrom after (t ∷ r) [] r
list_closed false t r e = Numbers.none t r e
list_closed true t r e = λ m f. Numbers.last m t r f e

list_ends : (end : ℕ) (b : Block) (c : Closed) (es : List Entry) (l : Label) (dot at : ℕ) (ms : List Token) (after : Bool) (t : Token) (r : List Token) (out : Syntax) →
    t.kind ≡ kind.Close → parsed_from end (after_field b c es (entry l dot at ms)) r ≡ Ok out → NumbersTaken end b c es l dot at ms after (t ∷ r) out
list_ends end b c es l dot at ms after t r out e h = record {
  ns = [];
  rest = r;
  grammar = list_closed after t r e;
  goes_on = ap (λ xs. parsed_from end (after_field b c es (entry l dot at xs)) r) (append-nil ms) ∙ h;
  shorter = omega arith;
}

with_number : (end : ℕ) (b : Block) (c : Closed) (es : List Entry) (l : Label) (dot at : ℕ) (ms : List Token) (t : Token) (r : List Token) (out : Syntax) →
    t.kind ≡ kind.Number → NumbersTaken end b c es l dot at (ms ++ t ∷ []) true r out → NumbersTaken end b c es l dot at ms false (t ∷ r) out
with_number end b c es l dot at ms t r out e h = record {
  ns = t ∷ h.ns;
  rest = h.rest;
  grammar = h.grammar t e;
  goes_on = ap (λ xs. parsed_from end (after_field b c es (entry l dot at xs)) h.rest) (sym (append_assoc ms (t ∷ []) h.ns)) ∙ h.goes_on;
  shorter = let s = h.shorter in omega arith;
}

with_comma : (end : ℕ) (b : Block) (c : Closed) (es : List Entry) (l : Label) (dot at : ℕ) (ms : List Token) (t : Token) (r : List Token) (out : Syntax) →
    t.kind ≡ kind.Comma → NumbersTaken end b c es l dot at ms false r out → NumbersTaken end b c es l dot at ms true (t ∷ r) out
with_comma end b c es l dot at ms t r out e h = record {
  ns = h.ns;
  rest = h.rest;
  grammar = λ m f. Numbers.more m t r h.ns h.rest f e h.grammar;
  goes_on = h.goes_on;
  shorter = let s = h.shorter in omega arith;
}

number_by : (end : ℕ) (b : Block) (c : Closed) (es : List Entry) (l : Label) (dot at : ℕ) (ms : List Token) (d : ℕ) (t : Token) (r : List Token) (out : Syntax) (k : TokenKind) → t.kind ≡ k →
    (parsed_from end (within place.ListComma b c es (entry l dot at (ms ++ t ∷ [])) d) r ≡ Ok out → NumbersTaken end b c es l dot at (ms ++ t ∷ []) true r out) →
    (list_number k t (within place.ListNumber b c es (entry l dot at ms) d) >>= next end r) ≡ Ok out → NumbersTaken end b c es l dot at ms false (t ∷ r) out
number_by end b c es l dot at ms d t r out kind.Number e ih h = with_number end b c es l dot at ms t r out e (ih h)
number_by end b c es l dot at ms d t r out kind.Close e ih h = list_ends end b c es l dot at ms false t r out e h
number_by end b c es l dot at ms d t r out k e ih h = absurd (cc)

comma_by : (end : ℕ) (b : Block) (c : Closed) (es : List Entry) (l : Label) (dot at : ℕ) (ms : List Token) (d : ℕ) (t : Token) (r : List Token) (out : Syntax) (k : TokenKind) → t.kind ≡ k →
    (parsed_from end (within place.ListNumber b c es (entry l dot at ms) d) r ≡ Ok out → NumbersTaken end b c es l dot at ms false r out) →
    (list_comma k t (within place.ListComma b c es (entry l dot at ms) d) >>= next end r) ≡ Ok out → NumbersTaken end b c es l dot at ms true (t ∷ r) out
comma_by end b c es l dot at ms d t r out kind.Comma e ih h = with_comma end b c es l dot at ms t r out e (ih h)
comma_by end b c es l dot at ms d t r out kind.Close e ih h = list_ends end b c es l dot at ms true t r out e h
comma_by end b c es l dot at ms d t r out k e ih h = absurd (cc)

numbers_taken : (ts : List Token) (end : ℕ) (b : Block) (c : Closed) (es : List Entry) (l : Label) (dot at : ℕ) (ms : List Token) (d : ℕ) (after : Bool) (out : Syntax) →
    parsed_from end (within (list_place after) b c es (entry l dot at ms) d) ts ≡ Ok out → NumbersTaken end b c es l dot at ms after ts out
numbers_taken [] end b c es l dot at ms d false out h = absurd (cc)
numbers_taken [] end b c es l dot at ms d true out h = absurd (cc)
numbers_taken (t ∷ r) end b c es l dot at ms d false out h =
    number_by end b c es l dot at ms d t r out t.kind refl (numbers_taken r end b c es l dot at (ms ++ t ∷ []) d true out) h
numbers_taken (t ∷ r) end b c es l dot at ms d true out h =
    comma_by end b c es l dot at ms d t r out t.kind refl (numbers_taken r end b c es l dot at ms d false out) h

-- ---- groups
record GroupTaken (end : ℕ) (b : Block) (c : Closed) (es : List Entry) (l : Label) (dot at : ℕ) (ms : List Token) (k : ℕ) (ts : List Token) (out : Syntax) : Type 0 where
  pub ns : List Token
  pub rest : List Token
  pub grammar : Group ts ns rest
  pub goes_on : parsed_from end (group_closed (k == 1) (within place.Group b c es (entry l dot at (ms ++ ns)) k)) rest ≡ Ok out
  pub shorter : length rest < length ts

group_ends : (end : ℕ) (b : Block) (c : Closed) (es : List Entry) (l : Label) (dot at : ℕ) (ms : List Token) (k : ℕ) (t : Token) (r : List Token) (out : Syntax) →
    t.kind ≡ kind.Close → parsed_from end (group_closed (k == 1) (within place.Group b c es (entry l dot at ms) k)) r ≡ Ok out → GroupTaken end b c es l dot at ms k (t ∷ r) out
group_ends end b c es l dot at ms k t r out e h = record {
  ns = [];
  rest = r;
  grammar = Group.close t r e;
  goes_on = ap (λ xs. parsed_from end (group_closed (k == 1) (within place.Group b c es (entry l dot at xs) k)) r) (append-nil ms) ∙ h;
  shorter = omega arith;
}

group_number : (end : ℕ) (b : Block) (c : Closed) (es : List Entry) (l : Label) (dot at : ℕ) (ms : List Token) (k : ℕ) (t : Token) (r : List Token) (out : Syntax) →
    t.kind ≡ kind.Number → GroupTaken end b c es l dot at (ms ++ t ∷ []) k r out → GroupTaken end b c es l dot at ms k (t ∷ r) out
group_number end b c es l dot at ms k t r out e h = record {
  ns = t ∷ h.ns;
  rest = h.rest;
  grammar = Group.number t r h.ns h.rest e h.grammar;
  goes_on = ap (λ xs. parsed_from end (group_closed (k == 1) (within place.Group b c es (entry l dot at xs) k)) h.rest) (sym (append_assoc ms (t ∷ []) h.ns)) ∙ h.goes_on;
  shorter = let s = h.shorter in omega arith;
}

group_mark : (end : ℕ) (b : Block) (c : Closed) (es : List Entry) (l : Label) (dot at : ℕ) (ms : List Token) (k : ℕ) (t : Token) (r : List Token) (out : Syntax) →
    is_mark t.kind ≡ true → GroupTaken end b c es l dot at ms k r out → GroupTaken end b c es l dot at ms k (t ∷ r) out
group_mark end b c es l dot at ms k t r out e h = record {
  ns = h.ns;
  rest = h.rest;
  grammar = Group.mark t r h.ns h.rest e h.grammar;
  goes_on = h.goes_on;
  shorter = let s = h.shorter in omega arith;
}

-- a group inside, and then the rest of this one
group_nested : (end : ℕ) (b : Block) (c : Closed) (es : List Entry) (l : Label) (dot at : ℕ) (ms : List Token) (k : ℕ) (t : Token) (r : List Token) (out : Syntax) → t.kind ≡ kind.Open →
    (i : GroupTaken end b c es l dot at ms (k + 1) r out) → GroupTaken end b c es l dot at (ms ++ i.ns) k i.rest out → GroupTaken end b c es l dot at ms k (t ∷ r) out
group_nested end b c es l dot at ms k t r out e i h = record {
  ns = i.ns ++ h.ns;
  rest = h.rest;
  grammar = Group.nested t r i.ns i.rest h.ns h.rest e i.grammar h.grammar;
  goes_on = ap (λ xs. parsed_from end (group_closed (k == 1) (within place.Group b c es (entry l dot at xs) k)) h.rest) (sym (append_assoc ms i.ns h.ns)) ∙ h.goes_on;
  shorter = let s = h.shorter in let u = i.shorter in omega arith;
}

-- groups of fewer tokens are taken
abbrev GroupsTaken : ℕ → ℕ → Block → Closed → List Entry → Label → ℕ → ℕ → Syntax → Type 0
GroupsTaken fuel end b c es l dot at out = (ts : List Token) (ms : List Token) (k : ℕ) → length ts ≤ fuel → 1 ≤ k →
    parsed_from end (within place.Group b c es (entry l dot at ms) k) ts ≡ Ok out → GroupTaken end b c es l dot at ms k ts out

group_inside : (fuel end : ℕ) (b : Block) (c : Closed) (es : List Entry) (l : Label) (dot at : ℕ) (ms : List Token) (k : ℕ) (t : Token) (r : List Token) (out : Syntax) → length r ≤ fuel → 1 ≤ k →
    t.kind ≡ kind.Open → GroupsTaken fuel end b c es l dot at out → GroupTaken end b c es l dot at ms (k + 1) r out → GroupTaken end b c es l dot at ms k (t ∷ r) out
group_inside fuel end b c es l dot at ms k t r out few deep e ih i =
    let s = i.shorter in
    let g : parsed_from end (within place.Group b c es (entry l dot at (ms ++ i.ns)) k) i.rest ≡ Ok out =
    ap (λ p. parsed_from end p i.rest) (sym (group_left b c es (entry l dot at (ms ++ i.ns)) k deep)) ∙ i.goes_on in
    group_nested end b c es l dot at ms k t r out e i (ih i.rest (ms ++ i.ns) k (omega arith) deep g)

group_by : (fuel end : ℕ) (b : Block) (c : Closed) (es : List Entry) (l : Label) (dot at : ℕ) (ms : List Token) (k : ℕ) (t : Token) (r : List Token) (out : Syntax) → length r ≤ fuel → 1 ≤ k →
    (x : TokenKind) → t.kind ≡ x → GroupsTaken fuel end b c es l dot at out →
    (group x t (within place.Group b c es (entry l dot at ms) k) >>= next end r) ≡ Ok out → GroupTaken end b c es l dot at ms k (t ∷ r) out
group_by fuel end b c es l dot at ms k t r out few deep kind.Open e ih h =
    group_inside fuel end b c es l dot at ms k t r out few deep e ih (ih r ms (k + 1) few (omega arith) h)
group_by fuel end b c es l dot at ms k t r out few deep kind.Close e ih h = group_ends end b c es l dot at ms k t r out e h
group_by fuel end b c es l dot at ms k t r out few deep kind.Number e ih h = group_number end b c es l dot at ms k t r out e (ih r (ms ++ t ∷ []) k few deep h)
group_by fuel end b c es l dot at ms k t r out few deep x e ih h = group_mark end b c es l dot at ms k t r out (ap is_mark e) (ih r ms k few deep h)

groups_taken : (fuel end : ℕ) (b : Block) (c : Closed) (es : List Entry) (l : Label) (dot at : ℕ) (out : Syntax) → GroupsTaken fuel end b c es l dot at out
groups_taken fuel end b c es l dot at out [] ms k few deep h = absurd (cc)
groups_taken zero end b c es l dot at out (t ∷ r) ms k few deep h = absurd (omega arith)
groups_taken (suc fuel) end b c es l dot at out (t ∷ r) ms k few deep h =
    let less : length r ≤ fuel = omega arith in
    group_by fuel end b c es l dot at ms k t r out less deep t.kind refl (groups_taken fuel end b c es l dot at out) h

-- ---- values
record ValueTaken (end : ℕ) (b : Block) (c : Closed) (es : List Entry) (l : Label) (dot : ℕ) (ts : List Token) (out : Syntax) : Type 0 where
  pub at : ℕ
  pub ns : List Token
  pub rest : List Token
  pub grammar : Value l ts at ns rest
  pub goes_on : parsed_from end (after_field b c es (entry l dot at ns)) rest ≡ Ok out
  pub shorter : length rest < length ts

list_found : (end : ℕ) (b : Block) (c : Closed) (es : List Entry) (l : Label) (dot : ℕ) (t : Token) (r : List Token) (out : Syntax) → is_list l ≡ true → t.kind ≡ kind.Open →
    NumbersTaken end b c es l dot t.at [] false r out → ValueTaken end b c es l dot (t ∷ r) out
list_found end b c es l dot t r out e f h = record {
  at = t.at;
  ns = h.ns;
  rest = h.rest;
  grammar = Value.list l t r h.ns h.rest e f h.grammar;
  goes_on = h.goes_on;
  shorter = let s = h.shorter in omega arith;
}

list_by : (end : ℕ) (b : Block) (c : Closed) (es : List Entry) (l : Label) (dot : ℕ) (t : Token) (r : List Token) (out : Syntax) → is_list l ≡ true → (k : TokenKind) → t.kind ≡ k →
    (list_open k t (within place.ListOpen b c es (entry l dot 0 []) 0) >>= next end r) ≡ Ok out → ValueTaken end b c es l dot (t ∷ r) out
list_by end b c es l dot t r out e kind.Open f h = list_found end b c es l dot t r out e f (numbers_taken r end b c es l dot t.at [] 0 false out h)
list_by end b c es l dot t r out e k f h = absurd (cc)

list_taken : (end : ℕ) (b : Block) (c : Closed) (es : List Entry) (l : Label) (dot : ℕ) (ts : List Token) (out : Syntax) → is_list l ≡ true →
    parsed_from end (within place.ListOpen b c es (entry l dot 0 []) 0) ts ≡ Ok out → ValueTaken end b c es l dot ts out
list_taken end b c es l dot [] out e h = absurd (cc)
list_taken end b c es l dot (t ∷ r) out e h = list_by end b c es l dot t r out e t.kind refl h

alone_by : (end : ℕ) (b : Block) (c : Closed) (es : List Entry) (l : Label) (dot : ℕ) (t : Token) (r : List Token) (out : Syntax) → is_alone l ≡ true → (k : TokenKind) → t.kind ≡ k →
    (number k t (within place.Number b c es (entry l dot 0 []) 0) >>= next end r) ≡ Ok out → ValueTaken end b c es l dot (t ∷ r) out
alone_by end b c es l dot t r out e kind.Number f h = record { at = t.at; ns = t ∷ []; rest = r; grammar = Value.alone l t r e f; goes_on = h; shorter = omega arith }
alone_by end b c es l dot t r out e k f h = absurd (cc)

alone_taken : (end : ℕ) (b : Block) (c : Closed) (es : List Entry) (l : Label) (dot : ℕ) (ts : List Token) (out : Syntax) → is_alone l ≡ true →
    parsed_from end (within place.Number b c es (entry l dot 0 []) 0) ts ≡ Ok out → ValueTaken end b c es l dot ts out
alone_taken end b c es l dot [] out e h = absurd (cc)
alone_taken end b c es l dot (t ∷ r) out e h = alone_by end b c es l dot t r out e t.kind refl h

passed_group : (end : ℕ) (b : Block) (c : Closed) (es : List Entry) (dot : ℕ) (t : Token) (r : List Token) (out : Syntax) → t.kind ≡ kind.Open →
    GroupTaken end b c es label.Passed dot t.at [] 1 r out → ValueTaken end b c es label.Passed dot (t ∷ r) out
passed_group end b c es dot t r out e h = record {
  at = t.at;
  ns = h.ns;
  rest = h.rest;
  grammar = Value.passed_group t r h.ns h.rest e h.grammar;
  goes_on = h.goes_on;
  shorter = let s = h.shorter in omega arith;
}

passed_by : (end : ℕ) (b : Block) (c : Closed) (es : List Entry) (dot : ℕ) (t : Token) (r : List Token) (out : Syntax) (k : TokenKind) → t.kind ≡ k →
    (value k t (within place.Value b c es (entry label.Passed dot 0 []) 0) >>= next end r) ≡ Ok out → ValueTaken end b c es label.Passed dot (t ∷ r) out
passed_by end b c es dot t r out kind.Number f h = record { at = t.at; ns = t ∷ []; rest = r; grammar = Value.passed_number t r f; goes_on = h; shorter = omega arith }
passed_by end b c es dot t r out (kind.Name w) f h = record { at = t.at; ns = []; rest = r; grammar = Value.passed_name w t r f; goes_on = h; shorter = omega arith }
passed_by end b c es dot t r out kind.Open f h =
    passed_group end b c es dot t r out f (groups_taken (length r) end b c es label.Passed dot t.at out r [] 1 (omega arith) (omega arith) h)
passed_by end b c es dot t r out k f h = absurd (cc)

passed_taken : (end : ℕ) (b : Block) (c : Closed) (es : List Entry) (dot : ℕ) (ts : List Token) (out : Syntax) →
    parsed_from end (within place.Value b c es (entry label.Passed dot 0 []) 0) ts ≡ Ok out → ValueTaken end b c es label.Passed dot ts out
passed_taken end b c es dot [] out h = absurd (cc)
passed_taken end b c es dot (t ∷ r) out h = passed_by end b c es dot t r out t.kind refl h

value_taken : (end : ℕ) (b : Block) (c : Closed) (es : List Entry) (l : Label) (dot : ℕ) (ts : List Token) (out : Syntax) →
    parsed_from end (within (value_place l) b c es (entry l dot 0 []) 0) ts ≡ Ok out → ValueTaken end b c es l dot ts out
value_taken end b c es (label.Field field.B) dot ts out h = list_taken end b c es (label.Field field.B) dot ts out refl h
value_taken end b c es (label.Field field.A) dot ts out h = list_taken end b c es (label.Field field.A) dot ts out refl h
value_taken end b c es label.Passed dot ts out h = passed_taken end b c es dot ts out h
value_taken end b c es l dot ts out h = alone_taken end b c es l dot ts out refl h

-- ---- fields
record FieldTaken (end : ℕ) (b : Block) (c : Closed) (es : List Entry) (ts : List Token) (out : Syntax) : Type 0 where
  pub found : Entry
  pub rest : List Token
  pub grammar : IsField b ts found rest
  pub goes_on : parsed_from end (after_field b c es found) rest ≡ Ok out
  pub shorter : length rest < length ts

field_found : (end : ℕ) (b : Block) (c : Closed) (es : List Entry) (l : Label) (d n e : Token) (r : List Token) (out : Syntax) → d.kind ≡ kind.Dot → label_of b n.kind ≡ Some l → e.kind ≡ kind.Equals →
    ValueTaken end b c es l d.at r out → FieldTaken end b c es (d ∷ n ∷ e ∷ r) out
field_found end b c es l d n e r out i j m h = record {
  found = entry l d.at h.at h.ns;
  rest = h.rest;
  grammar = IsField.field b l d n e h.at r h.ns h.rest i j m h.grammar;
  goes_on = h.goes_on;
  shorter = let s = h.shorter in omega arith;
}

equals_by : (end : ℕ) (b : Block) (c : Closed) (es : List Entry) (l : Label) (d n e : Token) (r : List Token) (out : Syntax) → d.kind ≡ kind.Dot → label_of b n.kind ≡ Some l → (k : TokenKind) → e.kind ≡ k →
    (field_equals k e (within place.FieldEquals b c es (entry l d.at 0 []) 0) >>= next end r) ≡ Ok out → FieldTaken end b c es (d ∷ n ∷ e ∷ r) out
equals_by end b c es l d n e r out i j kind.Equals m h = field_found end b c es l d n e r out i j m (value_taken end b c es l d.at r out h)
equals_by end b c es l d n e r out i j k m h = absurd (cc)

after_name : (end : ℕ) (b : Block) (c : Closed) (es : List Entry) (l : Label) (d n : Token) (ts : List Token) (out : Syntax) → d.kind ≡ kind.Dot → label_of b n.kind ≡ Some l →
    parsed_from end (within place.FieldEquals b c es (entry l d.at 0 []) 0) ts ≡ Ok out → FieldTaken end b c es (d ∷ n ∷ ts) out
after_name end b c es l d n [] out i j h = absurd (cc)
after_name end b c es l d n (e ∷ r) out i j h = equals_by end b c es l d n e r out i j e.kind refl h

named_by : (end : ℕ) (b : Block) (c : Closed) (es : List Entry) (d n : Token) (r : List Token) (out : Syntax) → d.kind ≡ kind.Dot → (o : Option Label) → label_of b n.kind ≡ o →
    (field_label o n (within place.FieldName b c es (entry label.Passed d.at 0 []) 0) >>= next end r) ≡ Ok out → FieldTaken end b c es (d ∷ n ∷ r) out
named_by end b c es d n r out i (Some l) j h = after_name end b c es l d n r out i j h
named_by end b c es d n r out i None j h = absurd (cc)

after_dot : (end : ℕ) (b : Block) (c : Closed) (es : List Entry) (d : Token) (ts : List Token) (out : Syntax) → d.kind ≡ kind.Dot →
    parsed_from end (within place.FieldName b c es (entry label.Passed d.at 0 []) 0) ts ≡ Ok out → FieldTaken end b c es (d ∷ ts) out
after_dot end b c es d [] out i h = absurd (cc)
after_dot end b c es d (n ∷ r) out i h = named_by end b c es d n r out i (label_of b n.kind) refl h

record FieldsTaken (end : ℕ) (b : Block) (c : Closed) (es : List Entry) (ts : List Token) (out : Syntax) : Type 0 where
  pub fs : List Entry
  pub at : ℕ
  pub rest : List Token
  pub grammar : Fields b ts fs at rest
  pub goes_on : parsed_from end (between place.Semicolon b (with_close b at c) (es ++ fs)) rest ≡ Ok out
  pub shorter : length rest < length ts

-- the fields of fewer tokens are taken
abbrev AllFieldsTaken : ℕ → ℕ → Block → Closed → Syntax → Type 0
AllFieldsTaken fuel end b c out = (ts : List Token) (es : List Entry) → length ts ≤ fuel → parsed_from end (between place.FieldDot b c es) ts ≡ Ok out → FieldsTaken end b c es ts out

no_fields : (end : ℕ) (b : Block) (c : Closed) (es : List Entry) (t : Token) (r : List Token) (out : Syntax) → t.kind ≡ kind.Close →
    parsed_from end (between place.Semicolon b (with_close b t.at c) es) r ≡ Ok out → FieldsTaken end b c es (t ∷ r) out
no_fields end b c es t r out e h = record {
  fs = [];
  at = t.at;
  rest = r;
  grammar = Fields.none b t r e;
  goes_on = ap (λ xs. parsed_from end (between place.Semicolon b (with_close b t.at c) xs) r) (append-nil es) ∙ h;
  shorter = omega arith;
}

last_field : (end : ℕ) (b : Block) (c : Closed) (es : List Entry) (ts : List Token) (f : Entry) (t : Token) (r : List Token) (out : Syntax) → IsField b ts f (t ∷ r) → length (t ∷ r) < length ts → t.kind ≡ kind.Close →
    parsed_from end (between place.Semicolon b (with_close b t.at c) (es ++ f ∷ [])) r ≡ Ok out → FieldsTaken end b c es ts out
last_field end b c es ts f t r out i less e h = record { fs = f ∷ []; at = t.at; rest = r; grammar = Fields.last b ts f t r i e; goes_on = h; shorter = omega arith }

more_fields : (end : ℕ) (b : Block) (c : Closed) (es : List Entry) (ts : List Token) (f : Entry) (t : Token) (r : List Token) (out : Syntax) → IsField b ts f (t ∷ r) → length (t ∷ r) < length ts → t.kind ≡ kind.Comma →
    FieldsTaken end b c (es ++ f ∷ []) r out → FieldsTaken end b c es ts out
more_fields end b c es ts f t r out i less e h = record {
  fs = f ∷ h.fs;
  at = h.at;
  rest = h.rest;
  grammar = Fields.more b ts r f h.fs t h.at h.rest i e h.grammar;
  goes_on = ap (λ xs. parsed_from end (between place.Semicolon b (with_close b h.at c) xs) h.rest) (sym (append_assoc es (f ∷ []) h.fs)) ∙ h.goes_on;
  shorter = let s = h.shorter in omega arith;
}

after_by : (fuel end : ℕ) (b : Block) (c : Closed) (es : List Entry) (ts : List Token) (f : Entry) (t : Token) (r : List Token) (out : Syntax) → IsField b ts f (t ∷ r) → length (t ∷ r) < length ts → length r ≤ fuel →
    AllFieldsTaken fuel end b c out → (k : TokenKind) → t.kind ≡ k → (field_comma k t (after_field b c es f) >>= next end r) ≡ Ok out → FieldsTaken end b c es ts out
after_by fuel end b c es ts f t r out i less few ih kind.Comma e h = more_fields end b c es ts f t r out i less e (ih r (es ++ f ∷ []) few h)
after_by fuel end b c es ts f t r out i less few ih kind.Close e h = last_field end b c es ts f t r out i less e h
after_by fuel end b c es ts f t r out i less few ih k e h = absurd (cc)

fields_after : (fuel end : ℕ) (b : Block) (c : Closed) (es : List Entry) (ts : List Token) (f : Entry) (rest : List Token) (out : Syntax) → IsField b ts f rest → length rest < length ts → length ts ≤ suc fuel →
    AllFieldsTaken fuel end b c out → parsed_from end (after_field b c es f) rest ≡ Ok out → FieldsTaken end b c es ts out
fields_after fuel end b c es ts f [] out i less few ih h = absurd (cc)
fields_after fuel end b c es ts f (t ∷ r) out i less few ih h = after_by fuel end b c es ts f t r out i less (omega arith) ih t.kind refl h

fields_by : (fuel end : ℕ) (b : Block) (c : Closed) (es : List Entry) (t : Token) (r : List Token) (out : Syntax) → length (t ∷ r) ≤ suc fuel → AllFieldsTaken fuel end b c out → (k : TokenKind) → t.kind ≡ k →
    (field_dot k t (between place.FieldDot b c es) >>= next end r) ≡ Ok out → FieldsTaken end b c es (t ∷ r) out
fields_by fuel end b c es t r out few ih kind.Dot e h =
    let f = after_dot end b c es t r out e h in fields_after fuel end b c es (t ∷ r) f.found f.rest out f.grammar f.shorter few ih f.goes_on
fields_by fuel end b c es t r out few ih kind.Close e h = no_fields end b c es t r out e h
fields_by fuel end b c es t r out few ih k e h = absurd (cc)

fields_taken : (fuel end : ℕ) (b : Block) (c : Closed) (out : Syntax) → AllFieldsTaken fuel end b c out
fields_taken fuel end b c out [] es few h = absurd (cc)
fields_taken zero end b c out (t ∷ r) es few h = absurd (omega arith)
fields_taken (suc fuel) end b c out (t ∷ r) es few h = fields_by fuel end b c es t r out few (fields_taken fuel end b c out) t.kind refl h

-- ---- blocks
pub record BlockTaken (end : ℕ) (c : Closed) (es : List Entry) (ts : List Token) (out : Syntax) : Type 0 where
  pub b : Block
  pub fs : List Entry
  pub at : ℕ
  pub rest : List Token
  pub free : is_closed b c ≡ false
  pub grammar : IsBlock b ts fs at rest
  pub goes_on : parsed_from end (between place.Declaration b (with_close b at c) (es ++ fs)) rest ≡ Ok out
  pub shorter : length rest < length ts

block_found : (end : ℕ) (b : Block) (c : Closed) (es : List Entry) (w : Word) (k n e o s : Token) (ts r : List Token) (fs : List Entry) (at : ℕ) (out : Syntax) → is_closed b c ≡ false →
    k.kind ≡ kind.Name (word.Block b) → n.kind ≡ kind.Name w → e.kind ≡ kind.Equals → o.kind ≡ kind.Open → Fields b ts fs at (s ∷ r) → length (s ∷ r) < length ts → (x : TokenKind) → s.kind ≡ x →
    (semicolon x s (between place.Semicolon b (with_close b at c) (es ++ fs)) >>= next end r) ≡ Ok out → BlockTaken end c es (k ∷ n ∷ e ∷ o ∷ ts) out
block_found end b c es w k n e o s ts r fs at out free h i j m g less kind.Semicolon u f =
    record { b = b; fs = fs; at = at; rest = r; free = free; grammar = IsBlock.block b w k n e o s ts r fs at h i j m g u; goes_on = f; shorter = omega arith }
block_found end b c es w k n e o s ts r fs at out free h i j m g less x u f = absurd (cc)

fields_afters : (end : ℕ) (b : Block) (c : Closed) (es : List Entry) (w : Word) (k n e o : Token) (ts rest : List Token) (fs : List Entry) (at : ℕ) (out : Syntax) → is_closed b c ≡ false →
    k.kind ≡ kind.Name (word.Block b) → n.kind ≡ kind.Name w → e.kind ≡ kind.Equals → o.kind ≡ kind.Open → Fields b ts fs at rest → length rest < length ts →
    parsed_from end (between place.Semicolon b (with_close b at c) (es ++ fs)) rest ≡ Ok out → BlockTaken end c es (k ∷ n ∷ e ∷ o ∷ ts) out
fields_afters end b c es w k n e o ts [] fs at out free h i j m g less f = absurd (cc)
fields_afters end b c es w k n e o ts (s ∷ r) fs at out free h i j m g less f = block_found end b c es w k n e o s ts r fs at out free h i j m g less s.kind refl f

open_by : (end : ℕ) (b : Block) (c : Closed) (es : List Entry) (w : Word) (k n e o : Token) (r : List Token) (out : Syntax) → is_closed b c ≡ false →
    k.kind ≡ kind.Name (word.Block b) → n.kind ≡ kind.Name w → e.kind ≡ kind.Equals → (x : TokenKind) → o.kind ≡ x →
    (block_open x o (between place.BlockOpen b c es) >>= next end r) ≡ Ok out → BlockTaken end c es (k ∷ n ∷ e ∷ o ∷ r) out
open_by end b c es w k n e o r out free h i j kind.Open m f =
    let g = fields_taken (length r) end b c out r es (omega arith) f in fields_afters end b c es w k n e o r g.rest g.fs g.at out free h i j m g.grammar g.shorter g.goes_on
open_by end b c es w k n e o r out free h i j x m f = absurd (cc)

after_equals : (end : ℕ) (b : Block) (c : Closed) (es : List Entry) (w : Word) (k n e : Token) (ts : List Token) (out : Syntax) → is_closed b c ≡ false →
    k.kind ≡ kind.Name (word.Block b) → n.kind ≡ kind.Name w → e.kind ≡ kind.Equals → parsed_from end (between place.BlockOpen b c es) ts ≡ Ok out → BlockTaken end c es (k ∷ n ∷ e ∷ ts) out
after_equals end b c es w k n e [] out free h i j f = absurd (cc)
after_equals end b c es w k n e (o ∷ r) out free h i j f = open_by end b c es w k n e o r out free h i j o.kind refl f

block_equals_by : (end : ℕ) (b : Block) (c : Closed) (es : List Entry) (w : Word) (k n e : Token) (r : List Token) (out : Syntax) → is_closed b c ≡ false →
    k.kind ≡ kind.Name (word.Block b) → n.kind ≡ kind.Name w → (x : TokenKind) → e.kind ≡ x →
    (block_equals x e (between place.BlockEquals b c es) >>= next end r) ≡ Ok out → BlockTaken end c es (k ∷ n ∷ e ∷ r) out
block_equals_by end b c es w k n e r out free h i kind.Equals j f = after_equals end b c es w k n e r out free h i j f
block_equals_by end b c es w k n e r out free h i x j f = absurd (cc)

after_block_name : (end : ℕ) (b : Block) (c : Closed) (es : List Entry) (w : Word) (k n : Token) (ts : List Token) (out : Syntax) → is_closed b c ≡ false →
    k.kind ≡ kind.Name (word.Block b) → n.kind ≡ kind.Name w → parsed_from end (between place.BlockEquals b c es) ts ≡ Ok out → BlockTaken end c es (k ∷ n ∷ ts) out
after_block_name end b c es w k n [] out free h i f = absurd (cc)
after_block_name end b c es w k n (e ∷ r) out free h i f = block_equals_by end b c es w k n e r out free h i e.kind refl f

block_name_by : (end : ℕ) (b : Block) (c : Closed) (es : List Entry) (k n : Token) (r : List Token) (out : Syntax) → is_closed b c ≡ false → k.kind ≡ kind.Name (word.Block b) → (x : TokenKind) → n.kind ≡ x →
    (block_name x n (between place.BlockName b c es) >>= next end r) ≡ Ok out → BlockTaken end c es (k ∷ n ∷ r) out
block_name_by end b c es k n r out free h (kind.Name w) i f = after_block_name end b c es w k n r out free h i f
block_name_by end b c es k n r out free h x i f = absurd (cc)

after_keyword : (end : ℕ) (b : Block) (c : Closed) (es : List Entry) (k : Token) (ts : List Token) (out : Syntax) → is_closed b c ≡ false → k.kind ≡ kind.Name (word.Block b) →
    parsed_from end (between place.BlockName b c es) ts ≡ Ok out → BlockTaken end c es (k ∷ ts) out
after_keyword end b c es k [] out free h f = absurd (cc)
after_keyword end b c es k (n ∷ r) out free h f = block_name_by end b c es k n r out free h n.kind refl f

declared_by : (end : ℕ) (a b : Block) (c : Closed) (es : List Entry) (k : Token) (r : List Token) (out : Syntax) → k.kind ≡ kind.Name (word.Block b) → (x : Bool) → is_closed b c ≡ x →
    (declaration_start x b k (between place.Declaration a c es) >>= next end r) ≡ Ok out → BlockTaken end c es (k ∷ r) out
declared_by end a b c es k r out h true i f = absurd (cc)
declared_by end a b c es k r out h false i f = after_keyword end b c es k r out i h f

word_by : (end : ℕ) (a : Block) (c : Closed) (es : List Entry) (k : Token) (r : List Token) (out : Syntax) (w : Word) → k.kind ≡ kind.Name w →
    (declaration (kind.Name w) k (between place.Declaration a c es) >>= next end r) ≡ Ok out → BlockTaken end c es (k ∷ r) out
word_by end a c es k r out (word.Block b) h f = declared_by end a b c es k r out h (is_closed b c) refl f
word_by end a c es k r out w h f = absurd (cc)

pub declaration_by : (end : ℕ) (a : Block) (c : Closed) (es : List Entry) (k : Token) (r : List Token) (out : Syntax) (x : TokenKind) → k.kind ≡ x →
    (declaration x k (between place.Declaration a c es) >>= next end r) ≡ Ok out → BlockTaken end c es (k ∷ r) out
declaration_by end a c es k r out (kind.Name w) h f = word_by end a c es k r out w h f
declaration_by end a c es k r out x h f = absurd (cc)

-- ---- the whole file
record BlocksTaken (c : Closed) (es : List Entry) (ts : List Token) (out : Syntax) : Type 0 where
  pub closed : Closed
  pub fs : List Entry
  pub grammar : Blocks c ts fs closed
  pub entries : out.entries ≡ es ++ fs
  pub system : closed.system ≡ Some out.system
  pub implementation : closed.implementation ≡ Some out.implementation

whole_by : (end : ℕ) (c : Closed) (es : List Entry) (out : Syntax) (s i : Option ℕ) → c.system ≡ s → c.implementation ≡ i → whole_of end s i es ≡ Ok out → BlocksTaken c es [] out
whole_by end c es out (Some s) (Some i) e f h =
    let same : ◌≡◌ {A = Syntax} (record { entries = es; system = s; implementation = i }) out = cc in record {
      closed = c;
      fs = [];
      grammar = Blocks.done c;
      entries = sym (ap (λ (x : Syntax). x.entries) same) ∙ sym (append-nil es);
      system = e ∙ ap (λ (x : Syntax). Some x.system) same;
      implementation = f ∙ ap (λ (x : Syntax). Some x.implementation) same;
    }
whole_by end c es out s i e f h = absurd (cc)

more_blocks : (end : ℕ) (c : Closed) (es : List Entry) (ts : List Token) (out : Syntax) → (h : BlockTaken end c es ts out) → BlocksTaken (with_close h.b h.at c) (es ++ h.fs) h.rest out → BlocksTaken c es ts out
more_blocks end c es ts out h i = record {
  closed = i.closed;
  fs = h.fs ++ i.fs;
  grammar = Blocks.more h.b c i.closed ts h.rest h.fs i.fs h.at h.free h.grammar i.grammar;
  entries = i.entries ∙ append_assoc es h.fs i.fs;
  system = i.system;
  implementation = i.implementation;
}

blocks_taken : (fuel end : ℕ) (a : Block) (c : Closed) (es : List Entry) (ts : List Token) (out : Syntax) → length ts ≤ fuel → parsed_from end (between place.Declaration a c es) ts ≡ Ok out → BlocksTaken c es ts out
blocks_taken fuel end a c es [] out few h = whole_by end c es out c.system c.implementation refl refl h
blocks_taken zero end a c es (t ∷ r) out few h = absurd (omega arith)
blocks_taken (suc fuel) end a c es (t ∷ r) out few h =
    let b = declaration_by end a c es t r out t.kind refl h in
    let less : length b.rest < length (t ∷ r) = b.shorter in
    more_blocks end c es (t ∷ r) out b (blocks_taken fuel end b.b (with_close b.b b.at c) (es ++ b.fs) b.rest out (omega arith) b.goes_on)

pub file_taken : (end : ℕ) (ts : List Token) (s : Syntax) → syntax_of end ts ≡ Ok s → IsFile ts s
file_taken end ts s h =
    let b = blocks_taken (length ts) end block.System none_closed [] ts s (omega arith) h in
    record {
      closed = b.closed;
      blocks = subst (λ (xs : List Entry). Blocks none_closed ts xs b.closed) (sym b.entries) b.grammar;
      system = b.system;
      implementation = b.implementation;
    }
