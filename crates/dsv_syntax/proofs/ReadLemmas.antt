-- What the grammar allows is read.
use Rattle.std.proofs.Common.{◌≡◌, ℕ, ◌+◌, ◌-◌, ◌≤◌, ◌==◌, true, false, List, [], ◌∷◌, ◌++◌, Some, refl, sym, ap, ◌∙◌, arith, append_assoc, append-nil}
use Rattle.std.specs.Prelude.{Ok}
use Rattle.std.proofs.lemmas.Bool.Decides.{nat_tests}
use Rattle.dsv_names.specs.declared.field.Field.TheVariants as field
use Rattle.dsv_names.specs.declared.block.Block.{Block}
use Rattle.dsv_token.specs.declared.token.Word.TheVariants as word
use Rattle.dsv_token.specs.declared.token.TokenKind.{TokenKind}
use Rattle.dsv_token.specs.declared.token.TokenKind.TheVariants as kind
use Rattle.dsv_token.specs.declared.token.Token.{Token}
use Rattle.dsv_syntax.specs.declared.entry.Label.{Label}
use Rattle.dsv_syntax.specs.declared.entry.Label.TheVariants as label
use Rattle.dsv_syntax.specs.declared.entry.Entry.{Entry}
use Rattle.dsv_syntax.specs.declared.parser.Place.TheVariants as place
use Rattle.dsv_syntax.specs.declared.parser.Closed.{Closed}
use Rattle.dsv_syntax.specs.declared.parser.Parser.{Parser}
use Rattle.dsv_syntax.specs.declared.parsing.Syntax.{Syntax}
use Rattle.dsv_syntax.specs.Parsing.{is_list, is_alone, is_mark, is_closed, with_close, value_place, declaration_start, field_label, group, group_closed, parsed_from, syntax_of, whole_of}
use Rattle.dsv_syntax.specs.Grammar.{Numbers, Group, Value, IsField, Fields, IsBlock, Blocks, IsFile}
use Rattle.dsv_syntax.proofs.States.{entry, between, within, after_field, goes}

pub numbers_read : (ts ns rest : List Token) → Numbers ts ns rest → (end : ℕ) (b : Block) (c : Closed) (es : List Entry) (l : Label) (dot at : ℕ) (ms : List Token) (k : ℕ) →
    parsed_from end (within place.ListNumber b c es (entry l dot at ms) k) ts ≡ parsed_from end (after_field b c es (entry l dot at (ms ++ ns))) rest
numbers_read ts ns rest (Numbers.none t r e) end b c es l dot at ms k =
    goes end (within place.ListNumber b c es (entry l dot at ms) k) (after_field b c es (entry l dot at ms)) t r kind.Close e refl
    ∙ ap (λ xs. parsed_from end (after_field b c es (entry l dot at xs)) r) (sym (append-nil ms))
numbers_read ts ns rest (Numbers.last n t r e f) end b c es l dot at ms k =
    goes end (within place.ListNumber b c es (entry l dot at ms) k) (within place.ListComma b c es (entry l dot at (ms ++ n ∷ [])) k) n (t ∷ r) kind.Number e refl
    ∙ goes end (within place.ListComma b c es (entry l dot at (ms ++ n ∷ [])) k) (after_field b c es (entry l dot at (ms ++ n ∷ []))) t r kind.Close f refl
numbers_read ts ns rest (Numbers.more n t us os r e f h) end b c es l dot at ms k =
    goes end (within place.ListNumber b c es (entry l dot at ms) k) (within place.ListComma b c es (entry l dot at (ms ++ n ∷ [])) k) n (t ∷ us) kind.Number e refl
    ∙ goes end (within place.ListComma b c es (entry l dot at (ms ++ n ∷ [])) k) (within place.ListNumber b c es (entry l dot at (ms ++ n ∷ [])) k) t us kind.Comma f refl
    ∙ numbers_read us os r h end b c es l dot at (ms ++ n ∷ []) k
    ∙ ap (λ xs. parsed_from end (after_field b c es (entry l dot at xs)) r) (append_assoc ms (n ∷ []) os)

-- a mark in a group is passed over
pub mark_passes : (k : TokenKind) (t : Token) (p : Parser) → is_mark k ≡ true → group k t p ≡ Ok p
mark_passes kind.Open t p e = absurd (cc)
mark_passes kind.Close t p e = absurd (cc)
mark_passes kind.Number t p e = absurd (cc)
mark_passes k t p e = refl

pub deeper : (k : ℕ) → 1 ≤ k → (k + 1 == 1) ≡ false
deeper k h = grind (arith, nat_tests)

-- after a group inside another one
pub group_left : (b : Block) (c : Closed) (es : List Entry) (e : Entry) (k : ℕ) → 1 ≤ k →
    group_closed (k + 1 == 1) (within place.Group b c es e (k + 1)) ≡ within place.Group b c es e k
group_left b c es e k h =
    let m : k + 1 - 1 ≡ k = omega arith in
    ap (λ x. group_closed x (within place.Group b c es e (k + 1))) (deeper k h) ∙ ap (within place.Group b c es e) m

pub group_read : (ts ns rest : List Token) → Group ts ns rest → (end : ℕ) (b : Block) (c : Closed) (es : List Entry) (l : Label) (dot at : ℕ) (ms : List Token) (k : ℕ) → 1 ≤ k →
    parsed_from end (within place.Group b c es (entry l dot at ms) k) ts ≡ parsed_from end (group_closed (k == 1) (within place.Group b c es (entry l dot at (ms ++ ns)) k)) rest
group_read ts ns rest (Group.close t r e) end b c es l dot at ms k h =
    goes end (within place.Group b c es (entry l dot at ms) k) (group_closed (k == 1) (within place.Group b c es (entry l dot at ms) k)) t r kind.Close e refl
    ∙ ap (λ xs. parsed_from end (group_closed (k == 1) (within place.Group b c es (entry l dot at xs) k)) r) (sym (append-nil ms))
group_read ts ns rest (Group.number n us os r e g) end b c es l dot at ms k h =
    goes end (within place.Group b c es (entry l dot at ms) k) (within place.Group b c es (entry l dot at (ms ++ n ∷ [])) k) n us kind.Number e refl
    ∙ group_read us os r g end b c es l dot at (ms ++ n ∷ []) k h
    ∙ ap (λ xs. parsed_from end (group_closed (k == 1) (within place.Group b c es (entry l dot at xs) k)) r) (append_assoc ms (n ∷ []) os)
group_read ts ns rest (Group.mark t us os r e g) end b c es l dot at ms k h =
    let p = within place.Group b c es (entry l dot at ms) k in
    goes end p p t us t.kind refl (mark_passes t.kind t p e)
    ∙ group_read us os r g end b c es l dot at ms k h
group_read ts ns rest (Group.nested o us ls middle os r e g i) end b c es l dot at ms k h =
    goes end (within place.Group b c es (entry l dot at ms) k) (within place.Group b c es (entry l dot at ms) (k + 1)) o us kind.Open e refl
    ∙ group_read us ls middle g end b c es l dot at ms (k + 1) (omega arith)
    ∙ ap (λ p. parsed_from end p middle) (group_left b c es (entry l dot at (ms ++ ls)) k h)
    ∙ group_read middle os r i end b c es l dot at (ms ++ ls) k h
    ∙ ap (λ xs. parsed_from end (group_closed (k == 1) (within place.Group b c es (entry l dot at xs) k)) r) (append_assoc ms ls os)

pub list_place : (l : Label) → is_list l ≡ true → value_place l ≡ place.ListOpen
list_place (label.Field field.B) e = refl
list_place (label.Field field.A) e = refl
list_place l e = absurd (cc)

pub alone_place : (l : Label) → is_alone l ≡ true → value_place l ≡ place.Number
alone_place (label.Field field.B) e = absurd (cc)
alone_place (label.Field field.A) e = absurd (cc)
alone_place label.Passed e = absurd (cc)
alone_place l e = refl

pub value_read : (l : Label) (ts : List Token) (at : ℕ) (ns rest : List Token) → Value l ts at ns rest → (end : ℕ) (b : Block) (c : Closed) (es : List Entry) (dot : ℕ) →
    parsed_from end (within (value_place l) b c es (entry l dot 0 []) 0) ts ≡ parsed_from end (after_field b c es (entry l dot at ns)) rest
value_read l ts at ns rest (Value.list m o us os r e f g) end b c es dot =
    ap (λ x. parsed_from end (within x b c es (entry m dot 0 []) 0) (o ∷ us)) (list_place m e)
    ∙ goes end (within place.ListOpen b c es (entry m dot 0 []) 0) (within place.ListNumber b c es (entry m dot o.at []) 0) o us kind.Open f refl
    ∙ numbers_read us os r g end b c es m dot o.at [] 0
value_read l ts at ns rest (Value.alone m n r e f) end b c es dot =
    ap (λ x. parsed_from end (within x b c es (entry m dot 0 []) 0) (n ∷ r)) (alone_place m e)
    ∙ goes end (within place.Number b c es (entry m dot 0 []) 0) (after_field b c es (entry m dot n.at (n ∷ []))) n r kind.Number f refl
value_read l ts at ns rest (Value.passed_number n r f) end b c es dot =
    goes end (within place.Value b c es (entry label.Passed dot 0 []) 0) (after_field b c es (entry label.Passed dot n.at (n ∷ []))) n r kind.Number f refl
value_read l ts at ns rest (Value.passed_name w n r f) end b c es dot =
    goes end (within place.Value b c es (entry label.Passed dot 0 []) 0) (after_field b c es (entry label.Passed dot n.at [])) n r (kind.Name w) f refl
value_read l ts at ns rest (Value.passed_group o us os r f g) end b c es dot =
    goes end (within place.Value b c es (entry label.Passed dot 0 []) 0) (within place.Group b c es (entry label.Passed dot o.at []) 1) o us kind.Open f refl
    ∙ group_read us os r g end b c es label.Passed dot o.at [] 1 (omega arith)

pub field_read : (b : Block) (ts : List Token) (f : Entry) (rest : List Token) → IsField b ts f rest → (end : ℕ) (c : Closed) (es : List Entry) →
    parsed_from end (between place.FieldDot b c es) ts ≡ parsed_from end (after_field b c es f) rest
field_read b ts f rest (IsField.field b' l d n e at us ns r h i j v) end c es =
    let named = within place.FieldName b' c es (entry label.Passed d.at 0 []) 0 in
    goes end (between place.FieldDot b' c es) named d (n ∷ e ∷ us) kind.Dot h refl
    ∙ goes end named (within place.FieldEquals b' c es (entry l d.at 0 []) 0) n (e ∷ us) n.kind refl (ap (λ x. field_label x n named) i)
    ∙ goes end (within place.FieldEquals b' c es (entry l d.at 0 []) 0) (within (value_place l) b' c es (entry l d.at 0 []) 0) e us kind.Equals j refl
    ∙ value_read l us at ns r v end b' c es d.at

pub fields_read : (b : Block) (ts : List Token) (fs : List Entry) (at : ℕ) (rest : List Token) → Fields b ts fs at rest → (end : ℕ) (c : Closed) (es : List Entry) →
    parsed_from end (between place.FieldDot b c es) ts ≡ parsed_from end (between place.Semicolon b (with_close b at c) (es ++ fs)) rest
fields_read b ts fs at rest (Fields.none b' t r e) end c es =
    goes end (between place.FieldDot b' c es) (between place.Semicolon b' (with_close b' t.at c) es) t r kind.Close e refl
    ∙ ap (λ xs. parsed_from end (between place.Semicolon b' (with_close b' t.at c) xs) r) (sym (append-nil es))
fields_read b ts fs at rest (Fields.last b' us f t r h e) end c es =
    field_read b' us f (t ∷ r) h end c es
    ∙ goes end (after_field b' c es f) (between place.Semicolon b' (with_close b' t.at c) (es ++ f ∷ [])) t r kind.Close e refl
fields_read b ts fs at rest (Fields.more b' us vs f gs t at' r h e i) end c es =
    field_read b' us f (t ∷ vs) h end c es
    ∙ goes end (after_field b' c es f) (between place.FieldDot b' c (es ++ f ∷ [])) t vs kind.Comma e refl
    ∙ fields_read b' vs gs at' r i end c (es ++ f ∷ [])
    ∙ ap (λ xs. parsed_from end (between place.Semicolon b' (with_close b' at' c) xs) r) (append_assoc es (f ∷ []) gs)

pub block_read : (b : Block) (ts : List Token) (fs : List Entry) (at : ℕ) (rest : List Token) → IsBlock b ts fs at rest → (end : ℕ) (a : Block) (c : Closed) (es : List Entry) → is_closed b c ≡ false →
    parsed_from end (between place.Declaration a c es) ts ≡ parsed_from end (between place.Declaration b (with_close b at c) (es ++ fs)) rest
block_read b ts fs at rest (IsBlock.block b' w k n e o s us r gs at' h i j m v u) end a c es free =
    let first = between place.Declaration a c es in
    goes end first (between place.BlockName b' c es) k (n ∷ e ∷ o ∷ us) (kind.Name (word.Block b')) h (ap (λ x. declaration_start x b' k first) free)
    ∙ goes end (between place.BlockName b' c es) (between place.BlockEquals b' c es) n (e ∷ o ∷ us) (kind.Name w) i refl
    ∙ goes end (between place.BlockEquals b' c es) (between place.BlockOpen b' c es) e (o ∷ us) kind.Equals j refl
    ∙ goes end (between place.BlockOpen b' c es) (between place.FieldDot b' c es) o us kind.Open m refl
    ∙ fields_read b' us gs at' (s ∷ r) v end c es
    ∙ goes end (between place.Semicolon b' (with_close b' at' c) (es ++ gs)) (between place.Declaration b' (with_close b' at' c) (es ++ gs)) s r kind.Semicolon u refl

pub blocks_read : (c : Closed) (ts : List Token) (fs : List Entry) (d : Closed) → Blocks c ts fs d → (end : ℕ) (a : Block) (es : List Entry) →
    parsed_from end (between place.Declaration a c es) ts ≡ whole_of end d.system d.implementation (es ++ fs)
blocks_read c ts fs d (Blocks.done c') end a es = ap (whole_of end c'.system c'.implementation) (sym (append-nil es))
blocks_read c ts fs d (Blocks.more b c' d' us rest gs hs at free h i) end a es =
    block_read b us gs at rest h end a c' es free
    ∙ blocks_read (with_close b at c') rest hs d' i end b (es ++ gs)
    ∙ ap (whole_of end d'.system d'.implementation) (append_assoc es gs hs)

pub file_read : (end : ℕ) (ts : List Token) (s : Syntax) → IsFile ts s → syntax_of end ts ≡ Ok s
file_read end ts s h =
    blocks_read _ ts s.entries h.closed h.blocks end _ []
    ∙ ap (λ x. whole_of end x h.closed.implementation s.entries) h.system
    ∙ ap (λ x. whole_of end (Some s.system) x s.entries) h.implementation
