-- The text of a controller is what is read as it.
use Rattle.std.proofs.Common.{◌≡◌, ℕ, List, length, refl, ap, ◌∙◌, inl, inr}
use Rattle.std.specs.Prelude.{Result, Ok, Err, IfOk, ◌⊎◌}
use Rattle.dsv_token.specs.Memory.{Gives}
use Rattle.dsv_token.specs.Lexing.{tokens_of}
use Rattle.dsv_token.specs.Text.{utf8_test}
use Rattle.dsv_token.specs.declared.refusal.FileRefusal.{FileRefusal}
use Rattle.dsv_token.specs.declared.token.Token.{Token}
use Rattle.dsv_token.proofs.CutLaws.{cut_law}
use Rattle.dsv_text.specs.Stages.{◌>>=◌}
use Rattle.dsv_syntax.specs.Parsing.{syntax_of}
use Rattle.dsv_syntax.specs.declared.parsing.Syntax.{Syntax}
use Rattle.dsv_syntax.proofs.Binds.{unbind}
use Rattle.dsv_syntax.proofs.ReadLemmas.{file_read}
use Rattle.dsv_syntax.proofs.TakenLemmas.{file_taken}
use Rattle.dsv_reader.specs.declared.fields.Values.{Values}
use Rattle.dsv_reader.specs.Controllers.{ControllerView}
use Rattle.dsv_reader.specs.Fields.{values_of}
use Rattle.dsv_reader.specs.Reading.{blocks_of, controller_from, reading}
use Rattle.dsv_reader.specs.Texts.{IsTextOf, IsFaultOf}
use Rattle.dsv_reader.proofs.ValueLaws.{values_taken, values_read}

-- what the passes after a pass say
abbrev pub from_values : Syntax → Values → Result ControllerView FileRefusal
from_values x v = blocks_of x v >>= λ b. controller_from b

abbrev pub from_syntax : List ℕ → Syntax → Result ControllerView FileRefusal
from_syntax bytes x = values_of bytes x.entries >>= λ v. from_values x v

abbrev pub from_tokens : List ℕ → List Token → Result ControllerView FileRefusal
from_tokens bytes ts = syntax_of (length bytes) ts >>= λ x. from_syntax bytes x

abbrev pub from_text : List ℕ → Unit {0} → Result ControllerView FileRefusal
from_text bytes u = tokens_of bytes >>= λ ts. from_tokens bytes ts

-- what is read is a text
pub text_taken : (bytes : List ℕ) (c : ControllerView) → reading bytes ≡ Ok c → IsTextOf bytes c
text_taken bytes c e =
    let t = unbind (utf8_test bytes) (from_text bytes) c e in
    let l = unbind (tokens_of bytes) (from_tokens bytes) c t.second in
    let p = unbind (syntax_of (length bytes) l.value) (from_syntax bytes) c l.second in
    let v = unbind (values_of bytes p.value.entries) (from_values p.value) c p.second in
    let b = unbind (blocks_of p.value v.value) controller_from c v.second in
    record {
      text = t.first;
      tokens = l.value;
      cut = (cut_law bytes l.value).0 l.first;
      syntax = p.value;
      grammar = file_taken (length bytes) l.value p.value p.first;
      values = v.value;
      table = values_taken bytes p.value.entries v.value v.first;
      blocks = b.value;
      whole = b.first;
      made = b.second;
    }

-- a text is read
pub text_read : (bytes : List ℕ) (c : ControllerView) → IsTextOf bytes c → reading bytes ≡ Ok c
text_read bytes c h =
    ap (λ r. r >>= from_text bytes) h.text
    ∙ ap (λ r. r >>= from_tokens bytes) ((cut_law bytes h.tokens).1 h.cut)
    ∙ ap (λ r. r >>= from_syntax bytes) (file_read (length bytes) h.tokens h.syntax h.grammar)
    ∙ ap (λ r. r >>= from_values h.syntax) (values_read bytes h.syntax.entries h.values h.table)
    ∙ ap (λ r. r >>= controller_from) h.whole
    ∙ h.made

either : (bytes : List ℕ) (r : Result ControllerView FileRefusal) → reading bytes ≡ r → ((c : ControllerView) × IsTextOf bytes c) ⊎ ((f : FileRefusal) × IsFaultOf bytes f)
either bytes (Ok c) e = inl (c, text_taken bytes c e)
either bytes (Err f) e = inr (f, e)

pub some_answer : (bytes : List ℕ) → ((c : ControllerView) × IsTextOf bytes c) ⊎ ((r : FileRefusal) × IsFaultOf bytes r)
some_answer bytes = either bytes (reading bytes) refl

pub answers_apart : (bytes : List ℕ) (c : ControllerView) (r : FileRefusal) → IsTextOf bytes c → IsFaultOf bytes r → ⊥
answers_apart bytes c r h f = let e = text_read bytes c h in cc

pub one_design : (bytes : List ℕ) (c d : ControllerView) → IsTextOf bytes c → IsTextOf bytes d → c ≡ d
one_design bytes c d h i = let e = text_read bytes c h in let f = text_read bytes d i in cc

-- what is read is a text, where it is no refusal
pub gives_text : (bytes : List ℕ) (r : Result ControllerView FileRefusal) → Gives (λ c. c) r (reading bytes) → IfOk r (IsTextOf bytes)
gives_text bytes (Ok c) e = text_taken bytes c e
gives_text bytes (Err f) e = tt
