-- The text of a plant is what is read as it.
use Rattle.std.proofs.Common.{◌≡◌, ℕ, List, length, ap, ◌∙◌}
use Rattle.std.specs.Prelude.{Result, Ok, Err, IfOk}
use Rattle.dsv_token.specs.Memory.{Gives}
use Rattle.dsv_token.specs.Lexing.{tokens_of}
use Rattle.dsv_token.specs.Text.{utf8_test}
use Rattle.dsv_token.specs.declared.refusal.FileRefusal.{FileRefusal}
use Rattle.dsv_token.specs.declared.token.Token.{Token}
use Rattle.dsv_token.proofs.CutLaws.{cut_law}
use Rattle.dsv_text.specs.Stages.{◌>>=◌}
use Rattle.dsv_syntax.specs.Parsing.{plant_syntax_of}
use Rattle.dsv_syntax.specs.declared.parsing.Syntax.{Syntax}
use Rattle.dsv_syntax.proofs.Binds.{unbind}
use Rattle.dsv_syntax.proofs.PlantFiles.{plant_read, plant_taken}
use Rattle.dsv_reader.specs.declared.fields.Values.{Values}
use Rattle.dsv_reader.specs.Plants.{PlantView}
use Rattle.dsv_reader.specs.Fields.{values_of}
use Rattle.dsv_reader.specs.Reading.{system_of, plant_from, plant_reading}
use Rattle.dsv_reader.specs.Texts.{IsPlantText}
use Rattle.dsv_reader.proofs.ValueLaws.{values_taken, values_read}

-- what the passes after a pass say
abbrev from_values : Syntax → Values → Result PlantView FileRefusal
from_values x v = system_of x.system v.system >>= λ s. plant_from s

abbrev pub from_syntax : List ℕ → Syntax → Result PlantView FileRefusal
from_syntax bytes x = values_of bytes x.entries >>= λ v. from_values x v

abbrev pub from_tokens : List ℕ → List Token → Result PlantView FileRefusal
from_tokens bytes ts = plant_syntax_of (length bytes) ts >>= λ x. from_syntax bytes x

abbrev pub from_text : List ℕ → Unit {0} → Result PlantView FileRefusal
from_text bytes u = tokens_of bytes >>= λ ts. from_tokens bytes ts

-- what is read is a text
pub plant_text_taken : (bytes : List ℕ) (p : PlantView) → plant_reading bytes ≡ Ok p → IsPlantText bytes p
plant_text_taken bytes p e =
    let t = unbind (utf8_test bytes) (from_text bytes) p e in
    let l = unbind (tokens_of bytes) (from_tokens bytes) p t.second in
    let x = unbind (plant_syntax_of (length bytes) l.value) (from_syntax bytes) p l.second in
    let v = unbind (values_of bytes x.value.entries) (from_values x.value) p x.second in
    let s = unbind (system_of x.value.system v.value.system) plant_from p v.second in
    record {
      text = t.first;
      tokens = l.value;
      cut = (cut_law bytes l.value).0 l.first;
      syntax = x.value;
      grammar = plant_taken (length bytes) l.value x.value x.first;
      values = v.value;
      table = values_taken bytes x.value.entries v.value v.first;
      system = s.value;
      whole = s.first;
      made = s.second;
    }

-- a text is read
pub plant_text_read : (bytes : List ℕ) (p : PlantView) → IsPlantText bytes p → plant_reading bytes ≡ Ok p
plant_text_read bytes p h =
    ap (λ r. r >>= from_text bytes) h.text
    ∙ ap (λ r. r >>= from_tokens bytes) ((cut_law bytes h.tokens).1 h.cut)
    ∙ ap (λ r. r >>= from_syntax bytes) (plant_read (length bytes) h.tokens h.syntax h.grammar)
    ∙ ap (λ r. r >>= from_values h.syntax) (values_read bytes h.syntax.entries h.values h.table)
    ∙ ap (λ r. r >>= plant_from) h.whole
    ∙ h.made

-- what is read is a text, where it is no refusal
pub gives_plant_text : (bytes : List ℕ) (r : Result PlantView FileRefusal) → Gives (λ p. p) r (plant_reading bytes) → IfOk r (IsPlantText bytes)
gives_plant_text bytes (Ok p) e = plant_text_taken bytes p e
gives_plant_text bytes (Err f) e = tt
