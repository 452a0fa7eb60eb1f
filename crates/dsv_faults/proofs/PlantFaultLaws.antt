-- A plant's file is refused for its first fault.
use Rattle.std.proofs.Common.{◌≡◌, ℕ, List, length, inl, inr, sym, ap, ◌∙◌, subst}
use Rattle.std.specs.Prelude.{Result, Ok, Err}
use Rattle.dsv_token.specs.Lexing.{tokens_of}
use Rattle.dsv_token.specs.Text.{utf8_test}
use Rattle.dsv_token.specs.declared.refusal.FileRefusal.{FileRefusal}
use Rattle.dsv_token.specs.declared.refusal.FileRefusal.TheVariants as refusal
use Rattle.dsv_token.specs.declared.token.Token.{Token}
use Rattle.dsv_token.proofs.CutLaws.{cut_law, stop_law}
use Rattle.dsv_text.specs.Stages.{◌>>=◌}
use Rattle.dsv_syntax.specs.Parsing.{plant_syntax_of}
use Rattle.dsv_syntax.specs.Grammar.{IsPlantFile}
use Rattle.dsv_syntax.specs.declared.parsing.Syntax.{Syntax}
use Rattle.dsv_syntax.proofs.PlantFiles.{plant_read, plant_taken}
use Rattle.dsv_reader.specs.Plants.{PlantView}
use Rattle.dsv_reader.specs.Fields.{values_of}
use Rattle.dsv_reader.specs.Values.{AreValuesOf}
use Rattle.dsv_reader.specs.Reading.{system_of, plant_from, plant_reading}
use Rattle.dsv_reader.proofs.ValueLaws.{values_taken, values_read}
use Rattle.dsv_reader.proofs.PlantTexts.{from_syntax, from_text, from_tokens}
use Rattle.dsv_faults.specs.Types.{Values}
use Rattle.dsv_faults.specs.FirstFaults.{AreTokensOf}
use Rattle.dsv_faults.specs.PlantFaults.{IsPlantFault, FirstPlantFaultsAreRead}
use Rattle.dsv_faults.proofs.Refusals.{refused}
use Rattle.dsv_faults.proofs.FieldLaws.{fields_taken, fields_read}
use Rattle.dsv_faults.proofs.FaultLaws.{stuck}
use Rattle.dsv_faults.proofs.PlantUnexpected.{stops_there}

-- what the passes after a pass say
abbrev from_values : Syntax → Values → Result PlantView FileRefusal
from_values x v = system_of x.system v.system >>= λ b. plant_from b

-- ---- what is refused has a first fault
by_values : (bytes : List ℕ) (ts : List Token) (s : Syntax) (v : Values) (r : FileRefusal) → AreTokensOf bytes ts → IsPlantFile (length bytes) ts s → AreValuesOf bytes s.entries v →
    from_values s v ≡ Err r → IsPlantFault bytes r
by_values bytes ts s v r t g h e = elim (refused (system_of s.system v.system) (λ b. plant_from b) r e) [
  | inl f ↦ IsPlantFault.block ts s v r t g h f
  | inr m ↦ IsPlantFault.whole ts s v m.0 r t g h m.1 m.2
]

by_syntax : (bytes : List ℕ) (ts : List Token) (s : Syntax) (r : FileRefusal) → AreTokensOf bytes ts → IsPlantFile (length bytes) ts s → from_syntax bytes s ≡ Err r → IsPlantFault bytes r
by_syntax bytes ts s r t g e = elim (refused (values_of bytes s.entries) (λ v. from_values s v) r e) [
  | inl f ↦ IsPlantFault.fields ts s r t g (fields_taken bytes s.entries r f)
  | inr m ↦ by_values bytes ts s m.0 r t g (values_taken bytes s.entries m.0 m.1) m.2
]

unexpected : (bytes : List ℕ) (ts : List Token) (r : FileRefusal) → AreTokensOf bytes ts → plant_syntax_of (length bytes) ts ≡ Err r → IsPlantFault bytes r
unexpected bytes ts r t e =
    let k = stops_there (length bytes) ts r e in
    let f : plant_syntax_of (length bytes) ts ≡ Err (refusal.Unexpected k.at k.wanted) = e ∙ ap Err k.is in
    subst (IsPlantFault bytes) (sym k.is) (IsPlantFault.unexpected k.at k.wanted (record { tokens = ts; are = t; place = k.place; wanted = f }))

by_tokens : (bytes : List ℕ) (ts : List Token) (r : FileRefusal) → AreTokensOf bytes ts → from_tokens bytes ts ≡ Err r → IsPlantFault bytes r
by_tokens bytes ts r t e = elim (refused (plant_syntax_of (length bytes) ts) (λ x. from_syntax bytes x) r e) [
  | inl f ↦ unexpected bytes ts r t f
  | inr m ↦ by_syntax bytes ts m.0 r t (plant_taken (length bytes) ts m.0 m.1) m.2
]

no_token : (bytes : List ℕ) (r : FileRefusal) → utf8_test bytes ≡ Ok tt → tokens_of bytes ≡ Err r → IsPlantFault bytes r
no_token bytes r u e = let s = stuck bytes r e in subst (IsPlantFault bytes) s.1 (IsPlantFault.token s.0 u s.2)

by_text : (bytes : List ℕ) (r : FileRefusal) → utf8_test bytes ≡ Ok tt → from_text bytes tt ≡ Err r → IsPlantFault bytes r
by_text bytes r u e = elim (refused (tokens_of bytes) (λ ts. from_tokens bytes ts) r e) [
  | inl f ↦ no_token bytes r u f
  | inr m ↦ by_tokens bytes m.0 r (record { text = u; cut = (cut_law bytes m.0).0 m.1 }) m.2
]

fault_taken : (bytes : List ℕ) (r : FileRefusal) → plant_reading bytes ≡ Err r → IsPlantFault bytes r
fault_taken bytes r e = elim (refused (utf8_test bytes) (from_text bytes) r e) [
  | inl f ↦ IsPlantFault.text r f
  | inr m ↦ by_text bytes r m.1 m.2
]

-- ---- a first fault is refused
tokens_read : (bytes : List ℕ) (ts : List Token) → AreTokensOf bytes ts → plant_reading bytes ≡ from_tokens bytes ts
tokens_read bytes ts t = ap (λ x. x >>= from_text bytes) t.text ∙ ap (λ x. x >>= from_tokens bytes) ((cut_law bytes ts).1 t.cut)

syntax_read : (bytes : List ℕ) (ts : List Token) (s : Syntax) → AreTokensOf bytes ts → IsPlantFile (length bytes) ts s → plant_reading bytes ≡ from_syntax bytes s
syntax_read bytes ts s t g = tokens_read bytes ts t ∙ ap (λ x. x >>= from_syntax bytes) (plant_read (length bytes) ts s g)

table_read : (bytes : List ℕ) (ts : List Token) (s : Syntax) (v : Values) → AreTokensOf bytes ts → IsPlantFile (length bytes) ts s → AreValuesOf bytes s.entries v → plant_reading bytes ≡ from_values s v
table_read bytes ts s v t g h = syntax_read bytes ts s t g ∙ ap (λ x. x >>= from_values s) (values_read bytes s.entries v h)

fault_read : (bytes : List ℕ) (r : FileRefusal) → IsPlantFault bytes r → plant_reading bytes ≡ Err r
fault_read bytes r (IsPlantFault.text r' e) = ap (λ x. x >>= from_text bytes) e
fault_read bytes r (IsPlantFault.token at u s) = ap (λ x. x >>= from_text bytes) u ∙ ap (λ x. x >>= from_tokens bytes) ((stop_law bytes at).1 s)
fault_read bytes r (IsPlantFault.unexpected at w h) = tokens_read bytes h.tokens h.are ∙ ap (λ x. x >>= from_syntax bytes) h.wanted
fault_read bytes r (IsPlantFault.fields ts s r' t g h) = syntax_read bytes ts s t g ∙ ap (λ x. x >>= from_values s) (fields_read bytes s.entries r' h)
fault_read bytes r (IsPlantFault.block ts s v r' t g h e) = table_read bytes ts s v t g h ∙ ap (λ x. x >>= plant_from) e
fault_read bytes r (IsPlantFault.whole ts s v b r' t g h e f) = table_read bytes ts s v t g h ∙ ap (λ x. x >>= plant_from) e ∙ f

pub first_plant_faults : FirstPlantFaultsAreRead
first_plant_faults bytes r = (fault_taken bytes r, fault_read bytes r)
