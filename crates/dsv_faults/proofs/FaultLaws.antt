-- A controller's file is refused for its first fault.
use Rattle.std.proofs.Common.{◌≡◌, ℕ, List, length, inl, inr, sym, ap, ◌∙◌, subst}
use Rattle.std.specs.Prelude.{◌⊎◌, true, Ok, Err}
use Rattle.dsv_token.specs.Lexing.{tokens_of}
use Rattle.dsv_token.specs.Pieces.{IsCut, StopsAt}
use Rattle.dsv_token.specs.Text.{utf8_test}
use Rattle.dsv_token.specs.declared.refusal.FileRefusal.{FileRefusal}
use Rattle.dsv_token.specs.declared.refusal.FileRefusal.TheVariants as refusal
use Rattle.dsv_token.specs.declared.token.Token.{Token}
use Rattle.dsv_token.proofs.CutLaws.{cut_law, stop_law, each_law}
use Rattle.dsv_text.specs.Stages.{◌>>=◌}
use Rattle.dsv_syntax.specs.Parsing.{syntax_of}
use Rattle.dsv_syntax.specs.Grammar.{IsFile}
use Rattle.dsv_syntax.specs.declared.parsing.Syntax.{Syntax}
use Rattle.dsv_syntax.proofs.ReadLemmas.{file_read}
use Rattle.dsv_syntax.proofs.TakenLemmas.{file_taken}
use Rattle.dsv_syntax.proofs.UnexpectedLemmas.{each_refusal, refused_where_it_stops}
use Rattle.dsv_reader.specs.Fields.{values_of}
use Rattle.dsv_reader.specs.Values.{AreValuesOf}
use Rattle.dsv_reader.specs.Reading.{blocks_of, controller_from, reading}
use Rattle.dsv_reader.proofs.ValueLaws.{values_taken, values_read}
use Rattle.dsv_reader.proofs.TextLaws.{from_syntax, from_text, from_tokens, from_values}
use Rattle.dsv_faults.specs.Types.{Values}
use Rattle.dsv_faults.specs.FirstFaults.{AreTokensOf, IsFirstFault, FirstFaultsAreRead}
use Rattle.dsv_faults.proofs.Refusals.{refused}
use Rattle.dsv_faults.proofs.FieldLaws.{fields_taken, fields_read}

-- ---- where no token is, the text is stuck
stuck_by : (bytes : List ℕ) (r : FileRefusal) → ((ts : List Token) × IsCut true 0 bytes ts) ⊎ ((place : ℕ) × StopsAt true 0 bytes place) →
    tokens_of bytes ≡ Err r → (place : ℕ) × (refusal.Token place ≡ r) × StopsAt true 0 bytes place
stuck_by bytes r (inl h) e = let f = (cut_law bytes h.0).1 h.1 in absurd (cc)
stuck_by bytes r (inr h) e = let f = (stop_law bytes h.0).1 h.1 in (h.0, cc, h.1)

pub stuck : (bytes : List ℕ) (r : FileRefusal) → tokens_of bytes ≡ Err r → (place : ℕ) × (refusal.Token place ≡ r) × StopsAt true 0 bytes place
stuck bytes r e = stuck_by bytes r (each_law bytes) e

-- ---- what is refused has a first fault
by_values : (bytes : List ℕ) (ts : List Token) (s : Syntax) (v : Values) (r : FileRefusal) → AreTokensOf bytes ts → IsFile ts s → AreValuesOf bytes s.entries v →
    from_values s v ≡ Err r → IsFirstFault bytes r
by_values bytes ts s v r t g h e = elim (refused (blocks_of s v) (λ b. controller_from b) r e) [
  | inl f ↦ IsFirstFault.blocks ts s v r t g h f
  | inr m ↦ IsFirstFault.whole ts s v m.0 r t g h m.1 m.2
]

by_syntax : (bytes : List ℕ) (ts : List Token) (s : Syntax) (r : FileRefusal) → AreTokensOf bytes ts → IsFile ts s → from_syntax bytes s ≡ Err r → IsFirstFault bytes r
by_syntax bytes ts s r t g e = elim (refused (values_of bytes s.entries) (λ v. from_values s v) r e) [
  | inl f ↦ IsFirstFault.fields ts s r t g (fields_taken bytes s.entries r f)
  | inr m ↦ by_values bytes ts s m.0 r t g (values_taken bytes s.entries m.0 m.1) m.2
]

unexpected : (bytes : List ℕ) (ts : List Token) (r : FileRefusal) → AreTokensOf bytes ts → syntax_of (length bytes) ts ≡ Err r → IsFirstFault bytes r
unexpected bytes ts r t e =
    let k = each_refusal (length bytes) ts r e in
    let f : syntax_of (length bytes) ts ≡ Err (refusal.Unexpected k.0 k.1) = e ∙ ap Err k.2 in
    subst (IsFirstFault bytes) (sym k.2)
    (IsFirstFault.unexpected k.0 k.1 (record { tokens = ts; are = t; place = refused_where_it_stops (length bytes) ts k.0 k.1 f; wanted = f }))

by_tokens : (bytes : List ℕ) (ts : List Token) (r : FileRefusal) → AreTokensOf bytes ts → from_tokens bytes ts ≡ Err r → IsFirstFault bytes r
by_tokens bytes ts r t e = elim (refused (syntax_of (length bytes) ts) (λ x. from_syntax bytes x) r e) [
  | inl f ↦ unexpected bytes ts r t f
  | inr m ↦ by_syntax bytes ts m.0 r t (file_taken (length bytes) ts m.0 m.1) m.2
]

no_token : (bytes : List ℕ) (r : FileRefusal) → utf8_test bytes ≡ Ok tt → tokens_of bytes ≡ Err r → IsFirstFault bytes r
no_token bytes r u e = let s = stuck bytes r e in subst (IsFirstFault bytes) s.1 (IsFirstFault.token s.0 u s.2)

by_text : (bytes : List ℕ) (r : FileRefusal) → utf8_test bytes ≡ Ok tt → from_text bytes tt ≡ Err r → IsFirstFault bytes r
by_text bytes r u e = elim (refused (tokens_of bytes) (λ ts. from_tokens bytes ts) r e) [
  | inl f ↦ no_token bytes r u f
  | inr m ↦ by_tokens bytes m.0 r (record { text = u; cut = (cut_law bytes m.0).0 m.1 }) m.2
]

fault_taken : (bytes : List ℕ) (r : FileRefusal) → reading bytes ≡ Err r → IsFirstFault bytes r
fault_taken bytes r e = elim (refused (utf8_test bytes) (from_text bytes) r e) [
  | inl f ↦ IsFirstFault.text r f
  | inr m ↦ by_text bytes r m.1 m.2
]

-- ---- a first fault is refused
tokens_read : (bytes : List ℕ) (ts : List Token) → AreTokensOf bytes ts → reading bytes ≡ from_tokens bytes ts
tokens_read bytes ts t = ap (λ x. x >>= from_text bytes) t.text ∙ ap (λ x. x >>= from_tokens bytes) ((cut_law bytes ts).1 t.cut)

syntax_read : (bytes : List ℕ) (ts : List Token) (s : Syntax) → AreTokensOf bytes ts → IsFile ts s → reading bytes ≡ from_syntax bytes s
syntax_read bytes ts s t g = tokens_read bytes ts t ∙ ap (λ x. x >>= from_syntax bytes) (file_read (length bytes) ts s g)

table_read : (bytes : List ℕ) (ts : List Token) (s : Syntax) (v : Values) → AreTokensOf bytes ts → IsFile ts s → AreValuesOf bytes s.entries v → reading bytes ≡ from_values s v
table_read bytes ts s v t g h = syntax_read bytes ts s t g ∙ ap (λ x. x >>= from_values s) (values_read bytes s.entries v h)

fault_read : (bytes : List ℕ) (r : FileRefusal) → IsFirstFault bytes r → reading bytes ≡ Err r
fault_read bytes r (IsFirstFault.text r' e) = ap (λ x. x >>= from_text bytes) e
fault_read bytes r (IsFirstFault.token at u s) = ap (λ x. x >>= from_text bytes) u ∙ ap (λ x. x >>= from_tokens bytes) ((stop_law bytes at).1 s)
fault_read bytes r (IsFirstFault.unexpected at w h) = tokens_read bytes h.tokens h.are ∙ ap (λ x. x >>= from_syntax bytes) h.wanted
fault_read bytes r (IsFirstFault.fields ts s r' t g h) = syntax_read bytes ts s t g ∙ ap (λ x. x >>= from_values s) (fields_read bytes s.entries r' h)
fault_read bytes r (IsFirstFault.blocks ts s v r' t g h e) = table_read bytes ts s v t g h ∙ ap (λ x. x >>= controller_from) e
fault_read bytes r (IsFirstFault.whole ts s v b r' t g h e f) = table_read bytes ts s v t g h ∙ ap (λ x. x >>= controller_from) e ∙ f

pub first_faults : FirstFaultsAreRead
first_faults bytes r = (fault_taken bytes r, fault_read bytes r)
