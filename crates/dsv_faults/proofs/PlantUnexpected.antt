-- Where the reading of a plant's file stops, its grammar does.
use Rattle.std.proofs.Common.{◌≡◌, ℕ, false, List, [], ◌∷◌, ◌++◌, refl, sym, ap, subst, ◌∙◌, append_assoc}
use Rattle.std.specs.Prelude.{Result, Ok, Err}
use Rattle.dsv_names.specs.declared.block.Block.{Block}
use Rattle.dsv_names.specs.declared.block.Block.TheVariants as block
use Rattle.dsv_names.specs.declared.want.Wanted.{Wanted}
use Rattle.dsv_token.specs.declared.refusal.FileRefusal.{FileRefusal}
use Rattle.dsv_token.specs.declared.refusal.FileRefusal.TheVariants as refusal
use Rattle.dsv_token.specs.declared.token.Token.{Token}
use Rattle.dsv_syntax.specs.declared.entry.Entry.{Entry}
use Rattle.dsv_syntax.specs.declared.parsing.Syntax.{Syntax}
use Rattle.dsv_text.specs.Stages.{◌>>=◌}
use Rattle.dsv_syntax.specs.Parsing.{is_closed, with_close, plant_closed, step_at, parsed_from, start, plant_start, plant_syntax_of}
use Rattle.dsv_syntax.specs.Grammar.{IsBlock, IsPlantFile}
use Rattle.dsv_syntax.proofs.States.{between}
use Rattle.dsv_syntax.proofs.TakenLemmas.{declaration_by}
use Rattle.dsv_syntax.proofs.PlantFiles.{plant_read, no_more}
use Rattle.dsv_syntax.proofs.Steps.{IsStep, step_leads}
use Rattle.dsv_syntax.proofs.Completions.{completed}
use Rattle.dsv_syntax.proofs.UnexpectedLemmas.{Leads, Ends, ends, reads_on, goes_on, all_read, stops_read, end_refuses, one_longer}
use Rattle.dsv_faults.specs.Types.{type_of}
use Rattle.dsv_faults.specs.PlantBeginnings.{PlantBegins, PlantStopsAt, PlantEndsEarly, IsPlantUnexpectedAt}

-- a state of the reading
abbrev Parser : Type 0
Parser = type_of start

-- ---- a plant's file, whose other blocks are closed at the offset `end`, read to whatever end

-- after its block
after_block : (i end at : ℕ) (ts : List Token) (fs : List Entry) (rest : List Token) (out : Syntax) → IsBlock block.System ts fs at rest →
    parsed_from i (between start.place block.System (with_close block.System at (plant_closed end)) fs) rest ≡ Ok out → IsPlantFile end ts out
after_block i end at ts fs [] out g e =
    let same : ◌≡◌ {A = Syntax} (record { entries = fs; system = at; implementation = end }) out = cc in
    subst (IsPlantFile end ts) same (record { only = g; place = refl })
after_block i end at ts fs (t ∷ r) out g e =
    let more = declaration_by i block.System (with_close block.System at (plant_closed end)) fs t r out t.kind refl e in
    absurd (no_more end at more.b more.free)

by_block : (i end : ℕ) (ts : List Token) (out : Syntax) (b : Block) (fs : List Entry) (at : ℕ) (rest : List Token) → is_closed b (plant_closed end) ≡ false →
    IsBlock b ts fs at rest → parsed_from i (between start.place b (with_close b at (plant_closed end)) fs) rest ≡ Ok out → IsPlantFile end ts out
by_block i end ts out block.System fs at rest free g e = after_block i end at ts fs rest out g e
by_block i end ts out block.Implementation fs at rest free g e = absurd (cc)
by_block i end ts out block.Hardware fs at rest free g e = absurd (cc)

taken_anywhere : (i end : ℕ) (ts : List Token) (s : Syntax) → parsed_from i (plant_start end) ts ≡ Ok s → IsPlantFile end ts s
taken_anywhere i end [] s h = absurd (cc)
taken_anywhere i end (t ∷ r) s h =
    let b = declaration_by i block.System (plant_closed end) [] t r s t.kind refl h in
    by_block i end (t ∷ r) s b.b b.fs b.at b.rest b.free b.grammar b.goes_on

-- where the file ends doesn't matter to its tokens
file_anywhere : (i end : ℕ) (ts : List Token) (s : Syntax) → IsPlantFile i ts s → IsPlantFile end ts (record s { implementation = end })
file_anywhere i end ts s h = record { only = h.only; place = refl }

-- ---- tokens that lead somewhere begin a plant's file, and with one that is refused they begin none
begins : (end : ℕ) (ts : List Token) (q : Parser) → Leads (plant_start end) ts q → PlantBegins ts
begins end ts q h =
    let c = completed q (goes_on (plant_start end) ts q h) in
    record {
      others = c.others;
      end = end;
      syntax = c.syntax;
      file = taken_anywhere 0 end (ts ++ c.others) c.syntax (reads_on 0 (plant_start end) ts q c.others h ∙ c.read);
    }

begins_none : (end : ℕ) (ts : List Token) (q : Parser) (t : Token) (r : FileRefusal) → Leads (plant_start end) ts q → step_at q.place t.kind t q ≡ Err r → PlantBegins (ts ++ t ∷ []) → ⊥
begins_none end ts q t r h e b =
    let s : Syntax = record b.syntax { implementation = end } in
    let read : plant_syntax_of end ((ts ++ t ∷ []) ++ b.others) ≡ Ok s =
    plant_read end ((ts ++ t ∷ []) ++ b.others) s (file_anywhere b.end end ((ts ++ t ∷ []) ++ b.others) b.syntax b.file) in
    let split : (ts ++ t ∷ []) ++ b.others ≡ ts ++ t ∷ b.others = append_assoc ts (t ∷ []) b.others in
    let left : parsed_from end q (t ∷ b.others) ≡ Ok s = sym (reads_on end (plant_start end) ts q (t ∷ b.others) h) ∙ ap (plant_syntax_of end) (sym split) ∙ read in
    let no : parsed_from end q (t ∷ b.others) ≡ Err r = ap (λ x. x >>= λ p. parsed_from end p b.others) e in
    absurd (cc)

-- ---- a refusal names the place where the grammar stops, and what is wanted there
pub record StopsThere (end : ℕ) (ts : List Token) (r : FileRefusal) : Type 0 where
  pub at : ℕ
  pub wanted : Wanted
  pub is : r ≡ refusal.Unexpected at wanted
  pub place : IsPlantUnexpectedAt end ts at

stops_by : (end : ℕ) (ts : List Token) (r : FileRefusal) → Ends (plant_start end) ts → plant_syntax_of end ts ≡ Err r → StopsThere end ts r
stops_by end ts r (Ends.all p ts' q h) e =
    let why = end_refuses q.place end q r (sym (all_read end (plant_start end) ts q h) ∙ e) in
    record {
      at = end;
      wanted = why.0;
      is = why.1;
      place = IsPlantUnexpectedAt.early (record {
        place = refl;
        begins = begins end ts q h;
        no_file = λ s f. let read : plant_syntax_of end ts ≡ Ok s = plant_read end ts s f in absurd (cc);
      });
    }
stops_by end ts r (Ends.refuses p ts' before q t after w f h i) e =
    let read : plant_syntax_of end ts ≡ Err (refusal.Unexpected t.at w) = stops_read end (plant_start end) ts before q t after w f h i in
    record {
      at = t.at;
      wanted = w;
      is = cc;
      place = IsPlantUnexpectedAt.token (record {
        before = before;
        token = t;
        after = after;
        whole = f;
        place = refl;
        begins = begins end before q h;
        none = begins_none end before q t (refusal.Unexpected t.at w) h i;
      });
    }

pub stops_there : (end : ℕ) (ts : List Token) (r : FileRefusal) → plant_syntax_of end ts ≡ Err r → StopsThere end ts r
stops_there end ts r e = stops_by end ts r (ends ts (plant_start end) tt) e

pub refused_where_it_stops : (end : ℕ) (ts : List Token) (at : ℕ) (w : Wanted) → plant_syntax_of end ts ≡ Err (refusal.Unexpected at w) → IsPlantUnexpectedAt end ts at
refused_where_it_stops end ts at w e =
    let k = stops_there end ts (refusal.Unexpected at w) e in
    let is : refusal.Unexpected at w ≡ refusal.Unexpected k.at k.wanted = k.is in
    let same : k.at ≡ at = cc in
    subst (IsPlantUnexpectedAt end ts) same k.place

-- ---- and where the grammar stops, the reading does

-- what begins a plant's file begins it up to each of its tokens
begins_before : (before : List Token) (t : Token) (after : List Token) → PlantBegins (before ++ t ∷ after) → PlantBegins (before ++ t ∷ [])
begins_before before t after b = record {
  others = after ++ b.others;
  end = b.end;
  syntax = b.syntax;
  file = subst (λ xs. IsPlantFile b.end xs b.syntax) (append_assoc before (t ∷ after) b.others ∙ sym (append_assoc before (t ∷ []) (after ++ b.others))) b.file;
}

-- tokens that begin a plant's file lead somewhere
record LeadsOn (end : ℕ) (ts : List Token) : Type 0 where
  pub to : Parser
  pub leads : Leads (plant_start end) ts to

leads_by : (end : ℕ) (ts : List Token) → Ends (plant_start end) ts → PlantBegins ts → LeadsOn end ts
leads_by end ts (Ends.all p ts' q h) b = record { to = q; leads = h }
leads_by end ts (Ends.refuses p ts' before q t after w f h i) b =
    absurd (begins_none end before q t (refusal.Unexpected t.at w) h i (begins_before before t after (subst PlantBegins f b)))

stopped_by : (end : ℕ) (ts : List Token) (at : ℕ) (s : PlantStopsAt ts at) (q : Parser) → Leads (plant_start end) s.before q → (x : Result Parser FileRefusal) →
    step_at q.place s.token.kind s.token q ≡ x → IsStep s.token x → (w : Wanted) × (plant_syntax_of end ts ≡ Err (refusal.Unexpected at w))
stopped_by end ts at s q h (Ok m) e g = absurd (s.none (begins end (s.before ++ s.token ∷ []) m (one_longer (plant_start end) s.before q s.token m h e g)))
stopped_by end ts at s q h (Err r) e g =
    (g.0, stops_read end (plant_start end) ts s.before q s.token s.after g.0 s.whole h (e ∙ ap Err g.1) ∙ ap (λ x. Err (refusal.Unexpected x g.0)) s.place)

early_by : (end : ℕ) (ts : List Token) (at : ℕ) → PlantEndsEarly end ts at → (q : Parser) → Leads (plant_start end) ts q → (x : Result Syntax FileRefusal) →
    plant_syntax_of end ts ≡ x → (w : Wanted) × (plant_syntax_of end ts ≡ Err (refusal.Unexpected at w))
early_by end ts at s q h (Ok f) e = absurd (s.no_file f (taken_anywhere end end ts f e))
early_by end ts at s q h (Err r) e =
    let why = end_refuses q.place end q r (sym (all_read end (plant_start end) ts q h) ∙ e) in
    (why.0, e ∙ ap Err (why.1) ∙ ap (λ x. Err (refusal.Unexpected x why.0)) s.place)

pub stops_where_refused : (end : ℕ) (ts : List Token) (at : ℕ) → IsPlantUnexpectedAt end ts at → (w : Wanted) × (plant_syntax_of end ts ≡ Err (refusal.Unexpected at w))
stops_where_refused end ts at (IsPlantUnexpectedAt.token s) =
    let first = plant_start end in
    let l = leads_by end s.before (ends s.before first tt) s.begins in
    let q = l.to in
    stopped_by end ts at s q l.leads (step_at q.place s.token.kind s.token q) refl (step_leads q.place s.token.kind s.token q (goes_on first s.before q l.leads))
stops_where_refused end ts at (IsPlantUnexpectedAt.early s) =
    let l = leads_by end ts (ends ts (plant_start end) tt) s.begins in early_by end ts at s l.to l.leads (plant_syntax_of end ts) refl
