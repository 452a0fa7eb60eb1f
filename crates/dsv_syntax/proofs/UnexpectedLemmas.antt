-- Where the grammar stops, the reading does.
use Rattle.std.proofs.Common.{◌≡◌, ℕ, List, [], ◌∷◌, ◌++◌, Option, Some, None, refl, sym, ap, subst, ◌∙◌, append_assoc, append-nil}
use Rattle.std.specs.Prelude.{Result, Ok, Err}
use Rattle.dsv_names.specs.declared.want.Wanted.{Wanted}
use Rattle.dsv_names.specs.declared.want.Wanted.TheVariants as wanted
use Rattle.dsv_token.specs.declared.refusal.FileRefusal.{FileRefusal}
use Rattle.dsv_token.specs.declared.refusal.FileRefusal.TheVariants as refusal
use Rattle.dsv_token.specs.declared.token.Token.{Token}
use Rattle.dsv_syntax.specs.declared.entry.Entry.{Entry}
use Rattle.dsv_syntax.specs.declared.parser.Place.{Place}
use Rattle.dsv_syntax.specs.declared.parser.Place.TheVariants as place
use Rattle.dsv_syntax.specs.declared.parser.Parser.{Parser}
use Rattle.dsv_syntax.specs.declared.parsing.Syntax.{Syntax}
use Rattle.dsv_text.specs.Stages.{◌>>=◌}
use Rattle.dsv_syntax.specs.Parsing.{step_at, wanted_at, whole_of, finish_at, parsed_from, syntax_of, start}
use Rattle.dsv_syntax.specs.Grammar.{IsFile}
use Rattle.dsv_syntax.specs.Beginnings.{Begins, StopsAt, EndsEarly, IsUnexpectedAt}
use Rattle.dsv_syntax.proofs.ReadLemmas.{file_read}
use Rattle.dsv_syntax.proofs.TakenLemmas.{file_taken, next}
use Rattle.dsv_syntax.proofs.Steps.{CanGoOn, IsStep, step_leads}
use Rattle.dsv_syntax.proofs.Completions.{completed}

-- ---- tokens that are read to a state

-- the tokens lead from one state to another, which can go on
pub data Leads : Parser → List Token → Parser → Type 0 where
  here : (p : Parser) → CanGoOn p.place p.depth → Leads p [] p
  step : (p q r : Parser) (t : Token) (ts : List Token) → step_at p.place t.kind t p ≡ Ok q → Leads q ts r → Leads p (t ∷ ts) r

-- the tokens are read, and then others
pub reads_on : (end : ℕ) (p : Parser) (ts : List Token) (q : Parser) (us : List Token) → Leads p ts q → parsed_from end p (ts ++ us) ≡ parsed_from end q us
reads_on end p ts q us (Leads.here p' h) = refl
reads_on end p ts q us (Leads.step p' m q' t rest e h) = ap (λ x. x >>= next end (rest ++ us)) e ∙ reads_on end m rest q' us h

pub goes_on : (p : Parser) (ts : List Token) (q : Parser) → Leads p ts q → CanGoOn q.place q.depth
goes_on p ts q (Leads.here p' h) = h
goes_on p ts q (Leads.step p' m q' t rest e h) = goes_on m rest q' h

-- tokens that lead somewhere begin a file
begins : (ts : List Token) (q : Parser) → Leads start ts q → Begins ts
begins ts q h =
    let c = completed q (goes_on start ts q h) in
    record { others = c.others; syntax = c.syntax; file = file_taken 0 (ts ++ c.others) c.syntax (reads_on 0 start ts q c.others h ∙ c.read) }

-- a token that is refused begins none
begins_none : (ts : List Token) (q : Parser) (t : Token) (r : FileRefusal) → Leads start ts q → step_at q.place t.kind t q ≡ Err r → Begins (ts ++ t ∷ []) → ⊥
begins_none ts q t r h e b =
    let whole : syntax_of 0 ((ts ++ t ∷ []) ++ b.others) ≡ Ok b.syntax = file_read 0 ((ts ++ t ∷ []) ++ b.others) b.syntax b.file in
    let split : (ts ++ t ∷ []) ++ b.others ≡ ts ++ t ∷ b.others = append_assoc ts (t ∷ []) b.others in
    let left : parsed_from 0 q (t ∷ b.others) ≡ Ok b.syntax = sym (reads_on 0 start ts q (t ∷ b.others) h) ∙ ap (syntax_of 0) (sym split) ∙ whole in
    let refused : parsed_from 0 q (t ∷ b.others) ≡ Err r = ap (λ x. x >>= next 0 b.others) e in
    cc

-- ---- how far tokens are read

-- all tokens are read, or one is refused
pub data Ends : Parser → List Token → Type 0 where
  all : (p : Parser) (ts : List Token) (q : Parser) → Leads p ts q → Ends p ts
  refuses : (p : Parser) (ts : List Token) (before : List Token) (q : Parser) (t : Token) (after : List Token) (w : Wanted) →
      ts ≡ before ++ t ∷ after → Leads p before q → step_at q.place t.kind t q ≡ Err (refusal.Unexpected t.at w) → Ends p ts

longer : (p m : Parser) (t : Token) (ts : List Token) → step_at p.place t.kind t p ≡ Ok m → Ends m ts → Ends p (t ∷ ts)
longer p m t ts e (Ends.all m' ts' q h) = Ends.all p (t ∷ ts) q (Leads.step p m q t ts e h)
longer p m t ts e (Ends.refuses m' ts' before q u after w f h i) =
    Ends.refuses p (t ∷ ts) (t ∷ before) q u after w (ap (λ xs. t ∷ xs) f) (Leads.step p m q t before e h) i

one_more : (p : Parser) (t : Token) (ts : List Token) (x : Result Parser FileRefusal) → step_at p.place t.kind t p ≡ x → CanGoOn p.place p.depth → IsStep t x →
    ((q : Parser) → CanGoOn q.place q.depth → Ends q ts) → Ends p (t ∷ ts)
one_more p t ts (Ok q) e h s ih = longer p q t ts e (ih q s)
one_more p t ts (Err r) e h s ih = Ends.refuses p (t ∷ ts) [] p t ts s.0 refl (Leads.here p h) (e ∙ ap Err s.1)

pub ends : (ts : List Token) (p : Parser) → CanGoOn p.place p.depth → Ends p ts
ends [] p h = Ends.all p [] p (Leads.here p h)
ends (t ∷ ts) p h = one_more p t ts (step_at p.place t.kind t p) refl h (step_leads p.place t.kind t p h) (ends ts)

-- ---- the file's end
whole_refuses : (end : ℕ) (s i : Option ℕ) (es : List Entry) (r : FileRefusal) → whole_of end s i es ≡ Err r → (w : Wanted) × (r ≡ refusal.Unexpected end w)
whole_refuses end (Some s) (Some i) es r e = absurd (cc)
whole_refuses end (Some s) None es r e = (wanted.Declaration, cc)
whole_refuses end None i es r e = (wanted.Declaration, cc)

-- a refusal at the end names it
pub end_refuses : (pl : Place) (end : ℕ) (p : Parser) (r : FileRefusal) → finish_at pl end p ≡ Err r → (w : Wanted) × (r ≡ refusal.Unexpected end w)
end_refuses place.Declaration end p r e = whole_refuses end p.closed.system p.closed.implementation p.entries r e
end_refuses pl end p r e = (wanted_at pl, cc)

-- after all tokens the end decides
pub all_read : (end : ℕ) (first : Parser) (ts : List Token) (q : Parser) → Leads first ts q → parsed_from end first ts ≡ finish_at q.place end q
all_read end first ts q h = ap (parsed_from end first) (sym (append-nil ts)) ∙ reads_on end first ts q [] h

pub stops_read : (end : ℕ) (first : Parser) (ts before : List Token) (q : Parser) (t : Token) (after : List Token) (w : Wanted) →
    ts ≡ before ++ t ∷ after → Leads first before q → step_at q.place t.kind t q ≡ Err (refusal.Unexpected t.at w) → parsed_from end first ts ≡ Err (refusal.Unexpected t.at w)
stops_read end first ts before q t after w e h i = ap (parsed_from end first) e ∙ reads_on end first before q (t ∷ after) h ∙ ap (λ x. x >>= next end after) i

-- ---- the law

refusal_kind : (end : ℕ) (ts : List Token) (r : FileRefusal) → Ends start ts → syntax_of end ts ≡ Err r → (at : ℕ) × (w : Wanted) × (r ≡ refusal.Unexpected at w)
refusal_kind end ts r (Ends.all p ts' q h) e =
    let why = end_refuses q.place end q r (sym (all_read end start ts q h) ∙ e) in (end, why.0, why.1)
refusal_kind end ts r (Ends.refuses p ts' before q t after w f h i) e =
    let read : syntax_of end ts ≡ Err (refusal.Unexpected t.at w) = stops_read end start ts before q t after w f h i in
    (t.at, w, cc)

pub each_refusal : (end : ℕ) (ts : List Token) (r : FileRefusal) → syntax_of end ts ≡ Err r → (at : ℕ) × (w : Wanted) × (r ≡ refusal.Unexpected at w)
each_refusal end ts r e = refusal_kind end ts r (ends ts start tt) e

refused_by : (end : ℕ) (ts : List Token) (at : ℕ) (w : Wanted) → Ends start ts → syntax_of end ts ≡ Err (refusal.Unexpected at w) → IsUnexpectedAt end ts at
refused_by end ts at w (Ends.all p ts' q h) e =
    let why = end_refuses q.place end q (refusal.Unexpected at w) (sym (all_read end start ts q h) ∙ e) in
    let same : refusal.Unexpected at w ≡ refusal.Unexpected end why.0 = why.1 in
    IsUnexpectedAt.early end ts at (record {
      place = cc;
      begins = begins ts q h;
      no_file = λ s f. let read : syntax_of end ts ≡ Ok s = file_read end ts s f in cc;
    })
refused_by end ts at w (Ends.refuses p ts' before q t after v f h i) e =
    let read : syntax_of end ts ≡ Err (refusal.Unexpected t.at v) = stops_read end start ts before q t after v f h i in
    IsUnexpectedAt.token end ts at (record {
      before = before;
      token = t;
      after = after;
      whole = f;
      place = cc;
      begins = begins before q h;
      none = begins_none before q t (refusal.Unexpected t.at v) h i;
    })

pub refused_where_it_stops : (end : ℕ) (ts : List Token) (at : ℕ) (w : Wanted) → syntax_of end ts ≡ Err (refusal.Unexpected at w) → IsUnexpectedAt end ts at
refused_where_it_stops end ts at w e = refused_by end ts at w (ends ts start tt) e

-- ---- the law's other direction

-- what begins a file begins it up to each of its tokens
begins_before : (before : List Token) (t : Token) (after : List Token) → Begins (before ++ t ∷ after) → Begins (before ++ t ∷ [])
begins_before before t after b = record {
  others = after ++ b.others;
  syntax = b.syntax;
  file = subst (λ xs. IsFile xs b.syntax) (append_assoc before (t ∷ after) b.others ∙ sym (append_assoc before (t ∷ []) (after ++ b.others))) b.file;
}

-- tokens that begin a file lead somewhere
record LeadsOn (ts : List Token) : Type 0 where
  pub to : Parser
  pub leads : Leads start ts to

leads_by : (ts : List Token) → Ends start ts → Begins ts → LeadsOn ts
leads_by ts (Ends.all p ts' q h) b = record { to = q; leads = h }
leads_by ts (Ends.refuses p ts' before q t after w f h i) b =
    absurd (begins_none before q t (refusal.Unexpected t.at w) h i (begins_before before t after (subst Begins f b)))

pub one_longer : (p : Parser) (ts : List Token) (q : Parser) (t : Token) (m : Parser) → Leads p ts q → step_at q.place t.kind t q ≡ Ok m → CanGoOn m.place m.depth → Leads p (ts ++ t ∷ []) m
one_longer p ts q t m (Leads.here p' h) e g = Leads.step p m m t [] e (Leads.here m g)
one_longer p ts q t m (Leads.step p' n q' u rest f h) e g = Leads.step p n m u (rest ++ t ∷ []) f (one_longer n rest q t m h e g)

stopped_by : (end : ℕ) (ts : List Token) (at : ℕ) (s : StopsAt ts at) (q : Parser) → Leads start s.before q → (x : Result Parser FileRefusal) →
    step_at q.place s.token.kind s.token q ≡ x → IsStep s.token x → (w : Wanted) × (syntax_of end ts ≡ Err (refusal.Unexpected at w))
stopped_by end ts at s q h (Ok m) e g = absurd (s.none (begins (s.before ++ s.token ∷ []) m (one_longer start s.before q s.token m h e g)))
stopped_by end ts at s q h (Err r) e g =
    (g.0, stops_read end start ts s.before q s.token s.after g.0 s.whole h (e ∙ ap Err g.1) ∙ ap (λ x. Err (refusal.Unexpected x g.0)) s.place)

early_by : (end : ℕ) (ts : List Token) (at : ℕ) → EndsEarly end ts at → (q : Parser) → Leads start ts q → (x : Result Syntax FileRefusal) →
    syntax_of end ts ≡ x → (w : Wanted) × (syntax_of end ts ≡ Err (refusal.Unexpected at w))
early_by end ts at s q h (Ok f) e = absurd (s.no_file f (file_taken end ts f e))
early_by end ts at s q h (Err r) e =
    let why = end_refuses q.place end q r (sym (all_read end start ts q h) ∙ e) in
    (why.0, e ∙ ap Err (why.1) ∙ ap (λ x. Err (refusal.Unexpected x why.0)) s.place)

pub stops_where_refused : (end : ℕ) (ts : List Token) (at : ℕ) → IsUnexpectedAt end ts at → (w : Wanted) × (syntax_of end ts ≡ Err (refusal.Unexpected at w))
stops_where_refused end ts at (IsUnexpectedAt.token end' ts' at' s) =
    let l = leads_by s.before (ends s.before start tt) s.begins in
    let q = l.to in
    stopped_by end ts at s q l.leads (step_at q.place s.token.kind s.token q) refl (step_leads q.place s.token.kind s.token q (goes_on start s.before q l.leads))
stops_where_refused end ts at (IsUnexpectedAt.early end' ts' at' s) =
    let l = leads_by ts (ends ts start tt) s.begins in early_by end ts at s l.to l.leads (syntax_of end ts) refl
