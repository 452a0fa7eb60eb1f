-- What a text is read to, and what it is.
use Rattle.std.proofs.Common.{◌≡◌, ℕ, ◌+◌, ◌-◌, ◌^◌, ◌<◌, ◌≤◌, ◌==◌, ◌&&◌, not, Bool, true, false, List, [], ◌∷◌, ◌++◌, ◌⊎◌, inl, inr, append_assoc, length-append, Ok, Err, cond, length, map, drop, codes, decimal, refl, arith, ap, sym, subst, ◌∙◌, append-nil}
use Rattle.std.specs.Prelude.{Result}
use Rattle.std.specs.List.{flat_map}
use Rattle.std.proofs.Math.Seq.{drop-append_seam}
use Rattle.std.proofs.lemmas.Bool.{eqb-true, eq-eqb}
use Rattle.std.proofs.lemmas.Fmt.{decimal_nonempty}
use Rattle.std.proofs.lemmas.List.Elements.{All-head, All-tail, All-nil}
use Rattle.dsv_text.specs.Stages.{and_then}
use Rattle.dsv_cnf.specs.Dimacs.{header_text}
use Rattle.dsv_cnf.specs.Formula.{IsOver, AreOver}
use Rattle.dsv_cnf.specs.FormulaView.{FormulaView}
use Rattle.dsv_cnf.specs.Literal.{Literal}
use Rattle.dsv_cnf.specs.Reading.{clauses_from, comments_end, empty_reading, finish, header_of, is_nil, reading}
use Rattle.dsv_cnf.specs.ReadingView.{ReadingView}
use Rattle.dsv_cnf.specs.TextFaults.{IsHead, IsItem, AreItems, HasNoBlank, IsPiece, IsLiteralFault, IsCountFault, IsFaultOf}
use Rattle.dsv_cnf.specs.Texts.{comment_line, literal_piece, end_piece, clause_pieces, AreSpaced, IsTextOf}
use Rattle.dsv_cnf.specs.declared.reader.CnfRefusal.{CnfRefusal}
use Rattle.dsv_cnf.specs.declared.reader.CnfRefusal.TheVariants as refusal
use Rattle.dsv_cnf.specs.declared.reader.Header.{Header}
use Rattle.dsv_cnf.proofs.BrokenHeaders.{head-read, header-refused}
use Rattle.dsv_cnf.proofs.Digits.{AreDigits, spells-decimal, digit-no_blank}
use Rattle.dsv_cnf.proofs.HeaderFaults.{header-fault}
use Rattle.dsv_cnf.proofs.Heads.{HeadRead, SaidHead, said_head, head-taken}
use Rattle.dsv_cnf.proofs.PiecePlaces.{located, placed-between}
use Rattle.dsv_cnf.proofs.PieceTexts.{Leads, BreaksAt, SaidPieces, said_pieces, read-clauses, read-breaks, items-whole, so_far}
use Rattle.dsv_cnf.proofs.Spacing.{Placed, texts, placed, read_pieces, clauses_from-placed, placed-spaced, placed-pieces, spaced-placed, ArePieces}
use Rattle.dsv_algebra.proofs.Booleans.{and_left, and_right, not_true}

-- ---- a formula's text is read to it

digits-no_blank : (ds : List ℕ) → AreDigits ds → HasNoBlank ds
digits-no_blank [] h = tt
digits-no_blank (d ∷ ds) h = (digit-no_blank d h.0, digits-no_blank ds h.2)

signed-piece : (n : ℕ) (positive : Bool) → n < 2 ^ 64 → IsPiece (cond positive [] (codes "-") ++ decimal n)
signed-piece n true h = record { some = decimal_nonempty n h; whole = digits-no_blank (decimal n) (spells-decimal n h).digits }
signed-piece n false h = record { some = omega arith; whole = (refl, digits-no_blank (decimal n) (spells-decimal n h).digits) }

pub literal-is_piece : (vars : ℕ) (l : Literal) → vars ≤ 2 ^ 31 → l.var < vars → IsPiece (literal_piece l)
literal-is_piece vars l few lt = signed-piece (l.var + 1) l.positive (omega (arith, few, lt))

pub end-is_piece : IsPiece end_piece
end-is_piece = record { some = omega arith; whole = (refl, tt) }

clause-are_pieces : (vars : ℕ) (c : List Literal) (more : List (List ℕ)) → vars ≤ 2 ^ 31 → IsOver vars c → ArePieces more → ArePieces (clause_pieces c ++ more)
clause-are_pieces vars [] more few over h = (end-is_piece, h)
clause-are_pieces vars (l ∷ ls) more few over h =
    let P : Literal → Type 0 = λ m. m.var < vars in
    (literal-is_piece vars l few (All-head P l ls over), clause-are_pieces vars ls more few (All-tail P l ls over) h)

pub are_pieces : (vars : ℕ) (cs : List (List Literal)) → vars ≤ 2 ^ 31 → AreOver vars cs → ArePieces (flat_map clause_pieces cs)
are_pieces vars [] few over = tt
are_pieces vars (c ∷ cs) few over = clause-are_pieces vars c (flat_map clause_pieces cs) few over.0 (are_pieces vars cs few over.1)

read-by : (bytes body : List ℕ) (h : Header) (r : ReadingView) (f : FormulaView) → header_of bytes (comments_end false bytes 0) ≡ Ok h → drop h.end bytes ≡ body → clauses_from body [] h.end (empty_reading h) ≡ Ok r
    → finish r (length bytes) ≡ Ok f → reading bytes ≡ Ok f
read-by bytes body h r f a b c d = rw (a, b, c) d

pub text_read : (f : FormulaView) (bytes : List ℕ) → IsTextOf f bytes → reading bytes ≡ Ok f
text_read f bytes t =
    let count = length f.clauses in
    let lines = flat_map comment_line t.comments in
    let header = header_text f.vars count in
    let whole = lines ++ header ++ t.body in
    let few = t.few_vars in
    let small = t.few_clauses in
    let end = length (lines ++ header) in
    let h : Header = record { vars = f.vars; clauses = count; end = end } in
    let head : header_of whole (comments_end false whole 0) ≡ Ok h = head-taken (2 ^ 31) (2 ^ 32 - 1) t.comments f.vars count t.body (omega arith) (omega arith) t.lines t.few_vars t.few_clauses in
    let pieces : texts (placed t.body [] end) ≡ flat_map clause_pieces f.clauses = spaced-placed (flat_map clause_pieces f.clauses) t.body end (are_pieces f.vars f.clauses t.few_vars t.over) t.pieces in
    let clauses : clauses_from t.body [] end (empty_reading h) ≡ Ok (so_far f.vars count f.clauses) =
    clauses_from-placed t.body [] end (empty_reading h) ∙ read-clauses f.vars count f.clauses [] (placed t.body [] end) t.over t.few_vars (omega arith) pieces in
    let same : (count == count) ≡ true = eq-eqb count count refl in
    let last : finish (so_far f.vars count f.clauses) (length whole) ≡ Ok f = rw same refl in
    ap reading t.text ∙ read-by whole t.body h (so_far f.vars count f.clauses) f head (drop-append_seam (lines ++ header) t.body) clauses last

-- ---- what is read is a formula's text

-- what a text is read to
abbrev pub SaidReading : List ℕ → Result FormulaView CnfRefusal → Type 0
SaidReading bytes (Ok f) = IsTextOf f bytes
SaidReading bytes (Err e) = IsFaultOf bytes e

no_literals : (c : List Literal) → is_nil c ≡ true → c ≡ []
no_literals [] h = refl
no_literals (l ∷ ls) h = absurd (cc)

text-finished : (bytes : List ℕ) (h : Header) (r : ReadingView) (t : HeadRead (2 ^ 31) (2 ^ 32 - 1) bytes h) → Leads (empty_reading h) (texts (placed t.body [] h.end)) r
    → length r.clauses ≡ r.wanted → r.over ≡ false → r.open_clause ≡ [] → IsTextOf (record { vars = r.vars; clauses = r.clauses }) bytes
text-finished bytes h r t l count over open_nil =
    let none : IsOver h.vars [] = All-nil (λ (m : Literal). m.var < h.vars) in
    let vars : r.vars ≡ h.vars = l.same_vars in
    let clauses : length r.clauses ≡ h.clauses = count ∙ l.same_wanted in
    let few = t.few_vars in
    let small = t.few_clauses in
    let pieces : texts (placed t.body [] h.end) ≡ flat_map clause_pieces r.clauses =
    sym (l.more over) ∙ ap (λ (c : List Literal). flat_map clause_pieces r.clauses ++ map literal_piece c) open_nil ∙ append-nil (flat_map clause_pieces r.clauses) in
    record {
      comments = t.comments;
      lines = t.lines;
      body = t.body;
      text = t.text ∙ ap (λ n. flat_map comment_line t.comments ++ header_text n h.clauses ++ t.body) (sym vars) ∙ ap (λ n. flat_map comment_line t.comments ++ header_text r.vars n ++ t.body) (sym clauses);
      pieces = subst (λ ps. AreSpaced ps t.body) pieces (placed-spaced t.body [] h.end);
      over = subst (λ n. AreOver n r.clauses) (sym vars) (l.over_all none tt);
      few_vars = omega (arith, vars, few);
      few_clauses = omega (arith, clauses, small);
    }

abbrev test_of : ReadingView → Bool
test_of r = (length r.clauses == r.wanted) && (not r.over && is_nil r.open_clause)

ok_same : (a b : ReadingView) → ◌≡◌ {A = Result ReadingView CnfRefusal} (Ok a) (Ok b) → a ≡ b
ok_same a b e = cc

-- clauses of the header's number pass the test
clauses-pass : (h : Header) (cs : List (List Literal)) → length cs ≡ h.clauses → test_of (so_far h.vars h.clauses cs) ≡ true
clauses-pass h cs e = let same : (length cs == h.clauses) ≡ true = eq-eqb (length cs) h.clauses e in rw same refl

count-fault : (bytes : List ℕ) (h : Header) (r : ReadingView) (t : HeadRead (2 ^ 31) (2 ^ 32 - 1) bytes h) → AreItems h.vars (texts (placed t.body [] h.end))
    → read_pieces (placed t.body [] h.end) (empty_reading h) ≡ Ok r → test_of r ≡ false → IsCountFault bytes (length bytes)
count-fault bytes h r t items e f =
    let ps = placed t.body [] h.end in
    record {
      vars = h.vars;
      clauses = h.clauses;
      few_vars = t.few_vars;
      few_clauses = t.few_clauses;
      head = flat_map comment_line t.comments ++ header_text h.vars h.clauses;
      is_head = record { comments = t.comments; lines = t.lines; text_is = refl };
      body = t.body;
      items = texts ps;
      pieces = placed-spaced t.body [] h.end;
      are_items = items;
      other = λ cs n over g.
          let read : read_pieces ps (so_far h.vars h.clauses []) ≡ Ok (so_far h.vars h.clauses cs) = read-clauses h.vars h.clauses cs [] ps over t.few_vars (omega (arith, n)) g in
          let same : r ≡ so_far h.vars h.clauses cs = ok_same r (so_far h.vars h.clauses cs) (sym e ∙ read) in
          let pass : test_of r ≡ true = ap test_of same ∙ clauses-pass h cs n in
          absurd (cc);
      text = t.text;
      place = refl;
    }

said_finish : (bytes : List ℕ) (h : Header) (r : ReadingView) (t : HeadRead (2 ^ 31) (2 ^ 32 - 1) bytes h) (x : Bool) → Leads (empty_reading h) (texts (placed t.body [] h.end)) r
    → AreItems h.vars (texts (placed t.body [] h.end)) → read_pieces (placed t.body [] h.end) (empty_reading h) ≡ Ok r → test_of r ≡ x
    → SaidReading bytes (cond x (Ok (record { vars = r.vars; clauses = r.clauses })) (Err (refusal.Count (length bytes))))
said_finish bytes h r t true l items f e =
    let count = and_left (length r.clauses == r.wanted) (not r.over && is_nil r.open_clause) e in
    let rest = and_right (length r.clauses == r.wanted) (not r.over && is_nil r.open_clause) e in
    text-finished bytes h r t l (eqb-true (length r.clauses) r.wanted count) (not_true r.over (and_left (not r.over) (is_nil r.open_clause) rest)) (no_literals r.open_clause (and_right (not r.over) (is_nil r.open_clause) rest))
said_finish bytes h r t false l items f e = count-fault bytes h r t items f e

literal-fault : (bytes : List ℕ) (h : Header) (t : HeadRead (2 ^ 31) (2 ^ 32 - 1) bytes h) (at : ℕ) → BreaksAt h.vars (placed t.body [] h.end) at → IsLiteralFault bytes at
literal-fault bytes h t at b =
    let head = flat_map comment_line t.comments ++ header_text h.vars h.clauses in
    let l = located t.body [] h.end b.before b.piece b.after b.split in
    let p = l.place in
    let q = b.place in
    let end = t.place in
    let pieces = subst (λ ps. ArePieces (texts ps)) b.split (placed-pieces t.body [] h.end tt) in
    record {
      vars = h.vars;
      clauses = h.clauses;
      few_vars = t.few_vars;
      few_clauses = t.few_clauses;
      head = head;
      is_head = record { comments = t.comments; lines = t.lines; text_is = refl };
      before = l.front;
      items = texts b.before;
      pieces = l.pieces;
      are_items = b.items;
      piece = b.piece.text;
      is_piece = piece-between b.before b.piece b.after pieces;
      other = b.other;
      after = l.rest;
      apart_before = l.ended;
      apart_after = l.apart;
      text = t.text ∙ ap (λ x. head ++ x) l.split ∙ sym (append_assoc head (l.front ++ b.piece.text) l.rest) ∙ ap (λ x. x ++ l.rest) (sym (append_assoc head l.front b.piece.text));
      place = omega (arith, p, q, end, length-append head l.front);
    }
  where
    piece-between : (before : List Placed) (p : Placed) (after : List Placed) → ArePieces (texts (before ++ p ∷ after)) → IsPiece p.text
    piece-between [] p after h = h.0
    piece-between (q ∷ qs) p after h = piece-between qs p after h.1

said_read : (bytes : List ℕ) (h : Header) (t : HeadRead (2 ^ 31) (2 ^ 32 - 1) bytes h) (a : Result ReadingView CnfRefusal) → read_pieces (placed t.body [] h.end) (empty_reading h) ≡ a
    → SaidPieces (empty_reading h) (placed t.body [] h.end) a → SaidReading bytes (and_then a (λ r. finish r (length bytes)))
said_read bytes h t (Ok r) e s = said_finish bytes h r t (test_of r) s.0 s.1 e refl
said_read bytes h t (Err r) e s = subst (IsFaultOf bytes) (sym s.1) (literal-fault bytes h t s.0 s.2)

said_head_read : (bytes : List ℕ) (a : Result Header CnfRefusal) → SaidHead (2 ^ 31) (2 ^ 32 - 1) bytes a
    → SaidReading bytes (and_then a (λ h. and_then (clauses_from (drop h.end bytes) [] h.end (empty_reading h)) (λ r. finish r (length bytes))))
said_head_read bytes (Ok h) t =
    let front = flat_map comment_line t.comments ++ header_text h.vars h.clauses in
    let after : drop h.end bytes ≡ t.body = ap (λ k. drop k bytes) t.place ∙ ap (drop (length front)) t.text ∙ drop-append_seam front t.body in
    let few = t.few_vars in
    let same : read_pieces (placed t.body [] h.end) (empty_reading h) ≡ clauses_from (drop h.end bytes) [] h.end (empty_reading h) =
    sym (clauses_from-placed t.body [] h.end (empty_reading h)) ∙ ap (λ b. clauses_from b [] h.end (empty_reading h)) (sym after) in
    subst (λ a. SaidReading bytes (and_then a (λ r. finish r (length bytes)))) same
    (said_read bytes h t (read_pieces (placed t.body [] h.end) (empty_reading h)) refl (said_pieces (placed t.body [] h.end) (empty_reading h) few (placed-pieces t.body [] h.end tt)))
said_head_read bytes (Err e) s = subst (IsFaultOf bytes) (sym s.1) (header-fault bytes s.0 s.2)

pub said_reading : (bytes : List ℕ) → SaidReading bytes (reading bytes)
said_reading bytes = said_head_read bytes (header_of bytes (comments_end false bytes 0)) (said_head (2 ^ 31) (2 ^ 32 - 1) bytes (omega arith) (omega arith))

pub read_text : (f : FormulaView) (bytes : List ℕ) → reading bytes ≡ Ok f → IsTextOf f bytes
read_text f bytes e = subst (SaidReading bytes) e (said_reading bytes)

pub read_fault : (e : CnfRefusal) (bytes : List ℕ) → reading bytes ≡ Err e → IsFaultOf bytes e
read_fault e bytes f = subst (SaidReading bytes) f (said_reading bytes)

ok_only : (f g : FormulaView) → ◌≡◌ {A = Result FormulaView CnfRefusal} (Ok f) (Ok g) → f ≡ g
ok_only f g e = cc

-- a text is that of one formula at most
pub one_formula : (f g : FormulaView) (bytes : List ℕ) → IsTextOf f bytes → IsTextOf g bytes → f ≡ g
one_formula f g bytes a b = ok_only f g (sym (text_read f bytes a) ∙ text_read g bytes b)

-- ---- a text with a fault is refused

refused-by : (bytes : List ℕ) (e : CnfRefusal) → header_of bytes (comments_end false bytes 0) ≡ Err e → reading bytes ≡ Err e
refused-by bytes e a = rw a refl

-- a head and what stands after it
headed-by : (vars clauses : ℕ) (head body : List ℕ) (a : Result FormulaView CnfRefusal) → vars ≤ 2 ^ 31 → clauses ≤ 2 ^ 32 - 1 → IsHead vars clauses head
    → and_then (read_pieces (placed body [] (length head)) (so_far vars clauses [])) (λ r. finish r (length (head ++ body))) ≡ a → reading (head ++ body) ≡ a
headed-by vars clauses head body a few small h e =
    let h0 : Header = record { vars = vars; clauses = clauses; end = length head } in
    let whole = head ++ body in
    let taken : header_of whole (comments_end false whole 0) ≡ Ok h0 =
    head-read (2 ^ 31) (2 ^ 32 - 1) head body (record { vars = vars; clauses = clauses; head = h; few_vars = few; few_clauses = small }) (omega arith) (omega arith) in
    read-on whole body h0 a taken (drop-append_seam head body)
    (ap (λ b. and_then b (λ r. finish r (length whole))) (clauses_from-placed body [] (length head) (empty_reading h0)) ∙ e)
  where
    read-on : (bytes body : List ℕ) (h : Header) (a : Result FormulaView CnfRefusal) → header_of bytes (comments_end false bytes 0) ≡ Ok h → drop h.end bytes ≡ body
        → and_then (clauses_from body [] h.end (empty_reading h)) (λ r. finish r (length bytes)) ≡ a → reading bytes ≡ a
    read-on bytes body h a b c d = rw (b, c) d

item-is_piece : (vars : ℕ) (text : List ℕ) → vars ≤ 2 ^ 31 → IsItem vars text → IsPiece text
item-is_piece vars text few (inl e) = subst IsPiece (sym e) end-is_piece
item-is_piece vars text few (inr w) = subst IsPiece (sym w.1) (literal-is_piece vars w.0 few w.2)

items-are_pieces : (vars : ℕ) (ps : List (List ℕ)) → vars ≤ 2 ^ 31 → AreItems vars ps → ArePieces ps
items-are_pieces vars [] few h = tt
items-are_pieces vars (p ∷ ps) few h = (item-is_piece vars p few h.0, items-are_pieces vars ps few h.1)

literal-refused : (bytes : List ℕ) (at : ℕ) → IsLiteralFault bytes at → reading bytes ≡ Err (refusal.Literal at)
literal-refused bytes at l =
    let head = l.head in
    let end = length head in
    let body : List ℕ = l.before ++ l.piece ++ l.after in
    let q : Placed = record { at = end + length l.before; text = l.piece } in
    let more = placed l.after [] (end + length l.before + length l.piece) in
    let r = so_far l.vars l.clauses [] in
    let shape : bytes ≡ head ++ body = l.text ∙ ap (λ t. t ++ l.after) (append_assoc head l.before l.piece) ∙ append_assoc head (l.before ++ l.piece) l.after in
    let found : texts (placed l.before [] end) ≡ l.items = spaced-placed l.items l.before end (items-are_pieces l.vars l.items l.few_vars l.are_items) l.pieces in
    let items : AreItems l.vars (texts (placed l.before [] end)) = subst (AreItems l.vars) (sym found) l.are_items in
    let breaks : read_pieces (placed body [] end) r ≡ Err (refusal.Literal q.at) =
    ap (λ ps. read_pieces ps r) (placed-between l.before l.piece l.after end l.apart_before l.is_piece l.apart_after) ∙ read-breaks (placed l.before [] end) q more r l.few_vars items l.is_piece l.other in
    let place : q.at ≡ at = let p = l.place in omega (arith, p, length-append head l.before) in
    ap reading shape ∙ headed-by l.vars l.clauses head body (Err (refusal.Literal at)) l.few_vars l.few_clauses l.is_head
    (ap (λ b. and_then b (λ s. finish s (length (head ++ body)))) breaks ∙ ap (λ (k : ℕ). Err (refusal.Literal k)) place)

count-finished : (vars clauses at : ℕ) (ps : List Placed) (r : ReadingView) (x : Bool) → Leads (so_far vars clauses []) (texts ps) r → test_of r ≡ x
    → ((cs : List (List Literal)) → length cs ≡ clauses → AreOver vars cs → texts ps ≡ flat_map clause_pieces cs → ⊥)
    → cond {A = Result FormulaView CnfRefusal} x (Ok (record { vars = r.vars; clauses = r.clauses })) (Err (refusal.Count at)) ≡ Err (refusal.Count at)
count-finished vars clauses at ps r false l e other = refl
count-finished vars clauses at ps r true l e other =
    let count = and_left (length r.clauses == r.wanted) (not r.over && is_nil r.open_clause) e in
    let rest = and_right (length r.clauses == r.wanted) (not r.over && is_nil r.open_clause) e in
    let over = not_true r.over (and_left (not r.over) (is_nil r.open_clause) rest) in
    let open_nil = no_literals r.open_clause (and_right (not r.over) (is_nil r.open_clause) rest) in
    let none : IsOver vars [] = All-nil (λ (m : Literal). m.var < vars) in
    let pieces : texts ps ≡ flat_map clause_pieces r.clauses =
    sym (l.more over) ∙ ap (λ (c : List Literal). flat_map clause_pieces r.clauses ++ map literal_piece c) open_nil ∙ append-nil (flat_map clause_pieces r.clauses) in
    absurd (other r.clauses (eqb-true (length r.clauses) r.wanted count ∙ l.same_wanted) (l.over_all none tt) pieces)

count-by : (vars clauses at : ℕ) (ps : List Placed) (a : Result ReadingView CnfRefusal) → SaidPieces (so_far vars clauses []) ps a → AreItems vars (texts ps)
    → ((cs : List (List Literal)) → length cs ≡ clauses → AreOver vars cs → texts ps ≡ flat_map clause_pieces cs → ⊥) → and_then a (λ r. finish r at) ≡ Err (refusal.Count at)
count-by vars clauses at ps (Ok r) s items other = count-finished vars clauses at ps r (test_of r) s.0 refl other
count-by vars clauses at ps (Err e) s items other = absurd (items-whole vars ps s.0 items s.2)

count-refused : (bytes : List ℕ) (at : ℕ) → IsCountFault bytes at → reading bytes ≡ Err (refusal.Count at)
count-refused bytes at c =
    let head = c.head in
    let ps = placed c.body [] (length head) in
    let r = so_far c.vars c.clauses [] in
    let all = items-are_pieces c.vars c.items c.few_vars c.are_items in
    let found : texts ps ≡ c.items = spaced-placed c.items c.body (length head) all c.pieces in
    let place : length (head ++ c.body) ≡ at = ap (λ t. length t) (sym c.text) ∙ sym c.place in
    ap reading c.text ∙ headed-by c.vars c.clauses head c.body (Err (refusal.Count at)) c.few_vars c.few_clauses c.is_head
    (count-by c.vars c.clauses (length (head ++ c.body)) ps (read_pieces ps r) (said_pieces ps r c.few_vars (subst ArePieces (sym found) all)) (subst (AreItems c.vars) (sym found) c.are_items) (λ cs n over e. c.other cs n over (sym found ∙ e))
    ∙ ap (λ (k : ℕ). Err (refusal.Count k)) place)

pub fault_read : (e : CnfRefusal) (bytes : List ℕ) → IsFaultOf bytes e → reading bytes ≡ Err e
fault_read (refusal.Header at) bytes h = refused-by bytes (refusal.Header at) (header-refused bytes at h)
fault_read (refusal.Literal at) bytes h = literal-refused bytes at h
fault_read (refusal.Count at) bytes h = count-refused bytes at h
fault_read refusal.NoMemory bytes h = absurd h

-- each text is a formula's or has a fault
pub some_answer : (bytes : List ℕ) → ((f : FormulaView) × IsTextOf f bytes) ⊎ ((why : CnfRefusal) × IsFaultOf bytes why)
some_answer bytes = answer_of bytes (reading bytes) (said_reading bytes)
  where
    answer_of : (bytes : List ℕ) (a : Result FormulaView CnfRefusal) → SaidReading bytes a → ((f : FormulaView) × IsTextOf f bytes) ⊎ ((why : CnfRefusal) × IsFaultOf bytes why)
    answer_of bytes (Ok f) s = inl (f, s)
    answer_of bytes (Err e) s = inr (e, s)

err_only : (a b : CnfRefusal) → ◌≡◌ {A = Result FormulaView CnfRefusal} (Err a) (Err b) → a ≡ b
err_only a b e = cc

-- a text has one fault at most
pub one_fault : (why other : CnfRefusal) (bytes : List ℕ) → IsFaultOf bytes why → IsFaultOf bytes other → why ≡ other
one_fault why other bytes a b = err_only why other (sym (fault_read why bytes a) ∙ fault_read other bytes b)

-- a formula's text has none
pub text_apart : (f : FormulaView) (why : CnfRefusal) (bytes : List ℕ) → IsTextOf f bytes → IsFaultOf bytes why → ⊥
text_apart f why bytes t h =
    let a = text_read f bytes t in
    let b = fault_read why bytes h in
    cc
