-- The pieces of a text, and the clauses that they are.
use Rattle.std.proofs.Common.{◌≡◌, ℕ, ◌+◌, ◌^◌, ◌<◌, ◌≤◌, Bool, true, false, List, [], ◌∷◌, ◌++◌, ◌⊎◌, inl, inr, Ok, Err, cond, length, map, refl, arith, ap, sym, subst, ◌∙◌, append_assoc, append-nil, length-append, nat_lt}
use Rattle.std.specs.Prelude.{Result}
use Rattle.std.specs.List.{flat_map}
use Rattle.std.proofs.lemmas.Bool.Decides.{nat_tests}
use Rattle.std.proofs.lemmas.Grind.{flat_map-append}
use Rattle.std.proofs.lemmas.List.Elements.{All-head, All-tail, All-nil}
use Rattle.dsv_text.specs.Stages.{and_then}
use Rattle.dsv_cnf.specs.Literal.{Literal}
use Rattle.dsv_cnf.specs.Formula.{IsOver, AreOver}
use Rattle.dsv_cnf.specs.Reading.{part_of, after_part, end_clause}
use Rattle.dsv_cnf.specs.ReadingView.{ReadingView}
use Rattle.dsv_cnf.specs.TextFaults.{IsItem, AreItems, IsPiece}
use Rattle.dsv_cnf.specs.Texts.{literal_piece, end_piece, clause_pieces}
use Rattle.dsv_cnf.specs.declared.reader.CnfRefusal.{CnfRefusal}
use Rattle.dsv_cnf.specs.declared.reader.CnfRefusal.TheVariants as refusal
use Rattle.dsv_cnf.specs.declared.reader.Piece.{Piece}
use Rattle.dsv_cnf.specs.declared.reader.Piece.TheVariants as part
use Rattle.dsv_cnf.proofs.ClauseLemmas.{IsOver-push}
use Rattle.dsv_cnf.proofs.ListLemmas.{first_same, rest_same}
use Rattle.dsv_cnf.proofs.PartTexts.{SaidPart, said_part, part-literal, part-end}
use Rattle.dsv_cnf.proofs.Spacing.{Placed, texts, read_pieces, ArePieces}

-- ---- pieces that are read

abbrev pub with_open : ReadingView → List Literal → ReadingView
with_open r o = record r { open_clause = o }

-- so many clauses are read, and none is open
abbrev pub so_far : ℕ → ℕ → List (List Literal) → ReadingView
so_far vars wanted done = record { vars = vars; wanted = wanted; clauses = done; open_clause = []; over = false }

-- the pieces of what was read
abbrev pub written : ReadingView → List (List ℕ)
written r = flat_map clause_pieces r.clauses ++ map literal_piece r.open_clause

-- These pieces lead from the one state to the other.
pub record Leads (r : ReadingView) (ps : List (List ℕ)) (s : ReadingView) : Type 0 where
  pub same_vars : s.vars ≡ r.vars
  pub same_wanted : s.wanted ≡ r.wanted
  pub kept : s.over ≡ false → r.over ≡ false
  pub more : s.over ≡ false → written s ≡ written r ++ ps
  pub over_open : IsOver r.vars r.open_clause → IsOver r.vars s.open_clause
  pub over_all : IsOver r.vars r.open_clause → AreOver r.vars r.clauses → AreOver r.vars s.clauses

over-at : (a b : ℕ) (c : List Literal) → a ≡ b → IsOver a c → IsOver b c
over-at a b c e h = subst (λ n. IsOver n c) e h

all_over-at : (a b : ℕ) (cs : List (List Literal)) → a ≡ b → AreOver a cs → AreOver b cs
all_over-at a b cs e h = subst (λ n. AreOver n cs) e h

leads_none : (r : ReadingView) → Leads r [] r
leads_none r = record {
  same_vars = refl;
  same_wanted = refl;
  kept = λ e. e;
  more = λ e. sym (append-nil (written r));
  over_open = λ h. h;
  over_all = λ h k. k;
}

leads_on : (r : ReadingView) (ps : List (List ℕ)) (s : ReadingView) (qs : List (List ℕ)) (t : ReadingView) → Leads r ps s → Leads s qs t → Leads r (ps ++ qs) t
leads_on r ps s qs t a b = record {
  same_vars = b.same_vars ∙ a.same_vars;
  same_wanted = b.same_wanted ∙ a.same_wanted;
  kept = λ e. a.kept (b.kept e);
  more = λ e. b.more e ∙ ap (λ w. w ++ qs) (a.more (b.kept e)) ∙ append_assoc (written r) ps qs;
  over_open = λ h. over-at s.vars r.vars t.open_clause a.same_vars (b.over_open (over-at r.vars s.vars s.open_clause (sym a.same_vars) (a.over_open h)));
  over_all = λ h k. all_over-at s.vars r.vars t.clauses a.same_vars
      (b.over_all (over-at r.vars s.vars s.open_clause (sym a.same_vars) (a.over_open h)) (all_over-at r.vars s.vars s.clauses (sym a.same_vars) (a.over_all h k)));
}

leads_literal : (r : ReadingView) (l : Literal) (text : List ℕ) → text ≡ literal_piece l → l.var < r.vars → Leads r (text ∷ []) (with_open r (r.open_clause ++ l ∷ []))
leads_literal r l text e lt = record {
  same_vars = refl;
  same_wanted = refl;
  kept = λ h. h;
  more = λ h.
      let f : map literal_piece (r.open_clause ++ l ∷ []) ≡ map literal_piece r.open_clause ++ literal_piece l ∷ [] = map-push r.open_clause l in
      ap (λ w. flat_map clause_pieces r.clauses ++ w) f
      ∙ sym (append_assoc (flat_map clause_pieces r.clauses) (map literal_piece r.open_clause) (literal_piece l ∷ []))
      ∙ ap (λ t. written r ++ t ∷ []) (sym e);
  over_open = λ h. IsOver-push r.vars r.open_clause l h lt;
  over_all = λ h k. k;
}
  where
    map-push : (c : List Literal) (m : Literal) → map literal_piece (c ++ m ∷ []) ≡ map literal_piece c ++ literal_piece m ∷ []
    map-push [] m = refl
    map-push (k ∷ ks) m = ap (λ w. literal_piece k ∷ w) (map-push ks m)

over-push : (vars : ℕ) (cs : List (List Literal)) (c : List Literal) → AreOver vars cs → IsOver vars c → AreOver vars (cs ++ c ∷ [])
over-push vars [] c h k = (k, tt)
over-push vars (d ∷ ds) c h k = (h.0, over-push vars ds c h.1 k)

leads_end : (r : ReadingView) (text : List ℕ) (x : Bool) → text ≡ end_piece
    → Leads r (text ∷ []) (cond x (record r { clauses = r.clauses ++ r.open_clause ∷ []; open_clause = [] }) (record r { over = true; open_clause = [] }))
leads_end r text true e = record {
  same_vars = refl;
  same_wanted = refl;
  kept = λ h. h;
  more = λ h.
      let c = clause_pieces r.open_clause in
      append-nil (flat_map clause_pieces (r.clauses ++ r.open_clause ∷ []))
      ∙ flat_map-append clause_pieces r.clauses (r.open_clause ∷ [])
      ∙ ap (λ w. flat_map clause_pieces r.clauses ++ w) (append-nil c)
      ∙ sym (append_assoc (flat_map clause_pieces r.clauses) (map literal_piece r.open_clause) (end_piece ∷ []))
      ∙ ap (λ t. written r ++ t ∷ []) (sym e);
  over_open = λ h. All-nil (λ (m : Literal). m.var < r.vars);
  over_all = λ h k. over-push r.vars r.clauses r.open_clause k h;
}
leads_end r text false e = record {
  same_vars = refl;
  same_wanted = refl;
  kept = λ h. absurd (cc);
  more = λ h. absurd (cc);
  over_open = λ h. All-nil (λ (m : Literal). m.var < r.vars);
  over_all = λ h k. k;
}

-- All pieces before one are literals or ends, and that one is neither.
pub record BreaksAt (vars : ℕ) (ps : List Placed) (at : ℕ) : Type 0 where
  pub before : List Placed
  pub piece : Placed
  pub after : List Placed
  pub split : ps ≡ before ++ piece ∷ after
  pub items : AreItems vars (texts before)
  pub other : IsItem vars piece.text → ⊥
  pub place : piece.at ≡ at

-- what pieces are read to
abbrev pub SaidPieces : ReadingView → List Placed → Result ReadingView CnfRefusal → Type 0
SaidPieces r ps (Ok s) = Leads r (texts ps) s × AreItems r.vars (texts ps)
SaidPieces r ps (Err e) = (at : ℕ) × (e ≡ refusal.Literal at) × BreaksAt r.vars ps at

items-at : (a b : ℕ) (ps : List (List ℕ)) → a ≡ b → AreItems a ps → AreItems b ps
items-at a b ps e h = subst (λ n. AreItems n ps) e h

breaks-later : (r s : ReadingView) (p : Placed) (ps : List Placed) (at : ℕ) → s.vars ≡ r.vars → IsItem r.vars p.text → BreaksAt s.vars ps at → BreaksAt r.vars (p ∷ ps) at
breaks-later r s p ps at e i b = record {
  before = p ∷ b.before;
  piece = b.piece;
  after = b.after;
  split = ap (λ t. p ∷ t) b.split;
  items = (i, items-at s.vars r.vars (texts b.before) e b.items);
  other = λ j. b.other (subst (λ n. IsItem n b.piece.text) (sym e) j);
  place = b.place;
}

said_later : (r s : ReadingView) (p : Placed) (ps : List Placed) (a : Result ReadingView CnfRefusal) → Leads r (p.text ∷ []) s → IsItem r.vars p.text → SaidPieces s ps a → SaidPieces r (p ∷ ps) a
said_later r s p ps (Ok t) l i h = (leads_on r (p.text ∷ []) s (texts ps) t l h.0, (i, items-at s.vars r.vars (texts ps) l.same_vars h.1))
said_later r s p ps (Err e) l i h = (h.0, h.1, breaks-later r s p ps h.0 l.same_vars i h.2)

other-wrong : (vars : ℕ) (text : List ℕ) → vars ≤ 2 ^ 31 → part_of vars text ≡ part.Wrong → IsItem vars text → ⊥
other-wrong vars text few e (inl h) = let f : part_of vars text ≡ part.End = ap (part_of vars) h ∙ part-end vars in cc
other-wrong vars text few e (inr h) = let f : part_of vars text ≡ part.Is h.0 = ap (part_of vars) h.1 ∙ part-literal vars h.0 h.2 few in cc

said_first : (r : ReadingView) (p : Placed) (ps : List Placed) (x : Piece) → r.vars ≤ 2 ^ 31 → IsPiece p.text → part_of r.vars p.text ≡ x → SaidPart r.vars p.text x
    → ((s : ReadingView) → s.vars ≡ r.vars → SaidPieces s ps (read_pieces ps s)) → SaidPieces r (p ∷ ps) (and_then (after_part r x p.at) (read_pieces ps))
said_first r p ps part.Nothing few piece e h ih = let some = piece.some in absurd (omega (arith, ap (λ t. length t) h, some))
said_first r p ps part.End few piece e h ih =
    let l : Leads r (p.text ∷ []) (end_clause r) = leads_end r p.text (nat_lt (length r.clauses) r.wanted) h in
    said_later r (end_clause r) p ps (read_pieces ps (end_clause r)) l (inl h) (ih (end_clause r) l.same_vars)
said_first r p ps (part.Is l) few piece e h ih =
    let s = with_open r (r.open_clause ++ l ∷ []) in
    said_later r s p ps (read_pieces ps s) (leads_literal r l p.text h.0 h.1) (inr (l, h.0, h.1)) (ih s refl)
said_first r p ps part.Wrong few piece e h ih = (
  p.at,
  refl,
  record {
    before = [];
    piece = p;
    after = ps;
    split = refl;
    items = tt;
    other = other-wrong r.vars p.text few e;
    place = refl;
  },
)

pub said_pieces : (ps : List Placed) (r : ReadingView) → r.vars ≤ 2 ^ 31 → ArePieces (texts ps) → SaidPieces r ps (read_pieces ps r)
said_pieces [] r few h = (leads_none r, tt)
said_pieces (p ∷ ps) r few h =
    said_first r p ps (part_of r.vars p.text) few h.0 refl (said_part r.vars p.text (omega (arith, few))) (λ s e. said_pieces ps s (omega (arith, e, few)) h.1)

-- ---- the pieces of clauses are read

-- What is left of the pieces, and how it is read.
record Left (more : List (List ℕ)) (r : ReadingView) (o : List Literal) (a : Result ReadingView CnfRefusal) : Type 0 where
  left : List Placed
  are : texts left ≡ more
  same : a ≡ read_pieces left (with_open r o)

read-item : (r : ReadingView) (p : Placed) (ps : List Placed) (x : Piece) → part_of r.vars p.text ≡ x → read_pieces (p ∷ ps) r ≡ and_then (after_part r x p.at) (read_pieces ps)
read-item r p ps x e = ap (λ y. and_then (after_part r y p.at) (read_pieces ps)) e

read-literals : (c o : List Literal) (more : List (List ℕ)) (ps : List Placed) (r : ReadingView) → IsOver r.vars c → r.vars ≤ 2 ^ 31 → texts ps ≡ map literal_piece c ++ more
    → Left more r (o ++ c) (read_pieces ps (with_open r o))
read-literals [] o more ps r over few e = record { left = ps; are = e; same = ap (λ (w : List Literal). read_pieces ps (with_open r w)) (sym (append-nil o)) }
read-literals (l ∷ ls) o more [] r over few e = absurd (cc)
read-literals (l ∷ ls) o more (p ∷ ps) r over few e =
    let P : Literal → Type 0 = λ m. m.var < r.vars in
    let f : p.text ≡ literal_piece l = first_same p.text (literal_piece l) (texts ps) (map literal_piece ls ++ more) e in
    let g : texts ps ≡ map literal_piece ls ++ more = rest_same p.text (literal_piece l) (texts ps) (map literal_piece ls ++ more) e in
    let is : part_of r.vars p.text ≡ part.Is l = ap (part_of r.vars) f ∙ part-literal r.vars l (All-head P l ls over) few in
    let h = read-literals ls (o ++ l ∷ []) more ps r (All-tail P l ls over) few g in
    record {
      left = h.left;
      are = h.are;
      same = read-item (with_open r o) p ps (part.Is l) is ∙ h.same ∙ ap (λ (w : List Literal). read_pieces h.left (with_open r w)) (append_assoc o (l ∷ []) ls);
    }

pub read-clauses : (vars wanted : ℕ) (cs done : List (List Literal)) (ps : List Placed) → AreOver vars cs → vars ≤ 2 ^ 31 → length done + length cs ≤ wanted → texts ps ≡ flat_map clause_pieces cs
    → read_pieces ps (so_far vars wanted done) ≡ Ok (so_far vars wanted (done ++ cs))
read-clauses vars wanted [] done [] over few room e = ap (λ d. Ok (so_far vars wanted d)) (sym (append-nil done))
read-clauses vars wanted [] done (p ∷ ps) over few room e = absurd (cc)
read-clauses vars wanted (c ∷ cs) done ps over few room e =
    let r = so_far vars wanted done in
    let more = flat_map clause_pieces cs in
    let h = read-literals c [] (end_piece ∷ more) ps r over.0 few (e ∙ append_assoc (map literal_piece c) (end_piece ∷ []) more) in
    h.same ∙ read-ended vars wanted c cs done h.left over few room h.are (λ qs f. read-clauses vars wanted cs (done ++ c ∷ []) qs over.1 few (omega (arith, room, length-append done (c ∷ []))) f)
  where
    read-ended : (vars wanted : ℕ) (c : List Literal) (cs done : List (List Literal)) (ps : List Placed) → AreOver vars (c ∷ cs) → vars ≤ 2 ^ 31 → length done + length (c ∷ cs) ≤ wanted
        → texts ps ≡ end_piece ∷ flat_map clause_pieces cs
        → ((qs : List Placed) → texts qs ≡ flat_map clause_pieces cs → read_pieces qs (so_far vars wanted (done ++ c ∷ [])) ≡ Ok (so_far vars wanted (done ++ c ∷ [] ++ cs)))
        → read_pieces ps (with_open (so_far vars wanted done) c) ≡ Ok (so_far vars wanted (done ++ c ∷ cs))
    read-ended vars wanted c cs done [] over few room e ih = absurd (cc)
    read-ended vars wanted c cs done (p ∷ ps) over few room e ih =
        let r = with_open (so_far vars wanted done) c in
        let f : p.text ≡ end_piece = first_same p.text end_piece (texts ps) (flat_map clause_pieces cs) e in
        let g : texts ps ≡ flat_map clause_pieces cs = rest_same p.text end_piece (texts ps) (flat_map clause_pieces cs) e in
        let is : part_of vars p.text ≡ part.End = ap (part_of vars) f ∙ part-end vars in
        let fits : nat_lt (length done) wanted ≡ true = grind (arith, nat_tests, room) in
        let ended : end_clause r ≡ so_far vars wanted (done ++ c ∷ []) = rw fits refl in
        read-item r p ps part.End is ∙ ap (read_pieces ps) ended ∙ ih ps g ∙ ap (λ d. Ok (so_far vars wanted d)) (append_assoc done (c ∷ []) cs)

-- ---- a piece that is no item is refused

break-part : (r : ReadingView) (q : Placed) (more : List Placed) (x : Piece) → part_of r.vars q.text ≡ x → SaidPart r.vars q.text x → IsPiece q.text → (IsItem r.vars q.text → ⊥) → read_pieces (q ∷ more) r ≡ Err (refusal.Literal q.at)
break-part r q more part.Nothing e s p other = let some = p.some in absurd (omega (arith, ap (λ t. length t) s, some))
break-part r q more part.End e s p other = absurd (other (inl s))
break-part r q more (part.Is l) e s p other = absurd (other (inr (l, s.0, s.1)))
break-part r q more part.Wrong e s p other = read-item r q more part.Wrong e

item-part : (vars : ℕ) (p : Placed) → vars ≤ 2 ^ 31 → IsItem vars p.text → (part_of vars p.text ≡ part.End) ⊎ ((l : Literal) × (part_of vars p.text ≡ part.Is l))
item-part vars p few (inl e) = inl (ap (part_of vars) e ∙ part-end vars)
item-part vars p few (inr w) = inr (w.0, ap (part_of vars) w.1 ∙ part-literal vars w.0 w.2 few)

pub read-breaks : (ps : List Placed) (q : Placed) (more : List Placed) (r : ReadingView) → r.vars ≤ 2 ^ 31 → AreItems r.vars (texts ps) → IsPiece q.text → (IsItem r.vars q.text → ⊥)
    → read_pieces (ps ++ q ∷ more) r ≡ Err (refusal.Literal q.at)
read-breaks [] q more r few items p other = break-part r q more (part_of r.vars q.text) refl (said_part r.vars q.text (omega (arith, few))) p other
read-breaks (o ∷ os) q more r few items p other =
    let rest = os ++ q ∷ more in
    let later : (s : ReadingView) → s.vars ≡ r.vars → read_pieces rest s ≡ Err (refusal.Literal q.at) =
    λ s e. read-breaks os q more s (omega (arith, e, few)) (items-at r.vars s.vars (texts os) (sym e) items.1) p (λ i. other (subst (λ n. IsItem n q.text) e i)) in
    elim (item-part r.vars o few items.0) [
      | inl e ↦
          let l = leads_end r end_piece (nat_lt (length r.clauses) r.wanted) refl in
          read-item r o rest part.End e ∙ later (end_clause r) l.same_vars
      | inr w ↦ read-item r o rest (part.Is w.0) w.1 ∙ later (with_open r (r.open_clause ++ w.0 ∷ [])) refl
    ]

item-between : (vars : ℕ) (before : List Placed) (p : Placed) (after : List Placed) → AreItems vars (texts (before ++ p ∷ after)) → IsItem vars p.text
item-between vars [] p after h = h.0
item-between vars (q ∷ qs) p after h = item-between vars qs p after h.1

-- items alone don't break
pub items-whole : (vars : ℕ) (ps : List Placed) (at : ℕ) → AreItems vars (texts ps) → BreaksAt vars ps at → ⊥
items-whole vars ps at h b = b.other (item-between vars b.before b.piece b.after (subst (λ qs. AreItems vars (texts qs)) b.split h))
