-- Comment lines and the header line of a whole text.
use Rattle.std.proofs.Common.{◌≡◌, ℕ, ◌+◌, ◌^◌, ◌<◌, ◌≤◌, false, List, [], ◌∷◌, ◌++◌, inl, inr, Ok, Err, length, drop, refl, arith, ap, sym, subst, ◌∙◌, append_assoc, append-nil, length-append}
use Rattle.std.specs.Prelude.{Result}
use Rattle.std.specs.List.{flat_map}
use Rattle.std.proofs.Math.Seq.{drop-append_seam}
use Rattle.std.proofs.lemmas.Grind.{flat_map-append}
use Rattle.dsv_cnf.specs.Dimacs.{header_text}
use Rattle.dsv_cnf.specs.Reading.{comments_end}
use Rattle.dsv_cnf.specs.Texts.{IsInLine, AreInLines, comment_line}
use Rattle.dsv_cnf.specs.declared.reader.CnfRefusal.{CnfRefusal}
use Rattle.dsv_cnf.specs.declared.reader.CnfRefusal.TheVariants as refusal
use Rattle.dsv_cnf.specs.declared.reader.Header.{Header}
use Rattle.dsv_cnf.proofs.Comments.{BeginsOther, comments_cut, after-lines, after-none, in-line}
use Rattle.dsv_cnf.proofs.HeaderLines.{most, Line, LineFault, a_line, some_line, line_text, line_outcome, line-header, line-taken}
use Rattle.dsv_cnf.proofs.HeaderOutcomes.{header_within, Refuses, IsStuck, HeaderOutcome, Fault}

-- comment lines, and then a text of the property
abbrev pub LinesThen : (List ℕ → Type 0) → List ℕ → Type 0
LinesThen L text = (cs : List (List ℕ)) × AreInLines cs × (rest : List ℕ) × (text ≡ flat_map comment_line cs ++ rest) × L rest

-- the fault is after comment lines
abbrev pub AfterLines : (List ℕ → ℕ → Type 0) → List ℕ → ℕ → Type 0
AfterLines B text k = (cs : List (List ℕ)) × AreInLines cs × (rest : List ℕ) × (text ≡ flat_map comment_line cs ++ rest) × (j : ℕ) × (k ≡ length (flat_map comment_line cs) + j) × B rest j

-- Comment lines and a header line that were read, and a body.
pub record HeadRead (few limit : ℕ) (bytes : List ℕ) (h : Header) : Type 0 where
  pub comments : List (List ℕ)
  pub lines : AreInLines comments
  pub body : List ℕ
  pub text : bytes ≡ flat_map comment_line comments ++ header_text h.vars h.clauses ++ body
  pub place : h.end ≡ length (flat_map comment_line comments ++ header_text h.vars h.clauses)
  pub few_vars : h.vars ≤ few
  pub few_clauses : h.clauses ≤ limit

abbrev pub SaidHead : ℕ → ℕ → List ℕ → Result Header CnfRefusal → Type 0
SaidHead few limit bytes (Ok h) = HeadRead few limit bytes h
SaidHead few limit bytes (Err e) = (k : ℕ) × (e ≡ refusal.Header k) × Fault (LinesThen (Line few limit)) (LinesThen (Line most most)) (AfterLines (LineFault few limit)) bytes k

-- ---- after comment lines

line_other : (v c : ℕ) (text : List ℕ) → Line v c text → BeginsOther text
line_other v c text w = subst BeginsOther (sym w.1) refl

other_front : (front : List ℕ) (b : ℕ) (bs more : List ℕ) → BeginsOther (front ++ b ∷ bs) → BeginsOther (front ++ b ∷ more)
other_front [] b bs more h = h
other_front (c ∷ cs) b bs more h = h

-- comment lines before texts that begin otherwise are the same
same_rest : (cs ds : List (List ℕ)) (y r : List ℕ) → AreInLines cs → AreInLines ds → BeginsOther y → BeginsOther r → flat_map comment_line cs ++ y ≡ flat_map comment_line ds ++ r → y ≡ r
same_rest cs ds y r h k oy or e =
    let lines = flat_map comment_line cs in
    let others = flat_map comment_line ds in
    let f : 0 + length lines ≡ 0 + length others =
    sym (after-none y (0 + length lines) oy) ∙ sym (after-lines cs y 0 h) ∙ ap (λ t. comments_end false t 0) e ∙ after-lines ds r 0 k ∙ after-none r (0 + length others) or in
    let n : length lines ≡ length others = omega (arith, f) in
    sym (drop-append_seam lines y) ∙ ap (drop (length lines)) e ∙ ap (λ k. drop k (others ++ r)) n ∙ drop-append_seam others r

lines_refuse : (v c : ℕ) (cs : List (List ℕ)) (front rest : List ℕ) → AreInLines cs → BeginsOther (front ++ rest) → Refuses (Line v c) front rest → Refuses (LinesThen (Line v c)) (flat_map comment_line cs ++ front) rest
lines_refuse v c cs front [] h o r = tt
lines_refuse v c cs front (b ∷ bs) h o r = λ m w.
    let lines = flat_map comment_line cs in
    let e : lines ++ (front ++ b ∷ m) ≡ flat_map comment_line w.0 ++ w.2 = sym (append_assoc lines front (b ∷ m)) ∙ w.3 in
    let f : front ++ b ∷ m ≡ w.2 = same_rest cs w.0 (front ++ b ∷ m) w.2 h w.1 (other_front front b bs m o) (line_other v c w.2 w.4) e in
    r m (subst (Line v c) (sym f) w.4)

stuck-after_lines : (few limit : ℕ) (cs : List (List ℕ)) (text rest : List ℕ) (j : ℕ) → AreInLines cs → text ≡ flat_map comment_line cs ++ rest → BeginsOther rest → IsStuck (Line few limit) (Line most most) rest j
    → IsStuck (LinesThen (Line few limit)) (LinesThen (Line most most)) text (length (flat_map comment_line cs) + j)
stuck-after_lines few limit cs text rest j h e o s =
    let lines = flat_map comment_line cs in
    record {
      front = lines ++ s.front;
      rest = s.rest;
      split = e ∙ ap (λ t. lines ++ t) s.split ∙ sym (append_assoc lines s.front s.rest);
      place = let p = s.place in omega (arith, p, length-append lines s.front);
      next = s.next;
      more = s.more;
      begins = (cs, h, s.front ++ s.next ∷ s.more, append_assoc lines s.front (s.next ∷ s.more), s.begins);
      refuses = lines_refuse most most cs s.front s.rest h (subst BeginsOther s.split o) s.refuses;
    }

fault-after_lines : (few limit : ℕ) (cs : List (List ℕ)) (text rest : List ℕ) (j : ℕ) → AreInLines cs → text ≡ flat_map comment_line cs ++ rest → BeginsOther rest
    → Fault (Line few limit) (Line most most) (LineFault few limit) rest j
    → Fault (LinesThen (Line few limit)) (LinesThen (Line most most)) (AfterLines (LineFault few limit)) text (length (flat_map comment_line cs) + j)
fault-after_lines few limit cs text rest j h e o (inl s) = inl (stuck-after_lines few limit cs text rest j h e o s)
fault-after_lines few limit cs text rest j h e o (inr b) = inr (cs, h, rest, e, j, refl, b)

said-after_lines : (few limit : ℕ) (cs : List (List ℕ)) (text rest : List ℕ) (o : Result Header CnfRefusal) → AreInLines cs → text ≡ flat_map comment_line cs ++ rest → BeginsOther rest
    → HeaderOutcome line_text (λ h. (h.vars ≤ few) × (h.clauses ≤ limit)) (Fault (Line few limit) (Line most most) (LineFault few limit)) rest (length (flat_map comment_line cs)) o → SaidHead few limit text o
said-after_lines few limit cs text rest (Ok h) l e o s =
    let lines = flat_map comment_line cs in
    let header = header_text h.vars h.clauses in
    let p = s.2 in
    let same : length (line_text h) ≡ length header = ap (λ t. length t) (line-header h) in
    record {
      comments = cs;
      lines = l;
      body = s.0;
      text = e ∙ ap (λ t. lines ++ t) (s.1 ∙ ap (λ t. t ++ s.0) (line-header h)) ∙ sym (append_assoc lines header s.0);
      place = omega (arith, p, same, length-append lines header);
      few_vars = s.3.0;
      few_clauses = s.3.1;
    }
said-after_lines few limit cs text rest (Err r) l e o s =
    (length (flat_map comment_line cs) + s.0, s.1, fault-after_lines few limit cs text rest s.0 l e o s.2)

-- ---- the whole text

head_other : (few limit : ℕ) (bytes : List ℕ) (cs : List (List ℕ)) (rest : List ℕ) → few < 2 ^ 60 → limit < 2 ^ 60 → AreInLines cs → bytes ≡ flat_map comment_line cs ++ rest → BeginsOther rest
    → SaidHead few limit bytes (header_within few limit bytes (comments_end false bytes 0))
head_other few limit bytes cs rest small wide l e o =
    let lines = flat_map comment_line cs in
    let end : comments_end false bytes 0 ≡ length lines = ap (λ t. comments_end false t 0) e ∙ after-lines cs rest 0 l ∙ after-none rest (0 + length lines) o ∙ omega arith in
    let after : drop (length lines) bytes ≡ rest = ap (drop (length lines)) e ∙ drop-append_seam lines rest in
    let P : Header → Type 0 = λ h. (h.vars ≤ few) × (h.clauses ≤ limit) in
    let S = Fault (Line few limit) (Line most most) (LineFault few limit) in
    let out = header_within few limit bytes (length lines) in
    let s : HeaderOutcome line_text P S rest (length lines) out = subst (λ t. HeaderOutcome line_text P S t (length lines) out) after (line_outcome few limit bytes (length lines) small wide) in
    subst (λ k. SaidHead few limit bytes (header_within few limit bytes k)) (sym end) (said-after_lines few limit cs bytes rest out l e o s)

drop-all : (xs : List ℕ) → drop (length xs) xs ≡ []
drop-all xs = ap (drop (length xs)) (sym (append-nil xs)) ∙ drop-append_seam xs []

no_header : (few limit : ℕ) (bytes : List ℕ) (at : ℕ) → drop at bytes ≡ [] → header_within few limit bytes at ≡ Err (refusal.Header at)
no_header few limit bytes at e = rw e refl

-- a comment line more at the end
lines-push : (cs : List (List ℕ)) (c : List ℕ) → AreInLines cs → IsInLine c → AreInLines (cs ++ c ∷ [])
lines-push [] c h k = (k, tt)
lines-push (d ∷ ds) c h k = (h.0, lines-push ds c h.1 k)

open_line : (few limit : ℕ) (bytes : List ℕ) (cs : List (List ℕ)) (line rest : List ℕ) → AreInLines cs → IsInLine line → bytes ≡ flat_map comment_line cs ++ rest → rest ≡ 99 ∷ line
    → IsStuck (LinesThen (Line few limit)) (LinesThen (Line most most)) bytes (length bytes)
open_line few limit bytes cs line rest l i e f =
    let lines = flat_map comment_line cs in
    let g : flat_map comment_line (cs ++ line ∷ []) ≡ lines ++ comment_line line = flat_map-append comment_line cs (line ∷ []) ∙ ap (λ t. lines ++ t) (append-nil (comment_line line)) in
    let k : bytes ++ 10 ∷ a_line ≡ flat_map comment_line (cs ++ line ∷ []) ++ a_line =
    ap (λ t. t ++ 10 ∷ a_line) (e ∙ ap (λ t. lines ++ t) f) ∙ append_assoc lines (99 ∷ line) (10 ∷ a_line)
    ∙ ap (λ t. lines ++ (99 ∷ t)) (sym (append_assoc line (10 ∷ []) a_line))
    ∙ sym (append_assoc lines (comment_line line) a_line) ∙ ap (λ t. t ++ a_line) (sym g) in
    record {
      front = bytes;
      rest = [];
      split = sym (append-nil bytes);
      place = refl;
      next = 10;
      more = a_line;
      begins = (cs ++ line ∷ [], lines-push cs line l i, a_line, k, some_line few limit);
      refuses = tt;
    }

head_open : (few limit : ℕ) (bytes : List ℕ) (cs : List (List ℕ)) (line rest : List ℕ) → AreInLines cs → IsInLine line → bytes ≡ flat_map comment_line cs ++ rest → rest ≡ 99 ∷ line
    → SaidHead few limit bytes (header_within few limit bytes (comments_end false bytes 0))
head_open few limit bytes cs line rest l i e f =
    let lines = flat_map comment_line cs in
    let g : bytes ≡ lines ++ 99 ∷ line = e ∙ ap (λ t. lines ++ t) f in
    let n : length bytes ≡ length lines + length (99 ∷ line) = ap (λ t. length t) g ∙ length-append lines (99 ∷ line) in
    let end : comments_end false bytes 0 ≡ length bytes = ap (λ t. comments_end false t 0) g ∙ after-lines cs (99 ∷ line) 0 l ∙ in-line line (0 + length lines + 1) i ∙ omega (arith, n) in
    let none : header_within few limit bytes (length bytes) ≡ Err (refusal.Header (length bytes)) = no_header few limit bytes (length bytes) (drop-all bytes) in
    subst (λ k. SaidHead few limit bytes (header_within few limit bytes k)) (sym end)
    (subst (SaidHead few limit bytes) (sym none) (length bytes, refl, inl (open_line few limit bytes cs line rest l i e f)))

pub said_head : (few limit : ℕ) (bytes : List ℕ) → few < 2 ^ 60 → limit < 2 ^ 60 → SaidHead few limit bytes (header_within few limit bytes (comments_end false bytes 0))
said_head few limit bytes small wide =
    let c = comments_cut bytes in
    elim c.ends [
      | inl o ↦ head_other few limit bytes c.comments c.rest small wide c.lines c.split o
      | inr w ↦ head_open few limit bytes c.comments w.0 c.rest c.lines w.2 c.split w.1
    ]

-- comment lines and a header line are read
pub head-taken : (few limit : ℕ) (cs : List (List ℕ)) (vars clauses : ℕ) (body : List ℕ) → few < 2 ^ 64 → limit < 2 ^ 64 → AreInLines cs → vars ≤ few → clauses ≤ limit
    → let bytes = flat_map comment_line cs ++ header_text vars clauses ++ body in
    header_within few limit bytes (comments_end false bytes 0) ≡ Ok (record { vars = vars; clauses = clauses; end = length (flat_map comment_line cs ++ header_text vars clauses) })
head-taken few limit cs vars clauses body small wide l le fits =
    let lines = flat_map comment_line cs in
    let header = header_text vars clauses in
    let bytes = lines ++ header ++ body in
    let shape : bytes ≡ lines ++ (header ++ body) = append_assoc lines header body in
    let end : comments_end false bytes 0 ≡ length lines = ap (λ t. comments_end false t 0) shape ∙ after-lines cs (header ++ body) 0 l ∙ after-none (header ++ body) (0 + length lines) refl ∙ omega arith in
    let after : drop (length lines) bytes ≡ header ++ body = ap (drop (length lines)) shape ∙ drop-append_seam lines (header ++ body) in
    let n : length lines + length header ≡ length (lines ++ header) = omega (arith, length-append lines header) in
    ap (header_within few limit bytes) end ∙ line-taken few limit bytes (length lines) vars clauses body small wide le fits after
    ∙ ap (λ (k : ℕ). Ok (record { vars = vars; clauses = clauses; end = k })) n
