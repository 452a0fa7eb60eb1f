-- The faults of a text before its body.
use Rattle.std.proofs.Common.{◌≡◌, ℕ, ◌+◌, ◌-◌, ◌*◌, ◌^◌, ◌<◌, ◌≤◌, ◌==◌, true, false, List, [], ◌∷◌, ◌++◌, ◌⊎◌, inl, inr, Ok, Err, length, get_or, drop, codes, decimal, refl, arith, ap, sym, ◌∙◌, append_assoc, append-nil, length-append, nat_lt}
use Rattle.std.specs.Prelude.{Result}
use Rattle.std.specs.List.{flat_map}
use Rattle.std.proofs.Math.Seq.{drop-append_seam}
use Rattle.std.proofs.lemmas.Bool.Decides.{nat_tests}
use Rattle.std.proofs.lemmas.Fmt.{decimal_nonempty, first_decimal}
use Rattle.dsv_text.specs.Bytes.{is_digit}
use Rattle.dsv_cnf.specs.Dimacs.{header_text}
use Rattle.dsv_cnf.specs.Reading.{comments_end, digits_end, number_end, word_end}
use Rattle.dsv_cnf.specs.TextFaults.{IsHead, GoesOn, BreaksOff, IsBroken, IsBeforeVars, IsBeforeClauses, IsOverLimit, IsHeaderFault}
use Rattle.dsv_cnf.specs.Texts.{AreInLines, comment_line}
use Rattle.dsv_cnf.specs.declared.reader.CnfRefusal.{CnfRefusal}
use Rattle.dsv_cnf.specs.declared.reader.CnfRefusal.TheVariants as refusal
use Rattle.dsv_cnf.specs.declared.reader.Header.{Header}
use Rattle.dsv_cnf.proofs.Comments.{after-lines, after-none}
use Rattle.dsv_cnf.proofs.Digits.{number-starts, AreDigits, value_after, Spells, spells-decimal, digit-is}
use Rattle.dsv_cnf.proofs.HeaderLines.{most, Line, LineFault, header-shape}
use Rattle.dsv_cnf.proofs.HeaderOutcomes.{header_within, Refuses, IsStuck, Fault}
use Rattle.dsv_cnf.proofs.HeaderSteps.{word-taken, number-taken}
use Rattle.dsv_cnf.proofs.Heads.{LinesThen, AfterLines}
use Rattle.dsv_cnf.proofs.ListLemmas.{drop-more}

-- ---- heads and the texts of the steps

-- A head whose numbers are at most these.
pub record IsHeadWithin (few limit : ℕ) (text : List ℕ) : Type 0 where
  pub vars : ℕ
  pub clauses : ℕ
  pub head : IsHead vars clauses text
  pub few_vars : vars ≤ few
  pub few_clauses : clauses ≤ limit

pub lines-head : (few limit : ℕ) (text : List ℕ) → LinesThen (Line few limit) text → IsHeadWithin few limit text
lines-head few limit text w =
    let lines = flat_map comment_line w.0 in
    let l = w.4 in
    let v = l.2 in
    let s = v.4 in
    let c = s.2 in
    let e = c.4 in
    let word : w.2 ≡ codes "p cnf " ++ (decimal v.0 ++ (codes " " ++ (decimal c.0 ++ (codes "\n" ++ [])))) =
    l.1 ∙ ap (λ t. codes "p cnf " ++ t) (v.3 ∙ ap (λ t. decimal v.0 ++ t) (s.1 ∙ ap (λ t. codes " " ++ t) (c.3 ∙ ap (λ t. decimal c.0 ++ t) (e.1 ∙ ap (λ t. codes "\n" ++ t) e.2)))) in
    let header : w.2 ≡ header_text v.0 c.0 = word ∙ sym (header-shape v.0 c.0 []) ∙ append-nil (header_text v.0 c.0) in
    record {
      vars = v.0;
      clauses = c.0;
      head = record { comments = w.0; lines = w.1; text_is = w.3 ∙ ap (λ t. lines ++ t) header };
      few_vars = v.1;
      few_clauses = c.1;
    }

pub head-lines : (few limit : ℕ) (text : List ℕ) → IsHeadWithin few limit text → LinesThen (Line few limit) text
head-lines few limit text h =
    let v = h.vars in
    let c = h.clauses in
    let header = header_text v c in
    let e : header ≡ codes "p cnf " ++ (decimal v ++ (codes " " ++ (decimal c ++ codes "\n"))) = sym (append-nil header) ∙ header-shape v c [] in (
      h.head.comments,
      h.head.lines,
      header,
      h.head.text_is,
      (
        decimal v ++ (codes " " ++ (decimal c ++ codes "\n")),
        e,
        (v, h.few_vars, codes " " ++ (decimal c ++ codes "\n"), refl, (decimal c ++ codes "\n", refl, (c, h.few_clauses, codes "\n", refl, ([], refl, refl)))),
      ),
    )

pub goes_on : (few limit : ℕ) (front more : List ℕ) (b : ℕ) → IsHeadWithin few limit (front ++ b ∷ more) → GoesOn few limit front b
goes_on few limit front more b h = record { more = more; vars = h.vars; clauses = h.clauses; head = h.head; few_vars = h.few_vars; few_clauses = h.few_clauses }

pub head_on : (few limit : ℕ) (front : List ℕ) (b : ℕ) (g : GoesOn few limit front b) → IsHeadWithin few limit (front ++ b ∷ g.more)
head_on few limit front b g = record { vars = g.vars; clauses = g.clauses; head = g.head; few_vars = g.few_vars; few_clauses = g.few_clauses }

-- ---- a fault that is found

breaks_off : (front rest : List ℕ) → Refuses (LinesThen (Line most most)) front rest → BreaksOff front rest
breaks_off front [] h = tt
breaks_off front (b ∷ bs) h = λ g. h g.more (head-lines most most (front ++ b ∷ g.more) (head_on most most front b g))

stuck-broken : (bytes : List ℕ) (k : ℕ) → IsStuck (LinesThen (Line (2 ^ 31) (2 ^ 32 - 1))) (LinesThen (Line most most)) bytes k → IsBroken bytes k
stuck-broken bytes k s = record {
  front = s.front;
  next = s.next;
  begins = goes_on (2 ^ 31) (2 ^ 32 - 1) s.front s.more s.next (lines-head (2 ^ 31) (2 ^ 32 - 1) (s.front ++ s.next ∷ s.more) s.begins);
  rest = s.rest;
  breaks = breaks_off s.front s.rest s.refuses;
  split = s.split;
  place = s.place;
}

fault-over : (bytes : List ℕ) (k : ℕ) → AfterLines (LineFault (2 ^ 31) (2 ^ 32 - 1)) bytes k → IsOverLimit (2 ^ 31) IsBeforeVars bytes k ⊎ IsOverLimit (2 ^ 32 - 1) IsBeforeClauses bytes k
fault-over bytes k w =
    let lines = flat_map comment_line w.0 in
    let word = w.6 in
    let after = w.5 in
    let later = word.3 in
    elim word.4 [
      | inl t ↦
          let small = t.1.small in
          let z = t.0 in
          inl (record {
            front = lines ++ codes "p cnf ";
            before = record { comments = w.0; lines = w.1; text_is = refl };
            number = t.1.number;
            over = t.1.over;
            small = omega (arith, small);
            rest = t.1.rest;
            split = w.3 ∙ ap (λ x. lines ++ x) (word.1 ∙ ap (λ x. codes "p cnf " ++ x) t.1.split) ∙ simp append_assoc;
            place = omega (arith, after, later, z, length-append lines (codes "p cnf "));
          })
      | inr n ↦
          let space = n.6 in
          let last = n.5 in
          let final = space.3 in
          let front = lines ++ codes "p cnf " ++ decimal n.0 ++ codes " " in
          elim space.4 [
            | inl t ↦
                let small = t.1.small in
                let z = t.0 in
                let len : length front ≡ length lines + 6 + length (decimal n.0) + 1 = length-front lines (decimal n.0) in
                inr (record {
                  front = front;
                  before = record { comments = w.0; lines = w.1; vars = n.0; few_vars = n.1; text_is = refl };
                  number = t.1.number;
                  over = t.1.over;
                  small = omega (arith, small);
                  rest = t.1.rest;
                  split = w.3 ∙ ap (λ x. lines ++ x) (word.1 ∙ ap (λ x. codes "p cnf " ++ x) (n.3 ∙ ap (λ x. decimal n.0 ++ x) (space.1 ∙ ap (λ x. codes " " ++ x) t.1.split))) ∙ simp append_assoc;
                  place = omega (arith, after, later, last, final, z, len);
                })
            | inr m ↦ absurd (m.6.4)
          ]
    ]
  where
    length-front : (lines v : List ℕ) → length (lines ++ codes "p cnf " ++ v ++ codes " ") ≡ length lines + 6 + length v + 1
    length-front lines v = grind (arith, length-append)

pub header-fault : (bytes : List ℕ) (k : ℕ) → Fault (LinesThen (Line (2 ^ 31) (2 ^ 32 - 1))) (LinesThen (Line most most)) (AfterLines (LineFault (2 ^ 31) (2 ^ 32 - 1))) bytes k → IsHeaderFault bytes k
header-fault bytes k (inl s) = inl (stuck-broken bytes k s)
header-fault bytes k (inr b) = inr (fault-over bytes k b)

-- ---- a number over the limit is refused

digits-over : (ds rest : List ℕ) (limit start value at : ℕ) → AreDigits ds → value ≤ limit → limit < value_after value ds → digits_end limit start value (ds ++ rest) at ≡ Err (refusal.Header start)
digits-over [] rest limit start value at h le over = absurd (omega (arith, le, over))
digits-over (d ∷ ds) rest limit start value at h le over =
    let next = 10 * value + (d - 48) in
    let digit : is_digit d ≡ true = digit-is d h.0 h.1 in
    elim (nat_lt limit next) as (λ x. nat_lt limit next ≡ x → digits_end limit start value (d ∷ ds ++ rest) at ≡ Err (refusal.Header start)) [
      | true ↦ λ e. rw (digit, e) refl
      | false ↦ λ e. let fits : next ≤ limit = grind (arith, nat_tests, e) in rw (digit, e) (digits-over ds rest limit start next (at + 1) h.2 fits over)
    ] refl

spelled-over : (ds rest : List ℕ) (limit n at : ℕ) → Spells n ds → 0 < length ds → 48 < get_or ds 0 0 → limit < n → number_end limit (ds ++ rest) at ≡ Err (refusal.Header at)
spelled-over [] rest limit n at w some first over = absurd (omega (arith, some))
spelled-over (d ∷ ds) rest limit n at w some first over =
    let other : (d == 48) ≡ false = grind (arith, nat_tests, first) in
    let digit : is_digit d ≡ true = digit-is d w.digits.0 w.digits.1 in
    let v = w.value in
    let go : digits_end limit at 0 (d ∷ ds ++ rest) at ≡ Err (refusal.Header at) = digits-over (d ∷ ds) rest limit at 0 at w.digits (omega arith) (omega (arith, v, over)) in
    number-starts limit d (ds ++ rest) at (is_digit d) (d == 48) digit other ∙ go

number-over : (limit n : ℕ) (rest : List ℕ) (at : ℕ) → limit < n → n < 2 ^ 64 → number_end limit (decimal n ++ rest) at ≡ Err (refusal.Header at)
number-over limit n rest at over small = spelled-over (decimal n) rest limit n at (spells-decimal n small) (decimal_nonempty n small) (first_decimal n (omega (arith, over)) small) over

vars-refused : (few limit : ℕ) (bytes : List ℕ) (at v k : ℕ) → word_end (codes "p cnf ") (drop at bytes) at ≡ Ok v → number_end few (drop v bytes) v ≡ Err (refusal.Header k) → header_within few limit bytes at ≡ Err (refusal.Header k)
vars-refused few limit bytes at v k p q = rw p (rw q refl)

clauses-refused : (few limit : ℕ) (bytes : List ℕ) (at v vars n c k : ℕ) → word_end (codes "p cnf ") (drop at bytes) at ≡ Ok v → number_end few (drop v bytes) v ≡ Ok (record { value = vars; end = n })
    → word_end (codes " ") (drop n bytes) n ≡ Ok c → number_end limit (drop c bytes) c ≡ Err (refusal.Header k) → header_within few limit bytes at ≡ Err (refusal.Header k)
clauses-refused few limit bytes at v vars n c k p q r s = rw p (rw q (rw r (rw s refl)))

comments-end : (cs : List (List ℕ)) (rest : List ℕ) → AreInLines cs → comments_end false (flat_map comment_line cs ++ (codes "p cnf " ++ rest)) 0 ≡ length (flat_map comment_line cs)
comments-end cs rest l = after-lines cs (codes "p cnf " ++ rest) 0 l ∙ after-none (codes "p cnf " ++ rest) (0 + length (flat_map comment_line cs)) refl ∙ omega arith

abbrev head_of : List ℕ → Result Header CnfRefusal
head_of bytes = header_within (2 ^ 31) (2 ^ 32 - 1) bytes (comments_end false bytes 0)

pub vars-over : (bytes : List ℕ) (at : ℕ) → IsOverLimit (2 ^ 31) IsBeforeVars bytes at → header_within (2 ^ 31) (2 ^ 32 - 1) bytes (comments_end false bytes 0) ≡ Err (refusal.Header at)
vars-over bytes at o =
    let cs = o.before.comments in
    let lines = flat_map comment_line cs in
    let r1 : List ℕ = decimal o.number ++ o.rest in
    let whole : List ℕ = lines ++ (codes "p cnf " ++ r1) in
    let shape : bytes ≡ whole = o.split ∙ ap (λ t. t ++ decimal o.number ++ o.rest) o.before.text_is ∙ simp append_assoc in
    let at0 = length lines in
    let a0 : drop at0 whole ≡ codes "p cnf " ++ r1 = drop-append_seam lines (codes "p cnf " ++ r1) in
    let a1 : drop (at0 + 6) whole ≡ r1 = drop-more whole (codes "p cnf ") r1 at0 a0 in
    let place : at0 + 6 ≡ at = let p = o.place in let e = ap (λ t. length t) o.before.text_is in omega (arith, p, e, length-append lines (codes "p cnf ")) in
    ap head_of shape ∙ ap (header_within (2 ^ 31) (2 ^ 32 - 1) whole) (comments-end cs r1 o.before.lines)
    ∙ vars-refused (2 ^ 31) (2 ^ 32 - 1) whole at0 (at0 + 6) (at0 + 6)
    (ap (λ t. word_end (codes "p cnf ") t at0) a0 ∙ word-taken (codes "p cnf ") r1 at0)
    (ap (λ t. number_end (2 ^ 31) t (at0 + 6)) a1 ∙ number-over (2 ^ 31) o.number o.rest (at0 + 6) o.over o.small)
    ∙ ap (λ (k : ℕ). Err (refusal.Header k)) place

pub clauses-over : (bytes : List ℕ) (at : ℕ) → IsOverLimit (2 ^ 32 - 1) IsBeforeClauses bytes at → header_within (2 ^ 31) (2 ^ 32 - 1) bytes (comments_end false bytes 0) ≡ Err (refusal.Header at)
clauses-over bytes at o =
    let cs = o.before.comments in
    let n = o.before.vars in
    let lines = flat_map comment_line cs in
    let r3 : List ℕ = decimal o.number ++ o.rest in
    let r2 : List ℕ = codes " " ++ r3 in
    let r1 : List ℕ = decimal n ++ r2 in
    let whole : List ℕ = lines ++ (codes "p cnf " ++ r1) in
    let shape : bytes ≡ whole = o.split ∙ ap (λ t. t ++ decimal o.number ++ o.rest) o.before.text_is ∙ simp append_assoc in
    let at0 = length lines in
    let at1 = at0 + 6 in
    let at2 = at1 + length (decimal n) in
    let a0 : drop at0 whole ≡ codes "p cnf " ++ r1 = drop-append_seam lines (codes "p cnf " ++ r1) in
    let a1 : drop at1 whole ≡ r1 = drop-more whole (codes "p cnf ") r1 at0 a0 in
    let a2 : drop at2 whole ≡ r2 = drop-more whole (decimal n) r2 at1 a1 in
    let a3 : drop (at2 + 1) whole ≡ r3 = drop-more whole (codes " ") r3 at2 a2 in
    let place : at2 + 1 ≡ at = let p = o.place in let e = ap (λ t. length t) o.before.text_is in omega (arith, p, e, length-front lines (decimal n)) in
    ap head_of shape ∙ ap (header_within (2 ^ 31) (2 ^ 32 - 1) whole) (comments-end cs r1 o.before.lines)
    ∙ clauses-refused (2 ^ 31) (2 ^ 32 - 1) whole at0 at1 n at2 (at2 + 1) (at2 + 1)
    (ap (λ t. word_end (codes "p cnf ") t at0) a0 ∙ word-taken (codes "p cnf ") r1 at0)
    (ap (λ t. number_end (2 ^ 31) t at1) a1 ∙ number-taken (2 ^ 31) n 32 r3 at1 (omega arith) o.before.few_vars (inr refl))
    (ap (λ t. word_end (codes " ") t at2) a2 ∙ word-taken (codes " ") r3 at2)
    (ap (λ t. number_end (2 ^ 32 - 1) t (at2 + 1)) a3 ∙ number-over (2 ^ 32 - 1) o.number o.rest (at2 + 1) o.over o.small)
    ∙ ap (λ (k : ℕ). Err (refusal.Header k)) place
  where
    length-front : (lines v : List ℕ) → length (lines ++ codes "p cnf " ++ v ++ codes " ") ≡ length lines + 6 + length v + 1
    length-front lines v = grind (arith, length-append)
