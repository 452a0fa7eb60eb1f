-- The lines of a log are read back.
use Rattle.std.proofs.Common.{◌≡◌, ◌∙◌, ap, ℕ, ◌+◌, ◌<◌, true, false, cond, List, [], ◌∷◌, ◌++◌, drop, length, map, codes, decimal, Option, Some, Result, Ok, refl, arith, append_assoc}
use Rattle.std.specs.List.{All}
use Rattle.std.specs.Str.{bytes_eq}
use Rattle.std.proofs.lemmas.List.Elements.{All-head, All-tail, All-cons, All-nil, All-append, All-map, All-weaker}
use Rattle.std.proofs.lemmas.Slice.Eq.{bytes_eq-Decides}
use Rattle.dsv_base.proofs.TextLemmas.{end_nil}
use Rattle.dsv_text.specs.Stages.{◌>>=◌}
use Rattle.dsv_text.specs.Bytes.{is_digit, has_byte}
use Rattle.dsv_cnf.specs.Literal.{Literal}
use Rattle.dsv_cnf.specs.Texts.{literal_piece}
use Rattle.dsv_hints.specs.declared.step.Step.{Step}
use Rattle.dsv_hints.specs.declared.step.Step.TheVariants.{Add, Delete}
use Rattle.dsv_lines.specs.Readings.{reading_of}
use Rattle.dsv_certfile.specs.Answers.{at_line}
use Rattle.dsv_certfile.specs.Headings.{or_number, whole_line}
use Rattle.dsv_certfile.specs.Keywords.{keyword_text, deletion_text, zero_text}
use Rattle.dsv_certfile.specs.Lawful.{IsId, IsLiteral, IsStep, IsLog}
use Rattle.dsv_certfile.specs.Numerals.{id_of, literal_read}
use Rattle.dsv_lines.specs.Pieces.{space, TextLines, line, pieces_of}
use Rattle.dsv_certfile.specs.Steps.{Listed, entries_from, deletion_in, addition_in, says_deletion, step_after, step_in, steps_from, log_in}
use Rattle.dsv_lines.specs.Texts.{Line, IsPlain, ArePlain}
use Rattle.dsv_certfile.specs.Texts.{list_pieces, step_line, log_lines, word_line}
use Rattle.dsv_certfile.specs.declared.fault.TextFault.{TextFault}
use Rattle.dsv_certfile.specs.declared.keyword.Keyword.{Keyword}
use Rattle.dsv_certfile.specs.declared.keyword.Keyword.TheVariants as keyword
use Rattle.dsv_lines.proofs.WrittenLines.{IsLine, line_bytes, pieces_of-line_bytes, onto_lines, onto_lines-append}
use Rattle.dsv_lines.proofs.WrittenNumerals.{has_byte-append, decimal_is, decimal_begins, other_text}
use Rattle.dsv_certfile.proofs.WrittenNumbers.{id_read, id_other, id_plain, literal_read-piece, literal_other, literal_adds, literal_plain}
use Rattle.dsv_certfile.proofs.WrittenParts.{left_at, Takes}

-- ---- lists
-- the entry is read from its text, which isn't 0
abbrev IsRead : {X : Type 0} → (List ℕ → Option X) → (X → List ℕ) → X → Type 0
IsRead entry text x = (entry (text x) ≡ Some x) × (bytes_eq (text x) zero_text ≡ false)

entries_written : {X : Type 0} (entry : List ℕ → Option X) (text : X → List ℕ) (xs ys : List X) (rest : Line) → All (IsRead entry text) ys
    → entries_from entry xs (list_pieces text ys ++ rest) ≡ Ok (record { entries = xs ++ ys; left = rest })
entries_written entry text xs [] rest h = ap (λ zs. Ok (record { entries = zs; left = rest })) (end_nil xs)
entries_written entry text xs (y ∷ ys) rest h =
    let k = All-head (IsRead entry text) y ys h in
    rw (k.1, k.0) (entries_written entry text (xs ++ y ∷ []) ys rest (All-tail (IsRead entry text) y ys h)
    ∙ ap (λ zs. Ok (record { entries = zs; left = rest })) (append_assoc xs (y ∷ []) ys))

ids_written : (ids : List ℕ) (rest : Line) → All IsId ids → entries_from id_of [] (list_pieces decimal ids ++ rest) ≡ Ok (record { entries = ids; left = rest })
ids_written ids rest h = entries_written id_of decimal [] ids rest (All-weaker IsId (IsRead id_of decimal) (λ id k. (id_read id k, id_other id k)) ids h)

last_ids : (ids : List ℕ) → All IsId ids → entries_from id_of [] (list_pieces decimal ids) ≡ Ok (record { entries = ids; left = [] })
last_ids ids h = ap (entries_from id_of []) (end_nil (list_pieces decimal ids)) ∙ ids_written ids [] h

literals_written : (ls : List Literal) (rest : Line) → All IsLiteral ls
    → entries_from literal_read [] (list_pieces literal_piece ls ++ rest) ≡ Ok (record { entries = ls; left = rest })
literals_written ls rest h =
    entries_written literal_read literal_piece [] ls rest
    (All-weaker IsLiteral (IsRead literal_read literal_piece) (λ l k. (literal_read-piece l k, literal_other l k)) ls h)

list_plain : {X : Type 0} (text : X → List ℕ) (xs : List X) → All (λ x. IsPlain (text x)) xs → ArePlain (list_pieces text xs)
list_plain text xs h = All-append IsPlain (map text xs) (zero_text ∷ []) (All-map IsPlain text xs h) (All-cons IsPlain zero_text [] refl (All-nil IsPlain))

-- ---- steps
deletion_written : (id : ℕ) (ids : List ℕ) → All IsId ids → deletion_in id (list_pieces decimal ids) ≡ Ok (Delete id ids)
deletion_written id ids h =
    ap (λ (r : Result (Listed ℕ) TextFault). r >>= λ ids. whole_line (Delete id ids.entries) ids.left) (last_ids ids h)

addition_written : (id : ℕ) (lits : List Literal) (hints : List ℕ) → All IsLiteral lits → All IsId hints
    → addition_in id (list_pieces literal_piece lits ++ list_pieces decimal hints) ≡ Ok (Add id lits hints)
addition_written id lits hints h k =
    ap (λ (r : Result (Listed Literal) TextFault). r >>= λ lits. entries_from id_of [] lits.left >>= λ hints. whole_line (Add id lits.entries hints.entries) hints.left)
    (literals_written lits (list_pieces decimal hints) h)
    ∙ ap (λ (r : Result (Listed ℕ) TextFault). r >>= λ hints. whole_line (Add id lits hints.entries) hints.left) (last_ids hints k)

-- a clause's first literal, or the 0 after it, is no deletion
adds : (lits : List Literal) (rest : Line) → All IsLiteral lits → says_deletion (list_pieces literal_piece lits ++ rest) ≡ false
adds [] rest h = refl
adds (l ∷ ls) rest h = literal_adds l (All-head IsLiteral l ls h)

after_written : (s : Step) → IsStep s → (id : ℕ) × (rest : Line) × (step_line s ≡ decimal id ∷ rest) × IsId id × (step_after id rest ≡ Ok s)
after_written (Add id lits hints) h =
    let pieces = list_pieces literal_piece lits ++ list_pieces decimal hints in (
      id,
      pieces,
      refl,
      h.0,
      ap (λ b. cond b (deletion_in id (drop 1 pieces)) (addition_in id pieces)) (adds lits (list_pieces decimal hints) h.1) ∙ addition_written id lits hints h.1 h.2,
    )
after_written (Delete id ids) h = (id, deletion_text ∷ list_pieces decimal ids, refl, h.0, deletion_written id ids h.1)

step_written : (s : Step) → IsStep s → step_in (step_line s) ≡ Ok s
step_written s h =
    let w = after_written s h in
    ap step_in w.2 ∙ ap (λ (o : Option ℕ). or_number o >>= λ id. step_after id w.1) (id_read w.0 w.3) ∙ w.4

step_line-plain : (s : Step) → IsStep s → IsLine (step_line s)
step_line-plain (Add id lits hints) h =
    All-cons IsPlain (decimal id) (list_pieces literal_piece lits ++ list_pieces decimal hints) (id_plain id h.0)
    (All-append IsPlain (list_pieces literal_piece lits) (list_pieces decimal hints)
    (list_plain literal_piece lits (All-weaker IsLiteral (λ l. IsPlain (literal_piece l)) literal_plain lits h.1))
    (list_plain decimal hints (All-weaker IsId (λ id. IsPlain (decimal id)) id_plain hints h.2)))
step_line-plain (Delete id ids) h =
    All-cons IsPlain (decimal id) (deletion_text ∷ list_pieces decimal ids) (id_plain id h.0)
    (All-cons IsPlain deletion_text (list_pieces decimal ids) refl (list_plain decimal ids (All-weaker IsId (λ id. IsPlain (decimal id)) id_plain ids h.1)))

step_back : (s : Step) → IsStep s → step_in (pieces_of (line_bytes (step_line s))) ≡ Ok s
step_back s h = ap step_in (pieces_of-line_bytes (step_line s) (step_line-plain s h)) ∙ step_written s h

-- ---- a log
begins_line : (byte : ℕ) (p : List ℕ) (ps : Line) → 0 < length p → has_byte byte p ≡ false → has_byte byte (line_bytes (p ∷ ps)) ≡ false
begins_line byte p [] some h = h
begins_line byte p (q ∷ qs) some h = has_byte-append byte p (space ∷ line_bytes (q ∷ qs)) some ∙ h

-- a text that begins with no other byte than a digit
no_keyword : (w : Keyword) (text : List ℕ) → ((byte : ℕ) → is_digit byte ≡ false → has_byte byte text ≡ false) → bytes_eq text (keyword_text w) ≡ false
no_keyword keyword.Job text h = other_text 106 (codes "ob") text (h 106 refl)
no_keyword keyword.Format text h = other_text 102 (codes "ormat") text (h 102 refl)
no_keyword keyword.Kind text h = other_text 107 (codes "ind") text (h 107 refl)
no_keyword keyword.Inequality text h = other_text 105 (codes "neq") text (h 105 refl)
no_keyword keyword.Base text h = other_text 98 (codes "ase") text (h 98 refl)
no_keyword keyword.Step text h = other_text 115 (codes "tep") text (h 115 refl)
no_keyword keyword.Safe text h = other_text 115 (codes "afe") text (h 115 refl)
no_keyword keyword.Box text h = other_text 98 (codes "ox") text (h 98 refl)
no_keyword keyword.Form text h = other_text 102 (codes "orm") text (h 102 refl)
no_keyword keyword.Positive text h = other_text 112 (codes "ositive") text (h 112 refl)
no_keyword keyword.Coefficient text h = other_text 99 (codes "oefficient") text (h 99 refl)
no_keyword keyword.Square text h = other_text 115 (codes "quare") text (h 115 refl)
no_keyword keyword.Rest text h = other_text 114 (codes "est") text (h 114 refl)
no_keyword keyword.Fall text h = other_text 102 (codes "all") text (h 102 refl)
no_keyword keyword.States text h = other_text 115 (codes "tates") text (h 115 refl)
no_keyword keyword.Level text h = other_text 108 (codes "evel") text (h 108 refl)
no_keyword keyword.Lambda text h = other_text 108 (codes "ambda") text (h 108 refl)
no_keyword keyword.Mu text h = other_text 109 (codes "u") text (h 109 refl)
no_keyword keyword.First text h = other_text 102 (codes "irst") text (h 102 refl)
no_keyword keyword.End text h = other_text 101 (codes "nd") text (h 101 refl)

step_goes_on : (w : Keyword) (s : Step) → IsStep s → bytes_eq (line_bytes (step_line s)) (keyword_text w) ≡ false
step_goes_on w s h =
    let a = after_written s h in
    let d = decimal_is a.0 (omega (arith, a.3)) in
    no_keyword w (line_bytes (step_line s)) (λ byte other.
    ap (λ l. has_byte byte (line_bytes l)) a.2 ∙ begins_line byte (decimal a.0) a.1 d.some (decimal_begins byte a.0 other (omega (arith, a.3))))

steps_written : (w : Keyword) (steps log : List Step) (t : TextLines) (n : ℕ) → IsLog log
    → (m : ℕ) × (steps_from (keyword_text w) steps n (onto_lines (log_lines log) (line (keyword_text w) t)) ≡ Ok (reading_of (steps ++ log) (left_at t m)))
steps_written w steps [] t n h =
    let same : bytes_eq (keyword_text w) (keyword_text w) ≡ true = (bytes_eq-Decides (keyword_text w) (keyword_text w)).1 refl in
    (n + 1, rw same (ap (λ xs. Ok (reading_of xs (left_at t (n + 1)))) (end_nil steps)))
steps_written w steps (s ∷ log) t n h =
    let k = All-head IsStep s log h in
    let more = steps_written w (steps ++ s ∷ []) log t (n + 1) (All-tail IsStep s log h) in (
      more.0,
      rw (step_goes_on w s k)
          (ap (λ (r : Result Step TextFault). at_line n r >>= λ s. steps_from (keyword_text w) (steps ++ s ∷ []) (n + 1) (onto_lines (log_lines log) (line (keyword_text w) t))) (step_back s k)
          ∙ more.1 ∙ ap (λ xs. Ok (reading_of xs (left_at t more.0))) (append_assoc steps (s ∷ []) log)),
    )

pub takes_log : (w : Keyword) (log : List Step) → IsLog log → Takes (log_in w) log (log_lines log ++ word_line w ∷ [])
takes_log w log h = λ t n.
    let a = steps_written w [] log t n h in
    (a.0, ap (λ ls. steps_from (keyword_text w) [] n ls) (onto_lines-append (log_lines log) (word_line w ∷ []) t) ∙ a.1)

pub log_plain : (log : List Step) → IsLog log → All IsLine (log_lines log)
log_plain log h = All-map IsLine step_line log (All-weaker IsStep (λ s. IsLine (step_line s)) step_line-plain log h)
