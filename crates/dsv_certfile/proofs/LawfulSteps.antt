-- A log that was read has ids and literals of their ranges, and its lines are those that it was read of.
use Rattle.std.proofs.Common.{◌≡◌, ◌∙◌, sym, ap, ℕ, ◌+◌, ◌-◌, ◌≤◌, Bool, true, false, cond, List, [], ◌∷◌, ◌++◌, drop, map, decimal, Option, Some, None, Result, Ok, IfOk, IfSome, refl, arith, append_assoc}
use Rattle.std.specs.Prelude.{option_map, not, if◌then◌else◌}
use Rattle.std.specs.List.{All}
use Rattle.std.specs.Str.{bytes_eq}
use Rattle.std.proofs.lemmas.List.Elements.{All-nil, All-push}
use Rattle.std.proofs.lemmas.Result.{IfOk-weaker}
use Rattle.std.proofs.lemmas.Slice.Eq.{bytes_eq-Decides}
use Rattle.dsv_text.specs.Bytes.{has_byte}
use Rattle.dsv_text.specs.Stages.{◌>>=◌}
use Rattle.dsv_cnf.specs.Literal.{Literal}
use Rattle.dsv_cnf.specs.Texts.{literal_piece}
use Rattle.dsv_hints.specs.declared.step.Step.{Step}
use Rattle.dsv_hints.specs.declared.step.Step.TheVariants.{Add, Delete}
use Rattle.dsv_lines.specs.Readings.{Reading, reading_of}
use Rattle.dsv_lines.specs.Texts.{Line}
use Rattle.dsv_certfile.specs.Answers.{at_line}
use Rattle.dsv_certfile.specs.Headings.{or_number, whole_line}
use Rattle.dsv_certfile.specs.Keywords.{keyword_text, deletion_text, zero_text}
use Rattle.dsv_certfile.specs.Lawful.{IsId, IsLiteral, IsStep, IsLog}
use Rattle.dsv_certfile.specs.Limits.{greatest_id, greatest_literal}
use Rattle.dsv_lines.specs.Numerals.{minus, positive_of}
use Rattle.dsv_certfile.specs.Numerals.{id_of, literal_read}
use Rattle.dsv_lines.specs.Pieces.{TextLines, unended, line, pieces_of}
use Rattle.dsv_certfile.specs.Steps.{Listed, with_entry, entries_from, deletion_in, addition_in, says_deletion, step_after, step_in, steps_from, log_in}
use Rattle.dsv_certfile.specs.Texts.{list_pieces, step_line, log_lines, word_line}
use Rattle.dsv_certfile.specs.declared.fault.TextFault.{TextFault}
use Rattle.dsv_certfile.specs.declared.fault.TextRefusal.{TextRefusal}
use Rattle.dsv_certfile.specs.declared.keyword.Keyword.{Keyword}
use Rattle.dsv_certfile.proofs.LawfulParts.{then_has, whole_line_has, at_line_has, Taken, Yields, more_texts}
use Rattle.dsv_lines.proofs.NumeralBounds.{positive_has}
use Rattle.dsv_lines.proofs.ReadLines.{line_bytes-pieces_of}
use Rattle.dsv_lines.proofs.ReadNumerals.{decimal-positive_of, first_byte}
use Rattle.dsv_lines.proofs.WrittenLines.{line_bytes}

-- ---- lists
-- the entry is of its range, and the piece is its text
abbrev IsEntryOf : {X : Type 0} → (X → List ℕ) → (X → Type 0) → List ℕ → X → Type 0
IsEntryOf text P piece x = P x × (piece ≡ text x)

-- the rest of a piece is the number of a literal with this sign
literal_by : (text rest : List ℕ) (n : ℕ) (b : Bool) → 1 ≤ n → n ≤ greatest_literal → decimal n ≡ rest → text ≡ cond b [] (minus ∷ []) ++ rest
    → IsEntryOf literal_piece IsLiteral text (record { var = n - 1; positive = b })
literal_by text rest n true some few d e =
    let same : n - 1 + 1 ≡ n = omega (arith, some) in
    (omega (arith, some, few), e ∙ sym d ∙ ap decimal (sym same))
literal_by text rest n false some few d e =
    let same : n - 1 + 1 ≡ n = omega (arith, some) in
    (omega (arith, some, few), e ∙ ap (λ t. minus ∷ t) (sym d ∙ ap decimal (sym same)))

literal_some : (text rest : List ℕ) (o : Option ℕ) (b : Bool) → positive_of greatest_literal rest ≡ o → text ≡ cond b [] (minus ∷ []) ++ rest
    → IfSome (option_map (λ n. record { var = n - 1; positive = b }) o) (IsEntryOf literal_piece IsLiteral text)
literal_some text rest None b e s = tt
literal_some text rest (Some n) b e s =
    let h : (1 ≤ n) × (n ≤ greatest_literal) = rw e at (positive_has greatest_literal rest) in
    literal_by text rest n b h.0 h.1 (decimal-positive_of greatest_literal rest n (omega arith) e) s

literal_step : (text : List ℕ) (b : Bool) → has_byte minus text ≡ b
    → IfSome (option_map (λ n. record { var = n - 1; positive = not b }) (positive_of greatest_literal (drop (if b then 1 else 0) text))) (IsEntryOf literal_piece IsLiteral text)
literal_step text true h = literal_some text (drop 1 text) (positive_of greatest_literal (drop 1 text)) false refl (first_byte minus text h)
literal_step text false h = literal_some text text (positive_of greatest_literal text) true refl refl

literal_has : (text : List ℕ) → IfSome (literal_read text) (IsEntryOf literal_piece IsLiteral text)
literal_has text = literal_step text (has_byte minus text) refl

id_step : (text : List ℕ) (o : Option ℕ) → positive_of greatest_id text ≡ o → IfSome o (IsEntryOf decimal IsId text)
id_step text None e = tt
id_step text (Some n) e = (rw e at (positive_has greatest_id text), sym (decimal-positive_of greatest_id text n (omega arith) e))

id_has : (text : List ℕ) → IfSome (id_of text) (IsEntryOf decimal IsId text)
id_has text = id_step text (id_of text) refl

-- the entries are of their range, and the pieces are their texts, a 0 and what is left
record AreListed {X : Type 0} (text : X → List ℕ) (P : X → Type 0) (old : List X) (pieces : Line) (l : Listed X) : Type 0 where
  have : All P l.entries
  texts : map text old ++ pieces ≡ map text l.entries ++ zero_text ∷ l.left

list_step : {X : Type 0} (text : X → List ℕ) (P : X → Type 0) (xs : List X) (piece : List ℕ) (pieces : Line) (b : Bool) (r : Result (Listed X) TextFault) → All P xs
    → bytes_eq piece zero_text ≡ b → IfOk r (AreListed text P xs (piece ∷ pieces))
    → IfOk (cond b (Ok (record { entries = xs; left = pieces })) r) (AreListed text P xs (piece ∷ pieces))
list_step text P xs piece pieces true r h e k = record { have = h; texts = ap (λ p. map text xs ++ p ∷ pieces) ((bytes_eq-Decides piece zero_text).0 e) }
list_step text P xs piece pieces false r h e k = k

entry_step : {X : Type 0} (text : X → List ℕ) (P : X → Type 0) (xs : List X) (piece : List ℕ) (pieces : Line) (o : Option X) (next : X → Result (Listed X) TextFault)
    → IfSome o (IsEntryOf text P piece) → ((x : X) → P x → IfOk (next x) (AreListed text P (xs ++ x ∷ []) pieces))
    → IfOk (with_entry o next) (AreListed text P xs (piece ∷ pieces))
entry_step text P xs piece pieces None next h k = tt
entry_step {X = X} text P xs piece pieces (Some x) next h k =
    IfOk-weaker (next x) (AreListed text P (xs ++ x ∷ []) pieces) (AreListed text P xs (piece ∷ pieces))
    (λ (l : Listed X) a. record {
      have = a.have;
      texts = ap (λ p. map text xs ++ p ∷ pieces) h.1 ∙ more_texts text xs x pieces (map text l.entries ++ zero_text ∷ l.left) a.texts;
    }) (k x h.0)

entries_have : {X : Type 0} (entry : List ℕ → Option X) (text : X → List ℕ) (P : X → Type 0) → ((piece : List ℕ) → IfSome (entry piece) (IsEntryOf text P piece))
    → (xs : List X) (pieces : Line) → All P xs → IfOk (entries_from entry xs pieces) (AreListed text P xs pieces)
entries_have entry text P each xs [] h = tt
entries_have entry text P each xs (piece ∷ pieces) h =
    list_step text P xs piece pieces (bytes_eq piece zero_text) (with_entry (entry piece) (λ x. entries_from entry (xs ++ x ∷ []) pieces)) h refl
    (entry_step text P xs piece pieces (entry piece) (λ x. entries_from entry (xs ++ x ∷ []) pieces) (each piece)
    (λ x p. entries_have entry text P each (xs ++ x ∷ []) pieces (All-push P xs x h p)))

-- the whole list, where nothing is left
list_ends : {X : Type 0} (text : X → List ℕ) (P : X → Type 0) (pieces : Line) (l : Listed X) → AreListed text P [] pieces l → l.left ≡ [] → pieces ≡ list_pieces text l.entries
list_ends text P pieces l a e = a.texts ∙ ap (λ ps. map text l.entries ++ zero_text ∷ ps) e

-- ---- steps
-- the step is lawful, and these pieces are its line
abbrev IsStepOf : Line → Step → Type 0
IsStepOf pieces s = IsStep s × (pieces ≡ step_line s)

deletion_has : (first : List ℕ) (id : ℕ) (pieces : Line) → IsEntryOf decimal IsId first id
    → IfOk (deletion_in id pieces) (IsStepOf (first ∷ deletion_text ∷ pieces))
deletion_has first id pieces h =
    then_has (entries_from id_of [] pieces) (λ (ids : Listed ℕ). whole_line (Delete id ids.entries) ids.left) (AreListed decimal IsId [] pieces) (IsStepOf (first ∷ deletion_text ∷ pieces))
    (entries_have id_of decimal IsId id_has [] pieces (All-nil IsId))
    (λ ids k. whole_line_has (Delete id ids.entries) ids.left (IsStepOf (first ∷ deletion_text ∷ pieces))
    (λ e. ((h.0, k.have), ap (λ p. p ∷ deletion_text ∷ pieces) h.1 ∙ ap (λ ps. decimal id ∷ deletion_text ∷ ps) (list_ends decimal IsId pieces ids k e))))

abbrev hints_after : ℕ → Listed Literal → Result Step TextFault
hints_after id lits = entries_from id_of [] lits.left >>= λ hints. whole_line (Add id lits.entries hints.entries) hints.left

lists_end : (pieces : Line) (lits : Listed Literal) (hints : Listed ℕ) → AreListed literal_piece IsLiteral [] pieces lits → AreListed decimal IsId [] lits.left hints
    → hints.left ≡ [] → pieces ≡ list_pieces literal_piece lits.entries ++ list_pieces decimal hints.entries
lists_end pieces lits hints a b e =
    a.texts ∙ ap (λ ps. map literal_piece lits.entries ++ zero_text ∷ ps) (list_ends decimal IsId lits.left hints b e)
    ∙ sym (append_assoc (map literal_piece lits.entries) (zero_text ∷ []) (list_pieces decimal hints.entries))

addition_has : (first : List ℕ) (id : ℕ) (pieces : Line) → IsEntryOf decimal IsId first id → IfOk (addition_in id pieces) (IsStepOf (first ∷ pieces))
addition_has first id pieces h =
    then_has (entries_from literal_read [] pieces) (hints_after id) (AreListed literal_piece IsLiteral [] pieces) (IsStepOf (first ∷ pieces))
    (entries_have literal_read literal_piece IsLiteral literal_has [] pieces (All-nil IsLiteral))
    (λ lits k. then_has (entries_from id_of [] lits.left) (λ (hints : Listed ℕ). whole_line (Add id lits.entries hints.entries) hints.left)
    (AreListed decimal IsId [] lits.left) (IsStepOf (first ∷ pieces)) (entries_have id_of decimal IsId id_has [] lits.left (All-nil IsId))
    (λ hints l. whole_line_has (Add id lits.entries hints.entries) hints.left (IsStepOf (first ∷ pieces))
    (λ e. ((h.0, k.have, l.have), ap (λ p. p ∷ pieces) h.1 ∙ ap (λ ps. decimal id ∷ ps) (lists_end pieces lits hints k l e)))))

-- a deletion is said first, or a clause is added
after_step : (first : List ℕ) (id : ℕ) (pieces : Line) (b : Bool) → says_deletion pieces ≡ b → IsEntryOf decimal IsId first id
    → IfOk (cond b (deletion_in id (drop 1 pieces)) (addition_in id pieces)) (IsStepOf (first ∷ pieces))
after_step first id pieces false e h = addition_has first id pieces h
after_step first id [] true e h = absurd (cc)
after_step first id (piece ∷ pieces) true e h = rw ((bytes_eq-Decides piece deletion_text).0 e) (deletion_has first id pieces h)

number_step : {X : Type 0} (o : Option X) (P : X → Type 0) → IfSome o P → IfOk (or_number o) P
number_step None P h = tt
number_step (Some x) P h = h

step_has : (pieces : Line) → IfOk (step_in pieces) (IsStepOf pieces)
step_has [] = tt
step_has (piece ∷ pieces) =
    then_has (or_number (id_of piece)) (λ (id : ℕ). step_after id pieces) (IsEntryOf decimal IsId piece) (IsStepOf (piece ∷ pieces))
    (number_step (id_of piece) (IsEntryOf decimal IsId piece) (id_has piece)) (λ id h. after_step piece id pieces (says_deletion pieces) refl h)

-- ---- a log
-- the steps are lawful, and these are their lines and that of the word
abbrev pub IsLogOf : Keyword → List Step → List Line → Type 0
IsLogOf w log ls = IsLog log × (ls ≡ log_lines log ++ word_line w ∷ [])

-- the same after steps that were read already
abbrev AreStepsAfter : Keyword → List Step → List Step → List Line → Type 0
AreStepsAfter w old log ls = IsLog log × (log_lines old ++ ls ≡ log_lines log ++ word_line w ∷ [])

log_step : (w : Keyword) (b : Bool) (steps : List Step) (n : ℕ) (bytes : List ℕ) (more : TextLines) (r : Result (Reading (List Step)) TextRefusal) → IsLog steps
    → bytes_eq bytes (keyword_text w) ≡ b → IfOk r (Taken (AreStepsAfter w steps) (line bytes more))
    → IfOk (cond b (Ok (reading_of steps (record { lines = more; number = n + 1 }))) r) (Taken (AreStepsAfter w steps) (line bytes more))
log_step w true steps n bytes more r h e k =
    record { lines = word_line w ∷ []; cut = ap (λ bs. line bs more) ((bytes_eq-Decides bytes (keyword_text w)).0 e); has = (h, refl) }
log_step w false steps n bytes more r h e k = k

steps_have : (w : Keyword) (steps : List Step) (n : ℕ) (ls : TextLines) → IsLog steps → IfOk (steps_from (keyword_text w) steps n ls) (Taken (AreStepsAfter w steps) ls)
steps_have w steps n (unended bytes) h = tt
steps_have w steps n (line bytes more) h =
    let pieces = pieces_of bytes in
    log_step w (bytes_eq bytes (keyword_text w)) steps n bytes more (at_line n (step_in pieces) >>= λ s. steps_from (keyword_text w) (steps ++ s ∷ []) (n + 1) more) h refl
    (then_has (at_line n (step_in pieces)) (λ (s : Step). steps_from (keyword_text w) (steps ++ s ∷ []) (n + 1) more) (IsStepOf pieces) (Taken (AreStepsAfter w steps) (line bytes more))
    (at_line_has n (step_in pieces) (IsStepOf pieces) (step_has pieces))
    (λ s k. IfOk-weaker (steps_from (keyword_text w) (steps ++ s ∷ []) (n + 1) more) (Taken (AreStepsAfter w (steps ++ s ∷ [])) more) (Taken (AreStepsAfter w steps) (line bytes more))
    (λ (l : Reading (List Step)) q. record {
      lines = pieces ∷ q.lines;
      cut = ap (λ bs. line bs more) (sym (line_bytes-pieces_of bytes)) ∙ ap (line (line_bytes pieces)) q.cut;
      has = (q.has.0, ap (λ p. log_lines steps ++ p ∷ q.lines) k.1 ∙ more_texts step_line steps s q.lines (log_lines l.value ++ word_line w ∷ []) q.has.1);
    }) (steps_have w (steps ++ s ∷ []) (n + 1) more (All-push IsStep steps s h k.0))))

pub yields_log : (w : Keyword) → Yields (log_in w) (IsLogOf w)
yields_log w = λ ls. steps_have w [] ls.number ls.lines (All-nil IsStep)
