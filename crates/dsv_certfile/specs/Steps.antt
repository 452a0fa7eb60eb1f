-- The lines of a log, one a step.
use Rattle.std.specs.Prelude.{ℕ, ◌+◌, Bool, false, List, [], ◌∷◌, ◌++◌, drop, cond, Option}
use Rattle.std.specs.Prelude.{Some, None}
use Rattle.std.specs.Prelude.{Result, Ok, Err}
use Rattle.std.specs.Str.{bytes_eq}
use Rattle.dsv_text.specs.Stages.{◌>>=◌}
use Rattle.dsv_hints.specs.declared.step.Step.{Step}
use Rattle.dsv_hints.specs.declared.step.Step.TheVariants.{Add, Delete}
use Rattle.dsv_lines.specs.Readings.{Reading, reading_of}
use Rattle.dsv_certfile.specs.Answers.{at_line, text_refusal}
use Rattle.dsv_certfile.specs.Headings.{or_number, whole_line}
use Rattle.dsv_certfile.specs.Keywords.{keyword_text, deletion_text, zero_text}
use Rattle.dsv_certfile.specs.Numerals.{id_of, literal_read}
use Rattle.dsv_lines.specs.Pieces.{TextLines, unended, line, LinesLeft, pieces_of}
use Rattle.dsv_certfile.specs.declared.fault.TextFault.{TextFault}
use Rattle.dsv_certfile.specs.declared.fault.TextFault.TheVariants as fault
use Rattle.dsv_certfile.specs.declared.fault.TextRefusal.{TextRefusal}
use Rattle.dsv_certfile.specs.declared.keyword.Keyword.{Keyword}

-- ---- a step
-- the entries of a list, and the pieces after the 0 that ends it
pub record Listed (X : Type 0) : Type 0 where
  pub entries : List X
  pub left : List (List ℕ)

-- the list goes on with the entry, where there is one
abbrev pub with_entry : {X : Type 0} → Option X → (X → Result (Listed X) TextFault)
    → Result (Listed X) TextFault
with_entry (Some x) next = next x
with_entry None next = Err fault.Number

-- the entries of the pieces up to `0`, after those that are read already
abbrev pub entries_from : {X : Type 0} → (List ℕ → Option X) → List X → List (List ℕ)
    → Result (Listed X) TextFault
entries_from entry xs [] = Err fault.Line
entries_from entry xs (piece ∷ pieces) =
    cond (bytes_eq piece zero_text) (Ok (record { entries = xs; left = pieces }))
    (with_entry (entry piece) (λ x. entries_from entry (xs ++ x ∷ []) pieces))

-- a deletion, after its id and `d`: `ids.. 0`
abbrev pub deletion_in : ℕ → List (List ℕ) → Result Step TextFault
deletion_in id pieces =
    entries_from id_of [] pieces >>= λ ids.
    whole_line (Delete id ids.entries) ids.left

-- an added clause, after its id: `literals.. 0 hints.. 0`
abbrev pub addition_in : ℕ → List (List ℕ) → Result Step TextFault
addition_in id pieces =
    entries_from literal_read [] pieces >>= λ lits.
    entries_from id_of [] lits.left >>= λ hints.
    whole_line (Add id lits.entries hints.entries) hints.left

-- a deletion is said first
abbrev pub says_deletion : List (List ℕ) → Bool
says_deletion [] = false
says_deletion (piece ∷ pieces) = bytes_eq piece deletion_text

-- a step after its id
abbrev pub step_after : ℕ → List (List ℕ) → Result Step TextFault
step_after id pieces =
    cond (says_deletion pieces) (deletion_in id (drop 1 pieces)) (addition_in id pieces)

-- the id that a step begins with
abbrev pub step_id : List (List ℕ) → Result ℕ TextFault
step_id [] = Err fault.Line
step_id (piece ∷ pieces) = or_number (id_of piece)

-- the line of a step
abbrev pub step_in : List (List ℕ) → Result Step TextFault
step_in pieces = step_id pieces >>= λ id. step_after id (drop 1 pieces)

-- ---- a log
-- the steps of the lines up to the one that is exactly the word, after those that are read already,
-- and what is left after that line; the first line has the number n
abbrev pub steps_from : List ℕ → List Step → ℕ → TextLines
    → Result (Reading (List Step)) TextRefusal
steps_from word steps n (unended bytes) = Err (text_refusal n fault.End)
steps_from word steps n (line bytes more) =
    cond (bytes_eq bytes word) (Ok (reading_of steps (record { lines = more; number = n + 1 })))
    (at_line n (step_in (pieces_of bytes)) >>= λ s.
    steps_from word (steps ++ s ∷ []) (n + 1) more)

-- a log and the line after it
abbrev pub log_in : Keyword → LinesLeft → Result (Reading (List Step)) TextRefusal
log_in word ls = steps_from (keyword_text word) [] ls.number ls.lines
