-- What a reader of lines says of a text, whatever is wanted after them.
use Rattle.std.proofs.Common.{◌≡◌, ◌∙◌, sym, ap, subst, ℕ, zero, suc, ◌+◌, List, [], ◌∷◌, ◌++◌, length, length-append, replicate, Option, Some, None, refl, arith, codes, append_assoc, inl, inr}
use Rattle.std.specs.Prelude.{Result, Ok, Err, ◌≢◌, ◌⊎◌}
use Rattle.std.specs.List.{All}
use Rattle.std.proofs.lemmas.List.Elements.{All-cons, All-tail}
use Rattle.dsv_text.specs.Stages.{◌>>=◌}
use Rattle.dsv_fraction.specs.Ratio.{Ratio}
use Rattle.dsv_lines.specs.Pieces.{lines_of, LinesLeft}
use Rattle.dsv_lines.specs.Readings.{Reading, reading_of}
use Rattle.dsv_lines.specs.Texts.{Line, IsPlain, line_text}
use Rattle.dsv_lines.proofs.ReadLines.{Beginning, beginning, same_beginning, no_beginning}
use Rattle.dsv_lines.proofs.WrittenLines.{IsLine, pieces_of-line_bytes, line_before}
use Rattle.dsv_state_file.specs.Faults.{WantedLine, vector_line, version_line, format_line, states_line, end_line, matrix_lines, IsAsWanted, BeginsWith, IsLineFault}
use Rattle.dsv_state_file.specs.Reading.{words_after, version_in, format_in, vector_in, range_in, states_in, line_in, rows_from, head_in, file_in}
use Rattle.dsv_state_file.specs.declared.reader.Head.{Head}
use Rattle.dsv_state_file.specs.declared.refusal.StateRefusal.{StateRefusal}
use Rattle.dsv_state_file.specs.declared.refusal.StateRefusal.TheVariants as refusal
use Rattle.dsv_state_file.proofs.FileStages.{head_of, file_of, after_version, after_format, after_range, after_rows, after_b, after_c, after_d}
use Rattle.dsv_state_file.proofs.LineFaults.{IsFormed, IsGood, IsBad, Judges, Anything, IsCount, version_judged, format_judged, range_judged, states_judged, vector_judged, end_judged}
use Rattle.dsv_state_file.proofs.WrittenFiles.{left_at}

-- ---- what a text comes to
-- Of a text of which these lines are wanted from line n on: the lines are all there and nothing follows, or it has this first fault.
abbrev pub Comes : ℕ → List WantedLine → ℕ → List ℕ → Option StateRefusal → Type 0
Comes states [] n text None = text ≡ []
Comes states [] n text (Some why) = (text ≢ []) × (why ≡ refusal.Line n)
Comes states (want ∷ wants) n text o =
    ((why : StateRefusal) × (o ≡ Some why) × IsLineFault want n text why)
    ⊎ ((line : Line) × (rest : List ℕ) × (text ≡ line_text line ++ rest) × IsAsWanted states want line × Comes states wants (n + 1) rest o)

-- the reader takes lines of these wants, or tells the first fault
abbrev pub Stage : {X : Type 0} → (X → ℕ → Type 0) → List WantedLine → ℕ → List ℕ → Result (Reading X) StateRefusal → Type 0
Stage T wants n text (Ok r) = (rest : List ℕ) × (r.left ≡ left_at (lines_of rest) (n + length wants))
    × ((states : ℕ) (more : List WantedLine) (o : Option StateRefusal) → T r.value states → Comes states more (n + length wants) rest o → Comes states (wants ++ more) n text o)
Stage T wants n text (Err why) = (states : ℕ) (more : List WantedLine) → Comes states (wants ++ more) n text (Some why)

-- ---- one line
-- the pieces of a line that follow its word are plain
rest_plain : (word : List ℕ) (l words : Line) → IsLine l → l ≡ word ∷ words → All IsPlain words
rest_plain word l words h e = All-tail IsPlain word words (rw e at h)

as_wanted : {X : Type 0} (want : WantedLine) (T : X → ℕ → Type 0) (l : Line) (x : X) (states : ℕ) → IsLine l → IsGood want T l x → T x states → IsAsWanted states want l
as_wanted want T l x states h g t = record {
  words = g.words;
  line_is = g.formed.line;
  are_words = record { plain = rest_plain want.word l g.words h g.formed.line; many = g.formed.many };
  numbers = g.numbers;
  meaning = g.means states t;
}

begins : (want : WantedLine) (text rest : List ℕ) (l words : Line) → IsLine l → text ≡ line_text l ++ rest → IsFormed want l words → BeginsWith want text words
begins want text rest l words h e f =
    (record { plain = rest_plain want.word l words h f.line; many = f.many }, rest, e ∙ ap (λ k. line_text k ++ rest) f.line)

formed : (want : WantedLine) (text rest : List ℕ) (l words : Line) → IsPlain want.word → IsLine l → text ≡ line_text l ++ rest → BeginsWith want text words → IsFormed want l words
formed want text rest l words p h e b =
    let s = same_beginning l (want.word ∷ words) rest b.1 h (All-cons IsPlain want.word words p b.0.plain) (sym e ∙ b.2) in
    record { line = s.lines; many = b.0.many }

line_fault : (want : WantedLine) (n : ℕ) (text rest : List ℕ) (l : Line) (why : StateRefusal) → IsPlain want.word → IsLine l → text ≡ line_text l ++ rest → IsBad want n l why
    → IsLineFault want n text why
line_fault want n text rest l (refusal.Line m) p h e b = (b.0, λ words k. b.1 words (formed want text rest l words p h e k))
line_fault want n text rest l (refusal.Number m place) p h e b = (b.0, b.1, begins want text rest l b.1 h e b.2, b.3)
line_fault want n text rest l (refusal.Width m) p h e b = (b.0, b.1, begins want text rest l b.1 h e b.2, b.3, b.4, b.5)

judged_stage : {X : Type 0} (want : WantedLine) (T : X → ℕ → Type 0) (n : ℕ) (text rest : List ℕ) (l : Line) (r : Result X StateRefusal) → IsPlain want.word → IsLine l
    → text ≡ line_text l ++ rest → Judges want T n l r → Stage T (want ∷ []) n text (r >>= λ x. Ok (reading_of x (left_at (lines_of rest) (n + 1))))
judged_stage want T n text rest l (Ok x) p h e g = (rest, refl, λ states more o t c. inr (l, rest, e, as_wanted want T l x states h g t, c))
judged_stage want T n text rest l (Err why) p h e b = λ states more. inl (why, refl, line_fault want n text rest l why p h e b)

line_step : {X : Type 0} (read : ℕ → Line → Result X StateRefusal) (want : WantedLine) (T : X → ℕ → Type 0) (n : ℕ) (text : List ℕ) → IsPlain want.word
    → ((l : Line) → Judges want T n l (read n l)) → Beginning text → Stage T (want ∷ []) n text (line_in read (left_at (lines_of text) n))
line_step read want T n text p each (Beginning.none bytes e) =
    rw e (λ states more. inl (refusal.Line n, refl, (refl, λ words b. no_beginning (want.word ∷ words) bytes text b.1 (All-cons IsPlain want.word words p b.0.plain) e b.2)))
line_step {X = X} read want T n text p each (Beginning.one l rest h e) =
    let from : Result X StateRefusal → Result (Reading X) StateRefusal = λ r. r >>= λ x. Ok (reading_of x (left_at (lines_of rest) (n + 1))) in
    let same : line_in read (left_at (lines_of text) n) ≡ from (read n l) =
    ap (λ t. line_in read (left_at t n)) (ap lines_of e ∙ line_before l rest h) ∙ ap (λ ps. from (read n ps)) (pieces_of-line_bytes l h) in
    subst (Stage T (want ∷ []) n text) (sym same) (judged_stage want T n text rest l (read n l) p h e (each l))

stage_line : {X : Type 0} (read : ℕ → Line → Result X StateRefusal) (want : WantedLine) (T : X → ℕ → Type 0) (n : ℕ) (text : List ℕ) → IsPlain want.word
    → ((l : Line) → Judges want T n l (read n l)) → Stage T (want ∷ []) n text (line_in read (left_at (lines_of text) n))
stage_line read want T n text p each = line_step read want T n text p each (beginning text)

-- ---- one reader after another
both_step : {Y : Type 0} (T : Y → ℕ → Type 0) (wants after : List WantedLine) (n : ℕ) (text rest : List ℕ) (r : Result (Reading Y) StateRefusal)
    → ((states : ℕ) (more : List WantedLine) (o : Option StateRefusal) → Comes states more (n + length wants) rest o → Comes states (wants ++ more) n text o)
    → Stage T after (n + length wants) rest r → Stage T (wants ++ after) n text r
both_step T wants after n text rest (Ok r) h k =
    let sum : n + length wants + length after ≡ n + length (wants ++ after) = omega (arith, length-append wants after) in (
      k.0,
      k.1 ∙ ap (left_at (lines_of (k.0))) sum,
      λ states more o t c. subst (λ fs. Comes states fs n text o) (sym (append_assoc wants after more))
          (h states (after ++ more) o (k.2 states more o t (subst (λ m. Comes states more m k.0 o) (sym sum) c))),
    )
both_step T wants after n text rest (Err why) h k =
    λ states more. subst (λ fs. Comes states fs n text (Some why)) (sym (append_assoc wants after more)) (h states (after ++ more) (Some why) (k states more))

stage_both : {X Y : Type 0} (T : Y → ℕ → Type 0) (wants after : List WantedLine) (n : ℕ) (text : List ℕ) (r : Result (Reading X) StateRefusal)
    (g : X → LinesLeft → Result (Reading Y) StateRefusal) → Stage Anything wants n text r
    → ((x : X) (rest : List ℕ) → Stage T after (n + length wants) rest (g x (left_at (lines_of rest) (n + length wants))))
    → Stage T (wants ++ after) n text (r >>= λ r. g r.value r.left)
stage_both T wants after n text (Ok r) g h k =
    subst (λ ls. Stage T (wants ++ after) n text (g r.value ls)) (sym (h.1))
    (both_step T wants after n text h.0 (g r.value (left_at (lines_of (h.0)) (n + length wants))) (λ states more o c. h.2 states more o tt c) (k r.value h.0))
stage_both T wants after n text (Err why) g h k =
    λ states more. subst (λ fs. Comes states fs n text (Some why)) (sym (append_assoc wants after more)) (h states (after ++ more))

stage_made : {X Y : Type 0} (S : X → ℕ → Type 0) (T : Y → ℕ → Type 0) (wants : List WantedLine) (n : ℕ) (text : List ℕ) (r : Result (Reading X) StateRefusal) (h : X → Y)
    → ((x : X) (states : ℕ) → T (h x) states → S x states) → Stage S wants n text r → Stage T wants n text (r >>= λ r. Ok (reading_of (h r.value) r.left))
stage_made S T wants n text (Ok r) h f k = (k.0, k.1, λ states more o t c. k.2 states more o (f r.value states t) c)
stage_made S T wants n text (Err why) h f k = k

-- ---- the lines up to `states N`
abbrev pub head_lines : List WantedLine
head_lines = version_line ∷ format_line ∷ vector_line (codes "range") 2 ∷ states_line ∷ []

-- the head says so many states
abbrev pub HasStates : Head → ℕ → Type 0
HasStates head states = head.states ≡ states

pub head_stage : (n : ℕ) (text : List ℕ) → Stage HasStates head_lines n text (head_in (left_at (lines_of text) n))
head_stage n text =
    stage_both HasStates (version_line ∷ []) (format_line ∷ vector_line (codes "range") 2 ∷ states_line ∷ []) n text (line_in version_in (left_at (lines_of text) n))
    (λ x ls. after_version (reading_of x ls)) (stage_line version_in version_line Anything n text refl (version_judged n))
    (λ version text2. stage_both HasStates (format_line ∷ []) (vector_line (codes "range") 2 ∷ states_line ∷ []) (n + 1) text2 (line_in format_in (left_at (lines_of text2) (n + 1)))
    (λ x ls. after_format (reading_of x ls)) (stage_line format_in format_line Anything (n + 1) text2 refl (format_judged (n + 1)))
    (λ format text3. stage_both HasStates (vector_line (codes "range") 2 ∷ []) (states_line ∷ []) (n + 1 + 1) text3 (line_in range_in (left_at (lines_of text3) (n + 1 + 1)))
    (λ x ls. after_range format (reading_of x ls)) (stage_line range_in (vector_line (codes "range") 2) Anything (n + 1 + 1) text3 refl (range_judged (n + 1 + 1)))
    (λ range text4. stage_made IsCount HasStates (states_line ∷ []) (n + 1 + 1 + 1) text4 (line_in states_in (left_at (lines_of text4) (n + 1 + 1 + 1))) (head_of format range)
    (λ x states e. e) (stage_line states_in states_line IsCount (n + 1 + 1 + 1) text4 refl (states_judged (n + 1 + 1 + 1))))))

-- ---- the lines after that
rows_stage : (states k : ℕ) (rows : List (List Ratio)) (n : ℕ) (text : List ℕ)
    → Stage Anything (replicate k (vector_line (codes "a") states)) n text (rows_from states k rows (left_at (lines_of text) n))
rows_stage states zero rows n text = (text, ap (left_at (lines_of text)) (omega arith), λ s more o t c. subst (λ m. Comes s more m text o) (omega arith) c)
rows_stage states (suc k) rows n text =
    stage_both Anything (vector_line (codes "a") states ∷ []) (replicate k (vector_line (codes "a") states)) n text
    (line_in (vector_in (codes "a") states) (left_at (lines_of text) n)) (λ row ls. rows_from states k (rows ++ row ∷ []) ls)
    (stage_line (vector_in (codes "a") states) (vector_line (codes "a") states) Anything n text refl (vector_judged (codes "a") states n))
    (λ row rest. rows_stage states k (rows ++ row ∷ []) (n + 1) rest)

pub file_stage : (head : Head) (n : ℕ) (text : List ℕ) → Stage Anything (matrix_lines head.states) n text (file_in head (left_at (lines_of text) n))
file_stage head n text =
    let s = head.states in
    let a = replicate s (vector_line (codes "a") s) in
    stage_both Anything a (vector_line (codes "b") s ∷ vector_line (codes "c") s ∷ vector_line (codes "d") 1 ∷ end_line ∷ []) n text (rows_from s s [] (left_at (lines_of text) n))
    (λ x ls. after_rows head (reading_of x ls)) (rows_stage s s [] n text)
    (λ rows text1. let n1 = n + length a in
    stage_both Anything (vector_line (codes "b") s ∷ []) (vector_line (codes "c") s ∷ vector_line (codes "d") 1 ∷ end_line ∷ []) n1 text1
    (line_in (vector_in (codes "b") s) (left_at (lines_of text1) n1)) (λ x ls. after_b head rows (reading_of x ls))
    (stage_line (vector_in (codes "b") s) (vector_line (codes "b") s) Anything n1 text1 refl (vector_judged (codes "b") s n1))
    (λ b text2. stage_both Anything (vector_line (codes "c") s ∷ []) (vector_line (codes "d") 1 ∷ end_line ∷ []) (n1 + 1) text2
    (line_in (vector_in (codes "c") s) (left_at (lines_of text2) (n1 + 1))) (λ x ls. after_c head rows b (reading_of x ls))
    (stage_line (vector_in (codes "c") s) (vector_line (codes "c") s) Anything (n1 + 1) text2 refl (vector_judged (codes "c") s (n1 + 1)))
    (λ c text3. stage_both Anything (vector_line (codes "d") 1 ∷ []) (end_line ∷ []) (n1 + 1 + 1) text3
    (line_in (vector_in (codes "d") 1) (left_at (lines_of text3) (n1 + 1 + 1))) (λ x ls. after_d head rows b c (reading_of x ls))
    (stage_line (vector_in (codes "d") 1) (vector_line (codes "d") 1) Anything (n1 + 1 + 1) text3 refl (vector_judged (codes "d") 1 (n1 + 1 + 1)))
    (λ d text4. stage_made Anything Anything (end_line ∷ []) (n1 + 1 + 1 + 1) text4 (line_in (words_after (codes "end") 0) (left_at (lines_of text4) (n1 + 1 + 1 + 1)))
    (λ _. file_of head rows b c d) (λ _ _ _. tt)
    (stage_line (words_after (codes "end") 0) end_line Anything (n1 + 1 + 1 + 1) text4 refl (end_judged (n1 + 1 + 1 + 1)))))))
