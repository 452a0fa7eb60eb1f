-- A text comes to one thing, and the refusal that it gets is its first fault.
use Rattle.std.proofs.Common.{◌≡◌, ◌∙◌, sym, ap, subst, ℕ, zero, suc, ◌+◌, false, List, [], ◌∷◌, ◌++◌, length, replicate, Option, Some, None, decimal, refl, arith, codes, append_assoc, slice_get, inl, inr}
use Rattle.std.specs.Prelude.{Result, Ok, Err, if◌then◌else◌, ◌⊎◌, ◌↔◌}
use Rattle.std.specs.List.{All, flat_map}
use Rattle.std.proofs.lemmas.Bool.{ne_eqb}
use Rattle.std.proofs.lemmas.List.{append-nil}
use Rattle.std.proofs.lemmas.List.Elements.{All-nil, All-cons, All-head, All-tail, All-append, All-replicate}
use Rattle.dsv_text.specs.Stages.{◌>>=◌}
use Rattle.dsv_lines.specs.Pieces.{lines_of, all_lines, is_ended}
use Rattle.dsv_lines.specs.Readings.{Reading}
use Rattle.dsv_lines.specs.Texts.{Line, IsPlain, line_text}
use Rattle.dsv_lines.proofs.Cuts.{is_ended-lines_of}
use Rattle.dsv_lines.proofs.ReadLines.{same_beginning}
use Rattle.dsv_lines.proofs.WrittenLines.{IsLine}
use Rattle.dsv_state_file.specs.Faults.{WantedNumber, AreWanted, IsFirstOther, Meaning, HasWidth, Means, WantedLine, vector_line, version_line, format_line, states_line, end_line, matrix_lines, file_lines, IsAsWanted, AreAsWanted, BeginsWith, IsLineFault, IsFaultAt, IsStateFault}
use Rattle.dsv_state_file.specs.Reading.{head_in, file_in, whole_text, state_of}
use Rattle.dsv_state_file.specs.StateFiles.{StateFileView}
use Rattle.dsv_state_file.specs.declared.reader.Head.{Head}
use Rattle.dsv_state_file.specs.declared.refusal.StateRefusal.{StateRefusal}
use Rattle.dsv_state_file.specs.declared.refusal.StateRefusal.TheVariants as refusal
use Rattle.dsv_state_file.proofs.FaultStages.{Comes, Stage, head_lines, HasStates, head_stage, file_stage}
use Rattle.dsv_state_file.proofs.LineFaults.{Anything, same_decimal}
use Rattle.dsv_state_file.proofs.WrittenFiles.{left_at}

-- ---- a line
-- the words of the wants are plain
abbrev ArePlainWords : List WantedLine → Type 0
ArePlainWords = All (λ want. IsPlain want.word)

same_words : (want : WantedLine) (text : List ℕ) (words more : Line) → IsPlain want.word → BeginsWith want text words → BeginsWith want text more → words ≡ more
same_words want text words more p h k =
    let s = same_beginning (want.word ∷ words) (want.word ∷ more) h.1 k.1 (All-cons IsPlain want.word words p h.0.plain) (All-cons IsPlain want.word more p k.0.plain) (sym h.2 ∙ k.2) in
    let e = s.lines in
    cc

one_other : (numbers : List WantedNumber) (words : Line) (i k : ℕ) → IsFirstOther numbers words i → IsFirstOther numbers words k → i ≡ k
one_other [] words i k h g = absurd h
one_other (w ∷ ws) [] i k h g = absurd h
one_other (w ∷ ws) (x ∷ xs) zero zero h g = refl
one_other (w ∷ ws) (x ∷ xs) zero (suc k) h g = absurd (h (g.0))
one_other (w ∷ ws) (x ∷ xs) (suc i) zero h g = absurd (g (h.0))
one_other (w ∷ ws) (x ∷ xs) (suc i) (suc k) h g = ap suc (one_other ws xs i k h.1 g.1)

no_other : (numbers : List WantedNumber) (words : Line) (k : ℕ) → IsFirstOther numbers words k → AreWanted numbers words → ⊥
no_other [] words k h g = absurd h
no_other (w ∷ ws) [] k h g = absurd h
no_other (w ∷ ws) (x ∷ xs) zero h g = h (g.0)
no_other (w ∷ ws) (x ∷ xs) (suc k) h g = no_other ws xs k h.1 g.1

-- a line has one fault
one_fault : (want : WantedLine) (n : ℕ) (text : List ℕ) (why other : StateRefusal) → IsPlain want.word → IsLineFault want n text why → IsLineFault want n text other → why ≡ other
one_fault want n text (refusal.Line m) (refusal.Line k) p h g = ap refusal.Line (h.0 ∙ sym (g.0))
one_fault want n text (refusal.Line m) (refusal.Number k i) p h g = absurd (h.1 g.1 g.2)
one_fault want n text (refusal.Line m) (refusal.Width k) p h g = absurd (h.1 g.1 g.2)
one_fault want n text (refusal.Number m i) (refusal.Line k) p h g = absurd (g.1 h.1 h.2)
one_fault want n text (refusal.Number m i) (refusal.Number k j) p h g =
    let place = one_other want.numbers g.1 i j (rw (same_words want text h.1 g.1 p h.2 g.2) at h.3) g.3 in
    ap (λ l. refusal.Number l i) (h.0 ∙ sym (g.0)) ∙ ap (refusal.Number k) place
one_fault want n text (refusal.Number m i) (refusal.Width k) p h g = absurd (no_other want.numbers g.1 i (rw (same_words want text h.1 g.1 p h.2 g.2) at h.3) g.3)
one_fault want n text (refusal.Width m) (refusal.Line k) p h g = absurd (g.1 h.1 h.2)
one_fault want n text (refusal.Width m) (refusal.Number k i) p h g = absurd (no_other want.numbers h.1 i (rw (same_words want text g.1 h.1 p g.2 h.2) at g.3) h.3)
one_fault want n text (refusal.Width m) (refusal.Width k) p h g = ap refusal.Width (h.0 ∙ sym (g.0))

wanted_begins : (states : ℕ) (want : WantedLine) (text rest : List ℕ) (line : Line) → text ≡ line_text line ++ rest → (w : IsAsWanted states want line) → BeginsWith want text w.words
wanted_begins states want text rest line e w = (w.are_words, rest, e ∙ ap (λ l. line_text l ++ rest) w.line_is)

has_width : (states : ℕ) (want : WantedLine) (line : Line) (w : IsAsWanted states want line) → want.meaning ≡ Meaning.bits → HasWidth w.words
has_width states want line w e = subst (λ meaning. Means meaning states w.words) e w.meaning

-- and a line that is as wanted has none
no_fault : (states : ℕ) (want : WantedLine) (n : ℕ) (text rest : List ℕ) (line : Line) (why : StateRefusal) → IsPlain want.word → text ≡ line_text line ++ rest
    → IsAsWanted states want line → IsLineFault want n text why → ⊥
no_fault states want n text rest line (refusal.Line m) p e w h = h.1 w.words (wanted_begins states want text rest line e w)
no_fault states want n text rest line (refusal.Number m i) p e w h =
    no_other want.numbers w.words i (rw (same_words want text h.1 w.words p h.2 (wanted_begins states want text rest line e w)) at h.3) w.numbers
no_fault states want n text rest line (refusal.Width m) p e w h =
    h.5 (rw (same_words want text w.words h.1 p (wanted_begins states want text rest line e w) h.2) at (has_width states want line w h.4))

-- ---- a text
wanted_line : (states : ℕ) (want : WantedLine) (line : Line) → IsPlain want.word → IsAsWanted states want line → IsLine line
wanted_line states want line p w = subst IsLine (sym w.line_is) (All-cons IsPlain want.word w.words p w.are_words.plain)

-- the line is as wanted for both, and both go on with the same rest
record BothGo (s t : ℕ) (want : WantedLine) (fs gs : List WantedLine) (n : ℕ) (o u : Option StateRefusal) : Type 0 where
  line : Line
  rest : List ℕ
  of_s : IsAsWanted s want line
  of_t : IsAsWanted t want line
  after_s : Comes s fs (n + 1) rest o
  after_t : Comes t gs (n + 1) rest u

comes_step : (s t : ℕ) (want : WantedLine) (fs gs : List WantedLine) (n : ℕ) (text : List ℕ) (o u : Option StateRefusal) → IsPlain want.word
    → Comes s (want ∷ fs) n text o → Comes t (want ∷ gs) n text u → (o ≡ u) ⊎ BothGo s t want fs gs n o u
comes_step s t want fs gs n text o u p (inl h) (inl g) = inl (h.1 ∙ ap Some (one_fault want n text h.0 g.0 p h.2 g.2) ∙ sym (g.1))
comes_step s t want fs gs n text o u p (inl h) (inr g) = absurd (no_fault t want n text g.1 g.0 h.0 p g.2 g.3 h.2)
comes_step s t want fs gs n text o u p (inr h) (inl g) = absurd (no_fault s want n text h.1 h.0 g.0 p h.2 h.3 g.2)
comes_step s t want fs gs n text o u p (inr h) (inr g) =
    let same = same_beginning g.0 h.0 g.1 h.1 (wanted_line t want g.0 p g.3) (wanted_line s want h.0 p h.3) (sym (g.2) ∙ h.2) in
    inr (record {
      line = h.0;
      rest = h.1;
      of_s = h.3;
      of_t = subst (IsAsWanted t want) same.lines g.3;
      after_s = h.4;
      after_t = subst (λ rest. Comes t gs (n + 1) rest u) same.rests g.4;
    })

same_lines : (s : ℕ) (wants : List WantedLine) (n : ℕ) (text : List ℕ) (o u : Option StateRefusal) → ArePlainWords wants → Comes s wants n text o → Comes s wants n text u → o ≡ u
same_lines s [] n text None None p h g = refl
same_lines s [] n text None (Some why) p h g = absurd (g.0 h)
same_lines s [] n text (Some why) None p h g = absurd (h.0 g)
same_lines s [] n text (Some why) (Some other) p h g = ap Some (h.1 ∙ sym (g.1))
same_lines s (want ∷ wants) n text o u p h g =
    elim (comes_step s s want wants wants n text o u (All-head (λ want. IsPlain want.word) want wants p) h g) [
      | inl e ↦ e
      | inr b ↦ same_lines s wants (n + 1) b.rest o u (All-tail (λ want. IsPlain want.word) want wants p) b.after_s b.after_t
    ]

matrix_plain : (states : ℕ) → ArePlainWords (matrix_lines states)
matrix_plain states =
    let a = vector_line (codes "a") states in
    let b = vector_line (codes "b") states in
    let c = vector_line (codes "c") states in
    let d = vector_line (codes "d") 1 in
    let plain = λ (want : WantedLine). IsPlain want.word in
    All-append plain (replicate states a) (b ∷ c ∷ d ∷ end_line ∷ []) (All-replicate plain states a refl)
    (All-cons plain b (c ∷ d ∷ end_line ∷ []) refl (All-cons plain c (d ∷ end_line ∷ []) refl (All-cons plain d (end_line ∷ []) refl (All-cons plain end_line [] refl (All-nil plain)))))

-- a line says one number of states
one_count : (s t : ℕ) (line : Line) → IsAsWanted s states_line line → IsAsWanted t states_line line → s ≡ t
one_count s t line h g =
    let texts : decimal s ≡ decimal t = let a = sym (h.line_is) ∙ g.line_is in let b = h.meaning.0 in let c = g.meaning.0 in cc in
    same_decimal s t (let few = h.meaning.1 in omega (arith, few)) (let few = g.meaning.1 in omega (arith, few)) texts

same_matrices : (s t n : ℕ) (text : List ℕ) (o u : Option StateRefusal) → s ≡ t → Comes s (matrix_lines s) n text o → Comes t (matrix_lines t) n text u → o ≡ u
same_matrices s t n text o u e h g = same_lines t (matrix_lines t) n text o u (matrix_plain t) (subst (λ k. Comes k (matrix_lines k) n text o) e h) g

-- a text comes to one thing
pub one_end : (s t : ℕ) (text : List ℕ) (o u : Option StateRefusal) → Comes s (file_lines s) 1 text o → Comes t (file_lines t) 1 text u → o ≡ u
one_end s t text o u h g =
    let range = vector_line (codes "range") 2 in
    let ms = matrix_lines s in
    let mt = matrix_lines t in
    elim (comes_step s t version_line (format_line ∷ range ∷ states_line ∷ ms) (format_line ∷ range ∷ states_line ∷ mt) 1 text o u refl h g) [
      | inl e ↦ e
      | inr a ↦ elim (comes_step s t format_line (range ∷ states_line ∷ ms) (range ∷ states_line ∷ mt) 2 a.rest o u refl a.after_s a.after_t) [
        | inl e ↦ e
        | inr b ↦ elim (comes_step s t range (states_line ∷ ms) (states_line ∷ mt) 3 b.rest o u refl b.after_s b.after_t) [
          | inl e ↦ e
          | inr c ↦ elim (comes_step s t states_line ms mt 4 c.rest o u refl c.after_s c.after_t) [
            | inl e ↦ e
            | inr d ↦ same_matrices s t 5 d.rest o u (one_count s t d.line d.of_s d.of_t) d.after_s d.after_t
          ]
        ]
      ]
    ]

-- ---- what is read
abbrev pub Whole : List ℕ → Result StateFileView StateRefusal → Type 0
Whole text (Ok file) = (states : ℕ) × Comes states (file_lines states) 1 text None
Whole text (Err why) = (states : ℕ) × Comes states (file_lines states) 1 text (Some why)

-- what comes after the head comes of the whole text
abbrev GoesOn : ℕ → List ℕ → List ℕ → Type 0
GoesOn states rest text = (o : Option StateRefusal) → Comes states (matrix_lines states) 5 rest o → Comes states (file_lines states) 1 text o

end_step : (states n : ℕ) (text rest : List ℕ) (file : StateFileView) → ((o : Option StateRefusal) → Comes states [] n rest o → Comes states (file_lines states) 1 text o)
    → Whole text (if is_ended (lines_of rest) then Ok file else Err (refusal.Line n))
end_step states n text [] file h = (states, h None refl)
end_step states n text (b ∷ bs) file h =
    let more : is_ended (lines_of (b ∷ bs)) ≡ false = is_ended-lines_of (b ∷ bs) ∙ ne_eqb (length (b ∷ bs)) 0 (λ e. omega (arith, e)) in
    rw more (states, h (Some (refusal.Line n)) (λ e. cc, refl))

file_step : (states : ℕ) (text rest : List ℕ) (r : Result (Reading StateFileView) StateRefusal) → GoesOn states rest text → Stage Anything (matrix_lines states) 5 rest r
    → Whole text (r >>= whole_text)
file_step states text rest (Ok r) h k =
    let n = 5 + length (matrix_lines states) in
    subst (λ ls. Whole text (if is_ended ls.lines then Ok r.value else Err (refusal.Line ls.number))) (sym (k.1))
    (end_step states n text k.0 r.value (λ o c. h o (subst (λ fs. Comes states fs 5 rest o) (append-nil (matrix_lines states)) (k.2 states [] o tt c))))
file_step states text rest (Err why) h k = (states, h (Some why) (subst (λ fs. Comes states fs 5 rest (Some why)) (append-nil (matrix_lines states)) (k states [])))

head_step : (text : List ℕ) (r : Result (Reading Head) StateRefusal) → Stage HasStates head_lines 1 text r → Whole text (r >>= λ head. file_in head.value head.left >>= whole_text)
head_step text (Ok r) k =
    subst (λ ls. Whole text (file_in r.value ls >>= whole_text)) (sym (k.1))
    (file_step r.value.states text k.0 (file_in r.value (left_at (lines_of (k.0)) 5)) (λ o c. k.2 r.value.states (matrix_lines r.value.states) o refl c) (file_stage r.value 5 k.0))
head_step text (Err why) k = (0, k 0 (matrix_lines 0))

pub whole : (text : List ℕ) → Whole text (state_of text)
whole text = head_step text (head_in (all_lines text)) (head_stage 1 text)

-- ---- the fault by the lines before it
-- the same as IsStateFault, of lines from a number on
record IsTold (states : ℕ) (wants : List WantedLine) (n : ℕ) (text : List ℕ) (why : StateRefusal) : Type 0 where
  lines : List Line
  left : List ℕ
  text_is : text ≡ flat_map line_text lines ++ left
  wanted : AreAsWanted states wants lines
  fault : IsFaultAt (slice_get wants (length lines)) (n + length lines) left why

told : (states : ℕ) (wants : List WantedLine) (n : ℕ) (text : List ℕ) (why : StateRefusal) → Comes states wants n text (Some why) → IsTold states wants n text why
told states [] n text why h = record { lines = []; left = text; text_is = refl; wanted = tt; fault = (h.0, h.1 ∙ ap refusal.Line (omega arith)) }
told states (want ∷ wants) n text why (inl h) =
    let same : h.0 ≡ why = let e = h.1 in cc in
    let first : n ≡ n + 0 = omega arith in
    record { lines = []; left = text; text_is = refl; wanted = tt; fault = subst (λ m. IsLineFault want m text why) first (subst (IsLineFault want n text) same h.2) }
told states (want ∷ wants) n text why (inr h) =
    let t = told states wants (n + 1) h.1 why h.4 in
    let more : n + 1 + length t.lines ≡ n + suc (length t.lines) = omega arith in
    record {
      lines = h.0 ∷ t.lines;
      left = t.left;
      text_is = h.2 ∙ ap (λ rest. line_text h.0 ++ rest) t.text_is ∙ sym (append_assoc (line_text h.0) (flat_map line_text t.lines) t.left);
      wanted = (h.3, t.wanted);
      fault = subst (λ m. IsFaultAt (slice_get wants (length t.lines)) m t.left why) more t.fault;
    }

comes_so : (states : ℕ) (wants : List WantedLine) (n : ℕ) (text : List ℕ) (why : StateRefusal) (lines : List Line) (left : List ℕ) → text ≡ flat_map line_text lines ++ left
    → AreAsWanted states wants lines → IsFaultAt (slice_get wants (length lines)) (n + length lines) left why → Comes states wants n text (Some why)
comes_so states [] n text why [] left e w f = (λ none. f.0 (sym e ∙ none), f.1 ∙ ap refusal.Line (omega arith))
comes_so states (want ∷ wants) n text why [] left e w f =
    let first : n + 0 ≡ n = omega arith in
    inl (why, refl, subst (λ t. IsLineFault want n t why) (sym e) (subst (λ m. IsLineFault want m left why) first f))
comes_so states [] n text why (line ∷ lines) left e w f = absurd w
comes_so states (want ∷ wants) n text why (line ∷ lines) left e w f =
    let rest = flat_map line_text lines ++ left in
    let more : n + suc (length lines) ≡ n + 1 + length lines = omega arith in
    inr (
      line,
      rest,
      e ∙ append_assoc (line_text line) (flat_map line_text lines) left,
      w.0,
      comes_so states wants (n + 1) rest why lines left refl w.1 (subst (λ m. IsFaultAt (slice_get wants (length lines)) m left why) more f),
    )

-- ---- the law
fault_is : (text : List ℕ) (why : StateRefusal) (states : ℕ) → Comes states (file_lines states) 1 text (Some why) → IsStateFault text why
fault_is text why states h =
    let t = told states (file_lines states) 1 text why h in
    let number : 1 + length t.lines ≡ length t.lines + 1 = omega arith in
    record {
      states = states;
      lines = t.lines;
      left = t.left;
      text_is = t.text_is;
      wanted = t.wanted;
      fault = subst (λ m. IsFaultAt (slice_get (file_lines states) (length t.lines)) m t.left why) number t.fault;
    }

fault_comes : (text : List ℕ) (why : StateRefusal) (f : IsStateFault text why) → Comes f.states (file_lines f.states) 1 text (Some why)
fault_comes text why f =
    let number : length f.lines + 1 ≡ 1 + length f.lines = omega arith in
    comes_so f.states (file_lines f.states) 1 text why f.lines f.left f.text_is f.wanted
    (subst (λ m. IsFaultAt (slice_get (file_lines f.states) (length f.lines)) m f.left why) number f.fault)

only_refusal : (text : List ℕ) (why : StateRefusal) (r : Result StateFileView StateRefusal) → Whole text r → (states : ℕ) → Comes states (file_lines states) 1 text (Some why) → r ≡ Err why
only_refusal text why (Ok file) h states g = let e = one_end h.0 states text None (Some why) h.1 g in absurd (cc)
only_refusal text why (Err other) h states g = let e = one_end h.0 states text (Some other) (Some why) h.1 g in let same : other ≡ why = cc in ap Err same

pub faults_are_told : (text : List ℕ) (why : StateRefusal) → (state_of text ≡ Err why) ↔ IsStateFault text why
faults_are_told text why = (
  λ e. let h = rw e at (whole text) in fault_is text why h.0 h.1,
  λ f. only_refusal text why (state_of text) (whole text) f.states (fault_comes text why f),
)
