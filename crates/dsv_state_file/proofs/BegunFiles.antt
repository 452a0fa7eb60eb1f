-- Lines that are as wanted, the first ones of a file, begin some file's text.
use Rattle.std.proofs.Common.{◌≡◌, ◌∙◌, sym, ap, ℕ, zero, suc, ◌+◌, ◌≤◌, List, [], ◌∷◌, ◌++◌, replicate, Some, None, decimal, refl, arith, codes, append_assoc, inr}
use Rattle.std.specs.Prelude.{Result, Ok, Err}
use Rattle.std.specs.List.{All, flat_map}
use Rattle.std.proofs.lemmas.List.{length-replicate}
use Rattle.std.proofs.lemmas.List.Elements.{All-nil, All-cons, All-head, All-tail, All-append, All-replicate}
use Rattle.std.proofs.lemmas.Fmt.{decimal_digit}
use Rattle.dsv_algebra.specs.Gcd.{gcd}
use Rattle.dsv_fraction.specs.Ratio as ratio
use Rattle.dsv_lines.specs.Texts.{Line, IsPlain, line_text}
use Rattle.dsv_lines.proofs.WrittenNumerals.{decimal_plain}
use Rattle.dsv_state_file.specs.Faults.{WantedNumber, AreWanted, Meaning, Means, WantedLine, vector_line, version_line, format_line, states_line, end_line, matrix_lines, file_lines, IsAsWanted, AreAsWanted, IsStateFault}
use Rattle.dsv_state_file.specs.Limits.{most_states}
use Rattle.dsv_state_file.specs.Reading.{state_of}
use Rattle.dsv_state_file.specs.StateFiles.{StateFileView}
use Rattle.dsv_state_file.specs.StateTexts.{IsDecimal, IsStateText}
use Rattle.dsv_state_file.specs.declared.refusal.StateRefusal.{StateRefusal}
use Rattle.dsv_state_file.proofs.FaultLaws.{Whole, whole, one_end}
use Rattle.dsv_state_file.proofs.FaultStages.{Comes}
use Rattle.dsv_state_file.proofs.LineFaults.{same_decimal}
use Rattle.dsv_state_file.proofs.ReadFiles.{state_read}

-- ---- a line for each that is wanted
abbrev HasLine : ℕ → WantedLine → Type 0
HasLine states want = (line : Line) × IsAsWanted states want line

zero_is : IsDecimal (codes "0") ratio.zero
unfolding gcd
zero_is = record { is = refl; bare = refl }

zeros_are : (n : ℕ) → AreWanted (replicate n WantedNumber.fraction) (replicate n (codes "0"))
zeros_are zero = tt
zeros_are (suc n) = ((ratio.zero, zero_is), zeros_are n)

zeros : (word : List ℕ) (count states : ℕ) → HasLine states (vector_line word count)
zeros word count states =
    let words = replicate count (codes "0") in (
      word ∷ words,
      record {
        words = words;
        line_is = refl;
        are_words = record {
          plain = All-replicate IsPlain count (codes "0") refl;
          many = length-replicate count (codes "0") ∙ sym (length-replicate count WantedNumber.fraction);
        };
        numbers = zeros_are count;
        meaning = tt;
      },
    )

one_plain : (word : List ℕ) → IsPlain word → All IsPlain (word ∷ [])
one_plain word h = All-cons IsPlain word [] h (All-nil IsPlain)

version : (states : ℕ) → HasLine states version_line
version states = (
  codes "dsv-state-space" ∷ codes "1" ∷ [],
  record {
    words = codes "1" ∷ [];
    line_is = refl;
    are_words = record { plain = one_plain (codes "1") refl; many = refl };
    numbers = ((1, omega arith, omega arith, sym (decimal_digit 1 (omega arith))), tt);
    meaning = tt;
  },
)

format : (states : ℕ) → HasLine states format_line
format states =
    let one : codes "1" ≡ decimal 1 = sym (decimal_digit 1 (omega arith)) in (
      codes "format" ∷ codes "1" ∷ codes "1" ∷ [],
      record {
        words = codes "1" ∷ codes "1" ∷ [];
        line_is = refl;
        are_words = record { plain = All-cons IsPlain (codes "1") (codes "1" ∷ []) refl (one_plain (codes "1") refl); many = refl };
        numbers = ((1, omega arith, omega arith, one), ((1, omega arith, omega arith, one), tt));
        meaning = (1, 1, ap (λ d. d ∷ d ∷ []) one, omega arith, omega arith);
      },
    )

order : (states : ℕ) → 1 ≤ states → states ≤ most_states → HasLine states states_line
order states some few = (
  codes "states" ∷ decimal states ∷ [],
  record {
    words = decimal states ∷ [];
    line_is = refl;
    are_words = record { plain = one_plain (decimal states) (decimal_plain states (omega (arith, few))); many = refl };
    numbers = ((states, some, few, refl), tt);
    meaning = (refl, few);
  },
)

end : (states : ℕ) → HasLine states end_line
end states = (codes "end" ∷ [], record { words = []; line_is = refl; are_words = record { plain = All-nil IsPlain; many = refl }; numbers = tt; meaning = tt })

all_have : (states : ℕ) → 1 ≤ states → states ≤ most_states → All (HasLine states) (file_lines states)
all_have states some few =
    let has = HasLine states in
    let a = vector_line (codes "a") states in
    let b = vector_line (codes "b") states in
    let c = vector_line (codes "c") states in
    let d = vector_line (codes "d") 1 in
    let range = vector_line (codes "range") 2 in
    let last = b ∷ c ∷ d ∷ end_line ∷ [] in
    let matrices : All has (matrix_lines states) =
    All-append has (replicate states a) last (All-replicate has states a (zeros (codes "a") states states))
    (All-cons has b (c ∷ d ∷ end_line ∷ []) (zeros (codes "b") states states) (All-cons has c (d ∷ end_line ∷ []) (zeros (codes "c") states states)
    (All-cons has d (end_line ∷ []) (zeros (codes "d") 1 states) (All-cons has end_line [] (end states) (All-nil has))))) in
    All-cons has version_line (format_line ∷ range ∷ states_line ∷ matrix_lines states) (version states)
    (All-cons has format_line (range ∷ states_line ∷ matrix_lines states) (format states)
    (All-cons has range (states_line ∷ matrix_lines states) (zeros (codes "range") 2 states)
    (All-cons has states_line (matrix_lines states) (order states some few) matrices)))

-- ---- the lines that are missing
filled : (states : ℕ) (wants : List WantedLine) (n : ℕ) → All (HasLine states) wants → (text : List ℕ) × Comes states wants n text None
filled states [] n h = ([], refl)
filled states (want ∷ wants) n h =
    let first = All-head (HasLine states) want wants h in
    let more = filled states wants (n + 1) (All-tail (HasLine states) want wants h) in
    (line_text first.0 ++ more.0, inr (first.0, more.0, refl, first.1, more.1))

goes_on : (states : ℕ) (wants : List WantedLine) (n : ℕ) (lines : List Line) → All (HasLine states) wants → AreAsWanted states wants lines
    → (rest : List ℕ) × Comes states wants n (flat_map line_text lines ++ rest) None
goes_on states wants n [] h w = filled states wants n h
goes_on states [] n (line ∷ lines) h w = absurd w
goes_on states (want ∷ wants) n (line ∷ lines) h w =
    let more = goes_on states wants (n + 1) lines (All-tail (HasLine states) want wants h) w.1 in
    (more.0, inr (line, flat_map line_text lines ++ more.0, append_assoc (line_text line) (flat_map line_text lines) more.0, w.0, more.1))

-- ---- the number of states
carried : (s t : ℕ) (want : WantedLine) (line : Line) → ((words : Line) → Means want.meaning s words → Means want.meaning t words) → IsAsWanted s want line → IsAsWanted t want line
carried s t want line h w = record { words = w.words; line_is = w.line_is; are_words = w.are_words; numbers = w.numbers; meaning = h w.words w.meaning }

count_in_range : (s : ℕ) (words : Line) → AreWanted states_line.numbers words → Means Meaning.order s words → (1 ≤ s) × (s ≤ most_states)
count_in_range s [] n m = absurd n
count_in_range s (w ∷ []) n m =
    let texts : decimal s ≡ decimal (n.0.0) = let a = m.0 in let b = n.0.3 in cc in
    let same = same_decimal s n.0.0 (omega (arith, m.1)) (omega (arith, n.0.2)) texts in
    (omega (arith, same, n.0.1), m.1)
count_in_range s (w ∷ v ∷ ws) n m = absurd (n.1)

-- lines up to that of the states don't depend on how many there are
some_states : (s : ℕ) (lines : List Line) → AreAsWanted s (file_lines s) lines → (t : ℕ) × (1 ≤ t) × (t ≤ most_states) × AreAsWanted t (file_lines t) lines
some_states s [] w = (1, omega arith, omega arith, tt)
some_states s (a ∷ []) w = (1, omega arith, omega arith, (carried s 1 version_line a (λ _ m. m) w.0, tt))
some_states s (a ∷ b ∷ []) w = (1, omega arith, omega arith, (carried s 1 version_line a (λ _ m. m) w.0, (carried s 1 format_line b (λ _ m. m) w.1.0, tt)))
some_states s (a ∷ b ∷ c ∷ []) w = (
  1,
  omega arith,
  omega arith,
  (carried s 1 version_line a (λ _ m. m) w.0, (carried s 1 format_line b (λ _ m. m) w.1.0, (carried s 1 (vector_line (codes "range") 2) c (λ _ m. m) w.1.1.0, tt))),
)
some_states s (a ∷ b ∷ c ∷ d ∷ lines) w =
    let d_is = w.1.1.1.0 in
    let r = count_in_range s d_is.words d_is.numbers d_is.meaning in
    (s, r.0, r.1, w)

-- ---- a file
accepted : (text : List ℕ) (r : Result StateFileView StateRefusal) → Whole text r → (states : ℕ) → Comes states (file_lines states) 1 text None → (file : StateFileView) × (r ≡ Ok file)
accepted text (Ok file) h states c = (file, refl)
accepted text (Err why) h states c = let e = one_end h.0 states text (Some why) None h.1 c in absurd (cc)

pub begun : (text : List ℕ) (why : StateRefusal) (fault : IsStateFault text why) → (file : StateFileView) × (rest : List ℕ) × IsStateText (flat_map line_text fault.lines ++ rest) file
begun text why fault =
    let t = some_states fault.states fault.lines fault.wanted in
    let g = goes_on t.0 (file_lines t.0) 1 fault.lines (all_have t.0 t.1 t.2) t.3 in
    let all = flat_map line_text fault.lines ++ g.0 in
    let a = accepted all (state_of all) (whole all) t.0 g.1 in
    (a.0, g.0, state_read all a.0 a.1)
