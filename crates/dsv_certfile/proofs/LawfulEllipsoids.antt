-- An ellipsoid that was read has numbers of their ranges, and 0 elsewhere, and its lines are those that it was read of.
use Rattle.std.proofs.Common.{◌≡◌, ◌∙◌, sym, ap, subst, ℕ, ◌+◌, ◌≤◌, Bool, true, false, List, [], ◌∷◌, ◌++◌, get_or, Ok, Err, IfOk, ℤ, pos, refl, arith}
use Rattle.std.specs.Prelude.{if◌then◌else◌}
use Rattle.std.specs.Fmt.{signed_decimal}
use Rattle.std.specs.Str.{bytes_eq}
use Rattle.std.proofs.lemmas.Int.{ints}
use Rattle.std.proofs.lemmas.Result.{IfOk-at_ok}
use Rattle.std.proofs.lemmas.Slice.Eq.{bytes_eq-Decides}
use Rattle.dsv_text.specs.Stages.{◌>>=◌}
use Rattle.dsv_forms.specs.declared.offers.Form.{Form}
use Rattle.dsv_forms.specs.declared.offers.Squares.{Squares}
use Rattle.dsv_lines.specs.Pieces.{pieces_of, all_lines}
use Rattle.dsv_lines.specs.Readings.{Reading}
use Rattle.dsv_lines.specs.Texts.{Line}
use Rattle.dsv_certfile.specs.Bodies.{line_in, numbers_in, word_in, form_in, squares_of, squares_in, whole_text}
use Rattle.dsv_certfile.specs.Ellipsoids.{IsBound, IsLawfulEllipsoid, version_of_ellipsoid, states_places, states_in, levels_places, levels_with, levels_in, first_places, first_with, first_in, ellipsoid_with, ellipsoid_after, ellipsoid_in}
use Rattle.dsv_certfile.specs.Ellipsoids.{ellipsoid_version_line, states_line, levels_line, first_line, ellipsoid_body, ellipsoid_lines, ellipsoid_text}
use Rattle.dsv_certfile.specs.Headings.{count_at}
use Rattle.dsv_certfile.specs.Keywords.{keyword_text, ellipsoid_version}
use Rattle.dsv_certfile.specs.Lawful.{IsWhole, AreSquares}
use Rattle.dsv_certfile.specs.Limits.{most_places, most_ellipsoid_states, most_squares}
use Rattle.dsv_certfile.specs.Ranges.{AreOf}
use Rattle.dsv_certfile.specs.Texts.{word_line, rows_lines, squares_body, squares_lines}
use Rattle.dsv_certfile.specs.declared.ellipsoid.Ellipsoid.{Ellipsoid}
use Rattle.dsv_certfile.specs.declared.ellipsoid_reader.First.{First}
use Rattle.dsv_certfile.specs.declared.ellipsoid_reader.Levels.{Levels}
use Rattle.dsv_certfile.specs.declared.fault.TextFault.{TextFault}
use Rattle.dsv_certfile.specs.declared.fault.TextFault.TheVariants as fault
use Rattle.dsv_certfile.specs.declared.keyword.Keyword.TheVariants as keyword
use Rattle.dsv_certfile.proofs.LawfulFalls.{IsFormOf, AreSquaresOf, AreSquaresAfter, yields_form, yields_squares_of, yields_squares}
use Rattle.dsv_certfile.proofs.LawfulParts.{then_has, whole_text_has, Taken, Yields, yields_both, yields_made, yields_line, joined, read_lines}
use Rattle.dsv_certfile.proofs.ReadPlaces.{spelled_line, signed_decimal-count, yields_numbers, yields_word}
use Rattle.dsv_certfile.proofs.WrittenEllipsoids.{version_after, first_after, ellipsoid_first, ellipsoid_step, ellipsoid_levels, ellipsoid_form, body_parts}

-- ---- the number of states
-- there are so many states, vs these lines say
abbrev pub AreStates : ℕ → List Line → Type 0
AreStates d ls = (1 ≤ d) × (d ≤ most_ellipsoid_states) × (ls ≡ ellipsoid_version_line ∷ states_line d ∷ [])

version_step : (bytes : List ℕ) (b : Bool) → bytes_eq bytes ellipsoid_version ≡ b
    → IfOk {T = Unit {0}} {E = TextFault} (if b then Ok tt else Err fault.Version) (λ _. pieces_of bytes ∷ [] ≡ ellipsoid_version_line ∷ [])
version_step bytes true e = ap (λ t. pieces_of t ∷ []) ((bytes_eq-Decides bytes ellipsoid_version).0 e)
version_step bytes false e = tt

states_are : (zs : List ℤ) → AreOf states_places zs
    → (1 ≤ count_at zs 0) × (count_at zs 0 ≤ most_ellipsoid_states) × (spelled_line states_places zs ∷ [] ≡ states_line (count_at zs 0) ∷ [])
states_are [] h = absurd h
states_are (z ∷ []) h =
    (omega (arith, ints, h.0.0), h.0.1, ap (λ p. (keyword_text keyword.States ∷ p ∷ []) ∷ []) (signed_decimal-count z (omega (arith, ints, h.0.0))))
states_are (z ∷ y ∷ zs) h = absurd (h.1)

yields_states : Yields states_in AreStates
yields_states =
    yields_both (line_in version_of_ellipsoid) version_after (λ _ ls. ls ≡ ellipsoid_version_line ∷ []) AreStates
    (yields_line version_of_ellipsoid (λ _ ls. ls ≡ ellipsoid_version_line ∷ []) (λ bytes. version_step bytes (bytes_eq bytes ellipsoid_version) refl))
    (λ _ vs a. yields_made (numbers_in states_places) (λ zs. count_at zs 0)
    (λ zs ls. (1 ≤ count_at zs 0) × (count_at zs 0 ≤ most_ellipsoid_states) × (ls ≡ states_line (count_at zs 0) ∷ [])) (λ d ls. AreStates d (vs ++ ls))
    (yields_numbers states_places (λ zs ls. (1 ≤ count_at zs 0) × (count_at zs 0 ≤ most_ellipsoid_states) × (ls ≡ states_line (count_at zs 0) ∷ [])) refl states_are)
    (λ zs ls h. (h.0, h.1, joined a h.2)))

-- ---- the level
record AreLevels (l : Levels) (ls : List Line) : Type 0 where
  level : IsWhole l.level
  lambda : IsWhole l.lambda
  mu : IsWhole l.mu
  lines : ls ≡ spelled_line levels_places (l.level ∷ l.lambda ∷ l.mu ∷ []) ∷ []

levels_are : (zs : List ℤ) → AreOf levels_places zs → AreLevels (levels_with zs) (spelled_line levels_places zs ∷ [])
levels_are [] h = absurd h
levels_are (x ∷ []) h = absurd (h.1)
levels_are (x ∷ y ∷ []) h = absurd (h.1.1)
levels_are (x ∷ y ∷ z ∷ []) h = record { level = h.0; lambda = h.1.0; mu = h.1.1.0; lines = refl }
levels_are (x ∷ y ∷ z ∷ w ∷ zs) h = absurd (h.1.1.1)

yields_levels : Yields levels_in AreLevels
yields_levels =
    yields_made (numbers_in levels_places) levels_with (λ zs ls. AreLevels (levels_with zs) ls) AreLevels
    (yields_numbers levels_places (λ zs ls. AreLevels (levels_with zs) ls) refl levels_are) (λ zs ls h. h)

-- ---- the first form
record IsFirstHead (zs : List ℤ) (ls : List Line) : Type 0 where
  kappa : IsWhole (get_or zs 0 (pos 0))
  nu : IsWhole (get_or zs 1 (pos 0))
  bound : IsBound (get_or zs 2 (pos 0))
  factor : IsWhole (get_or zs 3 (pos 0))
  few : count_at zs 4 ≤ most_squares
  lines : ls ≡ spelled_line first_places (get_or zs 0 (pos 0) ∷ get_or zs 1 (pos 0) ∷ get_or zs 2 (pos 0) ∷ get_or zs 3 (pos 0) ∷ pos (count_at zs 4) ∷ []) ∷ []

first_head : (zs : List ℤ) → AreOf first_places zs → IsFirstHead zs (spelled_line first_places zs ∷ [])
first_head [] h = absurd h
first_head (v ∷ []) h = absurd (h.1)
first_head (v ∷ w ∷ []) h = absurd (h.1.1)
first_head (v ∷ w ∷ x ∷ []) h = absurd (h.1.1.1)
first_head (v ∷ w ∷ x ∷ y ∷ []) h = absurd (h.1.1.1.1)
first_head (v ∷ w ∷ x ∷ y ∷ z ∷ []) h = record {
  kappa = h.0;
  nu = h.1.0;
  bound = h.1.1.0;
  factor = h.1.1.1.0;
  few = h.1.1.1.1.0.1;
  lines = ap (λ p. (keyword_text keyword.First ∷ signed_decimal v ∷ signed_decimal w ∷ signed_decimal x ∷ signed_decimal y ∷ p ∷ []) ∷ []) (signed_decimal-count z h.1.1.1.1.0.0);
}
first_head (v ∷ w ∷ x ∷ y ∷ z ∷ u ∷ zs) h = absurd (h.1.1.1.1.1)

record IsFirst (d : ℕ) (f : First) (ls : List Line) : Type 0 where
  kappa : IsWhole f.kappa
  nu : IsWhole f.nu
  bound : IsBound f.bound
  squares : AreSquares d f.squares
  lines : ls ≡ spelled_line first_places (f.kappa ∷ f.nu ∷ f.bound ∷ f.squares.m ∷ pos f.squares.count ∷ []) ∷ squares_body d f.squares

first_text : (d : ℕ) (zs : List ℤ) (s : Squares) (hs ls : List Line) → IsFirstHead zs hs → AreSquaresOf d (get_or zs 3 (pos 0)) (count_at zs 4) s ls → IsFirst d (first_with zs s) (hs ++ ls)
first_text d zs s hs ls h a =
    let text : ℤ → ℕ → Line = λ m count. spelled_line first_places (get_or zs 0 (pos 0) ∷ get_or zs 1 (pos 0) ∷ get_or zs 2 (pos 0) ∷ m ∷ pos count ∷ []) in
    record {
      kappa = h.kappa;
      nu = h.nu;
      bound = h.bound;
      squares = a.squares;
      lines = joined h.lines a.lines ∙ ap (λ m. text m (count_at zs 4) ∷ squares_body d s) (sym a.factor_is) ∙ ap (λ n. text s.m n ∷ squares_body d s) (sym a.many);
    }

yields_first : (d : ℕ) → d ≤ most_places → Yields (first_in d) (IsFirst d)
yields_first d h =
    yields_both (numbers_in first_places) (first_after d) IsFirstHead (IsFirst d) (yields_numbers first_places IsFirstHead refl first_head)
    (λ zs hs k. yields_made (squares_of d (get_or zs 3 (pos 0)) (count_at zs 4)) (first_with zs) (AreSquaresOf d (get_or zs 3 (pos 0)) (count_at zs 4)) (λ f ls. IsFirst d f (hs ++ ls))
    (yields_squares_of d (get_or zs 3 (pos 0)) (count_at zs 4) h k.few k.factor) (λ s ls a. first_text d zs s hs ls k a))

-- ---- all of it
-- the ellipsoid is lawful, and these are its lines after that of the states
record IsEllipsoidOf (d : ℕ) (offer : Ellipsoid) (ls : List Line) : Type 0 where
  places : offer.form.d ≡ d
  lawful : IsLawfulEllipsoid offer
  lines : ls ≡ ellipsoid_body offer ++ word_line keyword.End ∷ []

ellipsoid_has : (d : ℕ) (form : Form) (levels : Levels) (step : Squares) (first : First) (vs bs cs ds es : List Line) → 1 ≤ d → d ≤ most_ellipsoid_states
    → IsFormOf d form vs → AreLevels levels bs → AreSquaresAfter keyword.Step (d + 1) step cs → IsFirst d first ds → es ≡ word_line keyword.End ∷ []
    → IsEllipsoidOf d (ellipsoid_with form levels step first) (vs ++ (bs ++ (cs ++ (ds ++ es))))
ellipsoid_has d form levels step first vs bs cs ds es some few f l s i e =
    let n = form.d in
    let offer = ellipsoid_with form levels step first in
    let steps : AreSquaresAfter keyword.Step (n + 1) step cs = subst (λ k. AreSquaresAfter keyword.Step (k + 1) step cs) (sym f.places) s in
    let firsts : IsFirst n first ds = subst (λ k. IsFirst k first ds) (sym f.places) i in
    record {
      places = f.places;
      lawful = record {
        some = omega (arith, f.places, some);
        few = omega (arith, f.places, few);
        form = f.form;
        level = l.level;
        lambda = l.lambda;
        mu = l.mu;
        step = steps.0;
        kappa = i.kappa;
        nu = i.nu;
        bound = i.bound;
        first = firsts.squares;
      };
      lines = joined f.lines (joined l.lines (joined steps.1 (joined firsts.lines e)))
          ∙ body_parts (rows_lines keyword.Form n form.rows) (levels_line offer) (squares_lines keyword.Step (n + 1) step) (first_line offer) (squares_body n first.squares) (word_line keyword.End);
    }

yields_after : (d : ℕ) → 1 ≤ d → d ≤ most_ellipsoid_states → Yields (ellipsoid_after d) (IsEllipsoidOf d)
yields_after d some h =
    let few : d ≤ most_places = omega (arith, h) in
    let more : d + 1 ≤ most_places = omega (arith, h) in
    yields_both (form_in d) (ellipsoid_form d) (IsFormOf d) (IsEllipsoidOf d) (yields_form d few)
    (λ form vs f. yields_both levels_in (ellipsoid_levels d form) AreLevels (λ o ls. IsEllipsoidOf d o (vs ++ ls)) yields_levels
    (λ levels bs l. yields_both (squares_in keyword.Step (d + 1)) (ellipsoid_step d form levels) (AreSquaresAfter keyword.Step (d + 1)) (λ o ls. IsEllipsoidOf d o (vs ++ (bs ++ ls)))
    (yields_squares keyword.Step (d + 1) more)
    (λ step cs s. yields_both (first_in d) (ellipsoid_first form levels step) (IsFirst d) (λ o ls. IsEllipsoidOf d o (vs ++ (bs ++ (cs ++ ls)))) (yields_first d few)
    (λ first ds i. yields_made (word_in keyword.End) (λ _. ellipsoid_with form levels step first) (λ _ es. es ≡ word_line keyword.End ∷ [])
    (λ o ls. IsEllipsoidOf d o (vs ++ (bs ++ (cs ++ (ds ++ ls))))) (yields_word keyword.End)
    (λ _ es e. ellipsoid_has d form levels step first vs bs cs ds es some h f l s i e)))))

-- the ellipsoid is lawful, and the bytes are its text
abbrev IsEllipsoidText : List ℕ → Ellipsoid → Type 0
IsEllipsoidText bytes offer = IsLawfulEllipsoid offer × (bytes ≡ ellipsoid_text offer)

ellipsoid_in_has : (bytes : List ℕ) → IfOk (ellipsoid_in bytes) (IsEllipsoidText bytes)
ellipsoid_in_has bytes =
    then_has (states_in (all_lines bytes)) (λ (d : Reading ℕ). ellipsoid_after d.value d.left >>= λ body. whole_text body.value body.left.number body.left.lines)
    (Taken AreStates (all_lines bytes).lines) (IsEllipsoidText bytes) (yields_states (all_lines bytes))
    (λ d h. then_has (ellipsoid_after d.value d.left) (λ (body : Reading Ellipsoid). whole_text body.value body.left.number body.left.lines)
    (Taken (IsEllipsoidOf d.value) d.left.lines) (IsEllipsoidText bytes) (yields_after d.value h.has.0 h.has.1 d.left)
    (λ body l. whole_text_has body.value body.left.number body.left.lines (IsEllipsoidText bytes)
    (λ e. (
      l.has.lawful,
      read_lines bytes h.lines l.lines d.left.lines body.left.lines (ellipsoid_lines body.value) h.cut l.cut e
          (joined (h.has.2 ∙ ap (λ n. ellipsoid_version_line ∷ states_line n ∷ []) (sym l.has.places)) l.has.lines),
    ))))

pub ellipsoid_is_lawful : (bytes : List ℕ) (offer : Ellipsoid) → ellipsoid_in bytes ≡ Ok offer → IsLawfulEllipsoid offer
ellipsoid_is_lawful bytes offer e = (IfOk-at_ok (IsEllipsoidText bytes) e (ellipsoid_in_has bytes)).0

pub text_of_ellipsoid : (bytes : List ℕ) (offer : Ellipsoid) → ellipsoid_in bytes ≡ Ok offer → bytes ≡ ellipsoid_text offer
text_of_ellipsoid bytes offer e = (IfOk-at_ok (IsEllipsoidText bytes) e (ellipsoid_in_has bytes)).1
