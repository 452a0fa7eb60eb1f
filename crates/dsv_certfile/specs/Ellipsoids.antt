-- Texts that offer an ellipsoid: which ellipsoids they spell, what a text says, and how an
-- ellipsoid is written.
use Rattle.std.specs.Prelude.{ℕ, ◌+◌, ◌≤◌, List, [], ◌∷◌, ◌++◌, codes, decimal}
use Rattle.std.specs.Prelude.{Result, Ok, Err, if◌then◌else◌, slice_index_or, ℤ, pos}
use Rattle.std.specs.List.{flat_map}
use Rattle.std.specs.Fmt.{signed_decimal}
use Rattle.std.specs.Int.RustNames.{unsigned_abs}
use Rattle.std.specs.Str.{bytes_eq}
use Rattle.dsv_text.specs.Stages.{◌>>=◌}
use Rattle.dsv_lines.specs.Pieces.{LinesLeft, all_lines}
use Rattle.dsv_lines.specs.Readings.{Reading, reading_of}
use Rattle.dsv_lines.specs.Texts.{Line, line_text}
use Rattle.dsv_forms.specs.declared.offers.Form.{Form}
use Rattle.dsv_forms.specs.declared.offers.Squares.{Squares}
use Rattle.dsv_certfile.specs.Bodies.{line_in, numbers_in, word_in, form_in, squares_of, squares_in}
use Rattle.dsv_certfile.specs.Bodies.{whole_text}
use Rattle.dsv_certfile.specs.Headings.{count_at}
use Rattle.dsv_certfile.specs.Keywords.{keyword_text, ellipsoid_version}
use Rattle.dsv_certfile.specs.Lawful.{IsWhole, IsForm, AreSquares}
use Rattle.dsv_certfile.specs.Limits.{most_ellipsoid_states, most_squares, greatest_bound}
use Rattle.dsv_certfile.specs.Texts.{word_line, rows_lines, squares_lines, squares_body}
use Rattle.dsv_certfile.specs.declared.ellipsoid.Ellipsoid.{Ellipsoid}
use Rattle.dsv_certfile.specs.declared.ellipsoid_reader.First.{First}
use Rattle.dsv_certfile.specs.declared.ellipsoid_reader.Levels.{Levels}
use Rattle.dsv_certfile.specs.declared.fault.TextFault.{TextFault}
use Rattle.dsv_certfile.specs.declared.fault.TextFault.TheVariants as fault
use Rattle.dsv_certfile.specs.declared.fault.TextRefusal.{TextRefusal}
use Rattle.dsv_certfile.specs.declared.keyword.Keyword.TheVariants as keyword
use Rattle.dsv_certfile.specs.declared.numbers.NumberRange.TheVariants as range
use Rattle.dsv_certfile.specs.declared.places.Place.{Place}
use Rattle.dsv_certfile.specs.declared.places.Place.TheVariants as place

-- ---- the ellipsoids that texts spell
-- a number of the outputs' bound
abbrev pub IsBound : ℤ → Type 0
IsBound z = unsigned_abs z ≤ greatest_bound

-- All numbers are in the ranges of the text, and the places that it doesn't write hold 0.
pub record IsLawfulEllipsoid (offer : Ellipsoid) : Type 0 where
  pub some : 1 ≤ offer.form.d
  pub few : offer.form.d ≤ most_ellipsoid_states
  pub form : IsForm offer.form
  pub level : IsWhole offer.level
  pub lambda : IsWhole offer.lambda
  pub mu : IsWhole offer.mu
  pub step : AreSquares (offer.form.d + 1) offer.step
  pub kappa : IsWhole offer.kappa
  pub nu : IsWhole offer.nu
  pub bound : IsBound offer.bound
  pub first : AreSquares offer.form.d offer.first

-- ---- what a text says
-- the first line of each text
abbrev pub version_of_ellipsoid : List ℕ → Result (Unit {0}) TextFault
version_of_ellipsoid bytes =
    if bytes_eq bytes ellipsoid_version then Ok tt else Err fault.Version

-- the line `states N`
abbrev pub states_places : List Place
states_places = place.Word keyword.States ∷ place.Number (range.Positive most_ellipsoid_states) ∷ []

-- the version, and how many states there are
abbrev pub states_in : LinesLeft → Result (Reading ℕ) TextRefusal
states_in ls =
    line_in version_of_ellipsoid ls >>= λ version.
    numbers_in states_places version.left >>= λ states.
    Ok (reading_of (count_at states.value 0) states.left)

-- the line `level L lambda A mu B`
abbrev pub levels_places : List Place
levels_places = place.Word keyword.Level ∷ place.Number range.Whole
    ∷ place.Word keyword.Lambda ∷ place.Number range.Whole
    ∷ place.Word keyword.Mu ∷ place.Number range.Whole ∷ []

abbrev pub levels_with : List ℤ → Levels
levels_with numbers = record {
  level = slice_index_or numbers 0 (pos 0);
  lambda = slice_index_or numbers 1 (pos 0);
  mu = slice_index_or numbers 2 (pos 0);
}

abbrev pub levels_in : LinesLeft → Result (Reading Levels) TextRefusal
levels_in ls =
    numbers_in levels_places ls >>= λ numbers.
    Ok (reading_of (levels_with numbers.value) numbers.left)

-- the line `first KAPPA NU Y M COUNT`
abbrev pub first_places : List Place
first_places = place.Word keyword.First ∷ place.Number range.Whole ∷ place.Number range.Whole
    ∷ place.Number range.Bound ∷ place.Number range.Whole
    ∷ place.Number (range.UpTo most_squares) ∷ []

abbrev pub first_with : List ℤ → Squares → First
first_with numbers squares = record {
  kappa = slice_index_or numbers 0 (pos 0);
  nu = slice_index_or numbers 1 (pos 0);
  bound = slice_index_or numbers 2 (pos 0);
  squares = squares;
}

-- such a line, and the squares of the first form, of d places
abbrev pub first_in : ℕ → LinesLeft → Result (Reading First) TextRefusal
first_in d ls =
    numbers_in first_places ls >>= λ h.
    squares_of d (slice_index_or h.value 3 (pos 0)) (count_at h.value 4) h.left >>= λ squares.
    Ok (reading_of (first_with h.value squares.value) squares.left)

abbrev pub ellipsoid_with : Form → Levels → Squares → First → Ellipsoid
ellipsoid_with form levels step first = record {
  form = form;
  level = levels.level;
  lambda = levels.lambda;
  mu = levels.mu;
  step = step;
  kappa = first.kappa;
  nu = first.nu;
  bound = first.bound;
  first = first.squares;
}

-- what follows the line of the states, of which there are d: the form, the line of the level, the
-- squares of the step form, which has a place more, those of the first form, and the last line
abbrev pub ellipsoid_after : ℕ → LinesLeft → Result (Reading Ellipsoid) TextRefusal
ellipsoid_after d ls =
    form_in d ls >>= λ form.
    levels_in form.left >>= λ levels.
    squares_in keyword.Step (d + 1) levels.left >>= λ step.
    first_in d step.left >>= λ first.
    word_in keyword.End first.left >>= λ end.
    Ok (reading_of (ellipsoid_with form.value levels.value step.value first.value) end.left)

-- the ellipsoid that a whole text spells, or why it spells none and at which line
abbrev pub ellipsoid_in : List ℕ → Result Ellipsoid TextRefusal
ellipsoid_in bytes =
    states_in (all_lines bytes) >>= λ states.
    ellipsoid_after states.value states.left >>= λ body.
    whole_text body.value body.left.number body.left.lines

-- ---- how an ellipsoid is written
abbrev pub ellipsoid_version_line : Line
ellipsoid_version_line = codes "dsv-ellipsoid" ∷ codes "1" ∷ []

abbrev pub states_line : ℕ → Line
states_line d = keyword_text keyword.States ∷ decimal d ∷ []

abbrev pub levels_line : Ellipsoid → Line
levels_line offer = keyword_text keyword.Level ∷ signed_decimal offer.level
    ∷ keyword_text keyword.Lambda ∷ signed_decimal offer.lambda
    ∷ keyword_text keyword.Mu ∷ signed_decimal offer.mu ∷ []

abbrev pub first_line : Ellipsoid → Line
first_line offer = keyword_text keyword.First ∷ signed_decimal offer.kappa
    ∷ signed_decimal offer.nu ∷ signed_decimal offer.bound
    ∷ signed_decimal offer.first.m ∷ decimal offer.first.count ∷ []

-- the line of the first form, its squares, and the rest
abbrev pub first_lines : Ellipsoid → List Line
first_lines offer = first_line offer ∷ squares_body offer.form.d offer.first

-- the lines after that of the states, but for the last one
abbrev pub ellipsoid_body : Ellipsoid → List Line
ellipsoid_body offer =
    rows_lines keyword.Form offer.form.d offer.form.rows
    ++ levels_line offer ∷ (squares_lines keyword.Step (offer.form.d + 1) offer.step
    ++ first_lines offer)

abbrev pub ellipsoid_lines : Ellipsoid → List Line
ellipsoid_lines offer = ellipsoid_version_line ∷ states_line offer.form.d
    ∷ (ellipsoid_body offer ++ word_line keyword.End ∷ [])

-- the whole text
abbrev pub ellipsoid_text : Ellipsoid → List ℕ
ellipsoid_text offer = flat_map line_text (ellipsoid_lines offer)
