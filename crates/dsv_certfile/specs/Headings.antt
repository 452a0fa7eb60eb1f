-- The lines that each certificate begins with: the version, the job, the format of the words where
-- the version says it, the kind.
use Rattle.std.specs.Prelude.{ℕ, List, [], ◌∷◌, drop, Option, Some, None, Result}
use Rattle.std.specs.Prelude.{Ok, Err, if◌then◌else◌, slice_index_or, ℤ, pos}
use Rattle.std.specs.Str.{bytes_eq}
use Rattle.std.specs.Int.RustNames.{unsigned_abs}
use Rattle.dsv_text.specs.Stages.{◌>>=◌}
use Rattle.dsv_names.specs.Names.{value_named}
use Rattle.dsv_names.specs.Properties.{property_name, properties}
use Rattle.dsv_names.specs.Realisations.{realisation_name, realisations}
use Rattle.dsv_names.specs.Roundings.{rounding_name, roundings}
use Rattle.dsv_names.specs.OverflowModes.{overflow_mode_name, overflow_modes}
use Rattle.dsv_certfile.specs.Keywords.{keyword_text, version_text, unbounded_text, plant_text}
use Rattle.dsv_certfile.specs.Kinds.{kind_name, kinds, is_kind_of}
use Rattle.dsv_certfile.specs.Limits.{greatest_depth, greatest_int_bits, greatest_frac_bits}
use Rattle.dsv_certfile.specs.Limits.{most_gain_depth, most_box_ranges, most_places}
use Rattle.dsv_certfile.specs.Limits.{most_coefficients}
use Rattle.dsv_template.specs.Limits.{most_inequalities}
use Rattle.dsv_certfile.specs.Numerals.{samples_of}
use Rattle.dsv_lines.specs.Pieces.{pieces_of, piece_at}
use Rattle.dsv_certfile.specs.Places.{line_numbers}
use Rattle.dsv_certfile.specs.declared.fault.TextFault.{TextFault}
use Rattle.dsv_certfile.specs.declared.fault.TextFault.TheVariants as fault
use Rattle.dsv_certfile.specs.declared.job.CertWords.{CertWords}
use Rattle.dsv_certfile.specs.declared.job.CertWords.TheVariants as words
use Rattle.dsv_certfile.specs.declared.job.CertifiedJob.{CertifiedJob}
use Rattle.dsv_certfile.specs.declared.job.Size.{Size}
use Rattle.dsv_certfile.specs.declared.job.Size.TheVariants as size
use Rattle.dsv_certfile.specs.declared.job.Version.{Version}
use Rattle.dsv_certfile.specs.declared.job.Version.TheVariants as version
use Rattle.dsv_certfile.specs.declared.keyword.Keyword.TheVariants as keyword
use Rattle.dsv_certfile.specs.declared.kind.Kind.{Kind}
use Rattle.dsv_certfile.specs.declared.kind.Kind.TheVariants as kind
use Rattle.dsv_certfile.specs.declared.kind.KindHead.{KindHead}
use Rattle.dsv_certfile.specs.declared.kind.KindHead.TheVariants as head
use Rattle.dsv_certfile.specs.declared.numbers.NumberRange.TheVariants as range
use Rattle.dsv_certfile.specs.declared.places.Place.{Place}
use Rattle.dsv_certfile.specs.declared.places.Place.TheVariants as place

-- ---- the version
abbrev pub version_in : List ℕ → Result Version TextFault
version_in line = if bytes_eq line (version_text version.One) then Ok version.One
    else (if bytes_eq line (version_text version.Two) then Ok version.Two else Err fault.Version)

-- ---- the job
-- what a name names, and KIND where it names nothing
abbrev pub or_kind : {X : Type 0} → Option X → Result X TextFault
or_kind (Some x) = Ok x
or_kind None = Err fault.Kind

-- a number, and NUMBER where there is none
abbrev pub or_number : {X : Type 0} → Option X → Result X TextFault
or_number (Some x) = Ok x
or_number None = Err fault.Number

-- what was read of a line, where no pieces are left
abbrev pub whole_line : {X : Type 0} → X → List (List ℕ) → Result X TextFault
whole_line x [] = Ok x
whole_line x (piece ∷ pieces) = Err fault.Line

-- the value of the name at a place of the line; a piece that isn't there is no name
abbrev pub name_in : {X : Type 0} → (X → List ℕ) → List X → List (List ℕ) → ℕ → Result X TextFault
name_in name values pieces i = or_kind (value_named name values (piece_at pieces i))

-- the line has this word at the place, or no kind is said
abbrev pub beginning : List ℕ → List (List ℕ) → Result (Unit {0}) TextFault
beginning word pieces = if bytes_eq (piece_at pieces 0) word then Ok tt else Err fault.Kind

-- how many samples, or that there is no bound, or that the property is that of a loop
abbrev pub size_of : List ℕ → Result Size TextFault
size_of piece = if bytes_eq piece unbounded_text then Ok size.Unbounded
    else (if bytes_eq piece plant_text then Ok size.OfLoop
    else or_number (samples_of piece) >>= λ k. Ok (size.Samples k))

-- the size that the pieces after the names say
abbrev pub size_in : List (List ℕ) → Result Size TextFault
size_in [] = Ok size.NoSize
size_in (piece ∷ pieces) = size_of piece >>= λ s. whole_line s pieces

-- the job line: `job`, the names of the property, the realisation, the rounding and the overflow
-- mode, and the size where there is one; it says nothing of the words
abbrev pub job_in : List (List ℕ) → Result CertifiedJob TextFault
job_in pieces =
    beginning (keyword_text keyword.Job) pieces >>= λ _.
    name_in property_name properties pieces 1 >>= λ p.
    name_in realisation_name realisations pieces 2 >>= λ r.
    name_in rounding_name roundings pieces 3 >>= λ o.
    name_in overflow_mode_name overflow_modes pieces 4 >>= λ m.
    size_in (drop 5 pieces) >>= λ s.
    Ok (record {
      property = p;
      design = record { realisation = r; rounding = o; overflow = m };
      words = words.Unsaid;
      size = s;
    })

-- the job of a line
abbrev pub line_job : List ℕ → Result CertifiedJob TextFault
line_job bytes = job_in (pieces_of bytes)

-- ---- the format of the words
-- the line `format`, and how many bits stand before the point and after it
abbrev pub format_places : List Place
format_places = place.Word keyword.Format ∷ place.Number (range.Positive greatest_int_bits)
    ∷ place.Number (range.UpTo greatest_frac_bits) ∷ []

-- a number of a list that counts something
abbrev pub count_at : List ℤ → ℕ → ℕ
count_at numbers i = unsigned_abs (slice_index_or numbers i (pos 0))

abbrev pub format_in : List (List ℕ) → Result CertWords TextFault
format_in pieces = line_numbers format_places pieces >>= λ numbers.
    Ok (words.Said (count_at numbers 0) (count_at numbers 1))

-- the format of a line
abbrev pub line_format : List ℕ → Result CertWords TextFault
line_format bytes = format_in (pieces_of bytes)

-- ---- the kind
-- the numbers after a kind's name
abbrev pub kind_places : Kind → List Place
kind_places kind.Hints = []
kind_places kind.Invariant = place.Number (range.UpTo greatest_depth)
    ∷ place.Number (range.UpTo most_inequalities) ∷ []
kind_places kind.Gain = place.Number (range.UpTo most_gain_depth) ∷ []
kind_places kind.Error = place.Number (range.UpTo most_gain_depth)
    ∷ place.Number (range.UpTo most_gain_depth) ∷ place.Number (range.UpTo most_box_ranges) ∷ []
kind_places kind.Falls = place.Number (range.UpTo most_places) ∷ []
kind_places kind.Table = place.Number (range.Positive most_coefficients) ∷ []

abbrev pub head_with : Kind → List ℤ → KindHead
head_with kind.Hints numbers = head.Hints
head_with kind.Invariant numbers = head.Invariant (count_at numbers 0) (count_at numbers 1)
head_with kind.Gain numbers = head.Gain (count_at numbers 0)
head_with kind.Error numbers =
    head.Error (count_at numbers 0) (count_at numbers 1) (count_at numbers 2)
head_with kind.Falls numbers = head.Falls (count_at numbers 0)
head_with kind.Table numbers = head.Table (count_at numbers 0)

-- the kind, where it belongs to the job
abbrev pub of_job : CertifiedJob → Kind → Result Kind TextFault
of_job job k = if is_kind_of job k then Ok k else Err fault.Kind

-- the kind with the numbers that the pieces after its name say
abbrev pub head_in : Kind → List (List ℕ) → Result KindHead TextFault
head_in k pieces =
    line_numbers (kind_places k) pieces >>= λ numbers. Ok (head_with k numbers)

-- the kind line: `kind`, the kind's name, and its numbers
abbrev pub kind_in : CertifiedJob → List (List ℕ) → Result KindHead TextFault
kind_in job pieces =
    beginning (keyword_text keyword.Kind) pieces >>= λ _.
    name_in kind_name kinds pieces 1 >>= λ k.
    of_job job k >>= λ k.
    head_in k (drop 2 pieces)

-- the kind of a line
abbrev pub line_kind : CertifiedJob → List ℕ → Result KindHead TextFault
line_kind job bytes = kind_in job (pieces_of bytes)
