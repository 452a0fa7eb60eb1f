-- The lines that a certificate begins with are read back.
use Rattle.std.proofs.Common.{◌≡◌, ◌∙◌, ap, ℕ, true, false, List, [], ◌∷◌, map, codes, decimal, Option, Some, Result, Ok, ℤ, pos, refl, arith}
use Rattle.std.specs.List.{All}
use Rattle.std.specs.Str.{bytes_eq}
use Rattle.std.proofs.lemmas.List.Elements.{All-cons, All-nil}
use Rattle.dsv_text.specs.Stages.{◌>>=◌}
use Rattle.dsv_names.proofs.NameLaws.{are_names-properties, are_names-realisations, are_names-roundings, are_names-overflow_modes}
use Rattle.dsv_names.specs.Names.{value_named}
use Rattle.dsv_names.specs.Properties.{property_name, properties}
use Rattle.dsv_names.specs.Realisations.{realisation_name, realisations}
use Rattle.dsv_names.specs.Roundings.{rounding_name, roundings}
use Rattle.dsv_names.specs.OverflowModes.{overflow_mode_name, overflow_modes}
use Rattle.dsv_names.specs.declared.overflow_mode.OverflowMode.{OverflowMode}
use Rattle.dsv_names.specs.declared.overflow_mode.OverflowMode.TheVariants as overflow_mode
use Rattle.dsv_names.specs.declared.property.RunProperty.TheVariants as run
use Rattle.dsv_names.specs.declared.property.RootProperty.TheVariants as root
use Rattle.dsv_names.specs.declared.property.Property.{Property}
use Rattle.dsv_names.specs.declared.property.Property.TheVariants as property
use Rattle.dsv_names.specs.declared.realisation.Realisation.{Realisation}
use Rattle.dsv_names.specs.declared.realisation.Realisation.TheVariants as realisation
use Rattle.dsv_names.specs.declared.rounding.Rounding.{Rounding}
use Rattle.dsv_names.specs.declared.rounding.Rounding.TheVariants as rounding
use Rattle.dsv_certfile.specs.Headings.{or_kind, version_in, beginning, name_in, size_in, job_in, line_job, count_at, format_places, line_format, of_job, head_in, head_with, kind_in, line_kind, kind_places}
use Rattle.dsv_certfile.specs.Keywords.{keyword_text, unbounded_text, plant_text}
use Rattle.dsv_certfile.specs.Kinds.{kind_name, kinds, is_kind_of}
use Rattle.dsv_certfile.specs.Lawful.{IsSize, IsWords}
use Rattle.dsv_certfile.specs.Limits.{greatest_int_bits, greatest_frac_bits}
use Rattle.dsv_certfile.specs.Reading.{words_in}
use Rattle.dsv_certfile.specs.Texts.{version_line, size_pieces, job_line, format_line, format_lines, kind_line}
use Rattle.dsv_certfile.specs.Words.{with_words}
use Rattle.dsv_certfile.specs.declared.fault.TextFault.{TextFault}
use Rattle.dsv_certfile.specs.declared.job.CertWords.{CertWords}
use Rattle.dsv_certfile.specs.declared.job.CertWords.TheVariants as words
use Rattle.dsv_certfile.specs.declared.job.CertifiedJob.{CertifiedJob}
use Rattle.dsv_certfile.specs.declared.job.Size.{Size}
use Rattle.dsv_certfile.specs.declared.job.Size.TheVariants as size
use Rattle.dsv_certfile.specs.declared.job.Version.{Version}
use Rattle.dsv_certfile.specs.declared.job.Version.TheVariants as version
use Rattle.dsv_certfile.specs.declared.keyword.Keyword.TheVariants as keyword
use Rattle.dsv_certfile.specs.declared.kind.Kind.{Kind}
use Rattle.dsv_certfile.specs.declared.kind.Kind.TheVariants as kind
use Rattle.dsv_certfile.proofs.HeadingLemmas.{whole_job}
use Rattle.dsv_lines.specs.Texts.{IsPlain, ArePlain}
use Rattle.dsv_lines.proofs.WrittenLines.{IsLine, line_bytes, pieces_of-line_bytes}
use Rattle.dsv_lines.proofs.WrittenNumerals.{decimal_begins, decimal_plain, other_text}
use Rattle.dsv_certfile.proofs.WrittenNumbers.{samples_read, positive_read, count_read}
use Rattle.dsv_certfile.proofs.WrittenParts.{Takes, takes_line}
use Rattle.dsv_certfile.proofs.WrittenPlaces.{AreWritten, line_numbers-written, numbers_of-line_bytes}

-- ---- names are plain
property_plain : (p : Property) → IsPlain (property_name p)
property_plain (property.OfRuns run.Overflow) = refl
property_plain (property.OfRuns run.LimitCycle) = refl
property_plain (property.OfRoots root.Stability) = refl
property_plain (property.OfRoots root.MinimumPhase) = refl
property_plain property.Timing = refl

realisation_plain : (r : Realisation) → IsPlain (realisation_name r)
realisation_plain realisation.Dfi = refl
realisation_plain realisation.Dfii = refl
realisation_plain realisation.Tdfii = refl
realisation_plain realisation.Ddfi = refl
realisation_plain realisation.Ddfii = refl
realisation_plain realisation.Tddfii = refl

rounding_plain : (r : Rounding) → IsPlain (rounding_name r)
rounding_plain rounding.Floor = refl
rounding_plain rounding.Ceil = refl
rounding_plain rounding.Nearest = refl

overflow_mode_plain : (m : OverflowMode) → IsPlain (overflow_mode_name m)
overflow_mode_plain overflow_mode.Wrap = refl
overflow_mode_plain overflow_mode.Saturate = refl

kind_plain : (k : Kind) → IsPlain (kind_name k)
kind_plain kind.Hints = refl
kind_plain kind.Invariant = refl
kind_plain kind.Gain = refl
kind_plain kind.Error = refl
kind_plain kind.Falls = refl
kind_plain kind.Table = refl

-- ---- the job line
size_plain : (s : Size) → IsSize s → ArePlain (size_pieces s)
size_plain size.NoSize h = All-nil IsPlain
size_plain (size.Samples k) h = All-cons IsPlain (decimal k) [] (decimal_plain k (omega (arith, h.1))) (All-nil IsPlain)
size_plain size.Unbounded h = All-cons IsPlain unbounded_text [] refl (All-nil IsPlain)
size_plain size.OfLoop h = All-cons IsPlain plant_text [] refl (All-nil IsPlain)

pub job_line-plain : (job : CertifiedJob) → IsSize job.size → IsLine (job_line job)
job_line-plain job h =
    let sizes = size_pieces job.size in
    let modes = overflow_mode_name job.design.overflow ∷ sizes in
    let roundings = rounding_name job.design.rounding ∷ modes in
    let realisations = realisation_name job.design.realisation ∷ roundings in
    All-cons IsPlain (keyword_text keyword.Job) (property_name job.property ∷ realisations) refl
    (All-cons IsPlain (property_name job.property) realisations (property_plain job.property)
    (All-cons IsPlain (realisation_name job.design.realisation) roundings (realisation_plain job.design.realisation)
    (All-cons IsPlain (rounding_name job.design.rounding) modes (rounding_plain job.design.rounding)
    (All-cons IsPlain (overflow_mode_name job.design.overflow) sizes (overflow_mode_plain job.design.overflow) (size_plain job.size h)))))

size_written : (s : Size) → IsSize s → size_in (size_pieces s) ≡ Ok s
size_written size.NoSize h = refl
size_written (size.Samples k) h =
    let bounded : bytes_eq (decimal k) unbounded_text ≡ false = other_text 117 _ (decimal k) (decimal_begins 117 k refl (omega (arith, h.1))) in
    let alone : bytes_eq (decimal k) plant_text ≡ false = other_text 112 _ (decimal k) (decimal_begins 112 k refl (omega (arith, h.1))) in
    rw (bounded, alone, samples_read k h.0 h.1) refl
size_written size.Unbounded h = refl
size_written size.OfLoop h = refl

job_written : (job : CertifiedJob) → IsSize job.size → job_in (job_line job) ≡ Ok (with_words words.Unsaid job)
job_written job h =
    let line = job_line job in
    whole_job (beginning (keyword_text keyword.Job) line) (name_in property_name properties line 1) (name_in realisation_name realisations line 2)
    (name_in rounding_name roundings line 3) (name_in overflow_mode_name overflow_modes line 4) (size_in (size_pieces job.size))
    job.property job.design.realisation job.design.rounding job.design.overflow job.size
    refl (ap or_kind (are_names-properties.found job.property)) (ap or_kind (are_names-realisations.found job.design.realisation))
    (ap or_kind (are_names-roundings.found job.design.rounding)) (ap or_kind (are_names-overflow_modes.found job.design.overflow)) (size_written job.size h)

-- the job line says nothing of the words
pub job_back : (job : CertifiedJob) → IsSize job.size → line_job (line_bytes (job_line job)) ≡ Ok (with_words words.Unsaid job)
job_back job h = ap job_in (pieces_of-line_bytes (job_line job) (job_line-plain job h)) ∙ job_written job h

-- ---- the format of the words
abbrev pub version_of : CertWords → Version
version_of words.Unsaid = version.One
version_of (words.Said int_bits frac_bits) = version.Two

pub version_plain : (w : CertWords) → IsLine (version_line w)
version_plain words.Unsaid = All-cons IsPlain (codes "dsv-certificate") (codes "1" ∷ []) refl (All-cons IsPlain (codes "1") [] refl (All-nil IsPlain))
version_plain (words.Said int_bits frac_bits) =
    All-cons IsPlain (codes "dsv-certificate") (codes "2" ∷ []) refl (All-cons IsPlain (codes "2") [] refl (All-nil IsPlain))

pub version_back : (w : CertWords) → version_in (line_bytes (version_line w)) ≡ Ok (version_of w)
version_back words.Unsaid = refl
version_back (words.Said int_bits frac_bits) = refl

format_line-plain : (i f : ℕ) → IsWords (words.Said i f) → IsLine (format_line i f)
format_line-plain i f h =
    All-cons IsPlain (keyword_text keyword.Format) (decimal i ∷ decimal f ∷ []) refl
    (All-cons IsPlain (decimal i) (decimal f ∷ []) (decimal_plain i (omega (arith, h.1)))
    (All-cons IsPlain (decimal f) [] (decimal_plain f (omega (arith, h.2))) (All-nil IsPlain)))

pub format_lines-plain : (w : CertWords) → IsWords w → All IsLine (format_lines w)
format_lines-plain words.Unsaid h = All-nil IsLine
format_lines-plain (words.Said i f) h = All-cons IsLine (format_line i f) [] (format_line-plain i f h) (All-nil IsLine)

format_back : (i f : ℕ) → IsWords (words.Said i f) → line_format (line_bytes (format_line i f)) ≡ Ok (words.Said i f)
format_back i f h =
    ap (λ (r : Result (List ℤ) TextFault). r >>= λ zs. Ok (words.Said (count_at zs 0) (count_at zs 1)))
    (numbers_of-line_bytes format_places (format_line i f) (pos i ∷ pos f ∷ []) (format_line-plain i f h)
    (refl, (positive_read greatest_int_bits i (omega arith) h.0 h.1, (count_read greatest_frac_bits f (omega arith) h.2, tt))))

pub takes_words : (w : CertWords) → IsWords w → Takes (words_in (version_of w)) w (format_lines w)
takes_words words.Unsaid h = λ t n. (n, refl)
takes_words (words.Said i f) h = takes_line line_format (format_line i f) (words.Said i f) (format_back i f h)

-- ---- the kind line
kind_found : (k : Kind) → value_named kind_name kinds (kind_name k) ≡ Some k
kind_found kind.Hints = refl
kind_found kind.Invariant = refl
kind_found kind.Gain = refl
kind_found kind.Error = refl
kind_found kind.Falls = refl
kind_found kind.Table = refl

pub kind_line-plain : (k : Kind) (numbers : List ℕ) → ArePlain (map decimal numbers) → IsLine (kind_line k numbers)
kind_line-plain k numbers h =
    All-cons IsPlain (keyword_text keyword.Kind) (kind_name k ∷ map decimal numbers) refl (All-cons IsPlain (kind_name k) (map decimal numbers) (kind_plain k) h)

kind_written : (job : CertifiedJob) (k : Kind) (numbers : List ℕ) (zs : List ℤ) → is_kind_of job k ≡ true → AreWritten (kind_places k) (map decimal numbers) zs
    → kind_in job (kind_line k numbers) ≡ Ok (head_with k zs)
kind_written job k numbers zs belongs h =
    let pieces = map decimal numbers in
    let of : of_job job k ≡ Ok k = rw belongs refl in
    ap (λ (o : Option Kind). or_kind o >>= λ l. of_job job l >>= λ l. head_in l pieces) (kind_found k)
    ∙ ap (λ (r : Result Kind TextFault). r >>= λ l. head_in l pieces) of
    ∙ ap (λ (r : Result (List ℤ) TextFault). r >>= λ ns. Ok (head_with k ns)) (line_numbers-written (kind_places k) pieces zs h)

pub kind_back : (job : CertifiedJob) (k : Kind) (numbers : List ℕ) (zs : List ℤ) → is_kind_of job k ≡ true → ArePlain (map decimal numbers)
    → AreWritten (kind_places k) (map decimal numbers) zs → line_kind job (line_bytes (kind_line k numbers)) ≡ Ok (head_with k zs)
kind_back job k numbers zs belongs plain h =
    ap (kind_in job) (pieces_of-line_bytes (kind_line k numbers) (kind_line-plain k numbers plain))
    ∙ kind_written job k numbers zs belongs h
