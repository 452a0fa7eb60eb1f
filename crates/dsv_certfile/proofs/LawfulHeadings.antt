-- The lines up to that of the kind that were read fit one another, their numbers are of their ranges, and they are the lines that are written.
use Rattle.std.proofs.Common.{◌≡◌, ◌∙◌, sym, ap, ℕ, ◌<◌, ◌≤◌, Bool, true, false, List, [], ◌∷◌, ◌++◌, drop, length, Option, Some, None, Result, Ok, Err, IfOk, ℤ, refl, arith}
use Rattle.std.proofs.lemmas.Int.{ints}
use Rattle.std.proofs.lemmas.Result.{IfOk-weaker}
use Rattle.std.proofs.lemmas.Slice.Eq.{bytes_eq-Decides}
use Rattle.std.specs.Prelude.{if◌then◌else◌}
use Rattle.std.specs.Str.{bytes_eq}
use Rattle.dsv_text.specs.Stages.{◌>>=◌}
use Rattle.dsv_names.proofs.NameLaws.{name-named}
use Rattle.dsv_names.specs.Names.{value_named}
use Rattle.dsv_names.specs.Properties.{property_name, properties}
use Rattle.dsv_names.specs.Realisations.{realisation_name, realisations}
use Rattle.dsv_names.specs.Roundings.{rounding_name, roundings}
use Rattle.dsv_names.specs.OverflowModes.{overflow_mode_name, overflow_modes}
use Rattle.dsv_names.specs.declared.property.Property.{Property}
use Rattle.dsv_names.specs.declared.realisation.Realisation.{Realisation}
use Rattle.dsv_names.specs.declared.rounding.Rounding.{Rounding}
use Rattle.dsv_names.specs.declared.overflow_mode.OverflowMode.{OverflowMode}
use Rattle.dsv_names.specs.declared.overflow_mode.OverflowMode.TheVariants as overflow_mode
use Rattle.dsv_certfile.specs.Headings.{or_kind, or_number, whole_line, beginning, name_in, size_of, size_in, job_in, line_job, count_at, format_places, format_in, line_format, of_job, head_in, head_with, kind_in, line_kind, kind_places, version_in}
use Rattle.dsv_certfile.specs.Bodies.{line_in}
use Rattle.dsv_certfile.specs.Keywords.{keyword_text, version_text, unbounded_text, plant_text}
use Rattle.dsv_certfile.specs.Kinds.{kind_name, kinds, is_kind_of}
use Rattle.dsv_certfile.specs.Lawful.{IsSize, IsWords}
use Rattle.dsv_certfile.specs.Limits.{most_samples, greatest_depth, most_gain_depth, most_box_ranges, most_places, most_coefficients}
use Rattle.dsv_template.specs.Limits.{most_inequalities}
use Rattle.dsv_certfile.specs.Numerals.{samples_of}
use Rattle.dsv_lines.specs.Pieces.{pieces_of, piece_at}
use Rattle.dsv_lines.specs.Texts.{Line}
use Rattle.dsv_certfile.specs.Places.{line_numbers}
use Rattle.dsv_certfile.specs.Ranges.{AreOf}
use Rattle.dsv_certfile.specs.Reading.{words_in, heading_in}
use Rattle.dsv_certfile.specs.Texts.{version_line, size_pieces, job_line, format_lines, head_lines, kind_line}
use Rattle.dsv_certfile.specs.Words.{with_words}
use Rattle.dsv_certfile.specs.declared.fault.TextFault.{TextFault}
use Rattle.dsv_certfile.specs.declared.fault.TextFault.TheVariants as fault
use Rattle.dsv_certfile.specs.declared.job.CertWords.{CertWords}
use Rattle.dsv_certfile.specs.declared.job.CertWords.TheVariants as words
use Rattle.dsv_certfile.specs.declared.job.CertifiedJob.{CertifiedJob}
use Rattle.dsv_certfile.specs.declared.job.Size.{Size}
use Rattle.dsv_certfile.specs.declared.job.Size.TheVariants as size
use Rattle.dsv_certfile.specs.declared.job.Version.{Version}
use Rattle.dsv_certfile.specs.declared.job.Version.TheVariants as version
use Rattle.dsv_certfile.specs.declared.keyword.Keyword.TheVariants as keyword
use Rattle.dsv_certfile.specs.declared.kind.Kind.{Kind}
use Rattle.dsv_certfile.specs.declared.kind.Kind.TheVariants as kind
use Rattle.dsv_certfile.specs.declared.kind.KindHead.{KindHead}
use Rattle.dsv_certfile.specs.declared.kind.KindHead.TheVariants as head
use Rattle.dsv_certfile.specs.declared.reader.Heading.{Heading}
use Rattle.dsv_certfile.proofs.HeadingLemmas.{job_from}
use Rattle.dsv_certfile.proofs.LawfulParts.{then_has, whole_line_has, Yields, yields_both, yields_made, yields_line, joined}
use Rattle.dsv_lines.proofs.NumeralBounds.{positive_has}
use Rattle.dsv_lines.proofs.ReadNumerals.{decimal-positive_of}
use Rattle.dsv_certfile.proofs.ReadPlaces.{AreSpelled, spelled_line, signed_decimal-count, line_numbers_spelled}
use Rattle.dsv_certfile.proofs.WrittenCertificates.{words_after, job_after, version_after}

-- ---- words and names
beginning_step : (piece word : List ℕ) (b : Bool) → bytes_eq piece word ≡ b → IfOk {T = Unit {0}} {E = TextFault} (if b then Ok tt else Err fault.Kind) (λ _. piece ≡ word)
beginning_step piece word true e = (bytes_eq-Decides piece word).0 e
beginning_step piece word false e = tt

beginning_has : (word : List ℕ) (pieces : Line) → IfOk (beginning word pieces) (λ _. piece_at pieces 0 ≡ word)
beginning_has word pieces = beginning_step (piece_at pieces 0) word (bytes_eq (piece_at pieces 0) word) refl

name_step : {X : Type 0} (name : X → List ℕ) (piece : List ℕ) (o : Option X) → ((x : X) → o ≡ Some x → piece ≡ name x) → IfOk (or_kind o) (λ x. piece ≡ name x)
name_step name piece None h = tt
name_step name piece (Some x) h = h x refl

name_has : {X : Type 0} (name : X → List ℕ) (values : List X) (pieces : Line) (i : ℕ) → IfOk (name_in name values pieces i) (λ x. piece_at pieces i ≡ name x)
name_has name values pieces i = name_step name (piece_at pieces i) (value_named name values (piece_at pieces i)) (λ x e. name-named name values (piece_at pieces i) x e)

-- ---- the job line
samples_step : (piece : List ℕ) (o : Option ℕ) → samples_of piece ≡ o → IfOk (or_number o >>= λ k. Ok (size.Samples k)) (λ s. IsSize s × (piece ∷ [] ≡ size_pieces s))
samples_step piece None e = tt
samples_step piece (Some k) e = (rw e at (positive_has most_samples piece), ap (λ p. p ∷ []) (sym (decimal-positive_of most_samples piece k (omega arith) e)))

size_step : (piece : List ℕ) (b c : Bool) → bytes_eq piece unbounded_text ≡ b → bytes_eq piece plant_text ≡ c
    → IfOk (if b then Ok size.Unbounded else (if c then Ok size.OfLoop else or_number (samples_of piece) >>= λ k. Ok (size.Samples k))) (λ s. IsSize s × (piece ∷ [] ≡ size_pieces s))
size_step piece true c e f = (tt, ap (λ p. p ∷ []) ((bytes_eq-Decides piece unbounded_text).0 e))
size_step piece false true e f = (tt, ap (λ p. p ∷ []) ((bytes_eq-Decides piece plant_text).0 f))
size_step piece false false e f = samples_step piece (samples_of piece) refl

size_has : (pieces : Line) → IfOk (size_in pieces) (λ s. IsSize s × (pieces ≡ size_pieces s))
size_has [] = (tt, refl)
size_has (piece ∷ pieces) =
    then_has (size_of piece) (λ (s : Size). whole_line s pieces) (λ s. IsSize s × (piece ∷ [] ≡ size_pieces s)) (λ s. IsSize s × (piece ∷ pieces ≡ size_pieces s))
    (size_step piece (bytes_eq piece unbounded_text) (bytes_eq piece plant_text) refl refl)
    (λ s h. whole_line_has s pieces (λ s. IsSize s × (piece ∷ pieces ≡ size_pieces s)) (λ e. (h.0, ap (λ ps. piece ∷ ps) e ∙ h.1)))

five_pieces : (pieces : Line) → 0 < length (piece_at pieces 4)
    → pieces ≡ piece_at pieces 0 ∷ piece_at pieces 1 ∷ piece_at pieces 2 ∷ piece_at pieces 3 ∷ piece_at pieces 4 ∷ drop 5 pieces
five_pieces [] h = absurd (omega (arith, h))
five_pieces (a ∷ []) h = absurd (omega (arith, h))
five_pieces (a ∷ b ∷ []) h = absurd (omega (arith, h))
five_pieces (a ∷ b ∷ c ∷ []) h = absurd (omega (arith, h))
five_pieces (a ∷ b ∷ c ∷ d ∷ []) h = absurd (omega (arith, h))
five_pieces (a ∷ b ∷ c ∷ d ∷ e ∷ ps) h = refl

mode_is_some : (m : OverflowMode) → 0 < length (overflow_mode_name m)
mode_is_some overflow_mode.Wrap = omega arith
mode_is_some overflow_mode.Saturate = omega arith

-- the size is one, and the pieces are those of the job's line
abbrev IsJobLine : Line → CertifiedJob → Type 0
IsJobLine pieces job = IsSize job.size × (pieces ≡ job_line job)

job_step : (pieces : Line) (b : Result (Unit {0}) TextFault) (p : Result Property TextFault) (r : Result Realisation TextFault) (o : Result Rounding TextFault)
    (m : Result OverflowMode TextFault) (s : Result Size TextFault) → IfOk b (λ _. piece_at pieces 0 ≡ keyword_text keyword.Job) → IfOk p (λ x. piece_at pieces 1 ≡ property_name x)
    → IfOk r (λ x. piece_at pieces 2 ≡ realisation_name x) → IfOk o (λ x. piece_at pieces 3 ≡ rounding_name x) → IfOk m (λ x. piece_at pieces 4 ≡ overflow_mode_name x)
    → IfOk s (λ s. IsSize s × (drop 5 pieces ≡ size_pieces s)) → IfOk (job_from b p r o m s) (IsJobLine pieces)
job_step pieces (Ok b) (Ok p) (Ok r) (Ok o) (Ok m) (Ok s) hb hp hr ho hm hs =
    (hs.0, five_pieces pieces (rw hm (mode_is_some m)) ∙ rw (hb, hp, hr, ho, hm, hs.1) refl)
job_step pieces (Ok b) (Ok p) (Ok r) (Ok o) (Ok m) (Err why) hb hp hr ho hm hs = tt
job_step pieces (Ok b) (Ok p) (Ok r) (Ok o) (Err why) s hb hp hr ho hm hs = tt
job_step pieces (Ok b) (Ok p) (Ok r) (Err why) m s hb hp hr ho hm hs = tt
job_step pieces (Ok b) (Ok p) (Err why) o m s hb hp hr ho hm hs = tt
job_step pieces (Ok b) (Err why) r o m s hb hp hr ho hm hs = tt
job_step pieces (Err why) p r o m s hb hp hr ho hm hs = tt

job_has : (pieces : Line) → IfOk (job_in pieces) (IsJobLine pieces)
job_has pieces =
    job_step pieces (beginning (keyword_text keyword.Job) pieces) (name_in property_name properties pieces 1) (name_in realisation_name realisations pieces 2)
    (name_in rounding_name roundings pieces 3) (name_in overflow_mode_name overflow_modes pieces 4) (size_in (drop 5 pieces))
    (beginning_has (keyword_text keyword.Job) pieces) (name_has property_name properties pieces 1) (name_has realisation_name realisations pieces 2)
    (name_has rounding_name roundings pieces 3) (name_has overflow_mode_name overflow_modes pieces 4) (size_has (drop 5 pieces))

-- ---- the version, and the format of the words
version_step : (bytes : List ℕ) (b c : Bool) → bytes_eq bytes (version_text version.One) ≡ b → bytes_eq bytes (version_text version.Two) ≡ c
    → IfOk (if b then Ok version.One else (if c then Ok version.Two else Err fault.Version)) (λ v. bytes ≡ version_text v)
version_step bytes true c e f = (bytes_eq-Decides bytes (version_text version.One)).0 e
version_step bytes false true e f = (bytes_eq-Decides bytes (version_text version.Two)).0 f
version_step bytes false false e f = tt

version_has : (bytes : List ℕ) → IfOk (version_in bytes) (λ v. bytes ≡ version_text v)
version_has bytes = version_step bytes (bytes_eq bytes (version_text version.One)) (bytes_eq bytes (version_text version.Two)) refl refl

-- the line is that of the version
abbrev IsVersionLine : Version → List Line → Type 0
IsVersionLine v ls = ls ≡ pieces_of (version_text v) ∷ []

-- what is said of the words follows from the version, and these lines say it
record AreWordsOf (v : Version) (said : CertWords) (ls : List Line) : Type 0 where
  are : IsWords said
  first : pieces_of (version_text v) ≡ version_line said
  lines : ls ≡ format_lines said

words_are : (pieces : Line) (zs : List ℤ) → AreSpelled format_places pieces zs → AreWordsOf version.Two (words.Said (count_at zs 0) (count_at zs 1)) (pieces ∷ [])
words_are pieces [] s = absurd (s.ranges)
words_are pieces (y ∷ []) s = absurd (s.ranges.1)
words_are pieces (y ∷ z ∷ []) s =
    let h = s.ranges in
    record {
      are = (omega (arith, ints, h.0.0), h.0.1, h.1.0.1);
      first = refl;
      lines = ap (λ l. l ∷ []) (s.line ∙ rw (signed_decimal-count y (omega (arith, ints, h.0.0)), signed_decimal-count z h.1.0.0) refl);
    }
words_are pieces (y ∷ z ∷ x ∷ zs) s = absurd (s.ranges.1.1)

format_has : (pieces : Line) → IfOk (format_in pieces) (λ said. AreWordsOf version.Two said (pieces ∷ []))
format_has pieces =
    then_has (line_numbers format_places pieces) (λ (zs : List ℤ). Ok (words.Said (count_at zs 0) (count_at zs 1))) (AreSpelled format_places pieces)
    (λ said. AreWordsOf version.Two said (pieces ∷ [])) (line_numbers_spelled format_places pieces refl) (words_are pieces)

yields_words : (v : Version) → Yields (words_in v) (AreWordsOf v)
yields_words version.One = λ ls. record { lines = []; cut = refl; has = record { are = tt; first = refl; lines = refl } }
yields_words version.Two = yields_line line_format (AreWordsOf version.Two) (λ bytes. format_has (pieces_of bytes))

-- ---- the kind line
-- the kind belongs to the job, and its numbers are of their ranges
abbrev pub IsHeadFor : CertifiedJob → KindHead → Type 0
IsHeadFor job head.Hints = is_kind_of job kind.Hints ≡ true
IsHeadFor job (head.Invariant depth count) = (is_kind_of job kind.Invariant ≡ true) × (depth ≤ greatest_depth) × (count ≤ most_inequalities)
IsHeadFor job (head.Gain depth) = (is_kind_of job kind.Gain ≡ true) × (depth ≤ most_gain_depth)
IsHeadFor job (head.Error depth error_depth count) =
    (is_kind_of job kind.Error ≡ true) × (depth ≤ most_gain_depth) × (error_depth ≤ most_gain_depth) × (count ≤ most_box_ranges)
IsHeadFor job (head.Falls d) = (is_kind_of job kind.Falls ≡ true) × (d ≤ most_places)
IsHeadFor job (head.Table count) = (is_kind_of job kind.Table ≡ true) × (1 ≤ count) × (count ≤ most_coefficients)

-- the kind line of these numbers
abbrev pub head_line : KindHead → Line
head_line head.Hints = kind_line kind.Hints []
head_line (head.Invariant depth count) = kind_line kind.Invariant (depth ∷ count ∷ [])
head_line (head.Gain depth) = kind_line kind.Gain (depth ∷ [])
head_line (head.Error depth error_depth count) = kind_line kind.Error (depth ∷ error_depth ∷ count ∷ [])
head_line (head.Falls d) = kind_line kind.Falls (d ∷ [])
head_line (head.Table count) = kind_line kind.Table (count ∷ [])

abbrev IsHeadLine : CertifiedJob → Line → KindHead → Type 0
IsHeadLine job pieces h = IsHeadFor job h × (pieces ≡ head_line h)

head_is : (job : CertifiedJob) (k : Kind) (zs : List ℤ) → is_kind_of job k ≡ true → AreOf (kind_places k) zs
    → IsHeadLine job (keyword_text keyword.Kind ∷ kind_name k ∷ spelled_line (kind_places k) zs) (head_with k zs)
head_is job kind.Hints zs e h = (e, refl)
head_is job kind.Invariant [] e h = absurd h
head_is job kind.Invariant (y ∷ []) e h = absurd (h.1)
head_is job kind.Invariant (y ∷ z ∷ []) e h = ((e, h.0.1, h.1.0.1), rw (signed_decimal-count y h.0.0, signed_decimal-count z h.1.0.0) refl)
head_is job kind.Invariant (y ∷ z ∷ x ∷ zs) e h = absurd (h.1.1)
head_is job kind.Gain [] e h = absurd h
head_is job kind.Gain (z ∷ []) e h = ((e, h.0.1), rw (signed_decimal-count z h.0.0) refl)
head_is job kind.Gain (z ∷ y ∷ zs) e h = absurd (h.1)
head_is job kind.Error [] e h = absurd h
head_is job kind.Error (x ∷ []) e h = absurd (h.1)
head_is job kind.Error (x ∷ y ∷ []) e h = absurd (h.1.1)
head_is job kind.Error (x ∷ y ∷ z ∷ []) e h =
    ((e, h.0.1, h.1.0.1, h.1.1.0.1), rw (signed_decimal-count x h.0.0, signed_decimal-count y h.1.0.0, signed_decimal-count z h.1.1.0.0) refl)
head_is job kind.Error (x ∷ y ∷ z ∷ w ∷ zs) e h = absurd (h.1.1.1)
head_is job kind.Falls [] e h = absurd h
head_is job kind.Falls (z ∷ []) e h = ((e, h.0.1), rw (signed_decimal-count z h.0.0) refl)
head_is job kind.Falls (z ∷ y ∷ zs) e h = absurd (h.1)
head_is job kind.Table [] e h = absurd h
head_is job kind.Table (z ∷ []) e h = ((e, omega (arith, ints, h.0.0), h.0.1), rw (signed_decimal-count z (omega (arith, ints, h.0.0))) refl)
head_is job kind.Table (z ∷ y ∷ zs) e h = absurd (h.1)

two_pieces : (pieces : Line) → 0 < length (piece_at pieces 1) → pieces ≡ piece_at pieces 0 ∷ piece_at pieces 1 ∷ drop 2 pieces
two_pieces [] h = absurd (omega (arith, h))
two_pieces (a ∷ []) h = absurd (omega (arith, h))
two_pieces (a ∷ b ∷ ps) h = refl

kind_is_some : (k : Kind) → 0 < length (kind_name k)
kind_is_some kind.Hints = omega arith
kind_is_some kind.Invariant = omega arith
kind_is_some kind.Gain = omega arith
kind_is_some kind.Error = omega arith
kind_is_some kind.Falls = omega arith
kind_is_some kind.Table = omega arith

head_read : (job : CertifiedJob) (pieces : Line) (k : Kind) (zs : List ℤ) → piece_at pieces 0 ≡ keyword_text keyword.Kind → piece_at pieces 1 ≡ kind_name k → is_kind_of job k ≡ true
    → AreSpelled (kind_places k) (drop 2 pieces) zs → IsHeadLine job pieces (head_with k zs)
head_read job pieces k zs first second e s =
    let h = head_is job k zs e s.ranges in
    (h.0, two_pieces pieces (rw second (kind_is_some k)) ∙ rw (first, second, s.line) refl ∙ h.1)

kinds_short : (k : Kind) (pieces : Line) → IfOk (line_numbers (kind_places k) pieces) (AreSpelled (kind_places k) pieces)
kinds_short kind.Hints pieces = line_numbers_spelled (kind_places kind.Hints) pieces refl
kinds_short kind.Invariant pieces = line_numbers_spelled (kind_places kind.Invariant) pieces refl
kinds_short kind.Gain pieces = line_numbers_spelled (kind_places kind.Gain) pieces refl
kinds_short kind.Error pieces = line_numbers_spelled (kind_places kind.Error) pieces refl
kinds_short kind.Falls pieces = line_numbers_spelled (kind_places kind.Falls) pieces refl
kinds_short kind.Table pieces = line_numbers_spelled (kind_places kind.Table) pieces refl

of_step : (job : CertifiedJob) (k : Kind) (b : Bool) → is_kind_of job k ≡ b → IfOk (if b then Ok k else Err fault.Kind) (λ l. (l ≡ k) × (is_kind_of job k ≡ true))
of_step job k true e = (refl, e)
of_step job k false e = tt

kind_has : (job : CertifiedJob) (pieces : Line) → IfOk (kind_in job pieces) (IsHeadLine job pieces)
kind_has job pieces =
    let rest = drop 2 pieces in
    then_has (beginning (keyword_text keyword.Kind) pieces) (λ _. name_in kind_name kinds pieces 1 >>= λ k. of_job job k >>= λ k. head_in k rest)
    (λ _. piece_at pieces 0 ≡ keyword_text keyword.Kind) (IsHeadLine job pieces) (beginning_has (keyword_text keyword.Kind) pieces)
    (λ _ first. then_has (name_in kind_name kinds pieces 1) (λ (k : Kind). of_job job k >>= λ k. head_in k rest) (λ k. piece_at pieces 1 ≡ kind_name k) (IsHeadLine job pieces)
    (name_has kind_name kinds pieces 1)
    (λ k second. then_has (of_job job k) (λ (k : Kind). head_in k rest) (λ l. (l ≡ k) × (is_kind_of job k ≡ true)) (IsHeadLine job pieces) (of_step job k (is_kind_of job k) refl)
    (λ l e. rw e.0 (then_has (line_numbers (kind_places k) rest) (λ (zs : List ℤ). Ok (head_with k zs)) (AreSpelled (kind_places k) rest) (IsHeadLine job pieces)
    (kinds_short k rest) (λ zs s. head_read job pieces k zs first second e.1 s)))))

-- ---- all of them
pub record IsHeading (h : Heading) (ls : List Line) : Type 0 where
  pub size : IsSize h.job.size
  pub words : IsWords h.job.words
  pub kind : IsHeadFor h.job h.kind
  pub lines : ls ≡ head_lines h.job ++ head_line h.kind ∷ []

headings_join : (v : Version) (job : CertifiedJob) (said : CertWords) (k : KindHead) (vs bs cs ds : List Line) → IsVersionLine v vs → bs ≡ job_line job ∷ [] → AreWordsOf v said cs
    → ds ≡ head_line k ∷ [] → vs ++ (bs ++ (cs ++ ds)) ≡ head_lines (with_words said job) ++ head_line k ∷ []
headings_join v job said k vs bs cs ds a b c d = joined (a ∙ ap (λ l. l ∷ []) c.first) (joined b (joined c.lines d))

pub yields_heading : Yields heading_in IsHeading
yields_heading =
    yields_both (line_in version_in) version_after IsVersionLine IsHeading
    (yields_line version_in IsVersionLine
    (λ bytes. IfOk-weaker (version_in bytes) (λ v. bytes ≡ version_text v) (λ v. IsVersionLine v (pieces_of bytes ∷ [])) (λ v e. ap (λ t. pieces_of t ∷ []) e) (version_has bytes)))
    (λ v vs a. yields_both (line_in line_job) (job_after v) (λ job bs. IsSize job.size × (bs ≡ job_line job ∷ [])) (λ h ls. IsHeading h (vs ++ ls))
    (yields_line line_job (λ job bs. IsSize job.size × (bs ≡ job_line job ∷ []))
    (λ bytes. IfOk-weaker (line_job bytes) (IsJobLine (pieces_of bytes)) (λ job. IsSize job.size × (pieces_of bytes ∷ [] ≡ job_line job ∷ []))
    (λ job h. (h.0, ap (λ l. l ∷ []) h.1)) (job_has (pieces_of bytes))))
    (λ job bs b. yields_both (words_in v) (λ said. words_after (with_words said job)) (AreWordsOf v) (λ h ls. IsHeading h (vs ++ (bs ++ ls))) (yields_words v)
    (λ said cs c. yields_made (line_in (line_kind (with_words said job))) (λ k. record { job = with_words said job; kind = k })
    (λ k ds. IsHeadFor (with_words said job) k × (ds ≡ head_line k ∷ [])) (λ h ls. IsHeading h (vs ++ (bs ++ (cs ++ ls))))
    (yields_line (line_kind (with_words said job)) (λ k ds. IsHeadFor (with_words said job) k × (ds ≡ head_line k ∷ []))
    (λ bytes. IfOk-weaker (line_kind (with_words said job) bytes) (IsHeadLine (with_words said job) (pieces_of bytes)) (λ k. IsHeadFor (with_words said job) k × (pieces_of bytes ∷ [] ≡ head_line k ∷ []))
    (λ k h. (h.0, ap (λ l. l ∷ []) h.1)) (kind_has (with_words said job) (pieces_of bytes))))
    (λ k ds d. record { size = b.0; words = c.are; kind = d.0; lines = headings_join v job said k vs bs cs ds a b.1 c d.1 }))))
