-- The text of a certificate: lines, each of pieces joined by one space and ended by a line feed.
use Rattle.std.specs.Prelude.{ℕ, ◌+◌, List, [], ◌∷◌, ◌++◌, length, map, take, codes, decimal, ℤ}
use Rattle.std.specs.Prelude.{Option, Some, None}
use Rattle.std.specs.List.{flat_map}
use Rattle.std.specs.Fmt.{signed_decimal}
use Rattle.dsv_lines.specs.Texts.{Line, line_text}
use Rattle.dsv_names.specs.Properties.{property_name}
use Rattle.dsv_names.specs.Realisations.{realisation_name}
use Rattle.dsv_names.specs.Roundings.{rounding_name}
use Rattle.dsv_names.specs.OverflowModes.{overflow_mode_name}
use Rattle.dsv_cnf.specs.Texts.{literal_piece}
use Rattle.dsv_hints.specs.declared.step.Step.{Step}
use Rattle.dsv_hints.specs.declared.step.Step.TheVariants.{Add, Delete}
use Rattle.dsv_forms.specs.declared.offers.Squares.{Squares}
use Rattle.dsv_forms.specs.declared.offers.Falls.{Falls}
use Rattle.dsv_roundoff.specs.declared.offers.RoundoffOffer.{RoundoffOffer}
use Rattle.dsv_roundoff.specs.declared.offers.WordRange.{WordRange}
use Rattle.dsv_template.specs.declared.candidate.Inequality.{Inequality}
use Rattle.dsv_template.specs.declared.candidate.Candidate.{Candidate}
use Rattle.dsv_template.specs.declared.verdict.ThreeLogs.{ThreeLogs}
use Rattle.dsv_integer.specs.Numerals.{integer_text}
use Rattle.dsv_certfile.specs.Keywords.{keyword_text, unbounded_text, plant_text}
use Rattle.dsv_certfile.specs.Keywords.{deletion_text, zero_text}
use Rattle.dsv_certfile.specs.Kinds.{kind_name}
use Rattle.dsv_certfile.specs.declared.certificate.Certificate.{Certificate}
use Rattle.dsv_certfile.specs.declared.certificate.Certificate.TheVariants as certificate
use Rattle.dsv_certfile.specs.declared.job.CertWords.{CertWords}
use Rattle.dsv_certfile.specs.declared.job.CertWords.TheVariants as words
use Rattle.dsv_certfile.specs.declared.job.CertifiedJob.{CertifiedJob}
use Rattle.dsv_certfile.specs.declared.job.Size.{Size}
use Rattle.dsv_certfile.specs.declared.job.Size.TheVariants as size
use Rattle.dsv_certfile.specs.declared.keyword.Keyword.{Keyword}
use Rattle.dsv_certfile.specs.declared.keyword.Keyword.TheVariants as keyword
use Rattle.dsv_certfile.specs.declared.kind.Kind.{Kind}
use Rattle.dsv_certfile.specs.declared.kind.Kind.TheVariants as kind

-- ---- lines
-- a word alone
abbrev pub word_line : Keyword → Line
word_line w = keyword_text w ∷ []

-- a word and numbers
abbrev pub numbers_line : Keyword → List ℤ → Line
numbers_line w numbers = keyword_text w ∷ map signed_decimal numbers

-- ---- headings
-- version 1 where the format of the words isn't said, and version 2 where it is
abbrev pub version_line : CertWords → Line
version_line words.Unsaid = codes "dsv-certificate" ∷ codes "1" ∷ []
version_line (words.Said int_bits frac_bits) = codes "dsv-certificate" ∷ codes "2" ∷ []

abbrev pub size_pieces : Size → Line
size_pieces size.NoSize = []
size_pieces (size.Samples k) = decimal k ∷ []
size_pieces size.Unbounded = unbounded_text ∷ []
size_pieces size.OfLoop = plant_text ∷ []

abbrev pub job_line : CertifiedJob → Line
job_line job = keyword_text keyword.Job ∷ property_name job.property
    ∷ realisation_name job.design.realisation ∷ rounding_name job.design.rounding
    ∷ overflow_mode_name job.design.overflow ∷ size_pieces job.size

-- how many bits stand before the point and after it
abbrev pub format_line : ℕ → ℕ → Line
format_line int_bits frac_bits =
    keyword_text keyword.Format ∷ decimal int_bits ∷ decimal frac_bits ∷ []

-- the line of the format, where it is said
abbrev pub format_lines : CertWords → List Line
format_lines words.Unsaid = []
format_lines (words.Said int_bits frac_bits) = format_line int_bits frac_bits ∷ []

-- the lines before that of the kind
abbrev pub head_lines : CertifiedJob → List Line
head_lines job = version_line job.words ∷ job_line job ∷ format_lines job.words

-- a kind and numbers
abbrev pub kind_line : Kind → List ℕ → Line
kind_line k numbers = keyword_text keyword.Kind ∷ kind_name k ∷ map decimal numbers

-- ---- logs

-- the entries of a list of a step, and the 0 that ends it
abbrev pub list_pieces : {X : Type 0} → (X → List ℕ) → List X → Line
list_pieces text xs = map text xs ++ zero_text ∷ []

abbrev pub step_line : Step → Line
step_line (Add id lits hints) =
    decimal id ∷ (list_pieces literal_piece lits ++ list_pieces decimal hints)
step_line (Delete id ids) = decimal id ∷ deletion_text ∷ list_pieces decimal ids

abbrev pub log_lines : List Step → List Line
log_lines = map step_line

-- ---- an invariant
abbrev pub inequality_line : Inequality → Line
inequality_line i = numbers_line keyword.Inequality (i.coefficients.items ++ i.bound ∷ [])

-- each log after the word of its sentence
abbrev pub logs_lines : ThreeLogs → List Line
logs_lines logs =
    word_line keyword.Base ∷ log_lines logs.base
    ++ word_line keyword.Step ∷ log_lines logs.step
    ++ word_line keyword.Safe ∷ log_lines logs.safe

-- ---- how far outputs are from those of exact runs
-- the least and the greatest difference of a register, in words
abbrev pub range_line : WordRange → Line
range_line w = numbers_line keyword.Box (w.low ∷ w.high ∷ [])

-- a line for each range of the box, where there is an offer
abbrev pub box_lines : Option RoundoffOffer → List Line
box_lines None = []
box_lines (Some offer) = map range_line offer.ranges

-- the numbers of the kind line: the gain's depth, the offer's, and how many ranges there are
abbrev pub roundoff_counts : ℕ → RoundoffOffer → List ℕ
roundoff_counts depth offer = depth ∷ offer.depth ∷ length offer.ranges ∷ []

abbrev pub gain_line : ℕ → Option RoundoffOffer → Line
gain_line depth None = kind_line kind.Gain (depth ∷ [])
gain_line depth (Some offer) = kind_line kind.Error (roundoff_counts depth offer)

-- ---- falls
-- a line for each of the first d rows, of its first d places
abbrev pub rows_lines : Keyword → ℕ → List (List ℤ) → List Line
rows_lines w d rows = map (λ row. numbers_line w (take d row)) (take d rows)

-- a square: its weight, and the first d places of its row
abbrev pub square_lines : ℕ → List ℤ → List (List ℤ) → List Line
square_lines d (weight ∷ weights) (row ∷ rows) =
    numbers_line keyword.Square (weight ∷ take d row) ∷ square_lines d weights rows
square_lines d weights rows = []

-- the line that squares begin with: the factor, and how many there are
abbrev pub squares_head : Keyword → Squares → Line
squares_head w s = keyword_text w ∷ signed_decimal s.m ∷ decimal s.count ∷ []

-- the squares of a form of d places and the rest
abbrev pub squares_body : ℕ → Squares → List Line
squares_body d s =
    square_lines d (take s.count s.weights) s.rows ++ rows_lines keyword.Rest d s.rest

-- the same after that line
abbrev pub squares_lines : Keyword → ℕ → Squares → List Line
squares_lines w d s = squares_head w s ∷ squares_body d s

abbrev pub falls_lines : Falls → List Line
falls_lines offer = rows_lines keyword.Form offer.form.d offer.form.rows
    ++ squares_lines keyword.Positive offer.form.d offer.positive
    ++ squares_lines keyword.Fall offer.form.d offer.fall

-- ---- the coefficients of a polynomial, the one of its highest power first
abbrev pub coefficient_line : ℤ → Line
coefficient_line c = keyword_text keyword.Coefficient ∷ integer_text c ∷ []

-- ---- certificates
abbrev pub job_of : Certificate → CertifiedJob
job_of (certificate.Hints job log) = job
job_of (certificate.Invariant job candidate logs) = job
job_of (certificate.Gain job depth offer) = job
job_of (certificate.Falls job offer) = job
job_of (certificate.Table job coefficients) = job

-- the numbers of an invariant's kind line: the depth, and how many inequalities there are
abbrev pub candidate_counts : Candidate → List ℕ
candidate_counts candidate = candidate.depth ∷ length candidate.inequalities.items ∷ []

abbrev pub kind_line_of : Certificate → Line
kind_line_of (certificate.Hints job log) = kind_line kind.Hints []
kind_line_of (certificate.Invariant job candidate logs) =
    kind_line kind.Invariant (candidate_counts candidate)
kind_line_of (certificate.Gain job depth offer) = gain_line depth offer
kind_line_of (certificate.Falls job offer) = kind_line kind.Falls (offer.form.d ∷ [])
kind_line_of (certificate.Table job coefficients) = kind_line kind.Table (length coefficients ∷ [])

-- the lines between the kind line and the line `end`
abbrev pub body_lines : Certificate → List Line
body_lines (certificate.Hints job log) = log_lines log
body_lines (certificate.Invariant job candidate logs) =
    map inequality_line candidate.inequalities.items ++ logs_lines logs
body_lines (certificate.Gain job depth offer) = box_lines offer
body_lines (certificate.Falls job offer) = falls_lines offer
body_lines (certificate.Table job coefficients) = map coefficient_line coefficients

abbrev pub certificate_lines : Certificate → List Line
certificate_lines c =
    head_lines (job_of c) ++ kind_line_of c ∷ (body_lines c ++ word_line keyword.End ∷ [])

-- the whole text
abbrev pub certificate_text : Certificate → List ℕ
certificate_text c = flat_map line_text (certificate_lines c)
