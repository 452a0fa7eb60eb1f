-- The certificate that a text spells, or why it spells none and at which line.
use Rattle.std.specs.Prelude.{ℕ, List, Some, None, Result, Ok}
use Rattle.dsv_text.specs.Stages.{◌>>=◌}
use Rattle.dsv_lines.specs.Readings.{Reading, reading_of}
use Rattle.dsv_certfile.specs.Answers.{cert_answer}
use Rattle.dsv_certfile.specs.Bodies.{line_in, word_in, whole_text, falls_in, invariant_in}
use Rattle.dsv_certfile.specs.Bodies.{roundoff_in, table_in}
use Rattle.dsv_certfile.specs.Headings.{version_in, line_job, line_format, line_kind}
use Rattle.dsv_lines.specs.Pieces.{LinesLeft, all_lines}
use Rattle.dsv_certfile.specs.Steps.{log_in}
use Rattle.dsv_certfile.specs.Words.{with_words}
use Rattle.dsv_certfile.specs.declared.certificate.Certificate.{Certificate}
use Rattle.dsv_certfile.specs.declared.certificate.Certificate.TheVariants as certificate
use Rattle.dsv_certfile.specs.declared.fault.CertRefusal.{CertRefusal}
use Rattle.dsv_certfile.specs.declared.fault.TextRefusal.{TextRefusal}
use Rattle.dsv_certfile.specs.declared.job.CertWords.{CertWords}
use Rattle.dsv_certfile.specs.declared.job.CertWords.TheVariants as words
use Rattle.dsv_certfile.specs.declared.job.CertifiedJob.{CertifiedJob}
use Rattle.dsv_certfile.specs.declared.job.Version.{Version}
use Rattle.dsv_certfile.specs.declared.job.Version.TheVariants as version
use Rattle.dsv_certfile.specs.declared.reader.Heading.{Heading}
use Rattle.dsv_certfile.specs.declared.keyword.Keyword.TheVariants as keyword
use Rattle.dsv_certfile.specs.declared.kind.KindHead.{KindHead}
use Rattle.dsv_certfile.specs.declared.kind.KindHead.TheVariants as head

-- what is said of the words: nothing, or the next line's format
abbrev pub words_in : Version → LinesLeft → Result (Reading CertWords) TextRefusal
words_in version.One ls = Ok (reading_of words.Unsaid ls)
words_in version.Two ls = line_in line_format ls

-- the version, the job with what is said of the words, and the kind
abbrev pub heading_in : LinesLeft → Result (Reading Heading) TextRefusal
heading_in ls =
    line_in version_in ls >>= λ first.
    line_in line_job first.left >>= λ job.
    words_in first.value job.left >>= λ said.
    let whole = with_words said.value job.value in
    line_in (line_kind whole) said.left >>= λ kind.
    Ok (reading_of (record { job = whole; kind = kind.value }) kind.left)

-- what follows the kind line, the last line of the certificate among it
abbrev pub body_in : CertifiedJob → KindHead → LinesLeft → Result (Reading Certificate) TextRefusal
body_in job head.Hints ls =
    log_in keyword.End ls >>= λ log.
    Ok (reading_of (certificate.Hints job log.value) log.left)
body_in job (head.Invariant depth count) ls =
    invariant_in depth count ls >>= λ i.
    Ok (reading_of (certificate.Invariant job i.value.candidate i.value.logs) i.left)
body_in job (head.Gain depth) ls =
    word_in keyword.End ls >>= λ end.
    Ok (reading_of (certificate.Gain job depth None) end.left)
body_in job (head.Error depth error_depth count) ls =
    roundoff_in error_depth count ls >>= λ offer.
    Ok (reading_of (certificate.Gain job depth (Some offer.value)) offer.left)
body_in job (head.Falls d) ls =
    falls_in d ls >>= λ offer.
    Ok (reading_of (certificate.Falls job offer.value) offer.left)
body_in job (head.Table count) ls =
    table_in count ls >>= λ coefficients.
    Ok (reading_of (certificate.Table job coefficients.value) coefficients.left)

-- a whole text
abbrev pub whole_certificate : List ℕ → Result Certificate TextRefusal
whole_certificate bytes =
    heading_in (all_lines bytes) >>= λ heading.
    body_in heading.value.job heading.value.kind heading.left >>= λ body.
    whole_text body.value body.left.number body.left.lines

abbrev pub certificate_in : List ℕ → Result Certificate CertRefusal
certificate_in bytes = cert_answer (whole_certificate bytes)
