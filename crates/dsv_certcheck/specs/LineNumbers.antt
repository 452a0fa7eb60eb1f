-- The numbers of a certificate's lines, which count from 1.
use Rattle.std.specs.Prelude.{ℕ, ◌+◌, length}
use Rattle.dsv_certfile.specs.declared.job.CertWords.{CertWords}
use Rattle.dsv_certfile.specs.declared.job.CertWords.TheVariants as words
use Rattle.dsv_template.specs.declared.candidate.Candidate.{Candidate}
use Rattle.dsv_template.specs.declared.verdict.SetPart.{SetPart}
use Rattle.dsv_template.specs.declared.verdict.SetPart.TheVariants as part
use Rattle.dsv_template.specs.declared.verdict.ThreeLogs.{ThreeLogs}

-- the line of the version
abbrev pub version_line_number : ℕ
version_line_number = 1

-- the line of the job
abbrev pub job_line_number : ℕ
job_line_number = 2

-- the line of the words' format, where a certificate says it
abbrev pub format_line_number : ℕ
format_line_number = 3

-- the line of the kind, where a certificate says this of the words
abbrev pub kind_line : CertWords → ℕ
kind_line words.Unsaid = 3
kind_line (words.Said int_bits frac_bits) = 4

-- the first line after that of the kind
abbrev pub body_line : CertWords → ℕ
body_line w = kind_line w + 1

-- The first lines of the logs of a candidate's sentences: after the inequalities, each log stands
-- after the word of its sentence.
abbrev pub base_line : CertWords → Candidate → ℕ
base_line w candidate = body_line w + length candidate.inequalities.items + 1

abbrev pub step_line : CertWords → Candidate → ThreeLogs → ℕ
step_line w candidate logs = base_line w candidate + length logs.base + 1

abbrev pub safe_line : CertWords → Candidate → ThreeLogs → ℕ
safe_line w candidate logs = step_line w candidate logs + length logs.step + 1

abbrev pub log_line : CertWords → SetPart → Candidate → ThreeLogs → ℕ
log_line w part.Base candidate logs = base_line w candidate
log_line w part.Step candidate logs = step_line w candidate logs
log_line w part.Safe candidate logs = safe_line w candidate logs
