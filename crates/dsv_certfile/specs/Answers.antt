-- What is read, and why it isn't.
use Rattle.std.specs.Prelude.{◌≡◌, ℕ, Result, Ok, Err}
use Rattle.dsv_lines.specs.Pieces.{LinesLeft}
use Rattle.dsv_lines.specs.Readings.{Reading, reading_of}
use Rattle.dsv_certfile.specs.declared.fault.TextFault.{TextFault}
use Rattle.dsv_certfile.specs.declared.fault.TextRefusal.{TextRefusal}
use Rattle.dsv_certfile.specs.declared.fault.LineRefusal.{LineRefusal}
use Rattle.dsv_certfile.specs.declared.fault.LineRefusal.TheVariants as line_refusal
use Rattle.dsv_certfile.specs.declared.fault.CertRefusal.{CertRefusal}
use Rattle.dsv_certfile.specs.declared.fault.CertRefusal.TheVariants as refusal

-- the refusal of a text whose line of this number has this fault
abbrev pub text_refusal : ℕ → TextFault → TextRefusal
text_refusal n why = record { line = n; fault = why }

-- what a line of this number says, or its fault there
abbrev pub at_line : {X : Type 0} → ℕ → Result X TextFault → Result X TextRefusal
at_line n (Ok x) = Ok x
at_line n (Err why) = Err (text_refusal n why)

-- the refusal of a text, as one of a certificate
abbrev pub cert_refusal : TextRefusal → CertRefusal
cert_refusal why = refusal.Text why.line why.fault

-- what a text says, or its refusal, as one of a certificate
abbrev pub cert_answer : {X : Type 0} → Result X TextRefusal → Result X CertRefusal
cert_answer (Ok x) = Ok x
cert_answer (Err why) = Err (cert_refusal why)

-- ---- answers that may be want of memory in place of what is meant
-- the refusal is the one that is meant, or there was no memory
abbrev pub Refuses : {X : Type 0} → CertRefusal → Result X CertRefusal → Type 0
Refuses refusal.NoMemory meant = Unit {0}
Refuses (refusal.Text n why) meant = meant ≡ Err (refusal.Text n why)

-- the result is what is meant, or there was no memory
abbrev pub Gives : {X : Type 0} → Result X CertRefusal → Result X CertRefusal → Type 0
Gives (Ok x) meant = meant ≡ Ok x
Gives (Err why) meant = Refuses why meant

-- the same of what is meant by a text
abbrev pub RefusesText : {X : Type 0} → CertRefusal → Result X TextRefusal → Type 0
RefusesText refusal.NoMemory meant = Unit {0}
RefusesText (refusal.Text n why) meant = meant ≡ Err (text_refusal n why)

abbrev pub GivesText : {X : Type 0} → Result X CertRefusal → Result X TextRefusal → Type 0
GivesText (Ok x) meant = meant ≡ Ok x
GivesText (Err why) meant = RefusesText why meant

-- the same for a reader that moves on: what is left of the text is what is meant, too
abbrev pub ReadsText : {X : Type 0} → Result X CertRefusal → LinesLeft
    → Result (Reading X) TextRefusal → Type 0
ReadsText (Ok x) left meant = meant ≡ Ok (reading_of x left)
ReadsText (Err why) left meant = RefusesText why meant

-- the same on one line
abbrev pub LineRefuses : {X : Type 0} → LineRefusal → Result X TextFault → Type 0
LineRefuses line_refusal.NoMemory meant = Unit {0}
LineRefuses (line_refusal.Fault why) meant = meant ≡ Err why

abbrev pub LineGives : {X : Type 0} → Result X LineRefusal → Result X TextFault → Type 0
LineGives (Ok x) meant = meant ≡ Ok x
LineGives (Err why) meant = LineRefuses why meant

-- the refusal of a text whose line of this number wasn't read
abbrev pub refusal_at : ℕ → LineRefusal → CertRefusal
refusal_at n line_refusal.NoMemory = refusal.NoMemory
refusal_at n (line_refusal.Fault why) = refusal.Text n why
