-- The texts of what is found of a cascade's sections.
use Rattle.std.specs.Prelude.{ℕ, ◌+◌, List, ◌++◌, length, take, codes}
use Rattle.dsv_cascade.specs.declared.cascade.CascadeRefusal.{CascadeRefusal}
use Rattle.dsv_cascade.specs.declared.cascade.CascadeRefusal.TheVariants as refusal
use Rattle.dsv_cascade.specs.declared.stability.CascadeForms.{CascadeForms}
use Rattle.dsv_cascade.specs.declared.stability.CascadeForms.TheVariants as forms
use Rattle.dsv_cascade.specs.declared.stability.SectionFault.{SectionFault}
use Rattle.dsv_cascade.specs.declared.stability.SectionFault.TheVariants as fault
use Rattle.dsv_cascade.specs.declared.stability.SectionOffer.{SectionOffer}
use Rattle.dsv_cascade.specs.Sections.{place_of}
use Rattle.dsv_poly_table.specs.declared.sections.SectionTables.{SectionTables}
use Rattle.dsv_poly_table.specs.declared.sections.SectionTables.TheVariants as tables
use Rattle.dsv_table.specs.declared.finding.TableFinding.{TableFinding}
use Rattle.dsv_report.specs.Forms.{form_text, start_text}
use Rattle.dsv_report.specs.Lines.{numbered, number_line, numbered_lines}
use Rattle.dsv_report.specs.Tables.{table_text}

-- how many sections there are, in the line of the realisation: one before these later ones
abbrev pub sections_text : List (List ℕ) → List ℕ
sections_text later = numbered (codes " sections ") (length later + 1)

-- the section that what follows is said of
abbrev pub section_line : ℕ → List ℕ
section_line section = number_line (codes "section ") section

-- what shows a section to be stable
abbrev pub section_text : ℕ → SectionOffer → List ℕ
section_text section s = section_line section ++ form_text s.poly s.offer.form s.fall

-- why a section isn't decided
abbrev pub cause_text : List ℕ → ℕ → ℕ → List ℕ
cause_text word section index = numbered word section ++ number_line (codes " index ") index

abbrev pub wide_text : ℕ → ℕ → List ℕ
wide_text = cause_text (codes "cause WIDE section ")

abbrev pub no_closed_form_text : ℕ → ℕ → List ℕ
no_closed_form_text = cause_text (codes "cause NO_CLOSED_FORM section ")

-- why closed forms don't show the section of this number to be stable
abbrev pub fault_text : ℕ → SectionFault → List ℕ
fault_text section (fault.KeptAway poly offer fall value) = section_line section
    ++ (form_text poly offer.form fall ++ start_text (take offer.form.d offer.start) value)
fault_text section (fault.Wide index) = wide_text section index
fault_text section (fault.NoClosedForm index) = no_closed_form_text section index

-- what closed forms say of the sections, after the heading
abbrev pub forms_text : CascadeForms → List ℕ
forms_text (forms.Falls offers) = numbered_lines section_text 0 offers
forms_text (forms.NotAll section found) = fault_text section found

-- what the table of a section says
abbrev pub section_table_text : ℕ → TableFinding → List ℕ
section_table_text section found = section_line section ++ table_text found

-- what tables say of the sections, after the heading
abbrev pub section_tables_text : SectionTables → List ℕ
section_tables_text (tables.Inside findings) = numbered_lines section_table_text 0 findings
section_tables_text (tables.NotInside section found) = section_table_text section found
section_tables_text (tables.Wide section index) = wide_text section index

-- the code and the name of a refusal
unfoldable pub cascade_code : CascadeRefusal → List ℕ
cascade_code (refusal.Order section) = codes "CASCADE REFUSED 31 ORDER "
cascade_code (refusal.Mixed section) = codes "CASCADE REFUSED 32 MIXED "

abbrev pub cascade_refusal_text : CascadeRefusal → List ℕ
cascade_refusal_text r = number_line (cascade_code r) (place_of r)
