-- Texts are read back whole.
use Rattle.std.proofs.Common.{◌≡◌, ◌∙◌, ap, sym, refl, ℕ, true, false, List, [], ◌∷◌, ◌++◌, length, Some, arith}
use Rattle.std.specs.Prelude.{codes, ◌||◌, ◌&&◌, not, nat_le}
use Rattle.std.specs.List.{list_all}
use Rattle.std.specs.Option.{option_and_then}
use Rattle.std.proofs.lemmas.Bool.{and_parts, and_from}
use Rattle.std.proofs.lemmas.Bool.Decides.{nat_tests}
use Rattle.std.proofs.lemmas.List.{append-nil}
use Rattle.dsv_netlist.specs.Nodes.{Net}
use Rattle.dsv_text.specs.Bytes.{is_letter, is_digit}
use Rattle.dsv_command.specs.CodeNames.{are_name_bytes, starts_name, is_code_name, is_reserved, most_code_letters}
use Rattle.dsv_c.specs.Programs.{program_of}
use Rattle.dsv_ctext.specs.UnitTexts.{labels_of, unit_text}
use Rattle.dsv_ctext.specs.declared.names.MemberName.{MemberName}
use Rattle.dsv_ctext.specs.declared.remarks.Remarks.{Remarks}
use Rattle.dsv_code.specs.Code.{code_bytes, remarks_of}
use Rattle.dsv_c_reading.specs.Labels.{IsIdentifier}
use Rattle.dsv_c_reading.specs.Law.{ProgramsAreReadBack, SubjectsAreReadBack}
use Rattle.dsv_c_reading.specs.Lexemes.{nothing, comment, lex_next, lexed}
use Rattle.dsv_c_reading.specs.Machines.{gone, steps}
use Rattle.dsv_c_reading.specs.Units.{unit_in, tokens_read}
use Rattle.dsv_c_reading.proofs.Runs.{after_none, steps_append, steps_on}
use Rattle.dsv_c_reading.proofs.LexComments.{comment_join, quiet_then}
use Rattle.dsv_c_reading.proofs.LexQuiet.{is_quiet}
use Rattle.dsv_c_reading.proofs.Lexed.{unit_lexed}
use Rattle.dsv_c_reading.proofs.Parsed.{unit_parsed}
use Rattle.dsv_c_reading.proofs.ReadablePrograms.{program_readable, few_locals}

pub read_back : ProgramsAreReadBack
read_back net prefix members remarks h c count i m r =
    let names = labels_of prefix members remarks in
    let p = program_of net in
    let readable = program_readable net h c in
    let few = few_locals net h in
    ap (option_and_then tokens_read) (unit_lexed names (length net.next) p i m r count readable few)
    ∙ unit_parsed names (length net.next) p i m count readable few

-- ---- after a comment
quiet_byte : (b : ℕ) → (is_letter b || is_digit b) ≡ true → is_quiet b ≡ true
quiet_byte b h = grind (arith, nat_tests)

quiet_bytes : (name : List ℕ) → are_name_bytes name ≡ true → list_all is_quiet name ≡ true
quiet_bytes [] h = refl
quiet_bytes (b ∷ bs) h =
    let p = and_parts (is_letter b || is_digit b) (are_name_bytes bs) h in
    and_from (is_quiet b) (list_all is_quiet bs) (quiet_byte b p.0) (quiet_bytes bs p.1)

-- the comment has no tokens
name_runs : (name : List ℕ) → are_name_bytes name ≡ true → steps lex_next nothing (codes "/* " ++ (name ++ (codes " */" ++ 10 ∷ []))) ≡ Some (gone [] nothing)
name_runs name h =
    comment_join nothing (comment false) nothing (codes "/* ") (name ++ (codes " */" ++ 10 ∷ [])) refl
    (quiet_then name (codes " */" ++ 10 ∷ []) (record { bytes = quiet_bytes name h }) refl)

passed : (x text : List ℕ) → steps lex_next nothing x ≡ Some (gone [] nothing) → unit_in (x ++ text) ≡ unit_in text
passed x text e =
    let same : steps lex_next nothing (x ++ text) ≡ steps lex_next nothing text =
    steps_append lex_next nothing x text ∙ (ap (option_and_then (steps_on lex_next text)) e ∙ sym (after_none (steps lex_next nothing text))) in
    ap (λ r. option_and_then tokens_read (option_and_then lexed r)) same

-- ---- subjects
code_text : (net : Net) (prefix : List ℕ) (members : List MemberName) (remarks : Remarks) → code_bytes net prefix members remarks [] ≡ unit_text (labels_of prefix members remarks) (length net.next) (program_of net)
unfolding code_bytes
code_text net prefix members remarks = append-nil (unit_text (labels_of prefix members remarks) (length net.next) (program_of net))

pub subjects_back : SubjectsAreReadBack
subjects_back s prefix members origin text h i m r =
    let remarks = remarks_of s origin in
    let is : text ≡ unit_text (labels_of prefix members remarks) (length s.net.next) (program_of s.net) = h.text_is ∙ code_text s.net prefix members remarks in
    let read = ap unit_in is ∙ read_back s.net prefix members remarks h.netlist h.codable h.named i m r in
    (read, λ name bytes. passed (codes "/* " ++ (name ++ (codes " */" ++ 10 ∷ []))) text (name_runs name bytes) ∙ read)

-- ---- names
pub prefix_good : (prefix : List ℕ) → is_code_name prefix ≡ true → IsIdentifier prefix
prefix_good prefix h =
    let p = and_parts (nat_le (length prefix) most_code_letters && starts_name prefix) (are_name_bytes prefix && not (is_reserved prefix)) h in
    record {
      starts = (and_parts (nat_le (length prefix) most_code_letters) (starts_name prefix) p.0).1;
      bytes = (and_parts (are_name_bytes prefix) (not (is_reserved prefix)) p.1).0;
    }
