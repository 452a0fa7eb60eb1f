use Rattle.std.proofs.Common.{◌≡◌, ◌∙◌, sym, ap, Ok, Err, rules}
use Rattle.dsv_lines.specs.Numerals.{numeral_of, positive_of}
use Rattle.dsv_lines.specs.Pieces.{pieces_of, piece_at}
use Rattle.dsv_lines.proofs.PieceLemmas.{piece_from}
use Rattle.dsv_state_file.specs.Limits.{greatest_int_bits, greatest_frac_bits}
use Rattle.dsv_state_file.specs.Reading.{or_number}
use Rattle.dsv_state_file.proofs.Stages.{bad_frac_bits}
use Rattle.dsv_state_file.proofs.words.read_format.Goals as goal

pub returns-in_err-frac_bits : goal.returns-in_err-frac_bits
returns-in_err-frac_bits c =
    let n = c.args.line.number in
    let words = c.in_ok-words.words in
    let why = c.in_err-frac_bits.field-0.0 in
    let second : c.next_or_empty-2.result.now ≡ piece_at words 1 =
    c.next_or_empty-2.ensures.piece ∙ ap (λ ps. piece_at ps 0) c.next_or_empty.ensures.rest ∙ piece_from 1 words in
    let i : or_number n 0 (positive_of greatest_int_bits (piece_at words 0)) ≡ Ok c.in_ok-int_bits.field-0 =
    ap (λ p. or_number n 0 (positive_of greatest_int_bits p)) (sym c.next_or_empty.ensures.piece) ∙ ap (or_number n 0) (sym c.positive_of-int_bits.ensures.value)
    ∙ sym c.in_ok-int_bits.ensures in
    let f : or_number n 1 (numeral_of greatest_frac_bits (piece_at words 1)) ≡ Err why =
    ap (λ p. or_number n 1 (numeral_of greatest_frac_bits p)) (sym second) ∙ ap (or_number n 1) (sym c.numeral_of-frac_bits.ensures.value)
    ∙ sym c.in_err-frac_bits.ensures in
    let r : c.from_residual-in_err-frac_bits.result ≡ Err why = search rules in
    r ∙ sym (bad_frac_bits n (pieces_of c.args.line.text.now) words c.in_ok-int_bits.field-0 why (sym c.in_ok-words.ensures) i f)
