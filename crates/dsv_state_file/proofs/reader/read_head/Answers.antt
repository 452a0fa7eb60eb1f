use Rattle.std.proofs.Common.{sym}
use Rattle.dsv_lines.specs.Pieces.{pieces_of}
use Rattle.dsv_state_file.proofs.ReadParts.{format_read, states_read}
use Rattle.dsv_state_file.proofs.reader.read_head.Goals as goal

pub returns-clause-lawful : goal.returns-clause-lawful
returns-clause-lawful c =
    let second = c.in_ok-line-2.line in
    let fourth = c.in_ok-line-4.line in
    let f = format_read second.number (pieces_of second.text.now) c.in_ok-format.format (sym c.in_ok-format.ensures) in
    let s = states_read fourth.number (pieces_of fourth.text.now) c.in_ok-states.states (sym c.in_ok-states.ensures) in
    record { some = s.some; few = s.few; int_bits = f.some; wide = f.wide; narrow = f.narrow }
