use Rattle.std.proofs.Common.{◌≡◌, rules}
use Rattle.dsv_lines.specs.Pieces.{pieces_of}
use Rattle.dsv_state_file.specs.Reading.{vector_in}
use Rattle.dsv_state_file.proofs.ReadParts.{vector_has}
use Rattle.dsv_state_file.proofs.vectors.read_vector.Goals as goal

pub returns-clause-many : goal.returns-clause-many
returns-clause-many c =
    let n = c.args.line.number in
    let pieces = pieces_of c.args.line.text.now in
    let e : c.read_decimals.result ≡ vector_in c.args.word.now c.args.count n pieces = search rules in
    vector_has c.args.word.now c.args.count n pieces c.read_decimals.result e
