use Rattle.std.proofs.Common.{ap, ◌∙◌, [], length}
use Rattle.dsv_lines.specs.Readings.{reading_of}
use Rattle.dsv_state_file.proofs.ReadFiles.{rows_read}
use Rattle.dsv_state_file.proofs.reader.read_file.Goals as goal

pub invariant_of-result : goal.invariant_of-result
invariant_of-result c =
    let states = c.args.head.states in
    let rows = rows_read states states [] c.args.lines.now (reading_of c.in_ok-a.a c.read_rows.new.lines) c.in_ok-a.ensures in
    let a = c.a.view_is ∙ rows.value in
    record {
      some = c.requires.some;
      few = c.requires.few;
      rows = ap length a ∙ rows.many;
      square = rw a (rows.square);
      inputs = ap length c.b.view_is ∙ c.in_ok-b.ensures.many;
      outputs = ap length c.c.view_is ∙ c.in_ok-c.ensures.many;
      int_bits = c.requires.int_bits;
      wide = c.requires.wide;
      narrow = c.requires.narrow;
    }
