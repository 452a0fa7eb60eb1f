-- Serves private contracts: the fields of a file, of rows and of vectors, as contracts see them.
use Rattle.std.specs.Prelude.{map}
use Rattle.dsv_state_file.specs.declared.state_file.StateFile.TheInside.{Inside}
use Rattle.dsv_state_file.specs.StateFiles.{StateFileView}

abbrev pub view_of : Inside → StateFileView
view_of f = record {
  states = f.states;
  a = map (λ row. row.items) f.a.items;
  b = f.b.items;
  c = f.c.items;
  d = f.d;
  int_bits = f.int_bits;
  frac_bits = f.frac_bits;
  min = f.min;
  max = f.max;
}
