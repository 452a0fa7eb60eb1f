-- What contracts see of files in memory.
use Rattle.std.specs.Prelude.{string_bytes}
use Rattle.std.specs.Option.{option_map}
use Rattle.dsv_base.specs.Held.{FilesState, held_in}
use Rattle.dsv_base.specs.declared.mem_files.MemFiles.{MemFiles}

abbrev pub state_of : MemFiles → FilesState
state_of files = record {
  held = held_in files.files;
  failing = files.failing.items;
  calls = files.calls;
  faults = files.faults;
  came = files.came;
  blamed = option_map string_bytes files.blamed;
}
