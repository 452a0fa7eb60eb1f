-- The text of a whole program.
use Rattle.std.specs.Prelude.{ℕ, ◌+◌, Bool, if◌then◌else◌, List, [], ◌∷◌, ◌++◌, length}
use Rattle.std.specs.List.{flat_map}
use Rattle.dsv_netlist.specs.Nodes.{Net}
use Rattle.dsv_netlist.specs.Bounds.{bounds_of}
use Rattle.dsv_c.specs.declared.c_type.CType.{CType}
use Rattle.dsv_ctext.specs.declared.names.Labels.{Labels}
use Rattle.dsv_ctext.specs.declared.names.MemberName.{MemberName}
use Rattle.dsv_ctext.specs.declared.remarks.Remarks.{Remarks}
use Rattle.dsv_c.specs.Syntax.{Helper, Rounded, Fitted, Program}
use Rattle.dsv_c.specs.Programs.{has_helper, named_function, helpers_from, node_helpers, codes_of}
use Rattle.dsv_ctext.specs.Comments.{title_text, step_remark}
use Rattle.dsv_ctext.specs.ProgramTexts.{struct_text, init_text, step_text}
use Rattle.dsv_ctext.specs.HelperTexts.{function_text}
use Rattle.dsv_c.specs.Codable.{node_at}

abbrev pub functions_text : Program → List ℕ
functions_text p = flat_map function_text p.functions

-- the text of a program whose struct has so many members
abbrev pub unit_text : Labels → ℕ → Program → List ℕ
unit_text names many p = title_text names.remarks ++ (struct_text names p.word many
    ++ (functions_text p ++ (init_text names many p
    ++ ((10 ∷ step_remark names.remarks) ++ step_text names many p))))

-- the labels of these contents, wherever they lie in memory
abbrev pub labels_of : List ℕ → List MemberName → Remarks → Labels
labels_of prefix members remarks = record {
  prefix = record { ref_ptr = (0, 0); now = prefix };
  members = record { ref_ptr = (0, 0); now = members };
  remarks = remarks;
}

-- ---- as the writers see it
abbrev pub helper_named : Bool → CType → Helper
helper_named fits t = if fits then Fitted t else Rounded t

-- the helper functions that a netlist's nodes call
abbrev pub called_in : Net → List Helper
called_in net = helpers_from net.format net.nodes [] [] (length net.next + 1)

abbrev pub called_at : Net → ℕ → List Helper
called_at net i =
    node_helpers net.format (bounds_of net.format net.nodes) (codes_of net) (node_at net i)

abbrev pub part_text : Net → Helper → List ℕ
part_text net h =
    if has_helper h (called_in net) then function_text (named_function net.format h) else []

abbrev pub type_parts : Net → CType → List ℕ
type_parts net t = part_text net (Rounded t) ++ part_text net (Fitted t)
