use Rattle.std.proofs.Common.{take}
use Rattle.dsv_poly_table.specs.Sections.{AreInside}
use Rattle.dsv_poly_table.proofs.sections.section_tables.Given as goal

abbrev pub invariant-loop-section : goal.invariant-loop-section
invariant-loop-section l = AreInside (take l.section l.fn.sections) l.findings
