-- The numbers of faults in reports.
use Rattle.std.specs.Prelude.{ℕ}
use Rattle.dsv_certfile.specs.declared.fault.CheckFault.{CheckFault}
use Rattle.dsv_certfile.specs.declared.fault.CheckFault.TheVariants as check
use Rattle.dsv_certfile.specs.declared.fault.TextFault.{TextFault}
use Rattle.dsv_certfile.specs.declared.fault.TextFault.TheVariants as fault

abbrev pub code_of : TextFault → ℕ
code_of fault.Version = 1
code_of fault.Kind = 2
code_of fault.Number = 3
code_of fault.Line = 4
code_of fault.End = 5

abbrev pub check_code_of : CheckFault → ℕ
check_code_of check.Step = 6
check_code_of check.Form = 7
check_code_of check.Shape = 8
check_code_of check.Format = 10
check_code_of check.Gain = 11
check_code_of check.Error = 12
check_code_of check.Table = 13
