use Rattle.std.specs.Prelude.{◌≡◌, ℕ}
use Rattle.std.proofs.Common.{ap}
use Rattle.dsv_cnf.specs.Literal.{code_of}
use Rattle.dsv_cnf.specs.LiteralCode.{literal_of, code-literal_of}
use Rattle.dsv_cnf.specs.declared.literal.Lit.TheInside.{Inside}

abbrev pub inside_of : ℕ → Inside
inside_of n = record { 0 = n }

pub same_inside : (a : Inside) → inside_of (code_of (literal_of a.0)) ≡ a
same_inside a = ap inside_of (code-literal_of a.0)
