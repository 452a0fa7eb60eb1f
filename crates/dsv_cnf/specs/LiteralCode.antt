use Rattle.std.specs.Prelude.{◌≡◌, ℕ, ◌+◌, ◌*◌, ◌/◌, ◌%◌, true, false, ◌==◌}
use Rattle.std.proofs.Common.{arith}
use Rattle.std.proofs.Math.Nat.{div-add-mod}
use Rattle.std.proofs.lemmas.Bool.Decides.{nat_tests}
use Rattle.dsv_cnf.specs.Literal.{Literal, code_of}

-- the literal that a number stands for
abbrev pub literal_of : ℕ → Literal
literal_of n = record { var = n / 2; positive = n % 2 == 0 }

pub code-literal_of : (n : ℕ) → code_of (literal_of n) ≡ n
code-literal_of n = grind (arith, nat_tests, div-add-mod n 2)

even : (n : ℕ) → literal_of (code_of (record { var = n; positive = true }))
    ≡ record { var = n; positive = true }
even n =
    let d : (2 * n + 0) / 2 ≡ n = omega arith in
    let m : (2 * n + 0) % 2 ≡ 0 = omega arith in
    rw (d, m)

odd : (n : ℕ) → literal_of (code_of (record { var = n; positive = false }))
    ≡ record { var = n; positive = false }
odd n =
    let d : (2 * n + 1) / 2 ≡ n = omega arith in
    let m : (2 * n + 1) % 2 ≡ 1 = omega arith in
    rw (d, m)

pub literal-code_of : (l : Literal) → literal_of (code_of l) ≡ l
literal-code_of l = elim l.positive as
    (λ b. literal_of (code_of (record { var = l.var; positive = b }))
    ≡ record { var = l.var; positive = b }) [ true ↦ even l.var | false ↦ odd l.var ]
