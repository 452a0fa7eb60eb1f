use Rattle.std.proofs.Common.{ap, ◌∙◌, ◌+◌, bit_or, arith}
use Rattle.std.proofs.lemmas.Nat.{shl_whole, or_shifted}
use Rattle.dsv_term.proofs.word.Word.concatenation.Goals as goal

pub returns : goal.returns
returns c =
    let a = c.args.self in
    let b = c.args.other in
    ap (λ n. record { width = a.width + b.width; number = n })
    (ap (λ n. bit_or n b.number) (shl_whole a.number a.width b.width 128 c.requires.first.fits (omega (arith, c.requires.narrow)))
    ∙ or_shifted a.number b.width b.number c.requires.second.fits)
