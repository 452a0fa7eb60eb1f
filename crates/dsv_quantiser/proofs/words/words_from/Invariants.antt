use Rattle.std.proofs.Common.{◌≡◌, ◌+◌, length, take, drop}
use Rattle.dsv_quantiser.specs.Quantising.{words_from}
use Rattle.dsv_quantiser.specs.Parts.{AreWordsOf}
use Rattle.dsv_quantiser.proofs.words.words_from.Given as goal

abbrev pub invariant-loop-fraction : goal.invariant-loop-fraction
invariant-loop-fraction l = record {
  places : length l.out.items ≡ length l.fn.prefix.items + l.fraction-index;
  words : AreWordsOf l.format (take l.fraction-index l.fractions) l.fn.prefix.items l.out.items;
  same : words_from l.format l.list (drop l.fraction-index l.fractions) l.out.items ≡ words_from l.format l.list l.fractions l.fn.prefix.items;
}
