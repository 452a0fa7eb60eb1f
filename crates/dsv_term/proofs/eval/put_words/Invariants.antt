use Rattle.std.proofs.Common.{◌≡◌, [], length, drop, All, vec_capacity}
use Rattle.dsv_term.specs.TermNode.{AreLawful, word_widths, words_from}
use Rattle.dsv_term.specs.Word.{IsWord}
use Rattle.dsv_term.proofs.eval.put_words.Given as goal

abbrev pub invariant-loop-node : goal.invariant-loop-node
invariant-loop-node l = record {
  rest : words_from l.inputs l.values (drop l.node-index l.nodes) l.words.items ≡ words_from l.inputs l.values l.nodes [];
  lawful : AreLawful l.inputs (drop l.node-index l.nodes) (word_widths l.words.items);
  words : All IsWord l.words.items;
  count : length l.words.items ≡ l.node-index;
  capacity : vec_capacity l.words ≡ vec_capacity l.fn.words;
}
