use Rattle.std.proofs.Common.{◌≡◌, ◌+◌, ◌∙◌, ap, arith, [], ◌∷◌, ◌++◌, drop, get_or, length}
use Rattle.std.proofs.lemmas.List.{drop_more, length_push}
use Rattle.dsv_term.specs.declared.node.TermNode.{TermNode}
use Rattle.dsv_term.specs.declared.node.TermNode.TheVariants.{Input}
use Rattle.dsv_term.specs.declared.word.Word.{Word}
use Rattle.dsv_term.specs.TermNode.{words_from}
use Rattle.dsv_term.proofs.Words.{IsNext, next}
use Rattle.dsv_term.proofs.eval.put_words.Goals as goal

pub loop-node-preserved : goal.loop-node-preserved
loop-node-preserved c =
    let i = c.loop-node.invariant in
    let at = c.loop-node.node-index in
    let nodes = c.args.nodes.now in
    let inputs = c.args.inputs.now in
    let values = c.args.values.now in
    let ws = c.loop-node.words.items in
    let new = c.push_reserved.new.self.items in
    let pushed = c.push_reserved.ensures.items in
    let word = rw c.deref.ensures.value at c.node_word-word.ensures in
    let n : TermNode = get_or nodes at (Input 0) in
    let split : drop at nodes ≡ n ∷ drop (at + 1) nodes = drop_more nodes at (Input 0) (omega arith) in
    let k : IsNext inputs (drop (at + 1) nodes) new =
    next inputs values n (drop (at + 1) nodes) ws new c.node_word-word.result c.requires.inputs c.requires.values i.words (rw split at i.lawful) word pushed in
    record {
      rest = ap (words_from inputs values (drop (at + 1) nodes)) (pushed ∙ ap (λ (w : Word). ws ++ w ∷ []) word) ∙ (rw split at i.rest);
      lawful = k.lawful;
      words = k.words;
      count = omega (arith, ap length pushed, length_push ws c.node_word-word.result);
      capacity = c.push_reserved.ensures.capacity ∙ i.capacity;
    }
