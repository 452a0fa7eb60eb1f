use Rattle.std.proofs.Common.{◌+◌, ap, arith}
use Rattle.dsv_term.specs.declared.word.Word.{Word}
use Rattle.dsv_term.proofs.Lawful.{AreLawful-take}
use Rattle.dsv_term.proofs.Words.{word_below, reached, evaluated}
use Rattle.dsv_term.proofs.terms.Terms.eval.Goals as goal

pub put_words-requires-clause-nodes : goal.put_words-requires-clause-nodes
put_words-requires-clause-nodes c = rw (c.inputs.ensures.inputs, c.nodes.ensures.nodes) (AreLawful-take c.args.self.now.inputs (c.args.id.0 + 1) c.args.self.now.nodes c.nodes.ensures.terms.lawful)

pub index-requires : goal.index-requires
index-requires c =
    let words = rw (c.inputs.ensures.inputs, c.nodes.ensures.nodes) at c.put_words.ensures.words in
    omega (arith, reached c.args.self.now c.args.inputs.now c.args.id c.put_words.new.words.items words c.requires.stands, c.put_words.new.words.ok.0)

pub returns-clause-value : goal.returns-clause-value
returns-clause-value c =
    let words = rw (c.inputs.ensures.inputs, c.nodes.ensures.nodes) at c.put_words.ensures.words in
    ap (λ (w : Word). w.number) (evaluated c.args.self.now c.args.inputs.now c.args.id c.put_words.new.words.items c.index.result.now words c.requires.stands c.index.ensures)

pub returns-clause-below : goal.returns-clause-below
returns-clause-below c =
    let words = rw (c.inputs.ensures.inputs, c.nodes.ensures.nodes) at c.put_words.ensures.words in
    let e = evaluated c.args.self.now c.args.inputs.now c.args.id c.put_words.new.words.items c.index.result.now words c.requires.stands c.index.ensures in
    rw e (word_below c.args.self.now c.args.inputs.now c.args.id c.nodes.ensures.terms c.requires.values c.requires.stands)
