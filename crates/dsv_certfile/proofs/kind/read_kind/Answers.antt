use Rattle.std.proofs.Common.{◌≡◌, ◌∙◌, sym, ap, drop, Ok}
use Rattle.dsv_names.specs.Names.{value_named}
use Rattle.dsv_certfile.specs.Headings.{beginning, name_in, or_kind, of_job, head_in}
use Rattle.dsv_certfile.specs.Keywords.{keyword_text}
use Rattle.dsv_certfile.specs.Kinds.{kind_name, kinds}
use Rattle.dsv_lines.specs.Pieces.{pieces_of, piece_at}
use Rattle.dsv_lines.proofs.PieceLemmas.{drop_more, piece_from}
use Rattle.dsv_certfile.specs.declared.keyword.Keyword.TheVariants as keyword
use Rattle.dsv_certfile.proofs.HeadingLemmas.{whole_kind}
use Rattle.dsv_certfile.proofs.kind.read_kind.Goals as goal

pub returns-clause-answer : goal.returns-clause-answer
returns-clause-answer c =
    let ps = pieces_of c.args.line.now in
    let job = c.args.job.now in
    let d0 : c.new-pieces.result ≡ ps = c.new-pieces.ensures in
    let d1 : c.begin.new.pieces ≡ drop 1 ps = c.in_ok-begin.ensures.rest ∙ ap (drop 1) d0 in
    let d2 : c.next_named.new.pieces ≡ drop 2 ps = c.in_ok-kind.ensures.rest ∙ ap (drop 1) d1 ∙ drop_more 1 ps in
    let b : beginning (keyword_text keyword.Kind) ps ≡ Ok tt = ap (beginning (keyword_text keyword.Kind)) (sym d0) ∙ sym c.in_ok-begin.ensures.answer in
    let n : name_in kind_name kinds ps 1 ≡ Ok c.in_ok-kind.kind =
    ap (λ piece. or_kind (value_named kind_name kinds piece)) (sym (piece_from 1 ps) ∙ ap (λ qs. piece_at qs 0) (sym d1)) ∙ sym c.in_ok-kind.ensures.answer in
    let o : of_job job c.in_ok-kind.kind ≡ Ok c.in_ok-kind-2.kind = sym c.in_ok-kind-2.ensures in
    c.read_head.ensures.answer ∙ ap (head_in c.in_ok-kind-2.kind) d2
    ∙ whole_kind job (beginning (keyword_text keyword.Kind) ps) (name_in kind_name kinds ps 1) (drop 2 ps) c.in_ok-kind.kind c.in_ok-kind-2.kind b n o
