use Rattle.std.proofs.Common.{[], arith}
use Rattle.dsv_base.proofs.TakingLemmas.{writes_cut, append_nil}
use Rattle.dsv_base.proofs.ListWrites.{cut_item}
use Rattle.std.specs.List.{flat_map}
use Rattle.dsv_ctext.specs.declared.fragments.Fragment.TheVariants.{Bytes}
use Rattle.dsv_ctext.specs.Texts.{fragment_text}
use Rattle.dsv_ctext.proofs.fragments.put_fragments.Goals as goal

pub returns-in_err-put_fragment : goal.returns-in_err-put_fragment
returns-in_err-put_fragment g c =
    let ps = c.args.fragments.now in
    let h = cut_item fragment_text [] ps c.loop-fragment.fragment-index (Bytes (record { ref_ptr = (0, 0); now = [] })) (omega arith) c.loop-fragment.invariant c.in_err-put_fragment.ensures.cut in
    rw (append_nil (flat_map fragment_text ps)) (writes_cut [] c.from_residual.ensures.0 h)
