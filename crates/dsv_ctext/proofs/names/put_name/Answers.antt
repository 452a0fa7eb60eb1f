use Rattle.std.proofs.Common.{◌∷◌, ◌++◌, pos}
use Rattle.std.specs.Prelude.{codes}
use Rattle.std.specs.Fmt.{signed_decimal}
use Rattle.dsv_base.proofs.TakingLemmas.{writes_after}
use Rattle.dsv_ctext.specs.Texts.{section_text}
use Rattle.dsv_ctext.proofs.names.put_name.Goals as goal

pub returns : goal.returns
returns g c =
    let m = c.args.member.now in
    writes_after {x = section_text m.section} {y = m.letter ∷ codes "_" ++ signed_decimal (pos m.number)} c.in_ok-put_section.ensures.whole c.put_letter.ensures
