use Rattle.dsv_report.proofs.lines.put_realisation.Goals as goal

pub returns : goal.returns
returns g c = rw (← c.name.ensures, ← c.as_bytes.ensures.value) c.put_fragments.ensures
