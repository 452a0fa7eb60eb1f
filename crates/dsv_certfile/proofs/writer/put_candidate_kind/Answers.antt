use Rattle.dsv_certfile.proofs.writer.put_candidate_kind.Goals as goal

pub returns : goal.returns
returns g c = rw (c.len-count.ensures.value, c.from.ensures) at c.put_line.ensures
