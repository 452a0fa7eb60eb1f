use Rattle.dsv_certfile.proofs.writer.put_error_kind.Goals as goal

pub returns : goal.returns
returns g c = rw (c.len-count.ensures, c.from-depth.ensures, c.from-error_depth.ensures) at c.put_line.ensures
