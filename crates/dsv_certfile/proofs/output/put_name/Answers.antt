use Rattle.dsv_certfile.proofs.output.put_name.Goals as goal

pub returns : goal.returns
returns g c = rw (c.as_bytes.ensures.value, c.name.ensures) at c.put_piece.ensures
