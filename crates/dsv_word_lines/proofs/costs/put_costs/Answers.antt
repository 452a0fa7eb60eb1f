use Rattle.dsv_word_lines.proofs.costs.put_costs.Goals as goal

pub returns : goal.returns
returns g c = rw (c.from.ensures, c.from-2.ensures, c.from-3.ensures, c.from-4.ensures, c.from-5.ensures, c.from-6.ensures) at c.put_line_parts.ensures
