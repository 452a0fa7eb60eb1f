use Rattle.dsv_netlist.specs.Systems.{runs_of}
use Rattle.dsv_realise.proofs.Alike.{found_agree}
use Rattle.dsv_gain.specs.Subjects.{most_driven}
use Rattle.dsv_gain.proofs.questions.driven.Goals as goal

pub returns : goal.returns
returns g c =
    let s = g.S.Subject.view c.args.asking.now.subject.now in
    let e = c.ranged_netlist.ensures in
    found_agree (runs_of c.ranged_netlist.result.net.now) s.runs s.low s.high most_driven c.driven_trace.result e.runs (rw (e.low, e.high) at c.driven_trace.ensures.trace)
