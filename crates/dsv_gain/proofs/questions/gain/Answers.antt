use Rattle.dsv_netlist.specs.Systems.{runs_of}
use Rattle.dsv_gain.proofs.Equations.{gain_holds, gain_safe}
use Rattle.dsv_gain.proofs.questions.gain.Goals as goal

pub returns : goal.returns
returns g c =
    let s = g.S.Subject.view c.args.asking.now.subject.now in
    let r = c.ranged_netlist.result in
    let e = c.ranged_netlist.ensures in
    let b = runs_of r.net.now in
    record {
      made = rw (e.net, e.low, e.high) at c.gain_of.ensures.made;
      holds = gain_holds b s.runs s.low s.high r.low r.high c.gain_of.result e.runs e.low e.high c.gain_of.ensures.holds;
      safe = gain_safe b s.runs s.low s.high r.low r.high c.gain_of.result e.runs e.low e.high c.gain_of.ensures.safe;
    }
