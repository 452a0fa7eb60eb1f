use Rattle.dsv_gain.proofs.FirstPass.{first_is}
use Rattle.dsv_gain.proofs.search.first_gain.Goals as goal

pub returns : goal.returns
returns c =
    let s = c.args.subject.now in
    first_is s.net.now s.low s.high c.args.limit c.in_ok-network.network c.in_ok-starts.starts c.gain_of.result c.in_ok-network.ensures c.in_ok-starts.ensures c.gain_of.ensures
