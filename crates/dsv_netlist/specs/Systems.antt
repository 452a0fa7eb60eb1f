-- Netlists as systems that run in words.
use Rattle.std.specs.Prelude.{List, length, ℤ}
use Rattle.dsv_system.specs.Systems.{System, Behaviour, behaviour_of}
use Rattle.dsv_netlist.specs.Nodes.{Net, step_of}

-- a netlist's past is the words in its registers
abbrev pub system_of : Net → System (List ℤ)
system_of net = record {
  start = λ start. start;
  sample = step_of net;
  registers = λ registers. registers;
  many = length net.next;
  forward = net.feed_forward;
  format = net.format;
}

-- what it does from words in its registers
abbrev pub runs_of : Net → Behaviour
runs_of net = behaviour_of (system_of net)
