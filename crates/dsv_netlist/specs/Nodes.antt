-- Netlists, and what their nodes give in one sample.
use Rattle.std.specs.Prelude.{ℕ, ◌^◌, List, [], ◌∷◌, ◌++◌, map}
use Rattle.std.specs.Prelude.{slice_index_or, ℤ, pos, ◌+ℤ◌, ◌-ℤ◌, ◌*ℤ◌}
use Rattle.dsv_word.specs.declared.format.Format.{Format}
use Rattle.dsv_word.specs.Words.{width, fit}
use Rattle.dsv_word.specs.Quotients.{whole_shift}
use Rattle.dsv_system.specs.Runs.{Sampled}
use Rattle.dsv_netlist.specs.declared.node.Node.{Node}
use Rattle.dsv_netlist.specs.declared.node.Node.TheVariants.{Input, Reg, MulConst}
use Rattle.dsv_netlist.specs.declared.node.Node.TheVariants.{Round, Add, Sub, Fit, Scale}

-- what contracts see of a netlist: register k is loaded from the node that `next` has at place k
pub record Net : Type 0 where
  pub nodes : List Node
  pub next : List ℕ
  pub output : ℕ
  pub feed_forward : ℕ
  pub format : Format

abbrev pub net_from : List Node → List ℕ → ℕ → ℕ → Format → Net
net_from nodes next output feed_forward format =
    record {
      nodes = nodes;
      next = next;
      output = output;
      feed_forward = feed_forward;
      format = format;
    }

-- how far a sample has come: the values of the nodes so far, and those that were fitted, as they
-- were before
pub record Sample : Type 0 where
  pub values : List ℤ
  pub exact : List ℤ

abbrev pub at : List ℤ → ℕ → ℤ
at values i = slice_index_or values i (pos 0)

-- what a node gives, where these are the registers, the input and the values of the nodes before it
abbrev pub node_value : Format → List ℤ → ℤ → List ℤ → Node → ℤ
node_value format registers x values Input = x
node_value format registers x values (Reg register) = at registers register
node_value format registers x values (MulConst coeff of) = coeff *ℤ at values of
node_value format registers x values (Round of) =
    whole_shift format.rounding format.frac_bits (at values of)
node_value format registers x values (Add left right) = at values left +ℤ at values right
node_value format registers x values (Sub left right) = at values left -ℤ at values right
node_value format registers x values (Fit of) = fit format.overflow (width format) (at values of)
node_value format registers x values (Scale of) = pos (2 ^ format.frac_bits) *ℤ at values of

-- what a node adds to the exact values
abbrev pub node_exact : List ℤ → Node → List ℤ
node_exact values Input = []
node_exact values (Reg register) = []
node_exact values (MulConst coeff of) = []
node_exact values (Round of) = []
node_exact values (Add left right) = []
node_exact values (Sub left right) = []
node_exact values (Fit of) = at values of ∷ []
node_exact values (Scale of) = []

abbrev pub after_node : Format → List ℤ → ℤ → Sample → Node → Sample
after_node format registers x sample node = record {
  values = sample.values ++ node_value format registers x sample.values node ∷ [];
  exact = sample.exact ++ node_exact sample.values node;
}

abbrev pub sample_from : Format → List ℤ → ℤ → List Node → Sample → Sample
sample_from format registers x [] sample = sample
sample_from format registers x (node ∷ nodes) sample =
    sample_from format registers x nodes (after_node format registers x sample node)

abbrev pub sample_of : Format → List ℤ → ℤ → List Node → Sample
sample_of format registers x nodes =
    sample_from format registers x nodes (record { values = []; exact = [] })

-- what a sample gives, whose past is the registers after it
abbrev pub step_from : Net → Sample → Sampled (List ℤ)
step_from net sample = record {
  y = at sample.values net.output;
  exact = sample.exact;
  past = map (at sample.values) net.next;
}

-- one step of a netlist: every register is read before any is loaded
abbrev pub step_of : Net → List ℤ → ℤ → Sampled (List ℤ)
step_of net registers x = step_from net (sample_of net.format registers x net.nodes)
