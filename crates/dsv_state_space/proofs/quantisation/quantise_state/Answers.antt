use Rattle.std.proofs.Common.{sym}
use Rattle.dsv_state_space.proofs.quantisation.quantise_state.Goals as goal

pub returns-clause-becomes : goal.returns-clause-becomes
returns-clause-becomes c =
    let f = c.format_of.ensures in
    record {
      format = c.format_of.result;
      int_bits = f.int_bits;
      frac_bits = f.frac_bits;
      rounding_of = f.rounding;
      overflow_of = f.overflow;
      becomes = sym c.in_words.ensures.value;
    }
