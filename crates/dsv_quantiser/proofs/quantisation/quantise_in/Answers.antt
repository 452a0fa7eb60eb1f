use Rattle.std.proofs.Common.{sym}
use Rattle.dsv_quantiser.proofs.quantisation.quantise_in.Goals as goal

pub returns : goal.returns
returns c =
    let f = c.format_of.ensures in
    record {
      format = c.format_of.result;
      int_bits = f.int_bits;
      frac_bits = f.frac_bits;
      rounding = f.rounding;
      overflow = f.overflow;
      becomes = sym c.quantise.ensures.exact;
    }
