-- Texts of files, and what they are read as, worked by hand.
use Rattle.std.proofs.Common.{◌≡◌, [], ◌∷◌, Ok, Err, codes, refl}
use Rattle.dsv_algebra.specs.Gcd.{gcd}
use Rattle.dsv_fraction.specs.Ratio as ratio
use Rattle.dsv_state_file.specs.Reading.{state_of}
use Rattle.dsv_state_file.specs.declared.refusal.StateRefusal.TheVariants as refusal

-- a file of one state
one_state : state_of (codes "dsv-state-space 1\nformat 2 2\nrange 1.0 1.0\nstates 1\na 1.0\nb 1.0\nc 1.0\nd 0.0\nend\n")
    ≡ Ok (record {
      states = 1;
      a = (ratio.one ∷ []) ∷ [];
      b = ratio.one ∷ [];
      c = ratio.one ∷ [];
      d = ratio.zero;
      int_bits = 2;
      frac_bits = 2;
      min = ratio.one;
      max = ratio.one;
    })
unfolding gcd
one_state = refl

-- faults of the first line, and of the end
no_text : state_of [] ≡ Err (refusal.Line 1)
no_text = refl

other_version : state_of (codes "dsv-state-space 2\n") ≡ Err (refusal.Number 1 0)
other_version = refl

other_width : state_of (codes "dsv-state-space 1\nformat 2 47\n") ≡ Err (refusal.Width 2)
other_width = refl

short_range : state_of (codes "dsv-state-space 1\nformat 2 2\nrange x\n") ≡ Err (refusal.Line 3)
short_range = refl
