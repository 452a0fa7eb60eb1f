-- Numbers over 1 in ranges of words.
use Rattle.std.proofs.Common.{List, [], ◌∷◌}
use Rattle.std.specs.List.{All}
use Rattle.std.proofs.Math.IntN.{ℤ, pos}
use Rattle.std.proofs.lemmas.List.Elements.{All-nil, All-cons}
use Rattle.dsv_word.specs.declared.format.Format.{Format}
use Rattle.dsv_word.specs.Words.{IsWord, width, lo, hi}
use Rattle.dsv_linear.specs.Facts.{LiesWithin}
use Rattle.dsv_linear.specs.declared.range.Range.{Range}
use Rattle.dsv_linear.proofs.Words.{between_words}
use Rattle.dsv_network.specs.Runs.{Fits, LiesOver, LieOver}
use Rattle.dsv_network.proofs.Symbols.{once}
use Rattle.dsv_gain.specs.Safe.{LieWithin}

lies_within : (f : Format) (r : Range) (v : ℤ) → LiesOver (pos 1) f r v → LiesWithin f r.low r.high v
lies_within f r v l = record { low_word = l.low_word; high_word = l.high_word; between = rw (once r.low, once r.high) at l.between }

pub lie_within : (f : Format) (rs : List Range) (vs : List ℤ) → LieOver (pos 1) f rs vs → LieWithin f rs vs
lie_within f [] [] l = tt
lie_within f [] (v ∷ vs) l = absurd l
lie_within f (r ∷ rs) [] l = absurd l
lie_within f (r ∷ rs) (v ∷ vs) l = (lies_within f r v l.0, lie_within f rs vs l.1)

pub lie_words : (f : Format) (rs : List Range) (vs : List ℤ) → LieWithin f rs vs → All (IsWord f) vs
lie_words f [] [] l = All-nil (IsWord f)
lie_words f [] (v ∷ vs) l = absurd l
lie_words f (r ∷ rs) [] l = absurd l
lie_words f (r ∷ rs) (v ∷ vs) l = All-cons (IsWord f) v vs (between_words f r.low r.high v l.0.low_word l.0.high_word l.0.between) (lie_words f rs vs l.1)

-- words fit, and what fits is a word
pub word_fits : (f : Format) (v : ℤ) → IsWord f v → Fits f (pos 1) v
word_fits f v w = record { least = rw (once (lo (width f))) w.low; most = rw (once (hi (width f))) w.high }

pub fits_word : (f : Format) (v : ℤ) → Fits f (pos 1) v → IsWord f v
fits_word f v b = record { low = rw (once (lo (width f))) at b.least; high = rw (once (hi (width f))) at b.most }
