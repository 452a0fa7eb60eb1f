-- Texts made of fragments.
use Rattle.std.specs.Prelude.{ℕ, List, [], ◌∷◌, ◌++◌}
use Rattle.std.specs.Fmt.{signed_decimal}
use Rattle.dsv_report.specs.declared.fragments.Fragment.{Fragment}
use Rattle.dsv_report.specs.declared.fragments.Fragment.TheVariants as fragment

-- bytes as they stand, or a number in decimal
abbrev pub fragment_text : Fragment → List ℕ
fragment_text (fragment.Bytes bytes) = bytes.now
fragment_text (fragment.Number n) = signed_decimal n

-- texts one after another
abbrev pub concatenation : List (List ℕ) → List ℕ
concatenation [] = []
concatenation (t ∷ ts) = t ++ concatenation ts
