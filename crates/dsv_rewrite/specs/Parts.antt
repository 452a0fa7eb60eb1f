-- Bits of a term, extended to a width: what extracts and sign extensions are. They are taken from
-- the term of which they are a copy: from inside an extract, a sign extension or a concatenation.
use Rattle.std.specs.Prelude.{ℕ, zero, suc, ◌+◌, ◌-◌, ◌==◌, ◌&&◌, nat_lt, nat_le, min}
use Rattle.std.specs.Prelude.{if◌then◌else◌, Option, Some, None}
use Rattle.dsv_term.specs.declared.node.TermId.{TermId}
use Rattle.dsv_term.specs.declared.node.TermNode.{TermNode}
use Rattle.dsv_term.specs.declared.node.TermNode.TheVariants.{Input, Constant, Add, Sub, Slt}
use Rattle.dsv_term.specs.declared.node.TermNode.TheVariants.{Sle, Ult, Eq, And, Or, Concat, Neg}
use Rattle.dsv_term.specs.declared.node.TermNode.TheVariants.{Not, MulConst, Sext, Extract, Ite}
use Rattle.dsv_term.specs.declared.word.Word.{Word}
use Rattle.dsv_term.specs.Building.{Built, built_of, with_node}
use Rattle.dsv_term.specs.Terms.{width_of}
use Rattle.dsv_term.specs.TermsView.{TermsView}
use Rattle.dsv_term.specs.Word.{extended_of, extract_of}
use Rattle.dsv_rewrite.specs.declared.part.Part.{Part}
use Rattle.dsv_rewrite.specs.Constants.{node_at, constant_at, constant_term}

-- the bits of the term inside an extract whose lowest bit is this one
abbrev pub inside_extract : TermId → ℕ → Part → Part
inside_extract a low p = record { of = a; high = p.high + low; low = p.low + low }

-- the bits of the term inside a sign extension, which has so many bits: those above its sign bit
-- are copies of that
abbrev pub inside_extension : TermId → ℕ → Part → Part
inside_extension a bits p = record {
  of = a;
  high = min p.high (bits - 1);
  low = min p.low (bits - 1);
}

-- the bits of one of two joined terms, the lower of which has so many bits, where one has them all
abbrev pub inside_joined : TermId → TermId → ℕ → Part → Option Part
inside_joined a b bits p =
    if nat_lt p.high bits then Some (record p { of = b })
    else if nat_le bits p.low
    then Some (record { of = a; high = p.high - bits; low = p.low - bits })
    else None

-- the same bits of a term inside this node, where there is one
abbrev pub inner_part : TermsView → TermNode → Part → Option Part
inner_part t (Input k) p = None
inner_part t (Constant width value) p = None
inner_part t (Add a b) p = None
inner_part t (Sub a b) p = None
inner_part t (Slt a b) p = None
inner_part t (Sle a b) p = None
inner_part t (Ult a b) p = None
inner_part t (Eq a b) p = None
inner_part t (And a b) p = None
inner_part t (Or a b) p = None
inner_part t (Concat a b) p = inside_joined a b (width_of t b) p
inner_part t (Neg a) p = None
inner_part t (Not a) p = None
inner_part t (MulConst a coeff) p = None
inner_part t (Sext a width) p = Some (inside_extension a (width_of t a) p)
inner_part t (Extract a high low) p = Some (inside_extract a low p)
inner_part t (Ite c a b) p = None

-- these bits, or what comes of the same bits of a term inside, where there is one
abbrev pub or_inside : Part → (Part → Part) → Option Part → Part
or_inside p next None = p
or_inside p next (Some q) = next q

-- the innermost such bits; a term inside another has a smaller number, so that so many steps as the
-- term's number suffice
abbrev pub innermost_part : ℕ → TermsView → Part → Part
innermost_part zero t p = p
innermost_part (suc n) t p =
    or_inside p (λ q. innermost_part n t q) (inner_part t (node_at t p.of) p)

-- the bits themselves, which may be all that the term has
abbrev pub bits_term : TermsView → Part → Built
bits_term t p = if (p.low == 0) && (p.high + 1 == width_of t p.of) then built_of t p.of
    else with_node t (Extract p.of p.high p.low)

-- ... extended to a width, if they are fewer
abbrev pub extended_bits : TermsView → ℕ → Part → Built
extended_bits t width p =
    let bits = bits_term t p in
    if p.high + 1 - p.low == width then bits else with_node bits.terms (Sext bits.id width)

-- Bits of a term, extended to a width: a constant where the innermost term is one.
abbrev pub part_of_constant : TermsView → ℕ → Part → Option Word → Built
part_of_constant t width p (Some word) =
    constant_term t (extended_of width (extract_of p.high p.low word))
part_of_constant t width p None = extended_bits t width p

unfoldable pub part_term : TermsView → ℕ → Part → Built
part_term t width p =
    let q = innermost_part p.of.0 t p in
    part_of_constant t width q (constant_at t q.of)
