-- Cascades: sections in series. In a sample each section runs by its written equations, with
-- registers of its own, at the output of the section before it.
use Rattle.std.specs.Prelude.{ℕ, ◌+◌, List, [], ◌∷◌, ◌++◌, take, drop, ℤ}
use Rattle.dsv_quantiser.specs.QuantisedView.{QuantisedView}
use Rattle.dsv_meaning.specs.Equations.{Past}
use Rattle.dsv_meaning.specs.Systems.{equations_of}
use Rattle.dsv_system.specs.Runs.{Sampled}
use Rattle.dsv_system.specs.Systems.{System}

-- what contracts see of a cascade: section 0, and those after it
pub record CascadeView : Type 0 where
  pub first : QuantisedView
  pub later : List QuantisedView

abbrev pub sections_of : CascadeView → List QuantisedView
sections_of c = c.first ∷ c.later

-- ---- one sample
-- a section's sample, and that of the sections after it: the exact values of the section come first
abbrev pub section_then : Sampled Past → Sampled (List Past) → Sampled (List Past)
section_then s rest = record {
  y = rest.y;
  exact = s.exact ++ rest.exact;
  past = s.past ∷ rest.past;
}

-- the sections' pasts are in their order; each section's output is the input of the next, and the
-- last section's is the cascade's
abbrev pub sections_sample : List QuantisedView → List Past → ℤ → Sampled (List Past)
sections_sample (q ∷ qs) (past ∷ pasts) x = let s = (equations_of q).sample past x in
    section_then s (sections_sample qs pasts s.y)
sections_sample _ _ x = record { y = x; exact = []; past = [] }

-- ---- registers: those of section 0, then those of section 1, and so on
abbrev pub sections_registers : List QuantisedView → List Past → List ℤ
sections_registers (q ∷ qs) (past ∷ pasts) =
    (equations_of q).registers past ++ sections_registers qs pasts
sections_registers _ _ = []

abbrev pub sections_start : List QuantisedView → List ℤ → List Past
sections_start [] words = []
sections_start (q ∷ qs) words = (equations_of q).start (take (equations_of q).many words)
    ∷ sections_start qs (drop (equations_of q).many words)

abbrev pub sections_many : List QuantisedView → ℕ
sections_many [] = 0
sections_many (q ∷ qs) = (equations_of q).many + sections_many qs

-- the cascade as a system that runs in words; none of its registers is feed-forward, since what is
-- in one may lead to the outputs of the section after it
abbrev pub cascade_of : CascadeView → System (List Past)
cascade_of c = record {
  start = sections_start (sections_of c);
  sample = sections_sample (sections_of c);
  registers = sections_registers (sections_of c);
  many = sections_many (sections_of c);
  forward = 0;
  format = c.first.format;
}
