-- Which sections make a cascade, and why others make none.
use Rattle.std.specs.Prelude.{◌≡◌, ℕ, ◌<◌, ◌≤◌, List, length, take, slice_get, Some}
use Rattle.std.specs.List.{All}
use Rattle.dsv_quantiser.specs.QuantisedView.{QuantisedView}
use Rattle.dsv_meaning.specs.Equations.{order}
use Rattle.dsv_cascade.specs.Cascades.{CascadeView, sections_of}
use Rattle.dsv_cascade.specs.declared.cascade.CascadeRefusal.{CascadeRefusal}
use Rattle.dsv_cascade.specs.declared.cascade.CascadeRefusal.TheVariants as refusal

-- the most sections of a cascade, and the greatest order of a section
abbrev pub most_sections : ℕ
most_sections = 8

abbrev pub most_section_order : ℕ
most_section_order = 2

-- the section has the format, the realisation and the accumulator of section 0
pub record IsAlike (first q : QuantisedView) : Type 0 where
  pub format : q.format ≡ first.format
  pub realisation : q.realisation ≡ first.realisation
  pub wide : q.wide ≡ first.wide

-- a section that may stand after section 0
pub record Fits (first q : QuantisedView) : Type 0 where
  pub small : order q ≤ most_section_order
  pub alike : IsAlike first q

-- what is true of each cascade
pub record IsCascade (c : CascadeView) : Type 0 where
  pub few : length (sections_of c) ≤ most_sections
  pub fit : All (Fits c.first) (sections_of c)

-- the section that a refusal names
abbrev pub place_of : CascadeRefusal → ℕ
place_of (refusal.Order section) = section
place_of (refusal.Mixed section) = section

-- why a section doesn't fit: its order is over 2, or else it isn't alike to section 0
abbrev pub IsMisfit : QuantisedView → QuantisedView → CascadeRefusal → Type 0
IsMisfit first q (refusal.Order section) = most_section_order < order q
IsMisfit first q (refusal.Mixed section) =
    (order q ≤ most_section_order) × (IsAlike first q → ⊥)

-- These sections make no cascade: the one that is named is the first that doesn't fit.
pub record IsRefused (first : QuantisedView) (sections : List QuantisedView)
    (why : CascadeRefusal) : Type 0 where
  pub section : QuantisedView
  pub here : slice_get sections (place_of why) ≡ Some section
  pub before : All (Fits first) (take (place_of why) sections)
  pub misfit : IsMisfit first section why
