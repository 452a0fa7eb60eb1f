-- The names of registers in C, in their order, and what the code is of.
use Rattle.std.specs.Prelude.{ℕ, zero, suc, ◌+◌, List, [], ◌∷◌, ◌++◌, length}
use Rattle.std.specs.Prelude.{Option, Some, None}
use Rattle.dsv_names.specs.declared.realisation.Realisation.{Realisation}
use Rattle.dsv_names.specs.declared.realisation.Realisation.TheVariants.{Dfi, Dfii, Tdfii}
use Rattle.dsv_names.specs.declared.realisation.Realisation.TheVariants.{Ddfi, Ddfii, Tddfii}
use Rattle.dsv_meaning.specs.Equations.{order}
use Rattle.dsv_quantiser.specs.QuantisedView.{QuantisedView}
use Rattle.dsv_cascade.specs.Cascades.{CascadeView, sections_of}
use Rattle.dsv_state_space.specs.StateView.{StateView, states}
use Rattle.dsv_ctext.specs.declared.names.MemberName.{MemberName}
use Rattle.dsv_ctext.specs.declared.remarks.Origin.{Origin}
use Rattle.dsv_ctext.specs.declared.remarks.Origin.TheVariants as origin

-- x_1, x_2, .. for the letter x; in a section of a cascade s0_x_1, s0_x_2, ..
abbrev pub numbered : Option ℕ → ℕ → ℕ → List MemberName
numbered section letter zero = []
numbered section letter (suc n) = numbered section letter n
    ++ record { section = section; letter = letter; number = n + 1 } ∷ []

-- the registers of a controller of order n: x_1 to x_n and then y_1 to y_n in DFI, u and v in
-- DDFI, w in DFII and DDFII, s in TDFII and TDDFII
abbrev pub members_as : Option ℕ → Realisation → ℕ → List MemberName
members_as section Dfi n = numbered section 120 n ++ numbered section 121 n
members_as section Dfii n = numbered section 119 n
members_as section Tdfii n = numbered section 115 n
members_as section Ddfi n = numbered section 117 n ++ numbered section 118 n
members_as section Ddfii n = numbered section 119 n
members_as section Tddfii n = numbered section 115 n

abbrev pub controller_members : QuantisedView → List MemberName
controller_members q = members_as None q.realisation (order q)

-- those of sections, the first of which has this number; sections count from 0
abbrev pub sections_members : ℕ → List QuantisedView → List MemberName
sections_members k [] = []
sections_members k (q ∷ qs) =
    members_as (Some k) q.realisation (order q) ++ sections_members (k + 1) qs

abbrev pub cascade_members : CascadeView → List MemberName
cascade_members c = sections_members 0 (sections_of c)

-- the states, x_1 to x_N
abbrev pub state_members : StateView → List MemberName
state_members s = numbered None 120 (states s)

-- ---- what the code is of
abbrev pub controller_origin : QuantisedView → Origin
controller_origin q = origin.Controller q.realisation q.wide

abbrev pub cascade_origin : CascadeView → Origin
cascade_origin c =
    origin.Cascade (length c.later + 1) c.first.realisation c.first.wide

abbrev pub state_origin : StateView → Origin
state_origin s = origin.States (states s)
