-- How many names there are, and lists of them joined.
use Rattle.std.proofs.Common.{◌≡◌, ℕ, zero, suc, ◌+◌, ◌*◌, List, [], ◌∷◌, ◌++◌, length, refl, ap, ◌∙◌, arith, append_assoc}
use Rattle.std.specs.Prelude.{Option, Some, None}
use Rattle.std.proofs.lemmas.List.{length_push}
use Rattle.std.proofs.lemmas.List.{length-append}
use Rattle.dsv_names.specs.declared.realisation.Realisation.{Realisation}
use Rattle.dsv_names.specs.declared.realisation.Realisation.TheVariants.{Dfi, Dfii, Tdfii, Ddfi, Ddfii, Tddfii}
use Rattle.dsv_meaning.specs.Equations.{order, registers_of}
use Rattle.dsv_quantiser.specs.QuantisedView.{QuantisedView}
use Rattle.dsv_cascade.specs.Cascades.{CascadeView, sections_of, sections_many}
use Rattle.dsv_state_space.specs.StateView.{StateView, states}
use Rattle.dsv_ctext.specs.declared.names.MemberName.{MemberName}
use Rattle.dsv_code.specs.Members.{numbered, members_as, sections_members, controller_members, cascade_members, state_members}

pub joined_members : (a b c d e : List MemberName) → b ≡ a ++ c → d ≡ b ++ e → d ≡ a ++ (c ++ e)
joined_members a b c d e f g = g ∙ (ap (λ (x : List MemberName). x ++ e) f ∙ append_assoc a c e)

numbered-many : (section : Option ℕ) (letter n : ℕ) → length (numbered section letter n) ≡ n
numbered-many section letter zero = refl
numbered-many section letter (suc n) = omega (arith, length_push (numbered section letter n) (record { section = section; letter = letter; number = n + 1 }), numbered-many section letter n)

pair-many : (section : Option ℕ) (a b n : ℕ) → length (numbered section a n ++ numbered section b n) ≡ 2 * n
pair-many section a b n = omega (arith, length-append (numbered section a n) (numbered section b n), numbered-many section a n, numbered-many section b n)

pub members-many : (section : Option ℕ) (r : Realisation) (n : ℕ) → length (members_as section r n) ≡ registers_of r n
members-many section Dfi n = pair-many section 120 121 n
members-many section Dfii n = numbered-many section 119 n
members-many section Tdfii n = numbered-many section 115 n
members-many section Ddfi n = pair-many section 117 118 n
members-many section Ddfii n = numbered-many section 119 n
members-many section Tddfii n = numbered-many section 115 n

pub controller-many : (q : QuantisedView) → length (controller_members q) ≡ registers_of q.realisation (order q)
controller-many q = members-many None q.realisation (order q)

sections-many : (k : ℕ) (qs : List QuantisedView) → length (sections_members k qs) ≡ sections_many qs
sections-many k [] = refl
sections-many k (q ∷ qs) = omega (arith, length-append (members_as (Some k) q.realisation (order q)) (sections_members (k + 1) qs), members-many (Some k) q.realisation (order q), sections-many (k + 1) qs)

pub cascade-many : (c : CascadeView) → length (cascade_members c) ≡ sections_many (sections_of c)
cascade-many c = sections-many 0 (sections_of c)

pub state-many : (s : StateView) → length (state_members s) ≡ states s
state-many s = numbered-many None 120 (states s)
