-- The names of registers are those of a struct's members: no two have one text.
use Rattle.std.proofs.Common.{◌≡◌, ℕ, zero, suc, ◌+◌, ◌^◌, ◌<◌, ◌≤◌, Option, Some, None, List, [], ◌∷◌, ◌++◌, length, refl, sym, ◌∙◌, arith}
use Rattle.std.specs.List.{All}
use Rattle.std.proofs.lemmas.List.Elements.{All-nil, All-cons, All-push, All-append, All-head, All-tail, All-weaker}
use Rattle.dsv_names.specs.declared.realisation.Realisation.{Realisation}
use Rattle.dsv_names.specs.declared.realisation.Realisation.TheVariants.{Dfi, Dfii, Tdfii, Ddfi, Ddfii, Tddfii}
use Rattle.dsv_quantiser.specs.QuantisedView.{QuantisedView}
use Rattle.dsv_meaning.specs.Equations.{order}
use Rattle.dsv_cascade.specs.Cascades.{CascadeView, sections_of}
use Rattle.dsv_state_space.specs.StateView.{StateView, states}
use Rattle.dsv_code.specs.Members.{numbered, members_as, sections_members, controller_members, cascade_members, state_members}
use Rattle.dsv_ctext.specs.declared.names.MemberName.{MemberName}
use Rattle.dsv_c_reading.specs.Labels.{IsSection, IsMember, AreMembers}
use Rattle.dsv_c_reading.proofs.MemberTexts.{DiffersFrom, Differ, AreDifferent, letters_differ, numbers_differ, sections_differ, different_joined}

-- ---- one letter
-- a name of this section and letter, with at most this number
record IsOf (section : Option ℕ) (letter most : ℕ) (m : MemberName) : Type 0 where
  place : m.section ≡ section
  kind : m.letter ≡ letter
  number : m.number ≤ most

abbrev member : Option ℕ → ℕ → ℕ → MemberName
member section letter n = record { section = section; letter = letter; number = n + 1 }

numbered_of : (s : Option ℕ) (l n : ℕ) → All (IsOf s l n) (numbered s l n)
numbered_of s l zero = All-nil (IsOf s l 0)
numbered_of s l (suc n) =
    All-push (IsOf s l (suc n)) (numbered s l n) (member s l n)
    (All-weaker (IsOf s l n) (IsOf s l (suc n)) (λ m h. record { place = h.place; kind = h.kind; number = omega (arith, h.number) }) (numbered s l n) (numbered_of s l n))
    (record { place = refl; kind = refl; number = omega arith })

numbered_members : (s : Option ℕ) (l n : ℕ) → IsSection s → 97 ≤ l → l ≤ 122 → n < 2 ^ 32 → All IsMember (numbered s l n)
numbered_members s l zero h a z few = All-nil IsMember
numbered_members s l (suc n) h a z few =
    All-push IsMember (numbered s l n) (member s l n) (numbered_members s l n h a z (omega arith)) (record { section = h; least = a; greatest = z; number = omega arith })

numbered_different : (s : Option ℕ) (l n : ℕ) → n < 2 ^ 32 → AreDifferent (numbered s l n)
numbered_different s l zero few = tt
numbered_different s l (suc n) few =
    let ms = numbered s l n in
    let one = member s l n in
    let other = All-weaker (IsOf s l n) (λ m. Differ m one) (λ m h. numbers_differ m one h.place (omega (arith, h.number)) (omega arith)) ms (numbered_of s l n) in
    different_joined ms (one ∷ []) (numbered_different s l n (omega arith)) (refl, tt) (All-cons (DiffersFrom ms) one [] other (All-nil (DiffersFrom ms)))

-- ---- one section
record AreOf (section : Option ℕ) (ms : List MemberName) : Type 0 where
  each : All IsMember ms
  places : All (λ m. m.section ≡ section) ms
  different : AreDifferent ms

one_letter : (s : Option ℕ) (l n : ℕ) → IsSection s → 97 ≤ l → l ≤ 122 → n < 2 ^ 32 → AreOf s (numbered s l n)
one_letter s l n h a z few = record {
  each = numbered_members s l n h a z few;
  places = All-weaker (IsOf s l n) (λ m. m.section ≡ s) (λ m o. o.place) (numbered s l n) (numbered_of s l n);
  different = numbered_different s l n few;
}

letters_apart : (s : Option ℕ) (a b n : ℕ) → a < b → All (DiffersFrom (numbered s a n)) (numbered s b n)
letters_apart s a b n h =
    All-weaker (IsOf s b n) (DiffersFrom (numbered s a n))
    (λ m o. All-weaker (IsOf s a n) (λ k. Differ k m) (λ k p. letters_differ k m (p.place ∙ sym o.place) (λ e. omega (arith, e, p.kind, o.kind))) (numbered s a n) (numbered_of s a n))
    (numbered s b n) (numbered_of s b n)

two_letters : (s : Option ℕ) (a b n : ℕ) → IsSection s → 97 ≤ a → a < b → b ≤ 122 → n < 2 ^ 32 → AreOf s (numbered s a n ++ numbered s b n)
two_letters s a b n h p q r few =
    let first = one_letter s a n h p (omega arith) few in
    let second = one_letter s b n h (omega arith) r few in
    record {
      each = All-append IsMember (numbered s a n) (numbered s b n) first.each second.each;
      places = All-append (λ m. m.section ≡ s) (numbered s a n) (numbered s b n) first.places second.places;
      different = different_joined (numbered s a n) (numbered s b n) first.different second.different (letters_apart s a b n q);
    }

section_are : (s : Option ℕ) (r : Realisation) (n : ℕ) → IsSection s → n < 2 ^ 32 → AreOf s (members_as s r n)
section_are s Dfi n h few = two_letters s 120 121 n h (omega arith) (omega arith) (omega arith) few
section_are s Dfii n h few = one_letter s 119 n h (omega arith) (omega arith) few
section_are s Tdfii n h few = one_letter s 115 n h (omega arith) (omega arith) few
section_are s Ddfi n h few = two_letters s 117 118 n h (omega arith) (omega arith) (omega arith) few
section_are s Ddfii n h few = one_letter s 119 n h (omega arith) (omega arith) few
section_are s Tddfii n h few = one_letter s 115 n h (omega arith) (omega arith) few

-- ---- sections
-- a name of a section from number k on
record IsFrom (k : ℕ) (m : MemberName) : Type 0 where
  section : ℕ
  place : m.section ≡ Some section
  late : k ≤ section
  small : section < 2 ^ 32

record AreFrom (k : ℕ) (ms : List MemberName) : Type 0 where
  each : All IsMember ms
  places : All (IsFrom k) ms
  different : AreDifferent ms

sections_apart : (k : ℕ) (ms ns : List MemberName) → All (λ m. m.section ≡ Some k) ms → All (IsFrom (k + 1)) ns → All (DiffersFrom ms) ns
sections_apart k ms ns h g =
    All-weaker (IsFrom (k + 1)) (DiffersFrom ms)
    (λ n f. All-weaker (λ m. m.section ≡ Some k) (λ m. Differ m n) (λ m p. sections_differ m n k f.section p f.place (omega (arith, f.late)) f.small) ms h)
    ns g

sections_are : (k : ℕ) (qs : List QuantisedView) → k + length qs ≤ 2 ^ 32 → All (λ q. order q < 2 ^ 32) qs → AreFrom k (sections_members k qs)
sections_are k [] h few = record { each = All-nil IsMember; places = All-nil (IsFrom k); different = tt }
sections_are k (q ∷ qs) h few =
    let ms = members_as (Some k) q.realisation (order q) in
    let ns = sections_members (k + 1) qs in
    let small : k < 2 ^ 32 = omega arith in
    let here = section_are (Some k) q.realisation (order q) small (All-head (λ q. order q < 2 ^ 32) q qs few) in
    let more = sections_are (k + 1) qs (omega arith) (All-tail (λ q. order q < 2 ^ 32) q qs few) in
    record {
      each = All-append IsMember ms ns here.each more.each;
      places = All-append (IsFrom k) ms ns
          (All-weaker (λ m. m.section ≡ Some k) (IsFrom k) (λ m p. record { section = k; place = p; late = omega arith; small = small }) ms here.places)
          (All-weaker (IsFrom (k + 1)) (IsFrom k) (λ m f. record { section = f.section; place = f.place; late = omega (arith, f.late); small = f.small }) ns more.places);
      different = different_joined ms ns here.different more.different (sections_apart k ms ns here.places more.places);
    }

-- ---- the three kinds
pub controller_members_are : (q : QuantisedView) → order q < 2 ^ 32 → AreMembers (controller_members q)
controller_members_are q h = let are = section_are None q.realisation (order q) tt h in record { each = are.each; different = are.different }

pub cascade_members_are : (c : CascadeView) → length (sections_of c) < 2 ^ 32 → All (λ q. order q < 2 ^ 32) (sections_of c) → AreMembers (cascade_members c)
cascade_members_are c h few = let are = sections_are 0 (sections_of c) (omega arith) few in record { each = are.each; different = are.different }

pub state_members_are : (s : StateView) → states s < 2 ^ 32 → AreMembers (state_members s)
state_members_are s h = let are = one_letter None 120 (states s) tt (omega arith) (omega arith) h in record { each = are.each; different = are.different }
