-- The names of a program's locals and members.
use Rattle.std.proofs.Common.{◌≡◌, ℕ, zero, suc, ◌+◌, ◌-◌, ◌^◌, ◌<◌, ◌≤◌, true, false, inl, inr, List, ◌++◌, length, map, refl, sym, ap, subst, ◌∙◌, arith, decimal}
use Rattle.std.specs.Prelude.{codes, slice_index_or, nat_lt}
use Rattle.std.specs.Str.{bytes_eq}
use Rattle.std.proofs.lemmas.Bool.{cases_lt}
use Rattle.std.proofs.lemmas.Bool.Decides.{nat_tests}
use Rattle.std.proofs.lemmas.List.Elements.{All-get_or}
use Rattle.dsv_ctext.specs.HelperTexts.{helper_local}
use Rattle.dsv_ctext.specs.Texts.{member_text, no_member, member_name, local_name}
use Rattle.dsv_ctext.specs.declared.names.Labels.{Labels}
use Rattle.dsv_c_reading.specs.Labels.{IsMember, AreMembers}
use Rattle.dsv_c_reading.proofs.ParseNames.{first_names, AreDifferent, first_names-map, are_different, IsLocalName}
use Rattle.dsv_c_reading.proofs.ParseWords.{told_apart, told_apart_other, is_low_second, member_name-free, member_name-low, value_name-free, value_names-differ}

module _ (names : Labels) (lawful : AreMembers names.members.now) where
  -- ---- members
  abbrev many : ℕ
  many = length names.members.now

  member_at : (k : ℕ) → k < many → IsMember (slice_index_or names.members.now k no_member)
  member_at k h = All-get_or IsMember names.members.now k no_member h lawful.each

  pub members_differ : AreDifferent (member_name names) (length names.members.now)
  members_differ = are_different member_text names.members.now no_member lawful.different

  pub member_free : (k : ℕ) → k < length names.members.now → IsLocalName (member_name names k)
  member_free k h = member_name-free (slice_index_or names.members.now k no_member) (member_at k h)

  member_low : (k : ℕ) → k < many → is_low_second (member_name names k) ≡ true
  member_low k h = member_name-low (slice_index_or names.members.now k no_member) (member_at k h)

  pub member_not_none : (k : ℕ) → k < length names.members.now → bytes_eq (member_name names k) (codes "none") ≡ false
  member_not_none k h = told_apart is_low_second (member_name names k) (codes "none") (member_low k h) refl

  pub member_names : map member_text names.members.now ≡ first_names (member_name names) (length names.members.now)
  member_names = first_names-map member_text names.members.now no_member

  -- ---- locals
  local_early : (k : ℕ) → k < many → local_name names (suc k) ≡ member_name names k
  local_early k h = let t : nat_lt k many ≡ true = grind (arith, nat_tests) in rw t refl

  local_late : (k : ℕ) → many ≤ k → local_name names (suc k) ≡ codes "value_" ++ decimal (k - many)
  local_late k h = let t : nat_lt k many ≡ false = grind (arith, nat_tests) in rw t refl

  parameter_differs : (k : ℕ) → bytes_eq (codes "x") (local_name names (suc k)) ≡ false
  parameter_differs k = elim (cases_lt k many) [
    | inl less ↦ ap (bytes_eq (codes "x")) (local_early k less) ∙ told_apart_other is_low_second (codes "x") (member_name names k) refl (member_low k less)
    | inr late ↦ ap (bytes_eq (codes "x")) (local_late k late)
  ]

  later_differ : (i k : ℕ) → i < k → k < 2 ^ 32 → bytes_eq (local_name names (suc i)) (local_name names (suc k)) ≡ false
  later_differ i k h l = elim (cases_lt i many) [
    | inl less ↦ elim (cases_lt k many) [
      | inl near ↦ ap (λ (name : List ℕ). bytes_eq name (local_name names (suc k))) (local_early i less) ∙ (ap (bytes_eq (member_name names i)) (local_early k near) ∙ members_differ.is i k h near)
      | inr late ↦ ap (λ (name : List ℕ). bytes_eq name (local_name names (suc k))) (local_early i less)
          ∙ (ap (bytes_eq (member_name names i)) (local_late k late) ∙ told_apart is_low_second (member_name names i) (codes "value_" ++ decimal (k - many)) (member_low i less) refl)
    ]
    | inr far ↦ ap (λ (name : List ℕ). bytes_eq name (local_name names (suc k))) (local_late i far)
        ∙ (ap (bytes_eq (codes "value_" ++ decimal (i - many))) (local_late k (omega arith)) ∙ value_names-differ (i - many) (k - many) (omega arith) (omega arith))
  ]

  local_differs : (i k : ℕ) → i < k → k < 2 ^ 32 + 1 → bytes_eq (local_name names i) (local_name names k) ≡ false
  local_differs i zero h l = absurd (omega arith)
  local_differs zero (suc k) h l = parameter_differs k
  local_differs (suc i) (suc k) h l = later_differ i k (omega arith) (omega arith)

  pub locals_differ : (n : ℕ) → n ≤ 2 ^ 32 → AreDifferent (local_name names) (n + 1)
  locals_differ n h = record { is = λ i k l m. local_differs i k l (omega arith) }

  pub local_free : (k : ℕ) → k < 2 ^ 32 + 1 → IsLocalName (local_name names k)
  local_free zero h = record { free = refl; no_type = refl; no_helper = refl; not_state = refl }
  local_free (suc k) h = elim (cases_lt k many) [
    | inl less ↦ subst IsLocalName (sym (local_early k less)) (member_free k less)
    | inr late ↦ subst IsLocalName (sym (local_late k late)) (value_name-free (k - many) (omega arith))
  ]

-- ---- the locals of helper functions
pub helper_locals-differ : (n : ℕ) → n ≤ 2 → AreDifferent helper_local n
helper_locals-differ n h = record { is = λ i k l m. differ i k l (omega arith) }
  where
    differ : (i k : ℕ) → i < k → k < 2 → bytes_eq (helper_local i) (helper_local k) ≡ false
    differ i zero l m = absurd (omega arith)
    differ zero (suc k) l m = refl
    differ (suc i) (suc k) l m = absurd (omega arith)

pub helper_local-free : (k : ℕ) → IsLocalName (helper_local k)
helper_local-free zero = record { free = refl; no_type = refl; no_helper = refl; not_state = refl }
helper_local-free (suc k) = record { free = refl; no_type = refl; no_helper = refl; not_state = refl }
