-- A sentence that no words break holds.
use Rattle.std.proofs.Common.{◌≡◌, ℕ, ◌+◌, ◌-◌, ◌<◌, ◌⊎◌, inl, inr, List, [], ◌∷◌, ◌++◌, ◌∙◌, refl, ap, sym, subst, length, take, drop, replicate, arith}
use Rattle.std.specs.Prelude.{◌≢◌, ◌≤ℤ◌}
use Rattle.std.specs.List.{All, Contains}
use Rattle.std.proofs.Math.IntN.{ℤ}
use Rattle.std.proofs.lemmas.Int.{ints, by_lt_z}
use Rattle.std.proofs.lemmas.List.{length-append, length-replicate, take_at, drop_at}
use Rattle.std.proofs.lemmas.List.Elements.{All-nil, All-cons, All-append, All-replicate, Contains-append_right}
use Rattle.dsv_word.specs.declared.format.Format.{Format}
use Rattle.dsv_word.specs.Words.{width, lo, hi, IsWord}
use Rattle.dsv_bounded.specs.Questions.{Asks}
use Rattle.dsv_invariant.specs.Netlists.{word_widths}
use Rattle.dsv_system.proofs.Agreeing.{agree_back}
use Rattle.dsv_bounded.proofs.Questions.{asks_from, words_in_range}
use Rattle.dsv_bounded.proofs.WordValues.{values_for, words_of_values, values_fit}
use Rattle.dsv_meaning.specs.Equations.{Past, order, registers_of}
use Rattle.dsv_meaning.specs.Systems.{equations_of}
use Rattle.dsv_netlist.specs.Nodes.{Net}
use Rattle.dsv_netlist.specs.Systems.{system_of, runs_of}
use Rattle.dsv_quantiser.specs.QuantisedView.{QuantisedView, IsQuantisedView}
use Rattle.dsv_system.specs.Breaks.{IsInside}
use Rattle.dsv_system.specs.Runs.{row_at}
use Rattle.dsv_system.specs.Systems.{registers_after, zeros, AreInRange, behaviour_of, Agree}
use Rattle.dsv_template.specs.declared.candidate.Candidate.{Candidate}
use Rattle.dsv_template.specs.declared.verdict.SetPart.{SetPart}
use Rattle.dsv_template.specs.declared.verdict.SetPart.TheVariants as part
use Rattle.dsv_template.specs.Kept.{Begins, Stays, IsSafe, LeavesEarly, LeavesLater, BreaksFrom}
use Rattle.dsv_template.proofs.Membership.{inside_cases}
use Rattle.dsv_term.specs.declared.node.TermId.{TermId}
use Rattle.dsv_term.specs.Terms.{AreTerms, AreValues, word_of, width_of}
use Rattle.dsv_term.specs.TermsView.{TermsView}
use Rattle.dsv_unroll.specs.SetGoals.{set_inputs}
use Rattle.dsv_unroll.specs.Words.{spelled_words, BreaksPart, Tells}
use Rattle.dsv_invariant.specs.Breaking.{DoBreak}
use Rattle.dsv_invariant.specs.Causes.{Holds}
use Rattle.dsv_invariant.proofs.Alike.{break_alike, given_break, wanted_break}

-- ---- what a part's goal asks
pub part_asks : (q : QuantisedView) (net : Net) (c : Candidate) (p : SetPart) (t : TermsView) (root : TermId) → Agree (runs_of net) (behaviour_of (equations_of q)) → AreTerms t → root.0 < length t.nodes → width_of t root ≡ 1
    → t.inputs ≡ replicate (set_inputs net c p) (width net.format) → ((values : List ℕ) → AreValues t.inputs values → Tells (word_of t values root) (BreaksPart net q.xlo q.xhi c p (spelled_words net.format values)))
    → Asks t root (word_widths q (set_inputs net c p)) (λ values. DoBreak q c p (spelled_words q.format values))
part_asks q net c p t root run terms stands one inputs tells =
    let n = set_inputs net c p in
    let m = system_of net in
    let e = equations_of q in
    asks_from t root (word_widths q n) (λ values. BreaksPart net q.xlo q.xhi c p (spelled_words net.format values)) (λ values. DoBreak q c p (spelled_words q.format values)) terms stands one
    (inputs ∙ ap (λ (f : Format). replicate n (width f)) run.format) tells
    (λ values b.
    subst (λ (f : Format). DoBreak q c p (spelled_words f values)) run.format
    (break_alike (List ℤ) Past m e q.xlo q.xhi c p (spelled_words net.format values) run (given_break net q.xlo q.xhi c p (spelled_words net.format values) b)))
    (λ values b.
    wanted_break net q.xlo q.xhi c p (spelled_words net.format values)
    (break_alike Past (List ℤ) e m q.xlo q.xhi c p (spelled_words net.format values) (agree_back (behaviour_of m) (behaviour_of e) run)
    (subst (λ (f : Format). DoBreak q c p (spelled_words f values)) (sym run.format) b)))

-- no words of so many break the sentence
abbrev NoneBreak : QuantisedView → ℕ → Candidate → SetPart → Type 0
NoneBreak q n c p = (words : List ℤ) → length words ≡ n → All (IsWord q.format) words → DoBreak q c p words → ⊥

-- ---- the base
within_itself : (z : ℤ) → z ≤ℤ z
within_itself z = omega (arith, ints)

base_holds : (q : QuantisedView) (c : Candidate) → IsQuantisedView q → NoneBreak q (c.depth - 1) c part.Base → Begins Past (equations_of q) q.xlo q.xhi c
base_holds q c f none xs less range =
    let m = equations_of q in
    let R : ℤ → Type 0 = λ x. (q.xlo ≤ℤ x) × (x ≤ℤ q.xhi) in
    let more = replicate (c.depth - 1 - length xs) q.xlo in
    let words = xs ++ more in
    let r : AreInRange q.xlo q.xhi words = All-append R xs more range (All-replicate R (c.depth - 1 - length xs) q.xlo (within_itself q.xlo, f.order)) in
    let n : length words ≡ c.depth - 1 = omega (arith, length-append xs more, length-replicate (c.depth - 1 - length xs) q.xlo) in
    let e : take (length xs) words ≡ xs = take_at xs more (length xs) refl in
    elim (inside_cases c (registers_after m (zeros m.many) xs)) [
      | inl inside ↦ inside
      | inr outside ↦ absurd (none words n (words_in_range q words f r) (
        r,
        (length xs, subst (LeavesEarly Past m q.xlo q.xhi c) (sym e) (record { in_range = range; few = less; outside = outside })),
      ))
    ]

-- ---- the step
step_holds : (q : QuantisedView) (c : Candidate) (k : ℕ) → k ≡ registers_of q.realisation (order q) → IsQuantisedView q → NoneBreak q (k + c.depth) c part.Step → Stays Past (equations_of q) q.xlo q.xhi c
step_holds q c k same f none start xs state long range within =
    let m = equations_of q in
    let words = start ++ xs in
    let n : length words ≡ k + c.depth = omega (arith, length-append start xs, state.many, same, long) in
    let w : All (IsWord q.format) words = All-append (IsWord q.format) start xs state.words (words_in_range q xs f range) in
    let front : take m.many words ≡ start = take_at start xs m.many state.many in
    let back : drop m.many words ≡ xs = drop_at start xs m.many state.many in
    elim (inside_cases c (registers_after m start xs)) [
      | inl inside ↦ inside
      | inr outside ↦ absurd (none words n w
          (subst (λ (ys : List ℤ). LeavesLater Past m q.xlo q.xhi c ys (drop m.many words)) (sym front)
          (subst (LeavesLater Past m q.xlo q.xhi c start) (sym back) (record { state = state; in_range = range; many = long; inside = within; outside = outside }))))
    ]

-- ---- the safe sentence
word_cases : (f : Format) (v : ℤ) → IsWord f v ⊎ (IsWord f v → ⊥)
word_cases f v =
    by_lt_z v (lo (width f)) (λ h. inr (λ w. let l = w.low in omega (arith, ints)))
    (λ l. by_lt_z (hi (width f)) v (λ h. inr (λ w. let k = w.high in omega (arith, ints))) (λ k. inl (record { low = l; high = k })))

-- all of these are words, or one is none
outside_cases : (f : Format) (es : List ℤ) → All (IsWord f) es ⊎ ((e : ℤ) × Contains es e × (IsWord f e → ⊥))
outside_cases f [] = inl (All-nil (IsWord f))
outside_cases f (e ∷ es) = elim (word_cases f e) [
  | inl word ↦ elim (outside_cases f es) [
    | inl words ↦ inl (All-cons (IsWord f) e es word words)
    | inr out ↦ inr (out.0, Contains-append_right (e ∷ []) es out.0 out.1, out.2)
  ]
  | inr out ↦ inr (e, (0, omega arith, refl), out)
]

safe_holds : (q : QuantisedView) (c : Candidate) (k : ℕ) → k ≡ registers_of q.realisation (order q) → IsQuantisedView q → NoneBreak q (k + 1) c part.Safe → IsSafe Past (equations_of q) q.xlo q.xhi c
safe_holds q c k same f none start x state within low high =
    let m = equations_of q in
    let R : ℤ → Type 0 = λ z. (q.xlo ≤ℤ z) × (z ≤ℤ q.xhi) in
    let words = start ++ x ∷ [] in
    let n : length words ≡ k + 1 = omega (arith, length-append start (x ∷ []), state.many, same) in
    let one : AreInRange q.xlo q.xhi (x ∷ []) = All-cons R x [] (low, high) (All-nil R) in
    let w : All (IsWord q.format) words = All-append (IsWord q.format) start (x ∷ []) state.words (words_in_range q (x ∷ []) f one) in
    let front : take m.many words ≡ start = take_at start (x ∷ []) m.many state.many in
    let back : drop m.many words ≡ x ∷ [] = drop_at start (x ∷ []) m.many state.many in
    let s = m.sample (m.start start) x in
    elim (outside_cases q.format s.exact) [
      | inl inside ↦ All-cons (IsInside q.format) (row_at s x) [] inside (All-nil (IsInside q.format))
      | inr out ↦ absurd (none words n w (
        x,
        back,
        subst (λ (ys : List ℤ). BreaksFrom Past m q.xlo q.xhi c ys x) (sym front)
            (record { state = state; inside = within; at_least = low; at_most = high; broken = (row_at s x, (0, omega arith, refl), out) }),
      ))
    ]

-- ---- any of them
holds : (q : QuantisedView) (net : Net) (c : Candidate) (p : SetPart) → length net.next ≡ registers_of q.realisation (order q) → IsQuantisedView q → NoneBreak q (set_inputs net c p) c p → Holds q c p
holds q net c part.Base e f none = base_holds q c f none
holds q net c part.Step e f none = step_holds q c (length net.next) e f none
holds q net c part.Safe e f none = safe_holds q c (length net.next) e f none

pub never_holds : (q : QuantisedView) (net : Net) (c : Candidate) (p : SetPart) (t : TermsView) (root : TermId) → Agree (runs_of net) (behaviour_of (equations_of q)) → IsQuantisedView q
    → Asks t root (word_widths q (set_inputs net c p)) (λ values. DoBreak q c p (spelled_words q.format values)) → ((values : List ℕ) → AreValues t.inputs values → (word_of t values root).number ≢ 1) → Holds q c p
never_holds q net c p t root run f a never =
    let n = set_inputs net c p in
    holds q net c p run.many f (λ words e w b.
    let values = values_for q.format words in
    let fit = values_fit q.format words n e in
    never values (subst (λ (is : List ℕ). AreValues is values) (sym a.inputs) fit)
    (a.shows values fit (subst (DoBreak q c p) (sym (words_of_values q.format words w)) b)))
