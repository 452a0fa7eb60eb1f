-- What the bits of a set's sentences say of the words.
use Rattle.std.proofs.Common.{◌≡◌, ℕ, zero, suc, ◌-◌, ◌<◌, Bool, true, false, not, ◌&&◌, List, [], ◌∷◌, ◌++◌, refl, arith, ap, sym, subst, ◌∙◌, length, get_or, take, drop}
use Rattle.std.specs.Prelude.{int_le, ◌≤ℤ◌}
use Rattle.std.specs.Bool.{Decides}
use Rattle.std.specs.List.{All, list_all}
use Rattle.std.proofs.Math.IntN.{ℤ}
use Rattle.std.proofs.lemmas.Int.{ints}
use Rattle.std.proofs.lemmas.Bool.{and_parts, and_from, and_left, and_right, both_ways, not-true, not_from_false, false_from_ne_true}
use Rattle.std.proofs.lemmas.Bool.Decides.{Decides-by_and, Decides-like}
use Rattle.std.proofs.lemmas.List.{length-take, take_at, drop_at, get_or_push}
use Rattle.std.proofs.lemmas.List.Elements.{All-nil, All-cons, All-head, All-take}
use Rattle.dsv_word.specs.Words.{IsWord}
use Rattle.dsv_system.specs.Runs.{past_after}
use Rattle.dsv_system.specs.Systems.{zeros, AreInRange}
use Rattle.dsv_netlist.specs.Nodes.{Net, step_of}
use Rattle.dsv_netlist.specs.Systems.{system_of}
use Rattle.dsv_template.specs.declared.candidate.Candidate.{Candidate}
use Rattle.dsv_template.specs.declared.candidate.Inequality.{Inequality}
use Rattle.dsv_template.specs.declared.verdict.SetPart.{SetPart}
use Rattle.dsv_template.specs.declared.verdict.SetPart.TheVariants as set_part
use Rattle.dsv_template.specs.Candidates.{combination, Fulfils, IsInSet}
use Rattle.dsv_template.specs.Kept.{LeavesEarly, LeavesLater, BreaksFrom}
use Rattle.dsv_unroll.specs.SetGoals.{samples_of}
use Rattle.dsv_unroll.specs.Words.{BreaksPart}
use Rattle.dsv_unroll.proofs.InputTests.{at_most, joined, joined-split, all_in_range}
use Rattle.dsv_unroll.proofs.Runs.{breaks_from}
use Rattle.dsv_unroll.proofs.Breaking.{breaks_row, row_breaks, all_range, range_all}
use Rattle.dsv_unroll.proofs.SetTerms.{fulfils, is_inside, IsShaped}
use Rattle.dsv_unroll.proofs.SetStates.{insides}
use Rattle.dsv_unroll.proofs.SetBreaks.{leaves_after, is_broken}

-- ---- the set
most_of : (a b : ℤ) → int_le a b ≡ true → a ≤ℤ b
most_of a b e = grind (arith, ints)

fulfils_decides : (rs : List ℤ) (i : Inequality) → Decides (fulfils rs i) (Fulfils rs i)
fulfils_decides rs i = (most_of (combination i.coefficients.items rs) i.bound, at_most (combination i.coefficients.items rs) i.bound)

inside_decides : (candidate : Candidate) (rs : List ℤ) → Decides (is_inside candidate rs) (IsInSet candidate rs)
inside_decides candidate rs = Decides-by_and (fulfils rs) (Fulfils rs) (list_all (fulfils rs)) (fulfils_decides rs) refl (λ i is. refl) candidate.inequalities.items

outside_is : (candidate : Candidate) (rs : List ℤ) → is_inside candidate rs ≡ false → IsInSet candidate rs → ⊥
outside_is candidate rs e h = both_ways (is_inside candidate rs) e ((inside_decides candidate rs).1 h)

is_outside : (candidate : Candidate) (rs : List ℤ) → (IsInSet candidate rs → ⊥) → is_inside candidate rs ≡ false
is_outside candidate rs h = false_from_ne_true (is_inside candidate rs) (λ e. h ((inside_decides candidate rs).0 e))

-- the words in the registers after inputs
abbrev after : Net → List ℤ → List ℤ → List ℤ
after net rs zs = past_after (step_of net) rs zs

in_range_of : (net : Net) (low high : ℤ) (n : ℕ) (zs : List ℤ) → AreInRange low high zs → AreInRange low high (take n zs)
in_range_of net low high n zs h = All-take (λ x. (low ≤ℤ x) × (x ≤ℤ high)) n zs h

-- ---- the base
-- where not all states are in the set, one isn't
left_by : (net : Net) (candidate : Candidate) (rs : List ℤ) (z : ℤ) (zs : List ℤ) (q : Bool) → is_inside candidate rs ≡ q → joined true (insides net candidate rs (z ∷ zs)) ≡ false
    → (joined true (insides net candidate (step_of net rs z).past zs) ≡ false → (n : ℕ) × (is_inside candidate (after net (step_of net rs z).past (take n zs)) ≡ false)) → (n : ℕ) × (is_inside candidate (after net rs (take n (z ∷ zs))) ≡ false)
left_by net candidate rs z zs false e h rest = (0, e)
left_by net candidate rs z zs true e h rest =
    let more = insides net candidate (step_of net rs z).past zs in
    let r = rest (sym (joined-split (is_inside candidate rs) more ∙ ap (λ (b : Bool). b && joined true more) e) ∙ h) in
    (suc r.0, r.1)

left_at : (net : Net) (candidate : Candidate) (rs zs : List ℤ) → joined true (insides net candidate rs zs) ≡ false → (n : ℕ) × (is_inside candidate (after net rs (take n zs)) ≡ false)
left_at net candidate rs [] h = (0, h)
left_at net candidate rs (z ∷ zs) h = left_by net candidate rs z zs (is_inside candidate rs) refl h (left_at net candidate (step_of net rs z).past zs)

leaves_at : (net : Net) (candidate : Candidate) (rs zs : List ℤ) (n : ℕ) → is_inside candidate (after net rs (take n zs)) ≡ false → joined true (insides net candidate rs zs) ≡ false
leaves_at net candidate rs [] zero h = h
leaves_at net candidate rs [] (suc n) h = h
leaves_at net candidate rs (z ∷ zs) zero h =
    let more = insides net candidate (step_of net rs z).past zs in
    joined-split (is_inside candidate rs) more ∙ and_left (is_inside candidate rs) (joined true more) h
leaves_at net candidate rs (z ∷ zs) (suc n) h =
    let more = insides net candidate (step_of net rs z).past zs in
    joined-split (is_inside candidate rs) more ∙ and_right (is_inside candidate rs) (joined true more) (leaves_at net candidate (step_of net rs z).past zs n h)

-- ---- the step
-- whether each state before the last is in the set
abbrev befores : Net → Candidate → List ℤ → List ℤ → List Bool
befores net candidate rs [] = []
befores net candidate rs (z ∷ zs) = is_inside candidate rs ∷ befores net candidate (step_of net rs z).past zs

befores-length : (net : Net) (candidate : Candidate) (rs zs : List ℤ) → length (befores net candidate rs zs) ≡ length zs
befores-length net candidate rs [] = refl
befores-length net candidate rs (z ∷ zs) = (let e = befores-length net candidate (step_of net rs z).past zs in omega arith)

insides-split : (net : Net) (candidate : Candidate) (rs zs : List ℤ) → insides net candidate rs zs ≡ befores net candidate rs zs ++ is_inside candidate (after net rs zs) ∷ []
insides-split net candidate rs [] = refl
insides-split net candidate rs (z ∷ zs) = ap (λ (qs : List Bool). is_inside candidate rs ∷ qs) (insides-split net candidate (step_of net rs z).past zs)

before_inside : (net : Net) (candidate : Candidate) (rs zs : List ℤ) → joined true (befores net candidate rs zs) ≡ true → (n : ℕ) → n < length zs → is_inside candidate (after net rs (take n zs)) ≡ true
before_inside net candidate rs [] h n l = absurd (omega arith)
before_inside net candidate rs (z ∷ zs) h zero l =
    let more = befores net candidate (step_of net rs z).past zs in
    (and_parts (is_inside candidate rs) (joined true more) (sym (joined-split (is_inside candidate rs) more) ∙ h)).0
before_inside net candidate rs (z ∷ zs) h (suc n) l =
    let past = (step_of net rs z).past in
    let more = befores net candidate past zs in
    before_inside net candidate past zs (and_parts (is_inside candidate rs) (joined true more) (sym (joined-split (is_inside candidate rs) more) ∙ h)).1 n (omega arith)

inside_before : (net : Net) (candidate : Candidate) (rs zs : List ℤ) → ((n : ℕ) → n < length zs → is_inside candidate (after net rs (take n zs)) ≡ true) → joined true (befores net candidate rs zs) ≡ true
inside_before net candidate rs [] h = refl
inside_before net candidate rs (z ∷ zs) h =
    let past = (step_of net rs z).past in
    let more = befores net candidate past zs in
    joined-split (is_inside candidate rs) more ∙ and_from (is_inside candidate rs) (joined true more) (h 0 (omega arith)) (inside_before net candidate past zs (λ n l. h (suc n) (omega arith)))

-- the bit of the step, where there are as many inputs as the depth
leaves_after-is : (net : Net) (candidate : Candidate) (rs zs : List ℤ) (d : ℕ) → length zs ≡ d → leaves_after d (insides net candidate rs zs) ≡ (not (is_inside candidate (after net rs zs)) && joined true (befores net candidate rs zs))
leaves_after-is net candidate rs zs d e =
    let before = befores net candidate rs zs in
    let last = is_inside candidate (after net rs zs) in
    let n : length before ≡ d = befores-length net candidate rs zs ∙ e in
    let a : get_or (before ++ last ∷ []) d false ≡ last = get_or_push before last false d n in
    let b : take d (before ++ last ∷ []) ≡ before = take_at before (last ∷ []) d n in
    ap (leaves_after d) (insides-split net candidate rs zs)
    ∙ (ap (λ (q : Bool). joined (not q) (take d (before ++ last ∷ []))) a ∙ (ap (joined (not last)) b ∙ joined-split (not last) before))

-- ---- what the words break
-- the words of a goal's inputs, from those of the registers and of the inputs of samples
abbrev pub all_words : SetPart → List ℤ → List ℤ → List ℤ
all_words set_part.Base rs zs = zs
all_words set_part.Step rs zs = rs ++ zs
all_words set_part.Safe rs zs = rs ++ zs

-- the words that a sentence starts from
pub record AreStart (net : Net) (part : SetPart) (rs : List ℤ) : Type 0 where
  pub many : length rs ≡ length net.next
  pub words : All (IsWord net.format) rs
  pub zero_base : part ≡ set_part.Base → rs ≡ zeros (length net.next)

base_decides : (net : Net) (low high : ℤ) (candidate : Candidate) (zs : List ℤ) → IsShaped (length net.next) candidate → length zs ≡ candidate.depth - 1
    → Decides (not (joined true (insides net candidate (zeros (length net.next)) zs)) && all_in_range low high true zs) (BreaksPart net low high candidate set_part.Base zs)
base_decides net low high candidate zs s e = (to, from)
  where
    to : (not (joined true (insides net candidate (zeros (length net.next)) zs)) && all_in_range low high true zs) ≡ true → BreaksPart net low high candidate set_part.Base zs
    to h =
        let p = and_parts (not (joined true (insides net candidate (zeros (length net.next)) zs))) (all_in_range low high true zs) h in
        let range = all_range low high true zs p.1 in
        let l = left_at net candidate (zeros (length net.next)) zs (not-true (joined true (insides net candidate (zeros (length net.next)) zs)) p.0) in
        let one : LeavesEarly (List ℤ) (system_of net) low high candidate (take l.0 zs) = record {
          in_range = in_range_of net low high l.0 zs range;
          few = (let m = length-take l.0 zs in let deep = s.deep in omega arith);
          outside = outside_is candidate (after net (zeros (length net.next)) (take l.0 zs)) l.1;
        } in
        (range, (l.0, one))

    from : BreaksPart net low high candidate set_part.Base zs → (not (joined true (insides net candidate (zeros (length net.next)) zs)) && all_in_range low high true zs) ≡ true
    from b =
        let n = b.1.0 in
        let left = leaves_at net candidate (zeros (length net.next)) zs n (is_outside candidate (after net (zeros (length net.next)) (take n zs)) b.1.1.outside) in
        and_from (not (joined true (insides net candidate (zeros (length net.next)) zs))) (all_in_range low high true zs) (not_from_false (joined true (insides net candidate (zeros (length net.next)) zs)) left) (range_all low high zs b.0)

step_leaves : (net : Net) (low high : ℤ) (candidate : Candidate) (rs zs : List ℤ) → length rs ≡ length net.next → All (IsWord net.format) rs → length zs ≡ candidate.depth
    → Decides (leaves_after candidate.depth (insides net candidate rs zs) && all_in_range low high true zs) (LeavesLater (List ℤ) (system_of net) low high candidate rs zs)
step_leaves net low high candidate rs zs many words e = (to, from)
  where
    to : (leaves_after candidate.depth (insides net candidate rs zs) && all_in_range low high true zs) ≡ true → LeavesLater (List ℤ) (system_of net) low high candidate rs zs
    to h =
        let p = and_parts (leaves_after candidate.depth (insides net candidate rs zs)) (all_in_range low high true zs) h in
        let q = and_parts (not (is_inside candidate (after net rs zs))) (joined true (befores net candidate rs zs)) (sym (leaves_after-is net candidate rs zs candidate.depth e) ∙ p.0) in
        record {
          state = record { many = many; words = words };
          in_range = all_range low high true zs p.1;
          many = e;
          inside = λ n l. (inside_decides candidate (after net rs (take n zs))).0 (before_inside net candidate rs zs q.1 n (omega arith));
          outside = outside_is candidate (after net rs zs) (not-true (is_inside candidate (after net rs zs)) q.0);
        }

    from : LeavesLater (List ℤ) (system_of net) low high candidate rs zs → (leaves_after candidate.depth (insides net candidate rs zs) && all_in_range low high true zs) ≡ true
    from b =
        let last = not_from_false (is_inside candidate (after net rs zs)) (is_outside candidate (after net rs zs) b.outside) in
        let before = inside_before net candidate rs zs (λ n l. (inside_decides candidate (after net rs (take n zs))).1 (b.inside n (omega arith))) in
        and_from (leaves_after candidate.depth (insides net candidate rs zs)) (all_in_range low high true zs)
        (leaves_after-is net candidate rs zs candidate.depth e ∙ and_from (not (is_inside candidate (after net rs zs))) (joined true (befores net candidate rs zs)) last before) (range_all low high zs b.in_range)

safe_breaks : (net : Net) (low high : ℤ) (candidate : Candidate) (rs : List ℤ) (x : ℤ) → length rs ≡ length net.next → All (IsWord net.format) rs
    → Decides ((breaks_from net false rs (x ∷ []) && is_inside candidate rs) && all_in_range low high true (x ∷ [])) (BreaksFrom (List ℤ) (system_of net) low high candidate rs x)
safe_breaks net low high candidate rs x many words = (to, from)
  where
    to : ((breaks_from net false rs (x ∷ []) && is_inside candidate rs) && all_in_range low high true (x ∷ [])) ≡ true → BreaksFrom (List ℤ) (system_of net) low high candidate rs x
    to h =
        let p = and_parts (breaks_from net false rs (x ∷ []) && is_inside candidate rs) (all_in_range low high true (x ∷ [])) h in
        let q = and_parts (breaks_from net false rs (x ∷ [])) (is_inside candidate rs) p.0 in
        let range = All-head (λ y. (low ≤ℤ y) × (y ≤ℤ high)) x [] (all_range low high true (x ∷ []) p.1) in
        record {
          state = record { many = many; words = words };
          inside = (inside_decides candidate rs).0 q.1;
          at_least = range.0;
          at_most = range.1;
          broken = breaks_row net rs (x ∷ []) q.0;
        }

    from : BreaksFrom (List ℤ) (system_of net) low high candidate rs x → ((breaks_from net false rs (x ∷ []) && is_inside candidate rs) && all_in_range low high true (x ∷ [])) ≡ true
    from b =
        let range = range_all low high (x ∷ []) (All-cons (λ y. (low ≤ℤ y) × (y ≤ℤ high)) x [] (b.at_least, b.at_most) (All-nil (λ y. (low ≤ℤ y) × (y ≤ℤ high)))) in
        and_from (breaks_from net false rs (x ∷ []) && is_inside candidate rs) (all_in_range low high true (x ∷ []))
        (and_from (breaks_from net false rs (x ∷ [])) (is_inside candidate rs) (row_breaks net rs (x ∷ []) b.broken) ((inside_decides candidate rs).1 b.inside)) range

-- ---- the words after those of the registers
parted : (P : List ℤ → List ℤ → Type 0) (net : Net) (rs zs : List ℤ) → length rs ≡ length net.next → P rs zs → P (take (length net.next) (rs ++ zs)) (drop (length net.next) (rs ++ zs))
parted P net rs zs e h =
    let m = length net.next in
    subst (λ (ys : List ℤ). P ys (drop m (rs ++ zs))) (sym (take_at rs zs m e)) (subst (P rs) (sym (drop_at rs zs m e)) h)

together : (P : List ℤ → List ℤ → Type 0) (net : Net) (rs zs : List ℤ) → length rs ≡ length net.next → P (take (length net.next) (rs ++ zs)) (drop (length net.next) (rs ++ zs)) → P rs zs
together P net rs zs e h =
    let m = length net.next in
    subst (P rs) (drop_at rs zs m e) (subst (λ (ys : List ℤ). P ys (drop m (rs ++ zs))) (take_at rs zs m e) h)

-- the one input, and what it breaks
abbrev BreaksAt : Net → ℤ → ℤ → Candidate → List ℤ → List ℤ → Type 0
BreaksAt net low high candidate rs zs = (x : ℤ) × (zs ≡ x ∷ []) × BreaksFrom (List ℤ) (system_of net) low high candidate rs x

safe_at : (net : Net) (low high : ℤ) (candidate : Candidate) (rs zs : List ℤ) → length rs ≡ length net.next → All (IsWord net.format) rs → length zs ≡ 1
    → Decides ((breaks_from net false rs zs && is_inside candidate rs) && all_in_range low high true zs) (BreaksAt net low high candidate rs zs)
safe_at net low high candidate rs [] many words e = absurd (omega arith)
safe_at net low high candidate rs (x ∷ (y ∷ zs)) many words e = absurd (omega arith)
safe_at net low high candidate rs (x ∷ []) many words e =
    let d = safe_breaks net low high candidate rs x many words in
    (λ h. (x, refl, d.0 h), λ b. d.1 (subst (BreaksFrom (List ℤ) (system_of net) low high candidate rs) (first x b.0 b.1) b.2))
  where
    first : (a b : ℤ) → a ∷ [] ≡ b ∷ [] → b ≡ a
    first a b g = cc

pub words_decide : (net : Net) (low high : ℤ) (candidate : Candidate) (part : SetPart) (rs zs : List ℤ) → IsShaped (length net.next) candidate → AreStart net part rs → length zs ≡ samples_of candidate part
    → Decides (is_broken net candidate part rs zs && all_in_range low high true zs) (BreaksPart net low high candidate part (all_words part rs zs))
words_decide net low high candidate set_part.Base rs zs s a e =
    subst (λ (ys : List ℤ). Decides (not (joined true (insides net candidate ys zs)) && all_in_range low high true zs) (BreaksPart net low high candidate set_part.Base zs)) (sym (a.zero_base refl)) (base_decides net low high candidate zs s e)
words_decide net low high candidate set_part.Step rs zs s a e =
    let P : List ℤ → List ℤ → Type 0 = λ xs ys. LeavesLater (List ℤ) (system_of net) low high candidate xs ys in
    Decides-like (leaves_after candidate.depth (insides net candidate rs zs) && all_in_range low high true zs) (parted P net rs zs a.many) (together P net rs zs a.many) (step_leaves net low high candidate rs zs a.many a.words e)
words_decide net low high candidate set_part.Safe rs zs s a e =
    let P : List ℤ → List ℤ → Type 0 = λ xs ys. BreaksAt net low high candidate xs ys in
    Decides-like ((breaks_from net false rs zs && is_inside candidate rs) && all_in_range low high true zs) (parted P net rs zs a.many) (together P net rs zs a.many) (safe_at net low high candidate rs zs a.many a.words e)
