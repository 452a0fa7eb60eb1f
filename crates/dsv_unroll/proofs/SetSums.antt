-- Sums of registers times coefficients: what their terms add, and which numbers they spell.
use Rattle.std.proofs.Common.{◌≡◌, ℕ, ◌+◌, ◌-◌, ◌*◌, ◌^◌, ◌==◌, ◌<◌, ◌≤◌, Bool, true, false, List, [], ◌∷◌, refl, arith, ap, sym, subst, ◌∙◌, length, get_or, drop}
use Rattle.std.specs.Prelude.{if◌then◌else◌}
use Rattle.std.specs.List.{All, list_all}
use Rattle.std.specs.Int.RustNames.{unsigned_abs}
use Rattle.std.proofs.Math.IntN.{ℤ, pos, negsuc, ◌+ℤ◌, ◌*ℤ◌}
use Rattle.std.proofs.lemmas.Int.{ints, unsigned_abs-mul}
use Rattle.std.proofs.lemmas.Nat.{mul-le}
use Rattle.std.proofs.lemmas.Bool.{and_parts, eqb-true, leb-true}
use Rattle.std.proofs.lemmas.List.{drop_more}
use Rattle.std.proofs.lemmas.List.Elements.{All-head, All-tail, All-get_or}
use Rattle.std.proofs.lemmas.List.Sums.{AllPass-from_list_all}
use Rattle.dsv_algebra.proofs.Normaliser.{ring, env, var, num, plus, times}
use Rattle.dsv_word.specs.declared.format.Format.{Format}
use Rattle.dsv_word.specs.Words.{width, IsWord}
use Rattle.dsv_netlist.specs.Limits.{most_registers}
use Rattle.dsv_netlist.specs.Nodes.{at}
use Rattle.dsv_netlist.proofs.Sizes.{size_within, within_size, word_size}
use Rattle.dsv_template.specs.Limits.{most_coefficient}
use Rattle.dsv_template.specs.Candidates.{combination, is_small}
use Rattle.dsv_template.proofs.BoxLemmas.{powers}
use Rattle.dsv_term.specs.declared.node.TermId.{TermId}
use Rattle.dsv_term.specs.Building.{Built, built_of}
use Rattle.dsv_term.specs.Growth.{AreSound}
use Rattle.dsv_term.specs.Terms.{KeepsTerms}
use Rattle.dsv_term.specs.TermsView.{TermsView}
use Rattle.dsv_term.proofs.Made.{KeepsTerms-both}
use Rattle.dsv_term.proofs.Building.{KeepsTerms-self}
use Rattle.dsv_unroll.specs.Ready.{IsValue, AreAllValues, IsSetReady}
use Rattle.dsv_unroll.specs.Rules.{product_width, product_term, sum_width, sum_term, term_at}
use Rattle.dsv_unroll.specs.SetGoals.{SumTerms, entry_bound, with_entry, combination_from}
use Rattle.dsv_unroll.proofs.RuleTerms.{Multiplies, Combines, value_later, product_made, product_narrow, sum_made, sum_narrow}
use Rattle.dsv_unroll.proofs.NodeTerms.{width_small}
use Rattle.dsv_unroll.proofs.Follows.{Means, means_later, means_added}
use Rattle.dsv_unroll.proofs.InputTests.{bit_value}
use Rattle.dsv_unroll.proofs.CycleTerms.{all_later, tail_values, AllMean, mean_later, tail_mean}

-- ---- sizes

-- a coefficient times a word takes at most 71 bits
pub entry_bound-small : (f : Format) (c : ℤ) → is_small c ≡ true → entry_bound (width f) c ≤ 2 ^ 71
entry_bound-small f c h =
    let a : unsigned_abs c ≤ most_coefficient = leb-true (unsigned_abs c) most_coefficient h in
    let s = width_small f in
    let p = powers (width f - 1) 47 (omega arith) in
    let m = mul-le (unsigned_abs c) (2 ^ (width f - 1)) most_coefficient (2 ^ 47) a p in
    omega (arith, m)

entry_size : (f : Format) (c w : ℤ) → IsWord f w → unsigned_abs (c *ℤ w) ≤ entry_bound (width f) c
entry_size f c w h =
    let m = unsigned_abs-mul c w in
    let p = mul-le (unsigned_abs c) (unsigned_abs w) (unsigned_abs c) (2 ^ (width f - 1)) (omega arith) (word_size f w h) in
    omega (arith, m, p)

sum_size : (a b : ℕ) (y z : ℤ) → unsigned_abs y ≤ a → unsigned_abs z ≤ b → unsigned_abs (y +ℤ z) ≤ a + b
sum_size a b y z h k =
    let v = size_within a y h in
    let w = size_within b z k in
    within_size (a + b) (y +ℤ z) (record { low = omega (arith, ints, v.low, w.low); high = omega (arith, ints, v.high, w.high) })

none_of : (z : ℤ) → unsigned_abs z ≡ 0 → z ≡ pos 0
none_of (pos m) h = ap pos h
none_of (negsuc m) h = absurd (omega arith)

-- nothing is added where a coefficient is 0
no_entry : (z c w : ℤ) → unsigned_abs c ≡ 0 → z ≡ z +ℤ c *ℤ w
no_entry z c w h = rw (none_of c h) (ring (env (z ∷ w ∷ [])) (var 0) (plus (var 0) (times (num (pos 0)) (var 1))) refl)

-- ---- one register more
pub record SumAdds (t : TermsView) (s : SumTerms) : Type 0 where
  pub sound : AreSound s.terms
  pub inputs : s.terms.inputs ≡ t.inputs
  pub kept : KeepsTerms t s.terms
  pub value : IsValue s.terms s.id

SumAdds-self : (s : SumTerms) → AreSound s.terms → IsValue s.terms s.id → SumAdds s.terms s
SumAdds-self s h v = record { sound = h; inputs = refl; kept = KeepsTerms-self s.terms; value = v }

-- the sum spells a number of at most its size
pub record SumMeans (values : List ℕ) (s : SumTerms) (z : ℤ) : Type 0 where
  pub means : Means s.terms values s.id z
  pub size : unsigned_abs z ≤ s.bound

-- after a product
pub record ProductStands (t : TermsView) (sum entry : TermId) : Type 0 where
  pub sound : AreSound t
  pub left : IsValue t sum
  pub right : IsValue t entry

product_stands : (t : TermsView) (size : ℕ) (c : ℤ) (sum register : TermId) → AreSound t → IsValue t sum → IsValue t register → size < 2 ^ 126 → let entry = product_term t size c register in ProductStands entry.terms sum entry.id
product_stands t size c sum register h v w l =
    let entry = product_term t size c register in
    let p = product_made t size c register h w l in
    record { sound = p.adds.sound; left = value_later t entry.terms sum p.adds.kept v; right = record { stands = p.adds.stands; narrow = omega (arith, p.adds.width, product_narrow t size c register w l) } }

-- a product of this size, and the sum with it
record AddsEntry (s : SumTerms) (c : ℤ) (register : TermId) (size : ℕ) (entry total : Built) : Type 0 where
  product : Multiplies s.terms size c register (product_width s.terms size c register) entry
  sum : Combines entry.terms (s.bound + size) s.id entry.id (sum_width entry.terms (s.bound + size) s.id entry.id) (λ y z. y +ℤ z) total
  narrow : sum_width entry.terms (s.bound + size) s.id entry.id ≤ 127

adds_entry : (s : SumTerms) (c : ℤ) (register : TermId) (size : ℕ) → AreSound s.terms → IsValue s.terms s.id → IsValue s.terms register → s.bound + size < 2 ^ 126
    → let entry = product_term s.terms size c register in AddsEntry s c register size entry (sum_term entry.terms (s.bound + size) s.id entry.id)
adds_entry s c register size h v w l =
    let entry = product_term s.terms size c register in
    let small : size < 2 ^ 126 = omega arith in
    let p = product_stands s.terms size c s.id register h v w small in
    record {
      product = product_made s.terms size c register h w small;
      sum = sum_made entry.terms (s.bound + size) s.id entry.id p.sound p.left p.right l;
      narrow = sum_narrow entry.terms (s.bound + size) s.id entry.id p.left p.right l;
    }

-- the sum with an entry whose coefficient isn't 0
abbrev entry_sum : ℕ → SumTerms → ℤ → TermId → SumTerms
entry_sum n s c register =
    let entry = product_term s.terms (entry_bound n c) c register in
    let bound = s.bound + entry_bound n c in
    let sum = sum_term entry.terms bound s.id entry.id in
    record { terms = sum.terms; id = sum.id; bound = bound }

-- what one register more stands on
pub record IsEntryReady (s : SumTerms) (c : ℤ) (register : TermId) : Type 0 where
  pub sound : AreSound s.terms
  pub value : IsValue s.terms s.id
  pub register_value : IsValue s.terms register
  pub small : is_small c ≡ true
  pub room : s.bound ≤ 2 ^ 80

entry_adds : (f : Format) (s : SumTerms) (c : ℤ) (register : TermId) → IsEntryReady s c register → SumAdds s.terms (entry_sum (width f) s c register)
entry_adds f s c register r =
    let size = entry_bound (width f) c in
    let b = entry_bound-small f c r.small in
    let room = r.room in
    let e = adds_entry s c register size r.sound r.value r.register_value (omega arith) in
    let entry = product_term s.terms size c register in
    let total = sum_term entry.terms (s.bound + size) s.id entry.id in
    record {
      sound = e.sum.adds.sound;
      inputs = e.sum.adds.inputs ∙ e.product.adds.inputs;
      kept = KeepsTerms-both s.terms entry.terms total.terms e.product.adds.kept e.sum.adds.kept;
      value = record { stands = e.sum.adds.stands; narrow = (let q = e.sum.adds.width in let o = e.narrow in omega arith) };
    }

entry_means : (f : Format) (values : List ℕ) (s : SumTerms) (c : ℤ) (register : TermId) (z w : ℤ) → IsEntryReady s c register → IsWord f w → Means s.terms values register w → SumMeans values s z → SumMeans values (entry_sum (width f) s c register) (z +ℤ c *ℤ w)
entry_means f values s c register z w r word m n =
    let size = entry_bound (width f) c in
    let b = entry_bound-small f c r.small in
    let room = r.room in
    let e = adds_entry s c register size r.sound r.value r.register_value (omega arith) in
    let entry = product_term s.terms size c register in
    let total = sum_term entry.terms (s.bound + size) s.id entry.id in
    let small = entry_size f c w word in
    let right = means_added entry.terms values entry.id (product_width s.terms size c register) (c *ℤ w) e.product.adds.width (e.product.spells values w m.spells small) in
    let left = means_later s.terms entry.terms values s.id z e.product.adds.kept r.value.stands n.means in
    let bound = sum_size s.bound size z (c *ℤ w) n.size small in
    record {
      means = means_added total.terms values total.id (sum_width entry.terms (s.bound + size) s.id entry.id) (z +ℤ c *ℤ w) e.sum.adds.width (e.sum.spells values z (c *ℤ w) left.spells right.spells bound);
      size = bound;
    }

adds_by : (f : Format) (s : SumTerms) (c : ℤ) (register : TermId) (q : Bool) → IsEntryReady s c register → SumAdds s.terms (if q then s else entry_sum (width f) s c register)
adds_by f s c register true r = SumAdds-self s r.sound r.value
adds_by f s c register false r = entry_adds f s c register r

pub with_entry_adds : (f : Format) (s : SumTerms) (c : ℤ) (register : TermId) → IsEntryReady s c register → SumAdds s.terms (with_entry (width f) s c register)
with_entry_adds f s c register r = adds_by f s c register (unsigned_abs c == 0) r

bound_by : (f : Format) (s : SumTerms) (c : ℤ) (register : TermId) (q : Bool) → is_small c ≡ true → (if q then s else entry_sum (width f) s c register).bound ≤ s.bound + 2 ^ 71
bound_by f s c register true h = omega arith
bound_by f s c register false h = let b = entry_bound-small f c h in omega arith

pub with_entry_bound : (f : Format) (s : SumTerms) (c : ℤ) (register : TermId) → is_small c ≡ true → (with_entry (width f) s c register).bound ≤ s.bound + 2 ^ 71
with_entry_bound f s c register h = bound_by f s c register (unsigned_abs c == 0) h

means_by : (f : Format) (values : List ℕ) (s : SumTerms) (c : ℤ) (register : TermId) (z w : ℤ) (q : Bool) → (unsigned_abs c == 0) ≡ q → IsEntryReady s c register → IsWord f w → Means s.terms values register w → SumMeans values s z
    → SumMeans values (if q then s else entry_sum (width f) s c register) (z +ℤ c *ℤ w)
means_by f values s c register z w true e r word m n = subst (SumMeans values s) (no_entry z c w (eqb-true (unsigned_abs c) 0 e)) n
means_by f values s c register z w false e r word m n = entry_means f values s c register z w r word m n

with_entry_means : (f : Format) (values : List ℕ) (s : SumTerms) (c : ℤ) (register : TermId) (z w : ℤ) → IsEntryReady s c register → IsWord f w → Means s.terms values register w → SumMeans values s z → SumMeans values (with_entry (width f) s c register) (z +ℤ c *ℤ w)
with_entry_means f values s c register z w r word m n = means_by f values s c register z w (unsigned_abs c == 0) refl r word m n

-- ---- all registers
-- what the registers to come stand on
pub record IsSumReady (s : SumTerms) (cs : List ℤ) (registers : List TermId) : Type 0 where
  pub sound : AreSound s.terms
  pub value : IsValue s.terms s.id
  pub registers_stand : AreAllValues s.terms registers
  pub small : list_all is_small cs ≡ true
  pub room : s.bound + 2 ^ 71 * length cs ≤ 2 ^ 80

pub first_entry : (s : SumTerms) (c : ℤ) (cs : List ℤ) (register : TermId) (registers : List TermId) → IsSumReady s (c ∷ cs) (register ∷ registers) → IsEntryReady s c register
first_entry s c cs register registers r =
    record {
      sound = r.sound;
      value = r.value;
      register_value = r.registers_stand.stand 0 (omega arith);
      small = (and_parts (is_small c) (list_all is_small cs) r.small).0;
      room = (let room = r.room in omega arith);
    }

pub rest_entries : (f : Format) (s : SumTerms) (c : ℤ) (cs : List ℤ) (register : TermId) (registers : List TermId) → IsSumReady s (c ∷ cs) (register ∷ registers) → IsSumReady (with_entry (width f) s c register) cs registers
rest_entries f s c cs register registers r =
    let next = with_entry (width f) s c register in
    let p = and_parts (is_small c) (list_all is_small cs) r.small in
    let a = with_entry_adds f s c register (first_entry s c cs register registers r) in
    record {
      sound = a.sound;
      value = a.value;
      registers_stand = all_later s.terms next.terms registers a.kept (tail_values s.terms register registers r.registers_stand);
      small = p.1;
      room = (let b = with_entry_bound f s c register p.0 in let room = r.room in omega arith);
    }

pub combination_adds : (f : Format) (cs : List ℤ) (registers : List TermId) (s : SumTerms) → IsSumReady s cs registers → SumAdds s.terms (combination_from (width f) s cs registers)
combination_adds f [] registers s r = SumAdds-self s r.sound r.value
combination_adds f (c ∷ cs) [] s r = SumAdds-self s r.sound r.value
combination_adds f (c ∷ cs) (register ∷ registers) s r =
    let next = with_entry (width f) s c register in
    let a = with_entry_adds f s c register (first_entry s c cs register registers r) in
    let rest = combination_adds f cs registers next (rest_entries f s c cs register registers r) in
    let end = combination_from (width f) next cs registers in
    record { sound = rest.sound; inputs = rest.inputs ∙ a.inputs; kept = KeepsTerms-both s.terms next.terms end.terms a.kept rest.kept; value = rest.value }

plus_none : (z : ℤ) → z ≡ z +ℤ pos 0
plus_none z = omega (arith, ints)

plus_assoc : (a b d : ℤ) → (a +ℤ b) +ℤ d ≡ a +ℤ (b +ℤ d)
plus_assoc a b d = omega (arith, ints)

pub combination_means : (f : Format) (values : List ℕ) (cs : List ℤ) (registers : List TermId) (rs : List ℤ) (s : SumTerms) (z : ℤ) → IsSumReady s cs registers → All (IsWord f) rs → AllMean s.terms values registers rs → SumMeans values s z
    → SumMeans values (combination_from (width f) s cs registers) (z +ℤ combination cs rs)
combination_means f values [] registers rs s z r words m n = subst (SumMeans values s) (plus_none z) n
combination_means f values (c ∷ cs) [] [] s z r words m n = subst (SumMeans values s) (plus_none z) n
combination_means f values (c ∷ cs) [] (w ∷ rs) s z r words m n = absurd (let k = m.count in omega arith)
combination_means f values (c ∷ cs) (register ∷ registers) [] s z r words m n = absurd (let k = m.count in omega arith)
combination_means f values (c ∷ cs) (register ∷ registers) (w ∷ rs) s z r words m n =
    let next = with_entry (width f) s c register in
    let first = first_entry s c cs register registers r in
    let a = with_entry_adds f s c register first in
    let one = with_entry_means f values s c register z w first (All-head (IsWord f) w rs words) (m.each 0 (omega arith)) n in
    let rest = combination_means f values cs registers rs next (z +ℤ c *ℤ w) (rest_entries f s c cs register registers r) (All-tail (IsWord f) w rs words)
    (mean_later s.terms next.terms values registers rs a.kept (tail_values s.terms register registers r.registers_stand) (tail_mean s.terms values register registers w rs m)) one in
    subst (SumMeans values (combination_from (width f) next cs registers)) (plus_assoc z (c *ℤ w) (combination cs rs)) rest

-- before the first register
pub sum_ready : (t : TermsView) (zero_bit : TermId) (cs : List ℤ) (registers : List TermId) → IsSetReady t zero_bit registers → length cs ≡ length registers → list_all is_small cs ≡ true → IsSumReady (record { terms = t; id = zero_bit; bound = 0 }) cs registers
sum_ready t zero_bit cs registers r e h =
    record { sound = r.sound; value = bit_value t zero_bit r.zero_has_bit; registers_stand = r.registers_stand; small = h; room = (let few = r.few in omega arith) }

-- ---- as the code has it
pub passes_at : {A : Type 0} (p : A → Bool) (xs : List A) (k : ℕ) (d : A) → list_all p xs ≡ true → k < length xs → p (get_or xs k d) ≡ true
passes_at p xs k d h l = All-get_or (λ x. p x ≡ true) xs k d l (AllPass-from_list_all p xs h)

-- the terms of a product that the code made
pub product_after : (t u : TermsView) (size : ℕ) (c : ℤ) (sum register entry : TermId) → AreSound t → IsValue t sum → IsValue t register → size ≤ 2 ^ 71 → built_of u entry ≡ product_term t size c register → ProductStands u sum entry
product_after t u size c sum register entry h v w l e = subst (λ (b : Built). ProductStands b.terms sum b.id) (sym e) (product_stands t size c sum register h v w (omega arith))

-- the registers from one on are to come
pub record IsSumming (f : Format) (cs : List ℤ) (registers : List TermId) (k : ℕ) (s end : SumTerms) : Type 0 where
  pub sound : AreSound s.terms
  pub value : IsValue s.terms s.id
  pub registers_stand : AreAllValues s.terms registers
  pub room : s.bound ≤ 2 ^ 71 * k
  pub same : combination_from (width f) s (drop k cs) (drop k registers) ≡ end

pub entry_at : (f : Format) (cs : List ℤ) (registers : List TermId) (k : ℕ) (s end : SumTerms) → k < length registers → length cs ≡ length registers → length registers ≤ most_registers → list_all is_small cs ≡ true → IsSumming f cs registers k s end
    → IsEntryReady s (at cs k) (term_at registers k)
entry_at f cs registers k s end l e few h i =
    record { sound = i.sound; value = i.value; register_value = i.registers_stand.stand k l; small = passes_at is_small cs k (pos 0) h (omega arith); room = (let n = i.room in omega arith) }

pub sum_step : (f : Format) (cs : List ℤ) (registers : List TermId) (k : ℕ) (s now end : SumTerms) (c : ℤ) (register : TermId) → k < length cs → k < length registers → IsEntryReady s c register → c ≡ at cs k → register ≡ term_at registers k → IsSumming f cs registers k s end
    → now ≡ with_entry (width f) s c register → IsSumming f cs registers (k + 1) now end
sum_step f cs registers k s now end c register l m r e g i b =
    let next = with_entry (width f) s c register in
    let a = with_entry_adds f s c register r in
    let o = with_entry_bound f s c register r.small in
    let dc : drop k cs ≡ c ∷ drop (k + 1) cs = drop_more cs k (pos 0) l ∙ ap (λ (x : ℤ). x ∷ drop (k + 1) cs) (sym e) in
    let dr : drop k registers ≡ register ∷ drop (k + 1) registers = drop_more registers k (record { 0 = 0 }) m ∙ ap (λ (x : TermId). x ∷ drop (k + 1) registers) (sym g) in
    let step : combination_from (width f) s (c ∷ drop (k + 1) cs) (register ∷ drop (k + 1) registers) ≡ end =
    ap (λ (xs : List ℤ). combination_from (width f) s xs (register ∷ drop (k + 1) registers)) (sym dc) ∙ (ap (combination_from (width f) s (drop k cs)) (sym dr) ∙ i.same) in
    let one : IsSumming f cs registers (k + 1) next end = record {
      sound = a.sound;
      value = a.value;
      registers_stand = all_later s.terms next.terms registers a.kept i.registers_stand;
      room = (let n = i.room in omega arith);
      same = step;
    } in
    subst (λ (w : SumTerms). IsSumming f cs registers (k + 1) w end) (sym b) one
