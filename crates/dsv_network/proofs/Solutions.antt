-- Symbols over which the values of a sample so far are those of their forms.
use Rattle.std.proofs.Common.{◌≡◌, ℕ, zero, suc, ◌<◌, ◌≤◌, inl, inr, ◌⊎◌, Bool, true, false, if◌then◌else◌, List, [], ◌∷◌, ◌++◌, length, refl, sym, subst, ap, ◌∙◌, arith, rules}
use Rattle.std.specs.Prelude.{Some, ◌==◌}
use Rattle.std.proofs.Math.IntN.{ℤ, pos, ◌*ℤ◌}
use Rattle.dsv_algebra.proofs.Normaliser.{ring, env, var, times}
use Rattle.std.proofs.lemmas.Bool.{cases_lt}
use Rattle.std.proofs.lemmas.List.{get_or_append_left, get_or_push, get_or_past, length_push}
use lib.Signed.{◌<ℤ◌}
use Rattle.dsv_algebra.proofs.Signs.{mul_positive}
use Rattle.dsv_word.specs.declared.format.Format.{Format}
use Rattle.dsv_netlist.specs.Nodes.{at}
use Rattle.dsv_network.specs.declared.signal.Signal.{Signal}
use Rattle.dsv_network.specs.declared.signal.Signal.TheVariants.{Outer, Register, Product, Sum, Difference, Near, Checked, Shown}
use Rattle.dsv_linear.specs.declared.range.Range.{Range}
use Rattle.dsv_linear.specs.Forms.{range_at}
use Rattle.dsv_linear.specs.Meaning.{LiesIn}
use Rattle.dsv_linear.proofs.Numbers.{times_none}
use Rattle.dsv_linear.proofs.Meanings.{lies_grown, same_place}
use Rattle.dsv_network.specs.declared.pass.Pass.{Pass}
use Rattle.dsv_network.specs.declared.walk.Walk.{Walk}
use Rattle.dsv_network.specs.Samples.{own_after, after_node}
use Rattle.dsv_network.proofs.Masses.{is_here, here_place, placed}
use Rattle.dsv_network.proofs.Walks.{form_of, IsStep, step_is, walk_or, coefficients, Means, means_same, means_grown}
use Rattle.dsv_network.proofs.Widening.{IsWider, lies_wider}

-- ---- samples one after another, up to number t
-- the passes before them: over m symbols, of which the registers begin with n
pub record AreAges (n m : ℕ) (f : Format) (t : ℕ) (ps : ℕ → Pass) : Type 0 where
  pub count : (a : ℕ) → a ≤ t → (ps a).count ≡ n
  pub long : (a : ℕ) → a ≤ t → length (ps a).ranges ≡ m
  pub format : (a : ℕ) → a ≤ t → (ps a).format ≡ f
  pub first : (ps 0).is_first ≡ true
  pub later : (a : ℕ) → a < t → (ps (suc a)).is_first ≡ false
  pub none : (r j : ℕ) → n ≤ j → at (form_of (ps 0).registers r) j ≡ pos 0

not_zero : (a : ℕ) → (suc a == 0) ≡ false
not_zero a = search rules

pub first_at : (n m : ℕ) (f : Format) (t : ℕ) (ps : ℕ → Pass) (a : ℕ) → AreAges n m f t ps → a ≤ t → (ps a).is_first ≡ (a == 0)
first_at n m f t ps zero h l = h.first
first_at n m f t ps (suc a) h l = h.later a (omega arith) ∙ sym (not_zero a)

-- how far each has come: as far as these values, with as many symbols before the next one; the
-- newest symbols are in no form before they come
pub record AreWalks (n own t : ℕ) (ws : ℕ → Walk) (vs : List ℤ) : Type 0 where
  pub long : (a : ℕ) → a ≤ t → length (ws a).forms ≡ length vs
  pub own_is : (a : ℕ) → a ≤ t → (ws a).own ≡ own
  pub few : n ≤ own
  pub none : (i j : ℕ) → own ≤ j → at (form_of (ws 0).forms i) j ≡ pos 0

-- there are a denominator and symbols, over which these numbers in the registers and the values so
-- far, which stand for fractions over a denominator of their own, are those of their forms; the
-- symbols that registers begin with are 0 but before the first sample, and the first so many at all
-- times
pub record Solution (silent n m t own : ℕ) (over : ℤ) (ps : ℕ → Pass) (ws : ℕ → Walk) (words vs : List ℤ) : Type 0 where
  pub k : ℤ
  pub base : ℤ
  pub us : ℕ → ℕ → ℤ
  pub positive : pos 0 <ℤ k
  pub whole : base ≡ k *ℤ over
  pub above : pos 0 <ℤ base
  pub none : (a j : ℕ) → j < silent → us a j ≡ pos 0
  pub past : (a j : ℕ) → a < t → j < n → us a j ≡ pos 0
  pub start : (j : ℕ) → j < n → LiesIn base (range_at (ws t).ranges j) (us t j)
  pub lies : (a j : ℕ) → a ≤ t → n ≤ j → j < m → (0 < a) ⊎ (j < own) → LiesIn base (range_at (ws t).ranges j) (us a j)
  pub many : length (ps t).registers ≡ length words
  pub loaded : (r : ℕ) → r < length words → Means m t k us (coefficients (λ a. (ps a).registers) r) (at words r)
  pub stand : (i : ℕ) → i < length vs → Means m t k us (coefficients (λ a. (ws a).forms) i) (at vs i)

-- ---- one node more
abbrev pub after : (ℕ → Pass) → (ℕ → Walk) → Signal → ℕ → Walk
after ps ws n a = walk_or (ws a) (after_node (ps a) (ws a) n)

abbrev pub AreMade : ℕ → (ℕ → Pass) → (ℕ → Walk) → Signal → Type 0
AreMade t ps ws n = (a : ℕ) → a ≤ t → after_node (ps a) (ws a) n ≡ Some (after ps ws n a)

pub steps : (t : ℕ) (ps : ℕ → Pass) (ws : ℕ → Walk) (n : Signal) → AreMade t ps ws n → (a : ℕ) → a ≤ t → IsStep (ps a) (ws a) n (after ps ws n a)
steps t ps ws n made a l = step_is (ps a) (ws a) n (after ps ws n a) (made a l)

-- the coefficients of the new value
abbrev pub newest : (ℕ → Pass) → (ℕ → Walk) → Signal → List ℤ → ℕ → ℕ → ℤ
newest ps ws n vs a j = at (form_of (after ps ws n a).forms (length vs)) j

pub new_form : (pass : Pass) (walk next : Walk) (n : Signal) (i : ℕ) (s : IsStep pass walk n next) → length walk.forms ≡ i → form_of next.forms i ≡ s.form
new_form pass walk next n i s e = ap (λ (w : Walk). form_of w.forms i) s.same ∙ get_or_push walk.forms s.form [] i e

old_form : (pass : Pass) (walk next : Walk) (n : Signal) (i : ℕ) (s : IsStep pass walk n next) → i < length walk.forms → form_of next.forms i ≡ form_of walk.forms i
old_form pass walk next n i s e = ap (λ (w : Walk). form_of w.forms i) s.same ∙ get_or_append_left walk.forms (s.form ∷ []) [] i e

forms_long : (pass : Pass) (walk next : Walk) (n : Signal) → IsStep pass walk n next → length next.forms ≡ suc (length walk.forms)
forms_long pass walk next n s = let e = ap (λ (w : Walk). length w.forms) s.same in let g = length_push walk.forms s.form in omega (arith, e, g)

own_before : (own : ℕ) (n : Signal) → own ≤ own_after own n
own_before own (Outer r) = omega arith
own_before own (Register r) = omega arith
own_before own (Product c i) = omega arith
own_before own (Sum i j) = omega arith
own_before own (Difference i j) = omega arith
own_before own (Near near) = omega arith
own_before own (Checked i) = omega arith
own_before own (Shown i) = omega arith

own_less : (own m : ℕ) (n : Signal) → m ≤ own → m ≤ own_after own n
own_less own m n l = let e = own_before own n in omega (arith, l, e)

pub walks_more : (n own t : ℕ) (ps : ℕ → Pass) (ws : ℕ → Walk) (node : Signal) (vs : List ℤ) (v : ℤ) → AreWalks n own t ws vs → AreMade t ps ws node
    → ((j : ℕ) → own_after own node ≤ j → newest ps ws node vs 0 j ≡ pos 0) → AreWalks n (own_after own node) t (after ps ws node) (vs ++ v ∷ [])
walks_more n own t ps ws node vs v w made new =
    let s = steps t ps ws node made in
    record {
      long = λ a l.
          let e = forms_long (ps a) (ws a) (after ps ws node a) node (s a l) in
          let g = w.long a l in
          omega (arith, e, g, length_push vs v);
      own_is = λ a l. ap (λ (x : Walk). x.own) (s a l).same ∙ ap (λ (o : ℕ). own_after o node) (w.own_is a l);
      few = own_less own n node w.few;
      none = λ i j l.
          let first = s 0 (omega arith) in
          let long = w.long 0 (omega arith) in
          let all = forms_long (ps 0) (ws 0) (after ps ws node 0) node first in
          let less = own_less own own node (omega arith) in
          elim (cases_lt i (length vs)) [
            | inl p ↦ ap (λ (f : List ℤ). at f j) (old_form (ps 0) (ws 0) (after ps ws node 0) node i first (omega (arith, long))) ∙ w.none i j (omega (arith, l, less))
            | inr p ↦ elim (cases_lt (length vs) i) [
              | inl q ↦ ap (λ (f : List ℤ). at f j) (get_or_past (after ps ws node 0).forms i [] (omega (arith, long, all)))
              | inr q ↦ (let same : length vs ≡ i = omega arith in subst (λ (x : ℕ). at (form_of (after ps ws node 0).forms x) j ≡ pos 0) same (new j l))
            ]
          ];
    }

-- what stands for all values, where it does for those before and the new one
stand_more : (m t : ℕ) (k : ℤ) (us : ℕ → ℕ → ℤ) (ps : ℕ → Pass) (ws : ℕ → Walk) (node : Signal) (vs : List ℤ) (v : ℤ) → ((a : ℕ) → a ≤ t → length (ws a).forms ≡ length vs) → AreMade t ps ws node
    → ((i : ℕ) → i < length vs → Means m t k us (coefficients (λ a. (ws a).forms) i) (at vs i)) → Means m t k us (newest ps ws node vs) v
    → (i : ℕ) → i < length (vs ++ v ∷ []) → Means m t k us (coefficients (λ a. (after ps ws node a).forms) i) (at (vs ++ v ∷ []) i)
stand_more m t k us ps ws node vs v long made old new i p =
    let s = steps t ps ws node made in
    elim (cases_lt i (length vs)) [
      | inl q ↦ subst (λ (x : ℤ). Means m t k us (coefficients (λ a. (after ps ws node a).forms) i) x) (sym (get_or_append_left vs (v ∷ []) (pos 0) i q))
          (means_same m t k us (coefficients (λ a. (ws a).forms) i) (coefficients (λ a. (after ps ws node a).forms) i) (at vs i)
          (λ a j l r. ap (λ (f : List ℤ). at f j) (old_form (ps a) (ws a) (after ps ws node a) node i (s a (omega arith)) (let e = long a (omega arith) in omega (arith, e)))) (old i q))
      | inr q ↦ (let same : length vs ≡ i = let e = length_push vs v in omega (arith, e) in
          subst (λ (x : ℤ). Means m t k us (coefficients (λ a. (after ps ws node a).forms) i) x) (sym (get_or_push vs v (pos 0) i same))
          (subst (λ (y : ℕ). Means m t k us (coefficients (λ a. (after ps ws node a).forms) y) v) same new))
    ]

-- a node that brings no symbol
pub solution_plain : {silent n m t own : ℕ} {over : ℤ} (ps : ℕ → Pass) (ws : ℕ → Walk) (node : Signal) (words vs : List ℤ) (v : ℤ) (s : Solution silent n m t own over ps ws words vs) → AreWalks n own t ws vs → AreMade t ps ws node
    → own_after own node ≡ own → (after ps ws node t).ranges ≡ (ws t).ranges → Means m t s.k s.us (newest ps ws node vs) v → Solution silent n m t (own_after own node) over ps (after ps ws node) words (vs ++ v ∷ [])
solution_plain {silent} {n} {m} {t} {own} {over} ps ws node words vs v s w made o r new =
    subst (λ (x : ℕ). Solution silent n m t x over ps (after ps ws node) words (vs ++ v ∷ [])) (sym o) (record {
      k = s.k;
      base = s.base;
      us = s.us;
      positive = s.positive;
      whole = s.whole;
      above = s.above;
      none = s.none;
      past = s.past;
      start = λ j l. subst (λ (rs : List Range). LiesIn s.base (range_at rs j) (s.us t j)) (sym r) (s.start j l);
      lies = λ a j l p q h. subst (λ (rs : List Range). LiesIn s.base (range_at rs j) (s.us a j)) (sym r) (s.lies a j l p q h);
      many = s.many;
      loaded = s.loaded;
      stand = stand_more m t s.k s.us ps ws node vs v w.long made s.stand new;
    })

-- ---- a symbol more
before_here : (b : Bool) (own a j : ℕ) (u x : ℤ) → is_here own a j ≡ b → j < own → (if b then u else x) ≡ x
before_here true own a j u x e l = absurd (let h = here_place own a j e in omega (arith, l, h))
before_here false own a j u x e l = refl

placed_old : (s : ℤ) (own : ℕ) (us : ℕ → ℕ → ℤ) (u : ℤ) (a j : ℕ) → j < own → placed s own us u a j ≡ s *ℤ us a j
placed_old s own us u a j l = before_here (is_here own a j) own a j u (s *ℤ us a j) refl l

not_here : (own a j : ℕ) → is_here own a j ≡ false → a ≡ 0 → j ≡ own → ⊥
not_here own a j e p q =
    let h : is_here own a j ≡ true = rw (p, q) (same_place own) in
    absurd cc

later_here : (own a j : ℕ) → is_here own a j ≡ false → j < suc own → (0 < a) ⊎ (j < own)
later_here own a j e l = elim (cases_lt 0 a) [
  | inl p ↦ inl p
  | inr p ↦ elim (cases_lt j own) [
    | inl q ↦ inr q
    | inr q ↦ absurd (let f : j ≡ own = omega (arith, l, q) in let g : a ≡ 0 = omega (arith, p) in not_here own a j e g f)
  ]
]

placed_lies : (b : Bool) (own a j : ℕ) (k s u v : ℤ) (rs ss : List Range) → is_here own a j ≡ b → pos 0 <ℤ (k *ℤ s) → pos 0 <ℤ s → IsWider rs ss → LiesIn (k *ℤ s) (range_at ss own) u → (0 < a) ⊎ (j < suc own)
    → ((0 < a) ⊎ (j < own) → LiesIn k (range_at rs j) v) → LiesIn (k *ℤ s) (range_at ss j) (if b then u else s *ℤ v)
placed_lies true own a j k s u v rs ss e p q w l h old = subst (λ (i : ℕ). LiesIn (k *ℤ s) (range_at ss i) u) (sym (here_place own a j e)) l
placed_lies false own a j k s u v rs ss e p q w l h old =
    let wide = w j in
    lies_wider (k *ℤ s) (s *ℤ v) (range_at rs j) (range_at ss j) p wide.0 wide.1 (lies_grown k s (range_at rs j) v q (old (elim h [
      | inl g ↦ inl g
      | inr g ↦ later_here own a j e g
    ])))

stretched : (b k g o : ℤ) → b ≡ k *ℤ o → b *ℤ g ≡ k *ℤ g *ℤ o
stretched b k g o e = rw e (ring (env (k ∷ g ∷ o ∷ [])) (times (times (var 0) (var 2)) (var 1)) (times (times (var 0) (var 1)) (var 2)) refl)

pub solution_symbol : {silent n m t own : ℕ} {over : ℤ} (ps : ℕ → Pass) (ws : ℕ → Walk) (node : Signal) (words vs : List ℤ) (v growth u : ℤ) (s : Solution silent n m t own over ps ws words vs) (f : Format) → AreAges n m f t ps → AreWalks n own t ws vs
    → AreMade t ps ws node → own_after own node ≡ suc own → silent ≤ n → pos 0 <ℤ growth → IsWider (ws t).ranges (after ps ws node t).ranges → LiesIn (s.base *ℤ growth) (range_at (after ps ws node t).ranges own) u
    → Means m t (s.k *ℤ growth) (placed growth own s.us u) (newest ps ws node vs) v → Solution silent n m t (own_after own node) over ps (after ps ws node) words (vs ++ v ∷ [])
solution_symbol {silent} {n} {m} {t} {own} {over} ps ws node words vs v growth u s f ages w made o z p wide lies new =
    let k = s.k *ℤ growth in
    let base = s.base *ℤ growth in
    let us = placed growth own s.us u in
    let few = w.few in
    let up = mul_positive s.base growth s.above p in
    let grown : (c : ℕ → ℕ → ℤ) (x : ℤ) → c 0 own ≡ pos 0 → Means m t s.k s.us c x → Means m t k us c x = λ c x e h. means_grown m t own s.k growth u s.us c x e h in
    subst (λ (x : ℕ). Solution silent n m t x over ps (after ps ws node) words (vs ++ v ∷ [])) (sym o) (record {
      k = k;
      base = base;
      us = us;
      positive = mul_positive s.k growth s.positive p;
      whole = stretched s.base s.k growth over s.whole;
      above = up;
      none = λ a j l. placed_old growth own s.us u a j (omega (arith, l, z, few)) ∙ ap (λ x. growth *ℤ x) (s.none a j l) ∙ times_none growth;
      past = λ a j l h. placed_old growth own s.us u a j (omega (arith, h, few)) ∙ ap (λ x. growth *ℤ x) (s.past a j l h) ∙ times_none growth;
      start = λ j l.
          let wj = wide j in
          subst (λ (x : ℤ). LiesIn base (range_at (after ps ws node t).ranges j) x) (sym (placed_old growth own s.us u t j (omega (arith, l, few))))
          (lies_wider base (growth *ℤ s.us t j) (range_at (ws t).ranges j) (range_at (after ps ws node t).ranges j) up wj.0 wj.1 (lies_grown s.base growth (range_at (ws t).ranges j) (s.us t j) p (s.start j l)));
      lies = λ a j l q r h. placed_lies (is_here own a j) own a j s.base growth u (s.us a j) (ws t).ranges (after ps ws node t).ranges refl up p wide lies h (λ g. s.lies a j l q r g);
      many = s.many;
      loaded = λ r l. grown (coefficients (λ a. (ps a).registers) r) (at words r) (ages.none r own few) (s.loaded r l);
      stand = stand_more m t k us ps ws node vs v w.long made (λ i l. grown (coefficients (λ a. (ws a).forms) i) (at vs i) (w.none i own (omega arith)) (s.stand i l)) new;
    })
