-- Loops over nodes, ranges, registers and samples.
use Rattle.std.proofs.Common.{◌≡◌, ℕ, zero, suc, ◌+◌, ◌-◌, ◌<◌, inl, inr, ◌⊎◌, Bool, List, [], ◌∷◌, ◌++◌, length, get_or, take, drop, refl, sym, ap, ◌∙◌, arith, add-one, zero-add, length-append}
use Rattle.std.specs.Prelude.{Option, Some}
use Rattle.std.proofs.lemmas.List.{take_more, drop_more, append-nil, append_assoc}
use Rattle.dsv_network.specs.declared.signal.Signal.{Signal}
use Rattle.dsv_linear.specs.declared.range.Range.{Range}
use Rattle.dsv_linear.specs.Forms.{◌>>=◌, unit}
use Rattle.dsv_network.specs.declared.outlook.Outlook.{Outlook}
use Rattle.dsv_network.specs.declared.pass.Pass.{Pass}
use Rattle.dsv_network.specs.declared.walk.Walk.{Walk}
use Rattle.dsv_network.specs.declared.outlook.Gain.{Gain}
use Rattle.dsv_network.specs.declared.ends.Ends.{Ends}
use Rattle.dsv_network.specs.declared.ends.SampleEnds.{SampleEnds}
use Rattle.dsv_network.specs.declared.ends.Ends.TheVariants as shown
use Rattle.dsv_network.specs.declared.search.Search.{Search}
use Rattle.dsv_network.specs.declared.search.Turn.{Turn}
use Rattle.dsv_network.specs.declared.search.Turn.TheVariants as turns
use Rattle.dsv_network.specs.Samples.{ranges_in, after_node, walk_from, begun, later_ends, with_ends, shown_by, then_ends, ends_from, pass_ends, after_pass}
use Rattle.dsv_network.proofs.Walks.{step_is, weights_long}
use Rattle.dsv_network.specs.Gains.{pairwise, hulls, hulls_after, symbol_registers, first_ranges, sample_symbols, has_settled, gain_at, gain_turn, step_turn, run_turn, sample_turn, turn_outlook, gain_from, ranges_from}

-- ---- ranges two by two
pairs_next : (both : Range → Range → Range) (rs ss : List Range) (i : ℕ) (d : Range) → i < length rs → i < length ss → pairwise both (take (suc i) rs) (take (suc i) ss) ≡ pairwise both (take i rs) (take i ss) ++ both (get_or rs i d) (get_or ss i d) ∷ []
pairs_next both [] ss i d p q = absurd (omega arith)
pairs_next both (r ∷ rs) [] i d p q = absurd (omega arith)
pairs_next both (r ∷ rs) (s ∷ ss) zero d p q = refl
pairs_next both (r ∷ rs) (s ∷ ss) (suc i) d p q = ap (λ ts. both r s ∷ ts) (pairs_next both rs ss i d (omega arith) (omega arith))

pub pairs_more : (both : Range → Range → Range) (rs ss got now : List Range) (i : ℕ) (d h : Range) → i < length rs → i < length ss → got ≡ pairwise both (take i rs) (take i ss) → h ≡ both (get_or rs i d) (get_or ss i d) → now ≡ got ++ h ∷ []
    → now ≡ pairwise both (take (i + 1) rs) (take (i + 1) ss)
pairs_more both rs ss got now i d h p q g e n =
    n ∙ rw (g, e) (sym (pairs_next both rs ss i d p q)) ∙ ap (λ k. pairwise both (take k rs) (take k ss)) (sym (add-one i))

pub pairs_all : (both : Range → Range → Range) (rs ss : List Range) (i : ℕ) → (i ≡ length rs) ⊎ (i ≡ length ss) → pairwise both (take i rs) (take i ss) ≡ pairwise both rs ss
pairs_all both [] ss zero h = refl
pairs_all both [] ss (suc i) h = refl
pairs_all both (r ∷ rs) [] zero h = refl
pairs_all both (r ∷ rs) [] (suc i) h = refl
pairs_all both (r ∷ rs) (s ∷ ss) zero h = elim h [ inl e ↦ absurd (omega arith) | inr e ↦ absurd (omega arith) ]
pairs_all both (r ∷ rs) (s ∷ ss) (suc i) h = ap (λ ts. both r s ∷ ts) (pairs_all both rs ss i (elim h [ inl e ↦ inl (omega arith) | inr e ↦ inr (omega arith) ]))

-- ---- registers
pub symbols_more : (n : ℕ) → symbol_registers (n + 1) ≡ symbol_registers n ++ unit n ∷ []
symbols_more n = ap symbol_registers (add-one n)

-- ---- what is shown of values
later_none : (rs : List Range) → later_ends rs (shown.Words []) ≡ shown.Words rs
later_none rs = ap (λ (ts : List Range). shown.Words ts) (append-nil rs)

with_none : (a : Ends) → with_ends a (shown.Words []) ≡ a
with_none (shown.Leaves value) = refl
with_none (shown.Words rs) = later_none rs

with_first : (a : Ends) → with_ends (shown.Words []) a ≡ a
with_first (shown.Leaves value) = ap (λ (k : ℕ). shown.Leaves k) (zero-add value)
with_first (shown.Words rs) = refl

with_assoc : (a b c : Ends) → with_ends a (with_ends b c) ≡ with_ends (with_ends a b) c
with_assoc (shown.Leaves value) b c = refl
with_assoc (shown.Words rs) (shown.Leaves value) c = refl
with_assoc (shown.Words rs) (shown.Words ss) (shown.Leaves value) = ap (λ (k : ℕ). shown.Leaves k) (let e = length-append rs ss in omega arith)
with_assoc (shown.Words rs) (shown.Words ss) (shown.Words ts) = ap (λ (us : List Range). shown.Words us) (sym (append_assoc rs ss ts))

-- ---- nodes
-- after the first nodes of a sample, where the start has so many symbols: what is left comes to the whole
pub record Walked (count : ℕ) (pass : Pass) (nodes : List Signal) (i : ℕ) (walk : Walk) (ends : SampleEnds) : Type 0 where
  pub walk_is : walk_from pass (drop i nodes) walk ≡ walk_from pass nodes (begun pass)
  pub run_is : with_ends ends.run (ends_from count pass (drop i nodes) walk) ≡ pass_ends count nodes pass
  pub step_is : with_ends ends.step (ends_from 0 pass (drop i nodes) walk) ≡ pass_ends 0 nodes pass

ends_more : (count : ℕ) (pass : Pass) (nodes : List Signal) (d : Signal) (i : ℕ) (walk next : Walk) (ends more : Ends) → i < length nodes → Some next ≡ after_node pass walk (get_or nodes i d)
    → with_ends ends (ends_from count pass (drop i nodes) walk) ≡ pass_ends count nodes pass → more ≡ with_ends ends (shown_by count pass (length walk.weights) (get_or nodes i d) next)
    → with_ends more (ends_from count pass (drop (i + 1) nodes) next) ≡ pass_ends count nodes pass
ends_more count pass nodes d i walk next ends more l e h q =
    let n = get_or nodes i d in
    let here = shown_by count pass (length walk.weights) n in
    let rest = ends_from count pass (drop (i + 1) nodes) in
    ap (λ (m : Ends). with_ends m (rest next)) q
    ∙ sym (with_assoc ends (here next) (rest next))
    ∙ ap (λ (o : Option Walk). with_ends ends (then_ends (shown.Leaves 0) here rest o)) e
    ∙ sym (ap (λ (ns : List Signal). with_ends ends (ends_from count pass ns walk)) (drop_more nodes i d l))
    ∙ h

pub weights_more : (pass : Pass) (walk next : Walk) (n : Signal) → Some next ≡ after_node pass walk n → length walk.weights < length next.weights
weights_more pass walk next n e = let long = weights_long pass walk next n (step_is pass walk n next (sym e)) in omega (arith, long)

pub walked_more : (count : ℕ) (pass : Pass) (nodes : List Signal) (d : Signal) (i : ℕ) (walk next : Walk) (ends more : SampleEnds) → i < length nodes → Walked count pass nodes i walk ends
    → Some next ≡ after_node pass walk (get_or nodes i d) → more.run ≡ with_ends ends.run (shown_by count pass (length walk.weights) (get_or nodes i d) next)
    → more.step ≡ with_ends ends.step (shown_by 0 pass (length walk.weights) (get_or nodes i d) next) → Walked count pass nodes (i + 1) next more
walked_more count pass nodes d i walk next ends more l w e q r = record {
  walk_is = ap (λ (o : Option Walk). o >>= walk_from pass (drop (i + 1) nodes)) e ∙ sym (ap (λ (ns : List Signal). walk_from pass ns walk) (drop_more nodes i d l)) ∙ w.walk_is;
  run_is = ends_more count pass nodes d i walk next ends.run more.run l e w.run_is q;
  step_is = ends_more 0 pass nodes d i walk next ends.step more.step l e w.step_is r;
}

-- ---- lists of what nodes bring
joined_symbols : (nodes : List Signal) (n : Signal) → sample_symbols (nodes ++ n ∷ []) ≡ sample_symbols nodes ++ first_ranges n
joined_symbols [] n = append-nil (first_ranges n)
joined_symbols (m ∷ nodes) n = ap (λ (rs : List Range). first_ranges m ++ rs) (joined_symbols nodes n) ∙ sym (append_assoc (first_ranges m) (sample_symbols nodes) (first_ranges n))

pub symbols_next : (nodes : List Signal) (d : Signal) (i : ℕ) (before old now : List Range) → i < length nodes → old ≡ before ++ sample_symbols (take i nodes)
    → now ≡ old ++ first_ranges (get_or nodes i d) → now ≡ before ++ sample_symbols (take (i + 1) nodes)
symbols_next nodes d i before old now l o e =
    e ∙ ap (λ (rs : List Range). rs ++ first_ranges (get_or nodes i d)) o
    ∙ append_assoc before (sample_symbols (take i nodes)) (first_ranges (get_or nodes i d))
    ∙ ap (λ (rs : List Range). before ++ rs) (sym (joined_symbols (take i nodes) (get_or nodes i d)) ∙ ap sample_symbols (sym (take_more nodes i d l)))

-- ---- samples
-- one sample more: what is left comes to the same
pub search_more : (nodes : List Signal) (next : List ℕ) (limit i : ℕ) (s later : Search) (g : Outlook) → i < limit → gain_from nodes next (limit - i) i s ≡ g → turns.Next later ≡ sample_turn nodes next i s
    → gain_from nodes next (limit - (i + 1)) (i + 1) later ≡ g
search_more nodes next limit i s later g l h e =
    let k : limit - i ≡ suc (limit - (i + 1)) = omega arith in
    let left = limit - (i + 1) in
    ap (λ d. gain_from nodes next left d later) (add-one i)
    ∙ ap (turn_outlook (gain_from nodes next left (suc i))) e
    ∙ sym (ap (λ m. gain_from nodes next m i s) k)
    ∙ h

-- the search is over
pub search_over : (nodes : List Signal) (next : List ℕ) (limit i : ℕ) (s : Search) (found g : Outlook) → i < limit → gain_from nodes next (limit - i) i s ≡ g → turns.Over found ≡ sample_turn nodes next i s → found ≡ g
search_over nodes next limit i s found g l h e =
    let k : limit - i ≡ suc (limit - (i + 1)) = omega arith in
    let left = limit - (i + 1) in
    ap (turn_outlook (gain_from nodes next left (suc i))) e
    ∙ sym (ap (λ m. gain_from nodes next m i s) k)
    ∙ h

-- ---- one sample
-- it has ranges of words of either kind
pub turn_is : (nodes : List Signal) (next : List ℕ) (sample : ℕ) (s : Search) (pass : Pass) (now seen last ranges : List Range) (settled : Bool) (gain : Gain) (result : Turn)
    → pass_ends (length next) nodes s.pass ≡ shown.Words now → pass_ends 0 nodes s.pass ≡ shown.Words last → pass ≡ after_pass nodes next s.pass → seen ≡ hulls_after s.seen now
    → settled ≡ has_settled nodes pass → ranges ≡ hulls seen last → gain ≡ gain_at sample s.best ranges → result ≡ gain_turn settled pass seen gain → result ≡ sample_turn nodes next sample s
turn_is nodes next sample s pass now seen last ranges settled gain result e p a c d f g h =
    let t = after_pass nodes next s.pass in
    let all = hulls_after s.seen now in
    let bit = has_settled nodes t in
    let same : gain_turn settled pass seen gain ≡ gain_turn bit t all (gain_at sample s.best (hulls all last)) = rw (g, f, d, a, c) refl in
    h ∙ same ∙ sym (ap (run_turn sample s.seen s.best (λ rs. step_turn bit sample t rs s.best (pass_ends 0 nodes s.pass))) e ∙ ap (step_turn bit sample t all s.best) p)

-- ---- a depth
-- one sample more
pub sample_more : (nodes : List Signal) (next : List ℕ) (depth i : ℕ) (pass later : Pass) (seen more : Option (List Range)) (now : List Range) (all : Option (List Range)) → i < depth
    → ranges_from nodes next (depth - i) pass seen ≡ all → shown.Words now ≡ pass_ends (length next) nodes pass → later ≡ after_pass nodes next pass → more ≡ Some (hulls_after seen now)
    → ranges_from nodes next (depth - (i + 1)) later more ≡ all
sample_more nodes next depth i pass later seen more now all l h e p s =
    let k : depth - i ≡ suc (depth - (i + 1)) = omega arith in
    let left = depth - (i + 1) in
    rw (p, s) (ap (λ o. ranges_in o >>= λ ends. ranges_from nodes next left (after_pass nodes next pass) (Some (hulls_after seen ends))) e)
    ∙ sym (ap (λ m. ranges_from nodes next m pass seen) k)
    ∙ h
