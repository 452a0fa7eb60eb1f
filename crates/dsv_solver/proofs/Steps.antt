use Rattle.std.proofs.Common.{◌≡◌, ◌≢◌, ℕ, ◌<◌, ◌≤◌, Bool, true, false, not, ◌&&◌, cond, List, [], ◌∷◌, ◌++◌, refl, arith, ap, sym, ◌∙◌, inl, inr, ◌⊎◌, length, length-append, length-set, get_or, take, slice_get, slice_set, Option, Some, None}
use Rattle.std.proofs.lemmas.Bool.{cases_lt}
use Rattle.std.proofs.lemmas.List.{take-append-le}
use Rattle.std.proofs.lemmas.Option.{slice_get_within, get_or_from_slice_get, slice_get-get_or}
use Rattle.std.proofs.Math.ListN.{get_or-append}
use Rattle.std.proofs.Math.Seq.{get_or-append_seam, take-append_seam}
use Rattle.dsv_cnf.specs.Literal.{Literal, literal_eq, negation}
use Rattle.dsv_cnf.specs.Formula.{contains}
use Rattle.dsv_cnf.specs.FormulaView.{FormulaView}
use Rattle.dsv_cnf.proofs.LiteralLemmas.{literal_eq-same, same_literal, negation-twice}
use Rattle.dsv_trail.specs.TrailView.{TrailView}
use Rattle.dsv_trail.specs.Places.{falsifies}
use Rattle.dsv_solver.specs.WatchView.{WatchView}
use Rattle.dsv_solver.specs.Watched.{Is, Guards, IsSettledAtZero, IsOfClause, IsCared}
use Rattle.dsv_solver.specs.Propagation.{open_of, IsPlaced, IsJustified, IsLonger, IsSettled, IsReady, IsPartner, HasNoPartner, IsNext}
use Rattle.dsv_trail.specs.declared.marks.Mark.{Mark}
use Rattle.dsv_solver.specs.declared.watches.Pair.{Pair}
use Rattle.dsv_cnf.proofs.ClauseLemmas.{no_both, contains-head, contains-tail, contains-cases}
use Rattle.dsv_trail.proofs.PlaceLemmas.{falsifies-cases, falsifies-take}
use Rattle.dsv_solver.proofs.WatchLemmas.{pair-cases}

-- the search for an open literal
open_cond : (ms : List Mark) (other l next : Literal) (rest : List Literal) (a b : Bool) → literal_eq l other ≡ a → falsifies ms l ≡ b → cond (not a && not b) (Some l) (open_of ms other rest) ≡ Some next → (l ≡ next) × (l ≢ other) × (falsifies ms l ≡ false) ⊎ (open_of ms other rest ≡ Some next)
open_cond ms other l next rest true b e f h = inr h
open_cond ms other l next rest false true e f h = inr h
open_cond ms other l next rest false false e f h = inl (cc, (λ s. no_both (literal_eq l other) (ap (λ x. literal_eq l x) (sym s) ∙ literal_eq-same l) e), f)

pub open-some : (ms : List Mark) (other : Literal) (c : List Literal) (next : Literal) → open_of ms other c ≡ Some next → IsNext ms other c next
open-some ms other [] next h = cc
open-some ms other (l ∷ ls) next h =
    elim (open_cond ms other l next ls (literal_eq l other) (falsifies ms l) refl refl h) [
      | inl t ↦ record { stands = rw (← t.0) (contains-head l ls); apart = rw (← t.0) t.1; not_false = rw (← t.0) t.2 }
      | inr r ↦ let i = open-some ms other ls next r in record { stands = contains-tail l ls next i.stands; apart = i.apart; not_false = i.not_false }
    ]

none_cond : (ms : List Mark) (other l : Literal) (rest : List Literal) (a b : Bool) → literal_eq l other ≡ a → falsifies ms l ≡ b → cond (not a && not b) (Some l) (open_of ms other rest) ≡ None → ((l ≡ other) ⊎ (falsifies ms l ≡ true)) × (open_of ms other rest ≡ None)
none_cond ms other l rest true b e f h = (inl (same_literal l other e), h)
none_cond ms other l rest false true e f h = (inr f, h)
none_cond ms other l rest false false e f h = cc

pub open-none : (ms : List Mark) (other : Literal) (c : List Literal) → open_of ms other c ≡ None → (q : Literal) → contains c q ≡ true → (q ≡ other) ⊎ (falsifies ms q ≡ true)
open-none ms other [] h q i = cc
open-none ms other (l ∷ ls) h q i =
    let n = none_cond ms other l ls (literal_eq l other) (falsifies ms l) refl refl h in
    elim (contains-cases l ls q i) [ inl e ↦ rw e n.0 | inr r ↦ open-none ms other ls n.1 q r ]

-- of a guarded pair, with one of the two false the other is true
pub partner-guard : (F G : Literal → Type 0) (p : Pair) (f l : Literal) → IsPartner p f l → Guards F G p → F l → G (negation f)
partner-guard F G p f l n g h =
    elim n.is [ inl a ↦ rw (← a.0) (g.other (rw a.1 h)) | inr b ↦ rw (← b.0) (g.one (rw b.1 h)) ]

pub partner-other : (c : List Literal) (p : Pair) (f l : Literal) → IsPartner p f l → IsOfClause c p → contains c l ≡ true
partner-other c p f l n o = elim n.is [ inl a ↦ rw (← a.1) o.other | inr b ↦ rw (← b.1) o.one ]

moved-guards : (ms part : List Mark) (p : Pair) (f other next : Literal) (F : Literal → Type 0) (G : Literal → Type 0) → ((l : Literal) → F l → falsifies ms l ≡ true) → ((l : Literal) → G l → falsifies ms l ≡ true) → ((q : Literal) → falsifies ms q ≡ true → falsifies ms (negation q) ≡ true → ⊥) → falsifies ms f ≡ true → falsifies ms next ≡ false → IsPartner p f other → Guards F G p → Guards F G (record { one = next; other = other })
moved-guards ms part p f other next F G lf lg k ff nf n g =
    record {
      one = λ h. absurd (no_both (falsifies ms next) (lf next h) nf);
      other = λ h. absurd (k f ff (lg (negation f) (partner-guard F G p f other n g h)));
    }

pub moved-cared : (t : TrailView) (head : ℕ) (c : List Literal) (p : Pair) (f other next : Literal) → ((q : Literal) → falsifies t.marks q ≡ true → falsifies t.marks (negation q) ≡ true → ⊥) → falsifies t.marks f ≡ true → IsNext t.marks other c next → IsPartner p f other → IsCared t head c p → IsCared t head c (record { one = next; other = other })
moved-cared t head c p f other next k ff o n (own, inl z) = (record { one = o.stands; other = partner-other c p f other n own }, inl z)
moved-cared t head c p f other next k ff o n (own, inr g) = (
  record { one = o.stands; other = partner-other c p f other n own },
  inr (record {
    apart = o.apart;
    lower = λ j i e. moved-guards t.marks [] p f other next (Is (take i t.marks)) (Is (take i t.marks)) (λ l. falsifies-take t.marks i l) (λ l. falsifies-take t.marks i l) k ff o.not_false n (g.lower j i e);
    now = moved-guards t.marks [] p f other next (Is (take head t.marks)) (Is t.marks) (λ l. falsifies-take t.marks head l) (λ l h. h) k ff o.not_false n g.now;
  }),
)

pub some-same : {X : Type 0} → (o : Option X) (x y : X) → o ≡ Some x → o ≡ Some y → x ≡ y
some-same o x y e f = cc

pub ready-moved : (f : FormulaView) (t : TrailView) (v w : WatchView) (head i : ℕ) (c : List Literal) (p : Pair) (l other next : Literal) → IsReady f t v head → slice_get f.clauses i ≡ Some c → slice_get v.pairs i ≡ Some p → falsifies t.marks l ≡ true → IsNext t.marks other c next → IsPartner p l other → w.pairs ≡ slice_set v.pairs i (record { one = next; other = other }) → w.vars ≡ v.vars → IsReady f t w head
ready-moved f t v w head i c p l other next r at was ff o n e u =
    record {
      trail_vars = r.trail_vars;
      watch_vars = u ∙ r.watch_vars;
      justified = r.justified;
      watched = record {
        len = ap length e ∙ (length-set v.pairs i (record { one = next; other = other }) ∙ r.watched.len);
        each = λ k d q cd pq.
            elim (pair-cases v.pairs i k (record { one = next; other = other }) q (ap (λ x. slice_get x k) (sym e) ∙ pq)) [
              | inl s ↦
                  let same : c ≡ d = some-same (slice_get f.clauses i) c d at (ap (λ x. slice_get f.clauses x) (sym s.0) ∙ cd) in
                  rw (s.1, ← same) (moved-cared t head c p l other next r.justified.consistent ff o n (r.watched.each i c p at was))
              | inr s ↦ r.watched.each k d q cd s.1
            ];
      };
      head_in = r.head_in;
    }

take-whole : {X : Type 0} (xs : List X) → take (length xs) xs ≡ xs
take-whole [] = refl
take-whole (x ∷ xs) = ap (λ ys. x ∷ ys) (take-whole xs)

pub longer-falsifies : (s t : TrailView) (l : Literal) → IsLonger s t → falsifies s.marks l ≡ true → falsifies t.marks l ≡ true
longer-falsifies s t l n h =
    let e : take (length s.marks) t.marks ≡ s.marks = n.prefix (length s.marks) (omega arith) ∙ take-whole s.marks in
    falsifies-take t.marks (length s.marks) l (rw e h)

longer-guards : (s t : TrailView) (k : ℕ) (p : Pair) → IsLonger s t → k ≤ length s.marks → Guards (Is (take k s.marks)) (Is (take k s.marks)) p → Guards (Is (take k t.marks)) (Is (take k t.marks)) p
longer-guards s t k p n le g = let e = n.prefix k le in record { one = λ h. rw e (g.one (rw e at h)); other = λ h. rw e (g.other (rw e at h)) }

zero-longer : (s t : TrailView) (c : List Literal) → ((j k : ℕ) → slice_get s.limits j ≡ Some k → k ≤ length s.marks) → IsLonger s t → IsSettledAtZero s c → IsSettledAtZero t c
zero-longer s t c lim n z =
    record {
      literal = z.literal;
      stands = z.stands;
      is_true = longer-falsifies s t (negation z.literal) n z.is_true;
      always = λ j k e. let f = rw n.limits at e in rw (n.prefix k (lim j k f)) (z.always j k f);
    }

pub cared-longer : (s t : TrailView) (head : ℕ) (c : List Literal) (p : Pair) → ((j k : ℕ) → slice_get s.limits j ≡ Some k → k ≤ length s.marks) → head ≤ length s.marks → IsLonger s t → IsCared s head c p → IsCared t head c p
cared-longer s t head c p lim le n (own, inl z) = (own, inl (zero-longer s t c lim n z))
cared-longer s t head c p lim le n (own, inr g) = (
  own,
  inr (record {
    apart = g.apart;
    lower = λ j k e. let f = rw n.limits at e in longer-guards s t k p n (lim j k f) (g.lower j k f);
    now = let e = n.prefix head le in record { one = λ h. longer-falsifies s t (negation p.other) n (g.now.one (rw e at h)); other = λ h. longer-falsifies s t (negation p.one) n (g.now.other (rw e at h)) };
  }),
)

pub settled-longer : (s t : TrailView) (f : Literal) (c : List Literal) (p : Pair) → ((j k : ℕ) → slice_get s.limits j ≡ Some k → k ≤ length s.marks) → IsLonger s t → IsSettled s f c p → IsSettled t f c p
settled-longer s t f c p lim n (inl z) = inl (zero-longer s t c lim n z)
settled-longer s t f c p lim n (inr g) = inr (record { one = λ e. longer-falsifies s t (negation p.other) n (g.one e); other = λ e. longer-falsifies s t (negation p.one) n (g.other e) })

bool-apart : (b : Bool) → b ≡ not b → ⊥
bool-apart true e = cc
bool-apart false e = cc

pub negation-apart : (l : Literal) → l ≡ negation l → ⊥
negation-apart l e = bool-apart l.positive (ap (λ (x : Literal). x.positive) e)

negation-same : (a b : Literal) → negation a ≡ negation b → a ≡ b
negation-same a b e = sym (negation-twice a) ∙ (ap negation e ∙ negation-twice b)

pub put-consistent : (ms : List Mark) (m : Mark) → falsifies ms m.literal ≡ false → ((q : Literal) → falsifies ms q ≡ true → falsifies ms (negation q) ≡ true → ⊥) → (q : Literal) → falsifies (ms ++ m ∷ []) q ≡ true → falsifies (ms ++ m ∷ []) (negation q) ≡ true → ⊥
put-consistent ms m o k q h n =
    elim (falsifies-cases ms m q h) [
      | inl a ↦ elim (falsifies-cases ms m (negation q) n) [ inl b ↦ k q a b | inr b ↦ no_both (falsifies ms m.literal) (ap (falsifies ms) (sym (negation-same q m.literal b)) ∙ a) o ]
      | inr a ↦
          let e : negation q ≡ m.literal = ap negation a ∙ negation-twice m.literal in
          elim (falsifies-cases ms m (negation q) n) [ inl b ↦ no_both (falsifies ms m.literal) (ap (falsifies ms) (sym e) ∙ b) o | inr b ↦ negation-apart m.literal (sym e ∙ b) ]
    ]

pub slice_get-left : {X : Type 0} (xs : List X) (y d : X) (k : ℕ) → k < length xs → slice_get (xs ++ y ∷ []) k ≡ slice_get xs k
slice_get-left xs y d k lt = slice_get-get_or (xs ++ y ∷ []) k d (omega (arith, lt, length-append xs (y ∷ []))) ∙ (ap Some (get_or-append xs (y ∷ []) d k lt) ∙ sym (slice_get-get_or xs k d lt))

pub put-placed : (cs : List (List Literal)) (ms : List Mark) (m : Mark) → IsPlaced cs ms m → ((i : ℕ) (n : Mark) → slice_get ms i ≡ Some n → IsPlaced cs (take i ms) n) → (i : ℕ) (n : Mark) → slice_get (ms ++ m ∷ []) i ≡ Some n → IsPlaced cs (take i (ms ++ m ∷ [])) n
put-placed cs ms m new old i n e =
    elim (cases_lt i (length ms)) [
      | inl lt ↦ rw (take-append-le i ms (m ∷ []) (omega (arith, lt))) (old i n (sym (slice_get-left ms m m i lt) ∙ e))
      | inr ge ↦
          let s : i ≡ length ms = omega (arith, ge, slice_get_within (ms ++ m ∷ []) i n e, length-append ms (m ∷ [])) in
          let v : m ≡ n = sym (get_or-append_seam ms m [] m) ∙ (ap (λ x. get_or (ms ++ m ∷ []) x m) (sym s) ∙ get_or_from_slice_get (ms ++ m ∷ []) i n m e) in
          rw (s, take-append_seam ms (m ∷ []), ← v) new
    ]

pub longer-put : (s t : TrailView) (m : Mark) → t ≡ record s { marks = s.marks ++ m ∷ [] } → IsLonger s t
longer-put s t m e =
    let ms : t.marks ≡ s.marks ++ m ∷ [] = ap (λ (x : TrailView). x.marks) e in
    record {
      vars = ap (λ (x : TrailView). x.vars) e;
      limits = ap (λ (x : TrailView). x.limits) e;
      longer = omega (arith, ap length ms, length-append s.marks (m ∷ []));
      prefix = λ k le. ap (take k) ms ∙ take-append-le k s.marks (m ∷ []) le;
    }

pub justified-put : (cs : List (List Literal)) (s t : TrailView) (m : Mark) → IsPlaced cs s.marks m → t ≡ record s { marks = s.marks ++ m ∷ [] } → IsJustified cs s → IsJustified cs t
justified-put cs s t m new e j =
    let n = longer-put s t m e in
    let ms : t.marks ≡ s.marks ++ m ∷ [] = ap (λ (x : TrailView). x.marks) e in
    record {
      placed = rw ms (put-placed cs s.marks m new j.placed);
      consistent = rw ms (put-consistent s.marks m new.open_literal j.consistent);
      limits = λ i k f. omega (arith, n.longer, j.limits i k (rw n.limits at f));
      rising = λ a b x y le f g. j.rising a b x y le (rw n.limits at f) (rw n.limits at g);
    }

pub ready-put : (f : FormulaView) (s t : TrailView) (w : WatchView) (head : ℕ) (m : Mark) → IsReady f s w head → IsPlaced f.clauses s.marks m → t ≡ record s { marks = s.marks ++ m ∷ [] } → IsReady f t w head
ready-put f s t w head m r new e =
    let n = longer-put s t m e in
    record {
      trail_vars = n.vars ∙ r.trail_vars;
      watch_vars = r.watch_vars;
      justified = justified-put f.clauses s t m new e r.justified;
      watched = record { len = r.watched.len; each = λ i c p a b. cared-longer s t head c p r.justified.limits r.head_in n (r.watched.each i c p a b) };
      head_in = omega (arith, n.longer, r.head_in);
    }

-- what a pair with no partner, or with a true one, is
pub no-partner-settled : (t : TrailView) (head : ℕ) (c : List Literal) (p : Pair) (f : Literal) → HasNoPartner p f → IsCared t head c p → IsSettled t f c p
no-partner-settled t head c p f n (own, inl z) = inl z
no-partner-settled t head c p f n (own, inr g) = inr (record { one = λ e. absurd (g.apart (e ∙ sym (n.one e))); other = λ e. absurd (g.apart (n.other e ∙ sym e)) })

pub true-settled : (t : TrailView) (c : List Literal) (p : Pair) (f other : Literal) → IsPartner p f other → falsifies t.marks (negation other) ≡ true → IsSettled t f c p
true-settled t c p f other n h =
    inr (elim n.is [
      | inl a ↦ record { one = λ e. rw a.1 h; other = λ e. absurd (n.apart (sym a.1 ∙ e)) }
      | inr b ↦ record { one = λ e. absurd (n.apart (sym b.1 ∙ e)); other = λ e. rw b.1 h }
    ])
