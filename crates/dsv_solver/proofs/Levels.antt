use Rattle.std.proofs.Common.{◌≡◌, ◌≢◌, ℕ, ◌+◌, ◌<◌, Bool, true, false, List, [], ◌∷◌, ◌++◌, refl, arith, ap, sym, ◌∙◌, inl, inr, length, take, zero, suc, slice_get, Some}
use Rattle.std.proofs.lemmas.Option.{slice_get_within}
use Rattle.std.proofs.Math.Seq.{take-length}
use Rattle.dsv_cnf.specs.Literal.{Literal, negation}
use Rattle.dsv_cnf.specs.FormulaView.{FormulaView}
use Rattle.dsv_trail.specs.TrailView.{TrailView}
use Rattle.dsv_trail.specs.Places.{falsifies}
use Rattle.dsv_solver.specs.WatchView.{WatchView}
use Rattle.dsv_solver.specs.Walking.{Fines}
use Rattle.dsv_solver.specs.Fine.{IsFine}
use Rattle.dsv_solver.specs.Watched.{Guards, IsOfClause, IsCared, IsWatched}
use Rattle.dsv_solver.specs.Propagation.{IsLonger, IsSettled, AreSettled, IsReady}
use Rattle.dsv_trail.specs.declared.marks.Mark.{Mark}
use Rattle.dsv_solver.specs.declared.watches.Pair.{Pair}
use Rattle.dsv_trail.proofs.PlaceLemmas.{falsifies-cases, take-at}

-- one more literal of the trail is worked through
cared-next : (t : TrailView) (head : ℕ) (m : Mark) (c : List Literal) (p : Pair) → take (head + 1) t.marks ≡ take head t.marks ++ m ∷ [] → IsSettled t (negation m.literal) c p → IsCared t head c p → IsCared t (head + 1) c p
cared-next t head m c p e s (own, inl z) = (own, inl z)
cared-next t head m c p e (inl z) (own, inr g) = (own, inl z)
cared-next t head m c p e (inr s) (own, inr g) = (
  own,
  inr (record {
    apart = g.apart;
    lower = g.lower;
    now = record {
      one = λ h. elim (falsifies-cases (take head t.marks) m p.one (rw e at h)) [ inl a ↦ g.now.one a | inr b ↦ s.one b ];
      other = λ h. elim (falsifies-cases (take head t.marks) m p.other (rw e at h)) [ inl a ↦ g.now.other a | inr b ↦ s.other b ];
    };
  }),
)

pub ready-next : (f : FormulaView) (s t : TrailView) (w : WatchView) (head : ℕ) (m : Mark) → slice_get s.marks head ≡ Some m → IsLonger s t → AreSettled f t w (negation m.literal) → IsReady f t w head → IsReady f t w (head + 1)
ready-next f s t w head m at n a r =
    let lt : head < length s.marks = slice_get_within s.marks head m at in
    let e : take (head + 1) t.marks ≡ take head t.marks ++ m ∷ [] = n.prefix (head + 1) (omega (arith, lt)) ∙ (take-at s.marks head m at ∙ ap (λ x. x ++ m ∷ []) (sym (n.prefix head (omega (arith, lt))))) in
    record {
      trail_vars = r.trail_vars;
      watch_vars = r.watch_vars;
      justified = r.justified;
      watched = record { len = r.watched.len; each = λ i c p x y. cared-next t head m c p e (a.each i c p x y) (r.watched.each i c p x y) };
      head_in = omega (arith, lt, n.longer);
    }

-- where all is worked through, every clause is fine: the invariant at a level
fine_cases : (G : Literal → Bool) (c : List Literal) (p : Pair) (a b : Bool) → IsOfClause c p → p.one ≢ p.other → Guards (λ l. G l ≡ true) (λ l. G l ≡ true) p → G p.one ≡ a → G p.other ≡ b → IsFine G c
fine_cases G c p true b own n g e f = inl (record { literal = p.other; stands = own.other; is_true = g.one e })
fine_cases G c p false true own n g e f = inl (record { literal = p.one; stands = own.one; is_true = g.other f })
fine_cases G c p false false own n g e f = inr (record { one = p.one; other = p.other; one_stands = own.one; other_stands = own.other; apart = n; one_not = e; other_not = f })

fine-below : (t : TrailView) (head j k : ℕ) (c : List Literal) (p : Pair) → slice_get t.limits j ≡ Some k → IsCared t head c p → IsFine (falsifies (take k t.marks)) c
fine-below t head j k c p e (own, inl z) = inl (record { literal = z.literal; stands = z.stands; is_true = z.always j k e })
fine-below t head j k c p e (own, inr g) = fine_cases (falsifies (take k t.marks)) c p (falsifies (take k t.marks) p.one) (falsifies (take k t.marks) p.other) own g.apart (g.lower j k e) refl refl

fine-now : (t : TrailView) (head : ℕ) (c : List Literal) (p : Pair) → head ≡ length t.marks → IsCared t head c p → IsFine (falsifies t.marks) c
fine-now t head c p e (own, inl z) = inl (record { literal = z.literal; stands = z.stands; is_true = z.is_true })
fine-now t head c p e (own, inr g) =
    let w : take head t.marks ≡ t.marks = ap (λ k. take k t.marks) e ∙ take-length t.marks in
    fine_cases (falsifies t.marks) c p (falsifies t.marks p.one) (falsifies t.marks p.other) own g.apart (rw w at g.now) refl refl

get-at : (ps : List Pair) (i : ℕ) → i < length ps → (p : Pair) × (slice_get ps i ≡ Some p)
get-at [] i lt = absurd (omega arith)
get-at (p ∷ ps) zero lt = (p, refl)
get-at (p ∷ ps) (suc i) lt = get-at ps i (omega (arith, lt))

pair-at : (f : FormulaView) (t : TrailView) (w : WatchView) (head i : ℕ) (c : List Literal) → IsWatched f.clauses t w head → slice_get f.clauses i ≡ Some c → (p : Pair) × (slice_get w.pairs i ≡ Some p)
pair-at f t w head i c h e = get-at w.pairs i (omega (arith, h.len, slice_get_within f.clauses i c e))

-- at each level below the present one
pub fines-below : (f : FormulaView) (t : TrailView) (w : WatchView) (head j k : ℕ) → IsReady f t w head → slice_get t.limits j ≡ Some k → Fines f (falsifies (take k t.marks))
fines-below f t w head j k r e =
    record { each = λ i c at. let p = pair-at f t w head i c r.watched at in fine-below t head j k c p.0 e (r.watched.each i c p.0 at p.1) }

-- and at the present one when propagation is complete
pub fines-now : (f : FormulaView) (t : TrailView) (w : WatchView) (head : ℕ) → IsReady f t w head → head ≡ length t.marks → Fines f (falsifies t.marks)
fines-now f t w head r e =
    record { each = λ i c at. let p = pair-at f t w head i c r.watched at in fine-now t head c p.0 e (r.watched.each i c p.0 at p.1) }
