-- Clauses are watched at level 0, one after another.
use Rattle.std.proofs.Common.{◌≡◌, ℕ, ◌+◌, Bool, true, false, not, List, [], ◌∷◌, ◌++◌, refl, arith, ap, sym, ◌∙◌, inl, inr, length, length-append, take, slice_get, Some, None, Option, IfSome}
use Rattle.std.proofs.lemmas.List.{take_more, length-take-le}
use Rattle.std.proofs.lemmas.Option.{slice_get_within, get_or_from_slice_get}
use Rattle.dsv_cnf.specs.Literal.{Literal, negation}
use Rattle.dsv_cnf.specs.FormulaView.{FormulaView}
use Rattle.dsv_cnf.specs.Formula.{contains}
use Rattle.dsv_trail.specs.TrailView.{TrailView}
use Rattle.dsv_trail.specs.Places.{falsifies}
use Rattle.dsv_solver.specs.WatchView.{WatchView}
use Rattle.dsv_solver.specs.Watched.{IsCared}
use Rattle.dsv_solver.specs.Propagation.{HasReason, IsPlaced, IsJustified, IsLonger, IsReady}
use Rattle.dsv_solver.specs.Solving.{first_clauses, IsBegun, IsStuck, IsOther, AreAllOne}
use Rattle.dsv_trail.specs.declared.marks.Mark.{Mark}
use Rattle.dsv_solver.specs.declared.watches.Pair.{Pair}
use Rattle.dsv_solver.proofs.Steps.{cared-longer, longer-put, justified-put}
use Rattle.dsv_trail.proofs.PlaceLemmas.{falsifies-new}
use Rattle.dsv_solver.proofs.Backs.{push-cases, prefix-get, justified-more}
use Rattle.dsv_trail.proofs.Elements.{push-new}

-- ---- one clause more
pub take_next : {X : Type 0} (xs : List X) (i : ℕ) (x : X) → slice_get xs i ≡ Some x → take (i + 1) xs ≡ take i xs ++ x ∷ []
take_next xs i x e = take_more xs i x (slice_get_within xs i x e) ∙ ap (λ y. take i xs ++ y ∷ []) (get_or_from_slice_get xs i x x e)

pub ready_more : (f : FormulaView) (s t : TrailView) (v w : WatchView) (i : ℕ) (c : List Literal) (p : Pair) → IsReady (first_clauses f i) s v 0 → s.limits ≡ [] → slice_get f.clauses i ≡ Some c → IsLonger s t → IsJustified (take i f.clauses ++ c ∷ []) t → IsCared t 0 c p → w.vars ≡ v.vars → w.pairs ≡ v.pairs ++ p ∷ [] → IsReady (first_clauses f (i + 1)) t w 0
ready_more f s t v w i c p r z at n j care wv wp =
    let cs : take (i + 1) f.clauses ≡ take i f.clauses ++ c ∷ [] = take_next f.clauses i c at in
    record {
      trail_vars = n.vars ∙ r.trail_vars;
      watch_vars = wv ∙ r.watch_vars;
      justified = rw cs j;
      watched = record {
        len = ap length wp ∙ (omega (arith, length-append v.pairs (p ∷ []), length-append (take i f.clauses) (c ∷ []), r.watched.len) ∙ sym (ap length cs));
        each = λ k d q a b.
            elim (push-cases (take i f.clauses) c d k (rw cs at a)) [
              | inl old ↦
                  elim (push-cases v.pairs p q k (ap (λ x. slice_get x k) (sym wp) ∙ b)) [
                    | inl y ↦ cared-longer s t 0 d q (λ l m e. absurd (let g = rw z at e in cc)) (omega arith) n (r.watched.each k d q old y)
                    | inr y ↦ absurd (omega (arith, y.0, r.watched.len, slice_get_within (take i f.clauses) k d old))
                  ]
              | inr new ↦
                  elim (push-cases v.pairs p q k (ap (λ x. slice_get x k) (sym wp) ∙ b)) [
                    | inl y ↦ absurd (omega (arith, new.0, r.watched.len, slice_get_within v.pairs k q y))
                    | inr y ↦ rw (new.1, y.1) care
                  ]
            ];
      };
      head_in = omega arith;
    }

longer_self : (t : TrailView) → IsLonger t t
longer_self t = record { vars = refl; limits = refl; longer = omega arith; prefix = λ k le. refl }

pub begun_two : (f : FormulaView) (t : TrailView) (v w : WatchView) (i : ℕ) (c : List Literal) (a b : Literal) → IsBegun f t v i → slice_get f.clauses i ≡ Some c → contains c a ≡ true → IsOther c a b → w.vars ≡ v.vars → w.pairs ≡ v.pairs ++ record { one = a; other = b } ∷ [] → IsBegun f t w (i + 1)
begun_two f t v w i c a b h at one o wv wp =
    record {
      ready = ready_more f t t v w i c (record { one = a; other = b }) h.ready h.zero_level at (longer_self t) (justified-more (take i f.clauses) c t h.ready.justified) (
        record { one = one; other = o.stands },
        inr (record {
          apart = λ s. o.apart (sym s);
          lower = λ j k e. absurd (let g = rw h.zero_level at e in cc);
          now = record { one = λ x. absurd cc; other = λ x. absurd cc };
        }),
      ) wv wp;
      zero_level = h.zero_level;
    }

pub begun_true : (f : FormulaView) (t : TrailView) (v w : WatchView) (i : ℕ) (c : List Literal) (a : Literal) → IsBegun f t v i → slice_get f.clauses i ≡ Some c → contains c a ≡ true → falsifies t.marks (negation a) ≡ true → w.vars ≡ v.vars → w.pairs ≡ v.pairs ++ record { one = a; other = a } ∷ [] → IsBegun f t w (i + 1)
begun_true f t v w i c a h at one true_ wv wp =
    record {
      ready = ready_more f t t v w i c (record { one = a; other = a }) h.ready h.zero_level at (longer_self t) (justified-more (take i f.clauses) c t h.ready.justified)
          (record { one = one; other = one }, inl (record { literal = a; stands = one; is_true = true_; always = λ j k e. absurd (let g = rw h.zero_level at e in cc) })) wv wp;
      zero_level = h.zero_level;
    }

pub begun_put : (f : FormulaView) (s t : TrailView) (v w : WatchView) (i n level : ℕ) (c : List Literal) (a : Literal) → IsBegun f s v i → slice_get f.clauses i ≡ Some c → contains c a ≡ true → AreAllOne c a → falsifies s.marks a ≡ false → falsifies s.marks (negation a) ≡ false → n ≡ i
    → t ≡ record s { marks = s.marks ++ record { literal = a; level = level; reason = Some n } ∷ [] } → w.vars ≡ v.vars → w.pairs ≡ v.pairs ++ record { one = a; other = a } ∷ [] → IsBegun f t w (i + 1)
begun_put f s t v w i n level c a h at one all open_a open_n ni te wv wp =
    let m : Mark = record { literal = a; level = level; reason = Some n } in
    let cs = take i f.clauses in
    let len : length cs ≡ i = length-take-le i f.clauses (omega (arith, slice_get_within f.clauses i c at)) in
    let found : slice_get (cs ++ c ∷ []) n ≡ Some c = rw ni (ap (slice_get (cs ++ c ∷ [])) (sym len) ∙ push-new cs c) in
    let placed : IsPlaced (cs ++ c ∷ []) s.marks m = record { open_literal = open_a; open_negation = open_n; reason = record { clause = c; at = found; has = one; others = λ q j. inl (all.same q j) } } in
    let zero_t : t.limits ≡ [] = ap (λ (x : TrailView). x.limits) te ∙ h.zero_level in
    let true_t : falsifies t.marks (negation a) ≡ true = ap (λ (x : TrailView). falsifies x.marks (negation a)) te ∙ falsifies-new s.marks m in
    record {
      ready = ready_more f s t v w i c (record { one = a; other = a }) h.ready h.zero_level at (longer-put s t m te) (justified-put (cs ++ c ∷ []) s t m placed te (justified-more cs c s h.ready.justified))
          (record { one = one; other = one }, inl (record { literal = a; stands = one; is_true = true_t; always = λ j k e. absurd (let g = rw zero_t at e in cc) })) wv wp;
      zero_level = zero_t;
    }

-- ---- a clause that is false
reason_all : (cs : List (List Literal)) (i : ℕ) (before : List Mark) (l : Literal) (o : Option ℕ) → IfSome o (HasReason (take i cs) before l) → IfSome o (HasReason cs before l)
reason_all cs i before l None h = h
reason_all cs i before l (Some r) h = record { clause = h.clause; at = (prefix-get cs i r h.clause h.at).1; has = h.has; others = h.others }

pub stuck : (f : FormulaView) (t : TrailView) (v : WatchView) (i : ℕ) (c : List Literal) → IsBegun f t v i → slice_get f.clauses i ≡ Some c → ((q : Literal) → contains c q ≡ true → falsifies t.marks q ≡ true) → IsStuck f t i
stuck f t v i c h at all =
    record {
      vars = h.ready.trail_vars;
      justified = record {
        placed = λ k m e. let p = h.ready.justified.placed k m e in record { open_literal = p.open_literal; open_negation = p.open_negation; reason = reason_all f.clauses i (take k t.marks) m.literal m.reason p.reason };
        consistent = h.ready.justified.consistent;
        limits = h.ready.justified.limits;
        rising = h.ready.justified.rising;
      };
      zero_level = h.zero_level;
      conflict = record { clause = c; at = at; all = all };
    }

pub stuck_one : (f : FormulaView) (t : TrailView) (v : WatchView) (i : ℕ) (c : List Literal) (a : Literal) → IsBegun f t v i → slice_get f.clauses i ≡ Some c → AreAllOne c a → falsifies t.marks a ≡ true → IsStuck f t i
stuck_one f t v i c a h at all e = stuck f t v i c h at (λ q j. rw (all.same q j) e)

pub stuck_none : (f : FormulaView) (t : TrailView) (v : WatchView) (i : ℕ) (c : List Literal) → IsBegun f t v i → slice_get f.clauses i ≡ Some c → c ≡ [] → IsStuck f t i
stuck_none f t v i c h at e = stuck f t v i c h at (λ q j. absurd (let g = rw e at j in cc))

pub not_not : (b : Bool) → not b ≡ false → b ≡ true
not_not true e = refl
not_not false e = cc
