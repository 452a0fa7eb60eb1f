use Rattle.std.proofs.Common.{◌≡◌, ℕ, ◌<◌, ◌≤◌, true, List, [], ◌∷◌, ◌++◌, refl, arith, ap, sym, ◌∙◌, inl, inr, ◌⊎◌, length, length-append, get_or, take, zero, suc, slice_get, Option, Some, None, IfSome}
use Rattle.std.proofs.lemmas.Bool.{cases_lt}
use Rattle.std.proofs.lemmas.List.{take-append-le, length-take-le, take-take}
use Rattle.std.proofs.lemmas.Option.{slice_get_within, get_or_from_slice_get}
use Rattle.std.proofs.Math.Seq.{get_or-append_seam, take-append_seam, take-length}
use Rattle.dsv_cnf.specs.Literal.{Literal, negation}
use Rattle.dsv_cnf.specs.FormulaView.{FormulaView}
use Rattle.dsv_trail.specs.TrailView.{TrailView}
use Rattle.dsv_trail.specs.Places.{falsifies}
use Rattle.dsv_solver.specs.WatchView.{WatchView}
use Rattle.dsv_solver.specs.Watched.{Is, Guards, IsCared}
use Rattle.dsv_solver.specs.Propagation.{HasReason, IsPlaced, IsJustified, IsLonger, IsReady}
use Rattle.dsv_solver.specs.Search.{with_decision}
use Rattle.dsv_solver.specs.Back.{back, IsLearned}
use Rattle.dsv_trail.specs.declared.marks.Mark.{Mark}
use Rattle.dsv_solver.specs.declared.watches.Pair.{Pair}
use Rattle.dsv_cnf.proofs.ClauseLemmas.{no_both}
use Rattle.dsv_trail.proofs.PlaceLemmas.{falsifies-take, falsifies-more, falsifies-new}
use Rattle.dsv_solver.proofs.Steps.{longer-put, justified-put, cared-longer, slice_get-left, put-placed, put-consistent}
use Rattle.dsv_trail.proofs.Elements.{push-new}

pub push-cases : {X : Type 0} (xs : List X) (y z : X) (k : ℕ) → slice_get (xs ++ y ∷ []) k ≡ Some z → (slice_get xs k ≡ Some z) ⊎ ((k ≡ length xs) × (z ≡ y))
push-cases xs y z k e =
    elim (cases_lt k (length xs)) [
      | inl lt ↦ inl (sym (slice_get-left xs y y k lt) ∙ e)
      | inr ge ↦
          let s : k ≡ length xs = omega (arith, ge, slice_get_within (xs ++ y ∷ []) k z e, length-append xs (y ∷ [])) in
          inr (s, sym (get_or_from_slice_get (xs ++ y ∷ []) k z y e) ∙ (ap (λ x. get_or (xs ++ y ∷ []) x y) s ∙ get_or-append_seam xs y [] y))
    ]

decided-lower : (s : TrailView) (head : ℕ) (m : Mark) (c : List Literal) (p : Pair) (k : ℕ) → k ≤ length s.marks → Guards (Is (take k s.marks)) (Is (take k s.marks)) p → Guards (Is (take k (s.marks ++ m ∷ []))) (Is (take k (s.marks ++ m ∷ []))) p
decided-lower s head m c p k le g = rw (take-append-le k s.marks (m ∷ []) le) g

decided-cared : (s : TrailView) (head : ℕ) (m : Mark) (c : List Literal) (p : Pair) → ((j k : ℕ) → slice_get s.limits j ≡ Some k → k ≤ length s.marks) → head ≡ length s.marks → IsCared s head c p → IsCared (with_decision s m) head c p
decided-cared s head m c p lim h (own, inl z) = (
  own,
  inl (record {
    literal = z.literal;
    stands = z.stands;
    is_true = falsifies-more s.marks m (negation z.literal) z.is_true;
    always = λ j k e. elim (push-cases s.limits (length s.marks) k j e) [
      | inl a ↦ rw (take-append-le k s.marks (m ∷ []) (lim j k a)) (z.always j k a)
      | inr b ↦ rw (b.1, take-append_seam s.marks (m ∷ [])) z.is_true
    ];
  }),
)
decided-cared s head m c p lim h (own, inr g) =
    let w : take head s.marks ≡ s.marks = ap (λ k. take k s.marks) h ∙ take-length s.marks in
    let now : Guards (Is s.marks) (Is s.marks) p = rw w at g.now in
    let v : take head (s.marks ++ m ∷ []) ≡ s.marks = take-append-le head s.marks (m ∷ []) (omega (arith, h)) ∙ w in (
      own,
      inr (record {
        apart = g.apart;
        lower = λ j k e. elim (push-cases s.limits (length s.marks) k j e) [
          | inl a ↦ decided-lower s head m c p k (lim j k a) (g.lower j k a)
          | inr b ↦ rw (b.1, take-append_seam s.marks (m ∷ [])) now
        ];
        now = record { one = λ x. falsifies-more s.marks m (negation p.other) (now.one (rw v at x)); other = λ x. falsifies-more s.marks m (negation p.one) (now.other (rw v at x)) };
      }),
    )

pub ready-decide : (f : FormulaView) (s : TrailView) (w : WatchView) (head : ℕ) (m : Mark) → IsReady f s w head → head ≡ length s.marks → IsPlaced f.clauses s.marks m → IsReady f (with_decision s m) w head
ready-decide f s w head m r h new =
    record {
      trail_vars = r.trail_vars;
      watch_vars = r.watch_vars;
      justified = record {
        placed = put-placed f.clauses s.marks m new r.justified.placed;
        consistent = put-consistent s.marks m new.open_literal r.justified.consistent;
        limits = λ j k e. elim (push-cases s.limits (length s.marks) k j e) [ inl a ↦ omega (arith, r.justified.limits j k a, length-append s.marks (m ∷ [])) | inr b ↦ omega (arith, b.1, length-append s.marks (m ∷ [])) ];
        rising = λ i j a b le x y.
            elim (push-cases s.limits (length s.marks) b j y) [
              | inl old ↦ elim (push-cases s.limits (length s.marks) a i x) [ inl o ↦ r.justified.rising i j a b le o old | inr n ↦ absurd (omega (arith, n.0, le, slice_get_within s.limits j b old)) ]
              | inr new ↦ elim (push-cases s.limits (length s.marks) a i x) [ inl o ↦ omega (arith, r.justified.limits i a o, new.1) | inr n ↦ omega (arith, n.1, new.1) ]
            ];
      };
      watched = record { len = r.watched.len; each = λ i c p a b. decided-cared s head m c p r.justified.limits h (r.watched.each i c p a b) };
      head_in = omega (arith, h, length-append s.marks (m ∷ []));
    }

-- back to a level
pub prefix-get : {X : Type 0} (xs : List X) (k i : ℕ) (x : X) → slice_get (take k xs) i ≡ Some x → (i < k) × (slice_get xs i ≡ Some x)
prefix-get [] zero i x e = cc
prefix-get [] (suc k) i x e = cc
prefix-get (y ∷ ys) zero i x e = cc
prefix-get (y ∷ ys) (suc k) zero x e = (omega arith, e)
prefix-get (y ∷ ys) (suc k) (suc i) x e = let r = prefix-get ys k i x e in (omega (arith, r.0), r.1)

back-cared : (s : TrailView) (head j k : ℕ) (c : List Literal) (p : Pair) → slice_get s.limits j ≡ Some k → ((i a : ℕ) → slice_get (take j s.limits) i ≡ Some a → (a ≤ k) × (slice_get s.limits i ≡ Some a)) → IsCared s head c p → IsCared (back s j k) k c p
back-cared s head j k c p e lim (own, inl z) =
    (own, inl (record { literal = z.literal; stands = z.stands; is_true = z.always j k e; always = λ i a x. let l = lim i a x in rw (take-take a k s.marks l.0) (z.always i a l.1) }))
back-cared s head j k c p e lim (own, inr g) = (
  own,
  inr (record {
    apart = g.apart;
    lower = λ i a x. let l = lim i a x in rw (take-take a k s.marks l.0) (g.lower i a l.1);
    now = rw (take-take k k s.marks (omega arith)) (g.lower j k e);
  }),
)

pub ready-back : (f : FormulaView) (s : TrailView) (w : WatchView) (head j k : ℕ) → IsReady f s w head → slice_get s.limits j ≡ Some k → IsReady f (back s j k) w k
ready-back f s w head j k r e =
    let lim : (i a : ℕ) → slice_get (take j s.limits) i ≡ Some a → (a ≤ k) × (slice_get s.limits i ≡ Some a) = λ i a x. let g = prefix-get s.limits j i a x in (r.justified.rising i j a k (omega (arith, g.0)) g.1 e, g.1) in
    let le : k ≤ length s.marks = r.justified.limits j k e in
    record {
      trail_vars = r.trail_vars;
      watch_vars = r.watch_vars;
      justified = record {
        placed = λ i m x. let g = prefix-get s.marks k i m x in rw (take-take i k s.marks (omega (arith, g.0))) (r.justified.placed i m g.1);
        consistent = λ q x y. r.justified.consistent q (falsifies-take s.marks k q x) (falsifies-take s.marks k (negation q) y);
        limits = λ i a x. omega (arith, (lim i a x).0, length-take-le k s.marks le);
        rising = λ i l a b h x y. r.justified.rising i l a b h (lim i a x).1 (lim l b y).1;
      };
      watched = record { len = r.watched.len; each = λ i c p a b. back-cared s head j k c p e lim (r.watched.each i c p a b) };
      head_in = omega (arith, length-take-le k s.marks le);
    }

abbrev pub implied : TrailView → Mark → TrailView
implied s m = record { vars = s.vars; marks = s.marks ++ m ∷ []; limits = s.limits }

learned-cared : (s : TrailView) (c : List Literal) (p : Pair) (m : Mark) → m.literal ≡ p.one → ((j k : ℕ) → slice_get s.limits j ≡ Some k → k ≤ length s.marks) → IsLearned s c p → IsCared (implied s m) (length s.marks) c p
learned-cared s c p m is lim l =
    let first_true : falsifies (s.marks ++ m ∷ []) (negation p.one) ≡ true = rw (← is) (falsifies-new s.marks m) in (
      record { one = l.first; other = l.second },
      elim l.highest [
        | inl zero_level ↦ inl (record { literal = p.one; stands = l.first; is_true = first_true; always = λ j k e. absurd (zero_level j k e) })
        | inr h ↦ inr (record {
          apart = h.0;
          lower = λ j k e.
              let t : take k (s.marks ++ m ∷ []) ≡ take k s.marks = take-append-le k s.marks (m ∷ []) (lim j k e) in
              rw t (record {
                one = λ x. absurd (no_both (falsifies s.marks p.one) (falsifies-take s.marks k p.one x) l.open_first);
                other = λ x. absurd (no_both (falsifies (take k s.marks) p.other) x (h.1 j k e));
              });
          now = record {
            one = λ x. absurd (no_both (falsifies s.marks p.one) (rw (take-append_seam s.marks (m ∷ [])) at x) l.open_first);
            other = λ x. first_true;
          };
        })
      ],
    )

has-reason-more : (cs : List (List Literal)) (c : List Literal) (before : List Mark) (l : Literal) (o : Option ℕ) → IfSome o (HasReason cs before l) → IfSome o (HasReason (cs ++ c ∷ []) before l)
has-reason-more cs c before l None h = h
has-reason-more cs c before l (Some r) h = record { clause = h.clause; at = slice_get-left cs c c r (slice_get_within cs r h.clause h.at) ∙ h.at; has = h.has; others = h.others }

pub justified-more : (cs : List (List Literal)) (c : List Literal) (s : TrailView) → IsJustified cs s → IsJustified (cs ++ c ∷ []) s
justified-more cs c s j =
    record {
      placed = λ i m e. let p = j.placed i m e in record { open_literal = p.open_literal; open_negation = p.open_negation; reason = has-reason-more cs c (take i s.marks) m.literal m.reason p.reason };
      consistent = j.consistent;
      limits = j.limits;
      rising = j.rising;
    }

pub ready-learned : (f : FormulaView) (s : TrailView) (v w : WatchView) (c : List Literal) (p : Pair) (m : Mark) → IsReady f s v (length s.marks) → IsLearned s c p → m.literal ≡ p.one → m.reason ≡ Some (length f.clauses) → w.vars ≡ v.vars → w.pairs ≡ v.pairs ++ p ∷ [] → IsReady (record { vars = f.vars; clauses = f.clauses ++ c ∷ [] }) (implied s m) w (length s.marks)
ready-learned f s v w c p m r l is because wv wp =
    let n : IsLonger s (implied s m) = longer-put s (implied s m) m refl in
    let new : IsPlaced (f.clauses ++ c ∷ []) s.marks m = record {
      open_literal = rw is l.open_first;
      open_negation = rw is l.open_negation;
      reason = rw (because, is) (record { clause = c; at = push-new f.clauses c; has = l.first; others = l.others });
    } in
    record {
      trail_vars = r.trail_vars;
      watch_vars = wv ∙ r.watch_vars;
      justified = justified-put (f.clauses ++ c ∷ []) s (implied s m) m new refl (justified-more f.clauses c s r.justified);
      watched = record {
        len = ap length wp ∙ omega (arith, length-append v.pairs (p ∷ []), length-append f.clauses (c ∷ []), r.watched.len);
        each = λ i d q a b.
            elim (push-cases f.clauses c d i a) [
              | inl old ↦
                  elim (push-cases v.pairs p q i (ap (λ x. slice_get x i) (sym wp) ∙ b)) [
                    | inl y ↦ cared-longer s (implied s m) (length s.marks) d q r.justified.limits (omega arith) n (r.watched.each i d q old y)
                    | inr y ↦ absurd (omega (arith, y.0, r.watched.len, slice_get_within f.clauses i d old))
                  ]
              | inr new ↦
                  elim (push-cases v.pairs p q i (ap (λ x. slice_get x i) (sym wp) ∙ b)) [
                    | inl y ↦ absurd (omega (arith, new.0, r.watched.len, slice_get_within v.pairs i q y))
                    | inr y ↦ rw (new.1, y.1) (learned-cared s c p m is r.justified.limits l)
                  ]
            ];
      };
      head_in = omega (arith, length-append s.marks (m ∷ []));
    }
