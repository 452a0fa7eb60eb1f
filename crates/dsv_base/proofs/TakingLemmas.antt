-- One piece after another is written.
use Rattle.std.proofs.Common.{◌≡◌, ℕ, ◌≤◌, List, [], ◌++◌, Option, Some, None, IfSome, Result, Ok, Err, IsErr, sym, ap, ◌∙◌, append_assoc, arith, rules}
use Rattle.std.proofs.lemmas.Grind.{common_steps}
use Rattle.dsv_base.specs.Counts.{Rose}
use Rattle.dsv_base.specs.Seen.{SinkSeen}
use Rattle.dsv_base.specs.Taking.{Grew, Wrote, CutShort, Writes}

pub Rose-earlier : (a b c : ℕ) → a ≤ b → Rose b c → Rose a c
Rose-earlier a b c m r = grind arith

pub append_nil : (xs : List ℕ) → xs ≡ xs ++ []
append_nil xs = grind (arith, common_steps)

grew_more : (a b c : Option (List ℕ)) (x y : List ℕ) → IfSome a (λ t. b ≡ Some (t ++ x)) → IfSome b (λ t. c ≡ Some (t ++ y)) → IfSome a (λ t. c ≡ Some (t ++ (x ++ y)))
grew_more None b c x y f g = tt
grew_more (Some t) b c x y f g = let h = rw f at g in h ∙ ap Some (append_assoc t x y)

pub Grew-more : {a b c : Option (List ℕ)} {x y : List ℕ} → Grew a b x → Grew b c y → Grew a c (x ++ y)
Grew-more {a} {b} {c} {x} {y} f g = record { told = grew_more a b c x y f.told g.told }

pub wrote_more : {a b c : SinkSeen} {x y : List ℕ}
    → Wrote a b x → Wrote b c y → Wrote a c (x ++ y)
wrote_more f g = record { grew = Grew-more f.grew g.grew; later = omega arith }

pub cut_later : {a b c : SinkSeen} {x y : List ℕ}
    → Wrote a b x → CutShort b c y → CutShort a c (x ++ y)
cut_later {a} {b} {c} {x} {y} f g = record {
  prefix = record { sent = x ++ g.prefix.sent; left = g.prefix.left; grew = Grew-more f.grew g.prefix.grew; split = let e = g.prefix.split in rw e (sym (append_assoc x g.prefix.sent g.prefix.left)) };
  later = omega arith;
  rose = Rose-earlier a.faults b.faults c.faults f.later g.rose;
}

pub cut_more : {a b : SinkSeen} {x : List ℕ} (y : List ℕ)
    → CutShort a b x → CutShort a b (x ++ y)
cut_more {x = x} y f = record {
  prefix = record { sent = f.prefix.sent; left = f.prefix.left ++ y; grew = f.prefix.grew; split = let e = f.prefix.split in rw e (append_assoc f.prefix.sent f.prefix.left y) };
  later = f.later;
  rose = f.rose;
}

-- what is left of a text is written after its front
pub writes_after : {T E : Type 0} {a b c : SinkSeen} {r : Result T E} {x y : List ℕ}
    → Wrote a b x → Writes b c r y → Writes a c r (x ++ y)
writes_after {r = Ok v} f g = record { whole = wrote_more f g.whole; cut = tt }
writes_after {r = Err e} f g = record { whole = tt; cut = cut_later f g.cut }

-- a text is cut short in its front
pub writes_cut : {T E : Type 0} {a b : SinkSeen} {r : Result T E} {x : List ℕ} (y : List ℕ)
    → IsErr r → CutShort a b x → Writes a b r (x ++ y)
writes_cut {r = Ok v} y h f = absurd (search rules)
writes_cut {r = Err e} y h f = record { whole = tt; cut = cut_more y f }

-- a text was cut short
pub writes_err : {T E : Type 0} {a b : SinkSeen} {r : Result T E} {x : List ℕ}
    → IsErr r → CutShort a b x → Writes a b r x
writes_err {r = Ok v} h f = absurd (search rules)
writes_err {r = Err e} h f = record { whole = tt; cut = f }
