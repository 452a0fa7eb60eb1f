-- Tokens in order.
use Rattle.std.proofs.Common.{ℕ, ◌+◌, ◌≤◌, List, [], ◌∷◌, ◌++◌, arith}
use Rattle.dsv_token.specs.declared.token.Token.{Token}
use Rattle.dsv_token.specs.Lexing.{IsWithin, AreInOrder}

-- they may end later
pub in_order_later : (ts : List Token) (start end later : ℕ) → end ≤ later → AreInOrder start end ts → AreInOrder start later ts
in_order_later [] start end later p h = tt
in_order_later (t ∷ ts) start end later p h =
    let w : IsWithin start end t = h.0 in (
      record { after = w.after; some_byte = w.some_byte; inside = omega (arith, w.inside, p) },
      in_order_later ts (t.at + t.len) end later p h.1,
    )

-- one more, which begins where they end or later
pub in_order_push : (ts : List Token) (t : Token) (start end : ℕ) → start ≤ t.at → 1 ≤ t.len → t.at + t.len ≤ end → AreInOrder start t.at ts → AreInOrder start end (ts ++ t ∷ [])
in_order_push [] t start end p q r h = (record { after = p; some_byte = q; inside = r }, tt)
in_order_push (s ∷ ts) t start end p q r h =
    let w : IsWithin start t.at s = h.0 in (
      record { after = w.after; some_byte = w.some_byte; inside = omega (arith, w.inside, r, q) },
      in_order_push ts t (s.at + s.len) end w.inside q r h.1,
    )
