-- The tokens that are left to look at, and the places of a name.
use Rattle.std.proofs.Common.{◌≡◌, ◌∙◌, ◌+◌, ◌<◌, ◌≤◌, ℕ, Bool, true, false, List, [], ◌∷◌, length, drop, get_or, refl, arith}
use Rattle.std.specs.Prelude.{Option, Some, IfSome, if◌then◌else◌}
use Rattle.std.proofs.lemmas.List.{at_drop_more}
use Rattle.dsv_token.specs.Lexing.{AreInOrder}
use Rattle.dsv_token.specs.declared.token.Token.{Token}
use Rattle.dsv_token.specs.declared.token.TokenKind.{TokenKind}
use Rattle.dsv_token.specs.declared.token.TokenKind.TheVariants as kind
use Rattle.dsv_files.specs.Titles.{depth_after, is_system, is_title, title_token}

pub title_here : (depth : ℕ) (named : Bool) (ts : List Token) (i : ℕ) (z : Token) → i < length ts → is_title named (get_or ts i z).kind ≡ true → title_token depth named (drop i ts) ≡ Some (get_or ts i z)
title_here depth named ts i z h e = at_drop_more (title_token depth named) ts i z h ∙ rw e refl

pub title_later : (depth : ℕ) (named : Bool) (ts : List Token) (i : ℕ) (z : Token) → i < length ts → is_title named (get_or ts i z).kind ≡ false
    → title_token depth named (drop i ts) ≡ title_token (depth_after depth (get_or ts i z).kind) (is_system depth (get_or ts i z).kind) (drop (i + 1) ts)
title_later depth named ts i z h e = at_drop_more (title_token depth named) ts i z h ∙ rw e refl

pub depth_grows : (depth i : ℕ) (k : TokenKind) → depth ≤ i → depth_after depth k ≤ i + 1
depth_grows depth i kind.Open h = omega (arith, h)
depth_grows depth i kind.Close h = omega (arith, h)
depth_grows depth i kind.Equals h = omega (arith, h)
depth_grows depth i kind.Comma h = omega (arith, h)
depth_grows depth i kind.Dot h = omega (arith, h)
depth_grows depth i kind.Semicolon h = omega (arith, h)
depth_grows depth i kind.Number h = omega (arith, h)
depth_grows depth i (kind.Name w) h = omega (arith, h)

if_title : (test : Bool) (t : Token) (other : Option Token) (end : ℕ) → t.at + t.len ≤ end → IfSome other (λ u. u.at + u.len ≤ end) → IfSome (if test then Some t else other) (λ u. u.at + u.len ≤ end)
if_title true t other end h k = h
if_title false t other end h k = k

within_weaker : (start end : ℕ) (ts : List Token) → AreInOrder start end ts → (depth : ℕ) (named : Bool) → IfSome (title_token depth named ts) (λ t. t.at + t.len ≤ end)
within_weaker start end [] h depth named = tt
within_weaker start end (t ∷ ts) h depth named =
    if_title (is_title named t.kind) t (title_token (depth_after depth t.kind) (is_system depth t.kind) ts) end h.0.inside
    (within_weaker (t.at + t.len) end ts h.1 (depth_after depth t.kind) (is_system depth t.kind))

-- the name lies in the text
pub title_within : (end : ℕ) (ts : List Token) → AreInOrder 0 end ts → IfSome (title_token 0 false ts) (λ t. t.at + t.len ≤ end)
title_within end ts h = within_weaker 0 end ts h 0 false

-- so does the name that was found
pub found_within : (end : ℕ) (ts : List Token) (t : Token) → AreInOrder 0 end ts → Some t ≡ title_token 0 false ts → t.at + t.len ≤ end
found_within end ts t h e = rw (← e) at (title_within end ts h)
