-- Turns of asking: one more, in the lists as the loop has them; and what is known after some, by what is known of each.
use Rattle.std.proofs.Common.{◌≡◌, ℕ, zero, suc, ◌-◌, ◌<◌, List, [], ◌∷◌, ◌++◌, Option, Some, None, Result, Ok, Err, map, length, drop, slice_index_or, slice_set, refl, ap, append-nil, arith}
use Rattle.std.specs.Borrow.{MutBor}
use Rattle.std.specs.List.{All}
use Rattle.std.specs.Prelude.{remove}
use Rattle.std.specs.Result.{IsErr}
use Rattle.std.proofs.Math.IntN.{ℤ}
use Rattle.std.proofs.lemmas.List.Elements.{All-append, All-cons, All-nil, All-head, All-tail}
use Rattle.dsv_base.specs.declared.memory.NoMemory.{NoMemory}
use Rattle.dsv_lyapunov.specs.Kept.{IsRefused, AreRefused}
use Rattle.dsv_lyapunov.specs.declared.kept.KeptForm.{KeptForm}
use Rattle.dsv_base.specs.Lists.{AreBlocks, IsTurn, IsSuffix, HoldsOfNone}
use Rattle.dsv_cli.specs.Turns.{Gives, Turns, start, nothing, refused, full, Ends, ComesTo, offer_of, IsNotAccepted}
use Rattle.dsv_cli.specs.declared.turns.Turn.{Turn}
use Rattle.dsv_cli.specs.declared.turns.Turn.TheVariants as turn
use Rattle.dsv_cli.proofs.Blocks.{AreBlocks-none, AreBlocks-more, AreBlocks-full}
use Rattle.dsv_cli.proofs.Suffixes.{IsSuffix-all, IsSuffix-set, IsSuffix-removed}

-- ---- one turn more
first_turns : {P A K : Type 0} {gives : P → Result (Turn A K) NoMemory → P → Type 0} {before : List P} {n : ℕ} {kept : List K} (xs : List P) (b : P)
    → Turns gives before n kept xs → 0 < length xs → b ≡ slice_index_or xs 0 b → Turns gives before n kept (b ∷ drop 1 xs)
first_turns [] b turns some at = absurd (omega arith)
first_turns (x ∷ xs) b turns some at = rw at turns

set_first : {P : Type 0} (xs : List P) (c : P) → 0 < length xs → slice_set xs 0 c ≡ c ∷ drop 1 xs
set_first [] c some = absurd (omega arith)
set_first (x ∷ xs) c some = refl

module _ {P A K : Type 0} {post : MutBor P → Result (Turn A K) NoMemory → MutBor P → Type 0} {before xs : List P} {n : ℕ} {kept : List K} (turns : Turns (Gives post) before n kept xs)
    {b c : MutBor P} (some : 0 < length xs) (at : b.now ≡ slice_index_or xs 0 b.now) where
  -- the first has no more
  pub no_more : {ys : List P} → post b (Ok turn.Nothing) c → ys ≡ remove (slice_set xs 0 c.now) 0 → Turns (Gives post) before 0 kept ys
  no_more gave new = rw (new, set_first xs c.now some) (nothing {c = c.now} (first_turns xs b.now turns some at) (b, c, refl, refl, gave))

  -- its offer is refused
  pub one_refused : {k : K} → post b (Ok (turn.Refused k)) c → n < 32 → Turns (Gives post) before (suc n) (kept ++ k ∷ []) (slice_set xs 0 c.now)
  one_refused gave few = rw (set_first xs c.now some) (refused (first_turns xs b.now turns some at) (b, c, refl, refl, gave) few)

  -- its last offer is refused
  pub last_refused : {ys : List P} {k : K} → post b (Ok (turn.Refused k)) c → suc n ≡ 32 → ys ≡ remove (slice_set xs 0 c.now) 0 → Turns (Gives post) before 0 (kept ++ k ∷ []) ys
  last_refused gave all new = rw (new, set_first xs c.now some) (full (rw (all, set_first xs c.now some) at (one_refused gave (omega arith))))

  -- that ends the asking
  pub ends : {result : Result (Turn A K) NoMemory} → post b result c → Ends (Gives post) before (slice_set xs 0 c.now) result
  ends gave = (n, kept, b.now, c.now, drop 1 xs, (first_turns xs b.now turns some at), (b, c, refl, refl, gave), set_first xs c.now some)

  -- and there is no answer
  pub fails : {result : Result (Turn A K) NoMemory} (later : List K) (answer : Result (Option A) NoMemory) → post b result c → IsErr answer
      → ComesTo (Gives post) before (slice_set xs 0 c.now) later answer
  fails later (Ok a) gave e = cc (e)
  fails later (Err why) gave e = (_, ends gave)

-- ---- what is known after turns
-- all but the first, where it was asked
abbrev unasked : {P : Type 0} → ℕ → List P → List P
unasked zero xs = xs
unasked (suc n) xs = drop 1 xs

unasked_none : {P : Type 0} (S : P → Type 0) (n : ℕ) (x : P) (xs : List P) → (S x → ⊥) → HoldsOfNone S xs → HoldsOfNone S (unasked n (x ∷ xs))
unasked_none S zero x xs not h = (not, h)
unasked_none S (suc n) x xs not h = h

offers-append : {K O : Type 0} (offer : K → O) (kept : List K) (k : K) (rest : List O) → map offer (kept ++ k ∷ []) ++ rest ≡ map offer kept ++ offer k ∷ rest
offers-append offer [] k rest = refl
offers-append offer (o ∷ kept) k rest = ap (λ l. offer o ∷ l) (offers-append offer kept k rest)

module _ {P A K : Type 0} {gives : P → Result (Turn A K) NoMemory → P → Type 0} {before : List P} where
  -- those that are left
  module _ {D : Type 0} (place : P → D) (stays : (b c : P) (r : Result (Turn A K) NoMemory) → gives b r c → place c ≡ place b) where
    suffix_left : {n : ℕ} {kept : List K} {after : List P} → Turns gives before n kept after → IsSuffix place before after
    suffix_left start = IsSuffix-all place before
    suffix_left (nothing {b = b} {others = others} t g) = IsSuffix-removed place before others b (suffix_left t)
    suffix_left (refused {b = b} {c = c} {others = others} {k = k} t g few) = IsSuffix-set place before others b c (stays b c (Ok (turn.Refused k)) g) (suffix_left t)
    suffix_left (full {b = b} {others = others} t) = IsSuffix-removed place before others b (suffix_left t)

    suffix_end : {after : List P} (r : Result (Turn A K) NoMemory) → Ends gives before after r → IsSuffix place before after
    suffix_end r (n, kept, b, c, others, t, g, left) = rw left (IsSuffix-set place before others b c (stays b c r g) (suffix_left t))

    pub suffix : (after : List P) (kept : List K) (answer : Result (Option A) NoMemory) → ComesTo gives before after kept answer → IsSuffix place before after
    suffix after kept (Ok (Some a)) e = suffix_end (Ok (turn.Accepted a)) e
    suffix after kept (Ok None) e = rw e.1 (suffix_left e.0)
    suffix after kept (Err why) e = suffix_end e.0 e.1

  -- the offers that are kept
  pub causes : (Q : K → Type 0) → ((b c : P) (k : K) → gives b (Ok (turn.Refused k)) c → Q k) → {n : ℕ} {kept : List K} {after : List P} → Turns gives before n kept after → All Q kept
  causes Q is start = All-nil Q
  causes Q is (nothing t g) = causes Q is t
  causes Q is (refused {kept = kept} {b = b} {c = c} {k = k} t g few) = All-append Q kept (k ∷ []) (causes Q is t) (All-cons Q k [] (is b c k g) (All-nil Q))
  causes Q is (full t) = causes Q is t

  module _ {O : Type 0} (told : P → Option (List O)) (accepted : A → O) (offer : K → O) (turns : (b c : P) (t : Turn A K) → gives b (Ok t) c → IsTurn (told b) (told c) (offer_of accepted offer t)) where
    blocks_left : {n : ℕ} {kept : List K} {after : List P} → Turns gives before n kept after
        → (rest : List O) → AreBlocks (32 - n) (map told after) rest → AreBlocks 32 (map told before) (map offer kept ++ rest)
    blocks_left start rest more = more
    blocks_left (nothing {n = n} {b = b} {c = c} {others = others} t g) rest more =
        blocks_left t rest (AreBlocks-none (told b) (told c) (map told others) (32 - n) rest (turns b c turn.Nothing g) more)
    blocks_left (refused {n = n} {kept = kept} {b = b} {c = c} {others = others} {k = k} t g few) rest more = rw (offers-append offer kept k rest)
        (blocks_left t (offer k ∷ rest) (AreBlocks-more (told b) (told c) (map told others) (32 - suc n) rest (32 - n) (offer k) (omega arith) (turns b c (turn.Refused k) g) more))
    blocks_left (full {b = b} {others = others} t) rest more = blocks_left t rest (AreBlocks-full (told b) (map told others) rest more)

    pub blocks : {kept : List K} → Turns gives before 0 kept [] → AreBlocks 32 (map told before) (map offer kept)
    blocks {kept} t = rw append-nil at (blocks_left t [] refl)

  -- those whose offer is accepted
  module _ (S : P → Type 0) (unsure : (b c : P) (t : Turn A K) → gives b (Ok t) c → IsNotAccepted t → S b → ⊥) where
    pub none_sure : {n : ℕ} {kept : List K} {after : List P} → Turns gives before n kept after → HoldsOfNone S (unasked n after) → HoldsOfNone S before
    none_sure start h = h
    none_sure (nothing {n = n} {b = b} {c = c} {others = others} t g) h = none_sure t (unasked_none S n b others (unsure b c turn.Nothing g tt) h)
    none_sure (refused {n = n} {b = b} {c = c} {others = others} {k = k} t g few) h = none_sure t (unasked_none S n b others (unsure b c (turn.Refused k) g tt) h)
    none_sure (full t) h = none_sure t h

pub AreRefused-from_all : (poly : List ℤ) (kept : List KeptForm) → All (IsRefused poly) kept → AreRefused poly kept
AreRefused-from_all poly [] a = tt
AreRefused-from_all poly (k ∷ kept) a = (All-head (IsRefused poly) k kept a, AreRefused-from_all poly kept (All-tail (IsRefused poly) k kept a))
