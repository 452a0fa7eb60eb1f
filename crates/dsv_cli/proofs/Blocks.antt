-- One turn of asking, over any list of proposers, and what follows where the offers are blocks.
use Rattle.std.proofs.Common.{◌≡◌, ℕ, zero, suc, ◌+◌, List, [], ◌∷◌, ◌++◌, Option, Some, None, take, slice_get, refl, sym, ap, ◌∙◌, add-one, append_assoc, arith}
use Rattle.std.proofs.lemmas.Grind.{common_steps}
use Rattle.dsv_base.specs.Lists.{IsBlock, AreBlocks, IsTurn}

-- a proposer that offered one more has a block with one more
IsBlock-more : {C : Type 0} (before after : Option (List C)) (room more : ℕ) (c : C) (block : List C)
    → more ≡ room + 1 → IsTurn before after (Some c) → IsBlock room after block → IsBlock more before (c ∷ block)
IsBlock-more None None room more c block e t b = omega arith
IsBlock-more None (Some ds) room more c block e t b = grind (arith, common_steps)
IsBlock-more (Some []) after room more c block e t b = cc (t.0)
IsBlock-more (Some (d ∷ ds)) None room more c block e t b = cc (t.1)
IsBlock-more (Some (d ∷ ds)) (Some es) room more c block e t b = rw (e, add-one) (cc (t.0, t.1, b))

-- a proposer that offered nothing has an empty block
IsBlock-none : {C : Type 0} (before after : Option (List C)) (room : ℕ) → IsTurn before after None → IsBlock room before []
IsBlock-none None after room t = omega arith
IsBlock-none (Some []) after room t = grind (arith, common_steps)
IsBlock-none (Some (d ∷ ds)) after room t = cc (t.0)

-- a proposer of whom no more is judged has an empty block
IsBlock-full : {C : Type 0} (told : Option (List C)) → IsBlock 0 told []
IsBlock-full None = omega arith
IsBlock-full (Some cs) = refl

module _ {C : Type 0} (before after : Option (List C)) (others : List (Option (List C))) (room : ℕ) (rest : List C) where
  -- one more offer of the first, which may offer more
  pub AreBlocks-more : (more : ℕ) (c : C) → more ≡ room + 1 → IsTurn before after (Some c) → AreBlocks room (after ∷ others) rest → AreBlocks more (before ∷ others) (c ∷ rest)
  AreBlocks-more more c e turn m = (c ∷ m.0, m.1, IsBlock-more before after room more c m.0 e turn m.2, ap (λ l. c ∷ l) m.3, m.4)

  -- the first has no more to offer
  pub AreBlocks-none : IsTurn before after None → AreBlocks 32 others rest → AreBlocks room (before ∷ others) rest
  AreBlocks-none turn more = ([], rest, IsBlock-none before after room turn, refl, more)

-- no more of the first is judged
pub AreBlocks-full : {C : Type 0} (told : Option (List C)) (others : List (Option (List C))) (rest : List C) → AreBlocks 32 others rest → AreBlocks 0 (told ∷ others) rest
AreBlocks-full told others rest more = ([], rest, IsBlock-full told, refl, more)

-- the first offers of a proposer that tells stand together among all
pub record StandsIn {A : Type 0} (block offers : List A) : Type 0 where
  pub before : List A
  pub behind : List A
  pub split : offers ≡ before ++ (block ++ behind)

pub stands : {A : Type 0} (ts : List (Option (List A))) (k : ℕ) (cs offers : List A) → slice_get ts k ≡ Some (Some cs) → AreBlocks 32 ts offers → StandsIn (take 32 cs) offers
stands [] k cs offers e b = cc
stands (t ∷ ts) zero cs offers e b =
    let told : t ≡ Some cs = cc (e) in
    let block = rw told at b.2 in
    record { before = []; behind = b.1; split = b.3 ∙ ap (λ l. l ++ b.1) block }
stands (t ∷ ts) (suc k) cs offers e b =
    let later = stands ts k cs (b.1) e b.4 in record {
      before = b.0 ++ later.before;
      behind = later.behind;
      split = b.3 ∙ (ap (λ l. b.0 ++ l) later.split ∙ sym (append_assoc b.0 later.before (take 32 cs ++ later.behind)));
    }
