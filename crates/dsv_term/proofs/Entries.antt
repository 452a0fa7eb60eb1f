-- Entries that are made one after another, each of the ones before it.
use Rattle.std.proofs.Common.{◌≡◌, ℕ, ◌+◌, ◌<◌, List, [], ◌∷◌, ◌++◌, refl, arith, ◌∙◌, length, length-append, get_or}
use Rattle.std.proofs.lemmas.List.{get_or_append_left}
use Rattle.dsv_term.specs.declared.node.TermNode.{TermNode}
use Rattle.dsv_term.specs.TermNode.{entries_from}

-- one node more
pub entries-push : {X : Type 0} (entry : List X → TermNode → X) (ns : List TermNode) (n : TermNode) (xs : List X) → entries_from entry (ns ++ n ∷ []) xs ≡ entries_from entry ns xs ++ entry (entries_from entry ns xs) n ∷ []
entries-push entry [] n xs = refl
entries-push entry (m ∷ ms) n xs = entries-push entry ms n (xs ++ entry xs m ∷ [])

pub length-entries : {X : Type 0} (entry : List X → TermNode → X) (ns : List TermNode) (xs : List X) → length (entries_from entry ns xs) ≡ length xs + length ns
length-entries entry [] xs = omega arith
length-entries entry (n ∷ ns) xs = omega (arith, length-entries entry ns (xs ++ entry xs n ∷ []), length-append xs (entry xs n ∷ []))

-- earlier entries stay
pub entries-keep : {X : Type 0} (entry : List X → TermNode → X) (ns : List TermNode) (xs : List X) (k : ℕ) (d : X) → k < length xs → get_or (entries_from entry ns xs) k d ≡ get_or xs k d
entries-keep entry [] xs k d h = refl
entries-keep entry (n ∷ ns) xs k d h =
    entries-keep entry ns (xs ++ entry xs n ∷ []) k d (omega (arith, length-append xs (entry xs n ∷ []))) ∙ get_or_append_left xs (entry xs n ∷ []) d k h

pub entries-append : {X : Type 0} (entry : List X → TermNode → X) (ns ms : List TermNode) (xs : List X) → entries_from entry (ns ++ ms) xs ≡ entries_from entry ms (entries_from entry ns xs)
entries-append entry [] ms xs = refl
entries-append entry (n ∷ ns) ms xs = entries-append entry ns ms (xs ++ entry xs n ∷ [])
