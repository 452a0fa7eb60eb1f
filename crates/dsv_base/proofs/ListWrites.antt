-- A list is written, one element after another.
use Rattle.std.proofs.Common.{List, ◌++◌, ◌+◌, ◌<◌, length, get_or, ℕ, take, drop, append_assoc}
use Rattle.std.specs.List.{flat_map}
use Rattle.dsv_base.specs.Seen.{SinkSeen}
use Rattle.dsv_base.specs.Taking.{Wrote, CutShort}
use Rattle.dsv_base.proofs.TakingLemmas.{wrote_more, cut_later, cut_more}
use Rattle.dsv_base.proofs.TextLemmas.{flat_map_at, flat_map_more_at}

pub wrote_item : {a b c : SinkSeen} {X : Type 0}
    (f : X → List ℕ) (before : List ℕ) (xs : List X) (i : ℕ) (d : X) → i < length xs
    → Wrote a b (before ++ flat_map f (take i xs)) → Wrote b c (f (get_or xs i d))
    → Wrote a c (before ++ flat_map f (take (i + 1) xs))
wrote_item f before xs i d h so_far this =
    rw (flat_map_more_at f xs i d h, ← append_assoc before (flat_map f (take i xs)) (f (get_or xs i d))) (wrote_more so_far this)

pub cut_item : {a b c : SinkSeen} {X : Type 0}
    (f : X → List ℕ) (before : List ℕ) (xs : List X) (i : ℕ) (d : X) → i < length xs
    → Wrote a b (before ++ flat_map f (take i xs)) → CutShort b c (f (get_or xs i d))
    → CutShort a c (before ++ flat_map f xs)
cut_item f before xs i d h so_far this =
    rw (flat_map_at f xs i d h, ← append_assoc before (flat_map f (take i xs)) (f (get_or xs i d) ++ flat_map f (drop (i + 1) xs)), ← append_assoc (before ++ flat_map f (take i xs)) (f (get_or xs i d)) (flat_map f (drop (i + 1) xs)))
    (cut_more (flat_map f (drop (i + 1) xs)) (cut_later so_far this))
