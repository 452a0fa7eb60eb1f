-- One piece of a file after another is read.
use Rattle.std.proofs.Common.{◌≡◌, ℕ, ◌+◌, ◌<◌, ◌≤◌, List, ◌++◌, length, take, drop, Option, Some, None, IfSome, sym, ap, ◌∙◌, arith, inl, inr, ◌⊎◌}
use Rattle.std.proofs.Math.Seq.{take-add}
use Rattle.std.proofs.lemmas.Grind.{common_steps}
use Rattle.dsv_base.specs.Counts.{last_count, Rose, RoseBy}
use Rattle.dsv_base.specs.Reading.{IsChunk}

same_length : (file room : List ℕ) (got count : ℕ) → count ≤ length room → got ≤ length file → take count room ≡ take count (drop got file) → got + count ≤ length file
same_length file room got count fits h e =
    let l : length (take count room) ≡ length (take count (drop got file)) = ap length e in
    grind (arith, common_steps)

-- What was read so far is a front of the file, and the next piece goes on from there.
pub read_more : (held : Option (List ℕ)) (bytes more : List ℕ) (got count : ℕ) (room : List ℕ)
    → IfSome held (λ file. (bytes ≡ take got file) × (got ≤ length file))
    → IfSome held (λ file. IsChunk file got count room)
    → count ≤ length room → more ≡ bytes ++ take count room
    → IfSome held (λ file. (more ≡ take (got + count) file) × (got + count ≤ length file))
read_more None bytes more got count room so_far piece fits e = tt
read_more (Some file) bytes more got count room so_far piece fits e =
    (e ∙ (let p = so_far.0 in let q = piece.bytes in rw (p, q) (sym (take-add got count file))), same_length file room got count fits so_far.1 piece.bytes)

-- a file that is longer than the limit, since what was read and the next piece are
pub longer : (held : Option (List ℕ)) (bytes : List ℕ) (got count limit : ℕ) (room : List ℕ)
    → IfSome held (λ file. (bytes ≡ take got file) × (got ≤ length file))
    → IfSome held (λ file. IsChunk file got count room)
    → count ≤ length room → limit < got + count
    → IfSome held (λ file. limit < length file)
longer None bytes got count limit room so_far piece fits past = tt
longer (Some file) bytes got count limit room so_far piece fits past =
    let h = same_length file room got count fits so_far.1 piece.bytes in omega arith

-- ---- counts
whole_more : (a b c n m : ℕ) → b ≤ c → (b ≡ a + n) ⊎ (last_count ≤ b) → (c ≡ b + m) ⊎ (last_count ≤ c) → (c ≡ a + (n + m)) ⊎ (last_count ≤ c)
whole_more a b c n m h (inl e) (inl f) = inl (omega arith)
whole_more a b c n m h (inl e) (inr f) = inr f
whole_more a b c n m h (inr e) f = inr (omega arith)

-- n more, and then m more
pub rose_more : {a b c n m : ℕ} → RoseBy n a b → RoseBy m b c → RoseBy (n + m) a c
rose_more {a} {b} {c} {n} {m} e f = record {
  least = omega (arith, e.least, f.least);
  most = omega (arith, e.most, f.most);
  whole = whole_more a b c n m f.least e.whole f.whole;
}

whole_past : (a b limit n : ℕ) → limit < n → (b ≡ a + n) ⊎ (last_count ≤ b) → Rose (a + limit) b
whole_past a b limit n h (inl e) = inl (omega arith)
whole_past a b limit n h (inr e) = inr e

-- more than a limit passed it
pub rose_past : {a b n : ℕ} (limit : ℕ) → limit < n → RoseBy n a b → Rose (a + limit) b
rose_past {a} {b} {n} limit h e = whole_past a b limit n h e.whole
