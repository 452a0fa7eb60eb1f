-- Words and the values that spell them.
use Rattle.std.proofs.Common.{◌≡◌, ℕ, ◌+◌, ◌-◌, ◌*◌, ◌^◌, ◌<◌, ◌≤◌, List, [], ◌∷◌, refl, arith, ap, sym, subst, ◌∙◌, length, map, replicate, get_or}
use Rattle.std.proofs.Math.IntN.{ℤ, pos}
use Rattle.std.proofs.lemmas.Int.{ints}
use Rattle.std.proofs.lemmas.Nat.{pow-add}
use Rattle.std.proofs.Math.Nat.{pow-le-pow_right}
use Rattle.std.specs.List.{All}
use Rattle.std.proofs.lemmas.List.{length-map, length-replicate, get_or-map, get_or-replicate}
use Rattle.std.proofs.lemmas.List.Elements.{All-head, All-tail, All-replicate}
use Rattle.dsv_word.specs.declared.format.Format.{Format}
use Rattle.dsv_word.specs.Words.{width, IsWord}
use Rattle.dsv_word.proofs.Meanings.{zero_word}
use Rattle.dsv_system.specs.Systems.{zeros}
use Rattle.dsv_term.specs.Terms.{AreValues}
use Rattle.dsv_term.specs.Word.{residue}
use Rattle.dsv_term.proofs.Complement.{IsSpelled, signed-spelled}
use Rattle.dsv_term.proofs.Words.{residue_fits}
use Rattle.dsv_unroll.specs.Words.{spelled_words}
use Rattle.dsv_unroll.proofs.NodeTerms.{width_some}

-- ---- sizes
pub width_small : (f : Format) → 2 ^ width f ≤ 2 ^ 48
width_small f =
    let few : width f ≤ 48 = omega (arith, f.lawful) in
    let two : 0 < 2 = omega arith in
    pow-le-pow_right two few

pub half_width : (f : Format) → 2 ^ (width f - 1) + 2 ^ (width f - 1) ≡ 2 ^ width f
half_width f =
    let some : width f - 1 + 1 ≡ width f = omega (arith, f.lawful) in
    let twice : 2 ^ (width f - 1 + 1) ≡ 2 ^ (width f - 1) * 2 = pow-add 2 (width f - 1) 1 in
    omega (arith, twice, ap (λ n. 2 ^ n) some)

pub ruleset width_powers = (width_small, half_width)

-- ---- words as values
-- the values that spell words
abbrev pub values_for : Format → List ℤ → List ℕ
values_for f zs = map (residue (width f)) zs

pub words_of_values : (f : Format) (zs : List ℤ) → All (IsWord f) zs → spelled_words f (values_for f zs) ≡ zs
words_of_values f [] h = refl
words_of_values f (z ∷ zs) h =
    let w = All-head (IsWord f) z zs h in
    let l = w.low in
    let k = w.high in
    let s : IsSpelled (width f) z = record { low = l; high = omega (arith, ints) } in
    rw (words_of_values f zs (All-tail (IsWord f) z zs h)) (ap (λ (y : ℤ). y ∷ zs) (signed-spelled (width f) z (width_some f) s))

pub values_fit : (f : Format) (zs : List ℤ) (n : ℕ) → length zs ≡ n → AreValues (replicate n (width f)) (values_for f zs)
values_fit f zs n e = record {
  count = length-map zs (residue (width f)) ∙ (e ∙ sym (length-replicate n (width f)));
  fit = λ k l.
      let i : k < n = omega (arith, l, length-replicate n (width f)) in
      let j : k < length zs = omega (arith, i, e) in
      rw (get_or-map (residue (width f)) zs k (pos 0) 0 j, get_or-replicate n k (width f) 0 i) (residue_fits (width f) (get_or zs k (pos 0)));
}

pub count_of_words : (f : Format) (values : List ℕ) (n : ℕ) → AreValues (replicate n (width f)) values → length (spelled_words f values) ≡ n
count_of_words f values n a = length-map values _ ∙ (a.count ∙ length-replicate n (width f))

-- zeros are words
pub zeros_are_words : (f : Format) (xs : List ℤ) (n : ℕ) → xs ≡ zeros n → All (IsWord f) xs
zeros_are_words f xs n e = subst (All (IsWord f)) (sym e) (All-replicate (IsWord f) n (pos 0) (zero_word f))
