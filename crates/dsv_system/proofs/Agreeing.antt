-- What breaks, cycles or replays by a behaviour does so by each that agrees with it.
use Rattle.std.proofs.Common.{◌≡◌, ℕ, List, length, map, take, sym, ap, subst, ◌∙◌}
use Rattle.std.proofs.Math.IntN.{ℤ, pos}
use Rattle.std.specs.Prelude.{◌≢◌}
use Rattle.std.specs.List.{All, Contains}
use Rattle.std.proofs.lemmas.List.{length-replicate}
use Rattle.dsv_word.specs.declared.format.Format.{Format}
use Rattle.dsv_word.specs.Words.{IsWord}
use Rattle.dsv_system.specs.Runs.{SampleRow}
use Rattle.dsv_system.specs.Systems.{Behaviour, Agree, zeros}
use Rattle.dsv_system.specs.Breaks.{IsOutside, Breaks, IsFirstBreak, Replays}
use Rattle.dsv_system.specs.Cycles.{Returns, IsLeastPeriod, Cycles}

pub agree_back : (b c : Behaviour) → Agree b c → Agree c b
agree_back b c a = record {
  many = sym a.many;
  forward = sym a.forward;
  format = sym a.format;
  rows = λ start xs l. sym (a.rows start xs (l ∙ a.many));
  registers = λ start xs l. sym (a.registers start xs (l ∙ a.many));
}

-- the rows from registers of zeros
pub zero_rows : (b c : Behaviour) (xs : List ℤ) → Agree b c → b.rows (zeros b.many) xs ≡ c.rows (zeros c.many) xs
zero_rows b c xs h = ap (λ (k : ℕ). b.rows (zeros k) xs) h.many ∙ h.rows (zeros c.many) xs (length-replicate c.many (pos 0))

pub breaks_agree : (b c : Behaviour) (low high : ℤ) (xs : List ℤ) → Agree b c → Breaks b low high xs → Breaks c low high xs
breaks_agree b c low high xs h k =
    let S : List SampleRow → Format → Type 0 = λ rs f. (r : SampleRow) × Contains rs r × IsOutside f r in
    record {
      in_range = k.in_range;
      broken = subst (λ f. S (c.rows (zeros c.many) xs) f) h.format (subst (λ rs. S rs b.format) (zero_rows b c xs h) k.broken);
    }

pub replays_agree : (b c : Behaviour) (low high : ℤ) (inputs outputs : List ℤ) (sample value : ℕ) (exact : ℤ) → Agree b c
    → Replays b low high inputs outputs sample value exact → Replays c low high inputs outputs sample value exact
replays_agree b c low high inputs outputs sample value exact h r =
    let e = zero_rows b c inputs h in
    let S : List SampleRow → Format → Type 0 = λ rs f. IsFirstBreak f rs sample value exact in
    record {
      in_range = r.in_range;
      many = r.many;
      gives = ap (map (λ (row : SampleRow). row.y)) (sym e) ∙ r.gives;
      breaks = subst (λ f. S (c.rows (zeros c.many) inputs) f) h.format (subst (λ rs. S rs b.format) e r.breaks);
    }

-- ---- limit cycles
returns_agree : (b c : Behaviour) (start : List ℤ) (p : ℕ) → Agree b c → length start ≡ c.many → Returns b start p → Returns c start p
returns_agree b c start p h l r = record { some = r.some; back = sym (h.registers start (zeros p) l) ∙ r.back }

returns_back : (b c : Behaviour) (start : List ℤ) (p : ℕ) → Agree b c → length start ≡ c.many → Returns c start p → Returns b start p
returns_back b c start p h l r = record { some = r.some; back = h.registers start (zeros p) l ∙ r.back }

pub least_agree : (b c : Behaviour) (start : List ℤ) (p : ℕ) → Agree b c → length start ≡ c.many → IsLeastPeriod b start p → IsLeastPeriod c start p
least_agree b c start p h l r = record {
  returns = returns_agree b c start p h l r.returns;
  least = λ k less back. r.least k less (returns_back b c start k h l back);
}

pub cycles_agree : (b c : Behaviour) (start : List ℤ) (p : ℕ) → Agree b c → Cycles b start p → Cycles c start p
cycles_agree b c start p h k =
    let l : length start ≡ c.many = k.many ∙ h.many in
    let S : List SampleRow → Type 0 = λ rs. (r : SampleRow) × Contains rs r × (r.y ≢ pos 0) in
    record {
      many = l;
      quiet = subst (λ (n : ℕ). All (λ w. w ≡ pos 0) (take n start)) h.forward k.quiet;
      words = subst (λ (f : Format). All (IsWord f) start) h.format k.words;
      returns = returns_agree b c start p h l k.returns;
      sounding = subst S (h.rows start (zeros p) l) k.sounding;
    }
