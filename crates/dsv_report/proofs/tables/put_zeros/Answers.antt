use Rattle.std.proofs.Common.{◌≡◌, ℕ, zero, suc, ◌≤◌, take, replicate, codes, refl, arith}
use Rattle.dsv_report.proofs.tables.put_zeros.Goals as goal

zeros : (n : ℕ) → n ≤ 5 → take n (codes "00000") ≡ replicate n 48
zeros zero h = refl
zeros (suc zero) h = refl
zeros (suc (suc zero)) h = refl
zeros (suc (suc (suc zero))) h = refl
zeros (suc (suc (suc (suc zero)))) h = refl
zeros (suc (suc (suc (suc (suc zero))))) h = refl
zeros (suc (suc (suc (suc (suc (suc n)))))) h = absurd (omega (arith, h))

pub returns : goal.returns
returns g c = rw (zeros c.args.count c.requires) at c.put_all.ensures
