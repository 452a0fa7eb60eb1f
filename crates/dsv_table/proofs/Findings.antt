-- What is found of a polynomial by its table.
use Rattle.std.proofs.Common.{◌≡◌, ◌-◌, ◌<◌, ◌∙◌, List, length, Option, Some, None, ap, refl, sym, subst, arith}
use Rattle.std.proofs.Math.IntN.{ℤ, pos}
use lib.Signed.{◌<ℤ◌}
use Rattle.dsv_algebra.specs.Vectors.{vector_of}
use Rattle.dsv_table.specs.Findings.{AreBounds, IsRootOf, IsFinding, OneFinding}
use Rattle.dsv_table.specs.RootSize.{RootSizeView, IsRootSize}
use Rattle.dsv_table.specs.Table.{verdict_of}
use Rattle.dsv_table.specs.Verdicts.{IsShown}
use Rattle.dsv_table.specs.declared.finding.RootBounds.{RootBounds}
use Rattle.dsv_table.specs.declared.finding.TableFinding.{TableFinding}
use Rattle.dsv_table.specs.declared.verdict.TableVerdict.{TableVerdict}
use Rattle.dsv_table.proofs.RootSizes.{root_sizes_are_shown, one_root_size}
use Rattle.dsv_table.proofs.Verdicts.{decides}

same_bounds : (cs : List ℤ) (b : RootBounds) → 1 < length cs → pos 0 <ℤ vector_of cs 0 → IsRootSize cs (record { least = b.least; greatest = b.greatest }) → AreBounds cs b
same_bounds cs b order lead s =
    let shown = root_sizes_are_shown cs (record { least = b.least; greatest = b.greatest }) order lead s in
    record { size = s; falls = shown.0; away = shown.1 }

-- the numbers are those of a root size
pub bounds_are : (cs : List ℤ) (size : RootSizeView) (least greatest : ℤ) → 1 < length cs → pos 0 <ℤ vector_of cs 0 → IsRootSize cs size → least ≡ size.least → greatest ≡ size.greatest
    → AreBounds cs (record { least = least; greatest = greatest })
bounds_are cs size least greatest order lead s e f = same_bounds cs (record { least = least; greatest = greatest }) order lead (rw (e, f) s)

-- what is found is the verdict of the table, and it comes with a form
pub finding_is : (cs poly : List ℤ) (verdict : TableVerdict) (root : Option RootBounds) → 0 < length cs → pos 0 <ℤ vector_of cs 0 → poly ≡ cs → verdict ≡ verdict_of cs → IsRootOf cs root
    → IsFinding cs (record { poly = poly; verdict = verdict; root = root })
finding_is cs poly verdict root some lead p v r =
    let d = length cs - 1 in
    record {
      some = omega (arith, some);
      lead = lead;
      poly = p;
      verdict = v;
      shown = subst (λ x. IsShown x d (vector_of cs)) (sym v) (decides d (vector_of cs) lead);
      root = r;
    }

-- ---- one finding
one_bounds : (cs : List ℤ) (a b : RootBounds) → 1 < length cs → pos 0 <ℤ vector_of cs 0 → AreBounds cs a → AreBounds cs b → a ≡ b
one_bounds cs a b order lead h k =
    let bounds : RootSizeView → RootBounds = λ s. record { least = s.least; greatest = s.greatest } in
    ap bounds (one_root_size cs (record { least = a.least; greatest = a.greatest }) (record { least = b.least; greatest = b.greatest }) order lead h.size k.size)

one_root : (cs : List ℤ) (a b : Option RootBounds) → pos 0 <ℤ vector_of cs 0 → IsRootOf cs a → IsRootOf cs b → a ≡ b
one_root cs None None lead h k = refl
one_root cs None (Some b) lead h k = absurd (let order = k.0 in omega (arith, h, order))
one_root cs (Some a) None lead h k = absurd (let order = h.0 in omega (arith, k, order))
one_root cs (Some a) (Some b) lead h k = ap Some (one_bounds cs a b h.0 lead h.1 k.1)

pub one_finding : OneFinding
one_finding cs f g h k =
    let found : List ℤ → TableVerdict → Option RootBounds → TableFinding = λ p v r. record { poly = p; verdict = v; root = r } in
    ap (λ p. found p f.verdict f.root) (h.poly ∙ sym k.poly) ∙ ap (λ v. found g.poly v f.root) (h.verdict ∙ sym k.verdict) ∙ ap (λ r. found g.poly g.verdict r) (one_root cs f.root g.root h.lead h.root k.root)
