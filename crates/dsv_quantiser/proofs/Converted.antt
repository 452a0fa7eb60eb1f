-- Controllers in the delta operator.
use Rattle.std.proofs.Common.{◌≡◌, sym, subst, pos, Result, Ok, Err, IfOk, Some}
use Rattle.std.proofs.Math.IntN.{ℤ}
use lib.Signed.{◌<ℤ◌, ◌≤ℤ◌}
use Rattle.dsv_fraction.specs.Ratio.{Ratio}
use Rattle.dsv_word.specs.declared.format.Format.{Format}
use Rattle.dsv_delta.specs.Deltas.{Lists, delta_lists}
use Rattle.dsv_reader.specs.Controllers.{ControllerView}
use Rattle.dsv_names.specs.declared.realisation.Realisation.{Realisation}
use Rattle.dsv_quantiser.specs.declared.refusal.QuantRefusal.{QuantRefusal}
use Rattle.dsv_quantiser.specs.QuantisedView.{QuantisedView}
use Rattle.dsv_quantiser.specs.Meaning.{IsWordOf, IsInWords, IsOfDelta}

pub of_delta : (c : ControllerView) (f : Format) (k : Realisation) (delta : Ratio) (w : ℤ) (lists : Lists) (o : Result QuantisedView QuantRefusal) → c.delta ≡ Some delta → pos 0 <ℤ delta.num
    → IsWordOf f delta w → pos 1 ≤ℤ w → delta_lists c.b c.a delta ≡ Ok lists → IfOk o (IsInWords c f k lists.b lists.a w) → IfOk o (IsOfDelta c f k)
of_delta c f k delta w lists (Ok q) exact positive word least converted is =
    let same : w ≡ q.delta = sym is.same_delta in
    let P : ℤ → Type 0 = λ z. IsWordOf f delta z in
    let Q : ℤ → Type 0 = λ z. pos 1 ≤ℤ z in
    let R : ℤ → Type 0 = λ z. IsInWords c f k lists.b lists.a z q in
    record {
      delta = delta;
      exact = exact;
      positive = positive;
      word = subst P same word;
      positive_word = subst Q same least;
      lists = lists;
      converted = converted;
      words = subst R same is;
    }
of_delta c f k delta w lists (Err e) exact positive word least converted is = is
