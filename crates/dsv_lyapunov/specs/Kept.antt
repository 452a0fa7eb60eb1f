-- Offers that are refused.
use Rattle.std.specs.Prelude.{◌≡◌, List, [], ◌∷◌, Some, ℤ}
use Rattle.dsv_lyapunov.specs.declared.kept.KeptForm.{KeptForm}
use Rattle.dsv_lyapunov.specs.Answers.{offer_refusal}

-- the check refuses the offer, and so
abbrev pub IsRefused : List ℤ → KeptForm → Type 0
IsRefused poly kept = offer_refusal poly kept.offer ≡ Some kept.refusal

abbrev pub AreRefused : List ℤ → List KeptForm → Type 0
AreRefused poly [] = Unit {0}
AreRefused poly (kept ∷ others) = IsRefused poly kept × AreRefused poly others
