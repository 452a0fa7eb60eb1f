-- Lists of tests, and the first one that refuses.
use Rattle.std.proofs.Common.{◌≡◌, Bool, true, false, List, [], ◌∷◌, ◌++◌, Option, Some, None, Result, refl, sym, ap, ◌∙◌}
use Rattle.dsv_forms.specs.Refusals.{first_of, refusal_of}
use Rattle.dsv_forms.proofs.Places.{first_of-append}
use Rattle.dsv_ellipsoid.specs.declared.refusal.EllipsoidRefusal.{EllipsoidRefusal}
use Rattle.dsv_ellipsoid.specs.Refusals.{Test}

-- a test and what follows
pub test_stops : (t : Test) (ts : List Test) (e : EllipsoidRefusal) → first_of (t ∷ []) ≡ Some e → first_of (t ∷ ts) ≡ Some e
test_stops (true, r) ts e h = h
test_stops (false, r) ts e h = cc

pub test_passes : (t : Test) (ts : List Test) → first_of (t ∷ []) ≡ None → first_of (t ∷ ts) ≡ first_of ts
test_passes (true, r) ts h = cc
test_passes (false, r) ts h = refl

pub tests_stop : (ts us : List Test) (e : EllipsoidRefusal) → first_of ts ≡ Some e → first_of (ts ++ us) ≡ Some e
tests_stop ts us e h = first_of-append ts us ∙ rw h refl

pub tests_pass : (ts us : List Test) → first_of ts ≡ None → first_of (ts ++ us) ≡ first_of us
tests_pass ts us h = first_of-append ts us ∙ rw h refl

-- a test's answer, by what was tested
pub test_is : {T : Type 0} (r : Result T EllipsoidRefusal) (why : EllipsoidRefusal) (o : Option EllipsoidRefusal) (b c : Bool) → b ≡ c → refusal_of r ≡ first_of ((b, why) ∷ []) → refusal_of r ≡ o → first_of ((c, why) ∷ []) ≡ o
test_is r why o b c e h is = ap (λ t. first_of ((t, why) ∷ [])) (sym e) ∙ sym h ∙ is

pub ruleset single_tests = (test_stops, test_passes)

pub ruleset test_lists = (test_stops, test_passes, tests_stop, tests_pass)
