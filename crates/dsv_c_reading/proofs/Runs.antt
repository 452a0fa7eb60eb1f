-- What a machine gives over two lists, one after the other.
use Rattle.std.proofs.Common.{◌≡◌, List, [], ◌∷◌, ◌++◌, Option, Some, None, refl, sym, ap, ◌∙◌, append_assoc}
use Rattle.std.specs.Prelude.{option_map}
use Rattle.std.specs.Option.{option_and_then}
use Rattle.dsv_c_reading.specs.Machines.{Gone, gone, after_out, steps}

-- what is given in front of nothing is what is given
pub after_none : {S B : Type 0} (r : Option (Gone S B)) → r ≡ option_map (after_out []) r
after_none None = refl
after_none (Some g) = refl

after_both : {S B : Type 0} (o q : List B) (r : Option (Gone S B)) → option_map (after_out o) (option_map (after_out q) r) ≡ option_map (after_out (o ++ q)) r
after_both o q None = refl
after_both o q (Some k) = ap (λ out. Some (gone out k.state)) (sym (append_assoc o q k.out))

-- what the machine gives over a list, from what stands there
abbrev pub steps_on : {S A B : Type 0} → (S → A → Option (Gone S B)) → List A → Gone S B → Option (Gone S B)
steps_on next ys g = option_map (after_out g.out) (steps next g.state ys)

pub after_later : {S A B : Type 0} (next : S → A → Option (Gone S B)) (ys : List A) (o : List B) (r : Option (Gone S B))
    → option_map (after_out o) (option_and_then (steps_on next ys) r) ≡ option_and_then (steps_on next ys) (option_map (after_out o) r)
after_later next ys o None = refl
after_later next ys o (Some g) = after_both o g.out (steps next g.state ys)

then_later : {S A B : Type 0} (next : S → A → Option (Gone S B)) (xs ys : List A) (r : Option (Gone S B)) → ((s : S) → steps next s (xs ++ ys) ≡ option_and_then (steps_on next ys) (steps next s xs))
    → option_and_then (steps_on next (xs ++ ys)) r ≡ option_and_then (steps_on next ys) (option_and_then (steps_on next xs) r)
then_later next xs ys None h = refl
then_later next xs ys (Some g) h = ap (option_map (after_out g.out)) (h g.state) ∙ after_later next ys g.out (steps next g.state xs)

pub steps_append : {S A B : Type 0} (next : S → A → Option (Gone S B)) (s : S) (xs ys : List A) → steps next s (xs ++ ys) ≡ option_and_then (steps_on next ys) (steps next s xs)
steps_append next s [] ys = after_none (steps next s ys)
steps_append next s (x ∷ xs) ys = then_later next xs ys (next s x) (λ t. steps_append next t xs ys)

-- a list gives these from a state, and ends in that one
pub steps_then : {S A B : Type 0} (next : S → A → Option (Gone S B)) (s t u : S) (xs ys : List A) (o q : List B) → steps next s xs ≡ Some (gone o t) → steps next t ys ≡ Some (gone q u) → steps next s (xs ++ ys) ≡ Some (gone (o ++ q) u)
steps_then next s t u xs ys o q e f = steps_append next s xs ys ∙ (ap (option_and_then (steps_on next ys)) e ∙ ap (option_map (after_out o)) f)

-- the first entry gives what it gives from another state, after these
pub steps_from : {S A B : Type 0} (next : S → A → Option (Gone S B)) (s t : S) (l : List B) (x : A) (xs : List A) (o : List B) (u : S) → next s x ≡ option_map (after_out l) (next t x) → steps next t (x ∷ xs) ≡ Some (gone o u)
    → steps next s (x ∷ xs) ≡ Some (gone (l ++ o) u)
steps_from next s t l x xs o u e f = ap (option_and_then (steps_on next xs)) e ∙ (sym (after_later next xs l (next t x)) ∙ ap (option_map (after_out l)) f)

-- ---- as records
-- the machine gives `out` over the list, and then stands at t
pub record Runs {S A B : Type 0} (next : S → A → Option (Gone S B)) (s : S) (xs : List A) (out : List B) (t : S) : Type 0 where
  pub is : steps next s xs ≡ Some (gone out t)

pub runs_none : {S A B : Type 0} {next : S → A → Option (Gone S B)} (s : S) → Runs next s [] [] s
runs_none s = record { is = refl }

pub runs_more : {S A B : Type 0} {next : S → A → Option (Gone S B)} {s t u : S} {x : A} {xs : List A} {o q : List B}
    → next s x ≡ Some (gone o t) → Runs next t xs q u → Runs next s (x ∷ xs) (o ++ q) u
runs_more {next = next} {t = t} {xs = xs} {o = o} e h =
    record { is = ap (option_and_then (steps_on next xs)) e ∙ ap (option_map (after_out o)) h.is }

pub runs_append : {S A B : Type 0} {next : S → A → Option (Gone S B)} {s t u : S} {xs ys : List A} {o q : List B}
    → Runs next s xs o t → Runs next t ys q u → Runs next s (xs ++ ys) (o ++ q) u
runs_append {next = next} {s = s} {t = t} {u = u} {xs = xs} {ys = ys} {o = o} {q = q} h k =
    record { is = steps_then next s t u xs ys o q h.is k.is }
