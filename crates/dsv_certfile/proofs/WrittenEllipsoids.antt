-- An ellipsoid is read back from its text.
use Rattle.std.proofs.Common.{◌≡◌, ◌∙◌, ap, ℕ, ◌+◌, ◌≤◌, List, [], ◌∷◌, ◌++◌, codes, decimal, get_or, Result, Ok, ℤ, pos, refl, arith, append_assoc}
use Rattle.std.specs.List.{All}
use Rattle.std.specs.Fmt.{signed_decimal}
use Rattle.std.proofs.lemmas.List.Elements.{All-cons, All-nil, All-append}
use Rattle.dsv_text.specs.Stages.{◌>>=◌}
use Rattle.dsv_forms.specs.declared.offers.Form.{Form}
use Rattle.dsv_forms.specs.declared.offers.Squares.{Squares}
use Rattle.dsv_lines.specs.Texts.{IsPlain}
use Rattle.dsv_lines.specs.Pieces.{unended, lines_of}
use Rattle.dsv_lines.specs.Readings.{Reading, reading_of}
use Rattle.dsv_lines.proofs.WrittenLines.{IsLine, onto_lines, lines-written}
use Rattle.dsv_lines.proofs.WrittenNumerals.{decimal_plain}
use Rattle.dsv_certfile.specs.Bodies.{line_in, numbers_of, numbers_in, word_in, form_in, squares_of, squares_in, whole_text}
use Rattle.dsv_certfile.specs.Ellipsoids.{IsLawfulEllipsoid, version_of_ellipsoid, states_places, states_in, levels_places, levels_with, levels_in, first_places, first_with, first_in, ellipsoid_with, ellipsoid_after, ellipsoid_in}
use Rattle.dsv_certfile.specs.Ellipsoids.{ellipsoid_version_line, states_line, levels_line, first_line, ellipsoid_body, ellipsoid_lines, ellipsoid_text}
use Rattle.dsv_certfile.specs.Headings.{count_at}
use Rattle.dsv_certfile.specs.Keywords.{keyword_text}
use Rattle.dsv_certfile.specs.Limits.{most_ellipsoid_states, most_squares}
use Rattle.dsv_certfile.specs.Texts.{word_line, rows_lines, squares_lines, squares_body}
use Rattle.dsv_certfile.specs.declared.ellipsoid.Ellipsoid.{Ellipsoid}
use Rattle.dsv_certfile.specs.declared.ellipsoid_reader.First.{First}
use Rattle.dsv_certfile.specs.declared.ellipsoid_reader.Levels.{Levels}
use Rattle.dsv_certfile.specs.declared.fault.TextRefusal.{TextRefusal}
use Rattle.dsv_certfile.specs.declared.keyword.Keyword.TheVariants as keyword
use Rattle.dsv_certfile.proofs.WrittenBodies.{word_plain, takes_word}
use Rattle.dsv_certfile.proofs.WrittenFalls.{takes_form, form_plain, takes_squares_of, takes_squares, body_plain, squares_plain}
use Rattle.dsv_certfile.proofs.WrittenNumbers.{whole_read, whole_plain, bound_read, bound_plain, count_read, positive_read}
use Rattle.dsv_certfile.proofs.WrittenParts.{Reader, Takes, and_read, takes_as, takes_both, takes_made, takes_line, left_at}
use Rattle.dsv_certfile.proofs.WrittenPlaces.{numbers_of-line_bytes}

-- ---- the number of states
abbrev pub version_after : Unit {0} → Reader ℕ
version_after _ ls = numbers_in states_places ls >>= λ states. Ok (reading_of (count_at states.value 0) states.left)

version_plain : IsLine ellipsoid_version_line
version_plain = All-cons IsPlain (codes "dsv-ellipsoid") (codes "1" ∷ []) refl (All-cons IsPlain (codes "1") [] refl (All-nil IsPlain))

states_plain : (d : ℕ) → d ≤ most_ellipsoid_states → IsLine (states_line d)
states_plain d h =
    All-cons IsPlain (keyword_text keyword.States) (decimal d ∷ []) refl (All-cons IsPlain (decimal d) [] (decimal_plain d (omega (arith, h))) (All-nil IsPlain))

takes_states : (d : ℕ) → 1 ≤ d → d ≤ most_ellipsoid_states → Takes states_in d (ellipsoid_version_line ∷ states_line d ∷ [])
takes_states d some h =
    takes_both (line_in version_of_ellipsoid) version_after tt d (ellipsoid_version_line ∷ []) (states_line d ∷ []) (takes_line version_of_ellipsoid ellipsoid_version_line tt refl)
    (takes_made (numbers_in states_places) (λ zs. count_at zs 0) (pos d ∷ []) (states_line d ∷ [])
    (takes_line (numbers_of states_places) (states_line d) (pos d ∷ [])
    (numbers_of-line_bytes states_places (states_line d) (pos d ∷ []) (states_plain d h) (refl, (positive_read most_ellipsoid_states d (omega arith) some h, tt)))))

-- ---- the level
abbrev levels_of : Ellipsoid → Levels
levels_of o = record { level = o.level; lambda = o.lambda; mu = o.mu }

levels_plain : (o : Ellipsoid) → IsLawfulEllipsoid o → IsLine (levels_line o)
levels_plain o h =
    let mu = signed_decimal o.mu ∷ [] in
    let from_mu = keyword_text keyword.Mu ∷ mu in
    let lambda = signed_decimal o.lambda ∷ from_mu in
    let from_lambda = keyword_text keyword.Lambda ∷ lambda in
    All-cons IsPlain (keyword_text keyword.Level) (signed_decimal o.level ∷ from_lambda) refl
    (All-cons IsPlain (signed_decimal o.level) from_lambda (whole_plain o.level h.level)
    (All-cons IsPlain (keyword_text keyword.Lambda) lambda refl
    (All-cons IsPlain (signed_decimal o.lambda) from_mu (whole_plain o.lambda h.lambda)
    (All-cons IsPlain (keyword_text keyword.Mu) mu refl
    (All-cons IsPlain (signed_decimal o.mu) [] (whole_plain o.mu h.mu) (All-nil IsPlain))))))

takes_levels : (o : Ellipsoid) → IsLawfulEllipsoid o → Takes levels_in (levels_of o) (levels_line o ∷ [])
takes_levels o h =
    let zs = o.level ∷ o.lambda ∷ o.mu ∷ [] in
    takes_made (numbers_in levels_places) levels_with zs (levels_line o ∷ [])
    (takes_line (numbers_of levels_places) (levels_line o) zs
    (numbers_of-line_bytes levels_places (levels_line o) zs (levels_plain o h)
    (refl, (whole_read o.level h.level, (refl, (whole_read o.lambda h.lambda, (refl, (whole_read o.mu h.mu, tt))))))))

-- ---- the first form
abbrev pub first_after : ℕ → List ℤ → Reader First
first_after d numbers ls =
    squares_of d (get_or numbers 3 (pos 0)) (count_at numbers 4) ls >>= λ squares. Ok (reading_of (first_with numbers squares.value) squares.left)

abbrev first_of : Ellipsoid → First
first_of o = record { kappa = o.kappa; nu = o.nu; bound = o.bound; squares = o.first }

first_line-plain : (o : Ellipsoid) → IsLawfulEllipsoid o → IsLine (first_line o)
first_line-plain o h =
    let count = decimal o.first.count ∷ [] in
    let factor = signed_decimal o.first.m ∷ count in
    let bound = signed_decimal o.bound ∷ factor in
    let nu = signed_decimal o.nu ∷ bound in
    All-cons IsPlain (keyword_text keyword.First) (signed_decimal o.kappa ∷ nu) refl
    (All-cons IsPlain (signed_decimal o.kappa) nu (whole_plain o.kappa h.kappa)
    (All-cons IsPlain (signed_decimal o.nu) bound (whole_plain o.nu h.nu)
    (All-cons IsPlain (signed_decimal o.bound) factor (bound_plain o.bound h.bound)
    (All-cons IsPlain (signed_decimal o.first.m) count (whole_plain o.first.m h.first.factor)
    (All-cons IsPlain (decimal o.first.count) [] (let few = h.first.few in decimal_plain o.first.count (omega (arith, few))) (All-nil IsPlain))))))

takes_first : (o : Ellipsoid) → IsLawfulEllipsoid o → Takes (first_in o.form.d) (first_of o) (first_line o ∷ squares_body o.form.d o.first)
takes_first o h =
    let d = o.form.d in
    let few = h.few in
    let zs = o.kappa ∷ o.nu ∷ o.bound ∷ o.first.m ∷ pos o.first.count ∷ [] in
    takes_both (numbers_in first_places) (first_after d) zs (first_of o) (first_line o ∷ []) (squares_body d o.first)
    (takes_line (numbers_of first_places) (first_line o) zs
    (numbers_of-line_bytes first_places (first_line o) zs (first_line-plain o h)
    (refl, (whole_read o.kappa h.kappa, (whole_read o.nu h.nu, (bound_read o.bound h.bound, (whole_read o.first.m h.first.factor, (count_read most_squares o.first.count (omega arith) h.first.few, tt))))))))
    (takes_made (squares_of d o.first.m o.first.count) (first_with zs) o.first (squares_body d o.first) (takes_squares_of d o.first (omega (arith, few)) h.first))

-- ---- all of it
abbrev pub ellipsoid_first : Form → Levels → Squares → First → Reader Ellipsoid
ellipsoid_first form levels step first ls =
    word_in keyword.End ls >>= λ end. Ok (reading_of (ellipsoid_with form levels step first) end.left)

abbrev pub ellipsoid_step : ℕ → Form → Levels → Squares → Reader Ellipsoid
ellipsoid_step d form levels step = and_read (first_in d) (ellipsoid_first form levels step)

abbrev pub ellipsoid_levels : ℕ → Form → Levels → Reader Ellipsoid
ellipsoid_levels d form levels = and_read (squares_in keyword.Step (d + 1)) (ellipsoid_step d form levels)

abbrev pub ellipsoid_form : ℕ → Form → Reader Ellipsoid
ellipsoid_form d form = and_read levels_in (ellipsoid_levels d form)

pub body_parts : {A : Type 0} (xs : List A) (l : A) (ss : List A) (f : A) (bs : List A) (e : A)
    → xs ++ ((l ∷ []) ++ (ss ++ ((f ∷ bs) ++ e ∷ []))) ≡ (xs ++ l ∷ (ss ++ f ∷ bs)) ++ e ∷ []
body_parts xs l ss f bs e = simp append_assoc

takes_after : (o : Ellipsoid) → IsLawfulEllipsoid o → Takes (ellipsoid_after o.form.d) o (ellipsoid_body o ++ word_line keyword.End ∷ [])
takes_after o h =
    let d = o.form.d in
    let few = h.few in
    let levels = levels_of o in
    let first = first_of o in
    let form_lines = rows_lines keyword.Form d o.form.rows in
    let step_lines = squares_lines keyword.Step (d + 1) o.step in
    let first_lines = first_line o ∷ squares_body d o.first in
    let end = word_line keyword.End ∷ [] in
    takes_as (ellipsoid_after d) o (form_lines ++ ((levels_line o ∷ []) ++ (step_lines ++ (first_lines ++ end)))) (ellipsoid_body o ++ end)
    (body_parts form_lines (levels_line o) step_lines (first_line o) (squares_body d o.first) (word_line keyword.End))
    (takes_both (form_in d) (ellipsoid_form d) o.form o form_lines ((levels_line o ∷ []) ++ (step_lines ++ (first_lines ++ end))) (takes_form o.form h.form)
    (takes_both levels_in (ellipsoid_levels d o.form) levels o (levels_line o ∷ []) (step_lines ++ (first_lines ++ end)) (takes_levels o h)
    (takes_both (squares_in keyword.Step (d + 1)) (ellipsoid_step d o.form levels) o.step o step_lines (first_lines ++ end)
    (takes_squares keyword.Step (d + 1) o.step (omega (arith, few)) h.step)
    (takes_both (first_in d) (ellipsoid_first o.form levels o.step) first o first_lines end (takes_first o h)
    (takes_made (word_in keyword.End) (λ _. ellipsoid_with o.form levels o.step first) [] end (takes_word keyword.End))))))

ellipsoid_body-plain : (o : Ellipsoid) → IsLawfulEllipsoid o → All IsLine (ellipsoid_body o)
ellipsoid_body-plain o h =
    let d = o.form.d in
    let step_lines = squares_lines keyword.Step (d + 1) o.step in
    let first_lines = first_line o ∷ squares_body d o.first in
    All-append IsLine (rows_lines keyword.Form d o.form.rows) (levels_line o ∷ (step_lines ++ first_lines)) (form_plain o.form h.form)
    (All-cons IsLine (levels_line o) (step_lines ++ first_lines) (levels_plain o h)
    (All-append IsLine step_lines first_lines (squares_plain keyword.Step (d + 1) o.step h.step)
    (All-cons IsLine (first_line o) (squares_body d o.first) (first_line-plain o h) (body_plain d o.first h.first))))

lines_plain : (o : Ellipsoid) → IsLawfulEllipsoid o → All IsLine (ellipsoid_lines o)
lines_plain o h =
    let end = word_line keyword.End ∷ [] in
    let body = ellipsoid_body o ++ end in
    All-cons IsLine ellipsoid_version_line (states_line o.form.d ∷ body) version_plain
    (All-cons IsLine (states_line o.form.d) body (states_plain o.form.d h.few)
    (All-append IsLine (ellipsoid_body o) end (ellipsoid_body-plain o h) (All-cons IsLine (word_line keyword.End) [] (word_plain keyword.End) (All-nil IsLine))))

pub written_ellipsoid : (o : Ellipsoid) → IsLawfulEllipsoid o → ellipsoid_in (ellipsoid_text o) ≡ Ok o
written_ellipsoid o h =
    let d = o.form.d in
    let heads = ellipsoid_version_line ∷ states_line d ∷ [] in
    let rest = onto_lines (ellipsoid_body o ++ word_line keyword.End ∷ []) (unended []) in
    let first = takes_states d h.some h.few rest 1 in
    let last = takes_after o h (unended []) first.0 in
    let lines : lines_of (ellipsoid_text o) ≡ onto_lines heads rest = lines-written (ellipsoid_lines o) (lines_plain o h) in
    ap (λ ls. states_in (left_at ls 1) >>= λ states. ellipsoid_after states.value states.left
    >>= λ body. whole_text body.value body.left.number body.left.lines) lines
    ∙ ap (λ (r : Result (Reading ℕ) TextRefusal). r >>= λ states. ellipsoid_after states.value states.left
    >>= λ body. whole_text body.value body.left.number body.left.lines) first.1
    ∙ ap (λ (r : Result (Reading Ellipsoid) TextRefusal). r >>= λ body. whole_text body.value body.left.number body.left.lines) last.1
