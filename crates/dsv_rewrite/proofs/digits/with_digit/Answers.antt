use Rattle.std.proofs.Common.{ℕ, refl, ap, ◌∙◌}
use Rattle.dsv_term.specs.Terms.{width_of}
use Rattle.dsv_rewrite.specs.Digits.{shifted_term}
use Rattle.dsv_rewrite.specs.Ready.{copies_of}
use Rattle.dsv_rewrite.proofs.MultipleRules.{copy_stands}
use Rattle.dsv_rewrite.proofs.digits.with_digit.Goals as goal

pub with_taken-requires-clause-sound : goal.with_taken-requires-clause-sound
with_taken-requires-clause-sound c =
    let r = c.requires in
    let t = c.args.terms.now in
    let a = c.args.a in
    (copy_stands t c.shifted_term.new.terms c.in_ok-copy-in-Minus.copy a (copies_of c.args.copies) (width_of t a) c.args.shift r.sound r.stands refl r.inside r.copies
    (c.in_ok-copy-in-Minus.ensures ∙ ap (λ (w : ℕ). shifted_term t w c.args.shift a) c.width-width.ensures.width)).sound

pub with_taken-requires-clause-stands : goal.with_taken-requires-clause-stands
with_taken-requires-clause-stands c =
    let r = c.requires in
    let t = c.args.terms.now in
    let a = c.args.a in
    (copy_stands t c.shifted_term.new.terms c.in_ok-copy-in-Minus.copy a (copies_of c.args.copies) (width_of t a) c.args.shift r.sound r.stands refl r.inside r.copies
    (c.in_ok-copy-in-Minus.ensures ∙ ap (λ (w : ℕ). shifted_term t w c.args.shift a) c.width-width.ensures.width)).stands

pub with_taken-requires-clause-copies : goal.with_taken-requires-clause-copies
with_taken-requires-clause-copies c =
    let r = c.requires in
    let t = c.args.terms.now in
    let a = c.args.a in
    (copy_stands t c.shifted_term.new.terms c.in_ok-copy-in-Minus.copy a (copies_of c.args.copies) (width_of t a) c.args.shift r.sound r.stands refl r.inside r.copies
    (c.in_ok-copy-in-Minus.ensures ∙ ap (λ (w : ℕ). shifted_term t w c.args.shift a) c.width-width.ensures.width)).copies

pub with_added-requires-clause-sound : goal.with_added-requires-clause-sound
with_added-requires-clause-sound c =
    let r = c.requires in
    let t = c.args.terms.now in
    let a = c.args.a in
    (copy_stands t c.shifted_term-in-Plus.new.terms c.in_ok-copy-in-Plus.copy a (copies_of c.args.copies) (width_of t a) c.args.shift r.sound r.stands refl r.inside r.copies
    (c.in_ok-copy-in-Plus.ensures ∙ ap (λ (w : ℕ). shifted_term t w c.args.shift a) c.width-width.ensures.width)).sound

pub with_added-requires-clause-stands : goal.with_added-requires-clause-stands
with_added-requires-clause-stands c =
    let r = c.requires in
    let t = c.args.terms.now in
    let a = c.args.a in
    (copy_stands t c.shifted_term-in-Plus.new.terms c.in_ok-copy-in-Plus.copy a (copies_of c.args.copies) (width_of t a) c.args.shift r.sound r.stands refl r.inside r.copies
    (c.in_ok-copy-in-Plus.ensures ∙ ap (λ (w : ℕ). shifted_term t w c.args.shift a) c.width-width.ensures.width)).stands

pub with_added-requires-clause-copies : goal.with_added-requires-clause-copies
with_added-requires-clause-copies c =
    let r = c.requires in
    let t = c.args.terms.now in
    let a = c.args.a in
    (copy_stands t c.shifted_term-in-Plus.new.terms c.in_ok-copy-in-Plus.copy a (copies_of c.args.copies) (width_of t a) c.args.shift r.sound r.stands refl r.inside r.copies
    (c.in_ok-copy-in-Plus.ensures ∙ ap (λ (w : ℕ). shifted_term t w c.args.shift a) c.width-width.ensures.width)).copies
