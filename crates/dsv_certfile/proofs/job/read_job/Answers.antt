use Rattle.std.proofs.Common.{◌≡◌, ◌∙◌, sym, ap, drop, Ok, Err, rules}
use Rattle.dsv_names.specs.Names.{value_named}
use Rattle.dsv_names.specs.Properties.{property_name, properties}
use Rattle.dsv_names.specs.Realisations.{realisation_name, realisations}
use Rattle.dsv_names.specs.Roundings.{rounding_name, roundings}
use Rattle.dsv_names.specs.OverflowModes.{overflow_mode_name, overflow_modes}
use Rattle.dsv_certfile.specs.Headings.{beginning, name_in, or_kind, size_in}
use Rattle.dsv_certfile.specs.Keywords.{keyword_text}
use Rattle.dsv_lines.specs.Pieces.{pieces_of, piece_at}
use Rattle.dsv_lines.proofs.PieceLemmas.{drop_more, piece_from}
use Rattle.dsv_certfile.specs.declared.keyword.Keyword.TheVariants as keyword
use Rattle.dsv_certfile.proofs.HeadingLemmas.{no_mode, no_size, whole_job}
use Rattle.dsv_certfile.proofs.job.read_job.Goals as goal

pub returns-in_err-overflow : goal.returns-in_err-overflow
returns-in_err-overflow c =
    let ps = pieces_of c.args.line.now in
    let d0 : c.new-pieces.result ≡ ps = c.new-pieces.ensures in
    let d1 : c.begin.new.pieces ≡ drop 1 ps = c.in_ok-begin.ensures.rest ∙ ap (drop 1) d0 in
    let d2 : c.next_named.new.pieces ≡ drop 2 ps = c.in_ok-property.ensures.rest ∙ ap (drop 1) d1 ∙ drop_more 1 ps in
    let d3 : c.next_named-2.new.pieces ≡ drop 3 ps = c.in_ok-realisation.ensures.rest ∙ ap (drop 1) d2 ∙ drop_more 2 ps in
    let d4 : c.next_named-3.new.pieces ≡ drop 4 ps = c.in_ok-rounding.ensures.rest ∙ ap (drop 1) d3 ∙ drop_more 3 ps in
    let b : beginning (keyword_text keyword.Job) ps ≡ Ok tt = ap (beginning (keyword_text keyword.Job)) (sym d0) ∙ sym c.in_ok-begin.ensures.answer in
    let n1 : name_in property_name properties ps 1 ≡ Ok c.in_ok-property.property =
    ap (λ piece. or_kind (value_named property_name properties piece)) (sym (piece_from 1 ps) ∙ ap (λ qs. piece_at qs 0) (sym d1)) ∙ sym c.in_ok-property.ensures.answer in
    let n2 : name_in realisation_name realisations ps 2 ≡ Ok c.in_ok-realisation.realisation =
    ap (λ piece. or_kind (value_named realisation_name realisations piece)) (sym (piece_from 2 ps) ∙ ap (λ qs. piece_at qs 0) (sym d2)) ∙ sym c.in_ok-realisation.ensures.answer in
    let n3 : name_in rounding_name roundings ps 3 ≡ Ok c.in_ok-rounding.rounding =
    ap (λ piece. or_kind (value_named rounding_name roundings piece)) (sym (piece_from 3 ps) ∙ ap (λ qs. piece_at qs 0) (sym d3)) ∙ sym c.in_ok-rounding.ensures.answer in
    let n4 : name_in overflow_mode_name overflow_modes ps 4 ≡ Err c.in_err-overflow.field-0.0 =
    ap (λ piece. or_kind (value_named overflow_mode_name overflow_modes piece)) (sym (piece_from 4 ps) ∙ ap (λ qs. piece_at qs 0) (sym d4)) ∙ sym c.in_err-overflow.ensures.answer in
    let e = no_mode (beginning (keyword_text keyword.Job) ps) (name_in property_name properties ps 1) (name_in realisation_name realisations ps 2) (name_in rounding_name roundings ps 3) (name_in overflow_mode_name overflow_modes ps 4) (size_in (drop 5 ps)) c.in_ok-property.property c.in_ok-realisation.realisation c.in_ok-rounding.rounding c.in_err-overflow.field-0.0 b n1 n2 n3 n4 in
    let r : c.from_residual-in_err-overflow.result ≡ Err c.in_err-overflow.field-0.0 = search rules in
    r ∙ sym e

pub returns-in_err-size : goal.returns-in_err-size
returns-in_err-size c =
    let ps = pieces_of c.args.line.now in
    let d0 : c.new-pieces.result ≡ ps = c.new-pieces.ensures in
    let d1 : c.begin.new.pieces ≡ drop 1 ps = c.in_ok-begin.ensures.rest ∙ ap (drop 1) d0 in
    let d2 : c.next_named.new.pieces ≡ drop 2 ps = c.in_ok-property.ensures.rest ∙ ap (drop 1) d1 ∙ drop_more 1 ps in
    let d3 : c.next_named-2.new.pieces ≡ drop 3 ps = c.in_ok-realisation.ensures.rest ∙ ap (drop 1) d2 ∙ drop_more 2 ps in
    let d4 : c.next_named-3.new.pieces ≡ drop 4 ps = c.in_ok-rounding.ensures.rest ∙ ap (drop 1) d3 ∙ drop_more 3 ps in
    let d5 : c.next_named-4.new.pieces ≡ drop 5 ps = c.in_ok-overflow.ensures.rest ∙ ap (drop 1) d4 ∙ drop_more 4 ps in
    let b : beginning (keyword_text keyword.Job) ps ≡ Ok tt = ap (beginning (keyword_text keyword.Job)) (sym d0) ∙ sym c.in_ok-begin.ensures.answer in
    let n1 : name_in property_name properties ps 1 ≡ Ok c.in_ok-property.property =
    ap (λ piece. or_kind (value_named property_name properties piece)) (sym (piece_from 1 ps) ∙ ap (λ qs. piece_at qs 0) (sym d1)) ∙ sym c.in_ok-property.ensures.answer in
    let n2 : name_in realisation_name realisations ps 2 ≡ Ok c.in_ok-realisation.realisation =
    ap (λ piece. or_kind (value_named realisation_name realisations piece)) (sym (piece_from 2 ps) ∙ ap (λ qs. piece_at qs 0) (sym d2)) ∙ sym c.in_ok-realisation.ensures.answer in
    let n3 : name_in rounding_name roundings ps 3 ≡ Ok c.in_ok-rounding.rounding =
    ap (λ piece. or_kind (value_named rounding_name roundings piece)) (sym (piece_from 3 ps) ∙ ap (λ qs. piece_at qs 0) (sym d3)) ∙ sym c.in_ok-rounding.ensures.answer in
    let n4 : name_in overflow_mode_name overflow_modes ps 4 ≡ Ok c.in_ok-overflow.overflow =
    ap (λ piece. or_kind (value_named overflow_mode_name overflow_modes piece)) (sym (piece_from 4 ps) ∙ ap (λ qs. piece_at qs 0) (sym d4)) ∙ sym c.in_ok-overflow.ensures.answer in
    let s : size_in (drop 5 ps) ≡ Err c.in_err-size.field-0.0 = ap size_in (sym d5) ∙ sym c.in_err-size.ensures in
    let e = no_size (beginning (keyword_text keyword.Job) ps) (name_in property_name properties ps 1) (name_in realisation_name realisations ps 2) (name_in rounding_name roundings ps 3) (name_in overflow_mode_name overflow_modes ps 4) (size_in (drop 5 ps)) c.in_ok-property.property c.in_ok-realisation.realisation c.in_ok-rounding.rounding c.in_ok-overflow.overflow c.in_err-size.field-0.0 b n1 n2 n3 n4 s in
    let r : c.from_residual-in_err-size.result ≡ Err c.in_err-size.field-0.0 = search rules in
    r ∙ sym e

pub returns : goal.returns
returns c =
    let ps = pieces_of c.args.line.now in
    let d0 : c.new-pieces.result ≡ ps = c.new-pieces.ensures in
    let d1 : c.begin.new.pieces ≡ drop 1 ps = c.in_ok-begin.ensures.rest ∙ ap (drop 1) d0 in
    let d2 : c.next_named.new.pieces ≡ drop 2 ps = c.in_ok-property.ensures.rest ∙ ap (drop 1) d1 ∙ drop_more 1 ps in
    let d3 : c.next_named-2.new.pieces ≡ drop 3 ps = c.in_ok-realisation.ensures.rest ∙ ap (drop 1) d2 ∙ drop_more 2 ps in
    let d4 : c.next_named-3.new.pieces ≡ drop 4 ps = c.in_ok-rounding.ensures.rest ∙ ap (drop 1) d3 ∙ drop_more 3 ps in
    let d5 : c.next_named-4.new.pieces ≡ drop 5 ps = c.in_ok-overflow.ensures.rest ∙ ap (drop 1) d4 ∙ drop_more 4 ps in
    let b : beginning (keyword_text keyword.Job) ps ≡ Ok tt = ap (beginning (keyword_text keyword.Job)) (sym d0) ∙ sym c.in_ok-begin.ensures.answer in
    let n1 : name_in property_name properties ps 1 ≡ Ok c.in_ok-property.property =
    ap (λ piece. or_kind (value_named property_name properties piece)) (sym (piece_from 1 ps) ∙ ap (λ qs. piece_at qs 0) (sym d1)) ∙ sym c.in_ok-property.ensures.answer in
    let n2 : name_in realisation_name realisations ps 2 ≡ Ok c.in_ok-realisation.realisation =
    ap (λ piece. or_kind (value_named realisation_name realisations piece)) (sym (piece_from 2 ps) ∙ ap (λ qs. piece_at qs 0) (sym d2)) ∙ sym c.in_ok-realisation.ensures.answer in
    let n3 : name_in rounding_name roundings ps 3 ≡ Ok c.in_ok-rounding.rounding =
    ap (λ piece. or_kind (value_named rounding_name roundings piece)) (sym (piece_from 3 ps) ∙ ap (λ qs. piece_at qs 0) (sym d3)) ∙ sym c.in_ok-rounding.ensures.answer in
    let n4 : name_in overflow_mode_name overflow_modes ps 4 ≡ Ok c.in_ok-overflow.overflow =
    ap (λ piece. or_kind (value_named overflow_mode_name overflow_modes piece)) (sym (piece_from 4 ps) ∙ ap (λ qs. piece_at qs 0) (sym d4)) ∙ sym c.in_ok-overflow.ensures.answer in
    let s : size_in (drop 5 ps) ≡ Ok c.in_ok-size.size = ap size_in (sym d5) ∙ sym c.in_ok-size.ensures in
    sym (whole_job (beginning (keyword_text keyword.Job) ps) (name_in property_name properties ps 1) (name_in realisation_name realisations ps 2) (name_in rounding_name roundings ps 3) (name_in overflow_mode_name overflow_modes ps 4) (size_in (drop 5 ps)) c.in_ok-property.property c.in_ok-realisation.realisation c.in_ok-rounding.rounding c.in_ok-overflow.overflow c.in_ok-size.size b n1 n2 n3 n4 s)
