-- The file of a plant: what the grammar allows is read, and what is read is in the grammar.
use Rattle.std.proofs.Common.{◌≡◌, ℕ, false, List, [], ◌∷◌, refl, sym, ap, subst, ◌∙◌}
use Rattle.std.specs.Prelude.{Ok}
use Rattle.dsv_names.specs.declared.block.Block.{Block}
use Rattle.dsv_names.specs.declared.block.Block.TheVariants as block
use Rattle.dsv_token.specs.declared.token.Token.{Token}
use Rattle.dsv_syntax.specs.declared.entry.Entry.{Entry}
use Rattle.dsv_syntax.specs.declared.parser.Place.TheVariants as place
use Rattle.dsv_syntax.specs.declared.parsing.Syntax.{Syntax}
use Rattle.dsv_syntax.specs.Parsing.{is_closed, with_close, plant_closed, parsed_from, plant_syntax_of}
use Rattle.dsv_syntax.specs.Grammar.{IsBlock, IsPlantFile}
use Rattle.dsv_syntax.proofs.States.{between}
use Rattle.dsv_syntax.proofs.ReadLemmas.{block_read}
use Rattle.dsv_syntax.proofs.TakenLemmas.{declaration_by}

pub plant_read : (end : ℕ) (ts : List Token) (s : Syntax) → IsPlantFile end ts s → plant_syntax_of end ts ≡ Ok s
plant_read end ts s h =
    block_read block.System ts s.entries s.system [] h.only end block.System (plant_closed end) [] refl
    ∙ ap (λ x. Ok (record { entries = s.entries; system = s.system; implementation = x })) (sym h.place)

-- after the block of a plant's file all blocks stood
pub no_more : (end at : ℕ) (b : Block) → is_closed b (with_close block.System at (plant_closed end)) ≡ false → ⊥
no_more end at block.System e = absurd (cc)
no_more end at block.Implementation e = absurd (cc)
no_more end at block.Hardware e = absurd (cc)

plant_ends : (end at : ℕ) (ts : List Token) (fs : List Entry) (rest : List Token) (out : Syntax) → IsBlock block.System ts fs at rest →
    parsed_from end (between place.Declaration block.System (with_close block.System at (plant_closed end)) fs) rest ≡ Ok out → IsPlantFile end ts out
plant_ends end at ts fs [] out g e =
    let same : ◌≡◌ {A = Syntax} (record { entries = fs; system = at; implementation = end }) out = cc in
    subst (IsPlantFile end ts) same (record { only = g; place = refl })
plant_ends end at ts fs (t ∷ r) out g e =
    let more = declaration_by end block.System (with_close block.System at (plant_closed end)) fs t r out t.kind refl e in
    absurd (no_more end at more.b more.free)

plant_begins : (end : ℕ) (ts : List Token) (out : Syntax) (b : Block) (fs : List Entry) (at : ℕ) (rest : List Token) → is_closed b (plant_closed end) ≡ false →
    IsBlock b ts fs at rest → parsed_from end (between place.Declaration b (with_close b at (plant_closed end)) fs) rest ≡ Ok out → IsPlantFile end ts out
plant_begins end ts out block.System fs at rest free g e = plant_ends end at ts fs rest out g e
plant_begins end ts out block.Implementation fs at rest free g e = absurd (cc)
plant_begins end ts out block.Hardware fs at rest free g e = absurd (cc)

pub plant_taken : (end : ℕ) (ts : List Token) (s : Syntax) → plant_syntax_of end ts ≡ Ok s → IsPlantFile end ts s
plant_taken end [] s h = absurd (cc)
plant_taken end (t ∷ r) s h =
    let b = declaration_by end block.System (plant_closed end) [] t r s t.kind refl h in
    plant_begins end (t ∷ r) s b.b b.fs b.at b.rest b.free b.grammar b.goes_on
