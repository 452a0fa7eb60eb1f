-- The written equations of sections in series, and of one section more.
use Rattle.std.proofs.Common.{◌≡◌, suc, ◌+◌, List, [], ◌∷◌, ◌++◌, length, take, drop, refl, sym, ap, ◌∙◌, arith, append_assoc, length-drop}
use Rattle.std.proofs.Math.IntN.{ℤ}
use Rattle.std.proofs.lemmas.List.{append-nil, take-take, take_all, drop-drop, drop-take}
use Rattle.dsv_word.specs.declared.format.Format.{Format}
use Rattle.dsv_quantiser.specs.QuantisedView.{QuantisedView}
use Rattle.dsv_system.specs.Systems.{System, behaviour_of, Agree}
use Rattle.dsv_meaning.specs.Equations.{Past}
use Rattle.dsv_meaning.specs.Systems.{equations_of}
use Rattle.dsv_cascade.specs.Cascades.{section_then, sections_sample, sections_registers, sections_start, sections_many}
use Rattle.dsv_cascade.proofs.Series.{series, series_sample, sampled_as, maps_alike}

-- sections as a system, in this format
abbrev pub sections_system : Format → List QuantisedView → System (List Past)
sections_system f qs = record {
  start = sections_start qs;
  sample = sections_sample qs;
  registers = sections_registers qs;
  many = sections_many qs;
  forward = 0;
  format = f;
}

-- the past of one section more stands last
abbrev with_past : List Past × Past → List Past
with_past p = p.0 ++ p.1 ∷ []

sections_many-push : (qs : List QuantisedView) (q : QuantisedView) → sections_many (qs ++ q ∷ []) ≡ sections_many qs + (equations_of q).many
sections_many-push [] q = omega arith
sections_many-push (o ∷ qs) q = omega (arith, sections_many-push qs q)

-- ---- the start
length-sections_start : (qs : List QuantisedView) (words : List ℤ) → length (sections_start qs words) ≡ length qs
length-sections_start [] words = refl
length-sections_start (q ∷ qs) words = ap suc (length-sections_start qs (drop (equations_of q).many words))

sections_start-push : (qs : List QuantisedView) (q : QuantisedView) (words : List ℤ) → length words ≡ sections_many qs + (equations_of q).many
    → sections_start (qs ++ q ∷ []) words ≡ with_past (sections_start qs (take (sections_many qs) words), (equations_of q).start (drop (sections_many qs) words))
sections_start-push [] q words l = ap (λ (w : List ℤ). (equations_of q).start w ∷ []) (take_all (equations_of q).many words (omega arith))
sections_start-push (o ∷ qs) q words l =
    let m = (equations_of o).many in
    let k = sections_many qs in
    rw (take-take m (m + k) words (omega arith), drop-take m k words, ← drop-drop k m words)
    (ap (λ (ps : List Past). (equations_of o).start (take m words) ∷ ps) (sections_start-push qs q (drop m words) (omega (arith, length-drop m words))))

-- ---- a sample
length-sections_sample : (qs : List QuantisedView) (pasts : List Past) (x : ℤ) → length pasts ≡ length qs → length (sections_sample qs pasts x).past ≡ length qs
length-sections_sample [] pasts x l = refl
length-sections_sample (q ∷ qs) [] x l = absurd (omega arith)
length-sections_sample (q ∷ qs) (p ∷ ps) x l = ap suc (length-sections_sample qs ps ((equations_of q).sample p x).y (omega arith))

sections_sample-push : (qs : List QuantisedView) (q : QuantisedView) (pasts : List Past) (past : Past) (x : ℤ) → length pasts ≡ length qs
    → sections_sample (qs ++ q ∷ []) (pasts ++ past ∷ []) x ≡ sampled_as with_past (series_sample (sections_sample qs) (equations_of q).sample (pasts, past) x)
sections_sample-push [] q [] past x l = let t = (equations_of q).sample past x in ap (λ (e : List ℤ). record { y = t.y; exact = e; past = t.past ∷ [] }) (append-nil t.exact)
sections_sample-push [] q (p ∷ ps) past x l = absurd (omega arith)
sections_sample-push (o ∷ qs) q [] past x l = absurd (omega arith)
sections_sample-push (o ∷ qs) q (p ∷ ps) past x l =
    let s = (equations_of o).sample p x in
    let r = sections_sample qs ps s.y in
    let t = (equations_of q).sample past r.y in
    ap (section_then s) (sections_sample-push qs q ps past s.y (omega arith))
    ∙ ap (λ (e : List ℤ). record { y = t.y; exact = e; past = s.past ∷ (r.past ++ t.past ∷ []) }) (sym (append_assoc s.exact r.exact t.exact))

-- ---- registers
sections_registers-push : (qs : List QuantisedView) (q : QuantisedView) (pasts : List Past) (past : Past) → length pasts ≡ length qs
    → sections_registers (qs ++ q ∷ []) (pasts ++ past ∷ []) ≡ sections_registers qs pasts ++ (equations_of q).registers past
sections_registers-push [] q [] past l = append-nil ((equations_of q).registers past)
sections_registers-push [] q (p ∷ ps) past l = absurd (omega arith)
sections_registers-push (o ∷ qs) q [] past l = absurd (omega arith)
sections_registers-push (o ∷ qs) q (p ∷ ps) past l =
    let r = (equations_of o).registers p in
    ap (λ (w : List ℤ). r ++ w) (sections_registers-push qs q ps past (omega arith)) ∙ sym (append_assoc r (sections_registers qs ps) ((equations_of q).registers past))

pub sections_push : (f : Format) (qs : List QuantisedView) (q : QuantisedView) → Agree (behaviour_of (series (sections_system f qs) (equations_of q))) (behaviour_of (sections_system f (qs ++ q ∷ [])))
sections_push f qs q =
    maps_alike (List Past × Past) (List Past) (series (sections_system f qs) (equations_of q)) (sections_system f (qs ++ q ∷ [])) with_past (λ p. length p.0 ≡ length qs) (record {
      many = sym (sections_many-push qs q);
      forward = refl;
      format = refl;
      start = λ words l. sections_start-push qs q words (l ∙ sections_many-push qs q);
      begins = λ words l. length-sections_start qs (take (sections_many qs) words);
      sample = λ p x l. sections_sample-push qs q p.0 p.1 x l;
      stays = λ p x l. length-sections_sample qs p.0 x l;
      registers = λ p l. sections_registers-push qs q p.0 p.1 l;
    })
