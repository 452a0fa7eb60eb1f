-- A sample of the exact run of a realisation's netlist is one of its written equations.
use Rattle.std.proofs.Common.{◌≡◌, suc, ◌+◌, List, ◌∷◌, ◌++◌, length, take, drop, map, refl, sym, ap, subst, ◌∙◌, arith, length-drop}
use Rattle.std.proofs.Math.IntN.{ℤ, ◌*ℤ◌}
use Rattle.std.proofs.lemmas.List.{map-append, take_all}
use Rattle.dsv_netlist.specs.Nodes.{at}
use Rattle.dsv_names.specs.declared.realisation.Realisation.{Realisation}
use Rattle.dsv_names.specs.declared.realisation.Realisation.TheVariants.{Dfi, Dfii, Tdfii, Ddfi, Ddfii, Tddfii}
use Rattle.dsv_quantiser.specs.QuantisedView.{QuantisedView}
use Rattle.dsv_meaning.specs.Equations.{order, feedback, ago, Past, latest, registers_as}
use Rattle.dsv_realise.specs.Making.{no_places}
use Rattle.dsv_realise.specs.Netlists.{count, shift, first_form, second_form_state, second_form, transposed_form, delta_inputs, delta_outputs, net_as}
use Rattle.dsv_realise.proofs.Sources.{IsSized, counted_all, shifted_words}
use Rattle.dsv_realise.proofs.FirstForm.{pair}
use Rattle.dsv_realise.proofs.Steps.{HasRegisters}
use Rattle.dsv_realise.proofs.Conditions.{count-length}
use Rattle.dsv_roundoff.specs.Written.{AreLines, delta_lines, transposed_lines, IsSampleAs}
use Rattle.dsv_roundoff.proofs.ExactSamples.{ExactSample, value_of, AllHold, sample_with}
use Rattle.dsv_roundoff.proofs.ExactChains.{values_at, transposed_holds, delta_holds, transposed_delta_holds, lines-length, delta_lines-length, transposed_lines-length}
use Rattle.dsv_roundoff.proofs.ExactForms.{first_form_holds, second_form_holds, transposed_form_holds}

-- the sample from the registers of this past
abbrev pub sample_after : Realisation → QuantisedView → ℤ → Past → ℤ → List ℤ → ExactSample
sample_after k q d p x vs = sample_with q.format d (registers_as k (order q) p) x vs

-- a sample of the written equations whose output and new registers are the netlist's
pub record IsWrittenAs (k : Realisation) (q : QuantisedView) (d : ℤ) (p : Past) (x : ℤ) (vs : List ℤ) : Type 0 where
  pub next : Past
  pub sample : IsSampleAs k q p (d *ℤ x) (at vs (net_as k q).output) next
  pub after : map (at vs) (net_as k q).next ≡ registers_as k (order q) next
  pub good : HasRegisters k (order q) next

abbrev WritesAs : Realisation → Type 0
WritesAs k = (q : QuantisedView) (d : ℤ) (p : Past) (x : ℤ) (vs : List ℤ) → IsSized q → HasRegisters k (order q) p → AllHold (sample_after k q d p x vs) 0 (net_as k q).nodes → IsWrittenAs k q d p x vs

dfi_writes : WritesAs Dfi
dfi_writes q d p x vs z h a =
    let n = order q in
    let u = d *ℤ x in
    let place = (first_form q).place in
    let y = at vs place in
    let g = first_form_holds q (sample_after Dfi q d p x vs) p.signal p.outputs z h.0 h.1 refl a in
    let first : map (at vs) (shift 0 1 n) ≡ take n (u ∷ p.signal) = shifted_words n (at vs) 0 u 1 p.signal (g.front 0 (omega arith)) h.0 (λ i l. let e : 1 + i ≡ suc i = omega arith in g.front (1 + i) (omega arith) ∙ ap (ago (u ∷ p.signal)) e) in
    let second : map (at vs) (shift place (n + 1) n) ≡ take n (y ∷ p.outputs) = shifted_words n (at vs) place y (n + 1) p.outputs refl h.1 g.back in
    record {
      next = record p { signal = u ∷ p.signal; outputs = y ∷ p.outputs };
      sample = (g.is, refl);
      after = map-append (at vs) (shift 0 1 n) (shift place (n + 1) n) ∙ rw (first, second) refl;
      good = (omega (arith, h.0), omega (arith, h.1));
    }

dfii_writes : WritesAs Dfii
dfii_writes q d p x vs z h a =
    let n = order q in
    let place = (second_form_state q).place in
    let w = at vs place in
    let g = second_form_holds q (sample_after Dfii q d p x vs) p.signal z refl a in
    record {
      next = record p { signal = w ∷ p.signal };
      sample = (w, g.state, g.is, refl);
      after = shifted_words n (at vs) place w 1 p.signal refl h g.old;
      good = omega (arith, h);
    }

tdfii_writes : WritesAs Tdfii
tdfii_writes q d p x vs z h a =
    let s = sample_after Tdfii q d p x vs in
    let ss = latest p.chain in
    let y = transposed_form q in
    let c = transposed_holds q s 0 y.place (drop 1 q.b) (feedback q) (count 1 (order q)) (no_places y.nodes) a in
    let g = transposed_form_holds q s z h c.before in
    let yv = at vs y.place in
    let lines : transposed_lines (value_of s 0) yv (drop 1 q.b) (feedback q) (values_at s (count 1 (order q))) ≡ transposed_lines (d *ℤ x) yv (drop 1 q.b) (feedback q) ss = rw (g.input, g.old) refl in
    let are : AreLines q.format (transposed_lines (d *ℤ x) yv (drop 1 q.b) (feedback q) ss) c.values = subst (λ ls. AreLines q.format ls c.values) lines c.are in
    let many : length (feedback q) ≡ order q = z.back in
    record {
      next = record p { chain = c.values ∷ p.chain };
      sample = (c.values, g.is, are, refl);
      after = c.places;
      good = lines-length q.format (transposed_lines (d *ℤ x) yv (drop 1 q.b) (feedback q) ss) c.values are ∙ transposed_lines-length (d *ℤ x) yv (drop 1 q.b) (feedback q) ss (omega (arith, z.forward, many, length-drop 1 q.b)) ∙ many;
    }

tddfii_writes : WritesAs Tddfii
tddfii_writes q d p x vs z h a =
    let s = sample_after Tddfii q d p x vs in
    let n = order q in
    let ss = latest p.chain in
    let y = transposed_form q in
    let yv = at vs y.place in
    let many : length (feedback q) ≡ n = z.back in
    let c = transposed_delta_holds q s 0 y.place (drop 1 q.b) (feedback q) (count 1 n) (no_places y.nodes) (count-length 1 n ∙ sym many) a in
    let g = transposed_form_holds q s z h c.chain.before in
    let lines : transposed_lines (value_of s 0) yv (drop 1 q.b) (feedback q) (values_at s (count 1 n)) ≡ transposed_lines (d *ℤ x) yv (drop 1 q.b) (feedback q) ss = rw (g.input, g.old) refl in
    let changes : AreLines q.format (transposed_lines (d *ℤ x) yv (drop 1 q.b) (feedback q) ss) c.changes = subst (λ ls. AreLines q.format ls c.changes) lines c.lines_are in
    let are : AreLines q.format (delta_lines q ss c.changes) c.chain.values = subst (λ ws. AreLines q.format (delta_lines q ws c.changes) c.chain.values) g.old c.chain.are in
    let as_many : length c.changes ≡ n = lines-length q.format (transposed_lines (d *ℤ x) yv (drop 1 q.b) (feedback q) ss) c.changes changes ∙ transposed_lines-length (d *ℤ x) yv (drop 1 q.b) (feedback q) ss (omega (arith, z.forward, many, length-drop 1 q.b)) ∙ many in
    record {
      next = record p { chain = c.chain.values ∷ p.chain };
      sample = (c.changes, c.chain.values, g.is, changes, are, refl);
      after = c.chain.places;
      good = lines-length q.format (delta_lines q ss c.changes) c.chain.values are ∙ delta_lines-length q ss c.changes (omega (arith, h, as_many)) ∙ h;
    }

ddfii_writes : WritesAs Ddfii
ddfii_writes q d p x vs z h a =
    let s = sample_after Ddfii q d p x vs in
    let n = order q in
    let ws = latest p.chain in
    let w = second_form_state q in
    let c = delta_holds q s w.place (count 1 n) (no_places (second_form q).nodes) a in
    let all : take n ws ≡ ws = take_all n ws (omega (arith, h)) in
    let g = second_form_holds q s ws z (sym all) c.before in
    let wv = at vs w.place in
    let old : values_at s (count 1 n) ≡ ws = counted_all (at vs) 1 n ws h g.old in
    let are : AreLines q.format (delta_lines q ws (wv ∷ ws)) c.values = subst (λ us. AreLines q.format (delta_lines q us (wv ∷ us)) c.values) old c.are in
    record {
      next = record p { chain = c.values ∷ p.chain };
      sample = (wv, c.values, g.state, g.is, are, refl);
      after = c.places;
      good = lines-length q.format (delta_lines q ws (wv ∷ ws)) c.values are ∙ delta_lines-length q ws (wv ∷ ws) (omega arith) ∙ h;
    }

ddfi_writes : WritesAs Ddfi
ddfi_writes q d p x vs z h a =
    let s = sample_after Ddfi q d p x vs in
    let n = order q in
    let us = latest p.chain in
    let ws = latest p.output_chain in
    let y = first_form q in
    let yv = at vs y.place in
    let ki = count 1 n in
    let ko = count (n + 1) n in
    let c = delta_holds q s y.place ko (no_places (delta_inputs q).nodes) a in
    let b = delta_holds q s 0 ki (no_places y.nodes) c.before in
    let all : us ++ ws ≡ pair q us ws = let i : take n us ≡ us = take_all n us (omega (arith, h.0)) in let o : take n ws ≡ ws = take_all n ws (omega (arith, h.1)) in rw (i, o) refl in
    let g = first_form_holds q s us ws z (omega (arith, h.0)) (omega (arith, h.1)) all b.before in
    let input : at vs 0 ≡ d *ℤ x = g.front 0 (omega arith) in
    let inputs : values_at s ki ≡ us = counted_all (at vs) 1 n us h.0 (λ i l. let e : 1 + i ≡ suc i = omega arith in g.front (1 + i) (omega arith) ∙ ap (ago ((d *ℤ x) ∷ us)) e) in
    let outputs : values_at s ko ≡ ws = counted_all (at vs) (n + 1) n ws h.1 g.back in
    let b_lines : delta_lines q (values_at s ki) (at vs 0 ∷ values_at s ki) ≡ delta_lines q us ((d *ℤ x) ∷ us) = rw (inputs, input) refl in
    let b_are : AreLines q.format (delta_lines q us ((d *ℤ x) ∷ us)) b.values = subst (λ ls. AreLines q.format ls b.values) b_lines b.are in
    let c_are : AreLines q.format (delta_lines q ws (yv ∷ ws)) c.values = subst (λ vs. AreLines q.format (delta_lines q vs (yv ∷ vs)) c.values) outputs c.are in
    record {
      next = record p { chain = b.values ∷ p.chain; output_chain = c.values ∷ p.output_chain };
      sample = (b.values, c.values, g.is, b_are, c_are, refl);
      after = map-append (at vs) (delta_inputs q).places (delta_outputs q).places ∙ rw (b.places, c.places) refl;
      good = (
        lines-length q.format (delta_lines q us ((d *ℤ x) ∷ us)) b.values b_are ∙ delta_lines-length q us ((d *ℤ x) ∷ us) (omega arith) ∙ h.0,
        lines-length q.format (delta_lines q ws (yv ∷ ws)) c.values c_are ∙ delta_lines-length q ws (yv ∷ ws) (omega arith) ∙ h.1,
      );
    }

pub writes_as : (k : Realisation) → WritesAs k
writes_as Dfi = dfi_writes
writes_as Dfii = dfii_writes
writes_as Tdfii = tdfii_writes
writes_as Ddfi = ddfi_writes
writes_as Ddfii = ddfii_writes
writes_as Tddfii = tddfii_writes
