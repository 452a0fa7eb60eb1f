-- What the term of a value that is fitted as the format has it adds, and which number it spells.
use Rattle.std.proofs.Common.{◌≡◌, ℕ, ◌+◌, ◌-◌, ◌<◌, ◌≤◌, cond, List, refl, arith, ap, sym, subst, ◌∙◌, length}
use Rattle.std.specs.Prelude.{int_lt}
use Rattle.std.proofs.Math.IntN.{ℤ}
use Rattle.std.proofs.lemmas.Int.{ints}
use Rattle.std.proofs.lemmas.Nat.{pow_pos}
use Rattle.dsv_names.specs.declared.overflow_mode.OverflowMode.{OverflowMode}
use Rattle.dsv_names.specs.declared.overflow_mode.OverflowMode.TheVariants as overflow_mode
use Rattle.dsv_word.specs.Words.{lo, hi, fit, wrapped_word, saturated_word}
use Rattle.dsv_word.proofs.Meanings.{wrapped_is, saturated_is}
use Rattle.dsv_term.specs.declared.node.TermId.{TermId}
use Rattle.dsv_term.specs.declared.node.TermNode.TheVariants.{Constant, Slt, Extract, Ite}
use Rattle.dsv_term.specs.declared.word.Word.{Word}
use Rattle.dsv_term.specs.Building.{Built, with_node}
use Rattle.dsv_term.specs.Growth.{AreSound, Adds}
use Rattle.dsv_term.specs.Terms.{width_of, word_of}
use Rattle.dsv_term.specs.TermsView.{TermsView}
use Rattle.dsv_term.specs.Word.{residue, bit_of, signed_less_of, choice_of, extract_of}
use Rattle.dsv_term.proofs.Words.{residue_fits}
use Rattle.dsv_term.proofs.Made.{KeepsTerms-both}
use Rattle.dsv_term.proofs.Building.{Adds-width, later, stands-width, constant_gives, signed_less_gives, extract_gives, choice_gives}
use Rattle.dsv_term.proofs.Complement.{IsSpelled, spelled, wider_spelled, low-spelled, signed_less-spelled, choice-spelled, residue-turn}
use Rattle.dsv_unroll.specs.Rules.{word_term, saturated_term}
use Rattle.dsv_unroll.proofs.RuleTerms.{Spells}

pub record FitsWord (t : TermsView) (of : TermId) (n : ℕ) (mode : OverflowMode) (b : Built) : Type 0 where
  pub adds : Adds t b.terms b.id (width_of b.terms b.id)
  pub narrow : width_of b.terms b.id ≤ n
  pub spells : (values : List ℕ) (z : ℤ) → Spells t values of (width_of t of) z → Spells b.terms values b.id (width_of b.terms b.id) (fit mode n z)

low_word : (n : ℕ) → IsSpelled n (lo n)
low_word n = let p = pow_pos (n - 1) in record { low = omega (arith, ints); high = omega (arith, ints) }

high_word : (n : ℕ) → IsSpelled n (hi n)
high_word n = let p = pow_pos (n - 1) in record { low = omega (arith, ints); high = omega (arith, ints) }

saturated_spelled : (n : ℕ) (z : ℤ) → IsSpelled n (saturated_word n z)
saturated_spelled n z = let w = saturated_is n z in let l = w.low in let h = w.high in record { low = l; high = omega (arith, ints) }

pub wrapped_spelled : (n : ℕ) (z : ℤ) → 1 ≤ n → IsSpelled n (wrapped_word n z)
wrapped_spelled n z p = let w = wrapped_is n z p in let l = w.low in let h = w.high in record { low = l; high = omega (arith, ints) }

pub wrapped_residue : (n : ℕ) (z : ℤ) → 1 ≤ n → residue n z ≡ residue n (wrapped_word n z)
wrapped_residue n z p = let w = wrapped_is n z p in ap (residue n) w.turns.1 ∙ residue-turn n (wrapped_word n z) w.turns.0

pub wrap_fits : (t : TermsView) (of : TermId) (n : ℕ) → AreSound t → of.0 < length t.nodes → 1 ≤ n → n ≤ width_of t of → FitsWord t of n overflow_mode.Wrap (with_node t (Extract of (n - 1) 0))
wrap_fits t of n s h p l =
    let w = width_of t of in
    let b = with_node t (Extract of (n - 1) 0) in
    let g = extract_gives t of (n - 1) 0 s h (omega arith) (omega arith) in
    let m : n - 1 + 1 - 0 ≡ n = omega arith in
    let e : n ≡ width_of b.terms b.id = sym (g.adds.width ∙ m) in
    record {
      adds = Adds-width t b.terms b.id (n - 1 + 1 - 0) (width_of b.terms b.id) g.adds (sym g.adds.width);
      narrow = omega (arith, e);
      spells = λ values z q.
          let ww : word_of b.terms values b.id ≡ spelled n (wrapped_word n z) =
          g.word values ∙ (ap (extract_of (n - 1) 0) q.word ∙ (low-spelled n w z p l ∙ ap (λ (k : ℕ). record { width = n; number = k }) (wrapped_residue n z p))) in
          subst (λ (i : ℕ). Spells b.terms values b.id i (wrapped_word n z)) e (record { word = ww; fits = wrapped_spelled n z p });
    }

pub saturate_fits : (t : TermsView) (of : TermId) (n : ℕ) → AreSound t → of.0 < length t.nodes → 1 ≤ n → n ≤ width_of t of → FitsWord t of n overflow_mode.Saturate (saturated_term t n of)
saturate_fits t of n s h p l =
    let w = width_of t of in
    let width = stands-width t of s h in
    let a = with_node t (Constant w (residue w (lo n))) in
    let ga = constant_gives t w (residue w (lo n)) s width (residue_fits w (lo n)) in
    let b = with_node a.terms (Constant w (residue w (hi n))) in
    let gb = constant_gives a.terms w (residue w (hi n)) ga.adds.sound width (residue_fits w (hi n)) in
    let kb = KeepsTerms-both t a.terms b.terms ga.adds.kept gb.adds.kept in
    let ofb = later t b.terms of kb h in
    let ab = later a.terms b.terms a.id gb.adds.kept ga.adds.stands in
    let c = with_node b.terms (Slt of a.id) in
    let gc = signed_less_gives b.terms of a.id gb.adds.sound ofb.stands ab.stands (ofb.width ∙ sym (ab.width ∙ ga.adds.width)) in
    let ofc = later b.terms c.terms of gc.adds.kept ofb.stands in
    let bc = later b.terms c.terms b.id gc.adds.kept gb.adds.stands in
    let d = with_node c.terms (Slt b.id of) in
    let gd = signed_less_gives c.terms b.id of gc.adds.sound bc.stands ofc.stands (bc.width ∙ (gb.adds.width ∙ sym (ofc.width ∙ ofb.width))) in
    let ofd = later c.terms d.terms of gd.adds.kept ofc.stands in
    let bd = later c.terms d.terms b.id gd.adds.kept bc.stands in
    let e = with_node d.terms (Ite d.id b.id of) in
    let ge = choice_gives d.terms d.id b.id of gd.adds.sound gd.adds.stands bd.stands ofd.stands gd.adds.width (bd.width ∙ (bc.width ∙ (gb.adds.width ∙ sym (ofd.width ∙ (ofc.width ∙ ofb.width))))) in
    let ewide : width_of e.terms e.id ≡ w = ge.adds.width ∙ (bd.width ∙ (bc.width ∙ gb.adds.width)) in
    let kce = KeepsTerms-both c.terms d.terms e.terms gd.adds.kept ge.adds.kept in
    let kbe = KeepsTerms-both b.terms c.terms e.terms gc.adds.kept kce in
    let ae = later b.terms e.terms a.id kbe ab.stands in
    let ce = later c.terms e.terms c.id kce gc.adds.stands in
    let f = with_node e.terms (Ite c.id a.id e.id) in
    let gf = choice_gives e.terms c.id a.id e.id ge.adds.sound ce.stands ae.stands ge.adds.stands (ce.width ∙ gc.adds.width) (ae.width ∙ (ab.width ∙ (ga.adds.width ∙ sym ewide))) in
    let fwide : width_of f.terms f.id ≡ w = gf.adds.width ∙ (ae.width ∙ (ab.width ∙ ga.adds.width)) in
    let r = with_node f.terms (Extract f.id (n - 1) 0) in
    let gr = extract_gives f.terms f.id (n - 1) 0 gf.adds.sound gf.adds.stands (omega arith) (omega arith) in
    let m : n - 1 + 1 - 0 ≡ n = omega arith in
    let rwide : n ≡ width_of r.terms r.id = sym (gr.adds.width ∙ m) in
    let kr = KeepsTerms-both t f.terms r.terms (KeepsTerms-both t e.terms f.terms (KeepsTerms-both t b.terms e.terms kb kbe) gf.adds.kept) gr.adds.kept in
    record {
      adds = record {
        sound = gr.adds.sound;
        inputs = gr.adds.inputs ∙ (gf.adds.inputs ∙ (ge.adds.inputs ∙ (gd.adds.inputs ∙ (gc.adds.inputs ∙ (gb.adds.inputs ∙ ga.adds.inputs)))));
        kept = kr;
        stands = gr.adds.stands;
        width = refl;
      };
      narrow = omega (arith, rwide);
      spells = λ values z q.
          let some = width.some in
          let fl = wider_spelled n w (lo n) l (low_word n) in
          let fh = wider_spelled n w (hi n) l (high_word n) in
          let low = int_lt z (lo n) in
          let high = int_lt (hi n) z in
          let cw : word_of c.terms values c.id ≡ bit_of low =
          gc.word values ∙ (ap (λ (i : Word). signed_less_of i (word_of b.terms values a.id)) (ofb.word values ∙ q.word)
          ∙ (ap (signed_less_of (spelled w z)) (ab.word values ∙ ga.word values) ∙ signed_less-spelled w z (lo n) some q.fits fl)) in
          let dw : word_of d.terms values d.id ≡ bit_of high =
          gd.word values ∙ (ap (λ (i : Word). signed_less_of i (word_of c.terms values of)) (bc.word values ∙ gb.word values)
          ∙ (ap (signed_less_of (spelled w (hi n))) (ofc.word values ∙ (ofb.word values ∙ q.word)) ∙ signed_less-spelled w (hi n) z some fh q.fits)) in
          let upper = cond high (hi n) z in
          let ew : word_of e.terms values e.id ≡ spelled w upper =
          ge.word values ∙ (ap (λ (i : Word). choice_of i (word_of d.terms values b.id) (word_of d.terms values of)) dw
          ∙ (ap (λ (i : Word). choice_of (bit_of high) i (word_of d.terms values of)) (bd.word values ∙ (bc.word values ∙ gb.word values))
          ∙ (ap (choice_of (bit_of high) (spelled w (hi n))) (ofd.word values ∙ (ofc.word values ∙ (ofb.word values ∙ q.word))) ∙ choice-spelled high w (hi n) z))) in
          let fw : word_of f.terms values f.id ≡ spelled w (saturated_word n z) =
          gf.word values ∙ (ap (λ (i : Word). choice_of i (word_of e.terms values a.id) (word_of e.terms values e.id)) (ce.word values ∙ cw)
          ∙ (ap (λ (i : Word). choice_of (bit_of low) i (word_of e.terms values e.id)) (ae.word values ∙ (ab.word values ∙ ga.word values))
          ∙ (ap (choice_of (bit_of low) (spelled w (lo n))) ew ∙ choice-spelled low w (lo n) upper))) in
          let ww : word_of r.terms values r.id ≡ spelled n (saturated_word n z) =
          gr.word values ∙ (ap (extract_of (n - 1) 0) fw ∙ low-spelled n w (saturated_word n z) p l) in
          subst (λ (i : ℕ). Spells r.terms values r.id i (saturated_word n z)) rwide (record { word = ww; fits = saturated_spelled n z });
    }

pub word_fits : (mode : OverflowMode) (t : TermsView) (of : TermId) (n : ℕ) → AreSound t → of.0 < length t.nodes → 1 ≤ n → n ≤ width_of t of → FitsWord t of n mode (word_term mode t n of)
word_fits overflow_mode.Wrap t of n s h p l = wrap_fits t of n s h p l
word_fits overflow_mode.Saturate t of n s h p l = saturate_fits t of n s h p l
