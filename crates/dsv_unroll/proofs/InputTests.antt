-- The inputs of a goal spell words, and the tests say whether these are in range.
use Rattle.std.proofs.Common.{◌≡◌, ℕ, zero, suc, ◌+◌, ◌^◌, ◌<◌, ◌≤◌, Bool, true, false, ◌&&◌, inl, inr, List, [], ◌∷◌, ◌++◌, refl, arith, ap, sym, subst, ◌∙◌, length, get_or}
use Rattle.std.specs.Int.Bits.{and_zero_l}
use Rattle.std.specs.Prelude.{int_lt, int_le, if◌then◌else◌, slice_index, ◌≤ℤ◌}
use Rattle.std.proofs.Math.IntN.{ℤ, pos}
use Rattle.std.proofs.lemmas.Int.{ints}
use Rattle.std.proofs.lemmas.Bool.{cases_lt}
use Rattle.std.proofs.lemmas.List.{get_or_append_left, get_or_push, length_push, append-nil, append_assoc}
use Rattle.dsv_word.specs.Words.{lo, hi}
use Rattle.dsv_netlist.specs.Nodes.{at}
use Rattle.dsv_term.specs.declared.node.TermId.{TermId}
use Rattle.dsv_term.specs.declared.node.TermNode.TheVariants.{Constant, Sle, And}
use Rattle.dsv_term.specs.declared.word.Word.{Word}
use Rattle.dsv_term.specs.Building.{Built, built_of, with_node, with_new_input}
use Rattle.dsv_term.specs.Growth.{AreSound, Adds}
use Rattle.dsv_term.specs.Terms.{KeepsTerms, width_of, word_of, HasBits}
use Rattle.dsv_term.specs.TermsView.{TermsView}
use Rattle.dsv_term.specs.Word.{IsWidth, residue, signed_of, bit_of, signed_at_most_of, and_of}
use Rattle.dsv_term.proofs.Words.{residue_fits}
use Rattle.dsv_term.proofs.Made.{KeepsTerms-both}
use Rattle.dsv_term.proofs.Building.{Adds-both, Adds-none, Adds-width, KeepsTerms-self, later, new_input_gives, constant_gives, signed_at_most_gives, and_gives}
use Rattle.dsv_term.proofs.Complement.{IsSpelled, spelled, signed_reads, signed_at_most-spelled, and-bits}
use Rattle.dsv_unroll.specs.Goals.{TestTerms, with_low_test, with_high_test, value_term, InputTerms, with_input, inputs_from, conjunction_from}
use Rattle.dsv_unroll.specs.Ready.{IsValue, AreBits}
use Rattle.dsv_unroll.specs.Rules.{term_at}
use Rattle.dsv_unroll.proofs.Follows.{Means, means_later}
use Rattle.dsv_unroll.proofs.NodeTerms.{all_more}
use Rattle.dsv_unroll.proofs.SampleSteps.{bits_later}
use Rattle.dsv_unroll.proofs.ValueTerms.{value_of, value_stands, less}
use Rattle.dsv_unroll.proofs.FitTerms.{not_less}

pub bits_kept : (t u : TermsView) (id : TermId) (bits : ℕ) → KeepsTerms t u → HasBits t id bits → HasBits u id bits
bits_kept t u id bits k h = record { stands = k.longer id h.stands; width = k.widths id h.stands ∙ h.width }

pub bit_value : (t : TermsView) (id : TermId) → HasBits t id 1 → IsValue t id
bit_value t id h = record { stands = h.stands; narrow = let e = h.width in omega arith }

-- ---- tests
abbrev pub joined : Bool → List Bool → Bool
joined b [] = b
joined b (c ∷ cs) = joined (b && c) cs

joined-push : (b : Bool) (cs : List Bool) (c : Bool) → joined b (cs ++ c ∷ []) ≡ (joined b cs && c)
joined-push b [] c = refl
joined-push b (d ∷ ds) c = joined-push (b && d) ds c

and_assoc : (a b c : Bool) → ((a && b) && c) ≡ (a && (b && c))
and_assoc true b c = refl
and_assoc false b c = refl

pub joined-split : (b : Bool) (cs : List Bool) → joined b cs ≡ (b && joined true cs)
joined-split true [] = refl
joined-split false [] = refl
joined-split b (c ∷ cs) = joined-split (b && c) cs ∙ (and_assoc b c (joined true cs) ∙ ap (λ (q : Bool). b && q) (sym (joined-split c cs)))

-- the terms' words say these truths
pub record BitsMean (t : TermsView) (values : List ℕ) (ids : List TermId) (truths : List Bool) : Type 0 where
  pub count : length truths ≡ length ids
  pub each : (i : ℕ) → i < length ids → word_of t values (term_at ids i) ≡ bit_of (get_or truths i false)

pub no_bits_mean : (t : TermsView) (values : List ℕ) → BitsMean t values [] []
no_bits_mean t values = record { count = refl; each = λ i p. absurd (omega arith) }

pub bits_mean_later : (t u : TermsView) (values : List ℕ) (ids : List TermId) (truths : List Bool) → KeepsTerms t u → AreBits t ids → BitsMean t values ids truths → BitsMean u values ids truths
bits_mean_later t u values ids truths k b m = record { count = m.count; each = λ i p. k.words values (term_at ids i) (b.stand i p).stands ∙ m.each i p }

pub bits_mean_push : (t : TermsView) (values : List ℕ) (ids : List TermId) (truths : List Bool) (id : TermId) (c : Bool) → BitsMean t values ids truths → word_of t values id ≡ bit_of c → BitsMean t values (ids ++ id ∷ []) (truths ++ c ∷ [])
bits_mean_push t values ids truths id c m w =
    record {
      count = length_push truths c ∙ (ap (λ (k : ℕ). k + 1) m.count ∙ sym (length_push ids id));
      each = λ i p. elim (cases_lt i (length ids)) [
        | inl less ↦ (let k = m.count in rw (get_or_append_left ids (id ∷ []) (record { 0 = 0 }) i less, get_or_append_left truths (c ∷ []) false i (omega arith)) (m.each i less))
        | inr more ↦ (let e : length ids ≡ i = omega (arith, length_push ids id) in rw (get_or_push ids id (record { 0 = 0 }) i e, get_or_push truths c false i (m.count ∙ e)) w)
      ];
    }

-- the tests' words are bits that are all 1 where q holds
pub record TestsMean (t : TermsView) (values : List ℕ) (tests : List TermId) (q : Bool) : Type 0 where
  pub truths : List Bool
  pub mean : BitsMean t values tests truths
  pub all : joined true truths ≡ q

pub tests_later : (t u : TermsView) (values : List ℕ) (tests : List TermId) (q : Bool) → KeepsTerms t u → AreBits t tests → TestsMean t values tests q → TestsMean u values tests q
tests_later t u values tests q k b m = record { truths = m.truths; mean = bits_mean_later t u values tests m.truths k b m.mean; all = m.all }

tests_push : (t : TermsView) (values : List ℕ) (tests : List TermId) (q c : Bool) (id : TermId) → TestsMean t values tests q → word_of t values id ≡ bit_of c → TestsMean t values (tests ++ id ∷ []) (q && c)
tests_push t values tests q c id m w =
    record { truths = m.truths ++ c ∷ []; mean = bits_mean_push t values tests m.truths id c m.mean w; all = joined-push true m.truths c ∙ ap (λ (k : Bool). k && c) m.all }

and_true : (a : Bool) → a ≡ (a && true)
and_true true = refl
and_true false = refl

-- what one test more adds
record TestsMore (values : List ℕ) (t : TermsView) (u : TestTerms) (q : Bool) : Type 0 where
  sound : AreSound u.terms
  same : u.terms.inputs ≡ t.inputs
  kept : KeepsTerms t u.terms
  bits : AreBits u.terms u.tests
  mean : TestsMean u.terms values u.tests q

untested : (values : List ℕ) (t : TermsView) (tests : List TermId) (q c : Bool) → AreSound t → AreBits t tests → TestsMean t values tests q → c ≡ true → TestsMore values t (record { terms = t; tests = tests }) (q && c)
untested values t tests q c s b m e =
    record { sound = s; same = refl; kept = KeepsTerms-self t; bits = b; mean = subst (TestsMean t values tests) (and_true q ∙ ap (λ (d : Bool). q && d) (sym e)) m }

pub bits_push : (t : TermsView) (tests : List TermId) (id : TermId) → AreBits t tests → HasBits t id 1 → AreBits t (tests ++ id ∷ [])
bits_push t tests id b h = record { stand = all_more (λ (j : TermId). HasBits t j 1) tests id b.stand h }

pub at_most : (a b : ℤ) → a ≤ℤ b → int_le a b ≡ true
at_most a b h = grind (arith, ints)

low_by : (values : List ℕ) (t : TermsView) (n : ℕ) (low z : ℤ) (x : TermId) (tests : List TermId) (q p : Bool) → int_lt (lo n) low ≡ p → low ≤ℤ hi n → IsWidth n → AreSound t → HasBits t x n → word_of t values x ≡ spelled n z → IsSpelled n z
    → AreBits t tests → TestsMean t values tests q
    → TestsMore values t (if p then (let least = with_node t (Constant n (residue n low)) in let test = with_node least.terms (Sle least.id x) in record { terms = test.terms; tests = tests ++ test.id ∷ [] }) else record { terms = t; tests = tests }) (q && int_le low z)
low_by values t n low z x tests q false e l w s h v f b m = let k = f.low in untested values t tests q (int_le low z) s b m (at_most low z (let j = not_less (lo n) low e in omega (arith, ints)))
low_by values t n low z x tests q true e l w s h v f b m =
    let j = less (lo n) low e in
    let fits : IsSpelled n low = record { low = omega (arith, ints); high = omega (arith, ints) } in
    let a = with_node t (Constant n (residue n low)) in
    let ga = constant_gives t n (residue n low) s w (residue_fits n low) in
    let xa = later t a.terms x ga.adds.kept h.stands in
    let c = with_node a.terms (Sle a.id x) in
    let gc = signed_at_most_gives a.terms a.id x ga.adds.sound ga.adds.stands xa.stands (ga.adds.width ∙ sym (xa.width ∙ h.width)) in
    let k = KeepsTerms-both t a.terms c.terms ga.adds.kept gc.adds.kept in
    let word : word_of c.terms values c.id ≡ bit_of (int_le low z) =
    gc.word values ∙ (ap (λ (i : Word). signed_at_most_of i (word_of a.terms values x)) (ga.word values) ∙ (ap (signed_at_most_of (spelled n low)) (xa.word values ∙ v) ∙ signed_at_most-spelled n low z w.some fits f)) in
    record {
      sound = gc.adds.sound;
      same = gc.adds.inputs ∙ ga.adds.inputs;
      kept = k;
      bits = bits_push c.terms tests c.id (bits_later t c.terms tests k b) (record { stands = gc.adds.stands; width = gc.adds.width });
      mean = tests_push c.terms values tests q (int_le low z) c.id (tests_later t c.terms values tests q k b m) word;
    }

high_by : (values : List ℕ) (t : TermsView) (n : ℕ) (high z : ℤ) (x : TermId) (tests : List TermId) (q p : Bool) → int_lt high (hi n) ≡ p → lo n ≤ℤ high → IsWidth n → AreSound t → HasBits t x n → word_of t values x ≡ spelled n z → IsSpelled n z
    → AreBits t tests → TestsMean t values tests q
    → TestsMore values t (if p then (let greatest = with_node t (Constant n (residue n high)) in let test = with_node greatest.terms (Sle x greatest.id) in record { terms = test.terms; tests = tests ++ test.id ∷ [] }) else record { terms = t; tests = tests }) (q && int_le z high)
high_by values t n high z x tests q false e l w s h v f b m = let k = f.high in untested values t tests q (int_le z high) s b m (at_most z high (let j = not_less high (hi n) e in omega (arith, ints)))
high_by values t n high z x tests q true e l w s h v f b m =
    let j = less high (hi n) e in
    let fits : IsSpelled n high = record { low = l; high = omega (arith, ints) } in
    let a = with_node t (Constant n (residue n high)) in
    let ga = constant_gives t n (residue n high) s w (residue_fits n high) in
    let xa = later t a.terms x ga.adds.kept h.stands in
    let c = with_node a.terms (Sle x a.id) in
    let gc = signed_at_most_gives a.terms x a.id ga.adds.sound xa.stands ga.adds.stands (xa.width ∙ (h.width ∙ sym ga.adds.width)) in
    let k = KeepsTerms-both t a.terms c.terms ga.adds.kept gc.adds.kept in
    let word : word_of c.terms values c.id ≡ bit_of (int_le z high) =
    gc.word values ∙ (ap (λ (i : Word). signed_at_most_of i (word_of a.terms values a.id)) (xa.word values ∙ v) ∙ (ap (signed_at_most_of (spelled n z)) (ga.word values) ∙ signed_at_most-spelled n z high w.some f fits)) in
    record {
      sound = gc.adds.sound;
      same = gc.adds.inputs ∙ ga.adds.inputs;
      kept = k;
      bits = bits_push c.terms tests c.id (bits_later t c.terms tests k b) (record { stands = gc.adds.stands; width = gc.adds.width });
      mean = tests_push c.terms values tests q (int_le z high) c.id (tests_later t c.terms values tests q k b m) word;
    }

-- ---- inputs
-- a term of at most n bits
pub record IsInput (n : ℕ) (t : TermsView) (id : TermId) : Type 0 where
  pub stands : id.0 < length t.nodes
  pub narrow : width_of t id ≤ n

input_kept : (n : ℕ) (t u : TermsView) (id : TermId) → KeepsTerms t u → IsInput n t id → IsInput n u id
input_kept n t u id k h = record { stands = k.longer id h.stands; narrow = let e = k.widths id h.stands in omega (arith, h.narrow) }

-- the terms so far, after those of the base, spell the values of these words, and q says whether all are in range
pub record InputsStand (n : ℕ) (low high : ℤ) (values : List ℕ) (base : TermsView) (s : InputTerms) (zs : List ℤ) (q : Bool) : Type 0 where
  pub sound : AreSound s.terms
  pub kept : KeepsTerms base s.terms
  pub count : length s.terms.inputs ≡ length base.inputs + length s.ids
  pub words : length zs ≡ length s.ids
  pub widths : (i : ℕ) → i < length s.terms.inputs → slice_index s.terms.inputs i ≡ n
  pub stand : (i : ℕ) → i < length s.ids → IsInput n s.terms (term_at s.ids i)
  pub mean : (i : ℕ) → i < length s.ids → Means s.terms values (term_at s.ids i) (value_of n low high (at zs i))
  pub bits : AreBits s.terms s.tests
  pub tests : TestsMean s.terms values s.tests q

-- the word of a value
abbrev pub word_at : ℕ → List ℕ → ℕ → ℤ
word_at n values j = signed_of (record { width = n; number = slice_index values j })

abbrev pub with_range : ℤ → ℤ → Bool → ℤ → Bool
with_range low high q z = (q && int_le low z) && int_le z high

pub input_stands : (n : ℕ) (low high : ℤ) (values : List ℕ) (base : TermsView) (s : InputTerms) (zs : List ℤ) (q : Bool) → IsWidth n → low ≤ℤ hi n → lo n ≤ℤ high → slice_index values (length s.terms.inputs) < 2 ^ n → InputsStand n low high values base s zs q
    → InputsStand n low high values base (with_input n low high s) (zs ++ word_at n values (length s.terms.inputs) ∷ []) (with_range low high q (word_at n values (length s.terms.inputs)))
input_stands n low high values base s zs q w l h f i =
    let z = word_at n values (length s.terms.inputs) in
    let r = signed_reads n (slice_index values (length s.terms.inputs)) w.some f in
    let x = with_new_input s.terms n in
    let gx = new_input_gives s.terms n i.sound w in
    let c = i.count in
    let xw : word_of x.terms values x.id ≡ spelled n z = gx.word values ∙ ap (λ (m : ℕ). record { width = n; number = m }) (sym r.same) in
    let hx : HasBits x.terms x.id n = record { stands = gx.stands; width = gx.width } in
    let a = with_low_test x.terms n low x.id s.tests in
    let ta = low_by values x.terms n low z x.id s.tests q (int_lt (lo n) low) refl l w gx.sound hx xw r.fits (bits_later s.terms x.terms s.tests gx.kept i.bits) (tests_later s.terms x.terms values s.tests q gx.kept i.bits i.tests) in
    let xa = later x.terms a.terms x.id ta.kept hx.stands in
    let ha : HasBits a.terms x.id n = record { stands = xa.stands; width = xa.width ∙ hx.width } in
    let b = with_high_test a.terms n high x.id a.tests in
    let tb = high_by values a.terms n high z x.id a.tests (q && int_le low z) (int_lt high (hi n)) refl h w ta.sound ha (xa.word values ∙ xw) r.fits ta.bits ta.mean in
    let xb = later a.terms b.terms x.id tb.kept ha.stands in
    let hb : HasBits b.terms x.id n = record { stands = xb.stands; width = xb.width ∙ ha.width } in
    let d = value_term b.terms n low high x.id in
    let td = value_stands values b.terms n low high z x.id l h w tb.sound hb (xb.word values ∙ (xa.word values ∙ xw)) r.fits in
    let kb = KeepsTerms-both s.terms x.terms b.terms gx.kept (KeepsTerms-both x.terms a.terms b.terms ta.kept tb.kept) in
    let k = KeepsTerms-both s.terms b.terms d.terms kb td.kept in
    let inputs : d.terms.inputs ≡ s.terms.inputs ++ n ∷ [] = td.inputs ∙ (tb.same ∙ (ta.same ∙ gx.inputs)) in
    record {
      sound = td.sound;
      kept = KeepsTerms-both base s.terms d.terms i.kept k;
      count = omega (arith, ap length inputs, length_push s.terms.inputs n, length_push s.ids d.id);
      words = length_push zs z ∙ (ap (λ (m : ℕ). m + 1) i.words ∙ sym (length_push s.ids d.id));
      widths = λ j p. ap (λ (is : List ℕ). slice_index is j) inputs ∙ elim (cases_lt j (length s.terms.inputs)) [
        | inl less ↦ get_or_append_left s.terms.inputs (n ∷ []) 0 j less ∙ i.widths j less
        | inr more ↦ get_or_push s.terms.inputs n 0 j (omega (arith, ap length inputs, length_push s.terms.inputs n))
      ];
      stand = all_more (IsInput n d.terms) s.ids d.id (λ j p. input_kept n s.terms d.terms (term_at s.ids j) k (i.stand j p)) (record { stands = td.stands; narrow = td.narrow });
      mean = λ j p. elim (cases_lt j (length s.ids)) [
        | inl less ↦ (let m = i.words in rw (get_or_append_left s.ids (d.id ∷ []) (record { 0 = 0 }) j less, get_or_append_left zs (z ∷ []) (pos 0) j (omega arith)) (means_later s.terms d.terms values (term_at s.ids j) (value_of n low high (at zs j)) k (i.stand j less).stands (i.mean j less)))
        | inr more ↦ (let e : length s.ids ≡ j = omega (arith, length_push s.ids d.id) in rw (get_or_push s.ids d.id (record { 0 = 0 }) j e, get_or_push zs z (pos 0) j (i.words ∙ e)) td.means)
      ];
      bits = bits_later b.terms d.terms b.tests td.kept tb.bits;
      tests = tests_later b.terms d.terms values b.tests (with_range low high q z) td.kept tb.bits tb.mean;
    }

-- the words of so many values, from one on
abbrev pub words_at : ℕ → List ℕ → ℕ → ℕ → List ℤ
words_at n values j zero = []
words_at n values j (suc k) = word_at n values j ∷ words_at n values (j + 1) k

-- whether all are in range
abbrev pub all_in_range : ℤ → ℤ → Bool → List ℤ → Bool
all_in_range low high q [] = q
all_in_range low high q (z ∷ zs) = all_in_range low high (with_range low high q z) zs

-- the term of the next input's value
abbrev value_id : ℕ → ℤ → ℤ → InputTerms → TermId
value_id n low high s =
    let x = with_new_input s.terms n in
    let a = with_low_test x.terms n low x.id s.tests in
    let b = with_high_test a.terms n high x.id a.tests in
    (value_term b.terms n low high x.id).id

pub inputs_stand : (n : ℕ) (low high : ℤ) (values : List ℕ) (base : TermsView) (k : ℕ) (s : InputTerms) (zs : List ℤ) (q : Bool) → IsWidth n → low ≤ℤ hi n → lo n ≤ℤ high → ((j : ℕ) → j < length s.terms.inputs + k → slice_index values j < 2 ^ n) → InputsStand n low high values base s zs q
    → InputsStand n low high values base (inputs_from n low high k s) (zs ++ words_at n values (length s.terms.inputs) k) (all_in_range low high q (words_at n values (length s.terms.inputs) k))
inputs_stand n low high values base zero s zs q w l h f i = subst (λ (ys : List ℤ). InputsStand n low high values base s ys q) (sym (append-nil zs)) i
inputs_stand n low high values base (suc k) s zs q w l h f i =
    let j = length s.terms.inputs in
    let z = word_at n values j in
    let next = with_input n low high s in
    let one = input_stands n low high values base s zs q w l h (f j (omega arith)) i in
    let c : length next.terms.inputs ≡ j + 1 = (let old = i.count in let now = one.count in omega (arith, length_push s.ids (value_id n low high s))) in
    let rest = inputs_stand n low high values base k next (zs ++ z ∷ []) (with_range low high q z) w l h (λ m p. f m (omega arith)) one in
    let e : (zs ++ z ∷ []) ++ words_at n values (j + 1) k ≡ zs ++ (z ∷ words_at n values (j + 1) k) = append_assoc zs (z ∷ []) (words_at n values (j + 1) k) in
    subst (λ (ys : List ℤ). InputsStand n low high values base (inputs_from n low high k next) ys (all_in_range low high (with_range low high q z) (words_at n values (j + 1) k))) e
    (subst (λ (m : ℕ). InputsStand n low high values base (inputs_from n low high k next) ((zs ++ z ∷ []) ++ words_at n values m k) (all_in_range low high (with_range low high q z) (words_at n values m k))) c rest)

-- ---- the root
pub bit_added : (t u : TermsView) (id : TermId) → Adds t u id 1 → HasBits u id 1
bit_added t u id a = record { stands = a.stands; width = a.width }

-- what is added after terms that keep these
pub adds_after : (t u v : TermsView) (id : TermId) (bits : ℕ) → u.inputs ≡ t.inputs → KeepsTerms t u → Adds u v id bits → Adds t v id bits
adds_after t u v id bits e k a = record { sound = a.sound; inputs = a.inputs ∙ e; kept = KeepsTerms-both t u v k a.kept; stands = a.stands; width = a.width }

-- what a bit and a test of some add
and_adds : (t : TermsView) (first i : TermId) (is : List TermId) → AreSound t → HasBits t first 1 → AreBits t (i ∷ is) → let u = with_node t (And first i) in Adds t u.terms u.id 1
and_adds t first i is s h bs =
    let k = bs.stand 0 (omega arith) in
    let u = with_node t (And first i) in
    Adds-width t u.terms u.id (width_of t first) 1 (and_gives t first i s h.stands k.stands (h.width ∙ sym k.width)).adds h.width

bits_rest : (t u : TermsView) (i : TermId) (is : List TermId) → KeepsTerms t u → AreBits t (i ∷ is) → AreBits u is
bits_rest t u i is k bs = record { stand = λ j p. bits_kept t u (term_at is j) 1 k (bs.stand (suc j) (omega arith)) }

pub conjunction_adds : (t : TermsView) (first : TermId) (tests : List TermId) → AreSound t → HasBits t first 1 → AreBits t tests → let b = conjunction_from (built_of t first) tests in Adds t b.terms b.id 1
conjunction_adds t first [] s h bs = Adds-none t first 1 s h.stands h.width
conjunction_adds t first (i ∷ is) s h bs =
    let u = with_node t (And first i) in
    let a = and_adds t first i is s h bs in
    let b = conjunction_from u is in
    Adds-both t u.terms b.terms u.id b.id 1 1 a (conjunction_adds u.terms u.id is a.sound (bit_added t u.terms u.id a) (bits_rest t u.terms i is a.kept bs))

and_word : (values : List ℕ) (t : TermsView) (first i : TermId) (is : List TermId) → AreSound t → HasBits t first 1 → AreBits t (i ∷ is) → let u = with_node t (And first i) in word_of u.terms values u.id ≡ and_of (word_of t values first) (word_of t values i)
and_word values t first i is s h bs = let k = bs.stand 0 (omega arith) in (and_gives t first i s h.stands k.stands (h.width ∙ sym k.width)).word values

-- a bit that says a truth
pub record Joins (values : List ℕ) (t : TermsView) (b : Built) (q : Bool) : Type 0 where
  pub adds : Adds t b.terms b.id 1
  pub word : word_of b.terms values b.id ≡ bit_of q

mean_rest : (t u : TermsView) (values : List ℕ) (i : TermId) (is : List TermId) (d : Bool) (ds : List Bool) → KeepsTerms t u → AreBits t (i ∷ is) → BitsMean t values (i ∷ is) (d ∷ ds) → BitsMean u values is ds
mean_rest t u values i is d ds k bs m =
    record { count = (let c = m.count in omega arith); each = λ j p. k.words values (term_at is j) (bs.stand (suc j) (omega arith)).stands ∙ m.each (suc j) (omega arith) }

conjunction_word : (values : List ℕ) (t : TermsView) (first : TermId) (tests : List TermId) (truths : List Bool) (b : Bool) → AreSound t → HasBits t first 1 → word_of t values first ≡ bit_of b → AreBits t tests → BitsMean t values tests truths
    → let c = conjunction_from (built_of t first) tests in word_of c.terms values c.id ≡ bit_of (joined b truths)
conjunction_word values t first [] [] b s h w bs m = w
conjunction_word values t first [] (d ∷ ds) b s h w bs m = absurd (let c = m.count in omega arith)
conjunction_word values t first (i ∷ is) [] b s h w bs m = absurd (let c = m.count in omega arith)
conjunction_word values t first (i ∷ is) (d ∷ ds) b s h w bs m =
    let u = with_node t (And first i) in
    let a = and_adds t first i is s h bs in
    let word : word_of u.terms values u.id ≡ bit_of (b && d) =
    and_word values t first i is s h bs ∙ (ap (λ (v : Word). and_of v (word_of t values i)) w ∙ (ap (and_of (bit_of b)) (m.each 0 (omega arith)) ∙ and-bits b d)) in
    conjunction_word values u.terms u.id is ds (b && d) a.sound (bit_added t u.terms u.id a) word (bits_rest t u.terms i is a.kept bs) (mean_rest t u.terms values i is d ds a.kept bs m)

pub conjunction_joins : (values : List ℕ) (t : TermsView) (first : TermId) (tests : List TermId) (truths : List Bool) (b : Bool) → AreSound t → HasBits t first 1 → word_of t values first ≡ bit_of b → AreBits t tests → BitsMean t values tests truths
    → Joins values t (conjunction_from (built_of t first) tests) (joined b truths)
conjunction_joins values t first tests truths b s h w bs m = record { adds = conjunction_adds t first tests s h bs; word = conjunction_word values t first tests truths b s h w bs m }

-- a bit that is 0 makes all of them 0
no_bit : (w : Word) → and_of (bit_of false) w ≡ bit_of false
no_bit w = ap (λ (m : ℕ). record { width = 1; number = m }) (and_zero_l w.number)

kept_by : (b : Bool) (w : Word) → (b ≡ true → w ≡ bit_of true) → and_of (bit_of b) w ≡ bit_of b
kept_by true w h = ap (and_of (bit_of true)) (h refl) ∙ and-bits true true
kept_by false w h = no_bit w

-- a bit stays the same with tests that are all 1 where it is
pub conjunction_keeps : (values : List ℕ) (t : TermsView) (first : TermId) (tests : List TermId) (b : Bool) → AreSound t → HasBits t first 1 → word_of t values first ≡ bit_of b → AreBits t tests
    → (b ≡ true → (i : ℕ) → i < length tests → word_of t values (term_at tests i) ≡ bit_of true) → Joins values t (conjunction_from (built_of t first) tests) b
conjunction_keeps values t first [] b s h w bs e = record { adds = conjunction_adds t first [] s h bs; word = w }
conjunction_keeps values t first (i ∷ is) b s h w bs e =
    let u = with_node t (And first i) in
    let a = and_adds t first i is s h bs in
    let word : word_of u.terms values u.id ≡ bit_of b = and_word values t first i is s h bs ∙ (ap (λ (v : Word). and_of v (word_of t values i)) w ∙ kept_by b (word_of t values i) (λ q. e q 0 (omega arith))) in
    let rest = conjunction_keeps values u.terms u.id is b a.sound (bit_added t u.terms u.id a) word (bits_rest t u.terms i is a.kept bs)
    (λ q k p. a.kept.words values (term_at is k) (bs.stand (suc k) (omega arith)).stands ∙ e q (suc k) (omega arith)) in
    record { adds = conjunction_adds t first (i ∷ is) s h bs; word = rest.word }

-- first some tests, and then others
pub conjunction_from-both : (b : Built) (xs ys : List TermId) → conjunction_from b (xs ++ ys) ≡ conjunction_from (conjunction_from b xs) ys
conjunction_from-both b [] ys = refl
conjunction_from-both b (x ∷ xs) ys = conjunction_from-both (with_node b.terms (And b.id x)) xs ys
