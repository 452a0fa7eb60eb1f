-- One sample more of a run without input, as the code has it.
use Rattle.std.proofs.Common.{◌≡◌, ℕ, suc, ◌+◌, ◌-◌, ◌*◌, ◌<◌, Bool, List, [], ◌∷◌, ◌++◌, arith, rules, ap, sym, subst, ◌∙◌, length, map}
use Rattle.std.specs.Prelude.{nat_lt}
use Rattle.std.proofs.lemmas.List.{length-map}
use Rattle.dsv_netlist.specs.Nodes.{Net}
use Rattle.dsv_netlist.specs.Conditions.{IsNetlist}
use Rattle.dsv_netlist.proofs.Naming.{names_word-below}
use Rattle.dsv_term.specs.declared.node.TermId.{TermId}
use Rattle.dsv_term.specs.Building.{Built, built_of, with_new_input}
use Rattle.dsv_term.specs.Growth.{AreSound, Adds}
use Rattle.dsv_term.specs.Terms.{KeepsTerms, HasBits}
use Rattle.dsv_term.specs.TermsView.{TermsView}
use Rattle.dsv_term.proofs.Made.{KeepsTerms-both}
use Rattle.dsv_unroll.specs.declared.rules.FitRule.TheVariants as fit_rule
use Rattle.dsv_unroll.specs.Goals.{SampleTerms, sample_terms}
use Rattle.dsv_unroll.specs.CycleGoals.{CycleTerms, StartTerms, sounding_term, with_quiet_sample, with_asked, cycles_from, starts_from}
use Rattle.dsv_unroll.specs.Ready.{AreReady, AreAllValues, AreCycleReady}
use Rattle.dsv_unroll.specs.Rules.{term_at}
use Rattle.dsv_unroll.proofs.Runs.{loaded_stand}
use Rattle.dsv_unroll.proofs.InputTests.{bits_kept}
use Rattle.dsv_unroll.proofs.CycleTerms.{all_later}

pub output_below : (net : Net) (m : ℕ) → IsNetlist net → m ≡ length net.nodes → net.output < m
output_below net m h e = let b = names_word-below net.nodes net.output (let t = h.output in search rules) in omega arith

pub quiet_built : (net : Net) (zero_bit : TermId) (t : TermsView) (registers : List TermId) (sounding found : TermId) (s : SampleTerms) (seen shown next : List TermId) (output : TermId) (u : TermsView) (made : TermId) → seen ≡ registers
    → s ≡ sample_terms fit_rule.Faithful net seen zero_bit t zero_bit → shown ≡ s.ids → next ≡ map (term_at shown) net.next → output ≡ term_at s.ids net.output → built_of u made ≡ sounding_term s.terms output zero_bit sounding
    → let now : CycleTerms = record { terms = u; registers = next; sounding = made; found = found } in now ≡ with_quiet_sample net zero_bit (record { terms = t; registers = registers; sounding = sounding; found = found })
quiet_built net zero_bit t registers sounding found s seen shown next output u made g b v n o k =
    let from : SampleTerms → CycleTerms = λ w. (let q = sounding_term w.terms (term_at w.ids net.output) zero_bit sounding in record { terms = q.terms; registers = map (term_at w.ids) net.next; sounding = q.id; found = found }) in
    let a : s ≡ sample_terms fit_rule.Faithful net registers zero_bit t zero_bit = b ∙ ap (λ (js : List TermId). sample_terms fit_rule.Faithful net js zero_bit t zero_bit) g in
    let e : built_of u made ≡ sounding_term s.terms (term_at s.ids net.output) zero_bit sounding = k ∙ ap (λ (i : TermId). sounding_term s.terms i zero_bit sounding) o in
    let m : next ≡ map (term_at s.ids) net.next = n ∙ ap (λ (js : List TermId). map (term_at js) net.next) v in
    let of : Built → List TermId → CycleTerms = λ q js. record { terms = q.terms; registers = js; sounding = q.id; found = found } in
    ap (λ (q : Built). of q next) e ∙ (ap (of (sounding_term s.terms (term_at s.ids net.output) zero_bit sounding)) m ∙ ap from a)

pub quiet_ready : (net : Net) (zero_bit : TermId) (t u v : TermsView) (registers seen ids shown next : List TermId) (sounding found made overflowed : TermId) → IsNetlist net → AreCycleReady net t zero_bit registers sounding found → KeepsTerms t u
    → AreReady net seen zero_bit u ids overflowed → length ids ≡ length net.nodes → shown ≡ ids → next ≡ map (term_at shown) net.next → Adds u v made 1 → AreCycleReady net v zero_bit next made found
quiet_ready net zero_bit t u v registers seen ids shown next sounding found made overflowed h r k a c e n d =
    let m : next ≡ map (term_at ids) net.next = n ∙ ap (λ (js : List TermId). map (term_at js) net.next) e in
    let both = KeepsTerms-both t u v k d.kept in
    record {
      sound = d.sound;
      registers_stand = all_later u v next d.kept (subst (AreAllValues u) (sym m) (loaded_stand net u ids h c a.nodes));
      count = ap length m ∙ length-map net.next (term_at ids);
      zero_has_bit = bits_kept t v zero_bit 1 both r.zero_has_bit;
      sounding_bit = record { stands = d.stands; width = d.width };
      found_bit = bits_kept t v found 1 both r.found_bit;
    }

-- ---- the loops
pub record IsCycling (net : Net) (starts : List TermId) (zero_bit : TermId) (periods i : ℕ) (r end : CycleTerms) : Type 0 where
  pub ready : AreCycleReady net r.terms zero_bit r.registers r.sounding r.found
  pub starts_stand : AreAllValues r.terms starts
  pub same : cycles_from net starts zero_bit periods (i + 1) (periods - i) r ≡ end

pub cycle_step : (net : Net) (starts : List TermId) (zero_bit : TermId) (periods i : ℕ) (r q now end : CycleTerms) (asked : Bool) → i < periods → IsCycling net starts zero_bit periods i r end → q ≡ with_quiet_sample net zero_bit r
    → AreCycleReady net q.terms zero_bit q.registers q.sounding q.found → KeepsTerms r.terms q.terms → asked ≡ nat_lt periods (2 * (i + 1)) → now ≡ with_asked asked q starts
    → AreSound now.terms → KeepsTerms q.terms now.terms → now.registers ≡ q.registers → now.sounding ≡ q.sounding → HasBits now.terms now.found 1 → IsCycling net starts zero_bit periods (i + 1) now end
cycle_step net starts zero_bit periods i r q now end asked l c e ready k a n sound kn regs snd fnd =
    let left : periods - i ≡ suc (periods - (i + 1)) = omega arith in
    let d : cycles_from net starts zero_bit periods (i + 1) (suc (periods - (i + 1))) r ≡ end = ap (λ (m : ℕ). cycles_from net starts zero_bit periods (i + 1) m r) (sym left) ∙ c.same in
    record {
      ready = record {
        sound = sound;
        registers_stand = subst (AreAllValues now.terms) (sym regs) (all_later q.terms now.terms q.registers kn ready.registers_stand);
        count = ap length regs ∙ ready.count;
        zero_has_bit = bits_kept q.terms now.terms zero_bit 1 kn ready.zero_has_bit;
        sounding_bit = subst (λ (id : TermId). HasBits now.terms id 1) (sym snd) (bits_kept q.terms now.terms q.sounding 1 kn ready.sounding_bit);
        found_bit = fnd;
      };
      starts_stand = all_later r.terms now.terms starts (KeepsTerms-both r.terms q.terms now.terms k kn) c.starts_stand;
      same = ap (cycles_from net starts zero_bit periods (i + 1 + 1) (periods - (i + 1))) (n ∙ (ap (λ (b : Bool). with_asked b q starts) a ∙ ap (λ (w : CycleTerms). with_asked (nat_lt periods (2 * (i + 1))) w starts) e)) ∙ d;
    }

pub start_step : (n m k : ℕ) (t u : TermsView) (ids now : List TermId) (x : TermId) (end : StartTerms) → k < m → starts_from n (m - k) (record { terms = t; ids = ids }) ≡ end → built_of u x ≡ with_new_input t n → now ≡ ids ++ x ∷ []
    → starts_from n (m - (k + 1)) (record { terms = u; ids = now }) ≡ end
start_step n m k t u ids now x end l h e p =
    let left : m - k ≡ suc (m - (k + 1)) = omega arith in
    let d : starts_from n (suc (m - (k + 1))) (record { terms = t; ids = ids }) ≡ end = ap (λ (j : ℕ). starts_from n j (record { terms = t; ids = ids })) (sym left) ∙ h in
    ap (λ (js : List TermId). starts_from n (m - (k + 1)) (record { terms = u; ids = js })) p
    ∙ (ap (λ (b : Built). starts_from n (m - (k + 1)) (record { terms = b.terms; ids = ids ++ b.id ∷ [] })) e ∙ d)
