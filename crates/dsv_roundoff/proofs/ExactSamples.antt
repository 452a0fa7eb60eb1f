-- A sample of an exact run, seen as a whole: what each node gives from the values of all nodes.
use Rattle.std.proofs.Common.{◌≡◌, ℕ, suc, ◌+◌, ◌^◌, List, [], ◌∷◌, ◌++◌, length, refl, sym, ap, subst, ◌∙◌, arith}
use Rattle.std.proofs.Math.IntN.{ℤ, pos, ◌*ℤ◌}
use Rattle.std.proofs.lemmas.List.{append_assoc, length_push}
use Rattle.dsv_word.specs.declared.format.Format.{Format}
use Rattle.dsv_netlist.specs.declared.node.Node.{Node}
use Rattle.dsv_netlist.specs.declared.node.Node.TheVariants.{Input, Reg, MulConst, Round, Add, Sub, Fit, Scale}
use Rattle.dsv_netlist.specs.Nodes.{at}
use Rattle.dsv_netlist.specs.Conditions.{NamesBelow, AllNameBack}
use Rattle.dsv_realise.specs.Making.{put}
use Rattle.dsv_realise.proofs.Samples.{at_last, at_old}
use Rattle.dsv_roundoff.specs.Exact.{IsExactly, AreExactly}

-- the values of all nodes over a denominator, and what they come from
pub record ExactSample : Type 0 where
  pub format : Format
  pub scale : ℤ
  pub registers : List ℤ
  pub input : ℤ
  pub values : List ℤ

-- the value of the node of this number
abbrev pub value_of : ExactSample → ℕ → ℤ
value_of s k = at s.values k

-- the node of number k gives its value
abbrev pub Holds : ExactSample → ℕ → Node → Type 0
Holds s k n = IsExactly s.format s.scale s.registers s.input s.values n (value_of s k)

-- so do these, from number k on
abbrev pub AllHold : ExactSample → ℕ → List Node → Type 0
AllHold s k [] = Unit {0}
AllHold s k (n ∷ ns) = Holds s k n × AllHold s (k + 1) ns

pub hold_front : (s : ExactSample) (k : ℕ) (ns ms : List Node) → AllHold s k (ns ++ ms) → AllHold s k ns
hold_front s k [] ms h = tt
hold_front s k (n ∷ ns) ms h = (h.0, hold_front s (k + 1) ns ms h.1)

last_holds : (s : ExactSample) (k : ℕ) (ns : List Node) (n : Node) → AllHold s k (put ns n) → Holds s (k + length ns) n
last_holds s k [] n h = let e : k ≡ k + 0 = omega arith in subst (λ (j : ℕ). Holds s j n) e h.0
last_holds s k (m ∷ ns) n h =
    let e : k + 1 + length ns ≡ k + suc (length ns) = omega arith in
    subst (λ (j : ℕ). Holds s j n) e (last_holds s (k + 1) ns n h.1)

pub hold_last : (s : ExactSample) (ns : List Node) (n : Node) → AllHold s 0 (put ns n) → Holds s (length ns) n
hold_last s ns n h = let e : 0 + length ns ≡ length ns = omega arith in subst (λ (j : ℕ). Holds s j n) e (last_holds s 0 ns n h)

-- ---- from the values one after another
node_holds : (f : Format) (d : ℤ) (rs : List ℤ) (x : ℤ) (vs ws : List ℤ) (n : Node) (e : ℤ) → NamesBelow (length vs) n → IsExactly f d rs x vs n e → IsExactly f d rs x (vs ++ ws) n e
node_holds f d rs x vs ws Input e b h = h
node_holds f d rs x vs ws (Reg r) e b h = h
node_holds f d rs x vs ws (MulConst c i) e b h = h ∙ ap (λ (u : ℤ). c *ℤ u) (sym (at_old vs ws i b))
node_holds f d rs x vs ws (Round i) e b h = h ∙ sym (at_old vs ws i b)
node_holds f d rs x vs ws (Add i j) e b h = rw (at_old vs ws i b.0, at_old vs ws j b.1) h
node_holds f d rs x vs ws (Sub i j) e b h = rw (at_old vs ws i b.0, at_old vs ws j b.1) h
node_holds f d rs x vs ws (Fit i) e b h = h ∙ sym (at_old vs ws i b)
node_holds f d rs x vs ws (Scale i) e b h = h ∙ ap (λ (u : ℤ). pos (2 ^ f.frac_bits) *ℤ u) (sym (at_old vs ws i b))

-- a sample of these values
abbrev pub sample_with : Format → ℤ → List ℤ → ℤ → List ℤ → ExactSample
sample_with f d rs x vs = record { format = f; scale = d; registers = rs; input = x; values = vs }

nodes_hold : (f : Format) (d : ℤ) (rs : List ℤ) (x : ℤ) (ns : List Node) (vs es : List ℤ) → AllNameBack (length vs) ns → AreExactly f d rs x vs ns es → AllHold (sample_with f d rs x (vs ++ es)) (length vs) ns
nodes_hold f d rs x [] vs es b h = tt
nodes_hold f d rs x (n ∷ ns) vs [] b h = absurd h
nodes_hold f d rs x (n ∷ ns) vs (e ∷ es) b h =
    let here = node_holds f d rs x vs (e ∷ es) n e b.0 h.0 in
    let all : (vs ++ e ∷ []) ++ es ≡ vs ++ e ∷ es = append_assoc vs (e ∷ []) es in
    let long : length (vs ++ e ∷ []) ≡ length vs + 1 = omega (arith, length_push vs e) in
    let mine : value_of (sample_with f d rs x (vs ++ e ∷ es)) (length vs) ≡ e = ap (λ (us : List ℤ). at us (length vs)) (sym all) ∙ at_old (vs ++ e ∷ []) es (length vs) (omega (arith, length_push vs e)) ∙ at_last vs e (length vs) refl in
    let more = nodes_hold f d rs x ns (vs ++ e ∷ []) es (subst (λ (k : ℕ). AllNameBack k ns) (sym long) b.1) h.1 in (
      subst (λ (u : ℤ). IsExactly f d rs x (vs ++ e ∷ es) n u) (sym mine) here,
      subst (λ (k : ℕ). AllHold (sample_with f d rs x (vs ++ e ∷ es)) k ns) long (subst (λ (us : List ℤ). AllHold (sample_with f d rs x us) (length (vs ++ e ∷ [])) ns) all more),
    )

pub sample_holds : (f : Format) (d : ℤ) (rs : List ℤ) (x : ℤ) (ns : List Node) (es : List ℤ) → AllNameBack 0 ns → AreExactly f d rs x [] ns es → AllHold (sample_with f d rs x es) 0 ns
sample_holds f d rs x ns es b h = nodes_hold f d rs x ns [] es b h
