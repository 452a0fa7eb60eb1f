-- The program of a netlist is one that is read back.
use Rattle.std.proofs.Common.{◌≡◌, ℕ, zero, suc, ◌+◌, ◌^◌, ◌<◌, ◌≤◌, List, [], ◌∷◌, length, length-append, map, refl, subst, arith}
use Rattle.std.specs.List.{All}
use Rattle.std.proofs.Math.IntN.{pos}
use Rattle.std.proofs.lemmas.List.{length-map}
use Rattle.std.proofs.lemmas.List.Elements.{All-nil, All-cons, All-head, All-tail, All-map}
use Rattle.dsv_word.specs.declared.format.Format.{Format}
use Rattle.dsv_word.specs.Words.{width}
use Rattle.dsv_netlist.specs.Nodes.{Net}
use Rattle.dsv_netlist.specs.Conditions.{IsNetlist}
use Rattle.dsv_c.specs.declared.c_type.CType.{CType}
use Rattle.dsv_c.specs.Syntax.{Expr, Constant}
use Rattle.dsv_c.specs.Programs.{word_type, code_at, codes_of, locals_from, helpers_from, first_local, loads_from, stores_from, program_of}
use Rattle.dsv_c.specs.Codable.{IsCodable}
use Rattle.dsv_c.proofs.CodableLemmas.{all_constants}
use Rattle.dsv_c_reading.proofs.Readable.{IsReadable, AreReadable, IsReadableStore, IsReadableProgram}
use Rattle.dsv_c_reading.proofs.ReadableCodes.{IsRead, AreRead, readable_joined, code_at_read, nodes_read, locals_from_few}

-- ---- registers
loads_many : (t : CType) (k n : ℕ) → length (loads_from t k n) ≡ n
loads_many t k zero = refl
loads_many t k (suc n) = omega (arith, loads_many t (k + 1) n)

loads_read : (t : CType) (l m k n : ℕ) → k + n ≤ m → AreReadable l m (loads_from t k n)
loads_read t l m k zero h = tt
loads_read t l m k (suc n) h = (omega arith, loads_read t (l + 1) m (k + 1) n (omega arith))

stores_read : (n m k : ℕ) (es : List Expr) → k + length es ≤ m → All (IsReadable n m) es → All (IsReadableStore n m) (stores_from k es)
stores_read n m k [] l h = All-nil (IsReadableStore n m)
stores_read n m k (e ∷ es) l h =
    All-cons (IsReadableStore n m) (record { member = k; value = e }) (stores_from (k + 1) es) (record { member = omega arith; value = All-head (IsReadable n m) e es h })
    (stores_read n m (k + 1) es (omega arith) (All-tail (IsReadable n m) e es h))

-- the numbers in a list stand for expressions that are read back
places_read : (n m : ℕ) (f : ℕ → Expr) (ks : List ℕ) → length ks ≤ m → ((k : ℕ) → IsReadable n m (f k)) → All (IsReadableStore n m) (stores_from 0 (map f ks))
places_read n m f ks l h = stores_read n m 0 (map f ks) (omega (arith, length-map ks f)) (All-map (IsReadable n m) f ks (λ i d p. h _))

-- ---- locals
nodes_of : (net : Net) → IsNetlist net → IsCodable net → AreRead net.format (length net.next) (first_local net) net.nodes [] []
nodes_of net n c = nodes_read net.format (length net.next) (first_local net) net.nodes [] [] (record { many = omega arith; codes = All-nil (IsRead (first_local net) (length net.next)) }) n.registers (all_constants net c)

locals_many : (net : Net) → length (program_of net).locals ≡ length net.next + length (locals_from net.format net.nodes [] [] (first_local net))
locals_many net =
    let loads = loads_from (word_type net.format) 0 (length net.next) in
    let later = locals_from net.format net.nodes [] [] (first_local net) in
    omega (arith, length-append loads later, loads_many (word_type net.format) 0 (length net.next))

pub few_locals : (net : Net) → IsNetlist net → length (program_of net).locals < 2 ^ 32
few_locals net n = omega (arith, locals_many net, locals_from_few net.format net.nodes [] [] (first_local net), n.few_nodes, n.few_registers)

locals_read : (net : Net) → IsNetlist net → IsCodable net → AreReadable 1 (length net.next) (program_of net).locals
locals_read net n c =
    let m = length net.next in
    let loads = loads_from (word_type net.format) 0 m in
    let later = locals_from net.format net.nodes [] [] (first_local net) in
    let same : first_local net ≡ 1 + length loads = omega (arith, loads_many (word_type net.format) 0 m) in
    readable_joined 1 m loads later (loads_read (word_type net.format) 1 m 0 m (omega arith)) (subst (λ (i : ℕ). AreReadable i m later) same (nodes_of net n c).locals)

-- ---- the expressions of nodes, after all locals
code_read : (net : Net) → IsNetlist net → IsCodable net → (k : ℕ) → IsReadable (length (program_of net).locals + 1) (length net.next) (code_at (codes_of net) k).expr
code_read net n c k =
    let m = length net.next in
    let later = locals_from net.format net.nodes [] [] (first_local net) in
    let same : first_local net + length later ≡ length (program_of net).locals + 1 = omega (arith, locals_many net) in
    let read = code_at_read (first_local net + length later) m (codes_of net) k (omega arith) (nodes_of net n c).codes in
    subst (λ (i : ℕ). IsReadable i m (code_at (codes_of net) k).expr) same read.expr

-- a word of a format has at most 48 bits
width_small : (f : Format) → width f < 63
width_small f = omega (arith, f.lawful)

pub program_readable : (net : Net) → IsNetlist net → IsCodable net → IsReadableProgram (length net.next) (program_of net)
program_readable net n c = record {
  helpers = record {
    format = net.format;
    called = helpers_from net.format net.nodes [] [] (first_local net);
    functions = refl;
    small = λ _. width_small net.format;
  };
  start = places_read 0 (length net.next) (λ k. Constant (pos 0)) net.next (omega arith) (λ k. omega arith);
  locals = locals_read net n c;
  stores = places_read (length (program_of net).locals + 1) (length net.next) (λ k. (code_at (codes_of net) k).expr) net.next (omega arith) (code_read net n c);
  value = code_read net n c net.output;
}
