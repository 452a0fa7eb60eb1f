use Rattle.std.proofs.Common.{◌≡◌, rules}
use Rattle.std.proofs.lemmas.Int.{to_z-of_z}
use mir.Syntax.{w64}
use mir.Val.{SFits}
use Rattle.dsv_jury.proofs.Rows.{difference_is, difference_has_room}
use Rattle.dsv_jury.proofs.recursion.difference_of_products.Goals as goal

pub returns : goal.returns
returns c =
    let p : SFits w64 c.args.a.now = search rules in
    let q : SFits w64 c.args.b.now = search rules in
    let r : SFits w64 c.args.c.now = search rules in
    let s : SFits w64 c.args.d.now = search rules in
    let a : c.from.result ≡ c.args.a.now = simp to_z-of_z at c.from.ensures in
    let b : c.from-2.result ≡ c.args.b.now = simp to_z-of_z at c.from-2.ensures in
    let k : c.from-3.result ≡ c.args.c.now = simp to_z-of_z at c.from-3.ensures in
    let d : c.from-4.result ≡ c.args.d.now = simp to_z-of_z at c.from-4.ensures in
    rw (a, b, k, d) (difference_is c.args.a.now c.args.b.now c.args.c.now c.args.d.now p q r s)

pub overflow_sub-result : goal.overflow_sub-result
overflow_sub-result c =
    let p : SFits w64 c.args.a.now = search rules in
    let q : SFits w64 c.args.b.now = search rules in
    let r : SFits w64 c.args.c.now = search rules in
    let s : SFits w64 c.args.d.now = search rules in
    let a : c.from.result ≡ c.args.a.now = simp to_z-of_z at c.from.ensures in
    let b : c.from-2.result ≡ c.args.b.now = simp to_z-of_z at c.from-2.ensures in
    let k : c.from-3.result ≡ c.args.c.now = simp to_z-of_z at c.from-3.ensures in
    let d : c.from-4.result ≡ c.args.d.now = simp to_z-of_z at c.from-4.ensures in
    rw (a, b, k, d) (difference_has_room c.args.a.now c.args.b.now c.args.c.now c.args.d.now p q r s)
