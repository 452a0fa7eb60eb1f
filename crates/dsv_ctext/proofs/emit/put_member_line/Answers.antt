use Rattle.std.proofs.Common.{[], ◌∷◌, ◌++◌}
use Rattle.std.specs.Prelude.{codes}
use Rattle.dsv_base.proofs.TakingLemmas.{writes_after, writes_cut}
use Rattle.dsv_ctext.specs.Texts.{type_name, member_name}
use Rattle.dsv_ctext.proofs.emit.put_member_line.Goals as goal

pub returns-in_err-put_all : goal.returns-in_err-put_all
returns-in_err-put_all g c = writes_cut {x = (codes "    ")} (((type_name c.args.word)) ++ (((codes " ")) ++ (((member_name c.args.names.now c.args.k)) ++ ((codes ";" ++ 10 ∷ []))))) c.from_residual.ensures.0 c.in_err-put_all.ensures.cut

pub returns-in_err-put_all-2 : goal.returns-in_err-put_all-2
returns-in_err-put_all-2 g c = rw (← c.type_name.ensures) (writes_after {x = (codes "    ")} {y = (c.type_name.result.now) ++ (((codes " ")) ++ (((member_name c.args.names.now c.args.k)) ++ ((codes ";" ++ 10 ∷ []))))} c.in_ok-put_all.ensures.whole (writes_cut {x = c.type_name.result.now} (((codes " ")) ++ (((member_name c.args.names.now c.args.k)) ++ ((codes ";" ++ 10 ∷ [])))) c.from_residual-in_err-put_all-2.ensures.0 c.in_err-put_all-2.ensures.cut))

pub returns-in_err-put_all-3 : goal.returns-in_err-put_all-3
returns-in_err-put_all-3 g c = rw (← c.type_name.ensures) (writes_after {x = (codes "    ")} {y = (c.type_name.result.now) ++ (((codes " ")) ++ (((member_name c.args.names.now c.args.k)) ++ ((codes ";" ++ 10 ∷ []))))} c.in_ok-put_all.ensures.whole (writes_after {x = c.type_name.result.now} {y = ((codes " ")) ++ (((member_name c.args.names.now c.args.k)) ++ ((codes ";" ++ 10 ∷ [])))} c.in_ok-put_all-2.ensures.whole (writes_cut {x = (codes " ")} (((member_name c.args.names.now c.args.k)) ++ ((codes ";" ++ 10 ∷ []))) c.from_residual-in_err-put_all-3.ensures.0 c.in_err-put_all-3.ensures.cut)))

pub returns-in_err-put_member : goal.returns-in_err-put_member
returns-in_err-put_member g c = rw (← c.type_name.ensures) (writes_after {x = (codes "    ")} {y = (c.type_name.result.now) ++ (((codes " ")) ++ (((member_name c.args.names.now c.args.k)) ++ ((codes ";" ++ 10 ∷ []))))} c.in_ok-put_all.ensures.whole (writes_after {x = c.type_name.result.now} {y = ((codes " ")) ++ (((member_name c.args.names.now c.args.k)) ++ ((codes ";" ++ 10 ∷ [])))} c.in_ok-put_all-2.ensures.whole (writes_after {x = (codes " ")} {y = ((member_name c.args.names.now c.args.k)) ++ ((codes ";" ++ 10 ∷ []))} c.in_ok-put_all-3.ensures.whole (writes_cut {x = (member_name c.args.names.now c.args.k)} ((codes ";" ++ 10 ∷ [])) c.from_residual-in_err-put_member.ensures.0 c.in_err-put_member.ensures.cut))))

pub returns : goal.returns
returns g c = rw (← c.type_name.ensures) (writes_after {x = (codes "    ")} {y = (c.type_name.result.now) ++ (((codes " ")) ++ (((member_name c.args.names.now c.args.k)) ++ ((codes ";" ++ 10 ∷ []))))} c.in_ok-put_all.ensures.whole (writes_after {x = c.type_name.result.now} {y = ((codes " ")) ++ (((member_name c.args.names.now c.args.k)) ++ ((codes ";" ++ 10 ∷ [])))} c.in_ok-put_all-2.ensures.whole (writes_after {x = (codes " ")} {y = ((member_name c.args.names.now c.args.k)) ++ ((codes ";" ++ 10 ∷ []))} c.in_ok-put_all-3.ensures.whole (writes_after {x = (member_name c.args.names.now c.args.k)} {y = (codes ";" ++ 10 ∷ [])} c.in_ok-put_member.ensures.whole (c.put_all-4.ensures)))))
