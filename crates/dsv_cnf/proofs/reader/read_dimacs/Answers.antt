use Rattle.std.proofs.Common.{◌≡◌, ℕ, List, Ok, Err, IfOk, IfErr, inl, inr, rules}
use Rattle.std.specs.Prelude.{Result}
use Rattle.dsv_cnf.specs.FormulaView.{FormulaView}
use Rattle.dsv_cnf.specs.Reading.{reading, IsRefusal}
use Rattle.dsv_cnf.specs.TextFaults.{IsRefusalOf}
use Rattle.dsv_cnf.specs.Texts.{IsTextOf}
use Rattle.dsv_cnf.specs.declared.reader.CnfRefusal.{CnfRefusal}
use Rattle.dsv_cnf.proofs.TextLaws.{read_text, read_fault}
use Rattle.dsv_cnf.proofs.reader.read_dimacs.Goals as goal

text_of : (bytes : List ℕ) (answer : Result FormulaView CnfRefusal) → IfOk answer (λ f. reading bytes ≡ Ok f) → IfOk answer (λ f. IsTextOf f bytes)
text_of bytes (Ok f) e = read_text f bytes e
text_of bytes (Err e) h = h

refusal_of : (bytes : List ℕ) (why : CnfRefusal) → IsRefusal (reading bytes) why → IsRefusalOf bytes why
refusal_of bytes why (inl e) = inl e
refusal_of bytes why (inr e) = inr (read_fault why bytes e)

fault_of : (bytes : List ℕ) (answer : Result FormulaView CnfRefusal) → IfErr answer (IsRefusal (reading bytes)) → IfErr answer (IsRefusalOf bytes)
fault_of bytes (Ok f) h = h
fault_of bytes (Err why) h = refusal_of bytes why h

pub returns-clause-text : goal.returns-clause-text
returns-clause-text c = text_of c.args.bytes.now c.finish.result (search rules)

pub returns-in_err-header-clause-fault : goal.returns-in_err-header-clause-fault
returns-in_err-header-clause-fault c = fault_of c.args.bytes.now c.from_residual.result (search rules)

pub returns-in_err-read_clauses-clause-fault : goal.returns-in_err-read_clauses-clause-fault
returns-in_err-read_clauses-clause-fault c = fault_of c.args.bytes.now c.from_residual-in_err-read_clauses.result (search rules)

pub returns-clause-fault : goal.returns-clause-fault
returns-clause-fault c = fault_of c.args.bytes.now c.finish.result (search rules)
