use Rattle.std.proofs.Common.{◌≡◌, [], ◌∷◌, refl, Some, false}
use Rattle.dsv_trail.specs.Marks.{value_of}
use Rattle.dsv_trail.proofs.Justifications.{reason-second}
use Rattle.dsv_solver_tests.proofs.trails.worked_trail.Goals as goal

pub imply-requires-clause-reason : goal.imply-requires-clause-reason
imply-requires-clause-reason c =
    let clauses : c.push_clause.new.self.clauses ≡ (c.new-2.result ∷ c.new-3.result ∷ []) ∷ [] = rw (c.in_ok-push_clause.ensures.ok, c.in_ok-formula.ensures) refl in
    let same : c.new-7.result ≡ c.new-3.result = rw (c.new-7.ensures, c.new-3.ensures) refl in
    let value : value_of c.decide-2.new.self.marks c.new-2.result ≡ Some false = rw (c.decide-2.ensures.state, c.decide.ensures.state, c.in_ok-trail.ensures, c.new-2.ensures, c.new-5.ensures, c.new-6.ensures) refl in
    reason-second c.push_clause.new.self.clauses c.decide-2.new.self.marks c.new-2.result c.new-3.result c.new-7.result clauses same value
