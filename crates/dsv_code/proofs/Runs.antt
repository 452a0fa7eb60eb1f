-- The code runs as its subject.
use Rattle.std.proofs.Common.{◌≡◌, ℕ, length, sym, subst, ◌∙◌}
use Rattle.std.proofs.Math.IntN.{pos}
use Rattle.std.specs.List.{All}
use Rattle.std.proofs.lemmas.List.{length-replicate}
use Rattle.std.proofs.lemmas.List.Elements.{All-replicate}
use Rattle.dsv_word.specs.declared.format.Format.{Format}
use Rattle.dsv_word.specs.Words.{IsWord}
use Rattle.dsv_word.proofs.Meanings.{zero_word}
use Rattle.dsv_system.specs.Systems.{zeros}
use Rattle.dsv_c.proofs.Steps.{code_runs, code_starts}
use Rattle.std.specs.Prelude.{Some}
use Rattle.dsv_c.specs.Meaning.{members_after_init}
use Rattle.dsv_c.specs.Programs.{program_of}
use Rattle.dsv_code.specs.Law.{CodeRunsAsSubject}

zeros_many : (n : ℕ) → length (zeros n) ≡ n
zeros_many n = length-replicate n (pos 0)

pub code_law : CodeRunsAsSubject
code_law s prefix members origin rows text h = (
  λ before many. subst (λ (n : ℕ). members_after_init (program_of s.net) before ≡ Some (zeros n)) h.runs.many (code_starts s.net before (many ∙ sym h.runs.many)),
  λ xs words. code_runs s.net s.runs (zeros s.runs.many) xs h.runs h.netlist h.codable (zeros_many s.runs.many ∙ sym h.runs.many)
      (All-replicate (IsWord s.net.format) s.runs.many (pos 0) (zero_word s.net.format)) (subst (λ (f : Format). All (IsWord f) xs) (sym h.runs.format) words),
)
