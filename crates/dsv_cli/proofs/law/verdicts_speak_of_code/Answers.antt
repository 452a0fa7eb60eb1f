use Rattle.dsv_cli.proofs.CodeLaws.{verdicts_speak}
use Rattle.dsv_cli.proofs.law.verdicts_speak_of_code.Goals as goal

pub returns : goal.returns
returns c = verdicts_speak
