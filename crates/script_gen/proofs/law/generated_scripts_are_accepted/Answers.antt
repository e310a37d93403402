use Rattle.script_gen.proofs.Accepted.{accepted}
use Rattle.script_gen.proofs.law.generated_scripts_are_accepted.Goals as goal

pub returns : goal.returns
returns c = accepted
