use Rattle.model_laws.proofs.Logs.{ends-are-the-machines}
use Rattle.model_laws.proofs.laws.told_ends_are_the_machines.Goals as goal

pub returns : goal.returns
returns c = ends-are-the-machines
