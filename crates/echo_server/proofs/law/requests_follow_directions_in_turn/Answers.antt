-- The law is a lemma.
use Rattle.echo_server.proofs.Turns.{in_turn}
use Rattle.echo_server.proofs.law.requests_follow_directions_in_turn.Goals as goal

pub returns : goal.returns
returns c = λ words before. in_turn words before
