-- The frames are answered one after the other.
use Rattle.echo_server.proofs.Answered.{all, none_closes, turn_is, halts}
use Rattle.echo_server.proofs.serving.answer_waiting.Goals as goal

pub returns-in-Err-clause-halted : goal.returns-in-Err-clause-halted
returns-in-Err-clause-halted g c =
    halts _ _ _ _ _ _ c.loop-frame.frames c.next.new.self c.in-Some.frame _ _ _ c.in-Err.halt c.loop-frame.invariant.answered c.in-Some.ensures c.loop-frame.invariant.later c.in-Err.ensures.halted

pub returns-clause-all : goal.returns-clause-all
returns-clause-all g c = all _ _ _ _ _ c.loop-frame.frames c.loop-frame.invariant.answered c.in_default.ensures.0

pub returns-clause-goes_on : goal.returns-clause-goes_on
returns-clause-goes_on g c = none_closes _ _ _ _ _ c.loop-frame.frames c.loop-frame.invariant.answered c.in_default.ensures.0

pub returns-clause-turn : goal.returns-clause-turn
returns-clause-turn g c = turn_is _ _ _ _ _ c.loop-frame.frames c.loop-frame.invariant.answered c.in_default.ensures.0
