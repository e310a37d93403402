-- The moment is reached, and the line does its work.
use Rattle.std.proofs.Common.{[], ◌++◌, max, ap, ◌∙◌}
use Rattle.rpc_model.specs.declared.event.Event.TheVariants as event
use Rattle.rpc_model.specs.Plan.{plan}
use Rattle.rpc_model.specs.Told as spec
use Rattle.sim_run.specs.Desk.{replay_of}
use Rattle.sim_run.proofs.NewCalls.{absent}
use Rattle.sim_run.proofs.Moved.{on_ok, event-step, call-step, call-says}
use Rattle.sim_run.proofs.state.Replay.step.Goals as goal

pub call-requires-clause-new : goal.call-requires-clause-new
call-requires-clause-new c = rw c.in_ok-reach-in-Call.ensures.calls (absent c.args.self.now.calls.entries c.in-Call.call [] (rw c.in-Call.is at c.requires.new))

pub returns-in_ok-reach-in-Call-clause-after : goal.returns-in_ok-reach-in-Call-clause-after
unfolding spec.after
returns-in_ok-reach-in-Call-clause-after c =
    let planned = plan c.args.script.now.chans c.in-Call.chan c.in-Call.call in
    on_ok _ _ c.call.result (λ after. rw c.in-Call.is
    (call-step c.args.script.now (replay_of c.reach.new.self) (replay_of c.args.self.now) (replay_of c.call.new.self) (max c.args.self.now.reached c.in-Call.at) c.in-Call.call c.in-Call.text
    planned (c.in_ok-reach-in-Call.ensures.reached ∙ c.max.ensures) (rw c.max.ensures at c.in_ok-reach-in-Call.ensures.after) after)) c.call.ensures.after

pub returns-in_ok-reach-in-Call-clause-tells : goal.returns-in_ok-reach-in-Call-clause-tells
unfolding spec.tells
returns-in_ok-reach-in-Call-clause-tells c =
    let planned = plan c.args.script.now.chans c.in-Call.chan c.in-Call.call in
    let says = call-says c.args.script.now (replay_of c.reach.new.self) (replay_of c.args.self.now) _ c.in-Call.call planned c.in_ok-reach-in-Call.ensures.after in
    on_ok _ _ c.call.result (λ told. rw c.in-Call.is (told ∙ ap (λ ts. c.args.told.now.items ++ ts) says)) c.call.ensures.tells

pub returns-in_ok-reach-in-Cancel-clause-after : goal.returns-in_ok-reach-in-Cancel-clause-after
unfolding spec.after
returns-in_ok-reach-in-Cancel-clause-after c =
    on_ok _ _ c.event.result (λ after. rw c.in-Cancel.is
    (event-step c.args.script.now (replay_of c.reach-in-Cancel.new.self) (replay_of c.args.self.now) (replay_of c.event.new.self) (max c.args.self.now.reached c.in-Cancel.at)
    c.in-Cancel.call event.Cancel (c.in_ok-reach-in-Cancel.ensures.reached ∙ c.max-in-Cancel.ensures) (rw c.max-in-Cancel.ensures at c.in_ok-reach-in-Cancel.ensures.after) after))
    c.event.ensures.after

pub returns-in_ok-reach-in-Reply-clause-after : goal.returns-in_ok-reach-in-Reply-clause-after
unfolding spec.after
returns-in_ok-reach-in-Reply-clause-after c =
    on_ok _ _ c.reply.result (λ after. rw c.in-Reply.is
    (event-step c.args.script.now (replay_of c.reach-in-Reply.new.self) (replay_of c.args.self.now) (replay_of c.reply.new.self) (max c.args.self.now.reached c.in-Reply.at) c.in-Reply.call
    (event.Reply c.in-Reply.node c.in-Reply.attempt c.in-Reply.code c.in-Reply.text) (c.in_ok-reach-in-Reply.ensures.reached ∙ c.max-in-Reply.ensures)
    (rw c.max-in-Reply.ensures at c.in_ok-reach-in-Reply.ensures.after) after)) c.reply.ensures.after

pub returns-in_ok-reach-in-Lose-clause-after : goal.returns-in_ok-reach-in-Lose-clause-after
unfolding spec.after
returns-in_ok-reach-in-Lose-clause-after c =
    on_ok _ _ c.lose.result (λ after. rw c.in-Lose.is
    (event-step c.args.script.now (replay_of c.reach-in-Lose.new.self) (replay_of c.args.self.now) (replay_of c.lose.new.self) (max c.args.self.now.reached c.in-Lose.at) c.in-Lose.call
    (event.Lost c.in-Lose.node c.in-Lose.attempt c.in-Lose.code) (c.in_ok-reach-in-Lose.ensures.reached ∙ c.max-in-Lose.ensures)
    (rw c.max-in-Lose.ensures at c.in_ok-reach-in-Lose.ensures.after) after)) c.lose.ensures.after
