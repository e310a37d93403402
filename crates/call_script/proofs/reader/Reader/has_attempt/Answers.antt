-- What the leaves of a call's plan may issue.
use Rattle.std.proofs.Common.{arith, ◌≡◌, ◌<◌, length, ap, sym, subst, ◌∙◌, Some}
use Rattle.rpc_model.specs.Plan.{plan}
use Rattle.rpc_model.specs.Before.{chan_of}
use Rattle.rpc_model.specs.CallLines.{has_attempt}
use Rattle.chan_tree.specs.Sound.{AreSound}
use Rattle.chan_tree.specs.Sizes.{nodes_at, retry_in}
use Rattle.chan_tree.proofs.Sounds.{chans-sound}
use Rattle.chan_tree.proofs.Issued.{may_issue}
use Rattle.call_script.proofs.Sized.{call_there, call_few, attempt_is}
use Rattle.call_script.proofs.reader.Reader.has_attempt.Goals as goal

pub retry_at-requires-clause-sound : goal.retry_at-requires-clause-sound
retry_at-requires-clause-sound c = subst (AreSound 0) (sym c.as_slice.ensures) (chans-sound (length c.self.inside.servers) 0 c.self.inside.chans c.self.invariant.channels)

pub retry_at-requires-clause-there : goal.retry_at-requires-clause-there
retry_at-requires-clause-there c =
    let known = subst (λ z. chan_of z.acts c.args.call ≡ Some c.args.chan) (sym c.self.view_is) c.requires in
    subst (λ z. c.args.chan < length z) (sym c.as_slice.ensures) (call_there c.self.inside.chans c.self.inside.acts.items c.args.call c.args.chan c.self.invariant.fit c.self.invariant.narrow known)

pub retry_at-requires-clause-few : goal.retry_at-requires-clause-few
retry_at-requires-clause-few c =
    let known = subst (λ z. chan_of z.acts c.args.call ≡ Some c.args.chan) (sym c.self.view_is) c.requires in
    let few = call_few c.self.inside.chans c.self.inside.acts.items c.args.call c.args.chan c.self.invariant.fit c.self.invariant.narrow known in
    let same = ap (λ z. nodes_at z c.args.call c.args.chan) c.as_slice.ensures in
    omega (arith, few, same)

pub returns-in-Some : goal.returns-in-Some
returns-in-Some c =
    let chans = c.self.inside.chans in
    let found : Some c.in-Some.retry ≡ retry_in chans c.args.chan c.args.call 0 c.args.node = sym c.in-Some.is ∙ c.retry_at.ensures.retry
    ∙ ap (λ z. retry_in z c.args.chan c.args.call 0 c.args.node) c.as_slice.ensures in
    ap (λ o. may_issue o c.args.attempt) found ∙ attempt_is chans c.args.chan c.args.call c.args.node c.args.attempt
    ∙ ap (λ z. has_attempt (plan z.chans c.args.chan c.args.call) c.args.node c.args.attempt) c.self.view_is

pub returns-in-None : goal.returns-in-None
returns-in-None c =
    let chans = c.self.inside.chans in
    let found = sym c.in-None.is ∙ c.retry_at.ensures.retry ∙ ap (λ z. retry_in z c.args.chan c.args.call 0 c.args.node) c.as_slice.ensures in
    ap (λ o. may_issue o c.args.attempt) found ∙ attempt_is chans c.args.chan c.args.call c.args.node c.args.attempt
    ∙ ap (λ z. has_attempt (plan z.chans c.args.chan c.args.call) c.args.node c.args.attempt) c.self.view_is
