-- One more channel, and its name.
use Rattle.std.proofs.Common.{arith, ◌<◌, length, length-append, ◌∷◌, ◌++◌, [], ap, sym, subst, Some}
use Rattle.rpc_model.specs.Faults as faults
use Rattle.rpc_model.specs.Fits.{IsChan}
use Rattle.chan_tree.proofs.Sounds.{chan-sound, chans-sound}
use Rattle.call_script.proofs.Kept.{within_unnamed, within_named}
use Rattle.call_script.proofs.reader.Reader.push_channel.Goals as goal

pub push-requires-clause-sound : goal.push-requires-clause-sound
push-requires-clause-sound c = chans-sound (length c.self.inside.servers) 0 c.self.inside.chans c.self.invariant.channels

pub push-requires-clause-one : goal.push-requires-clause-one
push-requires-clause-one c =
    chan-sound (length c.self.inside.servers) (length c.self.inside.chans) c.args.chan (subst (λ z. IsChan (length z.servers) (length z.chans) c.args.chan) (sym c.self.view_is) c.requires.chan)

pub invariant_of-self-in_err-push-2 : goal.invariant_of-self-in_err-push-2
invariant_of-self-in_err-push-2 c =
    let chan = subst (λ z. IsChan (length z.servers) (length z.chans) c.args.chan) (sym c.self.view_is) c.requires.chan in
    let same = ap (λ z. faults.chan_depth (faults.depth z.chans) (Some c.args.chan)) c.self.view_is in
    let shallow = c.requires.shallow in
    let is = c.requires.depth in
    rw (c.in_err-push-2.ensures.same, c.in_ok-push.ensures.channel) (within_unnamed _ _ _ c.self.inside.chans c.args.chan _ _ _ _ _ c.self.invariant chan (omega (arith, same, is, shallow)))

pub invariant_of-self-2 : goal.invariant_of-self-2
invariant_of-self-2 c =
    let chan = subst (λ z. IsChan (length z.servers) (length z.chans) c.args.chan) (sym c.self.view_is) c.requires.chan in
    let same = ap (λ z. faults.chan_depth (faults.depth z.chans) (Some c.args.chan)) c.self.view_is in
    let shallow = c.requires.shallow in
    let is = c.requires.depth in
    let room : length c.self.inside.names < 1000 = subst (λ z. length z.names < 1000) (sym c.self.view_is) c.requires.room in
    let more = length-append c.self.inside.chans (c.args.chan ∷ []) in
    let named = c.self.invariant.named in
    rw (c.in_ok-push-2.ensures.name, c.in_ok-push.ensures.channel)
    (within_named _ _ _ c.args.name.now (c.self.inside.chans ++ c.args.chan ∷ []) _ _ _ _ _
    (within_unnamed _ _ _ c.self.inside.chans c.args.chan _ _ _ _ _ c.self.invariant chan (omega (arith, same, is, shallow))) room
    (omega (arith, more, named)))
