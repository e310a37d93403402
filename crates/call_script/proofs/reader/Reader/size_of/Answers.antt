-- The size of a call's plan.
use Rattle.std.proofs.Common.{arith, sym, subst, ◌<◌, length}
use Rattle.rpc_model.specs.Plan.{plan}
use Rattle.chan_tree.specs.Sound.{AreSound}
use Rattle.chan_tree.specs.Sizes.{IsSizeOf}
use Rattle.chan_tree.proofs.Sounds.{chans-sound}
use Rattle.call_script.specs.Sized.{IsSized}
use Rattle.call_script.proofs.Sized.{sized}
use Rattle.call_script.proofs.reader.Reader.size_of.Goals as goal

pub size_of-requires-clause-sound : goal.size_of-requires-clause-sound
size_of-requires-clause-sound c = subst (AreSound 0) (sym c.as_slice.ensures) (chans-sound (length c.self.inside.servers) 0 c.self.inside.chans c.self.invariant.channels)

pub returns : goal.returns
returns c =
    let chans = c.self.inside.chans in
    let there : c.args.chan < length chans = let few = subst (λ z. c.args.chan < length z.names) (sym c.self.view_is) c.requires in let named = c.self.invariant.named in omega (arith, few, named) in
    let all = sized chans c.args.chan c.args.call c.size_of.result (chans-sound (length c.self.inside.servers) 0 chans c.self.invariant.channels) there
    (subst (λ z. IsSizeOf z c.args.chan c.args.call c.size_of.result) c.as_slice.ensures c.size_of.ensures) in
    subst (λ z. IsSized c.size_of.result (plan z.chans c.args.chan c.args.call)) c.self.view_is all
