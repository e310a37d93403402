-- One more depth and its channel.
use Rattle.std.proofs.Common.{rules, length, take, sym, subst, ◌∷◌, ◌++◌, []}
use Rattle.std.proofs.Common.{◌≡◌, Some}
use Rattle.rpc_model.specs.Faults.{chan_depth, depth}
use Rattle.chan_tree.specs.Sound.{AreSound, IsSound}
use Rattle.call_script.proofs.Depths.{depth_more}
use Rattle.call_script.proofs.channels.Channels.push.Goals as goal

pub invariant_of-self-2 : goal.invariant_of-self-2
invariant_of-self-2 c =
    let taken : c.push.new.self.items ≡ take (length c.self.inside.chans.items) c.self.inside.depths.items ++ c.args.depth ∷ [] = search rules in
    let pushed : c.push-2.new.self.items ≡ c.self.inside.chans.items ++ c.args.chan ∷ [] = search rules in
    rw (taken, pushed)
    (depth_more c.self.inside.depths.items c.self.inside.chans.items c.self.invariant c.args.chan c.args.depth (subst (λ z. AreSound 0 z) (sym c.self.view_is) c.requires.sound)
    (subst (λ z. IsSound (length z) c.args.chan) (sym c.self.view_is) c.requires.one) (subst (λ z. c.args.depth ≡ chan_depth (depth z) (Some c.args.chan)) (sym c.self.view_is) c.requires.depth))
