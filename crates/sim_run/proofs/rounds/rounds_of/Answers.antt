-- One more channel.
use Rattle.std.proofs.Common.{length, ap, arith, length-append, ◌∷◌, []}
use Rattle.chan_tree.proofs.Built.{item-at}
use Rattle.sim_run.specs.Rounds.{ComesRound}
use Rattle.sim_run.proofs.Coming.{comes-round, come-next}
use Rattle.sim_run.proofs.rounds.rounds_of.Goals as goal

pub loop-chan-preserved : goal.loop-chan-preserved
loop-chan-preserved c =
    let chans = c.args.chans.now in
    let inv = c.loop-chan.invariant in
    let rounds = c.loop-chan.rounds.items in
    let round = c.round_of-round.result in
    let at = item-at chans c.loop-chan.chan-index c.chan-item.result c.loop-chan-test.true c.chan-item.is in
    let is = rw c.as_slice.ensures.value at c.round_of-round.ensures in
    let here : ComesRound chans c.loop-chan.chan-index round = comes-round chans c.requires rounds inv.come c.loop-chan.chan-index c.chan-item.result round at is in
    let last : ComesRound chans (length rounds) round = rw inv.so_far here in
    record {
      come = rw c.in_ok-push.ensures.items (come-next chans rounds round inv.come last);
      so_far = omega (arith, ap length c.in_ok-push.ensures.items, length-append rounds (round ∷ []), inv.so_far);
    }
