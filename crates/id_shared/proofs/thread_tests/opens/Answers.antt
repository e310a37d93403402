use Rattle.std.proofs.Common.{All, sym, subst}
use Rattle.id_shared.specs.Standing.{IsAtRest}
use Rattle.id_shared.proofs.Openings.{all_push}
use Rattle.id_shared.proofs.thread_tests.opens.Goals as goal

pub loop-pass-preserved-in-Ok : goal.loop-pass-preserved-in-Ok
loop-pass-preserved-in-Ok g c = (
  c.next.ensures.own,
  subst (All (λ d. IsAtRest c.args.ids.now d.pass)) (sym c.in-Ok.ensures.items)
      (all_push (λ d. IsAtRest c.args.ids.now d.pass) _ _ c.loop-pass.invariant.1 c.begins.ensures.own),
)
