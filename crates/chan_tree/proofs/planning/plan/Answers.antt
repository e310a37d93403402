-- What the measure doesn't refuse is granted.
use Rattle.std.proofs.Common.{arith, sym, subst}
use Rattle.chan_tree.specs.Asked.{IsGranted}
use Rattle.chan_tree.proofs.Judged.{granted}
use Rattle.chan_tree.proofs.planning.plan.Goals as goal

pub returns-clause-granted : goal.returns-clause-granted
returns-clause-granted g c =
    let deep = c.if-measure-gt8.false in
    let wide = c.if-measure-gt1024.false in
    subst (IsGranted c.args.chans.now c.args.number c.args.call) (sym c.in-Ok-tabled.ensures)
    (granted c.args.chans.now c.args.call c.requires.sound c.args.number c.requires.there c.in-Ok.measure c.in-Ok-build.tree c.in-Ok.ensures (omega (arith, deep)) c.in_default-missing.is
    (omega (arith, wide)) c.in-Ok-build.ensures.tree)
