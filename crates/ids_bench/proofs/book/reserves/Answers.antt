use Rattle.std.proofs.Common.{◌∙◌}
use Rattle.ids_bench.proofs.book.reserves.Goals as goal

pub returns-in-Spot-clause-owners : goal.returns-in-Spot-clause-owners
returns-in-Spot-clause-owners g c = λ slot r h. (c.reserve.ensures.claims slot r).2 (c.loop.invariant.1 slot r h)

pub loop-preserved-in-Full : goal.loop-preserved-in-Full
loop-preserved-in-Full g c = (
  (c.reserve.ensures.own, c.reserve.ensures.errors.0 ∙ c.loop.invariant.0.1),
  λ slot r h. (c.reserve.ensures.claims slot r).2 (c.loop.invariant.1 slot r h),
)

pub loop-preserved-in-Again : goal.loop-preserved-in-Again
loop-preserved-in-Again g c = (
  (c.reserve.ensures.own, c.reserve.ensures.errors.0 ∙ c.loop.invariant.0.1),
  λ slot r h. (c.reserve.ensures.claims slot r).2 (c.loop.invariant.1 slot r h),
)
