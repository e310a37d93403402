use Rattle.std.proofs.Common.{◌≡◌, suc, ◌+◌, ◌-◌, true, false, arith, ap, sym, ◌∙◌}
use Rattle.std.proofs.lemmas.Bool.Decides.{nat_tests}
use Rattle.timer_core.specs.Homes.{list_from}
use Rattle.timer_core.proofs.Placed.{are_near, near_step, far_step, no_step, home_is, home_in}
use Rattle.timer_core.proofs.home.home.Goals as goal

pub returns-then-left-reached-clause-of : goal.returns-then-left-reached-clause-of
returns-then-left-reached-clause-of c =
    let n : 8 - c.loop-level._level ≡ suc (8 - (c.loop-level._level + 1)) = omega arith in
    let t : are_near c.loop-level.left c.loop-level.reached ≡ true = grind (arith, nat_tests) in
    sym (near_step (8 - (c.loop-level._level + 1)) c.loop-level.list c.loop-level.left c.loop-level.reached t)
    ∙ ap (λ k. list_from k c.loop-level.list c.loop-level.left c.loop-level.reached) (sym n)
    ∙ c.loop-level.invariant.0
    ∙ home_is c.args.base c.args.moment

pub loop-level-preserved : goal.loop-level-preserved
loop-level-preserved c =
    let n : 8 - c.loop-level._level ≡ suc (8 - (c.loop-level._level + 1)) = omega arith in
    let t : are_near c.loop-level.left c.loop-level.reached ≡ false = grind (arith, nat_tests) in (
      sym (far_step (8 - (c.loop-level._level + 1)) c.loop-level.list c.loop-level.left c.loop-level.reached t)
          ∙ ap (λ k. list_from k c.loop-level.list c.loop-level.left c.loop-level.reached) (sym n)
          ∙ c.loop-level.invariant.0,
      omega arith,
      omega arith,
    )

pub returns-clause-of : goal.returns-clause-of
returns-clause-of c =
    let n : 8 - c.loop-level._level ≡ 0 = omega arith in
    sym (no_step c.loop-level.list c.loop-level.left c.loop-level.reached)
    ∙ ap (λ k. list_from k c.loop-level.list c.loop-level.left c.loop-level.reached) (sym n)
    ∙ c.loop-level.invariant.0
    ∙ home_is c.args.base c.args.moment

pub returns-clause-in_lists : goal.returns-clause-in_lists
returns-clause-in_lists c = omega (arith, returns-clause-of c, home_in c.args.base c.args.moment c.requires c.ranges.moment.fits)
