-- One more wire.
use Rattle.std.proofs.Common.{◌+◌, suc, ap, ◌∙◌, [], ◌∷◌, ◌++◌, arith, ◌≡◌}
use Rattle.sim_run.specs.Wires.{idle_wires}
use Rattle.sim_run.proofs.Setting.{idle-snoc}
use Rattle.sim_run.proofs.wires.open_wires.Goals as goal

pub loop-server-preserved : goal.loop-server-preserved
loop-server-preserved c =
    let next : suc c.loop-server._server ≡ c.loop-server._server + 1 = omega arith in
    c.in_ok-push.ensures.items ∙ ap (λ ws. ws ++ c.in_ok-open.field-0 ∷ []) c.loop-server.invariant ∙ ap (λ w. idle_wires c.loop-server._server ++ w ∷ []) c.in_ok-open.ensures
    ∙ idle-snoc c.loop-server._server ∙ ap idle_wires next
