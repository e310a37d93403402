-- One more call.
use Rattle.std.proofs.Common.{rules, ◌≡◌, true, sym, subst}
use Rattle.rpc_model.specs.Plan.{plan}
use Rattle.rpc_model.specs.CallLines.{is_narrow}
use Rattle.call_script.proofs.Kept.{within_call}
use Rattle.call_script.proofs.Sized.{narrow_plan}
use Rattle.call_script.proofs.reader.Reader.keep_call.Goals as goal

pub invariant_of-self-in-Ok : goal.invariant_of-self-in-Ok
invariant_of-self-in-Ok c =
    rw (c.in_ok-push.ensures.items, c.in-Ok.ensures.call)
    (within_call _ _ _ _ _ _ _ c.args.at c.args.call c.args.chan c.args.text _ _ c.args.weight c.self.invariant (search rules) c.requires.moment (search rules)
    (search rules) c.requires.short
    (narrow_plan c.self.inside.chans c.args.chan c.args.call (subst (λ z. is_narrow (plan z.chans c.args.chan c.args.call) ≡ true) (sym c.self.view_is) c.requires.narrow))
    (search rules) (search rules))
