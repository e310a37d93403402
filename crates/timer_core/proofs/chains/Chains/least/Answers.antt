use Rattle.std.proofs.Common.{◌≡◌, ◌<◌, length, arith, ap, ◌∙◌}
use Rattle.timer_core.specs.declared.links.End.{End}
use Rattle.timer_core.specs.Chains.{end_at, least_at}
use Rattle.timer_core.proofs.Told.{counted, head_within, least_is}
use Rattle.timer_core.proofs.chains.Chains.least.Goals as goal

pub least_from-requires : goal.least_from-requires
least_from-requires c =
    let f : c.args.list < length c.self.inside.ends.items = omega (arith, counted c.self.inside.nodes.items c.self.inside.ends.items c.args.self.now c.self.view_is, c.requires) in
    let e : c.end_of-end.result ≡ end_at c.self.inside.ends.items c.args.list = c.end_of-end.ensures in
    rw e (head_within c.self.inside.nodes.items c.self.inside.ends.items c.args.self.now c.self.view_is c.args.list c.self.invariant.chained f)

pub returns : goal.returns
returns c =
    let f : c.args.list < length c.self.inside.ends.items = omega (arith, counted c.self.inside.nodes.items c.self.inside.ends.items c.args.self.now c.self.view_is, c.requires) in
    let e : c.end_of-end.result ≡ end_at c.self.inside.ends.items c.args.list = c.end_of-end.ensures in
    c.least_from.ensures ∙ ap (λ (z : End). least_at c.self.inside.nodes.items z) e
    ∙ least_is c.self.inside.nodes.items c.self.inside.ends.items c.args.self.now c.self.view_is c.args.list c.self.invariant.chained f
