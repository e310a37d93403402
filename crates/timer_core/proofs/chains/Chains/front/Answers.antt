use Rattle.std.proofs.Common.{◌≡◌, ◌<◌, length, arith, rules, subst, ap, sym, ◌∙◌, ◌∷◌}
use Rattle.timer_core.specs.declared.entry.Entry.{Entry}
use Rattle.timer_core.specs.declared.links.End.{End}
use Rattle.timer_core.specs.Chains.{end_at, node_at, list_at, rest_of}
use Rattle.timer_core.proofs.Told.{counted, head_within, front_told}
use Rattle.timer_core.proofs.chains.Chains.front.Goals as goal

pub entry_at-requires : goal.entry_at-requires
entry_at-requires c =
    let f : c.args.list < length c.self.inside.ends.items = omega (arith, counted c.self.inside.nodes.items c.self.inside.ends.items c.args.self.now c.self.view_is, c.requires) in
    let e : c.end_of-end.result ≡ end_at c.self.inside.ends.items c.args.list = c.end_of-end.ensures in
    rw e (head_within c.self.inside.nodes.items c.self.inside.ends.items c.args.self.now c.self.view_is c.args.list c.self.invariant.chained f (subst (λ (z : End). 0 < z.depth) e (search rules)))

pub returns : goal.returns
returns c =
    let e : c.end_of-end.result ≡ end_at c.self.inside.ends.items c.args.list = c.end_of-end.ensures in
    let h : 0 < (end_at c.self.inside.ends.items c.args.list).depth = subst (λ (z : End). 0 < z.depth) e (search rules) in
    let r : c.entry_at.result ≡ (node_at c.self.inside.nodes.items (end_at c.self.inside.ends.items c.args.list).head).entry =
    c.entry_at.ensures ∙ ap (λ (z : End). (node_at c.self.inside.nodes.items z.head).entry) e in
    front_told c.self.inside.nodes.items c.self.inside.ends.items c.args.self.now c.self.view_is c.args.list h ∙ ap (λ (x : Entry). x ∷ rest_of (list_at c.args.self.now c.args.list)) (sym r)
