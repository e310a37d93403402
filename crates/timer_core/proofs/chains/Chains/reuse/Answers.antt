use Rattle.std.proofs.Common.{◌-◌, arith}
use Rattle.timer_core.proofs.Told.{in_ends, shifted_at, shifted_room, shifted_head, shifted_kept, reused_lists}
use Rattle.timer_core.proofs.Noted.{free_noted, shifted_noted}
use Rattle.timer_core.proofs.chains.Chains.reuse.Goals as goal

pub take_node-free-requires-clause-head : goal.take_node-free-requires-clause-head
take_node-free-requires-clause-head c =
    shifted_at c.self.inside.nodes.items c.self.inside.ends.items c.args.self.now c.self.view_is
    c.self.invariant.chained 0 c.args.list (omega (arith, c.requires.list_in)) c.requires.list_in c.requires.some

pub link_node-depth-requires-clause-at : goal.link_node-depth-requires-clause-at
link_node-depth-requires-clause-at c =
    rw c.take_node-free.ensures.at
    (shifted_at c.self.inside.nodes.items c.self.inside.ends.items c.args.self.now c.self.view_is
    c.self.invariant.chained 0 c.args.list (omega (arith, c.requires.list_in)) c.requires.list_in c.requires.some)

pub link_node-depth-requires-clause-head : goal.link_node-depth-requires-clause-head
link_node-depth-requires-clause-head c =
    rw c.take_node-free.ensures.ends
    (shifted_head c.self.inside.nodes.items c.self.inside.ends.items c.args.self.now c.self.view_is
    c.self.invariant.chained 0 c.args.list (omega (arith, c.requires.list_in)) c.requires.list_in c.requires.some)

pub link_node-depth-requires-clause-room : goal.link_node-depth-requires-clause-room
link_node-depth-requires-clause-room c =
    rw c.take_node-free.ensures.ends
    (shifted_room c.self.inside.nodes.items c.self.inside.ends.items c.args.self.now c.self.view_is
    c.self.invariant.chained 0 c.args.list (omega (arith, c.requires.list_in)) c.requires.list_in c.requires.some)

pub invariant_of-self : goal.invariant_of-self
invariant_of-self c = record {
  chained = rw (c.link_node-depth.ensures.nodes, c.link_node-depth.ensures.ends, c.take_node-free.ensures.ends, c.take_node-free.ensures.at)
      (shifted_kept c.self.inside.nodes.items c.self.inside.ends.items c.args.self.now c.self.view_is
      c.self.invariant.chained 0 c.args.list (omega (arith, c.requires.list_in)) c.requires.list_in c.requires.some c.args.entry);
  noted = shifted_noted c.self.inside.nodes.items c.self.inside.ends.items c.take_node-free.new.ends.items
      0 c.args.list c.self.inside.used c.take_node-free.ensures.ends
      (in_ends c.self.inside.nodes.items c.self.inside.ends.items c.args.self.now c.self.view_is 0 (omega (arith, c.requires.list_in)))
      (in_ends c.self.inside.nodes.items c.self.inside.ends.items c.args.self.now c.self.view_is c.args.list c.requires.list_in)
      c.self.invariant.noted
      c.link_node-depth.new.ends.items c.take_node-free.result.at c.take_node-free.result.depth
      c.link_node-depth.result c.self.inside.used c.mark_longer.new.used
      c.link_node-depth.ensures.ends c.take_node-free.ensures.depth c.link_node-depth.ensures.depth
      (free_noted (c.take_node-free.result.depth - 1) c.self.inside.used) c.mark_longer.ensures;
}

pub returns : goal.returns
returns c =
    rw (c.link_node-depth.ensures.nodes, c.link_node-depth.ensures.ends, c.take_node-free.ensures.ends, c.take_node-free.ensures.at)
    (reused_lists c.self.inside.nodes.items c.self.inside.ends.items c.args.self.now c.self.view_is
    c.self.invariant.chained 0 c.args.list (omega (arith, c.requires.list_in)) c.requires.list_in c.requires.some
    c.args.entry (λ e. omega (arith, e, c.requires.used)))
