use Rattle.timer_core.proofs.Told.{in_ends, shifted_at, shifted_room, shifted_head, shifted_kept, shifted_lists}
use Rattle.timer_core.proofs.Noted.{shifted_noted}
use Rattle.timer_core.proofs.chains.Chains.shift.Goals as goal

pub take_node-node-requires-clause-head : goal.take_node-node-requires-clause-head
take_node-node-requires-clause-head c =
    shifted_at c.self.inside.nodes.items c.self.inside.ends.items c.args.self.now c.self.view_is
    c.self.invariant.chained c.args.from c.args.to c.requires.from_in c.requires.to_in c.requires.some

pub link_node-depth-requires-clause-at : goal.link_node-depth-requires-clause-at
link_node-depth-requires-clause-at c =
    rw c.take_node-node.ensures.at
    (shifted_at c.self.inside.nodes.items c.self.inside.ends.items c.args.self.now c.self.view_is
    c.self.invariant.chained c.args.from c.args.to c.requires.from_in c.requires.to_in c.requires.some)

pub link_node-depth-requires-clause-head : goal.link_node-depth-requires-clause-head
link_node-depth-requires-clause-head c =
    rw c.take_node-node.ensures.ends
    (shifted_head c.self.inside.nodes.items c.self.inside.ends.items c.args.self.now c.self.view_is
    c.self.invariant.chained c.args.from c.args.to c.requires.from_in c.requires.to_in c.requires.some)

pub link_node-depth-requires-clause-room : goal.link_node-depth-requires-clause-room
link_node-depth-requires-clause-room c =
    rw c.take_node-node.ensures.ends
    (shifted_room c.self.inside.nodes.items c.self.inside.ends.items c.args.self.now c.self.view_is
    c.self.invariant.chained c.args.from c.args.to c.requires.from_in c.requires.to_in c.requires.some)

pub invariant_of-self : goal.invariant_of-self
invariant_of-self c = record {
  chained = rw (c.link_node-depth.ensures.nodes, c.link_node-depth.ensures.ends, c.take_node-node.ensures.ends, c.take_node-node.ensures.at)
      (shifted_kept c.self.inside.nodes.items c.self.inside.ends.items c.args.self.now c.self.view_is
      c.self.invariant.chained c.args.from c.args.to c.requires.from_in c.requires.to_in c.requires.some c.take_node-node.result.entry);
  noted = shifted_noted c.self.inside.nodes.items c.self.inside.ends.items c.take_node-node.new.ends.items
      c.args.from c.args.to c.self.inside.used c.take_node-node.ensures.ends
      (in_ends c.self.inside.nodes.items c.self.inside.ends.items c.args.self.now c.self.view_is c.args.from c.requires.from_in)
      (in_ends c.self.inside.nodes.items c.self.inside.ends.items c.args.self.now c.self.view_is c.args.to c.requires.to_in)
      c.self.invariant.noted
      c.link_node-depth.new.ends.items c.take_node-node.result.at c.take_node-node.result.depth
      c.link_node-depth.result c.mark_shorter.new.used c.mark_longer.new.used
      c.link_node-depth.ensures.ends c.take_node-node.ensures.depth c.link_node-depth.ensures.depth
      c.mark_shorter.ensures c.mark_longer.ensures;
}

pub returns : goal.returns
returns c =
    rw (c.link_node-depth.ensures.nodes, c.link_node-depth.ensures.ends, c.take_node-node.ensures.ends, c.take_node-node.ensures.at)
    (shifted_lists c.self.inside.nodes.items c.self.inside.ends.items c.args.self.now c.self.view_is
    c.self.invariant.chained c.args.from c.args.to c.requires.from_in c.requires.to_in c.requires.some
    c.take_node-node.result.entry c.requires.apart c.take_node-node.ensures.entry)
