use Rattle.std.proofs.Common.{arith}
use Rattle.timer_core.proofs.Told.{counted, in_ends, head_within, depth_room, push_kept, push_lists}
use Rattle.timer_core.proofs.Noted.{pushed_noted}
use Rattle.timer_core.proofs.chains.Chains.push.Goals as goal

pub push_node-requires-clause-list : goal.push_node-requires-clause-list
push_node-requires-clause-list c = omega (arith, counted c.self.inside.nodes.items c.self.inside.ends.items c.args.self.now c.self.view_is, c.requires, c.self.invariant.chained.many)

pub push_node-requires-clause-head : goal.push_node-requires-clause-head
push_node-requires-clause-head c =
    head_within c.self.inside.nodes.items c.self.inside.ends.items c.args.self.now c.self.view_is c.args.list c.self.invariant.chained
    (omega (arith, counted c.self.inside.nodes.items c.self.inside.ends.items c.args.self.now c.self.view_is, c.requires))

pub push_node-requires-clause-room : goal.push_node-requires-clause-room
push_node-requires-clause-room c =
    depth_room c.self.inside.nodes.items c.self.inside.ends.items c.args.self.now c.self.view_is c.args.list c.self.invariant.chained
    (omega (arith, counted c.self.inside.nodes.items c.self.inside.ends.items c.args.self.now c.self.view_is, c.requires))

pub invariant_of-self-2 : goal.invariant_of-self-2
invariant_of-self-2 c = record {
  chained = rw (c.in_ok-depth.ensures.nodes, c.in_ok-depth.ensures.ends)
      (push_kept c.self.inside.nodes.items c.self.inside.ends.items c.args.self.now c.self.view_is c.args.list c.args.entry c.self.invariant.chained
      (in_ends c.self.inside.nodes.items c.self.inside.ends.items c.args.self.now c.self.view_is c.args.list c.requires)
      c.in_ok-depth.ensures.few);
  noted = pushed_noted c.self.inside.ends.items c.push_node.new.ends.items c.args.list _ _
      c.self.inside.used c.mark_longer.new.used c.in_ok-depth.ensures.ends c.in_ok-depth.ensures.depth
      (in_ends c.self.inside.nodes.items c.self.inside.ends.items c.args.self.now c.self.view_is c.args.list c.requires)
      c.self.invariant.noted c.mark_longer.ensures;
}

pub returns-clause-after : goal.returns-clause-after
returns-clause-after c =
    rw (c.in_ok-depth.ensures.nodes, c.in_ok-depth.ensures.ends)
    (push_lists c.self.inside.nodes.items c.self.inside.ends.items c.args.self.now c.self.view_is c.args.list c.args.entry c.self.invariant.chained
    (omega (arith, counted c.self.inside.nodes.items c.self.inside.ends.items c.args.self.now c.self.view_is, c.requires)))
