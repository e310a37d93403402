-- The subs so far, and those that are left, are all of them.
use Rattle.std.proofs.Common.{◌≡◌, ◌+◌, ◌*◌, [], None, true, drop, length}
use Rattle.std.specs.Vec.Iter.{into_iter_items}
use Rattle.chan_tree.specs.Shown.{plans_of}
use Rattle.rpc_model.specs.Versions.{nodes, nodes_of}
use Rattle.rpc_model.specs.State.{size_of, ends_of}
use Rattle.call_tree.specs.Counts.{limits_of}
use Rattle.call_tree.specs.Running.{kinds_of}
use Rattle.call_tree.specs.Shown.{states_of, IsParNode, IsSelNode}
use Rattle.call_tree.specs.Starting.{subs_left, tries_left, joined}
use Rattle.call_tree.proofs.starting.+start.Given as goal

abbrev pub invariant-start_subs-loop-plan : goal.invariant-start_subs-loop-plan
invariant-start_subs-loop-plan g l =
    let kinds = kinds_of g.M.Mapper.answer g.G.Merger.answer in
    record {
      sound : IsParNode l.par;
      limits : limits_of l.par.counts ≡ limits_of l.initial.par.counts;
      merges : l.par.merges ≡ l.initial.par.merges;
      number : l.number ≡ l.node + (1 + size_of (states_of l.par.kids.items));
      few : l.number + nodes_of (plans_of (drop l.plan-index l.plans)) ≡ l.node + (1 + nodes_of (plans_of l.plans));
      left : joined l.par.kids.items l.out.sends.items l.out.marks.items
          (subs_left kinds l.par.end l.number (plans_of (drop l.plan-index l.plans)) l.call (into_iter_items l.asked) (limits_of l.initial.par.counts) l.initial.par.merges l.moment
          (ends_of (states_of l.par.kids.items)))
          ≡ joined [] l.initial.out.sends.items l.initial.out.marks.items
          (subs_left kinds l.initial.par.end (l.node + 1) (plans_of l.plans) l.call (into_iter_items l.initial.asked) (limits_of l.initial.par.counts) l.initial.par.merges l.moment []);
    }

abbrev pub decreases-start : goal.decreases-start
decreases-start g l = 4 * nodes l.plan.now

abbrev pub decreases-start_par : goal.decreases-start_par
decreases-start_par g l = 4 * nodes_of (plans_of l.plans.now) + 3

abbrev pub decreases-start_subs : goal.decreases-start_subs
decreases-start_subs g l = 4 * nodes_of (plans_of l.plans.now) + 2

abbrev pub decreases-start_sub : goal.decreases-start_sub
decreases-start_sub g l = 4 * nodes l.plan.now + 1

abbrev pub invariant-start_tries-loop-plan : goal.invariant-start_tries-loop-plan
invariant-start_tries-loop-plan g l =
    let kinds = kinds_of g.M.Mapper.answer g.G.Merger.answer in
    record {
      sound : IsSelNode l.sel;
      request : l.sel.request ≡ l.initial.sel.request;
      number : l.number ≡ l.node + (1 + size_of (states_of l.sel.kids.items));
      few : l.number + nodes_of (plans_of (drop l.plan-index l.plans)) ≡ l.node + (1 + nodes_of (plans_of l.plans));
      count : l.left + l.plan-index ≡ length l.plans;
      open_ : l.going ≡ true → l.sel.end ≡ None;
      left : joined l.sel.kids.items l.out.sends.items l.out.marks.items (tries_left kinds l.going l.sel.end l.number (plans_of (drop l.plan-index l.plans)) l.call l.initial.sel.request l.moment)
          ≡ joined [] l.initial.out.sends.items l.initial.out.marks.items (tries_left kinds true l.initial.sel.end (l.node + 1) (plans_of l.plans) l.call l.initial.sel.request l.moment);
    }

abbrev pub decreases-start_sel : goal.decreases-start_sel
decreases-start_sel g l = 4 * nodes_of (plans_of l.plans.now) + 3

abbrev pub decreases-start_tries : goal.decreases-start_tries
decreases-start_tries g l = 4 * nodes_of (plans_of l.plans.now) + 2
