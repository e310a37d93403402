use Rattle.std.proofs.Common.{arith, ap, sym, ◌∙◌, length, drop, nat_lt, true, refl, ◌≡◌, ◌+◌, ◌-◌, List, []}
use Rattle.rpc_model.specs.declared.mapper.Mapped.{Mapped}
use Rattle.std.specs.Option.{option_map}
use Rattle.call_tree.specs.declared.nodes.SelNode.{SelNode}
use Rattle.std.specs.Vec.Iter.{into_iter_items}
use Rattle.chan_tree.specs.Shown.{plan_of, plans_of, rule_of}
use Rattle.rpc_model.specs.Plan.{Plan, Plans, plan_then, par_plan, sel_plan}
use Rattle.rpc_model.specs.Versions.{nodes_of}
use Rattle.rpc_model.specs.State.{ends_of}
use Rattle.rpc_model.specs.Machine.{start_at}
use Rattle.call_tree.specs.Counts.{limits_of}
use Rattle.call_tree.specs.Running.{kinds_of}
use Rattle.call_tree.specs.Shown.{states_of}
use Rattle.call_tree.specs.Starting.{joined, subs_left, tries_left}
use Rattle.call_tree.proofs.Alike.{start-alike}
use Rattle.call_tree.proofs.Subs.{left-turn, left-all, nodes-drop, nodes-end, mapped-length, few-subs, next-number, none-is}
use Rattle.call_tree.proofs.Tries.{going-open, left-is, tries-turn, tries-all}
use Rattle.call_tree.proofs.starting.+start.Goals as goal

pub start-returns-in_ok-par-in-Par-clause-tree : goal.start-returns-in_ok-par-in-Par-clause-tree
start-returns-in_ok-par-in-Par-clause-tree g t c n other m =
    let kinds = kinds_of g.M.Mapper.answer g.G.Merger.answer in
    let plan : par_plan (rule_of c.in-Par.rule) (plans_of c.as_slice.result.now) ≡ c.args.plan.now =
    ap (λ ks. par_plan (rule_of c.in-Par.rule) (plans_of ks)) c.as_slice.ensures.value ∙ sym (ap plan_of c.in-Par.is) ∙ c.node.ensures in
    c.in_ok-par-in-Par.ensures.node ∙ ap (λ (p : Plan g.row.M.Denot g.row.G.Denot). (start_at kinds c.args.node p c.args.call c.args.request c.args.moment).state) plan
    ∙ start-alike kinds c.args.node n c.args.plan.now c.args.call other c.args.request c.args.moment m

pub start_par-begun-requires : goal.start_par-begun-requires
start_par-begun-requires g t c =
    let same = ap length c.as_slice.ensures.value ∙ ap length c.in_ok-asked.ensures.asked ∙ mapped-length g.M.Mapper.answer c.list-2.result.now c.list-3.result.now in
    let maps = ap length (c.list-2.ensures ∙ sym c.list.ensures) in
    let few = c.if-list-ge2147483648.false in
    record { few = omega (arith, same, maps, few) }

pub start_subs-add-requires-clause-few : goal.start_subs-add-requires-clause-few
start_subs-add-requires-clause-few g t c =
    let kids = few-subs c.loop-plan.par.kids.items in
    let number = c.loop-plan.invariant.number in
    let all = c.loop-plan.invariant.few in
    let few = c.requires.few in
    omega (arith, kids, number, all, few)

pub start_subs-returns-clause-started : goal.start_subs-returns-clause-started
start_subs-returns-clause-started g t c =
    let kinds = kinds_of g.M.Mapper.answer g.G.Merger.answer in
    let lim = limits_of c.args.par.now.counts in
    let merges = c.args.par.now.merges in
    let all =
    λ (asked : List Mapped). joined [] c.args.out.now.sends.items c.args.out.now.marks.items
    (subs_left kinds c.args.par.now.end (c.args.node + 1) (plans_of c.args.plans.now) c.args.call asked lim merges c.args.moment []) in
    left-all kinds c.loop-plan.par c.args.out.now c.loop-plan.out c.loop-plan.number (plans_of (drop c.loop-plan.plan-index c.args.plans.now)) c.args.call (into_iter_items c.loop-plan.asked)
    lim merges c.args.moment _
    (nodes-end c.args.plans.now c.loop-plan.plan-index c.loop-plan-test.false) (c.loop-plan.invariant.left ∙ ap all c.into_iter-asked.ensures.rest)

pub start_subs-loop-plan-preserved : goal.start_subs-loop-plan-preserved
start_subs-loop-plan-preserved g t c =
    let kinds = kinds_of g.M.Mapper.answer g.G.Merger.answer in
    let lim = limits_of c.args.par.now.counts in
    let merges = c.args.par.now.merges in
    let par = c.loop-plan.par in
    let plan = c.plan-item.result in
    let rest = plans_of (drop (c.loop-plan.plan-index + 1) c.args.plans.now) in
    let split : plans_of (drop c.loop-plan.plan-index c.args.plans.now) ≡ plan_then plan rest =
    nodes-drop c.args.plans.now c.loop-plan.plan-index plan c.loop-plan-test.true ∙ ap (λ (p : Plan g.row.M.Denot g.row.G.Denot). plan_then p rest) (sym c.plan-item.is) in
    let begun =
    λ (ps : Plans g.row.M.Denot g.row.G.Denot). joined par.kids.items c.loop-plan.out.sends.items c.loop-plan.out.marks.items
    (subs_left kinds par.end c.loop-plan.number ps c.args.call (into_iter_items c.loop-plan.asked) lim merges c.args.moment (ends_of (states_of par.kids.items))) in
    let turn =
    left-turn kinds par c.add.new.self c.loop-plan.out c.start_sub.new.out c.loop-plan.number plan rest c.args.call (into_iter_items c.loop-plan.asked)
    (into_iter_items c.next_ask-request.new.asked) c.next_ask-request.result c.is_none.result c.in_ok-tree.tree lim merges c.args.moment _
    c.loop-plan.invariant.limits c.loop-plan.invariant.merges (none-is par.end c.is_none.result c.is_none.ensures) c.next_ask-request.ensures.request c.next_ask-request.ensures.rest
    c.in_ok-tree.ensures.tree c.in_ok-tree.ensures.grown c.in_ok-add.ensures.kids c.in_ok-add.ensures.end
    (sym (ap begun split) ∙ c.loop-plan.invariant.left) in
    let number =
    next-number kinds c.add.new.self.kids.items par.kids.items c.in_ok-tree.tree c.args.node c.loop-plan.number c.is_none.result plan c.args.call c.next_ask-request.result c.args.moment
    c.in_ok-add.ensures.kids c.in_ok-tree.ensures.tree c.loop-plan.invariant.number in
    let more = c.nodes-number.ensures in
    let few = c.loop-plan.invariant.few in
    let nodes_split = ap nodes_of split in
    record {
      sound = c.in_ok-add.ensures.sound;
      limits = c.in_ok-add.ensures.limits ∙ c.loop-plan.invariant.limits;
      merges = c.in_ok-add.ensures.merges ∙ c.loop-plan.invariant.merges;
      number = omega (arith, number, more);
      few = omega (arith, few, more, nodes_split);
      left = ap (λ n. joined c.add.new.self.kids.items c.start_sub.new.out.sends.items c.start_sub.new.out.marks.items
          (subs_left kinds c.add.new.self.end (c.loop-plan.number + n) rest c.args.call (into_iter_items c.next_ask-request.new.asked) lim merges c.args.moment
          (ends_of (states_of c.add.new.self.kids.items)))) more
          ∙ turn;
    }

pub start-returns-in_ok-sel-in-Sel-clause-tree : goal.start-returns-in_ok-sel-in-Sel-clause-tree
start-returns-in_ok-sel-in-Sel-clause-tree g t c n other m =
    let kinds = kinds_of g.M.Mapper.answer g.G.Merger.answer in
    let plan : sel_plan c.in-Sel.timeout (plans_of c.as_slice-in-Sel.result.now) ≡ c.args.plan.now =
    ap (λ ks. sel_plan c.in-Sel.timeout (plans_of ks)) c.as_slice-in-Sel.ensures.value ∙ sym (ap plan_of c.in-Sel.is) ∙ c.node.ensures in
    c.in_ok-sel-in-Sel.ensures.node ∙ ap (λ (p : Plan g.row.M.Denot g.row.G.Denot). (start_at kinds c.args.node p c.args.call c.args.request c.args.moment).state) plan
    ∙ start-alike kinds c.args.node n c.args.plan.now c.args.call other c.args.request c.args.moment m

pub start_tries-returns-clause-started : goal.start_tries-returns-clause-started
start_tries-returns-clause-started g t c =
    let kinds = kinds_of g.M.Mapper.answer g.G.Merger.answer in
    tries-all kinds c.loop-plan.sel c.args.out.now c.loop-plan.out c.loop-plan.going c.loop-plan.number (plans_of (drop c.loop-plan.plan-index c.args.plans.now)) c.args.call
    c.args.sel.now.request c.args.moment _
    c.loop-plan.invariant.open_ (nodes-end c.args.plans.now c.loop-plan.plan-index c.loop-plan-test.false) c.loop-plan.invariant.left

pub start_tries-loop-plan-preserved : goal.start_tries-loop-plan-preserved
start_tries-loop-plan-preserved g t c =
    let kinds = kinds_of g.M.Mapper.answer g.G.Merger.answer in
    let sel = c.loop-plan.sel in
    let now : SelNode g.row.M.Denot g.row.G.Denot = record { request = c.add.new.self.request; end = c.in_ok-goes.over; firsts = c.add.new.self.firsts; kids = c.add.new.self.kids } in
    let plan = c.plan-item.result in
    let rest = plans_of (drop (c.loop-plan.plan-index + 1) c.args.plans.now) in
    let split : plans_of (drop c.loop-plan.plan-index c.args.plans.now) ≡ plan_then plan rest =
    nodes-drop c.args.plans.now c.loop-plan.plan-index plan c.loop-plan-test.true ∙ ap (λ (p : Plan g.row.M.Denot g.row.G.Denot). plan_then p rest) (sym c.plan-item.is) in
    let begun =
    λ (ps : Plans g.row.M.Denot g.row.G.Denot). joined sel.kids.items c.loop-plan.out.sends.items c.loop-plan.out.marks.items
    (tries_left kinds c.loop-plan.going sel.end c.loop-plan.number ps c.args.call c.args.sel.now.request c.args.moment) in
    let here = c.loop-plan-test.true in
    let all_left = c.loop-plan.invariant.count in
    let count : c.loop-plan.left - 1 + (c.loop-plan.plan-index + 1) ≡ length c.args.plans.now = omega (arith, here, all_left) in
    let turn =
    tries-turn kinds sel now c.loop-plan.out c.start_sub.new.out c.loop-plan.number plan rest c.args.call c.args.sel.now.request c.list.result.now c.in_ok-request.request c.loop-plan.going
    (nat_lt 0 (c.loop-plan.left - 1)) c.in_ok-goes.goes (option_map (λ e. e.now) c.end.result) c.take.result c.in_ok-goes.over c.in_ok-tree.tree c.args.moment _
    c.in_ok-request.ensures (c.list.ensures ∙ c.loop-plan.invariant.request) (left-is c.args.plans.now c.loop-plan.plan-index (c.loop-plan.left - 1) count) c.end.ensures c.take.ensures.value
    c.in_ok-goes.ensures c.in_ok-tree.ensures.tree c.in_ok-tree.ensures.grown c.in_ok-add.ensures.kids refl
    (sym (ap begun split) ∙ c.loop-plan.invariant.left) in
    let number =
    next-number kinds c.add.new.self.kids.items sel.kids.items c.in_ok-tree.tree c.args.node c.loop-plan.number true plan c.args.call c.in_ok-request.request c.args.moment
    c.in_ok-add.ensures.kids c.in_ok-tree.ensures.tree c.loop-plan.invariant.number in
    let more = c.nodes-number.ensures in
    let few = c.loop-plan.invariant.few in
    let nodes_split = ap nodes_of split in
    record {
      sound = record { places = c.in_ok-add.ensures.sound.places };
      request = c.in_ok-add.ensures.request ∙ c.loop-plan.invariant.request;
      number = omega (arith, number, more);
      few = omega (arith, few, more, nodes_split);
      count = count;
      open_ = λ goes. ap (λ r. r.1) c.in_ok-goes.ensures ∙ going-open c.loop-plan.going c.take.result _ _ (sym (ap (λ r. r.0) c.in_ok-goes.ensures) ∙ goes);
      left = ap (λ n. joined now.kids.items c.start_sub.new.out.sends.items c.start_sub.new.out.marks.items
          (tries_left kinds c.in_ok-goes.goes now.end (c.loop-plan.number + n) rest c.args.call c.args.sel.now.request c.args.moment)) more
          ∙ turn;
    }
