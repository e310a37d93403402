use Rattle.std.proofs.Common.{arith, ap, sym, ◌∙◌, length, ◌+◌, ◌-◌, ◌++◌, ◌≡◌, ◌∷◌, [], drop, List, ℕ}
use Rattle.std.specs.Option.{option_map}
use Rattle.rpc_model.specs.State.{State, Run}
use Rattle.rpc_model.specs.Machine.{start_at, start_waiting}
use Rattle.call_tree.specs.Brought.{started_tries}
use Rattle.call_tree.specs.Running.{kinds_of}
use Rattle.call_tree.specs.Shown.{states_of}
use Rattle.call_tree.proofs.Followed.{next-turn, waiting-size, next-items, next-sent, last-sent}
use Rattle.call_tree.proofs.following.next_tries.Goals as goal

pub nodes-requires : goal.nodes-requires
nodes-requires g c =
    let waiting = sym c.plan.ensures ∙ ap (option_map (λ p. p.now)) c.in-Some.is in
    let size = waiting-size (kinds_of g.M.Mapper.answer g.G.Merger.answer) c.args.kids.now c.loop-kid.kid-index c.kid-item.result c.in-Some.plan.now c.loop-kid-test.true c.kid-item.is waiting in
    let number = c.loop-kid.invariant.number in
    let few = c.requires.few in
    record { few = omega (arith, size, number, few) }

pub overflow_add-number : goal.overflow_add-number
overflow_add-number g c =
    let waiting = sym c.plan.ensures ∙ ap (option_map (λ p. p.now)) c.in-Some.is in
    let size = waiting-size (kinds_of g.M.Mapper.answer g.G.Merger.answer) c.args.kids.now c.loop-kid.kid-index c.kid-item.result c.in-Some.plan.now c.loop-kid-test.true c.kid-item.is waiting in
    let number = c.loop-kid.invariant.number in
    let few = c.requires.few in
    let more = c.nodes.ensures in
    omega (arith, size, number, few, more)

pub loop-kid-preserved : goal.loop-kid-preserved
loop-kid-preserved g c =
    let kinds = kinds_of g.M.Mapper.answer g.G.Merger.answer in
    let kids = c.args.kids.now in
    let plan = c.in-Some.plan.now in
    let waiting = sym c.plan.ensures ∙ ap (option_map (λ p. p.now)) c.in-Some.is in
    let here = c.loop-kid-test.true in
    let all_left = c.loop-kid.invariant.count in
    let count : c.loop-kid.left - 1 + (c.loop-kid.kid-index + 1) ≡ length kids = omega (arith, here, all_left) in
    let copy : c.of-copy.result ≡ c.args.request.now = c.of-copy.ensures ∙ c.in_ok-from_slice.ensures.items in
    let run_is = ap (λ (r : List ℕ). start_at kinds c.loop-kid.number plan c.args.call r c.args.moment) copy in
    let tree = c.in_ok-tree.ensures.tree c.loop-kid.number c.args.call c.args.moment ∙ ap (λ (r : Run g.row.M.Denot g.row.G.Denot). r.state) run_is in
    let turns =
    next-turn kinds kids c.loop-kid.kid-index c.kid-item.result plan c.loop-kid.number (c.loop-kid.left - 1) c.in_ok-tree.tree c.in_ok-goes.goes c.in_ok-goes.over
    (option_map (λ e. e.now) c.end.result) c.args.call c.args.request.now c.args.moment here c.kid-item.is waiting tree count c.end.ensures c.in_ok-goes.ensures in
    let turn = turns.goes_on c.if-not-goes.false in
    let size = waiting-size kinds kids c.loop-kid.kid-index c.kid-item.result plan here c.kid-item.is waiting in
    let number = c.loop-kid.invariant.number in
    let more = c.nodes.ensures in
    let rest = states_of (drop (c.loop-kid.kid-index + 1) kids) in
    let later = λ (n : ℕ). start_waiting kinds (c.loop-kid.number + n) rest c.args.call c.args.request.now c.args.moment in
    record {
      number = omega (arith, number, more, size);
      count = count;
      end = ap (λ n. (later n).end) more ∙ sym turn.0 ∙ c.loop-kid.invariant.end;
      started = ap (λ n. c.push.new.self.items ++ started_tries kinds (c.loop-kid.number + n) rest c.args.call c.args.request.now c.args.moment) more
          ∙ next-items kinds c.loop-kid.started.items c.push.new.self.items c.in_ok-tree.tree _ _ _ _ c.in_ok-push.ensures.items tree turn.3 c.loop-kid.invariant.started;
      sends = ap (λ n. c.start.new.out.sends.items ++ (later n).sends) more
          ∙ next-sent c.loop-kid.out.sends.items c.start.new.out.sends.items _ _ _ _ _ c.in_ok-tree.ensures.grown.sent (ap (λ (r : Run g.row.M.Denot g.row.G.Denot). r.sends) run_is) turn.1
          c.loop-kid.invariant.sends;
      marks = ap (λ n. c.start.new.out.marks.items ++ (later n).marks) more
          ∙ next-sent c.loop-kid.out.marks.items c.start.new.out.marks.items _ _ _ _ _ c.in_ok-tree.ensures.grown.set (ap (λ (r : Run g.row.M.Denot g.row.G.Denot). r.marks) run_is) turn.2
          c.loop-kid.invariant.marks;
    }

pub returns-then-not-goes-clause-end : goal.returns-then-not-goes-clause-end
returns-then-not-goes-clause-end g c =
    let kinds = kinds_of g.M.Mapper.answer g.G.Merger.answer in
    let kids = c.args.kids.now in
    let plan = c.in-Some.plan.now in
    let waiting = sym c.plan.ensures ∙ ap (option_map (λ p. p.now)) c.in-Some.is in
    let here = c.loop-kid-test.true in
    let all_left = c.loop-kid.invariant.count in
    let count : c.loop-kid.left - 1 + (c.loop-kid.kid-index + 1) ≡ length kids = omega (arith, here, all_left) in
    let copy : c.of-copy.result ≡ c.args.request.now = c.of-copy.ensures ∙ c.in_ok-from_slice.ensures.items in
    let run_is = ap (λ (r : List ℕ). start_at kinds c.loop-kid.number plan c.args.call r c.args.moment) copy in
    let tree = c.in_ok-tree.ensures.tree c.loop-kid.number c.args.call c.args.moment ∙ ap (λ (r : Run g.row.M.Denot g.row.G.Denot). r.state) run_is in
    let turns =
    next-turn kinds kids c.loop-kid.kid-index c.kid-item.result plan c.loop-kid.number (c.loop-kid.left - 1) c.in_ok-tree.tree c.in_ok-goes.goes c.in_ok-goes.over
    (option_map (λ e. e.now) c.end.result) c.args.call c.args.request.now c.args.moment here c.kid-item.is waiting tree count c.end.ensures c.in_ok-goes.ensures in
    sym (turns.stops c.if-not-goes.true).0 ∙ c.loop-kid.invariant.end

pub returns-then-not-goes-clause-started : goal.returns-then-not-goes-clause-started
returns-then-not-goes-clause-started g c =
    let kinds = kinds_of g.M.Mapper.answer g.G.Merger.answer in
    let kids = c.args.kids.now in
    let plan = c.in-Some.plan.now in
    let waiting = sym c.plan.ensures ∙ ap (option_map (λ p. p.now)) c.in-Some.is in
    let here = c.loop-kid-test.true in
    let all_left = c.loop-kid.invariant.count in
    let count : c.loop-kid.left - 1 + (c.loop-kid.kid-index + 1) ≡ length kids = omega (arith, here, all_left) in
    let copy : c.of-copy.result ≡ c.args.request.now = c.of-copy.ensures ∙ c.in_ok-from_slice.ensures.items in
    let run_is = ap (λ (r : List ℕ). start_at kinds c.loop-kid.number plan c.args.call r c.args.moment) copy in
    let tree = c.in_ok-tree.ensures.tree c.loop-kid.number c.args.call c.args.moment ∙ ap (λ (r : Run g.row.M.Denot g.row.G.Denot). r.state) run_is in
    let turns =
    next-turn kinds kids c.loop-kid.kid-index c.kid-item.result plan c.loop-kid.number (c.loop-kid.left - 1) c.in_ok-tree.tree c.in_ok-goes.goes c.in_ok-goes.over
    (option_map (λ e. e.now) c.end.result) c.args.call c.args.request.now c.args.moment here c.kid-item.is waiting tree count c.end.ensures c.in_ok-goes.ensures in
    last-sent c.loop-kid.started.items c.push.new.self.items _ _ _ _ c.in_ok-push.ensures.items (ap (λ (s : State g.row.M.Denot g.row.G.Denot). s ∷ []) tree)
    (turns.stops c.if-not-goes.true).3 c.loop-kid.invariant.started

pub returns-then-not-goes-clause-grown : goal.returns-then-not-goes-clause-grown
returns-then-not-goes-clause-grown g c =
    let kinds = kinds_of g.M.Mapper.answer g.G.Merger.answer in
    let kids = c.args.kids.now in
    let plan = c.in-Some.plan.now in
    let waiting = sym c.plan.ensures ∙ ap (option_map (λ p. p.now)) c.in-Some.is in
    let here = c.loop-kid-test.true in
    let all_left = c.loop-kid.invariant.count in
    let count : c.loop-kid.left - 1 + (c.loop-kid.kid-index + 1) ≡ length kids = omega (arith, here, all_left) in
    let copy : c.of-copy.result ≡ c.args.request.now = c.of-copy.ensures ∙ c.in_ok-from_slice.ensures.items in
    let run_is = ap (λ (r : List ℕ). start_at kinds c.loop-kid.number plan c.args.call r c.args.moment) copy in
    let tree = c.in_ok-tree.ensures.tree c.loop-kid.number c.args.call c.args.moment ∙ ap (λ (r : Run g.row.M.Denot g.row.G.Denot). r.state) run_is in
    let turns =
    next-turn kinds kids c.loop-kid.kid-index c.kid-item.result plan c.loop-kid.number (c.loop-kid.left - 1) c.in_ok-tree.tree c.in_ok-goes.goes c.in_ok-goes.over
    (option_map (λ e. e.now) c.end.result) c.args.call c.args.request.now c.args.moment here c.kid-item.is waiting tree count c.end.ensures c.in_ok-goes.ensures in
    record {
      sent = last-sent c.loop-kid.out.sends.items c.start.new.out.sends.items _ _ _ _ c.in_ok-tree.ensures.grown.sent (ap (λ (r : Run g.row.M.Denot g.row.G.Denot). r.sends) run_is)
          (turns.stops c.if-not-goes.true).1 c.loop-kid.invariant.sends;
      set = last-sent c.loop-kid.out.marks.items c.start.new.out.marks.items _ _ _ _ c.in_ok-tree.ensures.grown.set (ap (λ (r : Run g.row.M.Denot g.row.G.Denot). r.marks) run_is)
          (turns.stops c.if-not-goes.true).2 c.loop-kid.invariant.marks;
    }
