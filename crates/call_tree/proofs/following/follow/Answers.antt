use Rattle.std.proofs.Common.{ap, sym, ◌∙◌, ◌≡◌, suc, drop, List, ℕ}
use Rattle.std.specs.Option.{option_map}
use Rattle.rpc_model.specs.State.{State, Below}
use Rattle.rpc_model.specs.Machine.{start_waiting, is_left}
use Rattle.call_tree.specs.Brought.{started_tries}
use Rattle.call_tree.specs.Running.{kinds_of}
use Rattle.call_tree.specs.Shown.{states_of}
use Rattle.call_tree.proofs.Alike.{waiting-alike}
use Rattle.call_tree.proofs.Followed.{started-alike, followed-next}
use Rattle.call_tree.proofs.following.follow.Goals as goal

pub returns-clause-end : goal.returns-clause-end
returns-clause-end g c n call moment =
    let kinds = kinds_of g.M.Mapper.answer g.G.Merger.answer in
    let sel = c.args.sel.now in
    let left = drop (suc c.args.at) sel.kids.items in
    let others : c.behind-others.result.now ≡ left = c.behind-others.ensures ∙ ap (λ (xs : List (State g.row.M.Denot g.row.G.Denot)). drop (suc c.args.at) xs) c.as_slice.ensures.value in
    let next =
    followed-next kinds (option_map (λ e. e.now) c.args.end) c.in-Some.end.now c.any_left.result (states_of left) (start_waiting kinds n (states_of left) call sel.request moment)
    (started_tries kinds n (states_of left) call sel.request moment)
    (ap (option_map (λ e. e.now)) c.in-Some.is) (c.any_left.ensures ∙ ap (λ (ss : List (State g.row.M.Denot g.row.G.Denot)). is_left (states_of ss)) others) c.if-ends_node.ensures in
    c.in_ok-up.ensures.end
    ∙ ap (λ (ss : List (State g.row.M.Denot g.row.G.Denot)). (start_waiting kinds c.args.first (states_of ss) c.args.call c.list.result.now c.args.moment).end) others
    ∙ ap (λ (r : List ℕ). (start_waiting kinds c.args.first (states_of left) c.args.call r c.args.moment).end) c.list.ensures
    ∙ (waiting-alike kinds c.args.first n (states_of left) c.args.call call sel.request c.args.moment moment).end
    ∙ sym (ap (λ (b : Below g.row.M.Denot g.row.G.Denot). b.end) next.0)

pub returns-clause-started : goal.returns-clause-started
returns-clause-started g c n call moment =
    let kinds = kinds_of g.M.Mapper.answer g.G.Merger.answer in
    let sel = c.args.sel.now in
    let left = drop (suc c.args.at) sel.kids.items in
    let others : c.behind-others.result.now ≡ left = c.behind-others.ensures ∙ ap (λ (xs : List (State g.row.M.Denot g.row.G.Denot)). drop (suc c.args.at) xs) c.as_slice.ensures.value in
    let next =
    followed-next kinds (option_map (λ e. e.now) c.args.end) c.in-Some.end.now c.any_left.result (states_of left) (start_waiting kinds n (states_of left) call sel.request moment)
    (started_tries kinds n (states_of left) call sel.request moment)
    (ap (option_map (λ e. e.now)) c.in-Some.is) (c.any_left.ensures ∙ ap (λ (ss : List (State g.row.M.Denot g.row.G.Denot)). is_left (states_of ss)) others) c.if-ends_node.ensures in
    c.in_ok-up.ensures.started
    ∙ ap (λ (ss : List (State g.row.M.Denot g.row.G.Denot)). started_tries kinds c.args.first (states_of ss) c.args.call c.list.result.now c.args.moment) others
    ∙ ap (λ (r : List ℕ). started_tries kinds c.args.first (states_of left) c.args.call r c.args.moment) c.list.ensures
    ∙ started-alike kinds c.args.first n (states_of left) c.args.call call sel.request c.args.moment moment
    ∙ sym next.1
