-- The list is turned round, so that its first request goes out first.
use Rattle.std.proofs.Common.{◌≡◌, reverse, [], ◌∷◌, ap, sym, ◌∙◌}
use Rattle.std.proofs.lemmas.List.{reverse-reverse, reverse-append}
use Rattle.sim_run.specs.Sends.{posted}
use Rattle.sim_run.proofs.acting.post.Goals as goal

pub requests-init : goal.requests-init
requests-init c = ap (λ xs. posted c.args.first c.args.plan.now c.args.call xs c.args.wires.now.items) (ap reverse c.reverse.ensures.items ∙ reverse-reverse c.args.sends.items)

pub requests-preserved : goal.requests-preserved
requests-preserved c =
    let left = c.last_of.new.sends.items in
    let request = c.in-Some.request in
    let turned = ap reverse c.in-Some.ensures.last ∙ reverse-append left (request ∷ []) in
    ap (posted c.args.first c.args.plan.now c.args.call (reverse left)) c.in_ok-post_one.ensures
    ∙ ap (λ xs. posted c.args.first c.args.plan.now c.args.call xs c.requests.wires.items) (sym turned)
    ∙ c.requests.invariant

pub returns : goal.returns
returns c = ap (λ xs. posted c.args.first c.args.plan.now c.args.call (reverse xs) c.requests.wires.items) (sym c.in_default.ensures.last) ∙ c.requests.invariant
