use Rattle.std.proofs.Common.{arith, ap, ◌∙◌, length, ◌≡◌, ◌+◌, suc, drop, get_or}
use Rattle.rpc_model.specs.State.{size_of}
use Rattle.call_tree.specs.Shown.{states_of}
use Rattle.call_tree.proofs.Kids.{firsts-length}
use Rattle.call_tree.proofs.Subs.{few-subs}
use Rattle.call_tree.proofs.Followed.{number-rest, none-past, get-place}
use Rattle.call_tree.proofs.nodes.SelNode.number_behind.Goals as goal

pub overflow_add-result : goal.overflow_add-result
overflow_add-result g c =
    let kids = c.args.self.now.kids.items in
    let n = c.len.ensures ∙ c.args.self.now.firsts.ok.0 ∙ ap length c.requires.sound.places ∙ firsts-length 1 kids in
    let test = c.if-at-len.true in
    let at = c.index.ensures ∙ get-place c.args.self.now.firsts.items kids (c.args.at + 1) c.index.result.now c.requires.sound.places (omega (arith, n, test)) in
    let rest = number-rest 1 kids (c.args.at + 1) (omega (arith, n, test)) in
    let few = c.requires.few in
    omega (arith, at, rest, few)

pub overflow_add-at : goal.overflow_add-at
overflow_add-at g c =
    let k = few-subs c.args.self.now.kids.items in
    let there = c.requires.there in
    let few = c.requires.few in
    omega (arith, k, there, few)

pub returns-then-at-len : goal.returns-then-at-len
returns-then-at-len g c =
    let kids = c.args.self.now.kids.items in
    let n = c.len.ensures ∙ c.args.self.now.firsts.ok.0 ∙ ap length c.requires.sound.places ∙ firsts-length 1 kids in
    let test = c.if-at-len.true in
    let at = c.index.ensures ∙ get-place c.args.self.now.firsts.items kids (c.args.at + 1) c.index.result.now c.requires.sound.places (omega (arith, n, test)) in
    let here = ap (λ fs. get_or fs (c.args.at + 1) 0) c.requires.sound.places in
    let rest = number-rest 1 kids (c.args.at + 1) (omega (arith, n, test)) in
    let one : suc c.args.at ≡ c.args.at + 1 = omega arith in
    let same = ap (λ k. size_of (states_of (drop k kids))) one in
    let few = c.requires.few in
    (λ less. omega (arith, at, here), omega (arith, at, rest, same, few))

pub returns : goal.returns
returns g c =
    let kids = c.args.self.now.kids.items in
    let n = c.len.ensures ∙ c.args.self.now.firsts.ok.0 ∙ ap length c.requires.sound.places ∙ firsts-length 1 kids in
    let test = c.if-at-len.false in
    let none = ap (λ ss. size_of (states_of ss)) (none-past kids (suc c.args.at) (omega (arith, n, test))) in
    (λ less. absurd (omega (arith, n, test, less)), omega (arith, none))
