use Rattle.std.proofs.Common.{arith, sym, ◌∙◌, ◌+◌, ◌<◌, ◌≤◌, ◌-◌, length, get_or, List, ℕ, subst, refl}
use Rattle.chan_tree.specs.Table.{IsRising}
use Rattle.call_tree.proofs.Kids.{firsts-rise, first-of, at-last, at-there}
use Rattle.call_tree.proofs.nodes.ParNode.sub_at.Goals as goal

pub last_up_to-at-requires-clause-rising : goal.last_up_to-at-requires-clause-rising
last_up_to-at-requires-clause-rising g c = subst IsRising (sym (c.as_slice-firsts.ensures.value ∙ c.requires.sound.places)) (firsts-rise 1 c.args.self.now.kids.items)

pub last_up_to-at-requires-clause-some : goal.last_up_to-at-requires-clause-some
last_up_to-at-requires-clause-some g c =
    let high = c.requires.high in
    let low = c.requires.low in
    subst (λ (fs : List ℕ). 0 < length fs) (sym (c.as_slice-firsts.ensures.value ∙ c.requires.sound.places)) (first-of c.args.self.now.kids.items (omega (arith, high, low))).0

pub last_up_to-at-requires-clause-first : goal.last_up_to-at-requires-clause-first
last_up_to-at-requires-clause-first g c =
    let high = c.requires.high in
    let low = c.requires.low in
    let one = (first-of c.args.self.now.kids.items (omega (arith, high, low))).1 in
    subst (λ (fs : List ℕ). get_or fs 0 0 ≤ c.args.to - c.args.node) (sym (c.as_slice-firsts.ensures.value ∙ c.requires.sound.places)) (omega (arith, one, low))

pub returns-clause-at : goal.returns-clause-at
returns-clause-at g c =
    at-last c.as_slice-firsts.result.now c.args.self.now.kids.items c.args.node c.args.to c.last_up_to-at.result _ (c.as_slice-firsts.ensures.value ∙ c.requires.sound.places) c.requires.low
    c.last_up_to-at.ensures refl

pub returns-clause-there : goal.returns-clause-there
returns-clause-there g c =
    at-there c.args.node c.args.to c.args.self.now.kids.items c.last_up_to-at.result _
    (at-last c.as_slice-firsts.result.now c.args.self.now.kids.items c.args.node c.args.to c.last_up_to-at.result (c.args.node + get_or c.as_slice-firsts.result.now c.last_up_to-at.result 0)
    (c.as_slice-firsts.ensures.value ∙ c.requires.sound.places) c.requires.low c.last_up_to-at.ensures refl)
