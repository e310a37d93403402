-- A join finds the call, takes its marks, and lets its range go or ends it.
use Rattle.std.proofs.Common.{◌≡◌, sym, ap, arith, ◌∙◌}
use Rattle.id_pool.specs.Ranges.{look}
use Rattle.id_pool.specs.Answers.{collect_says}
use Rattle.sim_run.specs.Acting.{joined_by}
use Rattle.sim_run.specs.Slots.{finished}
use Rattle.sim_run.proofs.Changes.{visit-changed}
use Rattle.sim_run.proofs.Joins.{finds, finds-look, finish-says, ending-own, join-over, join-open, says-nothing, join-nothing, says-open, says-over, locked-low, locked-acts, locked-early}
use Rattle.sim_run.proofs.Joins.{acts-none, joins, joins-open, joins-over, not-true, not-false}
use Rattle.sim_run.proofs.slots.join.Goals as goal

pub returns-in_default : goal.returns-in_default
returns-in_default c = record {
  says = sym (says-nothing c.args.reached (look c.args.first c.args.pool.now) (λ k e. c.in_default.not-Yes k (c.lock.ensures.answer ∙ e)));
  after = c.lock.ensures.after ∙ join-nothing c.args.reached c.args.first c.args.pool.now (λ k e. c.in_default.not-Yes k (c.lock.ensures.answer ∙ e));
  acts = acts-none c.args.first (joined_by c.args.reached) (look c.args.first c.args.pool.now) c.args.wires.now.items c.args.marks.now (λ k e. c.in_default.not-Yes k (c.lock.ensures.answer ∙ e));
}

pub finish-requires-clause-low : goal.finish-requires-clause-low
finish-requires-clause-low c = let low = locked-low c.args.first c.in-Yes.offset c.args.pool.now c.requires.few (sym c.in-Yes.ensures.answer) in omega (arith, c.saturating_sub-own.ensures, low)

pub finish-requires-clause-early : goal.finish-requires-clause-early
finish-requires-clause-early c = locked-early c.args.reached c.args.first c.in-Yes.offset c.args.pool.now c.lock.new.self c.requires.early (sym c.in-Yes.ensures.answer) c.lock.ensures.after

pub returns-in_default-done-clause-says : goal.returns-in_default-done-clause-says
returns-in_default-done-clause-says c =
    let f = finds c.args.first c.in-Yes.offset c.args.pool.now (sym c.in-Yes.ensures.answer) in
    let done = finish-says c.args.reached c.args.first c.in-Yes.offset c.args.pool.now c.lock.new.self f.0 c.in_ok-done.done f.1 c.lock.ensures.after c.in_ok-done.ensures.says in
    absurd (c.in_default-done.not-Some _ done)

pub returns-in_default-done-clause-after : goal.returns-in_default-done-clause-after
returns-in_default-done-clause-after c =
    let f = finds c.args.first c.in-Yes.offset c.args.pool.now (sym c.in-Yes.ensures.answer) in
    let done = finish-says c.args.reached c.args.first c.in-Yes.offset c.args.pool.now c.lock.new.self f.0 c.in_ok-done.done f.1 c.lock.ensures.after c.in_ok-done.ensures.says in
    absurd (c.in_default-done.not-Some _ done)

pub returns-then-not-finished-clause-says : goal.returns-then-not-finished-clause-says
returns-then-not-finished-clause-says c =
    let j =
    joins c.args.reached c.args.first c.in-Yes.offset c.args.pool.now c.lock.new.self c.in_ok-done.done c.in-Some.finished (sym c.in-Yes.ensures.answer) c.lock.ensures.after
    c.in_ok-done.ensures.says c.in-Some.is in
    says-open c.args.reached c.in-Yes.offset (look c.args.first c.args.pool.now) j.range c.in-Some.finished (finds-look c.args.first c.in-Yes.offset c.args.pool.now j.range j.finds) j.is
    (not-true _ c.if-not-finished.true)

pub returns-then-not-finished-clause-after : goal.returns-then-not-finished-clause-after
returns-then-not-finished-clause-after c =
    let j =
    joins c.args.reached c.args.first c.in-Yes.offset c.args.pool.now c.lock.new.self c.in_ok-done.done c.in-Some.finished (sym c.in-Yes.ensures.answer) c.lock.ensures.after
    c.in_ok-done.ensures.says c.in-Some.is in
    rw (c.unlock.ensures.after, c.in_ok-done.ensures.after, c.lock.ensures.after)
    (visit-changed (finished c.args.reached) c.args.first c.in-Yes.offset c.args.pool.now (sym c.in-Yes.ensures.answer)
    ∙ join-open c.args.reached c.args.first c.in-Yes.offset c.args.pool.now j.range j.finds
    (joins-open c.args.reached c.args.first c.in-Yes.offset c.args.pool.now c.in-Some.finished j (not-true _ c.if-not-finished.true)))

pub returns-in_default-collect : goal.returns-in_default-collect
returns-in_default-collect c =
    let f = finds c.args.first c.in-Yes.offset c.args.pool.now (sym c.in-Yes.ensures.answer) in
    let first = c.requires.first f.0 c.in-Yes.offset (finds-look c.args.first c.in-Yes.offset c.args.pool.now f.0 f.1) in
    let over = ending-own c.args.reached c.args.first c.in-Yes.offset c.args.pool.now f.0 f.1 first in
    let said = rw (c.destroy.ensures.after, c.in_ok-done.ensures.after, c.lock.ensures.after) at c.collect.ensures.answer in
    absurd (c.in_default-collect.not-Value _ (said ∙ ap collect_says over))

pub returns-clause-says : goal.returns-clause-says
returns-clause-says c =
    let j =
    joins c.args.reached c.args.first c.in-Yes.offset c.args.pool.now c.lock.new.self c.in_ok-done.done c.in-Some.finished (sym c.in-Yes.ensures.answer) c.lock.ensures.after
    c.in_ok-done.ensures.says c.in-Some.is in
    let first = c.requires.first j.range c.in-Yes.offset (finds-look c.args.first c.in-Yes.offset c.args.pool.now j.range j.finds) in
    let over = ending-own c.args.reached c.args.first c.in-Yes.offset c.args.pool.now j.range j.finds first in
    let said = rw (c.destroy.ensures.after, c.in_ok-done.ensures.after, c.lock.ensures.after) at c.in-Value.ensures.answer in
    let both = said ∙ ap collect_says over in
    let is : c.in-Value.call ≡ finished c.args.reached j.range.value = cc in
    rw c.into_told.ensures (says-over c.args.reached c.in-Yes.offset (look c.args.first c.args.pool.now) j.range c.in-Some.finished c.in-Value.call
    (finds-look c.args.first c.in-Yes.offset c.args.pool.now j.range j.finds) j.is is)

pub returns-clause-after : goal.returns-clause-after
returns-clause-after c =
    let j =
    joins c.args.reached c.args.first c.in-Yes.offset c.args.pool.now c.lock.new.self c.in_ok-done.done c.in-Some.finished (sym c.in-Yes.ensures.answer) c.lock.ensures.after
    c.in_ok-done.ensures.says c.in-Some.is in
    let first = c.requires.first j.range c.in-Yes.offset (finds-look c.args.first c.in-Yes.offset c.args.pool.now j.range j.finds) in
    let end = joins-over c.args.reached c.args.first c.in-Yes.offset c.args.pool.now c.in-Some.finished j (not-false _ c.if-not-finished.false) in
    rw (c.collect.ensures.after, c.destroy.ensures.after, c.in_ok-done.ensures.after, c.lock.ensures.after)
    (join-over c.args.reached c.args.first c.in-Yes.offset c.args.pool.now j.range end.0 j.finds first end.1)

pub returns-in_default-done-clause-acts : goal.returns-in_default-done-clause-acts
returns-in_default-done-clause-acts c =
    (rw (c.saturating_sub-own.ensures, c.from.ensures) at c.in_ok-done.ensures.acts)
    ∙ locked-acts (joined_by c.args.reached) c.args.first c.in-Yes.offset c.args.pool.now c.lock.new.self c.args.wires.now.items c.args.marks.now (sym c.in-Yes.ensures.answer) c.lock.ensures.after

pub returns-then-not-finished-clause-acts : goal.returns-then-not-finished-clause-acts
returns-then-not-finished-clause-acts c =
    (rw (c.saturating_sub-own.ensures, c.from.ensures) at c.in_ok-done.ensures.acts)
    ∙ locked-acts (joined_by c.args.reached) c.args.first c.in-Yes.offset c.args.pool.now c.lock.new.self c.args.wires.now.items c.args.marks.now (sym c.in-Yes.ensures.answer) c.lock.ensures.after

pub returns-clause-acts : goal.returns-clause-acts
returns-clause-acts c =
    (rw (c.saturating_sub-own.ensures, c.from.ensures) at c.in_ok-done.ensures.acts)
    ∙ locked-acts (joined_by c.args.reached) c.args.first c.in-Yes.offset c.args.pool.now c.lock.new.self c.args.wires.now.items c.args.marks.now (sym c.in-Yes.ensures.answer) c.lock.ensures.after
