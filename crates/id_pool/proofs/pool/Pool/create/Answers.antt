use Rattle.std.proofs.Common.{◌^◌, ◌<◌, ◌≤◌, ◌+◌, slice_set, ◌≡◌, length, vec_len, true, get_or, sym, ◌∙◌, ap, rules, arith, Ok}
use Rattle.id_pool.specs.Answers.{find_says}
use Rattle.id_pool.specs.Ranges.{look, is_width}
use Rattle.id_pool.specs.Vacancies.{is_vacant}
use Rattle.id_pool.proofs.Ids.{find-fresh}
use Rattle.id_pool.proofs.Vacant.{least_within, least_vacant, lowest-none, widths, Takes, create-taken, created-taken, create-full, created-full, taken_listed}
use Rattle.id_pool.proofs.pool.Pool.create.Goals as goal

pub returns-in_default-clause-answer : goal.returns-in_default-clause-answer
returns-in_default-clause-answer g c =
    let w : is_width c.args.range ≡ true = widths c.args.range (omega arith) (omega arith) in
    create-full c.args.range c.args.value c.args.self.now c.self.inside.slots.items w c.self.view_is (lowest-none c.self.inside.slots.items c.self.inside.vacant c.self.invariant c.in_default.ensures)

pub returns-in_default-clause-after : goal.returns-in_default-clause-after
returns-in_default-clause-after g c =
    let w : is_width c.args.range ≡ true = widths c.args.range (omega arith) (omega arith) in
    sym c.self.view_is
    ∙ created-full c.args.range c.args.value c.args.self.now c.self.inside.slots.items w c.self.view_is
    (lowest-none c.self.inside.slots.items c.self.inside.vacant c.self.invariant c.in_default.ensures)

pub index_mut-cell-requires : goal.index_mut-cell-requires
index_mut-cell-requires g c =
    let t : c.in-Some.slot < length c.self.inside.slots.items = least_within c.in-Some.slot c.self.inside.slots.items c.self.inside.vacant c.self.invariant c.in-Some.ensures in
    let n : length c.self.inside.slots.items ≡ vec_len c.self.inside.slots = search rules in
    omega (arith, t, n)

pub take-first-requires-clause-vacant : goal.take-first-requires-clause-vacant
take-first-requires-clause-vacant g c =
    let r : c.index_mut-cell.result.now ≡ get_or c.self.inside.slots.items c.in-Some.slot c.index_mut-cell.result.now = search rules in
    least_vacant c.in-Some.slot c.self.inside.slots.items c.self.inside.vacant c.index_mut-cell.result.now c.self.invariant c.in-Some.ensures r

pub make_id-requires : goal.make_id-requires
make_id-requires g c =
    let t : c.in-Some.slot < length c.self.inside.slots.items = least_within c.in-Some.slot c.self.inside.slots.items c.self.inside.vacant c.self.invariant c.in-Some.ensures in
    omega (arith, t, c.self.invariant.few)

pub invariant_of-self : goal.invariant_of-self
invariant_of-self g c =
    let k : Takes c.in-Some.slot c.take-first.result c.args.self.now c.self.inside.slots.items c.self.inside.vacant c.index_mut-cell.result.now =
    record { same = c.self.view_is; listed = c.self.invariant; least = c.in-Some.ensures; read = search rules; was = c.take-first.ensures.first } in
    taken_listed c.in-Some.slot c.take-first.result c.args.self.now c.self.inside.slots.items c.index_mut-cell.result.now c.take-first.new.self c.self.inside.vacant c.remove.new.self k
    (ap is_vacant c.take-first.ensures.after) c.remove.ensures.out c.remove.ensures.others

pub returns-clause-answer : goal.returns-clause-answer
returns-clause-answer g c =
    let w : is_width c.args.range ≡ true = widths c.args.range (omega arith) (omega arith) in
    let k : Takes c.in-Some.slot c.take-first.result c.args.self.now c.self.inside.slots.items c.self.inside.vacant c.index_mut-cell.result.now =
    record { same = c.self.view_is; listed = c.self.invariant; least = c.in-Some.ensures; read = search rules; was = c.take-first.ensures.first } in
    ap Ok c.make_id.ensures.value ∙ create-taken c.args.range c.args.value c.in-Some.slot c.take-first.result _ _ _ _ w k

pub returns-clause-after : goal.returns-clause-after
returns-clause-after g c =
    let w : is_width c.args.range ≡ true = widths c.args.range (omega arith) (omega arith) in
    let k : Takes c.in-Some.slot c.take-first.result c.args.self.now c.self.inside.slots.items c.self.inside.vacant c.index_mut-cell.result.now =
    record { same = c.self.view_is; listed = c.self.invariant; least = c.in-Some.ensures; read = search rules; was = c.take-first.ensures.first } in
    created-taken c.args.range c.args.value c.in-Some.slot c.take-first.result _ _ _ _ _ w k c.take-first.ensures.after

pub returns-clause-offsets : goal.returns-clause-offsets
returns-clause-offsets g c k l =
    let t : c.in-Some.slot < length c.self.inside.slots.items = least_within c.in-Some.slot c.self.inside.slots.items c.self.inside.vacant c.self.invariant c.in-Some.ensures in
    let n : c.in-Some.slot < length c.self.inside.slots.items = t in
    let f : c.take-first.result + c.args.range ≤ 2 ^ 32 = omega arith in
    ap (λ id. find_says (look (id + k) (slice_set c.self.inside.slots.items c.in-Some.slot c.take-first.new.self))) c.make_id.ensures.value
    ∙ find-fresh c.in-Some.slot c.take-first.result c.args.range k c.args.value c.self.inside.slots.items c.take-first.new.self n f l c.take-first.ensures.after
