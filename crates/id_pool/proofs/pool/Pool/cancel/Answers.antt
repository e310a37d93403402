use Rattle.std.proofs.Common.{◌≡◌, true, length, sym, ◌∙◌, ap, rules, None}
use Rattle.id_pool.specs.Ids.{version_of}
use Rattle.id_pool.specs.Places.{place}
use Rattle.id_pool.specs.Ranges.{cancelled, seen}
use Rattle.id_pool.specs.Answers.{cancel_says}
use Rattle.id_pool.proofs.Places.{Hits, hit, missed, within, look-hit, look-missed, vacant-cancelled}
use Rattle.id_pool.proofs.Vacant.{relisted}
use Rattle.id_pool.specs.Vacancies.{is_vacant, IsRelisted}
use Rattle.id_pool.proofs.pool.Pool.cancel.Goals as goal

pub returns-in_default-clause-answer : goal.returns-in_default-clause-answer
returns-in_default-clause-answer g c =
    let p : place (length c.args.self.now) c.args.id ≡ None = search rules in
    ap (λ x. cancel_says x) (sym (look-missed c.args.id c.args.self.now p))

pub returns-in_default-clause-after : goal.returns-in_default-clause-after
returns-in_default-clause-after g c =
    let p : place (length c.args.self.now) c.args.id ≡ None = search rules in
    missed c.args.id _ c.args.self.now p

pub invariant_of-self : goal.invariant_of-self
invariant_of-self g c =
    let h : Hits c.args.id c.in-Some.at c.args.self.now c.self.inside.slots.items c.index_mut-cell.result.now = record { same = search rules; at = search rules; read = search rules } in
    let u : c.cancel-answer.new.self ≡ cancelled (version_of c.args.id) c.index_mut-cell.result.now = search rules in
    let m : is_vacant c.index_mut-cell.result.now ≡ true → is_vacant c.cancel-answer.new.self ≡ true = λ v. ap is_vacant u ∙ vacant-cancelled (version_of c.args.id) c.index_mut-cell.result.now v in
    let put : IsRelisted (is_vacant c.cancel-answer.new.self) c.in-Some.at c.self.inside.vacant c.relist.new.vacant = search rules in
    relisted c.in-Some.at c.self.inside.slots.items c.index_mut-cell.result.now c.cancel-answer.new.self c.self.inside.vacant c.relist.new.vacant c.self.invariant h.read (within _ _ _ _ _ h) m put

pub returns-clause-answer : goal.returns-clause-answer
returns-clause-answer g c =
    let h : Hits c.args.id c.in-Some.at c.args.self.now c.self.inside.slots.items c.index_mut-cell.result.now = record { same = search rules; at = search rules; read = search rules } in
    let u : c.cancel-answer.result ≡ cancel_says (seen (version_of c.args.id) c.index_mut-cell.result.now) = search rules in
    u ∙ ap (λ x. cancel_says x) (look-hit _ _ _ _ _ h)

pub returns-clause-after : goal.returns-clause-after
returns-clause-after g c =
    let h : Hits c.args.id c.in-Some.at c.args.self.now c.self.inside.slots.items c.index_mut-cell.result.now = record { same = search rules; at = search rules; read = search rules } in
    let u : c.cancel-answer.new.self ≡ cancelled (version_of c.args.id) c.index_mut-cell.result.now = search rules in
    hit c.args.id c.in-Some.at _ _ _ _ _ h u
