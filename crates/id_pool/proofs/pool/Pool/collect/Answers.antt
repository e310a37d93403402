use Rattle.std.proofs.Common.{◌≡◌, true, length, sym, ◌∙◌, ap, rules, None}
use Rattle.id_pool.specs.Ids.{version_of}
use Rattle.id_pool.specs.Places.{place}
use Rattle.id_pool.specs.Ranges.{collected, owned}
use Rattle.id_pool.specs.Answers.{collect_says}
use Rattle.id_pool.proofs.Places.{Hits, hit, missed, within, own-hit, own-missed, vacant-collected}
use Rattle.id_pool.proofs.Vacant.{relisted}
use Rattle.id_pool.specs.Vacancies.{is_vacant, IsRelisted}
use Rattle.id_pool.proofs.pool.Pool.collect.Goals as goal

pub returns-in_default-clause-answer : goal.returns-in_default-clause-answer
returns-in_default-clause-answer g c =
    let p : place (length c.args.self.now) c.args.first ≡ None = search rules in
    ap (λ x. collect_says x) (sym (own-missed c.args.first c.args.self.now p))

pub returns-in_default-clause-after : goal.returns-in_default-clause-after
returns-in_default-clause-after g c =
    let p : place (length c.args.self.now) c.args.first ≡ None = search rules in
    missed c.args.first _ c.args.self.now p

pub invariant_of-self : goal.invariant_of-self
invariant_of-self g c =
    let h : Hits c.args.first c.in-Some.at c.args.self.now c.self.inside.slots.items c.index_mut-cell.result.now = record { same = search rules; at = search rules; read = search rules } in
    let u : c.collect-answer.new.self ≡ collected (version_of c.args.first) c.index_mut-cell.result.now = search rules in
    let m : is_vacant c.index_mut-cell.result.now ≡ true → is_vacant c.collect-answer.new.self ≡ true =
    λ v. ap is_vacant u ∙ vacant-collected (version_of c.args.first) c.index_mut-cell.result.now v in
    let put : IsRelisted (is_vacant c.collect-answer.new.self) c.in-Some.at c.self.inside.vacant c.relist.new.vacant = search rules in
    relisted c.in-Some.at c.self.inside.slots.items c.index_mut-cell.result.now c.collect-answer.new.self c.self.inside.vacant c.relist.new.vacant c.self.invariant h.read (within _ _ _ _ _ h) m put

pub returns-clause-answer : goal.returns-clause-answer
returns-clause-answer g c =
    let h : Hits c.args.first c.in-Some.at c.args.self.now c.self.inside.slots.items c.index_mut-cell.result.now = record { same = search rules; at = search rules; read = search rules } in
    let u : c.collect-answer.result ≡ collect_says (owned (version_of c.args.first) c.index_mut-cell.result.now) = search rules in
    u ∙ ap (λ x. collect_says x) (own-hit _ _ _ _ _ h)

pub returns-clause-after : goal.returns-clause-after
returns-clause-after g c =
    let h : Hits c.args.first c.in-Some.at c.args.self.now c.self.inside.slots.items c.index_mut-cell.result.now = record { same = search rules; at = search rules; read = search rules } in
    let u : c.collect-answer.new.self ≡ collected (version_of c.args.first) c.index_mut-cell.result.now = search rules in
    hit c.args.first c.in-Some.at _ _ _ _ _ h u
