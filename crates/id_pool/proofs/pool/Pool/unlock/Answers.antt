use Rattle.std.proofs.Common.{◌≡◌, length, ◌∙◌, ap, rules, None}
use Rattle.id_pool.specs.Ids.{version_of}
use Rattle.id_pool.specs.Places.{place}
use Rattle.id_pool.specs.Ranges.{unlocked, seen}
use Rattle.id_pool.specs.Answers.{unlock_says}
use Rattle.id_pool.proofs.Places.{Hits, hit, missed, within, look-hit, vacant-unlocked}
use Rattle.id_pool.proofs.Vacant.{still_listed}
use Rattle.id_pool.specs.Vacancies.{is_vacant}
use Rattle.id_pool.proofs.pool.Pool.unlock.Goals as goal

pub returns-in_default-clause-after : goal.returns-in_default-clause-after
returns-in_default-clause-after g c =
    let p : place (length c.args.self.now) c.args.id ≡ None = search rules in
    missed c.args.id _ c.args.self.now p

pub invariant_of-self : goal.invariant_of-self
invariant_of-self g c =
    let h : Hits c.args.id c.in-Some.at c.args.self.now c.self.inside.slots.items c.index_mut-cell.result.now = record { same = search rules; at = search rules; read = search rules } in
    let u : c.unlock.new.self ≡ unlocked (version_of c.args.id) c.index_mut-cell.result.now = search rules in
    still_listed c.in-Some.at c.self.inside.slots.items c.index_mut-cell.result.now c.unlock.new.self _ c.self.invariant (within _ _ _ _ _ h) h.read
    (ap is_vacant u ∙ vacant-unlocked (version_of c.args.id) c.index_mut-cell.result.now)

pub returns-clause-answer : goal.returns-clause-answer
returns-clause-answer g c =
    let h : Hits c.args.id c.in-Some.at c.args.self.now c.self.inside.slots.items c.index_mut-cell.result.now = record { same = search rules; at = search rules; read = search rules } in
    let u : c.unlock.result ≡ unlock_says (seen (version_of c.args.id) c.index_mut-cell.result.now) = search rules in
    u ∙ ap (λ x. unlock_says x) (look-hit _ _ _ _ _ h)

pub returns-clause-after : goal.returns-clause-after
returns-clause-after g c =
    let h : Hits c.args.id c.in-Some.at c.args.self.now c.self.inside.slots.items c.index_mut-cell.result.now = record { same = search rules; at = search rules; read = search rules } in
    let u : c.unlock.new.self ≡ unlocked (version_of c.args.id) c.index_mut-cell.result.now = search rules in
    hit c.args.id c.in-Some.at _ _ _ _ _ h u
