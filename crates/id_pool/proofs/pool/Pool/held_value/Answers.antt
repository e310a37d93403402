use Rattle.std.proofs.Common.{◌≡◌, IsSome, Some, refl, sym, ◌∙◌, ap, rules}
use Rattle.id_pool.specs.Answers.{value_says}
use Rattle.id_pool.specs.Ids.{slot_of, version_of}
use Rattle.id_pool.specs.Ranges.{seen, valued}
use Rattle.id_pool.proofs.Places.{hit, hits, within, look-hit, vacant-valued, value-seen}
use Rattle.id_pool.proofs.Vacant.{still_listed}
use Rattle.id_pool.proofs.pool.Pool.held_value.Goals as goal

pub invariant_of-self-lent : goal.invariant_of-self-lent
invariant_of-self-lent g c w =
    let e : slot_of c.args.id ≡ Some c.in-Some.slot = search rules in
    let h = hits c.args.id c.in-Some.slot c.args.self.now c.self.inside.slots.items c.index_mut.result.now c.self.view_is e c.requires c.index_mut.ensures.value in
    still_listed c.in-Some.slot c.self.inside.slots.items c.index_mut.result.now (valued w c.index_mut.result.now) _ c.self.invariant (within _ _ _ _ _ h) h.read
    (vacant-valued w c.index_mut.result.now)

pub returns : goal.returns
returns g c =
    let e : slot_of c.args.id ≡ Some c.in-Some.slot = search rules in
    let h = hits c.args.id c.in-Some.slot c.args.self.now c.self.inside.slots.items c.index_mut.result.now c.self.view_is e c.requires c.index_mut.ensures.value in
    let l = look-hit _ _ _ _ _ h in
    let some : IsSome (value_says (seen (version_of c.args.id) c.index_mut.result.now)) = rw (sym l) at c.requires in (
      (refl, λ w. hit c.args.id c.in-Some.slot (valued w) _ _ _ _ h (refl {a = valued w c.index_mut.result.now})),
      record { writes_back = tt; value = ap (λ x. value_says x) (sym l) ∙ value-seen (version_of c.args.id) c.index_mut.result.now some ∙ c.value_mut.ensures.value },
    )
