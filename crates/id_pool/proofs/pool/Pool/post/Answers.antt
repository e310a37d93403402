use Rattle.std.proofs.Common.{OnErr, ◌≡◌, length, ◌∙◌, ap, subst, rules, None, slice_set, IfOk}
use Rattle.std.proofs.lemmas.Result.{on_ok_weaker, on_err_weaker}
use Rattle.id_pool.specs.Ids.{version_of}
use Rattle.id_pool.specs.Places.{place}
use Rattle.id_pool.specs.Ranges.{Seen, posted, seen}
use Rattle.id_pool.specs.Answers.{post_says}
use Rattle.id_pool.proofs.Places.{Hits, hit, missed, within, look-hit, vacant-post, set_read}
use Rattle.id_pool.proofs.Vacant.{still_listed}
use Rattle.id_pool.specs.declared.answers.Post.TheVariants.{Queued}
use Rattle.id_pool.proofs.pool.Pool.post.Goals as goal

pub returns-in_default-clause-after : goal.returns-in_default-clause-after
returns-in_default-clause-after g c =
    let p : place (length c.args.self.now) c.args.id ≡ None = search rules in
    missed c.args.id _ c.args.self.now p

pub invariant_of-self : goal.invariant_of-self
invariant_of-self g c =
    let h : Hits c.args.id c.in-Some.at c.args.self.now c.self.inside.slots.items c.index_mut-cell.result.now = record { same = search rules; at = search rules; read = search rules } in
    still_listed c.in-Some.at c.self.inside.slots.items c.index_mut-cell.result.now c.post.new.self _ c.self.invariant (within _ _ _ _ _ h) h.read
    (vacant-post c.version_of.result c.args.code c.index_mut-cell.result.now c.post.new.self c.post.result c.post.ensures.after c.post.ensures.failed)

pub returns-clause-answer : goal.returns-clause-answer
returns-clause-answer g c =
    let h : Hits c.args.id c.in-Some.at c.args.self.now c.self.inside.slots.items c.index_mut-cell.result.now = record { same = search rules; at = search rules; read = search rules } in
    let P : Seen g.row.T.Denot → Type 0 = λ x. IfOk c.post.result (λ post. post ≡ post_says x) in
    let e : seen c.version_of.result c.index_mut-cell.result.now ≡ seen (version_of c.args.id) c.index_mut-cell.result.now = ap (λ v. seen v c.index_mut-cell.result.now) c.version_of.ensures in
    subst P (e ∙ look-hit _ _ _ _ _ h) c.post.ensures.answer

pub returns-clause-after : goal.returns-clause-after
returns-clause-after g c =
    let h : Hits c.args.id c.in-Some.at c.args.self.now c.self.inside.slots.items c.index_mut-cell.result.now = record { same = search rules; at = search rules; read = search rules } in
    let e : posted c.version_of.result c.args.code c.index_mut-cell.result.now ≡ posted (version_of c.args.id) c.args.code c.index_mut-cell.result.now =
    ap (λ v. posted v c.args.code c.index_mut-cell.result.now) c.version_of.ensures in
    on_ok_weaker c.post.result (λ u. hit c.args.id c.in-Some.at _ _ _ _ _ h (u ∙ e)) c.post.ensures.after

pub returns-clause-failed : goal.returns-clause-failed
returns-clause-failed g c =
    let h : Hits c.args.id c.in-Some.at c.args.self.now c.self.inside.slots.items c.index_mut-cell.result.now = record { same = search rules; at = search rules; read = search rules } in
    on_err_weaker c.post.result (λ u. ap (λ s. slice_set c.self.inside.slots.items c.in-Some.at s) u ∙ set_read c.in-Some.at c.self.inside.slots.items c.index_mut-cell.result.now h.read
    ∙ h.same) c.post.ensures.failed

pub returns-clause-memory : goal.returns-clause-memory
returns-clause-memory g c =
    let h : Hits c.args.id c.in-Some.at c.args.self.now c.self.inside.slots.items c.index_mut-cell.result.now = record { same = search rules; at = search rules; read = search rules } in
    let P : Seen g.row.T.Denot → Type 0 = λ x. OnErr c.post.result (post_says x ≡ Queued) in
    let e : seen c.version_of.result c.index_mut-cell.result.now ≡ seen (version_of c.args.id) c.index_mut-cell.result.now = ap (λ v. seen v c.index_mut-cell.result.now) c.version_of.ensures in
    subst P (e ∙ look-hit _ _ _ _ _ h) c.post.ensures.memory
