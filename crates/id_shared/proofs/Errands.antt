-- Which claims and errors a pass has after `try_post`, and what it holds.
use Rattle.std.proofs.Common.{⊎_elim, ℕ, ◌-◌, List, refl, ap, Option}
use Rattle.id_pool.specs.Ids as ids
use Rattle.rpc_model.specs.Gone.{first_in}
use Rattle.id_rule.specs.Changes.{view_after_load, part_with_receipt, pushing_view}
use Rattle.id_rule.specs.declared.view.Notice.{Notice}
use Rattle.id_rule.specs.declared.view.Receipt.{Receipt}
use Rattle.id_rule.specs.declared.view.View.{View}
use Rattle.id_rule.specs.Parts.{own_number, part_at, part_of}
use Rattle.id_shared.specs.Claims.{IsKeptAt, KeepsClaims, KeepsErrors, HasTriedPost}
use Rattle.id_shared.specs.declared.answers.TryPost.{TryPost}
use Rattle.id_shared.specs.declared.answers.TryPost.TheVariants as post
use Rattle.id_shared.specs.Posts.{IsTriedPost, next_notice, view_with_nodes}
use Rattle.id_shared.specs.Standing.{Standing}
use Rattle.id_shared.specs.Views.{first_node, with_view, view_with_hold}
use Rattle.id_shared.proofs.Keeping.{kept_part, kept_to, kept_on, kept_load, kept_hold, kept_at_part, holding}
use Rattle.id_shared.proofs.Parts.{part_on_top}
use Rattle.id_shared.proofs.Picks.{picks_keep}

module _ {E : Type 0} where
  -- loads of nodes keep claims
  kept_picks : (v : View E) (slots : ℕ) (ns : List ℕ) (slot : ℕ) → IsKeptAt v (view_with_nodes slots v ns) slot
  kept_picks v slots ns slot = kept_part v (view_with_nodes slots v ns) slot (ap (λ ps. part_at ps slot) (picks_keep v slots (first_node v.width (own_number v.numbers)) ns).parts)

  -- a push keeps claims
  kept_push : (v : View E) (e : Notice) (slot : ℕ) → IsKeptAt v (pushing_view v e) slot
  kept_push v e = kept_at_part e.slot v (pushing_view v e) (part_with_receipt (part_of v e.slot) e.first e.receipt)
      (part_on_top e.slot v (pushing_view v e) (part_with_receipt (part_of v e.slot) e.first e.receipt) refl) (λ r. ((λ h. h), (λ h. h), (λ h. h)))

module _ {T E : Type 0} (log : T → List E) (first_id : T → ℕ) (rec : E → Option Receipt) (slots id code : ℕ) (p q : Standing E) where
  -- the pass after the load of the slot's word
  abbrev loaded : ℕ → ℕ → Standing E
  loaded slot word = with_view p (view_after_load p.view slot word)

  -- `try_post` keeps claims
  pub posted_claims : (answer : TryPost T) → IsTriedPost log first_id rec slots id code p answer q → KeepsClaims p q
  posted_claims (post.Locked c x) a slot =
      let i : ℕ = a.0 in let word : ℕ = a.2.0 in let v = view_after_load p.view i word in let lk = a.2.2.1 in
      kept_to p.view q.view (view_with_hold v c (log x)) slot (ap (λ z. z.view) lk.2)
      (kept_on p.view v (view_with_hold v c (log x)) slot (kept_load p.view i word slot) (kept_hold v c (log x) lk.1.4 slot))
  posted_claims (post.Queued r) a slot =
      let i : ℕ = a.0 in let word : ℕ = a.2.0 in let v = view_after_load p.view i word in let w = view_with_nodes slots v q.words in
      let e = next_notice (loaded i word) i word (ids.version_of id - first_in word) code in
      kept_to p.view q.view (pushing_view w e) slot (ap (λ z. z.view) a.2.2.1.2)
      (kept_on p.view v (pushing_view w e) slot (kept_load p.view i word slot) (kept_on v w (pushing_view w e) slot (kept_picks v slots q.words slot) (kept_push w e slot)))
  posted_claims (post.Gone word) a slot = kept_to p.view q.view (view_after_load p.view a.0 word) slot (ap (λ z. z.view) a.3) (kept_load p.view a.0 word slot)
  posted_claims post.NoSlot a slot = kept_part p.view q.view slot (ap (λ z. part_of z.view slot) a.1)
  posted_claims post.NoNode a slot =
      let i : ℕ = a.0 in let word : ℕ = a.2.0 in let v = view_after_load p.view i word in ⊎_elim
      (λ t. kept_to p.view q.view v slot (ap (λ z. z.view) t.1) (kept_load p.view i word slot))
      (λ t. kept_to p.view q.view (view_with_nodes slots v q.words) slot (ap (λ z. z.view) t.2)
      (kept_on p.view v (view_with_nodes slots v q.words) slot (kept_load p.view i word slot) (kept_picks v slots q.words slot)))
      a.2.2.1
  posted_claims (post.Again old found) a slot =
      let i : ℕ = a.0 in let word : ℕ = a.2.0 in let v = view_after_load p.view i word in let w = view_with_nodes slots v q.words in ⊎_elim
      (λ t. kept_to p.view q.view (view_after_load v i found) slot (ap (λ z. z.view) t.1.2)
      (kept_on p.view v (view_after_load v i found) slot (kept_load p.view i word slot) (kept_load v i found slot)))
      (λ t. kept_to p.view q.view (view_after_load w i found) slot (ap (λ z. z.view) t.1.3)
      (kept_on p.view v (view_after_load w i found) slot (kept_load p.view i word slot)
      (kept_on v w (view_after_load w i found) slot (kept_picks v slots q.words slot) (kept_load w i found slot))))
      a.2.2

  -- the Hold that `try_post` gave
  pub posted_holding : (answer : TryPost T) → IsTriedPost log first_id rec slots id code p answer q → HasTriedPost log q answer
  posted_holding (post.Locked c x) a = holding q (view_after_load p.view a.0 a.2.0) c (log x) (ap (λ z. z.view) a.2.2.1.2)
  posted_holding (post.Queued r) a = tt
  posted_holding (post.Gone word) a = tt
  posted_holding post.NoSlot a = tt
  posted_holding post.NoNode a = tt
  posted_holding (post.Again old found) a = tt

  -- `try_post` keeps the errors that are still to hand out
  pub posted_errors : (answer : TryPost T) → IsTriedPost log first_id rec slots id code p answer q → KeepsErrors p q
  posted_errors (post.Locked c x) a = (ap (λ z. z.scratch) a.2.2.1.2, ap (λ z. z.holder) a.2.2.1.2)
  posted_errors (post.Queued r) a = (ap (λ z. z.scratch) a.2.2.1.2, ap (λ z. z.holder) a.2.2.1.2)
  posted_errors (post.Gone word) a = (ap (λ z. z.scratch) a.3, ap (λ z. z.holder) a.3)
  posted_errors post.NoSlot a = (ap (λ z. z.scratch) a.1, ap (λ z. z.holder) a.1)
  posted_errors post.NoNode a = ⊎_elim (λ t. (ap (λ z. z.scratch) t.1, ap (λ z. z.holder) t.1)) (λ t. (ap (λ z. z.scratch) t.2, ap (λ z. z.holder) t.2)) a.2.2.1
  posted_errors (post.Again old found) a = ⊎_elim (λ t. (ap (λ z. z.scratch) t.1.2, ap (λ z. z.holder) t.1.2)) (λ t. (ap (λ z. z.scratch) t.1.3, ap (λ z. z.holder) t.1.3)) a.2.2
