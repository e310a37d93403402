-- What each answer of posting an error says: of the id, the pass before, the answer and the pass after. It follows bthread_id's error on an id; the nodes
-- and the words that show a refusal are this project's own choice.
use Rattle.std.specs.Prelude.{◌≡◌, ◌≢◌, ◌⊎◌, ℕ, ◌-◌, List, [], ◌∷◌, ◌++◌, length, true, Option}
use Rattle.id_pool.specs.Ids as ids
use Rattle.rpc_model.specs.Gone.{code_in, first_in, is_live_in, gone_by}
use Rattle.id_rule.specs.Changes.{view_after_load, pushing_view}
use Rattle.id_rule.specs.declared.view.Notice.{Notice}
use Rattle.id_rule.specs.declared.view.Receipt.{Receipt}
use Rattle.id_rule.specs.declared.view.View.{View}
use Rattle.id_rule.specs.Parts.{own_number, AreAll}
use Rattle.id_shared.specs.Answers.{IsSlotOf, HasNoSlot, IsLockedFrom}
use Rattle.id_shared.specs.declared.answers.PostEnd.{PostEnd}
use Rattle.id_shared.specs.declared.answers.PostEnd.TheVariants as end
use Rattle.id_shared.specs.declared.answers.TryLock.TheVariants as try
use Rattle.id_shared.specs.declared.answers.TryPost.{TryPost}
use Rattle.id_shared.specs.declared.answers.TryPost.TheVariants as post
use Rattle.id_shared.specs.Standing.{Standing}
use Rattle.id_shared.specs.Views.{with_view, view_after_picks, first_node}

module _ {E : Type 0} where
  -- the view after loads of the pass's own nodes, from the first one on, which found the words that the pass notes
  abbrev pub view_with_nodes : ℕ → View E → List ℕ → View E
  view_with_nodes slots v words = view_after_picks v slots (first_node v.width (own_number v.numbers)) words

  -- the error that the pass queues now with this code, to the id with this offset
  abbrev pub next_notice : Standing E → ℕ → ℕ → ℕ → ℕ → Notice
  next_notice p slot word offset code = record {
    slot = slot;
    first = first_in word;
    offset = offset;
    code = code;
    receipt = record { pass = own_number p.view.numbers; number = p.view.sent };
  }

  -- Posting to a slot whose word was seen locked. Queued: a node of the pass was free, and the first such one was pushed onto this very word. NoNode: the
  -- pass has numbered 2^64 - 1 receipts, or each of its nodes was loaded and wasn't free. Again: a node was free, and the exchange found another word
  abbrev pub IsQueuedFrom : {T : Type 0} → ℕ → ℕ → ℕ → ℕ → ℕ → Standing E → TryPost T → Standing E → Type 0
  IsQueuedFrom slots slot word offset code p (post.Locked c x) q = ⊥
  IsQueuedFrom slots slot word offset code p (post.Queued r) q = (r ≡ (next_notice p slot word offset code).receipt)
      × ((before : List ℕ) × (q.words ≡ before ++ 0 ∷ []) × AreAll (λ n. n ≢ 0) before)
      × (q ≡ record p { view = pushing_view (view_with_nodes slots p.view q.words) (next_notice p slot word offset code); words = q.words })
  IsQueuedFrom slots slot word offset code p (post.Gone w) q = ⊥
  IsQueuedFrom slots slot word offset code p post.NoSlot q = ⊥
  IsQueuedFrom slots slot word offset code p post.NoNode q =
      ((p.view.sent ≡ 18446744073709551615) × (q ≡ p))
      ⊎ ((length q.words ≡ p.view.width)
      × AreAll (λ n. n ≢ 0) q.words
      × (q ≡ record p { view = view_with_nodes slots p.view q.words; words = q.words }))
  IsQueuedFrom slots slot word offset code p (post.Again old found) q = (old ≡ word)
      × (found ≢ word)
      × ((before : List ℕ) × (q.words ≡ before ++ 0 ∷ []) × AreAll (λ n. n ≢ 0) before)
      × (q ≡ record p { view = view_after_load (view_with_nodes slots p.view q.words) slot found; words = q.words })

module _ {T E : Type 0} (log : T → List E) (first_id : T → ℕ) (rec : E → Option Receipt) where
  -- posting to a slot whose word was seen live
  abbrev pub IsPostedFrom : ℕ → ℕ → ℕ → ℕ → ℕ → Standing E → TryPost T → Standing E → Type 0
  IsPostedFrom slots slot word offset code p (post.Locked c x) q = (code_in word ≡ 2) × IsLockedFrom log first_id rec slot word p (try.Locked c x) q
  IsPostedFrom slots slot word offset code p (post.Queued r) q = (code_in word ≡ 3) × IsQueuedFrom {T = T} slots slot word offset code p (post.Queued r) q
  IsPostedFrom slots slot word offset code p (post.Gone w) q = ⊥
  IsPostedFrom slots slot word offset code p post.NoSlot q = ⊥
  IsPostedFrom slots slot word offset code p post.NoNode q = (code_in word ≡ 3) × IsQueuedFrom {T = T} slots slot word offset code p post.NoNode q
  IsPostedFrom slots slot word offset code p (post.Again old found) q =
      ((code_in word ≡ 2) × IsLockedFrom log first_id rec slot word p (try.Again old found) q)
      ⊎ ((code_in word ≡ 3) × IsQueuedFrom {T = T} slots slot word offset code p (post.Again old found) q)

  -- the id names this slot, whose word was loaded in this call and has the id's version live
  abbrev pub HasPosted : ℕ → ℕ → ℕ → Standing E → TryPost T → Standing E → Type 0
  HasPosted slots id code p answer q = (slot : ℕ)
      × IsSlotOf slots id slot
      × ((word : ℕ)
      × (is_live_in word (ids.version_of id) ≡ true)
      × IsPostedFrom slots slot word (ids.version_of id - first_in word) code (with_view p (view_after_load p.view slot word)) answer q)

  -- `try_post`
  abbrev pub IsTriedPost : ℕ → ℕ → ℕ → Standing E → TryPost T → Standing E → Type 0
  IsTriedPost slots id code p (post.Locked c x) q = HasPosted slots id code p (post.Locked c x) q
  IsTriedPost slots id code p (post.Queued r) q = HasPosted slots id code p (post.Queued r) q
  IsTriedPost slots id code p (post.Gone word) q = (slot : ℕ)
      × IsSlotOf slots id slot
      × (gone_by word id ≡ true)
      × (q ≡ with_view p (view_after_load p.view slot word))
  IsTriedPost slots id code p post.NoSlot q = HasNoSlot slots id × (q ≡ p)
  IsTriedPost slots id code p post.NoNode q = HasPosted slots id code p post.NoNode q
  IsTriedPost slots id code p (post.Again word found) q = HasPosted slots id code p (post.Again word found) q

  -- some tries, each of which answered `Again` with two words
  abbrev pub HasRetried : ℕ → ℕ → ℕ → Standing E → List (ℕ × ℕ) → Standing E → Type 0
  HasRetried slots id code p [] q = q ≡ p
  HasRetried slots id code p (x ∷ xs) q = (m : Standing E) × IsTriedPost slots id code p (post.Again x.0 x.1) m × HasRetried slots id code m xs q

  -- `post`: after some such tries, one that answered this
  abbrev pub IsPostedAtLast : ℕ → ℕ → ℕ → Standing E → TryPost T → Standing E → Type 0
  IsPostedAtLast slots id code p answer q = (xs : List (ℕ × ℕ)) × ((m : Standing E) × HasRetried slots id code p xs m × IsTriedPost slots id code m answer q)

  -- `post`
  abbrev pub IsPostEnd : ℕ → ℕ → ℕ → Standing E → PostEnd T → Standing E → Type 0
  IsPostEnd slots id code p (end.Locked c x) q = IsPostedAtLast slots id code p (post.Locked c x) q
  IsPostEnd slots id code p (end.Queued r) q = IsPostedAtLast slots id code p (post.Queued r) q
  IsPostEnd slots id code p (end.Gone word) q = IsPostedAtLast slots id code p (post.Gone word) q
  IsPostEnd slots id code p end.NoSlot q = IsPostedAtLast slots id code p post.NoSlot q
  IsPostEnd slots id code p end.NoNode q = IsPostedAtLast slots id code p post.NoNode q

-- the answer is Gone
abbrev pub IsGonePost : {T : Type 0} → TryPost T → Type 0
IsGonePost (post.Locked c x) = ⊥
IsGonePost (post.Queued r) = ⊥
IsGonePost (post.Gone word) = Unit {0}
IsGonePost post.NoSlot = ⊥
IsGonePost post.NoNode = ⊥
IsGonePost (post.Again word found) = ⊥

-- the answer is Gone
abbrev pub IsGonePostEnd : {T : Type 0} → PostEnd T → Type 0
IsGonePostEnd (end.Locked c x) = ⊥
IsGonePostEnd (end.Queued r) = ⊥
IsGonePostEnd (end.Gone word) = Unit {0}
IsGonePostEnd end.NoSlot = ⊥
IsGonePostEnd end.NoNode = ⊥
