-- What each call of a pool answers, by what its id finds. The answers' names are this project's own choice.
use Rattle.std.specs.Prelude.{ℕ, Bool, true, false, List, [], ◌∷◌, length, Some, None, Ok, Err}
use Rattle.std.specs.declared.option.Option.{Option}
use Rattle.std.specs.declared.result.Result.{Result}
use Rattle.id_pool.specs.Ids.{make_id}
use Rattle.id_pool.specs.Ranges.{Seen, Nothing, Unlocked, Locked, Owned, Absent, Running, Over, Range, Slot, is_width, lowest, widens}
use Rattle.id_pool.specs.declared.answers.Lock.{Lock}
use Rattle.id_pool.specs.declared.answers.Lock.TheVariants.{Yes, Held as LockHeld, Gone as LockGone}
use Rattle.id_pool.specs.declared.answers.Post.{Post}
use Rattle.id_pool.specs.declared.answers.Post.TheVariants.{Now, Queued, Gone as PostGone}
use Rattle.id_pool.specs.declared.answers.Unlock.{Unlock}
use Rattle.id_pool.specs.declared.answers.Unlock.TheVariants.{Free as UnlockFree, Pending, NotLocked as UnlockNot, Gone as UnlockGone}
use Rattle.id_pool.specs.declared.answers.Destroy.{Destroy}
use Rattle.id_pool.specs.declared.answers.Destroy.TheVariants.{Ended as DestroyEnded, NotLocked as DestroyNot, Gone as DestroyGone}
use Rattle.id_pool.specs.declared.answers.Cancel.{Cancel}
use Rattle.id_pool.specs.declared.answers.Cancel.TheVariants.{Value as CancelValue, Used, Gone as CancelGone}
use Rattle.id_pool.specs.declared.answers.Collect.{Collect}
use Rattle.id_pool.specs.declared.answers.Collect.TheVariants.{Value as CollectValue, NotYet, Gone as CollectGone}
use Rattle.id_pool.specs.declared.answers.Refused.{Refused}
use Rattle.id_pool.specs.declared.answers.Refused.TheVariants.{BadRange, Full}

abbrev pub find_says : {T : Type 0} → Seen T → Option ℕ
find_says Nothing = None
find_says (Unlocked r k) = Some k
find_says (Locked r k waiting) = Some k

abbrev pub value_says : {T : Type 0} → Seen T → Option T
value_says Nothing = None
value_says (Unlocked r k) = Some r.value
value_says (Locked r k waiting) = Some r.value

abbrev pub lock_says : {T : Type 0} → Seen T → Lock
lock_says Nothing = LockGone
lock_says (Unlocked r k) = Yes k
lock_says (Locked r k waiting) = LockHeld

abbrev pub reset_says : {T : Type 0} → Seen T → ℕ → Bool
reset_says Nothing size = false
reset_says (Unlocked r k) size = false
reset_says (Locked r k waiting) size = widens r size

abbrev pub post_says : {T : Type 0} → Seen T → Post
post_says Nothing = PostGone
post_says (Unlocked r k) = Now k
post_says (Locked r k waiting) = Queued

-- the oldest error, or that none waits
abbrev pub handed : List (ℕ × ℕ) → Unlock
handed [] = UnlockFree
handed (e ∷ es) = Pending e.0 e.1

abbrev pub unlock_says : {T : Type 0} → Seen T → Unlock
unlock_says Nothing = UnlockGone
unlock_says (Unlocked r k) = UnlockNot
unlock_says (Locked r k waiting) = handed waiting

abbrev pub destroy_says : {T : Type 0} → Seen T → Destroy
destroy_says Nothing = DestroyGone
destroy_says (Unlocked r k) = DestroyNot
destroy_says (Locked r k waiting) = DestroyEnded (length waiting)

abbrev pub cancel_if : {T : Type 0} → Bool → Range T → Cancel T
cancel_if true r = Used
cancel_if false r = CancelValue r.value

abbrev pub cancel_says : {T : Type 0} → Seen T → Cancel T
cancel_says Nothing = CancelGone
cancel_says (Unlocked r k) = cancel_if r.used r
cancel_says (Locked r k waiting) = cancel_if r.used r

abbrev pub collect_says : {T : Type 0} → Owned T → Collect T
collect_says Absent = CollectGone
collect_says Running = NotYet
collect_says (Over r) = CollectValue r.value

abbrev pub create_at : {T : Type 0} → Bool → Option (ℕ × ℕ) → T → Result ℕ (Refused T)
create_at false place value = Err (BadRange value)
create_at true None value = Err (Full value)
create_at true (Some p) value = Ok (make_id p.0 p.1)

abbrev pub create_says : {T : Type 0} → ℕ → T → List (Slot T) → Result ℕ (Refused T)
create_says size value slots = create_at (is_width size) (lowest slots) value
