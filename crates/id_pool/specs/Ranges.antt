-- What a range of versions and a slot are, and what each call makes of them, after brpc's documents on bthread_id. The
-- first versions, the retired slots and the ended range that keeps its value are this project's own choice.
use Rattle.std.specs.Prelude.{ℕ, zero, suc, ◌+◌, ◌-◌, ◌^◌, ◌==◌, leb, ltb, Bool, true, false, ◌&&◌, if◌then◌else◌, List, [], ◌∷◌, ◌++◌, slice_get, Some, None}
use Rattle.std.specs.declared.option.Option.{Option}
use Rattle.id_pool.specs.Ids.{slot_of, version_of}

-- how a range stands: unlocked; locked, with the errors that wait as (offset, code), oldest first; or ended
pub data Standing : Type 0 where
  Free : Standing
  Held : List (ℕ × ℕ) → Standing
  Ended : Standing

-- a range: its first version, how many versions it has, its value, whether it was ever locked or posted to, and how it stands
pub record Range (T : Type 0) : Type 0 where
  pub first : ℕ
  pub size : ℕ
  pub value : T
  pub used : Bool
  pub standing : Standing

-- a slot: vacant, with the first version of its next range; never used again; or with one range
pub data Slot (T : Type 0) : Type 0 where
  Vacant : ℕ → Slot T
  Retired : Slot T
  Taken : Range T → Slot T

-- the widths that a range may have
abbrev pub is_width : ℕ → Bool
is_width size = leb 1 size && leb size 1024

-- a version's place in a range
abbrev pub offset : {T : Type 0} → Range T → ℕ → Option ℕ
offset r version = if leb r.first version && ltb version (r.first + r.size) then Some (version - r.first) else None

abbrev pub has_ended : Standing → Bool
has_ended Free = false
has_ended (Held waiting) = false
has_ended Ended = true

-- what a version finds in a slot: no range that isn't ended; or one with the version's place in it, unlocked, or locked with the errors that wait
pub data Seen (T : Type 0) : Type 0 where
  Nothing : Seen T
  Unlocked : Range T → ℕ → Seen T
  Locked : Range T → ℕ → List (ℕ × ℕ) → Seen T

abbrev pub seen_at : {T : Type 0} → Range T → Option ℕ → Standing → Seen T
seen_at r None standing = Nothing
seen_at r (Some k) Free = Unlocked r k
seen_at r (Some k) (Held waiting) = Locked r k waiting
seen_at r (Some k) Ended = Nothing

abbrev pub seen : {T : Type 0} → ℕ → Slot T → Seen T
seen version (Vacant next) = Nothing
seen version Retired = Nothing
seen version (Taken r) = seen_at r (offset r version) r.standing

-- a range that stands so
abbrev pub stands : {T : Type 0} → Standing → Range T → Range T
stands standing r = record r { standing = standing }

-- a range that was unlocked and is locked now
abbrev pub held : {T : Type 0} → Range T → Range T
held r = record r { used = true; standing = Held [] }

-- the slot after a lock
abbrev pub locked_by : {T : Type 0} → Seen T → Slot T → Slot T
locked_by Nothing s = s
locked_by (Unlocked r k) s = Taken (held r)
locked_by (Locked r k waiting) s = s

abbrev pub locked : {T : Type 0} → ℕ → Slot T → Slot T
locked version s = locked_by (seen version s) s

-- the slot after an error was posted
abbrev pub posted_by : {T : Type 0} → Seen T → ℕ → Slot T → Slot T
posted_by Nothing code s = s
posted_by (Unlocked r k) code s = Taken (held r)
posted_by (Locked r k waiting) code s = Taken (stands (Held (waiting ++ (k, code) ∷ [])) r)

abbrev pub posted : {T : Type 0} → ℕ → ℕ → Slot T → Slot T
posted version code s = posted_by (seen version s) code s

-- a locked range once its oldest error was handed out; with none it is unlocked
abbrev pub let_go : List (ℕ × ℕ) → Standing
let_go [] = Free
let_go (e ∷ es) = Held es

-- the slot after an unlock
abbrev pub unlocked_by : {T : Type 0} → Seen T → Slot T → Slot T
unlocked_by Nothing s = s
unlocked_by (Unlocked r k) s = s
unlocked_by (Locked r k waiting) s = Taken (stands (let_go waiting) r)

abbrev pub unlocked : {T : Type 0} → ℕ → Slot T → Slot T
unlocked version s = unlocked_by (seen version s) s

-- the slot after a destroy: the range has ended and keeps its value, and the errors that waited are dropped
abbrev pub destroyed_by : {T : Type 0} → Seen T → Slot T → Slot T
destroyed_by Nothing s = s
destroyed_by (Unlocked r k) s = s
destroyed_by (Locked r k waiting) s = Taken (stands Ended r)

abbrev pub destroyed : {T : Type 0} → ℕ → Slot T → Slot T
destroyed version s = destroyed_by (seen version s) s

-- whether a range may become so wide
abbrev pub widens : {T : Type 0} → Range T → ℕ → Bool
widens r size = leb r.size size && leb size 1024

-- the slot after a reset of the range's width
abbrev pub resized_by : {T : Type 0} → Seen T → ℕ → Slot T → Slot T
resized_by Nothing size s = s
resized_by (Unlocked r k) size s = s
resized_by (Locked r k waiting) size s = if widens r size then Taken (record r { size = size }) else s

abbrev pub resized : {T : Type 0} → ℕ → ℕ → Slot T → Slot T
resized version size s = resized_by (seen version s) size s

-- a slot whose next range would begin at this version: past 2^32 - 1024 it is retired
abbrev pub vacated : {T : Type 0} → ℕ → Slot T
vacated next = if leb next (2 ^ 32 - 1024) then Vacant next else Retired

-- the slot that a range leaves
abbrev pub left_by : {T : Type 0} → Range T → Slot T
left_by r = vacated (r.first + r.size)

-- the slot once its range, if it has one, has left it
abbrev pub emptied : {T : Type 0} → Slot T → Slot T
emptied (Vacant next) = Vacant next
emptied Retired = Retired
emptied (Taken r) = left_by r

-- the value of the slot's range
abbrev pub value_in : {T : Type 0} → Slot T → Option T
value_in (Vacant next) = None
value_in Retired = None
value_in (Taken r) = Some r.value

abbrev pub cancelled_if : {T : Type 0} → Bool → Range T → Slot T → Slot T
cancelled_if true r s = s
cancelled_if false r s = left_by r

-- the slot after a cancel
abbrev pub cancelled_by : {T : Type 0} → Seen T → Slot T → Slot T
cancelled_by Nothing s = s
cancelled_by (Unlocked r k) s = cancelled_if r.used r s
cancelled_by (Locked r k waiting) s = cancelled_if r.used r s

abbrev pub cancelled : {T : Type 0} → ℕ → Slot T → Slot T
cancelled version s = cancelled_by (seen version s) s

-- what a first version finds in a slot: no range that begins there; one that hasn't ended; or one that has
pub data Owned (T : Type 0) : Type 0 where
  Absent : Owned T
  Running : Owned T
  Over : Range T → Owned T

abbrev pub owned_at : {T : Type 0} → Range T → Bool → Standing → Owned T
owned_at r false standing = Absent
owned_at r true Free = Running
owned_at r true (Held waiting) = Running
owned_at r true Ended = Over r

abbrev pub owned : {T : Type 0} → ℕ → Slot T → Owned T
owned version (Vacant next) = Absent
owned version Retired = Absent
owned version (Taken r) = owned_at r (r.first == version) r.standing

-- the slot after a collect
abbrev pub collected_by : {T : Type 0} → Owned T → Slot T → Slot T
collected_by Absent s = s
collected_by Running s = s
collected_by (Over r) s = left_by r

abbrev pub collected : {T : Type 0} → ℕ → Slot T → Slot T
collected version s = collected_by (owned version s) s

-- a range with another value
abbrev pub with_value : {T : Type 0} → Range T → T → Range T
with_value r value = record r { value = value }

-- a slot whose range, if it has one, has another value
abbrev pub valued : {T : Type 0} → T → Slot T → Slot T
valued value (Vacant next) = Vacant next
valued value Retired = Retired
valued value (Taken r) = Taken (with_value r value)

-- the slots with the one of this number changed
abbrev pub change : {T : Type 0} → ℕ → (Slot T → Slot T) → List (Slot T) → List (Slot T)
change i f [] = []
change zero f (s ∷ ss) = f s ∷ ss
change (suc i) f (s ∷ ss) = s ∷ change i f ss

abbrev pub change_at : {T : Type 0} → Option ℕ → (Slot T → Slot T) → List (Slot T) → List (Slot T)
change_at None f slots = slots
change_at (Some i) f slots = change i f slots

-- the slots with the one that an id names changed, and no other
abbrev pub changed : {T : Type 0} → (Slot T → Slot T) → ℕ → List (Slot T) → List (Slot T)
changed f id slots = change_at (slot_of id) f slots

abbrev pub slot_at : {T : Type 0} → Option ℕ → List (Slot T) → Option (Slot T)
slot_at None slots = None
slot_at (Some i) slots = slice_get slots i

abbrev pub seen_in : {T : Type 0} → ℕ → Option (Slot T) → Seen T
seen_in version None = Nothing
seen_in version (Some s) = seen version s

-- what an id finds in a pool
abbrev pub look : {T : Type 0} → ℕ → List (Slot T) → Seen T
look id slots = seen_in (version_of id) (slot_at (slot_of id) slots)

abbrev pub owned_in : {T : Type 0} → ℕ → Option (Slot T) → Owned T
owned_in version None = Absent
owned_in version (Some s) = owned version s

-- what a first id finds in a pool
abbrev pub own : {T : Type 0} → ℕ → List (Slot T) → Owned T
own id slots = owned_in (version_of id) (slot_at (slot_of id) slots)

abbrev pub later : Option (ℕ × ℕ) → Option (ℕ × ℕ)
later None = None
later (Some p) = Some (p.0 + 1, p.1)

-- the lowest vacant slot, with the first version of its next range
abbrev pub lowest : {T : Type 0} → List (Slot T) → Option (ℕ × ℕ)
lowest [] = None
lowest (Vacant next ∷ ss) = Some (0, next)
lowest (Retired ∷ ss) = later (lowest ss)
lowest (Taken r ∷ ss) = later (lowest ss)

-- a range that was just created
abbrev pub fresh : {T : Type 0} → ℕ → ℕ → T → Range T
fresh first size value = record { first = first; size = size; value = value; used = false; standing = Free }

abbrev pub created_at : {T : Type 0} → Bool → Option (ℕ × ℕ) → ℕ → T → List (Slot T) → List (Slot T)
created_at false place size value slots = slots
created_at true None size value slots = slots
created_at true (Some p) size value slots = change p.0 (λ s. Taken (fresh p.1 size value)) slots

-- the slots after a create
abbrev pub created : {T : Type 0} → ℕ → T → List (Slot T) → List (Slot T)
created size value slots = created_at (is_width size) (lowest slots) size value slots

-- the slots of a new pool
abbrev pub opened : {T : Type 0} → ℕ → List (Slot T)
opened zero = []
opened (suc n) = Vacant 1 ∷ opened n
