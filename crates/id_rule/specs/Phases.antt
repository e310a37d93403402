-- The phases of a slot, and what each says of the slot's word, of its value and of each pass. They are bthread_id's life of an id, with this project's
-- own rules on reserving and collecting.
use Rattle.std.specs.Prelude.{◌≡◌, ℕ, ◌+◌, ◌-◌, ◌<◌, ◌≤◌, ◌⊎◌, ◌^◌, true, List, [], ◌==◌, if◌then◌else◌, length, Option, Some, None}
use mathlib.Core.Option.{some, none}
use mathlib.Core.Option as maybe
use mathlib.Core.List.{IsPrefix}
use Rattle.id_pool.specs.Ids.{make_id}
use Rattle.id_rule.specs.Words.{packed_word}
use Rattle.id_rule.specs.declared.view.Queued.{Queued}
use Rattle.id_rule.specs.declared.view.Receipt.{Receipt}
use Rattle.id_rule.specs.declared.view.Turn.{Turn}
use Rattle.id_rule.specs.Nodes.{head_of}
use Rattle.id_rule.specs.Parts.{HasLog, AreAll}
use Rattle.id_rule.specs.declared.view.Known.{Known}
use Rattle.id_rule.specs.declared.view.Part.{Part}

-- a range that is live or ended: its first version, its size and the seat that has its Owner
pub record Range : Type 0 where
  pub first : ℕ
  pub size : ℕ
  pub owner : ℕ

-- the numbers of a range are those that the word has room for
abbrev pub IsRange : Range → Type 0
IsRange r = (1 ≤ r.first) × (r.first ≤ 2 ^ 32 - 1024) × (1 ≤ r.size) × (r.size ≤ 1024)

-- What a slot is, with the seats that have its Spot, its Hold and its Owner, and with the value at home or the log at the lock. The rule alone knows it.
-- Vacant: the next first version. Reserved: first version, size, seat. Free: the value at home. Locked: the holder's seat, what it knows of its lock, the
-- chain of errors that wait, and the receipts that the holder got since its lock. Ended: the value at home. Taken: ended, and the Owner's pass has the value
-- with this last log. Retired: the last first version
pub data Phase (T E : Type 0) : Type 0 where
  vacant : ℕ → Phase T E
  reserved : ℕ → ℕ → ℕ → Phase T E
  free : Range → T → Phase T E
  locked : Range → ℕ → Turn E → List Queued → List Receipt → Phase T E
  ended : Range → T → Phase T E
  taken : Range → List E → Phase T E
  retired : ℕ → Phase T E

module _ {T E : Type 0} where
  -- the word of the slot
  abbrev pub slot_word : Phase T E → ℕ
  slot_word (vacant first) = packed_word first 0 0 0
  slot_word (reserved first size who) = packed_word first size 1 0
  slot_word (free r x) = packed_word r.first r.size 2 0
  slot_word (locked r who l qs got) = packed_word r.first r.size 3 (head_of qs)
  slot_word (ended r x) = packed_word r.first r.size 4 0
  slot_word (taken r l) = packed_word r.first r.size 4 0
  slot_word (retired first) = packed_word first 0 5 0

  -- what lies in the slot, if it is at home
  abbrev pub home_value : Phase T E → maybe.Option (Option T)
  home_value (vacant first) = some None
  home_value (reserved first size who) = some None
  home_value (free r x) = some (Some x)
  home_value (locked r who l qs got) = if l.out then none else some None
  home_value (ended r x) = some (Some x)
  home_value (taken r l) = none
  home_value (retired first) = some None

  -- the Spot that the seat has of the slot: first version and size
  abbrev pub spot_of : Phase T E → ℕ → Option (ℕ × ℕ)
  spot_of (vacant first) by = None
  spot_of (reserved first size who) by = if who == by then Some (first, size) else None
  spot_of (free r x) by = None
  spot_of (locked r who l qs got) by = None
  spot_of (ended r x) by = None
  spot_of (taken r l) by = None
  spot_of (retired first) by = None

  -- the Hold that the seat has of the slot
  abbrev pub hold_of : Phase T E → ℕ → Option (ℕ × ℕ)
  hold_of (vacant first) by = None
  hold_of (reserved first size who) by = None
  hold_of (free r x) by = None
  hold_of (locked r who l qs got) by = if who == by then Some (r.first, r.size) else None
  hold_of (ended r x) by = None
  hold_of (taken r l) by = None
  hold_of (retired first) by = None

  -- the Owner that the seat has of the slot
  abbrev pub owner_of : Phase T E → ℕ → Option (ℕ × ℕ)
  owner_of (vacant first) by = None
  owner_of (reserved first size who) by = None
  owner_of (free r x) by = if r.owner == by then Some (r.first, r.size) else None
  owner_of (locked r who l qs got) by = if r.owner == by then Some (r.first, r.size) else None
  owner_of (ended r x) by = if r.owner == by then Some (r.first, r.size) else None
  owner_of (taken r l) by = None
  owner_of (retired first) by = None

  -- the range whose value the seat took, and whose slot it hasn't given back
  abbrev pub taking_of : Phase T E → ℕ → Option (ℕ × ℕ)
  taking_of (vacant first) by = None
  taking_of (reserved first size who) by = None
  taking_of (free r x) by = None
  taking_of (locked r who l qs got) by = None
  taking_of (ended r x) by = None
  taking_of (taken r l) by = if r.owner == by then Some (r.first, r.size) else None
  taking_of (retired first) by = None

  -- the receipts that the seat got since its lock
  abbrev pub got_of : Phase T E → ℕ → List Receipt
  got_of (vacant first) by = []
  got_of (reserved first size who) by = []
  got_of (free r x) by = []
  got_of (locked r who l qs got) by = if who == by then got else []
  got_of (ended r x) by = []
  got_of (taken r l) by = []
  got_of (retired first) by = []

  -- what the seat knows of its lock
  abbrev pub turn_of : Phase T E → ℕ → Option (Turn E)
  turn_of (vacant first) by = None
  turn_of (reserved first size who) by = None
  turn_of (free r x) by = None
  turn_of (locked r who l qs got) by = if who == by then Some l else None
  turn_of (ended r x) by = None
  turn_of (taken r l) by = None
  turn_of (retired first) by = None

  -- each version below g is of a range that has ended
  abbrev pub HasEnded : Phase T E → ℕ → Type 0
  HasEnded (vacant first) g = g ≤ first
  HasEnded (reserved first size who) g = g ≤ first
  HasEnded (free r x) g = g ≤ r.first
  HasEnded (locked r who l qs got) g = g ≤ r.first
  HasEnded (ended r x) g = g ≤ r.first + r.size
  HasEnded (taken r l) g = g ≤ r.first + r.size
  HasEnded (retired first) g = Unit {0}

  -- the seats that have something of the slot are among the first n
  abbrev pub IsSeated : Phase T E → ℕ → Type 0
  IsSeated (vacant first) n = Unit {0}
  IsSeated (reserved first size who) n = who < n
  IsSeated (free r x) n = r.owner < n
  IsSeated (locked r who l qs got) n = (r.owner < n) × (who < n)
  IsSeated (ended r x) n = r.owner < n
  IsSeated (taken r l) n = r.owner < n
  IsSeated (retired first) n = Unit {0}

module _ {T E : Type 0} (first_id : T → ℕ) where
  -- the numbers are those that a word has room for, a value at home has the range's first id, errors that wait have their offset in the range and a code below
  -- 65,536, and where the holder has seen that some wait they do
  abbrev pub IsSound : ℕ → Phase T E → Type 0
  IsSound slot (vacant first) = (1 ≤ first) × (first ≤ 2 ^ 32 - 1024)
  IsSound slot (reserved first size who) = (1 ≤ first) × (first ≤ 2 ^ 32 - 1024) × (1 ≤ size) × (size ≤ 1024)
  IsSound slot (free r x) = IsRange r × (first_id x ≡ make_id slot r.first)
  IsSound slot (locked r who l qs got) =
      IsRange r × (head_of qs < 65536) × AreAll (λ q. (q.offset < r.size) × (q.code < 65536)) qs × (l.waits ≡ true → 1 ≤ length qs)
  IsSound slot (ended r x) = IsRange r × (first_id x ≡ make_id slot r.first)
  IsSound slot (taken r l) = IsRange r
  IsSound slot (retired first) = (1 ≤ first) × (first ≤ 2 ^ 32 - 1024)

module _ {E : Type 0} where
  -- logs are known of earlier ranges alone
  abbrev pub AreBefore : ℕ → List (Known E) → Type 0
  AreBefore first ks = (f : ℕ) (l : List E) → HasLog ks f l → f < first

  -- logs are known of earlier ranges, and of this one beginnings of its log
  abbrev pub AreWithin : ℕ → List E → List (Known E) → Type 0
  AreWithin first log ks = (f : ℕ) (l : List E) → HasLog ks f l → (f < first) ⊎ ((f ≡ first) × IsPrefix l log)

module _ {T E : Type 0} (log : T → List E) where
  -- the logs that a pass knows of the slot are of its ranges so far, and beginnings of the present one's
  abbrev pub AreKnown : Phase T E → List (Known E) → Type 0
  AreKnown (vacant first) ks = AreBefore first ks
  AreKnown (reserved first size who) ks = AreBefore first ks
  AreKnown (free r x) ks = AreWithin r.first (log x) ks
  AreKnown (locked r who l qs got) ks = AreWithin r.first l.log ks
  AreKnown (ended r x) ks = AreWithin r.first (log x) ks
  AreKnown (taken r l) ks = AreWithin r.first l ks
  AreKnown (retired first) ks = AreBefore (first + 1) ks

  -- a pass has the Spot, the Hold and the Owner that the phase says it has, and no others; it knows beginnings of the log, and what has ended
  pub record IsPart (ph : Phase T E) (by : ℕ) (p : Part E) : Type 0 where
    pub spot : p.spot ≡ spot_of ph by
    pub hold : p.hold ≡ hold_of ph by
    pub owner : p.owner ≡ owner_of ph by
    pub knows : AreKnown ph p.logs
    pub turn : p.turn ≡ turn_of ph by
    pub taking : p.taking ≡ taking_of ph by
    pub ended_below : HasEnded ph p.ended_below
    pub got : p.got ≡ got_of ph by
