-- What a pass's view says of a slot, and the views with which passes begin and end. This project's own choice.
use Rattle.std.specs.Prelude.{◌≡◌, ◌⊎◌, ℕ, List, [], ◌∷◌, ◌==◌, ◌+◌, if◌then◌else◌, Some, None}
use Rattle.std.specs.declared.option.Option.{Option}
use Rattle.id_rule.specs.declared.view.Known.{Known}
use Rattle.id_rule.specs.declared.view.Part.{Part}
use Rattle.id_rule.specs.declared.view.View.{View}

-- the number, if there is one, as a list
abbrev pub list_of : Option ℕ → List ℕ
list_of None = []
list_of (Some n) = n ∷ []

-- the number after this one, if there is one
abbrev pub next_after : Option ℕ → Option ℕ
next_after None = None
next_after (Some n) = Some (n + 1)

-- the number stands in the list
abbrev pub HasNumber : ℕ → List ℕ → Type 0
HasNumber a [] = ⊥
HasNumber a (n ∷ ns) = (n ≡ a) ⊎ HasNumber a ns

-- P holds of each element
abbrev pub AreAll : {X : Type 0} → (X → Type 0) → List X → Type 0
AreAll P [] = Unit {0}
AreAll P (x ∷ xs) = P x × AreAll P xs

-- the number under which a pass numbers its receipts: its own stands first
abbrev pub own_number : List ℕ → ℕ
own_number [] = 0
own_number (n ∷ ns) = n

module _ {E : Type 0} where
  -- nothing is known of the slot
  abbrev pub blank_part : Part E
  blank_part = record {
    spot = None;
    hold = None;
    owner = None;
    logs = [];
    taking = None;
    ended_below = 0;
    receipts = [];
    dropped = [];
    got = [];
    turn = None;
    last = [];
    destroyed = [];
  }

  -- this log of the range is among those known
  abbrev pub HasLog : List (Known E) → ℕ → List E → Type 0
  HasLog [] first log = ⊥
  HasLog (k ∷ ks) first log = ((k.first ≡ first) × (k.log ≡ log)) ⊎ HasLog ks first log

  -- the logs with one more, of the range with this first version
  abbrev pub logs_with : List (Known E) → ℕ → List E → List (Known E)
  logs_with ks first log = record { first = first; log = log } ∷ ks

  -- the part of the slot that was put in last
  abbrev pub part_at : List (ℕ × Part E) → ℕ → Part E
  part_at [] slot = blank_part
  part_at (p ∷ ps) slot = if p.0 == slot then p.1 else part_at ps slot

  -- what the view says of the slot
  abbrev pub part_of : View E → ℕ → Part E
  part_of v slot = part_at v.parts slot

  -- the view with another part of the slot, and these words seen
  abbrev pub view_with : View E → List (ℕ × ℕ) → ℕ → Part E → View E
  view_with v seen slot p = record v { seen = seen; parts = (slot, p) ∷ v.parts }

  -- the view of a pass that was joined away
  abbrev pub spent_view : View E
  spent_view =
      record { numbers = []; width = 0; total = 0; sent = 0; next = None; seen = []; parts = []; hand = None; taken = []; notices = [] }

  -- the first view of a table whose passes have so many nodes each, and so many together
  abbrev pub opening_view : ℕ → ℕ → View E
  opening_view nodes total = record {
    numbers = 0 ∷ [];
    width = nodes;
    total = total;
    sent = 0;
    next = Some 1;
    seen = [];
    parts = [];
    hand = None;
    taken = [];
    notices = [];
  }

  -- the view that has handed out its next number
  abbrev pub giving_view : View E → View E
  giving_view v = record v { next = next_after v.next }

  -- the view of a new pass, with that number
  abbrev pub given_view : View E → View E
  given_view v = record {
    numbers = list_of v.next;
    width = v.width;
    total = v.total;
    sent = 0;
    next = None;
    seen = [];
    parts = [];
    hand = None;
    taken = [];
    notices = [];
  }
