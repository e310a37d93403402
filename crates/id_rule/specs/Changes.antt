-- How a step changes the view of its pass: the part of one slot, the list of taken nodes, the node in hand. This project's own choice.
use Rattle.std.specs.Prelude.{ℕ, ◌+◌, max, Bool, true, false, List, [], ◌∷◌, ◌++◌, ◌&&◌, ◌||◌, is_some, if◌then◌else◌, reverse, Option, Some, None}
use Rattle.id_rule.specs.declared.view.Notice.{Notice}
use Rattle.id_rule.specs.declared.view.Part.{Part}
use Rattle.id_rule.specs.declared.view.Queued.{Queued}
use Rattle.id_rule.specs.declared.view.Receipt.{Receipt}
use Rattle.id_rule.specs.declared.view.Turn.{Turn}
use Rattle.id_rule.specs.declared.view.View.{View}
use Rattle.id_rule.specs.Nodes.{receipts_of, notices_of}
use Rattle.id_rule.specs.Parts.{part_at, part_of, logs_with, view_with}
use Rattle.id_rule.specs.Words.{ended_below_in}

-- these receipts, of the range with this first version
abbrev pub receipts_for : ℕ → List Receipt → List (ℕ × Receipt)
receipts_for first [] = []
receipts_for first (r ∷ rs) = (first, r) ∷ receipts_for first rs

-- the first, or else the second
abbrev pub either_of : {A : Type 0} → Option A → Option A → Option A
either_of None b = b
either_of (Some a) b = Some a

-- the first version of a Hold
abbrev pub first_held : Option (ℕ × ℕ) → ℕ
first_held None = 0
first_held (Some r) = r.0

-- the size of a Hold's range
abbrev pub size_held : Option (ℕ × ℕ) → ℕ
size_held None = 0
size_held (Some r) = r.1

module _ {E : Type 0} where
  -- a lock of a range with this log, whose slot is with the pass or not
  abbrev pub turn_at : Bool → List E → Turn E
  turn_at out log = record { log = log; out = out; waits = false }

  -- the lock, with the slot out with the pass or not
  abbrev pub turn_with_out : Bool → Option (Turn E) → Option (Turn E)
  turn_with_out out None = None
  turn_with_out out (Some t) = Some (record t { out = out })

  -- the lock, with errors that wait or not
  abbrev pub turn_with_waits : Bool → Option (Turn E) → Option (Turn E)
  turn_with_waits waits None = None
  turn_with_waits waits (Some t) = Some (record t { waits = waits })

  -- the part, with another Spot
  abbrev pub part_with_spot : Part E → Option (ℕ × ℕ) → Part E
  part_with_spot p spot = record p { spot = spot }

  -- the part of a pass whose range begins with this log: it has the Owner and the Hold
  abbrev pub part_with_range : Part E → ℕ × ℕ → List E → Part E
  part_with_range p r log = record p { spot = None; hold = Some r; owner = Some r; logs = logs_with p.logs r.0 log; got = []; turn = Some (turn_at false log) }

  -- the part with the Hold of a range with this log, and with the slot
  abbrev pub part_with_hold : Part E → ℕ × ℕ → List E → Part E
  part_with_hold p r log = record p { hold = Some r; logs = logs_with p.logs r.0 log; got = []; turn = Some (turn_at true log) }

  -- the part without the Hold of the range with this first version, which has this log now
  abbrev pub part_without_hold : Part E → ℕ → List E → Part E
  part_without_hold p first log = record p { hold = None; logs = logs_with p.logs first log; got = []; turn = None }

  -- the part of a holder, with the slot out or not
  abbrev pub part_with_out : Part E → Bool → Part E
  part_with_out p out = record p { turn = turn_with_out out p.turn }

  -- the part of a pass that destroyed the range with this last log, and dropped these receipts
  abbrev pub part_with_end : Part E → ℕ → ℕ → List E → List Receipt → Part E
  part_with_end p first ended_below log lost = record p {
    hold = None;
    logs = logs_with p.logs first log;
    ended_below = ended_below;
    dropped = p.dropped ++ receipts_for first lost;
    got = [];
    turn = None;
    destroyed = first ∷ p.destroyed;
  }

  -- the part of an Owner that took the value of its ended range
  abbrev pub part_with_taking : Part E → ℕ × ℕ → List E → Part E
  part_with_taking p r log =
      record p { owner = None; logs = logs_with p.logs r.0 log; taking = Some r; ended_below = r.0 + r.1; last = logs_with p.last r.0 log }

  -- the part of an Owner that gave the slot back
  abbrev pub part_without_taking : Part E → Part E
  part_without_taking p = record p { taking = None }

  -- the part that has seen each version below this one end
  abbrev pub part_with_ended_below : Part E → ℕ → Part E
  part_with_ended_below p ended_below = record p { ended_below = ended_below }

  -- the part with one more receipt, for the range with this first version
  abbrev pub part_with_receipt : Part E → ℕ → Receipt → Part E
  part_with_receipt p first r = record p { receipts = p.receipts ++ (first, r) ∷ [] }

  -- the part of a holder that got these receipts since its lock, and knows of no error that waits
  abbrev pub part_with_got : Part E → List Receipt → Part E
  part_with_got p got = record p { got = got; turn = turn_with_waits false p.turn }

  -- the view after a load that found the word n of the slot: the word joins those seen, and what it shows ended has been seen to end
  abbrev pub view_after_load : View E → ℕ → ℕ → View E
  view_after_load v slot n =
      view_with v (v.seen ++ (slot, n) ∷ []) slot (part_with_ended_below (part_of v slot) (max (part_of v slot).ended_below (ended_below_in n)))

  -- the part of a holder that found the word n, which shows that errors wait
  abbrev pub part_with_miss : Part E → ℕ → Part E
  part_with_miss p n = record p { ended_below = max p.ended_below (ended_below_in n); turn = turn_with_waits true p.turn }

  -- the view of a holder after it found the word n of the slot, which shows that errors wait
  abbrev pub view_after_miss : View E → ℕ → ℕ → View E
  view_after_miss v slot n = view_with v (v.seen ++ (slot, n) ∷ []) slot (part_with_miss (part_of v slot) n)

  -- the view with one more word seen, at a place that is no slot's
  abbrev pub view_with_seen : View E → ℕ → ℕ → View E
  view_with_seen v i n = record v { seen = v.seen ++ (i, n) ∷ [] }

  -- the view with another node in hand
  abbrev pub view_with_hand : View E → Option (ℕ × ℕ × ℕ) → View E
  view_with_hand v h = record v { hand = h }

  -- the view with another list of taken nodes
  abbrev pub view_with_list : View E → List Queued → View E
  view_with_list v qs = record v { taken = qs }

  -- the view after the node in hand was pushed with this error: it has the receipt
  abbrev pub pushing_view : View E → Notice → View E
  pushing_view v e = record v {
    sent = v.sent + 1;
    parts = (e.slot, part_with_receipt (part_of v e.slot) e.first e.receipt) ∷ v.parts;
    hand = None;
    notices = v.notices ++ e ∷ [];
  }

  -- the view after the holder took its slot's chain: it got the receipts, last pushed last
  abbrev pub taking_view : View E → ℕ → List Queued → View E
  taking_view v slot qs = record v {
    parts = (slot, part_with_got (part_of v slot) ((part_of v slot).got ++ reverse (receipts_of qs))) ∷ v.parts;
    taken = qs;
    notices = v.notices ++ reverse (notices_of slot (first_held (part_of v slot).hold) qs);
  }

  -- the view after the holder destroyed its range with this last log, left these receipts out and took the chain
  abbrev pub ending_view : View E → ℕ → ℕ → ℕ → List E → List Receipt → List Queued → View E
  ending_view v slot first ended_below log out qs = record v {
    parts = (slot, part_with_end (part_of v slot) first ended_below log (out ++ reverse (receipts_of qs))) ∷ v.parts;
    taken = qs;
    notices = v.notices ++ reverse (notices_of slot first qs);
  }

  -- the part that has what both had
  abbrev pub joined_part : Part E → Part E → Part E
  joined_part p q = record {
    spot = either_of p.spot q.spot;
    hold = either_of p.hold q.hold;
    owner = either_of p.owner q.owner;
    logs = p.logs ++ q.logs;
    taking = either_of p.taking q.taking;
    ended_below = max p.ended_below q.ended_below;
    receipts = p.receipts ++ q.receipts;
    dropped = p.dropped ++ q.dropped;
    got = p.got ++ q.got;
    turn = either_of p.turn q.turn;
    last = p.last ++ q.last;
    destroyed = p.destroyed ++ q.destroyed;
  }

  -- slot by slot, for each that the second knows of, both parts in one, and then the first's parts
  abbrev pub joined_parts : List (ℕ × Part E) → List (ℕ × Part E) → List (ℕ × Part E) → List (ℕ × Part E)
  joined_parts ps qs [] = ps
  joined_parts ps qs (k ∷ ks) = (k.0, joined_part (part_at ps k.0) (part_at qs k.0)) ∷ joined_parts ps qs ks

  -- both have a Spot, a Hold or an Owner of the slot
  abbrev pub do_both_claim : Part E → Part E → Bool
  do_both_claim p q = (is_some p.spot && is_some q.spot) || (is_some p.hold && is_some q.hold) || (is_some p.owner && is_some q.owner)

  -- both have a claim on one slot, of those that the second knows of
  abbrev pub do_clash : List (ℕ × Part E) → List (ℕ × Part E) → List (ℕ × Part E) → Bool
  do_clash ps qs [] = false
  do_clash ps qs (k ∷ ks) = do_both_claim (part_at ps k.0) (part_at qs k.0) || do_clash ps qs ks

  -- The view of a pass that took in another. The rule lets no two passes have a claim on one slot; the view says so by its hand, which would have a node
  -- that there isn't, and so the pass learns it at its next load
  abbrev pub joined_view : View E → View E → View E
  joined_view v w = record v {
    hand = if do_clash v.parts w.parts w.parts then Some (0, 0, 0) else v.hand;
    numbers = v.numbers ++ w.numbers;
    next = either_of v.next w.next;
    seen = v.seen ++ w.seen;
    parts = joined_parts v.parts w.parts w.parts;
    notices = v.notices ++ w.notices;
  }
