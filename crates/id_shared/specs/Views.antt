-- What a pass knows and has after each call. This project's own choice.
use Rattle.std.specs.Prelude.{ℕ, ◌+◌, ◌*◌, ◌/◌, ◌%◌, true, false, List, [], ◌∷◌, ◌++◌, Some, None}
use Rattle.id_rule.specs.Changes.{part_with_spot, part_with_range, part_with_hold, part_without_hold, part_with_out, part_with_taking, part_without_taking}
use Rattle.id_rule.specs.Changes.{view_after_load, view_after_miss, view_with_seen, view_with_list, taking_view, ending_view}
use Rattle.id_rule.specs.declared.view.Queued.{Queued}
use Rattle.id_rule.specs.declared.view.Receipt.{Receipt}
use Rattle.id_rule.specs.declared.view.View.{View}
use Rattle.id_rule.specs.Parts.{part_of, view_with}
use Rattle.id_rule.specs.Nodes.{word_at}
use Rattle.id_rule.specs.Words.{packed_word}
use Rattle.id_shared.specs.declared.answers.Posted.{Posted}
use Rattle.id_shared.specs.Standing.{Claim, Standing}

-- words as loaded from slots one after the other, counted round, from this many slots after slot 0 on
abbrev pub words_round : ℕ → ℕ → List ℕ → List (ℕ × ℕ)
words_round slots at [] = []
words_round slots at (n ∷ ns) = (at % slots, n) ∷ words_round slots (at + 1) ns

-- words as loaded from one slot, again and again
abbrev pub words_of : ℕ → List ℕ → List (ℕ × ℕ)
words_of slot [] = []
words_of slot (n ∷ ns) = (slot, n) ∷ words_of slot ns

module _ {E : Type 0} where
  -- the pass with this view
  abbrev pub with_view : Standing E → View E → Standing E
  with_view p v = record p { view = v }

  -- the view after loads that found these words
  abbrev pub view_after_loads : View E → List (ℕ × ℕ) → View E
  view_after_loads v [] = v
  view_after_loads v (x ∷ xs) = view_after_loads (view_after_load v x.0 x.1) xs

  -- the view with this Spot
  abbrev pub view_with_spot : View E → Claim → View E
  view_with_spot v c = view_with v v.seen c.slot (part_with_spot (part_of v c.slot) (Some (c.first, c.size)))

  -- the view without a Spot of the slot
  abbrev pub view_without_spot : View E → ℕ → View E
  view_without_spot v slot = view_with v v.seen slot (part_with_spot (part_of v slot) None)

  -- the view whose Spot became an Owner and a Hold of a range with this opening log
  abbrev pub view_with_range : View E → Claim → List E → View E
  view_with_range v c log = view_with v v.seen c.slot (part_with_range (part_of v c.slot) (c.first, c.size) log)

  -- the view of a holder's pass that took its slot again
  abbrev pub view_lifted : View E → ℕ → View E
  view_lifted v slot = view_with v v.seen slot (part_with_out (part_of v slot) true)

  -- the view of a holder's pass that gave its slot back, empty
  abbrev pub view_laid : View E → ℕ → View E
  view_laid v slot = view_with v v.seen slot (part_with_out (part_of v slot) false)

  -- the view that locked the range with this log, and has its slot
  abbrev pub view_locked : View E → Claim → List E → View E
  view_locked v c log = view_with v v.seen c.slot (part_with_hold (part_of v c.slot) (c.first, c.size) log)

  -- the view with this Hold, whose range had this log at the lock
  abbrev pub view_with_hold : View E → Claim → List E → View E
  view_with_hold v c log = view_laid (view_locked v c log) c.slot

  -- the view whose Hold goes with its slot, and leaves the range with this log
  abbrev pub view_unlocked : View E → Claim → List E → View E
  view_unlocked v c log = view_with v v.seen c.slot (part_without_hold (part_of v c.slot) c.first log)

  -- the view whose Hold went, and left the range with this log
  abbrev pub view_without_hold : View E → Claim → List E → View E
  view_without_hold v c log = view_unlocked (view_lifted v c.slot) c log

  -- the view of a holder's pass that had its slot: the word showed that errors wait, and the pass took this chain and gave the slot back
  abbrev pub view_with_chain : View E → Claim → ℕ → List Queued → View E
  view_with_chain v c word qs = view_laid (view_with_list (taking_view (view_after_miss v c.slot word) c.slot qs) []) c.slot

  -- the view of a holder's pass whose word showed that errors wait, and which took this chain
  abbrev pub view_after_pending : View E → Claim → ℕ → List Queued → View E
  view_after_pending v c word qs = view_with_chain (view_lifted v c.slot) c word qs

  -- the view of a holder's pass that had its slot, and ended the range: its last log, the receipts that it leaves out, and the chain that it took
  abbrev pub view_ended : View E → Claim → List E → List Receipt → List Queued → View E
  view_ended v c log out qs = view_with_list (ending_view v c.slot c.first (c.first + c.size) log out qs) []

  -- the view whose Hold went and destroyed the range: its last log, the receipts that it leaves out, and the chain that it took
  abbrev pub view_after_destroy : View E → Claim → List E → List Receipt → List Queued → View E
  view_after_destroy v c log out qs = view_ended (view_lifted v c.slot) c log out qs

  -- the view of an Owner's pass that saw the ended word and took the last value
  abbrev pub view_with_value : View E → Claim → List E → View E
  view_with_value v c log =
      view_with v (v.seen ++ (c.slot, packed_word c.first c.size 4 0) ∷ []) c.slot (part_with_taking (part_of v c.slot) (c.first, c.size) log)

  -- the view that gave the slot back
  abbrev pub view_after_return : View E → ℕ → View E
  view_after_return v slot = view_with v v.seen slot (part_without_taking (part_of v slot))

  -- the view whose Owner collected the value with this last log
  abbrev pub view_after_collect : View E → Claim → List E → View E
  view_after_collect v c log = view_after_return (view_with_value v c log) c.slot

  -- the view after loads of a pass's nodes from this one on, which found these words
  abbrev pub view_after_picks : View E → ℕ → ℕ → List ℕ → View E
  view_after_picks v slots node [] = v
  view_after_picks v slots node (n ∷ ns) = view_after_picks (view_with_seen v (word_at slots node) n) slots (node + 1) ns

-- the error in a node, as it is handed out
abbrev pub error_of : Queued → Posted
error_of q = record { offset = q.offset; code = q.code; receipt = q.receipt }

-- the errors of a chain, last queued first
abbrev pub errors_of : List Queued → List Posted
errors_of [] = []
errors_of (q ∷ qs) = error_of q ∷ errors_of qs

-- the receipts of errors
abbrev pub receipts_in_errors : List Posted → List Receipt
receipts_in_errors [] = []
receipts_in_errors (e ∷ es) = e.receipt ∷ receipts_in_errors es

-- the slot that the pass with this number looks at first, where so many passes share so many slots: their first slots lie apart, and that of pass 0 is slot 0
abbrev pub first_slot : ℕ → ℕ → ℕ → ℕ
first_slot slots passes number = number * slots / passes

-- the first node of the pass with this number, where each pass has so many
abbrev pub first_node : ℕ → ℕ → ℕ
first_node nodes number = number * nodes + 1
