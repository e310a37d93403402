-- The rule: what holds of the words, the values at home and all views between any two steps. This project's own choice.
use Rattle.std.specs.Prelude.{◌≡◌, ℕ, ◌+◌, ◌*◌, ◌<◌, ◌≤◌, List, [], ◌==◌, length, if◌then◌else◌, Option, Some, None}
use mathlib.Core.Option.{some}
use mathlib.Core.Option as maybe
use lib.ListN.{get_elem?}
use Rattle.atomic_table.specs.Table.{State}
use Rattle.id_rule.specs.declared.rule.Sizes.{Sizes}
use Rattle.id_rule.specs.declared.view.Receipt.{Receipt}
use Rattle.id_rule.specs.declared.view.View.{View}
use Rattle.id_rule.specs.Nodes.{Place, in_hand, in_queue, word_at, IsLinked, ArePlaced, IsWhole, IsTakenList, IsPlaced, IsNode, pass_of_node, numbers_of, idle, notice_of}
use Rattle.id_rule.specs.Parts.{part_of, HasLog, HasNumber, AreAll}
use Rattle.id_rule.specs.Phases.{Phase, vacant, reserved, free, locked, ended, taken, retired, slot_word, home_value, IsSeated, IsSound, IsPart}
use Rattle.id_rule.specs.Receipts.{History, IsNoticed, HasSent, IsRisingBelow, receipts_of_range, receipts_in, IsGoingOn, IsFresh, AreLogged, AreWaiting, AreSettled}

module _ {T E : Type 0} where
  -- a locked slot's chain has its errors in its nodes and is placed in it; no node is placed in the chain of any other slot
  abbrev pub IsChained : ℕ → (ℕ → Place) → ℕ → List ℕ → Phase T E → Type 0
  IsChained n place slot words (vacant first) = IsWhole place slot []
  IsChained n place slot words (reserved first size who) = IsWhole place slot []
  IsChained n place slot words (free r x) = IsWhole place slot []
  IsChained n place slot words (locked r who l qs got) = IsLinked n words qs × ArePlaced place (in_queue slot) qs × IsWhole place slot qs
  IsChained n place slot words (ended r x) = IsWhole place slot []
  IsChained n place slot words (taken r l) = IsWhole place slot []
  IsChained n place slot words (retired first) = IsWhole place slot []

-- the node in hand is the only one, and has the words that its call wrote
abbrev pub HasInHand : ℕ → List ℕ → (ℕ → Place) → ℕ → Option (ℕ × ℕ × ℕ) → Type 0
HasInHand n words place by None = (m : ℕ) → place m ≡ in_hand by → ⊥
HasInHand n words place by (Some h) =
    (1 ≤ h.0)
    × (place h.0 ≡ in_hand by)
    × (get_elem? words (word_at n h.0) ≡ some h.1)
    × (get_elem? words (word_at n h.0 + 1) ≡ some h.2)
    × ((m : ℕ) → place m ≡ in_hand by → m ≡ h.0)

-- the seat's view has numbers below the count whose holder it is, and the first pass hands out the next one
abbrev pub IsNumbered : {E : Type 0} → ℕ → ℕ → (ℕ → ℕ) → ℕ → View E → Type 0
IsNumbered opener count holder by v = (v.next ≡ (if opener == by then Some count else None)) × AreAll (λ n. (n < count) × (holder n ≡ by)) v.numbers

-- each pass number is with one view: as many were handed out as there are views, and the holder of each is known
pub record AreApart {E : Type 0} (views : List (View E)) : Type 0 where
  pub opener : ℕ
  pub count : ℕ
  pub holder : ℕ → ℕ
  pub seats : count ≡ length views
  pub later : (a : ℕ) → count ≤ a → holder a ≡ a
  pub earlier : (a : ℕ) → a < count → holder a < count
  pub each : (by : ℕ) (v : View E) → get_elem? views by ≡ some v → IsNumbered opener count holder by v

module _ {T E : Type 0} (log : T → List E) (rec : E → Option Receipt) where
  -- where the receipts for the slot's ranges are, and which of its ranges have ended
  abbrev pub IsTold : History E → ℕ → Phase T E → Type 0
  IsTold g slot (vacant first) = IsFresh g slot first
  IsTold g slot (reserved first size who) = IsFresh g slot first
  IsTold g slot (free r x) = AreLogged (g.numbered slot r.first) (receipts_in rec (log x)) × IsFresh g slot (r.first + 1) × IsGoingOn g slot r.first
  IsTold g slot (locked r who l qs got) =
      AreWaiting (g.numbered slot r.first) (receipts_in rec l.log) got qs
      × IsFresh g slot (r.first + 1)
      × IsGoingOn g slot r.first
      × AreAll (λ q. q.receipt.pass ≡ pass_of_node g.width q.node) qs
      × AreAll (λ q. IsNoticed g (notice_of slot r.first q)) qs
  IsTold g slot (ended r x) = (g.last slot r.first ≡ Some (log x)) × IsFresh g slot (r.first + 1)
  IsTold g slot (taken r l) = (g.last slot r.first ≡ Some l) × IsFresh g slot (r.first + 1)
  IsTold g slot (retired first) = Unit {0}

-- a view has the receipts of its own numbers, what was dropped when it destroyed a range, the last logs of ranges, and the ranges that it destroyed
abbrev pub IsInformed : {E : Type 0} → History E → (ℕ → ℕ) → ℕ → View E → Type 0
IsInformed {E} g holder by v = (slot first : ℕ) →
    ((a : ℕ) → numbers_of a (receipts_of_range first (part_of v slot).receipts) ≡ (if holder a == by then g.numbered slot first a else []))
    × (receipts_of_range first (part_of v slot).dropped ≡ (if g.ender slot first == by then g.lost slot first else []))
    × ((l : List E) → HasLog (part_of v slot).last first l → g.last slot first ≡ Some l)
    × (HasNumber first (part_of v slot).destroyed → (g.ender slot first ≡ by) × ((l : List E) × (g.last slot first ≡ Some l)))

module _ {T E : Type 0} (log : T → List E) (first_id : T → ℕ) (rec : E → Option Receipt) where
  -- a slot in its phase: its word, what lies in it, the passes' parts of it, and its chain
  pub record IsSlot (n : ℕ) (place : ℕ → Place) (slot : ℕ) (words : List ℕ) (homes : List (maybe.Option (Option T))) (views : List (View E))
      (ph : Phase T E) : Type 0 where
    pub word : get_elem? words slot ≡ some (slot_word ph)
    pub home_is : get_elem? homes slot ≡ some (home_value ph)
    pub sound : IsSound first_id slot ph
    pub seated : IsSeated ph (length views)
    pub fits : (by : ℕ) (v : View E) → get_elem? views by ≡ some v → IsPart log ph by (part_of v slot)
    pub chain : IsChained n place slot words ph

  -- each slot is in some phase, and each pass number is with one view
  abbrev pub IsKeptWith : (ℕ → Place) → History E → Sizes → State (Option T) (View E) → Type 0
  IsKeptWith place g sizes s =
      (length s.homes ≡ sizes.slots)
      × ((slot : ℕ) → slot < length s.homes → (ph : Phase T E) × IsSlot sizes.slots place slot s.words s.homes s.views ph × IsTold log rec g slot ph)
      × AreApart s.views

  -- the rule: nodes are somewhere, something happened so far, and all else agrees with it
  pub record IsKept (sizes : Sizes) (s : State (Option T) (View E)) : Type 0 where
    pub place : ℕ → Place
    pub history : History E
    pub at : IsKeptWith place history sizes s
    pub hands : (by : ℕ) (v : View E) → get_elem? s.views by ≡ some v → HasInHand sizes.slots s.words place by v.hand
    pub lists : (by : ℕ) (v : View E) → get_elem? s.views by ≡ some v → IsTakenList sizes.slots s.words place by v.taken
    pub placed : (m : ℕ) → IsPlaced (length s.views) (place m)
    pub beyond : (m : ℕ) → sizes.passes * sizes.nodes < m → place m ≡ idle
    pub news : (slot f : ℕ) → (history.ender slot f < length s.views) × ((a : ℕ) → at.2.count ≤ a → history.numbered slot f a ≡ [])
    pub wide : history.width ≡ sizes.nodes
    pub rise : (slot f a : ℕ) → IsRisingBelow (history.numbered slot f a) (history.sent a)
    pub unsent : (a : ℕ) → at.2.count ≤ a → history.sent a ≡ 0
    pub sents : (by : ℕ) (v : View E) → get_elem? s.views by ≡ some v → HasSent history.sent v.numbers v.sent
    pub over : (slot f : ℕ) (l : List E) → history.last slot f ≡ Some l → AreSettled (history.numbered slot f) (receipts_in rec l) (history.lost slot f)
    pub noticed : (by : ℕ) (v : View E) → get_elem? s.views by ≡ some v → AreAll (IsNoticed history) v.notices
    pub tells : (by : ℕ) (v : View E) → get_elem? s.views by ≡ some v → IsInformed history at.2.holder by v
    pub nodes : (node : ℕ) → 1 ≤ node → node ≤ sizes.passes * sizes.nodes
        → IsNode sizes.slots s.words node (at.2.holder (pass_of_node sizes.nodes node)) (place node)
