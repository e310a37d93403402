-- What each kind of step tells the pass that takes it: of the step, the pass before, the word found and the pass after. This project's own choice.
use Rattle.std.specs.Prelude.{◌≡◌, ◌≢◌, ℕ, ◌^◌, ◌+◌, ◌<◌, ◌≤◌, true, false, List, [], ◌∷◌, ◌++◌, length, reverse, Option, Some, None}
use Rattle.atomic_table.specs.Table.{Me, Step, rest}
use mathlib.Core.Option.{some}
use mathlib.Core.List.{IsPrefix}
use Rattle.id_pool.specs.Ids.{make_id}
use Rattle.rpc_model.specs.Gone.{head_in, first_in, range_in, is_live_in}
use Rattle.id_rule.specs.Accounts.{IsAccounted}
use Rattle.id_rule.specs.Changes.{part_with_spot, part_with_range, part_with_hold, part_without_hold, part_with_out, part_with_taking, part_without_taking}
use Rattle.id_rule.specs.Changes.{view_after_load, view_after_miss, view_with_seen, view_with_hand, view_with_list, pushing_view, taking_view, ending_view}
use Rattle.id_rule.specs.Changes.{size_held}
use Rattle.id_rule.specs.declared.view.Turn.{Turn}
use Rattle.id_rule.specs.declared.view.Queued.{Queued}
use Rattle.id_rule.specs.declared.view.Receipt.{Receipt}
use Rattle.id_rule.specs.declared.view.View.{View}
use Rattle.id_rule.specs.Nodes.{node_word, offset_in, error_in, head_of, word_at, node_of_word, pass_of_node, receipts_of, numbers_of}
use Rattle.id_rule.specs.Parts.{HasNumber, HasLog, AreAll, own_number, part_of, view_with}
use Rattle.id_rule.specs.Receipts.{IsReordered, IsRising, occurrences, receipts_of_range, receipts_in, IsGrownWithout}
use Rattle.id_rule.specs.Words.{packed_word}

-- a pass as the table sees it: its view, and the slots that it took, each with what lies in it
abbrev pub Mine : Type 0 → Type 0 → Type 0
Mine T E = Me (Option T) (View E)

-- what lies in the slot that was taken last
abbrev pub value_in : {T : Type 0} → List (ℕ × Option T) → Option T
value_in [] = None
value_in (t ∷ ts) = t.1

-- the log of a value, if there is one
abbrev pub log_in : {T E : Type 0} → (T → List E) → Option T → List E
log_in log None = []
log_in log (Some x) = log x

-- What the pass is told of the chain that it takes from its slot, whose range has this size: each node is one of the table's, with a receipt of the pass
-- that it belongs to; each error is of the range; each pass's numbers rise, behind what the holder got since its lock and above those in the log then
pub record IsChainOf {E : Type 0} (rec : E → Option Receipt) (v : View E) (slot size : ℕ) (qs : List Queued) : Type 0 where
  pub nodes : AreAll (λ q. (1 ≤ q.node) × (q.node ≤ v.total)) qs
  pub homes : AreAll (λ q. q.receipt.pass ≡ pass_of_node v.width q.node) qs
  pub errors : AreAll (λ q. (q.offset < size) × (q.code < 65536)) qs
  pub few : length qs ≤ v.total
  pub order : (a : ℕ) → IsRising 0 (numbers_of a ((part_of v slot).got ++ reverse (receipts_of qs)))
  pub above : (a n : ℕ) (t : Turn E) → (part_of v slot).turn ≡ Some t → 1 ≤ occurrences n (numbers_of a (receipts_in rec t.log))
      → IsRising (n + 1) (numbers_of a ((part_of v slot).got ++ reverse (receipts_of qs)))

module _ {T E : Type 0} where
  -- an exchange that found another word than the one expected is a load
  abbrev pub HasMissed : Step (Option T) → Mine T E → ℕ → Mine T E → Type 0
  HasMissed s m n m' = n ≢ s.first → m' ≡ (view_after_load m.0 s.word n, m.1)

  -- a load of a slot's word; a version that it shows live is none that the pass has seen end, all receipts of ranges that ended are accounted for, and a
  -- node in hand is one
  abbrev pub IsLook : (E → Option Receipt) → Step (Option T) → Mine T E → ℕ → Mine T E → Type 0
  IsLook rec s m n m' =
      (m' ≡ (view_after_load m.0 s.word n, m.1))
      × (n < 2 ^ 62)
      × ((version : ℕ) → is_live_in n version ≡ true → (part_of m.0 s.word).ended_below ≤ version)
      × IsAccounted rec m'.0
      × ((h : ℕ × ℕ × ℕ) → m.0.hand ≡ Some h → 1 ≤ h.0)

  -- vacant to reserved: the pass, which had no Spot of the slot, has one
  abbrev pub IsReserving : Step (Option T) → Mine T E → ℕ → Mine T E → Type 0
  IsReserving s m n m' =
      (n ≡ s.first
      → (m' ≡ (view_with m.0 m.0.seen s.word (part_with_spot (part_of m.0 s.word) (Some (first_in s.first, range_in s.second))), m.1))
      × ((part_of m.0 s.word).spot ≡ None))
      × HasMissed s m n m'

  -- reserved to vacant: the Spot goes
  abbrev pub IsGivingUp : Step (Option T) → Mine T E → ℕ → Mine T E → Type 0
  IsGivingUp s m n m' = m' ≡ (view_with m.0 m.0.seen s.word (part_with_spot (part_of m.0 s.word) None), m.1)

  -- reserved to locked: the range begins with the log of the value that was announced, and the pass had no Hold of the slot
  abbrev pub IsInstalling : (T → List E) → Step (Option T) → Mine T E → ℕ → Mine T E → Type 0
  IsInstalling log s m n m' = (x : T)
      × (s.said ≡ some (Some x))
      × (m' ≡ (view_with m.0 m.0.seen s.word (part_with_range (part_of m.0 s.word) (first_in s.second, range_in s.second) (log x)), m.1))
      × ((part_of m.0 s.word).hold ≡ None)

  -- The slot is with the pass, which had no Hold of it, with its range's value. The value's log begins with each log of the range that the pass knows, and
  -- has each of its receipts for the range, once
  abbrev pub HasLocked : (T → List E) → (T → ℕ) → (E → Option Receipt) → Step (Option T) → Mine T E → Mine T E → Type 0
  HasLocked log first_id rec s m m' = (x : T)
      × (m' ≡ (
        view_with m.0 m.0.seen s.word (part_with_hold (part_of m.0 s.word) (first_in s.first, range_in s.first) (log x)),
        (s.word, Some x) ∷ m.1,
      ))
      × (first_id x ≡ make_id s.word (first_in s.first))
      × ((l : List E) → HasLog (part_of m.0 s.word).logs (first_in s.first) l → IsPrefix l (log x))
      × ((part_of m.0 s.word).hold ≡ None)
      × ((a : ℕ) → HasNumber a m.0.numbers
      → IsReordered (numbers_of a (receipts_of_range (first_in s.first) (part_of m.0 s.word).receipts)) (numbers_of a (receipts_in rec (log x))))

  -- free to locked
  abbrev pub IsLocking : (T → List E) → (T → ℕ) → (E → Option Receipt) → Step (Option T) → Mine T E → ℕ → Mine T E → Type 0
  IsLocking log first_id rec s m n m' = (n ≡ s.first → HasLocked log first_id rec s m m') × HasMissed s m n m'

  -- a load by the holder, which gives the slot back, empty
  abbrev pub IsLaying : Step (Option T) → Mine T E → ℕ → Mine T E → Type 0
  IsLaying s m n m' = m' ≡ (view_with m.0 m.0.seen s.word (part_with_out (part_of m.0 s.word) false), rest m.1)

  -- a load by the holder, which takes the empty slot again
  abbrev pub IsLifting : Step (Option T) → Mine T E → ℕ → Mine T E → Type 0
  IsLifting s m n m' = m' ≡ (view_with m.0 m.0.seen s.word (part_with_out (part_of m.0 s.word) true), (s.word, None) ∷ m.1)

  -- locked without a head to free: the slot goes home with the value that lies in it. Another word has a head
  abbrev pub IsUnlocking : (T → List E) → Step (Option T) → Mine T E → ℕ → Mine T E → Type 0
  IsUnlocking log s m n m' =
      (n ≡ s.first → m' ≡ (
        view_with m.0 m.0.seen s.word (part_without_hold (part_of m.0 s.word) (first_in s.second) (log_in log (value_in m.1))),
        rest m.1,
      ))
      × (n ≢ s.first → (m' ≡ (view_after_miss m.0 s.word n, m.1)) × (head_in n ≢ 0))

  -- locked to ended: the slot goes home with the value that lies in it, and the chain is the pass's list; what the last entries leave out is dropped
  abbrev pub IsEnding : (T → List E) → (E → Option Receipt) → Step (Option T) → Mine T E → ℕ → Mine T E → Type 0
  IsEnding log rec s m n m' = (x : T) → m.1 ≡ (s.word, Some x) ∷ rest m.1 → (qs : List Queued)
      × (out : List Receipt)
      × (head_in n ≡ head_of qs)
      × IsChainOf rec m.0 s.word (range_in s.first) qs
      × ((t : Turn E) → (part_of m.0 s.word).turn ≡ Some t → IsGrownWithout rec t.log (log x) (part_of m.0 s.word).got out)
      × (m' ≡ (ending_view m.0 s.word (first_in s.first) (first_in s.first + range_in s.first) (log x) out qs, rest m.1))

  -- the slot is with the Owner's pass, with its range's last value, whose log begins with each log of the range that the pass knows
  abbrev pub HasTaken : (T → List E) → (T → ℕ) → Step (Option T) → Mine T E → ℕ → ℕ × ℕ → Mine T E → Type 0
  HasTaken log first_id s m n r m' = (x : T)
      × (m' ≡ (view_with m.0 (m.0.seen ++ (s.word, n) ∷ []) s.word (part_with_taking (part_of m.0 s.word) r (log x)), (s.word, Some x) ∷ m.1))
      × (first_id x ≡ make_id s.word r.0)
      × ((l : List E) → HasLog (part_of m.0 s.word).logs r.0 l → IsPrefix l (log x))

  -- a load by an Owner's pass: where the word is the ended word of the Owner's range, the pass takes the slot. All receipts of ranges that ended are
  -- accounted for
  abbrev pub IsTaking : (T → List E) → (T → ℕ) → (E → Option Receipt) → Step (Option T) → Mine T E → ℕ → Mine T E → Type 0
  IsTaking log first_id rec s m n m' = ((r : ℕ × ℕ) → (part_of m.0 s.word).owner ≡ Some r
      → (n ≡ packed_word r.0 r.1 4 0 → HasTaken log first_id s m n r m')
      × (n ≢ packed_word r.0 r.1 4 0 → m' ≡ (view_after_load m.0 s.word n, m.1)))
      × IsAccounted rec m'.0

  -- ended to vacant or retired: the slot goes back empty, and all receipts of ranges that ended are accounted for
  abbrev pub IsEmptying : (E → Option Receipt) → Step (Option T) → Mine T E → ℕ → Mine T E → Type 0
  IsEmptying rec s m n m' = (m' ≡ (view_with m.0 m.0.seen s.word (part_without_taking (part_of m.0 s.word)), rest m.1)) × IsAccounted rec m'.0

  -- a store into the first word of the node in hand
  abbrev pub IsFirstWrite : Step (Option T) → Mine T E → ℕ → Mine T E → Type 0
  IsFirstWrite s m n m' = (h : ℕ × ℕ × ℕ) → m.0.hand ≡ Some h → m' ≡ (view_with_hand m.0 (Some (h.0, s.first, h.2)), m.1)

  -- a store into the second word of the node in hand
  abbrev pub IsSecondWrite : Step (Option T) → Mine T E → ℕ → Mine T E → Type 0
  IsSecondWrite s m n m' = (h : ℕ × ℕ × ℕ) → m.0.hand ≡ Some h → m' ≡ (view_with_hand m.0 (Some (h.0, h.1, s.first)), m.1)

  -- the node in hand is free again
  abbrev pub IsLettingGo : Step (Option T) → Mine T E → ℕ → Mine T E → Type 0
  IsLettingGo s m n m' = m' ≡ (view_with_hand m.0 None, m.1)

  -- a load of one's own node, which is in hand where it was free
  abbrev pub IsPick : Step (Option T) → Mine T E → ℕ → Mine T E → Type 0
  IsPick s m n m' =
      (n ≡ 0 → (second : ℕ) × (m' ≡ (view_with_hand (view_with_seen m.0 s.word n) (Some (node_of_word s.slots s.word, 0, second)), m.1)))
      × (n ≢ 0 → m' ≡ (view_with_seen m.0 s.word n, m.1))

  -- the push of a head: one error waits, and the pass has its receipt
  abbrev pub IsPush : Step (Option T) → Mine T E → ℕ → Mine T E → Type 0
  IsPush s m n m' =
      (n ≡ s.first → (h : ℕ × ℕ × ℕ) → m.0.hand ≡ Some h
      → m' ≡ (
        pushing_view m.0 record {
          slot = s.word;
          first = first_in s.first;
          offset = offset_in h.1;
          code = error_in h.1;
          receipt = record { pass = own_number m.0.numbers; number = h.2 };
        },
        m.1,
      ))
      × HasMissed s m n m'

  -- the holder takes the chain of its slot, whose head the word found has; where it had seen that errors wait, there is one at least
  abbrev pub IsTakingAll : (E → Option Receipt) → Step (Option T) → Mine T E → ℕ → Mine T E → Type 0
  IsTakingAll rec s m n m' = (qs : List Queued)
      × (m' ≡ (taking_view m.0 s.word qs, m.1))
      × (head_in n ≡ head_of qs)
      × IsChainOf rec m.0 s.word (size_held (part_of m.0 s.word).hold) qs
      × ((t : Turn E) × ((part_of m.0 s.word).turn ≡ Some t) × (t.waits ≡ true → 1 ≤ length qs))

  -- a load of a word of the first taken node: it has that node's error
  abbrev pub IsRead : Step (Option T) → Mine T E → ℕ → Mine T E → Type 0
  IsRead s m n m' = (m' ≡ m)
      × ((q : Queued) (qs : List Queued) → m.0.taken ≡ q ∷ qs
      → (s.word ≡ word_at s.slots q.node → n ≡ node_word (head_of qs) q.offset q.code)
      × (s.word ≡ word_at s.slots q.node + 1 → n ≡ q.receipt.number))

  -- the first taken node is free
  abbrev pub IsFreeing : Step (Option T) → Mine T E → ℕ → Mine T E → Type 0
  IsFreeing s m n m' = (q : Queued) (qs : List Queued) → m.0.taken ≡ q ∷ qs → m' ≡ (view_with_list m.0 qs, m.1)
