-- The nodes in which errors wait, and the chains that they make. Two words of the table for each node, behind those of the slots; this project's own choice.
use Rattle.std.specs.Prelude.{◌≡◌, ℕ, ◌+◌, ◌*◌, ◌-◌, ◌/◌, ◌%◌, ◌<◌, ◌≤◌, ◌⊎◌, List, [], ◌∷◌, ◌++◌, ◌==◌, if◌then◌else◌, length}
use mathlib.Core.Option.{some}
use lib.ListN.{get_elem?}
use Rattle.id_rule.specs.declared.view.Receipt.{Receipt}
use Rattle.id_rule.specs.declared.view.Queued.{Queued}
use Rattle.id_rule.specs.declared.view.Notice.{Notice}

-- Where a node is: free, in the hand of a seat's running call, in the chain of a slot, or on the list that a holder took. The last number is how many
-- nodes stand behind it
pub data Place : Type 0 where
  idle : Place
  in_hand : ℕ → Place
  in_queue : ℕ → ℕ → Place
  on_list : ℕ → ℕ → Place

-- the first word of a node that waits: the next node, the error's code and its offset in the range. A free node's is 0
abbrev pub node_word : ℕ → ℕ → ℕ → ℕ
node_word next offset code = next + code * 65536 + offset * 4294967296 + 8796093022208

-- the node that a waiting node's first word names, the error's code in it, and its offset
abbrev pub next_in : ℕ → ℕ
next_in w = w % 65536

abbrev pub error_in : ℕ → ℕ
error_in w = w / 65536 % 65536

abbrev pub offset_in : ℕ → ℕ
offset_in w = w / 4294967296 % 2048

-- the node at the head of a chain, 0 where it is empty
abbrev pub head_of : List Queued → ℕ
head_of [] = 0
head_of (q ∷ qs) = q.node

-- the place of a node's first word in the table; the second, behind it, has the receipt's number
abbrev pub word_at : ℕ → ℕ → ℕ
word_at slots node = slots + 2 * (node - 1)

-- the node whose first word stands there
abbrev pub node_of_word : ℕ → ℕ → ℕ
node_of_word slots word = (word - slots) / 2 + 1

-- the number of the pass that a node belongs to
abbrev pub pass_of_node : ℕ → ℕ → ℕ
pass_of_node nodes node = (node - 1) / nodes

-- each node of the chain has its error in its words, and names the next one
abbrev pub IsLinked : ℕ → List ℕ → List Queued → Type 0
IsLinked slots words [] = Unit {0}
IsLinked slots words (q ∷ qs) =
    (1 ≤ q.node)
    × (get_elem? words (word_at slots q.node) ≡ some (node_word (head_of qs) q.offset q.code))
    × (get_elem? words (word_at slots q.node + 1) ≡ some q.receipt.number)
    × IsLinked slots words qs

-- each node of the chain is placed in it, so that none stands in it twice and none in two chains
abbrev pub ArePlaced : (ℕ → Place) → (ℕ → Place) → List Queued → Type 0
ArePlaced place here [] = Unit {0}
ArePlaced place here (q ∷ qs) = (place q.node ≡ here (length qs)) × ArePlaced place here qs

-- the node stands in the chain
abbrev pub IsIn : ℕ → List Queued → Type 0
IsIn m [] = ⊥
IsIn m (q ∷ qs) = (q.node ≡ m) ⊎ IsIn m qs

-- each node that is placed in the slot's chain stands in it, so that no error is lost
abbrev pub IsWhole : (ℕ → Place) → ℕ → List Queued → Type 0
IsWhole place slot qs = (m j : ℕ) → place m ≡ in_queue slot j → IsIn m qs

-- the list that a seat took is a chain, placed there and whole
abbrev pub IsTakenList : ℕ → List ℕ → (ℕ → Place) → ℕ → List Queued → Type 0
IsTakenList slots words place by qs = IsLinked slots words qs × ArePlaced place (on_list by) qs × ((m j : ℕ) → place m ≡ on_list by j → IsIn m qs)

-- the seat that has the node is among the first n
abbrev pub IsPlaced : ℕ → Place → Type 0
IsPlaced n idle = Unit {0}
IsPlaced n (in_hand by) = by < n
IsPlaced n (in_queue slot k) = Unit {0}
IsPlaced n (on_list by k) = by < n

-- a word is there that isn't 0
abbrev pub IsNonzero : List ℕ → ℕ → Type 0
IsNonzero words i = (n : ℕ) × (get_elem? words i ≡ some n) × (1 ≤ n)

-- a free node's first word is 0 and a waiting one's isn't; a node in hand is with the seat that has its pass's number
abbrev pub IsNode : ℕ → List ℕ → ℕ → ℕ → Place → Type 0
IsNode slots words node who idle =
    (get_elem? words (word_at slots node) ≡ some 0) × ((second : ℕ) × (get_elem? words (word_at slots node + 1) ≡ some second))
IsNode slots words node who (in_hand by) = who ≡ by
IsNode slots words node who (in_queue slot k) = IsNonzero words (word_at slots node)
IsNode slots words node who (on_list by k) = IsNonzero words (word_at slots node)

-- the number of a receipt, if it is this pass's
abbrev pub number_if : ℕ → Receipt → List ℕ
number_if pass r = if r.pass == pass then r.number ∷ [] else []

-- the numbers of a pass's receipts, in their order
abbrev pub numbers_of : ℕ → List Receipt → List ℕ
numbers_of pass [] = []
numbers_of pass (r ∷ rs) = number_if pass r ++ numbers_of pass rs

-- the receipts of a chain, last queued first
abbrev pub receipts_of : List Queued → List Receipt
receipts_of [] = []
receipts_of (q ∷ qs) = q.receipt ∷ receipts_of qs

-- the error of a node in the chain of a slot's range with this first version
abbrev pub notice_of : ℕ → ℕ → Queued → Notice
notice_of slot first q = record { slot = slot; first = first; offset = q.offset; code = q.code; receipt = q.receipt }

-- the errors of such a chain, last queued first
abbrev pub notices_of : ℕ → ℕ → List Queued → List Notice
notices_of slot first [] = []
notices_of slot first (q ∷ qs) = notice_of slot first q ∷ notices_of slot first qs
