-- Lists of entries whose nodes stand in one vector, linked by numbers. This project's own choice.
use Rattle.std.specs.Prelude.{◌≡◌, ℕ, zero, suc, ◌+◌, ◌-◌, ◌<◌, ◌≤◌, ◌≢◌, ltb, false, ◌==◌, if◌then◌else◌, List, [], ◌∷◌, map, length, sum_by, get_or, set, min}
use Rattle.bit_set.specs.Bits.{is_in}
use Rattle.timer_core.specs.declared.entry.Entry.{Entry}
use Rattle.timer_core.specs.declared.links.Node.{Node}
use Rattle.timer_core.specs.declared.links.End.{End}

-- an entry that stands for none
abbrev pub blank : Entry
blank = record { moment = 0; rank = 0; order = 0; id = 0; code = 0 }

abbrev pub blank_node : Node
blank_node = record { entry = blank; least = 0; next = 0; list = 0; depth = 0 }

abbrev pub no_nodes : End
no_nodes = record { head = 0; depth = 0 }

-- the node of a number
abbrev pub node_at : List Node → ℕ → Node
node_at nodes at = get_or nodes at blank_node

-- where a list of a number begins, and how many nodes it has
abbrev pub end_at : List End → ℕ → End
end_at ends list = get_or ends list no_nodes

-- the entries of so many nodes, each the next of the one before
abbrev pub entries_from : List Node → ℕ → ℕ → List Entry
entries_from nodes zero at = []
entries_from nodes (suc depth) at = (node_at nodes at).entry ∷ entries_from nodes depth (node_at nodes at).next

-- the list of an end
abbrev pub entries_of : List Node → End → List Entry
entries_of nodes end = entries_from nodes end.depth end.head

-- the lists
abbrev pub lists_of : List Node → List End → List (List Entry)
lists_of nodes ends = map (entries_of nodes) ends

-- the list of a number
abbrev pub list_at : List (List Entry) → ℕ → List Entry
list_at lists list = get_or lists list []

-- the least moment of a list, and the greatest number where it is empty
abbrev pub least_of : List Entry → ℕ
least_of [] = 18446744073709551615
least_of (e ∷ es) = min e.moment (least_of es)

-- a list without its first entry
abbrev pub rest_of : List Entry → List Entry
rest_of [] = []
rest_of (e ∷ es) = es

-- a list in front of which stands the first entry of another
abbrev pub front_before : List Entry → List Entry → List Entry
front_before [] more = more
front_before (e ∷ es) more = e ∷ more

-- the lists after the first entry of one was put in front of another
abbrev pub IsShifted : ℕ → ℕ → List (List Entry) → List (List Entry) → Type 0
IsShifted from to old new = new ≡ set (set old from (rest_of (list_at old from))) to (front_before (list_at old from) (list_at old to))

-- the least moment of a list by its first node
abbrev pub least_at : List Node → End → ℕ
least_at nodes end = if end.depth == 0 then 18446744073709551615 else (node_at nodes end.head).least

-- a node with an entry in front of a list
abbrev pub linked : List Node → End → ℕ → Entry → Node
linked nodes end list e = record { entry = e; least = min e.moment (least_at nodes end); next = end.head; list = list; depth = end.depth + 1 }

-- a list without its first node
abbrev pub unlinked : List Node → End → End
unlinked nodes end = record { head = (node_at nodes end.head).next; depth = end.depth - 1 }

-- a node with so many behind it
pub record IsLink (count list depth at : ℕ) (n : Node) (behind : List Entry) : Type 0 where
  pub within : at < count
  pub same : n.list ≡ list
  pub deep : n.depth ≡ suc depth
  pub lowest : n.least ≡ min n.entry.moment (least_of behind)

-- so many nodes are a list's, each the next of the one before
abbrev pub IsChain : List Node → ℕ → ℕ → ℕ → Type 0
IsChain nodes list zero at = Unit {0}
IsChain nodes list (suc depth) at =
    IsLink (length nodes) list depth at (node_at nodes at) (entries_from nodes depth (node_at nodes at).next) × IsChain nodes list depth (node_at nodes at).next

-- how many nodes a list has
abbrev pub depth_of : End → ℕ
depth_of end = end.depth

-- each node stands in one list, once
pub record AreChained (nodes : List Node) (ends : List End) : Type 0 where
  pub lists : (k : ℕ) → k < length ends → IsChain nodes k (end_at ends k).depth (end_at ends k).head
  pub whole : sum_by depth_of ends ≡ length nodes
  pub few : length nodes < 4294967296
  pub many : length ends ≤ 4096

-- whether a list has an entry was noted, by how many it has; list 0 isn't noted
pub record IsNoted (list depth : ℕ) (old new : List ℕ) : Type 0 where
  pub noted : 0 < list → is_in new list ≡ ltb 0 depth
  pub free : list ≡ 0 → is_in new 0 ≡ is_in old 0
  pub others : (k : ℕ) → k ≢ list → is_in new k ≡ is_in old k

-- the lists with an entry are noted, list 0 left out
pub record AreNoted (ends : List End) (used : List ℕ) : Type 0 where
  pub noted : (k : ℕ) → 0 < k → k < length ends → is_in used k ≡ ltb 0 (end_at ends k).depth
  pub free : is_in used 0 ≡ false
  pub past : (k : ℕ) → length ends ≤ k → is_in used k ≡ false

-- what lists in one vector keep
pub record IsTable (nodes : List Node) (ends : List End) (used : List ℕ) : Type 0 where
  pub chained : AreChained nodes ends
  pub noted : AreNoted ends used
