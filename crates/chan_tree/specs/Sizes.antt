-- How large the plan of a channel is, and its leaf of a number, as they are found from the channels.
use Rattle.std.specs.Prelude.{◌≡◌, ℕ, ◌+◌, ◌<◌, ◌≤◌, ◌&&◌, nat_le, nat_lt, List, [], ◌∷◌, Option, None, Some, if◌then◌else◌}
use Rattle.std.specs.Option.{option_map}
use Rattle.rpc_model.specs.declared.chan.Chan.{Chan}
use Rattle.rpc_model.specs.declared.chan.LeafChan.{LeafChan}
use Rattle.rpc_model.specs.Plan.{Plan, plan}
use Rattle.rpc_model.specs.Versions.{nodes, possible_attempts, leaf_at, or_leaf}
use Rattle.chan_tree.specs.Counting.{total}
use Rattle.chan_tree.specs.declared.walking.Size.{Size}

-- how many attempts may follow the first at a leaf
abbrev pub retry_of : Option LeafChan → Option ℕ
retry_of leaf = option_map (λ (l : LeafChan). l.retry) leaf

-- so many leaves from this number on may be followed by so many attempts each
abbrev pub part_retry : ℕ → ℕ → ℕ → ℕ → Option ℕ
part_retry first parts retry wanted = if nat_le first wanted && nat_lt wanted (first + parts) then Some retry else None

-- these are the nodes and the attempts, or else they are more than a range of ids may have
abbrev pub IsSize : Option Size → ℕ → ℕ → Type 0
IsSize None nodes attempts = 1024 < nodes + attempts
IsSize (Some size) nodes attempts = (size.nodes ≡ nodes) × (size.attempts ≡ attempts) × (nodes + attempts ≤ 1024)

module _ {M G : Type 0} where
  -- the nodes of a plan, the attempts that its leaves may issue together, and its leaf of a number, where the root has the number before it
  abbrev pub nodes_if : Option (Plan M G) → ℕ
  nodes_if None = 0
  nodes_if (Some p) = nodes p

  abbrev pub attempts_if : Option (Plan M G) → ℕ
  attempts_if None = 0
  attempts_if (Some p) = possible_attempts p

  abbrev pub leaf_if : ℕ → Option (Plan M G) → ℕ → Option LeafChan
  leaf_if node None wanted = None
  leaf_if node (Some p) wanted = leaf_at node p wanted

  -- the leaf of a number in plans that follow each other
  abbrev pub leaf_among : (ℕ → Option (Plan M G)) → ℕ → List ℕ → ℕ → Option LeafChan
  leaf_among plan_of node [] wanted = None
  leaf_among plan_of node (number ∷ numbers) wanted = or_leaf (leaf_if node (plan_of number) wanted) (leaf_among plan_of (node + nodes_if (plan_of number)) numbers wanted)

  -- of the plan of the channel of a number
  abbrev pub nodes_at : List (Chan M G) → ℕ → ℕ → ℕ
  nodes_at chans call number = nodes_if (plan chans number call)

  abbrev pub attempts_at : List (Chan M G) → ℕ → ℕ → ℕ
  attempts_at chans call number = attempts_if (plan chans number call)

  unfoldable pub IsSizeOf : List (Chan M G) → ℕ → ℕ → Option Size → Type 0
  IsSizeOf chans number call size = IsSize size (nodes_at chans call number) (attempts_at chans call number)

  -- of a node over the plans of the channels of these numbers
  unfoldable pub IsSizeOver : List (Chan M G) → List ℕ → ℕ → Option Size → Type 0
  IsSizeOver chans numbers call size = IsSize size (1 + total (nodes_at chans call) numbers) (total (attempts_at chans call) numbers)

  -- with the size so far, the sizes of those that are left come to those of all
  unfoldable pub IsSizeSoFar : List (Chan M G) → List ℕ → ℕ → Size → List ℕ → Type 0
  IsSizeSoFar chans all call size rest =
      (size.nodes + total (nodes_at chans call) rest ≡ 1 + total (nodes_at chans call) all)
      × (size.attempts + total (attempts_at chans call) rest ≡ total (attempts_at chans call) all) × (size.nodes + size.attempts ≤ 1024)

  -- the number behind the plans of the channels of these numbers, where the first one's root has the number before it
  unfoldable pub node_behind : List (Chan M G) → List ℕ → ℕ → ℕ → ℕ
  node_behind chans numbers call node = node + total (nodes_at chans call) numbers

  unfoldable pub retry_in : List (Chan M G) → ℕ → ℕ → ℕ → ℕ → Option ℕ
  retry_in chans number call node wanted = retry_of (leaf_if node (plan chans number call) wanted)

  -- the same over the channels of these numbers, one after the other
  unfoldable pub retry_among : List (Chan M G) → List ℕ → ℕ → ℕ → ℕ → Option ℕ
  retry_among chans numbers call node wanted = retry_of (leaf_among (λ s. plan chans s call) node numbers wanted)
