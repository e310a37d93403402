-- What holds of every run of the plain machine, over every channel.
use Rattle.std.specs.Prelude.{◌≡◌, ℕ, ◌+◌, ◌<◌, ◌≤◌, Bool, List, ◌++◌, length, count_by, Option, Some}
use Rattle.std.specs.List.{IsDistinct}
use Rattle.rpc_model.specs.declared.event.End.{End}
use Rattle.rpc_model.specs.declared.event.Event.{Event}
use Rattle.rpc_model.specs.Effects.{Send}
use Rattle.rpc_model.specs.declared.chan.Chan.{Chan}
use Rattle.rpc_model.specs.declared.chan.Chan.TheVariants as chan
use Rattle.rpc_model.specs.declared.chan.SelChan.{SelChan}
use Rattle.rpc_model.specs.declared.meaning.Meaning.{Meaning}
use Rattle.rpc_model.specs.Kinds.{Kinds}
use Rattle.rpc_model.specs.Plan.{Rule, Plan, par_plan, sel_plan, Plans, chan_plan, plan}
use Rattle.rpc_model.specs.Versions.{nodes, is_same, versions, offset_of, meaning_of}
use Rattle.rpc_model.specs.State.{State, waits, end_of, attempts}
use Rattle.rpc_model.specs.Machine.{machine}
use Rattle.rpc_model.specs.Marks.{Begun, weave}
use Rattle.model_laws.specs.Completions.{count_of}
use Rattle.model_laws.specs.Leaves.{EachLeaf}
use Rattle.model_laws.specs.Paths.{node_at}
use Rattle.model_laws.specs.Requests.{IsOf}
use Rattle.model_laws.specs.Sends.{sends_of, is_of}

module _ {M G : Type 0} (kinds : Kinds M G) where
  -- A call that has an end stays as it is, whatever comes to it.
  abbrev pub EndsStay : Type 0
  EndsStay = (plan : Plan M G) (call : ℕ) (request : List ℕ) (begun : ℕ) (events more : List (Event × ℕ)) (end : End)
      → end_of (machine kinds plan call request begun events).state ≡ Some end
      → (machine kinds plan call request begun (events ++ more)).state ≡ (machine kinds plan call request begun events).state

  -- A node that has an end stays as it is, with all that is below it, whatever comes.
  abbrev pub NodesStay : Type 0
  NodesStay = (path : List ℕ) (plan : Plan M G) (call : ℕ) (request : List ℕ) (begun : ℕ) (events more : List (Event × ℕ)) (node : State M G) (end : End)
      → end_of node ≡ Some end → node_at path (machine kinds plan call request begun events).state ≡ Some node
      → node_at path (machine kinds plan call request begun (events ++ more)).state ≡ Some node

  -- A leaf that was started has issued one attempt, and at most as many more as it may retry.
  abbrev pub LeavesIssueFew : Type 0
  LeavesIssueFew = (plan : Plan M G) (call : ℕ) (request : List ℕ) (begun : ℕ) (events : List (Event × ℕ))
      → EachLeaf (λ chan leaf. (1 ≤ leaf.issued) × (leaf.issued ≤ 1 + chan.retry)) (machine kinds plan call request begun events).state

  -- Each node has the channel that the plan has at its place, and the request that the mappers above it made of the
  -- call's; a parallel node has the limits that these mappers leave, and a selective node as many tries as the plan.
  abbrev pub NodesAreOfThePlan : Type 0
  NodesAreOfThePlan = (plan : Plan M G) (call : ℕ) (request : List ℕ) (begun : ℕ) (events : List (Event × ℕ)) → IsOf kinds request plan (machine kinds plan call request begun events).state

  -- What a call sent is, in some order, what its state shows: of each leaf that was started the first attempts, one for
  -- each that it issued, each to its own server and with the leaf's request.
  abbrev pub SendsAreOfTheState : Type 0
  SendsAreOfTheState = (test : Send → Bool) (plan : Plan M G) (call : ℕ) (request : List ℕ) (begun : ℕ) (events : List (Event × ℕ))
      → let run = machine kinds plan call request begun events in count_by test run.sends ≡ count_by test (sends_of call 0 run.state)

  -- A call sends as often as it issues attempts.
  abbrev pub SendsAreAttempts : Type 0
  SendsAreAttempts = (plan : Plan M G) (call : ℕ) (request : List ℕ) (begun : ℕ) (events : List (Event × ℕ))
      → let run = machine kinds plan call request begun events in length run.sends ≡ attempts run.state

  -- No attempt of a node is sent twice.
  abbrev pub NothingIsSentTwice : Type 0
  NothingIsSentTwice = (node attempt : ℕ) (plan : Plan M G) (call : ℕ) (request : List ℕ) (begun : ℕ) (events : List (Event × ℕ))
      → count_by (is_of node attempt) (machine kinds plan call request begun events).sends ≤ 1

module _ (M G : Type 0) where
  -- The plan of a selective channel has one try more than the channel may retry.
  abbrev pub TriesAreFew : Type 0
  TriesAreFew = (plan_of : ℕ → Option (Plan M G)) (call : ℕ) (sel : SelChan) (plan : Plan M G) → chan_plan plan_of call (Some (chan.Sel sel)) ≡ Some plan
      → (plans : Plans M G) × (plan ≡ sel_plan sel.timeout plans) × (count_of plans ≡ sel.retry + 1)

  -- A parallel node of a channel's plan has as many mappers and as many mergers as subs, and these are fewer than the
  -- plan's nodes.
  abbrev pub ParallelNodesAreEven : Type 0
  ParallelNodesAreEven = (chans : List (Chan M G)) (index call : ℕ) (p : Plan M G) (path : List ℕ) (rule : Rule M G) (plans : Plans M G)
      → plan chans index call ≡ Some p → node_at path (waits p) ≡ Some (waits (par_plan rule plans))
      → (length rule.maps ≡ count_of plans) × (length rule.merges ≡ count_of plans) × (count_of plans < nodes p)

  -- No two versions of a range are of the same, and offsets and meanings are inverse.
  abbrev pub OffsetsAndMeaningsAreInverse : Type 0
  OffsetsAndMeaningsAreInverse = (plan : Plan M G) → IsDistinct is_same (versions plan)
      × ((meaning : Meaning) (offset : ℕ) → offset_of plan meaning ≡ Some offset → meaning_of plan offset ≡ Some meaning)
      × ((meaning : Meaning) (offset : ℕ) → meaning_of plan offset ≡ Some meaning → offset_of plan meaning ≡ Some offset)

-- A call that takes its marks up to a moment, and then those up to a later one, is the call that took all of them at once.
abbrev pub WeavesJoin : Type 0
WeavesJoin = (r m : ℕ) (b : Begun) → r ≤ m → weave m (weave r b) ≡ weave m b
