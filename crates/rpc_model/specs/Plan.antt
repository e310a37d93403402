-- The plan of a call: the tree of its nodes, numbered in preorder from 0. brpc's documents on combination channels; how
-- a selective channel rotates, and which servers have a part, are this project's own choices.
use Rattle.std.specs.Prelude.{ℕ, zero, suc, ◌+◌, ◌%◌, ◌==◌, ◌&&◌, List, [], ◌∷◌, length, map, filter, Option, None, Some, slice_get, slice_index}
use Rattle.rpc_model.specs.declared.chan.LeafChan.{LeafChan}
use Rattle.rpc_model.specs.declared.chan.Chan.{Chan}
use Rattle.rpc_model.specs.declared.chan.Chan.TheVariants as chan
use Rattle.rpc_model.specs.declared.chan.ParChan.{ParChan}
use Rattle.rpc_model.specs.declared.chan.SelChan.{SelChan}
use Rattle.rpc_model.specs.declared.chan.PartChan.{PartChan}
use Rattle.rpc_model.specs.declared.chan.Sub.{Sub}
use Rattle.rpc_model.specs.declared.chan.Tag.{Tag}

-- what a parallel node asks of its subs and how it merges their answers, by index, and where it ends; 0 stands for the number of subs that are asked
pub record Rule (M G : Type 0) : Type 0 where
  pub maps : List M
  pub merges : List G
  pub fail : ℕ
  pub ok : ℕ
  pub timeout : Option ℕ

mutual
  pub data Plan (M G : Type 0) : Type 0 where
    leaf_plan : LeafChan → Plan M G
    par_plan : Rule M G → Plans M G → Plan M G
    sel_plan : Option ℕ → Plans M G → Plan M G

  pub data Plans (M G : Type 0) : Type 0 where
    last_plan : Plans M G
    plan_then : Plan M G → Plans M G → Plans M G

-- the servers that have a part: those whose tag names it and the channel's count, in the order given
abbrev pub servers_of : List Tag → ℕ → ℕ → List ℕ
servers_of tags parts part = map (λ (t : Tag). t.server) (filter (λ (t : Tag). t.part == part && t.of == parts) tags)

-- so many tries from this one on: try j is the sub number (call + j), counted round the subs
abbrev pub tries_from : List ℕ → ℕ → ℕ → ℕ → List ℕ
tries_from subs call j zero = []
tries_from subs call j (suc count) = slice_index subs ((call + j) % length subs) ∷ tries_from subs call (j + 1) count

abbrev pub tries : SelChan → ℕ → List ℕ
tries sel call = tries_from sel.subs call 0 (sel.retry + 1)

-- so many times the same
abbrev pub copies : {X : Type 0} → ℕ → X → List X
copies zero x = []
copies (suc count) x = x ∷ copies count x

module _ {M G : Type 0} where
  abbrev pub and_plan : Option (Plan M G) → Option (Plans M G) → Option (Plans M G)
  and_plan None rest = None
  and_plan (Some plan) None = None
  and_plan (Some plan) (Some plans) = Some (plan_then plan plans)

  -- the plans of the channels of these numbers
  abbrev pub plans_of : (ℕ → Option (Plan M G)) → List ℕ → Option (Plans M G)
  plans_of plan_of [] = Some last_plan
  plans_of plan_of (number ∷ numbers) = and_plan (plan_of number) (plans_of plan_of numbers)

  abbrev pub par_over : Rule M G → Option (Plans M G) → Option (Plan M G)
  par_over rule None = None
  par_over rule (Some plans) = Some (par_plan rule plans)

  abbrev pub sel_over : Option ℕ → Option (Plans M G) → Option (Plan M G)
  sel_over timeout None = None
  sel_over timeout (Some plans) = Some (sel_plan timeout plans)

  abbrev pub rule_of : ParChan M G → Rule M G
  rule_of par = record {
    maps = map (λ (s : Sub M G). s.map) par.subs;
    merges = map (λ (s : Sub M G). s.merge) par.subs;
    fail = par.fail;
    ok = par.ok;
    timeout = par.timeout;
  }

  abbrev pub subs_of : ParChan M G → List ℕ
  subs_of par = map (λ (s : Sub M G). s.chan) par.subs

  abbrev pub part_rule : PartChan M G → Rule M G
  part_rule part = record {
    maps = copies part.parts part.map;
    merges = copies part.parts part.merge;
    fail = part.fail;
    ok = part.ok;
    timeout = part.timeout;
  }

  abbrev pub part_leaf : PartChan M G → ℕ → LeafChan
  part_leaf chan part = record { servers = servers_of chan.tags chan.parts part; retry = chan.retry; backup = chan.backup; timeout = None }

  -- the leaves of so many parts from this one on
  abbrev pub part_plans : PartChan M G → ℕ → ℕ → Plans M G
  part_plans chan part zero = last_plan
  part_plans chan part (suc count) = plan_then (leaf_plan (part_leaf chan part)) (part_plans chan (part + 1) count)

  -- the plan of a channel, where the channels below it have these
  abbrev pub chan_plan : (ℕ → Option (Plan M G)) → ℕ → Option (Chan M G) → Option (Plan M G)
  chan_plan plan_of call None = None
  chan_plan plan_of call (Some (chan.Leaf leaf)) = Some (leaf_plan leaf)
  chan_plan plan_of call (Some (chan.Par par)) = par_over (rule_of par) (plans_of plan_of (subs_of par))
  chan_plan plan_of call (Some (chan.Sel sel)) = sel_over sel.timeout (plans_of plan_of (tries sel call))
  chan_plan plan_of call (Some (chan.Part part)) = Some (par_plan (part_rule part) (part_plans part 0 part.parts))

  -- channels nest less deep than this
  abbrev pub plan_within : ℕ → List (Chan M G) → ℕ → ℕ → Option (Plan M G)
  plan_within zero chans call number = None
  plan_within (suc depth) chans call number = chan_plan (plan_within depth chans call) call (slice_get chans number)

  -- The plan of the channel of this number in a list of channels, for a call of this number. A channel names only smaller numbers than its own, so channels nest no deeper than the number tells.
  abbrev pub plan : List (Chan M G) → ℕ → ℕ → Option (Plan M G)
  plan chans number call = plan_within (suc number) chans call number
