-- The limits that what a reader keeps stays within, and how its parts go together. The limits are those of the script grammar.
use Rattle.std.specs.Prelude.{◌≡◌, ℕ, ◌<◌, ◌≤◌, nat_eq, List, All, length, Option, None, Some}
use Rattle.std.specs.List.{IsDistinct}
use Rattle.rpc_model.specs.declared.chan.Chan.{Chan}
use Rattle.rpc_model.specs.declared.kinds.MapKind.{MapKind}
use Rattle.rpc_model.specs.declared.kinds.MergeKind.{MergeKind}
use Rattle.rpc_model.specs.declared.script.Serve.{Serve}
use Rattle.rpc_model.specs.declared.script.Act.{Act}
use Rattle.rpc_model.specs.declared.limits.TheConstants.{CHANNEL_LIMIT, SERVER_LIMIT, SIM_CALL_LIMIT, EVENT_LIMIT, SIM_WEIGHT_LIMIT, SLOT_LIMIT, DEPTH_LIMIT}
use Rattle.rpc_model.specs.Before.{calls_of, event_count, total_weight}
use Rattle.rpc_model.specs.Limits.{IsMoment, IsAct, IsServe, called}
use Rattle.rpc_model.specs.Faults.{depth}
use Rattle.rpc_model.specs.Fits.{AreChans, BeginsNarrow}

-- so many calls may be open, where a line says how many
abbrev pub AreSlots : Option ℕ → Type 0
AreSlots None = Unit {0}
AreSlots (Some slots) = (1 ≤ slots) × (slots ≤ SLOT_LIMIT)

pub record IsWithin (slots : Option ℕ) (names servers : List (List ℕ)) (chans : List (Chan MapKind MergeKind)) (serves : List Serve)
    (acts : List Act) (calls : List (ℕ × ℕ)) (events weight : ℕ) : Type 0 where
  pub few_slots : AreSlots slots
  pub few_channels : length names ≤ CHANNEL_LIMIT
  pub named : length names ≤ length chans
  pub few_servers : length servers ≤ SERVER_LIMIT
  pub few_calls : length calls ≤ SIM_CALL_LIMIT
  pub few_events : events ≤ EVENT_LIMIT
  pub light : weight ≤ SIM_WEIGHT_LIMIT
  -- what is looked up and counted follows from the lines
  pub known : calls ≡ calls_of acts
  pub counted : events ≡ event_count acts
  pub weighed : weight ≡ total_weight chans acts
  pub moments : All IsMoment acts
  pub fit : All (IsAct (length chans)) acts
  pub calls_differ : IsDistinct nat_eq (called acts)
  pub channels : AreChans (length servers) 0 chans
  pub shallow : (n : ℕ) → n < length chans → depth chans n ≤ DEPTH_LIMIT
  pub narrow : All (BeginsNarrow chans) acts
  pub serves_fit : All (IsServe (length servers)) serves
