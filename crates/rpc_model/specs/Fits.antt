-- The bounds that hold of every accepted script, over all channels. They follow from the limits of its lines.
use Rattle.std.specs.Prelude.{◌≡◌, ℕ, suc, ◌<◌, ◌≤◌, nat_eq, List, [], ◌∷◌, length, All, Option, None, Some}
use Rattle.std.specs.List.{IsDistinct}
use Rattle.rpc_model.specs.declared.script.Act.{Act}
use Rattle.rpc_model.specs.declared.script.Act.TheVariants.{Call, Cancel, Reply, Lose, Tick, Join}
use Rattle.rpc_model.specs.Limits.{IsMoment, IsAct, IsWait, IsLeaf, IsServe, called}
use Rattle.rpc_model.specs.declared.kinds.MapKind.{MapKind}
use Rattle.rpc_model.specs.declared.kinds.MergeKind.{MergeKind}
use Rattle.rpc_model.specs.declared.chan.Chan.{Chan}
use Rattle.rpc_model.specs.declared.chan.Chan.TheVariants as chan
use Rattle.rpc_model.specs.declared.chan.ParChan.{ParChan}
use Rattle.rpc_model.specs.declared.chan.SelChan.{SelChan}
use Rattle.rpc_model.specs.declared.chan.PartChan.{PartChan}
use Rattle.rpc_model.specs.declared.chan.Sub.{Sub}
use Rattle.rpc_model.specs.declared.chan.Tag.{Tag}
use Rattle.rpc_model.specs.Plan.{Plan, plan}
use Rattle.rpc_model.specs.Versions.{width}
use Rattle.rpc_model.specs.Faults.{depth, missing_from}
use Rattle.rpc_model.specs.declared.script.Script.{Script}

module _ {M G : Type 0} where
  -- a parallel channel with some subs, each an earlier channel
  pub record IsPar (number : ℕ) (par : ParChan M G) : Type 0 where
    pub some_sub : 1 ≤ length par.subs
    pub few_subs : length par.subs ≤ 1000
    pub earlier_subs : All (λ (sub : Sub M G). sub.chan < number) par.subs
    pub fail : par.fail ≤ 1000
    pub ok : par.ok ≤ 1000
    pub timeout : IsWait par.timeout

  -- a partition channel over some of so many servers, each part of which has one
  pub record IsPart (servers : ℕ) (part : PartChan M G) : Type 0 where
    pub some_part : 1 ≤ part.parts
    pub few_parts : part.parts ≤ 100
    pub few_tags : length part.tags ≤ 1000
    pub known_servers : All (λ (tag : Tag). (tag.server < servers) × (tag.part < tag.of) × (tag.of ≤ 1000)) part.tags
    pub no_part_missing : missing_from part 0 part.parts ≡ None
    pub few_retries : part.retry ≤ 100
    pub fail : part.fail ≤ 1000
    pub ok : part.ok ≤ 1000
    pub backup : IsWait part.backup
    pub timeout : IsWait part.timeout

-- a selective channel with some subs, each an earlier channel
pub record IsSel (number : ℕ) (sel : SelChan) : Type 0 where
  pub some_sub : 1 ≤ length sel.subs
  pub few_subs : length sel.subs ≤ 1000
  pub earlier_subs : All (λ sub. sub < number) sel.subs
  pub few_retries : sel.retry ≤ 100
  pub timeout : IsWait sel.timeout

module _ {M G : Type 0} where
  -- the channel of this number, over so many servers
  abbrev pub IsChan : ℕ → ℕ → Chan M G → Type 0
  IsChan servers number (chan.Leaf leaf) = IsLeaf servers leaf
  IsChan servers number (chan.Par par) = IsPar number par
  IsChan servers number (chan.Sel sel) = IsSel number sel
  IsChan servers number (chan.Part part) = IsPart servers part

  -- the channels from this number on
  abbrev pub AreChans : ℕ → ℕ → List (Chan M G) → Type 0
  AreChans servers number [] = Unit {0}
  AreChans servers number (c ∷ chans) = IsChan servers number c × AreChans servers (suc number) chans

  abbrev pub IsNarrow : Option (Plan M G) → Type 0
  IsNarrow None = Unit {0}
  IsNarrow (Some plan) = width plan ≤ 1024

-- the plan of a call that begins is narrow enough for a range of ids
abbrev pub BeginsNarrow : List (Chan MapKind MergeKind) → Act → Type 0
BeginsNarrow chans (Call at call chan text) = IsNarrow (plan chans chan call)
BeginsNarrow chans (Cancel at call) = Unit {0}
BeginsNarrow chans (Reply at call node attempt code text) = Unit {0}
BeginsNarrow chans (Lose at call node attempt code) = Unit {0}
BeginsNarrow chans (Tick at) = Unit {0}
BeginsNarrow chans (Join call) = Unit {0}

pub record Fits (script : Script) : Type 0 where
  pub moments : All IsMoment script.acts
  pub acts : All (IsAct (length script.chans)) script.acts
  pub calls_differ : IsDistinct nat_eq (called script.acts)
  pub channels : AreChans script.servers 0 script.chans
  pub serves : All (IsServe script.servers) script.serves
  pub depths : (number : ℕ) → number < length script.chans → depth script.chans number ≤ 8
  pub widths : All (BeginsNarrow script.chans) script.acts
  pub lines : length script.acts ≤ 500000
  pub some_slot : 1 ≤ script.slots
  pub few_slots : script.slots ≤ 4096
  pub few_servers : script.servers ≤ 16
