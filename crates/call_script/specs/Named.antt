-- What the code's tags stand for. This project's own choice.
use Rattle.std.specs.Prelude.{ℕ, zero, suc, ◌+◌, ◌<◌, ◌≤◌, Bool, true, false, ◌==◌, ◌&&◌, ◌||◌, List, [], ◌∷◌, map}
use Rattle.rpc_model.specs.declared.chan.PartChan.{PartChan}
use Rattle.rpc_model.specs.declared.kinds.MapKind.{MapKind}
use Rattle.rpc_model.specs.declared.kinds.MergeKind.{MergeKind}
use Rattle.rpc_model.specs.Limits.{IsWait}
use Rattle.rpc_model.specs.ChannelWords.{NamedTag}
use Rattle.call_script.specs.declared.channel_words.NamedTag.{NamedTag as CodeTag}

abbrev pub named_of : CodeTag → NamedTag
named_of t = record { name = t.name.now; part = t.part; of = t.of }

abbrev pub named_all : List CodeTag → List NamedTag
named_all tags = map named_of tags

-- a tag that a word can spell
abbrev pub IsTag : CodeTag → Type 0
IsTag t = (t.part < t.of) × (t.of ≤ 1000)

-- one of them names this part of so many
abbrev pub has_tag : List NamedTag → ℕ → ℕ → Bool
has_tag [] parts part = false
has_tag (t ∷ tags) parts part = (t.part == part && t.of == parts) || has_tag tags parts part

-- each of so many parts from this one on has a tag
abbrev pub lacks_none : List NamedTag → ℕ → ℕ → ℕ → Bool
lacks_none tags part zero parts = true
lacks_none tags part (suc count) parts = has_tag tags parts part && lacks_none tags (part + 1) count parts

-- what the options of a partition channel's line are
pub record IsBarePart (part : PartChan MapKind MergeKind) : Type 0 where
  pub some_part : 1 ≤ part.parts
  pub few_parts : part.parts ≤ 100
  pub few_retries : part.retry ≤ 100
  pub fail : part.fail ≤ 1000
  pub ok : part.ok ≤ 1000
  pub backup : IsWait part.backup
  pub timeout : IsWait part.timeout
