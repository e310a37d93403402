-- The counts of a parallel node: this project's own choice.
use Rattle.std.specs.Prelude.{◌≡◌, ◌+◌, ◌<◌, List, Option, None, Some}
use Rattle.rpc_model.specs.declared.event.End.{End}
use Rattle.rpc_model.specs.declared.event.End.TheVariants as end
use Rattle.rpc_model.specs.Parallel.{Limits, goods, bads}
use Rattle.call_tree.specs.declared.counts.Counts.{Counts}

abbrev pub limits_of : Counts → Limits
limits_of c = record { count = c.count; fail = c.fail; ok = c.ok }

-- a node without an end has fewer failures and successes than end it
abbrev pub IsOpen : Counts → Option End → Type 0
IsOpen c None = (c.bads < c.fail) × (c.goods < c.ok) × (c.goods + c.bads < c.count)
IsOpen c (Some end) = Unit {0}

-- one more end of a sub
abbrev pub with_end : Counts → End → Counts
with_end c (end.Good text) = record c { goods = c.goods + 1 }
with_end c (end.Bad code) = record c { bads = c.bads + 1 }

-- the counts after this end of a sub, or none
abbrev pub with_some : Counts → Option End → Counts
with_some c None = c
with_some c (Some end) = with_end c end

-- the counts are those of the ends
pub record AreCounts (c : Counts) (ends : List (Option End)) : Type 0 where
  pub goods_are : c.goods ≡ goods ends
  pub bads_are : c.bads ≡ bads ends
