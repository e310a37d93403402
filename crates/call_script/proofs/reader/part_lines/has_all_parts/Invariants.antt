-- The parts before this one have tags.
use Rattle.std.proofs.Common.{◌≡◌, ◌-◌, ◌≤◌}
use Rattle.call_script.specs.Named.{named_all, lacks_none}
use Rattle.call_script.proofs.reader.part_lines.has_all_parts.Given as goal

abbrev pub invariant-loop-part : goal.invariant-loop-part
invariant-loop-part l = record { so_far : lacks_none (named_all l.named) l.part (l.parts - l.part) l.parts ≡ lacks_none (named_all l.named) 0 l.parts l.parts; within : l.part ≤ l.parts }

abbrev pub decreases-loop-part : goal.decreases-loop-part
decreases-loop-part l = l.parts - l.part
