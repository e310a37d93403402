-- The tags before this one don't name the part.
use Rattle.std.proofs.Common.{◌≡◌, drop}
use Rattle.call_script.specs.Named.{named_all, has_tag}
use Rattle.call_script.proofs.reader.part_lines.has_part.Given as goal

abbrev pub invariant-loop-tag : goal.invariant-loop-tag
invariant-loop-tag l = record { so_far : has_tag (named_all (drop l.tag-index l.named)) l.parts l.part ≡ has_tag (named_all l.named) l.parts l.part }
