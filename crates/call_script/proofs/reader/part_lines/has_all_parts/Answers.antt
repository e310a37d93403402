-- One more part has a tag.
use Rattle.std.proofs.Common.{rules, arith, ◌≡◌, true, ◌+◌, ◌-◌, ◌&&◌, [], ap, sym, ◌∙◌}
use Rattle.call_script.specs.Named.{named_all, has_tag, lacks_none}
use Rattle.call_script.proofs.Parts.{part_next}
use Rattle.call_script.proofs.reader.part_lines.has_all_parts.Goals as goal

pub loop-part-preserved : goal.loop-part-preserved
loop-part-preserved c =
    let named = named_all c.args.named.now in
    let part = c.loop-part.part in
    let parts = c.args.parts in
    let test = c.loop-part-test.true in
    let there : has_tag named parts part ≡ true = search rules in
    record {
      so_far = sym (part_next [] named parts part parts test ∙ ap (λ b. b && lacks_none named (part + 1) (parts - (part + 1)) parts) there) ∙ c.loop-part.invariant.so_far;
      within = omega (arith, test);
    }
