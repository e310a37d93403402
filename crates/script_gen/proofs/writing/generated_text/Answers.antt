-- The settings, one call after the other, and the end.
use Rattle.std.proofs.Common.{rules, ◌≡◌, ◌∙◌, ◌++◌, ◌+◌, ◌-◌, suc, string_bytes, arith, sym, ap, List, ℕ, append_assoc}
use Rattle.std.proofs.lemmas.List.{append-nil}
use Rattle.script_gen.specs.Generator.{call_lines, lines_from, next_draw}
use Rattle.script_gen.proofs.Texts.{settings_first, lines_more, lines_none}
use Rattle.script_gen.proofs.writing.generated_text.Goals as goal

pub loop-before-init : goal.loop-before-init
loop-before-init c =
    let all : c.args.count - 0 ≡ c.args.count = omega arith in
    record {
      small = search rules;
      so_far = ap (λ (l : List ℕ). l ++ lines_from c.from-draw.result 1 (c.args.count - 0)) c.in_ok-text.ensures.ok ∙ rw (c.from-draw.ensures, all) (settings_first c.args.count);
    }

pub loop-before-preserved : goal.loop-before-preserved
loop-before-preserved c =
    let n : c.args.count - c.loop-before.before ≡ suc (c.args.count - (c.loop-before.before + 1)) = omega arith in
    let more = lines_more c.loop-before.draw (c.loop-before.before + 1) (c.args.count - c.loop-before.before) (c.args.count - (c.loop-before.before + 1)) n in
    let put : string_bytes c.put_lines.new.text ≡ string_bytes c.loop-before.text ++ call_lines (next_draw c.loop-before.draw) (c.loop-before.before + 1) = search rules in
    record {
      small = search rules;
      so_far = rw (c.next_draw-draw.ensures, put, append_assoc, ← more) c.loop-before.invariant.so_far;
    }

pub returns : goal.returns
returns c =
    let n : c.args.count - c.loop-before.before ≡ 0 = omega arith in
    let none = lines_none c.loop-before.draw (c.loop-before.before + 1) (c.args.count - c.loop-before.before) n in
    sym (append-nil (string_bytes c.loop-before.text)) ∙ (ap (λ (l : List ℕ). string_bytes c.loop-before.text ++ l) (sym none) ∙ c.loop-before.invariant.so_far)
