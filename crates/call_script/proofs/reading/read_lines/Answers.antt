-- One more line is judged, and what stands behind it is left.
use Rattle.std.proofs.Common.{ℕ, ◌+◌, List, length, map, take, sym, subst, ap, ◌∙◌, arith, length-drop}
use Rattle.std.specs.Prelude.{IfSome}
use Rattle.rpc_model.specs.Script.{lines_say}
use Rattle.call_script.specs.Spelled.{AreFewWords}
use Rattle.call_script.proofs.Said.{line_taken, line_short, lines_from, lines_none, said-accepted, said-fault}
use Rattle.call_script.proofs.reading.read_lines.Goals as goal

pub split_at-requires : goal.split_at-requires
split_at-requires c = omega (arith, c.line_length.ensures, line_short c.lines.rest.now)

pub line_says-requires-clause-words : goal.line_says-requires-clause-words
line_says-requires-clause-words c =
    let line = line_taken c.lines.rest.now c.split_at.result.0.now c.line_length.result c.split_at.ensures.front c.line_length.ensures in
    subst (λ z. IfSome c.few_words-found.result (λ found. AreFewWords z (map (λ w. w.now) (take found.count c.few_words-found.new.few)))) (sym line) c.few_words-found.ensures.words

pub returns-in-Err : goal.returns-in-Err
returns-in-Err c =
    let line = line_taken c.lines.rest.now c.split_at.result.0.now c.line_length.result c.split_at.ensures.front c.line_length.ensures in
    rw (c.fault_at.ensures, ← c.lines.invariant.said)
    (said-fault c.lines.number c.lines.reader c.line_says.new.self c.in-Err.fault c.lines.rest.now c.split_at.result.0.now line c.in-Err.ensures)

pub returns-in_default-split_first : goal.returns-in_default-split_first
returns-in_default-split_first c =
    let line = line_taken c.lines.rest.now c.split_at.result.0.now c.line_length.result c.split_at.ensures.front c.line_length.ensures in
    sym c.lines.invariant.said
    ∙ said-accepted c.lines.number c.lines.reader c.line_says.new.self c.lines.rest.now c.split_at.result.0.now c.split_at.result.1.now c.line_length.result line
    c.split_at.ensures.back c.line_length.ensures c.in_default.ensures
    ∙ ap (lines_say (c.lines.number + 1) c.line_says.new.self) (lines_none c.split_at.result.1.now c.in_default-split_first.ensures.cases)

pub lines-preserved : goal.lines-preserved
lines-preserved c =
    let line = line_taken c.lines.rest.now c.split_at.result.0.now c.line_length.result c.split_at.ensures.front c.line_length.ensures in
    let more = c.in-Some.ensures.cases in
    let back = c.split_at.ensures.back in
    record {
      said = sym (said-accepted c.lines.number c.lines.reader c.line_says.new.self c.lines.rest.now c.split_at.result.0.now c.split_at.result.1.now c.line_length.result line
          back c.line_length.ensures c.in_default.ensures
          ∙ ap (λ (bytes : List ℕ). lines_say (c.lines.number + 1) c.line_says.new.self (lines_from bytes)) more.0) ∙ c.lines.invariant.said;
      counted = omega (arith, more.1, ap length back, length-drop c.line_length.result c.lines.rest.now, c.lines.invariant.counted);
    }
