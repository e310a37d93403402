-- One more direction is read, or the first bad one is found.
use Rattle.std.proofs.Common.{ℕ, List, [], Bor, sym, ◌∙◌}
use Rattle.std.proofs.lemmas.List.Elements.{All-push}
use Rattle.rpc_model.specs.Limits.{IsSpelled}
use Rattle.rpc_model.specs.Words.{direction_word}
use Rattle.call_script.proofs.Each.{each-next}
use Rattle.call_script.proofs.reader.setting_lines.direction_words.Goals as goal

pub loop-word-preserved : goal.loop-word-preserved
loop-word-preserved c =
    let none : Bor (List ℕ) = record { ref_ptr = (0, 0); now = [] } in
    rw c.in_ok-push.ensures.items (record {
      rest = sym (each-next direction_word c.loop-word.directions.items c.args.words.now c.loop-word.word-index none c.in_ok-direction.direction c.loop-word-test.true
          (sym c.in_ok-direction.ensures.value)) ∙ c.loop-word.invariant.rest;
      spelled = All-push IsSpelled c.loop-word.directions.items c.in_ok-direction.direction c.loop-word.invariant.spelled c.in_ok-direction.ensures.bound;
    })
