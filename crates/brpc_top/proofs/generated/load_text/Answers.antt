-- The line sums up what the replay told.
use Rattle.std.proofs.Common.{◌≡◌, ◌∙◌, ap, rules, List}
use Rattle.std.proofs.lemmas.Result.{IfOk-weaker}
use Rattle.rpc_model.specs.declared.told.Told.{Told}
use Rattle.rpc_model.specs.Told.{told}
use Rattle.brpc_top.specs.Summary.{summary}
use Rattle.brpc_top.proofs.generated.load_text.Goals as goal

pub returns : goal.returns
returns c =
    let told_all : c.replay.new.told.items ≡ told c.in_ok-script.script = search rules in
    let all : c.deref.result.now ≡ told c.in_ok-script.script = c.deref.ensures.value ∙ told_all in
    IfOk-weaker c.summary_of.result _ _ (λ text e. (c.in_ok-script.script, c.in_ok-script.ensures.script, e ∙ ap (λ (lines : List Told). summary c.args.count lines) all)) c.summary_of.ensures
