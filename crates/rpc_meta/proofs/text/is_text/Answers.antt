use Rattle.std.proofs.Common.{◌≡◌, ◌∙◌}
use Rattle.rpc_meta.proofs.Names.{text_test, text_meaning}
use Rattle.rpc_meta.proofs.text.is_text.Goals as goal

pub returns-clause-test : goal.returns-clause-test
returns-clause-test c = c.is_ok.ensures.value ∙ text_test c.args.bytes.now (λ s. s.now ≡ c.args.bytes.now) _ c.from_utf8.result c.from_utf8.ensures.cases

pub returns-clause-meaning : goal.returns-clause-meaning
returns-clause-meaning c =
    text_meaning c.args.bytes.now c.is_ok.result (c.is_ok.ensures.value ∙ text_test c.args.bytes.now (λ s. s.now ≡ c.args.bytes.now) _ c.from_utf8.result c.from_utf8.ensures.cases)
