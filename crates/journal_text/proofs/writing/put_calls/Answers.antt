-- One more call was written.
use Rattle.std.proofs.Common.{refl, string_bytes}
use Rattle.std.specs.List.{flat_map}
use Rattle.rpc_model.specs.Texts.{call_lines}
use Rattle.journal_text.proofs.Lists.{block_next}
use Rattle.journal_text.proofs.writing.put_calls.Goals as goal

pub loop-item-preserved : goal.loop-item-preserved
loop-item-preserved c =
    block_next (λ _ calls. flat_map call_lines calls) (λ _ call. call_lines call) (λ n x xs. refl) (string_bytes c.loop-item.text) (string_bytes c.put_one_call.new.text) _ c.args.calls.now
    c.loop-item.item-index c.item-item.result
    c.loop-item-test.true c.item-item.is c.in_ok-put_one_call.ensures c.loop-item.invariant
