-- One more lane was written.
use Rattle.std.proofs.Common.{refl, string_bytes}
use Rattle.rpc_model.specs.Texts.{one_lane, lane_lines}
use Rattle.journal_text.proofs.Lists.{block_next}
use Rattle.journal_text.proofs.writing.put_lanes.Goals as goal

pub loop-number-preserved : goal.loop-number-preserved
loop-number-preserved c =
    block_next lane_lines one_lane (λ n x xs. refl) (string_bytes c.loop-number.text) (string_bytes c.put_one_lane.new.text) _ c.args.lanes.now c.loop-number.number c.index-lanes-number.result
    c.loop-number-test.true c.index-lanes-number.is c.in_ok-put_one_lane.ensures c.loop-number.invariant
