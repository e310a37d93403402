-- One more wire was written.
use Rattle.std.proofs.Common.{refl, string_bytes}
use Rattle.rpc_model.specs.Texts.{one_wire, wire_lines}
use Rattle.journal_text.proofs.Lists.{block_next}
use Rattle.journal_text.proofs.writing.put_wires.Goals as goal

pub loop-server-preserved : goal.loop-server-preserved
loop-server-preserved c =
    block_next wire_lines one_wire (λ n x xs. refl) (string_bytes c.loop-server.text) (string_bytes c.put_one_wire.new.text) _ c.args.wires.now c.loop-server.server c.index-wires-server.result
    c.loop-server-test.true c.index-wires-server.is c.in_ok-put_one_wire.ensures c.loop-server.invariant
