-- The tries that started, and what goes out, so far and from here on.
use Rattle.std.proofs.Common.{◌≡◌, ◌+◌, ◌++◌, drop, length}
use Rattle.rpc_model.specs.State.{size_of}
use Rattle.rpc_model.specs.Machine.{start_waiting}
use Rattle.call_tree.specs.Brought.{started_tries}
use Rattle.call_tree.specs.Running.{kinds_of}
use Rattle.call_tree.specs.Shown.{states_of}
use Rattle.call_tree.proofs.following.next_tries.Given as goal

abbrev pub invariant-loop-kid : goal.invariant-loop-kid
invariant-loop-kid g l =
    let kinds = kinds_of g.M.Mapper.answer g.G.Merger.answer in
    let all = start_waiting kinds l.first (states_of l.kids) l.call l.request l.moment in
    let rest = start_waiting kinds l.number (states_of (drop l.kid-index l.kids)) l.call l.request l.moment in
    record {
      number : l.number + size_of (states_of (drop l.kid-index l.kids)) ≡ l.first + size_of (states_of l.kids);
      count : l.left + l.kid-index ≡ length l.kids;
      end : rest.end ≡ all.end;
      started : l.started.items ++ started_tries kinds l.number (states_of (drop l.kid-index l.kids)) l.call l.request l.moment ≡ started_tries kinds l.first (states_of l.kids) l.call
          l.request l.moment;
      sends : l.out.sends.items ++ rest.sends ≡ l.initial.out.sends.items ++ all.sends;
      marks : l.out.marks.items ++ rest.marks ≡ l.initial.out.marks.items ++ all.marks;
    }
