-- The plans before this one have no such leaf.
use Rattle.std.proofs.Common.{◌≡◌, ◌+◌, ◌*◌, ◌-◌, ◌%◌, ◌≤◌, length, drop}
use Rattle.rpc_model.specs.Plan.{tries, tries_from}
use Rattle.chan_tree.specs.Measures.{numbers_of}
use Rattle.chan_tree.specs.Sizes.{node_behind, retry_among}
use Rattle.chan_tree.proofs.walking.+retry.Given as goal

abbrev pub decreases-retry_at : goal.decreases-retry_at
decreases-retry_at g l = 2 * l.number + 1

abbrev pub decreases-retry_among_subs : goal.decreases-retry_among_subs
decreases-retry_among_subs g l = 2 * l.number

abbrev pub decreases-retry_among_tries : goal.decreases-retry_among_tries
decreases-retry_among_tries g l = 2 * l.number

abbrev pub invariant-retry_among_subs-loop-sub : goal.invariant-retry_among_subs-loop-sub
invariant-retry_among_subs-loop-sub g l = record {
  place : node_behind l.chans (numbers_of (drop l.sub-index l.subs)) l.call l.next ≡ node_behind l.chans (numbers_of l.subs) l.call l.fn.node;
  none : retry_among l.chans (numbers_of (drop l.sub-index l.subs)) l.call l.next l.wanted ≡ retry_among l.chans (numbers_of l.subs) l.call l.fn.node l.wanted;
}

abbrev pub invariant-retry_among_tries-loop-at : goal.invariant-retry_among_tries-loop-at
invariant-retry_among_tries-loop-at g l = record {
  place : node_behind l.chans (tries_from l.sel.subs l.call l.at (l.count - l.at)) l.call l.next ≡ node_behind l.chans (tries l.sel l.call) l.call l.fn.node;
  none : retry_among l.chans (tries_from l.sel.subs l.call l.at (l.count - l.at)) l.call l.next l.wanted ≡ retry_among l.chans (tries l.sel l.call) l.call l.fn.node l.wanted;
  within : l.at ≤ l.count;
  count : l.count ≡ l.sel.retry + 1;
  subs : l.subs ≡ l.sel.subs;
  turn : l.place ≡ (l.call + l.at) % length l.sel.subs;
}

abbrev pub decreases-retry_among_tries-loop-at : goal.decreases-retry_among_tries-loop-at
decreases-retry_among_tries-loop-at g l = l.count - l.at
