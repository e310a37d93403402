use Rattle.std.proofs.Common.{ap, sym, ◌∙◌}
use Rattle.chan_tree.specs.Shown.{rule_of}
use Rattle.rpc_model.specs.Parallel.{goods, bads}
use Rattle.rpc_model.specs.State.{ends_of}
use Rattle.call_tree.specs.Places.{firsts}
use Rattle.call_tree.specs.Shown.{states_of}
use Rattle.call_tree.proofs.Subs.{begun-open}
use Rattle.call_tree.proofs.starting.begun.Goals as goal

pub returns-clause-sound : goal.returns-clause-sound
returns-clause-sound g c = record {
  open_ = begun-open (rule_of c.args.rule.now) c.args.asked.now c.counts_of.result c.refusal.result c.counts_of.ensures.limits c.counts_of.ensures.goods c.counts_of.ensures.bads c.refusal.ensures;
  goods = c.counts_of.ensures.goods ∙ sym (ap (λ ss. goods (ends_of (states_of ss))) c.in_ok-with_capacity-2.ensures.items);
  bads = c.counts_of.ensures.bads ∙ sym (ap (λ ss. bads (ends_of (states_of ss))) c.in_ok-with_capacity-2.ensures.items);
  places = c.in_ok-with_capacity.ensures.items ∙ sym (ap (λ ss. firsts 1 (states_of ss)) c.in_ok-with_capacity-2.ensures.items);
}
