-- What the standard library reads is the count.
use Rattle.std.proofs.Common.{◌≡◌, ◌∙◌, ℕ, true, sym, rules}
use Rattle.brpc_top.specs.Words.{is_started}
use Rattle.brpc_top.proofs.Counted.{read-count, unread-count, within-limit, past-limit}
use Rattle.brpc_top.proofs.command.count_of.Goals as goal

pub returns-in_default : goal.returns-in_default
returns-in_default c =
    let started : is_started c.args.word.now ≡ true = search rules in
    sym (unread-count _ c.args.word.now c.in_default.field-0 started c.in_default.ensures.value.0)

pub returns-then-count-le-CALL_LIMIT : goal.returns-then-count-le-CALL_LIMIT
returns-then-count-le-CALL_LIMIT c =
    let started : is_started c.args.word.now ≡ true = search rules in
    sym (read-count ℕ c.args.word.now c.in-Ok.count started c.in-Ok.ensures.value.0 ∙ within-limit c.in-Ok.count c.if-count-le-CALL_LIMIT.true)

pub returns-else-count-le-CALL_LIMIT : goal.returns-else-count-le-CALL_LIMIT
returns-else-count-le-CALL_LIMIT c =
    let started : is_started c.args.word.now ≡ true = search rules in
    sym (read-count ℕ c.args.word.now c.in-Ok.count started c.in-Ok.ensures.value.0 ∙ past-limit c.in-Ok.count c.if-count-le-CALL_LIMIT.false)
