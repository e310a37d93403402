-- One more word is read, or the last one.
use Rattle.std.proofs.Common.{length, arith, sym, ◌∙◌}
use Rattle.std.proofs.lemmas.List.{take_all}
use Rattle.call_script.proofs.FewWords.{plain_ahead, plain_all, some_bytes, line_to_newline, line_to_end, next_read, words_read, length_read, length_whole}
use Rattle.call_script.proofs.cut.few_words.Goals as goal

pub loop-at-preserved : goal.loop-at-preserved
loop-at-preserved c =
    next_read c.args.text.now c.loop-at.few c.loop-at.count c.loop-at.rest.now c.in-Some.at c.split_at.result.0 c.split_at.result.1.now c.loop-at.invariant
    (sym c.special_byte.ensures.value ∙ c.in-Some.is) c.split_at.ensures.front c.split_at.ensures.back (omega arith) c.if-behind-ne32.false
    (omega (arith, c.loop-at.invariant.read.many))

pub returns-then-behind-eq10-clause-words : goal.returns-then-behind-eq10-clause-words
returns-then-behind-eq10-clause-words c =
    let p = plain_ahead c.loop-at.rest.now c.in-Some.at (sym c.special_byte.ensures.value ∙ c.in-Some.is) in
    words_read c.args.text.now c.loop-at.few c.loop-at.count c.loop-at.rest.now c.in-Some.at c.split_at.result.0 c.loop-at.invariant (omega (arith, p.0)) p.1
    (line_to_newline c.loop-at.rest.now c.in-Some.at c.split_at.result.1.now p.0 p.1 c.split_at.ensures.back c.if-behind-eq10.true) c.split_at.ensures.front
    (omega arith) (sym c.starts_with.ensures.value ∙ c.if-starts_with.false) (omega (arith, c.loop-at.invariant.read.many))

pub returns-then-behind-eq10-clause-length : goal.returns-then-behind-eq10-clause-length
returns-then-behind-eq10-clause-length c =
    let p = plain_ahead c.loop-at.rest.now c.in-Some.at (sym c.special_byte.ensures.value ∙ c.in-Some.is) in
    length_read c.args.text.now c.loop-at.few c.loop-at.count c.loop-at.rest.now c.in-Some.at c.split_at.result.1.now c.loop-at.invariant (omega (arith, p.0))
    (line_to_newline c.loop-at.rest.now c.in-Some.at c.split_at.result.1.now p.0 p.1 c.split_at.ensures.back c.if-behind-eq10.true) c.split_at.ensures.back

pub returns-clause-words : goal.returns-clause-words
returns-clause-words c =
    let plain = plain_all c.loop-at.rest.now (sym c.special_byte.ensures.value ∙ c.in_default.is) in
    words_read c.args.text.now c.loop-at.few c.loop-at.count c.loop-at.rest.now (length c.loop-at.rest.now) c.loop-at.rest c.loop-at.invariant (omega arith) plain
    (line_to_end c.loop-at.rest.now plain) (sym (take_all (length c.loop-at.rest.now) c.loop-at.rest.now (omega arith)))
    (some_bytes c.loop-at.rest.now (sym c.is_empty.ensures ∙ c.if-is_empty.false)) (sym c.starts_with.ensures.value ∙ c.if-starts_with.false)
    (omega (arith, c.loop-at.invariant.read.many))

pub returns-clause-length : goal.returns-clause-length
returns-clause-length c =
    let plain = plain_all c.loop-at.rest.now (sym c.special_byte.ensures.value ∙ c.in_default.is) in
    length_whole c.args.text.now c.loop-at.few c.loop-at.count c.loop-at.rest.now c.loop-at.invariant (line_to_end c.loop-at.rest.now plain)
