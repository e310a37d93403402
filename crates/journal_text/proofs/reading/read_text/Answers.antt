-- Each line is taken or refused as the definition says.
use Rattle.std.proofs.Common.{◌≡◌, ℕ, ◌+◌, List, [], refl, ap, sym, ◌∙◌, arith, length, Bor, Ok, Err}
use Rattle.rpc_model.specs.declared.journal.Journal.{Journal}
use Rattle.journal_text.proofs.Taken.{taken, refused, at_end, may_not_end, no_newline, ends_there, reads_bad, judged_refused, text_is}
use Rattle.journal_text.proofs.reading.read_text.Goals as goal

pub loop-before-init : goal.loop-before-init
loop-before-init c = rw c.new-draft.ensures refl

pub loop-before-preserved : goal.loop-before-preserved
loop-before-preserved c =
    taken c.in-Some.lines.now c.in-Some.rest.now.now c.loop-before.draft c.text.new.self c.loop-before.before _ _ c.loop-before-test.true c.in-Ok-text.ensures c.loop-before.invariant

pub returns-in-Err-Refused : goal.returns-in-Err-Refused
returns-in-Err-Refused c =
    let item : Bor (List ℕ) = record { ref_ptr = (0, 0); now = [] } in
    reads_bad c.bad.result (c.loop-before.before + 1) _ c.bad.ensures
    (text_is c.args.bytes.now c.in-Ok.pieces.items c.as_slice.result.now c.in-Some.lines.now c.in-Some.rest.now c.in-Ok.ensures c.as_slice.ensures.value c.in-Some.ensures.cases.0
    ∙ refused c.in-Some.lines.now c.in-Some.rest.now.now c.loop-before.draft c.loop-before.before item _ c.loop-before-test.true
    (judged_refused c.in-Err-Refused.field-0 c.text.new.self _ c.in-Err-Refused.field-0-is c.in-Err-Refused.ensures) c.loop-before.invariant)

pub returns-then-not-may_end : goal.returns-then-not-may_end
returns-then-not-may_end c =
    let same : c.loop-before.before ≡ length c.in-Some.lines.now = omega (arith, c.loop-before-test.false, c.loop-before.auto.before-end) in
    reads_bad c.bad-then-not-may_end.result (length c.in-Some.lines.now + 1) _ c.bad-then-not-may_end.ensures
    (text_is c.args.bytes.now c.in-Ok.pieces.items c.as_slice.result.now c.in-Some.lines.now c.in-Some.rest.now c.in-Ok.ensures c.as_slice.ensures.value c.in-Some.ensures.cases.0
    ∙ (at_end c.in-Some.lines.now c.in-Some.rest.now.now c.loop-before.draft c.loop-before.before _ (omega (arith, c.loop-before-test.false)) c.loop-before.invariant
    ∙ (may_not_end c.loop-before.draft (c.loop-before.before + 1) c.in-Some.rest.now.now (sym c.may_end.ensures ∙ c.if-not-may_end.true)
    ∙ ap (λ (n : ℕ). Err (n + 1)) same)))

pub returns-then-not-is_nothing : goal.returns-then-not-is_nothing
returns-then-not-is_nothing c =
    let same : c.loop-before.before ≡ length c.in-Some.lines.now = omega (arith, c.loop-before-test.false, c.loop-before.auto.before-end) in
    reads_bad c.bad-then-not-is_nothing.result (length c.in-Some.lines.now + 1) _ c.bad-then-not-is_nothing.ensures
    (text_is c.args.bytes.now c.in-Ok.pieces.items c.as_slice.result.now c.in-Some.lines.now c.in-Some.rest.now c.in-Ok.ensures c.as_slice.ensures.value c.in-Some.ensures.cases.0
    ∙ (at_end c.in-Some.lines.now c.in-Some.rest.now.now c.loop-before.draft c.loop-before.before _ (omega (arith, c.loop-before-test.false)) c.loop-before.invariant
    ∙ (no_newline c.loop-before.draft (c.loop-before.before + 1) c.in-Some.rest.now.now (sym c.may_end.ensures ∙ c.if-not-may_end.false) (sym c.is_nothing.ensures ∙ c.if-not-is_nothing.true)
    ∙ ap (λ (n : ℕ). Err (n + 1)) same)))

pub returns : goal.returns
returns c =
    text_is c.args.bytes.now c.in-Ok.pieces.items c.as_slice.result.now c.in-Some.lines.now c.in-Some.rest.now c.in-Ok.ensures c.as_slice.ensures.value c.in-Some.ensures.cases.0
    ∙ (at_end c.in-Some.lines.now c.in-Some.rest.now.now c.loop-before.draft c.loop-before.before _ (omega (arith, c.loop-before-test.false)) c.loop-before.invariant
    ∙ (ends_there c.loop-before.draft (c.loop-before.before + 1) c.in-Some.rest.now.now (sym c.may_end.ensures ∙ c.if-not-may_end.false) (sym c.is_nothing.ensures ∙ c.if-not-is_nothing.false)
    ∙ ap (λ (j : Journal). Ok j) (sym c.in-Ok-into_journal.ensures)))
