use Rattle.std.proofs.Common.{◌≡◌, ◌≤◌, ◌∙◌, ◌++◌, ◌∷◌, [], length, ap, sym, drop, Option, Some, None, Ok, Err, arith}
use Rattle.prpc_frames.specs.declared.reading.Whole.{Whole}
use Rattle.prpc_frames.specs.Stream.Reading.{frame}
use Rattle.prpc_frames.specs.Seen.{IsPrefix}
use Rattle.prpc_frames.proofs.Taken.{one_more, front_more, no_more, bad_next, whole_inside}
use Rattle.prpc_frames.proofs.taking.read_frames.Goals as goal

pub frames-preserved : goal.frames-preserved
frames-preserved c =
    let found : Ok (Some c.in-Ok-Some.whole) ≡ c.in_ok-whole.field-0 = sym (c.in-Ok-Some.is ∙ ap (λ (o : Option Whole). Ok o) c.in-Ok-Some.field-0-is) in
    let here : Ok (Some c.in-Ok-Some.whole) ≡ frame c.frames.place (drop c.frames.used c.args.bytes.now) = found ∙ (c.in_ok-whole.ensures.read ∙ ap (frame c.frames.place) c.split_at.ensures.back) in
    let inside : (12 ≤ c.in-Ok-Some.whole.size) × (c.in-Ok-Some.whole.size ≤ length c.split_at.result.1.now) =
    whole_inside c.in_ok-whole.field-0 c.in-Ok-Some.whole (length c.split_at.result.1.now) found c.in_ok-whole.ensures.within in
    let longer : c.push_back_reserved.new.self.items ≡ c.frames.waiting.items ++ c.in-Ok-Some.whole.frame ∷ [] = rw c.in_ok-reserve-in-Ok-Some.ensures.items at c.push_back_reserved.ensures.items in
    let next = one_more c.frames.waiting.items c.push_back_reserved.new.self.items c.frames.place c.frames.used c.in-Ok-Some.whole c.args.bytes.now _ longer here c.frames.invariant.0 in
    let front : IsPrefix c.args.waiting.now.items c.push_back_reserved.new.self.items =
    rw longer (front_more c.args.waiting.now.items c.frames.waiting.items (c.in-Ok-Some.whole.frame ∷ []) c.frames.invariant.2) in
    (rw c.saturating_add-place.ensures next, omega (arith, inside.1, c.split_at.ensures.back_len), front)

pub returns-in-Ok-None-clause-read : goal.returns-in-Ok-None-clause-read
returns-in-Ok-None-clause-read c =
    let here : Ok None ≡ frame c.frames.place (drop c.frames.used c.args.bytes.now) =
    sym (c.in-Ok-None.is ∙ ap (λ (o : Option Whole). Ok o) c.in-Ok-None.field-0-is) ∙ (c.in_ok-whole.ensures.read ∙ ap (frame c.frames.place) c.split_at.ensures.back) in
    no_more c.frames.waiting.items c.frames.place c.frames.used c.args.bytes.now _ here c.frames.invariant.0

pub returns-in-Err-clause-read : goal.returns-in-Err-clause-read
returns-in-Err-clause-read c =
    let here : Err c.in-Err.fault ≡ frame c.frames.place (drop c.frames.used c.args.bytes.now) = sym c.in-Err.is ∙ (c.in_ok-whole.ensures.read ∙ ap (frame c.frames.place) c.split_at.ensures.back) in
    bad_next c.frames.waiting.items c.frames.place c.frames.used c.args.bytes.now c.in-Err.fault _ here c.frames.invariant.0
