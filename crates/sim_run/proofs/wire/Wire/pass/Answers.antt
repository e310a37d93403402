-- The frame that was written is the one that comes in.
use Rattle.std.proofs.Common.{◌≡◌, ◌++◌, ap, ◌∙◌, arith, List, ℕ, length}
use Rattle.prpc_frames.specs.Stream.Reading.{later}
use Rattle.prpc_frames.specs.Stream.Spelling.{frame_bytes}
use Rattle.sim_run.specs.Link.{Link, plain_frame}
use Rattle.sim_run.proofs.Streams.{feed-idle, feed-taken, handed-out, one-frame}
use Rattle.sim_run.proofs.wire.Wire.pass.Goals as goal

pub invariant_of-self-in_default : goal.invariant_of-self-in_default
invariant_of-self-in_default c =
    let piece : c.deref.result.now ≡ frame_bytes (plain_frame c.args.meta.now c.args.payload.now) =
    c.deref.ensures.value ∙ c.in_ok-write_parts.ensures.written ∙ ap (λ (xs : List _). xs ++ frame_bytes (plain_frame c.args.meta.now c.args.payload.now)) c.clear.ensures.items in
    feed-idle c.begins_with_spelled.ensures c.self.inside.frames c.feed.new.self (plain_frame c.args.meta.now c.args.payload.now) c.deref.result.now c.feed.result c.self.invariant
    c.requires.fitting c.requires.typed piece c.in_default.not-Ok c.feed.ensures.taken

pub unreachable-requires : goal.unreachable-requires
unreachable-requires c =
    let piece : c.deref.result.now ≡ frame_bytes (plain_frame c.args.meta.now c.args.payload.now) =
    c.deref.ensures.value ∙ c.in_ok-write_parts.ensures.written ∙ ap (λ (xs : List _). xs ++ frame_bytes (plain_frame c.args.meta.now c.args.payload.now)) c.clear.ensures.items in
    let t =
    feed-taken c.begins_with_spelled.ensures c.self.inside.frames c.feed.new.self (plain_frame c.args.meta.now c.args.payload.now) c.deref.result.now c.in-Ok.field-0 c.self.invariant
    c.requires.fitting c.requires.typed piece c.in-Ok.ensures.taken in
    let none = c.in_default-next.ensures.0 in
    let some = ap (λ s. s.frames) t in
    cc

pub invariant_of-self-2 : goal.invariant_of-self-2
invariant_of-self-2 c =
    let piece : c.deref.result.now ≡ frame_bytes (plain_frame c.args.meta.now c.args.payload.now) =
    c.deref.ensures.value ∙ c.in_ok-write_parts.ensures.written ∙ ap (λ (xs : List _). xs ++ frame_bytes (plain_frame c.args.meta.now c.args.payload.now)) c.clear.ensures.items in
    let t =
    feed-taken c.begins_with_spelled.ensures c.self.inside.frames c.feed.new.self (plain_frame c.args.meta.now c.args.payload.now) c.deref.result.now c.in-Ok.field-0 c.self.invariant
    c.requires.fitting c.requires.typed piece c.in-Ok.ensures.taken in
    (handed-out _ (plain_frame c.args.meta.now c.args.payload.now) c.in-Some.frame c.feed.new.self c.next.new.self (omega arith) t c.in-Some.ensures).1

pub returns-clause-frame : goal.returns-clause-frame
returns-clause-frame c =
    let piece : c.deref.result.now ≡ frame_bytes (plain_frame c.args.meta.now c.args.payload.now) =
    c.deref.ensures.value ∙ c.in_ok-write_parts.ensures.written ∙ ap (λ (xs : List _). xs ++ frame_bytes (plain_frame c.args.meta.now c.args.payload.now)) c.clear.ensures.items in
    let t =
    feed-taken c.begins_with_spelled.ensures c.self.inside.frames c.feed.new.self (plain_frame c.args.meta.now c.args.payload.now) c.deref.result.now c.in-Ok.field-0 c.self.invariant
    c.requires.fitting c.requires.typed piece c.in-Ok.ensures.taken in
    (handed-out _ (plain_frame c.args.meta.now c.args.payload.now) c.in-Some.frame c.feed.new.self c.next.new.self (omega arith) t c.in-Some.ensures).0

pub returns-clause-wire : goal.returns-clause-wire
returns-clause-wire c =
    let piece : c.deref.result.now ≡ frame_bytes (plain_frame c.args.meta.now c.args.payload.now) =
    c.deref.ensures.value ∙ c.in_ok-write_parts.ensures.written ∙ ap (λ (xs : List _). xs ++ frame_bytes (plain_frame c.args.meta.now c.args.payload.now)) c.clear.ensures.items in
    let t =
    feed-taken c.begins_with_spelled.ensures c.self.inside.frames c.feed.new.self (plain_frame c.args.meta.now c.args.payload.now) c.deref.result.now c.in-Ok.field-0 c.self.invariant
    c.requires.fitting c.requires.typed piece c.in-Ok.ensures.taken in
    let out = handed-out _ (plain_frame c.args.meta.now c.args.payload.now) c.in-Some.frame c.feed.new.self c.next.new.self (omega arith) t c.in-Some.ensures in
    let link : ℕ → Link = λ n. record { out = c.self.inside.out; waiting = c.self.inside.outstanding; read = n } in
    rw (← c.self.view_is) (ap link (out.2 ∙ ap (λ bs. later c.self.inside.frames.at (length bs)) (one-frame (plain_frame c.args.meta.now c.args.payload.now))))
