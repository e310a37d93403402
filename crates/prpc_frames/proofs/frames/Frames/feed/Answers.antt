use Rattle.std.proofs.Common.{◌++◌, ◌∙◌, refl, ap, sym, subst, Option, IfSome}
use Rattle.prpc_frames.specs.Stream.Reading.{Stream, frames, joined}
use Rattle.prpc_frames.specs.declared.fault.FeedFault.{FeedFault}
use Rattle.prpc_frames.specs.Seen.{IsFinal}
use Rattle.prpc_frames.proofs.Answer.{takes_again, takes_piece}
use Rattle.prpc_frames.proofs.frames.Frames.feed.Goals as goal

pub returns-in-Some-clause-taken : goal.returns-in-Some-clause-taken
returns-in-Some-clause-taken c =
    takes_again c.args.self.now c.args.piece.now c.in-Some.fault (ap (λ (s : Stream). s.fault) (sym c.self.view_is) ∙ c.in-Some.is)
    (subst (λ (o : Option FeedFault). IfSome o IsFinal) c.in-Some.is c.self.invariant)

pub returns-clause-taken : goal.returns-clause-taken
returns-clause-taken c =
    takes_piece c.args.self.now _ c.args.piece.now c.in-Ok.reached.fault c.answer.result c.answer.ensures refl c.in-Ok.ensures.lasting
    (ap (λ (s : Stream). s.fault) (sym c.self.view_is) ∙ c.in_default.is)
    (c.in-Ok.ensures.read ∙ ap (λ (s : Stream). joined s.frames (frames s.at (s.rest ++ c.args.piece.now))) c.self.view_is)
