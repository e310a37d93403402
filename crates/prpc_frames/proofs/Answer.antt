-- What a piece is answered.
use Rattle.std.proofs.Common.{◌≡◌, ℕ, List, ◌++◌, Option, Some, None, Result, Err, IfSome, refl, ap, sym, subst, ◌∙◌}
use Rattle.prpc_frames.specs.declared.fault.FeedFault.{FeedFault}
use Rattle.prpc_frames.specs.declared.fault.FeedFault.TheVariants.{Magic, TooLarge, MetaPastBody, Meta, Compressed, Attachment, Memory}
use Rattle.prpc_frames.specs.Stream.Reading.{Stream, frames, joined, fed_after, fed}
use Rattle.prpc_frames.specs.Seen.{IsFinal, answer_of, Takes}

same_still : (old : Stream) (piece : List ℕ) (e : FeedFault) → old.fault ≡ Some e → old ≡ fed old piece
unfolding fed
same_still old piece e h = sym (ap (λ (o : Option FeedFault). fed_after o old piece) h)

-- a fault is told again, and nothing changes
pub takes_again : (old : Stream) (piece : List ℕ) (e : FeedFault) → old.fault ≡ Some e → IsFinal e → Takes old piece (Err e) old
takes_again old piece (Magic n) h final = (same_still old piece (Magic n) h, h)
takes_again old piece (TooLarge n) h final = (same_still old piece (TooLarge n) h, h)
takes_again old piece (MetaPastBody n) h final = (same_still old piece (MetaPastBody n) h, h)
takes_again old piece (Meta n m) h final = (same_still old piece (Meta n m) h, h)
takes_again old piece (Compressed n) h final = (same_still old piece (Compressed n) h, h)
takes_again old piece (Attachment n) h final = (same_still old piece (Attachment n) h, h)
takes_again old piece Memory h final = refl

new_said : (old new : Stream) (piece : List ℕ) → old.fault ≡ None → new ≡ joined old.frames (frames old.at (old.rest ++ piece)) → new ≡ fed old piece
unfolding fed
new_said old new piece h e = e ∙ sym (ap (λ (o : Option FeedFault). fed_after o old piece) h)

told : (old new : Stream) (piece : List ℕ) (fault : Option FeedFault) → new ≡ fed old piece → new.fault ≡ fault → IfSome fault IsFinal → Takes old piece (answer_of fault) new
told old new piece None e h final = (e, h)
told old new piece (Some (Magic n)) e h final = (e, h)
told old new piece (Some (TooLarge n)) e h final = (e, h)
told old new piece (Some (MetaPastBody n)) e h final = (e, h)
told old new piece (Some (Meta n m)) e h final = (e, h)
told old new piece (Some (Compressed n)) e h final = (e, h)
told old new piece (Some (Attachment n)) e h final = (e, h)
told old new piece (Some Memory) e h final = absurd final

-- a piece that was taken is answered by the fault that it leaves
pub takes_piece : (old new : Stream) (piece : List ℕ) (fault : Option FeedFault) (result : Result (Unit {0}) FeedFault) → result ≡ answer_of fault → new.fault ≡ fault → IfSome fault IsFinal
    → old.fault ≡ None
    → new ≡ joined old.frames (frames old.at (old.rest ++ piece)) → Takes old piece result new
takes_piece old new piece fault result answered h final none e =
    subst (λ (r : Result (Unit {0}) FeedFault). Takes old piece r new) (sym answered) (told old new piece fault (new_said old new piece none e) h final)
