-- How an answer of the code stands to the definition: this project's own choice.
use Rattle.std.specs.Prelude.{◌≡◌, ◌≢◌, ℕ, List, [], length, take, drop, Option, Some, None, Result, Ok, Err}
use Rattle.rpc_meta.specs.declared.fault.MetaFault.TheVariants as meta_fault
use Rattle.prpc_frames.specs.declared.fault.FeedFault.{FeedFault}
use Rattle.prpc_frames.specs.declared.fault.FeedFault.TheVariants.{Meta, Memory}
use Rattle.prpc_frames.specs.declared.frame.Frame.{Frame}
use Rattle.prpc_frames.specs.declared.taking.Reached.{Reached}
use Rattle.prpc_frames.specs.Stream.Reading.{Stream, before, fed}

-- a fault is the definition's, but for want of memory, which is free
abbrev pub Fails : {Y : Type 0} → FeedFault → Result Y FeedFault → Type 0
Fails Memory read = Unit {0}
Fails e read = read ≡ Err e

-- the answer is the definition's, but for want of memory
abbrev pub Gives : {Y : Type 0} → Result Y FeedFault → Result Y FeedFault → Type 0
Gives (Ok x) read = read ≡ Ok x
Gives (Err e) read = Fails e read

-- a fault of a meta isn't want of memory
abbrev pub NamesNoMemory : FeedFault → Type 0
NamesNoMemory (Meta at e) = e ≢ meta_fault.Memory
NamesNoMemory e = Unit {0}

-- a fault of the stream and not of the call
abbrev pub IsFinal : FeedFault → Type 0
IsFinal (Meta at e) = e ≢ meta_fault.Memory
IsFinal Memory = ⊥
IsFinal e = Unit {0}

-- what these bytes are, with these whole frames, up to where the reading came
abbrev pub stream_seen : List Frame → Reached → List ℕ → Stream
stream_seen fs r bytes = record { frames = fs; rest = drop r.used bytes; at = r.at; fault = r.fault }

-- the second list begins with the first
abbrev pub IsPrefix : List Frame → List Frame → Type 0
IsPrefix before now = take (length before) now ≡ before

-- the answer that tells a fault
abbrev pub answer_of : Option FeedFault → Result (Unit {0}) FeedFault
answer_of None = Ok tt
answer_of (Some e) = Err e

-- the piece is taken, and the answer is the stream's fault, if it has one; after want of memory it isn't taken
abbrev pub Takes : Stream → List ℕ → Result (Unit {0}) FeedFault → Stream → Type 0
Takes old piece (Ok done) new = (new ≡ fed old piece) × (new.fault ≡ None)
Takes old piece (Err Memory) new = new ≡ old
Takes old piece (Err e) new = (new ≡ fed old piece) × (new.fault ≡ Some e)

-- the first of the frames was handed out, or there is none
abbrev pub HandsOut : Stream → Option Frame → Stream → Type 0
HandsOut old None new = (old.frames ≡ []) × (new ≡ old)
HandsOut old (Some f) new = old ≡ before f new
