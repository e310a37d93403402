-- What stands on the wires where a serving loop ends: this project's own choice.
use Rattle.std.specs.Prelude.{◌≡◌, ℕ, ◌≤◌, Bool, true, false, List, length, take, None, Some}
use Rattle.std.specs.Io.KnownBytes.{append_known}
use Rattle.std.specs.declared.option.Option.{Option}
use Rattle.rpc_base.specs.Causes.{Rose}
use Rattle.prpc_frames.specs.Seen.{IsFinal}
use Rattle.prpc_frames.specs.Stream.Reading.{Stream, frames, fed}
use Rattle.echo_server.specs.declared.served.Served.{Served}
use Rattle.echo_server.specs.declared.served.Served.TheVariants.{End, Closed, ReadFault, WriteFault, BadFrame, Memory}
use Rattle.echo_server.specs.declared.served.Halt.{Halt}
use Rattle.echo_server.specs.declared.served.Halt.TheVariants as halt
use Rattle.echo_server.specs.declared.piece.Brought.{Brought}
use Rattle.echo_server.specs.declared.piece.Brought.TheVariants.{More, Fault, Bad}
use Rattle.echo_server.specs.declared.piece.Brought.TheVariants as brought
use Rattle.echo_server.specs.Answers.{Turn}
use Rattle.echo_server.specs.Serving.{texts, closes_in, after_all}

-- a front of the text was added
abbrev pub IsPart : Option (List ℕ) → Option (List ℕ) → List ℕ → Type 0
IsPart old new text = (n : ℕ) × (n ≤ length text) × (new ≡ append_known old (take n text))

-- what was written of the answers to some frames where the answering stopped: all up to the one that says close, or a front
abbrev pub Halts : Option (List ℕ) → Option (List ℕ) → List ℕ → Bool → ℕ → ℕ → Halt → Type 0
Halts old new text close before now halt.Closed = (new ≡ append_known old text) × (close ≡ true)
Halts old new text close before now halt.WriteFault = IsPart old new text × Rose before now
Halts old new text close before now halt.Memory = IsPart old new text

-- the answers to all these frames were written, and none says close
pub record AnswersAll (before now : Turn) (s : Stream) (old new : Option (List ℕ)) : Type 0 where
  pub written : new ≡ append_known old (texts before s.frames)
  pub goes_on : closes_in before s.frames ≡ false
  pub turn : now ≡ after_all before s.frames

-- What was written of the answers to the frames of a stream where a serving loop ended so, and why it did.
abbrev pub ServedBy : (turn now : Turn) → Stream → (old new : Option (List ℕ)) → (met : Bool) → (read_before read_now write_before write_now : ℕ) → Served → Type 0
ServedBy turn now s old new met rb rn wb wn End = AnswersAll turn now s old new × (met ≡ true) × (s.fault ≡ None)
ServedBy turn now s old new met rb rn wb wn Closed = (new ≡ append_known old (texts turn s.frames)) × (closes_in turn s.frames ≡ true)
ServedBy turn now s old new met rb rn wb wn ReadFault = AnswersAll turn now s old new × Rose rb rn × (s.fault ≡ None)
ServedBy turn now s old new met rb rn wb wn WriteFault = IsPart old new (texts turn s.frames) × Rose wb wn
ServedBy turn now s old new met rb rn wb wn (BadFrame f) = AnswersAll turn now s old new × (s.fault ≡ Some f) × IsFinal f
ServedBy turn now s old new met rb rn wb wn Memory = IsPart old new (texts turn s.frames)

-- These bytes were read, and what was written is told by their frames.
pub record HasServed (turn now : Turn) (in_old in_new out_old out_new : Option (List ℕ)) (met : Bool) (read_before read_now write_before write_now : ℕ) (result : Served) : Type 0 where
  pub read : List ℕ
  pub took : in_new ≡ append_known in_old read
  pub served : ServedBy turn now (frames 0 read) out_old out_new met read_before read_now write_before write_now result

-- ---- one read

-- one piece came and was fed
abbrev pub FeedsOne : Option (List ℕ) → Option (List ℕ) → Stream → Stream → Type 0
FeedsOne old new before now = (piece : List ℕ) × (new ≡ append_known old piece) × (now ≡ fed before piece)

-- What one read brought: a piece, the last piece, a fault and nothing, or a piece in which a frame is bad.
abbrev pub Brings : Option (List ℕ) → Option (List ℕ) → Stream → Stream → ℕ → ℕ → Bool → Brought → Type 0
Brings old new before now b n met More = FeedsOne old new before now × (now.fault ≡ None)
Brings old new before now b n met brought.End = FeedsOne old new before now × (met ≡ true) × (now.fault ≡ None)
Brings old new before now b n met Fault = (new ≡ old) × (now ≡ before) × Rose b n
Brings old new before now b n met (Bad f) = FeedsOne old new before now × (now.fault ≡ Some f) × IsFinal f

-- a piece came that wasn't fed
abbrev pub LosesOne : Option (List ℕ) → Option (List ℕ) → Type 0
LosesOne old new = (piece : List ℕ) × (new ≡ append_known old piece)
