-- What an echo server writes for the frames that it reads, in order: this project's own choice.
use Rattle.std.specs.Prelude.{ℕ, zero, suc, ◌+◌, ◌%◌, Bool, false, ◌||◌, cond, List, [], ◌∷◌, ◌++◌, length, is_some, None, Some, slice_get}
use Rattle.std.specs.declared.option.Option.{Option}
use Rattle.rpc_model.specs.declared.direction.Direction.{Direction}
use Rattle.prpc_frames.specs.declared.frame.Frame.{Frame}
use Rattle.prpc_frames.specs.Stream.Spelling.{frame_bytes}
use Rattle.echo_server.specs.Answers.{Turn, answer_of, after, or_plain}

-- a text so many times
unfoldable pub repeated : ℕ → List ℕ → List ℕ
repeated zero text = []
repeated (suc n) text = repeated n text ++ text

-- a reply that is written so many times
abbrev pub replies : Option Frame → ℕ → List ℕ
replies None n = []
replies (Some reply) n = repeated n (frame_bytes reply)

-- what is written for one frame
abbrev pub text_for : Turn → Frame → List ℕ
text_for t f = replies (answer_of t f).reply (answer_of t f).times

-- whether its answer says close
abbrev pub closes : Turn → Frame → Bool
closes t f = (answer_of t f).close

-- what is written for these frames, up to the first whose answer says close
unfoldable pub texts : Turn → List Frame → List ℕ
texts t [] = []
texts t (f ∷ fs) = text_for t f ++ cond (closes t f) [] (texts (after t f) fs)

-- whether an answer to one of these frames says close
unfoldable pub closes_in : Turn → List Frame → Bool
closes_in t [] = false
closes_in t (f ∷ fs) = closes t f || closes_in (after t f) fs

-- whose turn it is after these frames
unfoldable pub after_all : Turn → List Frame → Turn
after_all t [] = t
after_all t (f ∷ fs) = after_all (after t f) fs

-- ---- the directions by number, for a law

-- how many of these frames are requests
abbrev pub requests : List Frame → ℕ
requests [] = 0
requests (f ∷ fs) = cond (is_some f.meta.request) 1 0 + requests fs

-- the direction of the request with so many before it: the number is taken modulo the number of directions
abbrev pub direction_at : List Direction → ℕ → Direction
direction_at words before = or_plain (slice_get words (before % length words))
