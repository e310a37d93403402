-- What an echo server answers to a frame, by its directions in turn: this project's own choice. The codes are brpc's.
use Rattle.std.specs.Prelude.{ℕ, ◌+◌, ◌≤◌, pos, Bool, true, false, cond, nat_lt, bytes_eq, List, [], length, is_some, None, Some, slice_get, codes, if◌then◌else◌}
use Rattle.std.specs.declared.option.Option.{Option}
use Rattle.rpc_model.specs.declared.direction.Direction.{Direction}
use Rattle.rpc_model.specs.declared.direction.Direction.TheVariants.{Plain, Err, Drop, Twice, Delay, Close}
use Rattle.rpc_meta.specs.declared.meta.RequestMeta.{RequestMeta}
use Rattle.prpc_frames.specs.declared.frame.Frame.{Frame}
use Rattle.echo_server.specs.declared.answer.Answer.{Answer}

-- the one service, and its one method
abbrev pub service : List ℕ
service = codes "rpc.Echo"

abbrev pub method : List ℕ
method = codes "Echo"

-- a reply: the code, the payload, and the request's id where it has one
abbrev pub reply_with : ℕ → List ℕ → Frame → Frame
reply_with code payload f = record {
  meta = record { request = None; response = Some (record { code = Some (pos code); text = None }); compress = None; correlation = f.meta.correlation; attachment = None };
  payload = payload;
  attachment = [];
}

-- one reply with this code and no payload
abbrev pub error_answer : ℕ → Frame → Answer
error_answer code f = record { reply = Some (reply_with code [] f); times = 1; nap = 0; close = false }

-- the request's payload so many times, after so many milliseconds
abbrev pub echo_answer : (times nap : ℕ) → Frame → Answer
echo_answer times nap f = record { reply = Some (reply_with 0 f.payload f); times = times; nap = nap; close = false }

abbrev pub no_answer : (close : Bool) → Answer
no_answer close = record { reply = None; times = 0; nap = 0; close = close }

-- what a direction says of a request for the service and its method
abbrev pub directed : Direction → Frame → Answer
directed Plain f = echo_answer 1 0 f
directed (Err code) f = error_answer code f
directed Drop f = no_answer false
directed Twice f = echo_answer 2 0 f
directed (Delay ms) f = echo_answer 1 ms f
directed Close f = no_answer true

-- another service has the code 1001, else another method 1002
abbrev pub request_answer : Direction → RequestMeta → Frame → Answer
request_answer d r f =
    if bytes_eq r.service service then (if bytes_eq r.method method then directed d f else error_answer 1002 f) else error_answer 1001 f

-- a direction as a script may have it
abbrev pub IsDirection : Direction → Type 0
IsDirection (Err code) = (1 ≤ code) × (code ≤ 65535)
IsDirection d = Unit {0}

-- the directions of a server, and the place of the one that the next request follows
pub record Turn : Type 0 where
  pub words : List Direction
  pub at : ℕ

abbrev pub or_plain : Option Direction → Direction
or_plain None = Plain
or_plain (Some d) = d

-- without directions every request is plain
abbrev pub direction : Turn → Direction
direction t = or_plain (slice_get t.words t.at)

-- after the last direction comes the first
abbrev pub turned : Turn → Turn
turned t = record t { at = cond (nat_lt (t.at + 1) (length t.words)) (t.at + 1) 0 }

-- a frame without a request is passed over
abbrev pub answer_by : Turn → Option RequestMeta → Frame → Answer
answer_by t None f = no_answer false
answer_by t (Some r) f = request_answer (direction t) r f

-- the answer to a frame
abbrev pub answer_of : Turn → Frame → Answer
answer_of t f = answer_by t f.meta.request f

-- each request uses a direction, and no other frame does
abbrev pub after : Turn → Frame → Turn
after t f = cond (is_some f.meta.request) (turned t) t
