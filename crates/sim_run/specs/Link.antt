-- A wire: what went out on it, which ids wait for a reply, and how far what came in was read; and how a reply is spelled as a frame, by brpc's
-- baidu_std document.
use Rattle.std.specs.Prelude.{◌≡◌, ℕ, ◌^◌, ◌<◌, ℤ, pos, negsuc, List, [], Option, None, Some}
use Rattle.rpc_model.specs.declared.sent.Sent.{Sent}
use Rattle.rpc_meta.specs.declared.meta.Meta.{Meta}
use Rattle.rpc_meta.specs.Meta.Answer.{reply_code_of}
use Rattle.prpc_frames.specs.declared.frame.Frame.{Frame}
use Rattle.prpc_frames.specs.Stream.Reading.{Stream}
use Rattle.sim_run.specs.declared.wire.Reply.{Reply}

-- the requests that went out; the ids that wait, each with its call; and how many bytes of frames were read
pub record Link : Type 0 where
  pub out : List Sent
  pub waiting : List (ℕ × ℕ)
  pub read : ℕ

-- every frame that came was taken, and none came in part
pub record IsIdle (stream : Stream) : Type 0 where
  pub frames : stream.frames ≡ []
  pub rest : stream.rest ≡ []
  pub fault : stream.fault ≡ None
  pub place : stream.at < 2 ^ 64

-- the meta of a reply to the attempt of this id, with this code
abbrev pub reply_meta : ℕ → ℕ → Meta
reply_meta id code = record { request = None; response = Some (record { code = Some (pos code); text = None }); compress = None; correlation = Some (pos id); attachment = None }

-- the frame of a meta and a payload, without an attachment
abbrev pub plain_frame : Meta → List ℕ → Frame
plain_frame meta payload = record { meta = meta; payload = payload; attachment = [] }

-- the frame of a reply
abbrev pub reply_frame : Reply → Frame
reply_frame reply = plain_frame (reply_meta reply.id reply.code) reply.text

-- the id that a correlation id tells
abbrev pub id_in : Option ℤ → Option ℕ
id_in None = None
id_in (Some (pos n)) = Some n
id_in (Some (negsuc n)) = None

abbrev pub reply_with : Frame → Option ℕ → Option Reply
reply_with frame None = None
reply_with frame (Some id) = Some (record { id = id; code = reply_code_of frame.meta; text = frame.payload })

-- the reply that a frame says, where it has an id
abbrev pub reply_in : Frame → Option Reply
reply_in frame = reply_with frame (id_in frame.meta.correlation)
