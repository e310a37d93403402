-- The one spelling of a frame that is written, and when a frame has one: by brpc's baidu_std document.
use Rattle.std.specs.Prelude.{◌≡◌, ℕ, ◌≤◌, ℤ, pos, List, [], ◌∷◌, ◌++◌, length, Option, Some, None, IfSome}
use Rattle.std.specs.Int.{w32, w64}
use Rattle.std.specs.Int.RustNames.{FitsSigned}
use Rattle.byteorder.specs.Endian.{big_bytes}
use Rattle.rpc_meta.specs.declared.meta.Meta.{Meta}
use Rattle.rpc_meta.specs.Meta.{meta_bytes}
use Rattle.rpc_meta.specs.Meta.Spelling.{IsWritable}
use Rattle.prpc_frames.specs.declared.frame.Frame.{Frame}
use Rattle.prpc_frames.specs.Stream.Reading.{magic}

-- the frame of a meta, a payload and an attachment
abbrev pub frame_of : Meta → List ℕ → List ℕ → Frame
frame_of meta payload attachment = record { meta = meta; payload = payload; attachment = attachment }

-- a number of 32 bits in network order
unfoldable pub number_bytes : ℕ → List ℕ
number_bytes n = big_bytes 4 n

-- the magic, and how many bytes the body and the meta have
abbrev pub header_bytes : ℕ → ℕ → List ℕ
header_bytes body meta = magic ++ number_bytes body ++ number_bytes meta

unfoldable pub body_bytes : Frame → List ℕ
body_bytes f = meta_bytes f.meta ++ f.payload ++ f.attachment

-- the header of 12 bytes, then meta, payload and attachment
unfoldable pub frame_bytes : Frame → List ℕ
frame_bytes f = magic ++ number_bytes (length (body_bytes f)) ++ number_bytes (length (meta_bytes f.meta)) ++ body_bytes f

-- frames one after the other
unfoldable pub all_bytes : List Frame → List ℕ
all_bytes [] = []
all_bytes (f ∷ fs) = frame_bytes f ++ all_bytes fs

-- the meta tells the size of the attachment; it may be silent where there is none
abbrev pub IsTold : Option ℤ → ℕ → Type 0
IsTold None n = n ≡ 0
IsTold (Some z) n = z ≡ pos n

-- a frame that may be written
pub record IsFitting (f : Frame) : Type 0 where
  pub size : length (body_bytes f) ≤ 16777216
  pub told : IsTold f.meta.attachment (length f.attachment)
  pub plain : IfSome f.meta.compress (λ z. z ≡ pos 0)
  pub writable : IsWritable f.meta

-- the numbers of a meta are of their types, as they are in every value of the code
pub record IsTyped (m : Meta) : Type 0 where
  pub request : IfSome m.request (λ r. IfSome r.log_id (FitsSigned w64))
  pub response : IfSome m.response (λ r. IfSome r.code (FitsSigned w32))
  pub compress : IfSome m.compress (FitsSigned w32)
  pub correlation : IfSome m.correlation (FitsSigned w64)
  pub attachment : IfSome m.attachment (FitsSigned w32)
