-- The frames at the front of a stream's bytes, and what is left or the first fault with its place: by brpc's baidu_std
-- document. The faults, their places and their order are this project's own choice.
use Rattle.std.specs.Prelude.{ℕ, zero, suc, ◌+◌, ◌-◌, ◌^◌, min, ℤ, pos, negsuc, Bool, true, false, List, [], ◌∷◌, ◌++◌, length, take, drop, Option, Some}
use Rattle.std.specs.Prelude.{None, Result, Ok, Err, nat_lt, ◌==◌, if◌then◌else◌}
use Rattle.byteorder.specs.Endian.{big_number}
use Rattle.rpc_meta.specs.declared.fault.MetaFault.{MetaFault}
use Rattle.rpc_meta.specs.declared.meta.Meta as meta_type
use Rattle.rpc_meta.specs.Meta.{meta}
use Rattle.prpc_frames.specs.declared.fault.FeedFault.{FeedFault}
use Rattle.prpc_frames.specs.declared.fault.FeedFault.TheVariants.{Magic, TooLarge, MetaPastBody, Meta, Compressed, Attachment}
use Rattle.prpc_frames.specs.declared.frame.Frame.{Frame}
use Rattle.prpc_frames.specs.declared.header.Sizes.{Sizes}
use Rattle.prpc_frames.specs.declared.reading.Whole.{Whole}

infixl 10 ◌>>=◌
abbrev pub ◌>>=◌ : {A B : Type 0} → Result A FeedFault → (A → Result B FeedFault) → Result B FeedFault
(Ok x) >>= f = f x
(Err e) >>= f = Err e

-- the place n bytes after a place; one past 2 ^ 64 - 1 is told as that number
abbrev pub later : ℕ → ℕ → ℕ
later at n = min (at + n) (2 ^ 64 - 1)

-- ---- the header

-- PRPC
abbrev pub magic : List ℕ
magic = 80 ∷ 82 ∷ 80 ∷ 67 ∷ []

-- the bytes that are there begin with these; else the place of the first that differs
unfoldable pub begins : ℕ → List ℕ → List ℕ → Result (Unit {0}) FeedFault
begins at [] bytes = Ok tt
begins at (m ∷ ms) [] = Ok tt
begins at (m ∷ ms) (b ∷ bytes) = if b == m then begins (later at 1) ms bytes else Err (Magic at)

-- the number of 32 bits in network order at this place
unfoldable pub number_at : ℕ → List ℕ → ℕ
number_at at bytes = big_number 4 (drop at bytes)

unfoldable pub sizes : ℕ → ℕ → ℕ → Result (Option Sizes) FeedFault
sizes at body meta = if nat_lt 16777216 body then Err (TooLarge at) else (if nat_lt body meta then Err (MetaPastBody at) else Ok (Some (record { body = body; meta = meta })))

-- the header of a frame that begins at this place; none where it isn't there whole
unfoldable pub header : ℕ → List ℕ → Result (Option Sizes) FeedFault
header at bytes = begins at magic bytes >>= λ _. if nat_lt (length bytes) 12 then Ok None else sizes at (number_at 4 bytes) (number_at 8 bytes)

-- ---- the body

abbrev pub named : {M : Type 0} → ℕ → Result M MetaFault → Result M FeedFault
named at (Ok m) = Ok m
named at (Err e) = Err (Meta at e)

-- a compress type that is there and isn't 0
abbrev pub is_compressed : Option ℤ → Bool
is_compressed None = false
is_compressed (Some (pos zero)) = false
is_compressed (Some (pos (suc n))) = true
is_compressed (Some (negsuc n)) = true

-- the attachment size; no meta that is read has a negative one
abbrev pub attached : Option ℤ → ℕ
attached None = 0
attached (Some (pos n)) = n
attached (Some (negsuc n)) = 0

-- the payload and the attachment behind a meta: the attachment is the last bytes
unfoldable pub content : ℕ → meta_type.Meta → List ℕ → Result Frame FeedFault
content at m bytes =
    if is_compressed m.compress then Err (Compressed at) else
    (if nat_lt (length bytes) (attached m.attachment) then Err (Attachment at) else
    Ok (record { meta = m; payload = take (length bytes - attached m.attachment) bytes; attachment = drop (length bytes - attached m.attachment) bytes }))

-- the frame of a body whose meta has so many bytes
unfoldable pub body : ℕ → ℕ → List ℕ → Result Frame FeedFault
body at n bytes = named at (meta (take n bytes)) >>= λ m. content at m (drop n bytes)

-- ---- the stream

unfoldable pub whole : ℕ → Option Sizes → List ℕ → Result (Option Whole) FeedFault
whole at None behind = Ok None
whole at (Some s) behind = if nat_lt (length behind) s.body then Ok None else (body at s.meta (take s.body behind) >>= λ f. Ok (Some (record { frame = f; size = 12 + s.body })))

-- the frame at the front of these bytes, which begin at this place of the stream; none where it isn't there whole
unfoldable pub frame : ℕ → List ℕ → Result (Option Whole) FeedFault
frame at bytes = header at bytes >>= λ s. whole at s (drop 12 bytes)

-- the whole frames, the bytes behind them, the place where these begin, and the first fault, after which no bytes are kept
pub record Stream : Type 0 where
  pub frames : List Frame
  pub rest : List ℕ
  pub at : ℕ
  pub fault : Option FeedFault

abbrev pub before : Frame → Stream → Stream
before f s = record s { frames = f ∷ s.frames }

abbrev pub first_of : ℕ → List ℕ → Result (Option Whole) FeedFault → (ℕ → List ℕ → Stream) → Stream
first_of at bytes (Ok None) others = record { frames = []; rest = bytes; at = at; fault = None }
first_of at bytes (Ok (Some w)) others = before w.frame (others (later at w.size) (drop w.size bytes))
first_of at bytes (Err e) others = record { frames = []; rest = []; at = at; fault = Some e }

-- at most so many frames
unfoldable pub frames_within : ℕ → ℕ → List ℕ → Stream
frames_within zero at bytes = record { frames = []; rest = bytes; at = at; fault = None }
frames_within (suc most) at bytes = first_of at bytes (frame at bytes) (λ next rest. frames_within most next rest)

-- the frames of bytes that begin at this place of the stream; each has a byte or more
unfoldable pub frames : ℕ → List ℕ → Stream
frames at bytes = frames_within (length bytes) at bytes

-- a stream of which nothing came
abbrev pub begun : Stream
begun = record { frames = []; rest = []; at = 0; fault = None }

abbrev pub joined : List Frame → Stream → Stream
joined fs more = record more { frames = fs ++ more.frames }

abbrev pub fed_after : Option FeedFault → Stream → List ℕ → Stream
fed_after None s piece = joined s.frames (frames s.at (s.rest ++ piece))
fed_after (Some e) s piece = s

-- a stream, of which these frames weren't handed out yet, after one more piece; a fault is final
unfoldable pub fed : Stream → List ℕ → Stream
fed s piece = fed_after s.fault s piece

-- the same after pieces, one after the other
unfoldable pub fed_all : Stream → List (List ℕ) → Stream
fed_all s [] = s
fed_all s (p ∷ pieces) = fed_all (fed s p) pieces

-- the bytes of pieces
unfoldable pub all_of : List (List ℕ) → List ℕ
all_of [] = []
all_of (p ∷ pieces) = p ++ all_of pieces
