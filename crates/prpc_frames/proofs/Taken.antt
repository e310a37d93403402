-- The whole frames that were taken so far, and the stream behind them.
use Rattle.std.proofs.Common.{◌≡◌, ℕ, ◌+◌, ◌≤◌, List, [], ◌∷◌, ◌++◌, length, drop, Option, Some, None, Result, Ok, Err, IfOk, IfSome, min, ap, sym, subst, ◌∙◌, arith}
use Rattle.std.proofs.lemmas.List.{drop-drop, append_assoc, append-nil, drop_all, length-take, take-append-le}
use Rattle.prpc_frames.specs.declared.fault.FeedFault.{FeedFault}
use Rattle.prpc_frames.specs.declared.frame.Frame.{Frame}
use Rattle.prpc_frames.specs.declared.reading.Whole.{Whole}
use Rattle.prpc_frames.specs.Stream.Reading.{later, frame, Stream, before, frames, joined}
use Rattle.prpc_frames.specs.Seen.{stream_seen, IsPrefix}
use Rattle.prpc_frames.proofs.Steps.{frames_by}

-- a frame more
pub one_more : (fs gs : List Frame) (at used : ℕ) (w : Whole) (bytes : List ℕ) (all : Stream) → gs ≡ fs ++ w.frame ∷ [] → Ok (Some w) ≡ frame at (drop used bytes)
    → joined fs (frames at (drop used bytes)) ≡ all
    → joined gs (frames (later at w.size) (drop (used + w.size) bytes)) ≡ all
one_more fs gs at used w bytes all g e h =
    let behind : Stream = frames (later at w.size) (drop (used + w.size) bytes) in
    let along : drop w.size (drop used bytes) ≡ drop (used + w.size) bytes = drop-drop w.size used bytes in
    let first : frames at (drop used bytes) ≡ before w.frame behind = frames_by at (drop used bytes) (Ok (Some w)) e ∙ ap (λ (xs : List ℕ). before w.frame (frames (later at w.size) xs)) along in
    let longer : joined (fs ++ w.frame ∷ []) behind ≡ joined fs (before w.frame behind) = ap (λ (xs : List Frame). record behind { frames = xs }) (append_assoc fs (w.frame ∷ []) behind.frames) in
    ap (λ (xs : List Frame). joined xs behind) g ∙ (longer ∙ (sym (ap (λ (s : Stream). joined fs s) first) ∙ h))

-- the frames that waited still stand in front
pub front_more : (before now more : List Frame) → IsPrefix before now → IsPrefix before (now ++ more)
front_more before now more h =
    let size : min (length before) (length now) ≡ length before = sym (length-take (length before) now) ∙ ap length h in
    take-append-le (length before) now more (omega (arith, size)) ∙ h

-- no frame more
pub no_more : (fs : List Frame) (at used : ℕ) (bytes : List ℕ) (all : Stream) → Ok None ≡ frame at (drop used bytes) → joined fs (frames at (drop used bytes)) ≡ all
    → stream_seen fs (record { used = used; at = at; fault = None }) bytes ≡ all
no_more fs at used bytes all e h =
    let last : frames at (drop used bytes) ≡ record { frames = []; rest = drop used bytes; at = at; fault = None } = frames_by at (drop used bytes) (Ok None) e in
    let same : joined fs (frames at (drop used bytes)) ≡ stream_seen fs (record { used = used; at = at; fault = None }) bytes =
    ap (λ (s : Stream). joined fs s) last ∙ ap (λ (xs : List Frame). record { frames = xs; rest = drop used bytes; at = at; fault = None }) (append-nil fs) in
    sym same ∙ h

-- a fault
pub bad_next : (fs : List Frame) (at used : ℕ) (bytes : List ℕ) (f : FeedFault) (all : Stream) → Err f ≡ frame at (drop used bytes) → joined fs (frames at (drop used bytes)) ≡ all
    → stream_seen fs (record { used = length bytes; at = at; fault = Some f }) bytes ≡ all
bad_next fs at used bytes f all e h =
    let last : frames at (drop used bytes) ≡ record { frames = []; rest = []; at = at; fault = Some f } = frames_by at (drop used bytes) (Err f) e in
    let same : joined fs (frames at (drop used bytes)) ≡ record { frames = fs; rest = []; at = at; fault = Some f } =
    ap (λ (s : Stream). joined fs s) last ∙ ap (λ (xs : List Frame). record { frames = xs; rest = []; at = at; fault = Some f }) (append-nil fs) in
    let none : stream_seen fs (record { used = length bytes; at = at; fault = Some f }) bytes ≡ record { frames = fs; rest = []; at = at; fault = Some f } =
    ap (λ (xs : List ℕ). record { frames = fs; rest = xs; at = at; fault = Some f }) (drop_all (length bytes) bytes (omega arith)) in
    none ∙ (sym same ∙ h)

-- where a frame that was found lies
pub whole_inside : (r : Result (Option Whole) FeedFault) (w : Whole) (n : ℕ) → Ok (Some w) ≡ r → IfOk r (λ o. IfSome o (λ x. (12 ≤ x.size) × (x.size ≤ n))) → (12 ≤ w.size) × (w.size ≤ n)
whole_inside r w n e h = subst (λ (x : Result (Option Whole) FeedFault). IfOk x (λ o. IfSome o (λ y. (12 ≤ y.size) × (y.size ≤ n)))) (sym e) h
