-- The stream doesn't depend on how its bytes are cut.
use Rattle.std.proofs.Common.{◌≡◌, ℕ, zero, suc, ◌≤◌, List, [], ◌∷◌, ◌++◌, length, drop, Option, Some, None, Result, Ok, Err, refl, ap, sym, ◌∙◌, arith}
use Rattle.std.proofs.lemmas.List.{length-drop, drop-append-le, append_assoc, append-nil}
use Rattle.prpc_frames.specs.declared.fault.FeedFault.{FeedFault}
use Rattle.prpc_frames.specs.declared.frame.Frame.{Frame}
use Rattle.prpc_frames.specs.declared.reading.Whole.{Whole}
use Rattle.prpc_frames.specs.Stream.Reading.{later, frame, Stream, before, first_of, frames, begun, fed, fed_all, all_of}
use Rattle.prpc_frames.proofs.Sized.{IfThere, frame_there}
use Rattle.prpc_frames.proofs.Steps.{frames_first, frames_by, frames_none}
use Rattle.prpc_frames.proofs.More.{Stays, frame_stays}

before_after : (f : Frame) (fs : List Frame) (rest : List ℕ) (at : ℕ) (fault : Option FeedFault) (piece : List ℕ)
    → fed (record { frames = f ∷ fs; rest = rest; at = at; fault = fault }) piece ≡ before f (fed (record { frames = fs; rest = rest; at = at; fault = fault }) piece)
unfolding fed
before_after f fs rest at None piece = refl
before_after f fs rest at (Some e) piece = refl

-- a frame that waits in front changes nothing of what a piece brings
pub fed_before : (f : Frame) (s : Stream) (piece : List ℕ) → fed (before f s) piece ≡ before f (fed s piece)
fed_before f s piece = before_after f s.frames s.rest s.at s.fault piece

-- the bytes up to a cut, and then those behind it, from what stands in front
cut_at : (n at : ℕ) (a b : List ℕ) → length a ≤ suc n → (r : Result (Option Whole) FeedFault) → r ≡ frame at a → IfThere (λ w. (12 ≤ w.size) × (w.size ≤ length a)) r → Stays r (frame at (a ++ b))
    → ((next : ℕ) (rest : List ℕ) → length rest ≤ n → fed (frames next rest) b ≡ frames next (rest ++ b)) → fed (first_of at a r (λ next rest. frames next rest)) b ≡ frames at (a ++ b)
unfolding fed
cut_at n at a b h (Ok None) e there stays others = refl
cut_at n at a b h (Ok (Some w)) e there stays others =
    let next : fed (frames (later at w.size) (drop w.size a)) b ≡ frames (later at w.size) (drop w.size a ++ b) =
    others (later at w.size) (drop w.size a) (omega (arith, length-drop w.size a, there.0, there.1)) in
    let along : drop w.size a ++ b ≡ drop w.size (a ++ b) = sym (drop-append-le w.size a b there.1) in
    fed_before w.frame (frames (later at w.size) (drop w.size a)) b
    ∙ (ap (λ (s : Stream). before w.frame s) (next ∙ ap (λ (xs : List ℕ). frames (later at w.size) xs) along) ∙ sym (frames_by at (a ++ b) (Ok (Some w)) (sym stays)))
cut_at n at a b h (Err f) e there stays others = sym (frames_by at (a ++ b) (Err f) (sym stays))

cut_within : (n at : ℕ) (a b : List ℕ) → length a ≤ n → fed (frames at a) b ≡ frames at (a ++ b)
unfolding fed
cut_within zero at [] b h = ap (λ (s : Stream). fed s b) (frames_none at)
cut_within zero at (x ∷ a) b h = absurd (omega arith)
cut_within (suc n) at a b h =
    ap (λ (s : Stream). fed s b) (frames_first at a) ∙ cut_at n at a b h (frame at a) refl (frame_there at a) (frame_stays at a b) (λ next rest k. cut_within n next rest b k)

-- bytes that are cut in two
pub cut : (at : ℕ) (a b : List ℕ) → fed (frames at a) b ≡ frames at (a ++ b)
cut at a b = cut_within (length a) at a b (omega arith)

cut_all : (at : ℕ) (a : List ℕ) (pieces : List (List ℕ)) → fed_all (frames at a) pieces ≡ frames at (a ++ all_of pieces)
unfolding fed_all all_of
cut_all at a [] = sym (ap (λ (xs : List ℕ). frames at xs) (append-nil a))
cut_all at a (p ∷ pieces) =
    ap (λ (s : Stream). fed_all s pieces) (cut at a p) ∙ (cut_all at (a ++ p) pieces ∙ ap (λ (xs : List ℕ). frames at xs) (append_assoc a p (all_of pieces)))

-- any pieces are their bytes
pub pieces_are : (pieces : List (List ℕ)) → fed_all begun pieces ≡ frames 0 (all_of pieces)
pieces_are pieces = ap (λ (s : Stream). fed_all s pieces) (sym (frames_none 0)) ∙ cut_all 0 [] pieces
