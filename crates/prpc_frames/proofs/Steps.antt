-- The stream, one frame after the other.
use Rattle.std.proofs.Common.{◌≡◌, ℕ, zero, suc, ◌≤◌, List, [], ◌∷◌, length, drop, Option, Some, None, Result, Ok, Err, refl, ap, sym, ◌∙◌, arith}
use Rattle.std.proofs.lemmas.List.{length-drop}
use Rattle.prpc_frames.specs.declared.fault.FeedFault.{FeedFault}
use Rattle.prpc_frames.specs.declared.reading.Whole.{Whole}
use Rattle.prpc_frames.specs.Stream.Reading.{later, header, begins, whole, frame, Stream, before, first_of, frames_within, frames}
use Rattle.prpc_frames.proofs.Sized.{IfThere, frame_there}

-- with no bytes there is no frame and no fault
pub frame_none : (at : ℕ) → frame at [] ≡ Ok None
unfolding frame header begins whole
frame_none at = refl

first_alike : (n m at : ℕ) (bytes : List ℕ) → length bytes ≤ suc n → length bytes ≤ suc m → (r : Result (Option Whole) FeedFault) → IfThere (λ w. (12 ≤ w.size) × (w.size ≤ length bytes)) r
    → ((next : ℕ) (rest : List ℕ) → length rest ≤ n → length rest ≤ m → frames_within n next rest ≡ frames_within m next rest)
    → first_of at bytes r (λ next rest. frames_within n next rest) ≡ first_of at bytes r (λ next rest. frames_within m next rest)
first_alike n m at bytes h k (Ok None) w same = refl
first_alike n m at bytes h k (Ok (Some x)) w same =
    ap (λ (others : Stream). before x.frame others)
    (same (later at x.size) (drop x.size bytes) (omega (arith, length-drop x.size bytes, w.0, w.1)) (omega (arith, length-drop x.size bytes, w.0, w.1)))
first_alike n m at bytes h k (Err e) w same = refl

-- how many frames there may be doesn't matter where they are enough
pub frames_same : (n m at : ℕ) (bytes : List ℕ) → length bytes ≤ n → length bytes ≤ m → frames_within n at bytes ≡ frames_within m at bytes
unfolding frames_within
frames_same zero zero at bytes h k = refl
frames_same zero (suc m) at [] h k = sym (ap (λ r. first_of at [] r (λ next rest. frames_within m next rest)) (frame_none at))
frames_same zero (suc m) at (b ∷ bytes) h k = absurd (omega arith)
frames_same (suc n) zero at [] h k = ap (λ r. first_of at [] r (λ next rest. frames_within n next rest)) (frame_none at)
frames_same (suc n) zero at (b ∷ bytes) h k = absurd (omega arith)
frames_same (suc n) (suc m) at bytes h k = first_alike n m at bytes h k (frame at bytes) (frame_there at bytes) (λ next rest i j. frames_same n m next rest i j)

first_whole : (at : ℕ) (bytes : List ℕ) (r : Result (Option Whole) FeedFault) (n : ℕ) → length bytes ≡ suc n → IfThere (λ w. (12 ≤ w.size) × (w.size ≤ length bytes)) r
    → first_of at bytes r (λ next rest. frames_within n next rest) ≡ first_of at bytes r (λ next rest. frames next rest)
unfolding frames
first_whole at bytes (Ok None) n e w = refl
first_whole at bytes (Ok (Some x)) n e w =
    ap (λ (others : Stream). before x.frame others)
    (frames_same n (length (drop x.size bytes)) (later at x.size) (drop x.size bytes) (omega (arith, length-drop x.size bytes, w.0, w.1, e)) (omega arith))
first_whole at bytes (Err f) n e w = refl

-- the frame at the front, and then those of the rest
pub frames_first : (at : ℕ) (bytes : List ℕ) → frames at bytes ≡ first_of at bytes (frame at bytes) (λ next rest. frames next rest)
unfolding frames frames_within
frames_first at [] = sym (ap (λ r. first_of at [] r (λ next rest. frames next rest)) (frame_none at))
frames_first at (b ∷ bytes) = first_whole at (b ∷ bytes) (frame at (b ∷ bytes)) (length bytes) refl (frame_there at (b ∷ bytes))

pub frames_by : (at : ℕ) (bytes : List ℕ) (r : Result (Option Whole) FeedFault) → r ≡ frame at bytes → frames at bytes ≡ first_of at bytes r (λ next rest. frames next rest)
frames_by at bytes r e = frames_first at bytes ∙ ap (λ x. first_of at bytes x (λ next rest. frames next rest)) (sym e)

-- no bytes are no frames
pub frames_none : (at : ℕ) → frames at [] ≡ record { frames = []; rest = []; at = at; fault = None }
frames_none at = frames_by at [] (Ok None) (sym (frame_none at))
