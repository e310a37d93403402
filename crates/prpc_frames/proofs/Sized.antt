-- A whole frame has its header, and lies within the bytes.
use Rattle.std.proofs.Common.{◌≡◌, ℕ, ◌+◌, ◌≤◌, Bool, true, false, cond, ltb, List, length, take, drop, Option, Some, None, Result, Ok, Err, refl, arith}
use Rattle.std.proofs.lemmas.Bool.{ltb-false}
use Rattle.std.proofs.lemmas.List.{length-drop}
use Rattle.prpc_frames.specs.declared.fault.FeedFault.{FeedFault}
use Rattle.prpc_frames.specs.declared.fault.FeedFault.TheVariants.{TooLarge, MetaPastBody}
use Rattle.prpc_frames.specs.declared.header.Sizes.{Sizes}
use Rattle.prpc_frames.specs.declared.reading.Whole.{Whole}
use Rattle.prpc_frames.specs.Stream.Reading.{◌>>=◌, magic, begins, number_at, sizes, header, body, whole, frame}

-- what is there whole, if it is, has this
abbrev pub IfThere : {X : Type 0} → (X → Type 0) → Result (Option X) FeedFault → Type 0
IfThere P (Ok None) = Unit {0}
IfThere P (Ok (Some x)) = P x
IfThere P (Err e) = Unit {0}

bind_there : {X Y : Type 0} (P : Y → Type 0) (r : Result X FeedFault) (f : X → Result (Option Y) FeedFault) → ((x : X) → IfThere P (f x)) → IfThere P (r >>= f)
bind_there P (Ok x) f h = h x
bind_there P (Err e) f h = tt

option_there : {X Y : Type 0} (Q : X → Type 0) (P : Y → Type 0) (r : Result (Option X) FeedFault) (f : Option X → Result (Option Y) FeedFault) → IfThere Q r → IfThere P (f None)
    → ((x : X) → Q x → IfThere P (f (Some x))) → IfThere P (r >>= f)
option_there Q P (Ok None) f q n s = n
option_there Q P (Ok (Some x)) f q n s = s x q
option_there Q P (Err e) f q n s = tt

cond_there : {X : Type 0} (P : X → Type 0) (b : Bool) (x y : Result (Option X) FeedFault) → IfThere P x → (b ≡ false → IfThere P y) → IfThere P (cond b x y)
cond_there P true x y h k = h
cond_there P false x y h k = k refl

there_along : {X : Type 0} (P Q : X → Type 0) (r : Result (Option X) FeedFault) → ((x : X) → P x → Q x) → IfThere P r → IfThere Q r
there_along P Q (Ok None) f h = tt
there_along P Q (Ok (Some x)) f h = f x h
there_along P Q (Err e) f h = tt

sizes_there : (P : Sizes → Type 0) (at n m : ℕ) → ((s : Sizes) → P s) → IfThere P (sizes at n m)
unfolding sizes
sizes_there P at n m h =
    cond_there P (ltb 16777216 n) (Err (TooLarge at)) _ tt (λ _. cond_there P (ltb n m) (Err (MetaPastBody at)) (Ok (Some (record { body = n; meta = m }))) tt (λ _. h (record { body = n; meta = m })))

-- a header that is there has 12 bytes
pub header_there : (at : ℕ) (bytes : List ℕ) → IfThere (λ s. 12 ≤ length bytes) (header at bytes)
unfolding header
header_there at bytes =
    bind_there (λ s. 12 ≤ length bytes) (begins at magic bytes) _
    (λ _. cond_there (λ s. 12 ≤ length bytes) (ltb (length bytes) 12) (Ok None) (sizes at (number_at 4 bytes) (number_at 8 bytes)) tt
    (λ e. sizes_there (λ s. 12 ≤ length bytes) at (number_at 4 bytes) (number_at 8 bytes) (λ s. ltb-false (length bytes) 12 e)))

whole_there : (at : ℕ) (s : Sizes) (behind : List ℕ) → IfThere (λ w. (12 ≤ w.size) × (w.size ≤ 12 + length behind)) (whole at (Some s) behind)
unfolding whole
whole_there at s behind =
    let P : Whole → Type 0 = λ w. (12 ≤ w.size) × (w.size ≤ 12 + length behind) in
    cond_there P (ltb (length behind) s.body) (Ok None) _ tt
    (λ e. bind_there P (body at s.meta (take s.body behind)) (λ f. Ok (Some (record { frame = f; size = 12 + s.body }))) (λ f. (omega arith, omega (arith, ltb-false (length behind) s.body e))))

pub frame_there : (at : ℕ) (bytes : List ℕ) → IfThere (λ w. (12 ≤ w.size) × (w.size ≤ length bytes)) (frame at bytes)
unfolding frame whole
frame_there at bytes =
    let P : Whole → Type 0 = λ w. (12 ≤ w.size) × (w.size ≤ length bytes) in
    option_there (λ s. 12 ≤ length bytes) P (header at bytes) (λ s. whole at s (drop 12 bytes)) (header_there at bytes) tt
    (λ s long. there_along (λ w. (12 ≤ w.size) × (w.size ≤ 12 + length (drop 12 bytes))) P (whole at (Some s) (drop 12 bytes)) (λ w h. (h.0, omega (arith, length-drop 12 bytes, h.1, long)))
    (whole_there at s (drop 12 bytes)))
