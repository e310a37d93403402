-- The spelling of a frame is read as that frame.
use Rattle.std.proofs.Common.{◌≡◌, ℕ, suc, All, ◌+◌, ◌-◌, ◌^◌, ◌≤◌, ◌<◌, ℤ, pos, false, ltb, List, [], ◌∷◌, ◌++◌, length, drop, Option, Some, None, Ok, IfSome, refl, ap, sym, ◌∙◌, arith}
use Rattle.std.proofs.lemmas.Bool.{le-ltb}
use Rattle.std.proofs.lemmas.List.{length-append, drop-drop, append_assoc}
use Rattle.std.proofs.Math.Seq.{take-append_seam, drop-append_seam}
use Rattle.byteorder.specs.Endian.{big_number}
use Rattle.byteorder.specs.Numbers.{big_number-reads_back, length-bytes_high_first}
use Rattle.rpc_meta.specs.declared.meta.Meta as meta_type
use Rattle.rpc_meta.specs.Meta.{meta, meta_bytes}
use Rattle.rpc_meta.specs.Meta.Spelling.{IsWritable, IsSized}
use Rattle.prpc_frames.specs.declared.frame.Frame.{Frame}
use Rattle.prpc_frames.specs.Stream.Reading.{later, magic, begins, number_at, sizes, header, is_compressed, attached, content, body, whole, frame, Stream, before, frames, joined}
use Rattle.prpc_frames.specs.Stream.Spelling.{number_bytes, body_bytes, frame_bytes, all_bytes, IsTold, IsFitting, IsTyped}
use Rattle.prpc_frames.proofs.Small.{small_sized}
use Rattle.prpc_frames.proofs.Steps.{frames_by}

-- ---- the header

-- the magic, two numbers of four bytes, and what follows
abbrev laid : List ℕ → List ℕ → List ℕ → List ℕ
laid xs ys tail = 80 ∷ 82 ∷ 80 ∷ 67 ∷ (xs ++ (ys ++ tail))

past : (n : ℕ) (xs ys : List ℕ) → length xs ≡ n → drop n (xs ++ ys) ≡ ys
past n xs ys h = ap (λ k. drop k (xs ++ ys)) (sym h) ∙ drop-append_seam xs ys

four : (n : ℕ) → length (number_bytes n) ≡ 4
unfolding number_bytes
four n = length-bytes_high_first 4 n

read_back : (n : ℕ) (rest : List ℕ) → n < 2 ^ 32 → big_number 4 (number_bytes n ++ rest) ≡ n
unfolding number_bytes
read_back n rest h = big_number-reads_back 4 n rest h

first_number : (n m : ℕ) (tail : List ℕ) → n < 2 ^ 32 → number_at 4 (laid (number_bytes n) (number_bytes m) tail) ≡ n
unfolding number_at
first_number n m tail h = read_back n (number_bytes m ++ tail) h

second_number : (n m : ℕ) (tail : List ℕ) → m < 2 ^ 32 → number_at 8 (laid (number_bytes n) (number_bytes m) tail) ≡ m
unfolding number_at
second_number n m tail h = ap (λ (xs : List ℕ). big_number 4 xs) (past 4 (number_bytes n) (number_bytes m ++ tail) (four n)) ∙ read_back m tail h

behind_header : (n m : ℕ) (tail : List ℕ) → drop 12 (laid (number_bytes n) (number_bytes m) tail) ≡ tail
behind_header n m tail =
    let xs : List ℕ = number_bytes n ++ (number_bytes m ++ tail) in
    let one : drop 4 xs ≡ number_bytes m ++ tail = past 4 (number_bytes n) (number_bytes m ++ tail) (four n) in
    sym (drop-drop 4 4 xs) ∙ (ap (λ (ys : List ℕ). drop 4 ys) one ∙ past 4 (number_bytes m) tail (four m))

laid_long : (n m : ℕ) (tail : List ℕ) → 12 ≤ length (laid (number_bytes n) (number_bytes m) tail)
laid_long n m tail = omega (arith, length-append (number_bytes n) (number_bytes m ++ tail), length-append (number_bytes m) tail, four n, four m)

sizes_said : (at n m : ℕ) → n ≤ 16777216 → m ≤ n → sizes at n m ≡ Ok (Some (record { body = n; meta = m }))
unfolding sizes
sizes_said at n m h k = rw (le-ltb 16777216 n h, le-ltb n m k) refl

header_said : (at n m : ℕ) (tail : List ℕ) → n ≤ 16777216 → m ≤ n → header at (laid (number_bytes n) (number_bytes m) tail) ≡ Ok (Some (record { body = n; meta = m }))
unfolding header begins
header_said at n m tail h k =
    let long : ltb (length (laid (number_bytes n) (number_bytes m) tail)) 12 ≡ false = le-ltb _ 12 (laid_long n m tail) in
    rw (long, first_number n m tail (omega (arith, h)), second_number n m tail (omega (arith, h, k))) (sizes_said at n m h k)

-- ---- the body

plain : (o : Option ℤ) → IfSome o (λ z. z ≡ pos 0) → is_compressed o ≡ false
plain None h = refl
plain (Some z) h = ap (λ (y : ℤ). is_compressed (Some y)) h

told : (o : Option ℤ) (n : ℕ) → IsTold o n → attached o ≡ n
told None n h = sym h
told (Some z) n h = ap (λ (y : ℤ). attached (Some y)) h

content_said : (at : ℕ) (m : meta_type.Meta) (p a : List ℕ) → is_compressed m.compress ≡ false → attached m.attachment ≡ length a
    → content at m (p ++ a) ≡ Ok (record { meta = m; payload = p; attachment = a })
unfolding content
content_said at m p a e1 e2 =
    let size : length (p ++ a) - length a ≡ length p = omega (arith, length-append p a) in
    let e3 : ltb (length (p ++ a)) (length a) ≡ false = le-ltb (length (p ++ a)) (length a) (omega (arith, length-append p a)) in
    rw (e1, e2, e3, size, take-append_seam p a, drop-append_seam p a) refl

body_said : (at : ℕ) (f : Frame) → meta (meta_bytes f.meta) ≡ Ok f.meta → IsFitting f → body at (length (meta_bytes f.meta)) (body_bytes f) ≡ Ok f
unfolding body body_bytes
body_said at f again fits =
    let front : meta_bytes f.meta ++ f.payload ++ f.attachment ≡ meta_bytes f.meta ++ (f.payload ++ f.attachment) = append_assoc (meta_bytes f.meta) f.payload f.attachment in
    rw (front, take-append_seam (meta_bytes f.meta) (f.payload ++ f.attachment), drop-append_seam (meta_bytes f.meta) (f.payload ++ f.attachment), again)
    (content_said at f.meta f.payload f.attachment (plain f.meta.compress fits.plain) (told f.meta.attachment (length f.attachment) fits.told))

-- ---- the frame

laid_out : (f : Frame) (more : List ℕ) → frame_bytes f ++ more ≡ laid (number_bytes (length (body_bytes f))) (number_bytes (length (meta_bytes f.meta))) (body_bytes f ++ more)
unfolding frame_bytes
laid_out f more =
    let xs : List ℕ = number_bytes (length (body_bytes f)) in let ys : List ℕ = number_bytes (length (meta_bytes f.meta)) in
    append_assoc (magic ++ xs ++ ys) (body_bytes f) more ∙ (append_assoc (magic ++ xs) ys (body_bytes f ++ more) ∙ append_assoc magic xs (ys ++ (body_bytes f ++ more)))

meta_within : (f : Frame) → length (meta_bytes f.meta) ≤ length (body_bytes f)
unfolding body_bytes
meta_within f = omega (arith, length-append (meta_bytes f.meta ++ f.payload) f.attachment, length-append (meta_bytes f.meta) f.payload)

whole_said : (at : ℕ) (f : Frame) (more : List ℕ) → meta (meta_bytes f.meta) ≡ Ok f.meta → IsFitting f
    → whole at (Some (record { body = length (body_bytes f); meta = length (meta_bytes f.meta) })) (body_bytes f ++ more) ≡ Ok (Some (record { frame = f; size = 12 + length (body_bytes f) }))
unfolding whole
whole_said at f more again fits =
    let long : ltb (length (body_bytes f ++ more)) (length (body_bytes f)) ≡ false = le-ltb _ _ (omega (arith, length-append (body_bytes f) more)) in
    rw (long, take-append_seam (body_bytes f) more, body_said at f again fits) refl

frame_said : (at : ℕ) (f : Frame) (more : List ℕ) → meta (meta_bytes f.meta) ≡ Ok f.meta → IsFitting f
    → frame at (frame_bytes f ++ more) ≡ Ok (Some (record { frame = f; size = 12 + length (body_bytes f) }))
unfolding frame
frame_said at f more again fits =
    rw (
      laid_out f more,
      header_said at (length (body_bytes f)) (length (meta_bytes f.meta)) (body_bytes f ++ more) fits.size (meta_within f),
      behind_header (length (body_bytes f))
          (length (meta_bytes f.meta)) (body_bytes f ++ more),
    )
    (whole_said at f more again fits)

frame_size : (f : Frame) → length (frame_bytes f) ≡ 12 + length (body_bytes f)
unfolding frame_bytes
frame_size f =
    let xs : List ℕ = number_bytes (length (body_bytes f)) in let ys : List ℕ = number_bytes (length (meta_bytes f.meta)) in
    omega (arith, length-append (magic ++ xs ++ ys) (body_bytes f), length-append (magic ++ xs) ys, length-append magic xs, four (length (body_bytes f)), four (length (meta_bytes f.meta)))

-- the stream of a spelling and what follows
pub spelled_first : (at : ℕ) (f : Frame) (more : List ℕ) → meta (meta_bytes f.meta) ≡ Ok f.meta → IsFitting f
    → frames at (frame_bytes f ++ more) ≡ before f (frames (later at (length (frame_bytes f))) more)
spelled_first at f more again fits =
    let first : frames at (frame_bytes f ++ more) ≡ before f (frames (later at (12 + length (body_bytes f))) (drop (12 + length (body_bytes f)) (frame_bytes f ++ more))) =
    frames_by at (frame_bytes f ++ more) (Ok (Some (record { frame = f; size = 12 + length (body_bytes f) }))) (sym (frame_said at f more again fits)) in
    let along : drop (12 + length (body_bytes f)) (frame_bytes f ++ more) ≡ more = past (12 + length (body_bytes f)) (frame_bytes f) more (frame_size f) in
    first ∙ (ap (λ (xs : List ℕ). before f (frames (later at (12 + length (body_bytes f))) xs)) along ∙ ap (λ (n : ℕ). before f (frames (later at n) more)) (sym (frame_size f)))

-- ---- frames one after the other

later_none : (at : ℕ) → at < 2 ^ 64 → at ≡ later at 0
later_none at h = grind arith

later_twice : (at n m : ℕ) → later (later at n) m ≡ later at (n + m)
later_twice at n m = grind arith

-- the stream of spellings and what follows
pub spelled_all : ((m : meta_type.Meta) → IsWritable m → IsSized m → meta (meta_bytes m) ≡ Ok m) → (at : ℕ) (fs : List Frame) (more : List ℕ) → at < 2 ^ 64 → All (λ f. IsFitting f × IsTyped f.meta) fs
    → frames at (all_bytes fs ++ more) ≡ joined fs (frames (later at (length (all_bytes fs))) more)
unfolding all_bytes
spelled_all again at [] more h each = ap (λ (n : ℕ). frames n more) (later_none at h)
spelled_all again at (f ∷ fs) more h each =
    let here : IsFitting f × IsTyped f.meta = each 0 f (omega arith) in
    let next : ℕ = later at (length (frame_bytes f)) in
    let one : frames at (frame_bytes f ++ (all_bytes fs ++ more)) ≡ before f (frames next (all_bytes fs ++ more)) =
    spelled_first at f (all_bytes fs ++ more) (again f.meta here.0.writable (small_sized f.meta here.1 (omega (arith, meta_within f, here.0.size)))) here.0 in
    let two : frames next (all_bytes fs ++ more) ≡ joined fs (frames (later next (length (all_bytes fs))) more) =
    spelled_all again next fs more (omega arith) (λ k d lt. each (suc k) d (omega arith)) in
    let place : later next (length (all_bytes fs)) ≡ later at (length (frame_bytes f ++ all_bytes fs)) =
    later_twice at (length (frame_bytes f)) (length (all_bytes fs)) ∙ ap (λ (n : ℕ). later at n) (sym (length-append (frame_bytes f) (all_bytes fs))) in
    ap (λ (xs : List ℕ). frames at xs) (append_assoc (frame_bytes f) (all_bytes fs) more)
    ∙ (one ∙ ap (λ (s : Stream). before f s) (two ∙ ap (λ (n : ℕ). joined fs (frames n more)) place))
