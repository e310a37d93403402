-- A stream of which every frame was taken hands out the next whole frame.
use Rattle.std.proofs.Common.{◌≡◌, ◌≢◌, ℕ, ◌+◌, ◌*◌, ◌/◌, ◌%◌, ◌^◌, ◌<◌, ◌≤◌, ℤ, pos, List, [], ◌∷◌, ◌++◌, length, All, None, Some, Result, Ok, Err, ap, sym, refl, ◌∙◌, arith, length-append}
use Rattle.std.proofs.Common.{zero, suc, nat_lt, Bool, true, false, if◌then◌else◌}
use Rattle.std.proofs.lemmas.List.{append-nil}
use Rattle.std.proofs.lemmas.List.Elements.{All-cons, All-nil}
use Rattle.std.specs.Int.{w64, cast_unsigned}
use Rattle.rpc_meta.specs.declared.meta.ResponseMeta.{ResponseMeta}
use Rattle.rpc_meta.specs.Meta.Spelling.{groups_of, number_bytes, response_bytes, meta_bytes}
use Rattle.rpc_meta.proofs.Sizes.{length-text_bytes, response_size, meta_size}
use Rattle.prpc_frames.specs.declared.frame.Frame.{Frame}
use Rattle.prpc_frames.specs.declared.fault.FeedFault.{FeedFault}
use Rattle.prpc_frames.specs.declared.fault.FeedFault.TheVariants.{Magic, TooLarge, MetaPastBody, Meta, Compressed, Attachment, Memory}
use Rattle.prpc_frames.specs.Stream.Reading.{Stream, later, before, frames, frames_within, joined, fed, fed_after}
use Rattle.prpc_frames.specs.Stream.Spelling.{frame_bytes, body_bytes, all_bytes, IsFitting, IsTyped}
use Rattle.prpc_frames.specs.Seen.{Takes, HandsOut}
use Rattle.sim_run.specs.declared.wire.Reply.{Reply}
use Rattle.sim_run.specs.Link.{IsIdle, reply_frame}

-- what the law of spellings says
abbrev pub BeginsWithSpelled : Type 0
BeginsWithSpelled =
    (at : ℕ) (fs : List Frame) (more : List ℕ) → at < 2 ^ 64 → All (λ f. IsFitting f × IsTyped f.meta) fs
    → frames at (all_bytes fs ++ more) ≡ joined fs (frames (later at (length (all_bytes fs))) more)

-- the stream of one whole frame
abbrev pub holding : ℕ → Frame → Stream
holding at f = record { frames = f ∷ []; rest = []; at = at; fault = None }

spelled-once : BeginsWithSpelled → (at : ℕ) (f : Frame) → at < 2 ^ 64 → IsFitting f → IsTyped f.meta → frames at (frame_bytes f) ≡ holding (later at (length (all_bytes (f ∷ [])))) f
unfolding frames frames_within all_bytes
spelled-once law at f low fits typed =
    let all : all_bytes (f ∷ []) ++ [] ≡ frame_bytes f = append-nil (all_bytes (f ∷ [])) ∙ append-nil (frame_bytes f) in
    sym (ap (frames at) all) ∙ law at (f ∷ []) [] low (All-cons (λ f. IsFitting f × IsTyped f.meta) f [] (fits, typed) (All-nil (λ f. IsFitting f × IsTyped f.meta)))

pub one-frame : (f : Frame) → all_bytes (f ∷ []) ≡ frame_bytes f
unfolding all_bytes
one-frame f = append-nil (frame_bytes f)

-- A frame's bytes, fed to such a stream, are that frame.
pub fed-frame : BeginsWithSpelled → (s : Stream) (f : Frame) → IsIdle s → IsFitting f → IsTyped f.meta → fed s (frame_bytes f) ≡ holding (later s.at (length (all_bytes (f ∷ [])))) f
unfolding fed
fed-frame law s f idle fits typed =
    ap (λ o. fed_after o s (frame_bytes f)) idle.fault ∙ ap (λ fs. joined fs (frames s.at (s.rest ++ frame_bytes f))) idle.frames
    ∙ ap (λ (r : List ℕ). joined [] (frames s.at (r ++ frame_bytes f))) idle.rest ∙ spelled-once law s.at f idle.place fits typed

not-fed : (s t : Stream) (piece : List ℕ) (e : FeedFault) → IsIdle s → (fed s piece).fault ≡ None → Takes s piece (Err e) t → IsIdle t
not-fed s t piece Memory idle none same = rw same idle
not-fed s t piece (Magic at) idle none (is, fault) = absurd (let f = ap (λ (x : Stream). x.fault) is in cc)
not-fed s t piece (TooLarge at) idle none (is, fault) = absurd (let f = ap (λ (x : Stream). x.fault) is in cc)
not-fed s t piece (MetaPastBody at) idle none (is, fault) = absurd (let f = ap (λ (x : Stream). x.fault) is in cc)
not-fed s t piece (Meta at m) idle none (is, fault) = absurd (let f = ap (λ (x : Stream). x.fault) is in cc)
not-fed s t piece (Compressed at) idle none (is, fault) = absurd (let f = ap (λ (x : Stream). x.fault) is in cc)
not-fed s t piece (Attachment at) idle none (is, fault) = absurd (let f = ap (λ (x : Stream). x.fault) is in cc)

-- Where a frame's bytes weren't taken, the stream stays so.
pub feed-idle : BeginsWithSpelled → (s t : Stream) (f : Frame) (piece : List ℕ) (result : Result (Unit {0}) FeedFault) → IsIdle s → IsFitting f → IsTyped f.meta → piece ≡ frame_bytes f
    → ((done : Unit {0}) → result ≢ Ok done) → Takes s piece result t → IsIdle t
feed-idle law s t f piece (Ok done) idle fits typed is failed takes = absurd (failed done refl)
feed-idle law s t f piece (Err e) idle fits typed is failed takes =
    not-fed s t piece e idle (ap (λ p. (fed s p).fault) is ∙ ap (λ (x : Stream). x.fault) (fed-frame law s f idle fits typed)) takes

-- Where they were, the stream has that frame.
pub feed-taken : BeginsWithSpelled → (s t : Stream) (f : Frame) (piece : List ℕ) (done : Unit {0}) → IsIdle s → IsFitting f → IsTyped f.meta → piece ≡ frame_bytes f → Takes s piece (Ok done) t
    → t ≡ holding (later s.at (length (all_bytes (f ∷ [])))) f
feed-taken law s t f piece done idle fits typed is takes = takes.0 ∙ ap (fed s) is ∙ fed-frame law s f idle fits typed

-- That frame is handed out, and the stream is as before.
pub handed-out : (at : ℕ) (f g : Frame) (s t : Stream) → at < 2 ^ 64 → s ≡ holding at f → HandsOut s (Some g) t → (g ≡ f) × IsIdle t × (t.at ≡ at)
handed-out at f g s t low is out =
    let both : before g t ≡ holding at f = sym out ∙ is in
    let frames' : g ∷ t.frames ≡ f ∷ [] = ap (λ (x : Stream). x.frames) both in
    let first : g ≡ f = cc in (
      first,
      record {
        frames = cc;
        rest = ap (λ (x : Stream). x.rest) both;
        fault = ap (λ (x : Stream). x.fault) both;
        place = rw (ap (λ (x : Stream). x.at) both) low;
      },
      ap (λ (x : Stream). x.at) both,
    )

-- ---- a reply fits

group-few : (b : Bool) (n m most : ℕ) (rest : List ℕ) → length rest ≤ most → length (if b then n ∷ [] else m ∷ rest) ≤ suc most
group-few true n m most rest h = omega arith
group-few false n m most rest h = omega (arith, h)

groups-few : (most n : ℕ) → length (groups_of most n) ≤ most
unfolding groups_of
groups-few zero n = omega arith
groups-few (suc most) n = group-few (nat_lt n 128) n (n % 128 + 128) most (groups_of most (n / 128)) (groups-few most (n / 128))

number-few : (field : ℕ) (z : ℤ) → length (number_bytes field z) ≤ 20
unfolding number_bytes
number-few field z =
    let a = groups-few 10 (field * 8) in
    let b = groups-few 10 (cast_unsigned w64 z) in
    omega (arith, length-append (groups_of 10 (field * 8)) (groups_of 10 (cast_unsigned w64 z)), a, b)

pub reply-fits : (r : Reply) → length r.text ≤ 60000 → IsFitting (reply_frame r)
unfolding body_bytes
reply-fits r short =
    let m = (reply_frame r).meta in
    let response : ResponseMeta = record { code = Some (pos r.code); text = None } in
    let code = number-few 1 (pos r.code) in
    let id = number-few 4 (pos r.id) in
    let whole = meta_size m in
    let inner = response_size response in
    let outer = length-text_bytes 2 (response_bytes response) in
    let key = groups-few 10 (2 * 8 + 2) in
    let size = groups-few 10 (length (response_bytes response)) in
    let small : length (meta_bytes m) ≤ 60 = omega (arith, whole, inner, outer, code, id, key, size) in
    record {
      size = omega (arith, small, short, length-append (meta_bytes m ++ r.text) [], length-append (meta_bytes m) r.text);
      told = refl;
      plain = tt;
      writable = record { names = tt; attachment = tt };
    }
