-- How far the frames that waited were answered.
use Rattle.std.proofs.Common.{◌≡◌, ℕ, ◌+◌, ◌≤◌, Bool, true, false, cond, List, [], ◌∷◌, ◌++◌, length, take, Option, Some, None, refl, append_assoc, append-nil, ◌∙◌, ap, sym, arith, subst}
use Rattle.std.proofs.Math.Seq.{take-append-add}
use Rattle.std.proofs.lemmas.List.{length-append, take-append-le}
use Rattle.std.specs.Io.KnownBytes.{append_known}
use Rattle.prpc_frames.specs.declared.frame.Frame.{Frame}
use Rattle.prpc_frames.specs.Stream.Reading.{Stream, before}
use Rattle.echo_server.specs.Answers.{Turn, after}
use Rattle.echo_server.specs.Serving.{text_for, closes, texts, closes_in, after_all}
use Rattle.rpc_base.specs.Causes.{Rose}
use Rattle.echo_server.specs.declared.served.Halt.{Halt}
use Rattle.echo_server.specs.declared.served.Halt.TheVariants as halt
use Rattle.echo_server.specs.Ends.{IsPart, Halts}
use Rattle.echo_server.proofs.Pieces.{append_known-more}

-- Of the answers to the first frames, those to the frames left are still to be written.
pub record Answered (out0 out : Option (List ℕ)) (t0 t : Turn) (fs0 fs : List Frame) : Type 0 where
  pub done : List ℕ
  pub wrote : out ≡ append_known out0 done
  pub text : done ++ texts t fs ≡ texts t0 fs0
  pub close : closes_in t fs ≡ closes_in t0 fs0
  pub turn : after_all t fs ≡ after_all t0 fs0

pub append_known-nil : (a : Option (List ℕ)) → a ≡ append_known a []
append_known-nil None = refl
append_known-nil (Some xs) = ap (λ (l : List ℕ). Some l) (sym (append-nil xs))

-- Nothing is written yet.
pub begun : (out0 : Option (List ℕ)) (t0 : Turn) (fs0 : List Frame) → Answered out0 out0 t0 t0 fs0 fs0
begun out0 t0 fs0 = record { done = []; wrote = append_known-nil out0; text = refl; close = refl; turn = refl }

texts-cond : (t : Turn) (f : Frame) (fs : List Frame) (b : Bool) → closes t f ≡ b → texts t (f ∷ fs) ≡ text_for t f ++ cond b [] (texts (after t f) fs)
unfolding texts
texts-cond t f fs b e = ap (λ (x : Bool). text_for t f ++ cond x [] (texts (after t f) fs)) e

closes-or : (t : Turn) (f : Frame) (fs : List Frame) (b : Bool) → closes t f ≡ b → closes_in t (f ∷ fs) ≡ cond b true (closes_in (after t f) fs)
unfolding closes_in
closes-or t f fs true e = rw e refl
closes-or t f fs false e = rw e refl

after-one : (t : Turn) (f : Frame) (fs : List Frame) → after_all t (f ∷ fs) ≡ after_all (after t f) fs
unfolding after_all
after-one t f fs = refl

-- One more answer is written, which doesn't say close.
pub answered : (out0 out out' : Option (List ℕ)) (t0 t : Turn) (fs0 : List Frame) (f : Frame) (fs : List Frame) → Answered out0 out t0 t fs0 (f ∷ fs)
    → out' ≡ append_known out (text_for t f) → closes t f ≡ false → Answered out0 out' t0 (after t f) fs0 fs
answered out0 out out' t0 t fs0 f fs a w goes = record {
  done = a.done ++ text_for t f;
  wrote = w ∙ (ap (λ (o : Option (List ℕ)). append_known o (text_for t f)) a.wrote ∙ append_known-more out0 a.done (text_for t f));
  text = append_assoc a.done (text_for t f) (texts (after t f) fs) ∙ (ap (λ (l : List ℕ). a.done ++ l) (sym (texts-cond t f fs false goes)) ∙ a.text);
  close = sym (closes-or t f fs false goes) ∙ a.close;
  turn = sym (after-one t f fs) ∙ a.turn;
}

-- The last answer is written, which says close.
pub closed : (out0 out out' : Option (List ℕ)) (t0 t : Turn) (fs0 : List Frame) (f : Frame) (fs : List Frame) → Answered out0 out t0 t fs0 (f ∷ fs)
    → out' ≡ append_known out (text_for t f) → closes t f ≡ true → (out' ≡ append_known out0 (texts t0 fs0)) × (closes_in t0 fs0 ≡ true)
closed out0 out out' t0 t fs0 f fs a w close =
    let last : a.done ++ text_for t f ≡ texts t0 fs0 = ap (λ (l : List ℕ). a.done ++ l) (sym (append-nil (text_for t f)) ∙ sym (texts-cond t f fs true close)) ∙ a.text in (
      w ∙ (ap (λ (o : Option (List ℕ)). append_known o (text_for t f)) a.wrote ∙ (append_known-more out0 a.done (text_for t f) ∙ ap (λ (l : List ℕ). append_known out0 l) last)),
      sym a.close ∙ closes-or t f fs true close,
    )

-- A front of more is a front.
front : (done more all : List ℕ) (n : ℕ) → done ++ more ≡ all → n ≤ length more → (m : ℕ) × (m ≤ length all) × (take m all ≡ done ++ take n more)
front done more all n e h = (
  length done + n,
  (let l : length (done ++ more) ≡ length all = ap (λ (xs : List ℕ). length xs) e in omega (arith, length-append done more)),
  ap (λ (xs : List ℕ). take (length done + n) xs) (sym e) ∙ take-append-add done more n,
)

pub part-front : (out0 out out' : Option (List ℕ)) (done more all : List ℕ) → out ≡ append_known out0 done → done ++ more ≡ all → IsPart out out' more → IsPart out0 out' all
part-front out0 out out' done more all w e p =
    let f = front done more all p.0 e p.1 in
    (f.0, f.1, p.2 ∙ (ap (λ (o : Option (List ℕ)). append_known o (take p.0 more)) w ∙ (append_known-more out0 done (take p.0 more) ∙ ap (λ (l : List ℕ). append_known out0 l) (sym f.2))))

-- Of one more answer a front is written.
pub broken : (out0 out out' : Option (List ℕ)) (t0 t : Turn) (fs0 : List Frame) (f : Frame) (fs : List Frame) → Answered out0 out t0 t fs0 (f ∷ fs)
    → IsPart out out' (text_for t f) → IsPart out0 out' (texts t0 fs0)
broken out0 out out' t0 t fs0 f fs a p =
    let more = cond (closes t f) [] (texts (after t f) fs) in
    let all : a.done ++ (text_for t f ++ more) ≡ texts t0 fs0 = ap (λ (l : List ℕ). a.done ++ l) (sym (texts-cond t f fs (closes t f) refl)) ∙ a.text in
    let sized : p.0 ≤ length (text_for t f ++ more) = omega (arith, length-append (text_for t f) more, p.1) in
    part-front out0 out out' a.done (text_for t f ++ more) (texts t0 fs0) a.wrote all (p.0, sized, p.2 ∙ ap (λ (l : List ℕ). append_known out l) (sym (take-append-le p.0 (text_for t f) more p.1)))

-- Nothing more is written.
pub stopped : (out0 out : Option (List ℕ)) (t0 t : Turn) (fs0 fs : List Frame) → Answered out0 out t0 t fs0 fs → IsPart out0 out (texts t0 fs0)
stopped out0 out t0 t fs0 fs a = part-front out0 out out a.done (texts t fs) (texts t0 fs0) a.wrote a.text (0, omega arith, append_known-nil out)

-- All is written.
pub all_answered : (out0 out : Option (List ℕ)) (t0 t : Turn) (fs0 : List Frame) → Answered out0 out t0 t fs0 []
    → (out ≡ append_known out0 (texts t0 fs0)) × (closes_in t0 fs0 ≡ false) × (t ≡ after_all t0 fs0)
unfolding texts closes_in after_all
all_answered out0 out t0 t fs0 a = (a.wrote ∙ ap (λ (l : List ℕ). append_known out0 l) (sym (append-nil a.done) ∙ a.text), sym a.close, a.turn)

-- A later count of faults rose at least as far.
pub rose-later : (a b n : ℕ) → a ≤ b → Rose b n → Rose a n
rose-later a b n h r = omega (arith, h, r)

-- Answering one of the frames stopped, and so does answering all.
pub halted : (out0 out out' : Option (List ℕ)) (t0 t : Turn) (fs0 : List Frame) (f : Frame) (fs : List Frame) (b0 b n : ℕ) → Answered out0 out t0 t fs0 (f ∷ fs) → b0 ≤ b
    → (h : Halt) → Halts out out' (text_for t f) (closes t f) b n h → Halts out0 out' (texts t0 fs0) (closes_in t0 fs0) b0 n h
halted out0 out out' t0 t fs0 f fs b0 b n a later halt.Closed p = closed out0 out out' t0 t fs0 f fs a p.0 p.1
halted out0 out out' t0 t fs0 f fs b0 b n a later halt.WriteFault p = (broken out0 out out' t0 t fs0 f fs a p.0, rose-later b0 b n later p.1)
halted out0 out out' t0 t fs0 f fs b0 b n a later halt.Memory p = broken out0 out out' t0 t fs0 f fs a p

-- the same of a stream that hands out one frame
pub step : (out0 out out' : Option (List ℕ)) (t0 t t' : Turn) (fs0 : List Frame) (s s' : Stream) (f : Frame) → Answered out0 out t0 t fs0 s.frames → s ≡ before f s'
    → out' ≡ append_known out (text_for t f) → closes t f ≡ false → t' ≡ after t f → Answered out0 out' t0 t' fs0 s'.frames
step out0 out out' t0 t t' fs0 s s' f a e w goes turn =
    let a' : Answered out0 out t0 t fs0 (f ∷ s'.frames) = subst (λ (x : Stream). Answered out0 out t0 t fs0 x.frames) e a in
    subst (λ (x : Turn). Answered out0 out' t0 x fs0 s'.frames) (sym turn) (answered out0 out out' t0 t fs0 f s'.frames a' w goes)

pub stays : (s0 s s' : Stream) (f : Frame) → s ≡ record s0 { frames = s.frames } → s ≡ before f s' → s' ≡ record s0 { frames = s'.frames }
stays s0 s s' f e h = ap (λ (x : Stream). record x { frames = s'.frames }) (sym h ∙ e)

pub halts : (out0 out out' : Option (List ℕ)) (t0 t : Turn) (fs0 : List Frame) (s s' : Stream) (f : Frame) (b0 b n : ℕ) (h : Halt) → Answered out0 out t0 t fs0 s.frames → s ≡ before f s' → b0 ≤ b
    → Halts out out' (text_for t f) (closes t f) b n h → Halts out0 out' (texts t0 fs0) (closes_in t0 fs0) b0 n h
halts out0 out out' t0 t fs0 s s' f b0 b n h a e later p =
    halted out0 out out' t0 t fs0 f s'.frames b0 b n (subst (λ (x : Stream). Answered out0 out t0 t fs0 x.frames) e a) later h p

pub all : (out0 out : Option (List ℕ)) (t0 t : Turn) (fs0 : List Frame) (s : Stream) → Answered out0 out t0 t fs0 s.frames → s.frames ≡ [] → out ≡ append_known out0 (texts t0 fs0)
all out0 out t0 t fs0 s a e = (all_answered out0 out t0 t fs0 (subst (λ (x : List Frame). Answered out0 out t0 t fs0 x) e a)).0

pub none_closes : (out0 out : Option (List ℕ)) (t0 t : Turn) (fs0 : List Frame) (s : Stream) → Answered out0 out t0 t fs0 s.frames → s.frames ≡ [] → closes_in t0 fs0 ≡ false
none_closes out0 out t0 t fs0 s a e = (all_answered out0 out t0 t fs0 (subst (λ (x : List Frame). Answered out0 out t0 t fs0 x) e a)).1

pub turn_is : (out0 out : Option (List ℕ)) (t0 t : Turn) (fs0 : List Frame) (s : Stream) → Answered out0 out t0 t fs0 s.frames → s.frames ≡ [] → t ≡ after_all t0 fs0
turn_is out0 out t0 t fs0 s a e = (all_answered out0 out t0 t fs0 (subst (λ (x : List Frame). Answered out0 out t0 t fs0 x) e a)).2

pub left : (s0 s : Stream) → s ≡ record s0 { frames = s.frames } → s.frames ≡ [] → s ≡ record s0 { frames = [] }
left s0 s e none = e ∙ ap (λ (x : List Frame). record s0 { frames = x }) none
