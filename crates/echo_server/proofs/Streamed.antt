-- How far a stream was answered between two reads.
use Rattle.std.proofs.Common.{◌≡◌, ℕ, ◌≤◌, Bool, true, false, cond, ◌||◌, List, [], ◌∷◌, ◌++◌, Option, Some, None, refl, append_assoc, append-nil, ◌∙◌, ap, sym, arith, subst}
use Rattle.std.specs.Io.KnownBytes.{append_known}
use Rattle.std.proofs.lemmas.Bool.{true≢false}
use Rattle.prpc_frames.specs.declared.frame.Frame.{Frame}
use Rattle.prpc_frames.specs.declared.fault.FeedFault.{FeedFault}
use Rattle.prpc_frames.specs.Stream.Reading.{Stream, before, joined, frames, begun, fed}
use Rattle.prpc_frames.proofs.Pieces.{cut, fed_before}
use Rattle.prpc_frames.proofs.Steps.{frames_none}
use Rattle.rpc_base.specs.Causes.{Rose}
use Rattle.echo_server.specs.declared.served.Served.TheVariants as served
use Rattle.echo_server.specs.declared.piece.Brought.{Brought}
use Rattle.echo_server.specs.declared.piece.Brought.TheVariants as brought
use Rattle.echo_server.specs.declared.served.Halt.{Halt}
use Rattle.echo_server.specs.declared.served.Halt.TheVariants as halt
use Rattle.echo_server.specs.Halted.{served_of}
use Rattle.echo_server.specs.Answers.{Turn, after}
use Rattle.echo_server.specs.Serving.{text_for, closes, texts, closes_in, after_all}
use Rattle.prpc_frames.specs.Seen.{IsFinal}
use Rattle.echo_server.specs.Ends.{Halts, FeedsOne, Brings, AnswersAll, HasServed}
use Rattle.echo_server.proofs.Pieces.{append_known-more}
use Rattle.echo_server.proofs.Answered.{append_known-nil, part-front}

-- Of the bytes read, the frames in front were answered, and the stream has the others.
pub record Serving (in0 now out0 out : Option (List ℕ)) (t0 t : Turn) (s : Stream) : Type 0 where
  pub read : List ℕ
  pub took : now ≡ append_known in0 read
  pub done : List Frame
  pub stream : frames 0 read ≡ joined done s
  pub wrote : out ≡ append_known out0 (texts t0 done)
  pub goes : closes_in t0 done ≡ false
  pub turn : t ≡ after_all t0 done

texts-nil : (t : Turn) → texts t [] ≡ []
unfolding texts
texts-nil t = refl

-- Nothing came yet.
pub first : (in0 out0 : Option (List ℕ)) (t0 : Turn) → Serving in0 in0 out0 out0 t0 t0 begun
unfolding texts closes_in after_all
first in0 out0 t0 = record {
  read = [];
  took = append_known-nil in0;
  done = [];
  stream = frames_none 0;
  wrote = append_known-nil out0;
  goes = refl;
  turn = refl;
}

pub fed_joined : (fs : List Frame) (s : Stream) (piece : List ℕ) → fed (joined fs s) piece ≡ joined fs (fed s piece)
fed_joined [] s piece = refl
fed_joined (f ∷ fs) s piece = fed_before f (joined fs s) piece ∙ ap (λ (x : Stream). before f x) (fed_joined fs s piece)

-- One more piece came.
pub fed_one : (in0 now now' out0 out : Option (List ℕ)) (t0 t : Turn) (s s' : Stream) → Serving in0 now out0 out t0 t s → FeedsOne now now' s s' → Serving in0 now' out0 out t0 t s'
fed_one in0 now now' out0 out t0 t s s' a p = record {
  done = a.done;
  wrote = a.wrote;
  goes = a.goes;
  turn = a.turn;
  read = a.read ++ p.0;
  took = p.1 ∙ (ap (λ (o : Option (List ℕ)). append_known o p.0) a.took ∙ append_known-more in0 a.read p.0);
  stream = sym (cut 0 a.read p.0) ∙ (ap (λ (x : Stream). fed x p.0) a.stream ∙ (fed_joined a.done s p.0 ∙ ap (λ (x : Stream). joined a.done x) (sym p.2)));
}

cond-same : {A : Type 0} (b : Bool) (x y : A) → b ≡ false → cond b x y ≡ y
cond-same true x y e = absurd (true≢false e)
cond-same false x y e = refl

or-first : (a b : Bool) → (a || b) ≡ false → a ≡ false
or-first true b e = e
or-first false b e = refl

or-second : (a b : Bool) → (a || b) ≡ false → b ≡ false
or-second true b e = absurd (true≢false e)
or-second false b e = e

-- Frames of which no answer says close, and then others.
texts-append : (t : Turn) (fs gs : List Frame) → closes_in t fs ≡ false → texts t (fs ++ gs) ≡ texts t fs ++ texts (after_all t fs) gs
unfolding texts closes_in after_all
texts-append t [] gs e = refl
texts-append t (f ∷ fs) gs e =
    let one = or-first (closes t f) (closes_in (after t f) fs) e in
    let more = or-second (closes t f) (closes_in (after t f) fs) e in
    ap (λ (l : List ℕ). text_for t f ++ l) (cond-same (closes t f) [] (texts (after t f) (fs ++ gs)) one ∙ texts-append (after t f) fs gs more)
    ∙ (sym (append_assoc (text_for t f) (texts (after t f) fs) (texts (after_all (after t f) fs) gs))
    ∙ ap (λ (l : List ℕ). (text_for t f ++ l) ++ texts (after_all (after t f) fs) gs) (sym (cond-same (closes t f) [] (texts (after t f) fs) one)))

closes-append : (t : Turn) (fs gs : List Frame) → closes_in t fs ≡ false → closes_in t (fs ++ gs) ≡ closes_in (after_all t fs) gs
unfolding closes_in after_all
closes-append t [] gs e = refl
closes-append t (f ∷ fs) gs e =
    let one = or-first (closes t f) (closes_in (after t f) fs) e in
    let more = or-second (closes t f) (closes_in (after t f) fs) e in
    ap (λ (b : Bool). b || closes_in (after t f) (fs ++ gs)) one ∙ closes-append (after t f) fs gs more

after-append : (t : Turn) (fs gs : List Frame) → after_all t (fs ++ gs) ≡ after_all (after_all t fs) gs
unfolding after_all
after-append t [] gs = refl
after-append t (f ∷ fs) gs = after-append (after t f) fs gs

-- All that waited was answered.
pub answered_all : (in0 now out0 out out' : Option (List ℕ)) (t0 t t' : Turn) (s s' : Stream) → Serving in0 now out0 out t0 t s → out' ≡ append_known out (texts t s.frames)
    → closes_in t s.frames ≡ false
    → t' ≡ after_all t s.frames → s' ≡ record s { frames = [] } → Serving in0 now out0 out' t0 t' s'
answered_all in0 now out0 out out' t0 t t' s s' a w goes turn left = record {
  read = a.read;
  took = a.took;
  done = a.done ++ s.frames;
  stream = a.stream ∙ (ap (λ (l : List Frame). record s { frames = l }) (sym (append-nil (a.done ++ s.frames))) ∙ ap (λ (x : Stream). joined (a.done ++ s.frames) x) (sym left));
  wrote = w ∙ (ap (λ (o : Option (List ℕ)). append_known o (texts t s.frames)) a.wrote ∙ (append_known-more out0 (texts t0 a.done) (texts t s.frames)
      ∙ ap (λ (l : List ℕ). append_known out0 l) (ap (λ (x : Turn). texts t0 a.done ++ texts x s.frames) a.turn ∙ sym (texts-append t0 a.done s.frames a.goes))));
  goes = closes-append t0 a.done s.frames a.goes ∙ (ap (λ (x : Turn). closes_in x s.frames) (sym a.turn) ∙ goes);
  turn = turn ∙ (ap (λ (x : Turn). after_all x s.frames) a.turn ∙ sym (after-append t0 a.done s.frames));
}

-- What is still to be written stands behind what was.
whole-text : (in0 now out0 out : Option (List ℕ)) (t0 t : Turn) (s : Stream) → (a : Serving in0 now out0 out t0 t s) → texts t0 a.done ++ texts t s.frames ≡ texts t0 (frames 0 a.read).frames
whole-text in0 now out0 out t0 t s a =
    ap (λ (x : Turn). texts t0 a.done ++ texts x s.frames) a.turn ∙ (sym (texts-append t0 a.done s.frames a.goes) ∙ ap (λ (x : Stream). texts t0 x.frames) (sym a.stream))

-- The answering stopped.
pub halted_so : (in0 now out0 out out' : Option (List ℕ)) (t0 t tn : Turn) (s : Stream) (met : Bool) (rb rn wb w wn : ℕ) → Serving in0 now out0 out t0 t s → wb ≤ w → (h : Halt)
    → Halts out out' (texts t s.frames) (closes_in t s.frames) w wn h → HasServed t0 tn in0 now out0 out' met rb rn wb wn (served_of h)
halted_so in0 now out0 out out' t0 t tn s met rb rn wb w wn a later halt.Closed p = record {
  read = a.read;
  took = a.took;
  served = (
    p.0
        ∙ (ap (λ (o : Option (List ℕ)). append_known o (texts t s.frames)) a.wrote
        ∙ (append_known-more out0 (texts t0 a.done) (texts t s.frames) ∙ ap (λ (l : List ℕ). append_known out0 l) (whole-text in0 now out0 out t0 t s a))),
    ap (λ (x : Stream). closes_in t0 x.frames) a.stream ∙ (closes-append t0 a.done s.frames a.goes ∙ (ap (λ (x : Turn). closes_in x s.frames) (sym a.turn) ∙ p.1)),
  );
}
halted_so in0 now out0 out out' t0 t tn s met rb rn wb w wn a later halt.WriteFault p = record {
  read = a.read;
  took = a.took;
  served = (part-front out0 out out' (texts t0 a.done) (texts t s.frames) (texts t0 (frames 0 a.read).frames) a.wrote (whole-text in0 now out0 out t0 t s a) p.0, omega (arith, later, p.1));
}
halted_so in0 now out0 out out' t0 t tn s met rb rn wb w wn a later halt.Memory p = record {
  read = a.read;
  took = a.took;
  served = part-front out0 out out' (texts t0 a.done) (texts t s.frames) (texts t0 (frames 0 a.read).frames) a.wrote (whole-text in0 now out0 out t0 t s a) p;
}

-- The frames of the bytes read are those that were answered, where none waits.
done-are : (in0 now out0 out : Option (List ℕ)) (t0 t : Turn) (s : Stream) → (a : Serving in0 now out0 out t0 t s) → s.frames ≡ [] → (frames 0 a.read).frames ≡ a.done
done-are in0 now out0 out t0 t s a none = ap (λ (x : Stream). x.frames) a.stream ∙ (ap (λ (l : List Frame). a.done ++ l) none ∙ append-nil a.done)

-- Where no frame waits, all are answered.
answers_all : (in0 now out0 out : Option (List ℕ)) (t0 t : Turn) (s : Stream) → (a : Serving in0 now out0 out t0 t s) → s.frames ≡ [] → AnswersAll t0 t (frames 0 a.read) out0 out
answers_all in0 now out0 out t0 t s a none = let e = done-are in0 now out0 out t0 t s a none in record {
  written = a.wrote ∙ ap (λ (l : List Frame). append_known out0 (texts t0 l)) (sym e);
  goes_on = ap (λ (l : List Frame). closes_in t0 l) e ∙ a.goes;
  turn = a.turn ∙ ap (λ (l : List Frame). after_all t0 l) (sym e);
}

-- What a read brought.
pub brought_in : (in0 now now' out0 out : Option (List ℕ)) (t0 t : Turn) (s s' : Stream) (b n : ℕ) (met : Bool) → Serving in0 now out0 out t0 t s → (what : Brought)
    → Brings now now' s s' b n met what → Serving in0 now' out0 out t0 t s'
brought_in in0 now now' out0 out t0 t s s' b n met a brought.More p = fed_one in0 now now' out0 out t0 t s s' a p.0
brought_in in0 now now' out0 out t0 t s s' b n met a brought.End p = fed_one in0 now now' out0 out t0 t s s' a p.0
brought_in in0 now now' out0 out t0 t s s' b n met a brought.Fault p =
    subst (λ (x : Stream). Serving in0 now' out0 out t0 t x) (sym p.1) (subst (λ (o : Option (List ℕ)). Serving in0 o out0 out t0 t s) (sym p.0) a)
brought_in in0 now now' out0 out t0 t s s' b n met a (brought.Bad f) p = fed_one in0 now now' out0 out t0 t s s' a p.0

-- After want of memory a piece was read and not taken.
pub lost_piece : (in0 now now' out0 out : Option (List ℕ)) (t0 t tn : Turn) (s : Stream) (met : Bool) (rb rn wb wn : ℕ) → Serving in0 now out0 out t0 t s
    → (piece : List ℕ) × (now' ≡ append_known now piece)
    → HasServed t0 tn in0 now' out0 out met rb rn wb wn served.Memory
lost_piece in0 now now' out0 out t0 t tn s met rb rn wb wn a p =
    let b = fed_one in0 now now' out0 out t0 t s (fed s p.0) a (p.0, p.1, refl) in record {
      read = b.read;
      took = b.took;
      served = part-front out0 out out (texts t0 b.done) (texts t (fed s p.0).frames) (texts t0 (frames 0 b.read).frames) b.wrote (whole-text in0 now' out0 out t0 t (fed s p.0) b)
          (0, omega arith, append_known-nil out);
    }

fault-is : (in0 now out0 out : Option (List ℕ)) (t0 t : Turn) (s : Stream) → (a : Serving in0 now out0 out t0 t s) → (frames 0 a.read).fault ≡ s.fault
fault-is in0 now out0 out t0 t s a = ap (λ (x : Stream). x.fault) a.stream

-- The end was met.
pub ended_so : (in0 now out0 out : Option (List ℕ)) (t0 t : Turn) (s : Stream) (met : Bool) (rb rn wb wn : ℕ) → Serving in0 now out0 out t0 t s → s.frames ≡ [] → met ≡ true → s.fault ≡ None
    → HasServed t0 t in0 now out0 out met rb rn wb wn served.End
ended_so in0 now out0 out t0 t s met rb rn wb wn a none end plain =
    record { read = a.read; took = a.took; served = (answers_all in0 now out0 out t0 t s a none, end, fault-is in0 now out0 out t0 t s a ∙ plain) }

-- The reading failed.
pub failed_so : (in0 now out0 out : Option (List ℕ)) (t0 t : Turn) (s : Stream) (met : Bool) (rb r rn wb wn : ℕ) → Serving in0 now out0 out t0 t s → s.frames ≡ [] → rb ≤ r → Rose r rn → s.fault ≡ None
    → HasServed t0 t in0 now out0 out met rb rn wb wn served.ReadFault
failed_so in0 now out0 out t0 t s met rb r rn wb wn a none later rose plain =
    record { read = a.read; took = a.took; served = (answers_all in0 now out0 out t0 t s a none, omega (arith, later, rose), fault-is in0 now out0 out t0 t s a ∙ plain) }

-- A frame was bad.
pub bad_so : (in0 now out0 out : Option (List ℕ)) (t0 t : Turn) (s : Stream) (met : Bool) (rb rn wb wn : ℕ) (f : FeedFault) → Serving in0 now out0 out t0 t s → s.frames ≡ []
    → s.fault ≡ Some f → IsFinal f
    → HasServed t0 t in0 now out0 out met rb rn wb wn (served.BadFrame f)
bad_so in0 now out0 out t0 t s met rb rn wb wn f a none bad final_fault =
    record { read = a.read; took = a.took; served = (answers_all in0 now out0 out t0 t s a none, fault-is in0 now out0 out t0 t s a ∙ bad, final_fault) }

-- What is known where the read brought just this.
pub more_is : (old new : Option (List ℕ)) (s s' : Stream) (b n : ℕ) (met : Bool) (what : Brought) → Brings old new s s' b n met what → what ≡ brought.More → s'.fault ≡ None
more_is old new s s' b n met what p e = (subst (λ (x : Brought). Brings old new s s' b n met x) e p).1

pub end_is : (old new : Option (List ℕ)) (s s' : Stream) (b n : ℕ) (met : Bool) (what : Brought) → Brings old new s s' b n met what → what ≡ brought.End → (met ≡ true) × (s'.fault ≡ None)
end_is old new s s' b n met what p e = let q = subst (λ (x : Brought). Brings old new s s' b n met x) e p in (q.1, q.2)

pub fault_is : (old new : Option (List ℕ)) (s s' : Stream) (b n : ℕ) (met : Bool) (what : Brought) → Brings old new s s' b n met what → what ≡ brought.Fault → (s' ≡ s) × Rose b n
fault_is old new s s' b n met what p e = let q = subst (λ (x : Brought). Brings old new s s' b n met x) e p in (q.1, q.2)

pub bad_is : (old new : Option (List ℕ)) (s s' : Stream) (b n : ℕ) (met : Bool) (what : Brought) (f : FeedFault) → Brings old new s s' b n met what → what ≡ brought.Bad f
    → (s'.fault ≡ Some f) × IsFinal f
bad_is old new s s' b n met what f p e = let q = subst (λ (x : Brought). Brings old new s s' b n met x) e p in (q.1, q.2)

pub left_frames : (s s' : Stream) → s' ≡ record s { frames = [] } → s'.frames ≡ []
left_frames s s' e = ap (λ (x : Stream). x.frames) e

pub left_fault : (s s' : Stream) → s' ≡ record s { frames = [] } → s'.fault ≡ s.fault
left_fault s s' e = ap (λ (x : Stream). x.fault) e
