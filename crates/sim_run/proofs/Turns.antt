-- One turn of the replay: a line leaves those that are left, and stands behind those before.
use Rattle.std.proofs.Common.{◌≡◌, ℕ, ◌+◌, ◌^◌, ◌<◌, ◌≤◌, nat_eq, false, List, ◌++◌, [], ◌∷◌, length, take, Result, Ok, Err, OnErr, sym, ap, refl, ◌∙◌, append_assoc, subst}
use Rattle.std.proofs.Common.{arith, length-append}
use Rattle.std.specs.Prelude.{All}
use Rattle.std.proofs.lemmas.List.Elements.{All-nil, All-head, All-tail}
use Rattle.std.specs.List.{IsDistinct, AllByRecursion}
use Rattle.std.specs.Map.{keys_of}
use Rattle.rpc_model.specs.declared.script.Script.{Script}
use Rattle.rpc_model.specs.declared.script.Act.{Act}
use Rattle.rpc_model.specs.declared.script.Act.TheVariants.{Call, Cancel, Reply, Lose, Tick, Join}
use Rattle.rpc_model.specs.declared.told.Told.{Told}
use Rattle.std.specs.declared.option.Option.{Option}
use Rattle.rpc_model.specs.Limits.{called, IsAct, IsMoment}
use Rattle.rpc_model.specs.Fits.{Fits, BeginsNarrow}
use Rattle.model_laws.specs.Logs.{after_all}
use Rattle.rpc_model.specs.Told.{Replay, unbegun, after, tells, told_from, told}
use Rattle.model_laws.specs.Early.{settled}
use Rattle.model_laws.proofs.MomentsStay.{moments-early}
use Rattle.model_laws.proofs.Early.{after-settled, same-lines}
use Rattle.sim_run.specs.declared.ticket.Ticket.{Ticket}
use Rattle.sim_run.specs.Desk.{IsNew, IsFront}
use Rattle.sim_run.specs.Replaying.{whole}

-- ---- a script's lines say nothing of what one line does

after-whole : (script : Script) (all : List Act) (r : Replay) (act : Act) → after (whole script all) r act ≡ after script r act
unfolding after
after-whole script all r (Call at call chan text) = refl
after-whole script all r (Cancel at call) = refl
after-whole script all r (Reply at call node attempt code text) = refl
after-whole script all r (Lose at call node attempt code) = refl
after-whole script all r (Tick at) = refl
after-whole script all r (Join call) = refl

tells-whole : (script : Script) (all : List Act) (r : Replay) (act : Act) → tells (whole script all) r act ≡ tells script r act
unfolding tells
tells-whole script all r (Call at call chan text) = refl
tells-whole script all r (Cancel at call) = refl
tells-whole script all r (Reply at call node attempt code text) = refl
tells-whole script all r (Lose at call node attempt code) = refl
tells-whole script all r (Tick at) = refl
tells-whole script all r (Join call) = refl

told-whole : (script : Script) (all : List Act) (r : Replay) (acts : List Act) → told_from (whole script all) r acts ≡ told_from script r acts
told-whole script all r [] = refl
told-whole script all r (act ∷ acts) = rw (tells-whole script all r act, after-whole script all r act) (ap (λ ts. tells script r act ++ ts) (told-whole script all (after script r act) acts))

after-all-whole : (script : Script) (all : List Act) (r : Replay) (acts : List Act) → after_all (whole script all) r acts ≡ after_all script r acts
after-all-whole script all r [] = refl
after-all-whole script all r (act ∷ acts) = rw (after-whole script all r act) (after-all-whole script all (after script r act) acts)

-- A replay that begins has all of the script's lines left.
pub told-begins : (script : Script) (r : Replay) → r ≡ unbegun → told_from (whole script []) r script.acts ≡ told script
unfolding told
told-begins script r is = rw is (told-whole script [] unbegun script.acts)

-- ---- an accepted script without its lines

none-called : IsDistinct nat_eq (called [])
unfolding IsDistinct
none-called = tt

pub fits-rest : (script : Script) → Fits script → Fits (whole script [])
fits-rest script fits = record {
  moments = All-nil IsMoment;
  acts = All-nil (IsAct (length script.chans));
  calls_differ = none-called;
  channels = fits.channels;
  serves = fits.serves;
  depths = fits.depths;
  widths = All-nil (BeginsNarrow script.chans);
  lines = omega arith;
  some_slot = fits.some_slot;
  few_slots = fits.few_slots;
  few_servers = fits.few_servers;
}

-- ---- one line more

-- The plain machine goes along: it differs in marks alone that calls have taken early.
after-more : (script : Script) (replay : Replay) (acts : List Act) (act : Act) → after_all script replay (acts ++ act ∷ []) ≡ after script (after_all script replay acts) act
after-more script replay [] act = refl
after-more script replay (a ∷ acts) act = after-more script (after script replay a) acts act

pub turn-led : (script : Script) (before : List Act) (act : Act) (now next : Replay) → settled now ≡ settled (after_all script unbegun before)
    → settled next ≡ settled (after script now act) → settled next ≡ settled (after_all script unbegun (before ++ act ∷ []))
turn-led script before act now next led is =
    is ∙ sym (after-settled script now act) ∙ ap (λ r. settled (after script r act)) led ∙ after-settled script (after_all script unbegun before) act
    ∙ ap settled (sym (after-more script unbegun before act))

-- The moment that a line reaches is early.
pub turn-early : (script : Script) (before rest : List Act) (act : Act) (now : Replay) → Fits (whole script (before ++ act ∷ rest))
    → settled now ≡ settled (after_all script unbegun before) → (after script now act).reached < 2 ^ 60
turn-early script before rest act now fits led =
    let all = before ++ act ∷ rest in
    let early = (moments-early (whole script all) (before ++ act ∷ []) rest fits (sym (append_assoc before (act ∷ []) rest))).0 in
    let same = ap (λ (r : Replay). r.reached) (turn-led script before act now (after script now act) led refl) in
    let is = ap (λ (r : Replay). r.reached) (after-all-whole script all unbegun (before ++ act ∷ [])) in
    rw same (rw is at early)

all-at : (P : Act → Type 0) (before rest : List Act) (act : Act) → All P (before ++ act ∷ rest) → P act
all-at P [] rest act h = All-head P act rest h
all-at P (a ∷ before) rest act h = all-at P before rest act (All-tail P a (before ++ act ∷ rest) h)

pub turn-act : (script : Script) (before rest : List Act) (act : Act) → Fits (whole script (before ++ act ∷ rest)) → IsAct (length script.chans) act
turn-act script before rest act fits = all-at (IsAct (length script.chans)) before rest act fits.acts

pub turn-narrow : (script : Script) (before rest : List Act) (act : Act) → Fits (whole script (before ++ act ∷ rest)) → BeginsNarrow script.chans act
turn-narrow script before rest act fits = all-at (BeginsNarrow script.chans) before rest act fits.widths

-- What is left is told by this line and the others.
pub turn-left : (script : Script) (now next : Replay) (so_far after_it : List Told) (act : Act) (rest : List Act)
    → settled next ≡ settled (after script now act) → after_it ≡ so_far ++ tells script now act
    → after_it ++ told_from script next rest ≡ so_far ++ told_from script now (act ∷ rest)
turn-left script now next so_far after_it act rest is says =
    rw (says, same-lines script rest next (after script now act) is) (append_assoc so_far (tells script now act) (told_from script (after script now act) rest))

-- ---- the numbers of the calls so far and of the lines to come

called-cons : (act : Act) (acts : List Act) → called (act ∷ acts) ≡ called (act ∷ []) ++ called acts
called-cons (Call at call chan text) acts = refl
called-cons (Cancel at call) acts = refl
called-cons (Reply at call node attempt code text) acts = refl
called-cons (Lose at call node attempt code) acts = refl
called-cons (Tick at) acts = refl
called-cons (Join call) acts = refl

called-few : (act : Act) → length (called (act ∷ [])) ≤ 1
called-few (Call at call chan text) = omega arith
called-few (Cancel at call) = omega arith
called-few (Reply at call node attempt code text) = omega arith
called-few (Lose at call node attempt code) = omega arith
called-few (Tick at) = omega arith
called-few (Join call) = omega arith

turn-called : (keys : List ℕ) (act : Act) (rest : List Act) → keys ++ called (act ∷ rest) ≡ (keys ++ called (act ∷ [])) ++ called rest
turn-called keys act rest = ap (λ (xs : List ℕ). keys ++ xs) (called-cons act rest) ∙ sym (append_assoc keys _ _)

-- They stay distinct.
pub turn-distinct : (keys next : List ℕ) (act : Act) (rest : List Act) → IsDistinct nat_eq (keys ++ called (act ∷ rest)) → next ≡ keys ++ called (act ∷ [])
    → IsDistinct nat_eq (next ++ called rest)
turn-distinct keys next act rest d n = rw n (subst (IsDistinct nat_eq) (turn-called keys act rest) d)

all-front : (P : ℕ → Type 0) (xs ys : List ℕ) → AllByRecursion P (xs ++ ys) → AllByRecursion P xs
all-front P [] ys h = tt
all-front P (x ∷ xs) ys h = (h.0, all-front P xs ys h.1)

distinct-front : (xs ys : List ℕ) → IsDistinct nat_eq (xs ++ ys) → IsDistinct nat_eq xs
unfolding IsDistinct
distinct-front [] ys d = tt
distinct-front (x ∷ xs) ys d = (all-front (λ y. nat_eq x y ≡ false) xs ys d.0, distinct-front xs ys d.1)

-- The line's own number is new.
pub turn-new : (entries : List (ℕ × Option Ticket)) (act : Act) (rest : List Act) → IsDistinct nat_eq (keys_of entries ++ called (act ∷ rest)) → IsNew entries act
turn-new entries act rest d = distinct-front (keys_of entries ++ called (act ∷ [])) (called rest) (subst (IsDistinct nat_eq) (turn-called (keys_of entries) act rest) d)

-- One line begins one call at the most.
pub turn-few : (keys next : List ℕ) (before : List Act) (act : Act) → next ≡ keys ++ called (act ∷ []) → length keys ≤ length before
    → length next ≤ length (before ++ act ∷ [])
turn-few keys next before act n few = omega (arith, ap length n, length-append keys (called (act ∷ [])), length-append before (act ∷ []), called-few act, few)

-- ---- fronts

take-front : (xs ys : List Told) → take (length xs) (xs ++ ys) ≡ xs
take-front [] ys = refl
take-front (x ∷ xs) ys = ap (λ zs. x ∷ zs) (take-front xs ys)

-- What was told is a front of all.
pub front : (before now rest told : List Told) → now ++ rest ≡ before ++ told → length before ≤ length now → IsFront before now told
front [] now rest told e long = (length now, omega (arith, ap length e, length-append now rest), sym (ap (take (length now)) (sym e) ∙ take-front now rest))
front (x ∷ xs) [] rest told e long = absurd (omega arith)
front (x ∷ xs) (y ∷ ys) rest told e long =
    let head : y ≡ x = cc in
    let tail : ys ++ rest ≡ xs ++ told = cc in
    let f = front xs ys rest told tail (omega (arith, long)) in
    (f.0, f.1, ap (λ z. z ∷ ys) head ∙ ap (λ zs. x ∷ zs) f.2)

-- What holds, holds after a refusal.
pub on_err : {A E : Type 0} (P : Type 0) (r : Result A E) → P → OnErr r P
on_err P (Ok x) p = tt
on_err P (Err e) p = p
