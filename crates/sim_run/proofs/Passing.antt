-- What passes on the wires while a call acts: the requests that the plain machine sends, and no other.
use Rattle.std.proofs.Common.{◌≡◌, ◌≢◌, ℕ, zero, suc, ◌-◌, max, Bool, true, false, cond, nat_le, List, [], ◌∷◌, ◌++◌, fold, Option, Some, None, is_some, refl, ap, sym, ◌∙◌, append_assoc}
use Rattle.std.proofs.Common.{if◌then◌else◌}
use Rattle.std.proofs.lemmas.Bool.{eq-eqb, ne_eqb}
use Rattle.std.proofs.lemmas.List.{append-nil}
use Rattle.std.proofs.lemmas.List.Elements.{filter-append}
use Rattle.std.proofs.lemmas.List.Sums.{fold-append}
use Rattle.rpc_model.specs.declared.event.Event.{Event}
use Rattle.rpc_model.specs.declared.kinds.MapKind.{MapKind}
use Rattle.rpc_model.specs.declared.kinds.MergeKind.{MergeKind}
use Rattle.rpc_model.specs.declared.meaning.Meaning.TheVariants.{Attempt}
use Rattle.rpc_model.specs.Effects.{Send, Mark as CallMark}
use Rattle.rpc_model.specs.Kinds.{script_kinds}
use Rattle.rpc_model.specs.Plan.{Plan}
use Rattle.rpc_model.specs.Versions.{offset_of}
use Rattle.rpc_model.specs.State.{Run, end_of, and_then}
use Rattle.rpc_model.specs.Machine.{step}
use Rattle.rpc_model.specs.Marks.{Begun, mark_event, least_mark, marks_left}
use Rattle.id_pool.specs.Ranges.{Seen, Nothing, Unlocked, Locked}
use Rattle.timer_core.specs.declared.mark.Mark.{Mark}
use Rattle.sim_run.specs.Slots.{acts_by}
use Rattle.sim_run.specs.declared.turn.Turn.{Turn}
use Rattle.sim_run.specs.declared.turn.Turn.TheVariants as turn
use Rattle.sim_run.specs.Link.{Link}
use Rattle.sim_run.specs.Sends.{posted_at, posted_one, posted}
use Rattle.sim_run.specs.Passages.{Passage, passed_one, passed, HavePassed, request_at, requests, is_request, requests_in}
use Rattle.sim_run.specs.Acting.{Acting, acted, taken, woven_at_most, woven_least, finished_at_most, finished_least, turned_by, joined_by}

-- ---- the requests of sends

pub passed-append : (xs ys : List Passage) (wires : List Link) → passed (xs ++ ys) wires ≡ passed ys (passed xs wires)
passed-append [] ys wires = refl
passed-append (x ∷ xs) ys wires = passed-append xs ys (passed_one x wires)

posted-at : (o : Option ℕ) (first call : ℕ) (send : Send) (wires : List Link) → posted_at o first call send wires ≡ passed (request_at o first call send) wires
posted-at None first call send wires = refl
posted-at (Some offset) first call send wires = refl

-- the offset of a send's attempt
abbrev pub place : Plan MapKind MergeKind → Send → Option ℕ
place plan send = offset_of plan (Attempt send.node send.attempt)

pub posted-passed : (first : ℕ) (plan : Plan MapKind MergeKind) (call : ℕ) (sends : List Send) (wires : List Link) → posted first plan call sends wires ≡ passed (requests first plan call sends) wires
posted-passed first plan call [] wires = refl
posted-passed first plan call (s ∷ ss) wires =
    posted-passed first plan call ss (posted_one first plan call s wires) ∙ ap (passed (requests first plan call ss)) (posted-at (place plan s) first call s wires)
    ∙ sym (passed-append (request_at (place plan s) first call s) (requests first plan call ss) wires)

pub posted-append : (first : ℕ) (plan : Plan MapKind MergeKind) (call : ℕ) (xs ys : List Send) (wires : List Link)
    → posted first plan call (xs ++ ys) wires ≡ posted first plan call ys (posted first plan call xs wires)
posted-append first plan call [] ys wires = refl
posted-append first plan call (x ∷ xs) ys wires = posted-append first plan call xs ys (posted_one first plan call x wires)

pub requests-append : (first : ℕ) (plan : Plan MapKind MergeKind) (call : ℕ) (xs ys : List Send) → requests first plan call (xs ++ ys) ≡ requests first plan call xs ++ requests first plan call ys
requests-append first plan call [] ys = refl
requests-append first plan call (x ∷ xs) ys =
    ap (λ ps. request_at (place plan x) first call x ++ ps) (requests-append first plan call xs ys)
    ∙ sym (append_assoc (request_at (place plan x) first call x) (requests first plan call xs) (requests first plan call ys))

pub in-append : (call : ℕ) (xs ys : List Passage) → requests_in call (xs ++ ys) ≡ requests_in call xs ++ requests_in call ys
in-append call xs ys = filter-append (is_request call) xs ys

-- They are the call's, and of no other call.
pub requests-own : (first : ℕ) (plan : Plan MapKind MergeKind) (call : ℕ) (sends : List Send) → requests_in call (requests first plan call sends) ≡ requests first plan call sends
requests-own first plan call [] = refl
requests-own first plan call (s ∷ ss) =
    in-append call (request_at (place plan s) first call s) (requests first plan call ss) ∙ ap (λ ps. ps ++ requests_in call (requests first plan call ss)) (at (place plan s))
    ∙ ap (λ ps. request_at (place plan s) first call s ++ ps) (requests-own first plan call ss)
  where
    at : (o : Option ℕ) → requests_in call (request_at o first call s) ≡ request_at o first call s
    at None = refl
    at (Some offset) = ap (λ b. if b then request_at (Some offset) first call s else []) (eq-eqb call call refl)

pub requests-other : (c first : ℕ) (plan : Plan MapKind MergeKind) (call : ℕ) (sends : List Send) → c ≢ call → requests_in c (requests first plan call sends) ≡ []
requests-other c first plan call [] differ = refl
requests-other c first plan call (s ∷ ss) differ =
    in-append c (request_at (place plan s) first call s) (requests first plan call ss) ∙ ap (λ ps. ps ++ requests_in c (requests first plan call ss)) (at (place plan s))
    ∙ requests-other c first plan call ss differ
  where
    at : (o : Option ℕ) → requests_in c (request_at o first call s) ≡ []
    at None = refl
    at (Some offset) = ap (λ b. if b then request_at (Some offset) first call s else []) (ne_eqb call c (λ e. differ (sym e)))

-- ---- what a call that acts sends

-- a run that goes on through these events
abbrev pub ran : ℕ → Run MapKind MergeKind → List (Event × ℕ) → Run MapKind MergeKind
ran call run events = fold (λ run timed. and_then run (step script_kinds call run.state timed.0 timed.1)) run events

-- What a call with this first id took, and what went out: every run that was where the call was goes on through these events to where the call is, and sends these.
pub record Speaks (first : ℕ) (a b : Acting) : Type 0 where
  pub events : List (Event × ℕ)
  pub sends : List Send
  pub wires : b.wires ≡ posted first a.call.plan a.call.call sends a.wires
  pub number : b.call.call ≡ a.call.call
  pub plan : b.call.plan ≡ a.call.plan
  pub state : (run : Run MapKind MergeKind) → run.state ≡ a.call.state → (ran a.call.call run events).state ≡ b.call.state
  pub sent : (run : Run MapKind MergeKind) → run.state ≡ a.call.state → (ran a.call.call run events).sends ≡ run.sends ++ sends

same-speaks : (first : ℕ) (a : Acting) → Speaks first a a
same-speaks first a = record { events = []; sends = []; wires = refl; number = refl; plan = refl; state = λ run e. e; sent = λ run e. sym (append-nil run.sends) }

then-speaks : (first : ℕ) (a b c : Acting) → Speaks first a b → Speaks first b c → Speaks first a c
then-speaks first a b c h k = record {
  events = h.events ++ k.events;
  sends = h.sends ++ k.sends;
  wires =
      k.wires ∙ ap (λ p. posted first p b.call.call k.sends b.wires) h.plan ∙ ap (λ n. posted first a.call.plan n k.sends b.wires) h.number ∙ ap (posted first a.call.plan a.call.call k.sends) h.wires
      ∙ sym (posted-append first a.call.plan a.call.call h.sends k.sends a.wires);
  number = k.number ∙ h.number;
  plan = k.plan ∙ h.plan;
  state = λ run e. ap (λ (r : Run MapKind MergeKind). r.state) (both run) ∙ ap (λ n. (ran n (ran a.call.call run h.events) k.events).state) (sym h.number)
      ∙ k.state (ran a.call.call run h.events) (h.state run e);
  sent =
      λ run e. ap (λ (r : Run MapKind MergeKind). r.sends) (both run) ∙ ap (λ n. (ran n (ran a.call.call run h.events) k.events).sends) (sym h.number)
      ∙ k.sent (ran a.call.call run h.events) (h.state run e)
      ∙ ap (λ ss. ss ++ k.sends) (h.sent run e) ∙ append_assoc run.sends h.sends k.sends;
}
  where
    both : (run : Run MapKind MergeKind) → ran a.call.call run (h.events ++ k.events) ≡ ran a.call.call (ran a.call.call run h.events) k.events
    both run = fold-append (λ (r : Run MapKind MergeKind) (timed : Event × ℕ). and_then r (step script_kinds a.call.call r.state timed.0 timed.1)) run h.events k.events

acted-speaks : (first : ℕ) (event : Event) (moment : ℕ) (a : Acting) → Speaks first a (acted first event moment a)
acted-speaks first event moment a = record {
  events = (event, moment) ∷ [];
  sends = (step script_kinds a.call.call a.call.state event moment).sends;
  wires = refl;
  number = refl;
  plan = refl;
  state = λ run e. ap (λ s. (step script_kinds a.call.call s event moment).state) e;
  sent = λ run e. ap (λ s. run.sends ++ (step script_kinds a.call.call s event moment).sends) e;
}

taken-speaks : (first : ℕ) (a : Acting) (mark : CallMark) (others : List CallMark) → Speaks first a (taken first a mark others)
taken-speaks first a mark others =
    let h = acted-speaks first (mark_event mark.node mark.backup) mark.moment (record a { call = record a.call { waiting = others } }) in
    record { events = h.events; sends = h.sends; wires = h.wires; number = h.number; plan = h.plan; state = h.state; sent = h.sent }

woven-speaks : (count first moment : ℕ) (a : Acting) → Speaks first a (woven_at_most count first moment a)
woven-speaks zero first moment a = same-speaks first a
woven-speaks (suc count) first moment a = by (least_mark a.call.waiting) (λ c. woven-speaks count first moment c)
  where
    by : (o : Option (CallMark × List CallMark)) → ((c : Acting) → Speaks first c (woven_at_most count first moment c))
        → Speaks first a (woven_least (woven_at_most count first moment) first moment a o)
    by None again = same-speaks first a
    by (Some (mark, others)) again = at (nat_le mark.moment moment)
      where
        at : (v : Bool) → Speaks first a (cond v (woven_at_most count first moment (taken first a mark others)) a)
        at true = then-speaks first a (taken first a mark others) (woven_at_most count first moment (taken first a mark others)) (taken-speaks first a mark others) (again (taken first a mark others))
        at false = same-speaks first a

finished-speaks : (count first reached : ℕ) (a : Acting) → Speaks first a (finished_at_most count first reached a).1
finished-speaks zero first reached a = same-speaks first a
finished-speaks (suc count) first reached a = at (is_some (end_of a.call.state)) (λ r c. finished-speaks count first r c)
  where
    by : (o : Option (CallMark × List CallMark)) → ((r : ℕ) (c : Acting) → Speaks first c (finished_at_most count first r c).1)
        → Speaks first a (finished_least (finished_at_most count first) first reached a o).1
    by None again = same-speaks first a
    by (Some (mark, others)) again =
        then-speaks first a (taken first a mark others) (finished_at_most count first (max reached mark.moment) (taken first a mark others)).1 (taken-speaks first a mark others)
        (again (max reached mark.moment) (taken first a mark others))

    at : (v : Bool) → ((r : ℕ) (c : Acting) → Speaks first c (finished_at_most count first r c).1)
        → Speaks first a (cond v (reached, a) (finished_least (finished_at_most count first) first reached a (least_mark a.call.waiting))).1
    at true again = same-speaks first a
    at false again = by (least_mark a.call.waiting) again

pub turned-speaks : (t : Turn) (first : ℕ) (a : Acting) → Speaks first a (turned_by t first a)
turned-speaks (turn.Event event moment) first a = acted-speaks first event moment a
turned-speaks (turn.Due moment) first a = woven-speaks (marks_left a.call) first moment a

pub joined-speaks : (reached first : ℕ) (a : Acting) → Speaks first a (joined_by reached first a)
joined-speaks reached first a = finished-speaks (marks_left a.call) first reached a

-- Whatever an id finds, more passed.
pub acts-passed : (id : ℕ) (d : ℕ → Acting → Acting) (x : Seen Begun) (wires : List Link) (marks : List Mark) → ((first : ℕ) (a : Acting) → Speaks first a (d first a))
    → HavePassed wires (acts_by id d x wires marks).0
acts-passed id d Nothing wires marks speaks = ([], refl)
acts-passed id d (Unlocked r k) wires marks speaks =
    let sp = speaks (id - k) (record { call = r.value; wires = wires; marks = marks }) in
    (requests (id - k) r.value.plan r.value.call sp.sends, sp.wires ∙ posted-passed (id - k) r.value.plan r.value.call sp.sends wires)
acts-passed id d (Locked r k waiting) wires marks speaks = ([], refl)

pub then-passed : (a b c : List Link) → HavePassed a b → HavePassed b c → HavePassed a c
then-passed a b c h k = (h.0 ++ k.0, k.1 ∙ ap (passed k.0) h.1 ∙ sym (passed-append h.0 k.0 a))
