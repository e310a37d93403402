-- The lines that a draft has taken are the lines of its journal.
use Rattle.std.proofs.Common.{◌≡◌, ℕ, ◌+◌, ◌<◌, ◌≤◌, Bool, true, false, ◌&&◌, eqb, ltb, List, [], ◌∷◌, ◌++◌, length, map, Option, Some, None, refl, ap, sym, subst, ◌∙◌, arith, append_assoc}
use Rattle.std.proofs.Common.{append-nil}
use Rattle.std.specs.List.{flat_map}
use Rattle.std.proofs.lemmas.Bool.{eqb-true, ltb-true}
use Rattle.std.proofs.lemmas.Grind.{flat_map-append}
use Rattle.std.proofs.lemmas.List.{map-append, length-append}
use Rattle.rpc_model.specs.declared.sent.Sent.{Sent}
use Rattle.rpc_model.specs.declared.entry.Entry.{Entry}
use Rattle.rpc_model.specs.declared.journal.CallLog.{CallLog}
use Rattle.rpc_model.specs.declared.journal.How.{How}
use Rattle.rpc_model.specs.declared.journal.WireLog.{WireLog}
use Rattle.rpc_model.specs.declared.journal.Came.{Came}
use Rattle.rpc_model.specs.declared.journal.LossNote.{LossNote}
use Rattle.rpc_model.specs.declared.journal.Fired.{Fired}
use Rattle.rpc_model.specs.declared.journal.LaneLog.{LaneLog}
use Rattle.rpc_model.specs.declared.journal.CancelNote.{CancelNote}
use Rattle.rpc_model.specs.declared.line.Line.{Line}
use Rattle.rpc_model.specs.declared.line.Line.TheVariants as line
use Rattle.rpc_model.specs.Texts.{call_lines, one_wire, wire_lines, one_lane, lane_lines}
use Rattle.journal_text.specs.declared.draft.Stage.{Stage}
use Rattle.journal_text.specs.declared.draft.Stage.TheVariants.{Calls, Wires, Marks, Lanes}
use Rattle.journal_text.specs.Empty.{is_empty}
use Rattle.journal_text.specs.Reading.{◌>>=◌, guard}
use Rattle.journal_text.specs.Drafts.{Draft, with_last, with_call, with_entry, with_wire, with_out, with_came, with_loss, with_timer, with_mark, with_lane, with_cancel, with_line}

-- the calls, the wires and the lanes of a draft
abbrev pub calls_of : Draft → List CallLog
calls_of d = with_last d.calls d.call

abbrev pub wires_of : Draft → List WireLog
wires_of d = with_last d.wires d.wire

abbrev pub lanes_of : Draft → List LaneLog
lanes_of d = with_last d.lanes d.lane

-- the lines of a draft at this stage
abbrev pub lines_at : Stage → Draft → List Line
lines_at Calls d = flat_map call_lines (calls_of d)
lines_at Wires d = flat_map call_lines (calls_of d) ++ wire_lines 0 (wires_of d)
lines_at Marks d = flat_map call_lines (calls_of d) ++ wire_lines 0 (wires_of d) ++ (line.Timer ∷ []) ++ map line.Mark d.marks
lines_at Lanes d = flat_map call_lines (calls_of d) ++ wire_lines 0 (wires_of d) ++ (line.Timer ∷ []) ++ map line.Mark d.marks ++ lane_lines 0 (lanes_of d)

abbrev pub lines_of : Draft → List Line
lines_of d = lines_at d.stage d

-- what comes later is empty, and where lanes come there are 1 to 16
abbrev pub IsKept : Stage → Draft → Type 0
IsKept Calls d = (wires_of d ≡ []) × (d.marks ≡ []) × (lanes_of d ≡ [])
IsKept Wires d = (d.marks ≡ []) × (lanes_of d ≡ [])
IsKept Marks d = lanes_of d ≡ []
IsKept Lanes d = (1 ≤ length (lanes_of d)) × (length (lanes_of d) ≤ 16)

-- one more line stands behind the others
pub record Took (d d' : Draft) (l : Line) : Type 0 where
  pub lines : lines_of d' ≡ lines_of d ++ l ∷ []
  pub kept : IsKept d'.stage d'

some_is : {A : Type 0} (x y : A) → Some x ≡ Some y → x ≡ y
some_is x y e = cc

-- a test that has to hold
guarded : {A : Type 0} (b : Bool) (x y : A) → (guard b >>= λ _. Some x) ≡ Some y → (b ≡ true) × (x ≡ y)
guarded true x y h = (refl, some_is x y h)
guarded false x y h = absurd cc

guarded_twice : {A : Type 0} (a b : Bool) (x y : A) → (guard a >>= λ _. guard b >>= λ _. Some x) ≡ Some y → (a ≡ true) × (b ≡ true) × (x ≡ y)
guarded_twice true b x y h = let p = guarded b x y h in (refl, p.0, p.1)
guarded_twice false b x y h = absurd cc

took : (d x d' : Draft) (l : Line) → Took d x l → x ≡ d' → Took d d' l
took d x d' l t e = subst (λ (y : Draft). Took d y l) e t

-- ---- blocks of lines

flat_last : {A : Type 0} (f : A → List Line) (xs : List A) (x : A) → flat_map f (xs ++ x ∷ []) ≡ flat_map f xs ++ f x
flat_last f xs x = flat_map-append f xs (x ∷ []) ∙ ap (λ (l : List Line). flat_map f xs ++ l) (append-nil (f x))

wire_last : (n : ℕ) (xs : List WireLog) (x : WireLog) → wire_lines n (xs ++ x ∷ []) ≡ wire_lines n xs ++ one_wire (n + length xs) x
wire_last n [] x = append-nil (one_wire n x) ∙ ap (λ (m : ℕ). one_wire m x) (let e : n ≡ n + 0 = omega arith in e)
wire_last n (y ∷ ys) x =
    ap (λ (l : List Line). one_wire n y ++ l) (wire_last (n + 1) ys x ∙ ap (λ (m : ℕ). wire_lines (n + 1) ys ++ one_wire m x) (let e : n + 1 + length ys ≡ n + length (y ∷ ys) = omega arith in e))
    ∙ sym (append_assoc (one_wire n y) (wire_lines (n + 1) ys) (one_wire (n + length (y ∷ ys)) x))

lane_last : (n : ℕ) (xs : List LaneLog) (x : LaneLog) → lane_lines n (xs ++ x ∷ []) ≡ lane_lines n xs ++ one_lane (n + length xs) x
lane_last n [] x = append-nil (one_lane n x) ∙ ap (λ (m : ℕ). one_lane m x) (let e : n ≡ n + 0 = omega arith in e)
lane_last n (y ∷ ys) x =
    ap (λ (l : List Line). one_lane n y ++ l) (lane_last (n + 1) ys x ∙ ap (λ (m : ℕ). lane_lines (n + 1) ys ++ one_lane m x) (let e : n + 1 + length ys ≡ n + length (y ∷ ys) = omega arith in e))
    ∙ sym (append_assoc (one_lane n y) (lane_lines (n + 1) ys) (one_lane (n + length (y ∷ ys)) x))

-- a block behind others, and then one line more
behind : (before block : List Line) (l : Line) → before ++ (block ++ l ∷ []) ≡ before ++ block ++ l ∷ []
behind before block l = sym (append_assoc before block (l ∷ []))

-- the last wire has one more line
wire_grew : (before : List Line) (xs : List WireLog) (w w' : WireLog) (l : Line) → ((n : ℕ) → one_wire n w' ≡ one_wire n w ++ l ∷ [])
    → before ++ wire_lines 0 (xs ++ w' ∷ []) ≡ before ++ wire_lines 0 (xs ++ w ∷ []) ++ l ∷ []
wire_grew before xs w w' l more =
    ap (λ (t : List Line). before ++ t) (wire_last 0 xs w' ∙ (ap (λ (t : List Line). wire_lines 0 xs ++ t) (more (0 + length xs)) ∙ (behind (wire_lines 0 xs) (one_wire (0 + length xs) w) l
    ∙ ap (λ (t : List Line). t ++ l ∷ []) (sym (wire_last 0 xs w))))) ∙ behind before (wire_lines 0 (xs ++ w ∷ [])) l

lane_grew : (before : List Line) (xs : List LaneLog) (w w' : LaneLog) (l : Line) → ((n : ℕ) → one_lane n w' ≡ one_lane n w ++ l ∷ [])
    → before ++ lane_lines 0 (xs ++ w' ∷ []) ≡ before ++ lane_lines 0 (xs ++ w ∷ []) ++ l ∷ []
lane_grew before xs w w' l more =
    ap (λ (t : List Line). before ++ t) (lane_last 0 xs w' ∙ (ap (λ (t : List Line). lane_lines 0 xs ++ t) (more (0 + length xs)) ∙ (behind (lane_lines 0 xs) (one_lane (0 + length xs) w) l
    ∙ ap (λ (t : List Line). t ++ l ∷ []) (sym (lane_last 0 xs w))))) ∙ behind before (lane_lines 0 (xs ++ w ∷ [])) l

-- ---- line by line

took_call : (s : Stage) (d d' : Draft) (a b c e m : ℕ) → IsKept s (record d { stage = s }) → with_call (record d { stage = s }) a b c e m ≡ Some d'
    → Took (record d { stage = s }) d' (line.Call a b c e m)
took_call Calls d d' a b c e m k h =
    took _ _ d' _ (record { lines = flat_map-append call_lines (calls_of d) (record { call = a; first = b; width = c; lane = e; moment = m; log = [] } ∷ []); kept = k }) (some_is _ d' h)
took_call Wires d d' a b c e m k h = absurd cc
took_call Marks d d' a b c e m k h = absurd cc
took_call Lanes d d' a b c e m k h = absurd cc

took_entry : (s : Stage) (o : Option CallLog) (d d' : Draft) (e : Entry) → IsKept s (record d { stage = s; call = o }) → with_entry (record d { stage = s; call = o }) e ≡ Some d'
    → Took (record d { stage = s; call = o }) d' (line.Entry e)
took_entry Calls None d d' e k h = absurd cc
took_entry Calls (Some c) d d' e k h =
    let c' : CallLog = record c { log = c.log ++ e ∷ [] } in
    took _ _ d' _ (record {
      lines = flat_last call_lines d.calls c' ∙ (ap (λ (t : List Line). flat_map call_lines d.calls ++ line.Call c.call c.first c.width c.lane c.moment ∷ t) (map-append line.Entry c.log (e ∷ []))
          ∙ (behind (flat_map call_lines d.calls) (call_lines c) (line.Entry e) ∙ ap (λ (t : List Line). t ++ line.Entry e ∷ []) (sym (flat_last call_lines d.calls c))));
      kept = k;
    }) (some_is _ d' h)
took_entry Wires o d d' e k h = absurd cc
took_entry Marks o d d' e k h = absurd cc
took_entry Lanes o d d' e k h = absurd cc

-- a new wire behind the others
wire_begins : (before : List Line) (xs : List WireLog) (n : ℕ) (how : How) → n ≡ length xs
    → before ++ wire_lines 0 (xs ++ record { how = how; out = []; came = []; losses = [] } ∷ []) ≡ before ++ wire_lines 0 xs ++ line.Wire n how ∷ []
wire_begins before xs n how e =
    ap (λ (t : List Line). before ++ t) (wire_last 0 xs _ ∙ ap (λ (m : ℕ). wire_lines 0 xs ++ line.Wire m how ∷ []) (let z : 0 + length xs ≡ n = omega (arith, e) in z))
    ∙ behind before (wire_lines 0 xs) (line.Wire n how)

took_wire : (s : Stage) (d d' : Draft) (n : ℕ) (how : How) → IsKept s (record d { stage = s }) → with_wire (record d { stage = s }) n how ≡ Some d' → Took (record d { stage = s }) d' (line.Wire n how)
took_wire Calls d d' n how k h =
    let p = guarded (eqb n (length (wires_of d))) _ d' h in
    took _ _ d' _ (record {
      lines = wire_begins (flat_map call_lines (calls_of d)) (wires_of d) n how (eqb-true n (length (wires_of d)) p.0)
          ∙ ap (λ (t : List Line). t ++ line.Wire n how ∷ []) (ap (λ (ws : List WireLog). flat_map call_lines (calls_of d) ++ wire_lines 0 ws) k.0 ∙ append-nil (flat_map call_lines (calls_of d)));
      kept = (k.1, k.2);
    }) p.1
took_wire Wires d d' n how k h =
    let p = guarded (eqb n (length (wires_of d))) _ d' h in
    took _ _ d' _ (record { lines = wire_begins (flat_map call_lines (calls_of d)) (wires_of d) n how (eqb-true n (length (wires_of d)) p.0); kept = k }) p.1
took_wire Marks d d' n how k h = absurd cc
took_wire Lanes d d' n how k h = absurd cc

out_more : (how : How) (o : List Sent) (came : List Came) (losses : List LossNote) (s : Sent) → (is_empty came && is_empty losses) ≡ true → (n : ℕ)
    → one_wire n (record { how = how; out = o ++ s ∷ []; came = came; losses = losses }) ≡ one_wire n (record { how = how; out = o; came = came; losses = losses }) ++ line.Out s ∷ []
out_more how o [] [] s h n =
    ap (λ (t : List Line). line.Wire n how ∷ t) (append-nil _
    ∙ (append-nil _ ∙ (map-append line.Out o (s ∷ []) ∙ ap (λ (t : List Line). t ++ line.Out s ∷ []) (sym (append-nil (map line.Out o ++ []) ∙ append-nil (map line.Out o))))))
out_more how o [] (l ∷ losses) s h n = absurd cc
out_more how o (c ∷ came) losses s h n = absurd cc

took_out : (s : Stage) (o : Option WireLog) (d d' : Draft) (x : Sent) → IsKept s (record d { stage = s; wire = o }) → with_out (record d { stage = s; wire = o }) x ≡ Some d'
    → Took (record d { stage = s; wire = o }) d' (line.Out x)
took_out Wires (Some w) d d' x k h =
    let p = guarded (is_empty w.came && is_empty w.losses) _ d' h in
    took _ _ d' _
    (record { lines = wire_grew (flat_map call_lines (calls_of d)) d.wires w (record w { out = w.out ++ x ∷ [] }) (line.Out x) (out_more w.how w.out w.came w.losses x p.0); kept = k }) p.1
took_out Wires None d d' x k h = absurd cc
took_out Calls o d d' x k h = absurd cc
took_out Marks o d d' x k h = absurd cc
took_out Lanes o d d' x k h = absurd cc

in_more : (how : How) (o : List Sent) (came : List Came) (losses : List LossNote) (c : Came) → is_empty losses ≡ true → (n : ℕ)
    → one_wire n (record { how = how; out = o; came = came ++ c ∷ []; losses = losses }) ≡ one_wire n (record { how = how; out = o; came = came; losses = losses }) ++ line.In c ∷ []
in_more how o came [] c h n =
    ap (λ (t : List Line). line.Wire n how ∷ t) (append-nil _
    ∙ (ap (λ (t : List Line). map line.Out o ++ t) (map-append line.In came (c ∷ [])) ∙ (behind (map line.Out o) (map line.In came) (line.In c)
    ∙ ap (λ (t : List Line). t ++ line.In c ∷ []) (sym (append-nil (map line.Out o ++ map line.In came))))))
in_more how o came (l ∷ losses) c h n = absurd cc

took_in : (s : Stage) (o : Option WireLog) (d d' : Draft) (x : Came) → IsKept s (record d { stage = s; wire = o }) → with_came (record d { stage = s; wire = o }) x ≡ Some d'
    → Took (record d { stage = s; wire = o }) d' (line.In x)
took_in Wires (Some w) d d' x k h =
    let p = guarded (is_empty w.losses) _ d' h in
    took _ _ d' _
    (record { lines = wire_grew (flat_map call_lines (calls_of d)) d.wires w (record w { came = w.came ++ x ∷ [] }) (line.In x) (in_more w.how w.out w.came w.losses x p.0); kept = k }) p.1
took_in Wires None d d' x k h = absurd cc
took_in Calls o d d' x k h = absurd cc
took_in Marks o d d' x k h = absurd cc
took_in Lanes o d d' x k h = absurd cc

loss_more : (how : How) (o : List Sent) (came : List Came) (losses : List LossNote) (l : LossNote) (n : ℕ)
    → one_wire n (record { how = how; out = o; came = came; losses = losses ++ l ∷ [] }) ≡ one_wire n (record { how = how; out = o; came = came; losses = losses }) ++ line.Loss l ∷ []
loss_more how o came losses l n =
    ap (λ (t : List Line). line.Wire n how ∷ t) (ap (λ (t : List Line). map line.Out o ++ map line.In came ++ t) (map-append line.Loss losses (l ∷ []))
    ∙ behind (map line.Out o ++ map line.In came) (map line.Loss losses) (line.Loss l))

took_loss : (s : Stage) (o : Option WireLog) (d d' : Draft) (x : LossNote) → IsKept s (record d { stage = s; wire = o }) → with_loss (record d { stage = s; wire = o }) x ≡ Some d'
    → Took (record d { stage = s; wire = o }) d' (line.Loss x)
took_loss Wires (Some w) d d' x k h =
    took _ _ d' _
    (record { lines = wire_grew (flat_map call_lines (calls_of d)) d.wires w (record w { losses = w.losses ++ x ∷ [] }) (line.Loss x) (loss_more w.how w.out w.came w.losses x); kept = k })
    (some_is _ d' h)
took_loss Wires None d d' x k h = absurd cc
took_loss Calls o d d' x k h = absurd cc
took_loss Marks o d d' x k h = absurd cc
took_loss Lanes o d d' x k h = absurd cc

no_marks : (before : List Line) (ms : List Fired) → ms ≡ [] → before ++ (line.Timer ∷ []) ++ map line.Mark ms ≡ before ++ line.Timer ∷ []
no_marks before ms e = ap (λ (m : List Fired). before ++ (line.Timer ∷ []) ++ map line.Mark m) e ∙ append-nil (before ++ line.Timer ∷ [])

took_timer : (s : Stage) (d d' : Draft) → IsKept s (record d { stage = s }) → with_timer (record d { stage = s }) ≡ Some d' → Took (record d { stage = s }) d' line.Timer
took_timer Calls d d' k h =
    took _ _ d' _ (record {
      lines = no_marks (flat_map call_lines (calls_of d) ++ wire_lines 0 (wires_of d)) d.marks k.1
          ∙ ap (λ (t : List Line). t ++ line.Timer ∷ []) (ap (λ (ws : List WireLog). flat_map call_lines (calls_of d) ++ wire_lines 0 ws) k.0 ∙ append-nil (flat_map call_lines (calls_of d)));
      kept = k.2;
    }) (some_is _ d' h)
took_timer Wires d d' k h = took _ _ d' _ (record { lines = no_marks (flat_map call_lines (calls_of d) ++ wire_lines 0 (wires_of d)) d.marks k.0; kept = k.1 }) (some_is _ d' h)
took_timer Marks d d' k h = absurd cc
took_timer Lanes d d' k h = absurd cc

took_mark : (s : Stage) (d d' : Draft) (m : Fired) → IsKept s (record d { stage = s }) → with_mark (record d { stage = s }) m ≡ Some d' → Took (record d { stage = s }) d' (line.Mark m)
took_mark Marks d d' m k h =
    let before : List Line = flat_map call_lines (calls_of d) ++ wire_lines 0 (wires_of d) ++ (line.Timer ∷ []) in
    took _ _ d' _ (record { lines = ap (λ (t : List Line). before ++ t) (map-append line.Mark d.marks (m ∷ [])) ∙ behind before (map line.Mark d.marks) (line.Mark m); kept = k }) (some_is _ d' h)
took_mark Calls d d' m k h = absurd cc
took_mark Wires d d' m k h = absurd cc
took_mark Lanes d d' m k h = absurd cc

lane_begins : (before : List Line) (xs : List LaneLog) (n : ℕ) → n ≡ length xs → before ++ lane_lines 0 (xs ++ record { cancels = [] } ∷ []) ≡ before ++ lane_lines 0 xs ++ line.Lane n ∷ []
lane_begins before xs n e =
    ap (λ (t : List Line). before ++ t) (lane_last 0 xs _ ∙ ap (λ (m : ℕ). lane_lines 0 xs ++ line.Lane m ∷ []) (let z : 0 + length xs ≡ n = omega (arith, e) in z))
    ∙ behind before (lane_lines 0 xs) (line.Lane n)

few_more : (xs : List LaneLog) (x : LaneLog) (n : ℕ) → n ≡ length xs → n < 16 → (1 ≤ length (xs ++ x ∷ [])) × (length (xs ++ x ∷ []) ≤ 16)
few_more xs x n e h = (omega (arith, length-append xs (x ∷ [])), omega (arith, e, h, length-append xs (x ∷ [])))

took_lane : (s : Stage) (d d' : Draft) (n : ℕ) → IsKept s (record d { stage = s }) → with_lane (record d { stage = s }) n ≡ Some d' → Took (record d { stage = s }) d' (line.Lane n)
took_lane Marks d d' n k h =
    let p = guarded_twice (eqb n (length (lanes_of d))) (ltb n 16) _ d' h in
    let e : n ≡ length (lanes_of d) = eqb-true n (length (lanes_of d)) p.0 in
    let before : List Line = flat_map call_lines (calls_of d) ++ wire_lines 0 (wires_of d) ++ (line.Timer ∷ []) ++ map line.Mark d.marks in
    took _ _ d' _ (record {
      lines = lane_begins before (lanes_of d) n e ∙ ap (λ (t : List Line). t ++ line.Lane n ∷ []) (ap (λ (l : List LaneLog). before ++ lane_lines 0 l) k ∙ append-nil before);
      kept = few_more (lanes_of d) (record { cancels = [] }) n e (ltb-true n 16 p.1);
    }) p.2
took_lane Lanes d d' n k h =
    let p = guarded_twice (eqb n (length (lanes_of d))) (ltb n 16) _ d' h in
    let e : n ≡ length (lanes_of d) = eqb-true n (length (lanes_of d)) p.0 in
    let before : List Line = flat_map call_lines (calls_of d) ++ wire_lines 0 (wires_of d) ++ (line.Timer ∷ []) ++ map line.Mark d.marks in
    took _ _ d' _ (record { lines = lane_begins before (lanes_of d) n e; kept = few_more (lanes_of d) (record { cancels = [] }) n e (ltb-true n 16 p.1) }) p.2
took_lane Calls d d' n k h = absurd cc
took_lane Wires d d' n k h = absurd cc

same_length : (xs : List LaneLog) (x y : LaneLog) → (1 ≤ length (xs ++ x ∷ [])) × (length (xs ++ x ∷ []) ≤ 16) → (1 ≤ length (xs ++ y ∷ [])) × (length (xs ++ y ∷ []) ≤ 16)
same_length xs x y k = (omega (arith, k.0, length-append xs (x ∷ []), length-append xs (y ∷ [])), omega (arith, k.1, length-append xs (x ∷ []), length-append xs (y ∷ [])))

took_cancel : (s : Stage) (o : Option LaneLog) (d d' : Draft) (x : CancelNote) → IsKept s (record d { stage = s; lane = o }) → with_cancel (record d { stage = s; lane = o }) x ≡ Some d'
    → Took (record d { stage = s; lane = o }) d' (line.Cancel x)
took_cancel Lanes (Some l) d d' x k h =
    let before : List Line = flat_map call_lines (calls_of d) ++ wire_lines 0 (wires_of d) ++ (line.Timer ∷ []) ++ map line.Mark d.marks in
    took _ _ d' _ (record {
      lines = lane_grew before d.lanes l (record l { cancels = l.cancels ++ x ∷ [] }) (line.Cancel x) (λ n. ap (λ (t : List Line). line.Lane n ∷ t) (map-append line.Cancel l.cancels (x ∷ [])));
      kept = same_length d.lanes l (record l { cancels = l.cancels ++ x ∷ [] }) k;
    }) (some_is _ d' h)
took_cancel Lanes None d d' x k h = absurd cc
took_cancel Calls o d d' x k h = absurd cc
took_cancel Wires o d d' x k h = absurd cc
took_cancel Marks o d d' x k h = absurd cc

-- one more line
pub took_line : (d d' : Draft) (l : Line) → IsKept d.stage d → with_line d l ≡ Some d' → Took d d' l
unfolding with_line
took_line d d' (line.Call a b c e m) k h = took_call d.stage d d' a b c e m k h
took_line d d' (line.Entry e) k h = took_entry d.stage d.call d d' e k h
took_line d d' (line.Wire n how) k h = took_wire d.stage d d' n how k h
took_line d d' (line.Out x) k h = took_out d.stage d.wire d d' x k h
took_line d d' (line.In x) k h = took_in d.stage d.wire d d' x k h
took_line d d' (line.Loss x) k h = took_loss d.stage d.wire d d' x k h
took_line d d' line.Timer k h = took_timer d.stage d d' k h
took_line d d' (line.Mark m) k h = took_mark d.stage d d' m k h
took_line d d' (line.Lane n) k h = took_lane d.stage d d' n k h
took_line d d' (line.Cancel x) k h = took_cancel d.stage d.lane d d' x k h
