-- The lines of a journal, one after the other, make it again.
use Rattle.std.proofs.Common.{◌≡◌, ℕ, ◌+◌, ◌<◌, ◌≤◌, Bool, true, ◌||◌, ◌==◌, eqb, ltb, List, [], ◌∷◌, ◌++◌, length, map, Option, Some, None, Result, Ok, refl, ap, sym, ◌∙◌, arith, eq-eqb}
use Rattle.std.proofs.Common.{append_assoc, append-nil, codes}
use Rattle.std.specs.List.{flat_map, slice_split, AllByRecursion}
use Rattle.std.specs.Prelude.{IsTrue}
use Rattle.std.proofs.lemmas.Bool.{lt-ltb}
use Rattle.std.proofs.lemmas.List.{length-append}
use Rattle.std.proofs.lemmas.List.Elements.{recursion_from_All}
use Rattle.rpc_model.specs.declared.sent.Sent.{Sent}
use Rattle.rpc_model.specs.declared.entry.Entry.{Entry}
use Rattle.rpc_model.specs.declared.journal.Journal.{Journal}
use Rattle.rpc_model.specs.declared.journal.CallLog.{CallLog}
use Rattle.rpc_model.specs.declared.journal.How.{How}
use Rattle.rpc_model.specs.declared.journal.WireLog.{WireLog}
use Rattle.rpc_model.specs.declared.journal.Came.{Came}
use Rattle.rpc_model.specs.declared.journal.LossNote.{LossNote}
use Rattle.rpc_model.specs.declared.journal.Fired.{Fired}
use Rattle.rpc_model.specs.declared.journal.LaneLog.{LaneLog}
use Rattle.rpc_model.specs.declared.journal.CancelNote.{CancelNote}
use Rattle.rpc_model.specs.declared.line.Line.{Line}
use Rattle.rpc_model.specs.declared.line.Line.TheVariants as line
use Rattle.rpc_model.specs.Texts.{line_text, text_of, call_lines, one_wire, wire_lines, lane_lines, journal_lines, journal_text}
use Rattle.journal_text.specs.declared.draft.Stage.{Stage}
use Rattle.journal_text.specs.declared.draft.Stage.TheVariants.{Calls, Wires, Marks, Lanes}
use Rattle.journal_text.specs.Reading.{◌>>=◌, guard}
use Rattle.journal_text.specs.Writing.{is_line, IsWritable}
use Rattle.journal_text.specs.Typed.{IsTypedLine, IsTyped}
use Rattle.journal_text.specs.Drafts.{Draft, begun, with_last, is_calls, is_wires, is_marks, is_lanes, with_line, or_else, journal_of_draft, finished, with_pieces, journal_of}
use Rattle.journal_text.proofs.Plain.{split_front}
use Rattle.journal_text.proofs.Taken.{pieces_first, pieces_last, ends_there}
use Rattle.journal_text.proofs.Understood.{line_reads, line_lacks}

-- the draft after some lines
abbrev pub run : Draft → List Line → Option Draft
run d [] = Some d
run d (l ∷ ls) = with_line d l >>= λ e. run e ls

-- ---- one list of a part

entries_run : (d : Draft) (c : CallLog) (es : List Entry) (rest : List Line)
    → run (record d { stage = Calls; call = Some c }) (map line.Entry es ++ rest) ≡ run (record d { stage = Calls; call = Some (record c { log = c.log ++ es }) }) rest
unfolding with_line
entries_run d c [] rest = ap (λ (l : List Entry). run (record d { stage = Calls; call = Some (record c { log = l }) }) rest) (sym (append-nil c.log))
entries_run d c (e ∷ es) rest =
    entries_run d (record c { log = c.log ++ e ∷ [] }) es rest ∙ ap (λ (l : List Entry). run (record d { stage = Calls; call = Some (record c { log = l }) }) rest) (append_assoc c.log (e ∷ []) es)

outs_run : (d : Draft) (how : How) (o xs : List Sent) (rest : List Line)
    → run (record d { stage = Wires; wire = Some (record { how = how; out = o; came = []; losses = [] }) }) (map line.Out xs ++ rest) ≡ run
    (record d { stage = Wires; wire = Some (record { how = how; out = o ++ xs; came = []; losses = [] }) }) rest
unfolding with_line
outs_run d how o [] rest = ap (λ (l : List Sent). run (record d { stage = Wires; wire = Some (record { how = how; out = l; came = []; losses = [] }) }) rest) (sym (append-nil o))
outs_run d how o (x ∷ xs) rest =
    outs_run d how (o ++ x ∷ []) xs rest
    ∙ ap (λ (l : List Sent). run (record d { stage = Wires; wire = Some (record { how = how; out = l; came = []; losses = [] }) }) rest) (append_assoc o (x ∷ []) xs)

ins_run : (d : Draft) (how : How) (o : List Sent) (c xs : List Came) (rest : List Line)
    → run (record d { stage = Wires; wire = Some (record { how = how; out = o; came = c; losses = [] }) }) (map line.In xs ++ rest) ≡ run
    (record d { stage = Wires; wire = Some (record { how = how; out = o; came = c ++ xs; losses = [] }) }) rest
unfolding with_line
ins_run d how o c [] rest = ap (λ (l : List Came). run (record d { stage = Wires; wire = Some (record { how = how; out = o; came = l; losses = [] }) }) rest) (sym (append-nil c))
ins_run d how o c (x ∷ xs) rest =
    ins_run d how o (c ++ x ∷ []) xs rest
    ∙ ap (λ (l : List Came). run (record d { stage = Wires; wire = Some (record { how = how; out = o; came = l; losses = [] }) }) rest) (append_assoc c (x ∷ []) xs)

losses_run : (d : Draft) (how : How) (o : List Sent) (c : List Came) (l xs : List LossNote) (rest : List Line)
    → run (record d { stage = Wires; wire = Some (record { how = how; out = o; came = c; losses = l }) }) (map line.Loss xs ++ rest) ≡ run
    (record d { stage = Wires; wire = Some (record { how = how; out = o; came = c; losses = l ++ xs }) }) rest
unfolding with_line
losses_run d how o c l [] rest = ap (λ (k : List LossNote). run (record d { stage = Wires; wire = Some (record { how = how; out = o; came = c; losses = k }) }) rest) (sym (append-nil l))
losses_run d how o c l (x ∷ xs) rest =
    losses_run d how o c (l ++ x ∷ []) xs rest
    ∙ ap (λ (k : List LossNote). run (record d { stage = Wires; wire = Some (record { how = how; out = o; came = c; losses = k }) }) rest) (append_assoc l (x ∷ []) xs)

marks_run : (d : Draft) (ms xs : List Fired) (rest : List Line) → run (record d { stage = Marks; marks = ms }) (map line.Mark xs ++ rest) ≡ run (record d { stage = Marks; marks = ms ++ xs }) rest
unfolding with_line
marks_run d ms [] rest = ap (λ (l : List Fired). run (record d { stage = Marks; marks = l }) rest) (sym (append-nil ms))
marks_run d ms (x ∷ xs) rest = marks_run d (ms ++ x ∷ []) xs rest ∙ ap (λ (l : List Fired). run (record d { stage = Marks; marks = l }) rest) (append_assoc ms (x ∷ []) xs)

cancels_run : (d : Draft) (cs xs : List CancelNote) (rest : List Line)
    → run (record d { stage = Lanes; lane = Some (record { cancels = cs }) }) (map line.Cancel xs ++ rest) ≡ run (record d { stage = Lanes; lane = Some (record { cancels = cs ++ xs }) }) rest
unfolding with_line
cancels_run d cs [] rest = ap (λ (l : List CancelNote). run (record d { stage = Lanes; lane = Some (record { cancels = l }) }) rest) (sym (append-nil cs))
cancels_run d cs (x ∷ xs) rest =
    cancels_run d (cs ++ x ∷ []) xs rest ∙ ap (λ (l : List CancelNote). run (record d { stage = Lanes; lane = Some (record { cancels = l }) }) rest) (append_assoc cs (x ∷ []) xs)

-- ---- the parts

-- calls: those that came, with the open one, and these
abbrev pub AfterCalls : Draft → List CallLog → Option CallLog → List CallLog → List Line → Type 0
AfterCalls d xs o cs rest = (ys : List CallLog) × (p : Option CallLog) × (with_last ys p ≡ with_last xs o ++ cs)
    × (run (record d { stage = Calls; calls = xs; call = o }) (flat_map call_lines cs ++ rest) ≡ run (record d { stage = Calls; calls = ys; call = p }) rest)

calls_run : (d : Draft) (xs : List CallLog) (o : Option CallLog) (cs : List CallLog) (rest : List Line) → AfterCalls d xs o cs rest
unfolding with_line
calls_run d xs o [] rest = (xs, o, sym (append-nil (with_last xs o)), refl)
calls_run d xs o (c ∷ cs) rest =
    let others = calls_run d (with_last xs o) (Some c) cs rest in
    let more : List Line = flat_map call_lines cs ++ rest in (
      others.0,
      others.1,
      others.2 ∙ append_assoc (with_last xs o) (c ∷ []) cs,
      ap (λ (ls : List Line). run (record d { stage = Calls; calls = xs; call = o }) ls) (append_assoc (call_lines c) (flat_map call_lines cs) rest)
          ∙ (entries_run (record d { calls = with_last xs o }) (record c { log = [] }) c.log more ∙ others.3),
    )

abbrev pub no_lists : How → WireLog
no_lists how = record { how = how; out = []; came = []; losses = [] }

wire_taken : (s : Stage) (d : Draft) (xs : List WireLog) (o : Option WireLog) (n : ℕ) (how : How) → (is_calls s || is_wires s) ≡ true → n ≡ length (with_last xs o)
    → with_line (record d { stage = s; wires = xs; wire = o }) (line.Wire n how) ≡ Some (record d { stage = Wires; wires = with_last xs o; wire = Some (no_lists how) })
unfolding with_line
wire_taken s d xs o n how may is =
    let next : Draft = record d { stage = Wires; wires = with_last xs o; wire = Some (no_lists how) } in
    ap (λ (b : Bool). guard b >>= λ _. guard (eqb n (length (with_last xs o))) >>= λ _. Some next) may
    ∙ ap (λ (b : Bool). guard b >>= λ _. Some next) (eq-eqb n (length (with_last xs o)) is)

-- wires: those that came, with the open one, and these
abbrev pub AfterWires : Draft → Stage → List WireLog → Option WireLog → ℕ → List WireLog → List Line → Type 0
AfterWires d s xs o n ws rest = (t : Stage) × (ys : List WireLog) × (p : Option WireLog) × ((is_calls t || is_wires t) ≡ true) × (with_last ys p ≡ with_last xs o ++ ws)
    × (run (record d { stage = s; wires = xs; wire = o }) (wire_lines n ws ++ rest) ≡ run (record d { stage = t; wires = ys; wire = p }) rest)

wires_run : (d : Draft) (s : Stage) (xs : List WireLog) (o : Option WireLog) (n : ℕ) (ws : List WireLog) (rest : List Line) → (is_calls s || is_wires s) ≡ true → n ≡ length (with_last xs o)
    → AfterWires d s xs o n ws rest
wires_run d s xs o n [] rest may is = (s, xs, o, may, sym (append-nil (with_last xs o)), refl)
wires_run d s xs o n (w ∷ ws) rest may is =
    let zs : List WireLog = with_last xs o in
    let others = wires_run d Wires zs (Some w) (n + 1) ws rest refl (omega (arith, is, length-append zs (w ∷ []))) in
    let more : List Line = wire_lines (n + 1) ws ++ rest in
    let e : Draft = record d { wires = zs } in
    let lists : List Line = map line.Out w.out ++ map line.In w.came ++ map line.Loss w.losses in (
      others.0,
      others.1,
      others.2,
      others.3,
      others.4 ∙ append_assoc zs (w ∷ []) ws,
      ap (λ (ls : List Line). run (record d { stage = s; wires = xs; wire = o }) ls) (append_assoc (one_wire n w) (wire_lines (n + 1) ws) rest)
          ∙ (ap (λ (x : Option Draft). x >>= λ f. run f (lists ++ more)) (wire_taken s d xs o n w.how may is)
          ∙ (ap (λ (ls : List Line). run (record e { stage = Wires; wire = Some (no_lists w.how) }) ls)
          (append_assoc (map line.Out w.out ++ map line.In w.came) (map line.Loss w.losses) more ∙ append_assoc (map line.Out w.out) (map line.In w.came) (map line.Loss w.losses ++ more))
          ∙ (outs_run e w.how [] w.out (map line.In w.came ++ (map line.Loss w.losses ++ more))
          ∙ (ins_run e w.how w.out [] w.came (map line.Loss w.losses ++ more) ∙ (losses_run e w.how w.out w.came [] w.losses more ∙ others.5))))),
    )

lane_taken : (s : Stage) (d : Draft) (xs : List LaneLog) (o : Option LaneLog) (n : ℕ) → (is_marks s || is_lanes s) ≡ true → n ≡ length (with_last xs o) → n < 16
    → with_line (record d { stage = s; lanes = xs; lane = o }) (line.Lane n) ≡ Some (record d { stage = Lanes; lanes = with_last xs o; lane = Some (record { cancels = [] }) })
unfolding with_line
lane_taken s d xs o n may is few =
    let next : Draft = record d { stage = Lanes; lanes = with_last xs o; lane = Some (record { cancels = [] }) } in
    ap (λ (b : Bool). guard b >>= λ _. guard (eqb n (length (with_last xs o))) >>= λ _. guard (ltb n 16) >>= λ _. Some next) may
    ∙ (ap (λ (b : Bool). guard b >>= λ _. guard (ltb n 16) >>= λ _. Some next) (eq-eqb n (length (with_last xs o)) is) ∙ ap (λ (b : Bool). guard b >>= λ _. Some next) (lt-ltb n 16 few))

-- lanes behind the open one
abbrev pub AfterLanes : Draft → List LaneLog → LaneLog → ℕ → List LaneLog → Type 0
AfterLanes d xs l n ls = (ys : List LaneLog) × (m : LaneLog) × (ys ++ m ∷ [] ≡ xs ++ l ∷ [] ++ ls)
    × (run (record d { stage = Lanes; lanes = xs; lane = Some l }) (lane_lines n ls) ≡ Some (record d { stage = Lanes; lanes = ys; lane = Some m }))

lanes_run : (d : Draft) (xs : List LaneLog) (l : LaneLog) (n : ℕ) (ls : List LaneLog) → n ≡ length (xs ++ l ∷ []) → n + length ls ≤ 16 → AfterLanes d xs l n ls
lanes_run d xs l n [] is few = (xs, l, sym (append-nil (xs ++ l ∷ [])), refl)
lanes_run d xs l n (k ∷ ls) is few =
    let zs : List LaneLog = xs ++ l ∷ [] in
    let others = lanes_run d zs k (n + 1) ls (omega (arith, is, length-append zs (k ∷ []))) (omega (arith, few)) in (
      others.0,
      others.1,
      others.2 ∙ append_assoc zs (k ∷ []) ls,
      ap (λ (x : Option Draft). x >>= λ f. run f (map line.Cancel k.cancels ++ lane_lines (n + 1) ls)) (lane_taken Lanes d xs (Some l) n refl is (omega (arith, few)))
          ∙ (cancels_run (record d { lanes = zs }) [] k.cancels (lane_lines (n + 1) ls) ∙ others.3),
    )

-- all lanes
lanes_all : (d : Draft) (l : LaneLog) (ls : List LaneLog) → 1 + length ls ≤ 16 → (ys : List LaneLog) × (m : LaneLog) × (ys ++ m ∷ [] ≡ l ∷ ls)
    × (run (record d { stage = Marks; lanes = []; lane = None }) (lane_lines 0 (l ∷ ls)) ≡ Some (record d { stage = Lanes; lanes = ys; lane = Some m }))
lanes_all d l ls few =
    let others = lanes_run d [] l 1 ls refl few in (
      others.0,
      others.1,
      others.2,
      ap (λ (x : Option Draft). x >>= λ f. run f (map line.Cancel l.cancels ++ lane_lines 1 ls)) (lane_taken Marks d [] None 0 refl refl (omega arith))
          ∙ (cancels_run (record d { lanes = [] }) [] l.cancels (lane_lines 1 ls) ∙ others.3),
    )

timer_taken : (s : Stage) (d : Draft) → (is_calls s || is_wires s) ≡ true → with_line (record d { stage = s }) line.Timer ≡ Some (record d { stage = Marks })
unfolding with_line
timer_taken s d may = ap (λ (b : Bool). guard b >>= λ _. Some (record d { stage = Marks })) may

journal_same : (a b : List CallLog) (c d : List WireLog) (m : List Fired) (e f : List LaneLog) → a ≡ b → c ≡ d → e ≡ f
    → record { calls = a; wires = c; marks = m; lanes = e } ≡ (let j : Journal = record { calls = b; wires = d; marks = m; lanes = f } in j)
journal_same a b c d m e f p q r =
    ap (λ (x : List CallLog). let j : Journal = record { calls = x; wires = c; marks = m; lanes = e } in j) p
    ∙ (ap (λ (x : List WireLog). let j : Journal = record { calls = b; wires = x; marks = m; lanes = e } in j) q
    ∙ ap (λ (x : List LaneLog). let j : Journal = record { calls = b; wires = d; marks = m; lanes = x } in j) r)

-- a draft that is this journal, and may end
abbrev pub Makes : Journal → Type 0
Makes j = (d : Draft) × (run begun (journal_lines j) ≡ Some d) × (d.stage ≡ Lanes) × (journal_of_draft d ≡ j)

makes : (calls : List CallLog) (wires : List WireLog) (marks : List Fired) (lanes : List LaneLog) → 1 ≤ length lanes → length lanes ≤ 16
    → Makes (record { calls = calls; wires = wires; marks = marks; lanes = lanes })
unfolding journal_lines
makes calls wires marks [] some few = absurd (omega (arith, some))
makes calls wires marks (l ∷ ls) some few =
    let f : List Line = flat_map call_lines calls in
    let w : List Line = wire_lines 0 wires in
    let m : List Line = map line.Mark marks in
    let n : List Line = lane_lines 0 (l ∷ ls) in
    let c = calls_run begun [] None calls (w ++ (line.Timer ∷ (m ++ n))) in
    let d1 : Draft = record begun { calls = c.0; call = c.1 } in
    let x = wires_run d1 Calls [] None 0 wires (line.Timer ∷ (m ++ n)) refl refl in
    let d2 : Draft = record d1 { wires = x.1; wire = x.2 } in
    let d3 : Draft = record d2 { marks = marks } in
    let y = lanes_all d3 l ls (omega (arith, few)) in (
      record d3 { stage = Lanes; lanes = y.0; lane = Some y.1 },
      ap (λ (t : List Line). run begun t) (append_assoc (f ++ w ++ (line.Timer ∷ [])) m n ∙ (append_assoc (f ++ w) (line.Timer ∷ []) (m ++ n) ∙ append_assoc f w (line.Timer ∷ (m ++ n))))
          ∙ (c.3 ∙ (x.5 ∙ (ap (λ (o : Option Draft). o >>= λ e. run e (m ++ n)) (timer_taken x.0 d2 x.3) ∙ (marks_run d2 [] marks n ∙ y.3)))),
      refl,
      journal_same (with_last c.0 c.1) calls (with_last x.1 x.2) wires marks (y.0 ++ y.1 ∷ []) (l ∷ ls) c.2 x.4 y.2,
    )

-- ---- the text

-- a text is cut into its lines, behind which nothing stands
pieces_are : (ls : List Line) → AllByRecursion IsTypedLine ls → slice_split (λ b. b == 10) (text_of ls) ≡ map line_text ls ++ [] ∷ []
unfolding text_of
pieces_are [] t = refl
pieces_are (l ∷ ls) t =
    ap (λ (x : List ℕ). slice_split (λ b. b == 10) x) (append_assoc (line_text l) (codes "\n") (text_of ls))
    ∙ (split_front 10 (line_text l) (text_of ls) (line_lacks l t.0) ∙ ap (λ (ps : List (List ℕ)). line_text l ∷ ps) (pieces_are ls t.1))

next_taken : (o : Option Draft) (d' : Draft) (n : ℕ) (ls : List Line) (all : Result Journal ℕ) → (o >>= λ e. run e ls) ≡ Some d'
    → ((e : Draft) → run e ls ≡ Some d' → with_pieces e (n + 1) (map line_text ls ++ [] ∷ []) ≡ all)
    → or_else o n (λ next. with_pieces next (n + 1) (map line_text ls ++ [] ∷ [])) ≡ all
next_taken None d' n ls all h others = absurd cc
next_taken (Some e) d' n ls all h others = others e h

some_is : (x y : Draft) → Some x ≡ Some y → x ≡ y
some_is x y e = cc

-- all lines are taken
lines_taken : (d d' : Draft) (n : ℕ) (ls : List Line) → AllByRecursion IsTypedLine ls → AllByRecursion (λ l. IsTrue (is_line l)) ls → run d ls ≡ Some d'
    → with_pieces d n (map line_text ls ++ [] ∷ []) ≡ finished d' (n + length ls) []
lines_taken d d' n [] t k h =
    pieces_last d n [] ∙ (ap (λ (e : Draft). finished e n []) (some_is d d' h) ∙ ap (λ (m : ℕ). finished d' m []) (let e : n ≡ n + 0 = omega arith in e))
lines_taken d d' n (l ∷ ls) t k h =
    pieces_first d n (line_text l) (map line_text ls) []
    ∙ (ap (λ (o : Option Line). or_else (o >>= with_line d) n (λ next. with_pieces next (n + 1) (map line_text ls ++ [] ∷ []))) (line_reads l t.0 k.0)
    ∙ next_taken (with_line d l) d' n ls (finished d' (n + length (l ∷ ls)) []) h
    (λ e r. lines_taken e d' (n + 1) ls t.1 k.1 r ∙ ap (λ (m : ℕ). finished d' m []) (let e : n + 1 + length ls ≡ n + length (l ∷ ls) = omega arith in e)))

-- what was written is read as the journal again
pub reads_again : (j : Journal) → IsWritable j → IsTyped j → journal_of (journal_text j) ≡ Ok j
unfolding journal_of journal_text
reads_again j w t =
    let m = makes j.calls j.wires j.marks j.lanes w.some_lane w.few_lanes in
    ap (λ (ps : List (List ℕ)). with_pieces begun 1 ps) (pieces_are (journal_lines j) t)
    ∙ (lines_taken begun m.0 1 (journal_lines j) t (recursion_from_All (λ (l : Line). IsTrue (is_line l)) (journal_lines j) w.lines) m.1
    ∙ (ends_there m.0 (1 + length (journal_lines j)) [] (ap (λ (s : Stage). is_lanes s) m.2) refl ∙ ap (λ (x : Journal). Ok x) m.3))
