-- The generated script is accepted, call by call.
use Rattle.std.proofs.Common.{◌≡◌, ℕ, zero, suc, ◌+◌, ◌*◌, ◌/◌, ◌%◌, ◌<◌, ◌≤◌, Bool, true, false, cond, ◌==◌, nat_lt, List, [], ◌∷◌, ◌++◌, length, find, Some, Ok, Err, refl, codes, arith}
use Rattle.std.proofs.Common.{ap, sym, subst, ◌∙◌, append_assoc, length-append, lit≤}
use Rattle.std.specs.Fmt.{decimal}
use Rattle.std.specs.List.{slice_split}
use Rattle.std.proofs.lemmas.List.{append-nil}
use Rattle.std.proofs.lemmas.Bool.Decides.{nat_tests}
use Rattle.rpc_model.specs.declared.script.Act.{Act}
use Rattle.rpc_model.specs.declared.script.Act.TheVariants.{Join}
use Rattle.rpc_model.specs.declared.script.Mode.TheVariants.{Sim}
use Rattle.rpc_model.specs.declared.script.Cause.TheVariants.{TooLong}
use Rattle.rpc_model.specs.declared.script.Script.{Script}
use Rattle.rpc_model.specs.Words.{text}
use Rattle.rpc_model.specs.Before.{nothing, calls_of}
use Rattle.rpc_model.specs.CallLines.{call_line, reply_line, join_line, aim}
use Rattle.rpc_model.specs.Lines.{fixed_line, line_says, kind_says}
use Rattle.rpc_model.specs.Script.{script, scripted, script_of, lines_say}
use Rattle.script_gen.specs.declared.draw.Channel.{Channel}
use Rattle.script_gen.specs.Generator as spec
use Rattle.script_gen.specs.Generator.{name_of, leaf_of, channel_of, code_of, nth_code, next_draw, call_lines, lines_from, setting_lines, generated}
use Rattle.script_gen.proofs.Words.{IsWord, AreWords, spaced, split_front, words-within, words-short, decimal-word}
use Rattle.script_gen.proofs.Settings.{settled, settings-say, settings-cut}
use Rattle.script_gen.proofs.Known.{IsKnown, known, aim_word}
use Rattle.script_gen.proofs.Said.{line-is, call-text, reply-text, join-text, before-later, before-append, found, calls-begun, calls-replied, calls-joined, events-more, weight-more}
use Rattle.script_gen.proofs.Said.{call-weighs, call-said, reply-said, join-said, uvw, call_words, reply_words, join_words, AreBefore, is_of, begin_act, reply_act, IsReady}

-- ---- the three lines

at_word : IsWord (codes "at")
at_word = record { some = refl; bytes = refl; short = lit≤ tt }

call_word : IsWord (codes "call")
call_word = record { some = refl; bytes = refl; short = lit≤ tt }

reply_word : IsWord (codes "reply")
reply_word = record { some = refl; bytes = refl; short = lit≤ tt }

join_word : IsWord (codes "join")
join_word = record { some = refl; bytes = refl; short = lit≤ tt }

uvw_word : IsWord uvw
uvw_word = record { some = refl; bytes = refl; short = lit≤ tt }

t_word : IsWord (codes "t")
t_word = record { some = refl; bytes = refl; short = lit≤ tt }

code-small : (draw : ℕ) → code_of draw < 10000000
code-small draw = by (draw / 1024 % 3 == 0) (draw / 1024 % 3 == 1)
  where
    by : (a b : Bool) → cond a 0 (cond b 1009 2001) < 10000000
    by true b = omega arith
    by false true = omega arith
    by false false = omega arith

call-are : (channel : Channel) (call : ℕ) (k : IsKnown channel call) → call ≤ 100000 → AreWords (call_words (10 * call) call (name_of channel))
call-are channel call k few = (at_word, (decimal-word (10 * call) (omega arith), (call_word, (decimal-word call (omega arith), (k.name, (uvw_word, tt))))))

reply-are : (channel : Channel) (call draw : ℕ) (k : IsKnown channel call) → call ≤ 100000 → AreWords (reply_words (10 * call + 1) call (aim_word channel call) (decimal (code_of draw)))
reply-are channel call draw k few =
    (at_word, (decimal-word (10 * call + 1) (omega arith), (reply_word, (decimal-word call (omega arith), (k.aim, (decimal-word (code_of draw) (code-small draw), (t_word, tt)))))))

join-are : (call : ℕ) → call ≤ 100000 → AreWords (join_words call)
join-are call few = (join_word, (decimal-word call (omega arith), tt))

call-kind : (acts : List Act) (moment call name : List ℕ) → kind_says (settled acts) (codes "at" ∷ moment ∷ codes "call" ∷ call ∷ name ∷ uvw ∷ []) ≡ call_line (settled acts) moment call name uvw
unfolding fixed_line
call-kind acts moment call name = refl

reply-kind : (acts : List Act) (moment call aim code : List ℕ)
    → kind_says (settled acts) (codes "at" ∷ moment ∷ codes "reply" ∷ call ∷ aim ∷ code ∷ codes "t" ∷ []) ≡ reply_line (settled acts) moment call aim code (codes "t")
unfolding fixed_line
reply-kind acts moment call aim code = refl

join-kind : (acts : List Act) (call : List ℕ) → kind_says (settled acts) (codes "join" ∷ call ∷ []) ≡ join_line (settled acts) call
unfolding fixed_line
join-kind acts call = refl

-- the first of several lines is cut off
front : (w : List ℕ) (ws : List (List ℕ)) (text rest : List ℕ) → AreWords (w ∷ ws) → text ++ rest ≡ spaced (w ∷ ws) ++ 10 ∷ rest
    → slice_split (λ b. b == 10) (text ++ rest) ≡ spaced (w ∷ ws) ∷ slice_split (λ b. b == 10) rest
front w ws text rest h e = ap (λ (t : List ℕ). slice_split (λ b. b == 10) t) e ∙ split_front 32 126 10 (spaced (w ∷ ws)) rest (omega arith) (words-within w ws h)

abbrev pieces : List ℕ → List (List ℕ)
pieces text = slice_split (λ b. b == 10) text

abbrev after_call : ℕ → ℕ → ℕ → ℕ → List Act → List Act
after_call call number leaf code acts = ((acts ++ begin_act call number ∷ []) ++ reply_act call leaf code ∷ []) ++ Join call ∷ []

-- The three lines of a call are cut off and read.
call-read : (number draw call : ℕ) (acts : List Act) (rest : List ℕ) (k : IsKnown (channel_of draw) call) → IsReady call acts → 1 ≤ call → call ≤ 100000
    → lines_say number (settled acts) (pieces (call_lines draw call ++ rest)) ≡ lines_say (number + 1 + 1 + 1) (settled (after_call call k.number k.leaf (code_of draw) acts)) (pieces rest)
call-read number draw call acts rest k r some few =
    let channel = channel_of draw in
    let begins = spec.call_line (10 * call) call (name_of (channel_of draw)) in
    let replies = spec.reply_line (10 * call + 1) call (leaf_of (channel_of draw) call) (code_of draw) in
    let joins = spec.join_line call in
    let a1 = acts ++ begin_act call k.number ∷ [] in
    let a2 = (acts ++ begin_act call k.number ∷ []) ++ reply_act call k.leaf (code_of draw) ∷ [] in
    let order : call_lines draw call ++ rest ≡ begins ++ (replies ++ (joins ++ rest)) = append_assoc (begins ++ replies) joins rest ∙ append_assoc begins replies (joins ++ rest) in
    let words1 = call-are (channel_of draw) call k few in
    let words2 = reply-are (channel_of draw) call draw k few in
    let words3 = join-are call few in
    let cut1 =
    front (codes "at") (decimal (10 * call) ∷ codes "call" ∷ decimal call ∷ name_of (channel_of draw) ∷ uvw ∷ []) begins (replies ++ (joins ++ rest)) words1
    (call-text (10 * call) call (name_of (channel_of draw)) (replies ++ (joins ++ rest))) in
    let cut2 =
    front (codes "at") (decimal (10 * call + 1) ∷ codes "reply" ∷ decimal call ∷ aim_word (channel_of draw) call ∷ decimal (code_of draw) ∷ codes "t" ∷ []) replies (joins ++ rest) words2
    (reply-text (10 * call + 1) call (leaf_of (channel_of draw) call) (code_of draw) (joins ++ rest)) in
    let cut3 = front (codes "join") (decimal call ∷ []) joins rest words3 (join-text call rest) in
    let found1 : find (λ c. c.0 == call) (calls_of a1) ≡ Some (call, k.number) =
    ap (λ (cs : List (ℕ × ℕ)). find (is_of call) cs) (calls-begun acts call k.number) ∙ found call k.number (calls_of acts) r.earlier in
    let found2 : find (λ c. c.0 == call) (calls_of a2) ≡ Some (call, k.number) = ap (λ (cs : List (ℕ × ℕ)). find (is_of call) cs) (calls-replied a1 call k.leaf (code_of draw)) ∙ found1 in
    let events1 = events-more acts (begin_act call k.number) in
    let events2 = events-more a1 (reply_act call k.leaf (code_of draw)) in
    let said1 = line-is (settled acts) (codes "at") (decimal (10 * call) ∷ codes "call" ∷ decimal call ∷ name_of (channel_of draw) ∷ uvw ∷ []) words1 (lit≤ tt) refl
    ∙ (call-kind acts (decimal (10 * call)) (decimal call) (name_of (channel_of draw)) ∙ call-said acts (channel_of draw) call k r some few) in
    let said2 =
    line-is (settled a1) (codes "at") (decimal (10 * call + 1) ∷ codes "reply" ∷ decimal call ∷ aim_word (channel_of draw) call ∷ decimal (code_of draw) ∷ codes "t" ∷ []) words2 (lit≤ tt) refl
    ∙ (reply-kind a1 (decimal (10 * call + 1)) (decimal call) (aim_word (channel_of draw) call) (decimal (code_of draw))
    ∙ reply-said a1 (channel_of draw) call draw k (record { found = found1; events = omega (arith, events1, r.events) }) some few) in
    let said3 = line-is (settled a2) (codes "join") (decimal call ∷ []) words3 (lit≤ tt) refl
    ∙ (join-kind a2 (decimal call) ∙ join-said a2 call k.number found2 (omega (arith, events1, events2, r.events)) some few) in
    ap (λ (t : List ℕ). lines_say number (settled acts) (pieces t)) order
    ∙ (ap (λ (ps : List (List ℕ)). lines_say number (settled acts) ps)
    (cut1 ∙ ap (λ (ps : List (List ℕ)). spaced (call_words (10 * call) call (name_of (channel_of draw))) ∷ ps)
    (cut2 ∙ ap (λ (ps : List (List ℕ)). spaced (reply_words (10 * call + 1) call (aim_word (channel_of draw) call) (decimal (code_of draw))) ∷ ps) cut3))
    ∙ rw (said1, said2, said3) refl)

-- After them the next call is ready.
call-ready : (call number leaf code : ℕ) (channel : Channel) (k : IsKnown channel call) (acts : List Act) → IsReady call acts → IsReady (call + 1) (after_call call k.number leaf code acts)
call-ready call number leaf code channel k acts r =
    let a1 = acts ++ begin_act call k.number ∷ [] in
    let a2 = (acts ++ begin_act call k.number ∷ []) ++ reply_act call leaf code ∷ [] in
    let all : calls_of (after_call call k.number leaf code acts) ≡ calls_of acts ++ (call, k.number) ∷ [] = calls-joined a2 call ∙ (calls-replied a1 call leaf code ∙ calls-begun acts call k.number) in
    let count : length (calls_of (after_call call k.number leaf code acts)) ≡ length (calls_of acts) + 1 =
    ap (λ (cs : List (ℕ × ℕ)). length cs) all ∙ length-append (calls_of acts) ((call, k.number) ∷ []) in
    let before : AreBefore (call + 1) (calls_of acts ++ (call, k.number) ∷ []) =
    before-append (call + 1) (calls_of acts) ((call, k.number) ∷ []) (before-later call (call + 1) (calls_of acts) (omega arith) r.earlier) (omega arith, tt) in
    let events1 = events-more acts (begin_act call k.number) in
    let events2 = events-more a1 (reply_act call leaf code) in
    let events3 = events-more a2 (Join call) in
    let weight1 = weight-more acts (begin_act call k.number) in
    let weight2 = weight-more a1 (reply_act call leaf code) in
    let weight3 = weight-more a2 (Join call) in
    record {
      earlier = subst (λ (cs : List (ℕ × ℕ)). AreBefore (call + 1) cs) (sym all) before;
      calls = omega (arith, count, r.calls);
      events = omega (arith, events1, events2, events3, r.events);
      weight = omega (arith, weight1, weight2, weight3, r.weight, call-weighs channel call k);
    }

-- ---- all calls

end-says : (number : ℕ) (acts : List Act) → lines_say number (settled acts) (pieces []) ≡ Ok (settled acts)
unfolding line_says
end-says number acts = refl

calls-read : (more number draw call : ℕ) (acts : List Act) → IsReady call acts → 1 ≤ call → call + more ≤ 100001
    → (after : List Act) × (lines_say number (settled acts) (pieces (lines_from draw call more)) ≡ Ok (settled after))
unfolding lines_from
calls-read zero number draw call acts r some few = (acts, end-says number acts)
calls-read (suc more) number draw call acts r some few =
    let k = known (channel_of (next_draw draw)) call in
    let rest =
    calls-read more (number + 1 + 1 + 1) (next_draw draw) (call + 1) (after_call call k.number k.leaf (code_of (next_draw draw)) acts)
    (call-ready call k.number k.leaf (code_of (next_draw draw)) (channel_of (next_draw draw)) k acts r) (omega arith) (omega arith) in
    (rest.0, call-read number (next_draw draw) call acts (lines_from (next_draw draw) (call + 1) more) k r some (omega arith) ∙ rest.1)

-- ---- the length

text-short : (w : List ℕ) (ws : List (List ℕ)) (text : List ℕ) → AreWords (w ∷ ws) → text ++ [] ≡ spaced (w ∷ ws) ++ 10 ∷ [] → length text ≤ 8 * length (w ∷ ws)
text-short w ws text h e = omega (arith, ap length (sym (append-nil text) ∙ e), length-append (spaced (w ∷ ws)) (10 ∷ []), words-short w ws h)

calls-short : (more draw call : ℕ) → call + more ≤ 100001 → length (lines_from draw call more) ≤ 120 * more
unfolding lines_from
calls-short zero draw call few = omega arith
calls-short (suc more) draw call few =
    let next = next_draw draw in
    let channel = channel_of (next_draw draw) in
    let k = known (channel_of (next_draw draw)) call in
    let begins = spec.call_line (10 * call) call (name_of (channel_of (next_draw draw))) in
    let replies = spec.reply_line (10 * call + 1) call (leaf_of (channel_of (next_draw draw)) call) (code_of (next_draw draw)) in
    let joins = spec.join_line call in
    let rest = lines_from (next_draw draw) (call + 1) more in
    let short1 =
    text-short (codes "at") (decimal (10 * call) ∷ codes "call" ∷ decimal call ∷ name_of (channel_of (next_draw draw)) ∷ uvw ∷ []) begins
    (call-are (channel_of (next_draw draw)) call k (omega arith)) (call-text (10 * call) call (name_of (channel_of (next_draw draw))) []) in
    let short2 =
    text-short (codes "at") (decimal (10 * call + 1) ∷ codes "reply" ∷ decimal call ∷ aim_word (channel_of (next_draw draw)) call ∷ decimal (code_of (next_draw draw)) ∷ codes "t" ∷ [])
    replies (reply-are (channel_of (next_draw draw)) call (next_draw draw) k (omega arith))
    (reply-text (10 * call + 1) call (leaf_of (channel_of (next_draw draw)) call) (code_of (next_draw draw)) []) in
    let short3 = text-short (codes "join") (decimal call ∷ []) joins (join-are call (omega arith)) (join-text call []) in
    let sizes = total begins replies joins rest in
    sum_short (length begins) (length replies) (length joins) (length rest) more (length (((begins ++ replies) ++ joins) ++ rest)) sizes short1 short2 short3
    (calls-short more (next_draw draw) (call + 1) (omega arith))
  where
    total : (a b c d : List ℕ) → length (((a ++ b) ++ c) ++ d) ≡ length a + length b + length c + length d
    total a b c d = omega (arith, length-append ((a ++ b) ++ c) d, length-append (a ++ b) c, length-append a b)

    sum_short : (a b c d more n : ℕ) → n ≡ a + b + c + d → a ≤ 48 → b ≤ 56 → c ≤ 16 → d ≤ 120 * more → n ≤ 120 * suc more
    sum_short a b c d more n e f g h i = omega arith

settings-short : length setting_lines ≤ 300
unfolding setting_lines
settings-short = lit≤ tt

not-long : (count : ℕ) → count ≤ 100000 → nat_lt 16777216 (length (setting_lines ++ lines_from count 1 count)) ≡ false
not-long count few =
    least (length (setting_lines ++ lines_from count 1 count)) (omega (arith, length-append setting_lines (lines_from count 1 count), settings-short, calls-short count count 1 (omega arith)))
  where
    least : (n : ℕ) → n ≤ 16777216 → nat_lt 16777216 n ≡ false
    least n h = grind (arith, nat_tests)

first-ready : IsReady 1 []
first-ready = record { earlier = tt; calls = refl; events = refl; weight = omega arith }

-- For each count the generated script is accepted.
pub accepted : (count : ℕ) → 1 ≤ count → count ≤ 100000 → (said : Script) × (script Sim (generated count) ≡ Ok said)
unfolding script generated
accepted count some few =
    let r = calls-read count 6 count 1 [] first-ready (omega arith) (omega arith) in
    let lines : lines_say 1 (nothing Sim) (pieces (setting_lines ++ lines_from count 1 count)) ≡ Ok (settled r.0) =
    ap (λ (ps : List (List ℕ)). lines_say 1 (nothing Sim) ps) (settings-cut (lines_from count 1 count)) ∙ (settings-say (pieces (lines_from count 1 count)) ∙ r.1) in (
      script_of (settled r.0),
      ap (λ (b : Bool). cond b (Err (0, TooLong)) (scripted (lines_say 1 (nothing Sim) (pieces (setting_lines ++ lines_from count 1 count))))) (not-long count few)
          ∙ ap scripted lines,
    )
