-- What a reader keeps, after one more of its lines.
use Rattle.std.proofs.Common.{rules, ◌≡◌, ℕ, ◌+◌, ◌*◌, ◌^◌, ◌<◌, ◌≤◌, ◌==◌, Bool, true, false, cond, subst, nat_lt, List, [], ◌∷◌, ◌++◌, suc, length, length-append, find, map, Option, Some, None}
use Rattle.std.proofs.Common.{arith, ap, sym, ◌∙◌, refl, append-nil}
use Rattle.std.specs.Prelude.{nat_eq, All}
use Rattle.std.specs.Option.{option_map}
use Rattle.std.specs.List.{IsDistinct, list_any}
use Rattle.std.specs.Cmp.{nat_eq_equiv}
use Rattle.std.proofs.lemmas.Bool.Decides.{nat_tests}
use Rattle.std.proofs.lemmas.Grind.{flat_map-append}
use Rattle.std.proofs.lemmas.List.{map-append}
use Rattle.std.proofs.lemmas.List.Elements.{All-nil, All-push}
use Rattle.std.proofs.lemmas.List.Sums.{sum_by_push, sum_by-cons}
use Rattle.std.proofs.lemmas.Map.Keys.{IsDistinct-push}
use Rattle.rpc_model.specs.declared.chan.Chan.{Chan}
use Rattle.rpc_model.specs.declared.chan.Chan.TheVariants as chan
use Rattle.rpc_model.specs.declared.kinds.MapKind.{MapKind}
use Rattle.rpc_model.specs.declared.kinds.MergeKind.{MergeKind}
use Rattle.rpc_model.specs.declared.script.Serve.{Serve}
use Rattle.rpc_model.specs.declared.script.Act.{Act}
use Rattle.rpc_model.specs.declared.script.Act.TheVariants.{Call, Cancel, Reply, Lose, Tick, Join}
use Rattle.rpc_model.specs.declared.limits.TheConstants.{ATTEMPT_WEIGHT}
use Rattle.rpc_model.specs.Plan.{Plan, plan}
use Rattle.rpc_model.specs.Faults.{chan_depth, depth}
use Rattle.rpc_model.specs.Before.{call_of, calls_of, chan_of, is_event, event_count, attempts_of, call_weight, weight_of, total_weight}
use Rattle.rpc_model.specs.Limits.{IsMoment, IsAct, IsServe, called}
use Rattle.rpc_model.specs.Fits.{IsChan, AreChans, IsNarrow, BeginsNarrow}
use Rattle.chan_tree.specs.Sound.{AreSound}
use Rattle.chan_tree.proofs.Grown.{same-plan, same-depth, last-depth}
use Rattle.chan_tree.proofs.Sounds.{chan-sound, chans-sound}
use Rattle.call_script.specs.Within.{IsWithin}

-- The calls that lines begin, after one more line.
calls_after : (acts : List Act) (act : Act) → calls_of (acts ++ act ∷ []) ≡ calls_of acts ++ call_of act
calls_after acts act = flat_map-append call_of acts (act ∷ []) ∙ ap (λ (calls : List (ℕ × ℕ)). calls_of acts ++ calls) (append-nil (call_of act))

-- The numbers of the calls are those that lines begin.
numbers : (acts : List Act) → called acts ≡ map (λ c. c.0) (calls_of acts)
numbers [] = refl
numbers (Call at call chan text ∷ acts) = ap (λ (calls : List ℕ). call ∷ calls) (numbers acts)
numbers (Cancel at call ∷ acts) = numbers acts
numbers (Reply at call node attempt code text ∷ acts) = numbers acts
numbers (Lose at call node attempt code ∷ acts) = numbers acts
numbers (Tick at ∷ acts) = numbers acts
numbers (Join call ∷ acts) = numbers acts

-- A number that no call has is none of the numbers.
no-number : (calls : List (ℕ × ℕ)) (number : ℕ) → option_map (λ c. c.1) (find (λ c. c.0 == number) calls) ≡ None → list_any (nat_eq number) (map (λ c. c.0) calls) ≡ false
no-number [] number none = refl
no-number (c ∷ calls) number none = by (c.0 == number) refl none (no-number calls number)
  where
    by : (b : Bool) → (c.0 == number) ≡ b → option_map (λ c. c.1) (cond b (Some c) (find (λ c. c.0 == number) calls)) ≡ None
        → (option_map (λ c. c.1) (find (λ c. c.0 == number) calls) ≡ None → list_any (nat_eq number) (map (λ c. c.0) calls) ≡ false)
        → list_any (nat_eq number) (map (λ c. c.0) (c ∷ calls)) ≡ false
    by true e h others = search rules
    by false e h others = let other : nat_eq number c.0 ≡ false = grind (arith, nat_tests, e) in rw other (others h)

-- Each line begins a call or is an event.
pub lines_are : (acts : List Act) → length acts ≡ length (calls_of acts) + event_count acts
lines_are [] = refl
lines_are (Call at call chan text ∷ acts) = rw (sum_by-cons (λ x. cond (is_event x) 1 0) (Call at call chan text) acts) (omega (arith, lines_are acts))
lines_are (Cancel at call ∷ acts) = rw (sum_by-cons (λ x. cond (is_event x) 1 0) (Cancel at call) acts) (omega (arith, lines_are acts))
lines_are (Reply at call node attempt code text ∷ acts) = rw (sum_by-cons (λ x. cond (is_event x) 1 0) (Reply at call node attempt code text) acts) (omega (arith, lines_are acts))
lines_are (Lose at call node attempt code ∷ acts) = rw (sum_by-cons (λ x. cond (is_event x) 1 0) (Lose at call node attempt code) acts) (omega (arith, lines_are acts))
lines_are (Tick at ∷ acts) = rw (sum_by-cons (λ x. cond (is_event x) 1 0) (Tick at) acts) (omega (arith, lines_are acts))
lines_are (Join call ∷ acts) = rw (sum_by-cons (λ x. cond (is_event x) 1 0) (Join call) acts) (omega (arith, lines_are acts))

module _ (chans : List (Chan MapKind MergeKind)) (c : Chan MapKind MergeKind) (sound : AreSound 0 chans) where
  same-weight : (act : Act) → IsAct (length chans) act → weight_of (chans ++ c ∷ []) act ≡ weight_of chans act
  same-weight (Call at call chan text) fit = ap (λ (o : Option (Plan MapKind MergeKind)). (length text + ATTEMPT_WEIGHT) * attempts_of o) (same-plan chans c sound chan call fit.0)
  same-weight (Cancel at call) fit = refl
  same-weight (Reply at call node attempt code text) fit = refl
  same-weight (Lose at call node attempt code) fit = refl
  same-weight (Tick at) fit = refl
  same-weight (Join call) fit = refl

  -- What the calls weigh hangs on their own channels alone.
  same-total : (acts : List Act) → All (IsAct (length chans)) acts → total_weight (chans ++ c ∷ []) acts ≡ total_weight chans acts
  same-total [] fit = refl
  same-total (act ∷ acts) fit =
      sum_by-cons (weight_of (chans ++ c ∷ [])) act acts
      ∙ ap (λ (n : ℕ). n + total_weight (chans ++ c ∷ []) acts) (same-weight act (fit 0 act (omega arith)))
      ∙ ap (λ (n : ℕ). weight_of chans act + n) (same-total acts (λ k d h. fit (suc k) d (omega arith)))
      ∙ sym (sum_by-cons (weight_of chans) act acts)

  same-narrow : (act : Act) → IsAct (length chans) act → BeginsNarrow chans act → BeginsNarrow (chans ++ c ∷ []) act
  same-narrow (Call at call chan text) fit narrow = rw (same-plan chans c sound chan call fit.0) narrow
  same-narrow (Cancel at call) fit narrow = tt
  same-narrow (Reply at call node attempt code text) fit narrow = tt
  same-narrow (Lose at call node attempt code) fit narrow = tt
  same-narrow (Tick at) fit narrow = tt
  same-narrow (Join call) fit narrow = tt

-- Before the first line.
pub within_nothing : IsWithin None [] [] [] [] [] [] 0 0
unfolding IsDistinct
within_nothing = record {
  few_slots = tt;
  few_channels = omega arith;
  named = omega arith;
  few_servers = omega arith;
  few_calls = omega arith;
  few_events = omega arith;
  light = omega arith;
  known = refl;
  counted = refl;
  weighed = refl;
  moments = All-nil IsMoment;
  fit = All-nil (IsAct 0);
  calls_differ = tt;
  channels = tt;
  shallow = λ n less. absurd (omega (arith, less));
  narrow = All-nil (BeginsNarrow []);
  serves_fit = All-nil (IsServe 0);
}

event-weight : (chans : List (Chan MapKind MergeKind)) (act : Act) → call_of act ≡ [] → weight_of chans act ≡ 0
event-weight chans (Call at call chan text) h = search rules
event-weight chans (Cancel at call) h = refl
event-weight chans (Reply at call node attempt code text) h = refl
event-weight chans (Lose at call node attempt code) h = refl
event-weight chans (Tick at) h = refl
event-weight chans (Join call) h = refl

event-counts : (act : Act) → call_of act ≡ [] → let count : ℕ = cond (is_event act) 1 0 in count ≡ 1
event-counts (Call at call chan text) h = search rules
event-counts (Cancel at call) h = refl
event-counts (Reply at call node attempt code text) h = refl
event-counts (Lose at call node attempt code) h = refl
event-counts (Tick at) h = refl
event-counts (Join call) h = refl

-- A line that names a channel names one of more channels.
later-act : (chans more : ℕ) (act : Act) → chans ≤ more → IsAct chans act → IsAct more act
later-act chans more (Call at call chan text) h fit = (omega (arith, h, fit.0), fit.1)
later-act chans more (Cancel at call) h fit = tt
later-act chans more (Reply at call node attempt code text) h fit = fit
later-act chans more (Lose at call node attempt code) h fit = tt
later-act chans more (Tick at) h fit = tt
later-act chans more (Join call) h fit = tt

-- More servers leave the channels as they were.
more-servers : (servers more first : ℕ) (chans : List (Chan MapKind MergeKind)) → servers ≤ more → AreChans servers first chans → AreChans more first chans
more-servers servers more first [] le h = tt
more-servers servers more first (c ∷ chans) le h = (one c h.0, more-servers servers more (suc first) chans le h.1)
  where
    one : (c : Chan MapKind MergeKind) → IsChan servers first c → IsChan more first c
    one (chan.Leaf leaf) l =
        record {
          few_retries = l.few_retries;
          backup = l.backup;
          timeout = l.timeout;
          some_server = l.some_server;
          known_servers = λ k d less. (let below = l.known_servers k d less in omega (arith, le, below));
        }
    one (chan.Par par) p = p
    one (chan.Sel sel) p = p
    one (chan.Part part) p = record {
      some_part = p.some_part;
      few_parts = p.few_parts;
      few_tags = p.few_tags;
      known_servers = λ k d less. (let below = p.known_servers k d less in (omega (arith, le, below.0), below.1, below.2));
      no_part_missing = p.no_part_missing;
      few_retries = p.few_retries;
      fail = p.fail;
      ok = p.ok;
      backup = p.backup;
      timeout = p.timeout;
    }

one-chan : (servers first : ℕ) (chans : List (Chan MapKind MergeKind)) (c : Chan MapKind MergeKind) → AreChans servers first chans
    → IsChan servers (first + length chans) c → AreChans servers first (chans ++ c ∷ [])
one-chan servers first [] c h one = (let same : first + 0 ≡ first = omega arith in subst (λ n. IsChan servers n c) same one, tt)
one-chan servers first (d ∷ chans) c h one =
    (h.0, one-chan servers (suc first) chans c h.1 (let same : first + suc (length chans) ≡ suc first + length chans = omega arith in subst (λ n. IsChan servers n c) same one))

push-chan : (servers : ℕ) (chans : List (Chan MapKind MergeKind)) (c : Chan MapKind MergeKind) → AreChans servers 0 chans → IsChan servers (length chans) c → AreChans servers 0 (chans ++ c ∷ [])
push-chan servers chans c h one = one-chan servers 0 chans c h (let same : length chans ≡ 0 + length chans = omega arith in subst (λ n. IsChan servers n c) same one)

more-serves : (servers more : ℕ) (serves : List Serve) → servers ≤ more → All (IsServe servers) serves → All (IsServe more) serves
more-serves servers more serves le h k d less = let one = h k d less in record { known = let below = one.known in omega (arith, le, below); directions = one.directions }

-- One more server.
pub within_server : (slots : Option ℕ) (names servers : List (List ℕ)) (server : List ℕ) (chans : List (Chan MapKind MergeKind))
    (serves : List Serve) (acts : List Act) (calls : List (ℕ × ℕ)) (events weight : ℕ)
    → IsWithin slots names servers chans serves acts calls events weight → length servers < 16 → IsWithin slots names (servers ++ server ∷ []) chans serves acts calls events weight
within_server slots names servers server chans serves acts calls events weight w room =
    let l = length-append servers (server ∷ []) in
    record {
      few_slots = w.few_slots;
      few_channels = w.few_channels;
      named = w.named;
      few_servers = omega (arith, l, room);
      few_calls = w.few_calls;
      few_events = w.few_events;
      light = w.light;
      known = w.known;
      counted = w.counted;
      weighed = w.weighed;
      moments = w.moments;
      fit = w.fit;
      calls_differ = w.calls_differ;
      channels = more-servers (length servers) (length (servers ++ server ∷ [])) 0 chans (omega (arith, l)) w.channels;
      shallow = w.shallow;
      narrow = w.narrow;
      serves_fit = more-serves (length servers) (length (servers ++ server ∷ [])) serves (omega (arith, l)) w.serves_fit;
    }

-- One more channel, whose name comes next.
pub within_unnamed : (slots : Option ℕ) (names servers : List (List ℕ)) (chans : List (Chan MapKind MergeKind)) (c : Chan MapKind MergeKind)
    (serves : List Serve) (acts : List Act) (calls : List (ℕ × ℕ)) (events weight : ℕ)
    → IsWithin slots names servers chans serves acts calls events weight → IsChan (length servers) (length chans) c → chan_depth (depth chans) (Some c) ≤ 8
    → IsWithin slots names servers (chans ++ c ∷ []) serves acts calls events weight
within_unnamed slots names servers chans c serves acts calls events weight w channel shallow =
    let sound = chans-sound (length servers) 0 chans w.channels in
    let all = push-chan (length servers) chans c w.channels channel in
    record {
      few_slots = w.few_slots;
      few_channels = w.few_channels;
      named = let n = w.named in simp length-append (omega (arith, n));
      few_servers = w.few_servers;
      few_calls = w.few_calls;
      few_events = w.few_events;
      light = w.light;
      known = w.known;
      counted = w.counted;
      weighed = w.weighed ∙ sym (same-total chans c sound acts w.fit);
      moments = w.moments;
      fit = λ k d h. later-act (length chans) (length (chans ++ c ∷ [])) _ (simp length-append (omega arith)) (w.fit k d h);
      calls_differ = w.calls_differ;
      channels = all;
      shallow = λ n less. deep n less (nat_lt n (length chans)) refl;
      narrow = λ k d h. same-narrow chans c sound _ (w.fit k d h) (w.narrow k d h);
      serves_fit = w.serves_fit;
    }
  where
    deep : (n : ℕ) → n < length (chans ++ c ∷ []) → (b : Bool) → nat_lt n (length chans) ≡ b → depth (chans ++ c ∷ []) n ≤ 8
    deep n less true e =
        let before : n < length chans = grind (arith, nat_tests, e) in
        let same = same-depth chans c (chans-sound (length servers) 0 chans w.channels) n before in
        let h = w.shallow n before in
        omega (arith, same, h)
    deep n less false e =
        let past : length chans ≤ n = grind (arith, nat_tests, e) in
        let k = length-append chans (c ∷ []) in
        let at : n ≡ length chans = omega (arith, past, less, k) in
        let all = push-chan (length servers) chans c w.channels channel in
        let last = last-depth chans c (chans-sound (length servers) 0 chans w.channels) (chans-sound (length servers) 0 (chans ++ c ∷ []) all) (chan-sound (length servers) (length chans) c channel) in
        let here = ap (depth (chans ++ c ∷ [])) at in
        omega (arith, here, last, shallow)

-- And its name.
pub within_named : (slots : Option ℕ) (names servers : List (List ℕ)) (name : List ℕ) (chans : List (Chan MapKind MergeKind))
    (serves : List Serve) (acts : List Act) (calls : List (ℕ × ℕ)) (events weight : ℕ)
    → IsWithin slots names servers chans serves acts calls events weight → length names < 1000 → length names < length chans
    → IsWithin slots (names ++ name ∷ []) servers chans serves acts calls events weight
within_named slots names servers name chans serves acts calls events weight w room fewer =
    let l = length-append names (name ∷ []) in
    record {
      few_slots = w.few_slots;
      few_channels = omega (arith, l, room);
      named = omega (arith, l, fewer);
      few_servers = w.few_servers;
      few_calls = w.few_calls;
      few_events = w.few_events;
      light = w.light;
      known = w.known;
      counted = w.counted;
      weighed = w.weighed;
      moments = w.moments;
      fit = w.fit;
      calls_differ = w.calls_differ;
      channels = w.channels;
      shallow = w.shallow;
      narrow = w.narrow;
      serves_fit = w.serves_fit;
    }

event-narrow : (chans : List (Chan MapKind MergeKind)) (act : Act) → call_of act ≡ [] → BeginsNarrow chans act
event-narrow chans (Call at call chan text) h = search rules
event-narrow chans (Cancel at call) h = tt
event-narrow chans (Reply at call node attempt code text) h = tt
event-narrow chans (Lose at call node attempt code) h = tt
event-narrow chans (Tick at) h = tt
event-narrow chans (Join call) h = tt

-- One more line that begins no call.
pub within_event : (slots : Option ℕ) (names servers : List (List ℕ)) (chans : List (Chan MapKind MergeKind)) (serves : List Serve)
    (acts : List Act) (act : Act) (calls : List (ℕ × ℕ)) (events weight : ℕ)
    → IsWithin slots names servers chans serves acts calls events weight → events < 400000 → IsMoment act → IsAct (length chans) act → call_of act ≡ []
    → IsWithin slots names servers chans serves (acts ++ act ∷ []) calls (events + 1) weight
within_event slots names servers chans serves acts act calls events weight w room moment fit event =
    let same : calls_of (acts ++ act ∷ []) ≡ calls_of acts = calls_after acts act ∙ rw event (append-nil (calls_of acts)) in
    record {
      few_slots = w.few_slots;
      few_channels = w.few_channels;
      named = w.named;
      few_servers = w.few_servers;
      few_calls = w.few_calls;
      few_events = omega arith;
      light = w.light;
      known = w.known ∙ sym same;
      counted = ap (λ (n : ℕ). n + 1) w.counted ∙ ap (λ (n : ℕ). event_count acts + n) (sym (event-counts act event)) ∙ sym (sum_by_push (λ x. cond (is_event x) 1 0) acts act);
      weighed = let none = event-weight chans act event in let more = sum_by_push (weight_of chans) acts act in let all = w.weighed in omega (arith, none, more, all);
      moments = All-push IsMoment acts act w.moments moment;
      fit = All-push (IsAct (length chans)) acts act w.fit fit;
      calls_differ = rw (numbers (acts ++ act ∷ []), same, ← numbers acts) w.calls_differ;
      channels = w.channels;
      shallow = w.shallow;
      narrow = All-push (BeginsNarrow chans) acts act w.narrow (event-narrow chans act event);
      serves_fit = w.serves_fit;
    }

-- One more call.
pub within_call : (slots : Option ℕ) (names servers : List (List ℕ)) (chans : List (Chan MapKind MergeKind)) (serves : List Serve)
    (acts : List Act) (calls : List (ℕ × ℕ)) (at call chan : ℕ) (text : List ℕ) (events weight more : ℕ)
    → IsWithin slots names servers chans serves acts calls events weight → length calls < 100000 → at < 2 ^ 53 → chan_of acts call ≡ None → chan < length names → length text ≤ 60000
    → IsNarrow (plan chans chan call) → more ≡ call_weight chans chan call text → weight + more ≤ 2 ^ 30
    → IsWithin slots names servers chans serves (acts ++ Call at call chan text ∷ []) (calls ++ (call, chan) ∷ []) events (weight + more)
within_call slots names servers chans serves acts calls at call chan text events weight more w room moment none channel short narrow weighs light =
    let same : called (acts ++ Call at call chan text ∷ []) ≡ called acts ++ call ∷ [] = called_after acts at call chan text in
    record {
      few_slots = w.few_slots;
      few_channels = w.few_channels;
      named = w.named;
      few_servers = w.few_servers;
      few_calls = simp length-append (omega arith);
      few_events = w.few_events;
      light = omega (arith, light);
      known = ap (λ (cs : List (ℕ × ℕ)). cs ++ (call, chan) ∷ []) w.known ∙ sym (calls_after acts (Call at call chan text));
      counted = let n = sum_by_push (λ x. cond (is_event x) 1 0) acts (Call at call chan text) in let all = w.counted in omega (arith, n, all);
      weighed = ap (λ (n : ℕ). n + more) w.weighed ∙ ap (λ (n : ℕ). total_weight chans acts + n) weighs ∙ sym (sum_by_push (weight_of chans) acts (Call at call chan text));
      moments = All-push IsMoment acts (Call at call chan text) w.moments moment;
      fit = All-push (IsAct (length chans)) acts (Call at call chan text) w.fit (let n = w.named in omega arith, short);
      calls_differ = rw same (IsDistinct-push nat_eq_equiv (called acts) call w.calls_differ (rw (numbers acts) (no-number (calls_of acts) call none)));
      channels = w.channels;
      shallow = w.shallow;
      narrow = All-push (BeginsNarrow chans) acts (Call at call chan text) w.narrow narrow;
      serves_fit = w.serves_fit;
    }
  where
    called_after : (acts : List Act) (at call chan : ℕ) (text : List ℕ) → called (acts ++ Call at call chan text ∷ []) ≡ called acts ++ call ∷ []
    called_after acts at call chan text = numbers (acts ++ Call at call chan text ∷ []) ∙ ap (λ (cs : List (ℕ × ℕ)). map (λ c. c.0) cs) (calls_after acts (Call at call chan text))
        ∙ map-append (λ c. c.0) (calls_of acts) ((call, chan) ∷ []) ∙ ap (λ (ns : List ℕ). ns ++ call ∷ []) (sym (numbers acts))
