-- What each of the three lines of a call says.
use Rattle.std.proofs.Common.{◌≡◌, ℕ, ◌+◌, ◌*◌, ◌/◌, ◌%◌, ◌<◌, ◌≤◌, Bool, true, false, cond, ◌==◌, nat_le, nat_lt, List, [], ◌∷◌, ◌++◌, length, find, Option, Some, None, Ok, refl, codes}
use Rattle.std.proofs.Common.{arith, ap, ◌∙◌, append_assoc, eq-eqb, lit<}
use Rattle.std.specs.Fmt.{decimal}
use Rattle.std.specs.List.{slice_split, list_all}
use Rattle.std.proofs.lemmas.List.{append-nil}
use Rattle.std.proofs.lemmas.Bool.{ne_eqb}
use Rattle.std.proofs.lemmas.Bool.Decides.{nat_tests}
use Rattle.std.proofs.lemmas.Fmt.{decimal_digit}
use Rattle.std.proofs.lemmas.Grind.{flat_map-append}
use Rattle.std.proofs.lemmas.List.Sums.{sum_by-append}
use Rattle.rpc_model.specs.declared.script.Act.{Act}
use Rattle.rpc_model.specs.declared.script.Act.TheVariants.{Call, Reply, Join}
use Rattle.rpc_model.specs.declared.script.Cause.TheVariants.{BadNumber}
use Rattle.rpc_model.specs.Plan.{plan}
use Rattle.rpc_model.specs.Words.{all_within, number_or, known_name, attempt_word, text}
use Rattle.rpc_model.specs.Before.{Before, call_of, calls_of, event_count, is_event, weight_of, total_weight, call_weight, attempts_of}
use Rattle.rpc_model.specs.CallLines.{call_line, reply_line, join_line, aim, is_narrow, has_attempt}
use Rattle.rpc_model.specs.Lines.{words_say, line_says, kind_says, says_nothing, is_word}
use Rattle.script_gen.specs.declared.draw.Channel.{Channel}
use Rattle.script_gen.specs.Generator as spec
use Rattle.script_gen.specs.Generator.{name_of, leaf_of, channel_of, code_of, nth_code, next_draw, call_lines, lines_from, setting_lines, generated}
use Rattle.script_gen.proofs.Words.{AreWords, spaced, words-cut, words-within, words-short, words-some, number-is}
use Rattle.script_gen.proofs.Settings.{settled}
use Rattle.script_gen.proofs.Known.{Tree, IsKnown, chans, names, aim_word}

-- ---- a line of words

pub line-is : (before : Before) (w : List ℕ) (ws : List (List ℕ)) → AreWords (w ∷ ws) → length (w ∷ ws) ≤ 7 → says_nothing (spaced (w ∷ ws)) ≡ false
    → line_says before (spaced (w ∷ ws)) ≡ kind_says before (w ∷ ws)
unfolding line_says words_say
line-is before w ws h few said =
    let short : nat_le (length (spaced (w ∷ ws))) 65536 ≡ true = at_most (length (spaced (w ∷ ws))) (omega (arith, words-short w ws h)) in
    let within : all_within 32 126 (spaced (w ∷ ws)) ≡ true = words-within w ws h in
    let cut : slice_split (λ b. b == 32) (spaced (w ∷ ws)) ≡ w ∷ ws = words-cut w ws h in
    let some : list_all is_word (w ∷ ws) ≡ true = words-some (w ∷ ws) h in
    rw (short, within, said, cut, some) refl
  where
    at_most : (n : ℕ) → n ≤ 65536 → nat_le n 65536 ≡ true
    at_most n h = grind (arith, nat_tests)

abbrev pub uvw : List ℕ
uvw = codes "u,v,w"

abbrev pub call_words : ℕ → ℕ → List ℕ → List (List ℕ)
call_words moment call name = codes "at" ∷ decimal moment ∷ codes "call" ∷ decimal call ∷ name ∷ uvw ∷ []

abbrev pub reply_words : ℕ → ℕ → List ℕ → List ℕ → List (List ℕ)
reply_words moment call aim code = codes "at" ∷ decimal moment ∷ codes "reply" ∷ decimal call ∷ aim ∷ code ∷ codes "t" ∷ []

abbrev pub join_words : ℕ → List (List ℕ)
join_words call = codes "join" ∷ decimal call ∷ []

-- ---- the lines as texts

pub call-text : (moment call : ℕ) (name rest : List ℕ) → spec.call_line moment call name ++ rest ≡ spaced (call_words moment call name) ++ 10 ∷ rest
call-text moment call name rest = simp append_assoc

pub reply-text : (moment call leaf code : ℕ) (rest : List ℕ) → spec.reply_line moment call leaf code ++ rest ≡ spaced (reply_words moment call (decimal leaf ++ codes "#0") (decimal code)) ++ 10 ∷ rest
reply-text moment call leaf code rest = simp append_assoc

pub join-text : (call : ℕ) (rest : List ℕ) → spec.join_line call ++ rest ≡ spaced (join_words call) ++ 10 ∷ rest
join-text call rest = simp append_assoc

-- ---- calls that lines begin

abbrev pub AreBefore : ℕ → List (ℕ × ℕ) → Type 0
AreBefore call [] = Unit {0}
AreBefore call (c ∷ cs) = (c.0 < call) × AreBefore call cs

pub before-later : (m n : ℕ) (cs : List (ℕ × ℕ)) → m ≤ n → AreBefore m cs → AreBefore n cs
before-later m n [] le h = tt
before-later m n (c ∷ cs) le h = (omega (arith, le, h.0), before-later m n cs le h.1)

pub before-append : (n : ℕ) (xs ys : List (ℕ × ℕ)) → AreBefore n xs → AreBefore n ys → AreBefore n (xs ++ ys)
before-append n [] ys h k = k
before-append n (x ∷ xs) ys h k = (h.0, before-append n xs ys h.1 k)

abbrev pub is_of : ℕ → ℕ × ℕ → Bool
is_of call c = c.0 == call

pub not-found : (call : ℕ) (cs : List (ℕ × ℕ)) → AreBefore call cs → find (is_of call) cs ≡ None
not-found call [] h = refl
not-found call (c ∷ cs) h = ap (λ (b : Bool). cond b (Some c) (find (is_of call) cs)) (ne_eqb c.0 call (λ e. absurd (omega (arith, e, h.0)))) ∙ not-found call cs h.1

pub found : (call chan : ℕ) (cs : List (ℕ × ℕ)) → AreBefore call cs → find (is_of call) (cs ++ (call, chan) ∷ []) ≡ Some (call, chan)
found call chan [] h = ap (λ (b : Bool). cond b (Some (call, chan)) None) (eq-eqb call call refl)
found call chan (c ∷ cs) h =
    ap (λ (b : Bool). cond b (Some c) (find (is_of call) (cs ++ (call, chan) ∷ []))) (ne_eqb c.0 call (λ e. absurd (omega (arith, e, h.0)))) ∙ found call chan cs h.1

-- What the lines of the calls before this one leave.
pub record IsReady (call : ℕ) (acts : List Act) : Type 0 where
  pub earlier : AreBefore call (calls_of acts)
  pub calls : length (calls_of acts) + 1 ≡ call
  pub events : event_count acts + 2 ≡ 2 * call
  pub weight : total_weight chans acts + 1463 ≤ 1463 * call

abbrev pub begin_act : ℕ → ℕ → Act
begin_act call chan = Call (10 * call) call chan uvw

abbrev pub reply_act : ℕ → ℕ → ℕ → Act
reply_act call leaf code = Reply (10 * call + 1) call leaf 0 code (codes "t")

pub calls-begun : (acts : List Act) (call chan : ℕ) → calls_of (acts ++ begin_act call chan ∷ []) ≡ calls_of acts ++ (call, chan) ∷ []
calls-begun acts call chan = flat_map-append call_of acts (begin_act call chan ∷ [])

pub calls-replied : (acts : List Act) (call leaf code : ℕ) → calls_of (acts ++ reply_act call leaf code ∷ []) ≡ calls_of acts
calls-replied acts call leaf code = flat_map-append call_of acts (reply_act call leaf code ∷ []) ∙ append-nil (calls_of acts)

pub calls-joined : (acts : List Act) (call : ℕ) → calls_of (acts ++ Join call ∷ []) ≡ calls_of acts
calls-joined acts call = flat_map-append call_of acts (Join call ∷ []) ∙ append-nil (calls_of acts)

pub events-more : (acts : List Act) (act : Act) → event_count (acts ++ act ∷ []) ≡ event_count acts + (0 + cond (is_event act) 1 0)
events-more acts act = sum_by-append (λ (a : Act). cond (is_event a) 1 0) acts (act ∷ [])

pub weight-more : (acts : List Act) (act : Act) → total_weight chans (acts ++ act ∷ []) ≡ total_weight chans acts + (0 + weight_of chans act)
weight-more acts act = sum_by-append (weight_of chans) acts (act ∷ [])

-- ---- what each of the three lines says

pub moment-is : (n : ℕ) → 0 < n → n ≤ 1000001 → number_or BadNumber 0 9007199254740991 (decimal n) ≡ Ok n
moment-is n some h = number-is BadNumber 0 9007199254740991 n some (omega arith) (omega arith) (omega arith)

pub call-is : (n : ℕ) → 0 < n → n ≤ 100000 → number_or BadNumber 1 1000000000 (decimal n) ≡ Ok n
call-is n some h = number-is BadNumber 1 1000000000 n some (omega arith) (omega arith) (omega arith)

pub uvw-is : text uvw ≡ Ok uvw
unfolding text
uvw-is = refl

pub t-is : text (codes "t") ≡ Ok (codes "t")
unfolding text
t-is = refl

pub below : (m n : ℕ) → m < n → nat_lt m n ≡ true
below m n h = grind (arith, nat_tests)

pub at_most : (m n : ℕ) → m ≤ n → nat_le m n ≡ true
at_most m n h = grind (arith, nat_tests)

pub zero-digit : number_or BadNumber 0 65535 (48 ∷ []) ≡ Ok 0
unfolding number_or
zero-digit = refl

pub zero-read : number_or BadNumber 0 65535 (decimal 0) ≡ Ok 0
zero-read = ap (λ (ds : List ℕ). number_or BadNumber 0 65535 ds) (decimal_digit 0 (lit< tt)) ∙ zero-digit

pub code-read : (draw : ℕ) → number_or BadNumber 0 65535 (decimal (code_of draw)) ≡ Ok (code_of draw)
code-read draw = by (draw / 1024 % 3 == 0) (draw / 1024 % 3 == 1)
  where
    by : (a b : Bool) → number_or BadNumber 0 65535 (decimal (cond a 0 (cond b 1009 2001))) ≡ Ok (cond a 0 (cond b 1009 2001))
    by true b = zero-read
    by false true = number-is BadNumber 0 65535 1009 (omega arith) (omega arith) (omega arith) (omega arith)
    by false false = number-is BadNumber 0 65535 2001 (omega arith) (omega arith) (omega arith) (omega arith)

pub call-weighs : (channel : Channel) (call : ℕ) (k : IsKnown channel call) → call_weight chans k.number call uvw ≤ 1463
call-weighs channel call k =
    let same : call_weight chans k.number call uvw ≡ 133 * attempts_of (Some k.tree) = ap (λ (p : Option Tree). 133 * attempts_of p) k.planned in
    omega (arith, same, k.light)

pub call-said : (acts : List Act) (channel : Channel) (call : ℕ) (k : IsKnown channel call) → IsReady call acts → 1 ≤ call → call ≤ 100000
    → call_line (settled acts) (decimal (10 * call)) (decimal call) (name_of channel) uvw ≡ Ok (settled (acts ++ begin_act call k.number ∷ []))
unfolding call_line
call-said acts channel call k r some few =
    let moment : number_or BadNumber 0 9007199254740991 (decimal (10 * call)) ≡ Ok (10 * call) = moment-is (10 * call) (omega arith) (omega arith) in
    let number : number_or BadNumber 1 1000000000 (decimal call) ≡ Ok call = call-is call (omega arith) few in
    let fresh : find (λ c. c.0 == call) (calls_of acts) ≡ None = not-found call (calls_of acts) r.earlier in
    let named : known_name names (name_of channel) ≡ Ok k.number = k.named in
    let narrow : is_narrow (plan chans k.number call) ≡ true = ap is_narrow k.planned ∙ k.narrow in
    let room : nat_lt (length (calls_of acts)) 100000 ≡ true = below (length (calls_of acts)) 100000 (omega (arith, r.calls)) in
    let light : nat_le (total_weight chans acts + call_weight chans k.number call uvw) 1073741824 ≡ true =
    at_most (total_weight chans acts + call_weight chans k.number call uvw) 1073741824 (omega (arith, r.weight, call-weighs channel call k)) in
    rw (moment, number, fresh, named, uvw-is, narrow, room, light) refl

-- a line begins this call before
pub record IsBegun (call chan : ℕ) (acts : List Act) : Type 0 where
  pub found : find (λ c. c.0 == call) (calls_of acts) ≡ Some (call, chan)
  pub events : event_count acts + 1 ≤ 2 * call

pub reply-said : (acts : List Act) (channel : Channel) (call draw : ℕ) (k : IsKnown channel call) → IsBegun call k.number acts → 1 ≤ call → call ≤ 100000
    → reply_line (settled acts) (decimal (10 * call + 1)) (decimal call) (aim_word channel call) (decimal (code_of draw)) (codes "t") ≡ Ok (settled (acts ++ reply_act call k.leaf (code_of draw) ∷ []))
unfolding reply_line aim
reply-said acts channel call draw k b some few =
    let moment : number_or BadNumber 0 9007199254740991 (decimal (10 * call + 1)) ≡ Ok (10 * call + 1) = moment-is (10 * call + 1) (omega arith) (omega arith) in
    let number : number_or BadNumber 1 1000000000 (decimal call) ≡ Ok call = call-is call (omega arith) few in
    let begun : find (λ c. c.0 == call) (calls_of acts) ≡ Some (call, k.number) = b.found in
    let aimed : attempt_word (aim_word channel call) ≡ Ok (k.leaf, 0) = k.aimed in
    let live : has_attempt (plan chans k.number call) k.leaf 0 ≡ true = ap (λ (p : Option Tree). has_attempt p k.leaf 0) k.planned ∙ k.live in
    let code : number_or BadNumber 0 65535 (decimal (code_of draw)) ≡ Ok (code_of draw) = code-read draw in
    let room : nat_lt (event_count acts) 400000 ≡ true = below (event_count acts) 400000 (omega (arith, b.events)) in
    rw (moment, number, begun, aimed, live, code, t-is, room) refl

pub join-said : (acts : List Act) (call chan : ℕ) → find (λ c. c.0 == call) (calls_of acts) ≡ Some (call, chan) → event_count acts < 400000 → 1 ≤ call → call ≤ 100000
    → join_line (settled acts) (decimal call) ≡ Ok (settled (acts ++ Join call ∷ []))
unfolding join_line
join-said acts call chan begun events some few =
    let number : number_or BadNumber 1 1000000000 (decimal call) ≡ Ok call = call-is call (omega arith) few in
    let room : nat_lt (event_count acts) 400000 ≡ true = below (event_count acts) 400000 events in
    rw (number, begun, room) refl
