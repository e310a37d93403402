-- What the channels of an accepted script come to: they have plans, whose leaves have known servers.
use Rattle.std.proofs.Common.{◌≡◌, ℕ, zero, suc, ◌+◌, ◌<◌, ◌≤◌, ◌==◌, ◌&&◌, Bool, true, false, cond, List, [], ◌∷◌, length, map, filter, slice_get, Option, Some, None, refl, ap, ◌∙◌, arith, subst}
use Rattle.std.specs.Prelude.{All}
use Rattle.std.specs.List.{AllByRecursion}
use Rattle.rpc_model.specs.declared.chan.Chan.{Chan}
use Rattle.rpc_model.specs.declared.chan.Chan.TheVariants as chan
use Rattle.rpc_model.specs.declared.chan.PartChan.{PartChan}
use Rattle.rpc_model.specs.declared.chan.Sub.{Sub}
use Rattle.rpc_model.specs.declared.chan.Tag.{Tag}
use Rattle.rpc_model.specs.declared.kinds.MapKind.{MapKind}
use Rattle.rpc_model.specs.declared.kinds.MergeKind.{MergeKind}
use Rattle.rpc_model.specs.Plan.{Rule, Plan, Plans, plans_of, and_plan, par_over, sel_over, rule_of, subs_of, servers_of, tries, part_plans, chan_plan, plan_within, plan}
use Rattle.rpc_model.specs.Faults.{or_missing, first_missing, or_later, missing_from, chan_missing, missing_within, missing_part}
use Rattle.rpc_model.specs.Served.{AreServed, AreAllServed}
use Rattle.rpc_model.specs.Fits.{IsChan, AreChans}
use Rattle.chan_tree.specs.Sound.{AreBefore, IsSound, AreSound}

-- ---- lists

to-all : {X : Type 0} (P : X → Type 0) (xs : List X) → AllByRecursion P xs → All P xs
to-all P [] h k d less = absurd (omega (arith, less))
to-all P (x ∷ xs) h zero d less = h.0
to-all P (x ∷ xs) h (suc k) d less = to-all P xs h.1 k d (omega (arith, less))

from-all : {X : Type 0} (P : X → Type 0) (xs : List X) → All P xs → AllByRecursion P xs
from-all P [] h = tt
from-all P (x ∷ xs) h = (h 0 x (omega arith), from-all P xs (λ k d less. h (suc k) d (omega (arith, less))))

-- ---- channels name channels before them

subs-before : (number : ℕ) (subs : List (Sub MapKind MergeKind)) → AllByRecursion (λ (s : Sub MapKind MergeKind). s.chan < number) subs
    → AreBefore number (map (λ (s : Sub MapKind MergeKind). s.chan) subs)
subs-before number [] h = tt
subs-before number (s ∷ ss) h = (h.0, subs-before number ss h.1)

chan-sound : (servers number : ℕ) (c : Chan MapKind MergeKind) → IsChan servers number c → IsSound number c
chan-sound servers number (chan.Leaf leaf) fit = fit.some_server
chan-sound servers number (chan.Par par) fit = subs-before number par.subs (from-all (λ (s : Sub MapKind MergeKind). s.chan < number) par.subs fit.earlier_subs)
chan-sound servers number (chan.Sel sel) fit = (fit.some_sub, from-all (λ sub. sub < number) sel.subs fit.earlier_subs)
chan-sound servers number (chan.Part part) fit = tt

pub chans-sound : (servers number : ℕ) (chans : List (Chan MapKind MergeKind)) → AreChans servers number chans → AreSound number chans
chans-sound servers number [] h = tt
chans-sound servers number (c ∷ chans) h = (chan-sound servers number c h.0, chans-sound servers (suc number) chans h.1)

-- ---- the channel of a number

abbrev ChanIf : ℕ → ℕ → Option (Chan MapKind MergeKind) → Type 0
ChanIf servers number None = Unit {0}
ChanIf servers number (Some c) = IsChan servers number c

chan-at : (servers first : ℕ) (chans : List (Chan MapKind MergeKind)) (number : ℕ) → AreChans servers first chans → (at : ℕ) × ChanIf servers at (slice_get chans number)
chan-at servers first [] number h = (0, tt)
chan-at servers first (c ∷ chans) zero h = (first, h.0)
chan-at servers first (c ∷ chans) (suc number) h = chan-at servers (suc first) chans number h.1

-- ---- no part is missing

none-missing : (missing_of : ℕ → Option ℕ) (numbers : List ℕ) → ((n : ℕ) → missing_of n ≡ None) → first_missing missing_of numbers ≡ None
none-missing missing_of [] h = refl
none-missing missing_of (n ∷ ns) h = ap (λ o. or_later o (first_missing missing_of ns)) (h n) ∙ none-missing missing_of ns h

chan-whole : (missing_of : ℕ → Option ℕ) (call servers number : ℕ) (c : Option (Chan MapKind MergeKind)) → ChanIf servers number c → ((n : ℕ) → missing_of n ≡ None)
    → chan_missing missing_of call c ≡ None
chan-whole missing_of call servers number None fit h = refl
chan-whole missing_of call servers number (Some (chan.Leaf leaf)) fit h = refl
chan-whole missing_of call servers number (Some (chan.Par par)) fit h = none-missing missing_of (subs_of par) h
chan-whole missing_of call servers number (Some (chan.Sel sel)) fit h = none-missing missing_of (tries sel call) h
chan-whole missing_of call servers number (Some (chan.Part part)) fit h = fit.no_part_missing

whole-within : (depth servers : ℕ) (chans : List (Chan MapKind MergeKind)) (call number : ℕ) → AreChans servers 0 chans → missing_within depth chans call number ≡ None
whole-within zero servers chans call number h = refl
whole-within (suc depth) servers chans call number h =
    let at = chan-at servers 0 chans number h in
    chan-whole (missing_within depth chans call) call servers at.0 (slice_get chans number) at.1 (λ n. whole-within depth servers chans call n h)

pub whole : (servers : ℕ) (chans : List (Chan MapKind MergeKind)) (number call : ℕ) → AreChans servers 0 chans → missing_part chans number call ≡ None
whole servers chans number call h = whole-within (suc number) servers chans call number h

-- ---- each leaf has known servers

abbrev ServedIf : ℕ → Option (Plan MapKind MergeKind) → Type 0
ServedIf servers None = Unit {0}
ServedIf servers (Some p) = AreServed servers p

abbrev AllServedIf : ℕ → Option (Plans MapKind MergeKind) → Type 0
AllServedIf servers None = Unit {0}
AllServedIf servers (Some ps) = AreAllServed servers ps

and-served : (servers : ℕ) (one : Option (Plan MapKind MergeKind)) (rest : Option (Plans MapKind MergeKind)) → ServedIf servers one → AllServedIf servers rest → AllServedIf servers (and_plan one rest)
and-served servers None rest h hs = tt
and-served servers (Some p) None h hs = tt
and-served servers (Some p) (Some ps) h hs = (h, hs)

plans-served : (servers : ℕ) (plan_of : ℕ → Option (Plan MapKind MergeKind)) (numbers : List ℕ) → ((n : ℕ) → ServedIf servers (plan_of n)) → AllServedIf servers (plans_of plan_of numbers)
plans-served servers plan_of [] h = tt
plans-served servers plan_of (n ∷ ns) h = and-served servers (plan_of n) (plans_of plan_of ns) (h n) (plans-served servers plan_of ns h)

known-servers : (servers : ℕ) (test : Tag → Bool) (tags : List Tag) → AllByRecursion (λ (t : Tag). t.server < servers) tags
    → AllByRecursion (λ s. s < servers) (map (λ (t : Tag). t.server) (filter test tags))
known-servers servers test [] h = tt
known-servers servers test (t ∷ ts) h = by (test t) (known-servers servers test ts h.1)
  where
    by : (v : Bool) → AllByRecursion (λ s. s < servers) (map (λ (t : Tag). t.server) (filter test ts))
        → AllByRecursion (λ s. s < servers) (map (λ (t : Tag). t.server) (cond v (t ∷ filter test ts) (filter test ts)))
    by true rest = (h.0, rest)
    by false rest = rest

some-server : (part : ℕ) (ss : List ℕ) (later : Option ℕ) → or_missing part ss later ≡ None → (1 ≤ length ss) × (later ≡ None)
some-server part [] later e = absurd (cc)
some-server part (s ∷ ss) later e = (omega arith, e)

parts-served : (servers : ℕ) (part : PartChan MapKind MergeKind) (first count : ℕ) → AllByRecursion (λ (t : Tag). t.server < servers) part.tags → missing_from part first count ≡ None
    → AreAllServed servers (part_plans part first count)
parts-served servers part first zero known none = tt
parts-served servers part first (suc count) known none =
    let ss = servers_of part.tags part.parts first in
    let some = some-server first ss (missing_from part (first + 1) count) none in
    ((some.0, to-all (λ s. s < servers) ss (known-servers servers (λ (t : Tag). t.part == first && t.of == part.parts) part.tags known)), parts-served servers part (first + 1) count known some.1)

par-served : (servers : ℕ) (rule : Rule MapKind MergeKind) (ps : Option (Plans MapKind MergeKind)) → AllServedIf servers ps → ServedIf servers (par_over rule ps)
par-served servers rule None h = tt
par-served servers rule (Some ps) h = h

sel-served : (servers : ℕ) (timeout : Option ℕ) (ps : Option (Plans MapKind MergeKind)) → AllServedIf servers ps → ServedIf servers (sel_over timeout ps)
sel-served servers timeout None h = tt
sel-served servers timeout (Some ps) h = h

tags-known : (servers : ℕ) (tags : List Tag) → AllByRecursion (λ (tag : Tag). (tag.server < servers) × (tag.part < tag.of) × (tag.of ≤ 1000)) tags
    → AllByRecursion (λ (t : Tag). t.server < servers) tags
tags-known servers [] h = tt
tags-known servers (t ∷ ts) h = (h.0.0, tags-known servers ts h.1)

chan-served : (plan_of : ℕ → Option (Plan MapKind MergeKind)) (call servers number : ℕ) (c : Option (Chan MapKind MergeKind)) → ChanIf servers number c
    → ((n : ℕ) → ServedIf servers (plan_of n)) → ServedIf servers (chan_plan plan_of call c)
chan-served plan_of call servers number None fit h = tt
chan-served plan_of call servers number (Some (chan.Leaf leaf)) fit h = (fit.some_server, fit.known_servers)
chan-served plan_of call servers number (Some (chan.Par par)) fit h = par-served servers (rule_of par) (plans_of plan_of (subs_of par)) (plans-served servers plan_of (subs_of par) h)
chan-served plan_of call servers number (Some (chan.Sel sel)) fit h = sel-served servers sel.timeout (plans_of plan_of (tries sel call)) (plans-served servers plan_of (tries sel call) h)
chan-served plan_of call servers number (Some (chan.Part part)) fit h =
    parts-served servers part 0 part.parts (tags-known servers part.tags
    (from-all (λ (tag : Tag). (tag.server < servers) × (tag.part < tag.of) × (tag.of ≤ 1000)) part.tags fit.known_servers)) fit.no_part_missing

served-within : (depth servers : ℕ) (chans : List (Chan MapKind MergeKind)) (call number : ℕ) → AreChans servers 0 chans → ServedIf servers (plan_within depth chans call number)
served-within zero servers chans call number h = tt
served-within (suc depth) servers chans call number h =
    let at = chan-at servers 0 chans number h in
    chan-served (plan_within depth chans call) call servers at.0 (slice_get chans number) at.1 (λ n. served-within depth servers chans call n h)

pub plan-served : (servers : ℕ) (chans : List (Chan MapKind MergeKind)) (number call : ℕ) (p : Plan MapKind MergeKind) → AreChans servers 0 chans → plan chans number call ≡ Some p
    → AreServed servers p
plan-served servers chans number call p h e = subst (ServedIf servers) e (served-within (suc number) servers chans call number h)
