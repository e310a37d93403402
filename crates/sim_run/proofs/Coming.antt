-- After how many calls the plans of a channel come round again, and plans that are kept.
use Rattle.std.proofs.Common.{◌≡◌, ◌≢◌, ℕ, zero, suc, ◌+◌, ◌*◌, ◌%◌, ◌<◌, ◌≤◌, List, [], ◌∷◌, ◌++◌, length, take, get_or, set, slice_get, slice_index, nat_eq, Bool, true, false, Option}
use Rattle.std.proofs.Common.{Some, None, arith, refl, ap, sym, ◌∙◌, subst}
use Rattle.std.specs.List.{AllByRecursion}
use Rattle.std.proofs.Math.Nat.{mod-zero, mod-mod_of_dvd, mod-add-mod}
use Rattle.std.proofs.Math.Seq.{take-suc}
use Rattle.std.proofs.lemmas.Nat.Gcd.{dvd_of_mod-eq-zero}
use Rattle.timer_core.proofs.Ordered.{all_weaker, all_append}
use Rattle.rpc_model.specs.declared.chan.Chan.{Chan}
use Rattle.rpc_model.specs.declared.chan.Chan.TheVariants as chan
use Rattle.rpc_model.specs.declared.chan.Sub.{Sub}
use Rattle.rpc_model.specs.declared.kinds.MapKind.{MapKind}
use Rattle.rpc_model.specs.declared.kinds.MergeKind.{MergeKind}
use Rattle.rpc_model.specs.Plan.{Plan, plans_of, and_plan, par_over, sel_over, rule_of, subs_of, tries, tries_from, chan_plan, plan}
use Rattle.chan_tree.specs.Sound.{IsSound, AreSound}
use Rattle.chan_tree.specs.Measures.{numbers_of}
use Rattle.chan_tree.proofs.Fuel.{plan-is}
use Rattle.chan_tree.proofs.Built.{sound-here}
use Rattle.std.specs.Arc.{arc_value}
use Rattle.std.proofs.lemmas.Bool.{eqb-true, eqb-false}
use Rattle.sim_run.specs.declared.planning.Plans.{Plans}
use Rattle.sim_run.specs.declared.planning.Shared.{Shared}
use Rattle.sim_run.specs.Rounds.{ComesRound, ComeRound, IsOver, IsRound, IsPlanned}

-- ---- rests

-- By a divisor the rests are alike too.
pub finer : (round part a b : ℕ) → round % part ≡ 0 → a % round ≡ b % round → a % part ≡ b % part
finer round part a b divides same =
    sym (mod-mod_of_dvd part a (dvd_of_mod-eq-zero part divides)) ∙ ap (λ x. x % part) same ∙ mod-mod_of_dvd part b (dvd_of_mod-eq-zero part divides)

shifted : (n a b j : ℕ) → a % n ≡ b % n → (a + j) % n ≡ (b + j) % n
shifted n a b j same = sym (mod-add-mod a n j) ∙ ap (λ x. (x + j) % n) same ∙ mod-add-mod b n j

-- A multiple of a multiple is one.
pub multiple : (round part more : ℕ) → more % round ≡ 0 → round % part ≡ 0 → more % part ≡ 0
multiple round part more h k = finer round part more 0 k (h ∙ sym (zero-rest round)) ∙ zero-rest part
  where
    zero-rest : (n : ℕ) → 0 % n ≡ 0
    zero-rest zero = refl
    zero-rest (suc n) = omega arith

-- ---- a common multiple of the numbers of subs

-- One more sub.
pub over-next : {X : Type 0} (number : X → ℕ) (xs : List X) (i : ℕ) (d : X) (old new : ℕ) → i < length xs → new % old ≡ 0 → new % number (get_or xs i d) ≡ 0
    → AllByRecursion (λ x. old % number x ≡ 0) (take i xs)
    → AllByRecursion (λ x. new % number x ≡ 0) (take (i + 1) xs)
over-next number xs i d old new less all last h =
    let one : i + 1 ≡ suc i = omega arith in
    rw (one, take-suc xs i d less)
    (all_append (λ x. new % number x ≡ 0) (take i xs) (get_or xs i d ∷ [])
    (all_weaker (λ x. old % number x ≡ 0) (λ x. new % number x ≡ 0) (λ x k. multiple old (number x) new all k) (take i xs) h) (last, tt))

pub over-numbers : (rounds : List ℕ) (subs : List (Sub MapKind MergeKind)) (round : ℕ) → AllByRecursion (λ (s : Sub MapKind MergeKind). round % get_or rounds s.chan 0 ≡ 0) subs
    → IsOver rounds (numbers_of subs) round
over-numbers rounds [] round h = tt
over-numbers rounds (s ∷ subs) round h = (h.0, over-numbers rounds subs round h.1)

-- A front that is long enough is the whole.
pub take-past : {X : Type 0} (xs : List X) (i : ℕ) → length xs ≤ i → take i xs ≡ xs
take-past [] zero h = refl
take-past [] (suc i) h = refl
take-past (x ∷ xs) zero h = absurd (omega (arith, h))
take-past (x ∷ xs) (suc i) h = ap (λ ys. x ∷ ys) (take-past xs i (omega (arith, h)))

-- ---- the plans of a channel

plans-agree : (f g : ℕ → Option (Plan MapKind MergeKind)) (subs : List ℕ) → AllByRecursion (λ s. f s ≡ g s) subs → plans_of f subs ≡ plans_of g subs
plans-agree f g [] h = refl
plans-agree f g (s ∷ subs) h = ap (λ o. and_plan o (plans_of f subs)) h.0 ∙ ap (and_plan (g s)) (plans-agree f g subs h.1)

tries-same : (subs : List ℕ) (a b j count : ℕ) → a % length subs ≡ b % length subs → tries_from subs a j count ≡ tries_from subs b j count
tries-same subs a b j zero same = refl
tries-same subs a b j (suc count) same =
    ap (λ i. slice_index subs i ∷ tries_from subs a (j + 1) count) (shifted (length subs) a b j same)
    ∙ ap (λ ts. slice_index subs ((b + j) % length subs) ∷ ts) (tries-same subs a b (j + 1) count same)

index-all : (P : ℕ → Type 0) (subs : List ℕ) (i : ℕ) → AllByRecursion P subs → i < length subs → P (slice_index subs i)
index-all P [] i h less = absurd (omega (arith, less))
index-all P (s ∷ subs) zero h less = h.0
index-all P (s ∷ subs) (suc i) h less = index-all P subs i h.1 (omega (arith, less))

tries-all : (P : ℕ → Type 0) (subs : List ℕ) (call j count : ℕ) → 1 ≤ length subs → AllByRecursion P subs → AllByRecursion P (tries_from subs call j count)
tries-all P subs call j zero some h = tt
tries-all P subs call j (suc count) some h = (index-all P subs ((call + j) % length subs) h (grind (arith, some)), tries-all P subs call (j + 1) count some h)

module _ (chans : List (Chan MapKind MergeKind)) (sound : AreSound 0 chans) (rounds : List ℕ) (come : ComeRound chans rounds) where
  agree : (round a b : ℕ) (subs : List ℕ) → a % round ≡ b % round → IsOver rounds subs round → AllByRecursion (λ s. plan chans s a ≡ plan chans s b) subs
  agree round a b subs same over =
      all_weaker (λ s. round % get_or rounds s 0 ≡ 0) (λ s. plan chans s a ≡ plan chans s b) (λ s d. come s a b (finer round (get_or rounds s 0) a b d same)) subs over

  chan-round : (number : ℕ) (c : Chan MapKind MergeKind) (round a b : ℕ) → IsSound number c → IsRound rounds c round → a % round ≡ b % round
      → chan_plan (λ s. plan chans s a) a (Some c) ≡ chan_plan (λ s. plan chans s b) b (Some c)
  chan-round number (chan.Leaf leaf) round a b fit is same = refl
  chan-round number (chan.Par par) round a b fit is same = ap (par_over (rule_of par)) (plans-agree (λ s. plan chans s a) (λ s. plan chans s b) (subs_of par) (agree round a b (subs_of par) same is))
  chan-round number (chan.Sel sel) round a b fit is same =
      let turned = tries-same sel.subs a b 0 (sel.retry + 1) (finer round (length sel.subs) a b is.0 same) in
      let all = tries-all (λ s. plan chans s a ≡ plan chans s b) sel.subs b 0 (sel.retry + 1) fit.0 (agree round a b sel.subs same is.1) in
      ap (sel_over sel.timeout) (ap (plans_of (λ s. plan chans s a)) turned ∙ plans-agree (λ s. plan chans s a) (λ s. plan chans s b) (tries sel b) all)
  chan-round number (chan.Part part) round a b fit is same = refl

  -- A channel's plans come round after a multiple of the numbers of its subs.
  pub comes-round : (number : ℕ) (c : Chan MapKind MergeKind) (round : ℕ) → slice_get chans number ≡ Some c → IsRound rounds c round → ComesRound chans number round
  comes-round number c round at is a b same =
      plan-is chans a number sound ∙ ap (chan_plan (λ s. plan chans s a) a) at ∙ chan-round number c round a b (sound-here chans number sound c at) is same
      ∙ sym (plan-is chans b number sound ∙ ap (chan_plan (λ s. plan chans s b) b) at)

-- ---- the list of all channels' numbers

pushed : (P : ℕ → ℕ → Type 0) (rounds : List ℕ) (r : ℕ) → ((n : ℕ) → P n (get_or rounds n 0)) → P (length rounds) r → (n : ℕ) → P n (get_or (rounds ++ r ∷ []) n 0)
pushed P [] r h last zero = last
pushed P [] r h last (suc n) = h (suc n)
pushed P (x ∷ xs) r h last zero = h zero
pushed P (x ∷ xs) r h last (suc n) = pushed (λ k. P (suc k)) xs r (λ k. h (suc k)) last n

pub come-next : (chans : List (Chan MapKind MergeKind)) (rounds : List ℕ) (r : ℕ) → ComeRound chans rounds → ComesRound chans (length rounds) r → ComeRound chans (rounds ++ r ∷ [])
come-next chans rounds r come last = pushed (ComesRound chans) rounds r come last

pub come-none : (chans : List (Chan MapKind MergeKind)) → ComeRound chans []
come-none chans number a b same = ap (plan chans number) (sym (mod-zero a) ∙ same ∙ mod-zero b)

-- ---- a list after a write

pub set-at : {X : Type 0} (xs : List X) (i : ℕ) (y z : X) → slice_get (set xs i y) i ≡ Some z → z ≡ y
set-at [] i y z e = absurd (cc)
set-at (x ∷ xs) zero y z e = cc
set-at (x ∷ xs) (suc i) y z e = set-at xs i y z e

pub set-other : {X : Type 0} (xs : List X) (i j : ℕ) (y : X) → j ≢ i → slice_get (set xs i y) j ≡ slice_get xs j
set-other [] i j y differ = refl
set-other (x ∷ xs) zero zero y differ = absurd (differ refl)
set-other (x ∷ xs) zero (suc j) y differ = refl
set-other (x ∷ xs) (suc i) zero y differ = refl
set-other (x ∷ xs) (suc i) (suc j) y differ = set-other xs i j y (λ e. differ (ap suc e))

-- ---- plans that are kept

-- No plan stands at one more place.
pub none-pushed : (xs : List (Option Shared)) → ((place : ℕ) (shared : Shared) → slice_get xs place ≢ Some (Some shared)) → (place : ℕ) (shared : Shared)
    → slice_get (xs ++ None ∷ []) place ≢ Some (Some shared)
none-pushed [] h zero shared e = cc
none-pushed [] h (suc place) shared e = cc
none-pushed (x ∷ xs) h zero shared e = h zero shared e
none-pushed (x ∷ xs) h (suc place) shared e = none-pushed xs (λ p. h (suc p)) place shared e

-- A plan is put where that of its call's rest stands.
pub kept-more : (chans : List (Chan MapKind MergeKind)) (old new : Plans) (place number rest call : ℕ) (shared : Shared) → IsPlanned chans old → new.rounds.items ≡ old.rounds.items
    → new.kept.items ≡ set old.kept.items place (Some shared) → place ≡ 16 * number + rest → rest < 16 → rest ≡ call % get_or old.rounds.items number 0
    → plan chans number call ≡ Some (arc_value shared.plan) → IsPlanned chans new
kept-more chans old new place number rest call shared h same put there low rests planned = record {
  rounds = rw same h.rounds;
  kept = λ p n r k s at is small left.
      by p n r k s (nat_eq p place) refl (sym (ap (λ xs. slice_get xs p) put) ∙ at) is small (sym (ap (λ rs. k % get_or rs n 0) same) ∙ left);
}
  where
    by : (p n r k : ℕ) (s : Shared) (b : Bool) → nat_eq p place ≡ b → slice_get (set old.kept.items place (Some shared)) p ≡ Some (Some s) → p ≡ 16 * n + r → r < 16
        → k % get_or old.rounds.items n 0 ≡ r
        → plan chans n k ≡ Some (arc_value s.plan)
    by p n r k s true e at is small left =
        let here : p ≡ place = eqb-true p place e in
        let n-is : number ≡ n = omega (arith, here, is, there, small, low) in
        let r-is : rest ≡ r = omega (arith, here, is, there, small, low) in
        let some : Some s ≡ Some shared = set-at old.kept.items place (Some shared) (Some s) (subst (λ q. slice_get (set old.kept.items place (Some shared)) q ≡ Some (Some s)) here at) in
        let one : s ≡ shared = cc in
        let alike : k % get_or old.rounds.items number 0 ≡ call % get_or old.rounds.items number 0 = subst (λ m. k % get_or old.rounds.items m 0 ≡ r) (sym n-is) left ∙ sym r-is ∙ rests in
        let found : plan chans number k ≡ Some (arc_value shared.plan) = h.rounds number k call alike ∙ planned in
        subst (λ m. plan chans m k ≡ Some (arc_value s.plan)) n-is (found ∙ ap (λ (x : Shared). Some (arc_value x.plan)) (sym one))
    by p n r k s false e at is small left = h.kept p n r k s (sym (set-other old.kept.items place p (Some shared) (eqb-false p place e)) ∙ at) is small left

rest-low : (call round : ℕ) → 1 ≤ round → round ≤ 16 → call % round < 16
rest-low call round some few = let less : call % round < round = grind (arith, some) in omega (arith, less, few)

-- What stands at a call's place is its plan.
pub found-kept : (chans : List (Chan MapKind MergeKind)) (plans : Plans) (place number call round : ℕ) (shared : Shared) → IsPlanned chans plans → round ≡ get_or plans.rounds.items number 0
    → 1 ≤ round → round ≤ 16
    → place ≡ 16 * number + call % round → slice_get plans.kept.items place ≡ Some (Some shared) → plan chans number call ≡ Some (arc_value shared.plan)
found-kept chans plans place number call round shared h same some few there at =
    h.kept place number (call % round) call shared at there (rest-low call round some few) (ap (λ r. call % r) (sym same))

-- A call's plan is put at its place.
pub put-kept : (chans : List (Chan MapKind MergeKind)) (old new : Plans) (place number call round : ℕ) (shared : Shared) → IsPlanned chans old → round ≡ get_or old.rounds.items number 0
    → 1 ≤ round → round ≤ 16
    → place ≡ 16 * number + call % round → new.rounds.items ≡ old.rounds.items → new.kept.items ≡ set old.kept.items place (Some shared)
    → plan chans number call ≡ Some (arc_value shared.plan) → IsPlanned chans new
put-kept chans old new place number call round shared h same some few there rounds put planned =
    kept-more chans old new place number (call % round) call shared h rounds put there (rest-low call round some few) (ap (λ r. call % r) same) planned
