-- Each step of a pass keeps the rule of a line of marks.
use Rattle.std.proofs.Common.{◌≡◌, ◌≢◌, ℕ, zero, suc, ◌+◌, ◌-◌, ◌<◌, ◌≤◌, List, [], ◌∷◌, ◌++◌, set, sum_by, arith, refl, sym, ap, ◌∙◌, subst, Some, None, MatchOption, IfNone}
use Rattle.std.specs.List.{AllByRecursion}
use Rattle.std.specs.declared.option.Option.{Option}
use Rattle.std.proofs.lemmas.List.Sums.{sum_by-cons, sum_by-append}
use mathlib.Core.Option.{some, some-injective, some-ne-none}
use lib.ListN.{get_elem?}
use Rattle.crossbeam_queue.specs.Fifo.{Pushes, Pops, Forks, Merges, Learns}
use Rattle.timer_core.specs.declared.mark.Mark.{Mark}
use Rattle.mark_line.specs.declared.log.Log.{Log}
use Rattle.mark_line.specs.Log.{log, AreSameMarks, registered_weight, taken_weight, passes_of, IsKnown, IsBalancedFor, IsBalanced, SawQueue}

-- ---- one of the logs changes

sum_set : (f : Log → ℕ) (logs : List Log) (i : ℕ) (v w : Log) → get_elem? logs i ≡ some v → sum_by f (set logs i w) + f v ≡ sum_by f logs + f w
sum_set f [] i v w e = absurd (some-ne-none v (sym e))
sum_set f (x ∷ xs) zero v w e = let s : f x ≡ f v = ap f (some-injective x v e) in omega (arith, s, sum_by-cons f w xs, sum_by-cons f x xs)
sum_set f (x ∷ xs) (suc i) v w e = omega (arith, sum_set f xs i v w e, sum_by-cons f x (set xs i w), sum_by-cons f x xs)

sum_push : (f : Log → ℕ) (logs : List Log) (w : Log) → sum_by f (logs ++ w ∷ []) ≡ sum_by f logs + f w
sum_push f logs w = omega (arith, sum_by-append f logs (w ∷ []), sum_by-cons f w [])

all_set : (P : Log → Type 0) (logs : List Log) (i : ℕ) (w : Log) → AllByRecursion P logs → P w → AllByRecursion P (set logs i w)
all_set P [] i w h p = tt
all_set P (x ∷ xs) zero w h p = (p, h.1)
all_set P (x ∷ xs) (suc i) w h p = (h.0, all_set P xs i w h.1 p)

all_push : (P : Log → Type 0) (logs : List Log) (w : Log) → AllByRecursion P logs → P w → AllByRecursion P (logs ++ w ∷ [])
all_push P [] w h p = (p, tt)
all_push P (x ∷ xs) w h p = (h.0, all_push P xs w h.1 p)

all_at : (P : Log → Type 0) (logs : List Log) (i : ℕ) (v : Log) → AllByRecursion P logs → get_elem? logs i ≡ some v → P v
all_at P [] i v h e = absurd (some-ne-none v (sym e))
all_at P (x ∷ xs) zero v h e = subst P (some-injective x v e) h.0
all_at P (x ∷ xs) (suc i) v h e = all_at P xs i v h.1 e

part_of : (f : Log → ℕ) (logs : List Log) (i : ℕ) (v : Log) → get_elem? logs i ≡ some v → f v ≤ sum_by f logs
part_of f [] i v e = absurd (some-ne-none v (sym e))
part_of f (x ∷ xs) zero v e = let s : f x ≡ f v = ap f (some-injective x v e) in omega (arith, s, sum_by-cons f x xs)
part_of f (x ∷ xs) (suc i) v e = omega (arith, part_of f xs i v e, sum_by-cons f x xs)

-- ---- a pass that holds all passes

idle_sum : (f : Log → ℕ) (logs : List Log) → sum_by passes_of logs ≡ 0 → AllByRecursion (λ (v : Log). v.passes ≡ 0 → f v ≡ 0) logs → sum_by f logs ≡ 0
idle_sum f [] z h = refl
idle_sum f (x ∷ xs) z h =
    let c = sum_by-cons passes_of x xs in
    let a = h.0 (omega (arith, z, c)) in
    let r = idle_sum f xs (omega (arith, z, c)) h.1 in
    omega (arith, a, r, sum_by-cons f x xs)

only_sum : (f : Log → ℕ) (logs : List Log) (i : ℕ) (v : Log) → get_elem? logs i ≡ some v → sum_by passes_of logs ≡ v.passes → AllByRecursion (λ (v : Log). v.passes ≡ 0 → f v ≡ 0) logs
    → sum_by f logs ≡ f v
only_sum f [] i v e z h = absurd (some-ne-none v (sym e))
only_sum f (x ∷ xs) zero v e z h =
    let same = some-injective x v e in
    let s : f x ≡ f v = ap f same in
    let p : x.passes ≡ v.passes = ap (λ (y : Log). y.passes) same in
    let c = sum_by-cons passes_of x xs in
    let r = idle_sum f xs (omega (arith, z, c, p)) h.1 in
    omega (arith, s, r, sum_by-cons f x xs)
only_sum f (x ∷ xs) (suc i) v e z h =
    let c = sum_by-cons passes_of x xs in
    let l = part_of passes_of xs i v e in
    let a = h.0 (omega (arith, z, c, l)) in
    let r = only_sum f xs i v e (omega (arith, z, c, l)) h.1 in
    omega (arith, a, r, sum_by-cons f x xs)

idle_weight : (all : ℕ) (weight : Mark → ℕ) (logs : List Log) → AllByRecursion (IsKnown all) logs
    → AllByRecursion (λ (v : Log). v.passes ≡ 0 → registered_weight weight v ≡ 0) logs × AllByRecursion (λ (v : Log). v.passes ≡ 0 → taken_weight weight v ≡ 0) logs
idle_weight all weight [] h = (tt, tt)
idle_weight all weight (x ∷ xs) h =
    let r = idle_weight all weight xs h.1 in
    (((λ z. ap (λ (ms : List Mark). sum_by weight ms) (h.0.idle_registered z)), r.0), ((λ z. ap (λ (ms : List Mark). sum_by weight ms) (h.0.idle_taken z)), r.1))

-- where the queue was empty, a pass that holds all passes took what it registered
pub all_taken : (v : Log) → SawQueue v [] → 0 < v.passes → v.passes ≡ v.all → AreSameMarks v.registered v.taken
all_taken v s any whole = record {
  same = λ weight.
      let b = s.2.1 in
      let k = (all_at (IsKnown s.2.0) s.0 s.1 v b.known s.3).shared any in
      let total : sum_by passes_of s.0 ≡ v.passes = b.passes ∙ sym k ∙ sym whole in
      let idle = idle_weight s.2.0 weight s.0 b.known in
      let r = only_sum (registered_weight weight) s.0 s.1 v s.3 total idle.0 in
      let t = only_sum (taken_weight weight) s.0 s.1 v s.3 total idle.1 in
      let m = b.marks weight in
      let none : sum_by weight [] ≡ 0 = refl in
      omega (arith, r, t, m, none);
}

-- ---- the steps

pub begins : IsBalanced [] (log [] [] 1 1 ∷ [])
begins = (1, record { known = (record { shared = λ _. refl; idle_registered = λ _. refl; idle_taken = λ _. refl }, tt); passes = refl; marks = λ weight. refl })

-- what a pass that holds passes knows
known_held : (all : ℕ) (registered taken : List Mark) (passes known : ℕ) → 0 < passes → known ≡ all → IsKnown all (log registered taken passes known)
known_held all registered taken passes known any k = record { shared = λ _. k; idle_registered = λ z. absurd (omega (arith, z, any)); idle_taken = λ z. absurd (omega (arith, z, any)) }

known_none : (all known : ℕ) → IsKnown all (log [] [] 0 known)
known_none all known = record { shared = λ l. absurd (omega (arith, l)); idle_registered = λ _. refl; idle_taken = λ _. refl }

pub registers : (n number : ℕ) (v : Log) (mark : Mark) → 0 < v.passes → Pushes IsBalanced n number v mark (λ w. w ≡ log (v.registered ++ mark ∷ []) v.taken v.passes v.all)
registers n number v mark any items logs room h e =
    let w : Log = log (v.registered ++ mark ∷ []) v.taken v.passes v.all in
    let b = h.1 in
    let k = (all_at (IsKnown h.0) logs number v b.known e).shared any in (
      w,
      (
        h.0,
        record {
          known = all_set (IsKnown h.0) logs number w b.known (known_held h.0 (v.registered ++ mark ∷ []) v.taken v.passes v.all any k);
          passes = let s = sum_set passes_of logs number v w e in omega (arith, s, b.passes);
          marks = λ weight.
              let r = sum_set (registered_weight weight) logs number v w e in
              let t = sum_set (taken_weight weight) logs number v w e in
              let m = b.marks weight in
              omega (arith, r, t, m, sum_by-append weight v.registered (mark ∷ []), sum_by-append weight items (mark ∷ []), sum_by-cons weight mark []);
        },
      ),
      refl,
    )

pub takes : (number : ℕ) (v : Log) → 0 < v.passes → Pops IsBalanced number v (λ mark w. w ≡ log v.registered (v.taken ++ mark ∷ []) v.passes v.all)
takes number v any mark items logs h e =
    let w : Log = log v.registered (v.taken ++ mark ∷ []) v.passes v.all in
    let b = h.1 in
    let k = (all_at (IsKnown h.0) logs number v b.known e).shared any in (
      w,
      (
        h.0,
        record {
          known = all_set (IsKnown h.0) logs number w b.known (known_held h.0 v.registered (v.taken ++ mark ∷ []) v.passes v.all any k);
          passes = let s = sum_set passes_of logs number v w e in omega (arith, s, b.passes);
          marks = λ weight.
              let r = sum_set (registered_weight weight) logs number v w e in
              let t = sum_set (taken_weight weight) logs number v w e in
              let m = b.marks weight in
              omega (arith, r, t, m, sum_by-append weight v.taken (mark ∷ []), sum_by-cons weight mark items, sum_by-cons weight mark []);
        },
      ),
      refl,
    )

pub learns : (number : ℕ) (v : Log) → Learns IsBalanced number v (SawQueue v)
learns number v items logs h e = (logs, number, h, e)

-- where all passes are one, the line may have one more
pub grows : (number : ℕ) (v : Log) (count : ℕ) → 0 < count → v ≡ log [] [] count count → Forks IsBalanced number v (log v.registered v.taken (v.passes + 1) (v.all + 1)) (log [] [] 0 0)
grows number v count any is items logs h e =
    let l : Log = log v.registered v.taken (v.passes + 1) (v.all + 1) in
    let b = h.1 in
    let p : v.passes ≡ count = ap (λ (y : Log). y.passes) is in
    let a : v.all ≡ count = ap (λ (y : Log). y.all) is in
    let k = (all_at (IsKnown h.0) logs number v b.known e).shared (omega (arith, p, any)) in
    let total : sum_by passes_of logs ≡ v.passes = omega (arith, b.passes, k, p, a) in (
      h.0 + 1,
      record {
        known = all_push (IsKnown (h.0 + 1)) (set logs number l) (log [] [] 0 0)
            (grown_set h.0 logs number v l e total b.known (known_held (h.0 + 1) v.registered v.taken (v.passes + 1) (v.all + 1) (omega arith) (omega (arith, k)))) (known_none (h.0 + 1) 0);
        passes = let s = sum_set passes_of logs number v l e in omega (arith, s, sum_push passes_of (set logs number l) (log [] [] 0 0), b.passes);
        marks = λ weight.
            let r = sum_set (registered_weight weight) logs number v l e in
            let t = sum_set (taken_weight weight) logs number v l e in
            let m = b.marks weight in
            let z : sum_by weight [] ≡ 0 = refl in
            omega (arith, r, t, m, z, sum_push (registered_weight weight) (set logs number l) (log [] [] 0 0), sum_push (taken_weight weight) (set logs number l) (log [] [] 0 0));
      },
    )
  where
    known_idle : (all more : ℕ) (v : Log) → v.passes ≡ 0 → IsKnown all v → IsKnown more v
    known_idle all more v z k = record { shared = λ l. absurd (omega (arith, l, z)); idle_registered = k.idle_registered; idle_taken = k.idle_taken }

    idle_all : (all : ℕ) (logs : List Log) → sum_by passes_of logs ≡ 0 → AllByRecursion (IsKnown all) logs → AllByRecursion (IsKnown (all + 1)) logs
    idle_all all [] z h = tt
    idle_all all (x ∷ xs) z h = let c = sum_by-cons passes_of x xs in (known_idle all (all + 1) x (omega (arith, z, c)) h.0, idle_all all xs (omega (arith, z, c)) h.1)

    grown_set : (all : ℕ) (logs : List Log) (i : ℕ) (v w : Log) → get_elem? logs i ≡ some v → sum_by passes_of logs ≡ v.passes → AllByRecursion (IsKnown all) logs → IsKnown (all + 1) w
        → AllByRecursion (IsKnown (all + 1)) (set logs i w)
    grown_set all [] i v w e z h k = tt
    grown_set all (x ∷ xs) zero v w e z h k =
        let p : x.passes ≡ v.passes = ap (λ (y : Log). y.passes) (some-injective x v e) in
        let c = sum_by-cons passes_of x xs in
        (k, idle_all all xs (omega (arith, z, c, p)) h.1)
    grown_set all (x ∷ xs) (suc i) v w e z h k =
        let c = sum_by-cons passes_of x xs in
        let l = part_of passes_of xs i v e in
        (known_idle all (all + 1) x (omega (arith, z, c, l)) h.0, grown_set all xs i v w e (omega (arith, z, c, l)) h.1 k)

-- a pass that holds more than one gives one away
pub shares : (number : ℕ) (v : Log) → 1 < v.passes → Forks IsBalanced number v (log v.registered v.taken (v.passes - 1) v.all) (log [] [] 1 v.all)
shares number v any items logs h e =
    let l : Log = log v.registered v.taken (v.passes - 1) v.all in
    let r : Log = log [] [] 1 v.all in
    let b = h.1 in
    let k = (all_at (IsKnown h.0) logs number v b.known e).shared (omega (arith, any)) in (
      h.0,
      record {
        known = all_push (IsKnown h.0) (set logs number l) (log [] [] 1 v.all)
            (all_set (IsKnown h.0) logs number l b.known (known_held h.0 v.registered v.taken (v.passes - 1) v.all (omega (arith, any)) k)) (known_held h.0 [] [] 1 v.all (omega arith) k);
        passes = let s = sum_set passes_of logs number v l e in omega (arith, s, any, sum_push passes_of (set logs number l) (log [] [] 1 v.all), b.passes);
        marks = λ weight.
            let x = sum_set (registered_weight weight) logs number v l e in
            let t = sum_set (taken_weight weight) logs number v l e in
            let m = b.marks weight in
            let z : sum_by weight [] ≡ 0 = refl in
            omega (arith, x, t, m, z, sum_push (registered_weight weight) (set logs number l) (log [] [] 1 v.all), sum_push (taken_weight weight) (set logs number l) (log [] [] 1 v.all));
      },
    )

-- two passes are one
pub joins : (number : ℕ) (v : Log) (other : ℕ) (u : Log) → 0 < v.passes → 0 < u.passes
    → Merges IsBalanced number v other u (log (v.registered ++ u.registered) (v.taken ++ u.taken) (v.passes + u.passes) v.all) (log [] [] 0 0)
joins number v other u any more items logs h e apart f =
    let w : Log = log (v.registered ++ u.registered) (v.taken ++ u.taken) (v.passes + u.passes) v.all in
    let spent : Log = log [] [] 0 0 in
    let b = h.1 in
    let k = (all_at (IsKnown h.0) logs number v b.known e).shared any in
    let first = all_set (IsKnown h.0) logs number w b.known (known_held h.0 (v.registered ++ u.registered) (v.taken ++ u.taken) (v.passes + u.passes) v.all (omega (arith, any)) k) in (
      h.0,
      record {
        known = all_set (IsKnown h.0) (set logs number w) other spent first (known_none h.0 0);
        passes = let s = sum_set passes_of logs number v w e in let t = sum_set passes_of (set logs number w) other u spent f in omega (arith, s, t, b.passes);
        marks = λ weight.
            let r = sum_set (registered_weight weight) logs number v w e in
            let t = sum_set (taken_weight weight) logs number v w e in
            let x = sum_set (registered_weight weight) (set logs number w) other u spent f in
            let y = sum_set (taken_weight weight) (set logs number w) other u spent f in
            let m = b.marks weight in
            let z : sum_by weight [] ≡ 0 = refl in
            omega (arith, r, t, x, y, m, z, sum_by-append weight v.registered u.registered, sum_by-append weight v.taken u.taken);
      },
    )

-- the same, at what a call answers
pub none_taken : (result : Option Mark) (old new : Log) (all : ℕ) (P : Mark → Type 0) → 0 < old.passes → old.all ≡ all → MatchOption result ((new ≡ old) × SawQueue old []) P
    → IfNone result (new.passes ≡ all → AreSameMarks new.registered new.taken)
none_taken None old new all P held known h = λ whole.
    subst (λ (v : Log). AreSameMarks v.registered v.taken) (sym h.0) (all_taken old h.1 held (sym (ap (λ (v : Log). v.passes) h.0) ∙ whole ∙ sym known))
none_taken (Some mark) old new all P held known h = tt
