-- The table of commands, and what the reader of words sees of a list.
use Rattle.std.proofs.Common.{◌≡◌, ℕ, ◌≤◌, Bool, true, false, List, [], ◌∷◌, Option, Some, None, refl, codes, sym, ap, ◌∙◌, is_some, bytes_eq, if◌then◌else◌}
use Rattle.std.proofs.lemmas.Bool.{true≢false, eqb-true}
use Rattle.brpc_top.specs.declared.command.Command.{Command}
use Rattle.brpc_top.specs.declared.command.Command.TheVariants.{Sim, Gen, Load}
use Rattle.brpc_top.specs.Words.{is_dashed, pair_of, judged, command_of, count_of, counted}
use Rattle.brpc_top.proofs.Taken.{pair_in}
use Rattle.brpc_top.proofs.Counted.{count-bounds}

same_judged : (p q : List ℕ × Option (List ℕ)) → Some p ≡ Some q → judged p.0 p.1 ≡ judged q.0 q.1
same_judged p q e = let same : p ≡ q = cc in ap (λ (r : List ℕ × Option (List ℕ)). judged r.0 r.1) same

none_judged : (p : List ℕ × Option (List ℕ)) (other : Option Command) → Some p ≡ None → judged p.0 p.1 ≡ other
none_judged p other e = cc

-- The table judges the one or two words.
pub named : (ws : List (List ℕ)) (a : List ℕ) (n : Option (List ℕ)) → pair_in (Some a) n ≡ pair_of ws → judged a n ≡ command_of ws
named [] a n e = cc
named (w ∷ []) a n e = by (is_dashed w) refl
  where
    by : (d : Bool) → is_dashed w ≡ d → judged a n ≡ judged w None
    by true q = none_judged (a, n) (judged w None) (e ∙ rw q refl)
    by false q = same_judged (a, n) (w, None) (e ∙ rw q refl)
named (w ∷ v ∷ []) a n e = by (is_dashed w) (is_dashed v) refl refl
  where
    by : (x y : Bool) → is_dashed w ≡ x → is_dashed v ≡ y → judged a n ≡ judged w (Some v)
    by true y p q = none_judged (a, n) (judged w (Some v)) (e ∙ rw p refl)
    by false true p q = none_judged (a, n) (judged w (Some v)) (e ∙ rw (p, q) refl)
    by false false p q = same_judged (a, n) (w, Some v) (e ∙ rw (p, q) refl)
named (w ∷ v ∷ c ∷ more) a n e = cc

no-load : (b : Bool) (n : ℕ) → (if b then Some Sim else None) ≡ Some (Load n) → (1 ≤ n) × (n ≤ 100000)
no-load true n e = cc
no-load false n e = cc

gen-load : (o : Option ℕ) (n : ℕ) → counted Gen o ≡ Some (Load n) → (1 ≤ n) × (n ≤ 100000)
gen-load None n e = cc
gen-load (Some k) n e = cc

load-load : (word : List ℕ) (n : ℕ) → counted Load (count_of word) ≡ Some (Load n) → (1 ≤ n) × (n ≤ 100000)
load-load word n e = by (count_of word) refl e
  where
    by : (o : Option ℕ) → count_of word ≡ o → counted Load o ≡ Some (Load n) → (1 ≤ n) × (n ≤ 100000)
    by None q f = cc
    by (Some k) q f = count-bounds word n (q ∙ (let same : k ≡ n = cc in ap (λ (m : ℕ). Some m) same))

two-load : (a b : Bool) (word : List ℕ) (n : ℕ) → (if a then counted Gen (count_of word) else if b then counted Load (count_of word) else None) ≡ Some (Load n) → (1 ≤ n) × (n ≤ 100000)
two-load true b word n e = gen-load (count_of word) n e
two-load false true word n e = load-load word n e
two-load false false word n e = cc

-- A load is of 1 to 100,000 calls.
pub load-count : (ws : List (List ℕ)) (n : ℕ) → command_of ws ≡ Some (Load n) → (1 ≤ n) × (n ≤ 100000)
load-count [] n e = cc
load-count (w ∷ []) n e = no-load (bytes_eq w (codes "sim")) n e
load-count (w ∷ v ∷ []) n e = two-load (bytes_eq w (codes "gen")) (bytes_eq w (codes "load")) v n e
load-count (w ∷ v ∷ u ∷ more) n e = cc
