-- What the passes of a line of marks know, and the rule of its queue: no mark is lost and none comes twice. This project's own choice.
use Rattle.std.specs.Prelude.{◌≡◌, ℕ, ◌+◌, ◌<◌, List, [], sum_by}
use Rattle.std.specs.List.{AllByRecursion}
use mathlib.Core.Option.{some}
use lib.ListN.{get_elem?}
use Rattle.timer_core.specs.declared.mark.Mark.{Mark}
use Rattle.mark_line.specs.declared.log.Log.{Log}

abbrev pub log : List Mark → List Mark → ℕ → ℕ → Log
log registered taken passes all = record { registered = registered; taken = taken; passes = passes; all = all }

-- the marks are the same, each as often
pub record AreSameMarks (xs ys : List Mark) : Type 0 where
  pub same : (weight : Mark → ℕ) → sum_by weight xs ≡ sum_by weight ys

-- the weight of the marks that a pass registered, and of those that it took
abbrev pub registered_weight : (Mark → ℕ) → Log → ℕ
registered_weight weight v = sum_by weight v.registered

abbrev pub taken_weight : (Mark → ℕ) → Log → ℕ
taken_weight weight v = sum_by weight v.taken

abbrev pub passes_of : Log → ℕ
passes_of v = v.passes

-- A pass that holds passes knows how many the line has, and one that holds none has no marks.
pub record IsKnown (all : ℕ) (v : Log) : Type 0 where
  pub shared : 0 < v.passes → v.all ≡ all
  pub idle_registered : v.passes ≡ 0 → v.registered ≡ []
  pub idle_taken : v.passes ≡ 0 → v.taken ≡ []

-- The rule: the marks that were registered are those that were taken and those in the queue, each as often, and the passes are as many as the line has.
pub record IsBalancedFor (all : ℕ) (items : List Mark) (logs : List Log) : Type 0 where
  pub known : AllByRecursion (IsKnown all) logs
  pub passes : sum_by passes_of logs ≡ all
  pub marks : (weight : Mark → ℕ) → sum_by (registered_weight weight) logs ≡ sum_by (taken_weight weight) logs + sum_by weight items

abbrev pub IsBalanced : List Mark → List Log → Type 0
IsBalanced items logs = (all : ℕ) × IsBalancedFor all items logs

-- at one moment the queue held these marks, and the pass knew this
abbrev pub SawQueue : Log → List Mark → Type 0
SawQueue v items = (logs : List Log) × (number : ℕ) × IsBalanced items logs × (get_elem? logs number ≡ some v)
