-- How the ids that wait are kept: in the order of adding, among ids that don't wait any more, which have no call. This project's own choice.
use Rattle.std.specs.Prelude.{◌≡◌, ℕ, zero, suc, ◌+◌, ◌*◌, ◌≤◌, nat_eq, Bool, List, [], ◌∷◌, length, None, Some, is_some}
use Rattle.std.specs.List.{IsDistinct}
use Rattle.std.specs.Map.{keys_of}
use Rattle.std.specs.declared.option.Option.{Option}

-- whether an entry's id waits
abbrev pub waits : ℕ × Option ℕ → Bool
waits e = is_some e.1

-- an id in front of others, where it waits
abbrev pub with_entry : ℕ → Option ℕ → List (ℕ × ℕ) → List (ℕ × ℕ)
with_entry id None others = others
with_entry id (Some call) others = (id, call) ∷ others

-- the ids that wait
abbrev pub waiting : List (ℕ × Option ℕ) → List (ℕ × ℕ)
waiting [] = []
waiting (e ∷ es) = with_entry e.0 e.1 (waiting es)

-- there are so many entries, and of the first so many no id waits
abbrev pub AreGone : ℕ → List (ℕ × Option ℕ) → Type 0
AreGone zero es = Unit {0}
AreGone (suc n) [] = ⊥
AreGone (suc n) (e ∷ es) = (e.1 ≡ None) × AreGone n es

-- so many ids wait, none of them among the first so many entries, no id stands twice, and there are at most twice as many entries as ids that wait, and one more
pub record AreKept (live front : ℕ) (entries : List (ℕ × Option ℕ)) : Type 0 where
  pub count : live ≡ length (waiting entries)
  pub gone : AreGone front entries
  pub once : IsDistinct nat_eq (keys_of entries)
  pub few : length entries ≤ 2 * live + 1
