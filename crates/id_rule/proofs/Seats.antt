-- Seats, parts and numbers when a pass takes in another.
use Rattle.std.proofs.Common.{⊎_elim, inl, inr, ◌⊎◌, ◌≡◌, ◌≢◌, ℕ, ◌<◌, eq-eqb, ne_eqb, List, [], ◌∷◌, ◌++◌, append-nil, refl, sym, ap, ap₂, ◌∙◌, subst, arith, Option}
use Rattle.std.proofs.Common.{Some, None}
use Rattle.std.specs.Prelude.{◌==◌, if◌then◌else◌, max, reverse}
use Rattle.std.proofs.lemmas.List.{reverse-append}
use mathlib.Core.Logic.{dite}
use native.Mathlib.Decide.{ℕ_discrete}
use Rattle.id_rule.specs.Receipts.{HasSent}
use Rattle.id_rule.specs.Parts.{own_number, HasNumber, blank_part, part_at, HasLog, AreAll}
use Rattle.id_rule.specs.Changes.{either_of, joined_part, joined_parts}
use Rattle.id_rule.specs.Phases.{Range, Phase, vacant, reserved, free, locked, ended, taken, retired, AreBefore, AreWithin}
use Rattle.id_rule.specs.declared.view.Known.{Known}
use Rattle.id_rule.specs.declared.view.Part.{Part}
use Rattle.id_rule.proofs.Lists.{yes_if, no_if}

-- the seat after the join: the other's is now the first's
abbrev pub seat_now : ℕ → ℕ → ℕ → ℕ
seat_now other id who = if who == other then id else who

-- the range, with its Owner's seat after the join
abbrev pub range_now : ℕ → ℕ → Range → Range
range_now other id r = record { first = r.first; size = r.size; owner = seat_now other id r.owner }

-- the phase, with the seats after the join
abbrev pub renamed : {T E : Type 0} → ℕ → ℕ → Phase T E → Phase T E
renamed other id (vacant f) = vacant f
renamed other id (reserved f r who) = reserved f r (seat_now other id who)
renamed other id (free r x) = free (range_now other id r) x
renamed other id (locked r who l qs got) = locked (range_now other id r) (seat_now other id who) l qs got
renamed other id (ended r x) = ended (range_now other id r) x
renamed other id (taken r l) = taken (range_now other id r) l
renamed other id (retired f) = retired f

-- a value or nothing is that value
pub one_of_none : {A : Type 0} (a : Option A) → either_of a None ≡ a
one_of_none None = refl
one_of_none (Some a) = refl

module _ (other id : ℕ) (apart : other ≢ id) where
  -- the first seat stays
  pub now_id : seat_now other id id ≡ id
  now_id = no_if id other id id (λ e. apart (sym e))

  -- the other seat is the first
  pub now_other : seat_now other id other ≡ id
  now_other = yes_if other other id other refl

  -- a third seat stays
  pub now_third : (by : ℕ) → by ≢ other → seat_now other id by ≡ by
  now_third by ne = no_if by other id by ne

  -- the seat after the join is among the same seats
  pub seat_low : (who n : ℕ) → id < n → who < n → seat_now other id who < n
  seat_low who n a b = dite (ℕ_discrete who other) (λ e. subst (λ (z : ℕ). z < n) (sym (yes_if who other id who e)) a) (λ ne. subst (λ (z : ℕ). z < n) (sym (no_if who other id who ne)) b)

-- what either had, the one pass has; the other has nothing, and a third has what it had
module _ {A : Type 0} (x : A) (other id : ℕ) (apart : other ≢ id) where
  -- what either of both had, the first has
  pub seat_both : (who : ℕ) → either_of (if who == id then Some x else None) (if who == other then Some x else None) ≡ (if seat_now other id who == id then Some x else None)
  seat_both who = dite (ℕ_discrete who other)
      (λ same. ap₂ either_of (no_if who id (Some x) None (λ e. apart (sym same ∙ e))) (yes_if who other (Some x) None same)
      ∙ sym (yes_if (seat_now other id who) id (Some x) None (yes_if who other id who same)))
      (λ ne. ap (either_of (if who == id then Some x else None)) (no_if who other (Some x) None ne) ∙ one_of_none (if who == id then Some x else None)
      ∙ ap (λ (z : ℕ). if z == id then Some x else None) (sym (no_if who other id who ne)))

module _ {X : Type 0} (yes none : X) (other id : ℕ) (apart : other ≢ id) where
  -- the spent seat has nothing
  pub seat_spent : (who : ℕ) → (if seat_now other id who == other then yes else none) ≡ none
  seat_spent who = dite (ℕ_discrete who other)
      (λ same. no_if (seat_now other id who) other yes none (λ e. apart (sym e ∙ yes_if who other id who same)))
      (λ ne. no_if (seat_now other id who) other yes none (λ e. ne (sym (no_if who other id who ne) ∙ e)))

  -- a third seat has what it had
  pub seat_third : (by who : ℕ) → by ≢ other → by ≢ id → (if seat_now other id who == by then yes else none) ≡ (if who == by then yes else none)
  seat_third by who a b = dite (ℕ_discrete who other)
      (λ same. no_if (seat_now other id who) by yes none (λ e. b (sym e ∙ yes_if who other id who same)) ∙ sym (no_if who by yes none (λ e. a (sym e ∙ same))))
      (λ ne. ap (λ (z : ℕ). if z == by then yes else none) (no_if who other id who ne))

module _ {X : Type 0} (xs : List X) (other id : ℕ) (apart : other ≢ id) where
  abbrev pub none_x : List X
  none_x = []

  -- the lists of both, one behind the other, are the first's
  pub list_both : (who : ℕ) → (if who == id then xs else none_x) ++ (if who == other then xs else none_x) ≡ (if seat_now other id who == id then xs else none_x)
  list_both who = dite (ℕ_discrete who other)
      (λ same. ap₂ (λ (a b : List X). a ++ b) (no_if who id xs none_x (λ e. apart (sym same ∙ e))) (yes_if who other xs none_x same)
      ∙ sym (yes_if (seat_now other id who) id xs none_x (yes_if who other id who same)))
      (λ ne. ap (λ (b : List X). (if who == id then xs else none_x) ++ b) (no_if who other xs none_x ne) ∙ append-nil (if who == id then xs else none_x)
      ∙ ap (λ (z : ℕ). if z == id then xs else none_x) (sym (no_if who other id who ne)))

module _ {E : Type 0} where
  -- a log of both lists is of one of them
  pub knew_joined : (ks js : List (Known E)) (f : ℕ) (l : List E) → HasLog (ks ++ js) f l → HasLog ks f l ⊎ HasLog js f l
  knew_joined [] js f l h = inr h
  knew_joined (k ∷ ks) js f l h = ⊎_elim (λ t. inl (inl t)) (λ t. ⊎_elim (λ u. inl (inr u)) inr (knew_joined ks js f l t)) h

  -- logs of earlier ranges, from both
  pub before_both : (f : ℕ) (ks js : List (Known E)) → AreBefore f ks → AreBefore f js → AreBefore f (ks ++ js)
  before_both f ks js a b g l h = ⊎_elim (a g l) (b g l) (knew_joined ks js g l h)

  -- beginnings of the log, from both
  pub within_both : (f : ℕ) (lg : List E) (ks js : List (Known E)) → AreWithin f lg ks → AreWithin f lg js → AreWithin f lg (ks ++ js)
  within_both f lg ks js a b g l h = ⊎_elim (a g l) (b g l) (knew_joined ks js g l h)

  -- a part joined with an empty one stays
  pub with_blank : (p : Part E) → joined_part p blank_part ≡ p
  with_blank p = let most : max p.ended_below 0 ≡ p.ended_below = omega arith in λ z. record {
    spot = one_of_none p.spot z;
    hold = one_of_none p.hold z;
    owner = one_of_none p.owner z;
    logs = append-nil p.logs z;
    turn = one_of_none p.turn z;
    last = append-nil p.last z;
    destroyed = append-nil p.destroyed z;
    taking = one_of_none p.taking z;
    ended_below = most z;
    receipts = append-nil p.receipts z;
    dropped = append-nil p.dropped z;
    got = append-nil p.got z;
  }

  -- the part of a slot after the join: of both, or the first's where the other knows nothing
  joined_at : (ps qs ks : List (ℕ × Part E)) (i : ℕ) → (part_at (joined_parts ps qs ks) i ≡ joined_part (part_at ps i) (part_at qs i)) ⊎
      ((part_at (joined_parts ps qs ks) i ≡ part_at ps i) × (part_at ks i ≡ blank_part))
  joined_at ps qs [] i = inr (refl, refl)
  joined_at ps qs (k ∷ ks) i = dite (ℕ_discrete k.0 i)
      (λ same. inl (ap (λ b. if b then joined_part (part_at ps k.0) (part_at qs k.0) else part_at (joined_parts ps qs ks) i) (eq-eqb k.0 i same)
      ∙ ap (λ (z : ℕ). joined_part (part_at ps z) (part_at qs z)) same))
      (λ ne. ⊎_elim
      (λ t. inl (ap (λ b. if b then joined_part (part_at ps k.0) (part_at qs k.0) else part_at (joined_parts ps qs ks) i) (ne_eqb k.0 i ne) ∙ t))
      (λ t. inr (
        ap (λ b. if b then joined_part (part_at ps k.0) (part_at qs k.0) else part_at (joined_parts ps qs ks) i) (ne_eqb k.0 i ne)
            ∙ t.0,
        ap (λ b. if b then k.1 else part_at ks i) (ne_eqb k.0 i ne) ∙ t.1,
      ))
      (joined_at ps qs ks i))

  -- the part of a slot after the join is both parts in one
  pub joined_is : (ps qs : List (ℕ × Part E)) (i : ℕ) → part_at (joined_parts ps qs qs) i ≡ joined_part (part_at ps i) (part_at qs i)
  joined_is ps qs i = ⊎_elim (λ t. t) (λ t. t.0 ∙ sym (ap (joined_part (part_at ps i)) t.1 ∙ with_blank (part_at ps i))) (joined_at ps qs qs i)

-- a number of both lists is of one of them
pub has_joined : (a : ℕ) (ns ms : List ℕ) → HasNumber a (ns ++ ms) → HasNumber a ns ⊎ HasNumber a ms
has_joined a [] ms h = inr h
has_joined a (n ∷ ns) ms h = ⊎_elim (λ t. inl (inl t)) (λ t. ⊎_elim (λ u. inl (inr u)) inr (has_joined a ns ms t)) h

-- what holds of both lists holds of them together
pub all_joined : {X : Type 0} (P : X → Type 0) (xs ys : List X) → AreAll P xs → AreAll P ys → AreAll P (xs ++ ys)
all_joined {X} P [] ys a b = b
all_joined {X} P (x ∷ xs) ys a b = (a.0, all_joined P xs ys a.1 b)

-- what holds of each element holds of them in the other order
pub all_reversed : {X : Type 0} (P : X → Type 0) (xs : List X) → AreAll P xs → AreAll P (reverse xs)
all_reversed {X} P [] all = tt
all_reversed {X} P (x ∷ xs) all = subst (AreAll P) (sym (reverse-append (x ∷ []) xs)) (all_joined P (reverse xs) (x ∷ []) (all_reversed P xs all.1) (all.0, tt))

-- the first pass's own number has numbered as much as before
pub counts_join : (sent : ℕ → ℕ) (ns ms : List ℕ) (n : ℕ) → HasNumber (own_number ns) ns → HasSent sent ns n → HasSent sent (ns ++ ms) n
counts_join sent [] ms n has c = absurd has
counts_join sent (a ∷ ns) ms n has c = c
