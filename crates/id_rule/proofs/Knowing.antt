-- What passes know stays known when they join, and what steps tell them is noted.
use Rattle.std.proofs.Common.{⊎_elim, inl, inr, ◌≡◌, ℕ, ◌≤◌, max, List, [], ◌∷◌, ◌++◌, refl, sym, subst, arith}
use Rattle.std.specs.Prelude.{reverse}
use Rattle.std.proofs.lemmas.List.{reverse-append}
use Rattle.id_rule.specs.declared.view.Part.{Part}
use Rattle.id_rule.specs.declared.view.View.{View}
use Rattle.id_rule.specs.Changes.{joined_part, part_with_ended_below, part_with_miss, part_with_receipt}
use Rattle.id_rule.specs.Laws.{StandsIn, AreAmong, IsKnownIn, JoinsKeep, StepsAreNoted}
use Rattle.id_rule.specs.Nodes.{notices_of}
use Rattle.id_rule.specs.Changes.{first_held}
use Rattle.id_rule.specs.Parts.{part_of}
use Rattle.id_rule.specs.Words.{ended_below_in}
use Rattle.id_rule.proofs.Lists.{part_here}
use Rattle.id_rule.proofs.Seats.{joined_is}

-- what stands in a list stands there with more behind it
in_first : {X : Type 0} (xs ys : List X) → AreAmong xs (xs ++ ys)
in_first [] ys x h = absurd h
in_first (z ∷ xs) ys x h = ⊎_elim inl (λ t. inr (in_first xs ys x t)) h

-- and with more before it
in_second : {X : Type 0} (xs ys : List X) → AreAmong ys (xs ++ ys)
in_second [] ys x h = h
in_second (z ∷ xs) ys x h = inr (in_second xs ys x h)

-- the last one
in_last : {X : Type 0} (xs : List X) (x : X) → StandsIn x (xs ++ x ∷ [])
in_last xs x = in_second xs (x ∷ []) x (inl refl)

-- and in the other order
in_reverse : {X : Type 0} (xs : List X) → AreAmong xs (reverse xs)
in_reverse [] x h = absurd h
in_reverse {X} (z ∷ xs) x h = subst (λ (ys : List X). StandsIn x ys) (sym (reverse-append (z ∷ []) xs))
    (⊎_elim (λ e. in_second (reverse xs) (z ∷ []) x (inl e)) (λ t. in_first (reverse xs) (z ∷ []) x (in_reverse xs x t)) h)

module _ {E : Type 0} where
  first_part : (p q : Part E) → IsKnownIn p (joined_part p q)
  first_part p q = record {
    logs = in_first p.logs q.logs;
    last = in_first p.last q.last;
    receipts = in_first p.receipts q.receipts;
    dropped = in_first p.dropped q.dropped;
    destroyed = in_first p.destroyed q.destroyed;
    ended_below = omega arith;
  }

  second_part : (p q : Part E) → IsKnownIn q (joined_part p q)
  second_part p q = record {
    logs = in_second p.logs q.logs;
    last = in_second p.last q.last;
    receipts = in_second p.receipts q.receipts;
    dropped = in_second p.dropped q.dropped;
    destroyed = in_second p.destroyed q.destroyed;
    ended_below = omega arith;
  }

  pub joins_keep : JoinsKeep E
  joins_keep v w = let is = λ (slot : ℕ). sym (joined_is v.parts w.parts slot) in (
    record {
      seen = in_first v.seen w.seen;
      notices = in_first v.notices w.notices;
      parts = λ slot. subst (λ (z : Part E). IsKnownIn (part_of v slot) z) (is slot) (first_part (part_of v slot) (part_of w slot));
    },
    record {
      seen = in_second v.seen w.seen;
      notices = in_second v.notices w.notices;
      parts = λ slot. subst (λ (z : Part E). IsKnownIn (part_of w slot) z) (is slot) (second_part (part_of v slot) (part_of w slot));
    },
  )

  -- what a load finds ended is known to have ended
  ends_seen : (v : View E) (slot n : ℕ) (p : Part E) → p.ended_below ≡ max (part_of v slot).ended_below (ended_below_in n) → ended_below_in n ≤ p.ended_below
  ends_seen v slot n p is = omega (arith, is)

  pub steps_are_noted : StepsAreNoted E
  steps_are_noted = record {
    load = λ v slot n. let p = part_with_ended_below (part_of v slot) (max (part_of v slot).ended_below (ended_below_in n)) in (
      in_last v.seen (slot, n),
      subst (λ (z : Part E). ended_below_in n ≤ z.ended_below) (sym (part_here v.parts slot p)) (ends_seen v slot n p refl),
    );
    miss = λ v slot n. let p = part_with_miss (part_of v slot) n in (
      in_last v.seen (slot, n),
      subst (λ (z : Part E). ended_below_in n ≤ z.ended_below) (sym (part_here v.parts slot p)) (ends_seen v slot n p refl),
    );
    begin = λ p r l. inl refl;
    lock = λ p r l. inl refl;
    unlock = λ p first l. inl refl;
    end = λ p first below l lost. (inl refl, inl refl, refl);
    take = λ p r l. (inl refl, inl refl, refl);
    push = λ v e. (
      in_last v.notices e,
      subst (λ (z : Part E). StandsIn (e.first, e.receipt) z.receipts) (sym (part_here v.parts e.slot (part_with_receipt (part_of v e.slot) e.first e.receipt)))
          (in_last (part_of v e.slot).receipts (e.first, e.receipt)),
    );
    taken = λ v slot qs x h. let ns = notices_of slot (first_held (part_of v slot).hold) qs in in_second v.notices (reverse ns) x (in_reverse ns x h);
    dropped = λ v slot first below l out qs x h. let ns = notices_of slot first qs in in_second v.notices (reverse ns) x (in_reverse ns x h);
  }
