-- What a step leaves of a call: its number and its plan stay.
use Rattle.std.proofs.Common.{◌≡◌, ℕ, zero, suc, max, Bool, true, false, cond, nat_le, List, Option, Some, None, is_some, refl, ◌∙◌}
use Rattle.rpc_model.specs.Effects.{Mark}
use Rattle.rpc_model.specs.State.{end_of}
use Rattle.rpc_model.specs.Marks.{Begun, take_mark, least_mark, marks_left, weave_at_most, weave_least, finish_at_most, finish_least}
use Rattle.sim_run.specs.declared.turn.Turn.{Turn}
use Rattle.sim_run.specs.declared.turn.Turn.TheVariants as turn
use Rattle.sim_run.specs.Slots.{turned, finished}

-- the call before and after
pub record IsLater (b c : Begun) : Type 0 where
  pub number : c.call ≡ b.call
  pub plan : c.plan ≡ b.plan

same-later : (b : Begun) → IsLater b b
same-later b = record { number = refl; plan = refl }

later-later : (b c d : Begun) → IsLater b c → IsLater c d → IsLater b d
later-later b c d h k = record { number = k.number ∙ h.number; plan = k.plan ∙ h.plan }

taken-later : (b : Begun) (mark : Mark) (others : List Mark) → IsLater b (take_mark b mark others)
taken-later b mark others = record { number = refl; plan = refl }

weave-later : (n moment : ℕ) (b : Begun) → IsLater b (weave_at_most n moment b)
weave-later zero moment b = same-later b
weave-later (suc n) moment b = by (least_mark b.waiting) (λ c. weave-later n moment c)
  where
    by : (o : Option (Mark × List Mark)) → ((c : Begun) → IsLater c (weave_at_most n moment c)) → IsLater b (weave_least (weave_at_most n moment) moment b o)
    by None again = same-later b
    by (Some (mark, others)) again = at (nat_le mark.moment moment)
      where
        at : (v : Bool) → IsLater b (cond v (weave_at_most n moment (take_mark b mark others)) b)
        at true = later-later b (take_mark b mark others) (weave_at_most n moment (take_mark b mark others)) (taken-later b mark others) (again (take_mark b mark others))
        at false = same-later b

finish-later : (n reached : ℕ) (b : Begun) → IsLater b (finish_at_most n reached b).1
finish-later zero reached b = same-later b
finish-later (suc n) reached b = at (is_some (end_of b.state)) (λ r c. finish-later n r c)
  where
    by : (o : Option (Mark × List Mark)) → ((r : ℕ) (c : Begun) → IsLater c (finish_at_most n r c).1) → IsLater b (finish_least (finish_at_most n) reached b o).1
    by None again = same-later b
    by (Some (mark, others)) again =
        later-later b (take_mark b mark others) (finish_at_most n (max reached mark.moment) (take_mark b mark others)).1 (taken-later b mark others)
        (again (max reached mark.moment) (take_mark b mark others))

    at : (v : Bool) → ((r : ℕ) (c : Begun) → IsLater c (finish_at_most n r c).1) → IsLater b (cond v (reached, b) (finish_least (finish_at_most n) reached b (least_mark b.waiting))).1
    at true again = same-later b
    at false again = by (least_mark b.waiting) again

pub turned-later : (t : Turn) (b : Begun) → IsLater b (turned t b)
turned-later (turn.Event event moment) b = record { number = refl; plan = refl }
turned-later (turn.Due moment) b = weave-later (marks_left b) moment b

pub finished-later : (reached : ℕ) (b : Begun) → IsLater b (finished reached b)
finished-later reached b = finish-later (marks_left b) reached b
