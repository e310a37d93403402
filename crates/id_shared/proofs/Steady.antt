-- What holds of a pass between two calls, after each of its steps.
use Rattle.std.proofs.Common.{◌≡◌, ◌≢◌, ℕ, ◌<◌, ◌≤◌, false, List, [], ◌∷◌, ◌++◌, refl, sym, ap, max, ◌∙◌, subst, arith, Option, Some, None}
use Rattle.std.proofs.lemmas.Option.{none-some}
use mathlib.Core.Logic.{dite}
use native.Mathlib.Decide.{ℕ_discrete, dec_le}
use Rattle.atomic_table.specs.Seated.{TableId}
use Rattle.atomic_table.specs.Table.{Me}
use Rattle.id_rule.specs.Changes.{view_after_load, part_with_ended_below}
use Rattle.id_rule.specs.Words.{ended_below_in}
use Rattle.id_rule.specs.declared.view.Part.{Part}
use Rattle.id_rule.specs.declared.view.Turn.{Turn}
use Rattle.id_rule.specs.declared.view.View.{View}
use Rattle.id_rule.specs.Parts.{HasNumber, own_number, part_of, part_at, view_with}
use Rattle.id_rule.proofs.Lists.{part_here, part_else}
use Rattle.std.specs.Prelude.{if◌then◌else◌}
use Rattle.id_rule.specs.Changes.{do_clash, joined_view}
use Rattle.id_rule.proofs.Seats.{joined_is}
use Rattle.id_shared.proofs.Joined.{own_joined, has_first, laid_joined, unclaimed_joined}
use Rattle.id_shared.proofs.Parts.{HasPart}
use Rattle.id_shared.specs.Steady.{IsUnclaimed, IsLaid, Rooms, IsSteady}

-- the view w is v with the part p of the slot i, and no node in hand or taken
pub record HasChanged {E : Type 0} (i : ℕ) (v : View E) (p : Part E) (w : View E) : Type 0 where
  pub here : part_of w i ≡ p
  pub there : (slot : ℕ) → slot ≢ i → part_of w slot ≡ part_of v slot
  pub numbers : w.numbers ≡ v.numbers
  pub width : w.width ≡ v.width
  pub total : w.total ≡ v.total
  pub hand : w.hand ≡ None
  pub taken : w.taken ≡ []

-- a change of one part, by several steps
pub changed_part : {E : Type 0} (i : ℕ) (v w : View E) (p : Part E) → HasPart i v p w → w.numbers ≡ v.numbers → w.width ≡ v.width → w.total ≡ v.total → w.hand ≡ None → w.taken ≡ []
    → HasChanged i v p w
changed_part {E} i v w p has numbers width total hand taken =
    record { here = has.here; there = has.there; numbers = numbers; width = width; total = total; hand = hand; taken = taken }

-- a change of one part
pub changed_with : {E : Type 0} (i : ℕ) (v : View E) (seen : List (ℕ × ℕ)) (p : Part E) → v.hand ≡ None → v.taken ≡ [] → HasChanged i v p (view_with v seen i p)
changed_with {E} i v seen p hand taken = record {
  here = part_here v.parts i p;
  there = λ slot ne. part_else v.parts i slot p ne;
  numbers = refl;
  width = refl;
  total = refl;
  hand = hand;
  taken = taken;
}

-- two changes of the same part
pub changed_again : {E : Type 0} (i : ℕ) (u v w : View E) (p q : Part E) → HasChanged i u p v → HasChanged i v q w → HasChanged i u q w
changed_again {E} i u v w p q a b = record {
  here = b.here;
  there = λ slot ne. b.there slot ne ∙ a.there slot ne;
  numbers = b.numbers ∙ a.numbers;
  width = b.width ∙ a.width;
  total = b.total ∙ a.total;
  hand = b.hand;
  taken = b.taken;
}

-- the changed part is another one, which is the same
pub changed_as : {E : Type 0} (i : ℕ) (v w : View E) (p q : Part E) → p ≡ q → HasChanged i v p w → HasChanged i v q w
changed_as {E} i v w p q same = subst (λ z. HasChanged i v z w) same

module _ {T E : Type 0} (t t' : TableId) (i number sent : ℕ) (room : Rooms) (me me' : Me (Option T) (View E)) (same : t' ≡ t) (less : i < t.slots)
    (st : IsSteady t.slots me number sent room) where
  -- a change of one part, with the slot at home
  pub steady_after : (w : View E) (p : Part E) (sent' : ℕ) → HasChanged i me.0 p w → w.sent ≡ sent' → IsLaid p.turn → me' ≡ (w, []) → IsSteady t'.slots me' number sent' room
  steady_after w p sent' moves count laid is = subst (λ (z : TableId × Me (Option T) (View E)). IsSteady z.0.slots z.1 number sent' room) (λ y. (sym same y, sym is y)) record {
    hand = moves.hand;
    taken = moves.taken;
    carried = refl;
    laid = λ slot. dite (ℕ_discrete slot i)
        (λ e. subst (λ (z : Part E). IsLaid z.turn) (sym (ap (part_of w) e ∙ moves.here)) laid)
        (λ ne. subst (λ (z : Part E). IsLaid z.turn) (sym (moves.there slot ne)) (st.laid slot));
    low = λ slot more. subst IsUnclaimed (sym (moves.there slot (λ e. omega (arith, less, more, e)))) (st.low slot more);
    own = ap own_number moves.numbers ∙ st.own;
    has = subst (HasNumber number) (sym moves.numbers) st.has;
    sent_is = count;
    roomy = st.roomy;
    wide = subst (λ (z : ℕ). z ≤ room.words) (sym moves.width) st.wide;
    deep = subst (λ (z : ℕ). z ≤ room.pending) (sym moves.total) st.deep;
    deeper = subst (λ (z : ℕ). z ≤ room.dropped) (sym moves.total) st.deeper;
  }

  -- a step that changes one part, with the slot at home
  pub steady_part : (seen : List (ℕ × ℕ)) (p : Part E) → IsLaid p.turn → me' ≡ (view_with me.0 seen i p, me.1) → IsSteady t'.slots me' number sent room
  steady_part seen p laid is = steady_after (view_with me.0 seen i p) p sent (changed_with i me.0 seen p st.hand st.taken) st.sent_is laid (is ∙ ap (λ c. (view_with me.0 seen i p, c)) st.carried)

  -- a load
  pub steady_load : (n : ℕ) → me' ≡ (view_after_load me.0 i n, me.1) → IsSteady t'.slots me' number sent room
  steady_load n is = steady_part (me.0.seen ++ (i, n) ∷ []) (part_with_ended_below (part_of me.0 i) (max (part_of me.0 i).ended_below (ended_below_in n))) (st.laid i) is

module _ {T E : Type 0} (slots number sent slot : ℕ) (room : Rooms) (me : Me (Option T) (View E)) (st : IsSteady slots me number sent room) where
  -- a Spot is of a slot of the table
  pub spot_is_low : (r : ℕ × ℕ) → (part_of me.0 slot).spot ≡ Some r → slot < slots
  spot_is_low r has = dite (dec_le slots slot) (λ more. absurd (none-some r (sym (st.low slot more).0 ∙ has))) (λ less. omega (arith, less))

  -- a Hold is of a slot of the table
  pub hold_is_low : (r : ℕ × ℕ) → (part_of me.0 slot).hold ≡ Some r → slot < slots
  hold_is_low r has = dite (dec_le slots slot) (λ more. absurd (none-some r (sym (st.low slot more).1 ∙ has))) (λ less. omega (arith, less))

  -- an Owner is of a slot of the table
  pub owner_is_low : (r : ℕ × ℕ) → (part_of me.0 slot).owner ≡ Some r → slot < slots
  owner_is_low r has = dite (dec_le slots slot) (λ more. absurd (none-some r (sym (st.low slot more).2 ∙ has))) (λ less. omega (arith, less))

  -- a held slot is at home
  pub turn_is_home : (t : Turn E) → (part_of me.0 slot).turn ≡ Some t → (t.out ≡ false) × (t.waits ≡ false)
  turn_is_home t is = subst IsLaid is (st.laid slot)

-- a step that changes no part, and no table
pub steady_split : {T E : Type 0} (t t' : TableId) (number sent : ℕ) (room : Rooms) (me me' : Me (Option T) (View E)) (w : View E) → t' ≡ t → me' ≡ (w, me.1) → w.parts ≡ me.0.parts
    → w.numbers ≡ me.0.numbers → w.width ≡ me.0.width → w.total ≡ me.0.total → w.sent ≡ me.0.sent → w.hand ≡ None → w.taken ≡ []
    → IsSteady t.slots me number sent room → IsSteady t'.slots me' number sent room
steady_split {T} {E} t t' number sent room me me' w same is parts numbers width total count hand taken st =
    subst (λ (z : TableId × Me (Option T) (View E)). IsSteady z.0.slots z.1 number sent room) (λ y. (sym same y, sym is y)) record {
      hand = hand;
      taken = taken;
      carried = st.carried;
      laid = λ slot. subst (λ ps. IsLaid (part_at ps slot).turn) (sym parts) (st.laid slot);
      low = λ slot more. subst (λ ps. IsUnclaimed (part_at ps slot)) (sym parts) (st.low slot more);
      own = ap own_number numbers ∙ st.own;
      has = subst (HasNumber number) (sym numbers) st.has;
      sent_is = count ∙ st.sent_is;
      roomy = st.roomy;
      wide = subst (λ (z : ℕ). z ≤ room.words) (sym width) st.wide;
      deep = subst (λ (z : ℕ). z ≤ room.pending) (sym total) st.deep;
      deeper = subst (λ (z : ℕ). z ≤ room.dropped) (sym total) st.deeper;
    }

-- a pass that took in another
pub steady_joined : {T E : Type 0} (slots slots' number sent number' sent' : ℕ) (room room' : Rooms) (me other : Me (Option T) (View E)) → IsSteady {T = T} {E = E} slots me number sent room
    → IsSteady {T = T} {E = E} slots' other number' sent' room' → slots ≡ slots' → do_clash me.0.parts other.0.parts other.0.parts ≡ false
    → IsSteady {T = T} {E = E} slots (joined_view me.0 other.0, []) number sent room
steady_joined {T} {E} slots slots' number sent number' sent' room room' me other st so same none =
    let v = me.0 in let w = other.0 in record {
      hand = ap (λ b. if b then Some (0, 0, 0) else v.hand) none ∙ st.hand;
      taken = st.taken;
      carried = refl;
      laid = λ slot. subst (λ (z : Part E). IsLaid z.turn) (sym (joined_is v.parts w.parts slot)) (laid_joined (part_of v slot).turn (part_of w slot).turn (st.laid slot) (so.laid slot));
      low = λ slot more. subst IsUnclaimed (sym (joined_is v.parts w.parts slot))
          (unclaimed_joined (part_of v slot) (part_of w slot) (st.low slot more) (so.low slot (subst (λ (z : ℕ). z ≤ slot) same more)));
      own = own_joined v.numbers w.numbers (subst (λ (z : ℕ). HasNumber z v.numbers) (sym st.own) st.has) ∙ st.own;
      has = has_first number v.numbers w.numbers st.has;
      sent_is = st.sent_is;
      roomy = st.roomy;
      wide = st.wide;
      deep = st.deep;
      deeper = st.deeper;
    }
