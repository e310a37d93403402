-- A pass takes in another: the seat of what that one had is now its own.
use Rattle.std.proofs.Common.{⊎_elim, ◌≡◌, ◌≢◌, ℕ, ◌+◌, ◌<◌, ◌≤◌, List, [], ◌++◌, length, set, length-set, refl, sym, ap, ap₂, ◌∙◌, subst, arith, Option}
use Rattle.std.proofs.Common.{Some, None}
use mathlib.Core.Option.{some}
use lib.ListN.{get_elem?}
use Rattle.atomic_table.specs.Table.{Joins}
use Rattle.atomic_table.proofs.Lists.{set_else}
use Rattle.id_rule.specs.declared.view.Receipt.{Receipt}
use Rattle.id_rule.specs.Nodes.{Place, idle, in_hand, in_queue, on_list, numbers_of, pass_of_node, IsTakenList, IsPlaced, IsNode}
use Rattle.id_rule.specs.Receipts.{History, IsNoticed, HasSent, receipts_of_range}
use Rattle.id_rule.specs.Parts.{HasNumber, blank_part, part_of, HasLog, spent_view, own_number, AreAll}
use Rattle.id_rule.specs.Changes.{either_of, joined_part, joined_view}
use Rattle.id_rule.specs.Phases.{Phase, vacant, reserved, free, locked, ended, taken, retired, IsPart, IsSeated}
use Rattle.id_rule.specs.Rule.{HasInHand, IsNumbered, IsInformed, IsKept}
use Rattle.id_rule.specs.declared.rule.Sizes.{Sizes}
use Rattle.id_rule.specs.declared.view.Part.{Part}
use Rattle.id_rule.specs.declared.view.View.{View}
use Rattle.std.specs.Prelude.{if◌then◌else◌}
use Rattle.id_rule.proofs.Clashes.{views_apart}
use Rattle.id_rule.proofs.Lists.{views_after, there_below, all_map}
use Rattle.id_rule.proofs.Receipts.{at_append, numbers_append}
use Rattle.id_rule.proofs.Seats.{counts_join, seat_now, renamed, now_id, now_other, now_third, seat_low, seat_both, seat_spent, seat_third, list_both, knew_joined, before_both, within_both}
use Rattle.id_rule.proofs.Seats.{joined_is}
use Rattle.id_rule.proofs.Seats.{has_joined, all_joined}
use Rattle.id_rule.proofs.Renaming.{ghost_now, face_now, home_now, sound_now, seated_now, chained_now, told_now}

module _ {T E : Type 0} (log : T → List E) (first_id : T → ℕ) (rec : E → Option Receipt) (other id : ℕ) (apart : other ≢ id) where
  -- both parts in one
  fits_both : (ph : Phase T E) (p q : Part E) → IsPart log ph id p → IsPart log ph other q → IsPart log (renamed other id ph) id (joined_part p q)
  fits_both (vacant f) p q a b = record {
    spot = ap₂ either_of a.spot b.spot;
    hold = ap₂ either_of a.hold b.hold;
    owner = ap₂ either_of a.owner b.owner;
    knows = before_both f p.logs q.logs a.knows b.knows;
    turn = ap₂ either_of a.turn b.turn;
    taking = ap₂ either_of a.taking b.taking;
    ended_below = omega (arith, a.ended_below, b.ended_below);
    got = ap₂ (λ (x y : List Receipt). x ++ y) a.got b.got;
  }
  fits_both (reserved f r who) p q a b = record {
    spot = ap₂ either_of a.spot b.spot ∙ seat_both (f, r) other id apart who;
    hold = ap₂ either_of a.hold b.hold;
    owner = ap₂ either_of a.owner b.owner;
    knows = before_both f p.logs q.logs a.knows b.knows;
    turn = ap₂ either_of a.turn b.turn;
    taking = ap₂ either_of a.taking b.taking;
    ended_below = omega (arith, a.ended_below, b.ended_below);
    got = ap₂ (λ (x y : List Receipt). x ++ y) a.got b.got;
  }
  fits_both (free r x) p q a b = record {
    spot = ap₂ either_of a.spot b.spot;
    hold = ap₂ either_of a.hold b.hold;
    owner = ap₂ either_of a.owner b.owner ∙ seat_both (r.first, r.size) other id apart r.owner;
    knows = within_both r.first (log x) p.logs q.logs a.knows b.knows;
    turn = ap₂ either_of a.turn b.turn;
    taking = ap₂ either_of a.taking b.taking;
    ended_below = omega (arith, a.ended_below, b.ended_below);
    got = ap₂ (λ (x y : List Receipt). x ++ y) a.got b.got;
  }
  fits_both (locked r who l qs got) p q a b = record {
    spot = ap₂ either_of a.spot b.spot;
    hold = ap₂ either_of a.hold b.hold ∙ seat_both (r.first, r.size) other id apart who;
    owner = ap₂ either_of a.owner b.owner ∙ seat_both (r.first, r.size) other id apart r.owner;
    knows = within_both r.first l.log p.logs q.logs a.knows b.knows;
    turn = ap₂ either_of a.turn b.turn ∙ seat_both l other id apart who;
    taking = ap₂ either_of a.taking b.taking;
    ended_below = omega (arith, a.ended_below, b.ended_below);
    got = ap₂ (λ (x y : List Receipt). x ++ y) a.got b.got ∙ list_both got other id apart who;
  }
  fits_both (ended r x) p q a b = record {
    spot = ap₂ either_of a.spot b.spot;
    hold = ap₂ either_of a.hold b.hold;
    owner = ap₂ either_of a.owner b.owner ∙ seat_both (r.first, r.size) other id apart r.owner;
    knows = within_both r.first (log x) p.logs q.logs a.knows b.knows;
    turn = ap₂ either_of a.turn b.turn;
    taking = ap₂ either_of a.taking b.taking;
    ended_below = omega (arith, a.ended_below, b.ended_below);
    got = ap₂ (λ (x y : List Receipt). x ++ y) a.got b.got;
  }
  fits_both (taken r l) p q a b = record {
    spot = ap₂ either_of a.spot b.spot;
    hold = ap₂ either_of a.hold b.hold;
    owner = ap₂ either_of a.owner b.owner;
    knows = within_both r.first l p.logs q.logs a.knows b.knows;
    turn = ap₂ either_of a.turn b.turn;
    taking = ap₂ either_of a.taking b.taking ∙ seat_both (r.first, r.size) other id apart r.owner;
    ended_below = omega (arith, a.ended_below, b.ended_below);
    got = ap₂ (λ (x y : List Receipt). x ++ y) a.got b.got;
  }
  fits_both (retired f) p q a b = record {
    spot = ap₂ either_of a.spot b.spot;
    hold = ap₂ either_of a.hold b.hold;
    owner = ap₂ either_of a.owner b.owner;
    knows = before_both (f + 1) p.logs q.logs a.knows b.knows;
    turn = ap₂ either_of a.turn b.turn;
    taking = ap₂ either_of a.taking b.taking;
    ended_below = tt;
    got = ap₂ (λ (x y : List Receipt). x ++ y) a.got b.got;
  }

  -- a seat that isn't named has nothing of the slot, as the one that was taken in
  fits_spent : (ph : Phase T E) → IsPart log (renamed other id ph) other blank_part
  fits_spent (vacant f) = record { spot = refl; hold = refl; owner = refl; knows = λ g l h. absurd h; turn = refl; taking = refl; ended_below = omega arith; got = refl }
  fits_spent (reserved f r who) = record {
    spot = sym (seat_spent (Some (f, r)) None other id apart who);
    hold = refl;
    owner = refl;
    knows = λ g l h. absurd h;
    turn = refl;
    taking = refl;
    ended_below = omega arith;
    got = refl;
  }
  fits_spent (free r x) = record {
    spot = refl;
    hold = refl;
    owner = sym (seat_spent (Some (r.first, r.size)) None other id apart r.owner);
    knows = λ g l h. absurd h;
    turn = refl;
    taking = refl;
    ended_below = omega arith;
    got = refl;
  }
  fits_spent (locked r who l qs got) = record {
    spot = refl;
    hold = sym (seat_spent (Some (r.first, r.size)) None other id apart who);
    owner = sym (seat_spent (Some (r.first, r.size)) None other id apart r.owner);
    knows = λ g k h. absurd h;
    turn = sym (seat_spent (Some l) None other id apart who);
    taking = refl;
    ended_below = omega arith;
    got = sym (seat_spent got [] other id apart who);
  }
  fits_spent (ended r x) = record {
    spot = refl;
    hold = refl;
    owner = sym (seat_spent (Some (r.first, r.size)) None other id apart r.owner);
    knows = λ g l h. absurd h;
    turn = refl;
    taking = refl;
    ended_below = omega arith;
    got = refl;
  }
  fits_spent (taken r l) = record {
    spot = refl;
    hold = refl;
    owner = refl;
    knows = λ g k h. absurd h;
    turn = refl;
    taking = sym (seat_spent (Some (r.first, r.size)) None other id apart r.owner);
    ended_below = omega arith;
    got = refl;
  }
  fits_spent (retired f) = record { spot = refl; hold = refl; owner = refl; knows = λ g l h. absurd h; turn = refl; taking = refl; ended_below = tt; got = refl }

  -- a third pass's part fits as before
  fits_third : (ph : Phase T E) (by : ℕ) (p : Part E) → by ≢ other → by ≢ id → IsPart log ph by p → IsPart log (renamed other id ph) by p
  fits_third (vacant f) by p a b w = w
  fits_third (reserved f r who) by p a b w = record {
    spot = w.spot ∙ sym (seat_third (Some (f, r)) None other id apart by who a b);
    hold = w.hold;
    owner = w.owner;
    knows = w.knows;
    turn = w.turn;
    taking = w.taking;
    ended_below = w.ended_below;
    got = w.got;
  }
  fits_third (free r x) by p a b w = record {
    spot = w.spot;
    hold = w.hold;
    owner = w.owner
        ∙ sym (seat_third (Some (r.first, r.size)) None other id apart by r.owner a b);
    knows = w.knows;
    turn = w.turn;
    taking = w.taking;
    ended_below = w.ended_below;
    got = w.got;
  }
  fits_third (locked r who l qs got) by p a b w = record {
    spot = w.spot;
    hold = w.hold ∙ sym (seat_third (Some (r.first, r.size)) None other id apart by who a b);
    owner = w.owner ∙ sym (seat_third (Some (r.first, r.size)) None other id apart by r.owner a b);
    knows = w.knows;
    turn = w.turn ∙ sym (seat_third (Some l) None other id apart by who a b);
    taking = w.taking;
    ended_below = w.ended_below;
    got = w.got ∙ sym (seat_third got [] other id apart by who a b);
  }
  fits_third (ended r x) by p a b w = record {
    spot = w.spot;
    hold = w.hold;
    owner = w.owner
        ∙ sym (seat_third (Some (r.first, r.size)) None other id apart by r.owner a b);
    knows = w.knows;
    turn = w.turn;
    taking = w.taking;
    ended_below = w.ended_below;
    got = w.got;
  }
  fits_third (taken r l) by p a b w = record {
    spot = w.spot;
    hold = w.hold;
    owner = w.owner;
    knows = w.knows;
    turn = w.turn;
    taking = w.taking
        ∙ sym (seat_third (Some (r.first, r.size)) None other id apart by r.owner a b);
    ended_below = w.ended_below;
    got = w.got;
  }
  fits_third (retired f) by p a b w = w

  -- what both told
  tells_both : (g : History E) (holder : ℕ → ℕ) (v w : View E) → IsInformed g holder id v → IsInformed g holder other w
      → IsInformed (ghost_now other id g) (λ a. seat_now other id (holder a)) id (joined_view v w)
  tells_both g holder v w a b s f =
      let is : part_of (joined_view v w) s ≡ joined_part (part_of v s) (part_of w s) = joined_is v.parts w.parts s in (
        (λ n. ap (λ (z : Part E). numbers_of n (receipts_of_range f z.receipts)) is ∙ ap (numbers_of n) (at_append f (part_of v s).receipts (part_of w s).receipts)
            ∙ numbers_append n (receipts_of_range f (part_of v s).receipts) (receipts_of_range f (part_of w s).receipts)
            ∙ ap₂ (λ (x y : List ℕ). x ++ y) ((a s f).0 n) ((b s f).0 n) ∙ list_both (g.numbered s f n) other id apart (holder n)),
        ap (λ (z : Part E). receipts_of_range f z.dropped) is ∙ at_append f (part_of v s).dropped (part_of w s).dropped ∙ ap₂ (λ (x y : List Receipt). x ++ y) (a s f).1 (b s f).1
            ∙ list_both (g.lost s f) other id apart (g.ender s f),
        (λ l h. ⊎_elim (λ t. (a s f).2 l t) (λ t. (b s f).2 l t) (knew_joined (part_of v s).last (part_of w s).last f l (subst (λ (z : Part E). HasLog z.last f l) is h))),
        (λ h. ⊎_elim (λ t. let z = (a s f).3 t in (ap (seat_now other id) z.0 ∙ now_id other id apart, z.1))
            (λ t. let z = (b s f).3 t in (ap (seat_now other id) z.0 ∙ now_other other id apart, z.1))
            (has_joined f (part_of v s).destroyed (part_of w s).destroyed (subst (λ (z : Part E). HasNumber f z.destroyed) is h))),
      )

  -- the spent view knows nothing
  tells_spent : (g : History E) (holder : ℕ → ℕ) → IsInformed (ghost_now other id g) (λ a. seat_now other id (holder a)) other (spent_view)
  tells_spent g holder s f = (
    (λ n. sym (seat_spent (g.numbered s f n) [] other id apart (holder n))),
    sym (seat_spent (g.lost s f) [] other id apart (g.ender s f)),
    λ l h. absurd h,
    λ h. absurd h,
  )

  -- a third view knows as much as before
  tells_third : (g : History E) (holder : ℕ → ℕ) (by : ℕ) (u : View E) → by ≢ other → by ≢ id → IsInformed g holder by u
      → IsInformed (ghost_now other id g) (λ a. seat_now other id (holder a)) by u
  tells_third g holder by u a b all s f = (
    (λ n. (all s f).0 n ∙ sym (seat_third (g.numbered s f n) [] other id apart by (holder n) a b)),
    (all s f).1
        ∙ sym (seat_third (g.lost s f) [] other id apart by (g.ender s f) a b),
    (all s f).2,
    λ h. let z = (all s f).3 h in (ap (seat_now other id) z.0 ∙ now_third other id apart by a, z.1),
  )

  -- a node in nobody's hand stays as it is
  node_now : (k node who : ℕ) (ws : List ℕ) (p : Place) → p ≢ in_hand other → IsNode k ws node who p → IsNode k ws node (seat_now other id who) p
  node_now k node who ws idle away h = h
  node_now k node who ws (in_hand by) away h = ap (seat_now other id) h ∙ now_third other id apart by (λ e. away (ap in_hand e))
  node_now k node who ws (in_queue a b) away h = h
  node_now k node who ws (on_list a b) away h = h

  -- every view after one took in the other
  views_both : (vs : List (View E)) (x y : View E) (P : ℕ → View E → Type 0) → P id x → P other y → ((by : ℕ) (u : View E) → by ≢ other → by ≢ id → get_elem? vs by ≡ some u → P by u)
      → (by : ℕ) (u : View E) → get_elem? (set (set vs id x) other y) by ≡ some u → P by u
  views_both vs x y P one two third = views_after (set vs id x) other y P two
      (λ by u ne e. views_after vs id x (λ by u. by ≢ other → P by u) (λ _. one) (λ by u ne' e' ne''. third by u ne'' ne' e') by u e ne)

-- joining a pass keeps the rule
pub join_keeps : {T E : Type 0} (log : T → List E) (first_id : T → ℕ) (rec : E → Option Receipt) (sizes : Sizes) (id other : ℕ) (v w : View E) → w.hand ≡ None → w.taken ≡ []
    → HasNumber (own_number v.numbers) v.numbers
    → ((slot : ℕ) → sizes.slots ≤ slot → ((part_of w slot).spot ≡ None) × ((part_of w slot).hold ≡ None) × ((part_of w slot).owner ≡ None))
    → Joins (IsKept log first_id rec sizes) id v other w (joined_view v w) (spent_view)
join_keeps {T} {E} log first_id rec sizes id other v w no_hand no_list own_one low_claims s kept at apart at_other =
    let k = sizes.slots in let place = kept.place in let g : History E = kept.history in
    let x : View E = joined_view v w in let y : View E = spent_view in
    let at2 : get_elem? s.views other ≡ some w = sym (set_else s.views id other x apart) ∙ at_other in
    let long : length (set (set s.views id x) other y) ≡ length s.views = length-set (set s.views id x) other y ∙ length-set s.views id x in
    let holder : ℕ → ℕ = λ a. seat_now other id (kept.at.2.holder a) in
    let idle_hand : HasInHand k s.words place other None = subst (HasInHand k s.words place other) no_hand (kept.hands other w at2) in
    let idle_list : IsTakenList k s.words place other [] = subst (IsTakenList k s.words place other) no_list (kept.lists other w at2) in
    let below = there_below s.views id v at in
    let no_clash = views_apart log first_id rec sizes s id other v w kept at at2 apart low_claims in
    let mine : HasInHand k s.words place id x.hand = subst (λ b. HasInHand k s.words place id (if b then Some (0, 0, 0) else v.hand)) (sym no_clash) (kept.hands id v at) in
    record {
      place = place;
      history = ghost_now other id g;
      over = kept.over;
      wide = kept.wide;
      rise = kept.rise;
      unsent = kept.unsent;
      sents = views_both log first_id rec other id apart s.views x y (λ _ u. HasSent g.sent u.numbers u.sent) (counts_join g.sent v.numbers w.numbers v.sent own_one (kept.sents id v at)) tt
          (λ by u a b e. kept.sents by u e);
      placed = λ m. subst (λ (z : ℕ). IsPlaced z (place m)) (sym long) (kept.placed m);
      beyond = kept.beyond;
      noticed = views_both log first_id rec other id apart s.views x y (λ _ u. AreAll (IsNoticed (ghost_now other id g)) u.notices)
          (all_joined (IsNoticed (ghost_now other id g)) v.notices w.notices (kept.noticed id v at) (kept.noticed other w at2)) tt (λ by u a b e. kept.noticed by u e);
      news = λ slot f. (
        subst (λ (z : ℕ). seat_now other id (g.ender slot f) < z) (sym long) (seat_low other id apart (g.ender slot f) (length s.views) below (kept.news slot f).0),
        (kept.news slot f).1,
      );
      at = (
        kept.at.0,
        (λ slot low. let was = kept.at.1 slot low in let o = was.1 in let ph : Phase T E = renamed other id was.0 in (
          ph,
          record {
            word = o.word ∙ ap some (sym (face_now log first_id rec other id apart was.0));
            home_is = o.home_is ∙ ap some (sym (home_now log first_id rec other id apart was.0));
            sound = sound_now log first_id rec other id apart slot was.0 o.sound;
            seated = subst (IsSeated ph) (sym long) (seated_now log first_id rec other id apart (length s.views) was.0 below o.seated);
            fits = views_both log first_id rec other id apart s.views x y (λ by u. IsPart log ph by (part_of u slot))
                (subst (IsPart log ph id) (sym (joined_is v.parts w.parts slot))
                (fits_both log first_id rec other id apart was.0 (part_of v slot) (part_of w slot) (o.fits id v at) (o.fits other w at2)))
                (fits_spent log first_id rec other id apart was.0)
                (λ by u a b e. fits_third log first_id rec other id apart was.0 by (part_of u slot) a b (o.fits by u e));
            chain = chained_now log first_id rec other id apart k place slot s.words was.0 o.chain;
          },
          told_now log first_id rec other id apart g slot was.0 was.2,
        )),
        record {
          opener = seat_now other id kept.at.2.opener;
          count = kept.at.2.count;
          holder = holder;
          seats = kept.at.2.seats ∙ sym long;
          later = λ a more. ap (seat_now other id) (kept.at.2.later a more) ∙ now_third other id apart a
              (λ e. let b = there_below s.views other w at2 in let c = kept.at.2.seats in omega (arith, e, b, c, more));
          earlier = λ a less. seat_low other id apart (kept.at.2.holder a) kept.at.2.count (subst (λ (z : ℕ). id < z) (sym kept.at.2.seats) below) (kept.at.2.earlier a less);
          each = views_both log first_id rec other id apart s.views x y (IsNumbered (seat_now other id kept.at.2.opener) kept.at.2.count holder) (
            ap₂ either_of (kept.at.2.each id v at).0 (kept.at.2.each other w at2).0 ∙ seat_both kept.at.2.count other id apart kept.at.2.opener,
            all_joined (λ n. (n < kept.at.2.count) × (holder n ≡ id)) v.numbers w.numbers
                (all_map (λ n. (n < kept.at.2.count) × (kept.at.2.holder n ≡ id)) (λ n. (n < kept.at.2.count) × (holder n ≡ id)) v.numbers
                (λ n t. (t.0, ap (seat_now other id) t.1 ∙ now_id other id apart)) (kept.at.2.each id v at).1)
                (all_map (λ n. (n < kept.at.2.count) × (kept.at.2.holder n ≡ other)) (λ n. (n < kept.at.2.count) × (holder n ≡ id)) w.numbers
                (λ n t. (t.0, ap (seat_now other id) t.1 ∙ now_other other id apart)) (kept.at.2.each other w at2).1),
          )
              (sym (seat_spent (Some kept.at.2.count) None other id apart kept.at.2.opener), tt)
              (λ by u a b e. let t = kept.at.2.each by u e in (
                t.0 ∙ sym (seat_third (Some kept.at.2.count) None other id apart by kept.at.2.opener a b),
                all_map (λ n. (n < kept.at.2.count) × (kept.at.2.holder n ≡ by)) (λ n. (n < kept.at.2.count) × (holder n ≡ by)) u.numbers
                    (λ n z. (z.0, ap (seat_now other id) z.1 ∙ now_third other id apart by a)) t.1,
              ));
        },
      );
      hands = views_both log first_id rec other id apart s.views x y (λ by u. HasInHand k s.words place by u.hand) mine idle_hand (λ by u a b e. kept.hands by u e);
      lists = views_both log first_id rec other id apart s.views x y (λ by u. IsTakenList k s.words place by u.taken) (kept.lists id v at) idle_list (λ by u a b e. kept.lists by u e);
      tells = views_both log first_id rec other id apart s.views x y (IsInformed (ghost_now other id g) holder)
          (tells_both log first_id rec other id apart g kept.at.2.holder v w (kept.tells id v at) (kept.tells other w at2)) (tells_spent log first_id rec other id apart g kept.at.2.holder)
          (λ by u a b e. tells_third log first_id rec other id apart g kept.at.2.holder by u a b (kept.tells by u e));
      nodes = λ a one few. node_now log first_id rec other id apart k a (kept.at.2.holder (pass_of_node sizes.nodes a)) s.words (place a) (λ e. idle_hand a e) (kept.nodes a one few);
    }
