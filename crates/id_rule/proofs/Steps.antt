-- A step on a slot's word keeps the rule, where it says what the slot is afterwards.
use Rattle.std.proofs.Common.{◌≡◌, ◌≢◌, ℕ, ◌+◌, ◌*◌, ◌<◌, ◌≤◌, List, [], length, set, length-set, refl, sym, ap}
use Rattle.std.proofs.Common.{◌∙◌, subst, arith, Option, Some, None}
use Rattle.std.specs.Prelude.{slice_index}
use mathlib.Core.Logic.{dite}
use mathlib.Core.Option.{some, none, some-injective, some-ne-none}
use mathlib.Core.Option as maybe
use native.Mathlib.Decide.{ℕ_discrete}
use lib.ListN.{get_elem?}
use Rattle.atomic_table.specs.Table.{State, Act, Valid, carried_after, stepped}
use Rattle.atomic_table.proofs.Lists.{set_else}
use Rattle.id_rule.specs.Nodes.{Place, idle, in_hand, in_queue, on_list, word_at, pass_of_node, IsTakenList, IsPlaced, IsNode, numbers_of}
use Rattle.id_rule.specs.Receipts.{History, IsNoticed, HasSent, IsRisingBelow, receipts_of_range, receipts_in, AreSettled}
use Rattle.id_rule.specs.Parts.{HasNumber, part_of, view_with, HasLog, AreAll}
use Rattle.id_rule.specs.Phases.{Phase, vacant, reserved, free, locked, ended, taken, retired, slot_word, home_value, IsPart, IsSeated, IsSound}
use Rattle.id_rule.specs.Rule.{IsChained, HasInHand, IsTold, IsInformed, IsSlot, AreApart, IsNumbered, IsKept}
use Rattle.id_rule.specs.Steps.{Mine}
use Rattle.id_rule.proofs.Chains.{linked_slot}
use Rattle.id_rule.proofs.Lists.{set_there, part_here, part_else, views_after}
use Rattle.id_rule.specs.declared.view.Receipt.{Receipt}
use Rattle.id_rule.specs.declared.rule.Sizes.{Sizes}
use Rattle.id_rule.specs.declared.view.Part.{Part}
use Rattle.id_rule.specs.declared.view.View.{View}

module _ {T E : Type 0} (log : T → List E) (first_id : T → ℕ) (rec : E → Option Receipt) where
  abbrev St : Type 0
  St = State (Option T) (View E)

  -- a slot's word is no node's
  pub chained : (k : ℕ) (place : ℕ → Place) (slot i n : ℕ) (ws : List ℕ) (ph : Phase T E) → i < k → IsChained k place slot ws ph → IsChained k place slot (set ws i n) ph
  chained k place slot i n ws (vacant f) low c = c
  chained k place slot i n ws (reserved f r who) low c = c
  chained k place slot i n ws (free r x) low c = c
  chained k place slot i n ws (locked r who l qs got) low c = (linked_slot k i n ws qs low c.0, c.1, c.2)
  chained k place slot i n ws (ended r x) low c = c
  chained k place slot i n ws (taken r l) low c = c
  chained k place slot i n ws (retired f) low c = c

  -- a node stays as it is when a slot's word changes
  pub node_else : (k i n node who : ℕ) (ws : List ℕ) (pl : Place) → i < k → IsNode k ws node who pl → IsNode k (set ws i n) node who pl
  node_else k i n node who ws idle low h = (set_else ws i (word_at k node) n (λ e. omega arith) ∙ h.0, (h.1.0, set_else ws i (word_at k node + 1) n (λ e. omega arith) ∙ h.1.1))
  node_else k i n node who ws (in_hand by) low h = h
  node_else k i n node who ws (in_queue a b) low h = (h.0, set_else ws i (word_at k node) n (λ z. omega arith) ∙ h.1, h.2)
  node_else k i n node who ws (on_list a b) low h = (h.0, set_else ws i (word_at k node) n (λ z. omega arith) ∙ h.1, h.2)

  -- a node in hand stays as it is when a slot's word changes
  pub hands_else : (k i n by : ℕ) (ws : List ℕ) (place : ℕ → Place) (h : Option (ℕ × ℕ × ℕ)) → i < k → HasInHand k ws place by h → HasInHand k (set ws i n) place by h
  hands_else k i n by ws place None low a = a
  hands_else k i n by ws place (Some h) low a = (a.0, a.1, set_else ws i (word_at k h.0) n (λ e. omega arith) ∙ a.2, set_else ws i (word_at k h.0 + 1) n (λ e. omega arith) ∙ a.3, a.4)

  -- numbers stay with their views
  abbrev pub counted : (vs : List (View E)) (id : ℕ) (v w : View E) → AreApart vs → get_elem? vs id ≡ some v → w.numbers ≡ v.numbers → w.next ≡ v.next → AreApart (set vs id w)
  counted vs id v w a at numbers next = record {
    opener = a.opener;
    count = a.count;
    holder = a.holder;
    seats = a.seats ∙ sym (length-set vs id w);
    later = a.later;
    earlier = a.earlier;
    each = views_after vs id w (IsNumbered a.opener a.count a.holder)
        (next ∙ (a.each id v at).0, subst (AreAll (λ z. (z < a.count) × (a.holder z ≡ id))) (sym numbers) (a.each id v at).1)
        (λ by u ne e. a.each by u e);
  }

  -- A step on the slot i keeps the rule where the slot goes from one phase to another, with nodes placed anew and receipts told anew
  pub slot_moves : (sizes : Sizes) (s : St) (i n id : ℕ) (v w : View E) (hs' : List (maybe.Option (Option T))) (ph ph' : Phase T E) (place' : ℕ → Place) (g' : History E)
      → (kept : IsKept log first_id rec sizes s) → get_elem? s.views id ≡ some v → IsSlot log first_id rec sizes.slots kept.place i s.words s.homes s.views ph → i < sizes.slots
      → length hs' ≡ length s.homes → ((j : ℕ) → j ≢ i → get_elem? hs' j ≡ get_elem? s.homes j) → get_elem? hs' i ≡ some (home_value ph')
      → n ≡ slot_word ph' → IsSound first_id i ph' → IsSeated ph' (length s.views) → ((by : ℕ) (q : Part E) → by ≢ id → IsPart log ph by q → IsPart log ph' by q) → IsPart log ph' id (part_of w i)
      → ((slot : ℕ) → slot ≢ i → part_of w slot ≡ part_of v slot) → w.numbers ≡ v.numbers → w.next ≡ v.next
      → IsChained sizes.slots place' i s.words ph' → ((slot : ℕ) (p : Phase T E) → slot ≢ i → IsChained sizes.slots kept.place slot s.words p → IsChained sizes.slots place' slot s.words p)
      → IsTold log rec g' i ph' → ((slot : ℕ) (p : Phase T E) → slot ≢ i → IsTold log rec kept.history slot p → IsTold log rec g' slot p)
      → ((slot f : ℕ) (l : List E) → g'.last slot f ≡ Some l → AreSettled (g'.numbered slot f) (receipts_in rec l) (g'.lost slot f))
      → ((m : ℕ) → IsPlaced (length s.views) (place' m)) → ((m : ℕ) → sizes.passes * sizes.nodes < m → place' m ≡ idle) → g'.width ≡ kept.history.width
      → ((slot f a : ℕ) → IsRisingBelow (g'.numbered slot f a) (g'.sent a))
      → ((a : ℕ) → kept.at.2.count ≤ a → g'.sent a ≡ 0) → ((by : ℕ) (u : View E) → get_elem? (set s.views id w) by ≡ some u → HasSent g'.sent u.numbers u.sent)
      → ((slot f : ℕ) → (g'.ender slot f < length s.views) × ((a : ℕ) → kept.at.2.count ≤ a → g'.numbered slot f a ≡ []))
      → ((by : ℕ) (u : View E) → get_elem? (set s.views id w) by ≡ some u → HasInHand sizes.slots s.words place' by u.hand)
      → ((by : ℕ) (u : View E) → get_elem? (set s.views id w) by ≡ some u → IsTakenList sizes.slots s.words place' by u.taken)
      → ((by : ℕ) (u : View E) → get_elem? (set s.views id w) by ≡ some u → IsInformed g' kept.at.2.holder by u)
      → ((by : ℕ) (u : View E) → get_elem? (set s.views id w) by ≡ some u → AreAll (IsNoticed g') u.notices)
      → ((node : ℕ) → 1 ≤ node → node ≤ sizes.passes * sizes.nodes → IsNode sizes.slots s.words node (kept.at.2.holder (pass_of_node sizes.nodes node)) (place' node))
      → IsKept log first_id rec sizes record { words = set s.words i n; homes = hs'; views = set s.views id w }
  slot_moves sizes s i n id v w hs' ph ph' place' g' kept at ok low long away there is sound seats others mine same numbers next linked linked_else told told_else over placed beyond wide rise unsent
      sents news hands lists tells noticed nodes = let k = sizes.slots in record {
        place = place';
        history = g';
        at = (
          long ∙ kept.at.0,
          (λ slot below. dite (ℕ_discrete slot i)
              (λ e. (
                ph',
                subst (λ (z : ℕ). IsSlot log first_id rec k place' z (set s.words i n) hs' (set s.views id w) ph') (sym e) record {
                  word = set_there s.words i (slot_word ph) n ok.word ∙ ap some is;
                  home_is = there;
                  sound = sound;
                  seated = subst (IsSeated ph') (sym (length-set s.views id w)) seats;
                  fits = views_after s.views id w (λ by u. IsPart log ph' by (part_of u i)) mine (λ by u ne t. others by (part_of u i) ne (ok.fits by u t));
                  chain = chained k place' i i n s.words ph' low linked;
                },
                subst (λ (z : ℕ). IsTold log rec g' z ph') (sym e) told,
              ))
              (λ ne. let was = kept.at.1 slot (subst (λ (z : ℕ). slot < z) long below) in let o = was.1 in (
                was.0,
                record {
                  word = set_else s.words i slot n ne ∙ o.word;
                  home_is = away slot ne ∙ o.home_is;
                  sound = o.sound;
                  seated = subst (IsSeated was.0) (sym (length-set s.views id w)) o.seated;
                  fits = views_after s.views id w (λ by u. IsPart log was.0 by (part_of u slot)) (subst (IsPart log was.0 id) (sym (same slot ne)) (o.fits id v at)) (λ by u ne t. o.fits by u t);
                  chain = chained k place' slot i n s.words was.0 low (linked_else slot was.0 ne o.chain);
                },
                told_else slot was.0 ne was.2,
              ))),
          counted s.views id v w kept.at.2 at numbers next,
        );
        nodes = λ node a b. node_else k i n node (kept.at.2.holder (pass_of_node sizes.nodes node)) s.words (place' node) low (nodes node a b);
        lists = λ by u e. let l = lists by u e in (linked_slot k i n s.words u.taken low l.0, l.1, l.2);
        tells = tells;
        noticed = noticed;
        beyond = beyond;
        over = over;
        wide = wide ∙ kept.wide;
        rise = rise;
        unsent = unsent;
        sents = sents;
        placed = λ m. subst (λ (z : ℕ). IsPlaced z (place' m)) (sym (length-set s.views id w)) (placed m);
        news = λ slot f. (subst (λ (z : ℕ). g'.ender slot f < z) (sym (length-set s.views id w)) (news slot f).0, (news slot f).1);
        hands = λ by u e. hands_else k i n by s.words place' u.hand low (hands by u e);
      }

  -- the view tells what it told, where its receipts and what it dropped are the same
  pub tells_same : (g : History E) (holder : ℕ → ℕ) (id : ℕ) (v w : View E) → ((slot : ℕ) → ((part_of w slot).receipts ≡ (part_of v slot).receipts)
      × ((part_of w slot).dropped ≡ (part_of v slot).dropped) × ((part_of w slot).last ≡ (part_of v slot).last) × ((part_of w slot).destroyed ≡ (part_of v slot).destroyed))
      → IsInformed g holder id v → IsInformed g holder id w
  tells_same g holder id v w same all slot first = (
    (λ a. ap (λ (z : List (ℕ × Receipt)). numbers_of a (receipts_of_range first z)) (same slot).0 ∙ (all slot first).0 a),
    ap (receipts_of_range first) (same slot).1 ∙ (all slot first).1,
    (λ l h. (all slot first).2 l (subst (λ z. HasLog z first l) (same slot).2 h)),
    (λ h. (all slot first).3 (subst (HasNumber first) (same slot).3 h)),
  )

  -- a view whose slot got a part with the same receipts has the same receipts at every slot
  pub changed_same : (v : View E) (seen : List (ℕ × ℕ)) (i : ℕ) (p : Part E) → (p.receipts ≡ (part_of v i).receipts) × (p.dropped ≡ (part_of v i).dropped) × (p.last ≡ (part_of v i).last)
      × (p.destroyed ≡ (part_of v i).destroyed)
      → (slot : ℕ) → ((part_of (view_with v seen i p) slot).receipts ≡ (part_of v slot).receipts) × ((part_of (view_with v seen i p) slot).dropped ≡ (part_of v slot).dropped)
      × ((part_of (view_with v seen i p) slot).last ≡ (part_of v slot).last) × ((part_of (view_with v seen i p) slot).destroyed ≡ (part_of v slot).destroyed)
  changed_same v seen i p same slot = dite (ℕ_discrete slot i)
      (λ e. subst (λ (z : ℕ). ((part_of (view_with v seen i p) z).receipts ≡ (part_of v z).receipts) × ((part_of (view_with v seen i p) z).dropped ≡ (part_of v z).dropped)
      × ((part_of (view_with v seen i p) z).last ≡ (part_of v z).last) × ((part_of (view_with v seen i p) z).destroyed ≡ (part_of v z).destroyed)) (sym e) (
        ap (λ (z : Part E). z.receipts) (part_here v.parts i p) ∙ same.0,
        ap (λ (z : Part E). z.dropped) (part_here v.parts i p) ∙ same.1,
        ap (λ (z : Part E). z.last) (part_here v.parts i p)
            ∙ same.2,
        ap (λ (z : Part E). z.destroyed) (part_here v.parts i p) ∙ same.3,
      ))
      (λ ne. (
        ap (λ (z : Part E). z.receipts) (part_else v.parts i slot p ne),
        ap (λ (z : Part E). z.dropped) (part_else v.parts i slot p ne),
        ap (λ (z : Part E). z.last) (part_else v.parts i slot p ne),
        ap (λ (z : Part E). z.destroyed) (part_else v.parts i slot p ne),
      ))

  -- a step on the slot i that moves no node and numbers no receipt
  pub slot_steps : (sizes : Sizes) (s : St) (i n id : ℕ) (v : View E) (seen : List (ℕ × ℕ)) (p : Part E) (hs' : List (maybe.Option (Option T))) (ph ph' : Phase T E)
      → (kept : IsKept log first_id rec sizes s) → get_elem? s.views id ≡ some v → IsSlot log first_id rec sizes.slots kept.place i s.words s.homes s.views ph → i < sizes.slots
      → length hs' ≡ length s.homes → ((j : ℕ) → j ≢ i → get_elem? hs' j ≡ get_elem? s.homes j) → get_elem? hs' i ≡ some (home_value ph')
      → n ≡ slot_word ph' → IsSound first_id i ph' → IsSeated ph' (length s.views) → ((by : ℕ) (q : Part E) → by ≢ id → IsPart log ph by q → IsPart log ph' by q) → IsPart log ph' id p
      → IsChained sizes.slots kept.place i s.words ph'
      → (p.receipts ≡ (part_of v i).receipts) × (p.dropped ≡ (part_of v i).dropped) × (p.last ≡ (part_of v i).last) × (p.destroyed ≡ (part_of v i).destroyed) → IsTold log rec kept.history i ph'
      → IsKept log first_id rec sizes record { words = set s.words i n; homes = hs'; views = set s.views id (view_with v seen i p) }
  slot_steps sizes s i n id v seen p hs' ph ph' kept at ok low long away there is sound seats others mine linked alike told = let w : View E = view_with v seen i p in
      slot_moves sizes s i n id v w hs' ph ph' kept.place kept.history kept at ok low long away there is sound seats others (subst (IsPart log ph' id) (sym (part_here v.parts i p)) mine)
      (λ slot ne. part_else v.parts i slot p ne) refl refl linked (λ slot q ne c. c) told (λ slot q ne t. t) kept.over kept.placed kept.beyond refl kept.rise kept.unsent
      (views_after s.views id w (λ _ u. HasSent kept.history.sent u.numbers u.sent) (kept.sents id v at) (λ by u ne e. kept.sents by u e)) kept.news
      (views_after s.views id w (λ by u. HasInHand sizes.slots s.words kept.place by u.hand) (kept.hands id v at) (λ by u ne e. kept.hands by u e))
      (views_after s.views id w (λ by u. IsTakenList sizes.slots s.words kept.place by u.taken) (kept.lists id v at) (λ by u ne e. kept.lists by u e))
      (views_after s.views id w (IsInformed kept.history kept.at.2.holder) (tells_same kept.history kept.at.2.holder id v w (changed_same v seen i p alike) (kept.tells id v at))
      (λ by u ne e. kept.tells by u e))
      (views_after s.views id w (λ _ u. AreAll (IsNoticed kept.history) u.notices) (kept.noticed id v at) (λ by u ne e. kept.noticed by u e))
      kept.nodes

  -- what a step owes once the number found is known: a view and an act that keep the rule, and what the pass is told
  abbrev pub StepKeeps : (sizes : Sizes) (s : St) (i id : ℕ) (me : Mine T E) (tells : ℕ → Mine T E → Type 0) → ℕ → Type 0
  StepKeeps sizes s i id me tells n = (w : View E) × (a : Act (Option T)) × Valid s.homes me.1 a × IsKept log first_id rec sizes (stepped s i n id me.1 w a)
      × tells (slice_index s.words i) (w, carried_after me.1 a)
