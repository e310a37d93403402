-- A step on a node's word, and a load that only notes the word, keep the rule.
use Rattle.std.proofs.Common.{◌≡◌, ◌≢◌, ℕ, ◌+◌, ◌*◌, ◌<◌, ◌≤◌, zero, suc, eq-eqb, ne_eqb, List, [], ◌∷◌, length, set, length-set, refl, sym, ap, ◌∙◌, subst, arith, Option, Some, None}
use Rattle.std.specs.Prelude.{if◌then◌else◌, slice_index}
use mathlib.Core.Logic.{dite}
use mathlib.Core.Option.{some}
use native.Mathlib.Decide.{ℕ_discrete}
use lib.ListN.{get_elem?}
use Rattle.atomic_table.specs.Table.{State}
use Rattle.atomic_table.proofs.Lists.{set_else}
use Rattle.id_rule.specs.declared.view.Queued.{Queued}
use Rattle.id_rule.specs.declared.view.Receipt.{Receipt}
use Rattle.id_rule.specs.Nodes.{Place, idle, in_hand, in_queue, on_list, word_at, pass_of_node, IsLinked, ArePlaced, IsIn, IsTakenList, IsPlaced, IsNode}
use Rattle.id_rule.specs.Receipts.{HasSent, IsNoticed}
use Rattle.id_rule.specs.Parts.{part_of, part_at, AreAll}
use Rattle.id_rule.specs.Phases.{Phase, vacant, reserved, free, locked, ended, taken, retired, IsPart, IsSeated}
use Rattle.id_rule.specs.Rule.{HasInHand, IsChained, IsInformed, IsNumbered, IsKept}
use Rattle.id_rule.specs.declared.rule.Sizes.{Sizes}
use Rattle.id_rule.specs.declared.view.View.{View}
use Rattle.id_rule.proofs.Chains.{linked_node, moved, placed_else}
use Rattle.id_rule.proofs.Lists.{views_after, there_below}
use Rattle.id_rule.proofs.Steps.{tells_same}

-- the node is free or with the seat
abbrev pub IsOwn : ℕ → Place → Type 0
IsOwn id idle = Unit {0}
IsOwn id (in_hand by) = by ≡ id
IsOwn id (in_queue s j) = ⊥
IsOwn id (on_list by j) = by ≡ id

-- such a node is in no slot's chain
pub own_queue : (id : ℕ) (p : Place) → IsOwn id p → (s j : ℕ) → p ≢ in_queue s j
own_queue id idle o s j e = absurd (cc)
own_queue id (in_hand by) o s j e = absurd (cc)
own_queue id (in_queue a b) o s j e = o
own_queue id (on_list a b) o s j e = absurd (cc)

-- such a node is on no other seat's list
pub own_list : (id by : ℕ) (p : Place) → by ≢ id → IsOwn id p → (j : ℕ) → p ≢ on_list by j
own_list id by idle ne o j e = absurd (cc)
own_list id by (in_hand a) ne o j e = absurd (cc)
own_list id by (in_queue a b) ne o j e = o
own_list id by (on_list a b) ne o j e = ne (sym (seat e) ∙ o)
  where
    seat : on_list a b ≡ on_list by j → a ≡ by
    seat e = cc

-- such a node is in no other seat's hand
pub own_hand : (id by : ℕ) (p : Place) → by ≢ id → IsOwn id p → p ≢ in_hand by
own_hand id by idle ne o e = absurd (cc)
own_hand id by (in_hand a) ne o e = ne (sym (seat e) ∙ o)
  where
    seat : in_hand a ≡ in_hand by → a ≡ by
    seat e = cc
own_hand id by (in_queue a b) ne o e = o
own_hand id by (on_list a b) ne o e = absurd (cc)

-- such a node is with one of the seats
own_placed : (id n : ℕ) (p : Place) → id < n → IsOwn id p → IsPlaced n p
own_placed id n idle low o = tt
own_placed id n (in_hand by) low o = subst (λ (z : ℕ). z < n) (sym o) low
own_placed id n (in_queue a b) low o = tt
own_placed id n (on_list by k) low o = subst (λ (z : ℕ). z < n) (sym o) low

-- the node's new place
pub moved_here : (place : ℕ → Place) (m : ℕ) (to : Place) (k : ℕ) → k ≡ m → moved place m to k ≡ to
moved_here place m to k e = ap (λ b. if b then to else place k) (eq-eqb k m e)

-- other nodes stay where they are
pub moved_else : (place : ℕ → Place) (m : ℕ) (to : Place) (k : ℕ) → k ≢ m → moved place m to k ≡ place k
moved_else place m to k ne = ap (λ b. if b then to else place k) (ne_eqb k m ne)

-- whoever is there after was there before
pub was_there : (place : ℕ → Place) (m : ℕ) (to at : Place) → to ≢ at → (k : ℕ) → moved place m to k ≡ at → (k ≢ m) × (place k ≡ at)
was_there place m to at away k e = dite (ℕ_discrete k m)
    (λ same. absurd (away (sym (moved_here place m to k same) ∙ e)))
    (λ ne. (ne, sym (moved_else place m to k ne) ∙ e))

module _ (k m c n : ℕ) (ws : List ℕ) (place : ℕ → Place) (to : Place) (some_node : 1 ≤ m) (low : c < 2) where
  -- another node's words
  pub word_else : (a d : ℕ) → 1 ≤ a → d < 2 → a ≢ m → get_elem? (set ws (word_at k m + c) n) (word_at k a + d) ≡ get_elem? ws (word_at k a + d)
  word_else a d one less ne = set_else ws (word_at k m + c) (word_at k a + d) n (λ e. ne (omega arith))

  -- another node's first word
  pub first_else : (a : ℕ) → 1 ≤ a → a ≢ m → get_elem? (set ws (word_at k m + c) n) (word_at k a) ≡ get_elem? ws (word_at k a)
  first_else a one ne = set_else ws (word_at k m + c) (word_at k a) n (λ e. ne (omega arith))

  -- a chain in which the node isn't stays
  pub list_apart : (here : ℕ → Place) (qs : List Queued) → ((j : ℕ) → place m ≢ here j) → ((j : ℕ) → to ≢ here j) → IsLinked k ws qs → ArePlaced place here qs
      → ((a j : ℕ) → place a ≡ here j → IsIn a qs)
      → IsLinked k (set ws (word_at k m + c) n) qs × ArePlaced (moved place m to) here qs × ((a j : ℕ) → moved place m to a ≡ here j → IsIn a qs)
  list_apart here qs away apart linked placed whole = (
    linked_node k m c n ws place here qs some_node low away placed linked,
    placed_else place here m to qs away placed,
    (λ a j e. whole a j (was_there place m to (here j) (apart j) a e).1),
  )

  -- another seat's node in hand stays
  pub hands_apart : (by : ℕ) (h : Option (ℕ × ℕ × ℕ)) → place m ≢ in_hand by → to ≢ in_hand by → HasInHand k ws place by h → HasInHand k (set ws (word_at k m + c) n) (moved place m to) by h
  hands_apart by None away apart a = λ z e. a z (was_there place m to (in_hand by) apart z e).1
  hands_apart by (Some h) away apart a =
      let ne : h.0 ≢ m = λ e. away (ap place (sym e) ∙ a.1) in
      (a.0, moved_else place m to h.0 ne ∙ a.1, first_else h.0 a.0 ne ∙ a.2, word_else h.0 1 a.0 (omega arith) ne ∙ a.3, λ z e. a.4 z (was_there place m to (in_hand by) apart z e).1)

  -- another node stays as it is
  pub node_apart : (node who : ℕ) (p : Place) → 1 ≤ node → node ≢ m → IsNode k ws node who p → IsNode k (set ws (word_at k m + c) n) node who p
  node_apart node who idle one ne h = (first_else node one ne ∙ h.0, (h.1.0, word_else node 1 one (omega arith) ne ∙ h.1.1))
  node_apart node who (in_hand by) one ne h = h
  node_apart node who (in_queue s j) one ne h = (h.0, first_else node one ne ∙ h.1, h.2)
  node_apart node who (on_list s j) one ne h = (h.0, first_else node one ne ∙ h.1, h.2)

  -- the chains of slots stay
  pub chained_apart : {T E : Type 0} (slot : ℕ) (ph : Phase T E) → ((j : ℕ) → place m ≢ in_queue slot j) → ((j : ℕ) → to ≢ in_queue slot j) → IsChained k place slot ws ph
      → IsChained k (moved place m to) slot (set ws (word_at k m + c) n) ph
  chained_apart slot (vacant f) away apart h = λ a j e. h a j (was_there place m to (in_queue slot j) (apart j) a e).1
  chained_apart slot (reserved f r who) away apart h = λ a j e. h a j (was_there place m to (in_queue slot j) (apart j) a e).1
  chained_apart slot (free r x) away apart h = λ a j e. h a j (was_there place m to (in_queue slot j) (apart j) a e).1
  chained_apart slot (locked r who l qs got) away apart h = list_apart (in_queue slot) qs away apart h.0 h.1 h.2
  chained_apart slot (ended r x) away apart h = λ a j e. h a j (was_there place m to (in_queue slot j) (apart j) a e).1
  chained_apart slot (taken r l) away apart h = λ a j e. h a j (was_there place m to (in_queue slot j) (apart j) a e).1
  chained_apart slot (retired f) away apart h = λ a j e. h a j (was_there place m to (in_queue slot j) (apart j) a e).1

module _ {T E : Type 0} (log : T → List E) (first_id : T → ℕ) (rec : E → Option Receipt) where
  -- A step on a word of the node m, which is free or with the seat before and after
  pub node_steps : (sizes : Sizes) (s : State (Option T) (View E)) (m c n id : ℕ) (v w : View E) (to : Place) (kept : IsKept log first_id rec sizes s) → get_elem? s.views id ≡ some v
      → 1 ≤ m → c < 2 → IsOwn id (kept.place m) → IsOwn id to → w.numbers ≡ v.numbers → w.sent ≡ v.sent → w.next ≡ v.next → w.parts ≡ v.parts → w.notices ≡ v.notices
      → (sizes.passes * sizes.nodes < m → to ≡ idle)
      → HasInHand sizes.slots (set s.words (word_at sizes.slots m + c) n) (moved kept.place m to) id w.hand
      → IsTakenList sizes.slots (set s.words (word_at sizes.slots m + c) n) (moved kept.place m to) id w.taken
      → (m ≤ sizes.passes * sizes.nodes → IsNode sizes.slots (set s.words (word_at sizes.slots m + c) n) m (kept.at.2.holder (pass_of_node sizes.nodes m)) to)
      → IsKept log first_id rec sizes record { words = set s.words (word_at sizes.slots m + c) n; homes = s.homes; views = set s.views id w }
  node_steps sizes s m c n id v w to kept at one low own own' numbers sent next parts notices far hand list node =
      let k = sizes.slots in let place = kept.place in
      record {
        place = moved place m to;
        history = kept.history;
        over = kept.over;
        wide = kept.wide;
        rise = kept.rise;
        unsent = kept.unsent;
        sents = views_after s.views id w (λ _ u. HasSent kept.history.sent u.numbers u.sent)
            (subst (λ (z : List ℕ × ℕ). HasSent kept.history.sent z.0 z.1) (λ y. (sym numbers y, sym sent y)) (kept.sents id v at)) (λ by u ne e. kept.sents by u e);
        placed = λ a. subst (λ (z : ℕ). IsPlaced z (moved place m to a)) (sym (length-set s.views id w))
            (dite (ℕ_discrete a m) (λ e. subst (IsPlaced (length s.views)) (sym (moved_here place m to a e)) (own_placed id (length s.views) to (there_below s.views id v at) own'))
            (λ ne. subst (IsPlaced (length s.views)) (sym (moved_else place m to a ne)) (kept.placed a)));
        beyond = λ a more. dite (ℕ_discrete a m) (λ e. moved_here place m to a e ∙ far (subst (λ (z : ℕ). sizes.passes * sizes.nodes < z) e more))
            (λ ne. moved_else place m to a ne ∙ kept.beyond a more);
        noticed = views_after s.views id w (λ _ u. AreAll (IsNoticed kept.history) u.notices) (subst (AreAll (IsNoticed kept.history)) (sym notices) (kept.noticed id v at))
            (λ by u ne e. kept.noticed by u e);
        news = λ slot f. (subst (λ (z : ℕ). kept.history.ender slot f < z) (sym (length-set s.views id w)) (kept.news slot f).0, (kept.news slot f).1);
        tells = views_after s.views id w (IsInformed kept.history kept.at.2.holder)
            (tells_same log first_id rec kept.history kept.at.2.holder id v w (λ slot.
            (ap (λ z. (part_at z slot).receipts) parts, ap (λ z. (part_at z slot).dropped) parts, ap (λ z. (part_at z slot).last) parts, ap (λ z. (part_at z slot).destroyed) parts))
            (kept.tells id v at)) (λ by u ne e. kept.tells by u e);
        at = (
          kept.at.0,
          (λ slot below. let was = kept.at.1 slot below in let o = was.1 in
              let under : slot < k = subst (λ (z : ℕ). slot < z) kept.at.0 below in (
                was.0,
                record {
                  word = set_else s.words (word_at k m + c) slot n (λ e. omega arith) ∙ o.word;
                  home_is = o.home_is;
                  sound = o.sound;
                  seated = subst (IsSeated was.0) (sym (length-set s.views id w)) o.seated;
                  fits = views_after s.views id w (λ by u. IsPart log was.0 by (part_of u slot)) (subst (λ z. IsPart log was.0 id (part_at z slot)) (sym parts) (o.fits id v at))
                      (λ by u ne e. o.fits by u e);
                  chain = chained_apart k m c n s.words place to one low slot was.0 (own_queue id (place m) own slot) (own_queue id to own' slot) o.chain;
                },
                was.2,
              )),
          record {
            opener = kept.at.2.opener;
            count = kept.at.2.count;
            holder = kept.at.2.holder;
            seats = kept.at.2.seats ∙ sym (length-set s.views id w);
            later = kept.at.2.later;
            earlier = kept.at.2.earlier;
            each = views_after s.views id w (IsNumbered kept.at.2.opener kept.at.2.count kept.at.2.holder)
                (next ∙ (kept.at.2.each id v at).0, subst (AreAll (λ z. (z < kept.at.2.count) × (kept.at.2.holder z ≡ id))) (sym numbers) (kept.at.2.each id v at).1)
                (λ by u ne e. kept.at.2.each by u e);
          },
        );
        hands = views_after s.views id w (λ by u. HasInHand k (set s.words (word_at k m + c) n) (moved place m to) by u.hand) hand
            (λ by u ne e. hands_apart k m c n s.words place to one low by u.hand (own_hand id by (place m) ne own) (own_hand id by to ne own') (kept.hands by u e));
        lists = views_after s.views id w (λ by u. IsTakenList k (set s.words (word_at k m + c) n) (moved place m to) by u.taken) list
            (λ by u ne e. let l = kept.lists by u e in list_apart k m c n s.words place to one low (on_list by) u.taken (own_list id by (place m) ne own) (own_list id by to ne own') l.0 l.1 l.2);
        nodes = λ a some_a few. dite (ℕ_discrete a m)
            (λ same. subst (IsNode k (set s.words (word_at k m + c) n) a (kept.at.2.holder (pass_of_node sizes.nodes a))) (sym (moved_here place m to a same))
            (subst (λ (z : ℕ). IsNode k (set s.words (word_at k m + c) n) z (kept.at.2.holder (pass_of_node sizes.nodes z)) to) (sym same)
            (node (subst (λ (z : ℕ). z ≤ sizes.passes * sizes.nodes) same few))))
            (λ ne. subst (IsNode k (set s.words (word_at k m + c) n) a (kept.at.2.holder (pass_of_node sizes.nodes a))) (sym (moved_else place m to a ne))
            (node_apart k m c n s.words place to one low a (kept.at.2.holder (pass_of_node sizes.nodes a)) (place a) some_a ne (kept.nodes a some_a few)));
      }

-- storing the word that stands there changes nothing
set_same : (l : List ℕ) (i : ℕ) → set l i (slice_index l i) ≡ l
set_same [] i = refl
set_same (x ∷ xs) zero = refl
set_same (x ∷ xs) (suc i) = λ z. x ∷ set_same xs i z

module _ {T E : Type 0} (log : T → List E) (first_id : T → ℕ) (rec : E → Option Receipt) where
  -- a load that changes nothing but what the view has seen
  pub view_notes : (sizes : Sizes) (s : State (Option T) (View E)) (i id : ℕ) (v w : View E) (kept : IsKept log first_id rec sizes s) → get_elem? s.views id ≡ some v
      → w.numbers ≡ v.numbers → w.sent ≡ v.sent → w.next ≡ v.next → w.parts ≡ v.parts → w.hand ≡ v.hand → w.taken ≡ v.taken → w.notices ≡ v.notices
      → IsKept log first_id rec sizes record { words = set s.words i (slice_index s.words i); homes = s.homes; views = set s.views id w }
  view_notes sizes s i id v w kept at numbers sent next parts hand list notices =
      subst (λ (z : List ℕ). IsKept log first_id rec sizes record { words = z; homes = s.homes; views = set s.views id w }) (sym (set_same s.words i))
      record {
        place = kept.place;
        history = kept.history;
        over = kept.over;
        wide = kept.wide;
        rise = kept.rise;
        unsent = kept.unsent;
        sents = views_after s.views id w (λ _ u. HasSent kept.history.sent u.numbers u.sent)
            (subst (λ (z : List ℕ × ℕ). HasSent kept.history.sent z.0 z.1) (λ y. (sym numbers y, sym sent y)) (kept.sents id v at)) (λ by u ne e. kept.sents by u e);
        placed = λ a. subst (λ (z : ℕ). IsPlaced z (kept.place a)) (sym (length-set s.views id w)) (kept.placed a);
        beyond = kept.beyond;
        noticed = views_after s.views id w (λ _ u. AreAll (IsNoticed kept.history) u.notices) (subst (AreAll (IsNoticed kept.history)) (sym notices) (kept.noticed id v at))
            (λ by u ne e. kept.noticed by u e);
        news = λ slot f. (subst (λ (z : ℕ). kept.history.ender slot f < z) (sym (length-set s.views id w)) (kept.news slot f).0, (kept.news slot f).1);
        tells = views_after s.views id w (IsInformed kept.history kept.at.2.holder)
            (tells_same log first_id rec kept.history kept.at.2.holder id v w (λ slot.
            (ap (λ z. (part_at z slot).receipts) parts, ap (λ z. (part_at z slot).dropped) parts, ap (λ z. (part_at z slot).last) parts, ap (λ z. (part_at z slot).destroyed) parts))
            (kept.tells id v at)) (λ by u ne e. kept.tells by u e);
        at = (
          kept.at.0,
          (λ slot below. let was = kept.at.1 slot below in let o = was.1 in (
            was.0,
            record {
              word = o.word;
              home_is = o.home_is;
              sound = o.sound;
              seated = subst (IsSeated was.0) (sym (length-set s.views id w)) o.seated;
              fits = views_after s.views id w (λ by u. IsPart log was.0 by (part_of u slot)) (subst (λ z. IsPart log was.0 id (part_at z slot)) (sym parts) (o.fits id v at))
                  (λ by u ne e. o.fits by u e);
              chain = o.chain;
            },
            was.2,
          )),
          record {
            opener = kept.at.2.opener;
            count = kept.at.2.count;
            holder = kept.at.2.holder;
            seats = kept.at.2.seats ∙ sym (length-set s.views id w);
            later = kept.at.2.later;
            earlier = kept.at.2.earlier;
            each = views_after s.views id w (IsNumbered kept.at.2.opener kept.at.2.count kept.at.2.holder)
                (next ∙ (kept.at.2.each id v at).0, subst (AreAll (λ z. (z < kept.at.2.count) × (kept.at.2.holder z ≡ id))) (sym numbers) (kept.at.2.each id v at).1)
                (λ by u ne e. kept.at.2.each by u e);
          },
        );
        hands = views_after s.views id w (λ by u. HasInHand sizes.slots s.words kept.place by u.hand) (subst (HasInHand sizes.slots s.words kept.place id) (sym hand) (kept.hands id v at))
            (λ by u ne e. kept.hands by u e);
        lists = views_after s.views id w (λ by u. IsTakenList sizes.slots s.words kept.place by u.taken) (subst (IsTakenList sizes.slots s.words kept.place id) (sym list) (kept.lists id v at))
            (λ by u ne e. kept.lists by u e);
        nodes = kept.nodes;
      }
