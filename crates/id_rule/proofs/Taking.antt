-- Taking the whole chain of a held slot keeps the rule.
use Rattle.std.proofs.Common.{⊎_elim, inl, inr, ◌⊎◌, ◌≡◌, ◌≢◌, ℕ, ◌*◌, ◌<◌, false, true≢false, eq-eqb, ne_eqb, List, [], ◌∷◌, ◌++◌, length, refl, sym, ap, ap₂, ◌∙◌, subst, arith, Option, Some, None}
use Rattle.std.specs.Prelude.{if◌then◌else◌, slice_index, reverse}
use mathlib.Core.Logic.{dite}
use mathlib.Core.Option.{none}
use native.Mathlib.Decide.{ℕ_discrete}
use Rattle.atomic_table.specs.Table.{step, keeps, Allows}
use Rattle.rpc_model.specs.Gone.{head_in}
use Rattle.id_rule.specs.Words.{packed_word}
use Rattle.id_rule.specs.Nodes.{notice_of, notices_of, Place, idle, in_hand, in_queue, on_list, head_of, ArePlaced, IsTakenList, IsPlaced, IsNode, pass_of_node, receipts_of}
use Rattle.id_rule.specs.Receipts.{History, IsNoticed, HasSent, receipts_in}
use Rattle.id_rule.specs.Parts.{part_of, AreAll}
use Rattle.id_rule.specs.Changes.{first_held, size_held, turn_with_waits, part_with_got, taking_view}
use Rattle.id_rule.specs.Phases.{Range, Phase, vacant, reserved, free, locked, ended, taken, retired, IsPart}
use Rattle.id_rule.specs.Rule.{HasInHand, IsChained, IsTold, IsInformed, IsSlot, IsKept}
use Rattle.id_rule.specs.Steps.{Mine, IsTakingAll}
use Rattle.id_rule.specs.declared.view.Notice.{Notice}
use Rattle.id_rule.specs.declared.view.Queued.{Queued}
use Rattle.id_rule.specs.declared.view.Turn.{Turn}
use Rattle.id_rule.specs.declared.view.Receipt.{Receipt}
use Rattle.id_rule.proofs.Chains.{shifted, took, took_else}
use Rattle.id_rule.proofs.Lists.{views_after, part_here, part_else, there_below, index_is}
use Rattle.id_rule.proofs.Receipts.{at_take}
use Rattle.id_rule.proofs.Counting.{chain_told}
use Rattle.id_rule.proofs.Posting.{head_is}
use Rattle.id_rule.proofs.Seats.{all_joined, all_reversed}
use Rattle.id_rule.proofs.Steps.{tells_same, changed_same, slot_moves}
use Rattle.id_rule.proofs.Lists.{yes_if, no_if, bare}
use Rattle.id_rule.proofs.Turns.{locked_word}
use Rattle.id_rule.specs.declared.rule.Sizes.{Sizes}
use Rattle.id_rule.specs.declared.view.View.{View}
use Rattle.id_rule.specs.declared.view.Part.{Part}

-- the taken nodes are with one of the seats
pub shifted_placed : (slot by n : ℕ) (p : Place) → by < n → IsPlaced n p → IsPlaced n (shifted slot by p)
shifted_placed slot by n idle low h = tt
shifted_placed slot by n (in_hand k) low h = h
shifted_placed slot by n (on_list k j) low h = h
shifted_placed slot by n (in_queue s j) low h = dite (ℕ_discrete s slot)
    (λ e. subst (λ b. IsPlaced n (if b then on_list by j else in_queue s j)) (sym (eq-eqb s slot e)) low)
    (λ ne. subst (λ b. IsPlaced n (if b then on_list by j else in_queue s j)) (sym (ne_eqb s slot ne)) tt)

module _ (slot by : ℕ) where
  -- no node is placed in the taken chain any more
  pub no_queue : (p : Place) (s j : ℕ) → shifted slot by p ≡ in_queue s j → (p ≡ in_queue s j) × (s ≢ slot)
  no_queue idle s j e = absurd (cc)
  no_queue (in_hand k) s j e = absurd (cc)
  no_queue (on_list k t) s j e = absurd (cc)
  no_queue (in_queue a t) s j e = dite (ℕ_discrete a slot)
      (λ same. absurd (apart (sym (ap (λ b. if b then on_list by t else in_queue a t) (eq-eqb a slot same)) ∙ e)))
      (λ ne. let q = sym (ap (λ b. if b then on_list by t else in_queue a t) (ne_eqb a slot ne)) ∙ e in (q, λ z. ne (ap slot_in q ∙ z)))
    where
      apart : on_list by t ≡ in_queue s j → ⊥
      apart e = absurd (cc)

      slot_in : Place → ℕ
      slot_in idle = 0
      slot_in (in_hand k) = 0
      slot_in (on_list k u) = 0
      slot_in (in_queue k u) = k

  -- a node on a list was there before, or in the taken chain
  pub comes_on_list : (p : Place) (k j : ℕ) → shifted slot by p ≡ on_list k j → (p ≡ on_list k j) ⊎ ((p ≡ in_queue slot j) × (k ≡ by))
  comes_on_list idle k j e = absurd (cc)
  comes_on_list (in_hand a) k j e = absurd (cc)
  comes_on_list (on_list a t) k j e = inl e
  comes_on_list (in_queue a t) k j e = dite (ℕ_discrete a slot)
      (λ same. let q = sym (ap (λ b. if b then on_list by t else in_queue a t) (eq-eqb a slot same)) ∙ e in inr ((λ z. in_queue (same z) (number q z)), sym (seat q)))
      (λ ne. absurd (apart (sym (ap (λ b. if b then on_list by t else in_queue a t) (ne_eqb a slot ne)) ∙ e)))
    where
      apart : in_queue a t ≡ on_list k j → ⊥
      apart e = absurd (cc)

      number : on_list by t ≡ on_list k j → t ≡ j
      number q = cc

      seat : on_list by t ≡ on_list k j → by ≡ k
      seat q = cc

-- the errors of a chain that was taken were queued so
pub taken_noticed : {E : Type 0} (g : History E) (slot : ℕ) (old : List Notice) → AreAll (IsNoticed g) old → (qs : List Queued) (first held : ℕ) → first ≡ held
    → AreAll (λ q. IsNoticed g (notice_of slot held q)) qs → AreAll (IsNoticed g) (old ++ reverse (notices_of slot first qs))
taken_noticed {E} g slot old was qs first held same all =
    all_joined (IsNoticed g) old (reverse (notices_of slot first qs)) was
    (all_reversed (IsNoticed g) (notices_of slot first qs) (of_chain qs (subst (λ (z : ℕ). AreAll (λ q. IsNoticed g (notice_of slot z q)) qs) (sym same) all)))
  where
    of_chain : (qs : List Queued) → AreAll (λ q. IsNoticed g (notice_of slot first q)) qs → AreAll (IsNoticed g) (notices_of slot first qs)
    of_chain [] a = tt
    of_chain (q ∷ qs) a = (a.0, of_chain qs a.1)

module _ {T E : Type 0} (log : T → List E) (first_id : T → ℕ) (rec : E → Option Receipt) where
  -- another slot's chain stands
  pub others_stand : (n slot by : ℕ) (place : ℕ → Place) (s : ℕ) (ws : List ℕ) (ph : Phase T E) → s ≢ slot → IsChained n place s ws ph → IsChained n (λ m. shifted slot by (place m)) s ws ph
  others_stand n slot by place s ws (vacant f) ne c = λ m j e. c m j (no_queue slot by (place m) s j e).0
  others_stand n slot by place s ws (reserved f r who) ne c = λ m j e. c m j (no_queue slot by (place m) s j e).0
  others_stand n slot by place s ws (free r x) ne c = λ m j e. c m j (no_queue slot by (place m) s j e).0
  others_stand n slot by place s ws (locked r who l qs got) ne c = (c.0, took_else slot s by place qs ne c.1, λ m j e. c.2 m j (no_queue slot by (place m) s j e).0)
  others_stand n slot by place s ws (ended r x) ne c = λ m j e. c m j (no_queue slot by (place m) s j e).0
  others_stand n slot by place s ws (taken r l) ne c = λ m j e. c m j (no_queue slot by (place m) s j e).0
  others_stand n slot by place s ws (retired f) ne c = λ m j e. c m j (no_queue slot by (place m) s j e).0

  -- other lists stay
  pub lists_stand : (slot by k : ℕ) (place : ℕ → Place) (qs : List Queued) → ArePlaced place (on_list k) qs → ArePlaced (λ m. shifted slot by (place m)) (on_list k) qs
  lists_stand slot by k place [] all = tt
  lists_stand slot by k place (q ∷ qs) all = (ap (shifted slot by) all.0, lists_stand slot by k place qs all.1)

  -- nodes stay as they are
  pub nodes_stand : (n node who slot by : ℕ) (ws : List ℕ) (p : Place) → IsNode n ws node who p → IsNode n ws node who (shifted slot by p)
  nodes_stand n node who slot by ws idle h = h
  nodes_stand n node who slot by ws (in_hand k) h = h
  nodes_stand n node who slot by ws (on_list k j) h = h
  nodes_stand n node who slot by ws (in_queue s j) h = dite (ℕ_discrete s slot)
      (λ same. subst (λ b. IsNode n ws node who (if b then on_list by j else in_queue s j)) (sym (eq-eqb s slot same)) h)
      (λ ne. subst (λ b. IsNode n ws node who (if b then on_list by j else in_queue s j)) (sym (ne_eqb s slot ne)) h)

  -- a node in hand was there before
  stays_in_hand : (slot by : ℕ) (p : Place) (k : ℕ) → shifted slot by p ≡ in_hand k → p ≡ in_hand k
  stays_in_hand slot by idle k e = absurd (cc)
  stays_in_hand slot by (in_hand a) k e = e
  stays_in_hand slot by (on_list a t) k e = absurd (cc)
  stays_in_hand slot by (in_queue a t) k e = dite (ℕ_discrete a slot)
      (λ same. absurd (one (sym (ap (λ b. if b then on_list by t else in_queue a t) (eq-eqb a slot same)) ∙ e)))
      (λ ne. absurd (two (sym (ap (λ b. if b then on_list by t else in_queue a t) (ne_eqb a slot ne)) ∙ e)))
    where
      one : on_list by t ≡ in_hand k → ⊥
      one e = absurd (cc)

      two : in_queue a t ≡ in_hand k → ⊥
      two e = absurd (cc)

  -- nodes in hand stay
  pub hands_stand : (n slot by k : ℕ) (place : ℕ → Place) (ws : List ℕ) (h : Option (ℕ × ℕ × ℕ)) → HasInHand n ws place k h → HasInHand n ws (λ m. shifted slot by (place m)) k h
  hands_stand n slot by k place ws None a = λ m e. a m (stays_in_hand slot by (place m) k e)
  hands_stand n slot by k place ws (Some h) a = (a.0, ap (shifted slot by) a.1, a.2, a.3, λ m e. a.4 m (stays_in_hand slot by (place m) k e))

  -- taking the chain of a held slot keeps the rule
  pub take_all_keeps : (sizes : Sizes) (slots id i : ℕ) (me : Mine T E) (to : ℕ → ℕ) (first f r : ℕ) → i < sizes.slots → (part_of me.0 i).hold ≡ Some (f, r) → me.0.taken ≡ []
      → me.0.width ≡ sizes.nodes → me.0.total ≡ sizes.passes * sizes.nodes → ((h : ℕ) → h < 65536 → to (packed_word f r 3 h) ≡ packed_word f r 3 0)
      → Allows (IsKept log first_id rec sizes) slots id me i to (IsTakingAll rec (step slots i first 0 none) me)
  take_all_keeps sizes slots id i me to operand f r low has empty width total clears s kept wide at _ =
      let n = sizes.slots in let place = kept.place in let g : History E = kept.history in
      let k = kept.at.1 i (subst (λ (z : ℕ). i < z) (sym kept.at.0) low) in
      let lw = locked_word log first_id rec i k.0 id f r (part_of me.0 i) (k.1.fits id me.0 at) has in
      let rg : Range = lw.0 in let l : Turn E = lw.1 in let qs : List Queued = lw.2 in let got : List Receipt = lw.3 in
      let ok : IsSlot log first_id rec n place i s.words s.homes s.views (locked rg id l qs got) = subst (IsSlot log first_id rec n place i s.words s.homes s.views) lw.4 k.1 in
      let told : IsTold log rec g i (locked rg id l qs got) = subst (λ p. IsTold log rec g i p) lw.4 k.2 in
      let place' : ℕ → Place = λ m. shifted i id (place m) in
      let all : List Receipt = got ++ reverse (receipts_of qs) in
      let t : Turn E = record l { waits = false } in
      let ph : Phase T E = locked rg id t [] all in
      let p : Part E = part_with_got (part_of me.0 i) ((part_of me.0 i).got ++ reverse (receipts_of qs)) in
      let w : View E = taking_view me.0 i qs in
      let fit = ok.fits id me.0 at in
      let mine : IsTakenList n s.words place id [] = subst (IsTakenList n s.words place id) empty (kept.lists id me.0 at) in
      let found : slice_index s.words i ≡ packed_word rg.first rg.size 3 (head_of qs) = index_is s.words i (packed_word rg.first rg.size 3 (head_of qs)) ok.word in
      let new : ℕ = to (slice_index s.words i) in
      let is : new ≡ packed_word f r 3 0 = ap to (found ∙ ap₂ (λ a b. packed_word a b 3 (head_of qs)) lw.5 lw.6) ∙ clears (head_of qs) ok.sound.1 in
      let hold : first_held (part_of me.0 i).hold ≡ rg.first = ap first_held has ∙ sym lw.5 in
      let size : size_held (part_of me.0 i).hold ≡ rg.size = ap size_held has ∙ sym lw.6 in (
        w,
        keeps,
        tt,
        slot_moves log first_id rec sizes s i new id me.0 w s.homes (locked rg id l qs got) ph place' g kept at ok low refl (λ _ _. refl) ok.home_is
            (is ∙ ap₂ (λ a b. packed_word a b 3 0) (sym lw.5) (sym lw.6)) (ok.sound.0, omega arith, tt, λ e. absurd (true≢false (sym e))) ok.seated
            (λ by q ne f. record {
              spot = f.spot;
              hold = f.hold;
              owner = f.owner;
              knows = f.knows;
              turn = f.turn ∙ no_if id by (Some l) None (λ e. ne (sym e)) ∙ sym (no_if id by (Some t) None (λ e. ne (sym e)));
              taking = f.taking;
              ended_below = f.ended_below;
              got = f.got
                  ∙ no_if id by got bare (λ e. ne (sym e)) ∙ sym (no_if id by all bare (λ e. ne (sym e)));
            })
            (subst (IsPart log ph id) (sym (part_here me.0.parts i p)) record {
              spot = fit.spot;
              hold = fit.hold;
              owner = fit.owner;
              knows = fit.knows;
              turn = ap (turn_with_waits false) (fit.turn ∙ yes_if id id (Some l) None refl) ∙ sym (yes_if id id (Some t) None refl);
              taking = fit.taking;
              ended_below = fit.ended_below;
              got = ap (λ z. z ++ reverse (receipts_of qs)) (fit.got ∙ yes_if id id got bare refl) ∙ sym (yes_if id id all bare refl);
            })
            (λ slot ne. part_else me.0.parts i slot p ne) refl refl
            (tt, tt, λ m j e. absurd ((no_queue i id (place m) i j e).1 refl)) (λ slot q ne c. others_stand n i id place slot s.words q ne c)
            (at_take (g.numbered i rg.first) (receipts_in rec l.log) got qs told.0, told.1, told.2, tt, tt) (λ slot q ne t. t) kept.over
            (λ m. shifted_placed i id (length s.views) (place m) (there_below s.views id me.0 at) (kept.placed m)) (λ m more. ap (shifted i id) (kept.beyond m more)) refl kept.rise kept.unsent
            (views_after s.views id w (λ _ u. HasSent g.sent u.numbers u.sent) (kept.sents id me.0 at) (λ by u ne e. kept.sents by u e)) kept.news
            (λ by u e. hands_stand n i id by place s.words u.hand (views_after s.views id w (λ by u. HasInHand n s.words place by u.hand) (kept.hands id me.0 at) (λ by u ne e. kept.hands by u e)
            by u e))
            (views_after s.views id w (λ by u. IsTakenList n s.words place' by u.taken)
            (ok.chain.0, took i id place qs ok.chain.1, λ m j h. ⊎_elim (λ z. absurd (mine.2 m j z)) (λ z. ok.chain.2 m j z.0) (comes_on_list i id (place m) id j h))
            (λ by u ne e. let o = kept.lists by u e in (o.0, lists_stand i id by place u.taken o.1, λ m j h. ⊎_elim (λ z. o.2 m j z) (λ z. absurd (ne z.1)) (comes_on_list i id (place m) by j h))))
            (views_after s.views id w (IsInformed g kept.at.2.holder) (tells_same log first_id rec g kept.at.2.holder id me.0 w
            (changed_same log first_id rec me.0 me.0.seen i p (refl, refl, refl, refl)) (kept.tells id me.0 at)) (λ by u ne e. kept.tells by u e))
            (views_after s.views id w (λ _ u. AreAll (IsNoticed g) u.notices)
            (taken_noticed g i me.0.notices (kept.noticed id me.0 at) qs (first_held (part_of me.0 i).hold) rg.first hold told.4) (λ by u ne e. kept.noticed by u e))
            (λ a one few. nodes_stand n a (kept.at.2.holder (pass_of_node sizes.nodes a)) i id s.words (place a) (kept.nodes a one few)),
        (
          qs,
          refl,
          ap head_in found ∙ head_is rg.first rg.size 3 (head_of qs) (omega (arith, ok.sound.0.3)) (omega arith) ok.sound.1,
          chain_told log first_id rec sizes s id i (size_held (part_of me.0 i).hold) me.0 rg l qs got kept at ok told width total size,
          (l, fit.turn ∙ yes_if id id (Some l) None refl, ok.sound.3),
        ),
      )
