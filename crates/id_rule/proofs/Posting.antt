-- Pushing a node onto the chain of a locked slot keeps the rule.
use Rattle.std.proofs.Common.{inl, inr, ◌≡◌, ◌≢◌, ℕ, ◌+◌, ◌*◌, ◌<◌, eq-eqb, ne_eqb, List, [], ◌∷◌, ◌++◌, append-nil, Bool, length, refl, sym, ap, ap₂, ◌∙◌, subst, arith}
use Rattle.std.proofs.Common.{Option, Some, None}
use Rattle.std.specs.Prelude.{◌==◌, if◌then◌else◌, slice_index}
use Rattle.std.proofs.lemmas.Option.{none-some, same_Some}
use mathlib.Core.Logic.{dite}
use mathlib.Core.Option.{some, none}
use native.Mathlib.Decide.{ℕ_discrete}
use lib.ListN.{get_elem?}
use prog.Atomic.{either}
use Rattle.atomic_table.specs.Table.{step, keeps, Allows}
use Rattle.atomic_table.proofs.Lists.{exchanged}
use Rattle.rpc_model.specs.Gone.{code_in, range_in, first_in, head_in}
use Rattle.id_rule.specs.Words.{packed_word}
use Rattle.id_rule.specs.Nodes.{Place, idle, in_hand, in_queue, on_list, node_word, head_of, word_at, notice_of, offset_in, error_in, IsLinked, IsIn, IsWhole, IsTakenList, IsNonzero}
use Rattle.id_rule.specs.Nodes.{IsPlaced, IsNode, pass_of_node, numbers_of}
use Rattle.id_rule.specs.Receipts.{History, IsNoticed, HasSent, receipts_of_range, receipts_in, AreSettled}
use Rattle.id_rule.specs.Parts.{HasNumber, part_of, HasLog, AreAll, own_number}
use Rattle.id_rule.specs.Changes.{view_after_load, part_with_receipt, pushing_view}
use Rattle.id_rule.specs.Phases.{Range, Phase, vacant, reserved, free, locked, ended, taken, retired, slot_word, IsPart, IsSound}
use Rattle.id_rule.specs.Rule.{HasInHand, IsChained, IsTold, IsInformed, IsSlot, IsKept}
use Rattle.id_rule.specs.Steps.{Mine, IsPush}
use Rattle.id_rule.specs.declared.view.Queued.{Queued}
use Rattle.id_rule.specs.declared.view.Notice.{Notice}
use Rattle.id_rule.specs.declared.view.Receipt.{Receipt}
use Rattle.id_rule.specs.declared.view.Turn.{Turn}
use Rattle.id_rule.proofs.Seats.{all_joined}
use Rattle.id_rule.proofs.Chains.{placed_else, moved, pushed}
use Rattle.id_rule.proofs.Lists.{all_map, views_after, holds_it, below_it, part_here, part_else, index_is, first_is, range_is}
use Rattle.id_rule.proofs.Receipts.{at_append, numbers_append, at_push}
use Rattle.id_rule.proofs.Reserving.{load_kept}
use Rattle.id_rule.proofs.Steps.{StepKeeps, slot_moves}
use Rattle.id_rule.specs.declared.rule.Sizes.{Sizes}
use Rattle.id_rule.specs.declared.view.Part.{Part}
use Rattle.id_rule.specs.declared.view.View.{View}
use Rattle.id_rule.proofs.Numbering.{adds_none, bumped, counts_is, counts_other, counts_own, extra, extra_at, extra_else, extra_here, extra_range, extra_slot, joins_if, noticed_more}
use Rattle.id_rule.proofs.Numbering.{noticed_new, other_number, rises_more}

-- the head of a word that was put together
pub head_is : (f r c h : ℕ) → r < 2048 → c < 8 → h < 65536 → head_in (packed_word f r c h) ≡ h
head_is f r c h a b d = omega arith

-- the seat that a place names
abbrev by_of : Place → ℕ
by_of idle = 0
by_of (in_hand by) = by
by_of (in_queue a b) = 0
by_of (on_list a b) = 0

-- the slot that a place names
abbrev slot_in : Place → ℕ
slot_in idle = 0
slot_in (in_hand by) = 0
slot_in (in_queue a b) = a
slot_in (on_list a b) = 0

module _ {T E : Type 0} (log : T → List E) (first_id : T → ℕ) (rec : E → Option Receipt) where
  -- a word that says locked is a locked slot's
  locked_face : (slot : ℕ) (ph : Phase T E) → IsSound first_id slot ph → code_in (slot_word ph) ≡ 3 → (r : Range) × (who : ℕ) × (l : Turn E) × (qs : List Queued) × (got : List Receipt)
      × (ph ≡ locked r who l qs got) × (first_in (slot_word ph) ≡ r.first) × (range_in (slot_word ph) ≡ r.size) × (head_in (slot_word ph) ≡ head_of qs)
  locked_face slot (vacant f) h e = absurd (omega arith)
  locked_face slot (reserved f r who) h e = absurd (omega arith)
  locked_face slot (free r x) h e = absurd (omega arith)
  locked_face slot (locked r who l qs got) h e = (
    r,
    who,
    l,
    qs,
    got,
    refl,
    first_is r.first r.size 3 (head_of qs) (omega (arith, h.0.1)) (omega (arith, h.0.3)) (omega arith) h.1,
    range_is r.first r.size 3 (head_of qs) (omega (arith, h.0.3)) (omega arith) h.1,
    head_is r.first r.size 3 (head_of qs) (omega (arith, h.0.3)) (omega arith) h.1,
  )
  locked_face slot (ended r x) h e = absurd (omega arith)
  locked_face slot (taken r l) h e = absurd (omega arith)
  locked_face slot (retired f) h e = absurd (omega arith)

  -- where a node goes from a pass's hands into a slot's chain, another slot's chain is as whole as it was
  whole_else : (place : ℕ → Place) (m slot other t : ℕ) (qs : List Queued) → slot ≢ other → IsWhole place slot qs → IsWhole (moved place m (in_queue other t)) slot qs
  whole_else place m slot other t qs ne all k j e = dite (ℕ_discrete k m)
      (λ same. absurd (ne (sym (ap slot_in (sym (ap (λ b. if b then in_queue other t else place k) (eq-eqb k m same)) ∙ e)))))
      (λ z. all k j (sym (ap (λ b. if b then in_queue other t else place k) (ne_eqb k m z)) ∙ e))

  -- the chain that it joins is whole with it
  whole_more : (place : ℕ → Place) (slot t : ℕ) (q : Queued) (qs : List Queued) → IsWhole place slot qs → IsWhole (moved place q.node (in_queue slot t)) slot (q ∷ qs)
  whole_more place slot t q qs all k j e = dite (ℕ_discrete k q.node)
      (λ same. inl (sym same))
      (λ z. inr (all k j (sym (ap (λ b. if b then in_queue slot t else place k) (ne_eqb k q.node z)) ∙ e)))

  -- other slots' chains stay
  chains_else : (k m id slot other t : ℕ) (place : ℕ → Place) (ws : List ℕ) (ph : Phase T E) → slot ≢ other → place m ≡ in_hand id → IsChained k place slot ws ph
      → IsChained k (moved place m (in_queue other t)) slot ws ph
  chains_else k m id slot other t place ws (vacant f) ne held c = whole_else place m slot other t [] ne c
  chains_else k m id slot other t place ws (reserved f r who) ne held c = whole_else place m slot other t [] ne c
  chains_else k m id slot other t place ws (free r x) ne held c = whole_else place m slot other t [] ne c
  chains_else k m id slot other t place ws (locked r who l qs got) ne held c =
      (c.0, placed_else place (in_queue slot) m (in_queue other t) qs (λ j e. absurd (apart j (sym held ∙ e))) c.1, whole_else place m slot other t qs ne c.2)
    where
      apart : (j : ℕ) → in_hand id ≡ in_queue slot j → ⊥
      apart j e = absurd (cc)
  chains_else k m id slot other t place ws (ended r x) ne held c = whole_else place m slot other t [] ne c
  chains_else k m id slot other t place ws (taken r l) ne held c = whole_else place m slot other t [] ne c
  chains_else k m id slot other t place ws (retired f) ne held c = whole_else place m slot other t [] ne c

  -- a chain whose head is 0 is empty
  pub empty_head : (k : ℕ) (ws : List ℕ) (qs : List Queued) → IsLinked k ws qs → head_of qs ≡ 0 → qs ≡ []
  empty_head k ws [] linked e = refl
  empty_head k ws (q ∷ qs) linked e = absurd (omega (arith, linked.0, e))

  -- taken lists stay
  listed_moved : (k m id slot t by : ℕ) (place : ℕ → Place) (ws : List ℕ) (qs : List Queued) → place m ≡ in_hand id → IsTakenList k ws place by qs
      → IsTakenList k ws (moved place m (in_queue slot t)) by qs
  listed_moved k m id slot t by place ws qs held l = (l.0, placed_else place (on_list by) m (in_queue slot t) qs (λ j e. absurd (apart j (sym held ∙ e))) l.1, whole)
    where
      apart : (j : ℕ) → in_hand id ≡ on_list by j → ⊥
      apart j e = absurd (cc)

      other : (j : ℕ) → in_queue slot t ≡ on_list by j → ⊥
      other j e = absurd (cc)

      whole : (a j : ℕ) → moved place m (in_queue slot t) a ≡ on_list by j → IsIn a qs
      whole a j e = dite (ℕ_discrete a m)
          (λ same. absurd (other j (sym (ap (λ b. if b then in_queue slot t else place a) (eq-eqb a m same)) ∙ e)))
          (λ z. l.2 a j (sym (ap (λ b. if b then in_queue slot t else place a) (ne_eqb a m z)) ∙ e))

  -- nodes stay as they are
  nodes_else : (k m node who slot t : ℕ) (place : ℕ → Place) (ws : List ℕ) → IsNonzero ws (word_at k m) → IsNode k ws node who (place node)
      → IsNode k ws node who (moved place m (in_queue slot t) node)
  nodes_else k m node who slot t place ws full h = dite (ℕ_discrete node m)
      (λ same. subst (λ b. IsNode k ws node who (if b then in_queue slot t else place node)) (sym (eq-eqb node m same)) (full.0, ap (λ (z : ℕ). get_elem? ws (word_at k z)) same ∙ full.1, full.2))
      (λ ne. subst (λ b. IsNode k ws node who (if b then in_queue slot t else place node)) (sym (ne_eqb node m ne)) h)

  -- the hand is empty after
  unhanded : (m id slot t : ℕ) (place : ℕ → Place) → ((k : ℕ) → place k ≡ in_hand id → k ≡ m) → (k : ℕ) → moved place m (in_queue slot t) k ≡ in_hand id → ⊥
  unhanded m id slot t place one k e = dite (ℕ_discrete k m)
      (λ same. apart (sym (ap (λ b. if b then in_queue slot t else place k) (eq-eqb k m same)) ∙ e))
      (λ ne. ne (one k (sym (ap (λ b. if b then in_queue slot t else place k) (ne_eqb k m ne)) ∙ e)))
    where
      apart : in_queue slot t ≡ in_hand id → ⊥
      apart z = absurd (cc)

  -- another seat's node in hand stays in hand
  from_hand : (m by slot t : ℕ) (place : ℕ → Place) (k : ℕ) → moved place m (in_queue slot t) k ≡ in_hand by → place k ≡ in_hand by
  from_hand m by slot t place k e = dite (ℕ_discrete k m)
      (λ same. absurd (apart (sym (ap (λ b. if b then in_queue slot t else place k) (eq-eqb k m same)) ∙ e)))
      (λ ne. sym (ap (λ b. if b then in_queue slot t else place k) (ne_eqb k m ne)) ∙ e)
    where
      apart : in_queue slot t ≡ in_hand by → ⊥
      apart z = absurd (cc)

  -- other seats' nodes in hand stay
  hands_moved : (k m id by slot t : ℕ) (place : ℕ → Place) (ws : List ℕ) (h : Option (ℕ × ℕ × ℕ)) → place m ≡ in_hand id → by ≢ id → HasInHand k ws place by h
      → HasInHand k ws (moved place m (in_queue slot t)) by h
  hands_moved k m id by slot t place ws None held ne a = λ z e. a z (from_hand m by slot t place z e)
  hands_moved k m id by slot t place ws (Some h) held ne a =
      (a.0, ap (λ b. if b then in_queue slot t else place h.0) (ne_eqb h.0 m (λ e. ne (ap by_of (sym a.1 ∙ ap place e ∙ held)))) ∙ a.1, a.2, a.3, λ z e. a.4 z (from_hand m by slot t place z e))

  -- more errors were queued, and those of the slot as before
  told_more : (g : History E) (sent : ℕ → ℕ) (notice : ℕ → ℕ → Notice) (slot : ℕ) (p : Phase T E) → ((x : Notice) → IsNoticed g x → IsNoticed (record g { sent = sent; notice = notice }) x)
      → IsTold log rec g slot p → IsTold log rec (record g { sent = sent; notice = notice }) slot p
  told_more g sent notice slot (vacant f) more t = t
  told_more g sent notice slot (reserved f r who) more t = t
  told_more g sent notice slot (free r x) more t = t
  told_more g sent notice slot (locked r who l qs got) more t = (
    t.0,
    t.1,
    t.2,
    t.3,
    all_map (λ q. IsNoticed g (notice_of slot r.first q)) (λ q. IsNoticed (record g { sent = sent; notice = notice }) (notice_of slot r.first q)) qs
        (λ q. more (notice_of slot r.first q)) t.4,
  )
  told_more g sent notice slot (ended r x) more t = t
  told_more g sent notice slot (taken r l) more t = t
  told_more g sent notice slot (retired f) more t = t

  -- another slot's receipts are where they were
  pub told_else : (g g' : History E) (slot : ℕ) (p : Phase T E) → ((x : Notice) → IsNoticed g x → IsNoticed g' x) → g.width ≡ g'.width → ((f a : ℕ) → g.numbered slot f a ≡ g'.numbered slot f a)
      → g.last slot ≡ g'.last slot → g.lost slot ≡ g'.lost slot → IsTold log rec g slot p → IsTold log rec g' slot p
  told_else g g' slot p more same_width numbered last lost t =
      subst (λ (z : (ℕ → ℕ → List ℕ) × (ℕ → Option (List E)) × (ℕ → List Receipt) × ℕ). IsTold log rec record
      { numbered = λ s. z.0; last = λ s. z.1; lost = λ s. z.2; ender = g.ender; sent = g'.sent; notice = g'.notice; width = z.3 } slot p)
      (λ y. ((λ f a. numbered f a y), last y, lost y, same_width y)) (told_more g g'.sent g'.notice slot p more t)

  -- other views know as much as before
  tells_more : (g : History E) (holder : ℕ → ℕ) (id by : ℕ) (new : Notice) (u : View E) → holder new.receipt.pass ≡ id → by ≢ id → IsInformed g holder by u
      → IsInformed (bumped g new) holder by u
  tells_more g holder id by new u own ne all s f = let slot = new.slot in let first = new.first in let rc = new.receipt in (
    (λ a. (all s f).0 a ∙ adds_none (holder a) by (g.numbered s f a) (extra slot first rc s f a) (λ e. extra_else slot first rc s f a (λ same. ne (sym e ∙ ap holder (sym same) ∙ own)))),
    (all s f).1,
    (all s f).2,
    (all s f).3,
  )

  -- the view that pushed knows its receipt
  tells_push : (g : History E) (holder : ℕ → ℕ) (id : ℕ) (new : Notice) (v : View E) → holder new.receipt.pass ≡ id → IsInformed g holder id v
      → IsInformed (bumped g new) holder id (pushing_view v new)
  tells_push g holder id new v own all s f = let slot = new.slot in let first = new.first in let rc = new.receipt in dite (ℕ_discrete s slot)
      (λ same. let there : part_of (pushing_view v new) s ≡ part_with_receipt (part_of v slot) first rc = ap (λ (z : ℕ). part_of (pushing_view v new) z) same
      ∙ part_here v.parts slot (part_with_receipt (part_of v slot) first rc) in
      let here : part_of v slot ≡ part_of v s = ap (part_of v) (sym same) in (
        (λ a. ap (λ (z : Part E). numbers_of a (receipts_of_range f z.receipts)) there ∙ ap (numbers_of a) (at_append f (part_of v slot).receipts ((first, rc) ∷ []))
            ∙ numbers_append a (receipts_of_range f (part_of v slot).receipts) (receipts_of_range f ((first, rc) ∷ []))
            ∙ ap₂ (λ (x y : List ℕ). x ++ y) (ap (λ (z : Part E). numbers_of a (receipts_of_range f z.receipts)) here ∙ (all s f).0 a) (extra_at slot first rc s f a same)
            ∙ joins_if (holder a) id (g.numbered s f a) (extra slot first rc s f a) (λ ne. extra_else slot first rc s f a (λ e. ne (ap holder (sym e) ∙ own)))),
        ap (λ (z : Part E). receipts_of_range f z.dropped) there ∙ ap (λ (z : Part E). receipts_of_range f z.dropped) here ∙ (all s f).1,
        (λ l h. (all s f).2 l (subst (λ (z : Part E). HasLog z.last f l) here (subst (λ (z : Part E). HasLog z.last f l) there h))),
        (λ h. (all s f).3 (subst (λ (z : Part E). HasNumber f z.destroyed) here (subst (λ (z : Part E). HasNumber f z.destroyed) there h))),
      ))
      (λ ne. let there : part_of (pushing_view v new) s ≡ part_of v s = part_else v.parts slot s (part_with_receipt (part_of v slot) first rc) ne in (
        (λ a. ap (λ (z : Part E). numbers_of a (receipts_of_range f z.receipts)) there ∙ (all s f).0 a
            ∙ adds_none (holder a) id (g.numbered s f a) (extra slot first rc s f a) (λ _. extra_slot slot first rc s f a ne)),
        ap (λ (z : Part E). receipts_of_range f z.dropped) there ∙ (all s f).1,
        (λ l h. (all s f).2 l (subst (λ (z : Part E). HasLog z.last f l) there h)),
        (λ h. (all s f).3 (subst (λ (z : Part E). HasNumber f z.destroyed) there h)),
      ))

  -- a push, which hits where the head is the one that the node names
  pub push_keeps : (sizes : Sizes) (slots id i : ℕ) (me : Mine T E) (old new node offset code number : ℕ) → i < sizes.slots → node < 65536 → offset < range_in old → code < 65536 → number ≡ me.0.sent
      → own_number me.0.numbers ≡ pass_of_node sizes.nodes node
      → me.0.hand ≡ Some (node, node_word (head_in old) offset code, number) → HasNumber (own_number me.0.numbers) me.0.numbers → code_in old ≡ 3
      → new ≡ packed_word (first_in old) (range_in old) 3 node
      → Allows (IsKept log first_id rec sizes) slots id me i (λ n. either (n == old) new n) (IsPush (step slots i old new none) me)
  push_keeps sizes slots id i me old new node offset code number low small under small_code next its_home has own_one says is s kept wide at _ =
      let few_offsets : offset < 2048 = omega (arith, under) in
      let n = sizes.slots in let place = kept.place in let g : History E = kept.history in
      let rc : Receipt = record { pass = own_number me.0.numbers; number = number } in
      let q : Queued = record { node = node; offset = offset; code = code; receipt = rc } in
      let k = kept.at.1 i (subst (λ (z : ℕ). i < z) (sym kept.at.0) low) in
      let found : slice_index s.words i ≡ slot_word k.0 = index_is s.words i (slot_word k.0) k.1.word in
      let tells = IsPush (step slots i old new none) me in
      exchanged (slice_index s.words i) old new (StepKeeps log first_id rec sizes s i id me tells)
      (λ hit.
      let word : slot_word k.0 ≡ old = sym found ∙ hit in
      let lf = locked_face i k.0 k.1.sound (ap code_in word ∙ says) in
      let r : Range = lf.0 in let who : ℕ = lf.1 in let l : Turn E = lf.2 in let qs : List Queued = lf.3 in let got : List Receipt = lf.4 in
      let first : first_in old ≡ r.first = sym (ap first_in word) ∙ lf.6 in
      let size : range_in old ≡ r.size = sym (ap range_in word) ∙ lf.7 in
      let head : head_in old ≡ head_of qs = sym (ap head_in word) ∙ lf.8 in
      let ok : IsSlot log first_id rec n place i s.words s.homes s.views (locked r who l qs got) = subst (IsSlot log first_id rec n place i s.words s.homes s.views) lf.5 k.1 in
      let told : IsTold log rec g i (locked r who l qs got) = subst (λ p. IsTold log rec g i p) lf.5 k.2 in
      let mine : HasInHand n s.words place id (Some (node, node_word (head_in old) offset code, number)) = subst (HasInHand n s.words place id) has (kept.hands id me.0 at) in
      let own : kept.at.2.holder rc.pass ≡ id = holds_it rc.pass kept.at.2.count id kept.at.2.holder me.0.numbers own_one (kept.at.2.each id me.0 at).1 in
      let low_number : rc.pass < kept.at.2.count = below_it rc.pass kept.at.2.count id kept.at.2.holder me.0.numbers own_one (kept.at.2.each id me.0 at).1 in
      let mine_sent : me.0.sent ≡ g.sent rc.pass = counts_is g.sent me.0.numbers me.0.sent own_one (kept.sents id me.0 at) in
      let to : Place = in_queue i (length qs) in
      let place' : ℕ → Place = moved place node to in
      let new_one : Notice = notice_of i r.first q in
      let g' : History E = bumped g new_one in
      let joined = pushed n i id s.words place q qs mine.0 mine.1 (mine.2 ∙ ap (λ (z : ℕ). some (node_word z offset code)) head) mine.3 ok.chain.1 ok.chain.0 in
      let ph : Phase T E = locked r who l (q ∷ qs) got in
      let w : View E = pushing_view me.0 new_one in
      let none_ended : (slot f : ℕ) (l : List E) → g.last slot f ≡ Some l → (a : ℕ) → extra i r.first rc slot f a ≡ [] = λ slot f l e a. dite (ℕ_discrete slot i)
      (λ same. ap (λ (z : ℕ). extra i r.first rc z f a) same ∙ extra_range i r.first rc f a (λ y. none-some l (sym told.2.0 ∙ ap₂ g.last (sym same) (sym y) ∙ e)))
      (λ ne. extra_slot i r.first rc slot f a ne) in
      let goal = slot_moves log first_id rec sizes s i new id me.0 w s.homes (locked r who l qs got) ph place' g' kept at ok low refl (λ _ _. refl) ok.home_is
      (is ∙ ap₂ (λ a b. packed_word a b 3 node) first size) (ok.sound.0, small, ((subst (λ (z : ℕ). offset < z) size under, small_code), ok.sound.2), λ _. omega arith) ok.seated
      (λ by p ne f. record { spot = f.spot; hold = f.hold; owner = f.owner; knows = f.knows; turn = f.turn; taking = f.taking; ended_below = f.ended_below; got = f.got })
      (let f = ok.fits id me.0 at in subst (IsPart log ph id) (sym (part_here me.0.parts i (part_with_receipt (part_of me.0 i) r.first rc))) record
      { spot = f.spot; hold = f.hold; owner = f.owner; knows = f.knows; turn = f.turn; taking = f.taking; ended_below = f.ended_below; got = f.got })
      (λ slot ne. part_else me.0.parts i slot (part_with_receipt (part_of me.0 i) r.first rc) ne) refl refl
      (joined.1, joined.0, whole_more place i (length qs) q qs ok.chain.2) (λ slot p ne c. chains_else n node id slot i (length qs) place s.words p ne mine.1 c) (
        at_push (g.numbered i r.first) (g'.numbered i r.first) (receipts_in rec l.log) got q qs told.0 (λ a. ap (λ z. g.numbered i r.first a ++ z) (extra_here i r.first rc a)),
        (λ f more. ((λ a. ap₂ (λ (x y : List ℕ). x ++ y) ((told.1 f more).0 a) (extra_range i r.first rc f a (λ e. omega (arith, e, more)))), (told.1 f more).1)),
        told.2,
        (its_home ∙ ap (λ (z : ℕ). pass_of_node z node) (sym kept.wide), told.3),
        (
          noticed_new g new_one (next ∙ mine_sent),
          all_map (λ x. IsNoticed g (notice_of i r.first x)) (λ x. IsNoticed g' (notice_of i r.first x)) qs (λ x. noticed_more g new_one (notice_of i r.first x) (next ∙ mine_sent)) told.4,
        ),
      )
      (λ slot p ne t. told_else g g' slot p (λ x. noticed_more g new_one x (next ∙ mine_sent)) refl
      (λ f a. sym (ap (λ y. g.numbered slot f a ++ y) (extra_slot i r.first rc slot f a ne) ∙ append-nil (g.numbered slot f a))) refl refl t)
      (λ slot f l e. subst (λ (z : ℕ → List ℕ). AreSettled z (receipts_in rec l) (g.lost slot f))
      (λ z a. (sym (ap (λ y. g.numbered slot f a ++ y) (none_ended slot f l e a) ∙ append-nil (g.numbered slot f a))) z) (kept.over slot f l e))
      (λ m. dite (ℕ_discrete m node) (λ e. subst (λ b. IsPlaced (length s.views) (if b then to else place m)) (sym (eq-eqb m node e)) tt)
      (λ ne. subst (λ b. IsPlaced (length s.views) (if b then to else place m)) (sym (ne_eqb m node ne)) (kept.placed m)))
      (λ m more. dite (ℕ_discrete m node) (λ e. absurd (held_idle (sym mine.1 ∙ kept.beyond node (subst (λ (z : ℕ). sizes.passes * sizes.nodes < z) e more))))
      (λ ne. ap (λ b. if b then to else place m) (ne_eqb m node ne) ∙ kept.beyond m more))
      refl (λ s f a. rises_more g new_one s f a (next ∙ mine_sent) (kept.rise s f a))
      (λ a more. ap (λ (b : Bool). if b then g.sent a + 1 else g.sent a) (ne_eqb a rc.pass (λ e. omega (arith, e, more, low_number))) ∙ kept.unsent a more)
      (views_after s.views id w (λ _ u. HasSent g'.sent u.numbers u.sent) (counts_own g.sent rc.pass me.0.numbers me.0.sent refl own_one (kept.sents id me.0 at))
      (λ by u ne e. counts_other g.sent rc.pass u.numbers u.sent (λ z. other_number kept.at.2.count by kept.at.2.holder rc.pass u.numbers z (kept.at.2.each by u e).1 (λ y. ne (sym y ∙ own)))
      (kept.sents by u e)))
      (λ slot f. ((kept.news slot f).0, λ a more. ap₂ (λ (x y : List ℕ). x ++ y) ((kept.news slot f).1 a more) (extra_else i r.first rc slot f a (λ e. omega (arith, e, more, low_number)))))
      (views_after s.views id w (λ by u. HasInHand n s.words place' by u.hand) (unhanded node id i (length qs) place mine.4)
      (λ by u ne e. hands_moved n node id by i (length qs) place s.words u.hand mine.1 ne (kept.hands by u e)))
      (λ by u e. let l = views_after s.views id w (λ by u. IsTakenList n s.words place by u.taken) (kept.lists id me.0 at) (λ by u ne e. kept.lists by u e) by u e in
      listed_moved n node id i (length qs) by place s.words u.taken mine.1 l)
      (views_after s.views id w (IsInformed g' kept.at.2.holder) (tells_push g kept.at.2.holder id new_one me.0 own (kept.tells id me.0 at))
      (λ by u ne e. tells_more g kept.at.2.holder id by new_one u own ne (kept.tells by u e)))
      (views_after s.views id w (λ _ u. AreAll (IsNoticed g') u.notices)
      (all_joined (IsNoticed g') me.0.notices (new_one ∷ []) (all_map (IsNoticed g) (IsNoticed g') me.0.notices (λ x. noticed_more g new_one x (next ∙ mine_sent)) (kept.noticed id me.0 at))
      (noticed_new g new_one (next ∙ mine_sent), tt))
      (λ by u ne e. all_map (IsNoticed g) (IsNoticed g') u.notices (λ x. noticed_more g new_one x (next ∙ mine_sent)) (kept.noticed by u e)))
      (λ a one few. nodes_else n node a (kept.at.2.holder (pass_of_node sizes.nodes a)) i (length qs) place s.words (node_word (head_in old) offset code, mine.2, omega arith)
      (kept.nodes a one few)) in (
        w,
        keeps,
        tt,
        goal,
        (
          (λ _ h e. let same = same_Some (node, node_word (head_in old) offset code, number) h (sym has ∙ e) in
              let offset_is : offset ≡ offset_in (node_word (head_in old) offset code) = omega (arith, few_offsets, small_code) in
              let code_is : code ≡ error_in (node_word (head_in old) offset code) = omega (arith, few_offsets, small_code) in
              (λ z. (
                pushing_view me.0 record {
                  slot = i;
                  first = sym first z;
                  offset = (offset_is ∙ ap (λ (t : ℕ × ℕ × ℕ). offset_in t.1) same) z;
                  code = (code_is ∙ ap (λ (t : ℕ × ℕ × ℕ). error_in t.1) same) z;
                  receipt = record { pass = own_number me.0.numbers; number = ap (λ (t : ℕ × ℕ × ℕ). t.2) same z };
                },
                me.1,
              ))),
          λ miss. absurd (miss hit),
        ),
      ))
      (λ miss. (view_after_load me.0 i (slice_index s.words i), keeps, tt, load_kept log first_id rec sizes s i id me.0 kept at low, ((λ hit. absurd (miss hit)), λ _. refl)))
    where
      held_idle : in_hand id ≡ idle → ⊥
      held_idle e = absurd (cc)
