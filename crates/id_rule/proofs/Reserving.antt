-- Loads, reserving and giving up keep the rule.
use Rattle.std.proofs.Common.{true, true≢false, ◌≡◌, ◌≢◌, ℕ, ◌+◌, ◌^◌, ◌<◌, ◌≤◌, eq-eqb, ne_eqb, List, [], ◌∷◌, ◌++◌, set, refl, sym, ap}
use Rattle.std.proofs.Common.{ap₂, Bool, ◌∙◌, subst, arith, Option, Some, None}
use Rattle.std.specs.Prelude.{◌==◌, if◌then◌else◌, slice_index, max}
use mathlib.Core.Logic.{dite}
use mathlib.Core.Option.{some, none}
use native.Mathlib.Decide.{ℕ_discrete}
use lib.ListN.{get_elem?}
use Rattle.std.proofs.lemmas.Bool.Decides.{nat_tests}
use Rattle.std.proofs.lemmas.Option.{none-some, same_Some}
use prog.Atomic.{either}
use Rattle.atomic_table.specs.Table.{State, step, keeps, Allows}
use Rattle.atomic_table.proofs.Lists.{exchanged}
use Rattle.rpc_model.specs.Gone.{code_in, range_in, first_in, is_live_in}
use Rattle.id_rule.specs.Words.{packed_word, ended_below_in}
use Rattle.id_rule.specs.Nodes.{head_of}
use Rattle.id_rule.specs.Parts.{part_of, view_with}
use Rattle.id_rule.specs.Changes.{part_with_spot, part_with_ended_below, view_after_load}
use Rattle.id_rule.specs.Phases.{Phase, vacant, reserved, free, locked, ended, taken, retired, slot_word, HasEnded, IsPart, IsSound}
use Rattle.id_rule.specs.Rule.{HasInHand, IsTold, IsSlot, IsKept}
use Rattle.id_rule.specs.Steps.{Mine, IsLook, IsReserving, IsGivingUp}
use Rattle.id_rule.proofs.Accounts.{accounted_after}
use Rattle.id_rule.proofs.Lists.{there_below, index_is, code_is, first_is, range_is}
use Rattle.id_rule.proofs.Steps.{slot_steps, StepKeeps}
use Rattle.id_rule.specs.declared.view.Receipt.{Receipt}
use Rattle.id_rule.specs.declared.rule.Sizes.{Sizes}
use Rattle.id_rule.specs.declared.view.Part.{Part}
use Rattle.id_rule.specs.declared.view.View.{View}

module _ {T E : Type 0} (log : T → List E) (first_id : T → ℕ) (rec : E → Option Receipt) where
  abbrev St : Type 0
  St = State (Option T) (View E)

  -- a slot's word is below 2^62
  face_small : (slot : ℕ) (ph : Phase T E) → IsSound first_id slot ph → slot_word ph < 2 ^ 62
  face_small slot (vacant f) h = omega arith
  face_small slot (reserved f r who) h = omega arith
  face_small slot (free r x) h = omega arith
  face_small slot (locked r who l qs got) h = omega arith
  face_small slot (ended r x) h = omega arith
  face_small slot (taken r l) h = omega arith
  face_small slot (retired f) h = omega arith

  -- what has ended isn't live
  not_live : (slot : ℕ) (ph : Phase T E) (g v : ℕ) → IsSound first_id slot ph → HasEnded ph g → is_live_in (slot_word ph) v ≡ true → g ≤ v
  not_live slot (vacant f) g v h e live = absurd (true≢false (sym live ∙ grind (arith, nat_tests)))
  not_live slot (reserved f r who) g v h e live = absurd (true≢false (sym live ∙ grind (arith, nat_tests)))
  not_live slot (free r x) g v h e live = grind (arith, nat_tests)
  not_live slot (locked r who l qs got) g v h e live = grind (arith, nat_tests)
  not_live slot (ended r x) g v h e live = absurd (true≢false (sym live ∙ grind (arith, nat_tests)))
  not_live slot (taken r l) g v h e live = absurd (true≢false (sym live ∙ grind (arith, nat_tests)))
  not_live slot (retired f) g v h e live = absurd (true≢false (sym live ∙ grind (arith, nat_tests)))

  -- what a word shows ended that is neither ended nor retired
  plain_gone : (n : ℕ) → code_in n ≢ 4 → code_in n ≢ 5 → ended_below_in n ≡ first_in n
  plain_gone n a b = ap (λ (c : Bool). if c then first_in n + range_in n else (if code_in n == 5 then 4294967296 else first_in n)) (ne_eqb (code_in n) 4 a)
      ∙ ap (λ (c : Bool). if c then 4294967296 else first_in n) (ne_eqb (code_in n) 5 b)

  -- what an ended word shows ended
  ended_gone : (n : ℕ) → code_in n ≡ 4 → ended_below_in n ≡ first_in n + range_in n
  ended_gone n a = ap (λ (c : Bool). if c then first_in n + range_in n else (if code_in n == 5 then 4294967296 else first_in n)) (eq-eqb (code_in n) 4 a)

  -- the greater of two numbers up to m is up to m
  most : (g n m : ℕ) → n ≡ m → g ≤ m → max g n ≤ m
  most g n m e low = omega (arith, e, low)

  -- a load sees which versions have ended
  pub seen_gone : (slot : ℕ) (ph : Phase T E) (g : ℕ) → IsSound first_id slot ph → HasEnded ph g → HasEnded ph (max g (ended_below_in (slot_word ph)))
  seen_gone slot (vacant f) g h e = most g (ended_below_in (packed_word f 0 0 0)) f
      (plain_gone (packed_word f 0 0 0) (λ z. omega arith) (λ z. omega arith) ∙ first_is f 0 0 0 (omega arith) (omega arith) (omega arith) (omega arith)) e
  seen_gone slot (reserved f r who) g h e = most g (ended_below_in (packed_word f r 1 0)) f
      (plain_gone (packed_word f r 1 0) (λ z. omega arith) (λ z. omega arith) ∙ first_is f r 1 0 (omega arith) (omega arith) (omega arith) (omega arith)) e
  seen_gone slot (free r x) g h e = most g (ended_below_in (packed_word r.first r.size 2 0)) r.first
      (plain_gone (packed_word r.first r.size 2 0) (λ z. omega arith) (λ z. omega arith) ∙ first_is r.first r.size 2 0 (omega (arith, h.0.1)) (omega (arith, h.0.3)) (omega arith) (omega arith)) e
  seen_gone slot (locked r who l qs got) g h e = most g (ended_below_in (packed_word r.first r.size 3 (head_of qs))) r.first
      (plain_gone (packed_word r.first r.size 3 (head_of qs)) (λ z. omega (arith, h.0.3, h.1, z)) (λ z. omega (arith, h.0.3, h.1, z))
      ∙ first_is r.first r.size 3 (head_of qs) (omega (arith, h.0.1)) (omega (arith, h.0.3)) (omega arith) h.1) e
  seen_gone slot (ended r x) g h e = most g (ended_below_in (packed_word r.first r.size 4 0)) (r.first + r.size)
      (ended_gone (packed_word r.first r.size 4 0) (code_is r.first r.size 4 0 (omega (arith, h.0.3)) (omega arith) (omega arith))
      ∙ ap₂ (λ (a b : ℕ). a + b) (first_is r.first r.size 4 0 (omega (arith, h.0.1)) (omega (arith, h.0.3)) (omega arith) (omega arith))
      (range_is r.first r.size 4 0 (omega (arith, h.0.3)) (omega arith) (omega arith))) e
  seen_gone slot (taken r l) g h e = most g (ended_below_in (packed_word r.first r.size 4 0)) (r.first + r.size)
      (ended_gone (packed_word r.first r.size 4 0) (code_is r.first r.size 4 0 (omega (arith, h.3)) (omega arith) (omega arith))
      ∙ ap₂ (λ (a b : ℕ). a + b) (first_is r.first r.size 4 0 (omega (arith, h.1)) (omega (arith, h.3)) (omega arith) (omega arith))
      (range_is r.first r.size 4 0 (omega (arith, h.3)) (omega arith) (omega arith))) e
  seen_gone slot (retired f) g h e = tt

  -- a load keeps the rule: the view has seen the word, and what it shows ended
  pub load_kept : (sizes : Sizes) (s : St) (i id : ℕ) (v : View E) → IsKept log first_id rec sizes s → get_elem? s.views id ≡ some v → i < sizes.slots
      → IsKept log first_id rec sizes record { words = set s.words i (slice_index s.words i); homes = s.homes; views = set s.views id (view_after_load v i (slice_index s.words i)) }
  load_kept sizes s i id v kept at low =
      let k = kept.at.1 i (subst (λ (z : ℕ). i < z) (sym kept.at.0) low) in
      let n : ℕ = slice_index s.words i in
      let found : n ≡ slot_word k.0 = index_is s.words i (slot_word k.0) k.1.word in
      let f = k.1.fits id v at in
      let p : Part E = part_with_ended_below (part_of v i) (max (part_of v i).ended_below (ended_below_in n)) in
      let fits : IsPart log k.0 id p = record {
        spot = f.spot;
        hold = f.hold;
        owner = f.owner;
        knows = f.knows;
        turn = f.turn;
        taking = f.taking;
        got = f.got;
        ended_below = subst (λ (z : ℕ). HasEnded k.0 (max (part_of v i).ended_below (ended_below_in z))) (sym found) (seen_gone i k.0 (part_of v i).ended_below k.1.sound f.ended_below);
      } in
      slot_steps log first_id rec sizes s i n id v (v.seen ++ (i, n) ∷ []) p s.homes k.0 k.0 kept at k.1 low refl (λ _ _. refl) k.1.home_is found k.1.sound k.1.seated
      (λ by q ne fit. fit) fits k.1.chain (refl, refl, refl, refl) k.2

  -- a load of a slot's word keeps the rule, and shows no version live that the pass has seen end
  pub look_keeps : (sizes : Sizes) (slots id i : ℕ) (me : Mine T E) → i < sizes.slots → Allows (IsKept log first_id rec sizes) slots id me i (λ n. n) (IsLook rec (step slots i 0 0 none) me)
  look_keeps sizes slots id i me low s kept wide at _ =
      let k = kept.at.1 i (subst (λ (z : ℕ). i < z) (sym kept.at.0) low) in
      let n : ℕ = slice_index s.words i in
      let found : n ≡ slot_word k.0 = index_is s.words i (slot_word k.0) k.1.word in
      let f = k.1.fits id me.0 at in (
        view_after_load me.0 i n,
        keeps,
        tt,
        load_kept sizes s i id me.0 kept at low,
        (
          refl,
          subst (λ (z : ℕ). z < 2 ^ 62) (sym found) (face_small i k.0 k.1.sound),
          (λ v live. not_live i k.0 (part_of me.0 i).ended_below v k.1.sound f.ended_below (ap (λ (z : ℕ). is_live_in z v) (sym found) ∙ live)),
          accounted_after log first_id rec sizes record { words = set s.words i n; homes = s.homes; views = s.views } id (view_after_load me.0 i n) (load_kept sizes s i id me.0 kept at low)
              (there_below s.views id me.0 at),
          (λ h has. (subst (HasInHand sizes.slots s.words kept.place id) has (kept.hands id me.0 at)).0),
        ),
      )

  -- a word that says vacant is a vacant slot's
  vacant_word : (slot : ℕ) (ph : Phase T E) → IsSound first_id slot ph → code_in (slot_word ph) ≡ 0 → ph ≡ vacant (first_in (slot_word ph))
  vacant_word slot (vacant f) h e = ap vacant (sym (first_is f 0 0 0 (omega arith) (omega arith) (omega arith) (omega arith)))
  vacant_word slot (reserved f r who) h e = absurd (omega arith)
  vacant_word slot (free r x) h e = absurd (omega arith)
  vacant_word slot (locked r who l qs got) h e = absurd (omega arith)
  vacant_word slot (ended r x) h e = absurd (omega arith)
  vacant_word slot (taken r l) h e = absurd (omega arith)
  vacant_word slot (retired f) h e = absurd (omega arith)

  -- a slot of which a pass has the Spot is reserved by its seat
  pub reserved_word : (slot : ℕ) (ph : Phase T E) (id f r : ℕ) (q : Part E) → IsPart log ph id q → q.spot ≡ Some (f, r) → ph ≡ reserved f r id
  reserved_word slot (vacant f) id g r q fit is = absurd (cc)
  reserved_word slot (reserved f k who) id g r q fit is = dite (ℕ_discrete who id)
      (λ same. let e : Some (f, k) ≡ Some (g, r) = sym (ap (λ b. if b then Some (f, k) else None) (eq-eqb who id same)) ∙ sym fit.spot
      ∙ is in let both : (f, k) ≡ (g, r) = same_Some (f, k) (g, r) e in λ z. reserved (both z).0 (both z).1 (same z))
      (λ ne. absurd (none-some (g, r) (sym (ap (λ b. if b then Some (f, k) else None) (ne_eqb who id ne)) ∙ sym fit.spot ∙ is)))
  reserved_word slot (free h x) id g r q fit is = absurd (cc)
  reserved_word slot (locked h who l qs got) id g r q fit is = absurd (cc)
  reserved_word slot (ended h x) id g r q fit is = absurd (cc)
  reserved_word slot (taken h l) id g r q fit is = absurd (cc)
  reserved_word slot (retired f) id g r q fit is = absurd (cc)

  -- vacant to reserved
  pub reserve_keeps : (sizes : Sizes) (slots id i : ℕ) (me : Mine T E) (old new f r : ℕ) → i < sizes.slots → code_in old ≡ 0 → first_in old ≡ f → 1 ≤ r → r ≤ 1024 → new ≡ packed_word f r 1 0
      → Allows (IsKept log first_id rec sizes) slots id me i (λ n. either (n == old) new n) (IsReserving (step slots i old new none) me)
  reserve_keeps sizes slots id i me old new f r low code from some_range few is s kept wide at _ =
      let k = kept.at.1 i (subst (λ (z : ℕ). i < z) (sym kept.at.0) low) in
      let n : ℕ = slice_index s.words i in
      let found : n ≡ slot_word k.0 = index_is s.words i (slot_word k.0) k.1.word in
      let tells = IsReserving (step slots i old new none) me in
      exchanged n old new (StepKeeps log first_id rec sizes s i id me tells)
      (λ hit.
      let ph : k.0 ≡ vacant f = vacant_word i k.0 k.1.sound (subst (λ (z : ℕ). code_in z ≡ 0) (sym hit ∙ found) code) ∙ ap (λ (z : ℕ). vacant (first_in z)) (sym found ∙ hit) ∙ ap vacant from in
      let ok : IsSlot log first_id rec sizes.slots kept.place i s.words s.homes s.views (vacant f) = subst (IsSlot log first_id rec sizes.slots kept.place i s.words s.homes s.views) ph k.1 in
      let fit = ok.fits id me.0 at in
      let p : Part E = part_with_spot (part_of me.0 i) (Some (f, r)) in
      let w : View E = view_with me.0 me.0.seen i p in (
        w,
        keeps,
        tt,
        slot_steps log first_id rec sizes s i new id me.0 me.0.seen p s.homes (vacant f) (reserved f r id) kept at ok low refl (λ _ _. refl) ok.home_is is (ok.sound.0, ok.sound.1, some_range, few)
            (there_below s.views id me.0 at)
            (λ by q ne was. record {
              spot = was.spot ∙ sym (ap (λ b. if b then Some (f, r) else None) (ne_eqb id by (λ e. ne (sym e))));
              hold = was.hold;
              owner = was.owner;
              knows = was.knows;
              turn = was.turn;
              taking = was.taking;
              ended_below = was.ended_below;
              got = was.got;
            })
            record {
              spot = sym (ap (λ b. if b then Some (f, r) else None) (eq-eqb id id refl));
              hold = fit.hold;
              owner = fit.owner;
              knows = fit.knows;
              turn = fit.turn;
              taking = fit.taking;
              ended_below = fit.ended_below;
              got = fit.got;
            } ok.chain (refl, refl, refl, refl) (subst (λ p. IsTold log rec kept.history i p) ph k.2),
        (
          (λ _. (
            (λ z. (view_with me.0 me.0.seen i (part_with_spot (part_of me.0 i) (Some (sym from z, sym (ap range_in is ∙ range_is f r 1 0 (omega arith) (omega arith) (omega arith)) z))), me.1)),
            fit.spot,
          )),
          λ miss. absurd (miss hit),
        ),
      )
      )
      (λ miss. (view_after_load me.0 i n, keeps, tt, load_kept sizes s i id me.0 kept at low, ((λ hit. absurd (miss hit)), λ _. refl)))

  -- reserved to vacant
  pub give_up_keeps : (sizes : Sizes) (slots id i : ℕ) (me : Mine T E) (new f r : ℕ) → i < sizes.slots → (part_of me.0 i).spot ≡ Some (f, r) → new ≡ packed_word f 0 0 0
      → Allows (IsKept log first_id rec sizes) slots id me i (λ _. new) (λ _. IsGivingUp (step slots i new 0 none) me new)
  give_up_keeps sizes slots id i me new f r low has is s kept wide at _ =
      let k = kept.at.1 i (subst (λ (z : ℕ). i < z) (sym kept.at.0) low) in
      let ph : k.0 ≡ reserved f r id = reserved_word i k.0 id f r (part_of me.0 i) (k.1.fits id me.0 at) has in
      let ok : IsSlot log first_id rec sizes.slots kept.place i s.words s.homes s.views (reserved f r id) = subst (IsSlot log first_id rec sizes.slots kept.place i s.words s.homes s.views) ph k.1
      in
      let fit = ok.fits id me.0 at in
      let p : Part E = part_with_spot (part_of me.0 i) None in (
        view_with me.0 me.0.seen i p,
        keeps,
        tt,
        slot_steps log first_id rec sizes s i new id me.0 me.0.seen p s.homes (reserved f r id) (vacant f) kept at ok low refl (λ _ _. refl) ok.home_is is (ok.sound.0, ok.sound.1) tt
            (λ by q ne was. record {
              spot = was.spot ∙ ap (λ b. if b then Some (f, r) else None) (ne_eqb id by (λ e. ne (sym e)));
              hold = was.hold;
              owner = was.owner;
              knows = was.knows;
              turn = was.turn;
              taking = was.taking;
              ended_below = was.ended_below;
              got = was.got;
            })
            record { spot = refl; hold = fit.hold; owner = fit.owner; knows = fit.knows; turn = fit.turn; taking = fit.taking; ended_below = fit.ended_below; got = fit.got } ok.chain
            (refl, refl, refl, refl) (subst (λ p. IsTold log rec kept.history i p) ph k.2),
        refl,
      )
