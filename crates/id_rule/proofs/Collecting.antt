-- The Owner's steps on its ended slot keep the rule.
use Rattle.std.proofs.Common.{⊎_elim, ◌≡◌, ◌≢◌, ℕ, ◌+◌, ◌-◌, ◌^◌, ◌<◌, ◌≤◌, List, [], ◌∷◌, ◌++◌, set, length-set, refl, sym}
use Rattle.std.proofs.Common.{ap, ap₂, ◌∙◌, subst, arith, Option, Some, None}
use Rattle.std.specs.Prelude.{slice_index}
use Rattle.std.proofs.lemmas.Option.{none-some, same_Some}
use mathlib.Core.Logic.{dite}
use mathlib.Core.Option.{some, none}
use native.Mathlib.Decide.{ℕ_discrete, dec_le}
use Rattle.atomic_table.specs.Table.{step, takes, gives, keeps, rest, Allows}
use Rattle.atomic_table.proofs.Lists.{set_else}
use Rattle.id_pool.specs.Ids.{make_id}
use Rattle.id_rule.specs.Words.{packed_word}
use Rattle.id_rule.specs.Nodes.{numbers_of, IsTakenList}
use Rattle.id_rule.specs.Receipts.{IsNoticed, History, HasSent, receipts_of_range}
use Rattle.id_rule.specs.Parts.{AreAll, HasNumber, part_of, view_with, HasLog}
use Rattle.id_rule.specs.Changes.{view_after_load, part_with_taking, part_without_taking}
use Rattle.id_rule.specs.Phases.{Range, Phase, vacant, reserved, free, locked, ended, taken, retired, slot_word, AreBefore, AreWithin, IsPart, IsSound}
use Rattle.id_rule.specs.Rule.{HasInHand, IsTold, IsInformed, IsSlot, IsKept}
use Rattle.id_rule.specs.Steps.{Mine, IsTaking, IsEmptying}
use Rattle.id_rule.specs.declared.view.Receipt.{Receipt}
use Rattle.id_rule.specs.declared.rule.Sizes.{Sizes}
use Rattle.id_rule.specs.declared.view.Known.{Known}
use Rattle.id_rule.specs.declared.view.Part.{Part}
use Rattle.id_rule.specs.declared.view.View.{View}
use Rattle.id_rule.proofs.Accounts.{accounted_after}
use Rattle.id_rule.proofs.Lists.{there_below, views_after, part_here, part_else, set_there, index_is}
use Rattle.id_rule.proofs.Logs.{learned_within, within_prefix}
use Rattle.id_rule.proofs.Reserving.{load_kept}
use Rattle.id_rule.proofs.Steps.{slot_moves, slot_steps}
use Rattle.id_rule.proofs.Lists.{yes_if, no_if}

-- the logs of a range that is over
within_before : {E : Type 0} (ks : List (Known E)) (f g : ℕ) (l : List E) → f < g → AreWithin f l ks → AreBefore g ks
within_before ks f g l less old h k e = ⊎_elim (λ t. omega (arith, less, t)) (λ t. omega (arith, less, t.0)) (old h k e)

module _ {T E : Type 0} (log : T → List E) (first_id : T → ℕ) (rec : E → Option Receipt) where
  -- the ended word of the range that the pass owns is an ended slot's
  ended_word : (slot : ℕ) (ph : Phase T E) (id : ℕ) (r : ℕ × ℕ) (q : Part E) → IsPart log ph id q → IsSound first_id slot ph → q.owner ≡ Some r → slot_word ph ≡ packed_word r.0 r.1 4 0
      → (rg : Range) × (x : T) × (ph ≡ ended rg x) × (rg.owner ≡ id) × ((rg.first, rg.size) ≡ r)
  ended_word slot (vacant g) id r q fit h has is = absurd (none-some r (sym fit.owner ∙ has))
  ended_word slot (reserved g k who) id r q fit h has is = absurd (none-some r (sym fit.owner ∙ has))
  ended_word slot (free rg x) id r q fit h has is = dite (ℕ_discrete rg.owner id)
      (λ same. let e = same_Some (rg.first, rg.size) r (sym (yes_if rg.owner id (Some (rg.first, rg.size)) None same) ∙ sym fit.owner ∙ has) in let a : rg.first ≡ r.0 = ap (λ t. t.0) e in
      let b : rg.size ≡ r.1 = ap (λ t. t.1) e in absurd (omega arith))
      (λ ne. absurd (none-some r (sym (no_if rg.owner id (Some (rg.first, rg.size)) None ne) ∙ sym fit.owner ∙ has)))
  ended_word slot (locked rg who l qs got) id r q fit h has is = dite (ℕ_discrete rg.owner id)
      (λ same. let e = same_Some (rg.first, rg.size) r (sym (yes_if rg.owner id (Some (rg.first, rg.size)) None same) ∙ sym fit.owner ∙ has) in let a : rg.first ≡ r.0 = ap (λ t. t.0) e in
      let b : rg.size ≡ r.1 = ap (λ t. t.1) e in absurd (omega arith))
      (λ ne. absurd (none-some r (sym (no_if rg.owner id (Some (rg.first, rg.size)) None ne) ∙ sym fit.owner ∙ has)))
  ended_word slot (ended rg x) id r q fit h has is = dite (ℕ_discrete rg.owner id)
      (λ same. (rg, x, refl, same, same_Some (rg.first, rg.size) r (sym (yes_if rg.owner id (Some (rg.first, rg.size)) None same) ∙ sym fit.owner ∙ has)))
      (λ ne. absurd (none-some r (sym (no_if rg.owner id (Some (rg.first, rg.size)) None ne) ∙ sym fit.owner ∙ has)))
  ended_word slot (taken rg l) id r q fit h has is = absurd (none-some r (sym fit.owner ∙ has))
  ended_word slot (retired g) id r q fit h has is = absurd (none-some r (sym fit.owner ∙ has))

  -- the view that took the slot knows the last log
  tells_take : (g : History E) (holder : ℕ → ℕ) (id slot : ℕ) (r : ℕ × ℕ) (lg : List E) (v w : View E) → part_of w slot ≡ part_with_taking (part_of v slot) r lg
      → ((s : ℕ) → s ≢ slot → part_of w s ≡ part_of v s) → g.last slot r.0 ≡ Some lg
      → IsInformed g holder id v → IsInformed g holder id w
  tells_take g holder id slot r lg v w here else_where is all s f = dite (ℕ_discrete s slot)
      (λ same. let there : part_of w s ≡ part_with_taking (part_of v s) r lg = ap (part_of w) same ∙ here ∙ ap (λ (z : ℕ). part_with_taking (part_of v z) r lg) (sym same) in (
        (λ a. ap (λ (z : Part E). numbers_of a (receipts_of_range f z.receipts)) there ∙ (all s f).0 a),
        ap (λ (z : Part E). receipts_of_range f z.dropped) there ∙ (all s f).1,
        (λ l h. ⊎_elim (λ t. ap₂ g.last same (sym t.0) ∙ is ∙ ap Some t.1) (λ t. (all s f).2 l t) (subst (λ (z : Part E). HasLog z.last f l) there h)),
        (λ h. (all s f).3 (subst (λ (z : Part E). HasNumber f z.destroyed) there h)),
      ))
      (λ ne. let there = else_where s ne in (
        (λ a. ap (λ (z : Part E). numbers_of a (receipts_of_range f z.receipts)) there ∙ (all s f).0 a),
        ap (λ (z : Part E). receipts_of_range f z.dropped) there ∙ (all s f).1,
        (λ l h. (all s f).2 l (subst (λ (z : Part E). HasLog z.last f l) there h)),
        (λ h. (all s f).3 (subst (λ (z : Part E). HasNumber f z.destroyed) there h)),
      ))

  -- the Owner's load: where the word is its range's ended word, the slot is taken
  pub take_keeps : (sizes : Sizes) (slots id i : ℕ) (me : Mine T E) (r : ℕ × ℕ) → i < sizes.slots → (part_of me.0 i).owner ≡ Some r
      → Allows (IsKept log first_id rec sizes) slots id me i (λ n. n) (IsTaking log first_id rec (step slots i 0 0 none) me)
  take_keeps sizes slots id i me r low has s kept wide at _ =
      let k = kept.at.1 i (subst (λ (z : ℕ). i < z) (sym kept.at.0) low) in
      let n : ℕ = slice_index s.words i in
      let found : n ≡ slot_word k.0 = index_is s.words i (slot_word k.0) k.1.word in
      let tells = IsTaking log first_id rec (step slots i 0 0 none) me in
      let seen : List (ℕ × ℕ) = me.0.seen ++ (i, n) ∷ [] in
      let one : (q : ℕ × ℕ) → (part_of me.0 i).owner ≡ Some q → q ≡ r = λ q e. same_Some q r (sym e ∙ has) in
      dite (ℕ_discrete n (packed_word r.0 r.1 4 0))
      (λ hit.
      let ew = ended_word i k.0 id r (part_of me.0 i) (k.1.fits id me.0 at) k.1.sound has (sym found ∙ hit) in
      let rg : Range = ew.0 in let x : T = ew.1 in let e : (rg.first, rg.size) ≡ r = ew.4 in
      let ok : IsSlot log first_id rec sizes.slots kept.place i s.words s.homes s.views (ended rg x) = subst (IsSlot log first_id rec sizes.slots kept.place i s.words s.homes s.views) ew.2 k.1 in
      let fit = ok.fits id me.0 at in
      let p : Part E = part_with_taking (part_of me.0 i) r (log x) in
      let q0 : Part E = part_with_taking (part_of me.0 i) (rg.first, rg.size) (log x) in
      let told : IsTold log rec kept.history i (ended rg x) = subst (λ p. IsTold log rec kept.history i p) ew.2 k.2 in
      let same : p ≡ q0 = ap (λ (z : ℕ × ℕ). part_with_taking (part_of me.0 i) z (log x)) (sym e) in
      let goal =
      slot_moves log first_id rec sizes s i n id me.0 (view_with me.0 seen i p) (set s.homes i none) (ended rg x) (taken rg (log x)) kept.place kept.history kept at ok low
      (length-set s.homes i none) (λ j ne. set_else s.homes i j none ne) (set_there s.homes i (some (Some x)) none ok.home_is)
      (index_is s.words i (packed_word rg.first rg.size 4 0) ok.word) ok.sound.0 ok.seated
      (λ by q ne w. record {
        spot = w.spot;
        hold = w.hold;
        owner = w.owner ∙ no_if rg.owner by (Some (rg.first, rg.size)) None (λ z. ne (sym z ∙ ew.3));
        knows = w.knows;
        turn = w.turn;
        taking = w.taking ∙ sym (no_if rg.owner by (Some (rg.first, rg.size)) None (λ z. ne (sym z ∙ ew.3)));
        ended_below = w.ended_below;
        got = w.got;
      })
      (subst (IsPart log (taken rg (log x)) id) (sym (part_here me.0.parts i p ∙ same)) record {
        spot = fit.spot;
        hold = fit.hold;
        owner = refl;
        knows = learned_within (part_of me.0 i).logs rg.first (log x) fit.knows;
        turn = fit.turn;
        taking = sym (yes_if rg.owner id (Some (rg.first, rg.size)) None ew.3);
        ended_below = omega arith;
        got = fit.got;
      })
      (λ slot ne. part_else me.0.parts i slot p ne) refl refl ok.chain (λ slot q ne t. t) told (λ slot q ne t. t) kept.over kept.placed kept.beyond refl kept.rise kept.unsent
      (views_after s.views id (view_with me.0 seen i p) (λ _ u. HasSent kept.history.sent u.numbers u.sent) (kept.sents id me.0 at) (λ by u ne t. kept.sents by u t)) kept.news
      (views_after s.views id (view_with me.0 seen i p) (λ by u. HasInHand sizes.slots s.words kept.place by u.hand) (kept.hands id me.0 at) (λ by u ne t. kept.hands by u t))
      (views_after s.views id (view_with me.0 seen i p) (λ by u. IsTakenList sizes.slots s.words kept.place by u.taken) (kept.lists id me.0 at) (λ by u ne t. kept.lists by u t))
      (views_after s.views id (view_with me.0 seen i p) (IsInformed kept.history kept.at.2.holder)
      (tells_take kept.history kept.at.2.holder id i (rg.first, rg.size) (log x) me.0 (view_with me.0 seen i p) (part_here me.0.parts i p ∙ same)
      (λ slot ne. part_else me.0.parts i slot p ne) told.0 (kept.tells id me.0 at)) (λ by u ne t. kept.tells by u t))
      (views_after s.views id (view_with me.0 seen i p) (λ _ u. AreAll (IsNoticed kept.history) u.notices) (kept.noticed id me.0 at) (λ by u ne t. kept.noticed by u t))
      kept.nodes in (
        view_with me.0 seen i p,
        takes i (Some x),
        ok.home_is,
        goal,
        (
          (λ q h. (
            (λ _. (
              x,
              (λ z. (view_with me.0 seen i (part_with_taking (part_of me.0 i) (sym (one q h) z) (log x)), (i, Some x) ∷ me.1)),
              (ok.sound.1 ∙ ap (λ (z : ℕ × ℕ). make_id i z.0) (e ∙ sym (one q h))),
              (λ l y. within_prefix (part_of me.0 i).logs rg.first (log x) l fit.knows (subst (λ (z : ℕ × ℕ). HasLog (part_of me.0 i).logs z.0 l) (one q h ∙ sym e) y)),
            )),
            λ miss. absurd (miss (hit ∙ ap (λ (z : ℕ × ℕ). packed_word z.0 z.1 4 0) (sym (one q h)))),
          )),
          accounted_after log first_id rec sizes record { words = set s.words i n; homes = set s.homes i none; views = s.views } id (view_with me.0 seen i p) goal
              (there_below s.views id me.0 at),
        ),
      ))
      (λ miss. (
        view_after_load me.0 i n,
        keeps,
        tt,
        load_kept log first_id rec sizes s i id me.0 kept at low,
        (
          (λ q h. ((λ hit. absurd (miss (hit ∙ ap (λ (z : ℕ × ℕ). packed_word z.0 z.1 4 0) (one q h)))), λ _. refl)),
          accounted_after log first_id rec sizes record { words = set s.words i n; homes = s.homes; views = s.views } id (view_after_load me.0 i n)
              (load_kept log first_id rec sizes s i id me.0 kept at low) (there_below s.views id me.0 at),
        ),
      ))

  -- who takes the slot's last value is its owner
  taken_word : (slot : ℕ) (ph : Phase T E) (id f r : ℕ) (q : Part E) → IsPart log ph id q → q.taking ≡ Some (f, r) → (rg : Range) × (l : List E) × (ph ≡ taken rg l) × (rg.owner ≡ id)
      × (rg.first ≡ f) × (rg.size ≡ r)
  taken_word slot (vacant g) id f r q fit is = absurd (none-some (f, r) (sym fit.taking ∙ is))
  taken_word slot (reserved g k who) id f r q fit is = absurd (none-some (f, r) (sym fit.taking ∙ is))
  taken_word slot (free rg x) id f r q fit is = absurd (none-some (f, r) (sym fit.taking ∙ is))
  taken_word slot (locked rg who l qs got) id f r q fit is = absurd (none-some (f, r) (sym fit.taking ∙ is))
  taken_word slot (ended rg x) id f r q fit is = absurd (none-some (f, r) (sym fit.taking ∙ is))
  taken_word slot (taken rg l) id f r q fit is = dite (ℕ_discrete rg.owner id)
      (λ same. let e = same_Some (rg.first, rg.size) (f, r) (sym (yes_if rg.owner id (Some (rg.first, rg.size)) None same) ∙ sym fit.taking ∙ is) in
      (rg, l, refl, same, ap (λ t. t.0) e, ap (λ t. t.1) e))
      (λ ne. absurd (none-some (f, r) (sym (no_if rg.owner id (Some (rg.first, rg.size)) None ne) ∙ sym fit.taking ∙ is)))
  taken_word slot (retired g) id f r q fit is = absurd (none-some (f, r) (sym fit.taking ∙ is))

  -- ended to vacant, where the seat took this slot last and emptied it
  vacate_keeps_at : (sizes : Sizes) (slots id i : ℕ) (v : View E) (c : List (ℕ × Option T)) (new f r : ℕ) → i < sizes.slots → (part_of v i).taking ≡ Some (f, r) → f + r ≤ 2 ^ 32 - 1024
      → new ≡ packed_word (f + r) 0 0 0
      → Allows (IsKept log first_id rec sizes) slots id (v, (i, None) ∷ c) i (λ _. new) (λ _. IsEmptying rec (step slots i new 0 none) (v, (i, None) ∷ c) new)
  vacate_keeps_at sizes slots id i v c new f r low has room is s kept wide at _ =
      let k = kept.at.1 i (subst (λ (z : ℕ). i < z) (sym kept.at.0) low) in
      let tw = taken_word i k.0 id f r (part_of v i) (k.1.fits id v at) has in
      let rg : Range = tw.0 in let l : List E = tw.1 in
      let a : rg.first ≡ f = tw.4 in let b : rg.size ≡ r = tw.5 in
      let ok : IsSlot log first_id rec sizes.slots kept.place i s.words s.homes s.views (taken rg l) = subst (IsSlot log first_id rec sizes.slots kept.place i s.words s.homes s.views) tw.2 k.1 in
      let fit = ok.fits id v at in
      let told : IsTold log rec kept.history i (taken rg l) = subst (λ p. IsTold log rec kept.history i p) tw.2 k.2 in
      let p : Part E = part_without_taking (part_of v i) in
      let goal = slot_steps log first_id rec sizes s i new id v v.seen p (set s.homes i (some None)) (taken rg l) (vacant (f + r)) kept at ok low (length-set s.homes i (some None))
      (λ j ne. set_else s.homes i j (some None) ne) (set_there s.homes i none (some None) ok.home_is)
      is (omega (arith, ok.sound.2, b), room) tt
      (λ by q ne w. record {
        spot = w.spot;
        hold = w.hold;
        owner = w.owner;
        knows = within_before q.logs rg.first (f + r) l (omega (arith, ok.sound.2, a, b)) w.knows;
        turn = w.turn;
        taking = w.taking ∙ no_if rg.owner by (Some (rg.first, rg.size)) None (λ z. ne (sym z ∙ tw.3));
        ended_below = omega (arith, w.ended_below, a, b);
        got = w.got;
      })
      record {
        spot = fit.spot;
        hold = fit.hold;
        owner = fit.owner;
        knows = within_before (part_of v i).logs rg.first (f + r) l (omega (arith, ok.sound.2, a, b)) fit.knows;
        turn = fit.turn;
        taking = refl;
        ended_below = omega (arith, fit.ended_below, a, b);
        got = fit.got;
      } ok.chain (refl, refl, refl, refl) (λ h less. told.1 h (omega (arith, less, a, b, ok.sound.2))) in (
        view_with v v.seen i p,
        gives,
        tt,
        goal,
        (
          refl,
          accounted_after log first_id rec sizes record { words = set s.words i new; homes = set s.homes i (some None); views = s.views } id (view_with v v.seen i p) goal
              (there_below s.views id v at),
        ),
      )

  -- ended to retired, where the seat took this slot last and emptied it
  retire_keeps_at : (sizes : Sizes) (slots id i : ℕ) (v : View E) (c : List (ℕ × Option T)) (new f r : ℕ) → i < sizes.slots → (part_of v i).taking ≡ Some (f, r) → new ≡ packed_word f 0 5 0
      → Allows (IsKept log first_id rec sizes) slots id (v, (i, None) ∷ c) i (λ _. new) (λ _. IsEmptying rec (step slots i new 0 none) (v, (i, None) ∷ c) new)
  retire_keeps_at sizes slots id i v c new f r low has is s kept wide at _ =
      let k = kept.at.1 i (subst (λ (z : ℕ). i < z) (sym kept.at.0) low) in
      let tw = taken_word i k.0 id f r (part_of v i) (k.1.fits id v at) has in
      let rg : Range = tw.0 in let l : List E = tw.1 in
      let a : rg.first ≡ f = tw.4 in let b : rg.size ≡ r = tw.5 in
      let ok : IsSlot log first_id rec sizes.slots kept.place i s.words s.homes s.views (taken rg l) = subst (IsSlot log first_id rec sizes.slots kept.place i s.words s.homes s.views) tw.2 k.1 in
      let fit = ok.fits id v at in
      let told : IsTold log rec kept.history i (taken rg l) = subst (λ p. IsTold log rec kept.history i p) tw.2 k.2 in
      let p : Part E = part_without_taking (part_of v i) in
      let goal = slot_steps log first_id rec sizes s i new id v v.seen p (set s.homes i (some None)) (taken rg l) (retired f) kept at ok low (length-set s.homes i (some None))
      (λ j ne. set_else s.homes i j (some None) ne) (set_there s.homes i none (some None) ok.home_is)
      is (omega (arith, ok.sound.0, a), omega (arith, ok.sound.1, a)) tt
      (λ by q ne w. record {
        spot = w.spot;
        hold = w.hold;
        owner = w.owner;
        knows = within_before q.logs rg.first (f + 1) l (omega (arith, a)) w.knows;
        turn = w.turn;
        taking = w.taking ∙ no_if rg.owner by (Some (rg.first, rg.size)) None (λ z. ne (sym z ∙ tw.3));
        ended_below = tt;
        got = w.got;
      })
      record {
        spot = fit.spot;
        hold = fit.hold;
        owner = fit.owner;
        knows = within_before (part_of v i).logs rg.first (f + 1) l (omega (arith, a)) fit.knows;
        turn = fit.turn;
        taking = refl;
        ended_below = tt;
        got = fit.got;
      } ok.chain (refl, refl, refl, refl) tt in (
        view_with v v.seen i p,
        gives,
        tt,
        goal,
        (
          refl,
          accounted_after log first_id rec sizes record { words = set s.words i new; homes = set s.homes i (some None); views = s.views } id (view_with v v.seen i p) goal
              (there_below s.views id v at),
        ),
      )

  -- ended to vacant keeps the rule
  pub vacate_keeps : (sizes : Sizes) (slots id i : ℕ) (me : Mine T E) (new f r : ℕ) → me.1 ≡ (i, None) ∷ rest me.1 → i < sizes.slots → (part_of me.0 i).taking ≡ Some (f, r) → f + r ≤ 2 ^ 32 - 1024
      → new ≡ packed_word (f + r) 0 0 0
      → Allows (IsKept log first_id rec sizes) slots id me i (λ _. new) (λ _. IsEmptying rec (step slots i new 0 none) me new)
  vacate_keeps sizes slots id i me new f r carried low has room is =
      subst (λ (c : List (ℕ × Option T)). Allows (IsKept log first_id rec sizes) slots id (me.0, c) i (λ _. new) (λ _. IsEmptying rec (step slots i new 0 none) (me.0, c) new)) (sym carried)
      (vacate_keeps_at sizes slots id i me.0 (rest me.1) new f r low has room is)

  -- ended to retired keeps the rule
  pub retire_keeps : (sizes : Sizes) (slots id i : ℕ) (me : Mine T E) (new f r : ℕ) → me.1 ≡ (i, None) ∷ rest me.1 → i < sizes.slots → (part_of me.0 i).taking ≡ Some (f, r)
      → new ≡ packed_word f 0 5 0
      → Allows (IsKept log first_id rec sizes) slots id me i (λ _. new) (λ _. IsEmptying rec (step slots i new 0 none) me new)
  retire_keeps sizes slots id i me new f r carried low has is =
      subst (λ (c : List (ℕ × Option T)). Allows (IsKept log first_id rec sizes) slots id (me.0, c) i (λ _. new) (λ _. IsEmptying rec (step slots i new 0 none) (me.0, c) new)) (sym carried)
      (retire_keeps_at sizes slots id i me.0 (rest me.1) new f r low has is)

  -- an ended slot goes back: the next range begins after this one, or the slot is retired where too few versions are left
  pub give_back_keeps : (sizes : Sizes) (slots id i : ℕ) (me : Mine T E) (new f r : ℕ) → me.1 ≡ (i, None) ∷ rest me.1 → i < sizes.slots → (part_of me.0 i).taking ≡ Some (f, r)
      → (f + r ≤ 4294966272 → new ≡ packed_word (f + r) 0 0 0) → (4294966272 < f + r → new ≡ packed_word f 0 5 0)
      → Allows (IsKept log first_id rec sizes) slots id me i (λ _. new) (λ _. IsEmptying rec (step slots i new 0 none) me new)
  give_back_keeps sizes slots id i me new f r carried low has fits over = dite (dec_le (f + r) 4294966272)
      (λ h. vacate_keeps sizes slots id i me new f r carried low has (omega (arith, h)) (fits h))
      (λ h. retire_keeps sizes slots id i me new f r carried low has (over (omega (arith, h))))
