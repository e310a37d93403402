-- Destroying a range keeps the rule.
use Rattle.std.proofs.Common.{⊎_elim, ◌≡◌, ◌≢◌, ℕ, ◌+◌, ◌*◌, ◌<◌, List, [], ◌∷◌, ◌++◌, length, set, length-set, refl, sym}
use Rattle.std.proofs.Common.{ap, ap₂, ◌∙◌, subst, arith, Option, Some, None}
use Rattle.std.specs.Prelude.{slice_index, reverse}
use mathlib.Core.Option.{some, none}
use mathlib.Core.List.{IsPrefix}
use Rattle.atomic_table.specs.Table.{step, gives, rest, Allows}
use Rattle.atomic_table.proofs.Lists.{set_else}
use Rattle.id_pool.specs.Ids.{make_id}
use Rattle.rpc_model.specs.Gone.{range_in, first_in, head_in}
use Rattle.id_rule.specs.Words.{packed_word}
use Rattle.id_rule.specs.Nodes.{Place, head_of, receipts_of, numbers_of, pass_of_node, IsTakenList}
use Rattle.id_rule.specs.Receipts.{History, IsNoticed, HasSent, receipts_in, IsReordered, AreSettled, IsGrownWithout}
use Rattle.id_rule.specs.Parts.{part_of, AreAll}
use Rattle.id_rule.specs.Changes.{part_with_end, ending_view}
use Rattle.id_rule.specs.Phases.{Range, locked, ended, home_value, IsPart}
use Rattle.id_rule.specs.Rule.{HasInHand, IsTold, IsInformed, IsSlot, IsKept}
use Rattle.id_rule.specs.Steps.{Mine, IsEnding}
use Rattle.id_rule.specs.declared.view.Queued.{Queued}
use Rattle.id_rule.specs.declared.view.Turn.{Turn}
use Rattle.id_rule.specs.declared.view.Receipt.{Receipt}
use Rattle.id_rule.specs.declared.rule.Sizes.{Sizes}
use Rattle.id_rule.specs.declared.view.Part.{Part}
use Rattle.id_rule.specs.declared.view.View.{View}
use Rattle.id_rule.proofs.Chains.{shifted, took}
use Rattle.id_rule.proofs.Ended.{key_here, key_else, key_cases, keyed, over_with, tells_other, tells_end, over_more}
use Rattle.id_rule.proofs.Lists.{views_after, part_here, part_else, set_there, there_below, index_is, first_is, range_is}
use Rattle.id_rule.proofs.Logs.{learned_within, within_grows}
use Rattle.id_rule.proofs.Posting.{told_else, head_is}
use Rattle.id_rule.proofs.Counting.{chain_told}
use Rattle.id_rule.proofs.Receipts.{at_destroy}
use Rattle.id_rule.proofs.Steps.{slot_moves}
use Rattle.id_rule.proofs.Taking.{taken_noticed, shifted_placed, no_queue, comes_on_list, others_stand, lists_stand, nodes_stand, hands_stand}
use Rattle.id_rule.proofs.Lists.{yes_if, no_if, bare}
use Rattle.id_rule.proofs.Turns.{locked_word, same_top}

module _ {T E : Type 0} (log : T → List E) (first_id : T → ℕ) (rec : E → Option Receipt) where
  -- locked to ended, by a pass that took the slot last: the chain goes to its list
  end_keeps_at : (sizes : Sizes) (slots id i : ℕ) (v : View E) (c : List (ℕ × Option T)) (new f r : ℕ) (y : T) (out : List Receipt) → i < sizes.slots → (part_of v i).hold ≡ Some (f, r)
      → v.taken ≡ [] → v.width ≡ sizes.nodes → v.total ≡ sizes.passes * sizes.nodes → new ≡ packed_word f r 4 0
      → first_id y ≡ make_id i f → ((l : Turn E) → (part_of v i).turn ≡ Some l → IsGrownWithout rec l.log (log y) (part_of v i).got out)
      → Allows (IsKept log first_id rec sizes) slots id (v, (i, Some y) ∷ c) i (λ _. new) (IsEnding log rec (step slots i new 0 none) (v, (i, Some y) ∷ c))
  end_keeps_at sizes slots id i v c new f r y out low has empty width total is right more s kept wide at _ =
      let n = sizes.slots in let place = kept.place in let g : History E = kept.history in
      let k = kept.at.1 i (subst (λ (z : ℕ). i < z) (sym kept.at.0) low) in
      let lw = locked_word log first_id rec i k.0 id f r (part_of v i) (k.1.fits id v at) has in
      let rg : Range = lw.0 in let l0 : Turn E = lw.1 in let qs : List Queued = lw.2 in let got : List Receipt = lw.3 in
      let ok : IsSlot log first_id rec n place i s.words s.homes s.views (locked rg id l0 qs got) = subst (IsSlot log first_id rec n place i s.words s.homes s.views) lw.4 k.1 in
      let told : IsTold log rec g i (locked rg id l0 qs got) = subst (λ p. IsTold log rec g i p) lw.4 k.2 in
      let fit = ok.fits id v at in
      let gr = more l0 (fit.turn ∙ yes_if id id (Some l0) None refl) in
      let grows : IsPrefix l0.log (log y) = (gr.0, gr.1) in
      let lost : List Receipt = out ++ reverse (receipts_of qs) in
      let first : first_in new ≡ rg.first = ap first_in is ∙ first_is f r 4 0 (omega (arith, ok.sound.0.1, lw.5)) (omega (arith, ok.sound.0.3, lw.6)) (omega arith) (omega arith) ∙ sym lw.5 in
      let size : range_in new ≡ rg.size = ap range_in is ∙ range_is f r 4 0 (omega (arith, ok.sound.0.3, lw.6)) (omega arith) (omega arith) ∙ sym lw.6 in
      let p : Part E = part_with_end (part_of v i) rg.first (rg.first + rg.size) (log y) lost in
      let w : View E = ending_view v i rg.first (rg.first + rg.size) (log y) out qs in
      let g' : History E = over_with g i rg.first (log y) lost id in
      let place' : ℕ → Place = λ m. shifted i id (place m) in
      let mine : IsTakenList n s.words place id [] = subst (IsTakenList n s.words place id) empty (kept.lists id v at) in
      let found : slice_index s.words i ≡ packed_word rg.first rg.size 3 (head_of qs) = index_is s.words i (packed_word rg.first rg.size 3 (head_of qs)) ok.word in
      let over : AreSettled (g.numbered i rg.first) (receipts_in rec (log y)) lost = at_destroy rec (g.numbered i rg.first) l0.log gr.0 (log y) got out qs told.0 gr.1
      (λ a. subst (λ z. IsReordered (numbers_of a z) (numbers_of a (receipts_in rec gr.0) ++ numbers_of a out)) (fit.got ∙ yes_if id id got bare refl) (gr.2 a)) in (
        w,
        gives,
        tt,
        slot_moves log first_id rec sizes s i new id v w (set s.homes i (some (Some y))) (locked rg id l0 qs got) (ended rg y) place' g' kept at ok low (length-set s.homes i (some (Some y)))
            (λ j ne. set_else s.homes i j (some (Some y)) ne) (set_there s.homes i (home_value (locked rg id l0 qs got)) (some (Some y)) ok.home_is)
            (is ∙ ap₂ (λ a b. packed_word a b 4 0) (sym lw.5) (sym lw.6)) (ok.sound.0, right ∙ ap (make_id i) (sym lw.5)) ok.seated.0
            (λ by q ne w. record {
              spot = w.spot;
              hold = w.hold ∙ no_if id by (Some (rg.first, rg.size)) None (λ e. ne (sym e));
              owner = w.owner;
              knows = within_grows q.logs rg.first l0.log (log y) grows w.knows;
              turn = w.turn ∙ no_if id by (Some l0) None (λ e. ne (sym e));
              taking = w.taking;
              ended_below = omega (arith, w.ended_below);
              got = w.got ∙ no_if id by got bare (λ e. ne (sym e));
            })
            (subst (IsPart log (ended rg y) id) (sym (part_here v.parts i p)) record {
              spot = fit.spot;
              hold = refl;
              owner = fit.owner;
              knows = learned_within (part_of v i).logs rg.first (log y) (within_grows (part_of v i).logs rg.first l0.log (log y) grows fit.knows);
              turn = refl;
              taking = fit.taking;
              ended_below = omega arith;
              got = refl;
            })
            (λ slot ne. part_else v.parts i slot p ne) refl refl
            (λ m j e. absurd ((no_queue i id (place m) i j e).1 refl)) (λ slot q ne t. others_stand log first_id rec n i id place slot s.words q ne t) (
              key_here i rg.first (Some (log y)) g.last,
              (λ h less. let was = told.1 h less in let away : i ≡ i → h ≢ rg.first = λ _ e. omega (arith, less, e) in
                  (was.0, (key_else i rg.first (Some (log y)) g.last i h away ∙ was.1.0, key_else i rg.first lost g.lost i h away ∙ was.1.1))),
            )
            (λ slot q ne t. told_else log first_id rec g g' slot q (λ x h. h) refl (λ a b. refl) (λ z h. sym (key_else i rg.first (Some (log y)) g.last slot h (λ e. absurd (ne e))) z)
            (λ z h. sym (key_else i rg.first lost g.lost slot h (λ e. absurd (ne e))) z) t)
            (over_more g i rg.first (log y) lost id told.2 rec over kept.over)
            (λ m. shifted_placed i id (length s.views) (place m) (there_below s.views id v at) (kept.placed m)) (λ m more. ap (shifted i id) (kept.beyond m more)) refl kept.rise kept.unsent
            (views_after s.views id w (λ _ u. HasSent g.sent u.numbers u.sent) (kept.sents id v at) (λ by u ne e. kept.sents by u e))
            (λ slot h. (
              ⊎_elim (λ t. subst (λ (z : ℕ). z < length s.views) (sym (ap₂ (keyed i rg.first id g.ender) t.0 t.1 ∙ key_here i rg.first id g.ender)) (there_below s.views id v at))
                  (λ away. subst (λ (z : ℕ). z < length s.views) (sym (key_else i rg.first id g.ender slot h away)) (kept.news slot h).0) (key_cases i rg.first slot h),
              (kept.news slot h).1,
            ))
            (λ by u e. hands_stand log first_id rec n i id by place s.words u.hand
            (views_after s.views id w (λ by u. HasInHand n s.words place by u.hand) (kept.hands id v at) (λ by u ne e. kept.hands by u e) by u e))
            (views_after s.views id w (λ by u. IsTakenList n s.words place' by u.taken)
            (ok.chain.0, took i id place qs ok.chain.1, λ m j h. ⊎_elim (λ z. absurd (mine.2 m j z)) (λ z. ok.chain.2 m j z.0) (comes_on_list i id (place m) id j h))
            (λ by u ne e. let o = kept.lists by u e in (
              o.0,
              lists_stand log first_id rec i id by place u.taken o.1,
              λ m j h. ⊎_elim (λ z. o.2 m j z) (λ z. absurd (ne z.1)) (comes_on_list i id (place m) by j h),
            )))
            (views_after s.views id w (IsInformed g' kept.at.2.holder)
            (tells_end g i rg.first (log y) lost id told.2 kept.at.2.holder v w (rg.first + rg.size) (part_here v.parts i p) (λ slot ne. part_else v.parts i slot p ne) (kept.tells id v at))
            (λ by u ne e. tells_other g i rg.first (log y) lost id told.2 kept.at.2.holder by u ne (kept.tells by u e)))
            (views_after s.views id w (λ _ u. AreAll (IsNoticed g') u.notices) (taken_noticed g' i v.notices (kept.noticed id v at) qs rg.first rg.first refl told.4)
            (λ by u ne e. kept.noticed by u e))
            (λ a one few. nodes_stand log first_id rec n a (kept.at.2.holder (pass_of_node sizes.nodes a)) i id s.words (place a) (kept.nodes a one few)),
        λ x e. let same : y ≡ x = same_top log first_id rec i y x c e in (
          qs,
          out,
          ap head_in found ∙ head_is rg.first rg.size 3 (head_of qs) (omega (arith, ok.sound.0.3)) (omega arith) ok.sound.1,
          chain_told log first_id rec sizes s id i (range_in new) v rg l0 qs got kept at ok told width total size,
          (λ l h. subst (λ (z : T). IsGrownWithout rec l.log (log z) (part_of v i).got out) same (more l h)),
          (λ z. (ending_view v i (sym first z) (sym first z + sym size z) (log (same z)) out qs, c)),
        ),
      )

  -- locked to ended keeps the rule
  pub end_keeps : (sizes : Sizes) (slots id i : ℕ) (me : Mine T E) (new f r : ℕ) (y : T) (out : List Receipt) → me.1 ≡ (i, Some y) ∷ rest me.1 → i < sizes.slots
      → (part_of me.0 i).hold ≡ Some (f, r) → me.0.taken ≡ [] → me.0.width ≡ sizes.nodes → me.0.total ≡ sizes.passes * sizes.nodes → new ≡ packed_word f r 4 0
      → first_id y ≡ make_id i f → ((l : Turn E) → (part_of me.0 i).turn ≡ Some l → IsGrownWithout rec l.log (log y) (part_of me.0 i).got out)
      → Allows (IsKept log first_id rec sizes) slots id me i (λ _. new) (IsEnding log rec (step slots i new 0 none) me)
  end_keeps sizes slots id i me new f r y out carried low has empty width total is right more =
      subst (λ (c : List (ℕ × Option T)). Allows (IsKept log first_id rec sizes) slots id (me.0, c) i (λ _. new) (IsEnding log rec (step slots i new 0 none) (me.0, c))) (sym carried)
      (end_keeps_at sizes slots id i me.0 (rest me.1) new f r y out low has empty width total is right more)
