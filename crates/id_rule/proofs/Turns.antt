-- Beginning a range, locking it and unlocking it keep the rule.
use Rattle.std.proofs.Common.{◌≡◌, ◌≢◌, ℕ, ◌<◌, ◌≤◌, true, false, true≢false, length, eq-eqb, List, [], ◌∷◌, ◌++◌, set, length-set, refl, sym, ap, ap₂, ◌∙◌, subst, arith, Option, Some, None}
use Rattle.std.specs.Prelude.{◌==◌, max, slice_index}
use Rattle.std.proofs.lemmas.Option.{none-some, same_Some}
use mathlib.Core.Logic.{dite}
use mathlib.Core.Option.{some, none}
use mathlib.Core.List.{IsPrefix}
use native.Mathlib.Decide.{ℕ_discrete}
use prog.Atomic.{either}
use Rattle.atomic_table.specs.Table.{step, takes, gives, keeps, rest, Allows}
use Rattle.atomic_table.proofs.Lists.{set_else, exchanged}
use Rattle.id_pool.specs.Ids.{make_id}
use Rattle.rpc_model.specs.Gone.{code_in, range_in, first_in, head_in}
use Rattle.id_rule.specs.Words.{packed_word, ended_below_in}
use Rattle.id_rule.specs.Nodes.{numbers_of, head_of, IsWhole}
use Rattle.id_rule.specs.Receipts.{occurrences, receipts_of_range, receipts_in, IsFresh, AreWaiting, IsReordered, IsGrown}
use Rattle.id_rule.specs.Parts.{part_of, view_with, HasLog}
use Rattle.id_rule.specs.Changes.{turn_at, turn_with_waits, part_with_range, part_with_hold, part_without_hold, part_with_miss, view_after_load, view_after_miss}
use Rattle.id_rule.specs.Phases.{Range, Phase, vacant, reserved, free, locked, ended, taken, retired, slot_word, home_value, HasEnded, IsPart, IsSound}
use Rattle.id_rule.specs.Rule.{IsTold, IsSlot, IsKept}
use Rattle.id_rule.specs.Steps.{Mine, IsInstalling, IsLocking, IsUnlocking}
use Rattle.id_rule.proofs.Lists.{set_there, there_below, index_is, first_is, range_is, holds_it, yes_if, no_if, bare}
use Rattle.id_rule.proofs.Logs.{learned_within, before_within, within_grows, within_prefix}
use Rattle.id_rule.proofs.Posting.{empty_head, head_is}
use Rattle.id_rule.proofs.Receipts.{begins, at_lock, at_unlock}
use Rattle.id_rule.proofs.Reserving.{reserved_word, load_kept, seen_gone}
use Rattle.id_rule.proofs.Steps.{StepKeeps, slot_steps}
use Rattle.id_rule.specs.declared.rule.Sizes.{Sizes}
use Rattle.id_rule.specs.declared.view.Part.{Part}
use Rattle.id_rule.specs.declared.view.Turn.{Turn}
use Rattle.id_rule.specs.declared.view.View.{View}
use Rattle.id_rule.specs.declared.view.Queued.{Queued}
use Rattle.id_rule.specs.declared.view.Receipt.{Receipt}

-- a chain whose head isn't 0 has a node
some_queued : (qs : List Queued) → head_of qs ≢ 0 → 1 ≤ length qs
some_queued [] away = absurd (away refl)
some_queued (q ∷ qs) away = omega arith

module _ {T E : Type 0} (log : T → List E) (first_id : T → ℕ) (rec : E → Option Receipt) where
  -- reserved to locked, and the range begins
  pub install_keeps : (sizes : Sizes) (slots id i : ℕ) (me : Mine T E) (old new f r : ℕ) (x : T) → i < sizes.slots → receipts_in rec (log x) ≡ [] → (part_of me.0 i).spot ≡ Some (f, r)
      → old ≡ packed_word f r 1 0 → new ≡ packed_word f r 3 0
      → Allows (IsKept log first_id rec sizes) slots id me i (λ n. either (n == old) new n) (IsInstalling log (step slots i old new (some (Some x))) me)
  install_keeps sizes slots id i me old new f r x low no_receipt has was is s kept wide at _ =
      let k = kept.at.1 i (subst (λ (z : ℕ). i < z) (sym kept.at.0) low) in
      let ph : k.0 ≡ reserved f r id = reserved_word log first_id rec i k.0 id f r (part_of me.0 i) (k.1.fits id me.0 at) has in
      let ok : IsSlot log first_id rec sizes.slots kept.place i s.words s.homes s.views (reserved f r id) = subst (IsSlot log first_id rec sizes.slots kept.place i s.words s.homes s.views) ph k.1
      in
      let fit = ok.fits id me.0 at in
      let told : IsFresh kept.history i f = subst (λ p. IsTold log rec kept.history i p) ph k.2 in
      let below = there_below s.views id me.0 at in
      let n : ℕ = slice_index s.words i in
      let hit : n ≡ old = index_is s.words i (packed_word f r 1 0) ok.word ∙ sym was in
      let rg : Range = record { first = f; size = r; owner = id } in
      let p : Part E = part_with_range (part_of me.0 i) (f, r) (log x) in
      let first : first_in new ≡ f = ap first_in is ∙ first_is f r 3 0 (omega (arith, ok.sound.1)) (omega (arith, ok.sound.3)) (omega arith) (omega arith) in
      let size : range_in new ≡ r = ap range_in is ∙ range_is f r 3 0 (omega (arith, ok.sound.3)) (omega arith) (omega arith) in
      subst (StepKeeps log first_id rec sizes s i id me (IsInstalling log (step slots i old new (some (Some x))) me)) (sym (ap (λ b. either b new n) (eq-eqb n old hit))) (
        view_with me.0 me.0.seen i p,
        keeps,
        tt,
        slot_steps log first_id rec sizes s i new id me.0 me.0.seen p s.homes (reserved f r id) (locked rg id (turn_at false (log x)) [] []) kept at ok low refl (λ _ _. refl) ok.home_is is
            (ok.sound, omega arith, tt, λ e. absurd (true≢false (sym e))) (below, below)
            (λ by q ne w. record {
              spot = w.spot ∙ no_if id by (Some (f, r)) None (λ e. ne (sym e));
              hold = w.hold ∙ sym (no_if id by (Some (f, r)) None (λ e. ne (sym e)));
              owner = w.owner ∙ sym (no_if id by (Some (f, r)) None (λ e. ne (sym e)));
              knows = before_within q.logs f (log x) w.knows;
              turn = w.turn ∙ sym (no_if id by (Some (turn_at false (log x))) None (λ e. ne (sym e)));
              taking = w.taking;
              ended_below = w.ended_below;
              got = w.got ∙ sym (no_if id by bare bare (λ e. ne (sym e)));
            })
            record {
              spot = refl;
              hold = sym (yes_if id id (Some (f, r)) None refl);
              owner = sym (yes_if id id (Some (f, r)) None refl);
              knows = learned_within (part_of me.0 i).logs f (log x) (before_within (part_of me.0 i).logs f (log x) fit.knows);
              turn = sym (yes_if id id (Some (turn_at false (log x))) None refl);
              taking = fit.taking;
              ended_below = fit.ended_below;
              got = sym (yes_if id id bare bare refl);
            }
            (tt, tt, ok.chain) (refl, refl, refl, refl) (let b = begins f kept.history i (receipts_in rec (log x)) told no_receipt in (b.0, b.1, b.2, tt, tt)),
        (x, refl, (λ z. (view_with me.0 me.0.seen i (part_with_range (part_of me.0 i) (sym first z, sym size z) (log x)), me.1)), fit.hold),
      )

  -- a word that says free is a free slot's
  free_word : (slot : ℕ) (ph : Phase T E) → IsSound first_id slot ph → code_in (slot_word ph) ≡ 2 → (r : Range) × (x : T) × (ph ≡ free r x) × (first_in (slot_word ph) ≡ r.first)
      × (range_in (slot_word ph) ≡ r.size)
  free_word slot (vacant f) h e = absurd (omega arith)
  free_word slot (reserved f r who) h e = absurd (omega arith)
  free_word slot (free r x) h e = (
    r,
    x,
    refl,
    first_is r.first r.size 2 0 (omega (arith, h.0.1)) (omega (arith, h.0.3)) (omega arith) (omega arith),
    range_is r.first r.size 2 0 (omega (arith, h.0.3)) (omega arith) (omega arith),
  )
  free_word slot (locked r who l qs got) h e = absurd (omega arith)
  free_word slot (ended r x) h e = absurd (omega arith)
  free_word slot (taken r l) h e = absurd (omega arith)
  free_word slot (retired f) h e = absurd (omega arith)

  -- free to locked
  pub lock_keeps : (sizes : Sizes) (slots id i : ℕ) (me : Mine T E) (old new : ℕ) → i < sizes.slots → code_in old ≡ 2 → new ≡ packed_word (first_in old) (range_in old) 3 0
      → Allows (IsKept log first_id rec sizes) slots id me i (λ n. either (n == old) new n) (IsLocking log first_id rec (step slots i old new none) me)
  lock_keeps sizes slots id i me old new low code is s kept wide at _ =
      let k = kept.at.1 i (subst (λ (z : ℕ). i < z) (sym kept.at.0) low) in
      let n : ℕ = slice_index s.words i in
      let found : n ≡ slot_word k.0 = index_is s.words i (slot_word k.0) k.1.word in
      let tells = IsLocking log first_id rec (step slots i old new none) me in
      exchanged n old new (StepKeeps log first_id rec sizes s i id me tells)
      (λ hit.
      let word : slot_word k.0 ≡ old = sym found ∙ hit in
      let fw = free_word i k.0 k.1.sound (ap code_in word ∙ code) in
      let r : Range = fw.0 in let x : T = fw.1 in
      let first : first_in old ≡ r.first = sym (ap first_in word) ∙ fw.3 in
      let size : range_in old ≡ r.size = sym (ap range_in word) ∙ fw.4 in
      let ok : IsSlot log first_id rec sizes.slots kept.place i s.words s.homes s.views (free r x) = subst (IsSlot log first_id rec sizes.slots kept.place i s.words s.homes s.views) fw.2 k.1 in
      let fit = ok.fits id me.0 at in
      let below = there_below s.views id me.0 at in
      let told : IsTold log rec kept.history i (free r x) = subst (λ p. IsTold log rec kept.history i p) fw.2 k.2 in
      let p : Part E = part_with_hold (part_of me.0 i) (first_in old, range_in old) (log x) in
      let q0 : Part E = part_with_hold (part_of me.0 i) (r.first, r.size) (log x) in
      let same : p ≡ q0 = λ z. part_with_hold (part_of me.0 i) (first z, size z) (log x) in (
        view_with me.0 me.0.seen i p,
        takes i (Some x),
        ok.home_is,
        slot_steps log first_id rec sizes s i new id me.0 me.0.seen p (set s.homes i none) (free r x) (locked r id (turn_at true (log x)) [] []) kept at ok low (length-set s.homes i none)
            (λ j ne. set_else s.homes i j none ne) (set_there s.homes i (some (Some x)) none ok.home_is)
            (is ∙ ap₂ (λ a b. packed_word a b 3 0) first size) (ok.sound.0, omega arith, tt, λ e. absurd (true≢false (sym e))) (ok.seated, below)
            (λ by q ne w. record {
              spot = w.spot;
              hold = w.hold ∙ sym (no_if id by (Some (r.first, r.size)) None (λ e. ne (sym e)));
              owner = w.owner;
              knows = w.knows;
              turn = w.turn ∙ sym (no_if id by (Some (turn_at true (log x))) None (λ e. ne (sym e)));
              taking = w.taking;
              ended_below = w.ended_below;
              got = w.got ∙ sym (no_if id by bare bare (λ e. ne (sym e)));
            })
            (subst (IsPart log (locked r id (turn_at true (log x)) [] []) id) (sym same) record {
              spot = fit.spot;
              hold = sym (yes_if id id (Some (r.first, r.size)) None refl);
              owner = fit.owner;
              knows = learned_within (part_of me.0 i).logs r.first (log x) fit.knows;
              turn = sym (yes_if id id (Some (turn_at true (log x))) None refl);
              taking = fit.taking;
              ended_below = fit.ended_below;
              got = sym (yes_if id id bare bare refl);
            })
            (tt, tt, ok.chain) (refl, refl, refl, refl) (at_lock (kept.history.numbered i r.first) (receipts_in rec (log x)) told.0, told.1, told.2, tt, tt),
        (
          (λ _. (
            x,
            refl,
            (ok.sound.1 ∙ ap (make_id i) (sym first)),
            (λ l e. within_prefix (part_of me.0 i).logs r.first (log x) l fit.knows
                (subst (λ (z : ℕ). HasLog (part_of me.0 i).logs z l) first e)),
            fit.hold,
            (λ a own n. ap (occurrences n) (ap (λ (z : ℕ). numbers_of a (receipts_of_range z (part_of me.0 i).receipts)) first ∙ (kept.tells id me.0 at i r.first).0 a
                ∙ yes_if (kept.at.2.holder a) id (kept.history.numbered i r.first a) [] (holds_it a kept.at.2.count id kept.at.2.holder me.0.numbers own (kept.at.2.each id me.0 at).1))
                ∙ told.0 a n),
          )),
          λ miss. absurd (miss hit),
        ),
      ))
      (λ miss. (view_after_load me.0 i n, keeps, tt, load_kept log first_id rec sizes s i id me.0 kept at low, ((λ hit. absurd (miss hit)), λ _. refl)))

  -- whose view has a Hold, is the holder
  pub locked_word : (slot : ℕ) (ph : Phase T E) (id f r : ℕ) (q : Part E) → IsPart log ph id q → q.hold ≡ Some (f, r) → (rg : Range) × (l : Turn E) × (qs : List Queued) × (got : List Receipt)
      × (ph ≡ locked rg id l qs got) × (rg.first ≡ f) × (rg.size ≡ r)
  locked_word slot (vacant g) id f r q fit is = absurd (cc)
  locked_word slot (reserved g k who) id f r q fit is = absurd (cc)
  locked_word slot (free rg x) id f r q fit is = absurd (cc)
  locked_word slot (locked rg who l qs got) id f r q fit is = dite (ℕ_discrete who id)
      (λ same. let e = same_Some (rg.first, rg.size) (f, r) (sym (yes_if who id (Some (rg.first, rg.size)) None same) ∙ sym fit.hold ∙ is) in
      (rg, l, qs, got, (λ z. locked rg (same z) l qs got), ap (λ t. t.0) e, ap (λ t. t.1) e))
      (λ ne. absurd (none-some (f, r) (sym (no_if who id (Some (rg.first, rg.size)) None ne) ∙ sym fit.hold ∙ is)))
  locked_word slot (ended rg x) id f r q fit is = absurd (cc)
  locked_word slot (taken rg l) id f r q fit is = absurd (cc)
  locked_word slot (retired g) id f r q fit is = absurd (cc)

  -- what lies in the slot that was taken last
  abbrev pub top : List (ℕ × Option T) → Option T
  top [] = None
  top (t ∷ ts) = t.1

  -- two values in the slot that was taken last are the same
  pub same_top : (i : ℕ) (y x : T) (c : List (ℕ × Option T)) → (i, Some y) ∷ c ≡ (i, Some x) ∷ c → y ≡ x
  same_top i y x c e = same_Some y x (ap top e)

  -- locked without a head to free, where the seat took this slot last and a value lies in it
  unlock_keeps_at : (sizes : Sizes) (slots id i : ℕ) (v : View E) (c : List (ℕ × Option T)) (old new f r : ℕ) (y : T) → i < sizes.slots → (part_of v i).hold ≡ Some (f, r)
      → old ≡ packed_word f r 3 0 → new ≡ packed_word f r 2 0
      → first_id y ≡ make_id i f → ((l : Turn E) → (part_of v i).turn ≡ Some l → IsGrown rec l.log (log y) (part_of v i).got)
      → Allows (IsKept log first_id rec sizes) slots id (v, (i, Some y) ∷ c) i (λ n. either (n == old) new n) (IsUnlocking log (step slots i old new none) (v, (i, Some y) ∷ c))
  unlock_keeps_at sizes slots id i v c old new f r y low has was is right more s kept wide at _ =
      let me : Mine T E = (v, (i, Some y) ∷ c) in
      let k = kept.at.1 i (subst (λ (z : ℕ). i < z) (sym kept.at.0) low) in
      let lw = locked_word i k.0 id f r (part_of v i) (k.1.fits id v at) has in
      let rg : Range = lw.0 in let l0 : Turn E = lw.1 in let qs : List Queued = lw.2 in let got : List Receipt = lw.3 in
      let ok : IsSlot log first_id rec sizes.slots kept.place i s.words s.homes s.views (locked rg id l0 qs got) = subst (IsSlot log first_id rec sizes.slots kept.place i s.words s.homes s.views)
      lw.4 k.1 in
      let fit = ok.fits id v at in
      let n : ℕ = slice_index s.words i in
      let found : n ≡ packed_word rg.first rg.size 3 (head_of qs) = index_is s.words i (packed_word rg.first rg.size 3 (head_of qs)) ok.word in
      let gr = more l0 (fit.turn ∙ yes_if id id (Some l0) None refl) in
      let grows : IsPrefix l0.log (log y) = (gr.0, gr.1) in
      let told : IsTold log rec kept.history i (locked rg id l0 qs got) = subst (λ p. IsTold log rec kept.history i p) lw.4 k.2 in
      let first : first_in new ≡ f = ap first_in is ∙ first_is f r 2 0 (omega (arith, ok.sound.0.1, lw.5)) (omega (arith, ok.sound.0.3, lw.6)) (omega arith) (omega arith) in
      let p : Part E = part_without_hold (part_of v i) (first_in new) (log y) in
      let q0 : Part E = part_without_hold (part_of v i) rg.first (log y) in
      let same : p ≡ q0 = λ z. part_without_hold (part_of v i) ((first ∙ sym lw.5) z) (log y) in
      exchanged n old new (StepKeeps log first_id rec sizes s i id me (IsUnlocking log (step slots i old new none) me))
      (λ hit.
      let head : head_of qs ≡ 0 = (let e : packed_word rg.first rg.size 3 (head_of qs) ≡ packed_word f r 3 0 = sym found ∙ hit ∙ was in omega (arith, lw.5, lw.6)) in
      let none_left : qs ≡ [] = empty_head log first_id rec sizes.slots s.words qs ok.chain.0 head in (
        view_with v v.seen i p,
        gives,
        tt,
        slot_steps log first_id rec sizes s i new id v v.seen p (set s.homes i (some (Some y))) (locked rg id l0 qs got) (free rg y) kept at ok low (length-set s.homes i (some (Some y)))
            (λ j ne. set_else s.homes i j (some (Some y)) ne) (set_there s.homes i (home_value (locked rg id l0 qs got)) (some (Some y)) ok.home_is)
            (is ∙ ap₂ (λ a b. packed_word a b 2 0) (sym lw.5) (sym lw.6)) (ok.sound.0, right ∙ ap (make_id i) (sym lw.5)) ok.seated.0
            (λ by q ne w. record {
              spot = w.spot;
              hold = w.hold ∙ no_if id by (Some (rg.first, rg.size)) None (λ e. ne (sym e));
              owner = w.owner;
              knows = within_grows q.logs rg.first l0.log (log y) grows w.knows;
              turn = w.turn ∙ no_if id by (Some l0) None (λ e. ne (sym e));
              taking = w.taking;
              ended_below = w.ended_below;
              got = w.got ∙ no_if id by got bare (λ e. ne (sym e));
            })
            (subst (IsPart log (free rg y) id) (sym same) record {
              spot = fit.spot;
              hold = refl;
              owner = fit.owner;
              knows = learned_within (part_of v i).logs rg.first (log y) (within_grows (part_of v i).logs rg.first l0.log (log y) grows fit.knows);
              turn = refl;
              taking = fit.taking;
              ended_below = fit.ended_below;
              got = refl;
            })
            (subst (IsWhole kept.place i) none_left ok.chain.2) (refl, refl, refl, refl) (
              at_unlock rec (kept.history.numbered i rg.first) l0.log gr.0 (log y) got (subst (AreWaiting (kept.history.numbered i rg.first) (receipts_in rec l0.log) got) none_left told.0) gr.1
                  (λ a. subst (λ z. IsReordered (numbers_of a z) (numbers_of a (receipts_in rec gr.0))) (fit.got ∙ yes_if id id got bare refl) (gr.2 a)),
              told.1,
              told.2,
            ),
        ((λ _. refl), λ miss. absurd (miss hit)),
      ))
      (λ miss.
      let head_not : head_of qs ≢ 0 = λ z. miss (found ∙ (λ y. packed_word (lw.5 y) (lw.6 y) 3 (z y)) ∙ sym was) in
      let one : 1 ≤ length qs = some_queued qs head_not in
      let t : Turn E = record l0 { waits = true } in
      let ph : Phase T E = locked rg id t qs got in
      let is_waiting : turn_with_waits true (part_of v i).turn ≡ Some t = ap (turn_with_waits true) (fit.turn ∙ yes_if id id (Some l0) None refl) in (
        view_after_miss v i n,
        keeps,
        tt,
        slot_steps log first_id rec sizes s i n id v (v.seen ++ (i, n) ∷ []) (part_with_miss (part_of v i) n) s.homes (locked rg id l0 qs got) ph kept at ok low refl (λ _ _. refl) ok.home_is found
            (ok.sound.0, ok.sound.1, ok.sound.2, λ _. one) ok.seated
            (λ by q ne w. record {
              spot = w.spot;
              hold = w.hold;
              owner = w.owner;
              knows = w.knows;
              turn = w.turn ∙ no_if id by (Some l0) None (λ e. ne (sym e)) ∙ sym (no_if id by (Some t) None (λ e. ne (sym e)));
              taking = w.taking;
              ended_below = w.ended_below;
              got = w.got;
            })
            record {
              spot = fit.spot;
              hold = fit.hold;
              owner = fit.owner;
              knows = fit.knows;
              turn = is_waiting ∙ sym (yes_if id id (Some t) None refl);
              taking = fit.taking;
              ended_below = subst (λ (z : ℕ). HasEnded {T = T} {E = E} (locked rg id l0 qs got) (max (part_of v i).ended_below (ended_below_in z))) (sym found)
                  (seen_gone log first_id rec i (locked rg id l0 qs got) (part_of v i).ended_below ok.sound fit.ended_below);
              got = fit.got;
            }
            ok.chain (refl, refl, refl, refl) told,
        ((λ hit. absurd (miss hit)), λ _. (refl, λ z. head_not (sym (head_is rg.first rg.size 3 (head_of qs) (omega (arith, ok.sound.0.3)) (omega arith) ok.sound.1) ∙ ap head_in (sym found) ∙ z))),
      ))

  -- locked without a head to free keeps the rule
  pub unlock_keeps : (sizes : Sizes) (slots id i : ℕ) (me : Mine T E) (old new f r : ℕ) (y : T) → me.1 ≡ (i, Some y) ∷ rest me.1 → i < sizes.slots → (part_of me.0 i).hold ≡ Some (f, r)
      → old ≡ packed_word f r 3 0 → new ≡ packed_word f r 2 0
      → first_id y ≡ make_id i f → ((l : Turn E) → (part_of me.0 i).turn ≡ Some l → IsGrown rec l.log (log y) (part_of me.0 i).got)
      → Allows (IsKept log first_id rec sizes) slots id me i (λ n. either (n == old) new n) (IsUnlocking log (step slots i old new none) me)
  unlock_keeps sizes slots id i me old new f r y carried low has was is right more =
      subst (λ (c : List (ℕ × Option T)). Allows (IsKept log first_id rec sizes) slots id (me.0, c) i (λ n. either (n == old) new n) (IsUnlocking log (step slots i old new none) (me.0, c)))
      (sym carried)
      (unlock_keeps_at sizes slots id i me.0 (rest me.1) old new f r y low has was is right more)
