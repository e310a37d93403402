-- A holder's load that gives its slot back, empty, or takes it again, keeps the rule.
use Rattle.std.proofs.Common.{◌≡◌, ◌≢◌, ℕ, ◌<◌, Bool, true, false, List, ◌∷◌, length, set, length-set, refl, sym, ap, ◌∙◌, subst, Option, Some, None}
use Rattle.std.specs.Prelude.{if◌then◌else◌, slice_index}
use mathlib.Core.Option.{some, none}
use mathlib.Core.Option as maybe
use lib.ListN.{get_elem?}
use Rattle.atomic_table.specs.Table.{State, step, takes, gives, rest, Allows}
use Rattle.atomic_table.proofs.Lists.{set_else}
use Rattle.id_rule.specs.Nodes.{head_of}
use Rattle.id_rule.specs.Parts.{part_of, view_with}
use Rattle.id_rule.specs.Changes.{turn_with_out, part_with_out}
use Rattle.id_rule.specs.Phases.{Range, locked, home_value}
use Rattle.id_rule.specs.Rule.{IsTold, IsSlot, IsKept}
use Rattle.id_rule.specs.Steps.{Mine, IsLaying, IsLifting}
use Rattle.id_rule.specs.Words.{packed_word}
use Rattle.id_rule.specs.declared.rule.Sizes.{Sizes}
use Rattle.id_rule.specs.declared.view.Queued.{Queued}
use Rattle.id_rule.specs.declared.view.Receipt.{Receipt}
use Rattle.id_rule.specs.declared.view.Turn.{Turn}
use Rattle.id_rule.specs.declared.view.View.{View}
use Rattle.id_rule.proofs.Lists.{set_there, index_is, yes_if, no_if}
use Rattle.id_rule.proofs.Steps.{slot_steps}
use Rattle.id_rule.proofs.Turns.{locked_word}

module _ {T E : Type 0} (log : T → List E) (first_id : T → ℕ) (rec : E → Option Receipt) where
  -- the slot of a lock goes home, empty, or goes out
  turn_moves : (sizes : Sizes) (s : State (Option T) (View E)) (i id : ℕ) (v : View E) (rg : Range) (l : Turn E) (qs : List Queued) (got : List Receipt) (out : Bool)
      (hs' : List (maybe.Option (Option T))) (kept : IsKept log first_id rec sizes s) → get_elem? s.views id ≡ some v → i < sizes.slots
      → IsSlot log first_id rec sizes.slots kept.place i s.words s.homes s.views (locked rg id l qs got) → IsTold log rec kept.history i (locked rg id l qs got)
      → length hs' ≡ length s.homes → ((j : ℕ) → j ≢ i → get_elem? hs' j ≡ get_elem? s.homes j) → get_elem? hs' i ≡ some (if out then none else some None)
      → IsKept log first_id rec sizes record { words = set s.words i (slice_index s.words i); homes = hs'; views = set s.views id (view_with v v.seen i (part_with_out (part_of v i) out)) }
  turn_moves sizes s i id v rg l qs got out hs' kept at low ok told long away there =
      let fit = ok.fits id v at in
      let t : Turn E = record l { out = out } in
      let found : slice_index s.words i ≡ packed_word rg.first rg.size 3 (head_of qs) = index_is s.words i (packed_word rg.first rg.size 3 (head_of qs)) ok.word in
      slot_steps log first_id rec sizes s i (slice_index s.words i) id v v.seen (part_with_out (part_of v i) out) hs' (locked rg id l qs got) (locked rg id t qs got) kept at ok low
      long away there found ok.sound ok.seated
      (λ by q ne w. record {
        spot = w.spot;
        hold = w.hold;
        owner = w.owner;
        knows = w.knows;
        turn = w.turn ∙ no_if id by (Some l) None (λ e. ne (sym e)) ∙ sym (no_if id by (Some t) None (λ e. ne (sym e)));
        taking = w.taking;
        ended_below = w.ended_below;
        got = w.got;
      })
      record {
        spot = fit.spot;
        hold = fit.hold;
        owner = fit.owner;
        knows = fit.knows;
        turn = ap (turn_with_out out) (fit.turn ∙ yes_if id id (Some l) None refl) ∙ sym (yes_if id id (Some t) None refl);
        taking = fit.taking;
        ended_below = fit.ended_below;
        got = fit.got;
      }
      ok.chain (refl, refl, refl, refl) told

  -- the slot goes home, where the seat took it last and it is empty
  lay_keeps_at : (sizes : Sizes) (slots id i : ℕ) (v : View E) (c : List (ℕ × Option T)) (f r : ℕ) → i < sizes.slots → (part_of v i).hold ≡ Some (f, r)
      → Allows (IsKept log first_id rec sizes) slots id (v, (i, None) ∷ c) i (λ n. n) (IsLaying (step slots i 0 0 none) (v, (i, None) ∷ c))
  lay_keeps_at sizes slots id i v c f r low has s kept wide at _ =
      let k = kept.at.1 i (subst (λ (z : ℕ). i < z) (sym kept.at.0) low) in
      let lw = locked_word log first_id rec i k.0 id f r (part_of v i) (k.1.fits id v at) has in
      let ok : IsSlot log first_id rec sizes.slots kept.place i s.words s.homes s.views (locked lw.0 id lw.1 lw.2 lw.3) =
      subst (IsSlot log first_id rec sizes.slots kept.place i s.words s.homes s.views) lw.4 k.1 in (
        view_with v v.seen i (part_with_out (part_of v i) false),
        gives,
        tt,
        turn_moves sizes s i id v lw.0 lw.1 lw.2 lw.3 false (set s.homes i (some None)) kept at low ok (subst (λ p. IsTold log rec kept.history i p) lw.4 k.2)
            (length-set s.homes i (some None)) (λ j ne. set_else s.homes i j (some None) ne) (set_there s.homes i (home_value (locked lw.0 id lw.1 lw.2 lw.3)) (some None) ok.home_is),
        refl,
      )

  -- the slot of a lock goes home, empty
  pub lay_keeps : (sizes : Sizes) (slots id i : ℕ) (me : Mine T E) (f r : ℕ) → me.1 ≡ (i, None) ∷ rest me.1 → i < sizes.slots → (part_of me.0 i).hold ≡ Some (f, r)
      → Allows (IsKept log first_id rec sizes) slots id me i (λ n. n) (IsLaying (step slots i 0 0 none) me)
  lay_keeps sizes slots id i me f r carried low has =
      subst (λ (c : List (ℕ × Option T)). Allows (IsKept log first_id rec sizes) slots id (me.0, c) i (λ n. n) (IsLaying (step slots i 0 0 none) (me.0, c))) (sym carried)
      (lay_keeps_at sizes slots id i me.0 (rest me.1) f r low has)

  -- what lies in the slot of a lock, if it is at home
  abbrev home_of : Bool → maybe.Option (Option T)
  home_of out = if out then none else some None

  -- nothing does
  laid_home : (t : Turn E) → t.out ≡ false → home_of t.out ≡ some None
  laid_home t home = ap home_of home

  -- the slot of a lock, which is at home, goes out
  pub lift_keeps : (sizes : Sizes) (slots id i : ℕ) (me : Mine T E) (f r : ℕ) → i < sizes.slots → (part_of me.0 i).hold ≡ Some (f, r)
      → ((t : Turn E) → (part_of me.0 i).turn ≡ Some t → t.out ≡ false)
      → Allows (IsKept log first_id rec sizes) slots id me i (λ n. n) (IsLifting (step slots i 0 0 none) me)
  lift_keeps sizes slots id i me f r low has home s kept wide at _ =
      let k = kept.at.1 i (subst (λ (z : ℕ). i < z) (sym kept.at.0) low) in
      let lw = locked_word log first_id rec i k.0 id f r (part_of me.0 i) (k.1.fits id me.0 at) has in
      let ok : IsSlot log first_id rec sizes.slots kept.place i s.words s.homes s.views (locked lw.0 id lw.1 lw.2 lw.3) =
      subst (IsSlot log first_id rec sizes.slots kept.place i s.words s.homes s.views) lw.4 k.1 in
      let is_home = ok.home_is ∙ ap some (laid_home lw.1 (home lw.1 ((ok.fits id me.0 at).turn ∙ yes_if id id (Some lw.1) None refl))) in (
        view_with me.0 me.0.seen i (part_with_out (part_of me.0 i) true),
        takes i None,
        is_home,
        turn_moves sizes s i id me.0 lw.0 lw.1 lw.2 lw.3 true (set s.homes i none) kept at low ok (subst (λ p. IsTold log rec kept.history i p) lw.4 k.2)
            (length-set s.homes i none) (λ j ne. set_else s.homes i j none ne) (set_there s.homes i (some None) none is_home),
        refl,
      )
