-- The steps on the words of a node that is free or with the seat keep the rule.
use Rattle.std.proofs.Common.{⊎_elim, ◌≡◌, ◌≢◌, ℕ, ◌+◌, ◌*◌, ◌<◌, ◌≤◌, List, [], ◌∷◌, length, set, refl, sym, ap, ◌∙◌, subst, arith, Option, Some, None}
use Rattle.std.specs.Prelude.{slice_index}
use Rattle.std.proofs.lemmas.Option.{same_Some}
use mathlib.Core.Logic.{dite}
use mathlib.Core.Option.{some, none}
use native.Mathlib.Decide.{ℕ_discrete}
use lib.ListN.{get_elem?}
use Rattle.atomic_table.specs.Table.{State, step, keeps, Allows}
use Rattle.atomic_table.proofs.Lists.{set_else}
use Rattle.id_rule.specs.declared.view.Queued.{Queued}
use Rattle.id_rule.specs.declared.view.Receipt.{Receipt}
use Rattle.id_rule.specs.Nodes.{Place, idle, in_hand, in_queue, on_list, node_word, head_of, word_at, node_of_word, pass_of_node, IsLinked, ArePlaced, IsTakenList, IsNode}
use Rattle.id_rule.specs.Parts.{HasNumber}
use Rattle.id_rule.specs.Changes.{view_with_list, view_with_hand, view_with_seen}
use Rattle.id_rule.specs.Rule.{HasInHand, IsKept}
use Rattle.id_rule.specs.Steps.{Mine, IsFirstWrite, IsSecondWrite, IsLettingGo, IsFreeing, IsPick, IsRead}
use Rattle.id_rule.specs.declared.rule.Sizes.{Sizes}
use Rattle.id_rule.specs.declared.view.View.{View}
use Rattle.id_rule.proofs.Chains.{moved}
use Rattle.id_rule.proofs.Lists.{holds_it, set_there, index_is}
use Rattle.id_rule.proofs.Nodes.{IsOwn, moved_here, moved_else, was_there, word_else, first_else, list_apart, hands_apart, node_steps, view_notes}

-- the list without its first node
abbrev tail_of : List Queued → List Queued
tail_of [] = []
tail_of (q ∷ qs) = qs

-- the word that was stored
at_word : (k m n : ℕ) (ws : List ℕ) (a : ℕ) → get_elem? ws (word_at k m) ≡ some a → get_elem? (set ws (word_at k m + 0) n) (word_at k m) ≡ some n
at_word k m n ws a e = let same : word_at k m ≡ word_at k m + 0 = omega arith in subst (λ (z : ℕ). get_elem? (set ws z n) (word_at k m) ≡ some n) same (set_there ws (word_at k m) a n e)

-- where a node stays in hand, so do the others
in_place : (place : ℕ → Place) (m id z : ℕ) → place m ≡ in_hand id → moved place m (in_hand id) z ≡ in_hand id → place z ≡ in_hand id
in_place place m id z held e = dite (ℕ_discrete z m)
    (λ same. ap place same ∙ held)
    (λ ne. sym (moved_else place m (in_hand id) z ne) ∙ e)

-- the rest of a list whose first node is free again
module _ (k m c n : ℕ) (ws : List ℕ) (place : ℕ → Place) (id : ℕ) (some_node : 1 ≤ m) (low : c < 2) (t : ℕ) (there : place m ≡ on_list id t) where
  -- a later node of the list is another node
  none_later : (q : Queued) (j : ℕ) → j < t → place q.node ≡ on_list id j → q.node ≢ m
  none_later q j less e same = let y : t ≡ j = number (sym there ∙ ap place (sym same) ∙ e) in omega (arith, y, less)
    where
      number : on_list id t ≡ on_list id j → t ≡ j
      number z = cc

  -- the rest of the list stays placed
  placed_rest : (qs : List Queued) → length qs ≤ t → ArePlaced place (on_list id) qs → ArePlaced (moved place m idle) (on_list id) qs
  placed_rest [] less all = tt
  placed_rest (q ∷ qs) less all = (moved_else place m idle q.node (none_later q (length qs) (omega arith) all.0) ∙ all.0, placed_rest qs (omega arith) all.1)

  -- the rest of the list stays linked
  linked_rest : (qs : List Queued) → length qs ≤ t → ArePlaced place (on_list id) qs → IsLinked k ws qs → IsLinked k (set ws (word_at k m + c) n) qs
  linked_rest [] less placed all = tt
  linked_rest (q ∷ qs) less placed all =
      let ne : q.node ≢ m = none_later q (length qs) (omega arith) placed.0 in (
        all.0,
        first_else k m c n ws place idle some_node low q.node all.0 ne ∙ all.1,
        word_else k m c n ws place idle some_node low q.node 1 all.0 (omega arith) ne
            ∙ all.2,
        linked_rest qs (omega arith) placed.1 all.3,
      )

module _ {T E : Type 0} (log : T → List E) (first_id : T → ℕ) (rec : E → Option Receipt) where
  -- who holds the node in hand
  in_hand_of : (sizes : Sizes) (s : State (Option T) (View E)) (id m : ℕ) (kept : IsKept log first_id rec sizes s) → 1 ≤ m → kept.place m ≡ in_hand id → m ≤ sizes.passes * sizes.nodes
      → kept.at.2.holder (pass_of_node sizes.nodes m) ≡ id
  in_hand_of sizes s id m kept one has few = subst (IsNode sizes.slots s.words m (kept.at.2.holder (pass_of_node sizes.nodes m))) has (kept.nodes m one few)

  -- storing the first word of the node in hand keeps the rule
  pub first_write_keeps : (sizes : Sizes) (slots id i : ℕ) (me : Mine T E) (h : ℕ × ℕ × ℕ) (n : ℕ) → me.0.hand ≡ Some h → i ≡ word_at sizes.slots h.0
      → Allows (IsKept log first_id rec sizes) slots id me i (λ _. n) (λ _. IsFirstWrite (step slots i n 0 none) me n)
  first_write_keeps sizes slots id i me h n has is s kept wide at _ =
      let k = sizes.slots in let place = kept.place in let m : ℕ = h.0 in
      let mine : HasInHand k s.words place id (Some h) = subst (HasInHand k s.words place id) has (kept.hands id me.0 at) in
      let list = kept.lists id me.0 at in
      let w : View E = view_with_hand me.0 (Some (m, n, h.2)) in
      let same : word_at k m + 0 ≡ i = omega (arith, is) in
      let own : IsOwn id (place m) = subst (IsOwn id) (sym mine.1) refl in
      let to : Place = in_hand id in (
        w,
        keeps,
        tt,
        subst (λ (z : ℕ). IsKept log first_id rec sizes record { words = set s.words z n; homes = s.homes; views = set s.views id w }) same
            (node_steps log first_id rec sizes s m 0 n id me.0 w to kept at mine.0 (omega arith) own refl refl refl refl refl refl (λ far. absurd (in_range (sym mine.1 ∙ kept.beyond m far))) (
              mine.0,
              moved_here place m to m refl,
              at_word k m n s.words h.1 mine.2,
              set_else s.words (word_at k m + 0) (word_at k m + 1) n (λ e. omega arith) ∙ mine.3,
              (λ z e. mine.4 z (in_place place m id z mine.1 e)),
            )
            (list_apart k m 0 n s.words place to mine.0 (omega arith) (on_list id) me.0.taken (λ j e. apart j (sym mine.1 ∙ e)) apart list.0 list.1 list.2)
            (λ few. in_hand_of sizes s id m kept mine.0 mine.1 few)),
        λ g e. ap (λ (z : ℕ × ℕ × ℕ). (view_with_hand me.0 (Some (z.0, n, z.2)), me.1)) (same_Some h g (sym has ∙ e)),
      )
    where
      in_range : in_hand id ≡ idle → ⊥
      in_range e = absurd (cc)

      apart : (j : ℕ) → in_hand id ≡ on_list id j → ⊥
      apart j e = absurd (cc)

  -- storing the second word of the node in hand keeps the rule
  pub second_write_keeps : (sizes : Sizes) (slots id i : ℕ) (me : Mine T E) (h : ℕ × ℕ × ℕ) (n : ℕ) → me.0.hand ≡ Some h → i ≡ word_at sizes.slots h.0 + 1
      → Allows (IsKept log first_id rec sizes) slots id me i (λ _. n) (λ _. IsSecondWrite (step slots i n 0 none) me n)
  second_write_keeps sizes slots id i me h n has is s kept wide at _ =
      let k = sizes.slots in let place = kept.place in let m : ℕ = h.0 in
      let mine : HasInHand k s.words place id (Some h) = subst (HasInHand k s.words place id) has (kept.hands id me.0 at) in
      let list = kept.lists id me.0 at in
      let w : View E = view_with_hand me.0 (Some (m, h.1, n)) in
      let own : IsOwn id (place m) = subst (IsOwn id) (sym mine.1) refl in
      let to : Place = in_hand id in (
        w,
        keeps,
        tt,
        subst (λ (z : ℕ). IsKept log first_id rec sizes record { words = set s.words z n; homes = s.homes; views = set s.views id w }) (sym is)
            (node_steps log first_id rec sizes s m 1 n id me.0 w to kept at mine.0 (omega arith) own refl refl refl refl refl refl (λ far. absurd (in_range (sym mine.1 ∙ kept.beyond m far))) (
              mine.0,
              moved_here place m to m refl,
              set_else s.words (word_at k m + 1) (word_at k m) n (λ e. omega arith) ∙ mine.2,
              set_there s.words (word_at k m + 1) h.2 n mine.3,
              (λ z e. mine.4 z (in_place place m id z mine.1 e)),
            )
            (list_apart k m 1 n s.words place to mine.0 (omega arith) (on_list id) me.0.taken (λ j e. apart j (sym mine.1 ∙ e)) apart list.0 list.1 list.2)
            (λ few. in_hand_of sizes s id m kept mine.0 mine.1 few)),
        λ g e. ap (λ (z : ℕ × ℕ × ℕ). (view_with_hand me.0 (Some (z.0, z.1, n)), me.1)) (same_Some h g (sym has ∙ e)),
      )
    where
      in_range : in_hand id ≡ idle → ⊥
      in_range e = absurd (cc)

      apart : (j : ℕ) → in_hand id ≡ on_list id j → ⊥
      apart j e = absurd (cc)

  -- the node in hand is free again
  pub let_go_keeps : (sizes : Sizes) (slots id i : ℕ) (me : Mine T E) (h : ℕ × ℕ × ℕ) → me.0.hand ≡ Some h → i ≡ word_at sizes.slots h.0
      → Allows (IsKept log first_id rec sizes) slots id me i (λ _. 0) (λ _. IsLettingGo (step slots i 0 0 none) me 0)
  let_go_keeps sizes slots id i me h has is s kept wide at _ =
      let k = sizes.slots in let place = kept.place in let m : ℕ = h.0 in
      let mine : HasInHand k s.words place id (Some h) = subst (HasInHand k s.words place id) has (kept.hands id me.0 at) in
      let list = kept.lists id me.0 at in
      let w : View E = view_with_hand me.0 None in
      let same : word_at k m + 0 ≡ i = omega (arith, is) in
      let own : IsOwn id (place m) = subst (IsOwn id) (sym mine.1) refl in (
        w,
        keeps,
        tt,
        subst (λ (z : ℕ). IsKept log first_id rec sizes record { words = set s.words z 0; homes = s.homes; views = set s.views id w }) same
            (node_steps log first_id rec sizes s m 0 0 id me.0 w idle kept at mine.0 (omega arith) own tt refl refl refl refl refl (λ _. refl)
            (λ z e. let y = was_there place m idle (in_hand id) away z e in y.0 (mine.4 z y.1))
            (list_apart k m 0 0 s.words place idle mine.0 (omega arith) (on_list id) me.0.taken (λ j e. apart j (sym mine.1 ∙ e)) gone list.0 list.1 list.2)
            (λ few. (at_word k m 0 s.words h.1 mine.2, (h.2, set_else s.words (word_at k m + 0) (word_at k m + 1) 0 (λ e. omega arith) ∙ mine.3)))),
        refl,
      )
    where
      apart : (j : ℕ) → in_hand id ≡ on_list id j → ⊥
      apart j e = absurd (cc)

      gone : (j : ℕ) → idle ≡ on_list id j → ⊥
      gone j e = absurd (cc)

      away : idle ≡ in_hand id → ⊥
      away e = absurd (cc)

  -- a load of a taken node
  pub read_keeps : (sizes : Sizes) (slots id i : ℕ) (me : Mine T E) → Allows (IsKept log first_id rec sizes) slots id me i (λ n. n) (IsRead (step slots i 0 0 none) me)
  read_keeps sizes slots id i me s kept wide at _ =
      let size : sizes.slots ≡ slots = sym kept.at.0 ∙ wide in (
        me.0,
        keeps,
        tt,
        view_notes log first_id rec sizes s i id me.0 me.0 kept at refl refl refl refl refl refl refl,
        (
          refl,
          λ q qs e.
              let l : IsTakenList sizes.slots s.words kept.place id (q ∷ qs) = subst (IsTakenList sizes.slots s.words kept.place id) e (kept.lists id me.0 at) in (
                (λ is. index_is s.words i (node_word (head_of qs) q.offset q.code) (ap (get_elem? s.words) (is ∙ ap (λ (z : ℕ). word_at z q.node) (sym size)) ∙ l.0.1)),
                (λ is. index_is s.words i q.receipt.number (ap (get_elem? s.words) (is ∙ ap (λ (z : ℕ). word_at z q.node + 1) (sym size)) ∙ l.0.2)),
              ),
        ),
      )

  -- the first node of the taken list is free
  pub free_keeps : (sizes : Sizes) (slots id i : ℕ) (me : Mine T E) (q : Queued) (qs : List Queued) → me.0.taken ≡ q ∷ qs → i ≡ word_at sizes.slots q.node
      → Allows (IsKept log first_id rec sizes) slots id me i (λ _. 0) (λ _. IsFreeing (step slots i 0 0 none) me 0)
  free_keeps sizes slots id i me q qs has is s kept wide at _ =
      let k = sizes.slots in let place = kept.place in let m : ℕ = q.node in
      let list : IsTakenList k s.words place id (q ∷ qs) = subst (IsTakenList k s.words place id) has (kept.lists id me.0 at) in
      let w : View E = view_with_list me.0 qs in
      let same : word_at k m + 0 ≡ i = omega (arith, is) in
      let there : place m ≡ on_list id (length qs) = list.1.0 in
      let own : IsOwn id (place m) = subst (IsOwn id) (sym there) refl in (
        w,
        keeps,
        tt,
        subst (λ (z : ℕ). IsKept log first_id rec sizes record { words = set s.words z 0; homes = s.homes; views = set s.views id w }) same
            (node_steps log first_id rec sizes s m 0 0 id me.0 w idle kept at list.0.0 (omega arith) own tt refl refl refl refl refl (λ _. refl)
            (hands_apart k m 0 0 s.words place idle list.0.0 (omega arith) id me.0.hand (λ e. apart (length qs) (sym there ∙ e)) away (kept.hands id me.0 at)) (
              linked_rest k m 0 0 s.words place id list.0.0 (omega arith) (length qs) there qs (omega arith) list.1.1 list.0.3,
              placed_rest k m 0 0 s.words place id list.0.0 (omega arith) (length qs) there qs (omega arith) list.1.1,
              (λ a j e. let y = was_there place m idle (on_list id j) (gone j) a e in ⊎_elim (λ z. absurd (y.0 (sym z))) (λ z. z) (list.2 a j y.1)),
            )
            (λ few. (
              at_word k m 0 s.words (node_word (head_of qs) q.offset q.code) list.0.1,
              (q.receipt.number, set_else s.words (word_at k m + 0) (word_at k m + 1) 0 (λ e. omega arith) ∙ list.0.2),
            ))),
        λ a ls e. ap (λ (z : List Queued). (view_with_list me.0 (tail_of z), me.1)) (sym has ∙ e),
      )
    where
      apart : (j : ℕ) → on_list id j ≡ in_hand id → ⊥
      apart j e = absurd (cc)

      gone : (j : ℕ) → idle ≡ on_list id j → ⊥
      gone j e = absurd (cc)

      away : idle ≡ in_hand id → ⊥
      away e = absurd (cc)

  -- a node whose first word is 0 is free, or in the hand of the seat that has its number
  free_node : (k m who id : ℕ) (ws : List ℕ) (p : Place) → IsNode k ws m who p → slice_index ws (word_at k m) ≡ 0 → who ≡ id → p ≢ in_hand id
      → (p ≡ idle) × (get_elem? ws (word_at k m) ≡ some 0) × ((second : ℕ) × (get_elem? ws (word_at k m + 1) ≡ some second))
  free_node k m who id ws idle node zero_word own away = (refl, node.0, node.1)
  free_node k m who id ws (in_hand by) node zero_word own away = absurd (away (ap in_hand (sym node ∙ own)))
  free_node k m who id ws (in_queue a b) node zero_word own away = let e = index_is ws (word_at k m) node.0 node.1 in absurd (omega (arith, e, zero_word, node.2))
  free_node k m who id ws (on_list a b) node zero_word own away = let e = index_is ws (word_at k m) node.0 node.1 in absurd (omega (arith, e, zero_word, node.2))

  -- a load of one's own node, which takes it in hand where it is free
  pub pick_keeps : (sizes : Sizes) (slots id i m : ℕ) (me : Mine T E) → 1 ≤ m → m ≤ sizes.passes * sizes.nodes → i ≡ word_at sizes.slots m → HasNumber (pass_of_node sizes.nodes m) me.0.numbers
      → me.0.hand ≡ None
      → Allows (IsKept log first_id rec sizes) slots id me i (λ n. n) (IsPick (step slots i 0 0 none) me)
  pick_keeps sizes slots id i m me one few is mine empty s kept wide at _ =
      let k = sizes.slots in let place = kept.place in
      let size : k ≡ slots = sym kept.at.0 ∙ wide in
      let n : ℕ = slice_index s.words i in
      let which : node_of_word slots i ≡ m = subst (λ (z : ℕ). node_of_word z i ≡ m) size (omega (arith, is, one)) in
      let hand : HasInHand k s.words place id None = subst (HasInHand k s.words place id) empty (kept.hands id me.0 at) in
      let own : kept.at.2.holder (pass_of_node sizes.nodes m) ≡ id = holds_it (pass_of_node sizes.nodes m) kept.at.2.count id kept.at.2.holder me.0.numbers mine (kept.at.2.each id me.0 at).1 in
      let tells = IsPick (step slots i 0 0 none) me in
      dite (ℕ_discrete n 0)
      (λ hit.
      let fr = free_node k m (kept.at.2.holder (pass_of_node sizes.nodes m)) id s.words (place m) (kept.nodes m one few) (ap (slice_index s.words) (sym is) ∙ hit) own (λ e. hand m e) in
      let first : get_elem? s.words (word_at k m) ≡ some 0 = fr.1 in
      let second : ℕ = fr.2.0 in
      let w : View E = view_with_hand (view_with_seen me.0 i n) (Some (node_of_word slots i, 0, second)) in
      let w0 : View E = view_with_hand (view_with_seen me.0 i n) (Some (m, 0, second)) in
      let to : Place = in_hand id in
      let list = kept.lists id me.0 at in
      let own_it : IsOwn id (place m) = subst (IsOwn id) (sym fr.0) tt in
      let there : word_at k m + 0 ≡ i = omega (arith, is) in (
        w,
        keeps,
        tt,
        subst (λ (z : ℕ × ℕ). IsKept log first_id rec sizes record {
          words = set s.words z.0 n;
          homes = s.homes;
          views = set s.views id (view_with_hand (view_with_seen me.0 i n) (Some (z.1, 0, second)));
        }) (λ y. (there y, sym which y))
            (node_steps log first_id rec sizes s m 0 n id me.0 w0 to kept at one (omega arith) own_it refl refl refl refl refl refl (λ far. absurd (omega (arith, far, few))) (
              one,
              moved_here place m to m refl,
              at_word k m n s.words 0 first ∙ ap some hit,
              set_else s.words (word_at k m + 0) (word_at k m + 1) n (λ e. omega arith) ∙ fr.2.1,
              (λ z e. dite (ℕ_discrete z m) (λ same. same) (λ ne. absurd (hand z (sym (moved_else place m to z ne) ∙ e)))),
            )
            (list_apart k m 0 n s.words place to one (omega arith) (on_list id) me.0.taken (λ j e. gone j (sym fr.0 ∙ e)) apart list.0 list.1 list.2)
            (λ _. own)),
        ((λ _. (second, refl)), λ miss. absurd (miss hit)),
      ))
      (λ miss. (
        view_with_seen me.0 i n,
        keeps,
        tt,
        view_notes log first_id rec sizes s i id me.0 (view_with_seen me.0 i n) kept at refl refl refl refl refl refl refl,
        ((λ hit. absurd (miss hit)), λ _. refl),
      ))
    where
      apart : (j : ℕ) → in_hand id ≡ on_list id j → ⊥
      apart j e = absurd (cc)

      gone : (j : ℕ) → idle ≡ on_list id j → ⊥
      gone j e = absurd (cc)
