-- What the nodes tell of the lists that they stand for.
use Rattle.std.proofs.Common.{◌≡◌, ℕ, zero, suc, ◌+◌, ◌<◌, ◌≤◌, ◌≢◌, inl, inr, List, [], ◌∷◌, ◌++◌, length, set, arith, refl, sym, ap, ◌∙◌, length-set}
use Rattle.std.proofs.lemmas.Bool.{cases_lt}
use Rattle.std.proofs.lemmas.List.{get_or_push, length_push, length-map, set-get_or}
use Rattle.std.proofs.lemmas.List.Sums.{sum_by-set, get_or-le-sum_by}
use Rattle.timer_core.specs.declared.entry.Entry.{Entry}
use Rattle.timer_core.specs.declared.links.Node.{Node}
use Rattle.timer_core.specs.declared.links.End.{End}
use Rattle.timer_core.specs.Chains.{blank_node, no_nodes, node_at, end_at, entries_from, entries_of, lists_of, list_at, least_of, rest_of, front_before, IsShifted, least_at, linked}
use Rattle.timer_core.specs.Chains.{unlinked, IsChain, depth_of, AreChained}
use Rattle.timer_core.proofs.Chained.{Agree, agree_push, least_told, list_told}
use Rattle.timer_core.proofs.Shifted.{longer, attached_lists, attached_chains}
use Rattle.timer_core.proofs.Shifted.{first_within, rest_told, cut_of, shift_room, shift_head, shift_kept, shift_lists}

-- there are as many lists as ends
pub counted : (nodes : List Node) (ends : List End) (ls : List (List Entry)) → lists_of nodes ends ≡ ls → length ends ≡ length ls
counted nodes ends ls v = sym (length-map ends (λ e. entries_of nodes e)) ∙ ap (λ (zs : List (List Entry)). length zs) v

module _ (nodes : List Node) (ends : List End) (ls : List (List Entry)) (v : lists_of nodes ends ≡ ls) (k : ℕ) where
  pub in_ends : k < length ls → k < length ends
  in_ends h = omega (arith, h, counted nodes ends ls v)

  told : list_at ls k ≡ entries_of nodes (end_at ends k)
  told = ap (λ (zs : List (List Entry)). list_at zs k) (sym v) ∙ list_told nodes ends k

  -- the first entry of a list that has one
  pub front_told : 0 < (end_at ends k).depth → list_at ls k ≡ (node_at nodes (end_at ends k).head).entry ∷ rest_of (list_at ls k)
  front_told h =
      let whole : list_at ls k ≡ (node_at nodes (end_at ends k).head).entry ∷ entries_of nodes (unlinked nodes (end_at ends k)) = told ∙ rest_told nodes (end_at ends k) h in
      whole ∙ ap (λ (es : List Entry). (node_at nodes (end_at ends k).head).entry ∷ rest_of es) (sym whole)

  pub vacant_told : (end_at ends k).depth ≡ 0 → list_at ls k ≡ []
  vacant_told h = told ∙ ap (λ d. entries_from nodes d (end_at ends k).head) h

  depth_from : (d at : ℕ) → entries_from nodes d at ≡ [] → d ≡ 0
  depth_from zero at h = refl
  depth_from (suc d) at h = absurd (cc)

  pub vacant_depth : list_at ls k ≡ [] → (end_at ends k).depth ≡ 0
  vacant_depth h = depth_from (end_at ends k).depth (end_at ends k).head (sym told ∙ h)

  pub some_depth : list_at ls k ≢ [] → 0 < (end_at ends k).depth
  some_depth h = elim (cases_lt 0 (end_at ends k).depth) [ inl l ↦ l | inr g ↦ absurd (h (vacant_told (omega (arith, g)))) ]

  pub head_within : AreChained nodes ends → k < length ends → 0 < (end_at ends k).depth → (end_at ends k).head < length nodes
  head_within kept f h = first_within nodes k (end_at ends k) h (kept.lists k f)

  pub least_is : AreChained nodes ends → k < length ends → least_at nodes (end_at ends k) ≡ least_of (list_at ls k)
  least_is kept f = least_told nodes k (end_at ends k) (kept.lists k f) ∙ ap (λ (es : List Entry). least_of es) (sym told)

  -- one more node in front of a list
  pub depth_room : AreChained nodes ends → k < length ends → (end_at ends k).depth ≤ length nodes
  depth_room kept f = let s = get_or-le-sum_by depth_of ends k no_nodes f in omega (arith, s, kept.whole)

  pushed_pairs : AreChained nodes ends → (n : Node) (j : ℕ) → j < length ends
      → IsChain nodes j (end_at ends j).depth (end_at ends j).head × Agree nodes (nodes ++ n ∷ []) (end_at ends j).depth (end_at ends j).head
  pushed_pairs kept n j h = (kept.lists j h, agree_push nodes n j (end_at ends j).depth (end_at ends j).head (kept.lists j h))

  pub push_kept : (e : Entry) → AreChained nodes ends → k < length ends → length nodes + 1 < 4294967296
      → AreChained (nodes ++ linked nodes (end_at ends k) k e ∷ []) (set ends k (longer (length nodes) (end_at ends k)))
  push_kept e kept f few =
      let n : Node = linked nodes (end_at ends k) k e in
      let long : length (nodes ++ n ∷ []) ≡ length nodes + 1 = length_push nodes n in
      let s = sum_by-set depth_of ends k (longer (length nodes) (end_at ends k)) no_nodes f in
      record {
        lists = attached_chains nodes (nodes ++ n ∷ []) ends k (length nodes) e (end_at ends k) refl (omega (arith, long)) (omega (arith, long)) f
            (get_or_push nodes n blank_node (length nodes) refl) (pushed_pairs kept n);
        whole = omega (arith, s, long, kept.whole);
        few = omega (arith, long, few);
        many = omega (arith, length-set ends k (longer (length nodes) (end_at ends k)), kept.many);
      }

  pub push_lists : (e : Entry) → AreChained nodes ends → k < length ends
      → lists_of (nodes ++ linked nodes (end_at ends k) k e ∷ []) (set ends k (longer (length nodes) (end_at ends k))) ≡ set ls k (e ∷ list_at ls k)
  push_lists e kept f =
      let n : Node = linked nodes (end_at ends k) k e in
      let long : length (nodes ++ n ∷ []) ≡ length nodes + 1 = length_push nodes n in
      attached_lists nodes (nodes ++ n ∷ []) ends k (length nodes) e (end_at ends k) refl (omega (arith, long)) (omega (arith, long)) f (get_or_push nodes n blank_node (length nodes) refl)
      (pushed_pairs kept n)
      ∙ ap (λ (zs : List (List Entry)). set zs k (e ∷ list_at zs k)) v

-- a node goes from one list to another
module _ (nodes : List Node) (ends : List End) (ls : List (List Entry)) (v : lists_of nodes ends ≡ ls)
    (kept : AreChained nodes ends) (from to : ℕ) (f : from < length ls) (t : to < length ls) (some : list_at ls from ≢ []) where
  from_in : from < length ends
  from_in = in_ends nodes ends ls v from f

  to_in : to < length ends
  to_in = in_ends nodes ends ls v to t

  deep : 0 < (end_at ends from).depth
  deep = some_depth nodes ends ls v from some

  pub shifted_at : (end_at ends from).head < length nodes
  shifted_at = head_within nodes ends ls v from kept from_in deep

  pub shifted_head : 0 < (end_at (cut_of nodes ends from) to).depth → (end_at (cut_of nodes ends from) to).head < length nodes
  shifted_head = shift_head nodes ends from to kept from_in to_in deep

  pub shifted_room : (end_at (cut_of nodes ends from) to).depth + 1 < 4294967296
  shifted_room = shift_room nodes ends from to kept from_in to_in deep

  pub shifted_kept : (e : Entry) → AreChained (set nodes (end_at ends from).head (linked nodes (end_at (cut_of nodes ends from) to) to e))
      (set (cut_of nodes ends from) to (longer (end_at ends from).head (end_at (cut_of nodes ends from) to)))
  shifted_kept = shift_kept nodes ends from to kept from_in to_in deep

  -- with another entry
  pub reused_lists : (e : Entry) → from ≢ to
      → lists_of (set nodes (end_at ends from).head (linked nodes (end_at (cut_of nodes ends from) to) to e))
      (set (cut_of nodes ends from) to (longer (end_at ends from).head (end_at (cut_of nodes ends from) to)))
      ≡ set (set ls from (rest_of (list_at ls from))) to (e ∷ list_at ls to)
  reused_lists e apart =
      shift_lists nodes ends from to kept from_in to_in deep e apart
      ∙ ap (λ (zs : List (List Entry)). set (set zs from (rest_of (list_at zs from))) to (e ∷ list_at zs to)) v

  -- and with its own
  pub shifted_lists : (e : Entry) → from ≢ to → e ≡ (node_at nodes (end_at ends from).head).entry
      → IsShifted from to ls (lists_of (set nodes (end_at ends from).head (linked nodes (end_at (cut_of nodes ends from) to) to e))
      (set (cut_of nodes ends from) to (longer (end_at ends from).head (end_at (cut_of nodes ends from) to))))
  shifted_lists e apart own =
      let first : list_at ls from ≡ e ∷ rest_of (list_at ls from) =
      front_told nodes ends ls v from deep ∙ ap (λ (x : Entry). x ∷ rest_of (list_at ls from)) (sym own) in
      reused_lists e apart
      ∙ ap (λ (es : List Entry). set (set ls from (rest_of (list_at ls from))) to (front_before es (list_at ls to))) (sym first)

-- where no node is free
pub insert_new : (list : ℕ) (e : Entry) (old : List (List Entry)) → list_at old 0 ≡ [] → set old list (e ∷ list_at old list) ≡ set (set old 0 (rest_of (list_at old 0))) list (e ∷ list_at old list)
insert_new list e old none =
    ap (λ (ls : List (List Entry)). set ls list (e ∷ list_at old list)) (sym (ap (λ (es : List Entry). set old 0 es) (ap (λ (es : List Entry). rest_of es) none ∙ sym none) ∙ set-get_or old 0 []))
