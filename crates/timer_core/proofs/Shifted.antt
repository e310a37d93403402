-- A node that goes from one list to another: the lists then, and that each node still stands in one list, once.
use Rattle.std.proofs.Common.{◌≡◌, ℕ, suc, ◌+◌, ◌-◌, ◌<◌, ◌≤◌, ◌≢◌, inl, inr, List, ◌∷◌, length, set, sum_by, min, arith, refl, sym, ap, ◌∙◌, subst, get_or-set_other, get_or-set_same}
use Rattle.std.proofs.Common.{add-one, length-set}
use Rattle.std.proofs.lemmas.Bool.{cases_eq}
use Rattle.std.proofs.lemmas.List.{map-set}
use Rattle.std.proofs.lemmas.List.Sums.{sum_by-set, get_or-le-sum_by}
use Rattle.timer_core.specs.declared.entry.Entry.{Entry}
use Rattle.timer_core.specs.declared.links.Node.{Node}
use Rattle.timer_core.specs.declared.links.End.{End}
use Rattle.timer_core.specs.Chains.{blank_node, no_nodes, node_at, end_at, entries_from, entries_of, lists_of, list_at, least_of, rest_of, linked, unlinked, IsLink}
use Rattle.timer_core.specs.Chains.{IsChain, depth_of, AreChained}
use Rattle.timer_core.proofs.Chained.{Agree, Lacks, entries_alike, chain_alike, lacks_other, lacks_deeper, agree_set, least_told, map_alike, list_told}

-- where a list begins that has one node more in front
abbrev pub longer : ℕ → End → End
longer x end = record { head = x; depth = end.depth + 1 }

-- ---- a node in front of a list

module _ (nodes more : List Node) (ends : List End) (to x : ℕ) (e : Entry) (b : End) (b_is : end_at ends to ≡ b) (l : length nodes ≤ length more) (w : x < length more) (t : to < length ends)
    (is : node_at more x ≡ linked nodes b to e) (chains : (k : ℕ) → k < length ends
    → IsChain nodes k (end_at ends k).depth (end_at ends k).head × Agree nodes more (end_at ends k).depth (end_at ends k).head) where
  behind : IsChain nodes to b.depth b.head × Agree nodes more b.depth b.head
  behind = subst (λ (z : End). IsChain nodes to z.depth z.head × Agree nodes more z.depth z.head) b_is (chains to t)

  front_entries : entries_of more (longer x b) ≡ e ∷ entries_of nodes b
  front_entries =
      ap (λ d. entries_from more d x) (add-one b.depth)
      ∙ ap (λ (n : Node). n.entry ∷ entries_from more b.depth n.next) is
      ∙ ap (λ (es : List Entry). e ∷ es) (entries_alike nodes more b.depth b.head behind.1)

  -- the lists then
  pub attached_lists : lists_of more (set ends to (longer x b)) ≡ set (lists_of nodes ends) to (e ∷ list_at (lists_of nodes ends) to)
  attached_lists =
      map-set (entries_of more) ends to (longer x b)
      ∙ ap (λ (es : List Entry). set (lists_of more ends) to es) (front_entries ∙ ap (λ (es : List Entry). e ∷ es) (sym (list_told nodes ends to ∙ ap (λ z. entries_of nodes z) b_is)))
      ∙ ap (λ (ls : List (List Entry)). set ls to (e ∷ list_at (lists_of nodes ends) to))
      (map_alike (entries_of more) (entries_of nodes) no_nodes ends (λ k h. entries_alike nodes more (end_at ends k).depth (end_at ends k).head (chains k h).1))

  front_link : IsLink (length more) to b.depth x (linked nodes b to e) (entries_from more b.depth b.head)
  front_link = record {
    within = w;
    same = refl;
    deep = add-one b.depth;
    lowest = ap (λ m. min e.moment m) (least_told nodes to b behind.0 ∙ ap (λ (es : List Entry). least_of es) (sym (entries_alike nodes more b.depth b.head behind.1)));
  }

  front_chain : IsChain more to (suc b.depth) x
  front_chain =
      subst (λ (n : Node). IsLink (length more) to b.depth x n (entries_from more b.depth n.next) × IsChain more to b.depth n.next) (sym is)
      (front_link, chain_alike nodes more to b.depth b.head l behind.1 behind.0)

  -- each of them is still linked
  pub attached_chains : (k : ℕ) → k < length (set ends to (longer x b)) → IsChain more k (end_at (set ends to (longer x b)) k).depth (end_at (set ends to (longer x b)) k).head
  attached_chains k h = elim (cases_eq k to) [
    | inl s ↦
        subst (λ (i : ℕ). IsChain more i (end_at (set ends to (longer x b)) i).depth (end_at (set ends to (longer x b)) i).head) (sym s)
        (subst (λ (z : End). IsChain more to z.depth z.head) (sym (get_or-set_same ends to (longer x b) no_nodes t)) (subst (λ d. IsChain more to d x) (sym (add-one b.depth)) front_chain))
    | inr n ↦
        subst (λ (z : End). IsChain more k z.depth z.head) (sym (get_or-set_other ends to k (longer x b) no_nodes n))
        (let long : length (set ends to (longer x b)) ≡ length ends = length-set ends to (longer x b) in
        let in_range : k < length ends = omega (arith, h, long) in
        chain_alike nodes more k (end_at ends k).depth (end_at ends k).head l (chains k in_range).1 (chains k in_range).0)
  ]

-- ---- a list without its first node

first_link : (nodes : List Node) (k d : ℕ) (e : End) → e.depth ≡ suc d → IsChain nodes k e.depth e.head
    → IsLink (length nodes) k d e.head (node_at nodes e.head) (entries_from nodes d (node_at nodes e.head).next) × IsChain nodes k d (node_at nodes e.head).next
first_link nodes k d e s c = subst (λ n. IsChain nodes k n e.head) s c

pub depth_is : (e : End) → 0 < e.depth → e.depth ≡ suc (e.depth - 1)
depth_is e h = omega arith

-- its first node is known
pub first_within : (nodes : List Node) (k : ℕ) (e : End) → 0 < e.depth → IsChain nodes k e.depth e.head → e.head < length nodes
first_within nodes k e h c = (first_link nodes k (e.depth - 1) e (depth_is e h) c).0.within

pub rest_told : (nodes : List Node) (e : End) → 0 < e.depth → entries_of nodes e ≡ (node_at nodes e.head).entry ∷ entries_of nodes (unlinked nodes e)
rest_told nodes e h = ap (λ d. entries_from nodes d e.head) (depth_is e h)

module _ (nodes : List Node) (ends : List End) (from : ℕ) (f : from < length ends) (some : 0 < (end_at ends from).depth)
    (chains : (k : ℕ) → k < length ends → IsChain nodes k (end_at ends k).depth (end_at ends k).head) where
  first_of_list : IsLink (length nodes) from ((end_at ends from).depth - 1) (end_at ends from).head (node_at nodes (end_at ends from).head)
      (entries_of nodes (unlinked nodes (end_at ends from))) × IsChain nodes from ((end_at ends from).depth - 1) (node_at nodes (end_at ends from).head).next
  first_of_list = first_link nodes from ((end_at ends from).depth - 1) (end_at ends from) (depth_is (end_at ends from) some) (chains from f)

  -- the lists then
  pub detached_lists : lists_of nodes (set ends from (unlinked nodes (end_at ends from))) ≡ set (lists_of nodes ends) from (rest_of (list_at (lists_of nodes ends) from))
  detached_lists =
      map-set (entries_of nodes) ends from (unlinked nodes (end_at ends from))
      ∙ ap (λ (es : List Entry). set (lists_of nodes ends) from es) (sym (ap (λ (es : List Entry). rest_of es) (list_told nodes ends from ∙ rest_told nodes (end_at ends from) some)))

  -- no list has the node any more, and each is still linked
  pub detached_chains : (k : ℕ) → k < length (set ends from (unlinked nodes (end_at ends from)))
      → IsChain nodes k (end_at (set ends from (unlinked nodes (end_at ends from))) k).depth (end_at (set ends from (unlinked nodes (end_at ends from))) k).head × Lacks nodes
      (end_at (set ends from (unlinked nodes (end_at ends from))) k).depth (end_at (set ends from (unlinked nodes (end_at ends from))) k).head (end_at ends from).head
  detached_chains k h = elim (cases_eq k from) [
    | inl s ↦
        subst (λ (i : ℕ). IsChain nodes i (end_at (set ends from (unlinked nodes (end_at ends from))) i).depth (end_at (set ends from (unlinked nodes (end_at ends from))) i).head × Lacks
        nodes (end_at (set ends from (unlinked nodes (end_at ends from))) i).depth (end_at (set ends from (unlinked nodes (end_at ends from))) i).head (end_at ends from).head) (sym s)
        (subst (λ (z : End). IsChain nodes from z.depth z.head × Lacks nodes z.depth z.head (end_at ends from).head) (sym (get_or-set_same ends from (unlinked nodes (end_at ends from)) no_nodes f)) (
          first_of_list.1,
          lacks_deeper nodes from ((end_at ends from).depth - 1) (node_at nodes (end_at ends from).head).next (end_at ends from).head first_of_list.1
              (omega (arith, first_of_list.0.deep)),
        ))
    | inr n ↦
        subst (λ (z : End). IsChain nodes k z.depth z.head × Lacks nodes z.depth z.head (end_at ends from).head) (sym (get_or-set_other ends from k (unlinked nodes (end_at ends from)) no_nodes n))
        (let long : length (set ends from (unlinked nodes (end_at ends from))) ≡ length ends = length-set ends from (unlinked nodes (end_at ends from)) in
        let in_range : k < length ends = omega (arith, h, long) in
        (chains k in_range, lacks_other nodes k (end_at ends k).depth (end_at ends k).head (end_at ends from).head (chains k in_range) (λ s. n (sym s ∙ first_of_list.0.same))))
  ]

-- ---- from one list to another

-- where the lists begin without the first node of one
abbrev pub cut_of : List Node → List End → ℕ → List End
cut_of nodes ends from = set ends from (unlinked nodes (end_at ends from))

module _ (nodes : List Node) (ends : List End) (from to : ℕ) (kept : AreChained nodes ends) (f : from < length ends)
    (t : to < length ends) (some : 0 < (end_at ends from).depth) where
  pub cut_in : to < length (cut_of nodes ends from)
  cut_in =
      let long : length (cut_of nodes ends from) ≡ length ends = length-set ends from (unlinked nodes (end_at ends from)) in
      omega (arith, t, long)

  cut_sum : sum_by depth_of (cut_of nodes ends from) + 1 ≡ length nodes
  cut_sum = let s = sum_by-set depth_of ends from (unlinked nodes (end_at ends from)) no_nodes f in omega (arith, s, kept.whole, some)

  -- there is room for one node more in the list
  pub shift_room : (end_at (cut_of nodes ends from) to).depth + 1 < 4294967296
  shift_room =
      let s : (end_at (cut_of nodes ends from) to).depth ≤ sum_by depth_of (cut_of nodes ends from) =
      get_or-le-sum_by depth_of (cut_of nodes ends from) to no_nodes cut_in in
      omega (arith, s, cut_sum, kept.few)

  -- and its first node is known
  pub shift_head : 0 < (end_at (cut_of nodes ends from) to).depth → (end_at (cut_of nodes ends from) to).head < length nodes
  shift_head h =
      first_within nodes to (end_at (cut_of nodes ends from) to) h (detached_chains nodes ends from f some kept.lists to cut_in).0

  x_in : (end_at ends from).head < length nodes
  x_in = first_within nodes from (end_at ends from) some (kept.lists from f)

  chains : (n : Node) (k : ℕ) → k < length (cut_of nodes ends from)
      → IsChain nodes k (end_at (cut_of nodes ends from) k).depth (end_at (cut_of nodes ends from) k).head
      × Agree nodes (set nodes (end_at ends from).head n) (end_at (cut_of nodes ends from) k).depth (end_at (cut_of nodes ends from) k).head
  chains n k h =
      let both = detached_chains nodes ends from f some kept.lists k h in
      let end : End = end_at (cut_of nodes ends from) k in
      (both.0, agree_set nodes (end_at ends from).head n end.depth end.head both.1)

  -- each node still stands in one list
  pub shift_kept : (e : Entry) → AreChained (set nodes (end_at ends from).head (linked nodes (end_at (cut_of nodes ends from) to) to e))
      (set (cut_of nodes ends from) to (longer (end_at ends from).head (end_at (cut_of nodes ends from) to)))
  shift_kept e =
      let b : End = end_at (cut_of nodes ends from) to in
      let n : Node = linked nodes b to e in
      let long : length (set nodes (end_at ends from).head n) ≡ length nodes = length-set nodes (end_at ends from).head n in
      let ends_long : length (set (cut_of nodes ends from) to (longer (end_at ends from).head b)) ≡ length (cut_of nodes ends from) =
      length-set (cut_of nodes ends from) to (longer (end_at ends from).head b) in
      let cut_long : length (cut_of nodes ends from) ≡ length ends = length-set ends from (unlinked nodes (end_at ends from)) in
      let s = sum_by-set depth_of (cut_of nodes ends from) to (longer (end_at ends from).head b) no_nodes cut_in in
      record {
        lists = attached_chains nodes (set nodes (end_at ends from).head n) (cut_of nodes ends from) to (end_at ends from).head
            e b refl (omega (arith, long))
            (omega (arith, x_in, long)) cut_in (get_or-set_same nodes (end_at ends from).head n blank_node x_in) (chains n);
        whole = omega (arith, s, cut_sum, long);
        few = omega (arith, long, kept.few);
        many = omega (arith, ends_long, cut_long, kept.many);
      }

  -- the lists then
  pub shift_lists : (e : Entry) → from ≢ to
      → lists_of (set nodes (end_at ends from).head (linked nodes (end_at (cut_of nodes ends from) to) to e))
      (set (cut_of nodes ends from) to (longer (end_at ends from).head (end_at (cut_of nodes ends from) to)))
      ≡ set (set (lists_of nodes ends) from (rest_of (list_at (lists_of nodes ends) from))) to (e ∷ list_at (lists_of nodes ends) to)
  shift_lists e apart =
      let b : End = end_at (cut_of nodes ends from) to in
      let n : Node = linked nodes b to e in
      let long : length (set nodes (end_at ends from).head n) ≡ length nodes = length-set nodes (end_at ends from).head n in
      let other : end_at (cut_of nodes ends from) to ≡ end_at ends to =
      get_or-set_other ends from to (unlinked nodes (end_at ends from)) no_nodes (λ s. apart (sym s)) in
      let same : list_at (lists_of nodes (cut_of nodes ends from)) to ≡ list_at (lists_of nodes ends) to =
      list_told nodes (cut_of nodes ends from) to ∙ ap (λ (z : End). entries_of nodes z) other ∙ sym (list_told nodes ends to) in
      attached_lists nodes (set nodes (end_at ends from).head n) (cut_of nodes ends from) to (end_at ends from).head e b refl
      (omega (arith, long)) (omega (arith, x_in, long)) cut_in
      (get_or-set_same nodes (end_at ends from).head n blank_node x_in) (chains n)
      ∙ ap (λ (ls : List (List Entry)). set ls to (e ∷ list_at (lists_of nodes (cut_of nodes ends from)) to))
      (detached_lists nodes ends from f some kept.lists)
      ∙ ap (λ (es : List Entry). set (set (lists_of nodes ends) from (rest_of (list_at (lists_of nodes ends) from))) to (e ∷ es)) same
