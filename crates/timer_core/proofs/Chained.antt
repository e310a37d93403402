-- Lists whose nodes are linked by numbers: what an entry that goes from one to another changes, and what it leaves.
use Rattle.std.proofs.Common.{◌≡◌, ℕ, zero, suc, ◌<◌, ◌≤◌, ◌≢◌, ◌==◌, false, cond, List, [], ◌∷◌, ◌++◌, map, length, set, get_or, min, arith, refl, sym, ap, ◌∙◌, subst, get_or-set_other}
use Rattle.std.proofs.lemmas.List.{get_or_append_left}
use Rattle.std.proofs.lemmas.Bool.Decides.{nat_tests}
use Rattle.timer_core.specs.declared.entry.Entry.{Entry}
use Rattle.timer_core.specs.declared.links.Node.{Node}
use Rattle.timer_core.specs.declared.links.End.{End}
use Rattle.timer_core.specs.Chains.{blank_node, node_at, end_at, entries_from, entries_of, lists_of, list_at, least_of, least_at, IsLink, IsChain}

-- the nodes of a list are the same in both vectors
abbrev pub Agree : List Node → List Node → ℕ → ℕ → Type 0
Agree nodes more zero at = Unit {0}
Agree nodes more (suc d) at = (node_at more at ≡ node_at nodes at) × Agree nodes more d (node_at nodes at).next

-- a node is none of a list's
abbrev pub Lacks : List Node → ℕ → ℕ → ℕ → Type 0
Lacks nodes zero at x = Unit {0}
Lacks nodes (suc d) at x = (at ≢ x) × Lacks nodes d (node_at nodes at).next x

pub entries_alike : (nodes more : List Node) (d at : ℕ) → Agree nodes more d at → entries_from more d at ≡ entries_from nodes d at
entries_alike nodes more zero at h = refl
entries_alike nodes more (suc d) at h =
    ap (λ (n : Node). n.entry ∷ entries_from more d n.next) h.0 ∙ ap (λ (es : List Entry). (node_at nodes at).entry ∷ es) (entries_alike nodes more d (node_at nodes at).next h.1)

wider : (count more k d at : ℕ) (n : Node) (es fs : List Entry) → count ≤ more → es ≡ fs → IsLink count k d at n fs → IsLink more k d at n es
wider count more k d at n es fs h e l = record { within = omega (arith, l.within, h); same = l.same; deep = l.deep; lowest = l.lowest ∙ ap (λ zs. min n.entry.moment (least_of zs)) (sym e) }

pub chain_alike : (nodes more : List Node) (k d at : ℕ) → length nodes ≤ length more → Agree nodes more d at → IsChain nodes k d at → IsChain more k d at
chain_alike nodes more k zero at l h c = tt
chain_alike nodes more k (suc d) at l h c =
    subst (λ (n : Node). IsLink (length more) k d at n (entries_from more d n.next) × IsChain more k d n.next) (sym h.0) (
      wider (length nodes) (length more) k d at (node_at nodes at) (entries_from more d (node_at nodes at).next) (entries_from nodes d (node_at nodes at).next) l
          (entries_alike nodes more d (node_at nodes at).next h.1) c.0,
      chain_alike nodes more k d (node_at nodes at).next l h.1 c.1,
    )

-- a node of another list is none of this one's
pub lacks_other : (nodes : List Node) (k d at x : ℕ) → IsChain nodes k d at → (node_at nodes x).list ≢ k → Lacks nodes d at x
lacks_other nodes k zero at x c h = tt
lacks_other nodes k (suc d) at x c h =
    ((λ e. h (ap (λ i. (node_at nodes i).list) (sym e) ∙ c.0.same)), lacks_other nodes k d (node_at nodes at).next x c.1 h)

-- nor is a node with more behind it
pub lacks_deeper : (nodes : List Node) (k d at x : ℕ) → IsChain nodes k d at → d < (node_at nodes x).depth → Lacks nodes d at x
lacks_deeper nodes k zero at x c h = tt
lacks_deeper nodes k (suc d) at x c h = (
  (λ e. let same : (node_at nodes at).depth ≡ (node_at nodes x).depth = ap (λ i. (node_at nodes i).depth) e in omega (arith, c.0.deep, same, h)),
  lacks_deeper nodes k d
      (node_at nodes at).next x c.1 (omega (arith, h)),
)

pub agree_set : (nodes : List Node) (x : ℕ) (n : Node) (d at : ℕ) → Lacks nodes d at x → Agree nodes (set nodes x n) d at
agree_set nodes x n zero at h = tt
agree_set nodes x n (suc d) at h = (get_or-set_other nodes x at n blank_node h.0, agree_set nodes x n d (node_at nodes at).next h.1)

pub agree_push : (nodes : List Node) (n : Node) (k d at : ℕ) → IsChain nodes k d at → Agree nodes (nodes ++ n ∷ []) d at
agree_push nodes n k zero at c = tt
agree_push nodes n k (suc d) at c = (get_or_append_left nodes (n ∷ []) blank_node at c.0.within, agree_push nodes n k d (node_at nodes at).next c.1)

-- the least moment of a list is told by its first node
least_from_depth : (nodes : List Node) (k d at : ℕ) → IsChain nodes k d at → cond (d == 0) 18446744073709551615 (node_at nodes at).least ≡ least_of (entries_from nodes d at)
least_from_depth nodes k zero at c = refl
least_from_depth nodes k (suc d) at c = let b : (suc d == 0) ≡ false = grind (arith, nat_tests) in ap (λ b. cond b 18446744073709551615 (node_at nodes at).least) b ∙ c.0.lowest

pub least_told : (nodes : List Node) (k : ℕ) (e : End) → IsChain nodes k e.depth e.head → least_at nodes e ≡ least_of (entries_of nodes e)
least_told nodes k e c = least_from_depth nodes k e.depth e.head c

pub map_alike : {X Y : Type 0} (f g : X → Y) (d : X) (xs : List X) → ((k : ℕ) → k < length xs → f (get_or xs k d) ≡ g (get_or xs k d)) → map f xs ≡ map g xs
map_alike f g d [] h = refl
map_alike f g d (x ∷ xs) h = let first : f x ≡ g x = h 0 (omega arith) in let rest = map_alike f g d xs (λ k l. h (suc k) (omega (arith, l))) in ap (λ y. y ∷ map f xs) first ∙ ap (λ ys. g x ∷ ys) rest

-- the list of a number, by where it begins
pub list_told : (nodes : List Node) (ends : List End) (k : ℕ) → list_at (lists_of nodes ends) k ≡ entries_of nodes (end_at ends k)
list_told nodes [] k = refl
list_told nodes (e ∷ es) zero = refl
list_told nodes (e ∷ es) (suc k) = list_told nodes es k
