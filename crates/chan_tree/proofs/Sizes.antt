-- The size of a plan, and its leaves, from those of the channels below.
use Rattle.std.proofs.Common.{◌≡◌, ℕ, zero, suc, ◌+◌, ◌*◌, ◌<◌, ◌≤◌, ◌==◌, ◌&&◌, Bool, true, false, cond, nat_le, nat_lt, min, is_some, List, [], ◌∷◌, length, Option, Some, None, arith}
use Rattle.std.proofs.Common.{refl, ap, sym, ◌∙◌, subst, slice_get}
use Rattle.std.proofs.lemmas.Bool.Decides.{nat_tests}
use Rattle.rpc_model.specs.declared.chan.Chan.{Chan}
use Rattle.rpc_model.specs.declared.chan.LeafChan.{LeafChan}
use Rattle.rpc_model.specs.declared.chan.Chan.TheVariants as chan
use Rattle.rpc_model.specs.declared.chan.ParChan.{ParChan}
use Rattle.rpc_model.specs.declared.chan.SelChan.{SelChan}
use Rattle.rpc_model.specs.declared.chan.PartChan.{PartChan}
use Rattle.rpc_model.specs.Plan.{Plan, Plans, and_plan, plans_of, par_over, sel_over, rule_of, subs_of, tries, part_leaf, part_plans, chan_plan, plan}
use Rattle.rpc_model.specs.Versions.{nodes, nodes_of, possible_attempts, possible_attempts_of, leaf_at, leaf_at_of, or_leaf}
use Rattle.chan_tree.specs.Sound.{AreBefore, AreSound}
use Rattle.chan_tree.specs.Counting.{total}
use Rattle.chan_tree.specs.declared.walking.Size.{Size}
use Rattle.chan_tree.specs.Sizes.{retry_of, part_retry, IsSize, nodes_if, attempts_if, leaf_if, leaf_among, nodes_at, attempts_at, IsSizeOf, IsSizeOver, IsSizeSoFar, node_behind, retry_in}
use Rattle.chan_tree.specs.Sizes.{retry_among}
use Rattle.chan_tree.proofs.Fuel.{SoundIf, sound-at, sel-before, plan-is}
use Rattle.chan_tree.proofs.Widths.{plan-there}

one-more : (count x : ℕ) → suc count * x ≡ count * x + x
one-more count x = grind arith

-- Attempts may be counted up to the first number that is too much.
pub counted_far : (size : Option Size) (nodes attempts : ℕ) → IsSize size nodes (min attempts 1025) → IsSize size nodes attempts
counted_far None nodes attempts h = omega (arith, h)
counted_far (Some size) nodes attempts h = (h.0, omega (arith, h.1, h.2), omega (arith, h.2))

module _ {M G : Type 0} where
  abbrev IsThere : Option (Plan M G) → Type 0
  IsThere None = ⊥
  IsThere (Some p) = Unit {0}

  -- plans that are there, with their nodes and attempts together, and with the leaf of a number among them
  abbrev AreOf : Option (Plans M G) → ℕ → ℕ → Type 0
  AreOf None n a = ⊥
  AreOf (Some ps) n a = (nodes_of ps ≡ n) × (possible_attempts_of ps ≡ a)

  abbrev HasLeaf : Option (Plans M G) → ℕ → ℕ → Option LeafChan → Type 0
  HasLeaf None node wanted leaf = ⊥
  HasLeaf (Some ps) node wanted leaf = leaf_at_of node ps wanted ≡ leaf

  and-of : (one : Option (Plan M G)) (rest : Option (Plans M G)) (n a : ℕ) → IsThere one → AreOf rest n a → AreOf (and_plan one rest) (nodes_if one + n) (attempts_if one + a)
  and-of None rest n a h hs = absurd h
  and-of (Some p) None n a h hs = absurd hs
  and-of (Some p) (Some ps) n a h hs = (ap (λ m. nodes p + m) hs.0, ap (λ m. possible_attempts p + m) hs.1)

  all-of : (f : ℕ → Option (Plan M G)) (n : ℕ) (subs : List ℕ) → AreBefore n subs → ((s : ℕ) → s < n → IsThere (f s))
      → AreOf (plans_of f subs) (total (λ s. nodes_if (f s)) subs) (total (λ s. attempts_if (f s)) subs)
  all-of f n [] before h = (refl, refl)
  all-of f n (s ∷ subs) before h = and-of (f s) (plans_of f subs) (total (λ s. nodes_if (f s)) subs) (total (λ s. attempts_if (f s)) subs) (h s before.0) (all-of f n subs before.1 h)

  and-leaf : (one : Option (Plan M G)) (rest : Option (Plans M G)) (node wanted : ℕ) (leaf : Option LeafChan) → IsThere one → HasLeaf rest (node + nodes_if one) wanted leaf
      → HasLeaf (and_plan one rest) node wanted (or_leaf (leaf_if node one wanted) leaf)
  and-leaf None rest node wanted leaf h hs = absurd h
  and-leaf (Some p) None node wanted leaf h hs = absurd hs
  and-leaf (Some p) (Some ps) node wanted leaf h hs = ap (or_leaf (leaf_at node p wanted)) hs

  all-leaves : (f : ℕ → Option (Plan M G)) (n : ℕ) (node : ℕ) (subs : List ℕ) (wanted : ℕ) → AreBefore n subs → ((s : ℕ) → s < n → IsThere (f s))
      → HasLeaf (plans_of f subs) node wanted (leaf_among f node subs wanted)
  all-leaves f n node [] wanted before h = refl
  all-leaves f n node (s ∷ subs) wanted before h =
      and-leaf (f s) (plans_of f subs) node wanted (leaf_among f (node + nodes_if (f s)) subs wanted) (h s before.0) (all-leaves f n (node + nodes_if (f s)) subs wanted before.1 h)

  -- ---- parts

  part-nodes : (part : PartChan M G) (first count : ℕ) → nodes_of (part_plans part first count) ≡ count
  part-nodes part first zero = refl
  part-nodes part first (suc count) = let h = part-nodes part (first + 1) count in omega (arith, h)

  part-attempts : (part : PartChan M G) (first count : ℕ) → possible_attempts_of (part_plans part first count) ≡ count * (part.retry + 1)
  part-attempts part first zero = grind arith
  part-attempts part first (suc count) = let h = part-attempts part (first + 1) count in let m = one-more count (part.retry + 1) in omega (arith, h, m)

  part-leaf : (part : PartChan M G) (first count node wanted : ℕ) → retry_of (leaf_at_of node (part_plans part first count) wanted) ≡ part_retry node count part.retry wanted
  part-leaf part first zero node wanted = let no : (nat_le node wanted && nat_lt wanted (node + 0)) ≡ false = grind (arith, nat_tests) in rw no refl
  part-leaf part first (suc count) node wanted = by (node == wanted) refl (part-leaf part (first + 1) count (node + 1) wanted)
    where
      by : (b : Bool) → (node == wanted) ≡ b → retry_of (leaf_at_of (node + 1) (part_plans part (first + 1) count) wanted) ≡ part_retry (node + 1) count part.retry wanted
          → retry_of (or_leaf (cond b (Some (part_leaf part first)) None) (leaf_at_of (node + 1) (part_plans part (first + 1) count) wanted)) ≡ part_retry node (suc count) part.retry wanted
      by true e h = let yes : (nat_le node wanted && nat_lt wanted (node + suc count)) ≡ true = grind (arith, nat_tests, e) in rw yes refl
      by false e h =
          h ∙ (let same : (nat_le (node + 1) wanted && nat_lt wanted (node + 1 + count)) ≡ (nat_le node wanted && nat_lt wanted (node + suc count)) = grind (arith, nat_tests, e) in rw same refl)

or-none : (a b : Option LeafChan) → None ≡ retry_of a → retry_of (or_leaf a b) ≡ retry_of b
or-none None b h = refl
or-none (Some l) b h = absurd cc

or-some : (a b : Option LeafChan) → is_some (retry_of a) ≡ true → retry_of (or_leaf a b) ≡ retry_of a
or-some None b h = absurd cc
or-some (Some l) b h = refl

-- the answer is none where it isn't some
pub none-if : (o : Option ℕ) → is_some o ≡ false → o ≡ None
none-if None h = refl
none-if (Some x) h = absurd cc

module _ {M G : Type 0} (chans : List (Chan M G)) (sound : AreSound 0 chans) (call : ℕ) where
  there : (s : ℕ) → s < length chans → IsThere (plan chans s call)
  there s less = by (plan chans s call) (plan-there chans call sound s less)
    where
      by : (o : Option (Plan M G)) → ((p : Plan M G) × (o ≡ Some p) × (Rattle.rpc_model.specs.Versions.width p ≡ Rattle.chan_tree.specs.Counting.width_of chans call s)) → IsThere o
      by None h = absurd cc
      by (Some p) h = tt

  module _ (number : ℕ) (here : number < length chans) where
    below : (s : ℕ) → s < number → IsThere (plan chans s call)
    below s less = there s (omega (arith, less, here))

    over : (c : Chan M G) → slice_get chans number ≡ Some c → plan chans number call ≡ chan_plan (λ s. plan chans s call) call (Some c)
    over c at = plan-is chans call number sound ∙ ap (chan_plan (λ s. plan chans s call) call) at

    fits : (c : Chan M G) → slice_get chans number ≡ Some c → SoundIf number (Some c)
    fits c at = subst (SoundIf number) at (sound-at 0 chans number number (omega arith) sound)

    -- what a node over the plans of these channels comes to
    pub record IsOver (o : Option (Plan M G)) (subs : List ℕ) : Type 0 where
      pub size : (nodes_if o ≡ 1 + total (nodes_at chans call) subs) × (attempts_if o ≡ total (attempts_at chans call) subs)
      pub leaf : (node wanted : ℕ) → leaf_if node o wanted ≡ leaf_among (λ s. plan chans s call) (node + 1) subs wanted

    par-over : (par : ParChan M G) (ps : Option (Plans M G)) → AreOf ps (total (nodes_at chans call) (subs_of par)) (total (attempts_at chans call) (subs_of par))
        → ((node wanted : ℕ) → HasLeaf ps node wanted (leaf_among (λ s. plan chans s call) node (subs_of par) wanted)) → IsOver (par_over (rule_of par) ps) (subs_of par)
    par-over par None h leaves = absurd h
    par-over par (Some ps) h leaves = record { size = (ap (λ n. 1 + n) h.0, h.1); leaf = λ node wanted. leaves (node + 1) wanted }

    sel-over : (sel : SelChan) (ps : Option (Plans M G)) → AreOf ps (total (nodes_at chans call) (tries sel call)) (total (attempts_at chans call) (tries sel call))
        → ((node wanted : ℕ) → HasLeaf ps node wanted (leaf_among (λ s. plan chans s call) node (tries sel call) wanted)) → IsOver (sel_over sel.timeout ps) (tries sel call)
    sel-over sel None h leaves = absurd h
    sel-over sel (Some ps) h leaves = record { size = (ap (λ n. 1 + n) h.0, h.1); leaf = λ node wanted. leaves (node + 1) wanted }

    pub par-is : (par : ParChan M G) → slice_get chans number ≡ Some (chan.Par par) → IsOver (plan chans number call) (subs_of par)
    par-is par at =
        let f : ℕ → Option (Plan M G) = λ s. plan chans s call in
        subst (λ o. IsOver o (subs_of par)) (sym (over (chan.Par par) at))
        (par-over par (plans_of f (subs_of par)) (all-of f number (subs_of par) (fits (chan.Par par) at) below)
        (λ node wanted. all-leaves f number node (subs_of par) wanted (fits (chan.Par par) at) below))

    pub sel-is : (sel : SelChan) → slice_get chans number ≡ Some (chan.Sel sel) → IsOver (plan chans number call) (tries sel call)
    sel-is sel at =
        let f : ℕ → Option (Plan M G) = λ s. plan chans s call in
        let before = sel-before number call sel (fits (chan.Sel sel) at) in
        subst (λ o. IsOver o (tries sel call)) (sym (over (chan.Sel sel) at))
        (sel-over sel (plans_of f (tries sel call)) (all-of f number (tries sel call) before below) (λ node wanted. all-leaves f number node (tries sel call) wanted before below))

    -- ---- the size, and what is known of a leaf

    pub leaf-size : (leaf : LeafChan) (size : Option Size) → slice_get chans number ≡ Some (chan.Leaf leaf) → IsSize size 1 (leaf.retry + 1) → IsSizeOf chans number call size
    unfolding IsSizeOf
    leaf-size leaf size at h = rw (over (chan.Leaf leaf) at) h

    pub part-size : (part : PartChan M G) (size : Option Size) → slice_get chans number ≡ Some (chan.Part part) → IsSize size (part.parts + 1) (part.parts * (part.retry + 1))
        → IsSizeOf chans number call size
    unfolding IsSizeOf
    part-size part size at h =
        let n = part-nodes part 0 part.parts in
        let a = part-attempts part 0 part.parts in
        rw (over (chan.Part part) at) (by size h n a)
      where
        by : (size : Option Size) → IsSize size (part.parts + 1) (part.parts * (part.retry + 1)) → nodes_of (part_plans part 0 part.parts) ≡ part.parts
            → possible_attempts_of (part_plans part 0 part.parts) ≡ part.parts * (part.retry + 1)
            → IsSize size (1 + nodes_of (part_plans part 0 part.parts)) (possible_attempts_of (part_plans part 0 part.parts))
        by None h n a = omega (arith, h, n, a)
        by (Some s) h n a = (omega (arith, h.0, n), omega (arith, h.1, a), omega (arith, h.2, n, a))

    pub par-size : (par : ParChan M G) (size : Option Size) → slice_get chans number ≡ Some (chan.Par par) → IsSizeOver chans (subs_of par) call size → IsSizeOf chans number call size
    unfolding IsSizeOf IsSizeOver
    par-size par size at h =
        let is = par-is par at in subst (λ n. IsSize size n (attempts_at chans call number)) (sym is.size.0)
        (subst (λ a. IsSize size (1 + total (nodes_at chans call) (subs_of par)) a) (sym is.size.1) h)

    pub sel-size : (sel : SelChan) (size : Option Size) → slice_get chans number ≡ Some (chan.Sel sel) → IsSizeOver chans (tries sel call) call size → IsSizeOf chans number call size
    unfolding IsSizeOf IsSizeOver
    sel-size sel size at h =
        let is = sel-is sel at in subst (λ n. IsSize size n (attempts_at chans call number)) (sym is.size.0)
        (subst (λ a. IsSize size (1 + total (nodes_at chans call) (tries sel call)) a) (sym is.size.1) h)

    -- ---- one node after another

    module _ (all : List ℕ) where
      pub size-first : (size : Size) → size.nodes ≡ 1 → size.attempts ≡ 0 → IsSizeSoFar chans all call size all
      unfolding IsSizeSoFar
      size-first size n a = (ap (λ k. k + total (nodes_at chans call) all) n, omega (arith, a), omega (arith, n, a))

      pub size-wide : (size : Size) (s : ℕ) (rest : List ℕ) → IsSizeSoFar chans all call size (s ∷ rest) → IsSizeOf chans s call None → IsSizeOver chans all call None
      unfolding IsSizeSoFar IsSizeOf IsSizeOver
      size-wide size s rest h wide = omega (arith, h.0, h.1, wide)

      pub size-full : (size more : Size) (s : ℕ) (rest : List ℕ) → IsSizeSoFar chans all call size (s ∷ rest) → IsSizeOf chans s call (Some more)
          → IsSize None (size.nodes + more.nodes) (size.attempts + more.attempts) → IsSizeOver chans all call None
      unfolding IsSizeSoFar IsSizeOf IsSizeOver
      size-full size more s rest h one wide = omega (arith, h.0, h.1, one.0, one.1, wide)

      pub size-more : (size more sum : Size) (s : ℕ) (rest : List ℕ) → IsSizeSoFar chans all call size (s ∷ rest) → IsSizeOf chans s call (Some more)
          → IsSize (Some sum) (size.nodes + more.nodes) (size.attempts + more.attempts) → IsSizeSoFar chans all call sum rest
      unfolding IsSizeSoFar IsSizeOf
      size-more size more sum s rest h one is = (omega (arith, h.0, one.0, is.0), omega (arith, h.1, one.1, is.1), omega (arith, is.0, is.1, is.2))

      pub size-last : (size : Size) → IsSizeSoFar chans all call size [] → IsSizeOver chans all call (Some size)
      unfolding IsSizeSoFar IsSizeOver
      size-last size h = (omega (arith, h.0), omega (arith, h.1), omega (arith, h.0, h.1, h.2))

pub size-narrow : {M G : Type 0} (chans : List (Chan M G)) (all rest : List ℕ) (call : ℕ) (size : Size) → IsSizeSoFar chans all call size rest → size.nodes + size.attempts ≤ 1024
unfolding IsSizeSoFar
size-narrow chans all rest call size h = h.2

pub size-one : {M G : Type 0} (chans : List (Chan M G)) (number call : ℕ) (more : Size) → IsSizeOf chans number call (Some more) → more.nodes + more.attempts ≤ 1024
unfolding IsSizeOf
size-one chans number call more h = omega (arith, h.0, h.1, h.2)

-- ---- a leaf, one plan after another

module _ {M G : Type 0} (chans : List (Chan M G)) (call : ℕ) where
  pub retry-found : (s : ℕ) (rest : List ℕ) (node wanted : ℕ) (found : Option ℕ) → found ≡ retry_in chans s call node wanted → is_some found ≡ true
      → found ≡ retry_among chans (s ∷ rest) call node wanted
  unfolding retry_in retry_among
  retry-found s rest node wanted found e some =
      e ∙ sym (or-some (leaf_if node (plan chans s call) wanted) (leaf_among (λ t. plan chans t call) (node + nodes_at chans call s) rest wanted) (ap is_some (sym e) ∙ some))

  pub retry-next : (s : ℕ) (rest : List ℕ) (node wanted : ℕ) → None ≡ retry_in chans s call node wanted
      → retry_among chans (s ∷ rest) call node wanted ≡ retry_among chans rest call (node + nodes_at chans call s) wanted
  unfolding retry_in retry_among
  retry-next s rest node wanted none = or-none (leaf_if node (plan chans s call) wanted) (leaf_among (λ t. plan chans t call) (node + nodes_at chans call s) rest wanted) none

  pub retry-end : (node wanted : ℕ) → retry_among chans [] call node wanted ≡ None
  unfolding retry_among
  retry-end node wanted = refl

  pub behind-next : (s : ℕ) (rest : List ℕ) (node : ℕ) → node_behind chans (s ∷ rest) call node ≡ node_behind chans rest call (node + nodes_at chans call s)
  unfolding node_behind
  behind-next s rest node = omega arith

  pub behind-end : (node : ℕ) → node_behind chans [] call node ≡ node
  unfolding node_behind
  behind-end node = omega arith

  pub behind-more : (s : ℕ) (rest : List ℕ) (node : ℕ) → node + nodes_at chans call s ≤ node_behind chans (s ∷ rest) call node
  unfolding node_behind
  behind-more s rest node = omega arith

  module _ (sound : AreSound 0 chans) (number : ℕ) (here : number < length chans) where
    pub leaf-nodes : (leaf : LeafChan) → slice_get chans number ≡ Some (chan.Leaf leaf) → nodes_at chans call number ≡ 1
    leaf-nodes leaf at = ap nodes_if (over chans sound call number here (chan.Leaf leaf) at)

    pub leaf-retry : (leaf : LeafChan) (node wanted : ℕ) → slice_get chans number ≡ Some (chan.Leaf leaf) → retry_in chans number call node wanted ≡ retry_of (cond (node == wanted) (Some leaf) None)
    unfolding retry_in
    leaf-retry leaf node wanted at = ap (λ o. retry_of (leaf_if node o wanted)) (over chans sound call number here (chan.Leaf leaf) at)

    pub part-behind : (part : PartChan M G) → slice_get chans number ≡ Some (chan.Part part) → nodes_at chans call number ≡ 1 + part.parts
    part-behind part at = ap nodes_if (over chans sound call number here (chan.Part part) at) ∙ ap (λ n. 1 + n) (part-nodes part 0 part.parts)

    pub part-retry : (part : PartChan M G) (node wanted : ℕ) → slice_get chans number ≡ Some (chan.Part part)
        → retry_in chans number call node wanted ≡ part_retry (node + 1) part.parts part.retry wanted
    unfolding retry_in
    part-retry part node wanted at = ap (λ o. retry_of (leaf_if node o wanted)) (over chans sound call number here (chan.Part part) at) ∙ part-leaf part 0 part.parts (node + 1) wanted

    pub par-retry : (par : ParChan M G) (node wanted : ℕ) → slice_get chans number ≡ Some (chan.Par par)
        → retry_in chans number call node wanted ≡ retry_among chans (subs_of par) call (node + 1) wanted
    unfolding retry_in retry_among
    par-retry par node wanted at = ap retry_of ((par-is chans sound call number here par at).leaf node wanted)

    pub par-behind : (par : ParChan M G) (node : ℕ) → slice_get chans number ≡ Some (chan.Par par) → node_behind chans (subs_of par) call (node + 1) ≡ node + nodes_at chans call number
    unfolding node_behind
    par-behind par node at = let n = (par-is chans sound call number here par at).size.0 in omega (arith, n)

    pub sel-retry : (sel : SelChan) (node wanted : ℕ) → slice_get chans number ≡ Some (chan.Sel sel)
        → retry_in chans number call node wanted ≡ retry_among chans (tries sel call) call (node + 1) wanted
    unfolding retry_in retry_among
    sel-retry sel node wanted at = ap retry_of ((sel-is chans sound call number here sel at).leaf node wanted)

    pub sel-behind : (sel : SelChan) (node : ℕ) → slice_get chans number ≡ Some (chan.Sel sel) → node_behind chans (tries sel call) call (node + 1) ≡ node + nodes_at chans call number
    unfolding node_behind
    sel-behind sel node at = let n = (sel-is chans sound call number here sel at).size.0 in omega (arith, n)
