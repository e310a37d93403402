-- The row of a new table, and its passes, which are handed out in order.
use Rattle.std.proofs.Common.{◌≡◌, ℕ, zero, suc, ◌+◌, ◌*◌, ◌-◌, ◌<◌, ◌≤◌, List, [], ◌∷◌, ◌++◌, length, refl, sym, ap, subst, arith}
use Rattle.std.specs.Prelude.{replicate, All}
use mathlib.Core.Option.{some}
use lib.ListN.{get_elem?}
use Rattle.id_rule.specs.Nodes.{word_at}
use Rattle.id_rule.specs.Parts.{own_number}
use Rattle.id_shared.specs.Opening.{IsNewPass, IsRoot, IsOpened, AreOpened}
use Rattle.id_shared.specs.Standing.{IdTable, Standing, IsAtRest}

-- the words of the slots come first
pub slots_first : (n slot : ℕ) (more : List ℕ) → slot < n → get_elem? (replicate n 1073741824 ++ more) slot ≡ some 1073741824
slots_first zero slot more h = absurd (omega arith)
slots_first (suc n) zero more h = refl
slots_first (suc n) (suc slot) more h = slots_first n slot more (omega arith)

-- each of so many zeros is 0
zeros : (n i : ℕ) → i < n → get_elem? {A = ℕ} (replicate n 0) i ≡ some 0
zeros zero i h = absurd (omega arith)
zeros (suc n) zero h = refl
zeros (suc n) (suc i) h = zeros n i (omega arith)

-- behind the words of the slots come zeros
behind : (n m i : ℕ) → i < m → get_elem? {A = ℕ} (replicate n 1073741824 ++ replicate m 0) (n + i) ≡ some 0
behind zero m i h = let e : i ≡ 0 + i = omega arith in subst (λ (z : ℕ). get_elem? {A = ℕ} (replicate m 0) z ≡ some 0) e (zeros m i h)
behind (suc n) m i h =
    let e : suc (n + i) ≡ suc n + i = omega arith in
    subst (λ (z : ℕ). get_elem? {A = ℕ} (replicate (suc n) 1073741824 ++ replicate m 0) z ≡ some 0) e (behind n m i h)

-- each node of a new table is free
pub nodes_behind : (slots nodes node : ℕ) → 1 ≤ node → node ≤ nodes
    → (get_elem? {A = ℕ} (replicate slots 1073741824 ++ replicate (2 * nodes) 0) (word_at slots node) ≡ some 0)
    × (get_elem? {A = ℕ} (replicate slots 1073741824 ++ replicate (2 * nodes) 0) (word_at slots node + 1) ≡ some 0)
nodes_behind slots nodes node one few =
    let second : slots + (2 * (node - 1) + 1) ≡ word_at slots node + 1 = omega arith in (
      behind slots (2 * nodes) (2 * (node - 1)) (omega arith),
      subst (λ (z : ℕ). get_elem? {A = ℕ} (replicate slots 1073741824 ++ replicate (2 * nodes) 0) z ≡ some 0) second
          (behind slots (2 * nodes) (2 * (node - 1) + 1) (omega arith)),
    )

module _ {E : Type 0} where
  -- a new pass is one of the opened passes
  pub opened_new : (ids : IdTable) (n : ℕ) (p : Standing E) → IsNewPass ids n p → n < ids.sizes.passes → IsOpened ids n p
  opened_new ids n p h low = (
    (ap (λ z. z.table) h, ap (λ z. z.view.width) h, ap (λ z. z.view.total) h, subst (λ (z : Standing E). own_number z.view.numbers < ids.sizes.passes) (sym h) low),
    ap (λ z. z.view.numbers) h,
    ap (λ z. z.view.sent) h,
    ap (λ z. z.view.seen) h,
    ap (λ z. z.view.parts) h,
    ap (λ z. z.words) h,
    ap (λ z. z.scratch) h,
  )

  -- the first pass is the first of the opened passes
  pub opened_root : (ids : IdTable) (n : ℕ) (p : Standing E) → IsRoot ids n p → 0 < ids.sizes.passes → IsOpened ids 0 p
  opened_root ids n p h low = (
    (ap (λ z. z.table) h, ap (λ z. z.view.width) h, ap (λ z. z.view.total) h, subst (λ (z : Standing E). own_number z.view.numbers < ids.sizes.passes) (sym h) low),
    ap (λ z. z.view.numbers) h,
    ap (λ z. z.view.sent) h,
    ap (λ z. z.view.seen) h,
    ap (λ z. z.view.parts) h,
    ap (λ z. z.words) h,
    ap (λ z. z.scratch) h,
  )

  -- one pass more at the end
  pub opened_push : (ids : IdTable) (n : ℕ) (ps : List (Standing E)) (p : Standing E) (k : ℕ) → n + length ps ≡ k → AreOpened ids n ps → IsOpened ids k p → AreOpened ids n (ps ++ p ∷ [])
  opened_push ids n [] p k e all one = (subst (λ (z : ℕ). IsOpened ids z p) (sym (let h = e in omega arith)) one, tt)
  opened_push ids n (q ∷ qs) p k e all one = (all.0, opened_push ids (n + 1) qs p k (let h = e in omega arith) all.1 one)

  -- the opened passes are the table's
  pub opened_own : (ids : IdTable) (n : ℕ) (ps : List (Standing E)) → AreOpened ids n ps → All (IsAtRest ids) ps
  opened_own ids n [] all k d h = absurd (omega arith)
  opened_own ids n (p ∷ ps) all zero d h = (all.0.0, all.0.6)
  opened_own ids n (p ∷ ps) all (suc k) d h = opened_own ids (n + 1) ps all.1 k d (omega arith)

-- what holds for each of a list and for one more holds for each of both together
pub all_push : {X : Type 0} (P : X → Type 0) (xs : List X) (x : X) → All P xs → P x → All P (xs ++ x ∷ [])
all_push P [] x h p zero d k = p
all_push P [] x h p (suc n) d k = absurd (omega arith)
all_push P (y ∷ ys) x h p zero d k = h zero d (omega arith)
all_push P (y ∷ ys) x h p (suc n) d k = all_push P ys x (λ m e j. h (suc m) e (omega arith)) p n d (omega arith)
