-- A slot of a table, and a pass of it, as the steps want them.
use Rattle.std.proofs.Common.{◌≡◌, ℕ, ◌*◌, ◌≤◌, ◌<◌, sym, ap, ◌∙◌, subst, arith}
use Rattle.atomic_table.specs.Seated.{TableId}
use Rattle.id_rule.specs.declared.rule.Sizes.{Sizes}
use Rattle.id_shared.specs.Standing.{IdTable, Standing, IsIdTable, IsPassOf}

-- a slot of the table is one of its rule's slots, and has a word and a place
pub slot_is_low : (t : TableId) (key sizes : Sizes) (ids : IdTable) (slot : ℕ) → record { table = t; sizes = sizes } ≡ ids → IsIdTable t key sizes
    → slot < ids.sizes.slots → (slot < key.slots) × (slot < t.words) × (slot < t.slots)
slot_is_low t key sizes ids slot is fit low =
    let here : slot < sizes.slots = subst (λ (z : Sizes). slot < z.slots) (sym (ap (λ (z : IdTable). z.sizes) is)) low in
    let slots = fit.1 in let words = fit.2 in
    (subst (λ (z : Sizes). slot < z.slots) (sym fit.0) here, omega (arith, here, words), omega (arith, here, slots))

-- a pass of the table has a seat of it
pub same_table : {E : Type 0} (t seat : TableId) (sizes : Sizes) (ids : IdTable) (p q : Standing E) → record { table = t; sizes = sizes } ≡ ids → q ≡ p
    → q.table ≡ seat → IsPassOf ids p → seat ≡ t
same_table {E} t seat sizes ids p q is view here own = sym here ∙ ap (λ (z : Standing E). z.table) view ∙ own.0 ∙ sym (ap (λ (z : IdTable). z.table) is)

-- what a step at a slot asks of the table and of the pass's seat
pub at_slot : {E : Type 0} (t seat : TableId) (key sizes : Sizes) (ids : IdTable) (p q : Standing E) (slot : ℕ) → record { table = t; sizes = sizes } ≡ ids
    → IsIdTable t key sizes → q ≡ p → q.table ≡ seat → IsPassOf ids p → slot < ids.sizes.slots
    → (seat ≡ t) × (slot < key.slots) × (slot < t.words) × (slot < seat.slots)
at_slot {E} t seat key sizes ids p q slot is fit view here own low =
    let same = same_table t seat sizes ids p q is view here own in
    let under = slot_is_low t key sizes ids slot is fit low in
    (same, under.0, under.1, subst (λ (z : TableId). slot < z.slots) (sym same) under.2)

-- the same where the slot is known to be one of the seat's table
pub at_claim : {E : Type 0} (t seat : TableId) (key sizes : Sizes) (ids : IdTable) (p q : Standing E) (slot : ℕ) → record { table = t; sizes = sizes } ≡ ids
    → IsIdTable t key sizes → q ≡ p → q.table ≡ seat → IsPassOf ids p → slot < seat.slots
    → (seat ≡ t) × (slot < key.slots) × (slot < t.words) × (slot < seat.slots)
at_claim {E} t seat key sizes ids p q slot is fit view here own low =
    let same = same_table t seat sizes ids p q is view here own in
    let under : slot < t.slots = subst (λ (z : TableId). slot < z.slots) same low in
    let slots = fit.1 in let words = fit.2 in
    (same, subst (λ (z : Sizes). slot < z.slots) (sym fit.0) (omega (arith, under, slots)), omega (arith, under, slots, words), low)

-- a pass of the table has a seat with as many slots
pub same_slots : {E : Type 0} (t seat : TableId) (key sizes : Sizes) (ids : IdTable) (p q : Standing E) → record { table = t; sizes = sizes } ≡ ids
    → IsIdTable t key sizes → q ≡ p → q.table ≡ seat → IsPassOf ids p → seat.slots ≡ ids.sizes.slots
same_slots {E} t seat key sizes ids p q is fit view here own =
    ap (λ (z : TableId). z.slots) (same_table t seat sizes ids p q is view here own) ∙ fit.1 ∙ ap (λ (z : IdTable). z.sizes.slots) is

-- what a step by a seat of the table asks
pub at_seat : (t seat : TableId) (key sizes : Sizes) (ids : IdTable) (slot : ℕ) → record { table = t; sizes = sizes } ≡ ids → IsIdTable t key sizes
    → seat ≡ ids.table → slot < seat.slots → (seat ≡ t) × (slot < key.slots) × (slot < t.words) × (seat.slots ≡ key.slots)
at_seat t seat key sizes ids slot is fit own low =
    let same : seat ≡ t = own ∙ sym (ap (λ (z : IdTable). z.table) is) in
    let as_many : seat.slots ≡ key.slots = ap (λ (z : TableId). z.slots) same ∙ fit.1 ∙ ap (λ (z : Sizes). z.slots) (sym fit.0) in
    let under : slot < t.slots = subst (λ (z : TableId). slot < z.slots) same low in
    let slots = fit.1 in let words = fit.2 in
    (same, subst (λ (z : ℕ). slot < z) as_many low, omega (arith, under, slots, words), as_many)

-- how many nodes a table has
pub table_few : (t : TableId) (key sizes : Sizes) (ids : IdTable) → record { table = t; sizes = sizes } ≡ ids → IsIdTable t key sizes → ids.sizes.passes * ids.sizes.nodes ≤ 65535
table_few t key sizes ids is fit = subst (λ (z : IdTable). z.sizes.passes * z.sizes.nodes ≤ 65535) is fit.5

-- the numbers of nodes, as the rule has them
pub table_sizes : (t : TableId) (key sizes : Sizes) (ids : IdTable) → record { table = t; sizes = sizes } ≡ ids → IsIdTable t key sizes
    → (ids.sizes.nodes ≡ key.nodes) × (ids.sizes.passes * ids.sizes.nodes ≡ key.passes * key.nodes)
table_sizes t key sizes ids is fit = (
  ap (λ (z : IdTable). z.sizes.nodes) (sym is) ∙ ap (λ (z : Sizes). z.nodes) (sym fit.0),
  ap (λ (z : IdTable). z.sizes.passes * z.sizes.nodes) (sym is) ∙ ap (λ (z : Sizes). z.passes * z.nodes) (sym fit.0),
)
