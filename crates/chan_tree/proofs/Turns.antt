-- One try or one part more.
use Rattle.std.proofs.Common.{◌≡◌, ℕ, suc, ◌+◌, ◌-◌, ◌%◌, ◌<◌, ◌≤◌, List, [], ◌∷◌, length, None, arith, ap, sym, ◌∙◌}
use Rattle.std.proofs.Common.{slice_index, slice_index_or}
use Rattle.std.proofs.Math.Nat.{mod-add-mod, mod-eq_of_lt, mod_self}
use Rattle.rpc_model.specs.declared.chan.PartChan.{PartChan}
use Rattle.rpc_model.specs.Plan.{leaf_plan, last_plan, plan_then, servers_of, tries_from, part_leaf, part_plans}
use Rattle.rpc_model.specs.Faults.{or_missing, missing_from}

left : (at count : ℕ) → at < count → count - at ≡ suc (count - (at + 1))
left at count less = omega (arith, less)

none-left : (at count : ℕ) → count ≤ at → count - at ≡ 0
none-left at count le = omega (arith, le)

pub tries_next : (subs : List ℕ) (call at count : ℕ) → at < count
    → tries_from subs call at (count - at) ≡ slice_index subs ((call + at) % length subs) ∷ tries_from subs call
    (at + 1) (count - (at + 1))
tries_next subs call at count less = ap (tries_from subs call at) (left at count less)

pub tries_end : (subs : List ℕ) (call at count : ℕ) → count ≤ at → tries_from subs call at (count - at) ≡ []
tries_end subs call at count le = ap (tries_from subs call at) (none-left at count le)

pub parts_next : {M G : Type 0} (chan : PartChan M G) (part : ℕ) → part < chan.parts
    → missing_from chan part (chan.parts - part) ≡ or_missing part (servers_of chan.tags chan.parts part)
    (missing_from chan (part + 1) (chan.parts - (part + 1)))
parts_next chan part less = ap (missing_from chan part) (left part chan.parts less)

pub parts_end : {M G : Type 0} (chan : PartChan M G) (part : ℕ) → chan.parts ≤ part
    → missing_from chan part (chan.parts - part) ≡ None
parts_end chan part le = ap (missing_from chan part) (none-left part chan.parts le)

pub leaves_next : {M G : Type 0} (chan : PartChan M G) (part : ℕ) → part < chan.parts
    → part_plans chan part (chan.parts - part) ≡ plan_then (leaf_plan (part_leaf chan part))
    (part_plans chan (part + 1) (chan.parts - (part + 1)))
leaves_next chan part less = ap (part_plans chan part) (left part chan.parts less)

pub leaves_end : {M G : Type 0} (chan : PartChan M G) (part : ℕ) → chan.parts ≤ part
    → part_plans chan part (chan.parts - part) ≡ last_plan
leaves_end chan part le = ap (part_plans chan part) (none-left part chan.parts le)

-- ---- places that are counted round

pub round_next : (place count : ℕ) → place + 1 < count → (place + 1) % count ≡ place + 1
round_next place count less = mod-eq_of_lt less

pub round_end : (place count : ℕ) → place < count → count ≤ place + 1 → (place + 1) % count ≡ 0
round_end place count within past =
    let last : place + 1 ≡ count = omega (arith, within, past) in
    ap (λ n. n % count) last ∙ mod_self count

-- The place of the next try, from that of this one.
pub round_more : (call at place count : ℕ) → place ≡ (call + at) % count
    → (place + 1) % count ≡ (call + (at + 1)) % count
round_more call at place count e =
    let same : call + at + 1 ≡ call + (at + 1) = omega arith in
    ap (λ p. (p + 1) % count) e ∙ mod-add-mod (call + at) count 1 ∙ ap (λ n. n % count) same

-- The sub at such a place is that of the next try.
pub turn-is : (subs list : List ℕ) (call at place : ℕ) → list ≡ subs → place ≡ (call + at) % length subs
    → slice_index_or list place 0 ≡ slice_index subs ((call + at) % length subs)
turn-is subs list call at place same turn = ap (λ xs. slice_index_or xs place 0) same ∙ ap (slice_index subs) turn

pub turn-next : (subs list : List ℕ) (call at place count : ℕ) → list ≡ subs → place ≡ (call + at) % length subs
    → at < count
    → tries_from subs call at (count - at)
    ≡ slice_index_or list place 0 ∷ tries_from subs call (at + 1) (count - (at + 1))
turn-next subs list call at place count same turn less =
    tries_next subs call at count less
    ∙ ap (λ n. n ∷ tries_from subs call (at + 1) (count - (at + 1))) (sym (turn-is subs list call at place same turn))
