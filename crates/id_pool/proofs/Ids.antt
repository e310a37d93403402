-- What the ids of a range name.
use Rattle.std.proofs.Common.{◌≡◌, ℕ, suc, zero, ◌+◌, ◌-◌, ◌/◌, ◌^◌, ◌<◌, ◌≤◌, leb, ltb, ◌&&◌, true, if◌then◌else◌, List, [], ◌∷◌, length, set, refl, ◌∙◌, ap, arith, Some, None, slice_get}
use Rattle.std.proofs.lemmas.Bool.Decides.{nat_tests}
use Rattle.id_pool.specs.Answers.{find_says}
use Rattle.id_pool.specs.Ids.{make_id, one_less, slot_of, version_of}
use Rattle.id_pool.specs.Ranges.{Slot, Taken, Free, fresh, look, offset, seen, seen_at, seen_in, slot_at}

pub slot_of-make_id : (slot version : ℕ) → version < 2 ^ 32 → slot_of (make_id slot version) ≡ Some slot
slot_of-make_id slot version h = let q : make_id slot version / 2 ^ 32 ≡ suc slot = omega arith in ap one_less q

pub version_of-make_id : (slot version : ℕ) → version < 2 ^ 32 → version_of (make_id slot version) ≡ version
version_of-make_id slot version h = omega arith

-- the ids of a range follow each other
pub make_id-plus : (slot version k : ℕ) → make_id slot version + k ≡ make_id slot (version + k)
make_id-plus slot version k = omega arith

offset-fresh : {T : Type 0} (first size k : ℕ) (value : T) → k < size → offset (fresh first size value) (first + k) ≡ Some k
offset-fresh first size k value h =
    let both : (leb first (first + k) && ltb (first + k) (first + size)) ≡ true = grind (arith, nat_tests) in
    let place : first + k - first ≡ k = omega arith in
    ap (λ b. if b then Some (first + k - first) else None) both ∙ ap Some place

slice_get-set : {T : Type 0} (i : ℕ) (ss : List (Slot T)) (t : Slot T) → i < length ss → slice_get (set ss i t) i ≡ Some t
slice_get-set i [] t h = absurd (omega arith)
slice_get-set zero (x ∷ ss) t h = refl
slice_get-set (suc i) (x ∷ ss) t h = slice_get-set i ss t (omega arith)

-- each id of a new range finds its place
pub find-fresh : {T : Type 0} (slot first size k : ℕ) (value : T) (ss : List (Slot T)) (t : Slot T) → slot < length ss → first + size ≤ 2 ^ 32 → k < size → t ≡ Taken (fresh first size value)
    → find_says (look (make_id slot first + k) (set ss slot t)) ≡ Some k
find-fresh slot first size k value ss t h fits l u =
    let id : make_id slot first + k ≡ make_id slot (first + k) = make_id-plus slot first k in
    let v : version_of (make_id slot first + k) ≡ first + k = ap version_of id ∙ version_of-make_id slot (first + k) (omega arith) in
    let s : slot_of (make_id slot first + k) ≡ Some slot = ap slot_of id ∙ slot_of-make_id slot (first + k) (omega arith) in
    ap (λ n. find_says (seen_in n (slot_at (slot_of (make_id slot first + k)) (set ss slot t)))) v
    ∙ ap (λ o. find_says (seen_in (first + k) (slot_at o (set ss slot t)))) s
    ∙ ap (λ o. find_says (seen_in (first + k) o)) (slice_get-set slot ss t h)
    ∙ ap (λ x. find_says (seen (first + k) x)) u
    ∙ ap (λ o. find_says (seen_at (fresh first size value) o Free)) (offset-fresh first size k value l)
