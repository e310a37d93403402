-- Lists that a loop goes over, one element after the other.
use Rattle.std.proofs.Common.{◌≡◌, ℕ, zero, suc, ◌+◌, ◌<◌, ◌≤◌, true, false, cond, List, [], ◌∷◌, ◌++◌, length, get_or, take, drop, slice_index_or, slice_set, arith, ap, refl, subst}
use Rattle.rpc_model.specs.Effects.{Mark}
use Rattle.rpc_model.specs.Marks.{is_before, set_mark}
use Rattle.sim_run.specs.Link.{Link}
use Rattle.sim_run.specs.Wires.{idle_wire, idle_wires, on_wire}

-- A mark that isn't set before the one at a place is set behind it.
behind-suc : (mark : Mark) (ws : List Mark) (i : ℕ) (d : Mark) → i < length ws → is_before mark (get_or ws i d) ≡ false
    → take i ws ++ set_mark mark (drop i ws) ≡ take (suc i) ws ++ set_mark mark (drop (suc i) ws)
behind-suc mark [] i d less e = absurd (omega (arith, less))
behind-suc mark (w ∷ ws) zero d less e = ap (λ b. cond b (mark ∷ w ∷ ws) (w ∷ set_mark mark ws)) e
behind-suc mark (w ∷ ws) (suc i) d less e = ap (λ xs. w ∷ xs) (behind-suc mark ws i d (omega (arith, less)) e)

pub behind : (mark : Mark) (ws : List Mark) (i : ℕ) (d : Mark) → i < length ws → is_before mark (get_or ws i d) ≡ false
    → take i ws ++ set_mark mark (drop i ws) ≡ take (i + 1) ws ++ set_mark mark (drop (i + 1) ws)
behind mark ws i d less e = let same : suc i ≡ i + 1 = omega arith in subst (λ n. take i ws ++ set_mark mark (drop i ws) ≡ take n ws ++ set_mark mark (drop n ws)) same (behind-suc mark ws i d less e)

-- Otherwise it is set at the place.
pub before : (mark : Mark) (ws : List Mark) (i : ℕ) (d : Mark) → i < length ws → is_before mark (get_or ws i d) ≡ true → take i ws ++ set_mark mark (drop i ws) ≡ take i ws ++ mark ∷ drop i ws
before mark [] i d less e = absurd (omega (arith, less))
before mark (w ∷ ws) zero d less e = ap (λ b. cond b (mark ∷ w ∷ ws) (w ∷ set_mark mark ws)) e
before mark (w ∷ ws) (suc i) d less e = ap (λ xs. w ∷ xs) (before mark ws i d (omega (arith, less)) e)

-- Behind all it is the last one.
pub last : (mark : Mark) (ws : List Mark) (i : ℕ) → length ws ≤ i → take i ws ++ set_mark mark (drop i ws) ≡ take i ws ++ mark ∷ drop i ws
last mark [] zero less = refl
last mark [] (suc i) less = refl
last mark (w ∷ ws) zero less = absurd (omega (arith, less))
last mark (w ∷ ws) (suc i) less = ap (λ xs. w ∷ xs) (last mark ws i (omega (arith, less)))

-- The wire at a place is changed.
pub set-on_wire : (ws : List Link) (server : ℕ) (f : Link → Link) (w : Link) → server < length ws → w ≡ slice_index_or ws server w → slice_set ws server (f w) ≡ on_wire server f ws
set-on_wire [] server f w less at = absurd (omega (arith, less))
set-on_wire (x ∷ ws) zero f w less at = ap (λ y. f y ∷ ws) at
set-on_wire (x ∷ ws) (suc server) f w less at = ap (λ ys. x ∷ ys) (set-on_wire ws server f w (omega (arith, less)) at)

-- Past the last one none is.
pub past-on_wire : (ws : List Link) (server : ℕ) (f : Link → Link) → length ws ≤ server → ws ≡ on_wire server f ws
past-on_wire [] server f more = refl
past-on_wire (x ∷ ws) zero f more = absurd (omega (arith, more))
past-on_wire (x ∷ ws) (suc server) f more = ap (λ ys. x ∷ ys) (past-on_wire ws server f (omega (arith, more)))

-- One wire more, on which nothing passed.
pub idle-snoc : (n : ℕ) → idle_wires n ++ idle_wire ∷ [] ≡ idle_wires (suc n)
idle-snoc zero = refl
idle-snoc (suc n) = ap (λ ws. idle_wire ∷ ws) (idle-snoc n)

-- As many wires are left.
pub on_wire-length : (server : ℕ) (f : Link → Link) (wires : List Link) → length (on_wire server f wires) ≡ length wires
on_wire-length server f [] = refl
on_wire-length zero f (w ∷ ws) = refl
on_wire-length (suc server) f (w ∷ ws) = ap suc (on_wire-length server f ws)
