-- The lists of a timer's wheel: their order is that of moments, and what a move of the base changes.
use Rattle.std.proofs.Common.{◌≡◌, ℕ, zero, suc, ◌+◌, ◌*◌, ◌/◌, ◌%◌, ◌<◌, ◌≤◌, ◌≢◌, ◌==◌, Bool, true, false, cond, arith, refl, sym, ap, ◌∙◌, subst}
use Rattle.std.proofs.lemmas.Bool.Decides.{nat_tests}
use Rattle.timer_core.specs.Homes.{list_from, home_of, span_of}

-- whether two moments differ in no byte but the lowest
abbrev pub are_near : ℕ → ℕ → Bool
are_near m b = m / 256 == b / 256

near_is : (m b : ℕ) → are_near m b ≡ true → m / 256 ≡ b / 256
near_is m b h = grind (arith, nat_tests)

far_is : (m b : ℕ) → are_near m b ≡ false → m / 256 ≢ b / 256
far_is m b h = grind (arith, nat_tests)

low_if : (n list m b : ℕ) (t : Bool) → list + 256 ≤ list_from n (list + 256) (m / 256) (b / 256) → list ≤ cond t (list + m % 256) (list_from n (list + 256) (m / 256) (b / 256))
low_if n list m b true h = omega arith
low_if n list m b false h = omega (arith, h)

pub low : (n list m b : ℕ) → list ≤ list_from n list m b
unfolding list_from
low zero list m b = omega arith
low (suc n) list m b = low_if n list m b (are_near m b) (low n (list + 256) (m / 256) (b / 256))

within_if : (n list m b : ℕ) (t : Bool) → are_near m b ≡ t → b < m → m < 256 * span_of n
    → (b / 256 < m / 256 → m / 256 < span_of n → list_from n (list + 256) (m / 256) (b / 256) < list + 256 + 256 * n)
    → cond t (list + m % 256) (list_from n (list + 256) (m / 256) (b / 256)) < list + 256 * suc n
within_if n list m b true e l s h = omega arith
within_if n list m b false e l s h = let d = far_is m b e in let r = h (omega (arith, l, d)) (omega (arith, s)) in omega (arith, r)

pub within : (n list m b : ℕ) → b < m → m < span_of n → list_from n list m b < list + 256 * n
unfolding list_from
within zero list m b l s = absurd (omega (arith, l, s))
within (suc n) list m b l s = within_if n list m b (are_near m b) refl l s (within n (list + 256) (m / 256) (b / 256))

-- ---- the order of lists

rises_if : (n list m c b : ℕ) (t u : Bool) → are_near m b ≡ t → are_near c b ≡ u → b ≤ m → m ≤ c → list + 256 ≤ list_from n (list + 256) (c / 256) (b / 256)
    → (b / 256 ≤ m / 256 → m / 256 ≤ c / 256 → list_from n (list + 256) (m / 256) (b / 256) ≤ list_from n (list + 256) (c / 256) (b / 256))
    → cond t (list + m % 256) (list_from n (list + 256) (m / 256) (b / 256)) ≤ cond u (list + c % 256) (list_from n (list + 256) (c / 256) (b / 256))
rises_if n list m c b true true e f h k w r = let x = near_is m b e in let y = near_is c b f in omega (arith, x, y, h, k)
rises_if n list m c b true false e f h k w r = omega (arith, w)
rises_if n list m c b false true e f h k w r = let x = far_is m b e in let y = near_is c b f in absurd (omega (arith, x, y, h, k))
rises_if n list m c b false false e f h k w r = r (omega (arith, h)) (omega (arith, k))

-- a later moment stands in no earlier list
pub rises : (n list m c b : ℕ) → b ≤ m → m ≤ c → list_from n list m b ≤ list_from n list c b
unfolding list_from
rises zero list m c b h k = omega arith
rises (suc n) list m c b h k = rises_if n list m c b (are_near m b) (are_near c b) refl refl h k (low n (list + 256) (c / 256) (b / 256)) (rises n (list + 256) (m / 256) (c / 256) (b / 256))

-- ---- the base moves to the first moment

stays_if : (n list m c b : ℕ) (t u v : Bool) → are_near c b ≡ t → are_near m b ≡ u → are_near m c ≡ v → b ≤ c → c ≤ m
    → cond u (list + m % 256) (list_from n (list + 256) (m / 256) (b / 256)) ≢ cond t (list + c % 256) (list_from n (list + 256) (c / 256) (b / 256))
    → (b / 256 ≤ c / 256 → c / 256 ≤ m / 256 → list_from n (list + 256) (m / 256) (b / 256) ≢ list_from n (list + 256) (c / 256) (b / 256)
    → list_from n (list + 256) (m / 256) (c / 256) ≡ list_from n (list + 256) (m / 256) (b / 256))
    → cond v (list + m % 256) (list_from n (list + 256) (m / 256) (c / 256)) ≡ cond u (list + m % 256) (list_from n (list + 256) (m / 256) (b / 256))
stays_if n list m c b true u v e f g h k apart r =
    let q = near_is c b e in
    let same : v ≡ u = sym g ∙ ap (λ z. m / 256 == z) q ∙ f in
    ap (λ z. cond z (list + m % 256) (list_from n (list + 256) (m / 256) (c / 256))) same ∙ ap (λ z. cond u (list + m % 256) (list_from n (list + 256) (m / 256) z)) q
stays_if n list m c b false true v e f g h k apart r = let x = far_is c b e in let y = near_is m b f in absurd (omega (arith, x, y, h, k))
stays_if n list m c b false false true e f g h k apart r = let x = near_is m c g in absurd (apart (ap (λ z. list_from n (list + 256) z (b / 256)) x))
stays_if n list m c b false false false e f g h k apart r = r (omega (arith, h)) (omega (arith, k)) apart

-- a mark of another list stays in its list
pub stays : (n list m c b : ℕ) → b ≤ c → c ≤ m → list_from n list m b ≢ list_from n list c b → list_from n list m c ≡ list_from n list m b
unfolding list_from
stays zero list m c b h k apart = refl
stays (suc n) list m c b h k apart = stays_if n list m c b (are_near c b) (are_near m b) (are_near m c) refl refl refl h k apart (stays n (list + 256) (m / 256) (c / 256) (b / 256))

sinks_if : (n list m c b : ℕ) (t u v : Bool) → are_near c b ≡ t → are_near m b ≡ u → are_near m c ≡ v → b ≤ c → c < m → m < 256 * span_of n
    → list + 256 ≤ list_from n (list + 256) (m / 256) (b / 256)
    → list + 256 ≤ list_from n (list + 256) (c / 256) (b / 256)
    → cond u (list + m % 256) (list_from n (list + 256) (m / 256) (b / 256)) ≡ cond t (list + c % 256) (list_from n (list + 256) (c / 256) (b / 256))
    → (b / 256 ≤ c / 256 → c / 256 < m / 256 → m / 256 < span_of n → list_from n (list + 256) (m / 256) (b / 256) ≡ list_from n (list + 256) (c / 256) (b / 256)
    → list_from n (list + 256) (m / 256) (c / 256) < list_from n (list + 256) (c / 256) (b / 256))
    → cond v (list + m % 256) (list_from n (list + 256) (m / 256) (c / 256)) < cond t (list + c % 256) (list_from n (list + 256) (c / 256) (b / 256))
sinks_if n list m c b true true v e f g h k s w x same r = let p = near_is c b e in let q = near_is m b f in absurd (omega (arith, p, q, same, k))
sinks_if n list m c b true false v e f g h k s w x same r = absurd (omega (arith, w, same))
sinks_if n list m c b false true v e f g h k s w x same r = absurd (omega (arith, x, same))
sinks_if n list m c b false false true e f g h k s w x same r = omega (arith, x)
sinks_if n list m c b false false false e f g h k s w x same r = let d = far_is m c g in r (omega (arith, h)) (omega (arith, k, d)) (omega (arith, s)) same

-- a later mark of the first moment's list goes to an earlier list
pub sinks : (n list m c b : ℕ) → b ≤ c → c < m → m < span_of n → list_from n list m b ≡ list_from n list c b → list_from n list m c < list_from n list c b
unfolding list_from
sinks zero list m c b h k s same = absurd (omega (arith, k, s))
sinks (suc n) list m c b h k s same =
    sinks_if n list m c b (are_near c b) (are_near m b) (are_near m c) refl refl refl h k s (low n (list + 256) (m / 256) (b / 256)) (low n (list + 256) (c / 256) (b / 256)) same
    (sinks n (list + 256) (m / 256) (c / 256) (b / 256))

-- ---- the loop that finds a list

pub near_step : (n list m b : ℕ) → are_near m b ≡ true → list_from (suc n) list m b ≡ list + m % 256
unfolding list_from
near_step n list m b e = ap (λ t. cond t (list + m % 256) (list_from n (list + 256) (m / 256) (b / 256))) e

pub far_step : (n list m b : ℕ) → are_near m b ≡ false → list_from (suc n) list m b ≡ list_from n (list + 256) (m / 256) (b / 256)
unfolding list_from
far_step n list m b e = ap (λ t. cond t (list + m % 256) (list_from n (list + 256) (m / 256) (b / 256))) e

pub no_step : (list m b : ℕ) → list_from 0 list m b ≡ list
unfolding list_from
no_step list m b = refl

-- ---- the lists of a moment

pub home_is : (b m : ℕ) → list_from 8 1 m b ≡ home_of b m
unfolding home_of
home_is b m = refl

pub home_some : (b m : ℕ) → 0 < home_of b m
unfolding home_of
home_some b m = omega (arith, low 8 1 m b)

span_is : span_of 8 ≡ 18446744073709551616
span_is = refl

pub home_in : (b m : ℕ) → b < m → m < 18446744073709551616 → home_of b m < 2049
unfolding home_of
home_in b m l s = omega (arith, within 8 1 m b l (subst (λ n. m < n) (sym span_is) s))

pub home_rises : (b m c : ℕ) → b ≤ m → m ≤ c → home_of b m ≤ home_of b c
unfolding home_of
home_rises b m c h k = rises 8 1 m c b h k

pub home_stays : (b c m : ℕ) → b ≤ c → c ≤ m → home_of b m ≢ home_of b c → home_of c m ≡ home_of b m
unfolding home_of
home_stays b c m h k apart = stays 8 1 m c b h k apart

pub home_sinks : (b c m : ℕ) → b ≤ c → c < m → m < 18446744073709551616 → home_of b m ≡ home_of b c → home_of c m < home_of b c
unfolding home_of
home_sinks b c m h k s same = sinks 8 1 m c b h k (subst (λ n. m < n) (sym span_is) s) same
