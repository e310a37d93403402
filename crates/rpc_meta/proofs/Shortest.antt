-- The shortest varint of a number below 2 ^ 64, written group by group and read again.
use Rattle.std.proofs.Common.{◌≡◌, ℕ, zero, suc, ◌+◌, ◌-◌, ◌*◌, ◌/◌, ◌%◌, ◌^◌, ◌<◌, ◌≤◌, Bool, true, false, cond, ltb, List, [], ◌∷◌, ◌++◌, length, Ok, refl, sym, ap, ◌∙◌, arith, inl, inr}
use Rattle.std.proofs.Common.{append_assoc}
use Rattle.std.proofs.lemmas.Bool.{cases_lt, lt-ltb, le-ltb}
use Rattle.std.proofs.lemmas.Nat.{div_below}
use Rattle.std.proofs.Math.Nat.{pow-suc}
use Rattle.rpc_meta.specs.Meta.Wire.{groups, wrapped}
use Rattle.rpc_meta.specs.Meta.Spelling.{groups_of}

pub groups_last : (most n : ℕ) → n < 128 → groups_of (suc most) n ≡ n ∷ []
unfolding groups_of
groups_last most n lt = rw (lt-ltb n 128 lt) refl

groups_more : (most n : ℕ) → 128 ≤ n → groups_of (suc most) n ≡ (n % 128 + 128) ∷ groups_of most (n / 128)
unfolding groups_of
groups_more most n le = rw (le-ltb n 128 le) refl

fewer : (most n : ℕ) → n < 128 ^ suc (suc most) → n / 128 < 128 ^ suc most
fewer most n lt = div_below n 128 (128 ^ suc most) (omega arith) (rw (← pow-suc 128 (suc most)) lt)

-- more groups than a number has change nothing
groups_same : (most n : ℕ) → n < 128 ^ suc most → groups_of (suc (suc most)) n ≡ groups_of (suc most) n
groups_same zero n lt = groups_last 1 n (omega arith) ∙ sym (groups_last 0 n (omega arith))
groups_same (suc most) n lt =
    elim (cases_lt n 128) [
      | inl small ↦ groups_last (suc (suc most)) n small ∙ sym (groups_last (suc most) n small)
      | inr big ↦ groups_more (suc (suc most)) n big ∙ ap (λ (g : List ℕ). (n % 128 + 128) ∷ g) (groups_same most (n / 128) (fewer most n lt)) ∙ sym (groups_more (suc most) n big)
    ]

-- the first group of a longer varint, and the others
pub varint_more : (n : ℕ) → n < 2 ^ 64 → 128 ≤ n → groups_of 10 n ≡ (n % 128 + 128) ∷ groups_of 10 (n / 128)
varint_more n lt le = groups_more 9 n le ∙ ap (λ (g : List ℕ). (n % 128 + 128) ∷ g) (sym (groups_same 8 (n / 128) (omega arith)))

-- a step of the writer
pub put_group : (to now : List ℕ) (n : ℕ) (total : List ℕ) → n < 2 ^ 64 → 128 ≤ n → now ≡ to ++ (n % 128 + 128) ∷ [] → to ++ groups_of 10 n ≡ total → now ++ groups_of 10 (n / 128) ≡ total
put_group to now n total lt le e so_far = rw e (append_assoc to ((n % 128 + 128) ∷ []) (groups_of 10 (n / 128)) ∙ ap (λ (g : List ℕ). to ++ g) (sym (varint_more n lt le)) ∙ so_far)

-- ---- read again

joined : (n : ℕ) → n % 128 + 128 - 128 + 128 * (n / 128) ≡ n
joined n = omega arith

last_again : (at most n : ℕ) (rest : List ℕ) → n < 128 → groups at (suc most) (groups_of (suc most) n ++ rest) ≡ Ok (n, rest)
unfolding groups
last_again at most n rest lt = rw (groups_last most n lt, lt-ltb n 128 lt) refl

first_again : (at most n : ℕ) (rest : List ℕ) → 128 ≤ n → groups at most (groups_of most (n / 128) ++ rest) ≡ Ok (n / 128, rest) → groups at (suc most) (groups_of (suc most) n ++ rest) ≡ Ok (n, rest)
unfolding groups
first_again at most n rest le others =
    let big : ltb (n % 128 + 128) 128 ≡ false = le-ltb (n % 128 + 128) 128 (omega arith) in
    rw (groups_more most n le, big, others) (ap (λ (k : ℕ). Ok (k, rest)) (joined n))

groups_again : (at most n : ℕ) (rest : List ℕ) → n < 128 ^ suc most → groups at (suc most) (groups_of (suc most) n ++ rest) ≡ Ok (n, rest)
groups_again at zero n rest lt = last_again at zero n rest (omega arith)
groups_again at (suc most) n rest lt =
    elim (cases_lt n 128) [
      | inl small ↦ last_again at (suc most) n rest small
      | inr big ↦ first_again at (suc most) n rest big (groups_again at most (n / 128) rest (fewer most n lt))
    ]

-- a varint is read again, whatever follows it
pub varint_again : (at n : ℕ) (rest : List ℕ) → n < 2 ^ 64 → wrapped at 10 (groups_of 10 n ++ rest) ≡ Ok (n, rest)
unfolding wrapped
varint_again at n rest lt =
    let small : n % 2 ^ 64 ≡ n = omega arith in
    rw (groups_again at 9 n rest (omega arith), small) refl

some-cond : (b : Bool) (x y : List ℕ) → 0 < length x → 0 < length y → 0 < length (cond b x y)
some-cond true x y h k = h
some-cond false x y h k = k

length-cond : (b : Bool) (x y : List ℕ) (n : ℕ) → length x ≤ n → length y ≤ n → length (cond b x y) ≤ n
length-cond true x y n h k = h
length-cond false x y n h k = k

-- it has at most ten bytes, and one or more
pub length-groups_of : (most n : ℕ) → length (groups_of most n) ≤ most
unfolding groups_of
length-groups_of zero n = omega arith
length-groups_of (suc most) n = length-cond (ltb n 128) (n ∷ []) ((n % 128 + 128) ∷ groups_of most (n / 128)) (suc most) (omega arith) (omega (arith, length-groups_of most (n / 128)))

pub groups_some : (most n : ℕ) → 0 < length (groups_of (suc most) n)
unfolding groups_of
groups_some most n = some-cond (ltb n 128) (n ∷ []) ((n % 128 + 128) ∷ groups_of most (n / 128)) (omega arith) (omega arith)
