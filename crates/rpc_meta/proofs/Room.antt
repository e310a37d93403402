-- Room for bytes, and for those after them.
use Rattle.std.proofs.Common.{◌≡◌, ℕ, ◌+◌, ◌≤◌, List, ◌++◌, length, arith}
use Rattle.std.proofs.lemmas.List.{length-append}

pub room_first : (len room : ℕ) (xs ys : List ℕ) → len + length (xs ++ ys) ≤ room → len + length xs ≤ room
room_first len room xs ys h = omega (arith, h, length-append xs ys)

pub room_behind : (len now room : ℕ) (xs ys : List ℕ) → len + length (xs ++ ys) ≤ room → now ≡ len + length xs → now + length ys ≤ room
room_behind len now room xs ys h e = omega (arith, h, e, length-append xs ys)

pub len_behind : (len now last : ℕ) (xs ys : List ℕ) → now ≡ len + length xs → last ≡ now + length ys → last ≡ len + length (xs ++ ys)
len_behind len now last xs ys e f = omega (arith, e, f, length-append xs ys)

pub ruleset rooms = (room_first, room_behind, len_behind)
