-- The servers that lines mention, and their numbers.
use Rattle.std.proofs.Common.{◌≡◌, ℕ, ◌+◌, ◌<◌, ◌≤◌, false, List, [], ◌∷◌, ◌++◌, length, length-append, map, drop, get_or, unwrap_or, Option, Some, None, Bor, bytes_eq, arith, sym, ◌∙◌, refl}
use Rattle.std.proofs.Common.{append_assoc}
use Rattle.std.specs.Prelude.{nat_le}
use Rattle.std.proofs.lemmas.Bool.Decides.{nat_tests}
use Rattle.std.proofs.lemmas.List.{at_drop_more, at_drop_all}
use Rattle.rpc_model.specs.Words.{index_of}
use Rattle.rpc_model.specs.ChannelLines.{mention_at, mention, mention_all, numbers_of}
use Rattle.rpc_model.proofs.First.{position_some}

-- A place where a name stands is in the list.
index_below : (servers : List (List ℕ)) (name : List ℕ) (at : ℕ) → index_of servers name ≡ Some at → at < length servers
index_below servers name at e = (position_some (λ n. bytes_eq n name) servers at e).1

-- A server that is mentioned is one more, or one that was there.
mention_grows : (servers : List (List ℕ)) (name : List ℕ) → (length servers ≤ length (mention servers name)) × (1 ≤ length (mention servers name))
mention_grows servers name = by (index_of servers name) refl
  where
    by : (o : Option ℕ) → index_of servers name ≡ o → (length servers ≤ length (mention_at servers name o)) × (1 ≤ length (mention_at servers name o))
    by None e = (simp length-append (omega arith), simp length-append (omega arith))
    by (Some at) e = (omega arith, let below = index_below servers name at e in omega (arith, below))

pub mention_some : (servers : List (List ℕ)) (name : List ℕ) → 1 ≤ length (mention servers name)
mention_some servers name = (mention_grows servers name).1

-- No server goes.
pub mention_all_grows : (servers names : List (List ℕ)) → length servers ≤ length (mention_all servers names)
mention_all_grows servers [] = omega arith
mention_all_grows servers (name ∷ names) = omega (arith, (mention_grows servers name).0, mention_all_grows (mention servers name) names)

-- Where one is mentioned, there is one.
pub mention_all_some : (servers : List (List ℕ)) (names : List (Bor (List ℕ))) → 1 ≤ length names → 1 ≤ length (mention_all servers (map (λ n. n.now) names))
mention_all_some servers [] h = absurd (omega arith)
mention_all_some servers (name ∷ names) h = omega (arith, (mention_grows servers name.now).1, mention_all_grows (mention servers name.now) (map (λ n. n.now) names))

-- One more name is mentioned.
pub mentioned_next : (servers : List (List ℕ)) (names : List (Bor (List ℕ))) (i : ℕ) (d : Bor (List ℕ)) → i < length names
    → mention_all servers (map (λ n. n.now) (drop i names)) ≡ mention_all (mention servers (get_or names i d).now) (map (λ n. n.now) (drop (i + 1) names))
mentioned_next servers names i d h = at_drop_more (λ (ns : List (Bor (List ℕ))). mention_all servers (map (λ n. n.now) ns)) names i d h

-- None is left.
pub mentioned_all : (servers : List (List ℕ)) (names : List (Bor (List ℕ))) (i : ℕ) → length names ≤ i → mention_all servers (map (λ n. n.now) (drop i names)) ≡ servers
mentioned_all servers names i le = at_drop_all (λ (ns : List (Bor (List ℕ))). mention_all servers (map (λ n. n.now) ns)) names i le

-- One more name has no room, and so all have none.
pub mentioned_over : (servers : List (List ℕ)) (names : List (Bor (List ℕ))) (i : ℕ) (d : Bor (List ℕ)) → i < length names → false ≡ nat_le (length (mention servers (get_or names i d).now)) 16
    → false ≡ nat_le (length (mention_all servers (map (λ n. n.now) (drop i names)))) 16
mentioned_over servers names i d h over =
    rw (mentioned_next servers names i d h) (let more = mention_all_grows (mention servers (get_or names i d).now) (map (λ n. n.now) (drop (i + 1) names)) in grind (arith, nat_tests, over, more))

-- The number of a name is one of a server.
pub number_below : (servers : List (List ℕ)) (name : List ℕ) (o : Option ℕ) → o ≡ index_of servers name → 1 ≤ length servers → unwrap_or o 0 < length servers
number_below servers name None e h = omega (arith, h)
number_below servers name (Some at) e h = index_below servers name at (sym e)

-- One more number is found.
pub numbered_next : (servers : List (List ℕ)) (names : List (Bor (List ℕ))) (numbers : List ℕ) (i : ℕ) (d : Bor (List ℕ)) → i < length names
    → (numbers ++ unwrap_or (index_of servers (get_or names i d).now) 0 ∷ []) ++ numbers_of servers (map (λ n. n.now) (drop (i + 1) names)) ≡ numbers
    ++ numbers_of servers (map (λ n. n.now) (drop i names))
numbered_next servers names numbers i d h =
    append_assoc numbers (unwrap_or (index_of servers (get_or names i d).now) 0 ∷ []) (numbers_of servers (map (λ n. n.now) (drop (i + 1) names)))
    ∙ sym (at_drop_more (λ (ns : List (Bor (List ℕ))). numbers ++ numbers_of servers (map (λ n. n.now) ns)) names i d h)
