-- The place of the next direction is the number of requests so far, modulo the number of directions.
use Rattle.std.proofs.Common.{◌≡◌, ℕ, ◌+◌, ◌%◌, ◌<◌, Bool, cond, ltb, List, [], ◌∷◌, length, Option, Some, None, is_some, slice_get, refl, ap, sym, ◌∙◌, arith, inl, inr}
use Rattle.std.proofs.lemmas.Bool.{cases_lt, lt-ltb, le-ltb}
use Rattle.std.proofs.lemmas.Nat.{mod_below}
use Rattle.std.proofs.Math.Nat.{mod-add-mod, mod-eq_of_lt, mod_self, zero-mod}
use Rattle.rpc_model.specs.declared.direction.Direction.{Direction}
use Rattle.prpc_frames.specs.declared.frame.Frame.{Frame}
use Rattle.rpc_meta.specs.declared.meta.RequestMeta.{RequestMeta}
use Rattle.echo_server.specs.Answers.{Turn, turned, direction, or_plain}
use Rattle.echo_server.specs.Serving.{after_all, requests, direction_at}

-- one more request
next_at : (l at n : ℕ) → 0 < l → at ≡ n % l → cond (ltb (at + 1) l) (at + 1) 0 ≡ (n + 1) % l
next_at l at n some e =
    let whole : (at + 1) % l ≡ (n + 1) % l = ap (λ (x : ℕ). (x + 1) % l) e ∙ mod-add-mod n l 1 in
    let below : at < l = rw e (mod_below n l some) in
    elim (cases_lt (at + 1) l) [
      | inl small ↦ ap (λ (b : Bool). cond b (at + 1) 0) (lt-ltb (at + 1) l small) ∙ (sym (mod-eq_of_lt small) ∙ whole)
      | inr big ↦ let last : at + 1 ≡ l = omega (arith, below, big) in
          ap (λ (b : Bool). cond b (at + 1) 0) (le-ltb (at + 1) l big) ∙ (sym (mod_self l) ∙ (ap (λ (x : ℕ). x % l) (sym last) ∙ whole))
    ]

-- a frame with a request moves the place on, and no other frame does
place_after : (words : List Direction) (at n m : ℕ) (fs : List Frame) (o : Option RequestMeta) → 0 < length words → at ≡ n % length words
    → ((k j : ℕ) → k ≡ j % length words → after_all (record { words = words; at = k }) fs ≡ record { words = words; at = (j + m) % length words })
    → after_all (cond (is_some o) (turned (record { words = words; at = at })) (record { words = words; at = at })) fs ≡ record { words = words; at = (n + (cond (is_some o) 1 0 + m)) % length words }
place_after words at n m fs None some e others = others at n e ∙ ap (λ (x : ℕ). record { words = words; at = x % length words }) (let none : n + m ≡ n + (0 + m) = omega arith in none)
place_after words at n m fs (Some r) some e others =
    others (cond (ltb (at + 1) (length words)) (at + 1) 0) (n + 1) (next_at (length words) at n some e)
    ∙ ap (λ (x : ℕ). record { words = words; at = x % length words }) (let sum : n + 1 + m ≡ n + (1 + m) = omega arith in sum)

-- after some frames the place is that of the requests so far
at_after : (words : List Direction) (at n : ℕ) (fs : List Frame) → 0 < length words → at ≡ n % length words
    → after_all (record { words = words; at = at }) fs ≡ record { words = words; at = (n + requests fs) % length words }
unfolding after_all
at_after words at n [] some e = ap (λ (x : ℕ). record { words = words; at = x }) (e ∙ ap (λ (x : ℕ). x % length words) (let none : n ≡ n + 0 = omega arith in none))
at_after words at n (f ∷ fs) some e = place_after words at n (requests fs) fs f.meta.request some e (λ k j h. at_after words k j fs some h)

words_after : (t : Turn) (fs : List Frame) (o : Option RequestMeta) → ((u : Turn) → (after_all u fs).words ≡ u.words) → (after_all (cond (is_some o) (turned t) t) fs).words ≡ t.words
words_after t fs None others = others t
words_after t fs (Some r) others = others (turned t)

-- the words stay
words_stay : (t : Turn) (fs : List Frame) → (after_all t fs).words ≡ t.words
unfolding after_all
words_stay t [] = refl
words_stay t (f ∷ fs) = words_after t fs f.meta.request (λ u. words_stay u fs)

-- the direction after some frames
pub in_turn : (words : List Direction) (fs : List Frame) → direction (after_all (record { words = words; at = 0 }) fs) ≡ direction_at words (requests fs)
in_turn [] fs = ap (λ (ws : List Direction). or_plain (slice_get ws (after_all (record { words = []; at = 0 }) fs).at)) (words_stay (record { words = []; at = 0 }) fs)
in_turn (w ∷ words) fs =
    ap (λ (t : Turn). direction t) (at_after (w ∷ words) 0 0 fs (omega arith) (sym (zero-mod (length (w ∷ words)))))
    ∙ ap (λ (x : ℕ). direction_at (w ∷ words) x) (let none : 0 + requests fs ≡ requests fs = omega arith in none)
