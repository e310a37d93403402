-- What holds while `reserve` looks for a vacant slot.
use Rattle.std.proofs.Common.{◌≡◌, ◌≢◌, ℕ, ◌+◌, ◌%◌, ◌<◌, ◌≤◌, List, [], ◌∷◌, ◌++◌, length, length-append, sym, ap, ap₂, ◌∙◌, subst, arith}
use Rattle.std.specs.Prelude.{◌==◌, true}
use Rattle.std.proofs.lemmas.Bool.Decides.{nat_tests}
use Rattle.id_rule.specs.Changes.{view_after_load}
use Rattle.id_rule.specs.declared.rule.Sizes.{Sizes}
use Rattle.id_rule.specs.declared.view.View.{View}
use Rattle.id_rule.specs.Parts.{AreAll, part_of}
use Rattle.rpc_model.specs.Gone.{code_in}
use Rattle.id_shared.proofs.Loads.{loads_more, loads_keep}
use Rattle.id_rule.specs.declared.view.Part.{Part}
use Rattle.id_shared.specs.Answers.{IsSize, IsReservedFrom, IsReserved, start_of, view_after_round}
use Rattle.id_shared.specs.declared.answers.Reserve.{Reserve}
use Rattle.id_shared.specs.declared.answers.Reserve.TheVariants as reserve
use Rattle.id_shared.specs.Standing.{IdTable, Standing, IsPassOf}
use Rattle.id_shared.specs.Views.{words_round, view_after_loads, view_with_spot}

-- the words of one slot more
words_more : (slots at n : ℕ) (ns : List ℕ) → words_round slots at (ns ++ n ∷ []) ≡ words_round slots at ns ++ ((at + length ns) % slots, n) ∷ []
words_more slots at n [] = ap (λ (z : ℕ). (z % slots, n) ∷ []) (omega arith)
words_more slots at n (m ∷ ns) =
    ap (λ z. (at % slots, m) ∷ z) (words_more slots (at + 1) n ns ∙ ap (λ (z : ℕ). words_round slots (at + 1) ns ++ (z % slots, n) ∷ []) (omega arith))

-- a number that the test says is this one
pub tested : (n m : ℕ) → (n == m) ≡ true → n ≡ m
tested n m e = grind (arith, nat_tests)

-- what holds of each holds of one more
pub all_more : (P : ℕ → Type 0) (ns : List ℕ) (n : ℕ) → AreAll P ns → P n → AreAll P (ns ++ n ∷ [])
all_more P [] n all one = (one, tt)
all_more P (m ∷ ns) n all one = (all.0, all_more P ns n all.1 one)

module _ {E : Type 0} where
  -- so many slots were looked at from this one on, counted round, and none was vacant
  pub record IsLooking (ids : IdTable) (start : ℕ) (before : View E) (count : ℕ) (p : Standing E) : Type 0 where
    pub own : IsPassOf ids p
    pub view : p.view ≡ view_after_loads before (words_round ids.sizes.slots start p.words)
    pub long : length p.words ≡ count
    pub full : AreAll (λ n. code_in n ≢ 0) p.words
    pub most : count ≤ ids.sizes.slots

  -- one slot more was looked at, and its word noted
  pub looked_more : (slots start : ℕ) (before : View E) (count n : ℕ) (p q : Standing E) → length p.words ≡ count
      → p.view ≡ view_after_loads before (words_round slots start p.words) → q.view ≡ view_after_load p.view ((start + count) % slots) n
      → q.words ≡ p.words ++ n ∷ [] → q.view ≡ view_after_loads before (words_round slots start q.words)
  looked_more slots start before count n p q long was view words =
      let xs = words_round slots start p.words in let slot = (start + count) % slots in
      let place : words_round slots start (p.words ++ n ∷ []) ≡ xs ++ (slot, n) ∷ [] =
      words_more slots start n p.words ∙ ap (λ (z : ℕ). xs ++ ((start + z) % slots, n) ∷ []) long in
      view ∙ ap (λ v. view_after_load v slot n) was ∙ sym (loads_more before xs ((slot, n) ∷ [])) ∙ ap (view_after_loads before) (sym place)
      ∙ ap (λ ns. view_after_loads before (words_round slots start ns)) (sym words)

  -- the next slot, where this one wasn't vacant
  pub looks_on : (ids : IdTable) (start : ℕ) (before : View E) (count n : ℕ) (p q : Standing E) → IsLooking ids start before count p → IsPassOf ids q
      → q.view ≡ view_after_load p.view ((start + count) % ids.sizes.slots) n → q.words ≡ p.words ++ n ∷ [] → code_in n ≢ 0 → count < ids.sizes.slots
      → IsLooking ids start before (count + 1) q
  looks_on ids start before count n p q was own view words ne low = record {
    own = own;
    view = looked_more ids.sizes.slots start before count n p q was.long was.view view words;
    long = ap length words ∙ length-append p.words (n ∷ []) ∙ ap (λ (z : ℕ). z + 1) was.long;
    full = subst (AreAll (λ m. code_in m ≢ 0)) (sym words) (all_more (λ m. code_in m ≢ 0) p.words n was.full ne);
    most = omega (arith, low);
  }

  -- the slots that were looked at, as the answer speaks of them
  round_is : (sizes : Sizes) (start : ℕ) (p : Standing E) (words : List ℕ) → start ≡ start_of sizes p
      → view_after_loads p.view (words_round sizes.slots start words) ≡ view_after_round sizes p words
  round_is sizes start p words = ap (λ (z : ℕ). view_after_loads p.view (words_round sizes.slots z words))

  -- a vacant word and what came of its exchange make the answer
  pub reserved_at : (ids : IdTable) (start range count word : ℕ) (p l k q : Standing E) (answer : Reserve) → start ≡ start_of ids.sizes p → IsSize range
      → count < ids.sizes.slots → IsLooking ids start p.view count l → k.view ≡ view_after_load l.view ((start + count) % ids.sizes.slots) word
      → k.words ≡ l.words ++ word ∷ [] → code_in word ≡ 0 → IsReservedFrom ((start + count) % ids.sizes.slots) word range k answer q
      → IsReserved ids.sizes range p answer q
  reserved_at ids start range count word p l k q (reserve.Spot c) from size low was view words vacant a =
      let slots = ids.sizes.slots in
      let same : q.words ≡ k.words = ap (λ z. z.words) a.3 in
      let seen = looked_more slots start p.view count word l k was.long was.view view words in
      let round = seen ∙ ap (λ ns. view_after_loads p.view (words_round slots start ns)) (sym same) ∙ round_is ids.sizes start p q.words from in
      let turned : (start_of ids.sizes p + length l.words) % slots ≡ (start + count) % slots = ap₂ (λ (y z : ℕ). (y + z) % slots) (sym from) was.long in (
        size,
        (word, (vacant, (l.words, same ∙ words, turned ∙ sym a.0, subst (λ (z : ℕ). z < slots) (sym was.long) low, was.full)), a.1),
        a.2,
        ap (λ z. z.view) a.3 ∙ ap (λ v. view_with_spot v c) round,
        sym (ap (λ (z : Part E). z.spot) (loads_keep p.view (words_round slots start k.words) c.slot).1) ∙ ap (λ v. (part_of v c.slot).spot) (sym seen)
            ∙ ap (λ (z : ℕ). (part_of k.view z).spot) a.0 ∙ a.4,
      )
  reserved_at ids start range count word p l k q reserve.Full from size low was view words vacant a = absurd a
  reserved_at ids start range count word p l k q (reserve.Again old found) from size low was view words vacant a =
      let slots = ids.sizes.slots in
      let same : q.words ≡ k.words = ap (λ z. z.words) a.2 in
      let seen = looked_more slots start p.view count word l k was.long was.view view words in
      let round = seen ∙ ap (λ ns. view_after_loads p.view (words_round slots start ns)) (sym same) ∙ round_is ids.sizes start p q.words from in
      let turned : (start_of ids.sizes p + length l.words) % slots ≡ (start + count) % slots = ap₂ (λ (y z : ℕ). (y + z) % slots) (sym from) was.long in
      let here : q.words ≡ l.words ++ old ∷ [] = same ∙ words ∙ ap (λ (n : ℕ). l.words ++ n ∷ []) (sym a.0) in (
        size,
        (λ e. a.1 (e ∙ a.0)),
        (
          (start + count) % slots,
          (ap code_in a.0 ∙ vacant, (l.words, here, turned, subst (λ (z : ℕ). z < slots) (sym was.long) low, was.full)),
          ap (λ z. z.view) a.2 ∙ ap (λ v. view_after_load v ((start + count) % slots) found) round,
        ),
      )
  reserved_at ids start range count word p l k q reserve.BadRange from size low was view words vacant a = absurd a
