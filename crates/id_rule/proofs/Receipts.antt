-- What each step does to the lists of receipts.
use Rattle.std.proofs.Common.{◌≡◌, ℕ, ◌+◌, ◌<◌, ◌≤◌, eq-eqb, List, [], ◌∷◌, ◌++◌, append_assoc, append-nil, refl, sym, ap, ap₂, ◌∙◌, arith, Option}
use Rattle.std.specs.Prelude.{◌==◌, if◌then◌else◌, reverse}
use Rattle.std.proofs.lemmas.List.{reverse-append}
use Rattle.id_rule.specs.declared.view.Receipt.{Receipt}
use Rattle.id_rule.specs.declared.view.Queued.{Queued}
use Rattle.id_rule.specs.Nodes.{number_if, numbers_of, receipts_of}
use Rattle.id_rule.specs.Receipts.{History, IsGoingOn, occurrences, IsReordered, receipt_if, receipts_of_range, receipts_from, receipts_in, IsRising, IsFresh, AreLogged, AreWaiting, AreSettled}

-- how often a number stands in two lists
pub occurs_append : (n : ℕ) (xs ys : List ℕ) → occurrences n (xs ++ ys) ≡ occurrences n xs + occurrences n ys
occurs_append n [] ys = omega arith
occurs_append n (x ∷ xs) ys = let more = occurs_append n xs ys in let one : ℕ = if x == n then 1 else 0 in omega (arith, more)

-- the numbers of two lists of receipts
pub numbers_append : (a : ℕ) (xs ys : List Receipt) → numbers_of a (xs ++ ys) ≡ numbers_of a xs ++ numbers_of a ys
numbers_append a [] ys = refl
numbers_append a (r ∷ rs) ys = ap (λ l. number_if a r ++ l) (numbers_append a rs ys) ∙ sym (append_assoc (number_if a r) (numbers_of a rs) (numbers_of a ys))

-- the receipts for a range in two lists
pub at_append : (first : ℕ) (xs ys : List (ℕ × Receipt)) → receipts_of_range first (xs ++ ys) ≡ receipts_of_range first xs ++ receipts_of_range first ys
at_append first [] ys = refl
at_append first (r ∷ rs) ys = ap (λ l. receipt_if first r ++ l) (at_append first rs ys) ∙ sym (append_assoc (receipt_if first r) (receipts_of_range first rs) (receipts_of_range first ys))

-- the receipts of two logs, one behind the other
pub in_append : {E : Type 0} (rec : E → Option Receipt) (xs ys : List E) → receipts_in rec (xs ++ ys) ≡ receipts_in rec xs ++ receipts_in rec ys
in_append rec [] ys = refl
in_append rec (e ∷ es) ys = ap (λ l. receipts_from (rec e) ++ l) (in_append rec es ys) ∙ sym (append_assoc (receipts_from (rec e)) (receipts_in rec es) (receipts_in rec ys))

-- a range begins without receipts
pub begins : {E : Type 0} (f : ℕ) (g : History E) (slot : ℕ) (logged : List Receipt) → IsFresh g slot f → logged ≡ [] → AreWaiting (g.numbered slot f) logged [] [] × IsFresh g slot (f + 1)
    × IsGoingOn g slot f
begins f g slot logged fresh bare = (
  (λ a. ([], (fresh f (omega arith)).0 a, λ n. ap (λ (z : List Receipt). occurrences n (numbers_of a z)) (sym bare))),
  (λ h more. fresh h (omega arith)),
  (fresh f (omega arith)).1,
)

-- at a lock nothing waits
pub at_lock : (numbered : ℕ → List ℕ) (logged : List Receipt) → AreLogged numbered logged → AreWaiting numbered logged [] []
at_lock numbered logged all a = (numbered a, sym (append-nil (numbered a)), all a)

-- what the holder got stands in the log
pub at_unlock : {E : Type 0} (rec : E → Option Receipt) (numbered : ℕ → List ℕ) (l new log : List E) (got : List Receipt) → AreWaiting numbered (receipts_in rec l) got [] → l ++ new ≡ log
    → ((a : ℕ) → IsReordered (numbers_of a got) (numbers_of a (receipts_in rec new))) → AreLogged numbered (receipts_in rec log)
at_unlock {E = E} rec numbered l new log got waits grown all a n =
    let w = waits a in
    let one = ap (occurrences n) (w.1 ∙ ap (λ (z : List Receipt). w.0 ++ numbers_of a z) (append-nil got)) ∙ occurs_append n w.0 (numbers_of a got) in
    let two = ap (λ (z : List E). occurrences n (numbers_of a (receipts_in rec z))) (sym grown) ∙ ap (λ (z : List Receipt). occurrences n (numbers_of a z)) (in_append rec l new)
    ∙ ap (occurrences n) (numbers_append a (receipts_in rec l) (receipts_in rec new)) ∙ occurs_append n (numbers_of a (receipts_in rec l)) (numbers_of a (receipts_in rec new)) in
    let old = w.2 n in let got_it = all a n in
    one ∙ ap₂ (λ (x y : ℕ). x + y) old got_it ∙ sym two

-- a receipt more, last in the chain
pub at_push : (numbered more : ℕ → List ℕ) (logged got : List Receipt) (q : Queued) (qs : List Queued) → AreWaiting numbered logged got qs
    → ((a : ℕ) → more a ≡ numbered a ++ numbers_of a (q.receipt ∷ [])) → AreWaiting more logged got (q ∷ qs)
at_push numbered more logged got q qs waits is a =
    let w = waits a in
    let rs : List Receipt = reverse (receipts_of qs) in
    let one : List Receipt = q.receipt ∷ [] in (
      w.0,
      is a ∙ ap (λ l. l ++ numbers_of a one) w.1 ∙ append_assoc w.0 (numbers_of a (got ++ rs)) (numbers_of a one)
          ∙ ap (λ l. w.0 ++ l) (sym (numbers_append a (got ++ rs) one) ∙ ap (numbers_of a) (append_assoc got rs one ∙ ap (λ l. got ++ l) (sym (reverse-append one (receipts_of qs))))),
      w.2,
    )

-- the chain's receipts are the holder's
pub at_take : (numbered : ℕ → List ℕ) (logged got : List Receipt) (qs : List Queued) → AreWaiting numbered logged got qs → AreWaiting numbered logged (got ++ reverse (receipts_of qs)) []
at_take numbered logged got qs waits a = let w = waits a in (w.0, w.1 ∙ ap (λ (z : List Receipt). w.0 ++ numbers_of a z) (sym (append-nil (got ++ reverse (receipts_of qs)))), w.2)

-- what the last entries leave out is dropped
pub at_destroy : {E : Type 0} (rec : E → Option Receipt) (numbered : ℕ → List ℕ) (l new log : List E) (got lost : List Receipt) (qs : List Queued) → AreWaiting numbered (receipts_in rec l) got qs
    → l ++ new ≡ log
    → ((a : ℕ) → IsReordered (numbers_of a got) (numbers_of a (receipts_in rec new) ++ numbers_of a lost)) → AreSettled numbered (receipts_in rec log) (lost ++ reverse (receipts_of qs))
at_destroy {E = E} rec numbered l new log got lost qs waits grown all a n =
    let w = waits a in
    let rs : List Receipt = reverse (receipts_of qs) in
    let la : List ℕ = numbers_of a (receipts_in rec l) in
    let na : List ℕ = numbers_of a (receipts_in rec new) in
    let left : occurrences n (numbered a) ≡ occurrences n w.0 + (occurrences n (numbers_of a got) + occurrences n (numbers_of a rs)) =
    ap (occurrences n) (w.1 ∙ ap (λ z. w.0 ++ z) (numbers_append a got rs)) ∙ occurs_append n w.0 (numbers_of a got ++ numbers_of a rs)
    ∙ ap (λ (z : ℕ). occurrences n w.0 + z) (occurs_append n (numbers_of a got) (numbers_of a rs)) in
    let logged : occurrences n (numbers_of a (receipts_in rec log)) ≡ occurrences n la + occurrences n na =
    ap (λ (z : List E). occurrences n (numbers_of a (receipts_in rec z))) (sym grown) ∙ ap (λ (z : List Receipt). occurrences n (numbers_of a z)) (in_append rec l new)
    ∙ ap (occurrences n) (numbers_append a (receipts_in rec l) (receipts_in rec new)) ∙ occurs_append n la na in
    let gone : occurrences n (numbers_of a (lost ++ rs)) ≡ occurrences n (numbers_of a lost) + occurrences n (numbers_of a rs) = ap (occurrences n) (numbers_append a lost rs)
    ∙ occurs_append n (numbers_of a lost) (numbers_of a rs) in
    let right : occurrences n (numbers_of a (receipts_in rec log) ++ numbers_of a (lost ++ rs)) ≡ occurrences n (numbers_of a (receipts_in rec log)) + occurrences n (numbers_of a (lost ++ rs)) =
    occurs_append n (numbers_of a (receipts_in rec log)) (numbers_of a (lost ++ rs)) in
    let old : occurrences n w.0 ≡ occurrences n la = w.2 n in
    let got_it : occurrences n (numbers_of a got) ≡ occurrences n na + occurrences n (numbers_of a lost) = all a n ∙ occurs_append n na (numbers_of a lost) in
    omega (arith, left, logged, gone, right, old, got_it)

-- a rising list rises from any lower number on
rising_low : (least more : ℕ) (ns : List ℕ) → least ≤ more → IsRising more ns → IsRising least ns
rising_low least more [] low all = tt
rising_low least more (n ∷ ns) low all = (omega (arith, low, all.0), all.1)

-- what comes after rises too
pub rising_after : (least : ℕ) (ns ms : List ℕ) → IsRising least (ns ++ ms) → IsRising least ms
rising_after least [] ms all = all
rising_after least (n ∷ ns) ms all = rising_low least (n + 1) ms (omega (arith, all.0)) (rising_after (n + 1) ns ms all.1)

-- a pass's numbers rise with one more that is above them
pub rises : (least most : ℕ) (ns : List ℕ) → least ≤ most → IsRising least ns → ((n : ℕ) → 1 ≤ occurrences n ns → n < most) → IsRising least (ns ++ most ∷ [])
rises least most [] low all below = (low, tt)
rises least most (n ∷ ns) low all below =
    let here : n < most = below n (let u : ℕ = 1 in let z : ℕ = 0 in let one : (if n == n then u else z) ≡ u = ap (λ b. if b then u else z) (eq-eqb n n refl) in omega (arith, one)) in
    (all.0, rises (n + 1) most ns (omega (arith, here)) all.1 (λ m h. below m (omega (arith, h))))
