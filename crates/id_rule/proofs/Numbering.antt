-- The history with one more receipt: what it numbers, and what each pass has numbered.
use Rattle.std.proofs.Common.{⊎_elim, inl, inr, ◌⊎◌, ◌≡◌, ◌≢◌, ℕ, ◌+◌, ◌<◌, ◌≤◌, eq-eqb, ne_eqb, List, [], ◌∷◌, ◌++◌, append-nil, Bool, true, false, refl, sym, ap, ap₂, ◌∙◌, subst, arith}
use Rattle.std.specs.Prelude.{◌==◌, if◌then◌else◌}
use mathlib.Core.Logic.{dite}
use native.Mathlib.Decide.{ℕ_discrete}
use Rattle.id_rule.specs.Nodes.{numbers_of}
use Rattle.id_rule.specs.Receipts.{History, IsNoticed, HasSent, IsRisingBelow, occurrences, receipts_of_range}
use Rattle.id_rule.specs.Parts.{HasNumber, AreAll, own_number}
use Rattle.id_rule.specs.declared.view.Notice.{Notice}
use Rattle.id_rule.specs.declared.view.Receipt.{Receipt}
use Rattle.id_rule.proofs.Ended.{keyed, key_here, key_else}
use Rattle.id_rule.proofs.Lists.{holds_it}
use Rattle.id_rule.proofs.Receipts.{occurs_append, rises}

abbrev pub nil : List ℕ
nil = []

-- one receipt more
abbrev pub extra : ℕ → ℕ → Receipt → ℕ → ℕ → ℕ → List ℕ
extra slot first rc s f a = if s == slot then (if f == first then numbers_of a (rc ∷ []) else []) else []

-- the history with one more receipt
abbrev pub bumped : {E : Type 0} → History E → Notice → History E
bumped g new = record g {
  numbered = λ s f a. g.numbered s f a ++ extra new.slot new.first new.receipt s f a;
  sent = λ a. if a == new.receipt.pass then g.sent a + 1 else g.sent a;
  notice = keyed new.receipt.pass new.receipt.number new g.notice;
}

-- as many receipts as before, or one more
pub more_sent : {E : Type 0} (g : History E) (new : Notice) (a : ℕ) → g.sent a ≤ (bumped g new).sent a
more_sent {E} g new a = dite (ℕ_discrete a new.receipt.pass)
    (λ same. subst (λ (b : Bool). g.sent a ≤ (if b then g.sent a + 1 else g.sent a)) (sym (eq-eqb a new.receipt.pass same)) (omega arith))
    (λ ne. subst (λ (b : Bool). g.sent a ≤ (if b then g.sent a + 1 else g.sent a)) (sym (ne_eqb a new.receipt.pass ne)) (omega arith))

-- what was queued so before stays
pub noticed_more : {E : Type 0} (g : History E) (new x : Notice) → new.receipt.number ≡ g.sent new.receipt.pass → IsNoticed g x → IsNoticed (bumped g new) x
noticed_more {E} g new x next was = (
  (let more = more_sent g new x.receipt.pass in let low = was.0 in omega (arith, more, low)),
  key_else new.receipt.pass new.receipt.number new g.notice x.receipt.pass x.receipt.number
      (λ same e. let low = was.0 in let at : g.sent x.receipt.pass ≡ g.sent new.receipt.pass = ap g.sent same in omega (arith, low, e, next, at))
      ∙ was.1,
)

-- the error that was queued now
pub noticed_new : {E : Type 0} (g : History E) (new : Notice) → new.receipt.number ≡ g.sent new.receipt.pass → IsNoticed (bumped g new) new
noticed_new {E} g new next = (
  subst (λ (b : Bool). new.receipt.number < (if b then g.sent new.receipt.pass + 1 else g.sent new.receipt.pass)) (sym (eq-eqb new.receipt.pass new.receipt.pass refl)) (omega (arith, next)),
  key_here new.receipt.pass new.receipt.number new g.notice,
)

-- a receipt has no number of another pass
pub not_its : (a : ℕ) (rc : Receipt) → rc.pass ≢ a → numbers_of a (rc ∷ []) ≡ []
not_its a rc ne = ap (λ b. (if b then rc.number ∷ [] else []) ++ []) (ne_eqb rc.pass a ne)

-- a receipt adds nothing for another pass
pub extra_else : (slot first : ℕ) (rc : Receipt) (s f a : ℕ) → rc.pass ≢ a → extra slot first rc s f a ≡ []
extra_else slot first rc s f a ne = ap (λ (z : List ℕ). if s == slot then (if f == first then z else []) else []) (not_its a rc ne) ∙ both (s == slot) (f == first)
  where
    one : (c : Bool) → (if c then nil else nil) ≡ nil
    one true = refl
    one false = refl

    both : (b c : Bool) → (if b then (if c then nil else nil) else nil) ≡ nil
    both true c = one c
    both false c = refl

-- a receipt adds its number for its own slot, range and pass
pub extra_here : (slot first : ℕ) (rc : Receipt) (a : ℕ) → extra slot first rc slot first a ≡ numbers_of a (rc ∷ [])
extra_here slot first rc a = ap (λ (b : Bool). if b then (if first == first then numbers_of a (rc ∷ []) else nil) else nil) (eq-eqb slot slot refl)
    ∙ ap (λ (b : Bool). if b then numbers_of a (rc ∷ []) else nil) (eq-eqb first first refl)

-- a receipt adds nothing for another slot
pub extra_slot : (slot first : ℕ) (rc : Receipt) (s f a : ℕ) → s ≢ slot → extra slot first rc s f a ≡ []
extra_slot slot first rc s f a ne = ap (λ (b : Bool). if b then (if f == first then numbers_of a (rc ∷ []) else nil) else nil) (ne_eqb s slot ne)

-- a receipt adds nothing for another range
pub extra_range : (slot first : ℕ) (rc : Receipt) (f a : ℕ) → f ≢ first → extra slot first rc slot f a ≡ []
extra_range slot first rc f a ne = ap (λ (b : Bool). if b then (if f == first then numbers_of a (rc ∷ []) else nil) else nil) (eq-eqb slot slot refl)
    ∙ ap (λ (b : Bool). if b then numbers_of a (rc ∷ []) else nil) (ne_eqb f first ne)

-- what the pushed receipt adds to the view's
pub extra_at : (slot first : ℕ) (rc : Receipt) (s f a : ℕ) → s ≡ slot → numbers_of a (receipts_of_range f ((first, rc) ∷ [])) ≡ extra slot first rc s f a
extra_at slot first rc s f a same = dite (ℕ_discrete first f)
    (λ e. ap (λ (b : Bool). numbers_of a ((if b then rc ∷ [] else []) ++ [])) (eq-eqb first f e) ∙ sym (ap₂ (λ (x y : ℕ). extra slot first rc x y a) same (sym e) ∙ extra_here slot first rc a))
    (λ ne. ap (λ (b : Bool). numbers_of a ((if b then rc ∷ [] else []) ++ [])) (ne_eqb first f ne)
    ∙ sym (ap (λ (x : ℕ). extra slot first rc x f a) same ∙ extra_range slot first rc f a (λ e. ne (sym e))))

-- a choice that takes in what is added, where the other side adds nothing
pub joins_if : (n m : ℕ) (xs ys : List ℕ) → (n ≢ m → ys ≡ []) → (if n == m then xs else []) ++ ys ≡ (if n == m then xs ++ ys else [])
joins_if n m xs ys away = dite (ℕ_discrete n m)
    (λ e. ap (λ (b : Bool). (if b then xs else nil) ++ ys) (eq-eqb n m e) ∙ sym (ap (λ (b : Bool). if b then xs ++ ys else nil) (eq-eqb n m e)))
    (λ ne. ap (λ (b : Bool). (if b then xs else nil) ++ ys) (ne_eqb n m ne) ∙ away ne ∙ sym (ap (λ (b : Bool). if b then xs ++ ys else nil) (ne_eqb n m ne)))

-- a choice to which nothing is added
pub adds_none : (n m : ℕ) (xs ys : List ℕ) → (n ≡ m → ys ≡ []) → (if n == m then xs else []) ≡ (if n == m then xs ++ ys else [])
adds_none n m xs ys away = dite (ℕ_discrete n m)
    (λ e. ap (λ (b : Bool). if b then xs else nil) (eq-eqb n m e) ∙ sym (ap (λ (b : Bool). if b then xs ++ ys else nil) (eq-eqb n m e) ∙ ap (λ z. xs ++ z) (away e) ∙ append-nil xs))
    (λ ne. ap (λ (b : Bool). if b then xs else nil) (ne_eqb n m ne) ∙ sym (ap (λ (b : Bool). if b then xs ++ ys else nil) (ne_eqb n m ne)))

-- a view's count is that of its own number
pub counts_is : (sent : ℕ → ℕ) (ns : List ℕ) (n : ℕ) → HasNumber (own_number ns) ns → HasSent sent ns n → n ≡ sent (own_number ns)
counts_is sent [] n has c = absurd has
counts_is sent (a ∷ ns) n has c = c

-- the pushing pass has numbered one more
pub counts_own : (sent : ℕ → ℕ) (own : ℕ) (ns : List ℕ) (n : ℕ) → own ≡ own_number ns → HasNumber (own_number ns) ns → HasSent sent ns n
    → HasSent (λ a. if a == own then sent a + 1 else sent a) ns (n + 1)
counts_own sent own [] n is has c = absurd has
counts_own sent own (a ∷ ns) n is has c = ap (λ z. z + 1) c ∙ sym (ap (λ (b : Bool). if b then sent a + 1 else sent a) (eq-eqb a own (sym is)))

-- other passes have numbered as many as before
pub counts_other : (sent : ℕ → ℕ) (own : ℕ) (ns : List ℕ) (n : ℕ) → (HasNumber own ns → ⊥) → HasSent sent ns n → HasSent (λ a. if a == own then sent a + 1 else sent a) ns n
counts_other sent own [] n away c = tt
counts_other sent own (a ∷ ns) n away c = c ∙ sym (ap (λ (b : Bool). if b then sent a + 1 else sent a) (ne_eqb a own (λ e. away (inl e))))

-- another seat's view doesn't have the number
pub other_number : (count by : ℕ) (holder : ℕ → ℕ) (a : ℕ) (ns : List ℕ) → HasNumber a ns → AreAll (λ n. (n < count) × (holder n ≡ by)) ns → (holder a ≡ by → ⊥) → ⊥
other_number count by holder a ns has all away = away (holds_it a count by holder ns has all)

-- the numbers rise with the one that was pushed
pub rises_more : {E : Type 0} (g : History E) (new : Notice) (s f a : ℕ) → new.receipt.number ≡ g.sent new.receipt.pass → IsRisingBelow (g.numbered s f a) (g.sent a)
    → IsRisingBelow ((bumped g new).numbered s f a) ((bumped g new).sent a)
rises_more g new s f a next all = let slot = new.slot in let first = new.first in let rc = new.receipt in dite (ℕ_discrete a rc.pass)
    (λ own. let more : (if a == rc.pass then g.sent a + 1 else g.sent a) ≡ g.sent a + 1 = ap (λ (b : Bool). if b then g.sent a + 1 else g.sent a) (eq-eqb a rc.pass own) in
    ⊎_elim
    (λ none_more. subst (λ (z : List ℕ × ℕ). IsRisingBelow z.0 z.1) (λ y. (sym (ap (λ z. g.numbered s f a ++ z) none_more ∙ append-nil (g.numbered s f a)) y, sym more y))
    (all.0, λ n h. let t = all.1 n h in omega (arith, t)))
    (λ one_more. let is : rc.number ≡ g.sent a = next ∙ ap g.sent (sym own) in
    subst (λ (z : List ℕ × ℕ). IsRisingBelow z.0 z.1) (λ y. (sym (ap (λ z. g.numbered s f a ++ z) one_more) y, sym more y)) (
      rises 0 rc.number (g.numbered s f a) (omega arith) all.0 (λ n h. let t = all.1 n h in omega (arith, t, is)),
      (λ n h. last_below n (g.numbered s f a) rc.number (g.sent a) is all.1 h),
    ))
    (extra_cases slot first rc s f a own))
    (λ ne. subst (λ (z : List ℕ × ℕ). IsRisingBelow z.0 z.1) (λ y. (
      sym (ap (λ z. g.numbered s f a ++ z) (extra_else slot first rc s f a (λ e. ne (sym e))) ∙ append-nil (g.numbered s f a)) y,
      sym (ap (λ (b : Bool). if b then g.sent a + 1 else g.sent a) (ne_eqb a rc.pass ne)) y,
    )) all)
  where
    extra_cases : (slot first : ℕ) (rc : Receipt) (s f a : ℕ) → a ≡ rc.pass → (extra slot first rc s f a ≡ []) ⊎ (extra slot first rc s f a ≡ rc.number ∷ [])
    extra_cases slot first rc s f a own = dite (ℕ_discrete s slot)
        (λ same. dite (ℕ_discrete f first)
        (λ e. inr (ap₂ (λ (x y : ℕ). extra slot first rc x y a) same e ∙ extra_here slot first rc a ∙ ap (λ (b : Bool). (if b then rc.number ∷ [] else []) ++ []) (eq-eqb rc.pass a (sym own))))
        (λ ne. inl (ap (λ (x : ℕ). extra slot first rc x f a) same ∙ extra_range slot first rc f a ne)))
        (λ ne. inl (extra_slot slot first rc s f a ne))

    last_below : (n : ℕ) (ns : List ℕ) (m next : ℕ) → m ≡ next → ((k : ℕ) → 1 ≤ occurrences k ns → k < next) → 1 ≤ occurrences n (ns ++ m ∷ []) → n < next + 1
    last_below n ns m next is below h = dite (ℕ_discrete m n)
        (λ e. omega (arith, e, is))
        (λ ne. let u : ℕ = 1 in let z : ℕ = 0 in let none : (if m == n then u else z) ≡ z = ap (λ (b : Bool). if b then u else z) (ne_eqb m n ne) in
        let t = below n (let p = occurs_append n ns (m ∷ []) in omega (arith, p, h, none)) in omega (arith, t))
