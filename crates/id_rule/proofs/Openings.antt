-- The rule holds of a new table, and while its passes are handed out.
use Rattle.std.proofs.Common.{⊎_elim, ◌≡◌, ◌≢◌, ℕ, zero, suc, ◌+◌, ◌*◌, ◌<◌, ◌≤◌, eq-eqb, ne_eqb, List, [], ◌∷◌, ◌++◌, map, length, set, length-set, length-append, refl, sym, ap, ◌∙◌, subst}
use Rattle.std.proofs.Common.{arith, Option, Some, None}
use Rattle.std.specs.Prelude.{◌==◌, if◌then◌else◌, replicate}
use Rattle.std.proofs.lemmas.Option.{none-some, same_Some}
use mathlib.Core.Logic.{dite}
use mathlib.Core.Option.{some, some-injective, some-ne-none}
use native.Mathlib.Decide.{ℕ_discrete, dec_le}
use lib.ListN.{get_elem?}
use Rattle.atomic_table.specs.Table.{opening, Splits}
use Rattle.id_rule.specs.Words.{packed_word}
use Rattle.id_rule.specs.Nodes.{Place, idle, in_hand, in_queue, on_list, word_at, IsTakenList, IsPlaced}
use Rattle.id_rule.specs.Receipts.{History, IsNoticed, HasSent}
use Rattle.id_rule.specs.Parts.{blank_part, part_of, opening_view, next_after, list_of, giving_view, given_view, AreAll}
use Rattle.id_rule.specs.Phases.{Phase, vacant, reserved, free, locked, ended, taken, retired, IsPart, IsSeated}
use Rattle.id_rule.specs.Rule.{HasInHand, IsInformed, IsNumbered, IsKept}
use Rattle.id_rule.specs.declared.view.Receipt.{Receipt}
use Rattle.id_rule.specs.declared.rule.Sizes.{Sizes}
use Rattle.id_rule.specs.declared.view.View.{View}
use Rattle.id_rule.proofs.Lists.{views_after, there_below}
use Rattle.id_rule.proofs.Lists.{at_end}

-- who is not among the seats has nothing
blank_fits : {T E : Type 0} (log : T → List E) (ph : Phase T E) (n : ℕ) → IsSeated ph n → IsPart log ph n blank_part
blank_fits log (vacant f) n h = record { spot = refl; hold = refl; owner = refl; knows = λ f l e. absurd e; turn = refl; taking = refl; ended_below = omega arith; got = refl }
blank_fits log (reserved f r who) n h = record {
  spot = sym (ap (λ b. if b then Some (f, r) else None) (ne_eqb who n (λ e. omega arith)));
  hold = refl;
  owner = refl;
  knows = λ f l e. absurd e;
  turn = refl;
  taking = refl;
  ended_below = omega arith;
  got = refl;
}
blank_fits log (free r x) n h = record {
  spot = refl;
  hold = refl;
  owner = sym (ap (λ b. if b then Some (r.first, r.size) else None) (ne_eqb r.owner n (λ e. omega arith)));
  knows = λ f l e. absurd e;
  turn = refl;
  taking = refl;
  ended_below = omega arith;
  got = refl;
}
blank_fits log (locked r who l qs got) n h = record {
  spot = refl;
  hold = sym (ap (λ b. if b then Some (r.first, r.size) else None) (ne_eqb who n (λ e. omega arith)));
  owner = sym (ap (λ b. if b then Some (r.first, r.size) else None) (ne_eqb r.owner n (λ e. omega arith)));
  knows = λ f k e. absurd e;
  turn = sym (ap (λ b. if b then Some l else None) (ne_eqb who n (λ e. omega arith)));
  taking = refl;
  ended_below = omega arith;
  got = sym (ap (λ b. if b then got else []) (ne_eqb who n (λ e. omega arith)));
}
blank_fits log (ended r x) n h = record {
  spot = refl;
  hold = refl;
  owner = sym (ap (λ b. if b then Some (r.first, r.size) else None) (ne_eqb r.owner n (λ e. omega arith)));
  knows = λ f l e. absurd e;
  turn = refl;
  taking = refl;
  ended_below = omega arith;
  got = refl;
}
blank_fits log (taken r l) n h = record {
  spot = refl;
  hold = refl;
  owner = refl;
  knows = λ f k e. absurd e;
  turn = refl;
  taking = sym (ap (λ b. if b then Some (r.first, r.size) else None) (ne_eqb r.owner n (λ e. omega arith)));
  ended_below = omega arith;
  got = refl;
}
blank_fits log (retired f) n h = record { spot = refl; hold = refl; owner = refl; knows = λ f l e. absurd e; turn = refl; taking = refl; ended_below = tt; got = refl }

-- a seat that has nothing fits there too
more_seats : {T E : Type 0} (ph : Phase T E) (n : ℕ) → IsSeated ph n → IsSeated ph (n + 1)
more_seats (vacant f) n h = tt
more_seats (reserved f r who) n h = omega arith
more_seats (free r x) n h = omega arith
more_seats (locked r who l qs got) n h = (omega arith, omega arith)
more_seats (ended r x) n h = omega arith
more_seats (taken r l) n h = omega arith
more_seats (retired f) n h = tt

-- a node with one of n seats is with one of n + 1
more_placed : (n : ℕ) (p : Place) → IsPlaced n p → IsPlaced (n + 1) p
more_placed n idle h = tt
more_placed n (in_hand by) h = omega arith
more_placed n (in_queue a b) h = tt
more_placed n (on_list by k) h = omega arith

-- no node is in the hand of a new seat
not_here : (n : ℕ) (p : Place) → IsPlaced n p → p ≢ in_hand n
not_here n p h e = let z = subst (IsPlaced n) e h in let y : n < n = z in omega (arith, y)

-- no node is on the list of a new seat
not_listed : (n j : ℕ) (p : Place) → IsPlaced n p → p ≢ on_list n j
not_listed n j p h e = let z = subst (IsPlaced n) e h in let y : n < n = z in omega (arith, y)

abbrev nothing : (T : Type 0) → Option T
nothing T = None

abbrev fresh : (T E : Type 0) → Phase T E
fresh T E = vacant 1

-- each slot of a new table is empty
none_there : {T : Type 0} (n slot : ℕ) → slot < n → get_elem? (map some (replicate n (nothing T))) slot ≡ some (some (nothing T))
none_there zero slot h = absurd (omega arith)
none_there (suc n) zero h = refl
none_there (suc n) (suc slot) h = none_there n slot (omega arith)

-- a new table has so many slots
nones_long : (T : Type 0) (n : ℕ) → length (map some (replicate n (nothing T))) ≡ n
nones_long T zero = refl
nones_long T (suc n) = ap suc (nones_long T n)

-- nothing is told yet
abbrev pub untold : (E : Type 0) → ℕ → History E
untold E nodes =
    record {
      numbered = λ s f a. [];
      last = λ s f. None;
      lost = λ s f. [];
      ender = λ s f. 0;
      sent = λ a. 0;
      notice = λ a n. record { slot = 0; first = 0; offset = 0; code = 0; receipt = record { pass = a; number = n } };
      width = nodes;
    }

-- a choice between equals
same_if : {X : Type 0} (n m : ℕ) (x : X) → (if n == m then x else x) ≡ x
same_if n m x = dite (ℕ_discrete n m) (λ e. ap (λ b. if b then x else x) (eq-eqb n m e)) (λ ne. ap (λ b. if b then x else x) (ne_eqb n m ne))

module _ {T E : Type 0} (log : T → List E) (first_id : T → ℕ) (rec : E → Option Receipt) where
  -- one view, with nothing
  at_first : (nodes total : ℕ) (P : ℕ → View E → Type 0) → P 0 (opening_view nodes total) → (by : ℕ) (v : View E) → get_elem? (opening_view nodes total ∷ []) by ≡ some v → P by v
  at_first nodes total P one zero v e = subst (P 0) (some-injective _ _ e) one
  at_first nodes total P one (suc by) v e = absurd (some-ne-none v (sym e))

  -- the rule holds of a new table
  pub opening_kept : (sizes : Sizes) (n : ℕ) (words : List ℕ) → n ≡ sizes.slots → ((slot : ℕ) → slot < n → get_elem? words slot ≡ some (packed_word 1 0 0 0))
      → ((node : ℕ) → 1 ≤ node → node ≤ sizes.passes * sizes.nodes → (get_elem? words (word_at sizes.slots node) ≡ some 0) × (get_elem? words (word_at sizes.slots node + 1) ≡ some 0))
      → IsKept log first_id rec sizes (opening words (replicate n None) (opening_view sizes.nodes (sizes.passes * sizes.nodes)))
  opening_kept sizes n words same at free_nodes = record {
    place = λ m. idle;
    history = untold E sizes.nodes;
    at = (
      nones_long T n ∙ same,
      (λ slot below. (
        (vacant 1),
        record {
          word = at slot (subst (λ (z : ℕ). slot < z) (nones_long T n) below);
          home_is = none_there n slot (subst (λ (z : ℕ). slot < z) (nones_long T n) below);
          sound = (omega arith, omega arith);
          seated = tt;
          fits = at_first sizes.nodes (sizes.passes * sizes.nodes) (λ by v. IsPart log (fresh T E) by (part_of v slot)) record
              { spot = refl; hold = refl; owner = refl; knows = λ f l e. absurd e; turn = refl; taking = refl; ended_below = omega arith; got = refl };
          chain = λ m j e. absurd (cc);
        },
        λ f more. ((λ a. refl), (refl, refl)),
      )),
      record {
        opener = 0;
        count = 1;
        holder = λ n. n;
        seats = refl;
        later = λ a more. refl;
        earlier = λ a less. less;
        each = at_first sizes.nodes (sizes.passes * sizes.nodes) (IsNumbered 0 1 (λ n. n)) (refl, ((omega arith, refl), tt));
      },
    );
    hands = at_first sizes.nodes (sizes.passes * sizes.nodes) (λ by v. HasInHand sizes.slots words (λ m. idle) by v.hand) (λ m e. absurd (cc));
    lists = at_first sizes.nodes (sizes.passes * sizes.nodes) (λ by v. IsTakenList sizes.slots words (λ m. idle) by v.taken) (tt, tt, λ m j e. absurd (cc));
    placed = λ m. tt;
    beyond = λ m more. refl;
    noticed = at_first sizes.nodes (sizes.passes * sizes.nodes) (λ _ u. AreAll (IsNoticed (untold E sizes.nodes)) u.notices) tt;
    wide = refl;
    rise = λ s f a. (tt, λ n h. absurd (omega (arith, h)));
    unsent = λ a more. refl;
    sents = at_first sizes.nodes (sizes.passes * sizes.nodes) (λ _ u. HasSent (λ _. 0) u.numbers u.sent) refl;
    news = λ slot f. (omega arith, λ a more. refl);
    over = λ slot f l e. absurd (none-some l e);
    tells = at_first sizes.nodes (sizes.passes * sizes.nodes) (IsInformed (untold E sizes.nodes) (λ n. n)) (λ s f. ((λ a. sym (same_if a 0 [])), refl, (λ l h. absurd h), λ h. absurd h));
    nodes = λ node a b. ((free_nodes node a b).0, (0, (free_nodes node a b).1));
  }

  -- who hands out numbers is the opener, and the next number is the count
  opener_is : (opener count by : ℕ) (k : ℕ) → (if opener == by then Some count else None) ≡ Some k → (opener ≡ by) × (count ≡ k)
  opener_is opener count by k e = dite (ℕ_discrete opener by)
      (λ same. (same, same_Some count k (sym (ap (λ b. if b then Some count else None) (eq-eqb opener by same)) ∙ e)))
      (λ ne. absurd (none-some k (sym (ap (λ b. if b then Some count else None) (ne_eqb opener by ne)) ∙ e)))

  -- numbers below the count are below the next count
  more_numbers : (count by : ℕ) (holder : ℕ → ℕ) (ns : List ℕ) → AreAll (λ m. (m < count) × (holder m ≡ by)) ns → AreAll (λ m. (m < count + 1) × (holder m ≡ by)) ns
  more_numbers count by holder [] all = tt
  more_numbers count by holder (m ∷ ms) all = ((omega (arith, all.0.0), all.0.1), more_numbers count by holder ms all.1)

  -- one view more
  longer : (vs : List (View E)) (id : ℕ) (v : View E) → length (set vs id (giving_view v) ++ given_view v ∷ []) ≡ length vs + 1
  longer vs id v = length-append (set vs id (giving_view v)) (given_view v ∷ []) ∙ ap (λ n. n + 1) (length-set vs id (giving_view v))

  -- every view after a new one came
  views_more : (vs : List (View E)) (id : ℕ) (v : View E) (P : ℕ → View E → Type 0) → P id (giving_view v) → P (length vs) (given_view v)
      → ((by : ℕ) (u : View E) → by < length vs → by ≢ id → get_elem? vs by ≡ some u → P by u)
      → (by : ℕ) (u : View E) → get_elem? (set vs id (giving_view v) ++ given_view v ∷ []) by ≡ some u → P by u
  views_more vs id v P one new others by u e = ⊎_elim
      (λ old. views_after vs id (giving_view v) P one (λ by u ne t. others by u (there_below vs by u t) ne t) by u old)
      (λ (t : (by ≡ length (set vs id (giving_view v))) × (given_view v ≡ u)). subst (λ (z : ℕ × View E). P z.0 z.1) (λ i. (sym (t.0 ∙ length-set vs id (giving_view v)) i, t.1 i)) new)
      (at_end (set vs id (giving_view v)) (given_view v) u by e)

  -- splitting off a pass keeps the rule: a new pass takes the next number
  pub split_keeps : (sizes : Sizes) (id : ℕ) (v : View E) (k : ℕ) → v.next ≡ Some k → Splits (IsKept log first_id rec sizes) id v (giving_view v) (given_view v)
  split_keeps sizes id v k next s kept at =
      let a = kept.at.2 in let n : ℕ = length s.views in
      let mine = opener_is a.opener a.count id k (sym (a.each id v at).0 ∙ next) in
      let new_number : k ≡ n = sym mine.1 ∙ a.seats in
      let below = there_below s.views id v at in
      record {
        place = kept.place;
        history = kept.history;
        at = (
          kept.at.0,
          (λ slot low. let was = kept.at.1 slot low in let ok = was.1 in (
            was.0,
            record {
              word = ok.word;
              home_is = ok.home_is;
              sound = ok.sound;
              seated = subst (IsSeated was.0) (sym (longer s.views id v)) (more_seats was.0 n ok.seated);
              fits = views_more s.views id v (λ by u. IsPart log was.0 by (part_of u slot)) (ok.fits id v at) (blank_fits log was.0 n ok.seated) (λ by u _ ne e. ok.fits by u e);
              chain = ok.chain;
            },
            was.2,
          )),
          record {
            opener = a.opener;
            count = a.count + 1;
            holder = a.holder;
            seats = ap (λ z. z + 1) a.seats ∙ sym (longer s.views id v);
            later = λ b more. a.later b (omega arith);
            earlier = λ b less. dite (ℕ_discrete b a.count) (λ e. subst (λ (z : ℕ). z < a.count + 1) (sym (a.later b (omega (arith, e)))) less)
                (λ ne. let h = a.earlier b (omega (arith, less, ne)) in omega (arith, h));
            each = views_more s.views id v (IsNumbered a.opener (a.count + 1) a.holder) (
              ap next_after next ∙ sym (ap (λ b. if b then Some (a.count + 1) else None) (eq-eqb a.opener id mine.0) ∙ ap (λ z. Some (z + 1)) mine.1),
              more_numbers a.count id a.holder v.numbers (a.each id v at).1,
            ) (
              sym (ap (λ b. if b then Some (a.count + 1) else None) (ne_eqb a.opener n (λ e. let m = mine.0 in omega (arith, e, m, below)))),
              subst (λ (o : Option ℕ). AreAll (λ z. (z < a.count + 1) × (a.holder z ≡ n)) (list_of o)) (sym next) ((omega (arith, mine.1), a.later k (omega (arith, mine.1)) ∙ new_number), tt),
            )
                (λ by u _ ne e. ((a.each by u e).0 ∙ not_opener a.opener a.count id by mine.0 ne, more_numbers a.count by a.holder u.numbers (a.each by u e).1));
          },
        );
        hands = views_more s.views id v (λ by u. HasInHand sizes.slots s.words kept.place by u.hand) (kept.hands id v at)
            (λ m e. not_here n (kept.place m) (kept.placed m) e) (λ by u _ ne e. kept.hands by u e);
        lists = views_more s.views id v (λ by u. IsTakenList sizes.slots s.words kept.place by u.taken) (kept.lists id v at)
            (tt, tt, λ m j e. absurd (not_listed n j (kept.place m) (kept.placed m) e)) (λ by u _ ne e. kept.lists by u e);
        news = λ slot f. (
          subst (λ (z : ℕ). kept.history.ender slot f < z) (sym (longer s.views id v)) (let h = (kept.news slot f).0 in omega (arith, h)),
          λ b more. (kept.news slot f).1 b (omega (arith, more)),
        );
        over = kept.over;
        wide = kept.wide;
        rise = kept.rise;
        unsent = λ b more. kept.unsent b (omega (arith, more));
        sents = views_more s.views id v (λ _ u. HasSent kept.history.sent u.numbers u.sent) (kept.sents id v at)
            (subst (λ (o : Option ℕ). HasSent kept.history.sent (list_of o) 0) (sym next) (sym (kept.unsent k (omega (arith, mine.1))))) (λ by u _ ne e. kept.sents by u e);
        placed = λ m. subst (λ (z : ℕ). IsPlaced z (kept.place m)) (sym (longer s.views id v)) (more_placed n (kept.place m) (kept.placed m));
        beyond = kept.beyond;
        noticed = views_more s.views id v (λ _ u. AreAll (IsNoticed kept.history) u.notices) (kept.noticed id v at) tt (λ by u _ ne e. kept.noticed by u e);
        tells = views_more s.views id v (IsInformed kept.history a.holder) (kept.tells id v at)
            (λ slot f. (
              (λ b. dite (ℕ_discrete b n)
                  (λ e. sym (ap (λ z. if a.holder b == n then z else []) ((kept.news slot f).1 b (let c = a.seats in omega (arith, e, c))) ∙ same_if (a.holder b) n []))
                  (λ ne. sym (ap (λ c. if c then kept.history.numbered slot f b else []) (ne_eqb (a.holder b) n (λ e. dite (dec_le a.count b)
                  (λ more. ne (sym (a.later b more) ∙ e))
                  (λ less. let h = a.earlier b (omega (arith, less)) in let c = a.seats in omega (arith, e, h, c))))))),
              sym (ap (λ c. if c then kept.history.lost slot f else []) (ne_eqb (kept.history.ender slot f) n (λ e. let h = (kept.news slot f).0 in omega (arith, e, h)))),
              (λ l h. absurd h),
              (λ h. absurd h),
            ))
            (λ by u _ ne e. kept.tells by u e);
        nodes = kept.nodes;
      }
    where
      not_opener : (opener count id by : ℕ) → opener ≡ id → by ≢ id → (if opener == by then Some count else None) ≡ (if opener == by then Some (count + 1) else None)
      not_opener opener count id by same ne = ap (λ b. if b then Some count else None) (ne_eqb opener by (λ e. ne (sym e ∙ same)))
          ∙ sym (ap (λ b. if b then Some (count + 1) else None) (ne_eqb opener by (λ e. ne (sym e ∙ same))))
