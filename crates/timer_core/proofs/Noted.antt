-- Which lists have an entry is noted: what a step leaves of that, and what it tells.
use Rattle.std.proofs.Common.{◌≡◌, ℕ, ◌+◌, ◌-◌, ◌<◌, ltb, inl, inr, true, false, List, [], ◌∷◌, ◌++◌}
use Rattle.std.proofs.Common.{length, set, arith, refl, sym, ap, ◌∙◌, subst, get_or-set_other, get_or-set_same, length-set}
use Rattle.std.proofs.lemmas.Bool.{cases_lt, cases_eq}
use Rattle.std.proofs.lemmas.Bool.Decides.{nat_tests}
use Rattle.std.proofs.lemmas.List.{get_or_past, get_or_append_left, get_or_push, length_push}
use Rattle.bit_set.specs.Bits.{is_in, AreNone, IsLeast}
use Rattle.timer_core.specs.declared.entry.Entry.{Entry}
use Rattle.timer_core.specs.declared.links.Node.{Node}
use Rattle.timer_core.specs.declared.links.End.{End}
use Rattle.timer_core.specs.Chains.{no_nodes, end_at, lists_of, list_at, unlinked, IsNoted, AreNoted, IsTable}
use Rattle.timer_core.specs.Wheel.{IsFirstList}
use Rattle.timer_core.proofs.Told.{counted, vacant_told, vacant_depth}

-- one list changes
pub one_noted : (ends : List End) (list : ℕ) (end : End) (old new : List ℕ) → list < length ends → AreNoted ends old
    → IsNoted list end.depth old new → AreNoted (set ends list end) new
one_noted ends list end old new l a n =
    let long : length (set ends list end) ≡ length ends = length-set ends list end in
    let there : end_at (set ends list end) list ≡ end = get_or-set_same ends list end no_nodes l in
    record {
      noted = λ k u h. elim (cases_eq k list) [
        | inl e ↦ subst (λ i. is_in new i ≡ ltb 0 (end_at (set ends list end) i).depth) (sym e)
            (n.noted (omega (arith, u, e)) ∙ ap (λ (z : End). ltb 0 z.depth) (sym there))
        | inr d ↦ n.others k d ∙ a.noted k u (omega (arith, h, long)) ∙ ap (λ (z : End). ltb 0 z.depth) (sym (get_or-set_other ends list k end no_nodes d))
      ];
      free = elim (cases_eq 0 list) [ inl e ↦ n.free (sym e) ∙ a.free | inr d ↦ n.others 0 d ∙ a.free ];
      past = λ k h. n.others k (λ e. omega (arith, e, h, l, long)) ∙ a.past k (omega (arith, h, long));
    }

-- list 0 isn't noted
pub free_noted : (depth : ℕ) (used : List ℕ) → IsNoted 0 depth used used
free_noted depth used = record { noted = λ h. absurd (omega (arith, h)); free = λ e. refl; others = λ k d. refl }

-- a node goes from one list to another
module _ (nodes : List Node) (ends cut : List End) (from to : ℕ) (used : List ℕ)
    (is : cut ≡ set ends from (unlinked nodes (end_at ends from))) (f : from < length ends) (t : to < length ends)
    (a : AreNoted ends used) where
  cut_long : length cut ≡ length ends
  cut_long = ap (λ (zs : List End). length zs) is ∙ length-set ends from (unlinked nodes (end_at ends from))

  -- both are noted then
  pub shifted_noted : (more : List End) (x left depth : ℕ) (mid new : List ℕ)
      → more ≡ set cut to (record { head = x; depth = (end_at cut to).depth + 1 })
      → left ≡ (end_at ends from).depth → depth ≡ (end_at cut to).depth
      → IsNoted from (left - 1) used mid → IsNoted to (depth + 1) mid new → AreNoted more new
  shifted_noted more x left depth mid new there l d m n =
      let half : AreNoted cut mid = subst (λ (zs : List End). AreNoted zs mid) (sym is)
      (one_noted ends from (unlinked nodes (end_at ends from)) used mid f a (subst (λ i. IsNoted from (i - 1) used mid) l m)) in
      let front : End = record { head = x; depth = (end_at cut to).depth + 1 } in
      subst (λ (zs : List End). AreNoted zs new) (sym there)
      (one_noted cut to front mid new (omega (arith, t, cut_long)) half (subst (λ i. IsNoted to (i + 1) mid new) d n))

pub more_noted : (ends : List End) (used : List ℕ) → AreNoted ends used → AreNoted (ends ++ no_nodes ∷ []) used
more_noted ends used a =
    let long = length_push ends no_nodes in
    record {
      noted = λ k u h. elim (cases_lt k (length ends)) [
        | inl l ↦ a.noted k u l ∙ ap (λ (z : End). ltb 0 z.depth) (sym (get_or_append_left ends (no_nodes ∷ []) no_nodes k l))
        | inr g ↦ a.past k g ∙ ap (λ (z : End). ltb 0 z.depth) (sym (get_or_push ends no_nodes no_nodes k (omega (arith, g, h, long))))
      ];
      free = a.free;
      past = λ k h. a.past k (omega (arith, h, long));
    }

pub none_noted : (used : List ℕ) → AreNone used → AreNoted [] used
none_noted used n = record { noted = λ k u h. absurd (omega (arith, h)); free = n 0; past = λ k h. n k }

no_depth : (d : ℕ) → ltb 0 d ≡ false → d ≡ 0
no_depth d h = grind (arith, nat_tests)

some_depth : (d : ℕ) → ltb 0 d ≡ true → 0 < d
some_depth d h = grind (arith, nat_tests)

module _ (nodes : List Node) (ends : List End) (used : List ℕ) (ls : List (List Entry)) (v : lists_of nodes ends ≡ ls) (a : AreNoted ends used) where
  -- a list that isn't noted has no entry
  pub unnoted : (k : ℕ) → 0 < k → is_in used k ≡ false → list_at ls k ≡ []
  unnoted k u h = elim (cases_lt k (length ends)) [
    | inl l ↦ vacant_told nodes ends ls v k (no_depth (end_at ends k).depth (sym (a.noted k u l) ∙ h))
    | inr g ↦ get_or_past ls k [] (omega (arith, g, counted nodes ends ls v))
  ]

  pub none_listed : AreNone used → (k : ℕ) → 0 < k → list_at ls k ≡ []
  none_listed n k u = unnoted k u (n k)

  first_at : (k : ℕ) → IsLeast used k → 0 < k → k < length ends → IsFirstList ls k
  first_at k l u w = record {
    used = u;
    within = omega (arith, w, counted nodes ends ls v);
    some = λ e. let z = vacant_depth nodes ends ls v k e in let s = some_depth (end_at ends k).depth (sym (a.noted k u w) ∙ l.in_it) in omega (arith, z, s);
    first = λ j x y. unnoted j x (l.first j y);
  }

  pub first_noted : (k : ℕ) → IsLeast used k → IsFirstList ls k
  first_noted k l = elim (cases_lt k (length ends)) [
    | inr g ↦ let o = a.past k g in let i = l.in_it in absurd (let c : true ≡ false = sym i ∙ o in cc)
    | inl w ↦ elim (cases_lt 0 k) [
      | inl u ↦ first_at k l u w
      | inr z ↦ let e : k ≡ 0 = omega (arith, z) in let i = l.in_it in absurd (let c : true ≡ false = sym i ∙ ap (λ n. is_in used n) e ∙ a.free in cc)
    ]
  ]

-- a new node in front of a list
pub pushed_noted : (ends more : List End) (list x depth : ℕ) (old new : List ℕ)
    → more ≡ set ends list (record { head = x; depth = (end_at ends list).depth + 1 })
    → depth ≡ (end_at ends list).depth → list < length ends → AreNoted ends old → IsNoted list (depth + 1) old new → AreNoted more new
pushed_noted ends more list x depth old new is d l a n =
    let front : End = record { head = x; depth = (end_at ends list).depth + 1 } in
    subst (λ (zs : List End). AreNoted zs new) (sym is)
    (one_noted ends list front old new l a (subst (λ i. IsNoted list (i + 1) old new) d n))

-- no lists
pub empty_table : (nodes : List Node) (ends : List End) (used : List ℕ) → nodes ≡ [] → ends ≡ [] → AreNone used → IsTable nodes ends used
empty_table nodes ends used n e none =
    subst (λ (zs : List Node). IsTable zs ends used) (sym n) (subst (λ (zs : List End). IsTable [] zs used) (sym e) (record {
      chained = record { lists = λ k h. absurd (omega (arith, h)); whole = refl; few = omega arith; many = omega arith };
      noted = none_noted used none;
    }))
