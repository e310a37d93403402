-- One mark after the other is taken.
use Rattle.std.proofs.Common.{◌≡◌, ℕ, ◌<◌, ◌≤◌, max, Bool, true, false, cond, nat_le, List, Option, Some, None, is_some, refl, ap, sym, ◌∙◌, subst, arith}
use Rattle.std.proofs.lemmas.Bool.Decides.{nat_tests}
use Rattle.rpc_model.specs.Effects.{Mark}
use Rattle.rpc_model.specs.State.{end_of}
use Rattle.rpc_model.specs.Marks.{Begun, least_mark, mark_event, marks_left}
use Rattle.model_laws.proofs.Weaves.{taken-left}
use Rattle.sim_run.specs.Acting.{Acting, acted, woven, finished_by}
use Rattle.sim_run.specs.Calls.{due_least, due_taken, open_least, open_taken}
use Rattle.sim_run.proofs.Acts.{woven-due, woven-late, finished-open, finished-over, finished-none, finished-reaches}

-- the mark that was taken out, and the call without it
record IsFirst (b n : Begun) (mark : Mark) : Type 0 where
  others : List Mark
  least : least_mark b.waiting ≡ Some (mark, others)
  left : n ≡ record b { waiting = others }

-- ---- marks that are due

due-some : (moment : ℕ) (b n : Begun) (r : Option Mark) (mark : Mark) → (r, n) ≡ due_taken moment b → r ≡ Some mark → IsFirst b n mark × (mark.moment ≤ moment)
due-some moment b n r mark e some = by (least_mark b.waiting) refl e
  where
    by : (o : Option (Mark × List Mark)) → least_mark b.waiting ≡ o → (r, n) ≡ due_least moment b o → IsFirst b n mark × (mark.moment ≤ moment)
    by None l e = let both : Some mark ≡ None = sym some ∙ ap (λ (p : Option Mark × Begun). p.0) e in absurd (cc)
    by (Some (m, others)) l e = at (nat_le m.moment moment) refl e
      where
        at : (v : Bool) → nat_le m.moment moment ≡ v → (r, n) ≡ cond {A = Option Mark × Begun} v (Some m, record b { waiting = others }) (None, b) → IsFirst b n mark × (mark.moment ≤ moment)
        at true t e =
            let both : Some mark ≡ Some m = sym some ∙ ap (λ (p : Option Mark × Begun). p.0) e in
            let same : m ≡ mark = cc in
            let due : m.moment ≤ moment = grind (arith, nat_tests) in
            (record { others = others; least = l ∙ ap (λ (x : Mark). Some (x, others)) same; left = ap (λ (p : Option Mark × Begun). p.1) e }, subst (λ (x : Mark). x.moment ≤ moment) same due)
        at false t e = let both : Some mark ≡ None = sym some ∙ ap (λ (p : Option Mark × Begun). p.0) e in absurd (cc)

due-none : (moment : ℕ) (b n : Begun) (r : Option Mark) → (r, n) ≡ due_taken moment b → r ≡ None
    → (n ≡ b) × ((mark : Mark) (others : List Mark) → least_mark b.waiting ≡ Some (mark, others) → moment < mark.moment)
due-none moment b n r e none = by (least_mark b.waiting) refl e
  where
    by : (o : Option (Mark × List Mark)) → least_mark b.waiting ≡ o → (r, n) ≡ due_least moment b o
        → (n ≡ b) × ((mark : Mark) (others : List Mark) → least_mark b.waiting ≡ Some (mark, others) → moment < mark.moment)
    by None l e = (ap (λ (p : Option Mark × Begun). p.1) e, λ mark others k. let both = sym l ∙ k in absurd (cc))
    by (Some (m, rest)) l e = at (nat_le m.moment moment) refl e
      where
        at : (v : Bool) → nat_le m.moment moment ≡ v → (r, n) ≡ cond {A = Option Mark × Begun} v (Some m, record b { waiting = rest }) (None, b)
            → (n ≡ b) × ((mark : Mark) (others : List Mark) → least_mark b.waiting ≡ Some (mark, others) → moment < mark.moment)
        at true t e = let both : None ≡ Some m = sym none ∙ ap (λ (p : Option Mark × Begun). p.0) e in absurd (cc)
        at false t e =
            let late : moment < m.moment = grind (arith, nat_tests) in (
              ap (λ (p : Option Mark × Begun). p.1) e,
              λ mark others k. let both : Some (m, rest) ≡ Some (mark, others) = sym l
                  ∙ k in let pair : (m, rest) ≡ (mark, others) = cc in subst (λ (x : Mark). moment < x.moment) (ap (λ (p : Mark × List Mark). p.0) pair) late,
            )

-- what a turn of a loop leaves: the mark was due, what is to come is the same, and less is left
pub record WeaveTurn (first moment : ℕ) (a : Acting) (n : Begun) (mark : Mark) : Type 0 where
  pub due : mark.moment ≤ moment
  pub same : woven first moment (acted first (mark_event mark.node mark.backup) mark.moment (record a { call = n })) ≡ woven first moment a
  pub less : marks_left (acted first (mark_event mark.node mark.backup) mark.moment (record a { call = n })).call < marks_left a.call

pub weave-turn : (first moment : ℕ) (a : Acting) (n : Begun) (r : Option Mark) (mark : Mark) → (r, n) ≡ due_taken moment a.call → r ≡ Some mark → WeaveTurn first moment a n mark
weave-turn first moment a n r mark e some =
    let d = due-some moment a.call n r mark e some in
    let it = d.0 in
    let l = taken-left a.call mark it.others it.least in
    rw it.left (record { due = d.1; same = sym (woven-due first moment a mark it.others it.least d.1); less = omega (arith, l) })

pub weave-end : (first moment : ℕ) (a : Acting) (n : Begun) (r : Option Mark) → (r, n) ≡ due_taken moment a.call → r ≡ None → (n ≡ a.call) × (woven first moment a ≡ a)
weave-end first moment a n r e none = let d = due-none moment a.call n r e none in (d.0, woven-late first moment a d.1)

-- ---- marks of a call that has no end

open-some : (b n : Begun) (r : Option Mark) (mark : Mark) → (r, n) ≡ open_taken b → r ≡ Some mark → IsFirst b n mark × (is_some (end_of b.state) ≡ false)
open-some b n r mark e some = at (is_some (end_of b.state)) refl e
  where
    by : (o : Option (Mark × List Mark)) → least_mark b.waiting ≡ o → is_some (end_of b.state) ≡ false → (r, n) ≡ open_least b o → IsFirst b n mark × (is_some (end_of b.state) ≡ false)
    by None l t e = let both : Some mark ≡ None = sym some ∙ ap (λ (p : Option Mark × Begun). p.0) e in absurd (cc)
    by (Some (m, others)) l t e =
        let both : Some mark ≡ Some m = sym some ∙ ap (λ (p : Option Mark × Begun). p.0) e in
        let same : m ≡ mark = cc in
        (record { others = others; least = l ∙ ap (λ (x : Mark). Some (x, others)) same; left = ap (λ (p : Option Mark × Begun). p.1) e }, t)

    at : (v : Bool) → is_some (end_of b.state) ≡ v → (r, n) ≡ cond {A = Option Mark × Begun} v (None, b) (open_least b (least_mark b.waiting)) → IsFirst b n mark × (is_some (end_of b.state) ≡ false)
    at true t e = let both : Some mark ≡ None = sym some ∙ ap (λ (p : Option Mark × Begun). p.0) e in absurd (cc)
    at false t e = by (least_mark b.waiting) refl t e

pub record FinishTurn (first reached : ℕ) (a : Acting) (n : Begun) (mark : Mark) : Type 0 where
  pub same : finished_by first (max reached mark.moment) (acted first (mark_event mark.node mark.backup) mark.moment (record a { call = n })) ≡ finished_by first reached a
  pub less : marks_left (acted first (mark_event mark.node mark.backup) mark.moment (record a { call = n })).call < marks_left a.call
  pub within : mark.moment ≤ (finished_by first reached a).0

pub finish-turn : (first reached : ℕ) (a : Acting) (n : Begun) (r : Option Mark) (mark : Mark) → (r, n) ≡ open_taken a.call → r ≡ Some mark → FinishTurn first reached a n mark
finish-turn first reached a n r mark e some =
    let d = open-some a.call n r mark e some in
    let it = d.0 in
    let l = taken-left a.call mark it.others it.least in
    let same = finished-open first reached a mark it.others d.1 it.least in
    let reaches = finished-reaches first (max reached mark.moment) (acted first (mark_event mark.node mark.backup) mark.moment (record a { call = record a.call { waiting = it.others } })) in
    let moments = ap (λ (p : ℕ × Acting). p.0) same in
    rw it.left (record { same = sym same; less = omega (arith, l); within = omega (arith, reaches, moments) })

pub finish-end : (first reached : ℕ) (a : Acting) (n : Begun) (r : Option Mark) → (r, n) ≡ open_taken a.call → r ≡ None → (n ≡ a.call) × (finished_by first reached a ≡ (reached, a))
finish-end first reached a n r e none = at (is_some (end_of a.call.state)) refl e
  where
    by : (o : Option (Mark × List Mark)) → least_mark a.call.waiting ≡ o → (r, n) ≡ open_least a.call o → (n ≡ a.call) × (finished_by first reached a ≡ (reached, a))
    by None l e = (ap (λ (p : Option Mark × Begun). p.1) e, finished-none first reached a l)
    by (Some (m, others)) l e = let both : None ≡ Some m = sym none ∙ ap (λ (p : Option Mark × Begun). p.0) e in absurd (cc)

    at : (v : Bool) → is_some (end_of a.call.state) ≡ v → (r, n) ≡ cond {A = Option Mark × Begun} v (None, a.call) (open_least a.call (least_mark a.call.waiting))
        → (n ≡ a.call) × (finished_by first reached a ≡ (reached, a))
    at true t e = (ap (λ (p : Option Mark × Begun). p.1) e, finished-over first reached a t)
    at false t e = by (least_mark a.call.waiting) refl e
