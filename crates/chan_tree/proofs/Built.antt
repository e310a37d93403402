-- The plan of a channel from those of its subs.
use Rattle.std.proofs.Common.{◌≡◌, ℕ, zero, suc, ◌+◌, ◌-◌, ◌%◌, ◌<◌, ◌≤◌, List, [], ◌∷◌, ◌++◌, length, get_or, drop, Option, Some, arith, refl, ap, sym, ◌∙◌, subst, slice_get, slice_index, add-one}
use Rattle.std.proofs.Math.Seq.{drop-cons}
use Rattle.std.proofs.lemmas.List.{append_assoc}
use Rattle.rpc_model.specs.declared.chan.LeafChan.{LeafChan}
use Rattle.rpc_model.specs.declared.chan.Chan.{Chan}
use Rattle.rpc_model.specs.declared.chan.Chan.TheVariants as chan
use Rattle.rpc_model.specs.declared.chan.ParChan.{ParChan}
use Rattle.rpc_model.specs.declared.chan.SelChan.{SelChan}
use Rattle.rpc_model.specs.declared.chan.PartChan.{PartChan}
use Rattle.rpc_model.specs.declared.chan.Sub.{Sub}
use Rattle.rpc_model.specs.Plan.{Plan, Plans, leaf_plan, par_plan, sel_plan, and_plan, plans_of, par_over, sel_over, rule_of, subs_of, part_rule, part_plans, tries, copies, chan_plan, plan}
use Rattle.chan_tree.specs.Sound.{AreBefore, IsSound, AreSound}
use Rattle.chan_tree.specs.Measures.{numbers_of}
use Rattle.chan_tree.specs.Shown.{plans_of as plans_shown, with_plans, IsPlanOf, ArePlansOf, AreLeft}
use Rattle.chan_tree.proofs.Fuel.{SoundIf, sound-at, plan-is, index-before}
use Rattle.chan_tree.proofs.Kids.{with_push, with_end}

pub item-at : {X : Type 0} (xs : List X) (i : ℕ) (x : X) → i < length xs → x ≡ get_or xs i x → slice_get xs i ≡ Some x
item-at [] i x less is = absurd (omega (arith, less))
item-at (y ∷ ys) zero x less is = ap Some (sym is)
item-at (y ∷ ys) (suc i) x less is = item-at ys i x (omega (arith, less)) is

module _ {M G : Type 0} (chans : List (Chan M G)) (number : ℕ) (sound : AreSound 0 chans) where
  pub sound-here : (c : Chan M G) → slice_get chans number ≡ Some c → IsSound number c
  sound-here c at = subst (SoundIf number) at (sound-at 0 chans number number (omega arith) sound)

  module _ (call : ℕ) where
    by : (c : Chan M G) (p : Option (Plan M G)) → slice_get chans number ≡ Some c → chan_plan (λ s. plan chans s call) call (Some c) ≡ p → plan chans number call ≡ p
    by c p at is = plan-is chans call number sound ∙ ap (chan_plan (λ s. plan chans s call) call) at ∙ is

    pub leaf-built : (leaf : LeafChan) → slice_get chans number ≡ Some (chan.Leaf leaf) → IsPlanOf chans number call (leaf_plan leaf)
    unfolding IsPlanOf
    leaf-built leaf at = by (chan.Leaf leaf) (Some (leaf_plan leaf)) at refl

    pub par-built : (par : ParChan M G) (plans : Plans M G) → slice_get chans number ≡ Some (chan.Par par) → ArePlansOf chans call (subs_of par) plans
        → IsPlanOf chans number call (par_plan (rule_of par) plans)
    unfolding IsPlanOf ArePlansOf
    par-built par plans at is = by (chan.Par par) (Some (par_plan (rule_of par) plans)) at (ap (par_over (rule_of par)) is)

    pub sel-built : (sel : SelChan) (plans : Plans M G) → slice_get chans number ≡ Some (chan.Sel sel) → ArePlansOf chans call (tries sel call) plans
        → IsPlanOf chans number call (sel_plan sel.timeout plans)
    unfolding IsPlanOf ArePlansOf
    sel-built sel plans at is = by (chan.Sel sel) (Some (sel_plan sel.timeout plans)) at (ap (sel_over sel.timeout) is)

    pub part-built : (part : PartChan M G) → slice_get chans number ≡ Some (chan.Part part) → IsPlanOf chans number call (par_plan (part_rule part) (part_plans part 0 part.parts))
    unfolding IsPlanOf
    part-built part at = by (chan.Part part) (Some (par_plan (part_rule part) (part_plans part 0 part.parts))) at refl

-- ---- subs one after another

module _ {M G : Type 0} (chans : List (Chan M G)) (call : ℕ) (all : List ℕ) where
  pub left-all : AreLeft chans call all [] all
  unfolding AreLeft
  left-all = refl

  pub left-next : (built : List (Plan M G)) (number : ℕ) (numbers : List ℕ) (p : Plan M G) → AreLeft chans call all built (number ∷ numbers) → IsPlanOf chans number call p
      → AreLeft chans call all (built ++ p ∷ []) numbers
  unfolding AreLeft IsPlanOf
  left-next built number numbers p h is =
      with_push built p (plans_of (λ s. plan chans s call) numbers) ∙ ap (λ o. with_plans built (and_plan o (plans_of (λ s. plan chans s call) numbers))) (sym is) ∙ h

  pub left-none : (built : List (Plan M G)) → AreLeft chans call all built [] → ArePlansOf chans call all (plans_shown built)
  unfolding AreLeft ArePlansOf
  left-none built h = sym h ∙ with_end built

-- One copy more.
pub copy-next : {X : Type 0} (xs : List X) (left : ℕ) (x : X) → 1 ≤ left → (xs ++ x ∷ []) ++ copies (left - 1) x ≡ xs ++ copies left x
copy-next xs zero x some = absurd (omega (arith, some))
copy-next xs (suc left) x some =
    let same : suc left - 1 ≡ left = omega arith in
    append_assoc xs (x ∷ []) (copies (suc left - 1) x) ∙ ap (λ n. xs ++ x ∷ copies n x) same

pub before-drop : {M G : Type 0} (n : ℕ) (subs : List (Sub M G)) (i : ℕ) (d : Sub M G) → AreBefore n (numbers_of subs) → i < length subs → (get_or subs i d).chan < n
before-drop n [] i d h less = absurd (omega (arith, less))
before-drop n (s ∷ subs) zero d h less = h.0
before-drop n (s ∷ subs) (suc i) d h less = before-drop n subs i d h.1 (omega (arith, less))

pub numbers-drop : {M G : Type 0} (subs : List (Sub M G)) (i : ℕ) (d : Sub M G) → i < length subs → numbers_of (drop i subs) ≡ (get_or subs i d).chan ∷ numbers_of (drop (i + 1) subs)
numbers-drop subs i d less = rw (add-one, drop-cons subs i d less) refl

pub numbers-end : {M G : Type 0} (subs : List (Sub M G)) (i : ℕ) → length subs ≤ i → numbers_of (drop i subs) ≡ []
numbers-end [] zero h = refl
numbers-end [] (suc i) h = refl
numbers-end (s ∷ subs) zero h = absurd (omega (arith, h))
numbers-end (s ∷ subs) (suc i) h = numbers-end subs i (omega (arith, h))

-- A try is one of the subs.
pub try-before : (n : ℕ) (subs : List ℕ) (call at : ℕ) → 1 ≤ length subs → AreBefore n subs → slice_index subs ((call + at) % length subs) < n
try-before n subs call at some h = index-before n subs ((call + at) % length subs) h (grind (arith, some))
