-- A channel of the list has a plan, and its width is that which is counted.
use Rattle.std.proofs.Common.{◌≡◌, ℕ, zero, suc, ◌+◌, ◌*◌, ◌<◌, List, [], ◌∷◌, length, Option, Some, None, arith, refl, ap, sym, ◌∙◌, subst, slice_get}
use Rattle.rpc_model.specs.declared.chan.Chan.{Chan}
use Rattle.rpc_model.specs.declared.chan.Chan.TheVariants as chan
use Rattle.rpc_model.specs.declared.chan.PartChan.{PartChan}
use Rattle.rpc_model.specs.Plan.{Rule, Plan, Plans, and_plan, plans_of, par_over, sel_over, rule_of, subs_of, tries, part_plans, chan_plan, plan}
use Rattle.rpc_model.specs.Versions.{nodes, nodes_of, possible_attempts, possible_attempts_of, width}
use Rattle.rpc_model.proofs.Versions.{width-is}
use Rattle.chan_tree.specs.Sound.{AreBefore, IsSound, AreSound}
use Rattle.chan_tree.specs.Counting.{total, chan_width, width_of}
use Rattle.chan_tree.proofs.Fuel.{SoundIf, sound-at, sel-before, plan-is, width_of-is}

one-more : (count x : ℕ) → suc count * x ≡ count * x + x
one-more count x = grind arith

module _ {M G : Type 0} where
  abbrev pub WidthIs : Option (Plan M G) → ℕ → Type 0
  WidthIs None w = ⊥
  WidthIs (Some p) w = nodes p + possible_attempts p ≡ w

  abbrev WidthsAre : Option (Plans M G) → ℕ → Type 0
  WidthsAre None w = ⊥
  WidthsAre (Some ps) w = nodes_of ps + possible_attempts_of ps ≡ w

  and-width : (one : Option (Plan M G)) (rest : Option (Plans M G)) (v w : ℕ) → WidthIs one v → WidthsAre rest w → WidthsAre (and_plan one rest) (v + w)
  and-width None rest v w h hs = absurd h
  and-width (Some p) None v w h hs = absurd hs
  and-width (Some p) (Some ps) v w h hs = omega (arith, h, hs)

  plans-width : (f : ℕ → Option (Plan M G)) (g : ℕ → ℕ) (n : ℕ) (subs : List ℕ) → AreBefore n subs → ((s : ℕ) → s < n → WidthIs (f s) (g s)) → WidthsAre (plans_of f subs) (total g subs)
  plans-width f g n [] before h = refl
  plans-width f g n (s ∷ subs) before h = and-width (f s) (plans_of f subs) (g s) (total g subs) (h s before.0) (plans-width f g n subs before.1 h)

  par-width : (rule : Rule M G) (plans : Option (Plans M G)) (w : ℕ) → WidthsAre plans w → WidthIs (par_over rule plans) (1 + w)
  par-width rule None w h = absurd h
  par-width rule (Some ps) w h = omega (arith, h)

  sel-width : (timeout : Option ℕ) (plans : Option (Plans M G)) (w : ℕ) → WidthsAre plans w → WidthIs (sel_over timeout plans) (1 + w)
  sel-width timeout None w h = absurd h
  sel-width timeout (Some ps) w h = omega (arith, h)

  parts-width : (part : PartChan M G) (first count : ℕ) → nodes_of (part_plans part first count) + possible_attempts_of (part_plans part first count) ≡ count * (part.retry + 2)
  parts-width part first zero = grind arith
  parts-width part first (suc count) = let h = parts-width part (first + 1) count in let m = one-more count (part.retry + 2) in omega (arith, h, m)

  chan-width : (f : ℕ → Option (Plan M G)) (g : ℕ → ℕ) (call n : ℕ) (c : Chan M G) → IsSound n c → ((s : ℕ) → s < n → WidthIs (f s) (g s))
      → WidthIs (chan_plan f call (Some c)) (chan_width g call (Some c))
  chan-width f g call n (chan.Leaf leaf) sound h = omega arith
  chan-width f g call n (chan.Par par) sound h = par-width (rule_of par) (plans_of f (subs_of par)) (total g (subs_of par)) (plans-width f g n (subs_of par) sound h)
  chan-width f g call n (chan.Sel sel) sound h = sel-width sel.timeout (plans_of f (tries sel call)) (total g (tries sel call)) (plans-width f g n (tries sel call) (sel-before n call sel sound) h)
  chan-width f g call n (chan.Part part) sound h = let p = parts-width part 0 part.parts in omega (arith, p)

  chan-there : (chans : List (Chan M G)) (n : ℕ) → n < length chans → (c : Chan M G) × (slice_get chans n ≡ Some c)
  chan-there [] n less = absurd (omega (arith, less))
  chan-there (c ∷ chans) zero less = (c, refl)
  chan-there (c ∷ chans) (suc n) less = chan-there chans n (omega (arith, less))

  module _ (chans : List (Chan M G)) (call : ℕ) (sound : AreSound 0 chans) where
    measured : (b n : ℕ) → n < b → n < length chans → WidthIs (plan chans n call) (width_of chans call n)
    measured zero n less there = absurd (omega (arith, less))
    measured (suc b) n less there =
        let c = chan-there chans n there in
        let is = subst (SoundIf n) c.1 (sound-at 0 chans n n (omega arith) sound) in
        let w = chan-width (λ s. plan chans s call) (width_of chans call) call n c.0 is (λ s before. measured b s (omega (arith, before, less)) (omega (arith, before, there))) in
        subst (λ o. WidthIs o (width_of chans call n)) (sym (plan-is chans call n sound ∙ ap (chan_plan (λ s. plan chans s call) call) c.1))
        (subst (WidthIs (chan_plan (λ s. plan chans s call) call (Some c.0))) (sym (width_of-is chans call n sound ∙ ap (chan_width (width_of chans call) call) c.1)) w)

    pub plan-width : (n : ℕ) → n < length chans → WidthIs (plan chans n call) (width_of chans call n)
    plan-width n there = measured (suc n) n (omega arith) there

    -- the plan, with its width
    pub plan-there : (n : ℕ) → n < length chans → (p : Plan M G) × (plan chans n call ≡ Some p) × (width p ≡ width_of chans call n)
    plan-there n there = by (plan chans n call) refl (plan-width n there)
      where
        by : (o : Option (Plan M G)) → plan chans n call ≡ o → WidthIs o (width_of chans call n) → (p : Plan M G) × (plan chans n call ≡ Some p) × (width p ≡ width_of chans call n)
        by None e h = absurd h
        by (Some p) e h = (p, e, width-is p ∙ h)
