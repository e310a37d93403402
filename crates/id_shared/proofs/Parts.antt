-- Which part of a view is another after a call, where the call takes several steps on one slot.
use Rattle.std.proofs.Common.{◌≡◌, ◌≢◌, ℕ, ◌+◌, true, false, List, [], ◌∷◌, ◌++◌, refl, ap, ◌∙◌}
use Rattle.std.specs.Prelude.{reverse}
use Rattle.id_rule.specs.Changes.{part_with_hold, part_without_hold, part_with_out, part_with_miss, part_with_got, part_with_end}
use Rattle.id_rule.specs.Changes.{view_after_miss, view_with_list, taking_view}
use Rattle.id_rule.specs.declared.view.Part.{Part}
use Rattle.id_rule.specs.declared.view.Queued.{Queued}
use Rattle.id_rule.specs.declared.view.Receipt.{Receipt}
use Rattle.id_rule.specs.declared.view.View.{View}
use Rattle.id_rule.specs.Nodes.{receipts_of}
use Rattle.id_rule.specs.Parts.{part_at, part_of, view_with}
use Rattle.id_rule.proofs.Lists.{part_here, part_else}
use Rattle.id_shared.specs.Standing.{Claim}
use Rattle.id_shared.specs.Views.{view_lifted, view_laid, view_locked, view_with_hold, view_unlocked, view_without_hold, view_after_pending, view_after_destroy}

module _ {E : Type 0} where
  -- the view w is v with the part p of the slot i
  pub record HasPart (i : ℕ) (v : View E) (p : Part E) (w : View E) : Type 0 where
    pub here : part_of w i ≡ p
    pub there : (slot : ℕ) → slot ≢ i → part_of w slot ≡ part_of v slot

  -- another part
  pub part_put : (i : ℕ) (v : View E) (seen : List (ℕ × ℕ)) (p : Part E) → HasPart i v p (view_with v seen i p)
  part_put i v seen p = record { here = part_here v.parts i p; there = λ slot ne. part_else v.parts i slot p ne }

  -- another part, and whatever else than parts
  pub part_on_top : (i : ℕ) (v w : View E) (p : Part E) → w.parts ≡ (i, p) ∷ v.parts → HasPart i v p w
  part_on_top i v w p is = record {
    here = ap (λ ps. part_at ps i) is ∙ part_here v.parts i p;
    there = λ slot ne. ap (λ ps. part_at ps slot) is ∙ part_else v.parts i slot p ne;
  }

  -- another part, made from what the first change left
  pub part_then : (i : ℕ) (u v w : View E) (p : Part E) (f : Part E → Part E) → HasPart i u p v → HasPart i v (f (part_of v i)) w → HasPart i u (f p) w
  part_then i u v w p f a b = record { here = b.here ∙ ap f a.here; there = λ slot ne. b.there slot ne ∙ a.there slot ne }

  -- the part of a pass that locked the range, whose slot is at home again
  abbrev pub part_held : Part E → ℕ × ℕ → List E → Part E
  part_held p r log = part_with_out (part_with_hold p r log) false

  -- the part of a pass whose word showed that errors wait, and which took this chain, with the slot at home again
  abbrev pub part_after_pending : Part E → ℕ → List Queued → Part E
  part_after_pending p word qs = part_with_out (part_with_got (part_with_miss (part_with_out p true) word) (p.got ++ reverse (receipts_of qs))) false

  -- a lock
  pub held_part : (v : View E) (c : Claim) (log : List E) → HasPart c.slot v (part_held (part_of v c.slot) (c.first, c.size) log) (view_with_hold v c log)
  held_part v c log = let u = view_locked v c log in
      part_then c.slot v u (view_laid u c.slot) (part_with_hold (part_of v c.slot) (c.first, c.size) log) (λ p. part_with_out p false)
      (part_put c.slot v v.seen (part_with_hold (part_of v c.slot) (c.first, c.size) log)) (part_put c.slot u u.seen (part_with_out (part_of u c.slot) false))

  -- an unlock
  pub unheld_part : (v : View E) (c : Claim) (log : List E) → HasPart c.slot v (part_without_hold (part_of v c.slot) c.first log) (view_without_hold v c log)
  unheld_part v c log = let u = view_lifted v c.slot in
      part_then c.slot v u (view_unlocked u c log) (part_with_out (part_of v c.slot) true) (λ p. part_without_hold p c.first log)
      (part_put c.slot v v.seen (part_with_out (part_of v c.slot) true)) (part_put c.slot u u.seen (part_without_hold (part_of u c.slot) c.first log))

  -- a lock whose slot went out
  pub lifted_part : (v : View E) (slot : ℕ) → HasPart slot v (part_with_out (part_of v slot) true) (view_lifted v slot)
  lifted_part v slot = part_put slot v v.seen (part_with_out (part_of v slot) true)

  -- the part of a holder whose word showed that errors wait
  pub miss_part : (v : View E) (slot word : ℕ) → HasPart slot v (part_with_miss (part_of v slot) word) (view_after_miss v slot word)
  miss_part v slot word = part_put slot v (v.seen ++ (slot, word) ∷ []) (part_with_miss (part_of v slot) word)

  -- the same, which then took this chain
  pub chain_part : (v : View E) (slot word : ℕ) (qs : List Queued)
      → HasPart slot v (part_with_got (part_with_miss (part_of v slot) word) ((part_of v slot).got ++ reverse (receipts_of qs))) (view_with_list (taking_view (view_after_miss v slot word) slot qs) [])
  chain_part v slot word qs = let w = view_after_miss v slot word in
      part_then slot v w (view_with_list (taking_view w slot qs) []) (part_with_miss (part_of v slot) word) (λ p. part_with_got p (p.got ++ reverse (receipts_of qs)))
      (miss_part v slot word)
      (part_on_top slot w (view_with_list (taking_view w slot qs) []) (part_with_got (part_of w slot) ((part_of w slot).got ++ reverse (receipts_of qs))) refl)

  -- an unlock that found errors
  pub pending_part : (v : View E) (c : Claim) (word : ℕ) (qs : List Queued) → HasPart c.slot v (part_after_pending (part_of v c.slot) word qs) (view_after_pending v c word qs)
  pending_part v c word qs = let u = view_lifted v c.slot in let x = view_with_list (taking_view (view_after_miss u c.slot word) c.slot qs) [] in
      part_then c.slot v x (view_after_pending v c word qs) (part_with_got (part_with_miss (part_with_out (part_of v c.slot) true) word) ((part_of v c.slot).got ++ reverse (receipts_of qs)))
      (λ p. part_with_out p false)
      (part_then c.slot v u x (part_with_out (part_of v c.slot) true) (λ p. part_with_got (part_with_miss p word) (p.got ++ reverse (receipts_of qs)))
      (lifted_part v c.slot) (chain_part u c.slot word qs))
      (part_put c.slot x x.seen (part_with_out (part_of x c.slot) false))

  -- a destroy
  pub destroyed_part : (v : View E) (c : Claim) (log : List E) (out : List Receipt) (qs : List Queued)
      → HasPart c.slot v (part_with_end (part_of v c.slot) c.first (c.first + c.size) log (out ++ reverse (receipts_of qs))) (view_after_destroy v c log out qs)
  destroyed_part v c log out qs = let i = c.slot in let u = view_lifted v i in
      part_then i v u (view_after_destroy v c log out qs) (part_with_out (part_of v i) true) (λ p. part_with_end p c.first (c.first + c.size) log (out ++ reverse (receipts_of qs)))
      (part_put i v v.seen (part_with_out (part_of v i) true))
      (part_on_top i u (view_after_destroy v c log out qs) (part_with_end (part_of u i) c.first (c.first + c.size) log (out ++ reverse (receipts_of qs))) refl)
