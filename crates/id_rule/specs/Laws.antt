-- What the rule says of two passes, and of a slot that a pass owns: one holder of a range, as bthread_id has it; the rest is this project's own choice.
use Rattle.std.specs.Prelude.{◌≡◌, ◌≢◌, ◌⊎◌, ℕ, ◌+◌, ◌<◌, ◌≤◌, List, [], ◌∷◌, Option, Some}
use mathlib.Core.Option.{some}
use lib.ListN.{get_elem?}
use Rattle.atomic_table.specs.Table.{State}
use Rattle.rpc_model.specs.Gone.{code_in, first_in}
use Rattle.id_rule.specs.Changes.{part_with_range, part_with_hold, part_without_hold, part_with_end, part_with_taking, joined_view}
use Rattle.id_rule.specs.Changes.{view_after_load, view_after_miss, pushing_view, taking_view, ending_view, first_held}
use Rattle.id_rule.specs.declared.rule.Sizes.{Sizes}
use Rattle.id_rule.specs.declared.view.Known.{Known}
use Rattle.id_rule.specs.declared.view.Notice.{Notice}
use Rattle.id_rule.specs.declared.view.Part.{Part}
use Rattle.id_rule.specs.declared.view.Queued.{Queued}
use Rattle.id_rule.specs.declared.view.Receipt.{Receipt}
use Rattle.id_rule.specs.declared.view.View.{View}
use Rattle.id_rule.specs.Nodes.{notices_of}
use Rattle.id_rule.specs.Parts.{part_of}
use Rattle.id_rule.specs.Rule.{IsKept}
use Rattle.id_rule.specs.Words.{ended_below_in}

-- the error is among those that the pass knows of
abbrev pub HasNotice : Notice → List Notice → Type 0
HasNotice e [] = ⊥
HasNotice e (x ∷ xs) = (x ≡ e) ⊎ HasNotice e xs

module _ {T E : Type 0} (log : T → List E) (first_id : T → ℕ) (rec : E → Option Receipt) where
  -- two passes that both have this of one slot are one
  abbrev pub IsOnePass : (Part E → Option (ℕ × ℕ)) → Type 0
  IsOnePass claim = (sizes : Sizes) (s : State (Option T) (View E)) (slot a b : ℕ) (v w : View E) (r q : ℕ × ℕ) → IsKept log first_id rec sizes s
      → slot < sizes.slots
      → get_elem? s.views a ≡ some v → get_elem? s.views b ≡ some w → claim (part_of v slot) ≡ Some r → claim (part_of w slot) ≡ Some q → a ≡ b

  -- A slot has at most one Hold, and at most one Spot and one Owner, whatever the order of the steps so far
  abbrev pub OneHolder : Type 0
  OneHolder = IsOnePass (λ p. p.spot) × IsOnePass (λ p. p.hold) × IsOnePass (λ p. p.owner)

  -- While a pass has the Owner of a slot, the slot's word isn't vacant, and has that range's first version: no other range is reserved there
  abbrev pub OwnedSlotsStay : Type 0
  OwnedSlotsStay = (sizes : Sizes) (s : State (Option T) (View E)) (slot a word : ℕ) (v : View E) (r : ℕ × ℕ) → IsKept log first_id rec sizes s
      → slot < sizes.slots
      → get_elem? s.views a ≡ some v → (part_of v slot).owner ≡ Some r → get_elem? s.words slot ≡ some word → (code_in word ≢ 0) × (first_in word ≡ r.0)

  -- Two passes that know of errors with the same receipt know of the same error, whether they queued it or took it
  abbrev pub ErrorsAreAsQueued : Type 0
  ErrorsAreAsQueued = (sizes : Sizes) (s : State (Option T) (View E)) (a b : ℕ) (v w : View E) (d e : Notice) → IsKept log first_id rec sizes s → get_elem? s.views a ≡ some v
      → get_elem? s.views b ≡ some w → HasNotice d v.notices → HasNotice e w.notices → d.receipt ≡ e.receipt → d ≡ e

-- the element stands in the list
abbrev pub StandsIn : {X : Type 0} → X → List X → Type 0
StandsIn x [] = ⊥
StandsIn x (y ∷ ys) = (y ≡ x) ⊎ StandsIn x ys

-- each element of the first list stands in the second
abbrev pub AreAmong : {X : Type 0} → List X → List X → Type 0
AreAmong {X} xs ys = (x : X) → StandsIn x xs → StandsIn x ys

module _ {E : Type 0} where
  -- what the first part says of a slot's logs, receipts and ends the second says too
  pub record IsKnownIn (p q : Part E) : Type 0 where
    pub logs : AreAmong p.logs q.logs
    pub last : AreAmong p.last q.last
    pub receipts : AreAmong p.receipts q.receipts
    pub dropped : AreAmong p.dropped q.dropped
    pub destroyed : AreAmong p.destroyed q.destroyed
    pub ended_below : p.ended_below ≤ q.ended_below

  -- what the first view knows the second knows
  pub record KnowsAll (v w : View E) : Type 0 where
    pub seen : AreAmong v.seen w.seen
    pub notices : AreAmong v.notices w.notices
    pub parts : (slot : ℕ) → IsKnownIn (part_of v slot) (part_of w slot)

  -- the part has this log of the range with this first version
  abbrev pub HasNoted : List (Known E) → ℕ → List E → Type 0
  HasNoted ks first log = StandsIn (record { first = first; log = log }) ks

  -- the view has seen the word, and what it shows ended
  abbrev pub HasLoaded : View E → ℕ → ℕ → Type 0
  HasLoaded v slot n = StandsIn (slot, n) v.seen × (ended_below_in n ≤ (part_of v slot).ended_below)

-- A pass that took in another knows what both knew
abbrev pub JoinsKeep : Type 0 → Type 0
JoinsKeep E = (v w : View E) → KnowsAll v (joined_view v w) × KnowsAll w (joined_view v w)

-- What a step tells its pass the pass knows from then on: the word of a load, and what it shows ended; the log at which a range begins, is locked,
-- unlocked, ended or collected; that it ended; and the errors that were queued or taken
pub record StepsAreNoted (E : Type 0) : Type 0 where
  pub load : (v : View E) (slot n : ℕ) → HasLoaded (view_after_load v slot n) slot n
  pub miss : (v : View E) (slot n : ℕ) → HasLoaded (view_after_miss v slot n) slot n
  pub begin : (p : Part E) (r : ℕ × ℕ) (l : List E) → HasNoted (part_with_range p r l).logs r.0 l
  pub lock : (p : Part E) (r : ℕ × ℕ) (l : List E) → HasNoted (part_with_hold p r l).logs r.0 l
  pub unlock : (p : Part E) (first : ℕ) (l : List E) → HasNoted (part_without_hold p first l).logs first l
  pub end : (p : Part E) (first below : ℕ) (l : List E) (lost : List Receipt) → let q = part_with_end p first below l lost in
      HasNoted q.logs first l × StandsIn first q.destroyed × (q.ended_below ≡ below)
  pub take : (p : Part E) (r : ℕ × ℕ) (l : List E) → let q = part_with_taking p r l in
      HasNoted q.logs r.0 l × HasNoted q.last r.0 l × (q.ended_below ≡ r.0 + r.1)
  pub push : (v : View E) (e : Notice) → StandsIn e (pushing_view v e).notices × StandsIn (e.first, e.receipt) (part_of (pushing_view v e) e.slot).receipts
  pub taken : (v : View E) (slot : ℕ) (qs : List Queued) → AreAmong (notices_of slot (first_held (part_of v slot).hold) qs) (taking_view v slot qs).notices
  pub dropped : (v : View E) (slot first below : ℕ) (l : List E) (out : List Receipt) (qs : List Queued)
      → AreAmong (notices_of slot first qs) (ending_view v slot first below l out qs).notices
