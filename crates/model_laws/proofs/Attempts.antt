-- Attempts that were replaced, and the reply that a success needs.
use Rattle.std.proofs.Common.{◌≡◌, ℕ, ◌<◌, Bool, true, false, cond, ◌&&◌, ◌||◌, ◌==◌, not, List, [], ◌∷◌, fold, Option, Some, None, is_none, arith, refl}
use Rattle.rpc_model.specs.declared.event.End.{End}
use Rattle.rpc_model.specs.declared.event.End.TheVariants.{Good, Bad}
use Rattle.rpc_model.specs.declared.event.Event.{Event}
use Rattle.rpc_model.specs.declared.event.Event.TheVariants.{Reply, Lost, Backup, Deadline, Cancel}
use Rattle.rpc_model.specs.Codes.{retriable}
use Rattle.rpc_model.specs.Leaf.{Leaf, leaf_step, is_live, is_attempt, may_issue, failed, answered, ended, retried, backed}

-- The attempt was issued, and it is neither the current nor the older one of a leaf without an end.
record Replaced (attempt : ℕ) (leaf : Leaf) : Type 0 where
  before : attempt < leaf.issued
  dead : leaf.end ≡ None → ((leaf.current == attempt) ≡ false) × (is_attempt leaf.older attempt ≡ false)

replaced-from : (attempt : ℕ) (leaf : Leaf) → attempt < leaf.issued → is_live leaf attempt ≡ false → Replaced attempt leaf
replaced-from attempt leaf before h = record {
  before = before;
  dead = λ none.
      let open_leaf : ((leaf.current == attempt) || is_attempt leaf.older attempt) ≡ false = rw none at h in
      neither (leaf.current == attempt) (is_attempt leaf.older attempt) open_leaf;
}
  where
    neither : (a b : Bool) → (a || b) ≡ false → (a ≡ false) × (b ≡ false)
    neither true b e = cc
    neither false b e = (refl, e)

not_live-from : (attempt : ℕ) (leaf : Leaf) → Replaced attempt leaf → is_live leaf attempt ≡ false
not_live-from attempt leaf h = at-end leaf.end refl
  where
    at-end : (o : Option End) → leaf.end ≡ o → is_live leaf attempt ≡ false
    at-end None e = let dead = h.dead e in rw (e, dead.0, dead.1)
    at-end (Some end) e = rw e

replaced-ended : (attempt : ℕ) (leaf : Leaf) (end : End) → Replaced attempt leaf → Replaced attempt (ended leaf end)
replaced-ended attempt leaf end h = record { before = h.before; dead = λ none. absurd (no-none end none) }
  where
    no-none : (e : End) → Some e ≡ None → ⊥
    no-none e same = cc

replaced-failed : (retry attempt : ℕ) (leaf : Leaf) (k code : ℕ) → Replaced attempt leaf → Replaced attempt (failed retry leaf k code)
replaced-failed retry attempt leaf k code h =
    elim (is_attempt leaf.older k) as (λ b. Replaced attempt (cond b (record leaf { older = None }) (cond (may_issue retry leaf && retriable code) (retried leaf) (ended leaf (Bad code))))) [
      | true ↦ record { before = h.before; dead = λ none. ((h.dead none).0, refl) }
      | false ↦ elim (may_issue retry leaf && retriable code) as (λ b. Replaced attempt (cond b (retried leaf) (ended leaf (Bad code)))) [
        | true ↦ record { before = (let less = h.before in omega arith); dead = λ none. ((let less = h.before in grind arith), (h.dead none).1) }
        | false ↦ replaced-ended attempt leaf (Bad code) h
      ]
    ]

replaced-step : (retry attempt : ℕ) (leaf : Leaf) (e : Event) → Replaced attempt leaf → Replaced attempt (leaf_step retry leaf e)
replaced-step retry attempt leaf (Reply node k code text) h =
    elim (is_live leaf k) as (λ b. Replaced attempt (cond b (answered retry leaf k code text) leaf)) [
      | true ↦ elim (code == 0) as (λ b. Replaced attempt (cond b (ended leaf (Good text)) (failed retry leaf k code)))
          [ true ↦ replaced-ended attempt leaf (Good text) h | false ↦ replaced-failed retry attempt leaf k code h ]
      | false ↦ h
    ]
replaced-step retry attempt leaf (Lost node k code) h =
    elim (is_live leaf k) as (λ b. Replaced attempt (cond b (failed retry leaf k code) leaf)) [ true ↦ replaced-failed retry attempt leaf k code h | false ↦ h ]
replaced-step retry attempt leaf (Backup node) h =
    elim (is_none leaf.end && (not leaf.backed_up && may_issue retry leaf)) as (λ b. Replaced attempt (cond b (backed leaf) leaf)) [
      | true ↦ record { before = (let less = h.before in omega arith); dead = λ none. ((let less = h.before in grind arith), (h.dead none).0) }
      | false ↦ h
    ]
replaced-step retry attempt leaf (Deadline node) h =
    elim (is_none leaf.end) as (λ b. Replaced attempt (cond b (ended leaf (Bad 1008)) leaf)) [ true ↦ replaced-ended attempt leaf (Bad 1008) h | false ↦ h ]
replaced-step retry attempt leaf Cancel h = h

replaced-later : (retry attempt : ℕ) (leaf : Leaf) (events : List Event) → Replaced attempt leaf → Replaced attempt (fold (leaf_step retry) leaf events)
replaced-later retry attempt leaf [] h = h
replaced-later retry attempt leaf (e ∷ events) h = replaced-later retry attempt (leaf_step retry leaf e) events (replaced-step retry attempt leaf e h)

pub replaced-does_nothing : (retry : ℕ) (leaf : Leaf) (attempt : ℕ) (events : List Event) (node code : ℕ) (text : List ℕ) → attempt < leaf.issued → is_live leaf attempt ≡ false
    → let later = fold (leaf_step retry) leaf events in
    (leaf_step retry later (Reply node attempt code text) ≡ later) × (leaf_step retry later (Lost node attempt code) ≡ later)
replaced-does_nothing retry leaf attempt events node code text before h =
    let dead = not_live-from attempt (fold (leaf_step retry) leaf events) (replaced-later retry attempt leaf events (replaced-from attempt leaf before h)) in
    (rw dead refl, rw dead refl)

-- ---- the reply that a success needs

-- A failure ends no leaf with a text.
failed-not_good : (retry : ℕ) (leaf : Leaf) (k code : ℕ) (text : List ℕ) → leaf.end ≡ None → (failed retry leaf k code).end ≡ Some (Good text) → ⊥
failed-not_good retry leaf k code text none =
    elim (is_attempt leaf.older k) as (λ b. (cond b (record leaf { older = None }) (cond (may_issue retry leaf && retriable code) (retried leaf) (ended leaf (Bad code)))).end ≡ Some (Good text) → ⊥) [
      | true ↦ λ good. cc
      | false ↦ elim (may_issue retry leaf && retriable code) as (λ b. (cond b (retried leaf) (ended leaf (Bad code))).end ≡ Some (Good text) → ⊥) [ true ↦ λ good. cc | false ↦ λ good. cc ]
    ]

abbrev pub NeedsReply : Leaf → Event → List ℕ → Type 0
NeedsReply leaf e text = (node : ℕ) × (attempt : ℕ) × (e ≡ Reply node attempt 0 text) × (is_live leaf attempt ≡ true)

pub success-needs : (retry : ℕ) (leaf : Leaf) (e : Event) (text : List ℕ) → leaf.end ≡ None → (leaf_step retry leaf e).end ≡ Some (Good text) → NeedsReply leaf e text
success-needs retry leaf (Reply node k code t) text none =
    elim (is_live leaf k) as (λ b. is_live leaf k ≡ b → (cond b (answered retry leaf k code t) leaf).end ≡ Some (Good text)
    → (n : ℕ) × (a : ℕ) × (Reply node k code t ≡ Reply n a 0 text) × (is_live leaf a ≡ true)) [
      | true ↦ λ live. elim (code == 0) as (λ b. (code == 0) ≡ b → (cond b (ended leaf (Good t)) (failed retry leaf k code)).end ≡ Some (Good text)
          → (n : ℕ) × (a : ℕ) × (Reply node k code t ≡ Reply n a 0 text) × (is_live leaf a ≡ true)) [
            | true ↦ λ zero good. let code_is : code ≡ 0 = grind arith in let text_is : t ≡ text = cc in (node, k, (let same : Reply node k code t ≡ Reply node k 0 text = cc in same), live)
            | false ↦ λ other good. absurd (failed-not_good retry leaf k code text none good)
          ] refl
      | false ↦ λ dead good. absurd (let no : ⊥ = cc in no)
    ] refl
success-needs retry leaf (Lost node k code) text none =
    elim (is_live leaf k) as (λ b. (cond b (failed retry leaf k code) leaf).end ≡ Some (Good text) → NeedsReply leaf (Lost node k code) text) [
      | true ↦ λ good. absurd (failed-not_good retry leaf k code text none good)
      | false ↦ λ good. absurd (let no : ⊥ = cc in no)
    ]
success-needs retry leaf (Backup node) text none =
    elim (is_none leaf.end && (not leaf.backed_up && may_issue retry leaf)) as (λ b. (cond b (backed leaf) leaf).end ≡ Some (Good text) → NeedsReply leaf (Backup node) text) [
      | true ↦ λ good. absurd (let no : ⊥ = cc in no)
      | false ↦ λ good. absurd (let no : ⊥ = cc in no)
    ]
success-needs retry leaf (Deadline node) text none =
    elim (is_none leaf.end) as (λ b. (cond b (ended leaf (Bad 1008)) leaf).end ≡ Some (Good text) → NeedsReply leaf (Deadline node) text) [
      | true ↦ λ good. absurd (let no : ⊥ = cc in no)
      | false ↦ λ good. absurd (let no : ⊥ = cc in no)
    ]
success-needs retry leaf Cancel text none = λ good. absurd (let no : ⊥ = cc in no)
