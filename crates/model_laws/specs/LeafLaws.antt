-- What holds of every run of a call on a plain channel.
use Rattle.std.specs.Prelude.{◌≡◌, ℕ, zero, suc, ◌+◌, ◌<◌, ◌≤◌, true, false, fold, List, [], ◌∷◌, ◌++◌, None, Some}
use Rattle.rpc_model.specs.declared.chan.LeafChan.{LeafChan}
use Rattle.rpc_model.specs.declared.event.End.TheVariants.{Good}
use Rattle.rpc_model.specs.declared.event.Event.{Event}
use Rattle.rpc_model.specs.declared.event.Event.TheVariants.{Reply, Lost}
use Rattle.rpc_model.specs.Leaf.{Leaf, is_live, leaf_step}
use Rattle.rpc_model.specs.Plan.{leaf_plan}
use Rattle.rpc_model.specs.Effects.{Send, server_of}
use Rattle.rpc_model.specs.Kinds.{Kinds}
use Rattle.rpc_model.specs.State.{attempts}
use Rattle.rpc_model.specs.Machine.{machine}

-- A leaf issues one attempt at its start and at most as many more as it may retry.
abbrev pub AttemptsAreFew : {M G : Type 0} → Kinds M G → Type 0
AttemptsAreFew kinds = (leaf : LeafChan) (call : ℕ) (request : List ℕ) (begun : ℕ) (events : List (Event × ℕ))
    → (1 ≤ attempts (machine kinds (leaf_plan leaf) call request begun events).state) × (attempts (machine kinds (leaf_plan leaf) call request begun events).state ≤ 1 + leaf.retry)

-- A leaf that may not retry issues exactly one attempt.
abbrev pub OneAttempt : {M G : Type 0} → Kinds M G → Type 0
OneAttempt kinds = (leaf : LeafChan) (call : ℕ) (request : List ℕ) (begun : ℕ) (events : List (Event × ℕ))
    → leaf.retry ≡ 0 → attempts (machine kinds (leaf_plan leaf) call request begun events).state ≡ 1

-- the requests of so many attempts of a leaf, each to its own server
abbrev pub first_sends : LeafChan → ℕ → List ℕ → ℕ → List Send
first_sends leaf call request zero = []
first_sends leaf call request (suc count) = first_sends leaf call request count ++ record { node = 0; attempt = count; server = server_of leaf call count; payload = request } ∷ []

-- A leaf sends each attempt that it issues once, in their order.
abbrev pub LeafSendsAreAttempts : {M G : Type 0} → Kinds M G → Type 0
LeafSendsAreAttempts kinds = (leaf : LeafChan) (call : ℕ) (request : List ℕ) (begun : ℕ) (events : List (Event × ℕ))
    → let run = machine kinds (leaf_plan leaf) call request begun events in run.sends ≡ first_sends leaf call request (attempts run.state)

-- An attempt that was issued and replaced does nothing any more, whatever comes later: neither its reply nor its loss.
abbrev pub ReplacedAttemptsDoNothing : Type 0
ReplacedAttemptsDoNothing = (retry : ℕ) (leaf : Leaf) (attempt : ℕ) (events : List Event) (node code : ℕ) (text : List ℕ)
    → attempt < leaf.issued → is_live leaf attempt ≡ false
    → let later = fold (leaf_step retry) leaf events in
    (leaf_step retry later (Reply node attempt code text) ≡ later) × (leaf_step retry later (Lost node attempt code) ≡ later)

-- A leaf ends with a text only at a reply of code 0 with this text to an attempt that is live then.
abbrev pub SuccessNeedsALiveReply : Type 0
SuccessNeedsALiveReply = (retry : ℕ) (leaf : Leaf) (event : Event) (text : List ℕ)
    → leaf.end ≡ None → (leaf_step retry leaf event).end ≡ Some (Good text)
    → (node : ℕ) × (attempt : ℕ) × (event ≡ Reply node attempt 0 text) × (is_live leaf attempt ≡ true)
