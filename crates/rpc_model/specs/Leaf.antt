-- What a plain channel's call keeps, and what an event does to it: brpc's documents on the client and on backup requests. What a retry beside a backup request does is this project's own choice.
use Rattle.std.specs.Prelude.{ℕ, ◌+◌, Bool, true, false, ◌==◌, ◌&&◌, ◌||◌, not, nat_le, List, Option, None, Some, is_none, if◌then◌else◌}
use Rattle.rpc_model.specs.declared.codes.TheConstants.{ERPCTIMEDOUT}
use Rattle.rpc_model.specs.declared.event.End.{End}
use Rattle.rpc_model.specs.declared.event.End.TheVariants.{Good, Bad}
use Rattle.rpc_model.specs.declared.event.Event.{Event}
use Rattle.rpc_model.specs.declared.event.Event.TheVariants.{Reply, Lost, Backup, Deadline, Cancel}
use Rattle.rpc_model.specs.Codes.{retriable}

-- the attempts issued, the current one, an older one that may still answer, whether the backup request was sent, and the end
pub record Leaf : Type 0 where
  pub issued : ℕ
  pub current : ℕ
  pub older : Option ℕ
  pub backed_up : Bool
  pub end : Option End

-- attempt 0 was issued
abbrev pub started : Leaf
started = record { issued = 1; current = 0; older = None; backed_up = false; end = None }

abbrev pub is_attempt : Option ℕ → ℕ → Bool
is_attempt None attempt = false
is_attempt (Some k) attempt = k == attempt

-- the leaf has no end, and the attempt is the current or the older one
abbrev pub is_live : Leaf → ℕ → Bool
is_live leaf attempt = is_none leaf.end && (leaf.current == attempt || is_attempt leaf.older attempt)

-- another attempt is left
abbrev pub may_issue : ℕ → Leaf → Bool
may_issue retry leaf = nat_le leaf.issued retry

abbrev pub ended : Leaf → End → Leaf
ended leaf end = record leaf { end = Some end }

-- the next attempt is issued and becomes the current one; the older one stays
abbrev pub retried : Leaf → Leaf
retried leaf = record leaf { issued = leaf.issued + 1; current = leaf.issued }

-- the next attempt is issued and becomes the current one, which becomes the older one
abbrev pub backed : Leaf → Leaf
backed leaf = record { issued = leaf.issued + 1; current = leaf.issued; older = Some leaf.current; backed_up = true; end = leaf.end }

-- a live attempt failed
abbrev pub failed : ℕ → Leaf → ℕ → ℕ → Leaf
failed retry leaf attempt code =
    if is_attempt leaf.older attempt then record leaf { older = None }
    else if may_issue retry leaf && retriable code then retried leaf
    else ended leaf (Bad code)

-- a live attempt was answered
abbrev pub answered : ℕ → Leaf → ℕ → ℕ → List ℕ → Leaf
answered retry leaf attempt code text = if code == 0 then ended leaf (Good text) else failed retry leaf attempt code

-- what an event at this leaf does, where another attempt may follow `retry` times
abbrev pub leaf_step : ℕ → Leaf → Event → Leaf
leaf_step retry leaf (Reply node attempt code text) = if is_live leaf attempt then answered retry leaf attempt code text else leaf
leaf_step retry leaf (Lost node attempt code) = if is_live leaf attempt then failed retry leaf attempt code else leaf
leaf_step retry leaf (Backup node) = if is_none leaf.end && (not leaf.backed_up && may_issue retry leaf) then backed leaf else leaf
leaf_step retry leaf (Deadline node) = if is_none leaf.end then ended leaf (Bad ERPCTIMEDOUT) else leaf
leaf_step retry leaf Cancel = leaf
