-- The completions of a parallel node: its subs' ends, in the order in which they came; and how the node stands by them. This project's own choice.
use Rattle.std.specs.Prelude.{◌≡◌, ℕ, ◌+◌, ◌⊎◌, List, [], ◌∷◌, ◌++◌, length, Option, None, Some}
use Rattle.rpc_model.specs.declared.codes.TheConstants.{ECANCELED}
use Rattle.rpc_model.specs.declared.event.End.{End}
use Rattle.rpc_model.specs.declared.event.End.TheVariants.{Bad}
use Rattle.rpc_model.specs.declared.event.Event.{Event}
use Rattle.rpc_model.specs.declared.event.Event.TheVariants.{Deadline, Cancel}
use Rattle.rpc_model.specs.Kinds.{Kinds}
use Rattle.rpc_model.specs.declared.chan.Chan.{Chan}
use Rattle.rpc_model.specs.Plan.{Rule, Plan, par_plan, Plans, last_plan, plan_then, plan}
use Rattle.rpc_model.specs.Parallel.{limits, mapped, refused, par_end, par_deadline, ends_from}
use Rattle.rpc_model.specs.State.{Par, State, waits, leaf_state, par_state, sel_state, States, last_state, state_then, end_of, ends_of}
use Rattle.rpc_model.specs.Machine.{new_end, start, step, machine}
use Rattle.model_laws.specs.Paths.{children, node_at, number_at}

abbrev pub and_done : ℕ → Option End → List (ℕ × End) → List (ℕ × End)
and_done index None done = done
and_done index (Some end) done = (index, end) ∷ done

module _ {M G : Type 0} where
  -- the completions after the subs went from these states to those, the last one first: where several ended, in rising order
  abbrev pub newly : ℕ → States M G → States M G → List (ℕ × End) → List (ℕ × End)
  newly index last_state now done = done
  newly index (state_then before more) last_state done = done
  newly index (state_then before more) (state_then now others) done =
      newly (index + 1) more others (and_done index (new_end (end_of before) (end_of now)) done)

  abbrev pub children_at : Option (State M G) → States M G
  children_at None = last_state
  children_at (Some state) = children state

  -- the same of the node at the end of a path, where the root went from this state to that
  abbrev pub newly_at : List ℕ → State M G → State M G → List (ℕ × End) → List (ℕ × End)
  newly_at path before now done = newly 0 (children_at (node_at path before)) (children_at (node_at path now)) done

  abbrev pub count_of : Plans M G → ℕ
  count_of last_plan = 0
  count_of (plan_then plan plans) = count_of plans + 1

  -- a parallel node that was started and has no end
  abbrev pub IsOpen : Option (State M G) → Type 0
  IsOpen None = ⊥
  IsOpen (Some (waits plan)) = ⊥
  IsOpen (Some (leaf_state chan request leaf)) = ⊥
  IsOpen (Some (par_state par states)) = par.end ≡ None
  IsOpen (Some (sel_state sel states)) = ⊥

module _ {M G : Type 0} (kinds : Kinds M G) where
  -- the completions of the node at the end of a path, after these events
  abbrev pub completions_from : List ℕ → ℕ → State M G → List (Event × ℕ) → List (ℕ × End) → List (ℕ × End)
  completions_from path call state [] done = done
  completions_from path call state (timed ∷ events) done =
      let now = (step kinds call state timed.0 timed.1).state in
      completions_from path call now events (newly_at path state now done)

  -- the same from the start of the call on
  abbrev pub completions : List ℕ → Plan M G → ℕ → List ℕ → ℕ → List (Event × ℕ) → List (ℕ × End)
  completions path plan call request begun events =
      let first = (start kinds plan call request begun).state in
      completions_from path call first events (newly_at path (waits plan) first [])

  -- Among the events this one came, at some moment, to the parallel node at the end of the path while that was open and
  -- had these completions.
  pub record CameTo (path : List ℕ) (plan : Plan M G) (call : ℕ) (request : List ℕ) (begun : ℕ) (events : List (Event × ℕ))
      (event : Event) (done : List (ℕ × End)) : Type 0 where
    pub before : List (Event × ℕ)
    pub moment : ℕ
    pub rest : List (Event × ℕ)
    pub place : events ≡ before ++ (event, moment) ∷ rest
    pub open_ : IsOpen (node_at path (machine kinds plan call request begun before).state)
    pub had : completions path plan call request begun before ≡ done

-- a parallel node of this rule and this number, at the end of a path; and what came to it while it was open and had these completions
module _ {M G : Type 0} (kinds : Kinds M G) (path : List ℕ) (number : ℕ) (rule : Rule M G) (Came : Event → List (ℕ × End) → Type 0) where
  -- Why it has its end, or none: by its completions, by its deadline that came after completions that brought none, because
  -- no sub was started, or, at the root, by a cancel that came after completions that brought none.
  abbrev pub EndsBy : List ℕ → List (ℕ × End) → Option End → Type 0
  EndsBy request done end =
      let asked = mapped kinds.map rule.maps request in
      let lim = limits rule asked in
      let late = par_deadline kinds lim rule.merges (ends_from 0 (length rule.merges) done) in
      (end ≡ par_end kinds lim rule.merges done)
      ⊎ (((par_end kinds lim rule.merges done ≡ None) × (end ≡ Some late) × Came (Deadline number) done)
      ⊎ (((done ≡ []) × (end ≡ refused asked))
      ⊎ ((path ≡ []) × (par_end kinds lim rule.merges done ≡ None) × (end ≡ Some (Bad ECANCELED)) × Came Cancel done)))

  -- its subs had these completions
  pub record StandsBy (done : List (ℕ × End)) (par : Par G) (states : States M G) : Type 0 where
    pub request : List ℕ
    pub same_limits : par.limits ≡ limits rule (mapped kinds.map rule.maps request)
    pub same_merges : par.merges ≡ rule.merges
    pub by_index : ends_of states ≡ ends_from 0 (length rule.merges) done
    pub ends : EndsBy request done par.end

  -- a node that wasn't started has no completions
  abbrev pub NodeStandsBy : Plans M G → List (ℕ × End) → Option (State M G) → Type 0
  NodeStandsBy plans done None = ⊥
  NodeStandsBy plans done (Some (waits plan)) = (plan ≡ par_plan rule plans) × (done ≡ [])
  NodeStandsBy plans done (Some (leaf_state chan request leaf)) = ⊥
  NodeStandsBy plans done (Some (par_state par states)) = StandsBy done par states
  NodeStandsBy plans done (Some (sel_state sel states)) = ⊥

module _ {M G : Type 0} (kinds : Kinds M G) where
  -- Each parallel node of the plan of a channel, at the end of whatever path, stands by its completions in the order in
  -- which they came. Where these brought no end and it has one, its own deadline came to it while it was open, under the
  -- node's number, or at the root a cancel did.
  abbrev pub ParallelNodesStandByCompletions : Type 0
  ParallelNodesStandByCompletions = (chans : List (Chan M G)) (index call : ℕ) (p : Plan M G) (path : List ℕ) (rule : Rule M G)
      (plans : Plans M G) (request : List ℕ) (begun : ℕ) (events : List (Event × ℕ))
      → plan chans index call ≡ Some p → node_at path (waits p) ≡ Some (waits (par_plan rule plans))
      → NodeStandsBy kinds path (number_at 0 path (waits p)) rule (CameTo kinds path p call request begun events) plans
      (completions kinds path p call request begun events) (node_at path (machine kinds p call request begun events).state)
