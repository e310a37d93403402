-- The marks of a call that are waiting, and the order in which they are taken between the call's events. This project's own choice.
use Rattle.std.specs.Prelude.{ℕ, zero, suc, ◌+◌, ◌*◌, Bool, true, false, ◌==◌, ◌&&◌, ◌||◌, nat_lt, nat_le, max, length, List, [], ◌∷◌, Option, None, Some, is_some, if◌then◌else◌}
use Rattle.rpc_model.specs.declared.event.Event.{Event}
use Rattle.rpc_model.specs.declared.event.Event.TheVariants as event
use Rattle.rpc_model.specs.Effects.{Mark}
use Rattle.rpc_model.specs.declared.kinds.MapKind.{MapKind}
use Rattle.rpc_model.specs.declared.kinds.MergeKind.{MergeKind}
use Rattle.rpc_model.specs.Kinds.{script_kinds}
use Rattle.rpc_model.specs.Plan.{Plan}
use Rattle.rpc_model.specs.Versions.{nodes}
use Rattle.rpc_model.specs.State.{State, waits, leaf_state, par_state, sel_state, States, last_state, state_then, end_of}
use Rattle.rpc_model.specs.Machine.{start, step}

-- a call that has begun: what it is, how it stands, and its marks that were set and not yet taken
pub record Begun : Type 0 where
  pub call : ℕ
  pub plan : Plan MapKind MergeKind
  pub state : State MapKind MergeKind
  pub waiting : List Mark

-- at one moment the marks are ordered by node, and a deadline stands before a backup request of its node
abbrev pub rank : Mark → ℕ
rank mark = kind_rank mark.node mark.backup
  where
    kind_rank : ℕ → Bool → ℕ
    kind_rank node false = 2 * node
    kind_rank node true = 2 * node + 1

abbrev pub is_before : Mark → Mark → Bool
is_before a b = nat_lt a.moment b.moment || (a.moment == b.moment && nat_lt (rank a) (rank b))

-- a mark that is set, among those that wait, which stand in the order in which they are taken
abbrev pub set_mark : Mark → List Mark → List Mark
set_mark mark [] = mark ∷ []
set_mark mark (m ∷ marks) = if is_before mark m then mark ∷ m ∷ marks else m ∷ set_mark mark marks

abbrev pub set_all : List Mark → List Mark → List Mark
set_all [] waiting = waiting
set_all (mark ∷ marks) waiting = set_all marks (set_mark mark waiting)

-- a call begins at a moment
abbrev pub begin : ℕ → Plan MapKind MergeKind → List ℕ → ℕ → Begun
begin call plan request moment =
    let run = start script_kinds plan call request moment in
    record { call = call; plan = plan; state = run.state; waiting = set_all run.marks [] }

-- an event of the call at a moment
abbrev pub apply : Begun → Event → ℕ → Begun
apply b event moment =
    let run = step script_kinds b.call b.state event moment in
    record b { state = run.state; waiting = set_all run.marks b.waiting }

-- the mark that comes first, and the others
abbrev pub least_mark : List Mark → Option (Mark × List Mark)
least_mark [] = None
least_mark (mark ∷ marks) = Some (mark, marks)

abbrev pub mark_event : ℕ → Bool → Event
mark_event node false = event.Deadline node
mark_event node true = event.Backup node

-- a mark is taken at its own moment
abbrev pub take_mark : Begun → Mark → List Mark → Begun
take_mark b mark others = apply (record b { waiting = others }) (mark_event mark.node mark.backup) mark.moment

module _ {M G : Type 0} where
  -- the nodes that weren't started
  abbrev mutual
    pub unstarted : State M G → ℕ
    unstarted (waits plan) = nodes plan
    unstarted (leaf_state chan request leaf) = 0
    unstarted (par_state par states) = unstarted_of states
    unstarted (sel_state sel states) = unstarted_of states

    pub unstarted_of : States M G → ℕ
    unstarted_of last_state = 0
    unstarted_of (state_then state states) = unstarted state + unstarted_of states

-- how many marks a call may take yet at the most: those that wait, and two for each node that wasn't started, since a node is started once and sets two at the most
abbrev pub marks_left : Begun → ℕ
marks_left b = length b.waiting + 2 * unstarted b.state

abbrev pub weave_least : (Begun → Begun) → ℕ → Begun → Option (Mark × List Mark) → Begun
weave_least again moment b None = b
weave_least again moment b (Some (mark, others)) = if nat_le mark.moment moment then again (take_mark b mark others) else b

abbrev pub weave_at_most : ℕ → ℕ → Begun → Begun
weave_at_most zero moment b = b
weave_at_most (suc count) moment b = weave_least (weave_at_most count moment) moment b (least_mark b.waiting)

-- the waiting marks that are due at the moment or before are taken, the least first, each from the state as it then is
abbrev pub weave : ℕ → Begun → Begun
weave moment b = weave_at_most (marks_left b) moment b

-- The moment reached, and the call.
abbrev pub finish_least : (ℕ → Begun → ℕ × Begun) → ℕ → Begun → Option (Mark × List Mark) → ℕ × Begun
finish_least again reached b None = (reached, b)
finish_least again reached b (Some (mark, others)) = again (max reached mark.moment) (take_mark b mark others)

abbrev pub finish_at_most : ℕ → ℕ → Begun → ℕ × Begun
finish_at_most zero reached b = (reached, b)
finish_at_most (suc count) reached b =
    if is_some (end_of b.state) then (reached, b) else finish_least (finish_at_most count) reached b (least_mark b.waiting)

-- The waiting marks are taken until the call has an end or no mark is left. They are taken in rising order, so the
-- moment reached becomes that of the last one, where that is greater.
abbrev pub finish : ℕ → Begun → ℕ × Begun
finish reached b = finish_at_most (marks_left b) reached b
