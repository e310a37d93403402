-- A replay under way: what it has yet to tell, and what holds of it between two lines.
use Rattle.std.specs.Prelude.{◌≡◌, ◌≤◌, nat_eq, List, [], ◌++◌, length}
use Rattle.std.specs.List.{IsDistinct}
use Rattle.std.specs.Map.{keys_of}
use Rattle.std.specs.Vec.Iter.{into_iter_items}
use Rattle.rpc_model.specs.declared.script.Script.{Script}
use Rattle.rpc_model.specs.declared.script.Act.{Act}
use Rattle.rpc_model.specs.declared.told.Told.{Told}
use Rattle.rpc_model.specs.Limits.{called}
use Rattle.rpc_model.specs.Fits.{Fits}
use Rattle.rpc_model.specs.Told.{unbegun, told_from}
use Rattle.model_laws.specs.Early.{settled}
use Rattle.model_laws.specs.Logs.{after_all}
use Rattle.sim_run.specs.declared.replaying.Replaying.{Replaying}
use Rattle.sim_run.specs.Desk.{IsReady, replay_of}
use Rattle.sim_run.specs.Rounds.{IsPlanned}

-- the lines to come
abbrev pub lines_left : Replaying → List Act
lines_left r = into_iter_items r.acts

-- what it has yet to tell: what the last line told, and what the lines to come tell
abbrev pub left : Replaying → List Told
left r = r.told.items ++ told_from r.script (replay_of r.replay) (lines_left r)

-- the script with all its lines
abbrev pub whole : Script → List Act → Script
whole script acts = record script { acts = acts }

-- It has come so far by the lines before those that are left, as the plain machine has but for marks that calls have taken early, and every call to
-- come has a new number.
pub record IsUnderWay (r : Replaying) : Type 0 where
  pub before : List Act
  pub rest : Fits r.script
  pub fits : Fits (whole r.script (before ++ lines_left r))
  pub ready : IsReady r.script r.replay
  pub led : settled (replay_of r.replay) ≡ settled (after_all r.script unbegun before)
  pub numbers : IsDistinct nat_eq (keys_of r.replay.calls.entries ++ called (lines_left r))
  pub few : length (keys_of r.replay.calls.entries) ≤ length before
  pub planned : IsPlanned r.script.chans r.plans
