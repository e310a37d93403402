-- Single calls, computed: what they send, to which server and with what request, the marks that they set, and their ranges of ids.
use Rattle.std.proofs.Common.{◌≡◌, ℕ, List, [], ◌∷◌, Option, Some, None, refl, codes}
use Rattle.std.specs.Fmt.{digits}
use Rattle.std.specs.Option.{option_map}
use Rattle.rpc_model.specs.declared.event.Event.{Event}
use Rattle.rpc_model.specs.declared.event.Event.TheVariants.{Reply, Lost, Backup, Deadline}
use Rattle.rpc_model.specs.Codes.{retriable}
use Rattle.std.specs.Prelude.{Bool}
use Rattle.rpc_model.specs.Effects.{Send, Mark, deadline, backup}
use Rattle.rpc_model.specs.declared.chan.Chan.{Chan}
use Rattle.rpc_model.specs.declared.chan.Chan.TheVariants as chan
use Rattle.rpc_model.specs.declared.chan.Sub.{Sub}
use Rattle.rpc_model.specs.declared.kinds.MapKind.{MapKind}
use Rattle.rpc_model.specs.declared.kinds.MapKind.TheVariants as map
use Rattle.rpc_model.specs.declared.kinds.MergeKind.{MergeKind}
use Rattle.rpc_model.specs.declared.kinds.MergeKind.TheVariants as merge
use Rattle.rpc_model.specs.declared.meaning.Meaning.TheVariants.{Node, Attempt}
use Rattle.rpc_model.specs.Kinds.{script_kinds}
use Rattle.rpc_model.specs.Plan.{Plan, plan}
use Rattle.rpc_model.specs.Versions.{versions, width, offset_of, meaning_of}
use Rattle.rpc_model.specs.Faults.{depth, missing_part}
use Rattle.rpc_model.specs.State.{Run}
use Rattle.rpc_model.specs.Machine.{machine}

abbrev Chans : Type 0
Chans = List (Chan MapKind MergeKind)

abbrev leaf : Option ℕ → Option ℕ → Chan MapKind MergeKind
leaf back timeout = chan.Leaf (record { servers = 0 ∷ 1 ∷ []; retry = 0; backup = back; timeout = timeout })

abbrev sub : ℕ → MapKind → Sub MapKind MergeKind
sub number m = record { map = m; merge = merge.Cat; chan = number }

abbrev par : ℕ → ℕ → List (Sub MapKind MergeKind) → Chan MapKind MergeKind
par fail ok subs = chan.Par (record { subs = subs; fail = fail; ok = ok; timeout = Some 500 })

abbrev send : ℕ → ℕ → ℕ → List ℕ → Send
send node attempt server payload = record { node = node; attempt = attempt; server = server; payload = payload }

abbrev mark : ℕ → ℕ → Bool → Mark
mark moment node kind = record { moment = moment; node = node; backup = kind }

-- the run of a call of this number on the channel of a number, with this request, from moment 0 on
abbrev run : Chans → ℕ → ℕ → List ℕ → List (Event × ℕ) → Option (Run MapKind MergeKind)
run chans number call request events = option_map (λ (p : Plan MapKind MergeKind). machine script_kinds p call request 0 events) (plan chans number call)

abbrev sends : Option (Run MapKind MergeKind) → Option (List Send)
sends = option_map (λ (r : Run MapKind MergeKind). r.sends)

abbrev marks : Option (Run MapKind MergeKind) → Option (List Mark)
marks = option_map (λ (r : Run MapKind MergeKind). r.marks)

-- ---- a parallel channel below a parallel channel

abbrev nested : Chans
nested = leaf None (Some 500) ∷ par 1 0 (sub 0 map.Index ∷ sub 0 map.Index ∷ []) ∷ par 0 1 (sub 1 map.Same ∷ sub 0 map.Same ∷ []) ∷ []

nested-sends : sends (run nested 2 1 (codes "z") []) ≡ Some (send 2 0 1 (codes "z0") ∷ send 3 0 1 (codes "z1") ∷ send 4 0 1 (codes "z") ∷ [])
unfolding digits
nested-sends = refl

nested-marks : marks (run nested 2 1 (codes "z") []) ≡ Some (mark 500 0 deadline ∷ mark 500 1 deadline ∷ mark 500 2 deadline ∷ mark 500 3 deadline ∷ mark 500 4 deadline ∷ [])
unfolding digits
nested-marks = refl

nested-versions : option_map versions (plan nested 2 1) ≡ Some (Node 0 ∷ Node 1 ∷ Node 2 ∷ Node 3 ∷ Node 4 ∷ Attempt 2 0 ∷ Attempt 3 0 ∷ Attempt 4 0 ∷ [])
unfolding versions
nested-versions = refl

nested-width : option_map width (plan nested 2 1) ≡ Some 8
unfolding width versions
nested-width = refl

nested-offset : option_map (λ (p : Plan MapKind MergeKind). offset_of p (Attempt 4 0)) (plan nested 2 1) ≡ Some (Some 7)
unfolding offset_of versions
nested-offset = refl

no-offset : option_map (λ (p : Plan MapKind MergeKind). offset_of p (Attempt 1 0)) (plan nested 2 1) ≡ Some None
unfolding offset_of versions
no-offset = refl

no-meaning : option_map (λ (p : Plan MapKind MergeKind). meaning_of p 8) (plan nested 2 1) ≡ Some None
unfolding meaning_of versions
no-meaning = refl

-- ---- two parts, with a retry and a backup request

abbrev parted : Chans
parted =
    chan.Part (record {
      parts = 2;
      tags = record { server = 0; part = 0; of = 2 } ∷ record { server = 1; part = 1; of = 2 } ∷ record { server = 2; part = 0; of = 3 } ∷ [];
      map = map.Split;
      merge = merge.Cat;
      retry = 3;
      backup = Some 100;
      fail = 0;
      ok = 0;
      timeout = Some 500;
    }) ∷ []

abbrev parted-events : List (Event × ℕ)
parted-events = (Reply 2 0 0 (codes "V"), 40) ∷ (Lost 1 0 1009, 60) ∷ (Backup 1, 100) ∷ (Reply 1 2 0 (codes "U"), 170) ∷ []

parted-sends : sends (run parted 0 7 (codes "u,v") parted-events)
    ≡ Some (send 1 0 0 (codes "u") ∷ send 2 0 1 (codes "v") ∷ send 1 1 0 (codes "u") ∷ send 1 2 0 (codes "u") ∷ [])
unfolding retriable
parted-sends = refl

parted-marks : marks (run parted 0 7 (codes "u,v") parted-events) ≡ Some (mark 500 0 deadline ∷ mark 100 1 backup ∷ mark 100 2 backup ∷ [])
unfolding retriable
parted-marks = refl

-- ---- tries: the second one starts at the moment of the first one's deadline, and counts from there

abbrev tried : Chans
tried = leaf (Some 3) (Some 5) ∷ chan.Sel (record { subs = 0 ∷ []; retry = 1; timeout = Some 9 }) ∷ []

tried-sends : sends (run tried 1 2 (codes "q") ((Deadline 1, 5) ∷ [])) ≡ Some (send 1 0 0 (codes "q") ∷ send 2 0 0 (codes "q") ∷ [])
tried-sends = refl

tried-marks : marks (run tried 1 2 (codes "q") ((Deadline 1, 5) ∷ [])) ≡ Some (mark 9 0 deadline ∷ mark 5 1 deadline ∷ mark 3 1 backup ∷ mark 10 2 deadline ∷ mark 8 2 backup ∷ [])
tried-marks = refl

-- a node that ends at its start has set the mark of its deadline all the same
refused-marks : marks (run (leaf None None ∷ par 1 1 (sub 0 map.Skip ∷ []) ∷ []) 1 1 (codes "q") []) ≡ Some (mark 500 0 deadline ∷ [])
refused-marks = refl

-- ---- depth and parts

nested-depth : depth nested 2 ≡ 3
nested-depth = refl

parted-depth : depth (chan.Sel (record { subs = 1 ∷ []; retry = 0; timeout = None }) ∷ parted) 1 ≡ 2
parted-depth = refl

missing : missing_part (chan.Part (record {
  parts = 2;
  tags = record { server = 0; part = 0; of = 2 } ∷ record { server = 1; part = 1; of = 3 } ∷ [];
  map = map.Same;
  merge = merge.Cat;
  retry = 0;
  backup = None;
  fail = 0;
  ok = 0;
  timeout = None;
}) ∷ []) 0 1 ≡ Some 1
missing = refl
