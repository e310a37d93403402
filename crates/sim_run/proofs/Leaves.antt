-- The servers of a leaf of a plan are known ones.
use Rattle.std.proofs.Common.{ℕ, ◌+◌, ◌%◌, ◌<◌, ◌==◌, Bool, true, false, cond, length, Option, Some, None, arith}
use Rattle.rpc_model.specs.declared.chan.LeafChan.{LeafChan}
use Rattle.rpc_model.specs.declared.kinds.MapKind.{MapKind}
use Rattle.rpc_model.specs.declared.kinds.MergeKind.{MergeKind}
use Rattle.rpc_model.specs.Effects.{server_of}
use Rattle.rpc_model.specs.Plan.{Plan, leaf_plan, par_plan, sel_plan, Plans, last_plan, plan_then}
use Rattle.rpc_model.specs.Versions.{nodes, or_leaf, leaf_at, leaf_at_of}
use Rattle.rpc_model.specs.Served.{IsServed, AreServed, AreAllServed}

abbrev pub IsServedIn : ℕ → Option LeafChan → Type 0
IsServedIn servers None = Unit {0}
IsServedIn servers (Some leaf) = IsServed servers leaf

or-served : (servers : ℕ) (o p : Option LeafChan) → IsServedIn servers o → IsServedIn servers p → IsServedIn servers (or_leaf o p)
or-served servers None p h k = k
or-served servers (Some leaf) p h k = h

if-served : (servers : ℕ) (leaf : LeafChan) (v : Bool) → IsServed servers leaf → IsServedIn servers (cond v (Some leaf) None)
if-served servers leaf true h = h
if-served servers leaf false h = tt

mutual
  pub leaf-served : (servers node : ℕ) (p : Plan MapKind MergeKind) (wanted : ℕ) → AreServed servers p → IsServedIn servers (leaf_at node p wanted)
  leaf-served servers node (leaf_plan leaf) wanted h = if-served servers leaf (node == wanted) h
  leaf-served servers node (par_plan rule plans) wanted h = leaves-served servers (node + 1) plans wanted h
  leaf-served servers node (sel_plan timeout plans) wanted h = leaves-served servers (node + 1) plans wanted h

  leaves-served : (servers node : ℕ) (ps : Plans MapKind MergeKind) (wanted : ℕ) → AreAllServed servers ps → IsServedIn servers (leaf_at_of node ps wanted)
  leaves-served servers node last_plan wanted h = tt
  leaves-served servers node (plan_then p ps) wanted h =
      or-served servers (leaf_at node p wanted) (leaf_at_of (node + nodes p) ps wanted) (leaf-served servers node p wanted h.0) (leaves-served servers (node + nodes p) ps wanted h.1)

pub server-known : (servers : ℕ) (leaf : LeafChan) (call attempt : ℕ) → IsServed servers leaf → server_of leaf call attempt < servers
server-known servers leaf call attempt h = h.1 ((call + attempt) % length leaf.servers) 0 (let some = h.0 in omega (arith, some))
