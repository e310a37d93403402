-- Scripts with what their joins tell, computed: rows of rows/parallel.rows, rows/selective.rows and rows/partition.rows, written by tools/rows_to_lemmas.py.
use Rattle.std.proofs.Common.{◌≡◌, ℕ, List, [], ◌∷◌, Option, Some, None, refl, codes}
use Rattle.std.specs.Fmt.{digits}
use Rattle.rpc_model.specs.declared.script.Act.{Act}
use Rattle.rpc_model.specs.declared.script.Act.TheVariants.{Call, Cancel, Reply, Lose, Join}
use Rattle.rpc_model.specs.declared.event.End.TheVariants.{Good, Bad}
use Rattle.rpc_model.specs.declared.told.Told.{Told}
use Rattle.rpc_model.specs.declared.told.Told.TheVariants.{Ended}
use Rattle.rpc_model.specs.Codes.{retriable}
use Rattle.rpc_model.specs.declared.script.Mode.TheVariants.{Sim}
use Rattle.rpc_model.specs.declared.chan.Chan.{Chan}
use Rattle.rpc_model.specs.declared.chan.Chan.TheVariants as chan
use Rattle.rpc_model.specs.declared.chan.Sub.{Sub}
use Rattle.rpc_model.specs.declared.chan.Tag.{Tag}
use Rattle.rpc_model.specs.declared.kinds.MapKind.{MapKind}
use Rattle.rpc_model.specs.declared.kinds.MapKind.TheVariants as map
use Rattle.rpc_model.specs.declared.kinds.MergeKind.{MergeKind}
use Rattle.rpc_model.specs.declared.kinds.MergeKind.TheVariants as merge
use Rattle.rpc_model.specs.Told.{told, tells, after}

abbrev runs : ℕ → List (Chan MapKind MergeKind) → List Act → List Told
runs slots chans acts = told (record { mode = Sim; slots = slots; servers = 16; chans = chans; serves = []; acts = acts })

abbrev leaf : List ℕ → ℕ → Option ℕ → Option ℕ → Chan MapKind MergeKind
leaf servers retry backup timeout = chan.Leaf (record { servers = servers; retry = retry; backup = backup; timeout = timeout })

abbrev par : ℕ → ℕ → Option ℕ → List (Sub MapKind MergeKind) → Chan MapKind MergeKind
par fail ok timeout subs = chan.Par (record { subs = subs; fail = fail; ok = ok; timeout = timeout })

abbrev sub : ℕ → MapKind → MergeKind → Sub MapKind MergeKind
sub number m g = record { map = m; merge = g; chan = number }

abbrev sel : ℕ → Option ℕ → List ℕ → Chan MapKind MergeKind
sel retry timeout subs = chan.Sel (record { subs = subs; retry = retry; timeout = timeout })

abbrev part : ℕ → ℕ → Option ℕ → ℕ → ℕ → Option ℕ → MapKind → MergeKind → List Tag → Chan MapKind MergeKind
part parts retry backup fail ok timeout m g tags =
    chan.Part (record { parts = parts; tags = tags; map = m; merge = g; retry = retry; backup = backup; fail = fail; ok = ok; timeout = timeout })

abbrev tag : ℕ → ℕ → ℕ → Tag
tag server number count = record { server = server; part = number; of = count }

-- parts are merged in the order of the subs, whatever the order of the replies
row-1 : runs 1024 (leaf (0 ∷ 1 ∷ []) 1 None (Some 500) ∷ par 0 0 (Some 500) (sub 0 map.Same merge.Cat ∷ sub 0 map.Same merge.Cat ∷ sub 0 map.Same merge.Cat ∷ []) ∷ [])
    (Call 0 1 1 (codes "q") ∷ Reply 1 1 3 0 0 (codes "c") ∷ Reply 2 1 2 0 0 (codes "b") ∷ Reply 3 1 1 0 0 (codes "a") ∷ Join 1 ∷ [])
    ≡ (Ended 1 (Good (codes "abc")) 3 ∷ [])
unfolding told tells after retriable digits
row-1 = refl

-- two of three failed: the fail limit
row-2 : runs 1024 (leaf (0 ∷ 1 ∷ []) 0 None (Some 500) ∷ par 2 0 (Some 500) (sub 0 map.Same merge.Cat ∷ sub 0 map.Same merge.Cat ∷ sub 0 map.Same merge.Cat ∷ []) ∷ [])
    (Call 0 1 1 (codes "q") ∷ Lose 1 1 1 0 1009 ∷ Lose 2 1 2 0 1009 ∷ Reply 3 1 3 0 0 (codes "c") ∷ Join 1 ∷ [])
    ≡ (Ended 1 (Bad 1005) 3 ∷ [])
unfolding told tells after retriable digits
row-2 = refl

-- a mapper refuses the whole call
row-3 : runs 1024 (leaf (0 ∷ 1 ∷ []) 0 None (Some 500) ∷ par 1 1 (Some 500) (sub 0 map.Bad merge.Cat ∷ sub 0 map.Same merge.Cat ∷ []) ∷ [])
    (Call 0 1 1 (codes "q") ∷ Join 1 ∷ [])
    ≡ (Ended 1 (Bad 1003) 0 ∷ [])
unfolding told tells after retriable digits
row-3 = refl

-- all subs are skipped
row-4 : runs 1024 (leaf (0 ∷ 1 ∷ []) 0 None (Some 500) ∷ par 1 1 (Some 500) (sub 0 map.Skip merge.Cat ∷ sub 0 map.Skip merge.Cat ∷ []) ∷ [])
    (Call 0 1 1 (codes "q") ∷ Join 1 ∷ [])
    ≡ (Ended 1 (Bad 125) 0 ∷ [])
unfolding told tells after retriable digits
row-4 = refl

-- a merger fails at the success limit, and this reaches the fail limit
row-5 : runs 1024 (leaf (0 ∷ 1 ∷ []) 0 None (Some 500) ∷ par 1 1 (Some 500) (sub 0 map.Same merge.Drop ∷ sub 0 map.Same merge.Cat ∷ []) ∷ [])
    (Call 0 1 1 (codes "q") ∷ Reply 1 1 1 0 0 (codes "a") ∷ Join 1 ∷ [])
    ≡ (Ended 1 (Bad 1005) 2 ∷ [])
unfolding told tells after retriable digits
row-5 = refl

-- at the deadline what came is merged
row-6 : runs 1024 (leaf (0 ∷ 1 ∷ []) 0 None None ∷ par 0 0 (Some 500) (sub 0 map.Same merge.Cat ∷ sub 0 map.Same merge.Cat ∷ sub 0 map.Same merge.Cat ∷ []) ∷ [])
    (Call 0 1 1 (codes "q") ∷ Reply 1 1 2 0 0 (codes "b") ∷ Join 1 ∷ [])
    ≡ (Ended 1 (Good (codes "b")) 3 ∷ [])
unfolding told tells after retriable digits
row-6 = refl

-- at the deadline the subs that haven't ended reach the fail limit
row-7 : runs 1024 (leaf (0 ∷ 1 ∷ []) 0 None None ∷ par 2 0 (Some 500) (sub 0 map.Same merge.Cat ∷ sub 0 map.Same merge.Cat ∷ sub 0 map.Same merge.Cat ∷ []) ∷ [])
    (Call 0 1 1 (codes "q") ∷ Reply 1 1 2 0 0 (codes "b") ∷ Join 1 ∷ [])
    ≡ (Ended 1 (Bad 1008) 3 ∷ [])
unfolding told tells after retriable digits
row-7 = refl

-- a refused request isn't tried again
row-8 : runs 1024 (leaf (0 ∷ 1 ∷ []) 0 None (Some 500) ∷ par 1 0 (Some 500) (sub 0 map.Same merge.Cat ∷ sub 0 map.Same merge.Cat ∷ sub 0 map.Same merge.Cat ∷ []) ∷ sel 1 None (1 ∷ 0 ∷ []) ∷ [])
    (Call 0 1 2 (codes "q") ∷ Reply 1 1 1 0 1003 [] ∷ Join 1 ∷ [])
    ≡ (Ended 1 (Bad 1003) 1 ∷ [])
unfolding told tells after retriable digits
row-8 = refl

-- a second try on the next channel, which is a parallel one
row-9 : runs 1024 (leaf (0 ∷ 1 ∷ []) 0 None (Some 500) ∷ par 1 0 (Some 500) (sub 0 map.Same merge.Cat ∷ sub 0 map.Same merge.Cat ∷ sub 0 map.Same merge.Cat ∷ []) ∷ sel 1 None (1 ∷ 0 ∷ []) ∷ [])
    (Call 0 1 2 (codes "q") ∷ Reply 1 1 1 0 2001 [] ∷ Reply 2 1 4 0 2001 [] ∷ Join 1 ∷ [])
    ≡ (Ended 1 (Bad 1005) 4 ∷ [])
unfolding told tells after retriable digits
row-9 = refl

-- a sum past the greatest number
row-10 : runs 1024 (leaf (0 ∷ 1 ∷ []) 0 None (Some 500) ∷ par 0 0 (Some 500) (sub 0 map.Same merge.Sum ∷ sub 0 map.Same merge.Sum ∷ []) ∷ [])
    (Call 0 1 1 (codes "q") ∷ Reply 1 1 1 0 0 (codes "18446744073709551615") ∷ Reply 2 1 2 0 0 (codes "1") ∷ Join 1 ∷ [])
    ≡ (Ended 1 (Good (codes "18446744073709551615")) 2 ∷ [])
unfolding told tells after retriable digits
row-10 = refl

-- answers that have to be the same, and aren't
row-11 : runs 1024 (leaf (0 ∷ 1 ∷ []) 0 None (Some 500) ∷ par 0 0 (Some 500) (sub 0 map.Same merge.Same ∷ sub 0 map.Same merge.Same ∷ []) ∷ [])
    (Call 0 1 1 (codes "q") ∷ Reply 1 1 1 0 0 (codes "u") ∷ Reply 2 1 2 0 0 (codes "v") ∷ Join 1 ∷ [])
    ≡ (Ended 1 (Bad 2002) 2 ∷ [])
unfolding told tells after retriable digits
row-11 = refl

-- two parts, a retry and a backup request
row-12 : runs 1024 (part 2 3 (Some 100) 0 0 (Some 500) map.Split merge.Cat (tag 0 0 2 ∷ tag 1 1 2 ∷ tag 2 0 3 ∷ []) ∷ [])
    (Call 0 7 0 (codes "u,v") ∷ Reply 40 7 2 0 0 (codes "V") ∷ Lose 60 7 1 0 1009 ∷ Reply 170 7 1 2 0 (codes "U") ∷ Join 7 ∷ [])
    ≡ (Ended 7 (Good (codes "UV")) 4 ∷ [])
unfolding told tells after retriable digits
row-12 = refl

-- a parallel channel below a parallel channel
row-13 : runs 1024 (leaf (0 ∷ 1 ∷ []) 0 None (Some 500)
    ∷ par 1 0 (Some 500) (sub 0 map.Index merge.Cat ∷ sub 0 map.Index merge.Cat ∷ [])
    ∷ par 0 1 (Some 500) (sub 1 map.Same merge.Cat ∷ sub 0 map.Same merge.Cat ∷ [])
    ∷ [])
    (Call 0 1 2 (codes "z") ∷ Lose 1 1 2 0 1009 ∷ Reply 2 1 4 0 0 (codes "a") ∷ Join 1 ∷ [])
    ≡ (Ended 1 (Good (codes "a")) 3 ∷ [])
unfolding told tells after retriable digits
row-13 = refl

-- a sub that ends at its start reaches the fail limit, and no later sub starts
row-14 : runs 1024 (leaf (0 ∷ []) 0 None (Some 500)
    ∷ par 0 0 None (sub 0 map.Skip merge.Cat ∷ [])
    ∷ par 1 0 None (sub 0 map.Same merge.Cat ∷ sub 1 map.Same merge.Cat ∷ sub 0 map.Same merge.Cat ∷ [])
    ∷ [])
    (Call 0 1 2 (codes "z") ∷ Join 1 ∷ [])
    ≡ (Ended 1 (Bad 1005) 1 ∷ [])
unfolding told tells after retriable digits
row-14 = refl

-- a try of which all subs are skipped ends at its start, and the next try starts at once
row-15 : runs 1024 (leaf (0 ∷ []) 0 None (Some 500) ∷ par 0 0 None (sub 0 map.Skip merge.Cat ∷ []) ∷ sel 1 None (0 ∷ 1 ∷ []) ∷ [])
    (Call 0 1 2 (codes "q") ∷ Reply 3 1 3 0 0 (codes "y") ∷ Join 1 ∷ [])
    ≡ (Ended 1 (Good (codes "y")) 1 ∷ [])
unfolding told tells after retriable digits
row-15 = refl

-- all tries end at their start
row-16 : runs 1024 (leaf (0 ∷ []) 0 None (Some 500) ∷ par 0 0 None (sub 0 map.Skip merge.Cat ∷ []) ∷ sel 2 None (1 ∷ []) ∷ [])
    (Call 0 1 2 (codes "q") ∷ Join 1 ∷ [])
    ≡ (Ended 1 (Bad 125) 0 ∷ [])
unfolding told tells after retriable digits
row-16 = refl

-- a deadline of a try starts the next one at the mark's own moment, so that its own deadline is at 1,000
row-17 : runs 1024 (leaf (0 ∷ []) 0 None (Some 500) ∷ sel 1 None (0 ∷ []) ∷ [])
    (Call 0 1 1 (codes "q") ∷ Reply 999 1 2 0 0 (codes "y") ∷ Join 1 ∷ Call 0 2 1 (codes "q") ∷ Reply 1999 2 2 0 0 (codes "z") ∷ Join 2 ∷ [])
    ≡ (Ended 1 (Good (codes "y")) 2 ∷ Ended 2 (Bad 1008) 2 ∷ [])
unfolding told tells after retriable digits
row-17 = refl

-- several deadlines of tries within one weave
row-18 : runs 1024 (leaf (0 ∷ []) 0 None (Some 10) ∷ sel 3 None (0 ∷ []) ∷ [])
    (Call 0 1 1 (codes "q") ∷ Reply 35 1 4 0 0 (codes "y") ∷ Join 1 ∷ [])
    ≡ (Ended 1 (Good (codes "y")) 4 ∷ [])
unfolding told tells after retriable digits
row-18 = refl

-- several deadlines of tries within one join, and the moment that it reaches
row-19 : runs 1024 (leaf (0 ∷ []) 0 None (Some 10) ∷ sel 3 None (0 ∷ []) ∷ [])
    (Call 0 1 1 (codes "q") ∷ Join 1 ∷ Call 0 2 1 (codes "q") ∷ Reply 49 2 1 0 0 (codes "y") ∷ Join 2 ∷ [])
    ≡ (Ended 1 (Bad 1008) 4 ∷ Ended 2 (Good (codes "y")) 1 ∷ [])
unfolding told tells after retriable digits
row-19 = refl

-- the last end reaches the fail limit
row-20 : runs 1024 (leaf (0 ∷ []) 0 None None ∷ par 2 0 None (sub 0 map.Same merge.Cat ∷ sub 0 map.Same merge.Cat ∷ sub 0 map.Same merge.Cat ∷ []) ∷ [])
    (Call 0 1 1 (codes "q") ∷ Lose 1 1 1 0 2001 ∷ Reply 2 1 2 0 0 (codes "b") ∷ Lose 3 1 3 0 2001 ∷ Join 1 ∷ [])
    ≡ (Ended 1 (Bad 1005) 3 ∷ [])
unfolding told tells after retriable digits
row-20 = refl

-- the last end reaches the success limit
row-21 : runs 1024 (leaf (0 ∷ []) 0 None None ∷ par 3 2 None (sub 0 map.Same merge.Cat ∷ sub 0 map.Same merge.Cat ∷ sub 0 map.Same merge.Cat ∷ []) ∷ [])
    (Call 0 1 1 (codes "q") ∷ Reply 1 1 1 0 0 (codes "a") ∷ Lose 2 1 2 0 2001 ∷ Reply 3 1 3 0 0 (codes "c") ∷ Join 1 ∷ [])
    ≡ (Ended 1 (Good (codes "ac")) 3 ∷ [])
unfolding told tells after retriable digits
row-21 = refl

-- a merger fails where all have ended
row-22 : runs 1024 (leaf (0 ∷ []) 0 None None ∷ par 2 0 None (sub 0 map.Same merge.Cat ∷ sub 0 map.Same merge.Drop ∷ sub 0 map.Same merge.Cat ∷ []) ∷ [])
    (Call 0 1 1 (codes "q") ∷ Reply 1 1 1 0 0 (codes "a") ∷ Reply 2 1 2 0 0 (codes "b") ∷ Lose 3 1 3 0 2001 ∷ Join 1 ∷ [])
    ≡ (Ended 1 (Bad 1005) 3 ∷ [])
unfolding told tells after retriable digits
row-22 = refl

-- a merger fails at the deadline, and this reaches the fail limit
row-23 : runs 1024 (leaf (0 ∷ []) 0 None None ∷ par 2 0 (Some 9) (sub 0 map.Same merge.Cat ∷ sub 0 map.Same merge.Drop ∷ sub 0 map.Same merge.Cat ∷ []) ∷ [])
    (Call 0 1 1 (codes "q") ∷ Reply 1 1 1 0 0 (codes "a") ∷ Reply 2 1 2 0 0 (codes "b") ∷ Join 1 ∷ [])
    ≡ (Ended 1 (Bad 1005) 3 ∷ [])
unfolding told tells after retriable digits
row-23 = refl

-- nothing is merged, and the fail limit isn't reached
row-24 : runs 1024 (leaf (0 ∷ []) 0 None None ∷ par 2 1 None (sub 0 map.Same merge.Drop ∷ sub 0 map.Same merge.Cat ∷ []) ∷ [])
    (Call 0 1 1 (codes "q") ∷ Reply 1 1 1 0 0 (codes "a") ∷ Join 1 ∷ [])
    ≡ (Ended 1 (Good []) 2 ∷ [])
unfolding told tells after retriable digits
row-24 = refl

-- eight channels deep, and one channel used by several subs
row-25 : runs 1024 (leaf (0 ∷ []) 0 None None
    ∷ par 0 0 None (sub 0 map.Same merge.Cat ∷ sub 0 map.Same merge.Cat ∷ [])
    ∷ sel 0 None (1 ∷ [])
    ∷ par 0 0 None (sub 2 map.Same merge.Cat ∷ [])
    ∷ sel 0 None (3 ∷ [])
    ∷ par 0 0 None (sub 4 map.Same merge.Cat ∷ [])
    ∷ sel 0 None (5 ∷ [])
    ∷ par 0 0 None (sub 6 map.Same merge.Cat ∷ sub 0 map.Same merge.Cat ∷ [])
    ∷ [])
    (Call 0 1 7 (codes "q") ∷ Reply 1 1 9 0 0 (codes "c") ∷ Reply 2 1 8 0 0 (codes "b") ∷ Reply 3 1 7 0 0 (codes "a") ∷ Join 1 ∷ [])
    ≡ (Ended 1 (Good (codes "abc")) 3 ∷ [])
unfolding told tells after retriable digits
row-25 = refl

-- tags with another count are left aside
row-26 : runs 1024 (part 2 0 None 0 0 (Some 500) map.Index merge.Cat (tag 0 0 2 ∷ tag 1 1 3 ∷ tag 2 1 2 ∷ tag 1 0 1 ∷ []) ∷ [])
    (Call 0 1 0 (codes "u") ∷ Reply 1 1 1 0 0 (codes "A") ∷ Reply 2 1 2 0 0 (codes "B") ∷ Join 1 ∷ [])
    ≡ (Ended 1 (Good (codes "AB")) 2 ∷ [])
unfolding told tells after retriable digits
row-26 = refl

-- where a request has fewer pieces than parts the others are skipped, and the limits count those that are asked
row-27 : runs 1024 (part 3 0 None 0 0 (Some 500) map.Split merge.Cat (tag 0 0 3 ∷ tag 1 1 3 ∷ tag 2 2 3 ∷ []) ∷ [])
    (Call 0 1 0 (codes "u,v") ∷ Reply 1 1 1 0 0 (codes "A") ∷ Lose 2 1 2 0 2001 ∷ Join 1 ∷ [])
    ≡ (Ended 1 (Good (codes "A")) 2 ∷ [])
unfolding told tells after retriable digits
row-27 = refl

-- a selective channel's own deadline, and what comes after it
row-28 : runs 1024 (leaf (0 ∷ []) 0 None None ∷ sel 1 (Some 9) (0 ∷ []) ∷ [])
    (Call 0 1 1 (codes "q") ∷ Reply 9 1 1 0 0 (codes "y") ∷ Join 1 ∷ [])
    ≡ (Ended 1 (Bad 1008) 1 ∷ [])
unfolding told tells after retriable digits
row-28 = refl

-- a cancel ends the root, and nothing below it counts any more
row-29 : runs 1024 (leaf (0 ∷ []) 0 None (Some 500) ∷ par 0 0 (Some 500) (sub 0 map.Same merge.Cat ∷ sub 0 map.Same merge.Cat ∷ []) ∷ [])
    (Call 0 1 1 (codes "q") ∷ Reply 1 1 1 0 0 (codes "a") ∷ Cancel 2 1 ∷ Reply 3 1 2 0 0 (codes "b") ∷ Join 1 ∷ [])
    ≡ (Ended 1 (Bad 125) 2 ∷ [])
unfolding told tells after retriable digits
row-29 = refl

-- calls turn through the subs of a selective channel by their numbers
row-30 : runs 1024 (leaf (0 ∷ []) 0 None (Some 500) ∷ par 0 0 (Some 500) (sub 0 map.Same merge.Cat ∷ sub 0 map.Same merge.Cat ∷ []) ∷ sel 0 None (0 ∷ 1 ∷ []) ∷ [])
    (Call 0 2 2 (codes "q") ∷ Call 0 3 2 (codes "q") ∷ Reply 1 2 1 0 0 (codes "a") ∷ Reply 2 3 2 0 0 (codes "b") ∷ Reply 3 3 3 0 0 (codes "c") ∷ Join 2 ∷ Join 3 ∷ [])
    ≡ (Ended 2 (Good (codes "a")) 1 ∷ Ended 3 (Good (codes "bc")) 2 ∷ [])
unfolding told tells after retriable digits
row-30 = refl
