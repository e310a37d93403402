-- A run of one call on one lane: its script, its journal, and what its join tells. This project's own choice.
use Rattle.std.specs.Prelude.{ℕ, List, ◌++◌, codes}

abbrev pub example_script : List ℕ
example_script = codes "leaf x a retry=0 backup=-1 timeout=-1\nat 0 call 1 x hi\njoin 1\n"

-- the call, its entry, the server's wire with a request and the reply, no mark, and a lane without cancels
abbrev pub example_journal : List ℕ
example_journal =
    codes "call 1 4294967297 2 0 0\ne 0 reply 0#0 0 6869 0 0\n"
    ++ codes "wire 0 end\nout 4294967298 6869\nin 4294967298 0 6869 entry 1 0\n"
    ++ codes "timer\nlane 0\n"

abbrev pub example_ends : List ℕ
example_ends = codes "1 ok 1 hi\n"
