-- Journals with the parts of the rule that each breaks, computed: the rows of rows/lawful.journals, written by tools/journals_to_lemmas.py.
use Rattle.std.proofs.Common.{ℕ, List, [], ◌∷◌, codes}
use Rattle.journal_rule.specs.declared.part.Part.TheVariants.{Calls, Ranges, Ends, Requests, Sources, GoneWords, Strays, Marks, Losses, Cancels}
use Rattle.journal_rule.proofs.Table.{Row, row}

-- one call and its reply
abbrev pub lanes-1 : ℕ
lanes-1 = 1

abbrev pub script-1 : List (List ℕ)
script-1 =
    codes "leaf x a retry=0 backup=-1 timeout=-1" ∷
    codes "at 0 call 1 x hi" ∷
    codes "join 1" ∷
    []

abbrev pub ends-1 : List (List ℕ)
ends-1 =
    codes "1 ok 1 hi" ∷
    []

abbrev pub journal-1 : List (List ℕ)
journal-1 =
    codes "call 1 4294967297 2 0 0" ∷
    codes "e 0 reply 0#0 0 6869 0 0" ∷
    codes "wire 0 end" ∷
    codes "out 4294967298 6869" ∷
    codes "in 4294967298 0 6869 entry 1 0" ∷
    codes "timer" ∷
    codes "lane 0" ∷
    []

abbrev pub rows-1 : List Row
rows-1 =
    -- as it stands
    row ([]) ([]) ∷
    -- another lane
    row ((0, (codes "call 1 4294967297 2 1 0" ∷ [])) ∷ []) (Calls ∷ []) ∷
    -- one id too many
    row ((0, (codes "call 1 4294967297 3 0 0" ∷ [])) ∷ []) (Calls ∷ []) ∷
    -- a wire without a server
    row ((4, (codes "in 4294967298 0 6869 entry 1 0" ∷ codes "wire 1 end" ∷ [])) ∷ []) (Calls ∷ []) ∷
    -- a lane too many
    row ((6, (codes "lane 0" ∷ codes "lane 1" ∷ [])) ∷ []) (Calls ∷ []) ∷
    -- a slot's first range begins at version 3
    row ((0, (codes "call 1 4294967299 2 0 0" ∷ [])) ∷ (3, (codes "out 4294967300 6869" ∷ [])) ∷ (4, (codes "in 4294967300 0 6869 entry 1 0" ∷ [])) ∷ []) (Ranges ∷ []) ∷
    -- no slot at all
    row ((0, (codes "call 1 1 2 0 0" ∷ [])) ∷ (3, (codes "out 2 6869" ∷ [])) ∷ (4, (codes "in 2 0 6869 entry 1 0" ∷ [])) ∷ []) (Ranges ∷ []) ∷
    -- an entry behind the end
    row ((1, (codes "e 0 reply 0#0 0 6869 0 0" ∷ codes "e 1 reply 0#0 0 6869 0 1" ∷ [])) ∷
    (4, (codes "in 4294967298 0 6869 entry 1 0" ∷ codes "in 4294967298 0 6869 entry 1 1" ∷ [])) ∷
    []) (Ends ∷ []) ∷
    -- no end: the log is empty, and the call is open after its start
    row ((1, ([])) ∷ (4, (codes "in 4294967298 0 6869 gone 1075052544" ∷ [])) ∷ []) (Ends ∷ []) ∷
    -- another payload went out
    row ((3, (codes "out 4294967298 6868" ∷ [])) ∷ []) (Requests ∷ []) ∷
    -- it went out under the id of the node
    row ((3, (codes "out 4294967297 6869" ∷ [])) ∷ []) (Requests ∷ []) ∷
    -- it went out twice
    row ((3, (codes "out 4294967298 6869" ∷ codes "out 4294967298 6869" ∷ [])) ∷ []) (Requests ∷ []) ∷
    -- nothing went out
    row ((3, ([])) ∷ []) (Requests ∷ []) ∷
    -- the frame has another payload than the entry
    row ((4, (codes "in 4294967298 0 6868 entry 1 0" ∷ [])) ∷ []) (Sources ∷ []) ∷
    -- the frame has another code
    row ((4, (codes "in 4294967298 2001 6869 entry 1 0" ∷ [])) ∷ []) (Sources ∷ []) ∷
    -- the frame has the id of the node
    row ((4, (codes "in 4294967297 0 6869 entry 1 0" ∷ [])) ∷ []) (Sources ∷ []) ∷
    -- the frame became an entry of another place
    row ((4, (codes "in 4294967298 0 6869 entry 1 1" ∷ [])) ∷ []) (Sources ∷ []) ∷
    -- the frame became an entry of a call that isn't there
    row ((4, (codes "in 4294967298 0 6869 entry 2 0" ∷ [])) ∷ []) (Sources ∷ []) ∷
    -- the entry names a frame that isn't there
    row ((1, (codes "e 0 reply 0#0 0 6869 0 1" ∷ [])) ∷ []) (Sources ∷ []) ∷
    -- two frames became one entry
    row ((4, (codes "in 4294967298 0 6869 entry 1 0" ∷ codes "in 4294967298 0 6869 entry 1 0" ∷ [])) ∷ []) (Sources ∷ []) ∷
    []

-- three calls on two lanes, two of them in one slot: a backup request that wins, a cancel, a loss and a retry
abbrev pub lanes-2 : ℕ
lanes-2 = 2

abbrev pub script-2 : List (List ℕ)
script-2 =
    codes "open 2" ∷
    codes "leaf x a,b retry=1 backup=50 timeout=400" ∷
    codes "at 0 call 1 x hi" ∷
    codes "at 5 call 2 x yo" ∷
    codes "at 10 cancel 2" ∷
    codes "at 20 call 3 x -" ∷
    codes "at 90 cancel 1" ∷
    codes "join 1" ∷
    codes "join 2" ∷
    codes "join 3" ∷
    codes "join 1" ∷
    []

abbrev pub ends-2 : List (List ℕ)
ends-2 =
    codes "1 ok 2 hi" ∷
    codes "2 fail 125 1" ∷
    codes "3 fail 2001 2" ∷
    codes "1 gone" ∷
    []

abbrev pub journal-2 : List (List ℕ)
journal-2 =
    codes "call 1 4294967297 3 0 0" ∷
    codes "e 50 backup 0 0" ∷
    codes "e 60 reply 0#1 0 6869 0 0" ∷
    codes "call 2 8589934593 3 1 5" ∷
    codes "e 10 cancel 1 0" ∷
    codes "call 3 4294967300 3 0 70" ∷
    codes "e 75 lost 0#0 1009 1 0" ∷
    codes "e 80 reply 0#1 2001 - 0 1" ∷
    codes "wire 0 end" ∷
    codes "out 8589934594 796f" ∷
    codes "out 4294967299 6869" ∷
    codes "out 4294967302 -" ∷
    codes "in 4294967299 0 6869 entry 1 1" ∷
    codes "in 4294967302 2001 - entry 3 1" ∷
    codes "in 4294967297 0 - stray" ∷
    codes "in 12884901889 0 - stray" ∷
    codes "in 4294967301 0 - gone 1073741824" ∷
    codes "loss 8589934594 1009 5 gone 1075576832" ∷
    codes "wire 1 fault" ∷
    codes "out 4294967298 6869" ∷
    codes "out 4294967301 -" ∷
    codes "in 4294967298 0 6869 gone 1075576832" ∷
    codes "in 0 0 - stray" ∷
    codes "loss 4294967301 1009 1 entry 3 0" ∷
    codes "timer" ∷
    codes "mark 50 50 4294967297 1007 entry 1 0" ∷
    codes "mark 55 56 8589934593 1007 gone 1075576832" ∷
    codes "mark 120 121 4294967300 1007 dropped 3" ∷
    codes "mark 400 400 4294967297 1008 gone 4296671232" ∷
    codes "lane 0" ∷
    codes "cancel 4294967297 gone 1075576832" ∷
    codes "lane 1" ∷
    codes "cancel 8589934593 entry 2 0" ∷
    []

abbrev pub rows-2 : List Row
rows-2 =
    -- as it stands
    row ([]) ([]) ∷
    -- a reply may come on another wire than its request went out on
    row ((2, (codes "e 60 reply 0#1 0 6869 1 2" ∷ [])) ∷
    (7, (codes "e 80 reply 0#1 2001 - 0 0" ∷ [])) ∷
    (12, ([])) ∷
    (17, (codes "loss 8589934594 1009 4 gone 1075576832" ∷ [])) ∷
    (22, (codes "in 0 0 - stray" ∷ codes "in 4294967299 0 6869 entry 1 1" ∷ [])) ∷
    []) ([]) ∷
    -- it went out on another wire
    row ((10, ([])) ∷ (20, (codes "out 4294967301 -" ∷ codes "out 4294967299 6869" ∷ [])) ∷ []) (Requests ∷ []) ∷
    -- the frame has the id of another attempt
    row ((12, (codes "in 4294967298 0 6869 entry 1 1" ∷ [])) ∷ []) (Sources ∷ []) ∷
    -- a mark of another kind than its entry
    row ((25, (codes "mark 50 50 4294967297 1008 entry 1 0" ∷ [])) ∷ []) (Sources ∷ Marks ∷ []) ∷
    -- a loss of another attempt than its entry
    row ((23, (codes "loss 4294967298 1009 1 entry 3 0" ∷ [])) ∷ []) (Sources ∷ []) ∷
    -- the word shows the id live
    row ((28, (codes "mark 400 400 4294967297 1008 gone 1075445760" ∷ [])) ∷ []) (GoneWords ∷ []) ∷
    -- a vacant word with a range
    row ((16, (codes "in 4294967301 0 - gone 1074266112" ∷ [])) ∷ []) (GoneWords ∷ []) ∷
    -- a reserved word with the greatest range
    row ((16, (codes "in 4294967301 0 - gone 1610678272" ∷ [])) ∷ []) ([]) ∷
    -- a reserved word with a greater range
    row ((16, (codes "in 4294967301 0 - gone 1611202560" ∷ [])) ∷ []) (GoneWords ∷ []) ∷
    -- a reserved word without a range
    row ((16, (codes "in 4294967301 0 - gone 1073807360" ∷ [])) ∷ []) (GoneWords ∷ []) ∷
    -- a retired word
    row ((16, (codes "in 4294967301 0 - gone 1074069504" ∷ [])) ∷ []) (GoneWords ∷ []) ∷
    -- a state that there isn't
    row ((16, (codes "in 4294967301 0 - gone 1074135040" ∷ [])) ∷ []) (GoneWords ∷ []) ∷
    -- an ended word with an error that waits
    row ((21, (codes "in 4294967298 0 6869 gone 1075576833" ∷ [])) ∷ []) (GoneWords ∷ []) ∷
    -- a locked word with an error that waits
    row ((28, (codes "mark 400 400 4294967297 1008 gone 4296736775" ∷ [])) ∷ []) ([]) ∷
    -- a free word with an error that waits
    row ((28, (codes "mark 400 400 4294967297 1008 gone 4296671239" ∷ [])) ∷ []) (GoneWords ∷ []) ∷
    -- a bit above the fields
    row ((21, (codes "in 4294967298 0 6869 gone 4611686019502964736" ∷ [])) ∷ []) (GoneWords ∷ []) ∷
    -- a vacant word behind the slot's first call
    row ((16, (codes "in 4294967301 0 - gone 4294967296" ∷ [])) ∷ []) ([]) ∷
    -- a vacant word with a first version that no range left
    row ((16, (codes "in 4294967301 0 - gone 3221225472" ∷ [])) ∷ []) (GoneWords ∷ []) ∷
    -- an ended word of another width than the call's
    row ((21, (codes "in 4294967298 0 6869 gone 1075052544" ∷ [])) ∷ []) (GoneWords ∷ []) ∷
    -- a frame may be gone by the word of a call that ended before its own
    row ((16, (codes "in 4294967301 0 - gone 1075576832" ∷ [])) ∷ []) ([]) ∷
    -- a mark isn't gone by a word from before its call
    row ((28, (codes "mark 400 400 4294967297 1008 gone 1073741824" ∷ [])) ∷ []) (GoneWords ∷ []) ∷
    -- a loss isn't gone by a word of another slot's calls
    row ((17, (codes "loss 8589934594 1009 5 gone 4296671232" ∷ [])) ∷ []) (GoneWords ∷ []) ∷
    -- a frame of a slot that the run doesn't have is gone by no word
    row ((15, (codes "in 12884901889 0 - gone 1073741824" ∷ [])) ∷ []) (GoneWords ∷ []) ∷
    -- a stray with an attempt's id
    row ((21, (codes "in 4294967298 0 6869 stray" ∷ [])) ∷ []) (Strays ∷ []) ∷
    -- a stray with an id that no call had
    row ((15, (codes "in 4294967310 0 - stray" ∷ [])) ∷ []) (Strays ∷ []) ∷
    -- dropped with another call
    row ((27, (codes "mark 120 121 4294967300 1007 dropped 1" ∷ [])) ∷ []) (Strays ∷ []) ∷
    -- a mark of another moment than was set
    row ((27, (codes "mark 121 121 4294967300 1007 dropped 3" ∷ [])) ∷ []) (Marks ∷ []) ∷
    -- a mark of a kind that wasn't set then
    row ((27, (codes "mark 120 121 4294967300 1008 dropped 3" ∷ [])) ∷ []) (Marks ∷ []) ∷
    -- a mark of an attempt's id
    row ((27, (codes "mark 120 121 4294967301 1007 dropped 3" ∷ [])) ∷ []) (Marks ∷ []) ∷
    -- a mark that fired twice
    row ((27, (codes "mark 120 121 4294967300 1007 dropped 3" ∷ codes "mark 120 121 4294967300 1007 dropped 3" ∷ [])) ∷ []) (Marks ∷ []) ∷
    -- a mark that fired before its moment
    row ((27, (codes "mark 120 119 4294967300 1007 dropped 3" ∷ [])) ∷ []) (Marks ∷ []) ∷
    -- a loss of another code
    row ((17, (codes "loss 8589934594 104 5 gone 1075576832" ∷ [])) ∷ []) (Losses ∷ []) ∷
    -- a loss of an attempt that went out on another wire
    row ((17, (codes "loss 4294967298 1009 5 gone 1075576832" ∷ [])) ∷ []) (Losses ∷ []) ∷
    -- an attempt that is lost twice
    row ((17, (codes "loss 8589934594 1009 5 gone 1075576832" ∷ codes "loss 8589934594 1009 5 gone 1075576832" ∷ [])) ∷ []) (Losses ∷ []) ∷
    -- a wire that met its end had more frames after a loss
    row ((17, (codes "loss 8589934594 1009 4 gone 1075576832" ∷ [])) ∷ []) (Losses ∷ []) ∷
    -- a wire that failed had a loss at its last frame
    row ((23, (codes "loss 4294967301 1009 2 entry 3 0" ∷ [])) ∷ []) ([]) ∷
    -- a loss after more frames than came in
    row ((23, (codes "loss 4294967301 1009 3 entry 3 0" ∷ [])) ∷ []) (Losses ∷ []) ∷
    -- a cancel on another lane
    row ((30, ([])) ∷ (32, (codes "cancel 8589934593 entry 2 0" ∷ codes "cancel 4294967297 gone 1075576832" ∷ [])) ∷ []) (Cancels ∷ []) ∷
    -- a cancel that is missing
    row ((30, ([])) ∷ []) (Cancels ∷ []) ∷
    -- a cancel of another call
    row ((30, (codes "cancel 4294967300 gone 4296802304" ∷ [])) ∷ []) (Cancels ∷ []) ∷
    []

-- a parallel call, and one that ends at its start
abbrev pub lanes-3 : ℕ
lanes-3 = 1

abbrev pub script-3 : List (List ℕ)
script-3 =
    codes "leaf x a retry=0 backup=-1 timeout=-1" ∷
    codes "par p fail=1 ok=0 timeout=300 x:same:cat x:index:cat" ∷
    codes "par q fail=1 ok=0 timeout=-1 x:bad:cat" ∷
    codes "at 0 call 7 p go" ∷
    codes "at 1 call 9 q -" ∷
    codes "join 7" ∷
    codes "join 9" ∷
    []

abbrev pub ends-3 : List (List ℕ)
ends-3 =
    codes "7 ok 2 gogo1" ∷
    codes "9 fail 1003 0" ∷
    []

abbrev pub journal-3 : List (List ℕ)
journal-3 =
    codes "call 7 4294967297 5 0 0" ∷
    codes "e 3 reply 2#0 0 676f31 0 0" ∷
    codes "e 4 reply 1#0 0 676f 0 1" ∷
    codes "call 9 8589934593 3 0 2" ∷
    codes "wire 0 end" ∷
    codes "out 4294967301 676f31" ∷
    codes "out 4294967300 676f" ∷
    codes "in 4294967301 0 676f31 entry 7 0" ∷
    codes "in 4294967300 0 676f entry 7 1" ∷
    codes "timer" ∷
    codes "mark 300 301 4294967297 1008 gone 1076625408" ∷
    codes "lane 0" ∷
    []

abbrev pub rows-3 : List Row
rows-3 =
    -- as it stands
    row ([]) ([]) ∷
    -- the second call in the slot of the first, behind it
    row ((3, (codes "call 9 4294967302 3 0 2" ∷ [])) ∷ []) ([]) ∷
    -- a gap before it
    row ((3, (codes "call 9 4294967303 3 0 2" ∷ [])) ∷ []) (Ranges ∷ []) ∷
    -- its range begins inside the first
    row ((3, (codes "call 9 4294967301 3 0 2" ∷ [])) ∷ []) (Ranges ∷ []) ∷
    -- a slot behind the last one
    row ((3, (codes "call 9 4402341478401 3 0 2" ∷ [])) ∷ []) (Ranges ∷ []) ∷
    -- a call that begins before its line
    row ((3, (codes "call 9 8589934593 3 0 0" ∷ [])) ∷ []) (Calls ∷ []) ∷
    -- a call that is missing
    row ((3, ([])) ∷ []) (Calls ∷ []) ∷
    -- the calls in another order
    row ((0, (codes "call 9 8589934593 3 0 2" ∷ codes "call 7 4294967297 5 0 0" ∷ [])) ∷ (3, ([])) ∷ []) (Calls ∷ []) ∷
    -- a sub's own deadline, which no node set
    row ((10, (codes "mark 300 301 4294967298 1008 gone 1076625408" ∷ [])) ∷ []) (Marks ∷ []) ∷
    -- the call ended before its last entry
    row ((2, ([])) ∷ (8, (codes "in 4294967300 0 676f gone 1076625408" ∷ [])) ∷ []) (Ends ∷ []) ∷
    []

-- a selective call: its first try is lost, its second one comes too late for the deadline
abbrev pub lanes-4 : ℕ
lanes-4 = 1

abbrev pub script-4 : List (List ℕ)
script-4 =
    codes "leaf x a retry=0 backup=-1 timeout=-1" ∷
    codes "leaf y b retry=0 backup=-1 timeout=-1" ∷
    codes "sel s retry=1 timeout=100 x y" ∷
    codes "at 3 call 4 s q" ∷
    codes "join 4" ∷
    []

abbrev pub ends-4 : List (List ℕ)
ends-4 =
    codes "4 fail 1008 2" ∷
    []

abbrev pub journal-4 : List (List ℕ)
journal-4 =
    codes "call 4 4294967297 5 0 3" ∷
    codes "e 5 lost 1#0 1009 0 0" ∷
    codes "e 110 deadline 0 0" ∷
    codes "wire 0 bad" ∷
    codes "out 4294967300 71" ∷
    codes "loss 4294967300 1009 0 entry 4 0" ∷
    codes "wire 1 end" ∷
    codes "out 4294967301 71" ∷
    codes "in 4294967301 0 71 gone 1076625408" ∷
    codes "timer" ∷
    codes "mark 103 110 4294967297 1008 entry 4 1" ∷
    codes "lane 0" ∷
    []

abbrev pub rows-4 : List Row
rows-4 =
    -- as it stands
    row ([]) ([]) ∷
    -- the entry of a deadline is of a node that has ended, and the call stays open
    row ((2, (codes "e 110 deadline 1 0" ∷ [])) ∷ []) (Ends ∷ Sources ∷ []) ∷
    -- the entry of a loss names another wire
    row ((1, (codes "e 5 lost 1#0 1009 1 0" ∷ [])) ∷ []) (Sources ∷ []) ∷
    -- the second try went out under the id of the first
    row ((7, (codes "out 4294967300 71" ∷ [])) ∷ []) (Requests ∷ []) ∷
    -- a deadline with the code of a backup request
    row ((10, (codes "mark 103 110 4294967297 1007 entry 4 1" ∷ [])) ∷ []) (Sources ∷ Marks ∷ []) ∷
    -- a wire that carried too much may have lost an attempt before its first frame
    row ((3, (codes "wire 0 full" ∷ [])) ∷ []) ([]) ∷
    []
