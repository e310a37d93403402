-- The generated script of so many calls: settings and channels, and three lines for each call, with draws that follow from
-- the number of calls. This project's own choice.
use Rattle.std.specs.Prelude.{ℕ, zero, suc, ◌+◌, ◌*◌, ◌/◌, ◌%◌, ◌==◌, List, [], ◌++◌, codes, if◌then◌else◌}
use Rattle.std.specs.Fmt.{decimal}
use Rattle.script_gen.specs.declared.draw.Channel.{Channel}
use Rattle.script_gen.specs.declared.draw.Channel.TheVariants.{X, Y, P, S}

-- ---- draws

-- the draw after this one; the draw before the first call's is the number of calls
abbrev pub next_draw : ℕ → ℕ
next_draw draw = (draw * 1103515245 + 12345) % 2147483648

abbrev pub nth_channel : ℕ → Channel
nth_channel n = if n == 0 then X else if n == 1 then Y else if n == 2 then P else S

-- the channel of a call
abbrev pub channel_of : ℕ → Channel
channel_of draw = nth_channel (draw / 65536 % 4)

abbrev pub name_of : Channel → List ℕ
name_of X = codes "x"
name_of Y = codes "y"
name_of P = codes "p"
name_of S = codes "s"

-- the leaf to whose first attempt the reply comes, by its number in the call's plan: a selective channel tries x first in
-- calls of odd number, and the first sub of p, which is x, in others
abbrev pub leaf_of : Channel → ℕ → ℕ
leaf_of X call = 0
leaf_of Y call = 0
leaf_of P call = 1
leaf_of S call = if call % 2 == 1 then 1 else 2

abbrev pub nth_code : ℕ → ℕ
nth_code n = if n == 0 then 0 else if n == 1 then 1009 else 2001

-- the code of the reply
abbrev pub code_of : ℕ → ℕ
code_of draw = nth_code (draw / 1024 % 3)

-- ---- lines

abbrev pub call_line : ℕ → ℕ → List ℕ → List ℕ
call_line moment call name = codes "at " ++ decimal moment ++ codes " call " ++ decimal call ++ codes " " ++ name ++ codes " u,v,w\n"

abbrev pub reply_line : ℕ → ℕ → ℕ → ℕ → List ℕ
reply_line moment call leaf code =
    codes "at " ++ decimal moment ++ codes " reply " ++ decimal call ++ codes " " ++ decimal leaf ++ codes "#0 " ++ decimal code ++ codes " t\n"

abbrev pub join_line : ℕ → List ℕ
join_line call = codes "join " ++ decimal call ++ codes "\n"

-- the three lines of a call with its draw
abbrev pub call_lines : ℕ → ℕ → List ℕ
call_lines draw call =
    call_line (10 * call) call (name_of (channel_of draw))
    ++ reply_line (10 * call + 1) call (leaf_of (channel_of draw) call) (code_of draw)
    ++ join_line call

-- the lines of so many calls from this number on, behind a draw
unfoldable pub lines_from : ℕ → ℕ → ℕ → List ℕ
lines_from draw call zero = []
lines_from draw call (suc more) = call_lines (next_draw draw) call ++ lines_from (next_draw draw) (call + 1) more

unfoldable pub setting_lines : List ℕ
setting_lines =
    codes "open 64\n"
    ++ codes "leaf x a,b,c retry=2 backup=50 timeout=400\n"
    ++ codes "leaf y b,c retry=1 backup=-1 timeout=300\n"
    ++ codes "par p fail=2 ok=0 timeout=600 x:index:cat y:same:cat x:split:cat\n"
    ++ codes "sel s retry=1 timeout=-1 p x\n"

-- the generated script of so many calls, which are numbered from 1
unfoldable pub generated : ℕ → List ℕ
generated count = setting_lines ++ lines_from count 1 count
