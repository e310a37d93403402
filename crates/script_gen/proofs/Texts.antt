-- The text of the lines of calls, one after the other.
use Rattle.std.proofs.Common.{◌≡◌, ℕ, suc, ◌+◌, [], ◌++◌, refl, codes}
use Rattle.script_gen.specs.Generator.{next_draw, call_lines, lines_from, setting_lines, generated}

-- The settings come first.
pub settings_first : (count : ℕ) → codes "open 64\nleaf x a,b,c retry=2 backup=50 timeout=400\nleaf y b,c retry=1 backup=-1 timeout=300\npar p fail=2 ok=0 timeout=600 x:index:cat y:same:cat x:split:cat\nsel s retry=1 timeout=-1 p x\n" ++ lines_from count 1 count ≡ generated count
unfolding generated setting_lines
settings_first count = refl

-- The lines of one more call.
pub lines_more : (draw call n more : ℕ) → n ≡ suc more → lines_from draw call n ≡ call_lines (next_draw draw) call ++ lines_from (next_draw draw) (call + 1) more
unfolding lines_from
lines_more draw call n more e = rw e refl

-- No call is left.
pub lines_none : (draw call n : ℕ) → n ≡ 0 → lines_from draw call n ≡ []
unfolding lines_from
lines_none draw call n e = rw e refl
