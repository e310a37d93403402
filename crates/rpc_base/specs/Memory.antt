-- What the source, the sink and the ends of a wire in memory are: their bytes, how they cut them, and the calls that are to fail. This project's own choice.
use Rattle.std.specs.Prelude.{ℕ, ◌+◌, ◌-◌, ◌^◌, ◌++◌, min, Bool, true, ◌||◌, ◌&&◌, nat_eq, nat_lt, List, length, take, drop}

-- a source in memory: the bytes left, the most that a call gives, the numbers of the calls that fail, and two counts
pub record Tape : Type 0 where
  pub left : List ℕ
  pub piece : ℕ
  pub failing : List ℕ
  pub calls : ℕ
  pub faults : ℕ

-- a sink in memory: the bytes held, the most that a call takes, the numbers of the calls that fail, and two counts
pub record Store : Type 0 where
  pub held : List ℕ
  pub piece : ℕ
  pub failing : List ℕ
  pub calls : ℕ
  pub faults : ℕ

-- a count one higher, where its type has room
abbrev pub counted : ℕ → ℕ
counted n = min (n + 1) (2 ^ 64 - 1)

-- a read that gives n bytes
abbrev pub after_read : Tape → ℕ → Tape
after_read t n = record t { left = drop n t.left; calls = counted t.calls }

-- a read that fails
abbrev pub failed_read : Tape → Tape
failed_read t = record t { calls = counted t.calls; faults = counted t.faults }

-- a write that takes n bytes of a piece
abbrev pub after_write : Store → List ℕ → ℕ → Store
after_write s from n = record s { held = s.held ++ take n from; calls = counted s.calls }

-- a write that fails
abbrev pub failed_write : Store → Store
failed_write s = record s { calls = counted s.calls; faults = counted s.faults }

-- an end of a wire in memory: the bytes that it moved, the most that a call moves, the numbers of the calls that fail, two counts, and whether its end was met or it was closed
pub record Tap : Type 0 where
  pub moved : List ℕ
  pub piece : ℕ
  pub failing : List ℕ
  pub calls : ℕ
  pub faults : ℕ
  pub over : Bool

-- a read of a wire that gives n bytes
abbrev pub after_got : Tap → List ℕ → ℕ → Tap
after_got t to n = record t { moved = t.moved ++ take n to; calls = counted t.calls; over = t.over || (nat_eq n 0 && nat_lt 0 (length to)) }

-- a write on a wire that takes n bytes of a piece
abbrev pub after_given : Tap → List ℕ → ℕ → Tap
after_given t from n = record t { moved = t.moved ++ take n from; calls = counted t.calls }

-- a close that doesn't fail
abbrev pub after_close : Tap → Tap
after_close t = record t { calls = counted t.calls; over = true }

-- a read or a write of a wire that fails
abbrev pub failed_move : Tap → Tap
failed_move t = record t { calls = counted t.calls; faults = counted t.faults }
