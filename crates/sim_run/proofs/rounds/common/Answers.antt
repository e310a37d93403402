-- A product is a multiple of both.
use Rattle.std.proofs.Math.Nat.{dvd-mul_left, dvd-mul_right}
use Rattle.std.proofs.lemmas.Nat.Gcd.{mod-eq-zero_of_dvd}
use Rattle.sim_run.proofs.rounds.common.Goals as goal

pub returns-clause-first : goal.returns-clause-first
returns-clause-first c = rw (c.from.ensures, c.from-2.ensures) (mod-eq-zero_of_dvd c.args.a (dvd-mul_right c.args.a c.args.b))

pub returns-clause-second : goal.returns-clause-second
returns-clause-second c = rw (c.from.ensures, c.from-2.ensures) (mod-eq-zero_of_dvd c.args.b (dvd-mul_left c.args.b c.args.a))
