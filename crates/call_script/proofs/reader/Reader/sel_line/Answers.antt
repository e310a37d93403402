-- A selective channel within the limits.
use Rattle.std.proofs.Common.{rules, arith, ◌<◌, length, ap, sym, subst}
use Rattle.std.specs.Prelude.{All}
use Rattle.call_script.proofs.reader.Reader.sel_line.Goals as goal

pub push_over-requires-clause-chan : goal.push_over-requires-clause-chan
push_over-requires-clause-chan c =
    let many = c.in_ok-subs.ensures.many in
    let same = ap length c.of.ensures in
    record {
      some_sub = (let some = c.requires.some in omega (arith, many, same, some));
      few_subs = (let few = c.requires.few in omega (arith, many, same, few));
      earlier_subs = subst (λ z. All (λ n. n < length c.args.self.now.chans) z) (sym c.of.ensures) c.in_ok-subs.ensures.known;
      few_retries = search rules;
      timeout = search rules;
    }
