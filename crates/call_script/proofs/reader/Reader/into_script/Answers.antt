use Rattle.std.proofs.Common.{rules, arith, ap, length}
use Rattle.call_script.proofs.Kept.{lines_are}
use Rattle.call_script.proofs.reader.Reader.into_script.Goals as goal

pub returns-clause-fits : goal.returns-clause-fits
returns-clause-fits c =
    let w = c.self.invariant in
    rw (c.unwrap_or.ensures, c.len.ensures, c.of.ensures, c.into_vec.ensures, c.of-2.ensures, c.of-3.ensures) (record {
      moments = w.moments;
      acts = w.fit;
      calls_differ = w.calls_differ;
      channels = w.channels;
      serves = w.serves_fit;
      depths = w.shallow;
      widths = w.narrow;
      lines = (let l = lines_are c.self.inside.acts.items in let k = ap length w.known in omega (arith, l, k, w.few_calls, w.few_events, w.counted));
      some_slot = search rules;
      few_slots = search rules;
      few_servers = w.few_servers;
    })
