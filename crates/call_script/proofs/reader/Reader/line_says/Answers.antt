-- A line of few words says what they say.
use Rattle.std.proofs.Common.{map, take, sym, subst, arith}
use Rattle.call_script.specs.Judged.{Judged}
use Rattle.call_script.proofs.FewWords.{few_say}
use Rattle.call_script.proofs.reader.Reader.line_says.Goals as goal

pub returns-in-Some : goal.returns-in-Some
returns-in-Some c =
    let same = few_say c.args.self.now c.args.line.now (map (λ w. w.now) (take c.in-Some.words.count c.args.few.now)) (omega arith) (rw c.in-Some.is at c.requires.words) in
    subst (λ said. Judged c.kind_says.result c.kind_says.new.self said) (sym same) c.kind_says.ensures
