use Rattle.std.proofs.Common.{◌≡◌, ◌+◌, ◌∷◌, [], ◌++◌, nat_eq, Some, length, ap, sym, subst, ◌∙◌, rules, arith}
use Rattle.std.proofs.lemmas.List.{length-append}
use Rattle.indexmap.proofs.CallerLemmas.{insert_entry-new}
use Rattle.link_core.specs.Kept.{waiting, AreGone}
use Rattle.link_core.proofs.Waiting.{added, gone_more}
use Rattle.link_core.proofs.outstanding.Outstanding.add.Goals as goal

pub invariant_of-self-2 : goal.invariant_of-self-2
invariant_of-self-2 c =
    let f = c.forget-self-inside in
    let more = (c.args.id, Some c.args.call) ∷ [] in
    let e : c.insert.new.self.entries ≡ f.new.entries.entries ++ more = c.in_ok-insert.ensures.entries ∙ insert_entry-new nat_eq f.new.entries c.args.id (Some c.args.call) f.ensures.absent in
    let w : waiting c.insert.new.self.entries ≡ waiting c.self.inside.entries.entries ++ (c.args.id, c.args.call) ∷ [] =
    ap waiting e ∙ added c.args.id c.args.call f.new.entries.entries ∙ ap (λ xs. xs ++ (c.args.id, c.args.call) ∷ []) f.ensures.same in
    record {
      count = ap (λ n. n + 1) c.self.invariant.count ∙ sym (ap length w ∙ length-append (waiting c.self.inside.entries.entries) ((c.args.id, c.args.call) ∷ []));
      gone = subst (AreGone f.result) (sym e) (gone_more f.result f.new.entries.entries more f.ensures.gone);
      once = c.in_ok-insert.ensures.unique;
      few = let long = length-append f.new.entries.entries more in let n = ap length e in omega (arith, long, n, f.ensures.fewer, c.self.invariant.few);
    }

pub returns-clause-added : goal.returns-clause-added
returns-clause-added c =
    let f = c.forget-self-inside in
    let more = (c.args.id, Some c.args.call) ∷ [] in
    let e : c.insert.new.self.entries ≡ f.new.entries.entries ++ more = c.in_ok-insert.ensures.entries ∙ insert_entry-new nat_eq f.new.entries c.args.id (Some c.args.call) f.ensures.absent in
    let v : waiting c.self.inside.entries.entries ≡ c.args.self.now = search rules in
    ap waiting e ∙ added c.args.id c.args.call f.new.entries.entries ∙ ap (λ xs. xs ++ (c.args.id, c.args.call) ∷ []) (f.ensures.same ∙ v)
