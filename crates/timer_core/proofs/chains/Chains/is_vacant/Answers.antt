use Rattle.std.proofs.Common.{◌≡◌, arith, ap, sym, ◌∙◌}
use Rattle.std.proofs.lemmas.Bool.Decides.{nat_tests}
use Rattle.timer_core.specs.declared.links.End.{End}
use Rattle.timer_core.specs.Chains.{end_at}
use Rattle.timer_core.proofs.Told.{vacant_told, vacant_depth}
use Rattle.timer_core.proofs.chains.Chains.is_vacant.Goals as goal

pub returns : goal.returns
returns c =
    let e : c.end_of.result ≡ end_at c.self.inside.ends.items c.args.list = c.end_of.ensures in (
      (λ t. vacant_told c.self.inside.nodes.items c.self.inside.ends.items c.args.self.now c.self.view_is c.args.list
          (let d : c.end_of.result.depth ≡ 0 = grind (arith, nat_tests) in sym (ap (λ (z : End). z.depth) e) ∙ d)),
      (λ h. let d : c.end_of.result.depth ≡ 0 = ap (λ (z : End). z.depth) e
          ∙ vacant_depth c.self.inside.nodes.items c.self.inside.ends.items c.args.self.now c.self.view_is c.args.list h in grind (arith, nat_tests)),
    )
