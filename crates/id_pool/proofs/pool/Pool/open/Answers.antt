use Rattle.std.proofs.Common.{◌≡◌, ◌+◌, suc, [], ◌∷◌, ◌++◌, vec_len, sym, ◌∙◌, ap, rules, arith}
use Rattle.id_pool.specs.Ranges.{Vacant, opened}
use Rattle.id_pool.proofs.Vacant.{opened_more, opened_listed}
use Rattle.id_pool.proofs.pool.Pool.open.Goals as goal

pub loop-cells-preserved : goal.loop-cells-preserved
loop-cells-preserved g c =
    let e : c.push.new.self.items ≡ c.loop-cells.cells.items ++ Vacant 1 ∷ [] = search rules in
    let m : vec_len c.push.new.self ≡ vec_len c.loop-cells.cells + 1 = search rules in
    let n : vec_len c.push.new.self ≡ suc (vec_len c.loop-cells.cells) = omega (arith, m) in
    record {
      few = omega (arith, m);
      so_far =
          e ∙ ap (λ ss. ss ++ Vacant 1 ∷ []) c.loop-cells.invariant.so_far ∙ opened_more g.row.T.Denot (vec_len c.loop-cells.cells) ∙ ap (λ m. opened {T = g.row.T.Denot} m) (sym n);
    }

pub invariant_of-result : goal.invariant_of-result
invariant_of-result g c =
    let n : vec_len c.loop-cells.cells ≡ c.args.slots = omega arith in
    let e : c.loop-cells.cells.items ≡ opened c.args.slots = c.loop-cells.invariant.so_far ∙ ap (λ m. opened {T = g.row.T.Denot} m) n in
    opened_listed g.row.T.Denot c.args.slots c.loop-cells.cells.items c.filled.result c.requires.few e c.filled.ensures
