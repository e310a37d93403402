use Rattle.std.proofs.Common.{◌∙◌, ◌≡◌, ◌++◌, ◌*◌, ◌+◌, ap, sym, subst, refl, ℕ, List}
use Rattle.std.specs.Prelude.{replicate}
use mathlib.Core.Option.{some}
use lib.ListN.{get_elem?}
use Rattle.id_rule.specs.Nodes.{word_at}
use Rattle.id_rule.proofs.Openings.{opening_kept}
use Rattle.id_shared.proofs.Openings.{slots_first, nodes_behind}
use Rattle.id_shared.proofs.ids.Ids.open.Goals as goal

pub vacant-requires : goal.vacant-requires
vacant-requires g c =
    let nodes : ℕ = c.args.passes * c.args.nodes in
    let row : c.as_slice.result.now ≡ replicate c.args.slots 1073741824 ++ replicate (2 * nodes) 0 = c.as_slice.ensures.value ∙ c.in_ok-row.ensures.row in
    opening_kept g.T.Tenant.log g.T.Tenant.first_id g.T.Tenant.receipt record { slots = c.args.slots; passes = c.args.passes; nodes = c.args.nodes } c.args.slots c.as_slice.result.now refl
    (λ slot below. ap (λ (ws : List ℕ). get_elem? ws slot) row ∙ slots_first c.args.slots slot (replicate (2 * nodes) 0) below)
    (λ node one few. subst (λ (ws : List ℕ). (get_elem? ws (word_at c.args.slots node) ≡ some 0) × (get_elem? ws (word_at c.args.slots node + 1) ≡ some 0)) (sym row)
    (nodes_behind c.args.slots nodes node one few))
