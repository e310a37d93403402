-- The subs of a parallel channel.
use Rattle.std.proofs.Common.{List, map, sym, subst}
use Rattle.rpc_model.specs.declared.chan.Sub.{Sub}
use Rattle.chan_tree.specs.Sound.{AreBefore, IsSound}
use Rattle.chan_tree.proofs.sound.is_sound.Goals as goal

pub returns-in-Par : goal.returns-in-Par
returns-in-Par g c =
    let before : List (Sub g.row.M.Denot g.row.G.Denot) → Type 0 = λ z. AreBefore c.args.number (map (λ (s : Sub g.row.M.Denot g.row.G.Denot). s.chan) z) in (
      λ yes. subst (IsSound c.args.number) (sym c.in-Par.is) (subst before c.list-in-Par.ensures (c.are_subs_before.ensures.0 yes)),
      λ sound. c.are_subs_before.ensures.1 (subst before (sym c.list-in-Par.ensures) (subst (IsSound c.args.number) c.in-Par.is sound)),
    )
