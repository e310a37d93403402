-- The piece is the one that `split` yields at that place.
use Rattle.std.proofs.Common.{rules, ◌==◌, Some, ap, sym, ◌∙◌}
use Rattle.std.proofs.lemmas.Iterator.Consumers.{nth_from_yields_List}
use Rattle.std.proofs.lemmas.Iterator.Splits.{YieldsList-from_slice_split}
use Rattle.std.specs.Option.{option_map}
use Rattle.rpc_model.specs.Kinds.{send_part}
use Rattle.rpc_model.proofs.mapper.split.Goals as goal

pub returns-in-None : goal.returns-in-None
returns-in-None c =
    let found = nth_from_yields_List c.nth.result _ c.args.index c.nth.ensures.ran
    (YieldsList-from_slice_split _ (λ b. b == 44) c.args.request.now c.split.ensures.rest c.split.ensures.done c.split.ensures.closure (λ x b q h. search rules)) in
    ap send_part (sym (ap (option_map (λ x. x.now)) c.in-None.is) ∙ found)

pub returns-in_ok-copied-in-Some : goal.returns-in_ok-copied-in-Some
returns-in_ok-copied-in-Some c =
    let found = nth_from_yields_List c.nth.result _ c.args.index c.nth.ensures.ran
    (YieldsList-from_slice_split _ (λ b. b == 44) c.args.request.now c.split.ensures.rest c.split.ensures.done c.split.ensures.closure (λ x b q h. search rules)) in
    ap send_part (ap Some c.in_ok-copied-in-Some.ensures ∙ sym (ap (option_map (λ x. x.now)) c.in-Some.is) ∙ found)
