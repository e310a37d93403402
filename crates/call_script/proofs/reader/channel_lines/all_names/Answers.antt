-- The names are those that the words refer to.
use Rattle.std.proofs.Common.{rules, sym, ◌∙◌, List, ℕ, Bor}
use Rattle.std.proofs.lemmas.List.Folds.{list_all-map}
use Rattle.std.proofs.lemmas.Iterator.Search.{all_from_yields_List}
use Rattle.std.proofs.lemmas.Iterator.{YieldsList-from_slice}
use Rattle.rpc_model.specs.Words.{is_name}
use Rattle.call_script.proofs.reader.channel_lines.all_names.Goals as goal

pub returns : goal.returns
returns c =
    all_from_yields_List (λ (w : Bor (List ℕ)). is_name w.now) _ _ c.all.result c.all.ensures.ran (YieldsList-from_slice c.args.words.now c.iter.ensures.rest) (λ x b q h. search rules)
    ∙ sym (list_all-map is_name (λ (w : Bor (List ℕ)). w.now) c.args.words.now)
