-- What a pass knows in the end of the receipts for a range. This project's own choice.
use Rattle.std.specs.Prelude.{ℕ, List, ◌++◌, Option}
use Rattle.id_rule.specs.declared.view.Receipt.{Receipt}
use Rattle.id_rule.specs.declared.view.View.{View}
use Rattle.id_rule.specs.Nodes.{numbers_of}
use Rattle.id_rule.specs.Parts.{HasNumber, HasLog, part_of}
use Rattle.id_rule.specs.Receipts.{IsReordered, receipts_of_range, receipts_in}

-- Of each range that the pass collected, and that it destroyed or a pass that was joined into it: its receipts are, each once, those in the collected
-- log and those dropped then
abbrev pub IsAccounted : {E : Type 0} → (E → Option Receipt) → View E → Type 0
IsAccounted {E} rec v = (slot f a : ℕ) (l : List E) → HasNumber f (part_of v slot).destroyed → HasLog (part_of v slot).last f l → HasNumber a v.numbers
    → IsReordered (numbers_of a (receipts_of_range f (part_of v slot).receipts))
    (numbers_of a (receipts_in rec l) ++ numbers_of a (receipts_of_range f (part_of v slot).dropped))
