-- What the rule says in the end, of one view.
use Rattle.std.proofs.Common.{◌≡◌, ℕ, ◌<◌, List, [], ◌++◌, length, set, sym, ap, ◌∙◌, Option}
use mathlib.Core.Option.{some}
use lib.ListN.{get_elem?}
use Rattle.atomic_table.specs.Table.{State}
use Rattle.id_rule.specs.declared.view.Receipt.{Receipt}
use Rattle.id_rule.specs.Accounts.{IsAccounted}
use Rattle.id_rule.specs.Nodes.{numbers_of}
use Rattle.id_rule.specs.Receipts.{occurrences, receipts_in}
use Rattle.id_rule.specs.Rule.{IsKept}
use Rattle.id_rule.specs.declared.rule.Sizes.{Sizes}
use Rattle.id_rule.specs.declared.view.View.{View}
use Rattle.id_rule.proofs.Lists.{holds_it, set_stands, yes_if, bare}

module _ {T E : Type 0} (log : T → List E) (first_id : T → ℕ) (rec : E → Option Receipt) where
  -- A pass that destroyed a range and collected it knows that its receipts for it are, each once, those in the last log and those dropped
  pub all_accounted : (sizes : Sizes) (s : State (Option T) (View E)) (by : ℕ) (v : View E) → IsKept log first_id rec sizes s → get_elem? s.views by ≡ some v → IsAccounted rec v
  all_accounted sizes s by v kept at slot f a l ends_it knows_it numbers n =
      let g = kept.history in
      let t = kept.tells by v at slot f in
      let over = kept.over slot f l (t.2 l knows_it) a n in
      let own = holds_it a kept.at.2.count by kept.at.2.holder v.numbers numbers (kept.at.2.each by v at).1 in
      ap (occurrences n) (t.0 a ∙ yes_if (kept.at.2.holder a) by (g.numbered slot f a) [] own) ∙ over
      ∙ ap (λ (z : List Receipt). occurrences n (numbers_of a (receipts_in rec l) ++ numbers_of a z)) (sym (t.1 ∙ yes_if (g.ender slot f) by (g.lost slot f) bare (t.3 ends_it).0))

  -- the same of a view that a step left
  pub accounted_after : (sizes : Sizes) (s : State (Option T) (View E)) (by : ℕ) (w : View E) → IsKept log first_id rec sizes record { words = s.words; homes = s.homes; views = set s.views by w }
      → by < length s.views → IsAccounted rec w
  accounted_after sizes s by w kept low = all_accounted sizes record { words = s.words; homes = s.homes; views = set s.views by w } by w kept (set_stands s.views by w low)
