-- Whether marks that fired were set is decided.
use Rattle.std.proofs.Common.{◌&&◌, nat_le, nat_lt, List}
use Rattle.std.specs.Bool.{Decides}
use Rattle.std.proofs.lemmas.Bool.Decides.{Decides-ltb, Decides-and, Decides-like}
use Rattle.rpc_model.specs.declared.script.Script.{Script}
use Rattle.rpc_model.specs.declared.journal.Fired.{Fired}
use Rattle.rpc_model.specs.declared.journal.Journal.{Journal}
use Rattle.journal_rule.specs.Fired.{Alarm, alarm, set_alarms, fired_alarms, alarm_count, IsOneSet, HasMarks, is_one_set, has_marks}
use Rattle.journal_rule.proofs.Decided.{at_most, each}

mark_decided : (set_by_calls fired : List Alarm) (m : Fired) → Decides (is_one_set set_by_calls fired m) (IsOneSet set_by_calls fired m)
mark_decided set_by_calls fired m =
    let s = alarm_count set_by_calls (alarm m) in
    let f = alarm_count fired (alarm m) in
    Decides-like (is_one_set set_by_calls fired m)
    (λ h. record { was_set = h.0; once = h.1.0; due = h.1.1 })
    (λ (h : IsOneSet set_by_calls fired m). (h.was_set, (h.once, h.due)))
    (Decides-and (nat_lt 0 s) (nat_le f 1 && nat_le m.due m.now) (Decides-ltb 0 s) (Decides-and (nat_le f 1) (nat_le m.due m.now) (at_most f 1) (at_most m.due m.now)))

pub marks_decided : (script : Script) (journal : Journal) → Decides (has_marks script journal) (HasMarks script journal)
marks_decided script journal =
    let s = set_alarms script journal in
    let f = fired_alarms journal in
    each (is_one_set s f) (IsOneSet s f) (mark_decided s f) journal.marks
