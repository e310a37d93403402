-- The parts are the text of the journal.
use Rattle.std.proofs.Common.{◌≡◌, ℕ, List, ◌++◌, map, string_bytes, ap, ◌∙◌}
use Rattle.std.specs.List.{flat_map}
use Rattle.rpc_model.specs.Texts.{text_of, call_lines, wire_lines, lane_lines, journal_lines, journal_text}
use Rattle.rpc_model.specs.declared.line.Line.TheVariants as line
use Rattle.journal_text.proofs.Lists.{journal_parts}
use Rattle.journal_text.proofs.writing.spell_journal.Goals as goal

pub returns : goal.returns
unfolding journal_text journal_lines
returns c =
    let j = c.args.journal.now in
    let calls = flat_map call_lines j.calls in
    let a : string_bytes c.put_calls.new.text ≡ text_of calls =
    c.in_ok-put_calls.ensures ∙ (ap (λ (t : List ℕ). t ++ text_of (flat_map call_lines c.list.result.now)) c.new-text.ensures.bytes ∙ ap (λ x. text_of (flat_map call_lines x)) c.list.ensures) in
    let b = c.in_ok-put_wires.ensures in
    let t = c.in_ok-push_str.ensures.bytes in
    let d = c.in_ok-put_marks.ensures in
    let e = c.in_ok-put_lanes.ensures in
    let wires = c.list-2.ensures in
    let marks = c.list-3.ensures in
    let lanes = c.list-4.ensures in
    let whole = journal_parts calls (wire_lines 0 j.wires) (map line.Mark j.marks) (lane_lines 0 j.lanes) in
    cc
