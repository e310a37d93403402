-- The call of an entry is taken at the place that the id finds.
use Rattle.std.proofs.Common.{◌≡◌, nat_eq, None, Some, sym, ap, subst, ◌∙◌}
use Rattle.indexmap.specs.IndexMap.{get, with_entries}
use Rattle.indexmap.proofs.CallerLemmas.{keys-with_value_at, index_map_len-with_value_at}
use Rattle.std.specs.List.{IsDistinct}
use Rattle.link_core.proofs.Waiting.{unfound, unknown, had, same_at, removed_at, gone_at, if_none, if_some}
use Rattle.link_core.proofs.entries.take_call.Goals as goal

pub returns-in_err-at-clause-answer : goal.returns-in_err-at-clause-answer
returns-in_err-at-clause-answer c =
    let es = c.args.entries.now in
    let absent : get nat_eq es c.args.id ≡ None = unfound (get nat_eq es c.args.id) (sym c.in_err-at.ensures.found) in
    c.from_residual.ensures ∙ sym (unknown c.args.id es.entries absent)

pub returns-clause-answer : goal.returns-clause-answer
returns-clause-answer c =
    let es = c.args.entries.now in
    let at : get nat_eq es c.args.id ≡ Some c.take.result = sym c.in_ok-at.ensures.value ∙ sym c.in_ok-get_index_mut.ensures.value ∙ ap Some (sym c.take.ensures.value) in
    had c.args.id es.entries c.take.result c.requires.once at

pub returns-clause-gone : goal.returns-clause-gone
returns-clause-gone c = λ front h. rw c.take.ensures.after (gone_at c.args.id c.in_ok-at.at front c.args.entries.now.entries (sym c.in_ok-at.ensures.index) h)

pub returns-clause-once : goal.returns-clause-once
returns-clause-once c = subst (IsDistinct nat_eq) (sym (keys-with_value_at c.args.entries.now c.in_ok-at.at c.take.new.self)) c.requires.once

pub returns-clause-count : goal.returns-clause-count
returns-clause-count c = index_map_len-with_value_at c.args.entries.now c.in_ok-at.at c.take.new.self

pub returns-clause-kept : goal.returns-clause-kept
returns-clause-kept c =
    let es = c.args.entries.now in
    let at : get nat_eq es c.args.id ≡ Some c.take.result = sym c.in_ok-at.ensures.value ∙ sym c.in_ok-get_index_mut.ensures.value ∙ ap Some (sym c.take.ensures.value) in
    if_none c.take.result (λ none. rw c.take.ensures.after (ap (with_entries es) (same_at c.args.id c.in_ok-at.at es.entries (sym c.in_ok-at.ensures.index) (at ∙ ap Some none))))

pub returns-clause-after : goal.returns-clause-after
returns-clause-after c =
    let es = c.args.entries.now in
    let at : get nat_eq es c.args.id ≡ Some c.take.result = sym c.in_ok-at.ensures.value ∙ sym c.in_ok-get_index_mut.ensures.value ∙ ap Some (sym c.take.ensures.value) in
    if_some _ c.take.result (λ call some. rw c.take.ensures.after (removed_at c.args.id c.in_ok-at.at call es.entries (sym c.in_ok-at.ensures.index) (at ∙ ap Some some)))
