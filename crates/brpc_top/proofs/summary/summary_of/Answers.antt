-- One label and one number after the other.
use Rattle.std.proofs.Common.{◌≡◌, ◌∙◌, ◌++◌, List, [], ℕ, ap, codes, string_bytes}
use Rattle.std.specs.Fmt.{decimal}
use Rattle.brpc_top.specs.Summary.{summary}
use Rattle.brpc_top.proofs.summary.summary_of.Goals as goal

-- a label and a number behind a text
abbrev with_number : List ℕ → ℕ → List ℕ → List ℕ
with_number label number text = text ++ label ++ decimal number

pub returns : goal.returns
unfolding summary
returns c =
    let none : string_bytes c.new-text.result ≡ [] = c.new-text.ensures.bytes in
    let e1 : string_bytes c.put.new.text ≡ with_number (codes "calls ") c.args.calls [] = c.in_ok-put.ensures ∙ ap (with_number (codes "calls ") c.args.calls) none in
    let e2 : string_bytes c.put-2.new.text ≡ with_number (codes " ok ") c.good_count-ok.result (with_number (codes "calls ") c.args.calls []) =
    c.in_ok-put-2.ensures ∙ ap (with_number (codes " ok ") c.good_count-ok.result) e1 in
    let e3 = c.in_ok-put-3.ensures ∙ ap (with_number (codes " fail ") c.bad_count-fail.result) e2 in
    let e4 = c.in_ok-put-4.ensures ∙ ap (with_number (codes " open ") c.unended_count-open.result) e3 in
    let e5 = c.in_ok-put-5.ensures ∙ ap (with_number (codes " full ") c.full_count-full.result) e4 in
    let e6 = c.in_ok-put-6.ensures ∙ ap (with_number (codes " attempts ") c.attempts_in-attempts.result) e5 in
    let e7 = c.in_ok-push_str.ensures.bytes ∙ ap (λ (t : List ℕ). t ++ codes "\n") e6 in
    let counted = rw (c.good_count-ok.ensures, c.bad_count-fail.ensures, c.unended_count-open.ensures, c.full_count-full.ensures, c.attempts_in-attempts.ensures) at e7 in
    ap (λ v. v.items) c.into_bytes.ensures.value ∙ counted
