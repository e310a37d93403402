-- An id that stands nowhere goes behind the others.
use Rattle.std.proofs.Common.{◌≡◌, ◌+◌, ◌∷◌, [], ◌++◌, nat_eq, None, Some, Ok, length, ap, sym, subst, ◌∙◌, rules, arith}
use Rattle.std.proofs.lemmas.List.{length-append}
use Rattle.std.specs.List.{IsDistinct}
use Rattle.std.specs.Map.{keys_of}
use Rattle.indexmap.specs.IndexMap.{get, insert_entry}
use Rattle.indexmap.proofs.CallerLemmas.{insert_entry-new}
use Rattle.link_core.specs.Kept.{waiting, AreGone}
use Rattle.link_core.specs.Outstanding.{without}
use Rattle.link_core.proofs.Waiting.{added, gone_more, unknown, unchanged, put_back, of_ok}
use Rattle.link_core.proofs.outstanding.Outstanding.renew.Goals as goal

pub invariant_of-self-2 : goal.invariant_of-self-2
invariant_of-self-2 c =
    let es = c.self.inside.entries in
    let more = (c.args.id, Some c.args.call) ∷ [] in
    let absent : get nat_eq es c.args.id ≡ None = sym c.in_ok-stood.ensures.old ∙ c.in_default.is in
    let e : c.insert.new.self.entries ≡ es.entries ++ more = c.in_ok-stood.ensures.entries ∙ insert_entry-new nat_eq es c.args.id (Some c.args.call) absent in
    let w : waiting c.insert.new.self.entries ≡ waiting es.entries ++ (c.args.id, c.args.call) ∷ [] = ap waiting e ∙ added c.args.id c.args.call es.entries in
    record {
      count = ap (λ n. n + 1) c.self.invariant.count ∙ sym (ap length w ∙ length-append (waiting es.entries) ((c.args.id, c.args.call) ∷ []));
      gone = subst (AreGone c.self.inside.front) (sym e) (gone_more c.self.inside.front es.entries more c.self.invariant.gone);
      once = c.in_ok-stood.ensures.unique;
      few = let long = length-append es.entries more in let n = ap length e in omega (arith, long, n, c.self.invariant.few);
    }

pub returns-clause-added : goal.returns-clause-added
returns-clause-added c =
    let es = c.self.inside.entries in
    let more = (c.args.id, Some c.args.call) ∷ [] in
    let absent : get nat_eq es c.args.id ≡ None = sym c.in_ok-stood.ensures.old ∙ c.in_default.is in
    let e : c.insert.new.self.entries ≡ es.entries ++ more = c.in_ok-stood.ensures.entries ∙ insert_entry-new nat_eq es c.args.id (Some c.args.call) absent in
    let v : waiting es.entries ≡ c.args.self.now = search rules in
    ap waiting e ∙ added c.args.id c.args.call es.entries
    ∙ ap (λ xs. xs ++ (c.args.id, c.args.call) ∷ []) (unchanged c.args.id (waiting es.entries) (unknown c.args.id es.entries absent) ∙ ap (without c.args.id) v)

-- An id that stood among the entries is put back.
pub invariant_of-self-in-Some : goal.invariant_of-self-in-Some
invariant_of-self-in-Some c =
    let es = c.self.inside.entries in
    let stood : get nat_eq es c.args.id ≡ Some c.in-Some.stood = sym c.in_ok-stood.ensures.old ∙ c.in-Some.is in
    let ok : c.insert-in-Some.result ≡ Ok c.unwrap.result = c.unwrap.ensures in
    let e : c.insert-in-Some.new.self.entries ≡ es.entries = of_ok c.insert-in-Some.result c.unwrap.result ok c.insert-in-Some.ensures.entries
    ∙ ap (λ xs. insert_entry nat_eq xs c.args.id c.in-Some.stood) c.in_ok-stood.ensures.entries ∙ put_back c.args.id (Some c.args.call) c.in-Some.stood es.entries stood in
    record {
      count = c.self.invariant.count ∙ sym (ap (λ xs. length (waiting xs)) e);
      gone = subst (AreGone c.self.inside.front) (sym e) c.self.invariant.gone;
      once = subst (λ xs. IsDistinct nat_eq (keys_of xs)) (sym e) c.self.invariant.once;
      few = let n = ap length e in omega (arith, n, c.self.invariant.few);
    }

pub returns-in-Some-clause-added : goal.returns-in-Some-clause-added
returns-in-Some-clause-added c =
    let es = c.self.inside.entries in
    let stood : get nat_eq es c.args.id ≡ Some c.in-Some.stood = sym c.in_ok-stood.ensures.old ∙ c.in-Some.is in
    let ok : c.insert-in-Some.result ≡ Ok c.unwrap.result = c.unwrap.ensures in
    let e : c.insert-in-Some.new.self.entries ≡ es.entries = of_ok c.insert-in-Some.result c.unwrap.result ok c.insert-in-Some.ensures.entries
    ∙ ap (λ xs. insert_entry nat_eq xs c.args.id c.in-Some.stood) c.in_ok-stood.ensures.entries ∙ put_back c.args.id (Some c.args.call) c.in-Some.stood es.entries stood in
    let v : waiting es.entries ≡ c.args.self.now = search rules in
    let is : c.remove.new.self ≡ without c.args.id c.args.self.now = c.remove.ensures.after ∙ ap (without c.args.id) (ap waiting e ∙ v) in
    rw is at c.add.ensures.added

pub returns-in-Some-clause-gone : goal.returns-in-Some-clause-gone
returns-in-Some-clause-gone c =
    let es = c.self.inside.entries in
    let stood : get nat_eq es c.args.id ≡ Some c.in-Some.stood = sym c.in_ok-stood.ensures.old ∙ c.in-Some.is in
    let ok : c.insert-in-Some.result ≡ Ok c.unwrap.result = c.unwrap.ensures in
    let e : c.insert-in-Some.new.self.entries ≡ es.entries = of_ok c.insert-in-Some.result c.unwrap.result ok c.insert-in-Some.ensures.entries
    ∙ ap (λ xs. insert_entry nat_eq xs c.args.id c.in-Some.stood) c.in_ok-stood.ensures.entries ∙ put_back c.args.id (Some c.args.call) c.in-Some.stood es.entries stood in
    let v : waiting es.entries ≡ c.args.self.now = search rules in
    let is : c.remove.new.self ≡ without c.args.id c.args.self.now = c.remove.ensures.after ∙ ap (without c.args.id) (ap waiting e ∙ v) in
    rw is at c.add.ensures.kept
