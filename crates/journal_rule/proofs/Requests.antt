-- Whether what went out is what was sent is decided.
use Rattle.std.proofs.Common.{◌≡◌, ℕ, ◌+◌, ◌==◌, Bool, true, false, ◌&&◌, ◌⊎◌, cond, List, [], ◌∷◌, Option, Some, None, count_by, bytes_eq, inl, inr, refl, ap, sym, ◌∙◌, subst, arith}
use Rattle.std.specs.Bool.{Decides}
use Rattle.std.specs.List.{list_all, AllByRecursion}
use Rattle.std.proofs.lemmas.Bool.{false≢true}
use Rattle.std.proofs.lemmas.Bool.Decides.{Decides-eqb, Decides-and, Decides-like}
use Rattle.std.proofs.lemmas.List.Elements.{recursion_from_All}
use Rattle.std.proofs.lemmas.List.Sums.{sum_by-cons}
use Rattle.std.proofs.lemmas.Slice.Eq.{bytes_eq-Decides}
use Rattle.rpc_model.specs.declared.script.Script.{Script}
use Rattle.rpc_model.specs.declared.journal.Journal.{Journal}
use Rattle.journal_rule.specs.Requests.{Request, sent, went_out, is_same_id, is_same, times, HasRequests, has_requests}
use Rattle.journal_rule.proofs.Decided.{each, inside}

same_id : (a b : Option ℕ) → Decides (is_same_id a b) (a ≡ b)
same_id None None = (λ h. refl, λ h. refl)
same_id None (Some m) = (λ h. absurd (false≢true h), λ h. absurd cc)
same_id (Some n) None = (λ h. absurd (false≢true h), λ h. absurd cc)
same_id (Some n) (Some m) = Decides-like (n == m) (λ e. ap Some e) (λ e. inside m n e) (Decides-eqb n m)

abbrev request : ℕ → Option ℕ → List ℕ → Request
request wire id payload = record { wire = wire; id = id; payload = payload }

by_fields : (w v : ℕ) (i j : Option ℕ) (p q : List ℕ) → w ≡ v → i ≡ j → p ≡ q → request w i p ≡ request v j q
by_fields w v i j p q a b c = ap (λ x. request x i p) a ∙ (ap (λ x. request v x p) b ∙ ap (λ x. request v j x) c)

same_request : (r s : Request) → Decides (is_same r s) (r ≡ s)
same_request r s =
    let i = is_same_id r.id s.id in
    let p = bytes_eq r.payload s.payload in
    Decides-like (is_same r s)
    (λ h. by_fields r.wire s.wire r.id s.id r.payload s.payload h.0 h.1.0 h.1.1)
    (λ e. (ap (λ (x : Request). x.wire) e, (ap (λ (x : Request). x.id) e, ap (λ (x : Request). x.payload) e)))
    (Decides-and (r.wire == s.wire) (i && p) (Decides-eqb r.wire s.wire) (Decides-and i p (same_id r.id s.id) (bytes_eq-Decides r.payload s.payload)))

-- what holds of each element holds of this one, or it isn't there
stands : {X : Type 0} (test : X → X → Bool) → ((x y : X) → Decides (test x y) (x ≡ y)) → (P : X → Type 0) (x : X) (xs : List X) → AllByRecursion P xs → P x ⊎ (count_by (test x) xs ≡ 0)
stands test decided P x [] all = inr refl
stands test decided P x (y ∷ xs) (one, all) = at (test x y) (decided x y) (stands test decided P x xs all) (sum_by-cons (λ z. cond (test x z) 1 0) y xs)
  where
    at : (b : Bool) → Decides b (x ≡ y) → P x ⊎ (count_by (test x) xs ≡ 0) → count_by (test x) (y ∷ xs) ≡ cond b 1 0 + count_by (test x) xs → P x ⊎ (count_by (test x) (y ∷ xs) ≡ 0)
    at true e rest more = inl (subst P (sym (e.0 refl)) one)
    at false e (inl found) more = inl found
    at false e (inr none) more = inr (omega (arith, more, none))

alike : (a b : ℕ) → (a ≡ b) ⊎ (a ≡ 0) → (a ≡ b) ⊎ (b ≡ 0) → a ≡ b
alike a b (inl e) h = e
alike a b (inr e) (inl h) = h
alike a b (inr e) (inr h) = e ∙ sym h

pub requests_decided : (script : Script) (journal : Journal) → Decides (has_requests script journal) (HasRequests script journal)
requests_decided script journal =
    let out = went_out journal in
    let sends = sent script journal in
    let P : Request → Type 0 = λ r. times out r ≡ times sends r in
    let f : Request → Bool = λ r. times out r == times sends r in
    let one : (r : Request) → Decides (f r) (P r) = λ r. Decides-eqb (times out r) (times sends r) in
    Decides-like (list_all f out && list_all f sends)
    (λ h r. alike (times out r) (times sends r) (stands is_same same_request P r out (recursion_from_All P out h.0)) (stands is_same same_request P r sends (recursion_from_All P sends h.1)))
    (λ h. (λ k d l. h _, λ k d l. h _))
    (Decides-and (list_all f out) (list_all f sends) (each f P one out) (each f P one sends))
