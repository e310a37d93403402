-- A join of a call that took its due marks before.
use Rattle.std.proofs.Common.{◌≡◌, ℕ, zero, suc, ◌≤◌, max, Bool, true, false, cond, nat_le, List, Option, Some, None, is_some, arith, refl, ap, sym, ◌∙◌, subst}
use Rattle.rpc_model.specs.declared.event.End.{End}
use Rattle.rpc_model.specs.Effects.{Mark}
use Rattle.rpc_model.specs.Marks.{marks_left, Begun, least_mark, take_mark, mark_event, weave_at_most, weave, finish_at_most, finish_least, finish}
use Rattle.model_laws.proofs.Ended.{step-ended}
use Rattle.rpc_model.specs.Kinds.{script_kinds}
use Rattle.rpc_model.specs.State.{end_of}
use Rattle.model_laws.proofs.Once.{weave-call}
use Rattle.model_laws.proofs.Weaves.{taken-left, none-left, weave-idle, weave-meets}

-- ---- a finish after a weave

-- what a finish does that finds an end, no mark, or this mark
finish-ended : (n r : ℕ) (b : Begun) → is_some (end_of b.state) ≡ true → finish_at_most n r b ≡ (r, b)
finish-ended zero r b e = refl
finish-ended (suc n) r b e = ap (λ v. cond v (r, b) (finish_least (finish_at_most n) r b (least_mark b.waiting))) e

finish-idle : (n r : ℕ) (b : Begun) → least_mark b.waiting ≡ None → finish_at_most n r b ≡ (r, b)
finish-idle zero r b e = refl
finish-idle (suc n) r b e = by (is_some (end_of b.state))
  where
    by : (v : Bool) → cond v (r, b) (finish_least (finish_at_most n) r b (least_mark b.waiting)) ≡ (r, b)
    by true = refl
    by false = ap (finish_least (finish_at_most n) r b) e

finish-meets : (n r : ℕ) (b : Begun) (mark : Mark) (others : List Mark) → is_some (end_of b.state) ≡ false → least_mark b.waiting ≡ Some (mark, others)
    → finish_at_most (suc n) r b ≡ finish_at_most n (max r mark.moment) (take_mark b mark others)
finish-meets n r b mark others open_ e = ap (λ v. cond v (r, b) (finish_least (finish_at_most n) r b (least_mark b.waiting))) open_ ∙ ap (finish_least (finish_at_most n) r b) e

finish-step : (n k r : ℕ) (b : Begun) (v : Bool) (o : Option (Mark × List Mark)) → is_some (end_of b.state) ≡ v → least_mark b.waiting ≡ o
    → ((s : ℕ) (d : Begun) → marks_left d ≤ n → marks_left d ≤ k → finish_at_most n s d ≡ finish_at_most k s d)
    → marks_left b ≤ suc n → marks_left b ≤ suc k → finish_at_most (suc n) r b ≡ finish_at_most (suc k) r b
finish-step n k r b true o p e again hn hk = finish-ended (suc n) r b p ∙ sym (finish-ended (suc k) r b p)
finish-step n k r b false None p e again hn hk = finish-idle (suc n) r b e ∙ sym (finish-idle (suc k) r b e)
finish-step n k r b false (Some (mark, others)) p e again hn hk =
    let left = taken-left b mark others e in
    finish-meets n r b mark others p e ∙ again (max r mark.moment) (take_mark b mark others) (omega (arith, left, hn)) (omega (arith, left, hk)) ∙ sym (finish-meets k r b mark others p e)

pub finish-fuel : (n k r : ℕ) (b : Begun) → marks_left b ≤ n → marks_left b ≤ k → finish_at_most n r b ≡ finish_at_most k r b
finish-fuel zero k r b hn hk = sym (finish-idle k r b (none-left b hn))
finish-fuel (suc n) zero r b hn hk = finish-idle (suc n) r b (none-left b hk)
finish-fuel (suc n) (suc k) r b hn hk = finish-step n k r b (is_some (end_of b.state)) (least_mark b.waiting) refl refl (λ s d hd hd'. finish-fuel n k s d hd hd') hn hk

pub some-end : (o : Option End) → is_some o ≡ true → (end : End) × (o ≡ Some end)
some-end None e = absurd (cc)
some-end (Some end) e = (end, refl)

taken-ended : (b : Begun) (mark : Mark) (others : List Mark) → is_some (end_of b.state) ≡ true → (take_mark b mark others).state ≡ b.state
taken-ended b mark others h = let s = some-end (end_of b.state) h in step-ended script_kinds b.call b.state (mark_event mark.node mark.backup) mark.moment s.0 s.1

ended-due : (k r : ℕ) (b : Begun) (mark : Mark) (others : List Mark) (v : Bool) → (weave_at_most k r (take_mark b mark others)).state ≡ b.state
    → (cond v (weave_at_most k r (take_mark b mark others)) b).state ≡ b.state
ended-due k r b mark others true h = h
ended-due k r b mark others false h = refl

ended-step : (k r : ℕ) (b : Begun) (o : Option (Mark × List Mark)) → least_mark b.waiting ≡ o → is_some (end_of b.state) ≡ true
    → ((d : Begun) → is_some (end_of d.state) ≡ true → (weave_at_most k r d).state ≡ d.state) → (weave_at_most (suc k) r b).state ≡ b.state
ended-step k r b None e h again = ap (λ (d : Begun). d.state) (weave-idle (suc k) r b e)
ended-step k r b (Some (mark, others)) e h again =
    let t = take_mark b mark others in
    let same = taken-ended b mark others h in
    subst (λ (d : Begun). d.state ≡ b.state) (sym (weave-meets k r b mark others e)) (ended-due k r b mark others (nat_le mark.moment r) (again t (ap (λ s. is_some (end_of s)) same ∙ h) ∙ same))

weave-ended : (k r : ℕ) (b : Begun) → is_some (end_of b.state) ≡ true → (weave_at_most k r b).state ≡ b.state
weave-ended zero r b h = refl
weave-ended (suc k) r b h = ended-step k r b (least_mark b.waiting) refl h (λ d hd. weave-ended k r d hd)

-- Two calls that a join finished are the same, up to marks that wait where there is an end.
pub record Alike (p q : ℕ × Begun) : Type 0 where
  pub moment : p.0 ≡ q.0
  pub call : p.1.call ≡ q.1.call
  pub state : p.1.state ≡ q.1.state
  pub open_ : is_some (end_of p.1.state) ≡ false → p.1 ≡ q.1

alike : (p q : ℕ × Begun) → p ≡ q → Alike p q
alike p q e = subst (Alike p) e (record { moment = refl; call = refl; state = refl; open_ = λ h. refl })

-- what a finish behind a weave comes to
FinishIs : ℕ → ℕ → ℕ → ℕ → Begun → Type 0
FinishIs k n j r b = marks_left b ≤ j → marks_left (weave_at_most k r b) ≤ n → Alike (finish_at_most n r (weave_at_most k r b)) (finish_at_most j r b)

finishes-ended : (k n j r : ℕ) (b : Begun) → is_some (end_of b.state) ≡ true → Alike (finish_at_most n r (weave_at_most k r b)) (finish_at_most j r b)
finishes-ended k n j r b h =
    let w = weave_at_most k r b in
    let same = weave-ended k r b h in
    let ended : is_some (end_of w.state) ≡ true = ap (λ s. is_some (end_of s)) same ∙ h in
    let a : Alike (r, w) (r, b) = record { moment = refl; call = weave-call k r b; state = same; open_ = λ no. absurd (let both = sym ended ∙ no in cc) } in
    subst (λ p. Alike p (finish_at_most j r b)) (sym (finish-ended n r w ended)) (subst (Alike (r, w)) (sym (finish-ended j r b h)) a)

finishes-due : (k n j r : ℕ) (b : Begun) (mark : Mark) (others : List Mark) (v : Bool) → nat_le mark.moment r ≡ v → least_mark b.waiting ≡ Some (mark, others) → is_some (end_of b.state) ≡ false
    → FinishIs k n j r (take_mark b mark others) → FinishIs (suc k) n (suc j) r b
unfolding FinishIs
finishes-due k n j r b mark others true due e open_ again hj hn =
    let t = take_mark b mark others in
    let left = taken-left b mark others e in
    let same : weave_at_most (suc k) r b ≡ weave_at_most k r t = weave-meets k r b mark others e ∙ ap (λ v. cond v (weave_at_most k r t) b) due in
    let stays : max r mark.moment ≡ r = grind arith in
    let right : finish_at_most (suc j) r b ≡ finish_at_most j r t = finish-meets j r b mark others open_ e ∙ ap (λ s. finish_at_most j s t) stays in
    subst (λ d. Alike (finish_at_most n r d) (finish_at_most (suc j) r b)) (sym same)
    (subst (Alike (finish_at_most n r (weave_at_most k r t))) (sym right) (again (omega (arith, left, hj)) (subst (λ (d : Begun). marks_left d ≤ n) same hn)))
finishes-due k n j r b mark others false due e open_ again hj hn =
    let t = take_mark b mark others in
    let same : weave_at_most (suc k) r b ≡ b = weave-meets k r b mark others e ∙ ap (λ v. cond v (weave_at_most k r t) b) due in
    alike (finish_at_most n r (weave_at_most (suc k) r b)) (finish_at_most (suc j) r b)
    (ap (finish_at_most n r) same ∙ finish-fuel n (suc j) r b (subst (λ (d : Begun). marks_left d ≤ n) same hn) hj)

finishes-step : (k n j r : ℕ) (b : Begun) (v : Bool) (o : Option (Mark × List Mark)) → is_some (end_of b.state) ≡ v → least_mark b.waiting ≡ o → ((i : ℕ) (d : Begun) → FinishIs k n i r d)
    → FinishIs (suc k) n j r b
unfolding FinishIs
finishes-step k n j r b true o h e again hj hn = finishes-ended (suc k) n j r b h
finishes-step k n j r b false None h e again hj hn =
    let same = weave-idle (suc k) r b e in
    alike (finish_at_most n r (weave_at_most (suc k) r b)) (finish_at_most j r b) (ap (finish_at_most n r) same ∙ finish-fuel n j r b (subst (λ (d : Begun). marks_left d ≤ n) same hn) hj)
finishes-step k n zero r b false (Some (mark, others)) h e again hj hn = absurd (let left = taken-left b mark others e in omega (arith, left, hj))
finishes-step k n (suc j) r b false (Some (mark, others)) h e again hj hn = finishes-due k n j r b mark others (nat_le mark.moment r) refl e h (again j (take_mark b mark others)) hj hn

finish-later : (k n j r : ℕ) (b : Begun) → FinishIs k n j r b
unfolding FinishIs
finish-later zero n j r b hj hn = alike (finish_at_most n r b) (finish_at_most j r b) (finish-fuel n j r b hn hj)
finish-later (suc k) n j r b hj hn = finishes-step k n j r b (is_some (end_of b.state)) (least_mark b.waiting) refl refl (λ i d. finish-later k n i r d) hj hn

pub finish-weave : (r : ℕ) (b : Begun) → Alike (finish r (weave r b)) (finish r b)
unfolding FinishIs
finish-weave r b = finish-later (marks_left b) (marks_left (weave r b)) (marks_left b) r b (omega arith) (omega arith)
