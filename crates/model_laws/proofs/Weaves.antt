-- The marks that a call takes up to a moment, and then up to a later one.
use Rattle.std.proofs.Common.{◌≡◌, ℕ, zero, suc, ◌+◌, ◌≤◌, Bool, true, false, cond, nat_le, List, [], ◌∷◌, length, Option, Some, None, arith, refl, ap, sym, ◌∙◌, subst}
use Rattle.rpc_model.specs.Effects.{Mark}
use Rattle.rpc_model.specs.Marks.{marks_left, Begun, least_mark, is_before, set_mark, set_all, take_mark, mark_event, weave_at_most, weave_least, weave}
use Rattle.model_laws.proofs.Few.{call-step-few}
use Rattle.rpc_model.specs.Kinds.{script_kinds}
use Rattle.rpc_model.specs.Machine.{step}

-- ---- how many marks wait

others-length : (p q : Mark × List Mark) → Some p ≡ Some q → length p.1 ≡ length q.1
others-length p q e = let same : p ≡ q = cc in ap (λ (x : Mark × List Mark). length x.1) same

pub least-length : (xs : List Mark) (mark : Mark) (others : List Mark) → least_mark xs ≡ Some (mark, others) → length xs ≡ suc (length others)
least-length [] mark others e = absurd (cc)
least-length (x ∷ xs) mark others e = ap suc (others-length (x, xs) (mark, others) e)

set-length : (m : Mark) (xs : List Mark) → length (set_mark m xs) ≡ suc (length xs)
set-length m [] = refl
set-length m (x ∷ xs) = by (is_before m x) (set-length m xs)
  where
    by : (v : Bool) → length (set_mark m xs) ≡ suc (length xs) → length (cond v (m ∷ x ∷ xs) (x ∷ set_mark m xs)) ≡ suc (length (x ∷ xs))
    by true h = refl
    by false h = ap suc h

pub set_all-length : (ms xs : List Mark) → length (set_all ms xs) ≡ length xs + length ms
set_all-length [] xs = omega arith
set_all-length (m ∷ ms) xs = let h = set_all-length ms (set_mark m xs) in let one = set-length m xs in omega (arith, h, one)

pub least-zero : (xs : List Mark) → length xs ≤ 0 → least_mark xs ≡ None
least-zero [] h = refl
least-zero (x ∷ xs) h = absurd (omega (arith, h))

-- A call that takes a mark has one less to take.
pub taken-left : (b : Begun) (mark : Mark) (others : List Mark) → least_mark b.waiting ≡ Some (mark, others) → suc (marks_left (take_mark b mark others)) ≤ marks_left b
taken-left b mark others e =
    let l = least-length b.waiting mark others e in
    let run = step script_kinds b.call b.state (mark_event mark.node mark.backup) mark.moment in
    let few = call-step-few script_kinds b.call b.state (mark_event mark.node mark.backup) mark.moment in
    let a = set_all-length run.marks others in
    omega (arith, l, few, a)

pub none-left : (b : Begun) → marks_left b ≤ 0 → least_mark b.waiting ≡ None
none-left b h = least-zero b.waiting (omega (arith, h))

-- ---- fuel

pub weave-idle : (n moment : ℕ) (b : Begun) → least_mark b.waiting ≡ None → weave_at_most n moment b ≡ b
weave-idle zero moment b e = refl
weave-idle (suc n) moment b e = ap (weave_least (weave_at_most n moment) moment b) e

-- what a weave does that meets this mark
pub weave-meets : (n moment : ℕ) (b : Begun) (mark : Mark) (others : List Mark) → least_mark b.waiting ≡ Some (mark, others) → weave_at_most (suc n) moment b
    ≡ cond (nat_le mark.moment moment) (weave_at_most n moment (take_mark b mark others)) b
weave-meets n moment b mark others e = ap (weave_least (weave_at_most n moment) moment b) e

either : {X : Type 0} (v : Bool) (x y z : X) → x ≡ y → cond v x z ≡ cond v y z
either true x y z same = same
either false x y z same = refl

weave-step : (n k moment : ℕ) (b : Begun) (o : Option (Mark × List Mark)) → least_mark b.waiting ≡ o
    → ((d : Begun) → marks_left d ≤ n → marks_left d ≤ k → weave_at_most n moment d ≡ weave_at_most k moment d)
    → marks_left b ≤ suc n → marks_left b ≤ suc k → weave_at_most (suc n) moment b ≡ weave_at_most (suc k) moment b
weave-step n k moment b None e again hn hk = weave-idle (suc n) moment b e ∙ sym (weave-idle (suc k) moment b e)
weave-step n k moment b (Some (mark, others)) e again hn hk =
    let left = taken-left b mark others e in
    let t = take_mark b mark others in
    weave-meets n moment b mark others e
    ∙ either (nat_le mark.moment moment) (weave_at_most n moment t) (weave_at_most k moment t) b (again t (omega (arith, left, hn)) (omega (arith, left, hk)))
    ∙ sym (weave-meets k moment b mark others e)

-- Where it lasts for all waiting marks, more changes nothing.
pub weave-fuel : (n k moment : ℕ) (b : Begun) → marks_left b ≤ n → marks_left b ≤ k → weave_at_most n moment b ≡ weave_at_most k moment b
weave-fuel zero k moment b hn hk = sym (weave-idle k moment b (none-left b hn))
weave-fuel (suc n) zero moment b hn hk = weave-idle (suc n) moment b (none-left b hk)
weave-fuel (suc n) (suc k) moment b hn hk = weave-step n k moment b (least_mark b.waiting) refl (λ d hd hd'. weave-fuel n k moment d hd hd') hn hk

-- ---- a weave, and a later one

-- what a weave to r and then to m comes to
LaterIs : ℕ → ℕ → ℕ → ℕ → ℕ → Begun → Type 0
LaterIs k n j r m b = marks_left b ≤ j → marks_left (weave_at_most k r b) ≤ n → weave_at_most n m (weave_at_most k r b) ≡ weave_at_most j m b

later-due : (k n j r m : ℕ) (b : Begun) (mark : Mark) (others : List Mark) (v : Bool) → nat_le mark.moment r ≡ v → least_mark b.waiting ≡ Some (mark, others) → r ≤ m
    → LaterIs k n j r m (take_mark b mark others) → LaterIs (suc k) n (suc j) r m b
unfolding LaterIs
later-due k n j r m b mark others true due e le again hj hn =
    let t = take_mark b mark others in
    let left = taken-left b mark others e in
    let same : weave_at_most (suc k) r b ≡ weave_at_most k r t = weave-meets k r b mark others e ∙ ap (λ v. cond v (weave_at_most k r t) b) due in
    let due_then : nat_le mark.moment m ≡ true = grind arith in
    ap (weave_at_most n m) same ∙ again (omega (arith, left, hj)) (subst (λ (d : Begun). marks_left d ≤ n) same hn)
    ∙ sym (weave-meets j m b mark others e ∙ ap (λ v. cond v (weave_at_most j m t) b) due_then)
later-due k n j r m b mark others false due e le again hj hn =
    let t = take_mark b mark others in
    let same : weave_at_most (suc k) r b ≡ b = weave-meets k r b mark others e ∙ ap (λ v. cond v (weave_at_most k r t) b) due in
    ap (weave_at_most n m) same ∙ weave-fuel n (suc j) m b (subst (λ (d : Begun). marks_left d ≤ n) same hn) hj

later-step : (k n j r m : ℕ) (b : Begun) (o : Option (Mark × List Mark)) → least_mark b.waiting ≡ o → r ≤ m → ((i : ℕ) (d : Begun) → LaterIs k n i r m d) → LaterIs (suc k) n j r m b
unfolding LaterIs
later-step k n j r m b None e le again hj hn =
    let same = weave-idle (suc k) r b e in
    ap (weave_at_most n m) same ∙ weave-fuel n j m b (subst (λ (d : Begun). marks_left d ≤ n) same hn) hj
later-step k n zero r m b (Some (mark, others)) e le again hj hn = absurd (let left = taken-left b mark others e in omega (arith, left, hj))
later-step k n (suc j) r m b (Some (mark, others)) e le again hj hn = later-due k n j r m b mark others (nat_le mark.moment r) refl e le (again j (take_mark b mark others)) hj hn

weave-later : (k n j r m : ℕ) (b : Begun) → r ≤ m → LaterIs k n j r m b
unfolding LaterIs
weave-later zero n j r m b le hj hn = weave-fuel n j m b hn hj
weave-later (suc k) n j r m b le hj hn = later-step k n j r m b (least_mark b.waiting) refl le (λ i d. weave-later k n i r m d le) hj hn

-- To weave to a moment and then to a later one is to weave to the later one.
pub weave-twice : (r m : ℕ) (b : Begun) → r ≤ m → weave m (weave r b) ≡ weave m b
unfolding LaterIs
weave-twice r m b le = weave-later (marks_left b) (marks_left (weave r b)) (marks_left b) r m b le (omega arith) (omega arith)
