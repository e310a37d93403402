-- What the entries say of the ids that wait: looking one up, adding one, taking one out, and forgetting those that don't wait.
use Rattle.std.proofs.Common.{position, IfNone, IfSome, Result, Ok, Err, OnOk}
use Rattle.std.proofs.Common.{◌≡◌, ℕ, zero, suc, ◌+◌, ◌≤◌, Bool, true, false, cond, nat_eq, List, [], ◌∷◌, ◌++◌, length, filter, slice_get, drop, Option, None, Some, is_some, arith, refl}
use Rattle.std.proofs.Common.{sym, ap, subst, ◌∙◌}
use Rattle.std.specs.List.{AllByRecursion, IsDistinct}
use Rattle.std.specs.Cmp.{nat_eq_equiv}
use Rattle.std.specs.Option.{option_map}
use Rattle.std.specs.Map.{keys_of, lookup}
use Rattle.std.proofs.lemmas.Bool.{eqb-true, eq-eqb}
use Rattle.std.proofs.lemmas.Map.{lookup-remove_entry}
use Rattle.indexmap.specs.IndexMap.{insert_entry, set_value_at}
use Rattle.indexmap.proofs.MapLemmas.{insert_entry-first, Found-position}
use Rattle.link_core.specs.Kept.{waits, with_entry, waiting, AreGone}
use Rattle.link_core.specs.Outstanding.{call_of, is_outstanding, without, first, IsEachOnce}

-- ---- looking an id up

-- an answer that is none
pub unfound : {X : Type 0} (answer : Option X) → is_some answer ≡ false → answer ≡ None
unfound None h = refl
unfound (Some x) h = absurd (cc)

found_if : (b : Bool) (id k call : ℕ) (o : Option ℕ) (others : List (ℕ × ℕ)) (r : Option (Option ℕ)) → nat_eq id k ≡ b → cond b (Some o) r ≡ Some (Some call)
    → (r ≡ Some (Some call) → call_of id others ≡ Some call) → call_of id (with_entry k o others) ≡ Some call
found_if true id k call None others r e h i = absurd (cc)
found_if true id k call (Some c) others r e h i = let s : c ≡ call = cc in ap (λ b. cond b (Some c) (call_of id others)) e ∙ ap Some s
found_if false id k call None others r e h i = i h
found_if false id k call (Some c) others r e h i = ap (λ b. cond b (Some c) (call_of id others)) e ∙ i h

-- an id with a call waits
pub found : (id call : ℕ) (es : List (ℕ × Option ℕ)) → lookup (nat_eq id) es ≡ Some (Some call) → call_of id (waiting es) ≡ Some call
found id call [] h = absurd (cc)
found id call (e ∷ es) h = found_if (nat_eq id e.0) id e.0 call e.1 (waiting es) (lookup (nat_eq id) es) refl h (found id call es)

apart : (id : ℕ) (k : ℕ) (o : Option ℕ) (others : List (ℕ × ℕ)) → nat_eq id k ≡ false → call_of id others ≡ None → call_of id (with_entry k o others) ≡ None
apart id k None others e h = h
apart id k (Some c) others e h = ap (λ b. cond b (Some c) (call_of id others)) e ∙ h

-- an id that stands nowhere doesn't wait
all_apart : (id : ℕ) (es : List (ℕ × Option ℕ)) → AllByRecursion (λ k. nat_eq id k ≡ false) (keys_of es) → call_of id (waiting es) ≡ None
all_apart id [] h = refl
all_apart id (e ∷ es) h = apart id e.0 e.1 (waiting es) h.0 (all_apart id es h.1)

unknown_if : (b : Bool) (id k : ℕ) (o : Option ℕ) (others : List (ℕ × ℕ)) (r : Option (Option ℕ)) → nat_eq id k ≡ b → cond b (Some o) r ≡ None → (r ≡ None → call_of id others ≡ None)
    → call_of id (with_entry k o others) ≡ None
unknown_if true id k o others r e h i = absurd (cc)
unknown_if false id k o others r e h i = apart id k o others e (i h)

pub unknown : (id : ℕ) (es : List (ℕ × Option ℕ)) → lookup (nat_eq id) es ≡ None → call_of id (waiting es) ≡ None
unknown id [] h = refl
unknown id (e ∷ es) h = unknown_if (nat_eq id e.0) id e.0 e.1 (waiting es) (lookup (nat_eq id) es) refl h (unknown id es)

gone_if : (b : Bool) (id k : ℕ) (o : Option ℕ) (es : List (ℕ × Option ℕ)) → nat_eq id k ≡ b → AllByRecursion (λ y. nat_eq k y ≡ false) (keys_of es)
    → cond b (Some o) (lookup (nat_eq id) es) ≡ Some None
    → (lookup (nat_eq id) es ≡ Some None → call_of id (waiting es) ≡ None) → call_of id (with_entry k o (waiting es)) ≡ None
gone_if true id k None es e d h i = all_apart id es (subst (λ y. AllByRecursion (λ z. nat_eq y z ≡ false) (keys_of es)) (sym (eqb-true id k e)) d)
gone_if true id k (Some c) es e d h i = absurd (cc)
gone_if false id k o es e d h i = apart id k o (waiting es) e (i h)

-- nor does an id without a call
pub gone : (id : ℕ) (es : List (ℕ × Option ℕ)) → IsDistinct nat_eq (keys_of es) → lookup (nat_eq id) es ≡ Some None → call_of id (waiting es) ≡ None
unfolding IsDistinct
gone id [] d h = refl
gone id (e ∷ es) d h = gone_if (nat_eq id e.0) id e.0 e.1 es refl d.0 h (gone id es d.1)

-- ---- no id waits twice

all_waiting_if : (P : ℕ → Type 0) (k : ℕ) (o : Option ℕ) (others : List (ℕ × ℕ)) → P k → AllByRecursion P (keys_of others) → AllByRecursion P (keys_of (with_entry k o others))
all_waiting_if P k None others h i = i
all_waiting_if P k (Some c) others h i = (h, i)

all_waiting : (P : ℕ → Type 0) (es : List (ℕ × Option ℕ)) → AllByRecursion P (keys_of es) → AllByRecursion P (keys_of (waiting es))
all_waiting P [] h = tt
all_waiting P (e ∷ es) h = all_waiting_if P e.0 e.1 (waiting es) h.0 (all_waiting P es h.1)

once_if : (k : ℕ) (o : Option ℕ) (others : List (ℕ × ℕ)) → AllByRecursion (λ y. nat_eq k y ≡ false) (keys_of others) → IsEachOnce others → IsEachOnce (with_entry k o others)
unfolding IsDistinct
once_if k None others h i = i
once_if k (Some c) others h i = (h, i)

pub once : (es : List (ℕ × Option ℕ)) → IsDistinct nat_eq (keys_of es) → IsEachOnce (waiting es)
unfolding IsDistinct
once [] d = tt
once (e ∷ es) d = once_if e.0 e.1 (waiting es) (all_waiting (λ y. nat_eq e.0 y ≡ false) es d.0) (once es d.1)

-- ---- adding an id

added_if : (k : ℕ) (o : Option ℕ) (others more : List (ℕ × ℕ)) → with_entry k o (others ++ more) ≡ with_entry k o others ++ more
added_if k None others more = refl
added_if k (Some c) others more = refl

-- an id that is put behind the entries waits behind the others
pub added : (id call : ℕ) (es : List (ℕ × Option ℕ)) → waiting (es ++ (id, Some call) ∷ []) ≡ waiting es ++ (id, call) ∷ []
added id call [] = refl
added id call (e ∷ es) = ap (with_entry e.0 e.1) (added id call es) ∙ added_if e.0 e.1 (waiting es) ((id, call) ∷ [])

-- no place before moves
pub gone_more : (n : ℕ) (es more : List (ℕ × Option ℕ)) → AreGone n es → AreGone n (es ++ more)
gone_more zero es more h = tt
gone_more (suc n) [] more h = absurd (h)
gone_more (suc n) (e ∷ es) more h = (h.0, gone_more n es more h.1)

few_if : (k : ℕ) (o : Option ℕ) (others : List (ℕ × ℕ)) (n : ℕ) → length others ≤ n → length (with_entry k o others) ≤ suc n
few_if k None others n h = omega (arith, h)
few_if k (Some c) others n h = omega (arith, h)

-- at most as many ids wait as there are entries
pub few : (es : List (ℕ × Option ℕ)) → length (waiting es) ≤ length es
few [] = omega arith
few (e ∷ es) = few_if e.0 e.1 (waiting es) (length es) (few es)

-- where the count is 0, no id waits
pub none_live : (xs : List (ℕ × ℕ)) → 0 ≡ length xs → xs ≡ []
none_live [] h = refl
none_live (x ∷ xs) h = absurd (omega (arith, h))

-- ---- taking an id out

removed_if : (b : Bool) (id k call : ℕ) (o : Option ℕ) (es put : List (ℕ × Option ℕ)) → nat_eq id k ≡ b → cond b (Some o) (lookup (nat_eq id) es) ≡ Some (Some call)
    → (lookup (nat_eq id) es ≡ Some (Some call) → waiting put ≡ without id (waiting es)) → waiting (cond b ((k, None) ∷ es) ((k, o) ∷ put)) ≡ without id (with_entry k o (waiting es))
removed_if true id k call None es put e h i = absurd (cc)
removed_if true id k call (Some c) es put e h i = ap (λ b. cond b (waiting es) ((k, c) ∷ without id (waiting es))) (sym e)
removed_if false id k call None es put e h i = i h
removed_if false id k call (Some c) es put e h i = ap (λ xs. (k, c) ∷ xs) (i h) ∙ ap (λ b. cond b (waiting es) ((k, c) ∷ without id (waiting es))) (sym e)

-- an id that loses its call is taken out
pub removed : (id call : ℕ) (es : List (ℕ × Option ℕ)) → lookup (nat_eq id) es ≡ Some (Some call) → waiting (insert_entry nat_eq es id None) ≡ without id (waiting es)
removed id call [] h = absurd (cc)
removed id call (e ∷ es) h = removed_if (nat_eq id e.0) id e.0 call e.1 es (insert_entry nat_eq es id None) refl h (removed id call es)

gone_put_if : (b : Bool) (n k : ℕ) (o : Option ℕ) (es put : List (ℕ × Option ℕ)) → o ≡ None → AreGone n es → AreGone n put → AreGone (suc n) (cond b ((k, None) ∷ es) ((k, o) ∷ put))
gone_put_if true n k o es put e h i = (refl, h)
gone_put_if false n k o es put e h i = (e, i)

-- and no id before the place waits then
pub gone_put : (id n : ℕ) (es : List (ℕ × Option ℕ)) → AreGone n es → AreGone n (insert_entry nat_eq es id None)
gone_put id zero es h = tt
gone_put id (suc n) [] h = absurd (h)
gone_put id (suc n) (e ∷ es) h = gone_put_if (nat_eq id e.0) n e.0 e.1 es (insert_entry nat_eq es id None) h.0 h.1 (gone_put id n es h.1)

shorter_if : (b : Bool) (call : ℕ) (e : ℕ × ℕ) (xs rest : List (ℕ × ℕ)) (r : Option ℕ) → cond b (Some e.1) r ≡ Some call → (r ≡ Some call → length rest + 1 ≡ length xs)
    → length (cond b xs (e ∷ rest)) + 1 ≡ suc (length xs)
shorter_if true call e xs rest r h i = omega arith
shorter_if false call e xs rest r h i = let j : length rest + 1 ≡ length xs = i h in omega (arith, j)

-- one id fewer waits
pub shorter : (id call : ℕ) (xs : List (ℕ × ℕ)) → call_of id xs ≡ Some call → length (without id xs) + 1 ≡ length xs
shorter id call [] h = absurd (cc)
shorter id call (x ∷ xs) h = shorter_if (nat_eq id x.0) call x xs (without id xs) (call_of id xs) h (shorter id call xs)

unchanged_if : (b : Bool) (e : ℕ × ℕ) (xs rest : List (ℕ × ℕ)) (r : Option ℕ) → cond b (Some e.1) r ≡ None → (r ≡ None → xs ≡ rest) → e ∷ xs ≡ cond b xs (e ∷ rest)
unchanged_if true e xs rest r h i = absurd (cc)
unchanged_if false e xs rest r h i = ap (λ ys. e ∷ ys) (i h)

-- where an id doesn't wait, the others are all
pub unchanged : (id : ℕ) (xs : List (ℕ × ℕ)) → call_of id xs ≡ None → xs ≡ without id xs
unchanged id [] h = refl
unchanged id (x ∷ xs) h = unchanged_if (nat_eq id x.0) x xs (without id xs) (call_of id xs) h (unchanged id xs)

-- an id that was taken out doesn't wait any more
pub taken : (id : ℕ) (xs : List (ℕ × ℕ)) → IsEachOnce xs → is_outstanding id (without id xs) ≡ false
taken id xs d =
    ap is_some (lookup-remove_entry nat_eq_equiv (nat_eq id) (nat_eq_equiv.congr id) id xs d ∙ ap (λ b. cond b None (call_of id xs)) (eq-eqb id id refl))

-- ---- the first id

-- one more entry is gone
pub gone_next : (n k : ℕ) (es : List (ℕ × Option ℕ)) → AreGone n es → slice_get es n ≡ Some (k, None) → AreGone (suc n) es
gone_next n k [] h e = absurd (cc)
gone_next zero k (e ∷ es) h s = let o : e.1 ≡ None = cc in (o, tt)
gone_next (suc n) k (e ∷ es) h s = (h.0, gone_next n k es h.1 s)

-- no id waits where none waits up to the end
pub none_waits : (n : ℕ) (es : List (ℕ × Option ℕ)) → AreGone n es → slice_get es n ≡ None → waiting es ≡ []
none_waits n [] h s = refl
none_waits zero (e ∷ es) h s = absurd (cc)
none_waits (suc n) (e ∷ es) h s = ap (λ o. with_entry e.0 o (waiting es)) h.0 ∙ none_waits n es h.1 s

-- the first entry with a call is the first id that waits
pub first_waits : (n k call : ℕ) (es : List (ℕ × Option ℕ)) → AreGone n es → slice_get es n ≡ Some (k, Some call) → first (waiting es) ≡ Some (k, call)
first_waits n k call [] h s = absurd (cc)
first_waits zero k call (e ∷ es) h s = let i : e.0 ≡ k = cc in let o : e.1 ≡ Some call = cc in ap (λ o. first (with_entry e.0 o (waiting es))) o ∙ ap (λ i. Some (i, call)) i
first_waits (suc n) k call (e ∷ es) h s = ap (λ o. first (with_entry e.0 o (waiting es))) h.0 ∙ first_waits n k call es h.1 s

-- the first id and its call
pub first_is : (id : ℕ) (xs : List (ℕ × ℕ)) → Some id ≡ option_map (λ e. e.0) (first xs) → first xs ≡ option_map (λ call. (id, call)) (call_of id xs)
first_is id [] h = absurd (cc)
first_is id (x ∷ xs) h =
    let s : id ≡ x.0 = cc in ap (λ i. Some (i, x.1)) (sym s) ∙ ap (λ b. option_map (λ call. (id, call)) (cond b (Some x.1) (call_of id xs))) (sym (eq-eqb id x.0 s))

-- where it is taken out, the rest is left
pub first_out : (id : ℕ) (xs : List (ℕ × ℕ)) → Some id ≡ option_map (λ e. e.0) (first xs) → without id xs ≡ drop 1 xs
first_out id [] h = absurd (cc)
first_out id (x ∷ xs) h = let s : id ≡ x.0 = cc in ap (λ b. cond b xs (x ∷ without id xs)) (eq-eqb id x.0 s)

-- ---- forgetting the ids that don't wait

same_if : (k : ℕ) (o : Option ℕ) (es : List (ℕ × Option ℕ)) → waiting (cond (is_some o) ((k, o) ∷ es) es) ≡ with_entry k o (waiting es)
same_if k None es = refl
same_if k (Some c) es = refl

-- the same ids wait
pub same : (es : List (ℕ × Option ℕ)) → waiting (filter waits es) ≡ waiting es
same [] = refl
same (e ∷ es) = same_if e.0 e.1 (filter waits es) ∙ ap (with_entry e.0 e.1) (same es)

absent_if : (b : Bool) (id k : ℕ) (o : Option ℕ) (es : List (ℕ × Option ℕ)) (others : List (ℕ × ℕ)) → nat_eq id k ≡ b → call_of id (with_entry k o others) ≡ None
    → (call_of id others ≡ None → lookup (nat_eq id) es ≡ None)
    → lookup (nat_eq id) (cond (is_some o) ((k, o) ∷ es) es) ≡ None
absent_if b id k None es others e h i = i h
absent_if true id k (Some c) es others e h i = let f : Some c ≡ None = ap (λ b. cond b (Some c) (call_of id others)) (sym e) ∙ h in absurd (cc)
absent_if false id k (Some c) es others e h i =
    ap (λ b. cond b (Some (Some c)) (lookup (nat_eq id) es)) e ∙ i (ap (λ b. cond b (Some c) (call_of id others)) (sym e) ∙ h)

-- an id that doesn't wait stands nowhere then
pub absent : (id : ℕ) (es : List (ℕ × Option ℕ)) → call_of id (waiting es) ≡ None → lookup (nat_eq id) (filter waits es) ≡ None
absent id [] h = refl
absent id (e ∷ es) h = absent_if (nat_eq id e.0) id e.0 e.1 (filter waits es) (waiting es) refl h (absent id es)

all_wait_if : (k : ℕ) (o : Option ℕ) (es : List (ℕ × Option ℕ)) (others : List (ℕ × ℕ)) → length es ≡ length others → length (cond (is_some o) ((k, o) ∷ es) es) ≡ length (with_entry k o others)
all_wait_if k None es others h = h
all_wait_if k (Some c) es others h = ap suc h

-- there are as many entries as ids that wait
pub all_wait : (es : List (ℕ × Option ℕ)) → length (filter waits es) ≡ length (waiting es)
all_wait [] = refl
all_wait (e ∷ es) = all_wait_if e.0 e.1 (filter waits es) (waiting es) (all_wait es)

-- forgetting leaves no more entries
pub fewer_left : (es : List (ℕ × Option ℕ)) → length (filter waits es) ≤ length es
fewer_left es = let a = all_wait es in let f = few es in omega (arith, a, f)

-- ---- taking the call of an entry at its place

-- it is as an entry without a call put over it
put_at : (id i : ℕ) (es : List (ℕ × Option ℕ)) → position (nat_eq id) (keys_of es) ≡ Some i → insert_entry nat_eq es id None ≡ set_value_at es i None
put_at id i es p = insert_entry-first nat_eq id None es i (Found-position (nat_eq id) es i p).first

put_same_if : (b : Bool) (e : ℕ × Option ℕ) (es put : List (ℕ × Option ℕ)) (r : Option (Option ℕ)) → cond b (Some e.1) r ≡ Some None → (r ≡ Some None → put ≡ es)
    → cond b ((e.0, None) ∷ es) (e ∷ put) ≡ e ∷ es
put_same_if true e es put r h i = let none : None ≡ e.1 = cc in ap (λ o. (e.0, o) ∷ es) none
put_same_if false e es put r h i = ap (λ xs. e ∷ xs) (i h)

put_same : (id : ℕ) (es : List (ℕ × Option ℕ)) → lookup (nat_eq id) es ≡ Some None → insert_entry nat_eq es id None ≡ es
put_same id [] h = absurd (cc)
put_same id (e ∷ es) h = put_same_if (nat_eq id e.0) e es (insert_entry nat_eq es id None) (lookup (nat_eq id) es) h (put_same id es)

-- What the entry had is the call of its id.
pub had : (id : ℕ) (es : List (ℕ × Option ℕ)) (r : Option ℕ) → IsDistinct nat_eq (keys_of es) → lookup (nat_eq id) es ≡ Some r → r ≡ call_of id (waiting es)
had id es None d h = sym (gone id es d h)
had id es (Some call) d h = sym (found id call es h)

pub same_at : (id i : ℕ) (es : List (ℕ × Option ℕ)) → position (nat_eq id) (keys_of es) ≡ Some i → lookup (nat_eq id) es ≡ Some None → set_value_at es i None ≡ es
same_at id i es p h = sym (put_at id i es p) ∙ put_same id es h

pub removed_at : (id i call : ℕ) (es : List (ℕ × Option ℕ)) → position (nat_eq id) (keys_of es) ≡ Some i → lookup (nat_eq id) es ≡ Some (Some call)
    → waiting (set_value_at es i None) ≡ without id (waiting es)
removed_at id i call es p h = ap waiting (sym (put_at id i es p)) ∙ removed id call es h

pub gone_at : (id i n : ℕ) (es : List (ℕ × Option ℕ)) → position (nat_eq id) (keys_of es) ≡ Some i → AreGone n es → AreGone n (set_value_at es i None)
gone_at id i n es p h = subst (AreGone n) (put_at id i es p) (gone_put id n es h)

-- What holds where there is none, and where there is one.
pub if_none : {A P : Type 0} (r : Option A) → (r ≡ None → P) → IfNone r P
if_none None h = h refl
if_none (Some x) h = tt

pub if_some : {A : Type 0} (P : A → Type 0) (r : Option A) → ((x : A) → r ≡ Some x → P x) → IfSome r P
if_some P None h = tt
if_some P (Some x) h = h x refl

pub of_ok : {A E P : Type 0} (r : Result A E) (x : A) → r ≡ Ok x → OnOk r P → P
of_ok (Ok y) x is h = h
of_ok (Err e) x is h = absurd (cc)

-- ---- an entry that is written over and put back

back_if : (b : Bool) (id : ℕ) (x old : Option ℕ) (e : ℕ × Option ℕ) (es put : List (ℕ × Option ℕ)) → nat_eq id e.0 ≡ b → cond b (Some e.1) (lookup (nat_eq id) es) ≡ Some old
    → (lookup (nat_eq id) es ≡ Some old → insert_entry nat_eq put id old ≡ es)
    → insert_entry nat_eq (cond b ((e.0, x) ∷ es) (e ∷ put)) id old ≡ e ∷ es
back_if true id x old e es put is h i =
    let same : old ≡ e.1 = cc in
    ap (λ b. cond b ((e.0, old) ∷ es) ((e.0, x) ∷ insert_entry nat_eq es id old)) is ∙ ap (λ o. (e.0, o) ∷ es) same
back_if false id x old e es put is h i = ap (λ b. cond b ((e.0, old) ∷ put) (e ∷ insert_entry nat_eq put id old)) is ∙ ap (λ xs. e ∷ xs) (i h)

pub put_back : (id : ℕ) (x old : Option ℕ) (es : List (ℕ × Option ℕ)) → lookup (nat_eq id) es ≡ Some old → insert_entry nat_eq (insert_entry nat_eq es id x) id old ≡ es
put_back id x old [] h = absurd (cc)
put_back id x old (e ∷ es) h = back_if (nat_eq id e.0) id x old e es (insert_entry nat_eq es id x) refl h (put_back id x old es)
