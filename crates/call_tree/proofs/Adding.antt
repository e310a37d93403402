-- One more sub behind those of a parallel node.
use Rattle.std.proofs.Common.{◌≡◌, ℕ, suc, ◌+◌, List, [], ◌∷◌, ◌++◌, length, get_or, set, Option, Some, None, arith, refl, ap, sym, ◌∙◌, subst}
use Rattle.rpc_model.specs.declared.event.End.{End}
use Rattle.rpc_model.specs.declared.event.End.TheVariants.{Good, Bad}
use Rattle.rpc_model.specs.Kinds.{Kinds}
use Rattle.rpc_model.specs.Parallel.{count_good, count_bad, goods, bads, judged}
use Rattle.rpc_model.specs.State.{State, end_of, ends_of, size, size_of}
use Rattle.rpc_model.specs.Machine.{where_ended}
use Rattle.call_tree.specs.declared.counts.Counts.{Counts}
use Rattle.call_tree.specs.declared.nodes.ParNode.{ParNode}
use Rattle.call_tree.specs.Counts.{limits_of, IsOpen, AreCounts, with_end}
use Rattle.call_tree.specs.Places.{firsts}
use Rattle.call_tree.specs.Shown.{states_of, IsParNode}
use Rattle.call_tree.specs.Starting.{end_with}

goods-push : (es : List (Option End)) (o : Option End) → goods (es ++ o ∷ []) ≡ count_good o (goods es)
goods-push [] o = refl
goods-push (x ∷ es) o = ap (count_good x) (goods-push es o) ∙ swap x o (goods es)
  where
    swap : (x y : Option End) (n : ℕ) → count_good x (count_good y n) ≡ count_good y (count_good x n)
    swap None y n = refl
    swap (Some (Bad code)) y n = refl
    swap (Some (Good text)) None n = refl
    swap (Some (Good text)) (Some (Good t)) n = refl
    swap (Some (Good text)) (Some (Bad c)) n = refl

bads-push : (es : List (Option End)) (o : Option End) → bads (es ++ o ∷ []) ≡ count_bad o (bads es)
bads-push [] o = refl
bads-push (x ∷ es) o = ap (count_bad x) (bads-push es o) ∙ swap x o (bads es)
  where
    swap : (x y : Option End) (n : ℕ) → count_bad x (count_bad y n) ≡ count_bad y (count_bad x n)
    swap None y n = refl
    swap (Some (Good text)) y n = refl
    swap (Some (Bad code)) None n = refl
    swap (Some (Bad code)) (Some (Good t)) n = refl
    swap (Some (Bad code)) (Some (Bad c)) n = refl

last-set : {X : Type 0} (xs : List X) (x y : X) → set (xs ++ x ∷ []) (length xs) y ≡ xs ++ y ∷ []
last-set [] x y = refl
last-set (z ∷ xs) x y = ap (λ ys. z ∷ ys) (last-set xs x y)

pub last-get : {X : Type 0} (xs : List X) (x d : X) → get_or (xs ++ x ∷ []) (length xs) d ≡ x
last-get [] x d = refl
last-get (z ∷ xs) x d = last-get xs x d

ends-length : {M G : Type 0} (ss : List (State M G)) → length (ends_of (states_of ss)) ≡ length ss
ends-length [] = refl
ends-length (s ∷ ss) = ap suc (ends-length ss)

-- the counts with a sub that has an end
good-with : (c : Counts) (end : End) → (with_end c end).goods ≡ count_good (Some end) c.goods
good-with c (Good text) = refl
good-with c (Bad code) = refl

bad-with : (c : Counts) (end : End) → (with_end c end).bads ≡ count_bad (Some end) c.bads
bad-with c (Good text) = refl
bad-with c (Bad code) = refl

limits-with : (c : Counts) (end : End) → limits_of (with_end c end) ≡ limits_of c
limits-with c (Good text) = refl
limits-with c (Bad code) = refl

module _ {M G : Type 0} where
  -- what was pushed last is found at its place
  pub pushed-is : (kids ss : List (State M G)) (s item : State M G) (at : ℕ) → kids ≡ ss ++ s ∷ [] → at ≡ length ss → item ≡ get_or kids at item → item ≡ s
  pushed-is kids ss s item at ks is found = found ∙ ap (λ xs. get_or xs at item) ks ∙ ap (λ n. get_or (ss ++ s ∷ []) n item) is ∙ last-get ss s item

  pub ends-push : (ss : List (State M G)) (s : State M G) → ends_of (states_of (ss ++ s ∷ [])) ≡ ends_of (states_of ss) ++ end_of s ∷ []
  ends-push [] s = refl
  ends-push (x ∷ ss) s = ap (λ es. end_of x ∷ es) (ends-push ss s)

  firsts-push : (at : ℕ) (ss : List (State M G)) (s : State M G) → firsts at (states_of (ss ++ s ∷ [])) ≡ firsts at (states_of ss) ++ (at + size_of (states_of ss)) ∷ []
  firsts-push at [] s = let same : at ≡ at + 0 = omega arith in ap (λ n. n ∷ []) same
  firsts-push at (x ∷ ss) s =
      let same : at + size x + size_of (states_of ss) ≡ at + (size x + size_of (states_of ss)) = omega arith in ap (λ ns. at ∷ ns)
      (firsts-push (at + size x) ss s ∙ ap (λ n. firsts (at + size x) (states_of ss) ++ n ∷ []) same)

  pub places-push : (ss : List (State M G)) (s : State M G) (fs : List ℕ) (place : ℕ) → fs ≡ firsts 1 (states_of ss) → place ≡ 1 + size_of (states_of ss)
      → fs ++ place ∷ [] ≡ firsts 1 (states_of (ss ++ s ∷ []))
  places-push ss s fs place are at = ap (λ xs. xs ++ place ∷ []) are ∙ ap (λ n. firsts 1 (states_of ss) ++ n ∷ []) at ∙ sym (firsts-push 1 ss s)

  -- a sub without an end
  pub added-open : (p now : ParNode M G) (s : State M G) (place : ℕ) → IsParNode p → now.counts ≡ p.counts → now.end ≡ p.end → now.firsts.items ≡ p.firsts.items ++ place ∷ []
      → now.kids.items ≡ p.kids.items ++ s ∷ [] → place ≡ 1 + size_of (states_of p.kids.items) → end_of s ≡ None
      → IsParNode now
  added-open p now s place sound counts end fs ks at none =
      let ends : ends_of (states_of now.kids.items) ≡ ends_of (states_of p.kids.items) ++ None ∷ [] =
      ap (λ ss. ends_of (states_of ss)) ks ∙ ends-push p.kids.items s ∙ ap (λ o. ends_of (states_of p.kids.items) ++ o ∷ []) none in
      record {
        open_ = subst (λ o. IsOpen now.counts o) (sym end) (subst (λ c. IsOpen c p.end) (sym counts) sound.open_);
        goods = ap (λ c. c.goods) counts ∙ sound.goods ∙ sym (ap goods ends ∙ goods-push (ends_of (states_of p.kids.items)) None);
        bads = ap (λ c. c.bads) counts ∙ sound.bads ∙ sym (ap bads ends ∙ bads-push (ends_of (states_of p.kids.items)) None);
        places = fs ∙ places-push p.kids.items s p.firsts.items place sound.places at ∙ ap (λ ss. firsts 1 (states_of ss)) (sym ks);
      }

  ends-now : (kids ss : List (State M G)) (s : State M G) (at : ℕ) (end : End) → kids ≡ ss ++ s ∷ [] → at ≡ length ss → end_of s ≡ Some end
      → set (ends_of (states_of kids)) at (Some end) ≡ ends_of (states_of ss) ++ Some end ∷ []
  ends-now kids ss s at end ks is some =
      ap (λ xs. set (ends_of (states_of xs)) at (Some end)) ks
      ∙ ap (λ es. set es at (Some end)) (ends-push ss s)
      ∙ ap (λ n. set (ends_of (states_of ss) ++ end_of s ∷ []) n (Some end)) (is ∙ sym (ends-length ss))
      ∙ last-set (ends_of (states_of ss)) (end_of s) (Some end)

  pub counts-now : (p : ParNode M G) (kids : List (State M G)) (s : State M G) (at : ℕ) (end : End) (c : Counts) → IsParNode p → kids ≡ p.kids.items ++ s ∷ [] → at ≡ length p.kids.items
      → end_of s ≡ Some end → c ≡ with_end p.counts end
      → AreCounts c (set (ends_of (states_of kids)) at (Some end))
  counts-now p kids s at end c sound ks is some counts =
      let ends = ends-now kids p.kids.items s at end ks is some in
      record {
        goods_are = ap (λ x. x.goods) counts ∙ good-with p.counts end ∙ ap (count_good (Some end)) sound.goods ∙ sym (ap goods ends ∙ goods-push (ends_of (states_of p.kids.items)) (Some end));
        bads_are = ap (λ x. x.bads) counts ∙ bad-with p.counts end ∙ ap (count_bad (Some end)) sound.bads ∙ sym (ap bads ends ∙ bads-push (ends_of (states_of p.kids.items)) (Some end));
      }

  pub added-ended : (p now : ParNode M G) (s : State M G) (place : ℕ) (end : End) → IsParNode p → now.counts ≡ with_end p.counts end → IsOpen now.counts now.end
      → now.firsts.items ≡ p.firsts.items ++ place ∷ [] → now.kids.items ≡ p.kids.items ++ s ∷ []
      → place ≡ 1 + size_of (states_of p.kids.items) → end_of s ≡ Some end → IsParNode now
  added-ended p now s place end sound counts open_ fs ks at some =
      let ends : ends_of (states_of now.kids.items) ≡ ends_of (states_of p.kids.items) ++ Some end ∷ [] =
      ap (λ ss. ends_of (states_of ss)) ks ∙ ends-push p.kids.items s ∙ ap (λ o. ends_of (states_of p.kids.items) ++ o ∷ []) some in
      record {
        open_ = open_;
        goods = ap (λ x. x.goods) counts ∙ good-with p.counts end ∙ ap (count_good (Some end)) sound.goods ∙ sym (ap goods ends ∙ goods-push (ends_of (states_of p.kids.items)) (Some end));
        bads = ap (λ x. x.bads) counts ∙ bad-with p.counts end ∙ ap (count_bad (Some end)) sound.bads ∙ sym (ap bads ends ∙ bads-push (ends_of (states_of p.kids.items)) (Some end));
        places = fs ∙ places-push p.kids.items s p.firsts.items place sound.places at ∙ ap (λ ss. firsts 1 (states_of ss)) (sym ks);
      }

  pub end-now : (kinds : Kinds M G) (p : ParNode M G) (kids : List (State M G)) (s : State M G) (at : ℕ) (end : End) (c : Counts) (merges : List G) (over : Option End) → p.end ≡ None
      → kids ≡ p.kids.items ++ s ∷ [] → at ≡ length p.kids.items → end_of s ≡ Some end → c ≡ with_end p.counts end → merges ≡ p.merges
      → over ≡ judged kinds (limits_of c) merges (set (ends_of (states_of kids)) at (Some end))
      → over ≡ end_with kinds p.end (limits_of p.counts) p.merges (ends_of (states_of p.kids.items)) (end_of s)
  end-now kinds p kids s at end c merges over none ks is some counts same judgement =
      judgement
      ∙ ap (λ es. judged kinds (limits_of c) merges es) (ends-now kids p.kids.items s at end ks is some)
      ∙ ap (λ l. judged kinds l merges (ends_of (states_of p.kids.items) ++ Some end ∷ [])) (ap limits_of counts ∙ limits-with p.counts end)
      ∙ ap (λ ms. judged kinds (limits_of p.counts) ms (ends_of (states_of p.kids.items) ++ Some end ∷ [])) same
      ∙ sym (ap (λ o. end_with kinds o (limits_of p.counts) p.merges (ends_of (states_of p.kids.items)) (end_of s)) none
      ∙ ap (λ o. where_ended o (judged kinds (limits_of p.counts) p.merges (ends_of (states_of p.kids.items) ++ o ∷ []))) some)
