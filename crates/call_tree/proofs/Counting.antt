-- The counts of a parallel node, where a sub without an end gets one.
use Rattle.std.proofs.Common.{◌≡◌, ℕ, zero, suc, ◌+◌, ◌<◌, Bool, true, false, cond, nat_le, ◌||◌, List, [], ◌∷◌, length, get_or, set, Option, Some, None, arith, refl, ap, sym, ◌∙◌}
use Rattle.std.proofs.lemmas.Bool.Decides.{nat_tests}
use Rattle.rpc_model.specs.declared.codes.TheConstants.{ETOOMANYFAILS}
use Rattle.rpc_model.specs.declared.event.End.{End}
use Rattle.rpc_model.specs.declared.event.End.TheVariants.{Good, Bad}
use Rattle.rpc_model.specs.Kinds.{Kinds}
use Rattle.rpc_model.specs.Parallel.{count_good, count_bad, goods, bads, judged, fold_parts, parts_of}
use Rattle.call_tree.specs.declared.counts.Counts.{Counts}
use Rattle.call_tree.specs.Counts.{limits_of, IsOpen, AreCounts, with_end, with_some}

good-swap : (x : Option End) (e : End) (n : ℕ) → count_good x (count_good (Some e) n) ≡ count_good (Some e) (count_good x n)
good-swap None e n = refl
good-swap (Some (Good text)) (Good t) n = refl
good-swap (Some (Good text)) (Bad c) n = refl
good-swap (Some (Bad code)) e n = refl

bad-swap : (x : Option End) (e : End) (n : ℕ) → count_bad x (count_bad (Some e) n) ≡ count_bad (Some e) (count_bad x n)
bad-swap None e n = refl
bad-swap (Some (Bad code)) (Good t) n = refl
bad-swap (Some (Bad code)) (Bad c) n = refl
bad-swap (Some (Good text)) e n = refl

goods-set : (es : List (Option End)) (i : ℕ) (e : End) → i < length es → get_or es i None ≡ None → goods (set es i (Some e)) ≡ count_good (Some e) (goods es)
goods-set [] i e h none = absurd (omega (arith, h))
goods-set (x ∷ es) zero e h none = ap (λ o. count_good (Some e) (count_good o (goods es))) (sym none)
goods-set (x ∷ es) (suc i) e h none = ap (count_good x) (goods-set es i e (omega (arith, h)) none) ∙ good-swap x e (goods es)

bads-set : (es : List (Option End)) (i : ℕ) (e : End) → i < length es → get_or es i None ≡ None → bads (set es i (Some e)) ≡ count_bad (Some e) (bads es)
bads-set [] i e h none = absurd (omega (arith, h))
bads-set (x ∷ es) zero e h none = ap (λ o. count_bad (Some e) (count_bad o (bads es))) (sym none)
bads-set (x ∷ es) (suc i) e h none = ap (count_bad x) (bads-set es i e (omega (arith, h)) none) ∙ bad-swap x e (bads es)

-- the counts with one more end are those of the ends
pub counted : (es : List (Option End)) (i : ℕ) (e : End) (c : Counts) → i < length es → get_or es i None ≡ None → AreCounts c es → AreCounts (with_end c e) (set es i (Some e))
counted es i (Good text) c h none a = record { goods_are = ap (λ n. n + 1) a.goods_are ∙ sym (goods-set es i (Good text) h none); bads_are = a.bads_are ∙ sym (bads-set es i (Good text) h none) }
counted es i (Bad code) c h none a = record { goods_are = a.goods_are ∙ sym (goods-set es i (Bad code) h none); bads_are = ap (λ n. n + 1) a.bads_are ∙ sym (bads-set es i (Bad code) h none) }

pub limits-with : (c : Counts) (e : End) → limits_of (with_end c e) ≡ limits_of c
limits-with c (Good text) = refl
limits-with c (Bad code) = refl

pub limits-some : (c : Counts) (o : Option End) → limits_of (with_some c o) ≡ limits_of c
limits-some c None = refl
limits-some c (Some e) = limits-with c e

neither : (a b : Bool) → (a || b) ≡ false → (a ≡ false) × (b ≡ false)
neither true b h = absurd (cc)
neither false b h = (refl, h)

-- a node that is judged without an end has counts below its limits
pub judged-open : {M G : Type 0} (kinds : Kinds M G) (c : Counts) (merges : List G) (es : List (Option End)) → AreCounts c es → IsOpen c (judged kinds (limits_of c) merges es)
judged-open kinds c merges es a = by (nat_le c.fail (bads es)) refl (nat_le c.ok (goods es) || nat_le c.count (goods es + bads es)) refl
  where
    by : (v : Bool) → nat_le c.fail (bads es) ≡ v → (w : Bool) → (nat_le c.ok (goods es) || nat_le c.count (goods es + bads es)) ≡ w
        → IsOpen c (cond v (Some (Bad ETOOMANYFAILS)) (cond w (Some (fold_parts kinds.merge (parts_of merges es) (bads es) c.fail)) None))
    by true e w f = tt
    by false e true f = tt
    by false e false f =
        let g = a.goods_are in
        let b = a.bads_are in
        let n = neither (nat_le c.ok (goods es)) (nat_le c.count (goods es + bads es)) f in
        let fail : bads es < c.fail = grind (arith, nat_tests) in
        let ok : goods es < c.ok = (let n0 = n.0 in grind (arith, nat_tests)) in
        let all : goods es + bads es < c.count = (let n1 = n.1 in grind (arith, nat_tests)) in
        (omega (arith, fail, b), omega (arith, ok, g), omega (arith, all, g, b))
