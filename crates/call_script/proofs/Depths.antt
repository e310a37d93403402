-- The depths beside the channels, after one more.
use Rattle.std.proofs.Common.{◌≡◌, ℕ, zero, suc, ◌<◌, ◌≤◌, Bool, true, false, nat_lt, List, [], ◌∷◌, ◌++◌, length, take, length-append, Some, None, arith, refl, ap, sym, ◌∙◌, slice_get, get_or}
use Rattle.std.proofs.lemmas.Bool.Decides.{nat_tests}
use Rattle.rpc_model.specs.declared.chan.Chan.{Chan}
use Rattle.rpc_model.specs.declared.kinds.MapKind.{MapKind}
use Rattle.rpc_model.specs.declared.kinds.MergeKind.{MergeKind}
use Rattle.rpc_model.specs.Faults.{chan_depth, depth}
use Rattle.chan_tree.specs.Sound.{AreSound, IsSound}
use Rattle.chan_tree.proofs.Grown.{found-before, same-depth, last-depth, sound-push}
use Rattle.call_script.specs.Depths.{AreDepths}

found-none : {X : Type 0} (xs : List X) (i : ℕ) → length xs ≤ i → slice_get xs i ≡ None
found-none [] i h = refl
found-none (x ∷ xs) zero h = absurd (omega (arith, h))
found-none (x ∷ xs) (suc i) h = found-none xs i (omega (arith, h))

-- There is no channel, and so no depth.
pub no_depth : (chans : List (Chan MapKind MergeKind)) (n : ℕ) → length chans ≤ n → 0 ≡ depth chans n
no_depth chans n h = rw (found-none chans n h) refl

found-at : (xs : List ℕ) (i x : ℕ) → i < length xs → slice_get xs i ≡ Some (get_or xs i x)
found-at [] i x less = absurd (omega (arith, less))
found-at (y ∷ ys) zero x less = refl
found-at (y ∷ ys) (suc i) x less = found-at ys i x (omega (arith, less))

pub depth_there : (depths : List ℕ) (chans : List (Chan MapKind MergeKind)) (n d : ℕ) → AreDepths depths chans → n < length chans → d ≡ get_or depths n d → d ≡ depth chans n
depth_there depths chans n d are less is =
    let less_too : n < length depths = let e = are.enough in omega (arith, less, e) in
    let same : Some (get_or depths n d) ≡ Some (depth chans n) = sym (found-at depths n d less_too) ∙ are.right n less in
    is ∙ (let inner : get_or depths n d ≡ depth chans n = cc in inner)

found-taken : (xs : List ℕ) (count n : ℕ) → n < count → count ≤ length xs → slice_get (take count xs) n ≡ slice_get xs n
found-taken [] count n less le = absurd (omega (arith, less, le))
found-taken (x ∷ xs) zero n less le = absurd (omega (arith, less))
found-taken (x ∷ xs) (suc count) zero less le = refl
found-taken (x ∷ xs) (suc count) (suc n) less le = found-taken xs count n (omega (arith, less)) (omega (arith, le))

length-taken : (xs : List ℕ) (count : ℕ) → count ≤ length xs → length (take count xs) ≡ count
length-taken [] zero le = refl
length-taken [] (suc count) le = absurd (omega (arith, le))
length-taken (x ∷ xs) zero le = refl
length-taken (x ∷ xs) (suc count) le = ap suc (length-taken xs count (omega (arith, le)))

module _ (depths : List ℕ) (chans : List (Chan MapKind MergeKind)) (are : AreDepths depths chans) where
  -- Those that are too many are taken away.
  pub depths_taken : AreDepths (take (length chans) depths) chans
  depths_taken = record {
    enough = let l = length-taken depths (length chans) are.enough in omega (arith, l);
    right = λ n less. found-taken depths (length chans) n less are.enough ∙ are.right n less;
  }

  -- One more depth, without its channel.
  pub depth_ahead : (d : ℕ) → AreDepths (take (length chans) depths ++ d ∷ []) chans
  depth_ahead d = record {
    enough = let l = length-taken depths (length chans) are.enough in let m = length-append (take (length chans) depths) (d ∷ []) in omega (arith, l, m);
    right = λ n less.
        let l = length-taken depths (length chans) are.enough in
        found-before (take (length chans) depths) d n (omega (arith, l, less)) ∙ found-taken depths (length chans) n less are.enough ∙ are.right n less;
  }

  -- And with it.
  pub depth_more : (c : Chan MapKind MergeKind) (d : ℕ) → AreSound 0 chans → IsSound (length chans) c → d ≡ chan_depth (depth chans) (Some c)
      → AreDepths (take (length chans) depths ++ d ∷ []) (chans ++ c ∷ [])
  depth_more c d sound one is = record {
    enough = let l = length-taken depths (length chans) are.enough in let m = length-append (take (length chans) depths) (d ∷ []) in let k = length-append chans (c ∷ []) in omega (arith, l, m, k);
    right = λ n less. by n less (nat_lt n (length chans)) refl;
  }
    where
      last : (xs : List ℕ) (n : ℕ) → n ≡ length xs → slice_get (xs ++ d ∷ []) n ≡ Some d
      last [] zero e = refl
      last [] (suc n) e = absurd (omega (arith, e))
      last (x ∷ xs) zero e = absurd (omega (arith, e))
      last (x ∷ xs) (suc n) e = last xs n (omega (arith, e))

      by : (n : ℕ) → n < length (chans ++ c ∷ []) → (b : Bool) → nat_lt n (length chans) ≡ b → slice_get (take (length chans) depths ++ d ∷ []) n ≡ Some (depth (chans ++ c ∷ []) n)
      by n less true e =
          let before : n < length chans = grind (arith, nat_tests, e) in
          let l = length-taken depths (length chans) are.enough in
          found-before (take (length chans) depths) d n (omega (arith, l, before)) ∙ found-taken depths (length chans) n before are.enough
          ∙ are.right n before ∙ ap Some (sym (same-depth chans c sound n before))
      by n less false e =
          let past : length chans ≤ n = grind (arith, nat_tests, e) in
          let k = length-append chans (c ∷ []) in
          let at : n ≡ length chans = omega (arith, past, less, k) in
          let l = length-taken depths (length chans) are.enough in
          last (take (length chans) depths) n (omega (arith, at, l))
          ∙ ap Some (is ∙ sym (last-depth chans c sound (sound-push chans c sound one) one) ∙ ap (depth (chans ++ c ∷ [])) (sym at))
