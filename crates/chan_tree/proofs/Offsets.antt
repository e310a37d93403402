-- The versions of a range by the counts and the table of a plan.
use Rattle.std.proofs.Common.{◌≡◌, ℕ, zero, suc, ◌+◌, ◌-◌, ◌<◌, ◌≤◌, List, ◌++◌, position, slice_get, Some, arith, ap}
use Rattle.std.proofs.Common.{sym, ◌∙◌, subst}
use Rattle.std.specs.Option.{option_map}
use Rattle.rpc_model.specs.declared.meaning.Meaning.{Meaning}
use Rattle.rpc_model.specs.declared.meaning.Meaning.TheVariants.{Node, Attempt}
use Rattle.rpc_model.specs.Plan.{Plan}
use Rattle.rpc_model.specs.Versions.{nodes, possible_attempts, node_versions, attempt_versions, is_same, versions}
use Rattle.rpc_model.specs.Versions.{width, offset_of, meaning_of}
use Rattle.rpc_model.proofs.Versions.{position-cons, offset-meaning, width-is}
use Rattle.chan_tree.specs.Table.{entries, entry_at, place_in}
use Rattle.chan_tree.proofs.Tables.{one-past, none-past, attempt_place}

get-node : (first count : ℕ) (ys : List Meaning) (k : ℕ) → k < count
    → slice_get (node_versions first count ++ ys) k ≡ Some (Node (first + k))
get-node first zero ys k less = absurd (omega (arith, less))
get-node first (suc count) ys zero less = ap (λ n. Some (Node n)) (let same : first ≡ first + 0 = omega arith in same)
get-node first (suc count) ys (suc k) less = get-node (first + 1) count ys k (omega (arith, less))
    ∙ ap (λ n. Some (Node n)) (let same : first + 1 + k ≡ first + suc k = omega arith in same)

get-past : (first count : ℕ) (ys : List Meaning) (o : ℕ)
    → slice_get (node_versions first count ++ ys) (count + o) ≡ slice_get ys o
get-past first zero ys o = ap (slice_get ys) (let same : 0 + o ≡ o = omega arith in same)
get-past first (suc count) ys o =
    subst (λ i. slice_get (node_versions first (suc count) ++ ys) i ≡ slice_get ys o)
    (let same : suc (count + o) ≡ suc count + o = omega arith in same) (get-past (first + 1) count ys o)

position-past : (node attempt first count : ℕ) (ys : List Meaning)
    → position (is_same (Attempt node attempt)) (node_versions first count ++ ys) ≡ option_map (λ i. count + i)
    (position (is_same (Attempt node attempt)) ys)
position-past node attempt first zero ys = none-past (position (is_same (Attempt node attempt)) ys)
position-past node attempt first (suc count) ys =
    position-cons (is_same (Attempt node attempt)) (Node first) (node_versions (first + 1) count ++ ys)
    ∙ ap (option_map suc) (position-past node attempt (first + 1) count ys)
    ∙ one-past count (position (is_same (Attempt node attempt)) ys)

module _ {M G : Type 0} where
  pub node_meaning : (p : Plan M G) (n : ℕ) → n < nodes p → meaning_of p n ≡ Some (Node n)
  unfolding meaning_of versions
  node_meaning p n less = get-node 0 (nodes p) (attempt_versions 0 p) n less
      ∙ ap (λ k. Some (Node k)) (let same : 0 + n ≡ n = omega arith in same)

  pub node_offset : (p : Plan M G) (n : ℕ) → n < nodes p → offset_of p (Node n) ≡ Some n
  node_offset p n less = offset-meaning p (Node n) n (node_meaning p n less)

  pub attempt_meaning : (p : Plan M G) (o : ℕ) → nodes p ≤ o
      → meaning_of p o ≡ slice_get (attempt_versions 0 p) (o - nodes p)
  unfolding meaning_of versions
  attempt_meaning p o behind =
      let split : o ≡ nodes p + (o - nodes p) = omega (arith, behind) in
      subst
      (λ i. slice_get (node_versions 0 (nodes p) ++ attempt_versions 0 p) i ≡ slice_get (attempt_versions 0 p) (o - nodes p)) (sym split)
      (get-past 0 (nodes p) (attempt_versions 0 p) (o - nodes p))

  pub attempt_offset : (p : Plan M G) (node attempt : ℕ)
      → offset_of p (Attempt node attempt) ≡ option_map (λ i. nodes p + i)
      (place_in (entry_at (entries 0 p) node) attempt)
  unfolding offset_of versions
  attempt_offset p node attempt = position-past node attempt 0 (nodes p) (attempt_versions 0 p)
      ∙ ap (option_map (λ i. nodes p + i)) (attempt_place p node attempt)

  pub few_attempts : (p : Plan M G) → nodes p + possible_attempts p ≡ width p
  few_attempts p = sym (width-is p)
