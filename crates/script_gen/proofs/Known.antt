-- What the channels of the generated script are: their names, the plans of their calls, and the leaf that a reply names.
use Rattle.std.proofs.Common.{◌≡◌, ℕ, ◌+◌, ◌%◌, ◌≤◌, ◌⊎◌, inl, inr, Bool, true, false, cond, ◌==◌, List, [], ◌∷◌, ◌++◌, Some, None, Ok, refl, codes, arith, ap, sym, subst, ◌∙◌, eq-eqb, lit<, lit≤}
use Rattle.std.specs.Fmt.{decimal}
use Rattle.std.proofs.lemmas.Bool.{ne_eqb}
use Rattle.std.proofs.lemmas.Fmt.{decimal_digit}
use Rattle.rpc_model.specs.declared.chan.Chan.{Chan}
use Rattle.rpc_model.specs.declared.kinds.MapKind.{MapKind}
use Rattle.rpc_model.specs.declared.kinds.MergeKind.{MergeKind}
use Rattle.rpc_model.specs.declared.kinds.MapKind.TheVariants as map_kind
use Rattle.rpc_model.specs.declared.kinds.MergeKind.TheVariants as merge_kind
use Rattle.rpc_model.specs.Plan.{Plan, leaf_plan, par_plan, sel_plan, plan_then, last_plan, plan}
use Rattle.rpc_model.specs.Versions.{versions, width, offset_of, possible_attempts}
use Rattle.rpc_model.specs.Words.{is_name, known_name, attempt_word, number_or}
use Rattle.rpc_model.specs.CallLines.{is_narrow, has_attempt}
use Rattle.script_gen.specs.declared.draw.Channel.{Channel}
use Rattle.script_gen.specs.declared.draw.Channel.TheVariants.{X, Y, P, S}
use Rattle.script_gen.specs.Generator.{name_of, leaf_of}
use Rattle.script_gen.proofs.Words.{IsWord}
use Rattle.script_gen.proofs.Settings.{x_chan, y_chan, p_chan, s_chan}

abbrev pub Tree : Type 0
Tree = Plan MapKind MergeKind

abbrev pub names : List (List ℕ)
names = codes "x" ∷ codes "y" ∷ codes "p" ∷ codes "s" ∷ []

abbrev pub chans : List (Chan MapKind MergeKind)
chans = x_chan ∷ y_chan ∷ p_chan ∷ s_chan ∷ []

abbrev pub aim_word : Channel → ℕ → List ℕ
aim_word channel call = decimal (leaf_of channel call) ++ codes "#0"

-- What holds of a call on a channel.
pub record IsKnown (channel : Channel) (call : ℕ) : Type 0 where
  pub number : ℕ
  pub tree : Tree
  pub leaf : ℕ
  pub named : known_name names (name_of channel) ≡ Ok number
  pub planned : plan chans number call ≡ Some tree
  pub narrow : is_narrow (Some tree) ≡ true
  pub light : possible_attempts tree ≤ 11
  pub aimed : attempt_word (aim_word channel call) ≡ Ok (leaf, 0)
  pub live : has_attempt (Some tree) leaf 0 ≡ true
  pub name : IsWord (name_of channel)
  pub aim : IsWord (aim_word channel call)

abbrev x_tree : Tree
x_tree = leaf_plan (record { servers = 0 ∷ 1 ∷ 2 ∷ []; retry = 2; backup = Some 50; timeout = Some 400 })

abbrev y_tree : Tree
y_tree = leaf_plan (record { servers = 1 ∷ 2 ∷ []; retry = 1; backup = None; timeout = Some 300 })

abbrev p_tree : Tree
p_tree = par_plan (record { maps = map_kind.Index ∷ map_kind.Same ∷ map_kind.Split ∷ []; merges = merge_kind.Cat ∷ merge_kind.Cat ∷ merge_kind.Cat ∷ []; fail = 2; ok = 0; timeout = Some 600 })
    (plan_then x_tree (plan_then y_tree (plan_then x_tree last_plan)))

abbrev odd_tree : Tree
odd_tree = sel_plan None (plan_then x_tree (plan_then p_tree last_plan))

abbrev even_tree : Tree
even_tree = sel_plan None (plan_then p_tree (plan_then x_tree last_plan))

odd-planned : (call : ℕ) → (call + 0) % 2 ≡ 1 → (call + 1) % 2 ≡ 0 → plan chans 3 call ≡ Some odd_tree
odd-planned call e f = rw (e, f) refl

even-planned : (call : ℕ) → (call + 0) % 2 ≡ 0 → (call + 1) % 2 ≡ 1 → plan chans 3 call ≡ Some even_tree
even-planned call e f = rw (e, f) refl

-- the word of an attempt 0, by its leaf
abbrev aim_text : ℕ → List ℕ
aim_text leaf = decimal leaf ++ codes "#0"

zero_text : aim_text 0 ≡ codes "0#0"
zero_text = ap (λ (ds : List ℕ). ds ++ codes "#0") (decimal_digit 0 (lit< tt))

one_text : aim_text 1 ≡ codes "1#0"
one_text = ap (λ (ds : List ℕ). ds ++ codes "#0") (decimal_digit 1 (lit< tt))

two_text : aim_text 2 ≡ codes "2#0"
two_text = ap (λ (ds : List ℕ). ds ++ codes "#0") (decimal_digit 2 (lit< tt))

zero_word : IsWord (aim_text 0)
zero_word = subst (λ (w : List ℕ). IsWord w) (sym zero_text) (record { some = refl; bytes = refl; short = lit≤ tt })

one_word : IsWord (aim_text 1)
one_word = subst (λ (w : List ℕ). IsWord w) (sym one_text) (record { some = refl; bytes = refl; short = lit≤ tt })

two_word : IsWord (aim_text 2)
two_word = subst (λ (w : List ℕ). IsWord w) (sym two_text) (record { some = refl; bytes = refl; short = lit≤ tt })

zero_aim : attempt_word (aim_text 0) ≡ Ok (0, 0)
unfolding attempt_word number_or
zero_aim = rw zero_text refl

one_aim : attempt_word (aim_text 1) ≡ Ok (1, 0)
unfolding attempt_word number_or
one_aim = rw one_text refl

two_aim : attempt_word (aim_text 2) ≡ Ok (2, 0)
unfolding attempt_word number_or
two_aim = rw two_text refl

x-known : (call : ℕ) → IsKnown X call
unfolding known_name is_name versions width offset_of
x-known call = record {
  number = 0;
  tree = x_tree;
  leaf = 0;
  named = refl;
  planned = refl;
  narrow = refl;
  light = omega arith;
  aimed = zero_aim;
  live = refl;
  name = record { some = refl; bytes = refl; short = lit≤ tt };
  aim = zero_word;
}

y-known : (call : ℕ) → IsKnown Y call
unfolding known_name is_name versions width offset_of
y-known call = record {
  number = 1;
  tree = y_tree;
  leaf = 0;
  named = refl;
  planned = refl;
  narrow = refl;
  light = omega arith;
  aimed = zero_aim;
  live = refl;
  name = record { some = refl; bytes = refl; short = lit≤ tt };
  aim = zero_word;
}

p-known : (call : ℕ) → IsKnown P call
unfolding known_name is_name versions width offset_of
p-known call = record {
  number = 2;
  tree = p_tree;
  leaf = 1;
  named = refl;
  planned = refl;
  narrow = refl;
  light = omega arith;
  aimed = one_aim;
  live = refl;
  name = record { some = refl; bytes = refl; short = lit≤ tt };
  aim = one_word;
}

-- the leaf of a selective call, by the number's parity
odd-leaf : (call : ℕ) → (call % 2 == 1) ≡ true → leaf_of S call ≡ 1
odd-leaf call e = ap (λ (b : Bool). cond b 1 2) e

even-leaf : (call : ℕ) → (call % 2 == 1) ≡ false → leaf_of S call ≡ 2
even-leaf call e = ap (λ (b : Bool). cond b 1 2) e

odd-word : (call : ℕ) → (call % 2 == 1) ≡ true → aim_word S call ≡ aim_text 1
odd-word call e = ap aim_text (odd-leaf call e)

even-word : (call : ℕ) → (call % 2 == 1) ≡ false → aim_word S call ≡ aim_text 2
even-word call e = ap aim_text (even-leaf call e)

odd-known : (call : ℕ) → call % 2 ≡ 1 → IsKnown S call
unfolding known_name is_name versions width offset_of
odd-known call e =
    let word = odd-word call (eq-eqb (call % 2) 1 e) in
    record {
      number = 3;
      tree = odd_tree;
      leaf = 1;
      named = refl;
      planned = odd-planned call (omega arith) (omega arith);
      narrow = refl;
      light = omega arith;
      aimed = ap attempt_word word ∙ one_aim;
      live = refl;
      name = record { some = refl; bytes = refl; short = lit≤ tt };
      aim = subst (λ (w : List ℕ). IsWord w) (sym word) one_word;
    }

even-known : (call : ℕ) → call % 2 ≡ 0 → IsKnown S call
unfolding known_name is_name versions width offset_of
even-known call e =
    let word = even-word call (ne_eqb (call % 2) 1 (λ odd. absurd (omega (arith, e, odd)))) in
    record {
      number = 3;
      tree = even_tree;
      leaf = 2;
      named = refl;
      planned = even-planned call (omega arith) (omega arith);
      narrow = refl;
      light = omega arith;
      aimed = ap attempt_word word ∙ two_aim;
      live = refl;
      name = record { some = refl; bytes = refl; short = lit≤ tt };
      aim = subst (λ (w : List ℕ). IsWord w) (sym word) two_word;
    }

pub known : (channel : Channel) (call : ℕ) → IsKnown channel call
known X call = x-known call
known Y call = y-known call
known P call = p-known call
known S call = by (parity call)
  where
    parity : (n : ℕ) → (n % 2 ≡ 1) ⊎ (n % 2 ≡ 0)
    parity n = grind arith

    by : (call % 2 ≡ 1) ⊎ (call % 2 ≡ 0) → IsKnown S call
    by (inl odd) = odd-known call odd
    by (inr even) = even-known call even
