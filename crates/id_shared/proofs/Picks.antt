-- A pass looks for a free node among its own, from the first one on.
use Rattle.std.proofs.Common.{◌≡◌, ◌≢◌, ℕ, suc, ◌+◌, ◌-◌, ◌*◌, ◌/◌, ◌<◌, ◌≤◌, List, [], ◌∷◌, ◌++◌, length, length-append, refl, sym, ap, ap₂, ◌∙◌, subst, arith, Some, None}
use Rattle.std.proofs.Math.Nat.{mul-le-mul_right}
use Rattle.std.proofs.lemmas.Nat.{div-mul-add}
use Rattle.id_rule.specs.Changes.{view_with_seen, view_with_hand}
use Rattle.id_rule.specs.declared.view.Part.{Part}
use Rattle.id_rule.specs.declared.view.View.{View}
use Rattle.id_rule.specs.Nodes.{word_at, node_of_word, pass_of_node}
use Rattle.id_rule.specs.Parts.{AreAll, part_at, part_of}
use Rattle.id_shared.proofs.Parts.{HasPart}
use Rattle.id_shared.specs.Picking.{HasPicked, HasPickedFirst}
use Rattle.id_shared.specs.Standing.{IdTable}
use Rattle.id_shared.specs.Views.{first_node, view_after_picks}

-- the node of a place
pub node_there : (slots node place : ℕ) → 1 ≤ node → place ≡ word_at slots node → node_of_word slots place ≡ node
node_there slots node place one is = omega (arith, one, is)

-- a pass's nodes are the table's, and its own
pub own_node : (passes nodes number count : ℕ) → number < passes → count < nodes
    → (number * nodes + count + 1 ≤ passes * nodes) × (pass_of_node nodes (number * nodes + count + 1) ≡ number)
own_node passes nodes number count low less =
    let all : (number + 1) * nodes ≤ passes * nodes = mul-le-mul_right nodes (omega (arith, low)) in
    let more : (number + 1) * nodes ≡ number * nodes + nodes = omega arith in
    (omega (arith, all, more, less), ap (λ (z : ℕ). z / nodes) (the_index (number * nodes + count)) ∙ div-mul-add number nodes count less)
  where
    the_index : (n : ℕ) → n + 1 - 1 ≡ n
    the_index n = omega arith

-- all of them together are
pub own_nodes : (passes nodes number : ℕ) → number < passes → number * nodes + nodes ≤ passes * nodes
own_nodes passes nodes number low =
    let all : (number + 1) * nodes ≤ passes * nodes = mul-le-mul_right nodes (omega (arith, low)) in
    let more : (number + 1) * nodes ≡ number * nodes + nodes = omega arith in omega (arith, all, more)

-- every word before and one more
pub all_more : (P : ℕ → Type 0) (xs : List ℕ) (x : ℕ) → AreAll P xs → P x → AreAll P (xs ++ x ∷ [])
all_more P [] x all one = (one, tt)
all_more P (y ∷ xs) x all one = (all.0, all_more P xs x all.1 one)

module _ {E : Type 0} where
  -- one node more
  pub picks_more : (v : View E) (slots node : ℕ) (ns : List ℕ) (n : ℕ)
      → view_after_picks v slots node (ns ++ n ∷ []) ≡ view_with_seen (view_after_picks v slots node ns) (word_at slots (node + length ns)) n
  picks_more v slots node [] n = ap (λ z. view_with_seen v (word_at slots z) n) (omega arith)
  picks_more v slots node (m ∷ ns) n = picks_more (view_with_seen v (word_at slots node) m) slots (node + 1) ns n
      ∙ ap (λ z. view_with_seen (view_after_picks (view_with_seen v (word_at slots node) m) slots (node + 1) ns) (word_at slots z) n) (next (length ns))
    where
      next : (k : ℕ) → node + 1 + k ≡ node + suc k
      next k = omega arith

  -- what loads of nodes leave of a view
  pub record IsSameBut (v w : View E) : Type 0 where
    pub numbers : w.numbers ≡ v.numbers
    pub width : w.width ≡ v.width
    pub total : w.total ≡ v.total
    pub count : w.sent ≡ v.sent
    pub parts : w.parts ≡ v.parts
    pub hand : w.hand ≡ v.hand
    pub taken : w.taken ≡ v.taken

  -- nothing else changes
  pub picks_keep : (v : View E) (slots node : ℕ) (ns : List ℕ) → IsSameBut v (view_after_picks v slots node ns)
  picks_keep v slots node [] = record { numbers = refl; width = refl; total = refl; count = refl; parts = refl; hand = refl; taken = refl }
  picks_keep v slots node (n ∷ ns) = let k = picks_keep (view_with_seen v (word_at slots node) n) slots (node + 1) ns in
      record { numbers = k.numbers; width = k.width; total = k.total; count = k.count; parts = k.parts; hand = k.hand; taken = k.taken }

  -- What holds while a pass looks for a free node: the words of so many nodes were loaded, and none was free
  pub record IsSeeking (ids : IdTable) (number count : ℕ) (v w : View E) (words : List ℕ) : Type 0 where
    pub view : w ≡ view_after_picks v ids.sizes.slots (first_node ids.sizes.nodes number) words
    pub long : length words ≡ count
    pub full : AreAll (λ n. n ≢ 0) words
    pub few : count ≤ ids.sizes.nodes

  -- one node further
  pub seeks_more : (ids : IdTable) (number count node word : ℕ) (v w u : View E) (words words' : List ℕ) → IsSeeking ids number count v w words
      → count < ids.sizes.nodes → node ≡ number * ids.sizes.nodes + count + 1 → HasPicked (word_at ids.sizes.slots node) node w word u → word ≢ 0 → words' ≡ words ++ word ∷ []
      → IsSeeking ids number (count + 1) v u words'
  seeks_more ids number count node word v w u words words' was less is picked full more =
      let long = was.long in let grown = length-append words (word ∷ []) in let added : length words' ≡ length (words ++ word ∷ []) = ap length more in
      let place : node ≡ first_node ids.sizes.nodes number + length words = omega (arith, is, long) in record {
        view = picked.1 full ∙ ap₂ (λ z m. view_with_seen z (word_at ids.sizes.slots m) word) was.view place
            ∙ sym (picks_more v ids.sizes.slots (first_node ids.sizes.nodes number) words word) ∙ ap (view_after_picks v ids.sizes.slots (first_node ids.sizes.nodes number)) (sym more);
        long = omega (arith, long, grown, added);
        full = subst (AreAll (λ n. n ≢ 0)) (sym more) (all_more (λ n. n ≢ 0) words word was.full full);
        few = omega (arith, less);
      }

  -- the free node that was found
  pub seeks_found : (ids : IdTable) (number count node word : ℕ) (v w u : View E) (words words' : List ℕ) → IsSeeking ids number count v w words → count < ids.sizes.nodes
      → number < ids.sizes.passes → node ≡ number * ids.sizes.nodes + count + 1 → HasPicked (word_at ids.sizes.slots node) node w word u → word ≡ 0 → words' ≡ words ++ word ∷ []
      → HasPickedFirst ids number v words' (Some node) u
  seeks_found ids number count node word v w u words words' was less low is picked free more =
      let long = was.long in let second = picked.0 free in
      let place : node ≡ first_node ids.sizes.nodes number + length words = omega (arith, is, long) in
      let own = own_node ids.sizes.passes ids.sizes.nodes number count low less in (
        (words, more ∙ ap (λ z. words ++ z ∷ []) free, was.full),
        (
          second.0,
          second.1 ∙ ap (λ z. view_with_hand z (Some (node, 0, second.0))) (ap₂ (λ z m. view_with_seen z (word_at ids.sizes.slots m) word) was.view place
              ∙ sym (picks_more v ids.sizes.slots (first_node ids.sizes.nodes number) words word) ∙ ap (view_after_picks v ids.sizes.slots (first_node ids.sizes.nodes number)) (sym more)),
        ),
        omega (arith, is),
        subst (λ (z : ℕ). z ≤ ids.sizes.passes * ids.sizes.nodes) (sym is) own.0,
        ap (pass_of_node ids.sizes.nodes) is ∙ own.1,
      )

  -- no free node was found
  pub seeks_none : (ids : IdTable) (number count : ℕ) (v w : View E) (words : List ℕ) → IsSeeking ids number count v w words → ids.sizes.nodes ≤ count
      → HasPickedFirst ids number v words None w
  seeks_none ids number count v w words was done = let long = was.long in let few = was.few in (omega (arith, long, few, done), was.full, was.view)

  -- the hand stays empty
  pub seeks_empty : (ids : IdTable) (number count : ℕ) (v w : View E) (words : List ℕ) → IsSeeking ids number count v w words → v.hand ≡ None → w.hand ≡ None
  seeks_empty ids number count v w words was empty = ap (λ (z : View E). z.hand) was.view ∙ (picks_keep v ids.sizes.slots (first_node ids.sizes.nodes number) words).hand ∙ empty

  -- the numbers stay
  pub seeks_numbers : (ids : IdTable) (number count : ℕ) (v w : View E) (words : List ℕ) → IsSeeking ids number count v w words → w.numbers ≡ v.numbers
  seeks_numbers ids number count v w words was = ap (λ (z : View E). z.numbers) was.view ∙ (picks_keep v ids.sizes.slots (first_node ids.sizes.nodes number) words).numbers

  -- a change of one part, after loads of nodes
  pub picked_part : (i : ℕ) (v w u : View E) (f : Part E → Part E) → IsSameBut v w → HasPart i w (f (part_of w i)) u → HasPart i v (f (part_of v i)) u
  picked_part i v w u f same has = record {
    here = has.here ∙ ap (λ ps. f (part_at ps i)) same.parts;
    there = λ slot ne. has.there slot ne ∙ ap (λ ps. part_at ps slot) same.parts;
  }
