-- The nodes that a seat took, as a call reads and frees them.
use Rattle.std.proofs.Common.{◌≡◌, ℕ, ◌+◌, ◌*◌, ◌/◌, ◌%◌, ◌<◌, ◌≤◌, List, [], ◌∷◌, ◌++◌, append_assoc, append-nil, length, length-append, refl, sym, ap, ◌∙◌, subst, arith, Option}
use Rattle.atomic_table.specs.Seated.{TableId}
use Rattle.atomic_table.specs.Table.{Me}
use Rattle.id_rule.specs.declared.rule.Sizes.{Sizes}
use Rattle.id_rule.specs.declared.view.Queued.{Queued}
use Rattle.id_rule.specs.declared.view.View.{View}
use Rattle.id_rule.specs.Changes.{view_with_list}
use Rattle.id_rule.specs.Nodes.{node_word, head_of, word_at}
use Rattle.id_rule.specs.Parts.{AreAll}
use Rattle.id_shared.specs.declared.answers.Posted.{Posted}
use Rattle.id_shared.specs.Draining.{IsError, IsDraining}
use Rattle.id_shared.specs.Standing.{IdTable, IsIdTable}
use Rattle.id_shared.specs.Views.{error_of, errors_of}

-- the fields of a waiting node's word
pub word_read : (w next offset code : ℕ) → w ≡ node_word next offset code → next < 65536 → offset < 2048 → code < 65536
    → (w / 4294967296 % 2048 ≡ offset) × (w / 65536 % 65536 ≡ code) × (w % 65536 ≡ next)
word_read w next offset code is a b c = (omega (arith, is, a, b, c), omega (arith, is, a, b, c), omega (arith, is, a, b, c))

-- the head of a chain of the table's nodes fits a word
pub head_fits : (nodes total : ℕ) (qs : List Queued) → AreAll (IsError nodes total) qs → total ≤ 65535 → head_of qs < 65536
head_fits nodes total [] all few = omega arith
head_fits nodes total (q ∷ qs) all few = let low = all.0.1 in omega (arith, low, few)

-- a list whose head is a node has that node
some_taken : (nodes total node long room : ℕ) (xs : List Queued) → AreAll (IsError nodes total) xs → node ≡ head_of xs → 1 ≤ node → long + length xs ≤ room
    → (q : Queued) × ((qs : List Queued) × (xs ≡ q ∷ qs) × (q.node ≡ node) × IsError nodes total q × AreAll (IsError nodes total) qs × (long + 1 + length qs ≤ room))
some_taken nodes total node long room [] all head one fits = absurd (omega (arith, head, one))
some_taken nodes total node long room (q ∷ qs) all head one fits = (q, (qs, refl, sym head, all.0, all.1, omega (arith, fits)))

-- the first taken node, where there is one
pub first_taken : {T E : Type 0} (ids : IdTable) (table : TableId) (me : Me (Option T) (View E)) (node long room : ℕ) → IsDraining ids table me node long room → 1 ≤ node
    → (q : Queued) × ((qs : List Queued) × (me.0.taken ≡ q ∷ qs) × (q.node ≡ node) × IsError ids.sizes.nodes (ids.sizes.passes * ids.sizes.nodes) q
    × AreAll (IsError ids.sizes.nodes (ids.sizes.passes * ids.sizes.nodes)) qs × (long + 1 + length qs ≤ room))
first_taken {T} {E} ids table me node long room d one = some_taken ids.sizes.nodes (ids.sizes.passes * ids.sizes.nodes) node long room me.0.taken d.errors d.head one d.fits

-- no node is left where the head is 0
none_taken : (nodes total : ℕ) (xs : List Queued) → AreAll (IsError nodes total) xs → 0 ≡ head_of xs → xs ≡ []
none_taken nodes total [] all head = refl
none_taken nodes total (q ∷ qs) all head = let one = all.0.0 in absurd (omega (arith, head, one))

-- what a step on a node's word asks of the table and of the seat
pub at_node : (t seat : TableId) (key sizes : Sizes) (ids : IdTable) (node : ℕ) → record { table = t; sizes = sizes } ≡ ids → IsIdTable t key sizes
    → seat ≡ ids.table → 1 ≤ node → node ≤ ids.sizes.passes * ids.sizes.nodes
    → (seat ≡ t) × (word_at ids.sizes.slots node + 1 < t.words) × (ids.sizes.slots ≡ key.slots) × (ids.sizes.slots ≡ t.slots) × (node ≤ 65535) × (ids.sizes.passes * ids.sizes.nodes ≤ 65535)
    × (ids.sizes.passes * ids.sizes.nodes ≡ key.passes * key.nodes)
at_node t seat key sizes ids node is fit own one low =
    let same : seat ≡ t = own ∙ sym (ap (λ (z : IdTable). z.table) is) in
    let slots : sizes.slots ≡ ids.sizes.slots = ap (λ (z : IdTable). z.sizes.slots) is in
    let total : sizes.passes * sizes.nodes ≡ ids.sizes.passes * ids.sizes.nodes = ap (λ (z : IdTable). z.sizes.passes * z.sizes.nodes) is in
    let few = fit.5 in let words = fit.6 in (
      same,
      omega (arith, words, slots, total, low, one),
      sym slots ∙ ap (λ (z : Sizes). z.slots) (sym fit.0),
      sym slots ∙ sym fit.1,
      omega (arith, few, total, low),
      omega (arith, few, total),
      sym total ∙ ap (λ (z : Sizes). z.passes * z.nodes) (sym fit.0),
    )

module _ {T E : Type 0} where
  -- What holds while a call reads and frees the nodes that it took: those that are left, and the errors of the others
  pub record IsEmptying (ids : IdTable) (table0 table : TableId) (id0 id : ℕ) (me0 me : Me (Option T) (View E)) (list0 list : List Posted) (node room0 room : ℕ) : Type 0 where
    pub same : (table ≡ table0) × (id ≡ id0) × (room ≡ room0)
    pub draining : IsDraining ids table me node (length list) room
    pub view : me ≡ (view_with_list me0.0 me.0.taken, me0.1)
    pub listed : list ++ errors_of me.0.taken ≡ list0 ++ errors_of me0.0.taken

  -- at first
  pub emptying_first : (ids : IdTable) (table : TableId) (id node room : ℕ) (me : Me (Option T) (View E)) (list : List Posted) → IsDraining ids table me node (length list) room
      → IsEmptying ids table table id id me me list list node room room
  emptying_first ids table id node room me list d = record { same = (refl, refl, refl); draining = d; view = refl; listed = refl }

  -- one node further
  pub emptying_more : (ids : IdTable) (t0 t t' : TableId) (id0 id id' : ℕ) (me0 me me' : Me (Option T) (View E)) (list0 list list' : List Posted) (node node' room0 room room' : ℕ)
      → IsEmptying ids t0 t id0 id me0 me list0 list node room0 room → 1 ≤ node → (t' ≡ t) × (id' ≡ id) × (room' ≡ room)
      → ((q : Queued) × ((qs : List Queued) × (me.0.taken ≡ q ∷ qs) × (me' ≡ (view_with_list me.0 qs, me.1)) × (list' ≡ list ++ error_of q ∷ []) × (node' ≡ head_of qs)))
      → IsEmptying ids t0 t' id0 id' me0 me' list0 list' node' room0 room'
  emptying_more ids t0 t t' id0 id id' me0 me me' list0 list list' node node' room0 room room' was one same step =
      let q : Queued = step.0 in let qs : List Queued = step.1.0 in
      let taken : me.0.taken ≡ q ∷ qs = step.1.1 in
      let is : me' ≡ (view_with_list me.0 qs, me.1) = step.1.2 in
      let left : me'.0.taken ≡ qs = ap (λ m. m.0.taken) is in
      let d = was.draining in
      let all : AreAll (IsError ids.sizes.nodes (ids.sizes.passes * ids.sizes.nodes)) (q ∷ qs) = subst (AreAll (IsError ids.sizes.nodes (ids.sizes.passes * ids.sizes.nodes))) taken d.errors in
      let long : length list' ≡ length list + 1 = ap length step.1.3 ∙ omega (arith, length-append list (error_of q ∷ [])) in
      let many : length me.0.taken ≡ length qs + 1 = ap length taken ∙ omega arith in
      let fits = d.fits in let room_is = same.2 in
      let few : length me'.0.taken ≡ length qs = ap length left in
      record {
        same = (same.0 ∙ was.same.0, same.1 ∙ was.same.1, same.2 ∙ was.same.2);
        draining = record {
          of_table = same.0 ∙ d.of_table;
          errors = subst (AreAll (IsError ids.sizes.nodes (ids.sizes.passes * ids.sizes.nodes))) (sym left) all.1;
          few = d.few;
          head = step.1.4 ∙ ap head_of (sym left);
          fits = omega (arith, long, many, fits, room_is, few);
        };
        view = is ∙ ap (λ m. (view_with_list m.0 qs, m.1)) was.view ∙ ap (λ z. (view_with_list me0.0 z, me0.1)) (sym left);
        listed = ap (λ z. z ++ errors_of me'.0.taken) step.1.3 ∙ ap (λ z. (list ++ error_of q ∷ []) ++ errors_of z) left ∙ append_assoc list (error_of q ∷ []) (errors_of qs)
            ∙ ap (λ z. list ++ errors_of z) (sym taken) ∙ was.listed;
      }

  -- at last
  pub emptying_last : (ids : IdTable) (t0 t : TableId) (id0 id : ℕ) (me0 me : Me (Option T) (View E)) (list0 list : List Posted) (node room0 room : ℕ)
      → IsEmptying ids t0 t id0 id me0 me list0 list node room0 room → node ≡ 0 → (me ≡ (view_with_list me0.0 [], me0.1)) × (list ≡ list0 ++ errors_of me0.0.taken)
  emptying_last ids t0 t id0 id me0 me list0 list node room0 room was done =
      let none_left : me.0.taken ≡ [] = none_taken ids.sizes.nodes (ids.sizes.passes * ids.sizes.nodes) me.0.taken was.draining.errors (sym done ∙ was.draining.head) in
      (was.view ∙ ap (λ z. (view_with_list me0.0 z, me0.1)) none_left, sym (append-nil list) ∙ ap (λ z. list ++ errors_of z) (sym none_left) ∙ was.listed)
