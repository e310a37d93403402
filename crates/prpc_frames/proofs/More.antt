-- What is there whole at the front of bytes, and the first fault, stay when more bytes come.
use Rattle.std.proofs.Common.{◌≡◌, ℕ, ◌+◌, ◌≤◌, Bool, true, false, cond, ltb, eqb, List, [], ◌∷◌, ◌++◌, length, take, drop, Option, Some, None, Result, Ok, Err, refl, ap, sym, subst, ◌∙◌, arith}
use Rattle.std.proofs.lemmas.Bool.{ltb-false, le-ltb}
use Rattle.std.proofs.lemmas.List.{length-append, length-drop, take-append-le, drop-append-le}
use Rattle.byteorder.specs.Endian.{big_number}
use Rattle.byteorder.specs.Numbers.{big_from-append}
use Rattle.prpc_frames.specs.declared.fault.FeedFault.{FeedFault}
use Rattle.prpc_frames.specs.declared.fault.FeedFault.TheVariants.{Magic}
use Rattle.prpc_frames.specs.declared.header.Sizes.{Sizes}
use Rattle.prpc_frames.specs.Stream.Reading.{◌>>=◌, later, magic, begins, number_at, sizes, header, body, whole, frame}
use Rattle.prpc_frames.proofs.Sized.{IfThere, header_there}

-- what is whole in the one is the same in the other, and so is a fault
abbrev pub Stays : {X : Type 0} → Result (Option X) FeedFault → Result (Option X) FeedFault → Type 0
Stays (Ok None) more = Unit {0}
Stays (Ok (Some x)) more = more ≡ Ok (Some x)
Stays (Err e) more = more ≡ Err e

stays_same : {X : Type 0} (r more : Result (Option X) FeedFault) → more ≡ r → Stays r more
stays_same (Ok None) more e = tt
stays_same (Ok (Some x)) more e = e
stays_same (Err f) more e = e

begins_test : (t : Bool) (x y bad : Result (Unit {0}) FeedFault) (e : FeedFault) → (x ≡ Err e → y ≡ Err e) → cond t x bad ≡ Err e → cond t y bad ≡ Err e
begins_test true x y bad e h k = h k
begins_test false x y bad e h k = k

abbrev IsFine : {X : Type 0} → Result X FeedFault → Type 0
IsFine (Ok x) = Unit {0}
IsFine (Err e) = ⊥

-- a byte that differs stays so
begins_bad : (at : ℕ) (ms a b : List ℕ) (e : FeedFault) → begins at ms a ≡ Err e → begins at ms (a ++ b) ≡ Err e
unfolding begins
begins_bad at [] a b e h = h
begins_bad at (m ∷ ms) [] b e h = absurd (subst (λ (r : Result (Unit {0}) FeedFault). IsFine r) h tt)
begins_bad at (m ∷ ms) (x ∷ a) b e h = begins_test (eqb x m) (begins (later at 1) ms a) (begins (later at 1) ms (a ++ b)) (Err (Magic at)) e (λ k. begins_bad (later at 1) ms a b e k) h

-- bytes that are all there are told from themselves
begins_more : (at : ℕ) (ms a b : List ℕ) → length ms ≤ length a → begins at ms (a ++ b) ≡ begins at ms a
unfolding begins
begins_more at [] a b h = refl
begins_more at (m ∷ ms) [] b h = absurd (omega arith)
begins_more at (m ∷ ms) (x ∷ a) b h = ap (λ (r : Result (Unit {0}) FeedFault). cond (eqb x m) r (Err (Magic at))) (begins_more (later at 1) ms a b (omega arith))

number_more : (at : ℕ) (a b : List ℕ) → at + 4 ≤ length a → number_at at (a ++ b) ≡ number_at at a
unfolding number_at
number_more at a b h = ap (λ xs. big_number 4 xs) (drop-append-le at a b (omega arith)) ∙ big_from-append 4 (drop at a) b (omega (arith, length-drop at a))

longer : (a b : List ℕ) → length a ≤ length (a ++ b)
longer a b = omega (arith, length-append a b)

-- a header that is there
header_long : (at : ℕ) (a b : List ℕ) → 12 ≤ length a → header at (a ++ b) ≡ header at a
unfolding header
header_long at a b h =
    let one : begins at magic (a ++ b) ≡ begins at magic a = begins_more at magic a b (omega arith) in
    let two : ltb (length (a ++ b)) 12 ≡ ltb (length a) 12 = le-ltb (length (a ++ b)) 12 (omega (arith, longer a b)) ∙ sym (le-ltb (length a) 12 h) in
    rw (one, two, number_more 4 a b (omega arith), number_more 8 a b (omega arith)) refl

header_short : (at : ℕ) (a b : List ℕ) (r : Result (Unit {0}) FeedFault) → begins at magic a ≡ r → Stays (r >>= λ _. Ok None) (header at (a ++ b))
unfolding header
header_short at a b (Ok x) e = tt
header_short at a b (Err f) e =
    ap (λ (r : Result (Unit {0}) FeedFault). r >>= λ _. cond (ltb (length (a ++ b)) 12) (Ok None) (sizes at (number_at 4 (a ++ b)) (number_at 8 (a ++ b)))) (begins_bad at magic a b f e)

header_by : (at : ℕ) (a b : List ℕ) (t : Bool) → ltb (length a) 12 ≡ t → Stays (begins at magic a >>= λ _. cond t (Ok None) (sizes at (number_at 4 a) (number_at 8 a))) (header at (a ++ b))
unfolding header
header_by at a b true e = header_short at a b (begins at magic a) refl
header_by at a b false e = stays_same _ _ (header_long at a b (ltb-false (length a) 12 e) ∙ ap (λ (t : Bool). begins at magic a >>= λ _. cond t (Ok None) (sizes at (number_at 4 a) (number_at 8 a))) e)

pub header_stays : (at : ℕ) (a b : List ℕ) → Stays (header at a) (header at (a ++ b))
unfolding header
header_stays at a b = header_by at a b (ltb (length a) 12) refl

whole_by : (at : ℕ) (s : Sizes) (c b : List ℕ) (t : Bool) → ltb (length c) s.body ≡ t
    → Stays (cond t (Ok None) (body at s.meta (take s.body c) >>= λ f. Ok (Some (record { frame = f; size = 12 + s.body })))) (whole at (Some s) (c ++ b))
unfolding whole
whole_by at s c b true e = tt
whole_by at s c b false e =
    let two : ltb (length (c ++ b)) s.body ≡ false = le-ltb (length (c ++ b)) s.body (omega (arith, longer c b, ltb-false (length c) s.body e)) in
    let one : take s.body (c ++ b) ≡ take s.body c = take-append-le s.body c b (ltb-false (length c) s.body e) in
    stays_same _ _ (rw (two, one) refl)

whole_stays : (at : ℕ) (s : Sizes) (c b : List ℕ) → Stays (whole at (Some s) c) (whole at (Some s) (c ++ b))
unfolding whole
whole_stays at s c b = whole_by at s c b (ltb (length c) s.body) refl

frame_by : (at : ℕ) (a b : List ℕ) (h g : Result (Option Sizes) FeedFault) → IfThere (λ s. 12 ≤ length a) h → Stays h g
    → Stays (h >>= λ s. whole at s (drop 12 a)) (g >>= λ s. whole at s (drop 12 (a ++ b)))
unfolding whole
frame_by at a b (Ok None) g long e = tt
frame_by at a b (Ok (Some s)) g long e =
    rw (e, drop-append-le 12 a b long) (whole_stays at s (drop 12 a) b)
frame_by at a b (Err f) g long e = ap (λ (r : Result (Option Sizes) FeedFault). r >>= λ s. whole at s (drop 12 (a ++ b))) e

-- a whole frame and a fault stay
pub frame_stays : (at : ℕ) (a b : List ℕ) → Stays (frame at a) (frame at (a ++ b))
unfolding frame
frame_stays at a b = frame_by at a b (header at a) (header at (a ++ b)) (header_there at a) (header_stays at a b)
