-- Words without a byte, and how a line is cut at it.
use Rattle.std.proofs.Common.{◌≡◌, ℕ, zero, suc, ◌+◌, ◌/◌, ◌%◌, ◌^◌, ◌<◌, Bool, true, false, not, cond, ◌&&◌, ◌==◌, eq-eqb, List, [], ◌∷◌, ◌++◌, refl, ap, sym, ◌∙◌, arith, append_assoc}
use Rattle.std.specs.Prelude.{slice_index}
use Rattle.std.specs.Fmt.{decimal}
use Rattle.std.specs.List.{slice_split, onto_first}
use Rattle.std.proofs.lemmas.Bool.{and_parts, and_from, ne_eqb}
use Rattle.std.proofs.lemmas.Fmt.{decimal_by_steps}
use Rattle.hex.specs.Hex.{encode_with, encode_lower, lower_digits}
use Rattle.rpc_model.specs.Texts.{words_behind, hex_word}

-- no byte is this one
unfoldable pub lacks : ℕ → List ℕ → Bool
lacks c [] = true
lacks c (b ∷ bs) = not (b == c) && lacks c bs

unfoldable pub all_lack : ℕ → List (List ℕ) → Bool
all_lack c [] = true
all_lack c (w ∷ ws) = lacks c w && all_lack c ws

not_true : (b : Bool) → not b ≡ true → b ≡ false
not_true true e = sym e
not_true false e = refl

-- the first piece
pub split_front : (c : ℕ) (w rest : List ℕ) → lacks c w ≡ true → slice_split (λ b. b == c) (w ++ c ∷ rest) ≡ w ∷ slice_split (λ b. b == c) rest
unfolding lacks
split_front c [] rest h = ap (λ (b : Bool). cond b ([] ∷ slice_split (λ b. b == c) rest) (onto_first c (slice_split (λ b. b == c) rest))) (eq-eqb c c refl)
split_front c (b ∷ w) rest h =
    let p = and_parts (not (b == c)) (lacks c w) h in
    ap (λ (t : Bool). cond t ([] ∷ slice_split (λ b. b == c) (w ++ c ∷ rest)) (onto_first b (slice_split (λ b. b == c) (w ++ c ∷ rest)))) (not_true (b == c) p.0)
    ∙ ap (λ (ps : List (List ℕ)). onto_first b ps) (split_front c w rest p.1)

-- the only piece
pub split_none : (c : ℕ) (w : List ℕ) → lacks c w ≡ true → slice_split (λ b. b == c) w ≡ w ∷ []
unfolding lacks
split_none c [] h = refl
split_none c (b ∷ w) h =
    let p = and_parts (not (b == c)) (lacks c w) h in
    ap (λ (t : Bool). cond t ([] ∷ slice_split (λ b. b == c) w) (onto_first b (slice_split (λ b. b == c) w))) (not_true (b == c) p.0)
    ∙ ap (λ (ps : List (List ℕ)). onto_first b ps) (split_none c w p.1)

pub lacks-append : (c : ℕ) (xs ys : List ℕ) → lacks c xs ≡ true → lacks c ys ≡ true → lacks c (xs ++ ys) ≡ true
unfolding lacks
lacks-append c [] ys h k = k
lacks-append c (x ∷ xs) ys h k = let p = and_parts (not (x == c)) (lacks c xs) h in and_from (not (x == c)) (lacks c (xs ++ ys)) p.0 (lacks-append c xs ys p.1 k)

pub all_lack-append : (c : ℕ) (xs ys : List (List ℕ)) → all_lack c xs ≡ true → all_lack c ys ≡ true → all_lack c (xs ++ ys) ≡ true
unfolding all_lack
all_lack-append c [] ys h k = k
all_lack-append c (x ∷ xs) ys h k = let p = and_parts (lacks c x) (all_lack c xs) h in and_from (lacks c x) (all_lack c (xs ++ ys)) p.0 (all_lack-append c xs ys p.1 k)

words_front : (a b : List ℕ) (ws : List (List ℕ)) → words_behind (a ++ b) ws ≡ a ++ words_behind b ws
words_front a b [] = refl
words_front a b (w ∷ ws) = ap (λ (t : List ℕ). words_behind t ws) (append_assoc a b (32 ∷ w)) ∙ words_front a (b ++ 32 ∷ w) ws

-- a line is cut into its words
pub split_words : (w : List ℕ) (ws : List (List ℕ)) → lacks 32 w ≡ true → all_lack 32 ws ≡ true → slice_split (λ b. b == 32) (words_behind w ws) ≡ w ∷ ws
unfolding all_lack
split_words w [] h k = split_none 32 w h
split_words w (v ∷ vs) h k =
    let p = and_parts (lacks 32 v) (all_lack 32 vs) k in
    ap (λ (t : List ℕ). slice_split (λ b. b == 32) t) (words_front w (32 ∷ v) vs ∙ ap (λ (t : List ℕ). w ++ t) (words_front (32 ∷ []) v vs))
    ∙ (split_front 32 w (words_behind v vs) h ∙ ap (λ (ps : List (List ℕ)). w ∷ ps) (split_words v vs p.0 p.1))

-- a line has no newline where its words have none
pub words_lack : (w : List ℕ) (ws : List (List ℕ)) → lacks 10 w ≡ true → all_lack 10 ws ≡ true → lacks 10 (words_behind w ws) ≡ true
unfolding lacks all_lack
words_lack w [] h k = h
words_lack w (v ∷ vs) h k = let p = and_parts (lacks 10 v) (all_lack 10 vs) k in words_lack (w ++ 32 ∷ v) vs (lacks-append 10 w (32 ∷ v) h p.0) p.1

-- digits come behind all bytes below 48
digit_lacks : (c n : ℕ) → c < 48 → lacks c ((48 + n) ∷ []) ≡ true
unfolding lacks
digit_lacks c n h = ap (λ (b : Bool). not b && true) (ne_eqb (48 + n) c (λ e. absurd (omega (arith, e, h))))

pub decimal_lacks : (c n : ℕ) → c < 48 → n < 2 ^ 64 → lacks c (decimal n) ≡ true
decimal_lacks c n h small =
    decimal_by_steps (λ k ds. lacks c ds ≡ true) (λ k lt. digit_lacks c k h) (λ k ds le so_far. lacks-append c ds ((48 + k % 10) ∷ []) so_far (digit_lacks c (k % 10) h)) n small

index_lacks : (c : ℕ) (t : List ℕ) (k : ℕ) → lacks c t ≡ true → (0 == c) ≡ false → (slice_index t k == c) ≡ false
unfolding lacks
index_lacks c [] k h z = z
index_lacks c (x ∷ t) zero h z = not_true (x == c) (and_parts (not (x == c)) (lacks c t) h).0
index_lacks c (x ∷ t) (suc k) h z = index_lacks c t k (and_parts (not (x == c)) (lacks c t) h).1 z

encoded_lacks : (c : ℕ) (bytes : List ℕ) → lacks c lower_digits ≡ true → (0 == c) ≡ false → lacks c (encode_lower bytes) ≡ true
unfolding encode_with lacks
encoded_lacks c [] h z = refl
encoded_lacks c (b ∷ bs) h z =
    and_from _ _ (ap (λ (t : Bool). not t) (index_lacks c lower_digits (b / 16) h z)) (and_from _ _ (ap (λ (t : Bool). not t) (index_lacks c lower_digits (b % 16) h z)) (encoded_lacks c bs h z))

pub hex_lacks : (c : ℕ) (bytes : List ℕ) → lacks c lower_digits ≡ true → (0 == c) ≡ false → (45 == c) ≡ false → lacks c (hex_word bytes) ≡ true
unfolding lacks
hex_lacks c [] h z d = ap (λ (t : Bool). not t && true) d
hex_lacks c (b ∷ bs) h z d = encoded_lacks c (b ∷ bs) h z
