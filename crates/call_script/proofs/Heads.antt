-- The words ahead of a line's list, and the list.
use Rattle.std.proofs.Common.{◌≡◌, ℕ, zero, suc, List, [], ◌∷◌, map, take, drop, Bor, refl, ap}

pub head_words : (words : List (Bor (List ℕ))) (n : ℕ) → map (λ w. w.now) (take n words) ≡ take n (map (λ w. w.now) words)
head_words [] zero = refl
head_words [] (suc n) = refl
head_words (w ∷ words) zero = refl
head_words (w ∷ words) (suc n) = ap (λ (ws : List (List ℕ)). w.now ∷ ws) (head_words words n)

pub list_words : (words : List (Bor (List ℕ))) (n : ℕ) → map (λ w. w.now) (drop n words) ≡ drop n (map (λ w. w.now) words)
list_words [] zero = refl
list_words [] (suc n) = refl
list_words (w ∷ words) zero = refl
list_words (w ∷ words) (suc n) = list_words words n
