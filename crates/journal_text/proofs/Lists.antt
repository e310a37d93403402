-- The text of lines that stand behind others.
use Rattle.std.proofs.Common.{◌≡◌, ℕ, ◌+◌, ◌<◌, List, [], ◌∷◌, ◌++◌, length, get_or, drop, refl, ap, sym, ◌∙◌, append_assoc, codes}
use Rattle.std.proofs.lemmas.List.{at_drop_more}
use Rattle.rpc_model.specs.declared.line.Line.{Line}
use Rattle.rpc_model.specs.declared.line.Line.TheVariants as line
use Rattle.rpc_model.specs.Texts.{line_text, text_of}

pub text_of_append : (xs ys : List Line) → text_of (xs ++ ys) ≡ text_of xs ++ text_of ys
unfolding text_of
text_of_append [] ys = refl
text_of_append (x ∷ xs) ys = ap (λ (t : List ℕ). line_text x ++ codes "\n" ++ t) (text_of_append xs ys) ∙ sym (append_assoc (line_text x ++ codes "\n") (text_of xs) (text_of ys))

-- One more block of lines was written, of blocks that stand one after the other.
pub block_next : {A : Type 0} (blocks : ℕ → List A → List Line) (one : ℕ → A → List Line) → ((n : ℕ) (x : A) (xs : List A) → blocks n (x ∷ xs) ≡ one n x ++ blocks (n + 1) xs)
    → (before now whole : List ℕ) (xs : List A) (i : ℕ) (x : A) → i < length xs → x ≡ get_or xs i x → now ≡ before ++ text_of (one i x)
    → before ++ text_of (blocks i (drop i xs)) ≡ whole → now ++ text_of (blocks (i + 1) (drop (i + 1) xs)) ≡ whole
block_next {A = A} blocks one step before now whole xs i x h item written left =
    let rest = blocks (i + 1) (drop (i + 1) xs) in
    ap (λ (t : List ℕ). t ++ text_of rest) written ∙ (append_assoc before (text_of (one i x)) (text_of rest)
    ∙ (ap (λ (t : List ℕ). before ++ t) (sym (text_of_append (one i x) rest)
    ∙ ap (λ (ls : List Line). text_of ls) (sym (at_drop_more (λ (l : List A). blocks i l) xs i x h ∙ ap (λ (y : A). blocks i (y ∷ drop (i + 1) xs)) (sym item) ∙ step i x (drop (i + 1) xs)))) ∙ left))

-- A line and three lists of lines.
pub line_and_lists : (before : List ℕ) (x : Line) (a b c : List Line) → before ++ line_text x ++ codes "\n" ++ text_of a ++ text_of b ++ text_of c ≡ before ++ text_of (x ∷ (a ++ b ++ c))
unfolding text_of
line_and_lists before x a b c =
    let line = line_text x ++ codes "\n" in
    ap (λ (t : List ℕ). t ++ text_of a ++ text_of b ++ text_of c) (append_assoc before (line_text x) (codes "\n"))
    ∙ (append_assoc (before ++ line ++ text_of a) (text_of b) (text_of c)
    ∙ (append_assoc (before ++ line) (text_of a) (text_of b ++ text_of c)
    ∙ (append_assoc before line (text_of a ++ (text_of b ++ text_of c))
    ∙ ap (λ (t : List ℕ). before ++ (line ++ t)) (sym (text_of_append (a ++ b) c ∙ (ap (λ (t : List ℕ). t ++ text_of c) (text_of_append a b) ∙ append_assoc (text_of a) (text_of b) (text_of c)))))))

-- The calls, the wires, the line between, the marks and the lanes.
pub journal_parts : (calls wires marks lanes : List Line)
    → text_of calls ++ text_of wires ++ codes "timer\n" ++ text_of marks ++ text_of lanes ≡ text_of (calls ++ wires ++ (line.Timer ∷ []) ++ marks ++ lanes)
unfolding text_of
journal_parts calls wires marks lanes =
    let two = text_of_append calls wires in
    let three = text_of_append (calls ++ wires) (line.Timer ∷ []) ∙ ap (λ (t : List ℕ). t ++ codes "timer\n") two in
    let four = text_of_append (calls ++ wires ++ (line.Timer ∷ [])) marks ∙ ap (λ (t : List ℕ). t ++ text_of marks) three in
    sym (text_of_append (calls ++ wires ++ (line.Timer ∷ []) ++ marks) lanes ∙ ap (λ (t : List ℕ). t ++ text_of lanes) four)
