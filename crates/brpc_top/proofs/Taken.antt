-- What the command makes of words without a hyphen in front.
use Rattle.std.proofs.Common.{◌≡◌, ℕ, Bool, true, false, List, [], ◌∷◌, Option, Some, None, refl, codes, sym, ap, ◌∙◌, ◌||◌, ◌&&◌, is_some, ap₂, if◌then◌else◌, option_and_then, option_map}
use Rattle.std.specs.Str.{bytes_eq}
use Rattle.std.proofs.lemmas.Bool.{true≢false}
use Rattle.std.specs.Option.{option_map_or}
use Rattle.std.specs.List.{list_all}
use Rattle.clap.specs.Lexer.{strip_byte, long_of, long_of_rest, short_of, short_of_rest}
use Rattle.clap.specs.Walk.{Held, Walk, Step, walk, walked, walk_from, word_met, idle, value, trailing, nothing_held, finished, to_positional, arg_by_index, after_step, long_or_other, short_or_plain}
use Rattle.clap.specs.Takes.{word_passes, step_passes, turn_passes, flag_word_passes, bundle_passes, walk_passes, entered_passes, settle_passes, default_passes, is_valid}
use Rattle.clap.specs.Simple.{Shape, built, entered}
use Rattle.clap.specs.Words.{Row, Rule, Text, first_of, matches_of, takes, is_simple}
use Rattle.clap.proofs.OnLiterals.{clap_on_literals}
use Rattle.clap.specs.Words.{HasMatchesOf, first_value, found_of}
use Rattle.clap.specs.declared.parser.matches.ArgMatches.{ArgMatches}
use Rattle.clap.proofs.WalkLemmas.{first_value-rows}
use Rattle.brpc_top.specs.Words.{is_dashed, pair_of}
use Rattle.brpc_top.specs.Program.{program}

pub simple : is_simple program ≡ true
unfolding clap_on_literals
simple = refl

no_strip : (w : Text) → is_dashed w ≡ false → strip_byte 45 w ≡ None
no_strip [] e = refl
no_strip (x ∷ xs) e = rw e refl

no_end : (w : Text) → is_dashed w ≡ false → bytes_eq w (45 ∷ 45 ∷ []) ≡ false
no_end [] e = refl
no_end (x ∷ xs) e = rw e refl

if-false : {X : Type 0} (b : Bool) (x y : X) → b ≡ false → (if b then x else y) ≡ y
if-false true x y e = absurd (true≢false e)
if-false false x y e = refl

long-none : (w : Text) → strip_byte 45 w ≡ None → long_of w ≡ None
long-none w p = ap (λ (o : Option Text). option_and_then long_of_rest (option_and_then (strip_byte 45) o)) p

short-none : (w : Text) → strip_byte 45 w ≡ None → short_of w ≡ None
short-none w p = ap (λ (o : Option Text). option_and_then short_of_rest o) p

-- a word with no hyphen in front goes to a positional
met-plain : (c : List Rule) (n : ℕ) (w : Text) (h : Held) → is_dashed w ≡ false → word_met c [] false idle n w h ≡ (h, value)
met-plain c n w h e =
    let p = no_strip w e in
    if-false (bytes_eq w (45 ∷ 45 ∷ [])) (h, trailing n) (long_or_other c idle w (long_of w) h) (no_end w e)
    ∙ (ap (λ (o : Option (Text × Option Text)). long_or_other c idle w o h) (long-none w p) ∙ ap (λ (o : Option Text). short_or_plain c idle w o h) (short-none w p))

at : Held → ℕ → Walk
at h n = record { held = h; waiting = idle; position = n; is_trailing = false; stopped = None }

walked-plain : (c : List Rule) (n : ℕ) (w : Text) (h : Held) → is_dashed w ≡ false → walked c [] (at h n) w ≡ to_positional c (arg_by_index c n) w (at h n) h
unfolding walked at
walked-plain c n w h e = ap (λ (m : Held × Step). after_step c w (at h n) m.0 m.1) (met-plain c n w h e)

or-true : (b : Bool) → (b || true) ≡ true
or-true true = refl
or-true false = refl

word-passes : (s : Shape) (w : Text) (h : Held) → is_dashed w ≡ false → word_passes s [] false idle w h ≡ true
word-passes s w h e =
    let p = no_strip w e in
    ap (λ (b : Bool). bytes_eq w (45 ∷ 45 ∷ []) || b)
    (ap (λ (o : Option (Text × Option Text)). flag_word_passes s.rules s.args_override_self o w h) (long-none w p)
    ∙ ap (λ (o : Option Text). option_map_or (λ flags. bundle_passes s.rules s.args_override_self flags h) o true) (short-none w p))
    ∙ or-true (bytes_eq w (45 ∷ 45 ∷ []))

turn-passes : (s : Shape) (n : ℕ) (w : Text) (h : Held) → is_dashed w ≡ false → turn_passes s [] (at h n) w ≡ step_passes s n h value
unfolding at
turn-passes s n w h e =
    ap (λ (b : Bool). b && step_passes s n (word_met s.rules [] false idle n w h).0 (word_met s.rules [] false idle n w h).1) (word-passes s w h e)
    ∙ ap (λ (m : Held × Step). step_passes s n m.0 m.1) (met-plain s.rules n w h e)

abbrev shape : Shape
shape = (built program).top

held-one : Text → Held
held-one a = record { rows = []; pending = Some (codes "command", a ∷ []); skip = 0 }

one-walk : (a : Text) → is_dashed a ≡ false → walked shape.rules [] (walk_from nothing_held) a ≡ at (held-one a) 2
unfolding at held-one
one-walk a e = walked-plain shape.rules 1 a nothing_held e

end-one : (a : Text) → is_dashed a ≡ false → walk shape.rules [] nothing_held (a ∷ []) ≡ at (held-one a) 2
end-one a e = one-walk a e

pub first-one : (a : Text) → is_dashed a ≡ false → (first_of (codes "command") (matches_of program (a ∷ [])) ≡ Some a) × (first_of (codes "count") (matches_of program (a ∷ [])) ≡ None)
unfolding at held-one
first-one a e =
    let m : matches_of program (a ∷ []) ≡ finished shape.rules (held-one a) = ap (λ (w : Walk). finished shape.rules w.held) (end-one a e) in
    (ap (λ (r : List Row). first_of (codes "command") r) m, ap (λ (r : List Row). first_of (codes "count") r) m)

-- the walk after a second word
two-walk : Text → Text → Walk
two-walk a b = to_positional shape.rules (arg_by_index shape.rules 2) b (at (held-one a) 2) (held-one a)

end-two : (a b : Text) → is_dashed a ≡ false → is_dashed b ≡ false → walk shape.rules [] nothing_held (a ∷ b ∷ []) ≡ two-walk a b
unfolding two-walk
end-two a b e f = ap (λ (w : Walk). walked shape.rules [] w b) (one-walk a e) ∙ walked-plain shape.rules 2 b (held-one a) f

pub first-two : (a b : Text) → is_dashed a ≡ false → is_dashed b ≡ false
    → (first_of (codes "command") (matches_of program (a ∷ b ∷ [])) ≡ Some a) × (first_of (codes "count") (matches_of program (a ∷ b ∷ [])) ≡ Some b)
unfolding at held-one two-walk
first-two a b e f =
    let m : matches_of program (a ∷ b ∷ []) ≡ finished shape.rules (two-walk a b).held = ap (λ (w : Walk). finished shape.rules w.held) (end-two a b e f) in
    (ap (λ (r : List Row). first_of (codes "command") r) m, ap (λ (r : List Row). first_of (codes "count") r) m)

-- whether all passes, by where the walk ends and whether each word passed
abbrev all-pass : Walk → Bool → Bool
all-pass w b =
    entered_passes (built program) w.stopped
    && (b && (settle_passes shape.rules shape.args_override_self w.held &&
    (list_all default_passes shape.rules && is_valid shape (finished shape.rules w.held) (is_some (entered (built program) w.stopped)))))

words-one : (a : Text) → is_dashed a ≡ false → walk_passes shape [] (walk_from nothing_held) (a ∷ []) ≡ true
unfolding walk_passes at
words-one a e = ap (λ (b : Bool). b && true) (turn-passes shape 1 a nothing_held e)

words-two : (a b : Text) → is_dashed a ≡ false → is_dashed b ≡ false → walk_passes shape [] (walk_from nothing_held) (a ∷ b ∷ []) ≡ true
unfolding walk_passes at held-one
words-two a b e f =
    ap (λ (x : Bool). x && (turn_passes shape [] (walked shape.rules [] (walk_from nothing_held) a) b && true)) (turn-passes shape 1 a nothing_held e)
    ∙ (ap (λ (w : Walk). turn_passes shape [] w b && true) (one-walk a e) ∙ ap (λ (x : Bool). x && true) (turn-passes shape 2 b (held-one a) f))

pub takes-one : (a : Text) → is_dashed a ≡ false → takes program (a ∷ []) ≡ true
unfolding at held-one
takes-one a e = ap₂ all-pass (end-one a e) (words-one a e)

pub takes-two : (a b : Text) → is_dashed a ≡ false → is_dashed b ≡ false → takes program (a ∷ b ∷ []) ≡ true
unfolding at held-one two-walk
takes-two a b e f = ap₂ all-pass (end-two a b e f) (words-two a b e f)

-- a list that names a command has words without a hyphen in front
one-plain : (a : Text) → is_some (pair_of (a ∷ [])) ≡ true → is_dashed a ≡ false
one-plain a e = by (is_dashed a) refl
  where
    by : (b : Bool) → is_dashed a ≡ b → is_dashed a ≡ false
    by false q = q
    by true q = absurd (true≢false (sym e ∙ rw q refl))

two-plain : (a b : Text) → is_some (pair_of (a ∷ b ∷ [])) ≡ true → (is_dashed a ≡ false) × (is_dashed b ≡ false)
two-plain a b e = by (is_dashed a) (is_dashed b) refl refl
  where
    by : (x y : Bool) → is_dashed a ≡ x → is_dashed b ≡ y → (is_dashed a ≡ false) × (is_dashed b ≡ false)
    by false false p q = (p, q)
    by false true p q = absurd (true≢false (sym e ∙ rw (p, q) refl))
    by true y p q = absurd (true≢false (sym e ∙ rw p refl))

pub takes-all : (ws : List Text) → is_some (pair_of ws) ≡ true → takes program ws ≡ true
takes-all [] e = absurd (true≢false (sym e))
takes-all (a ∷ []) e = takes-one a (one-plain a e)
takes-all (a ∷ b ∷ []) e = takes-two a b (two-plain a b e).0 (two-plain a b e).1
takes-all (a ∷ b ∷ c ∷ more) e = absurd (true≢false (sym e))

-- the pair that the rows have
abbrev pub pair_in : Option Text → Option Text → Option (Text × Option Text)
pair_in a n = option_map (λ x. (x, n)) a

pub pair-is : (ws : List Text) → is_some (pair_of ws) ≡ true → pair_in (first_of (codes "command") (matches_of program ws)) (first_of (codes "count") (matches_of program ws)) ≡ pair_of ws
pair-is [] e = absurd (true≢false (sym e))
pair-is (a ∷ []) e = let d = one-plain a e in let f = first-one a d in ap₂ pair_in f.0 f.1 ∙ rw d refl
pair-is (a ∷ b ∷ []) e = let d = two-plain a b e in let f = first-two a b d.0 d.1 in ap₂ pair_in f.0 f.1 ∙ rw (d.0, d.1) refl
pair-is (a ∷ b ∷ c ∷ more) e = absurd (true≢false (sym e))

-- what the getters give
pub got-is : (ws : List Text) (m : ArgMatches) (a n : Option Text) → is_some (pair_of ws) ≡ true → HasMatchesOf program ws m
    → a ≡ first_value (found_of m) (codes "command") → n ≡ first_value (found_of m) (codes "count")
    → pair_in a n ≡ pair_of ws
got-is ws m a n e h p q =
    let rows = (h simple).0 in
    ap₂ pair_in (p ∙ (first_value-rows (found_of m) (codes "command") ∙ ap (λ (r : List Row). first_of (codes "command") r) rows)) (q
    ∙ (first_value-rows (found_of m) (codes "count") ∙ ap (λ (r : List Row). first_of (codes "count") r) rows))
    ∙ pair-is ws e
