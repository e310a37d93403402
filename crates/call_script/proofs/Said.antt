-- Lines that are judged one after the other.
use Rattle.std.proofs.Common.{◌≡◌, ℕ, ◌+◌, ◌≤◌, ◌==◌, true, false, not, cond, List, [], ◌∷◌, length, take, drop, position, Some, None, Result, Ok, Err, ap, sym, refl, ◌∙◌, arith}
use Rattle.std.specs.List.{slice_split, onto_first, position_or_len, prefix_len}
use Rattle.std.proofs.Math.ListN.{length-take}
use Rattle.std.proofs.lemmas.List.Sums.{prefix_len-le-length}
use Rattle.rpc_model.specs.declared.script.Cause.{Cause}
use Rattle.rpc_model.specs.Before.{Before}
use Rattle.rpc_model.specs.Lines.{line_says}
use Rattle.rpc_model.specs.Script.{lines_say, line_judged}
use Rattle.rpc_model.proofs.First.{position_none, position_some}
use Rattle.call_script.specs.declared.fault.LineFault.{LineFault}
use Rattle.call_script.specs.declared.fault.LineFault.TheVariants.{Refused, Memory}
use Rattle.call_script.specs.Judged.{Gives, SaysLines, line_fault_at}
use Rattle.call_script.specs.Spelled.{line_of, lines_behind}

-- A text is its first line and the lines behind it.
split_line : (text : List ℕ) → slice_split (λ b. b == 10) text ≡ line_of text ∷ lines_behind text
split_line [] = refl
split_line (b ∷ bs) =
    elim (b == 10) as (λ z. cond z ([] ∷ slice_split (λ x. x == 10) bs) (onto_first b (slice_split (λ x. x == 10) bs))
    ≡ cond z [] (b ∷ line_of bs) ∷ cond z (slice_split (λ x. x == 10) bs) (lines_behind bs)) [
      | true ↦ refl
      | false ↦ ap (onto_first b) (split_line bs)
    ]

-- The first line is the front of the text.
line_front : (text : List ℕ) → take (length (line_of text)) text ≡ line_of text
line_front [] = refl
line_front (b ∷ bs) =
    elim (b == 10) as (λ z. take (length (cond z [] (b ∷ line_of bs))) (b ∷ bs) ≡ cond z [] (b ∷ line_of bs)) [
      | true ↦ refl
      | false ↦ ap (λ (line : List ℕ). b ∷ line) (line_front bs)
    ]

-- What is split off where the first line ends is that line.
pub line_taken : (text line : List ℕ) (n : ℕ) → line ≡ take n text → n ≡ length (line_of text) → line ≡ line_of text
line_taken text line n e same = e ∙ ap (λ (m : ℕ). take m text) same ∙ line_front text

pub line_short : (text : List ℕ) → length (line_of text) ≤ length text
line_short text = omega (arith, ap length (line_front text), length-take (length (line_of text)) text)

-- the lines of what stands from a line's end on
abbrev pub lines_from : List ℕ → List (List ℕ)
lines_from [] = []
lines_from (b ∷ bs) = slice_split (λ x. x == 10) bs

pub lines_none : (bytes : List ℕ) → length bytes ≡ 0 → lines_from bytes ≡ []
lines_none [] none = refl
lines_none (b ∷ bs) none = absurd (omega (arith, none))

line_end : (text : List ℕ) → lines_behind text ≡ lines_from (drop (length (line_of text)) text)
line_end [] = refl
line_end (b ∷ bs) =
    elim (b == 10) as (λ z. cond z (slice_split (λ x. x == 10) bs) (lines_behind bs) ≡ lines_from (drop (length (cond z [] (b ∷ line_of bs))) (b ∷ bs))) [
      | true ↦ refl
      | false ↦ line_end bs
    ]

-- The first line ends where the first newline stands.
newline_at : (text : List ℕ) → position_or_len (λ b. b == 10) text ≡ length (line_of text)
newline_at [] = refl
newline_at (b ∷ bs) =
    elim (b == 10) as (λ z. cond (not z) (1 + prefix_len (λ x. not (x == 10)) bs) 0 ≡ length (cond z [] (b ∷ line_of bs))) [
      | true ↦ refl
      | false ↦ omega (arith, newline_at bs)
    ]

pub newline_some : (text : List ℕ) (at : ℕ) → position (λ b. b == 10) text ≡ Some at → at ≡ length (line_of text)
newline_some text at e = let p = position_some (λ b. b == 10) text at e in sym p.0 ∙ newline_at text

pub newline_none : (text : List ℕ) → position (λ b. b == 10) text ≡ None → length text ≡ length (line_of text)
newline_none text e =
    omega (arith, position_none (λ b. b == 10) text e, newline_at text, prefix_len-le-length (λ (b : ℕ). not (b == 10)) text)

said-first : (n : ℕ) (before : Before) (text : List ℕ)
    → lines_say n before (slice_split (λ b. b == 10) text) ≡ line_judged n (λ next. lines_say (n + 1) next (lines_behind text)) (line_says before (line_of text))
said-first n before text = ap (lines_say n before) (split_line text)

-- A line that is accepted, with no line behind it or some.
pub said-accepted : (n : ℕ) (before after : Before) (text line behind : List ℕ) (m : ℕ) → line ≡ line_of text → behind ≡ drop m text → m ≡ length (line_of text) → line_says before line ≡ Ok after
    → lines_say n before (slice_split (λ b. b == 10) text) ≡ lines_say (n + 1) after (lines_from behind)
said-accepted n before after text line behind m e back same ok =
    said-first n before text ∙ ap (λ (said : Result Before Cause). line_judged n (λ next. lines_say (n + 1) next (lines_behind text)) said) (ap (line_says before) (sym e) ∙ ok)
    ∙ ap (lines_say (n + 1) after) (line_end text ∙ ap lines_from (ap (λ (k : ℕ). drop k text) (sym same) ∙ sym back))

-- A line that is refused.
said-refused : (n : ℕ) (before : Before) (cause : Cause) (text line : List ℕ) → line ≡ line_of text → line_says before line ≡ Err cause
    → lines_say n before (slice_split (λ b. b == 10) text) ≡ Err (n, cause)
said-refused n before cause text line e refused =
    said-first n before text ∙ ap (λ (said : Result Before Cause). line_judged n (λ next. lines_say (n + 1) next (lines_behind text)) said) (ap (line_says before) (sym e) ∙ refused)

-- A line that isn't taken.
pub said-fault : (n : ℕ) (before after : Before) (fault : LineFault) (text line : List ℕ) → line ≡ line_of text
    → Gives {X = Unit {0}} (λ done. after) (Err fault) (line_says before line) → SaysLines (Err (line_fault_at n fault)) (lines_say n before (slice_split (λ b. b == 10) text))
said-fault n before after (Refused cause) text line e refused = said-refused n before cause text line e refused
said-fault n before after Memory text line e refused = tt
