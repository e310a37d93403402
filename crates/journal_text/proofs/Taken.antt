-- The lines of a text that were taken, and those that are left.
use Rattle.std.proofs.Common.{◌≡◌, ℕ, ◌+◌, ◌<◌, ◌≤◌, Bool, true, false, cond, ◌&&◌, ◌==◌, List, [], ◌∷◌, ◌++◌, length, get_or, drop, map, Option, Some, None, Result, Ok, Err, Bor, refl, ap}
use Rattle.std.proofs.Common.{sym, subst, ◌∙◌}
use Rattle.std.proofs.lemmas.List.{at_drop_more, at_drop_all, map-append}
use Rattle.std.specs.List.{slice_split}
use Rattle.rpc_model.specs.declared.journal.Journal.{Journal}
use Rattle.journal_text.specs.declared.fault.LineFault.{LineFault}
use Rattle.journal_text.specs.declared.fault.LineFault.TheVariants as line_fault
use Rattle.journal_text.specs.declared.fault.JournalFault.{JournalFault}
use Rattle.journal_text.specs.declared.fault.JournalFault.TheVariants as fault
use Rattle.journal_text.specs.Drafts.{Draft, begun, is_lanes, journal_of_draft, with_text, or_else, finished, with_piece, with_pieces, journal_of}
use Rattle.journal_text.specs.Empty.{is_empty}
use Rattle.journal_text.specs.Judging.{Judged, Reads, Names}

-- a line behind which others stand
line_first : (d : Draft) (n : ℕ) (t : List ℕ) (ts : List (List ℕ)) (rest : List ℕ) (next : Draft → Result Journal ℕ) → with_piece d n t (ts ++ rest ∷ []) next ≡ or_else (with_text d t) n next
line_first d n t [] rest next = refl
line_first d n t (u ∷ us) rest next = refl

pub pieces_first : (d : Draft) (n : ℕ) (t : List ℕ) (ts : List (List ℕ)) (rest : List ℕ)
    → with_pieces d n (t ∷ (ts ++ rest ∷ [])) ≡ or_else (with_text d t) n (λ next. with_pieces next (n + 1) (ts ++ rest ∷ []))
unfolding with_pieces
pieces_first d n t ts rest = line_first d n t ts rest (λ next. with_pieces next (n + 1) (ts ++ rest ∷ []))

-- what stands behind all lines
pub pieces_last : (d : Draft) (n : ℕ) (rest : List ℕ) → with_pieces d n (rest ∷ []) ≡ finished d n rest
unfolding with_pieces
pieces_last d n rest = refl

module _ (lines : List (Bor (List ℕ))) (rest : List ℕ) where
  -- the lines from this place on, and what stands behind them
  abbrev pub left_from : ℕ → List (List ℕ)
  left_from i = map (λ t. t.now) (drop i lines) ++ rest ∷ []

  step : (d : Draft) (i : ℕ) (x : Bor (List ℕ)) → i < length lines
      → with_pieces d (i + 1) (left_from i) ≡ or_else (with_text d (get_or lines i x).now) (i + 1) (λ next. with_pieces next (i + 1 + 1) (left_from (i + 1)))
  step d i x h =
      at_drop_more (λ (ls : List (Bor (List ℕ))). with_pieces d (i + 1) (map (λ t. t.now) ls ++ rest ∷ [])) lines i x h
      ∙ pieces_first d (i + 1) (get_or lines i x).now (map (λ t. t.now) (drop (i + 1) lines)) rest

  -- one more line was taken
  pub taken : (d d' : Draft) (i : ℕ) (x : Bor (List ℕ)) (all : Result Journal ℕ) → i < length lines → with_text d (get_or lines i x).now ≡ Some d'
      → with_pieces d (i + 1) (left_from i) ≡ all → with_pieces d' (i + 1 + 1) (left_from (i + 1)) ≡ all
  taken d d' i x all h e left =
      sym (step d i x h ∙ ap (λ (o : Option Draft). or_else o (i + 1) (λ next. with_pieces next (i + 1 + 1) (left_from (i + 1)))) e) ∙ left

  -- the next line may not come
  pub refused : (d : Draft) (i : ℕ) (x : Bor (List ℕ)) (all : Result Journal ℕ) → i < length lines → with_text d (get_or lines i x).now ≡ None
      → with_pieces d (i + 1) (left_from i) ≡ all → all ≡ Err (i + 1)
  refused d i x all h e left =
      sym left ∙ (step d i x h ∙ ap (λ (o : Option Draft). or_else o (i + 1) (λ next. with_pieces next (i + 1 + 1) (left_from (i + 1)))) e)

  -- all lines were taken
  pub at_end : (d : Draft) (i : ℕ) (all : Result Journal ℕ) → length lines ≤ i → with_pieces d (i + 1) (left_from i) ≡ all → all ≡ finished d (i + 1) rest
  at_end d i all h left =
      sym left ∙ (at_drop_all (λ (ls : List (Bor (List ℕ))). with_pieces d (i + 1) (map (λ t. t.now) ls ++ rest ∷ [])) lines i h ∙ pieces_last d (i + 1) rest)

-- a draft that may not end there
pub may_not_end : (d : Draft) (n : ℕ) (rest : List ℕ) → is_lanes d.stage ≡ false → finished d n rest ≡ Err n
may_not_end d n rest e = ap (λ (b : Bool). cond (b && is_empty rest) (Ok (journal_of_draft d)) (Err n)) e

-- something stands behind the last newline
pub no_newline : (d : Draft) (n : ℕ) (rest : List ℕ) → is_lanes d.stage ≡ true → is_empty rest ≡ false → finished d n rest ≡ Err n
no_newline d n rest e f = ap (λ (b : Bool). cond (b && is_empty rest) (Ok (journal_of_draft d)) (Err n)) e ∙ ap (λ (b : Bool). cond b (Ok (journal_of_draft d)) (Err n)) f

-- the text ends there
pub ends_there : (d : Draft) (n : ℕ) (rest : List ℕ) → is_lanes d.stage ≡ true → is_empty rest ≡ true → finished d n rest ≡ Ok (journal_of_draft d)
ends_there d n rest e f = ap (λ (b : Bool). cond (b && is_empty rest) (Ok (journal_of_draft d)) (Err n)) e ∙ ap (λ (b : Bool). cond b (Ok (journal_of_draft d)) (Err n)) f

-- a fault that names the line which the definition names
pub reads_bad : (f : JournalFault) (n : ℕ) (says : Result Journal ℕ) → Names f n → says ≡ Err n → Reads (Err f) says
reads_bad (fault.Bad m) n says e is = is ∙ ap (λ (k : ℕ). Err k) (sym e)
reads_bad fault.Memory n says e is = tt

-- the pieces of a text are its lines and what stands behind them
pub text_is : (bytes : List ℕ) (pieces slice lines : List (Bor (List ℕ))) (rest : Bor (List ℕ)) → map (λ t. t.now) pieces ≡ slice_split (λ b. b == 10) bytes → slice ≡ pieces
    → slice ≡ lines ++ rest ∷ []
    → journal_of bytes ≡ with_pieces begun 1 (map (λ t. t.now) lines ++ rest.now ∷ [])
unfolding journal_of
text_is bytes pieces slice lines rest cut same parts =
    ap (λ (ps : List (List ℕ)). with_pieces begun 1 ps) (sym cut ∙ (ap (λ (l : List (Bor (List ℕ))). map (λ t. t.now) l) (sym same ∙ parts) ∙ map-append (λ t. t.now) lines (rest ∷ [])))

-- a line that was refused
pub judged_refused : {A : Type 0} (e : LineFault) (new : A) (says : Option A) → e ≡ line_fault.Refused → Judged (Err e) new says → says ≡ None
judged_refused e new says is judged = subst (λ (x : LineFault). Judged (Err x) new says) is judged
