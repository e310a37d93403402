-- What is read is the text of the journal that it is read as.
use Rattle.std.proofs.Common.{◌≡◌, ℕ, ◌+◌, Bool, true, false, cond, ◌&&◌, ◌==◌, List, [], ◌∷◌, ◌++◌, Option, Some, None, Result, Ok, refl, ap, sym, subst, ◌∙◌, rules, append_assoc}
use Rattle.std.proofs.Common.{append-nil, codes, bytes_eq}
use Rattle.std.specs.Prelude.{IsTrue}
use Rattle.std.specs.List.{join_with_byte, slice_split}
use Rattle.std.proofs.lemmas.Bool.{and_parts}
use Rattle.std.proofs.lemmas.List.Elements.{All-push}
use Rattle.std.proofs.lemmas.List.Splits.{join_with_byte-slice_split}
use Rattle.std.proofs.lemmas.Slice.Eq.{bytes_eq-Decides}
use Rattle.rpc_model.specs.declared.journal.Journal.{Journal}
use Rattle.rpc_model.specs.declared.line.Line.{Line}
use Rattle.rpc_model.specs.Texts.{line_text, text_of, journal_lines, journal_text}
use Rattle.journal_text.specs.declared.draft.Stage.{Stage}
use Rattle.journal_text.specs.declared.draft.Stage.TheVariants.{Calls, Wires, Marks, Lanes}
use Rattle.journal_text.specs.Writing.{is_line, AreLines, IsWritable}
use Rattle.journal_text.specs.Reading.{◌>>=◌, words_said, spelled_so, line_of}
use Rattle.journal_text.specs.Drafts.{Draft, begun, with_line, with_text, or_else, journal_of_draft, finished, with_pieces, journal_of}
use Rattle.journal_text.proofs.Lists.{text_of_append}
use Rattle.journal_text.proofs.Shown.{lines_at, lines_of, IsKept, Took, took_line}

pub bytes_are : (xs ys : List ℕ) → bytes_eq xs ys ≡ true → xs ≡ ys
bytes_are xs ys h = search (rules, bytes_eq-Decides)

kept_if : {A : Type 0} (b : Bool) (x y : A) → cond b (Some x) None ≡ Some y → (b ≡ true) × (x ≡ y)
kept_if true x y h = (refl, cc)
kept_if false x y h = absurd cc

-- what a line is whose text these bytes are
said_so : (o : Option Line) (t : List ℕ) (l : Line) → (o >>= spelled_so t) ≡ Some l → (is_line l ≡ true) × (line_text l ≡ t)
said_so None t l h = absurd cc
said_so (Some x) t l h =
    let p = kept_if (is_line x && bytes_eq (line_text x) t) x l h in
    let q = and_parts (is_line x) (bytes_eq (line_text x) t) p.0 in
    (subst (λ (y : Line). is_line y ≡ true) p.1 q.0, subst (λ (y : Line). line_text y ≡ t) p.1 (bytes_are (line_text x) t q.1))

pub line_is : (t : List ℕ) (l : Line) → line_of t ≡ Some l → (is_line l ≡ true) × (line_text l ≡ t)
unfolding line_of
line_is t l h = said_so (words_said (slice_split (λ b. b == 32) t)) t l h

taken_text : (o : Option Line) (d d' : Draft) → (o >>= with_line d) ≡ Some d' → (l : Line) × (o ≡ Some l) × (with_line d l ≡ Some d')
taken_text None d d' h = absurd cc
taken_text (Some l) d d' h = (l, refl, h)

-- so far: the lines taken are these, and each may stand in a journal
pub record IsGood (d : Draft) : Type 0 where
  pub kept : IsKept d.stage d
  pub lines : AreLines (lines_of d)

one_text : (l : Line) → text_of (l ∷ []) ≡ line_text l ++ codes "\n"
unfolding text_of
one_text l = append-nil (line_text l ++ codes "\n")

-- one more line of text
text_taken : (d d' : Draft) (t : List ℕ) → IsGood d → with_text d t ≡ Some d' → IsGood d' × (text_of (lines_of d') ≡ text_of (lines_of d) ++ (t ++ codes "\n"))
text_taken d d' t g h =
    let p = taken_text (line_of t) d d' h in
    let l : Line = p.0 in
    let is = line_is t l p.1 in
    let more : Took d d' l = took_line d d' l g.kept p.2 in (
      record { kept = more.kept; lines = subst (λ (ls : List Line). AreLines ls) (sym more.lines) (All-push (λ (x : Line). IsTrue (is_line x)) (lines_of d) l g.lines is.0) },
      ap (λ (ls : List Line). text_of ls) more.lines ∙ (text_of_append (lines_of d) (l ∷ []) ∙ ap (λ (x : List ℕ). text_of (lines_of d) ++ x) (one_text l ∙ ap (λ (x : List ℕ). x ++ codes "\n") is.1)),
    )

-- a text of a draft and more is the text of this journal, which may be written
abbrev pub Spells : Draft → List ℕ → Journal → Type 0
Spells d more j = (text_of (lines_of d) ++ more ≡ journal_text j) × IsWritable j

ok_is : (x y : Journal) (r : Result Journal ℕ) → r ≡ Ok x → r ≡ Ok y → x ≡ y
ok_is x y r e f = cc

ends : (s : Stage) (d : Draft) (n : ℕ) (rest : List ℕ) (j : Journal) → IsGood (record d { stage = s }) → finished (record d { stage = s }) n rest ≡ Ok j → Spells (record d { stage = s }) rest j
unfolding journal_text journal_lines
ends Lanes d n [] j g h =
    let e : journal_of_draft d ≡ j = ok_is (journal_of_draft d) j (Ok (journal_of_draft d)) refl h in (
      append-nil (text_of (lines_at Lanes d)) ∙ ap (λ (x : Journal). journal_text x) e,
      subst (λ (x : Journal). IsWritable x) e (record { lines = g.lines; some_lane = g.kept.0; few_lanes = g.kept.1 }),
    )
ends Lanes d n (b ∷ bs) j g h = absurd cc
ends Calls d n rest j g h = absurd cc
ends Wires d n rest j g h = absurd cc
ends Marks d n rest j g h = absurd cc

or_taken : (o : Option Draft) (n : ℕ) (next : Draft → Result Journal ℕ) (j : Journal) → or_else o n next ≡ Ok j → (d : Draft) × (o ≡ Some d) × (next d ≡ Ok j)
or_taken None n next j h = absurd cc
or_taken (Some d) n next j h = (d, refl, h)

-- the pieces that a draft takes are the rest of the text
pub spells_pieces : (d : Draft) (n : ℕ) (ps : List (List ℕ)) (j : Journal) → IsGood d → with_pieces d n ps ≡ Ok j → Spells d (join_with_byte 10 ps) j
unfolding with_pieces
spells_pieces d n [] j g h = absurd cc
spells_pieces d n (t ∷ []) j g h = ends d.stage d n t j g h
spells_pieces d n (t ∷ u ∷ us) j g h =
    let p = or_taken (with_text d t) n (λ next. with_pieces next (n + 1) (u ∷ us)) j h in
    let q = text_taken d p.0 t g p.1 in
    let r = spells_pieces p.0 (n + 1) (u ∷ us) j q.0 p.2 in
    let rest : List ℕ = join_with_byte 10 (u ∷ us) in (
      ap (λ (x : List ℕ). text_of (lines_of d) ++ x) (sym (append_assoc t (codes "\n") rest))
          ∙ (sym (append_assoc (text_of (lines_of d)) (t ++ codes "\n") rest) ∙ (ap (λ (x : List ℕ). x ++ rest) (sym q.1) ∙ r.0)),
      r.1,
    )

-- a text that is read is the one spelling of its journal
pub reads_spelling : (bytes : List ℕ) (j : Journal) → journal_of bytes ≡ Ok j → (bytes ≡ journal_text j) × IsWritable j
unfolding journal_of text_of
reads_spelling bytes j h =
    let s = spells_pieces begun 1 (slice_split (λ b. b == 10) bytes) j (record { kept = (refl, refl, refl); lines = search rules }) h in
    (sym (join_with_byte-slice_split 10 bytes) ∙ s.0, s.1)

pub is_spelled : (bytes : List ℕ) (j : Journal) → journal_of bytes ≡ Ok j → journal_text j ≡ bytes
is_spelled bytes j h = sym (reads_spelling bytes j h).0

pub is_writable : (bytes : List ℕ) (j : Journal) → journal_of bytes ≡ Ok j → IsWritable j
is_writable bytes j h = (reads_spelling bytes j h).1
