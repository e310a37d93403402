-- A line that is written is read as itself.
use Rattle.std.proofs.Common.{◌≡◌, ℕ, ◌+◌, ◌%◌, ◌^◌, ◌<◌, ◌≤◌, Bool, true, false, not, cond, ◌&&◌, ◌==◌, nat_le, List, [], ◌∷◌, ◌++◌, Option, Some, None, refl, ap, ◌∙◌, rules, arith, codes}
use Rattle.std.proofs.Common.{bytes_eq, ◌⊎◌, inl, inr, eq-eqb}
use Rattle.std.specs.Fmt.{decimal}
use Rattle.std.specs.List.{list_all}
use Rattle.std.specs.Str.{all_ascii_digits}
use Rattle.std.proofs.lemmas.Bool.{and_parts, and_from, ne_eqb, leb-true}
use Rattle.std.proofs.lemmas.Fmt.{decimal_by_steps, digits_value-decimal}
use Rattle.std.proofs.lemmas.Str.Parse.{IsNumeralModel, numerals_by_fold}
use Rattle.hex.specs.Hex.{IsBytes, encode_with, encode_lower, lower_digits, decode_of}
use Rattle.hex.proofs.HexLemmas.{decode_of-encode_lower}
use Rattle.rpc_model.specs.declared.event.Event.{Event}
use Rattle.rpc_model.specs.declared.event.Event.TheVariants.{Reply, Lost, Backup, Deadline, Cancel}
use Rattle.rpc_model.specs.declared.entry.Origin.{Origin}
use Rattle.rpc_model.specs.declared.entry.Origin.TheVariants as origin
use Rattle.rpc_model.specs.declared.entry.Fate.{Fate}
use Rattle.rpc_model.specs.declared.entry.Fate.TheVariants as fate
use Rattle.rpc_model.specs.declared.journal.How.{How}
use Rattle.rpc_model.specs.declared.journal.How.TheVariants as how
use Rattle.rpc_model.specs.declared.line.Line.{Line}
use Rattle.rpc_model.specs.declared.line.Line.TheVariants as line
use Rattle.rpc_model.specs.Words.{digits_after}
use Rattle.rpc_model.specs.Texts.{hex_word, attempt_word, event_words, origin_words, fate_words, how_word, first_word, other_words, line_text}
use Rattle.journal_text.specs.Reading.{◌>>=◌, is_digit, number, number32, number64, bytes_said, both_numbers, attempt_said, how_said, fate_said, entry_said, line_said}
use Rattle.journal_text.specs.Reading.{words_said, spelled_so, line_of, ok_of}
use Rattle.journal_text.specs.Writing.{is_line, is_from, is_frame_fate, is_error_fate}
use Rattle.journal_text.specs.Typed.{Is32, Is64, IsTypedEvent, IsTypedOrigin, IsTypedFate, IsTypedLine}
use Rattle.journal_text.proofs.Plain.{lacks, all_lack, split_front, split_none, lacks-append, all_lack-append, split_words, words_lack, decimal_lacks, hex_lacks}

own : IsNumeralModel (λ ds. all_ascii_digits ds ≡ true) (digits_after 0)
own = numerals_by_fold _ (search rules) digits_after (search rules)

digits_push : (xs ys : List ℕ) → list_all is_digit xs ≡ true → list_all is_digit ys ≡ true → list_all is_digit (xs ++ ys) ≡ true
digits_push [] ys h k = k
digits_push (x ∷ xs) ys h k = let p = and_parts (is_digit x) (list_all is_digit xs) h in and_from (is_digit x) (list_all is_digit (xs ++ ys)) p.0 (digits_push xs ys p.1 k)

one_digit : (n : ℕ) → n < 10 → list_all is_digit ((48 + n) ∷ []) ≡ true
one_digit n h = grind arith

decimal_digits : (n : ℕ) → n < 2 ^ 64 → list_all is_digit (decimal n) ≡ true
decimal_digits n h =
    decimal_by_steps (λ k ds. list_all is_digit ds ≡ true) (λ k lt. one_digit k lt) (λ k ds le so_far. digits_push ds ((48 + k % 10) ∷ []) so_far (one_digit (k % 10) (omega arith))) n h

-- a number is read as itself
number_is : (most n : ℕ) → n ≤ most → most < 2 ^ 64 → number most (decimal n) ≡ Some n
unfolding number
number_is most n h small =
    let value : digits_after 0 (decimal n) ≡ n = digits_value-decimal own n (omega (arith, h, small)) in
    ap (λ (b : Bool). cond (b && nat_le (digits_after 0 (decimal n)) most) (Some (digits_after 0 (decimal n))) None) (decimal_digits n (omega (arith, h, small)))
    ∙ (ap (λ (k : ℕ). cond (nat_le k most) (Some k) None) value ∙ ap (λ (b : Bool). cond b (Some n) None) (let e : nat_le n most ≡ true = grind (arith, h) in e))

pub is32 : (n : ℕ) → Is32 n → number32 (decimal n) ≡ Some n
is32 n h = number_is 4294967295 n h (omega arith)

pub is64 : (n : ℕ) → Is64 n → number64 (decimal n) ≡ Some n
is64 n h = number_is 18446744073709551615 n h (omega arith)

and_false : (b : Bool) → (b && false) ≡ false
and_false true = refl
and_false false = refl

-- bytes are read as themselves
pub bytes_is : (bytes : List ℕ) → IsBytes bytes → bytes_said (hex_word bytes) ≡ Some bytes
unfolding encode_with
bytes_is [] h = refl
bytes_is (b ∷ bs) h =
    ap (λ (t : Bool). cond t (Some []) (ok_of (decode_of (encode_lower (b ∷ bs))))) (and_false _) ∙ ap (λ r. ok_of r) (decode_of-encode_lower (b ∷ bs) h)

-- an attempt is read as itself
pub attempt_is : (node attempt : ℕ) → Is32 node → Is32 attempt → attempt_said (attempt_word node attempt) ≡ Some (node, attempt)
attempt_is node attempt h k =
    ap (λ (ws : List (List ℕ)). both_numbers ws) (split_front 35 (decimal node) (decimal attempt) (decimal_lacks 35 node (omega arith) (omega (arith, h)))
    ∙ ap (λ (ws : List (List ℕ)). decimal node ∷ ws) (split_none 35 (decimal attempt) (decimal_lacks 35 attempt (omega arith) (omega (arith, k)))))
    ∙ rw (is32 node h, is32 attempt k) refl

pub how_is : (h : How) → how_said (how_word h) ≡ Some h
how_is how.End = refl
how_is how.Fault = refl
how_is how.Bad = refl
how_is how.Full = refl

fate_is : (f : Fate) → IsTypedFate f → (is_frame_fate f ≡ true) ⊎ (is_error_fate f ≡ true) → fate_said (fate_words f) ≡ Some f
fate_is (fate.Entry call place) t k = rw (is32 call t.0, is32 place t.1) refl
fate_is (fate.Gone word) t k = rw (is64 word t) refl
fate_is fate.Stray t k = refl
fate_is (fate.Dropped call) t k = rw (is32 call t) refl
fate_is (fate.Queued pass number) t k = elim k [ inl e ↦ absurd cc | inr e ↦ absurd cc ]

entry_is : (m : ℕ) (ev : Event) (o : Origin) → Is64 m → IsTypedEvent ev → IsTypedOrigin o → is_from ev o ≡ true
    → entry_said (decimal m ∷ (event_words ev ++ origin_words o)) ≡ Some (line.Entry (record { event = ev; moment = m; from = o }))
entry_is m (Reply node k code text) (origin.Frame wire place) h t s e = rw (is64 m h, attempt_is node k t.0 t.1, is32 code t.2, bytes_is text t.3, is32 wire s.0, is64 place s.1) refl
entry_is m (Reply node k code text) o h t s e = absurd cc
entry_is m (Lost node k code) (origin.Loss wire place) h t s e = rw (is64 m h, attempt_is node k t.0 t.1, is32 code t.2, is32 wire s.0, is64 place s.1) refl
entry_is m (Lost node k code) o h t s e = absurd cc
entry_is m (Backup node) (origin.Mark place) h t s e = rw (is64 m h, is32 node t, is64 place s) refl
entry_is m (Backup node) o h t s e = absurd cc
entry_is m (Deadline node) (origin.Mark place) h t s e = rw (is64 m h, is32 node t, is64 place s) refl
entry_is m (Deadline node) o h t s e = absurd cc
entry_is m Cancel (origin.Lane on place) h t s e = rw (is64 m h, is32 on s.0, is64 place s.1) refl
entry_is m Cancel o h t s e = absurd cc

said_is : (l : Line) → IsTypedLine l → is_line l ≡ true → words_said (first_word l ∷ other_words l) ≡ Some l
unfolding line_said
said_is (line.Call a b c d m) t k = rw (is32 a t.0, is64 b t.1, is32 c t.2, is32 d t.3, is64 m t.4) refl
said_is (line.Entry e) t k = entry_is e.moment e.event e.from t.0 t.1 t.2 (and_parts _ (is_from e.event e.from) k).1
said_is (line.Wire server h) t k = rw (is64 server t, how_is h) refl
said_is (line.Out s) t k = rw (is64 s.id t.0, bytes_is s.payload t.1) refl
said_is (line.In c) t k = rw (is64 c.id t.0, is32 c.code t.1, bytes_is c.payload t.2, fate_is c.fate t.3 (inl k)) refl
said_is (line.Loss l) t k = rw (is64 l.id t.0, is32 l.code t.1, is64 l.after t.2, fate_is l.fate t.3 (inr k)) refl
said_is line.Timer t k = refl
said_is (line.Mark m) t k = rw (is64 m.due t.0, is64 m.now t.1, is64 m.id t.2, is32 m.code t.3, fate_is m.fate t.4 (inr k)) refl
said_is (line.Lane n) t k = rw (is64 n t) refl
said_is (line.Cancel c) t k = rw (is64 c.id t.0, fate_is c.fate t.1 (inr k)) refl

-- ---- no word has a space or a newline

module _ (c : ℕ) (some : 0 < c) (low : c < 35) where
  ne : (b : ℕ) → 35 ≤ b → (b == c) ≡ false
  ne b h = ne_eqb b c (λ e. absurd (omega (arith, e, h, low)))

  word : (w : List ℕ) → list_all (λ b. nat_le 35 b) w ≡ true → lacks c w ≡ true
  unfolding lacks
  word [] h = refl
  word (b ∷ bs) h = let p = and_parts (nat_le 35 b) (list_all (λ b. nat_le 35 b) bs) h in and_from _ _ (ap (λ (t : Bool). not t) (ne b (leb-true 35 b p.0))) (word bs p.1)

  more : (w : List ℕ) (ws : List (List ℕ)) → lacks c w ≡ true → all_lack c ws ≡ true → all_lack c (w ∷ ws) ≡ true
  unfolding all_lack
  more w ws h k = and_from (lacks c w) (all_lack c ws) h k

  none : all_lack c [] ≡ true
  unfolding all_lack
  none = refl

  n32 : (n : ℕ) → Is32 n → lacks c (decimal n) ≡ true
  n32 n h = decimal_lacks c n (omega (arith, low)) (omega (arith, h))

  n64 : (n : ℕ) → Is64 n → lacks c (decimal n) ≡ true
  n64 n h = decimal_lacks c n (omega (arith, low)) (omega (arith, h))

  bytes_lack : (bytes : List ℕ) → lacks c (hex_word bytes) ≡ true
  bytes_lack bytes = hex_lacks c bytes (word lower_digits refl) (ne_eqb 0 c (λ e. absurd (omega (arith, e, some)))) (ne 45 (omega arith))

  attempt_lacks : (node attempt : ℕ) → Is32 node → Is32 attempt → lacks c (attempt_word node attempt) ≡ true
  unfolding lacks
  attempt_lacks node attempt h k = lacks-append c (decimal node) (35 ∷ decimal attempt) (n32 node h) (and_from _ _ (ap (λ (t : Bool). not t) (ne 35 (omega arith))) (n32 attempt k))

  event_lacks : (ev : Event) → IsTypedEvent ev → all_lack c (event_words ev) ≡ true
  event_lacks (Reply node k code text) t = more _ _ (word (codes "reply") refl) (more _ _ (attempt_lacks node k t.0 t.1) (more _ _ (n32 code t.2) (more _ _ (bytes_lack text) none)))
  event_lacks (Lost node k code) t = more _ _ (word (codes "lost") refl) (more _ _ (attempt_lacks node k t.0 t.1) (more _ _ (n32 code t.2) none))
  event_lacks (Backup node) t = more _ _ (word (codes "backup") refl) (more _ _ (n32 node t) none)
  event_lacks (Deadline node) t = more _ _ (word (codes "deadline") refl) (more _ _ (n32 node t) none)
  event_lacks Cancel t = more _ _ (word (codes "cancel") refl) none

  origin_lacks : (o : Origin) → IsTypedOrigin o → all_lack c (origin_words o) ≡ true
  origin_lacks (origin.Frame wire place) t = more _ _ (n32 wire t.0) (more _ _ (n64 place t.1) none)
  origin_lacks (origin.Loss wire place) t = more _ _ (n32 wire t.0) (more _ _ (n64 place t.1) none)
  origin_lacks (origin.Mark place) t = more _ _ (n64 place t) none
  origin_lacks (origin.Lane on place) t = more _ _ (n32 on t.0) (more _ _ (n64 place t.1) none)
  origin_lacks (origin.Queued pass number) t = none

  fate_lacks : (f : Fate) → IsTypedFate f → all_lack c (fate_words f) ≡ true
  fate_lacks (fate.Entry call place) t = more _ _ (word (codes "entry") refl) (more _ _ (n32 call t.0) (more _ _ (n32 place t.1) none))
  fate_lacks (fate.Gone w) t = more _ _ (word (codes "gone") refl) (more _ _ (n64 w t) none)
  fate_lacks fate.Stray t = more _ _ (word (codes "stray") refl) none
  fate_lacks (fate.Dropped call) t = more _ _ (word (codes "dropped") refl) (more _ _ (n32 call t) none)
  fate_lacks (fate.Queued pass number) t = none

  how_lacks : (h : How) → lacks c (how_word h) ≡ true
  how_lacks how.End = word (codes "end") refl
  how_lacks how.Fault = word (codes "fault") refl
  how_lacks how.Bad = word (codes "bad") refl
  how_lacks how.Full = word (codes "full") refl

  pub first_lacks : (l : Line) → lacks c (first_word l) ≡ true
  first_lacks (line.Call a b d e m) = word (codes "call") refl
  first_lacks (line.Entry e) = word (codes "e") refl
  first_lacks (line.Wire server h) = word (codes "wire") refl
  first_lacks (line.Out s) = word (codes "out") refl
  first_lacks (line.In x) = word (codes "in") refl
  first_lacks (line.Loss l) = word (codes "loss") refl
  first_lacks line.Timer = word (codes "timer") refl
  first_lacks (line.Mark m) = word (codes "mark") refl
  first_lacks (line.Lane n) = word (codes "lane") refl
  first_lacks (line.Cancel x) = word (codes "cancel") refl

  pub others_lack : (l : Line) → IsTypedLine l → all_lack c (other_words l) ≡ true
  others_lack (line.Call a b d e m) t = more _ _ (n32 a t.0) (more _ _ (n64 b t.1) (more _ _ (n32 d t.2) (more _ _ (n32 e t.3) (more _ _ (n64 m t.4) none))))
  others_lack (line.Entry e) t = more _ _ (n64 e.moment t.0) (all_lack-append c (event_words e.event) (origin_words e.from) (event_lacks e.event t.1) (origin_lacks e.from t.2))
  others_lack (line.Wire server h) t = more _ _ (n64 server t) (more _ _ (how_lacks h) none)
  others_lack (line.Out s) t = more _ _ (n64 s.id t.0) (more _ _ (bytes_lack s.payload) none)
  others_lack (line.In x) t = more _ _ (n64 x.id t.0) (more _ _ (n32 x.code t.1) (more _ _ (bytes_lack x.payload) (fate_lacks x.fate t.3)))
  others_lack (line.Loss l) t = more _ _ (n64 l.id t.0) (more _ _ (n32 l.code t.1) (more _ _ (n64 l.after t.2) (fate_lacks l.fate t.3)))
  others_lack line.Timer t = none
  others_lack (line.Mark m) t = more _ _ (n64 m.due t.0) (more _ _ (n64 m.now t.1) (more _ _ (n64 m.id t.2) (more _ _ (n32 m.code t.3) (fate_lacks m.fate t.4))))
  others_lack (line.Lane n) t = more _ _ (n64 n t) none
  others_lack (line.Cancel x) t = more _ _ (n64 x.id t.0) (fate_lacks x.fate t.1)

same_bytes : (xs : List ℕ) → bytes_eq xs xs ≡ true
same_bytes [] = refl
same_bytes (x ∷ xs) = and_from _ _ (eq-eqb x x refl) (same_bytes xs)

-- a line is read as itself
pub line_reads : (l : Line) → IsTypedLine l → is_line l ≡ true → line_of (line_text l) ≡ Some l
unfolding line_of
line_reads l t k =
    ap (λ (ws : List (List ℕ)). words_said ws >>= spelled_so (line_text l))
    (split_words (first_word l) (other_words l) (first_lacks 32 (omega arith) (omega arith) l) (others_lack 32 (omega arith) (omega arith) l t))
    ∙ (ap (λ (o : Option Line). o >>= spelled_so (line_text l)) (said_is l t k)
    ∙ ap (λ (b : Bool). cond b (Some l) None) (and_from (is_line l) (bytes_eq (line_text l) (line_text l)) k (same_bytes (line_text l))))

-- and has no newline
pub line_lacks : (l : Line) → IsTypedLine l → lacks 10 (line_text l) ≡ true
line_lacks l t = words_lack (first_word l) (other_words l) (first_lacks 10 (omega arith) (omega arith) l) (others_lack 10 (omega arith) (omega arith) l t)
