-- Whether bytes are UTF-8, as a test.
use Rattle.std.proofs.Common.{◌≡◌, ℕ, List, Bool, true, false, Result, Ok, Err, refl, sym, ◌∙◌}
use Rattle.std.specs.Prelude.{IsTrue, ◌↔◌}
use Rattle.std.specs.Result.{MatchResult, is_ok}
use Rattle.std.specs.Str.{IsUtf8, is_utf8}
use Rattle.std.proofs.lemmas.Str.{IsUtf8-from_is_utf8, is_utf8-from_IsUtf8}

by_test : (b : Bool) → ¬ (b ≡ true) → b ≡ false
by_test true h = absurd (h refl)
by_test false h = refl

pub is_utf8_not : (bytes : List ℕ) → ¬ (IsUtf8 bytes) → is_utf8 bytes ≡ false
is_utf8_not bytes h = by_test (is_utf8 bytes) (λ e. h (IsUtf8-from_is_utf8 bytes e))

-- the test of UTF-8 that std's reader of texts makes
pub text_test : {S E : Type 0} (bytes : List ℕ) (P : S → Type 0) (Q : E → Type 0) (r : Result S E) → MatchResult r (λ s. P s × IsUtf8 bytes) (λ e. ¬ (IsUtf8 bytes) × Q e) → is_ok r ≡ is_utf8 bytes
text_test bytes P Q (Ok s) h = sym (is_utf8-from_IsUtf8 bytes h.1)
text_test bytes P Q (Err e) h = sym (is_utf8_not bytes h.0)

pub text_meaning : (bytes : List ℕ) (b : Bool) → b ≡ is_utf8 bytes → IsTrue b ↔ IsUtf8 bytes
text_meaning bytes b e = (λ yes. IsUtf8-from_is_utf8 bytes (sym e ∙ yes), λ text. e ∙ is_utf8-from_IsUtf8 bytes text)
