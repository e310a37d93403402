-- What a table of calls finds by the places of their numbers.
use Rattle.std.proofs.Common.{◌≡◌, ℕ, nat_eq, false, List, get_or, length, position, Option, None, Some, is_some, ap, sym, ◌∙◌, refl}
use Rattle.std.specs.Map.{keys_of, lookup}
use Rattle.std.specs.Option.{option_map}
use Rattle.std.proofs.lemmas.Option.{slice_get_read, slice_get-map}
use Rattle.indexmap.proofs.MapLemmas.{Found-position, some_index}
use Rattle.sim_run.specs.declared.ticket.Ticket.{Ticket}
use Rattle.sim_run.specs.Called.{AreNumbers}

-- What is not some is none.
none_is : {X : Type 0} (o : Option X) → is_some o ≡ false → o ≡ None
none_is None e = refl
none_is (Some x) e = absurd cc

-- No call has a number that isn't among the numbers.
pub no_call : (numbers : List ℕ) (entries : List (ℕ × Option Ticket)) (call : ℕ) → AreNumbers numbers entries → None ≡ position (nat_eq call) numbers → None ≡ lookup (nat_eq call) entries
no_call numbers entries call are none =
    sym (none_is (lookup (nat_eq call) entries) (sym (some_index (nat_eq call) entries) ∙ ap is_some (sym (ap (position (nat_eq call)) are) ∙ sym none)))

-- A number that no call has isn't among the numbers.
pub new_number : (numbers : List ℕ) (entries : List (ℕ × Option Ticket)) (call : ℕ) → AreNumbers numbers entries → lookup (nat_eq call) entries ≡ None → position (nat_eq call) numbers ≡ None
new_number numbers entries call are none =
    ap (position (nat_eq call)) are ∙ none_is (position (nat_eq call) (keys_of entries)) (some_index (nat_eq call) entries ∙ ap is_some none)

-- The call at the place of its number is the one that is looked up.
pub call_at : (numbers : List ℕ) (entries : List (ℕ × Option Ticket)) (call place : ℕ) (entry : ℕ × Option Ticket) → AreNumbers numbers entries
    → Some place ≡ position (nat_eq call) numbers → entry ≡ get_or entries place entry → Some entry.1 ≡ lookup (nat_eq call) entries
call_at numbers entries call place entry are is at =
    let found = Found-position (nat_eq call) entries place (sym (ap (position (nat_eq call)) are) ∙ sym is) in
    sym (found.value ∙ slice_get-map (λ e. e.1) entries place ∙ ap (option_map (λ e. e.1)) (slice_get_read entries (length entries) place entry refl found.within at))
