-- Which codes another attempt may follow. The numbers are brpc's and the system's; the list is this project's own choice.
use Rattle.std.specs.Prelude.{ℕ, Bool, ◌==◌, ◌||◌}
use Rattle.rpc_model.specs.declared.codes.TheConstants.{EFAILEDSOCKET, EHOSTDOWN, ECONNREFUSED, ECONNRESET, EPIPE, ELOGOFF, ELIMIT}

unfoldable pub retriable : ℕ → Bool
retriable code = code == EFAILEDSOCKET || code == EHOSTDOWN || code == ECONNREFUSED || code == ECONNRESET || code == EPIPE || code == ELOGOFF || code == ELIMIT
