-- What an event at a selective node itself brings it.
use Rattle.std.specs.Prelude.{Option, None, Some, if◌then◌else◌}
use Rattle.rpc_model.specs.declared.codes.TheConstants.{ERPCTIMEDOUT}
use Rattle.rpc_model.specs.declared.event.End.{End}
use Rattle.rpc_model.specs.declared.event.End.TheVariants.{Bad}
use Rattle.rpc_model.specs.declared.event.Event.{Event}
use Rattle.rpc_model.specs.Machine.{is_deadline}

abbrev pub timed_out : Event → Option End
timed_out event = if is_deadline event then Some (Bad ERPCTIMEDOUT) else None
