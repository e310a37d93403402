-- The text that an event brings.
use Rattle.std.specs.Prelude.{ℕ, List, []}
use Rattle.rpc_model.specs.declared.event.Event.{Event}
use Rattle.rpc_model.specs.declared.event.Event.TheVariants.{Reply, Lost, Backup, Deadline, Cancel}

abbrev pub text_of : Event → List ℕ
text_of (Reply node attempt code text) = text
text_of (Lost node attempt code) = []
text_of (Backup node) = []
text_of (Deadline node) = []
text_of Cancel = []
