-- The answer of a serving loop whose answering stopped so: this project's own choice.
use Rattle.echo_server.specs.declared.served.Served.{Served}
use Rattle.echo_server.specs.declared.served.Served.TheVariants.{Closed, WriteFault, Memory}
use Rattle.echo_server.specs.declared.served.Halt.{Halt}
use Rattle.echo_server.specs.declared.served.Halt.TheVariants as halt

abbrev pub served_of : Halt → Served
served_of halt.Closed = Closed
served_of halt.WriteFault = WriteFault
served_of halt.Memory = Memory
