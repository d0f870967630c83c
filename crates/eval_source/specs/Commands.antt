-- What the program's commands stand for.
use Rattle.eval_source.specs.declared.command.Command as Rust
use Rattle.eval_source.specs.Arguments.{Command}

abbrev pub command_in : Rust.Command → Command
command_in c = record { call = c.call.now; fuel = c.fuel }
