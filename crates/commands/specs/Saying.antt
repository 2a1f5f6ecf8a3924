-- What contracts see of a command.
use Rattle.commands.specs.declared.command_line.Command as code
use Rattle.commands.specs.Words.{Command}

-- the command
abbrev pub said : code.Command → Command
said c = record { mode = c.mode; conf = c.conf.now; schedule = c.schedule.now; events = c.events }
