-- How the program ends.
use Rattle.std.specs.Prelude.{ℕ}
use Rattle.engine.specs.declared.server.Ended.{Ended}
use Rattle.engine.specs.declared.server.Ended.TheVariants as ended
use Rattle.site_load.specs.declared.faults.SiteFault.{SiteFault}
use Rattle.site_load.specs.declared.faults.SiteFault.TheVariants as fault
use Rattle.commands.specs.declared.endings.Ending.{Ending}
use Rattle.commands.specs.declared.endings.Ending.TheVariants as ending
use Rattle.commands.specs.declared.endings.Status.{Status}
use Rattle.commands.specs.declared.endings.Status.TheVariants as status

-- the exit code of a status
abbrev pub code_of : Status → ℕ
code_of status.Done = 0
code_of status.Conf = 1
code_of status.Usage = 2
code_of status.Schedule = 3
code_of status.ReadFault = 4
code_of status.WriteFault = 5
code_of status.WorldFault = 6
code_of status.EventsSpent = 7
code_of status.Memory = 8

-- the status where files hold no site
abbrev pub site_status : SiteFault → Status
site_status (fault.Missing file) = status.ReadFault
site_status (fault.TooLong file) = status.ReadFault
site_status (fault.Unreadable file) = status.ReadFault
site_status (fault.Refused file wrong) = status.Conf
site_status (fault.NotBuilt file line) = status.Conf
site_status fault.TooManyModules = status.Conf
site_status (fault.Init message) = status.Conf
site_status fault.Memory = status.Memory

-- the status of an ending
abbrev pub status_of : Ending → Status
status_of ending.Done = status.Done
status_of ending.Usage = status.Usage
status_of (ending.NoSite why) = site_status why
status_of ending.Missing = status.ReadFault
status_of ending.TooLong = status.ReadFault
status_of ending.Unreadable = status.ReadFault
status_of (ending.BadLine line) = status.Schedule
status_of (ending.NoSuchId line) = status.Schedule
status_of ending.WorldFault = status.WorldFault
status_of ending.EventsSpent = status.EventsSpent
status_of ending.NotWritten = status.WriteFault
status_of ending.Memory = status.Memory

-- how the work ends where serving ended so
abbrev pub ending_by : Ended → Ending
ending_by ended.Stopped = ending.Done
ending_by (ended.Spent n) = ending.EventsSpent
ending_by ended.WorldFault = ending.WorldFault
ending_by (ended.BadLine n) = ending.NoSuchId n
ending_by ended.Memory = ending.Memory
