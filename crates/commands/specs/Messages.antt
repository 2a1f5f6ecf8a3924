-- All that the program says: of a site that is checked, on the output, and of how it ended, on the error output.
use Rattle.std.specs.Prelude.{ℕ, List, [], ◌++◌, codes, decimal}
use Rattle.site_check.specs.Texts as check
use Rattle.site_load.specs.declared.faults.SiteFault.{SiteFault}
use Rattle.site_load.specs.declared.faults.SiteFault.TheVariants as fault
use Rattle.commands.specs.declared.endings.Ending.{Ending}
use Rattle.commands.specs.declared.endings.Ending.TheVariants as ending
use Rattle.commands.specs.declared.messages.Line.{Line}
use Rattle.commands.specs.declared.messages.Line.TheVariants as line

-- what is written of a site that is checked
abbrev pub site_ok : List ℕ
site_ok = codes "site ok\n"

-- how the program is called
abbrev pub usage_line : List ℕ
usage_line = codes "resty: usage: resty MODE [options]\n"

abbrev pub memory_line : List ℕ
memory_line = codes "resty: out of memory\n"

-- the line that names a file, the number of a line of it, and what is wrong there
abbrev pub fault_line : List ℕ → List ℕ → List ℕ → List ℕ
fault_line name line text = codes "resty: " ++ (name ++ (codes ": line " ++ (line ++ (codes ": " ++ (text ++ codes "\n")))))

-- a line, from its pieces
abbrev pub bytes_of : Line → List ℕ
bytes_of line.None = []
bytes_of (line.Text text) = text.now
bytes_of (line.Joined before name behind) = before.now ++ name.now ++ behind.now
bytes_of (line.At name number text) = fault_line name.now (decimal number) text.now

-- the lines that say that there is no file of this name, that it is too long, and that it can't be read
abbrev pub missing_line : List ℕ → List ℕ
missing_line name = codes "resty: no file " ++ name ++ codes "\n"

abbrev pub too_long_line : List ℕ → List ℕ
too_long_line name = codes "resty: " ++ name ++ codes " is too long\n"

abbrev pub unreadable_line : List ℕ → List ℕ
unreadable_line name = codes "resty: cannot read " ++ name ++ codes "\n"

-- the line that says why files hold no site
abbrev pub site_line : SiteFault → List ℕ
site_line (fault.Missing file) = missing_line file
site_line (fault.TooLong file) = too_long_line file
site_line (fault.Unreadable file) = unreadable_line file
site_line (fault.Refused file wrong) = fault_line file (decimal (check.line_of wrong)) (check.text_of wrong)
site_line (fault.NotBuilt file line) = fault_line file (decimal line) (codes "not built yet")
site_line fault.TooManyModules = codes "resty: too many modules\n"
site_line (fault.Init message) = codes "resty: init failed: " ++ message ++ codes "\n"
site_line fault.Memory = memory_line

-- the line that says how the program ended, for a schedule of this name; where all went well there is none
abbrev pub line_of : List ℕ → Ending → List ℕ
line_of schedule ending.Done = []
line_of schedule ending.Usage = usage_line
line_of schedule (ending.NoSite why) = site_line why
line_of schedule ending.Missing = missing_line schedule
line_of schedule ending.TooLong = too_long_line schedule
line_of schedule ending.Unreadable = unreadable_line schedule
line_of schedule (ending.BadLine line) = fault_line schedule (decimal line) (codes "not a schedule line")
line_of schedule (ending.NoSuchId line) = fault_line schedule (decimal line) (codes "no such id")
line_of schedule ending.WorldFault = codes "resty: world fault\n"
line_of schedule ending.EventsSpent = codes "resty: events spent\n"
line_of schedule ending.NotWritten = codes "resty: cannot write\n"
line_of schedule ending.Memory = memory_line
