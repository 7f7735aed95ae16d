-- The exit status of a run.
use Rattle.std.specs.Prelude.{ℕ}
use Rattle.crpd_tool.specs.declared.status.Status.{Status}
use Rattle.crpd_tool.specs.declared.status.Status.TheVariants.{Done, No, Refused, BadWords}
use Rattle.crpd_tool.specs.declared.status.Status.TheVariants.{ReadFault, WriteFault, NoMemory}

-- the exit status of the process
abbrev pub status_code : Status → ℕ
status_code Done = 0
status_code No = 1
status_code Refused = 2
status_code BadWords = 3
status_code ReadFault = 4
status_code WriteFault = 5
status_code NoMemory = 6
