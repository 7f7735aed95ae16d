-- The number and the name of each cause of a refusal.
use Rattle.std.specs.Prelude.{ℕ, List, codes}
use Rattle.crpd_input.specs.declared.cause.Cause.{Cause}
use Rattle.crpd_input.specs.declared.cause.Cause.TheVariants.{Short, NotElf, NotElf32Little}
use Rattle.crpd_input.specs.declared.cause.Cause.TheVariants.{NotRiscV, NotExecutable, NotStatic}
use Rattle.crpd_input.specs.declared.cause.Cause.TheVariants.{HeaderOutside, SegmentOutside}
use Rattle.crpd_input.specs.declared.cause.Cause.TheVariants.{SegmentsOverlap, NoCode}
use Rattle.crpd_input.specs.declared.cause.Cause.TheVariants.{SymbolsOutside, SetNotToml}
use Rattle.crpd_input.specs.declared.cause.Cause.TheVariants.{SetMissing, SetBadValue, TooManyTasks}
use Rattle.crpd_input.specs.declared.cause.Cause.TheVariants.{SameName, DeadlineAfterPeriod}
use Rattle.crpd_input.specs.declared.cause.Cause.TheVariants.{SetUnknownKey, ScriptNotToml}
use Rattle.crpd_input.specs.declared.cause.Cause.TheVariants.{ScriptMissing, ScriptBadValue}
use Rattle.crpd_input.specs.declared.cause.Cause.TheVariants.{UnknownTask, ScriptTooLong}
use Rattle.crpd_input.specs.declared.cause.Cause.TheVariants.{ScriptUnknownKey, CodeConflict}
use Rattle.crpd_input.specs.declared.cause.Cause.TheVariants.{UnknownSymbol, EntryOutside}
use Rattle.crpd_input.specs.declared.cause.Cause.TheVariants.{Undecodable, OutsideCode}
use Rattle.crpd_input.specs.declared.cause.Cause.TheVariants.{IndirectJump, OtherLink, Breakpoint}
use Rattle.crpd_input.specs.declared.cause.Cause.TheVariants.{Recursive, TooManyNodes, TooDeep}
use Rattle.crpd_input.specs.declared.cause.Cause.TheVariants.{Misaligned, SecondEntry, NotNested}
use Rattle.crpd_input.specs.declared.cause.Cause.TheVariants.{SameHead, CycleWithoutBound}
use Rattle.crpd_input.specs.declared.cause.Cause.TheVariants.{BoundTooLarge, NotJson}
use Rattle.crpd_input.specs.declared.cause.Cause.TheVariants.{CertificateMissing}
use Rattle.crpd_input.specs.declared.cause.Cause.TheVariants.{CertificateBadValue}
use Rattle.crpd_input.specs.declared.cause.Cause.TheVariants.{CertificateTooLong, OtherVersion}
use Rattle.crpd_input.specs.declared.cause.Cause.TheVariants.{TooManyEntries, NoFile, FileTooLong}
use Rattle.crpd_input.specs.declared.cause.Cause.TheVariants.{NoSuchTask}

-- one row for each cause
abbrev pub cause_row : Cause → ℕ × List ℕ
cause_row Short = (1, codes "Short")
cause_row NotElf = (2, codes "NotElf")
cause_row NotElf32Little = (3, codes "NotElf32Little")
cause_row NotRiscV = (4, codes "NotRiscV")
cause_row NotExecutable = (5, codes "NotExecutable")
cause_row NotStatic = (6, codes "NotStatic")
cause_row HeaderOutside = (7, codes "HeaderOutside")
cause_row SegmentOutside = (8, codes "SegmentOutside")
cause_row SegmentsOverlap = (9, codes "SegmentsOverlap")
cause_row NoCode = (10, codes "NoCode")
cause_row SymbolsOutside = (11, codes "SymbolsOutside")
cause_row SetNotToml = (20, codes "NotToml")
cause_row SetMissing = (21, codes "Missing")
cause_row SetBadValue = (22, codes "BadValue")
cause_row TooManyTasks = (23, codes "TooManyTasks")
cause_row SameName = (24, codes "SameName")
cause_row DeadlineAfterPeriod = (25, codes "DeadlineAfterPeriod")
cause_row SetUnknownKey = (26, codes "UnknownKey")
cause_row ScriptNotToml = (30, codes "NotToml")
cause_row ScriptMissing = (31, codes "Missing")
cause_row ScriptBadValue = (32, codes "BadValue")
cause_row UnknownTask = (33, codes "UnknownTask")
cause_row ScriptTooLong = (34, codes "TooLong")
cause_row ScriptUnknownKey = (35, codes "UnknownKey")
cause_row CodeConflict = (40, codes "CodeConflict")
cause_row UnknownSymbol = (41, codes "UnknownSymbol")
cause_row EntryOutside = (42, codes "EntryOutside")
cause_row Undecodable = (50, codes "Undecodable")
cause_row OutsideCode = (51, codes "OutsideCode")
cause_row IndirectJump = (52, codes "IndirectJump")
cause_row OtherLink = (53, codes "OtherLink")
cause_row Breakpoint = (54, codes "Breakpoint")
cause_row Recursive = (55, codes "Recursive")
cause_row TooManyNodes = (56, codes "TooManyNodes")
cause_row TooDeep = (57, codes "TooDeep")
cause_row Misaligned = (58, codes "Misaligned")
cause_row SecondEntry = (60, codes "SecondEntry")
cause_row NotNested = (61, codes "NotNested")
cause_row SameHead = (62, codes "SameHead")
cause_row CycleWithoutBound = (63, codes "CycleWithoutBound")
cause_row BoundTooLarge = (64, codes "BoundTooLarge")
cause_row NotJson = (70, codes "NotJson")
cause_row CertificateMissing = (71, codes "Missing")
cause_row CertificateBadValue = (72, codes "BadValue")
cause_row CertificateTooLong = (73, codes "TooLong")
cause_row OtherVersion = (74, codes "OtherVersion")
cause_row TooManyEntries = (75, codes "TooManyEntries")
cause_row NoFile = (80, codes "NoFile")
cause_row FileTooLong = (81, codes "FileTooLong")
cause_row NoSuchTask = (82, codes "NoSuchTask")
