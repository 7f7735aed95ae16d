-- The answers that the code logs.
use Rattle.std.specs.Prelude.{List, [], ◌∷◌, None, Some}
use Rattle.crpd_io.specs.Answers.{FileAnswer, log_reads}
use Rattle.crpd_io.specs.declared.log.Told.{Told}
use Rattle.crpd_io.specs.declared.log.Told.TheVariants.{Size, NoSize, Bytes, NoBytes}

-- the log after a call, as a value of the code tells its answer
abbrev pub log_with : Told → List FileAnswer → List FileAnswer
log_with (Size name size) log = record { name = name.now; size = Some size; reads = [] } ∷ log
log_with (NoSize name) log = record { name = name.now; size = None; reads = [] } ∷ log
log_with (Bytes name place room bytes) log =
    log_reads name.now (record { place = place; room = room; bytes = bytes.now } ∷ []) log
log_with (NoBytes name) log = log_reads name.now [] log
