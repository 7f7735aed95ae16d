use Rattle.std.proofs.Common.{get_or, length, arith}
use Rattle.elf_reader.specs.Segments.{is_outside}
use Rattle.elf_reader.proofs.Shared.{blank}
use Rattle.elf_reader.proofs.Tables.{passes_nowhere, inside}
use Rattle.elf_reader.proofs.program.segments.Goals as goal

pub segment-requires : goal.segment-requires
segment-requires c =
    inside (length c.args.bytes.now) (get_or c.args.headers.now c.loop-header.header-index blank)
    (passes_nowhere (is_outside (length c.args.bytes.now)) c.args.headers.now c.requires
    c.loop-header.header-index blank (omega arith)) c.if-header-eq-PT_LOAD.true
