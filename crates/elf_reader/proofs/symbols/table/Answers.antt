use Rattle.std.proofs.Common.{◌+◌, ◌*◌}
use Rattle.crpd_base.proofs.Elements.{map_range_more}
use Rattle.elf_reader.specs.Fields.{section_header}
use Rattle.elf_reader.proofs.symbols.table.Goals as goal

pub loop-i-preserved : goal.loop-i-preserved
loop-i-preserved c =
    map_range_more (λ i. section_header c.args.bytes.now (c.args.start + 40 * i))
    c.loop-i.sections.items _ c.loop-i.i _ c.loop-i.invariant c.in_ok-push.ensures.items
    c.section_header.ensures
