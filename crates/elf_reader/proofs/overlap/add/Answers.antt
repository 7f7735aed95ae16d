use Rattle.std.proofs.Common.{◌<◌, ◌+◌, ap, sym, ◌∙◌, arith}
use Rattle.std.specs.List.{list_any}
use Rattle.elf_reader.specs.Segments.{header_end, is_loaded, meets}
use Rattle.elf_reader.proofs.Ranges.{free_empty, insert_any, insert_apart, not_loaded, occupied}
use Rattle.elf_reader.proofs.overlap.add.Goals as goal
use Rattle.elf_reader.proofs.overlap.add.Goals.{then-header-ne-PT_LOAD-via-then-header-ne-PT_LOAD}
use Rattle.elf_reader.proofs.overlap.add.Goals.{
  then-header-ne-PT_LOAD-via-else-header-ne-PT_LOAD+then-start-end,
}

pub returns-then-header-ne-PT_LOAD-clause-free : goal.returns-then-header-ne-PT_LOAD-clause-free
returns-then-header-ne-PT_LOAD-clause-free c =
    elim c.then-header-ne-PT_LOAD.branch [
      | then-header-ne-PT_LOAD-via-then-header-ne-PT_LOAD w ↦
          not_loaded c.args.header.now
          (list_any (meets c.args.header.now.p_vaddr (header_end c.args.header.now))
          c.args.ranges.now.entries) w.if-header-ne-PT_LOAD.true
      | then-header-ne-PT_LOAD-via-else-header-ne-PT_LOAD+then-start-end w ↦
          free_empty (is_loaded c.args.header.now) c.args.header.now.p_vaddr
          c.args.header.now.p_memsz c.args.ranges.now.entries (omega arith)
    ]

pub returns-clause-apart : goal.returns-clause-apart
returns-clause-apart c =
    let some : c.from-start.result < c.from-start.result + c.from.result = omega arith in
    rw c.in_ok-insert.ensures.entries
    (insert_apart _ _ some c.args.ranges.now.entries c.requires (sym c.if-is_met.ensures))

pub returns-clause-more : goal.returns-clause-more
returns-clause-more c from to =
    let some : c.from-start.result < c.from-start.result + c.from.result = omega arith in
    ap (list_any (meets from to)) c.in_ok-insert.ensures.entries
    ∙ (insert_any from to c.from-start.result (c.from-start.result + c.from.result) some
    c.args.ranges.now.entries c.requires (sym c.if-is_met.ensures)
    ∙ occupied from to c.from-start.result (c.from-start.result + c.from.result) c.args.header.now
    (list_any (meets from to) c.args.ranges.now.entries) c.if-header-ne-PT_LOAD.false
    c.from-start.ensures (omega arith))
