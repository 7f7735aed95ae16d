use Rattle.std.proofs.Common.{◌+◌, ◌*◌, ap, sym, ◌∙◌}
use Rattle.elf_reader.specs.Fields.{symbol_entry}
use Rattle.elf_reader.specs.Symbols.{symbol}
use Rattle.elf_reader.proofs.Tables.{one_kept, one_left}
use Rattle.elf_reader.proofs.symbols.each_symbol.Goals as goal
use Rattle.elf_reader.proofs.symbols.each_symbol.Goals.{in-Some+in_ok-push, in_default}

pub loop-i-preserved : goal.loop-i-preserved
loop-i-preserved c =
    elim c.match-branch-2.branch [
      | in-Some+in_ok-push w ↦
          one_kept (symbol c.args.strings.now)
          (λ i. symbol_entry c.args.bytes.now (c.args.start + 16 * i)) c.loop-i.symbols.items _
          c.loop-i.i w.in-Some.found c.loop-i.invariant
          (ap (λ v. v.items) w.symbols-is ∙ w.in_ok-push.ensures.items)
          (ap (symbol c.args.strings.now) (sym c.symbol_entry.ensures)
          ∙ (sym c.in_ok-found.ensures ∙ w.in-Some.is))
      | in_default w ↦
          ap (λ v. v.items) w.symbols-is
          ∙ one_left (symbol c.args.strings.now)
          (λ i. symbol_entry c.args.bytes.now (c.args.start + 16 * i)) c.loop-i.symbols.items
          c.loop-i.i c.loop-i.invariant
          (ap (symbol c.args.strings.now) (sym c.symbol_entry.ensures)
          ∙ (sym c.in_ok-found.ensures ∙ w.in_default.is))
    ]
