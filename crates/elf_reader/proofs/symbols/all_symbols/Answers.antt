use Rattle.std.proofs.Common.{◌∙◌, ◌+◌, ◌*◌, map}
use Rattle.std.specs.List.{range_with_len}
use Rattle.std.proofs.lemmas.Result.{IfOk-weaker}
use Rattle.elf_reader.specs.Fields.{symbol_entry}
use Rattle.elf_reader.proofs.Names.{same_symbols}
use Rattle.elf_reader.proofs.symbols.all_symbols.Goals as goal

pub returns : goal.returns
returns c =
    IfOk-weaker c.each_symbol.result _ _
    (λ v h. h ∙ same_symbols _ _ c.terminated.ensures
    (map (λ i. symbol_entry c.args.bytes.now (c.args.start + 16 * i))
    (range_with_len 0 c.args.count))) c.each_symbol.ensures
