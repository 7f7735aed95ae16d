use Rattle.std.proofs.Common.{◌≡◌, ℕ, ◌≤◌, length, drop, take}
use Rattle.elf_reader.specs.Symbols.{symbol_text}
use Rattle.elf_reader.proofs.symbols.terminated.Given as goal

abbrev pub invariant-loop-end : goal.invariant-loop-end
invariant-loop-end l = record {
  within : l.end ≤ length l.strings;
  same : (place : ℕ) → symbol_text (drop place (take l.end l.strings))
      ≡ symbol_text (drop place l.strings);
}

abbrev pub decreases-loop-end : goal.decreases-loop-end
decreases-loop-end l = l.end
