use Rattle.std.proofs.Common.{arith, ◌∙◌}
use Rattle.std.proofs.lemmas.Bool.Decides.{nat_tests}
use Rattle.elf_reader.proofs.Names.{text_shorter}
use Rattle.elf_reader.proofs.symbols.terminated.Goals as goal

pub loop-end-preserved : goal.loop-end-preserved
loop-end-preserved c = record {
  within = omega arith;
  same = λ place.
      text_shorter c.args.strings.now c.loop-end.end (omega arith) c.loop-end.invariant.within
      (grind (arith, nat_tests)) place ∙ c.loop-end.invariant.same place;
}
