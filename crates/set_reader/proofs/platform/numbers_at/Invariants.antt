use Rattle.std.proofs.Common.{◌≡◌, drop, length, take}
use Rattle.crpd_base.proofs.Results.{with_front}
use Rattle.text_keys.specs.Paths.{each}
use Rattle.toml.specs.View.{table_view}
use Rattle.set_reader.specs.Inner.Parts.{number_at}
use Rattle.set_reader.proofs.platform.numbers_at.Given as goal

abbrev pub invariant-loop-i : goal.invariant-loop-i
invariant-loop-i l = record {
  count : length l.found ≡ 8;
  read : with_front (take l.i l.found)
      (each (λ i n. number_at l.keys.path.now (table_view l.keys.table.now) n.key.now n.low n.high n.required)
      l.i (drop l.i l.numbers))
      ≡ each (λ i n. number_at l.keys.path.now (table_view l.keys.table.now) n.key.now n.low n.high n.required)
      0 l.numbers;
}
