use Rattle.std.proofs.Common.{◌∙◌}
use Rattle.code_map.proofs.KeptWords.{index_apart, kept_word, within_end}
use Rattle.code_map.specs.Inner.Runs.{runs_byte}
use Rattle.code_map.proofs.files.Files.word.Goals as goal

pub word-requires : goal.word-requires
word-requires c =
    index_apart c.self.inside _ _ c.self.invariant c.as_slice.ensures c.as_slice-2.ensures

pub returns : goal.returns
returns c =
    let is = c.as_slice.result.now in
    let rs = c.as_slice-2.result.now in
    record {
      is =
          c.word.ensures ∙ kept_word c.self.inside c.args.self.now is rs c.args.address
          c.self.invariant c.self.view_is c.as_slice.ensures c.as_slice-2.ensures;
      within =
          within_end (runs_byte is rs) c.args.address c.word.result c.ranges.address.fits
          c.word.ensures;
    }
