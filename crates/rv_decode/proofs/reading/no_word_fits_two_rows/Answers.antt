use Rattle.rv_decode.proofs.Exclusion.{table_excludes}
use Rattle.rv_decode.proofs.reading.no_word_fits_two_rows.Goals as goal

pub returns : goal.returns
returns c = table_excludes
