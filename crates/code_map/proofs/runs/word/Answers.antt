use Rattle.std.proofs.Common.{◌≡◌, ◌+◌, ◌*◌, Some, ap, arith, get_or, sym, ◌∙◌}
use Rattle.std.proofs.lemmas.Grind.{elements}
use Rattle.code_map.specs.Inner.Runs.{runs_byte}
use Rattle.code_map.proofs.Found.{number_from, word_taken}
use Rattle.code_map.proofs.runs.word.Goals as goal

pub returns : goal.returns
returns c =
    let is = c.args.images.now in
    let rs = c.args.runs.now in
    let bytes = c.bytes_from-bytes.result.now in
    let same : c.number.result ≡ get_or bytes 0 0 + 256 * get_or bytes 1 0
    + 65536 * get_or bytes 2 0 + 16777216 * get_or bytes 3 0 = grind (arith, elements) in
    ap Some same
    ∙ sym (word_taken (runs_byte is rs) c.args.address _ c.takes_word.ensures
    c.if-not-takes_word.false
    ∙ number_from is rs c.args.address bytes c.bytes_from-bytes.ensures (omega arith))
