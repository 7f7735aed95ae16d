use Rattle.code_map.specs.Words.{word_at}
use Rattle.flat_graph.proofs.SameCode.{fits_code}
use Rattle.flat_graph.proofs.graph.Graph.is_of_code.Goals as goal

pub returns : goal.returns
returns c =
    let same = fits_code (word_at c.args.code.now.images) c.args.entry c.args.self.now
    c.graph_law.ensures.code in
    ((λ t. same.0 (c.fits.ensures.0 t)), (λ X. c.fits.ensures.1 (same.1 X)))
