use Rattle.std.proofs.Common.{◌≡◌, ◌∙◌, sym, ap, subst, cond, Some, ◌++◌, ◌∷◌, [], length, rules}
use Rattle.std.specs.BTreeMap.{get, is_at}
use Rattle.flat_graph.specs.Inner.NumberingOrder.{list_cmp}
use Rattle.flat_graph.specs.Inner.Reach.{AreNumbered}
use Rattle.flat_graph.proofs.Listed.{numbered_more}
use Rattle.flat_graph.proofs.contexts.Contexts.add.Goals as goal

pub returns-clause-numbered : goal.returns-clause-numbered
returns-clause-numbered c =
    let lists = c.args.self.now.lists.items in
    let numbers = c.args.self.now.numbers in
    let pushed : c.push.new.self.items ≡ lists ++ c.args.calls ∷ [] =
    c.in_ok-push.ensures.items
    ∙ ap (λ x. lists ++ x ∷ []) c.in_ok-same.ensures.cases in
    let counted : c.len-number.result ≡ length lists = search rules in
    subst (AreNumbered c.insert.new.self) (sym pushed)
    (numbered_more numbers c.insert.new.self lists c.args.calls c.requires.numbered c.requires.unmet
    (λ q. c.in_ok-insert.ensures.updates.0 q
    ∙ ap (λ n. cond (is_at (list_cmp c.args.calls) q) (Some n) (get list_cmp numbers q)) counted))
