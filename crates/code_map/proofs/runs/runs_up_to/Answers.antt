use Rattle.std.proofs.Common.{leb, leb-true, leb-false, rules}
use Rattle.std.proofs.lemmas.List.Sorted.{IsPartitionPoint-from_clause, IsPartitionedBy-leb}
use Rattle.code_map.specs.declared.runs.Run.{Run}
use Rattle.code_map.proofs.runs.runs_up_to.Goals as goal

pub returns-clause-before : goal.returns-clause-before
returns-clause-before c =
    let parted = IsPartitionedBy-leb (λ (r : Run). r.start) _ c.args.address
    c.requires in
    let point = IsPartitionPoint-from_clause (λ (r : Run). leb r.start c.args.address) _ _
    c.partition_point.ensures.partitioned parted (λ a r q k. search rules) in
    λ k d low high. leb-true _ _ (point.0 k d low high)

pub returns-clause-after : goal.returns-clause-after
returns-clause-after c =
    let parted = IsPartitionedBy-leb (λ (r : Run). r.start) _ c.args.address
    c.requires in
    let point = IsPartitionPoint-from_clause (λ (r : Run). leb r.start c.args.address) _ _
    c.partition_point.ensures.partitioned parted (λ a r q k. search rules) in
    λ k d low high. leb-false _ _ (point.1 k d low high)
