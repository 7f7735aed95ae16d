-- A task has one chosen part.
use Rattle.std.proofs.Common.{◌≡◌, ℕ, ◌<◌, Bool, inl, inr, sym, ◌∙◌, ap, arith}
use Rattle.crpd_base.specs.declared.data.Part.{Part}
use Rattle.crpd_base.specs.declared.data.Platform.{Platform}
use Rattle.flat_graph.specs.Graph.{IsGraph}
use Rattle.loop_regions.specs.TaskGraph.{TaskGraph}
use Rattle.persistent_blocks.specs.Laws.{IsSamePart}
use Rattle.persistent_blocks.specs.PersistentPart.{IsPersistentPart, IsPersistentBound}
use Rattle.delay_point.specs.Chosen.{IsChosen}
use Rattle.persistent_blocks.proofs.OnePart.{one_persistent_bound, one_persistent_part}

-- the bound of a persistent part
pub part_bound : (p : Platform) (t : TaskGraph) (part : Part) (sets : ℕ → ℕ → Bool)
    → IsPersistentPart p t part sets → IsPersistentBound p t part.bound
part_bound p t part sets P = record { events = P.events; are = P.are; bound_is = P.bound }

module _ (p : Platform) (t : TaskGraph) (G : IsGraph t.graph) (plain other : Part)
    (useful further : ℕ → ℕ → Bool) (same : plain ≡ other)
    (alike : (y s : ℕ) → y < t.graph.size → useful y s ≡ further y s) where
  both_bounds : plain.bound ≡ other.bound
  both_bounds = ap (λ (x : Part). x.bound) same

  pub one_chosen : (one two : Part) (sets others : ℕ → ℕ → Bool)
      → IsChosen p t plain useful one sets → IsChosen p t other further two others
      → IsSamePart t one two sets others
  one_chosen one two sets others (inl S) (inl T) =
      one_persistent_part p t one two sets others G S.persistent T.persistent
  one_chosen one two sets others (inl S) (inr T) =
      let bound = one_persistent_bound p t one.bound T.bound G
      (part_bound p t one sets S.persistent) T.persistent in
      let less = S.smaller in
      let more = T.no_smaller in
      absurd (omega (arith, bound, less, more, both_bounds))
  one_chosen one two sets others (inr S) (inl T) =
      let bound = one_persistent_bound p t S.bound two.bound G S.persistent
      (part_bound p t two others T.persistent) in
      let more = S.no_smaller in
      let less = T.smaller in
      absurd (omega (arith, bound, less, more, both_bounds))
  one_chosen one two sets others (inr S) (inr T) =
      record {
        part = S.part_is ∙ same ∙ sym T.part_is;
        at_nodes = λ y s h. S.sets_are y s h ∙ alike y s h ∙ sym (T.sets_are y s h);
      }
