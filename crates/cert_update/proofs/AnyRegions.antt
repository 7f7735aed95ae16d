-- An update ends in one way for all regions of the same loops, those of the old set and those of
-- the new one.
use Rattle.std.proofs.Common.{◌≡◌, ◌≢◌, ℕ, ◌<◌, List, length, Result, Ok, Err, refl, sym, ap, ◌∙◌}
use Rattle.std.proofs.Common.{subst, inl, inr, arith}
use Rattle.crpd_base.specs.Ranges.{IsTaskSet}
use Rattle.crpd_base.specs.Tasks.{HasTimes}
use Rattle.crpd_base.specs.declared.data.Certificate.{Certificate}
use Rattle.crpd_base.specs.declared.data.Platform.{Platform}
use Rattle.crpd_base.specs.declared.data.TaskPart.{TaskPart}
use Rattle.crpd_base.specs.declared.data.TaskSet.{TaskSet}
use Rattle.crpd_base.proofs.Times.{has_times}
use Rattle.flat_graph.specs.CodeGraph.{CodeGraph, graph_of, graph_at}
use Rattle.flat_graph.specs.Graph.{IsGraph}
use Rattle.loop_regions.specs.CodeNest.{CodeNest, nest_of}
use Rattle.loop_regions.proofs.Alike.{Alike, turned, there}
use Rattle.delay_count.specs.Demand.{demand}
use Rattle.cert_check.specs.JudgeInput.{longest_at}
use Rattle.loop_regions.specs.TaskGraphs.{nest_at, task_graph}
use Rattle.cert_check.proofs.Alike.{AllAlike, all_turned}
use Rattle.cert_check.proofs.OneAnswer.{neither_less}
use Rattle.cert_build.specs.declared.error.BuildError.{BuildError}
use Rattle.cert_build.specs.declared.error.BuildError.TheVariants.{Memory, TooLarge}
use Rattle.cert_build.specs.declared.error.BuildError.TheVariants.{TooManyEntries, Unschedulable}
use Rattle.cert_build.proofs.Alike.{certificate_too, large_too, part_too}
use Rattle.cert_build.proofs.Choices.{multiset_above, multiset_agree}
use Rattle.cert_build.proofs.Counting.{not_large}
use Rattle.cert_build.proofs.OneOutcome.{IsOutcome, bound_in, one_outcome}
use Rattle.cert_build.proofs.StatedRegions.{stated_alike}
use Rattle.cert_update.specs.Answer.{IsFirstChangedLarge, IsLargeAt, IsUpdateEnd, IsUpdateError}
use Rattle.cert_update.specs.Laws.{OneUpdateByLoops, side}
use Rattle.cert_update.specs.Unchanged.{IsChanged, IsSameCode, IsUnchanged, Side}
use Rattle.cert_update.specs.Update.{AreUpdatedParts, IsUpdate, IsUpdatedPart, task_part_at}
use Rattle.cert_update.proofs.OneUpdate.{same_update}

-- the update, or an error other than out of memory
abbrev IsRenewed : Side → Certificate → Side → Result Certificate BuildError → Type 0
IsRenewed old c new =
    IsOutcome new.set (demand new.set) (longest_at new.set.platform new.graphs)
    (IsUpdatedPart old c new) (AreUpdatedParts old c new) (IsFirstChangedLarge old new)

-- ---- by other regions of the same loops

module _ (p q : Platform) (g h : CodeGraph) (n v m w : CodeNest)
    (s : Alike (nest_of n) (nest_of v)) (B : Alike (nest_of m) (nest_of w)) where
  code_too : IsSameCode p (task_graph g n) q (task_graph h m)
      → IsSameCode p (task_graph g v) q (task_graph h w)
  code_too C =
      let S = C.nodes in
      let R = C.regions in
      let A = turned (nest_of n) (nest_of v) s in
      let in_n = there (nest_of v) (nest_of n) A in
      let in_m : (r : ℕ) → r < (nest_of v).size → r < (nest_of m).size = λ r lt.
      subst (λ k. r < k) R.size (in_n r lt) in
      record {
        platform = C.platform;
        nodes = record {
          size = S.size;
          context = S.context;
          address = S.address;
          instruction = S.instruction;
        };
        regions = record {
          size = A.size ∙ R.size ∙ B.size;
          head = λ r lt. A.head r lt ∙ R.head r (in_n r lt) ∙ B.head r (in_m r lt);
          bound = λ r lt. A.bound r lt ∙ R.bound r (in_n r lt) ∙ B.bound r (in_m r lt);
          holds = λ r y lt below.
              A.holds r y lt ∙ R.holds r y (in_n r lt) below ∙ B.holds r y (in_m r lt);
        };
      }

module _ (old_set set : TaskSet) (gs hs : List CodeGraph) where
  module _ (ns vs ms ws : List CodeNest) (before : AllAlike old_set ns vs)
      (after : AllAlike set ms ws) where
    unchanged_too : (k i : ℕ) → i < length set.tasks
        → IsUnchanged (side old_set gs ns) (side set hs ms) k i
        → IsUnchanged (side old_set gs vs) (side set hs ws) k i
    unchanged_too k i lt U = record {
      task = U.task;
      name = U.name;
      code =
          code_too old_set.platform set.platform (graph_at gs k) (graph_at hs i) (nest_at ns k)
          (nest_at vs k) (nest_at ms i) (nest_at ws i) (before k U.task) (after i lt) U.code;
    }

  module _ (ns vs ms ws : List CodeNest) (before : AllAlike old_set ns vs)
      (after : AllAlike set ms ws) where
    changed_too : (i : ℕ) → i < length set.tasks → IsChanged (side old_set gs ns) (side set hs ms) i
        → IsChanged (side old_set gs vs) (side set hs ws) i
    changed_too i lt C k U =
        C k (unchanged_too vs ns ws ms (all_turned old_set ns vs before)
        (all_turned set ms ws after) k i lt U)

    updated_too : (c : Certificate) (i : ℕ) → i < length set.tasks → (d : TaskPart)
        → IsUpdatedPart (side old_set gs ns) c (side set hs ms) i d
        → IsUpdatedPart (side old_set gs vs) c (side set hs ws) i d
    updated_too c i lt d (inl x) =
        inl (x.0, unchanged_too ns vs ms ws before after x.0 i lt x.1, x.2)
    updated_too c i lt d (inr x) =
        inr (
          changed_too i lt x.0,
          part_too set.platform (graph_at hs i) (nest_at ms i) (nest_at ws i) (after i lt) d x.1,
        )

    large_at : (i : ℕ) → i < length set.tasks → IsLargeAt (side old_set gs ns) (side set hs ms) i
        → IsLargeAt (side old_set gs vs) (side set hs ws) i
    large_at i lt L = (
      changed_too i lt L.0,
      large_too set.platform (graph_at hs i) (nest_at ms i) (nest_at ws i) (after i lt) L.1,
    )

  module _ (ns vs ms ws : List CodeNest) (before : AllAlike old_set ns vs)
      (after : AllAlike set ms ws) (c : Certificate) where
    parts_too : (parts : List TaskPart)
        → AreUpdatedParts (side old_set gs ns) c (side set hs ms) parts
        → AreUpdatedParts (side old_set gs vs) c (side set hs ws) parts
    parts_too parts P = record {
      tasks = P.tasks;
      each = λ i lt.
          updated_too ns vs ms ws before after c i lt (task_part_at parts i) (P.each i lt);
      within = λ i lt changed.
          P.within i lt
          (changed_too vs ns ws ms (all_turned old_set ns vs before) (all_turned set ms ws after) i
          lt changed);
    }

    refused_too : (e : BuildError) → e ≢ Memory
        → IsUpdateError (side old_set gs ns) c (side set hs ms) e
        → IsRenewed (side old_set gs vs) c (side set hs ws) (Err e)
    refused_too Memory free R = absurd (free refl)
    refused_too (TooLarge t address) free R = (
      λ e. cc,
      record {
        task = R.task;
        large = large_at ns vs ms ws before after t.0 R.task R.large;
        first = λ j lt large.
            R.first j lt
            (large_at vs ns ws ms (all_turned old_set ns vs before) (all_turned set ms ws after) j
            (let l = R.task in omega (arith, l, lt)) large);
        at = R.at;
      },
    )
    refused_too (TooManyEntries n) free R =
        (λ e. cc, (R.parts, parts_too R.parts R.are, R.count_is, R.many))
    refused_too (Unschedulable t) free R =
        (λ e. cc, (R.parts, parts_too R.parts R.are, R.few, R.without))

-- ---- the update and its refusals, over the same graphs and regions

module _ (old new : Side) (c : Certificate) where
  one_first : (i j a b : ℕ) → IsFirstChangedLarge old new i a → IsFirstChangedLarge old new j b
      → (i ≡ j) × (a ≡ b)
  one_first i j a b E D =
      let task : i ≡ j = neither_less i j (λ lt. D.first i lt E.large)
      (λ lt. E.first j lt D.large) in (
        task,
        E.at ∙ ap (λ k. (new.graphs k).places.address (new.graphs k).graph.first) task ∙ sym D.at,
      )

  module _ (O : IsTaskSet old.set) (S : IsTaskSet new.set)
      (G : (k : ℕ) → k < length new.set.tasks → IsGraph (new.graphs k).graph) where
    abbrev times : HasTimes new.set
    times = has_times new.set S

    -- no bound of the parts is too large
    none_large : (parts : List TaskPart) (i address : ℕ) → AreUpdatedParts old c new parts
        → IsFirstChangedLarge old new i address → ⊥
    none_large parts i address P L = by (P.each i L.task)
      where
        by : IsUpdatedPart old c new i (task_part_at parts i) → ⊥
        by (inl x) = L.large.0 x.0 x.1
        by (inr x) =
            not_large new.set.platform (new.graphs i) (task_part_at parts i) (G i L.task) x.1
            (P.within i L.task L.large.0) L.large.1

    -- the certificate's parts are new parts
    parts_of : (d : Certificate) → IsUpdate old c new d → AreUpdatedParts old c new d.tasks
    parts_of d U = record {
      tasks = U.tasks;
      each = λ i lt. (U.each i lt).part;
      within = λ i lt changed.
          bound_in new.set (demand new.set) (longest_at new.set.platform new.graphs)
          (IsUpdatedPart old c new) d times (multiset_above new.set) U i lt;
    }

    one_renewed : (r s : Result Certificate BuildError) → IsRenewed old c new r
        → IsRenewed old c new s → r ≡ s
    one_renewed =
        one_outcome new.set (demand new.set) (longest_at new.set.platform new.graphs)
        (IsUpdatedPart old c new) (AreUpdatedParts old c new) (IsFirstChangedLarge old new)
        (multiset_agree new.set times) (same_update old new c O) (λ parts P. P.tasks)
        (λ parts P. P.each) parts_of none_large one_first

-- ---- the end

self : (set : TaskSet) (ns : List CodeNest) → AllAlike set ns ns
self set ns i lt = record {
  size = refl;
  head = λ r l. refl;
  bound = λ r l. refl;
  holds = λ r y l. refl;
}

module _ (old_set set : TaskSet) (gs hs : List CodeGraph) (c : Certificate) where
  renewed : (ns vs ms ws : List CodeNest) → AllAlike old_set ns vs → AllAlike set ms ws
      → (r : Result Certificate BuildError)
      → IsUpdateEnd (side old_set gs ns) c (side set hs ms) r
      → IsRenewed (side old_set gs vs) c (side set hs ws) r
  renewed ns vs ms ws before after (Ok d) U = (
    certificate_too set (demand set) _ _ _ d
        (λ i lt t. updated_too old_set set gs hs ns vs ms ws before after c i lt t) U.0,
    U.1,
  )
  renewed ns vs ms ws before after (Err e) U =
      refused_too old_set set gs hs ns vs ms ws before after c e U.0 U.1

  pub one_update_end : (ns vs ms ws : List CodeNest) → IsTaskSet old_set → IsTaskSet set
      → ((k : ℕ) → k < length set.tasks → IsGraph (graph_of (graph_at hs k)))
      → AllAlike old_set ns vs → AllAlike set ms ws → (r s : Result Certificate BuildError)
      → IsUpdateEnd (side old_set gs ns) c (side set hs ms) r
      → IsUpdateEnd (side old_set gs vs) c (side set hs ws) s → r ≡ s
  one_update_end ns vs ms ws O S G before after r s x y =
      one_renewed (side old_set gs vs) (side set hs ws) c O S G r s
      (renewed ns vs ms ws before after r x)
      (renewed vs vs ws ws (self old_set vs) (self set ws) s y)

pub one_update_by_loops : OneUpdateByLoops
one_update_by_loops old new ns vs ms ws c r s N V M W =
    one_update_end old.set new.set old.graphs new.graphs c ns vs ms ws old.range new.range M.graph
    (stated_alike old.set old.loops old.graphs ns vs N V)
    (stated_alike new.set new.loops new.graphs ms ws M W) r s
