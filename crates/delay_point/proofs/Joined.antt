-- The parts of the analyses with standing sets: one more task, and the refined windows with them.
use Rattle.std.proofs.Common.{◌≡◌, ◌↔◌, ℕ, suc, ◌+◌, ◌*◌, ◌<◌, ◌≤◌, inl, inr, List, [], ◌∷◌}
use Rattle.std.proofs.Common.{Result, Ok, Err, MatchResult}
use Rattle.std.proofs.Common.{◌++◌, length, map, refl, sym, ◌∙◌, ap, subst, arith, Bool, IsTrue, false}
use Rattle.std.specs.List.{range_with_len}
use Rattle.std.proofs.lemmas.List.FromFn.{get_or-map-range_with_len, length-map-range_with_len}
use Rattle.std.proofs.lemmas.Bool.{cases_eq, cases_lt, le-ltb}
use Rattle.std.proofs.lemmas.List.{get_or_push, get_or_append_left, length_push}
use Rattle.std.proofs.Math.ListN.{get_or-map}
use Rattle.crpd_base.proofs.Sums.{sum_same}
use Rattle.crpd_base.specs.Sets.{has, IsSetOf}
use Rattle.crpd_base.specs.declared.data.Method.{Method}
use Rattle.crpd_base.specs.declared.data.Method.TheVariants as multiset
use Rattle.crpd_base.specs.declared.data.Part.{Part}
use Rattle.crpd_base.specs.declared.data.Platform.{Platform}
use Rattle.crpd_base.specs.declared.data.PointMethod.{PointMethod}
use Rattle.crpd_base.specs.declared.data.PointMethod.TheVariants.{Ucb, Ecb, Point}
use Rattle.crpd_base.specs.declared.data.PointMethod.TheVariants.{PersistentUcb, PersistentPoint}
use Rattle.crpd_base.specs.declared.data.RefinedTask.{RefinedTask}
use Rattle.crpd_base.specs.declared.data.TaskPart.{TaskPart}
use Rattle.crpd_base.specs.declared.data.TaskSet.{TaskSet}
use Rattle.crpd_base.specs.Tasks.{HasTimes}
use Rattle.crpd_base.specs.Limits.{longest_time}
use Rattle.flat_graph.specs.Graph.{IsGraph}
use Rattle.loop_regions.specs.TaskGraph.{TaskGraph}
use Rattle.flat_graph.specs.CodeGraph.{CodeGraph, graph_of, places_of}
use Rattle.icache.specs.Accesses.{accesses}
use Rattle.loop_regions.specs.CodeNest.{CodeNest}
use Rattle.useful_sets.specs.Sets.{AreUseful, sets_at}
use Rattle.useful_sets.specs.Useful.{Useful}
use Rattle.evict_sets.specs.Evicting.{IsEcb}
use Rattle.delay_count.specs.Counts.{jobs_of, affected_preemptions}
use Rattle.delay_count.specs.Gamma.{part_at, evicted_from, shared_count, shared_sets, gamma_ecb}
use Rattle.delay_count.specs.Demand.{demand, jobs_demand}
use Rattle.delay_count.proofs.Greatest.{blocking_same}
use Rattle.delay_count.proofs.Growth.{demand_same, evicted_same}
use Rattle.response.proofs.WindowLaws.{none_too}
use Rattle.persistent_blocks.specs.PersistentPart.{IsPersistentPart, IsPersistentBound}
use Rattle.cert_check.specs.JudgeInput.{accesses_of, longest_at}
use Rattle.loop_regions.specs.TaskGraphs.{task_graph}
use Rattle.cert_build.specs.Analysis.{part_of_analysis, IsAnalysis, HasLargeBound}
use Rattle.cert_build.specs.Assembly.{no_analysis, analysis_at}
use Rattle.cert_build.specs.Certify.{part_in, AreBestParts}
use Rattle.cert_build.specs.declared.one_task.Analysis.{Analysis}
use Rattle.cert_build.proofs.Counting.{best_parts, not_large}
use Rattle.cert_build.proofs.OneBest.{same_sets}
use Rattle.delay_point.specs.Chosen.{IsChosen, TaskParts, RefinedParts}
use Rattle.delay_point.specs.Chosen.{AreRefinedParts, bound_by}
use Rattle.delay_point.specs.Gamma.{SetsAtNodes, AreUsefulSets, most_shared, point_shared, gamma_point}
use Rattle.delay_point.specs.Refined.{AreFirstRefined, AreRefined, point_needs, window_at, method_at}
use Rattle.delay_point.specs.Refined.{refined_demand}
use Rattle.delay_point.specs.RefineErrors.{IsRefineError}
use Rattle.delay_point.specs.Inner.Standing.{HasPoint, IsPointPart, IsTaskRefusal}
use Rattle.delay_point.specs.Inner.Standing.{IsChosenPoint, HaveNoPointParts}
use Rattle.delay_point.specs.Inner.Lists.{ArePointParts, AreStored, list_by, HaveSize}
use Rattle.delay_point.specs.Inner.Windows.{counted_needs, counted_bounds, HasNoRefined}
use Rattle.delay_point.specs.declared.error.RefineError.{RefineError}
use Rattle.delay_point.specs.declared.error.RefineError.TheVariants.{Memory, TooLarge}
use Rattle.delay_point.specs.declared.error.RefineError.TheVariants.{Unschedulable}
use Rattle.delay_point.specs.declared.parts.PointParts.{PointParts}
use Rattle.delay_point.proofs.ChosenParts.{part_bound}
use Rattle.delay_point.proofs.One.{refined_too}
use Rattle.delay_point.proofs.Values.{choice_where}

abbrev no_part : Part
no_part = record { bound = 0; evicting = []; useful = [] }

-- the tasks from j up evict the same, if their parts do
evictions_same : (parts others : ℕ → Part) (j : ℕ)
    → ((k : ℕ) → k ≤ j → (others k).evicting ≡ (parts k).evicting)
    → evicted_from parts j ≡ evicted_from others j
evictions_same parts others j h = λ q c. evicted_same parts others j c h q

-- ---- one task

-- a standing set by the same parts of the higher tasks
point_too : (nodes : ℕ) (higher others : ℕ → Part) (k : ℕ) (own point : Part)
    (useful : ℕ → ℕ → Bool) → ((j : ℕ) → j < k → higher j ≡ others j)
    → HasPoint nodes higher k own point useful → HasPoint nodes others k own point useful
point_too nodes higher others k own point useful same P =
    record {
      bound = P.bound;
      evicting = P.evicting;
      stands = λ j l.
          subst (λ (f : ℕ → Bool).
          shared_count (has point.useful) f 512 ≡ most_shared useful f nodes)
          (evictions_same higher others j
          (λ i m. sym (ap (λ (x : Part). x.evicting) (same i (omega (arith, l, m))))))
          (P.stands j l);
    }

plain_too : (p : Platform) (t : TaskGraph) (higher others : ℕ → Part) (k : ℕ) (own point : Part)
    → ((j : ℕ) → j < k → higher j ≡ others j) → IsPointPart p t higher k own point
    → IsPointPart p t others k own point
plain_too p t higher others k own point same P =
    record {
      analysis = P.analysis;
      is = P.is;
      part = P.part;
      useful = P.useful;
      exact = P.exact;
      standing = point_too t.graph.size higher others k own point P.useful same P.standing;
    }

least_too : (p : Platform) (t : TaskGraph) (higher others : ℕ → Part) (k : ℕ)
    (plain standing own point : Part) → ((j : ℕ) → j < k → higher j ≡ others j)
    → IsChosenPoint p t higher k plain standing own point
    → IsChosenPoint p t others k plain standing own point
least_too p t higher others k plain standing own point same (inl S) =
    inl (record {
      sets = S.sets;
      is = S.is;
      standing = point_too t.graph.size higher others k own point S.sets same S.standing;
    })
least_too p t higher others k plain standing own point same (inr K) = inr K

-- the same part, with stored sets of as many nodes
pub stored_point : (nodes : ℕ) (higher : ℕ → Part) (k : ℕ) (given own point : Part)
    (stored sets : List (List ℕ)) → own ≡ given → stored ≡ sets → length sets ≡ nodes
    → HasPoint (length stored) higher k own point (λ y. has (sets_at stored y))
    → HasPoint nodes higher k given point (λ y. has (sets_at sets y))
stored_point nodes higher k given own point stored sets part_is same count P =
    subst (λ (x : Part). HasPoint nodes higher k x point (λ y. has (sets_at sets y))) part_is
    (subst (λ n. HasPoint n higher k own point (λ y. has (sets_at sets y))) count
    (subst (λ (l : List (List ℕ)). HasPoint (length l) higher k own point (λ y. has (sets_at l y)))
    same P))

-- the plain part by the analysis, with a set that stands for those of its nodes
pub plain_is : (p : Platform) (g : CodeGraph) (n : CodeNest) (higher : ℕ → Part) (k : ℕ)
    (a : Analysis) (useful stored : List (List ℕ)) (own point : Part)
    → IsAnalysis p (task_graph g n) a
    → AreUseful (graph_of g) (accesses p (places_of g).address) useful → stored ≡ useful
    → own ≡ a.part
    → HasPoint (length stored) higher k own point (λ y. has (sets_at stored y))
    → IsPointPart p (task_graph g n) higher k own point
plain_is p g n higher k a useful stored own point A U same part_is P =
    record {
      analysis = a;
      is = A;
      part = part_is;
      useful = λ y. has (sets_at useful y);
      exact = λ y c h. U.each y c h;
      standing =
          stored_point (graph_of g).size higher k own own point stored useful refl same U.count P;
    }

-- its bound is at most 2^40
pub plain_within : (p : Platform) (t : TaskGraph) (higher : ℕ → Part) (k : ℕ) (own point : Part)
    → IsPointPart p t higher k own point → own.bound ≤ longest_time
plain_within p t higher k own point P =
    let same = ap (λ (x : Part). x.bound) P.part in
    let small = P.is.within in omega (arith, same, small)

-- the chosen part where there is no persistent one of at most 2^40
pub keeps_large : (p : Platform) (t : TaskGraph) (higher : ℕ → Part) (k bound : ℕ)
    (plain standing : Part) → IsPersistentBound p t bound → longest_time < bound
    → plain.bound ≤ longest_time → IsChosenPoint p t higher k plain standing plain standing
keeps_large p t higher k bound plain standing B large small =
    inr (record {
      bound = bound;
      persistent = B;
      no_smaller = omega arith;
      part_is = refl;
      point_is = refl;
    })

-- or where the bound of the persistent one is not smaller
pub keeps_plain : (p : Platform) (t : TaskGraph) (higher : ℕ → Part) (k : ℕ)
    (plain standing part : Part) (sets : ℕ → ℕ → Bool) → IsPersistentPart p t part sets
    → plain.bound ≤ part.bound → IsChosenPoint p t higher k plain standing plain standing
keeps_plain p t higher k plain standing part sets P more =
    inr (record {
      bound = part.bound;
      persistent = part_bound p t part sets P;
      no_smaller = more;
      part_is = refl;
      point_is = refl;
    })

-- otherwise the persistent one
pub takes_smaller : (p : Platform) (t : TaskGraph) (higher : ℕ → Part) (k : ℕ)
    (plain standing part own point : Part) (useful stored : List (List ℕ))
    → IsPersistentPart p t part (λ y. has (sets_at useful y)) → part.bound < plain.bound
    → stored ≡ useful → length useful ≡ t.graph.size → own ≡ part
    → HasPoint (length stored) higher k own point (λ y. has (sets_at stored y))
    → IsChosenPoint p t higher k plain standing own point
takes_smaller p t higher k plain standing part own point useful stored P less same count part_is H =
    inl (record {
      sets = λ y. has (sets_at useful y);
      is = record {
        persistent = subst (λ (x : Part). IsPersistentPart p t x (λ y. has (sets_at useful y)))
            (sym part_is) P;
        smaller = subst (λ (x : Part). x.bound < plain.bound) (sym part_is) less;
      };
      standing = stored_point t.graph.size higher k own own point stored useful refl same count H;
    })

-- ---- one more task

-- equal parts
four_too : (P : Part → Part → Part → Part → Type 0) (a b c d e f g h : Part) → a ≡ e → b ≡ f → c ≡ g
    → d ≡ h → P a b c d → P e f g h
four_too P a b c d e f g h s t u v is =
    subst (λ (x : Part). P e f g x) v
    (subst (λ (x : Part). P e f x d) u
    (subst (λ (x : Part). P e x c d) t (subst (λ (x : Part). P x b c d) s is)))

-- the parts of a list with one more
old_part : (xs : List Part) (x : Part) (k : ℕ) → length xs ≡ k → (j : ℕ) → j < k
    → part_at xs j ≡ part_at (xs ++ x ∷ []) j
old_part xs x k size j l =
    sym (get_or_append_left xs (x ∷ []) no_part j (omega (arith, l, size)))

new_part : (xs : List Part) (x : Part) (k : ℕ) → length xs ≡ k
    → x ≡ part_at (xs ++ x ∷ []) k
new_part xs x k size = sym (get_or_push xs x no_part k size)

module _ (set : TaskSet) (graphs : ℕ → TaskGraph) (k : ℕ) (parts points chosen chosen_points : List Part)
    (A : ArePointParts set graphs k parts points chosen chosen_points) where
  pub parts_more : (own point least least_point : Part)
      → IsPointPart set.platform (graphs k) (part_at parts) (length parts) own point
      → IsChosenPoint set.platform (graphs k) (part_at parts) (length parts) own point least
      least_point
      → ArePointParts set graphs (k + 1) (parts ++ own ∷ []) (points ++ point ∷ [])
      (chosen ++ least ∷ []) (chosen_points ++ least_point ∷ [])
  parts_more own point least least_point P C =
      record {
        parts_size = longer parts own A.parts_size;
        points_size = longer points point A.points_size;
        chosen_size = longer chosen least A.chosen_size;
        chosen_points_size = longer chosen_points least_point A.chosen_points_size;
        plain = λ j l. elim (cases_eq j k) [
          | inl e ↦
              subst (λ x. IsPointPart set.platform (graphs x) (part_at (parts ++ own ∷ [])) x
              (part_at (parts ++ own ∷ []) x) (part_at (points ++ point ∷ []) x)) (sym e) last
          | inr ne ↦ before j (omega (arith, l, ne))
        ];
        least = λ j l. elim (cases_eq j k) [
          | inl e ↦
              subst (λ x. IsChosenPoint set.platform (graphs x) (part_at (parts ++ own ∷ [])) x
              (part_at (parts ++ own ∷ []) x) (part_at (points ++ point ∷ []) x)
              (part_at (chosen ++ least ∷ []) x)
              (part_at (chosen_points ++ least_point ∷ []) x)) (sym e) last_least
          | inr ne ↦ before_least j (omega (arith, l, ne))
        ];
      }
    where
      longer : (xs : List Part) (x : Part) → length xs ≡ k → length (xs ++ x ∷ []) ≡ k + 1
      longer xs x size = length_push xs x ∙ ap (λ n. n + 1) size

      old : (j : ℕ) → j < k → part_at parts j ≡ part_at (parts ++ own ∷ []) j
      old j l = old_part parts own k A.parts_size j l

      last : IsPointPart set.platform (graphs k) (part_at (parts ++ own ∷ [])) k
          (part_at (parts ++ own ∷ []) k) (part_at (points ++ point ∷ []) k)
      last =
          four_too (λ a b c d. IsPointPart set.platform (graphs k) (part_at (parts ++ own ∷ [])) k
          a b) own point own point (part_at (parts ++ own ∷ []) k)
          (part_at (points ++ point ∷ []) k) own point
          (new_part parts own k A.parts_size) (new_part points point k A.points_size) refl refl
          (plain_too set.platform (graphs k) (part_at parts) (part_at (parts ++ own ∷ [])) k own
          point old
          (subst (λ x. IsPointPart set.platform (graphs k) (part_at parts) x own point) A.parts_size
          P))

      last_least : IsChosenPoint set.platform (graphs k) (part_at (parts ++ own ∷ [])) k
          (part_at (parts ++ own ∷ []) k) (part_at (points ++ point ∷ []) k)
          (part_at (chosen ++ least ∷ []) k) (part_at (chosen_points ++ least_point ∷ []) k)
      last_least =
          four_too (IsChosenPoint set.platform (graphs k) (part_at (parts ++ own ∷ [])) k) own point
          least least_point (part_at (parts ++ own ∷ []) k) (part_at (points ++ point ∷ []) k)
          (part_at (chosen ++ least ∷ []) k) (part_at (chosen_points ++ least_point ∷ []) k)
          (new_part parts own k A.parts_size) (new_part points point k A.points_size)
          (new_part chosen least k A.chosen_size)
          (new_part chosen_points least_point k A.chosen_points_size)
          (least_too set.platform (graphs k) (part_at parts) (part_at (parts ++ own ∷ [])) k own
          point least least_point old
          (subst (λ x. IsChosenPoint set.platform (graphs k) (part_at parts) x own point least
          least_point) A.parts_size C))

      before : (j : ℕ) → j < k → IsPointPart set.platform (graphs j) (part_at (parts ++ own ∷ [])) j
          (part_at (parts ++ own ∷ []) j) (part_at (points ++ point ∷ []) j)
      before j l =
          four_too (λ a b c d. IsPointPart set.platform (graphs j) (part_at (parts ++ own ∷ [])) j
          a b) (part_at parts j) (part_at points j) own point (part_at (parts ++ own ∷ []) j)
          (part_at (points ++ point ∷ []) j) own point (old j l)
          (old_part points point k A.points_size j l) refl refl
          (plain_too set.platform (graphs j) (part_at parts) (part_at (parts ++ own ∷ [])) j
          (part_at parts j) (part_at points j) (λ i m. old i (omega (arith, m, l))) (A.plain j l))

      before_least : (j : ℕ) → j < k
          → IsChosenPoint set.platform (graphs j) (part_at (parts ++ own ∷ [])) j
          (part_at (parts ++ own ∷ []) j) (part_at (points ++ point ∷ []) j)
          (part_at (chosen ++ least ∷ []) j) (part_at (chosen_points ++ least_point ∷ []) j)
      before_least j l =
          four_too (IsChosenPoint set.platform (graphs j) (part_at (parts ++ own ∷ [])) j)
          (part_at parts j) (part_at points j) (part_at chosen j) (part_at chosen_points j)
          (part_at (parts ++ own ∷ []) j) (part_at (points ++ point ∷ []) j)
          (part_at (chosen ++ least ∷ []) j) (part_at (chosen_points ++ least_point ∷ []) j)
          (old j l) (old_part points point k A.points_size j l)
          (old_part chosen least k A.chosen_size j l)
          (old_part chosen_points least_point k A.chosen_points_size j l)
          (least_too set.platform (graphs j) (part_at parts) (part_at (parts ++ own ∷ [])) j
          (part_at parts j) (part_at points j) (part_at chosen j) (part_at chosen_points j)
          (λ i m. old i (omega (arith, m, l))) (A.least j l))

  -- the first task without an analysis
  pub task_refused : (e : RefineError)
      → ((j : ℕ) → j < length set.tasks → IsGraph (graphs j).graph) → k < length set.tasks
      → IsTaskRefusal set.platform (graphs k) k e → HaveNoPointParts set graphs e
  task_refused Memory G lt R = tt
  task_refused (TooLarge t address) G lt R = (
    record {
      task = subst (λ x. x < length set.tasks) (sym R.0) lt;
      large = subst (λ x. HasLargeBound set.platform (graphs x)) (sym R.0) R.1;
      before = λ j l H.
          let i : j < k = let e = R.0 in omega (arith, e, l) in
          let P = A.plain j i in
          not_large set.platform (graphs j) (part_of_analysis P.analysis)
          (G j (omega (arith, i, lt))) P.is.best P.is.within H;
    },
    R.2 ∙ ap (λ x. (graphs x).places.address (graphs x).graph.first) (sym R.0),
  )
  task_refused (Unschedulable t) G lt R = absurd R

-- ---- the refined windows of all tasks with these parts

module _ (set : TaskSet) (graphs : ℕ → TaskGraph) (stored : PointParts) (longest : ℕ → ℕ)
    (times : HasTimes set) (A : AreStored set graphs (length set.tasks) stored)
    (L : (k : ℕ) → k < length set.tasks → longest k ≡ longest_at set.platform graphs k) where
  abbrev parts : List Part
  parts = stored.parts.items

  abbrev points : List Part
  points = stored.points.items

  -- the analysis of each task
  found : (k : ℕ) → (a : Analysis) × (k < length set.tasks
      → IsAnalysis set.platform (graphs k) a × (part_at parts k ≡ a.part))
  found k =
      elim (cases_lt k (length set.tasks)) [
        | inl l ↦ ((A.plain k l).analysis, λ h. ((A.plain k l).is, (A.plain k l).part))
        | inr g ↦ (no_analysis, λ h. absurd (omega (arith, g, h)))
      ]

  -- the useful sets of its nodes
  useful_found : (k : ℕ) → (u : ℕ → ℕ → Bool) × (k < length set.tasks
      → ((y c : ℕ) → y < (graphs k).graph.size
      → IsTrue (u y c) ↔ Useful (graphs k).graph (accesses_of set.platform (graphs k)) y c)
      × HasPoint (graphs k).graph.size (part_at parts) k (part_at parts k) (part_at points k) u)
  useful_found k =
      elim (cases_lt k (length set.tasks)) [
        | inl l ↦ ((A.plain k l).useful, λ h. ((A.plain k l).exact, (A.plain k l).standing))
        | inr g ↦ (λ y c. false, λ h. absurd (omega (arith, g, h)))
      ]

  abbrev useful : SetsAtNodes
  useful k = (useful_found k).0

  useful_sets : AreUsefulSets set graphs useful
  useful_sets k y c l h = ((useful_found k).1 l).0 y c h

  abbrev analyses : List Analysis
  analyses = map (λ k. (found k).0) (range_with_len 0 (length set.tasks))

  analyses_length : length analyses ≡ length set.tasks
  analyses_length = length-map-range_with_len (λ k. (found k).0) 0 (length set.tasks)

  analyses_at : (k : ℕ) → k < length set.tasks → analysis_at analyses k ≡ (found k).0
  analyses_at k l =
      get_or-map-range_with_len (λ k. (found k).0) 0 (length set.tasks) k k no_analysis l
      (omega arith)

  abbrev listed : List TaskPart
  listed = map part_of_analysis analyses

  best : AreBestParts set graphs listed
  best =
      best_parts set graphs analyses analyses_length
      (λ k l. subst (λ (a : Analysis). IsAnalysis set.platform (graphs k) a)
      (sym (analyses_at k l)) ((found k).1 l).0)

  parts_are : (k : ℕ) → k < length set.tasks → part_at parts k ≡ part_in listed k
  parts_are k l =
      ((found k).1 l).1
      ∙ ap (λ (a : Analysis). a.part) (sym (analyses_at k l))
      ∙ ap (λ (t : TaskPart). t.part) (sym (get_or-map part_of_analysis analyses k no_analysis))

  abbrev plain : TaskParts
  plain = record { part = part_in listed; useful = useful }

  -- the chosen part of each task, and the useful sets of its nodes
  abbrev IsFound : ℕ → (ℕ → ℕ → Bool) → Type 0
  IsFound k u =
      IsChosen set.platform (graphs k) (part_in listed k) (useful k) (part_at stored.chosen.items k)
      u
      × HasPoint (graphs k).graph.size (part_at parts) k (part_at stored.chosen.items k)
      (part_at stored.chosen_points.items k) u

  found_smaller : (k : ℕ) → k < length set.tasks
      → IsChosenPoint set.platform (graphs k) (part_at parts) k (part_at parts k)
      (part_at points k) (part_at stored.chosen.items k) (part_at stored.chosen_points.items k)
      → (u : ℕ → ℕ → Bool) × IsFound k u
  found_smaller k l (inl S) = (
    S.sets,
    (
      inl (record {
        persistent = S.is.persistent;
        smaller =
            let less = S.is.smaller in
            let same = ap (λ (x : Part). x.bound) (parts_are k l) in omega (arith, less, same);
      }),
      S.standing,
    ),
  )
  found_smaller k l (inr K) = (
    useful k,
    (
      inr (record {
        bound = K.bound;
        persistent = K.persistent;
        no_smaller =
            let more = K.no_smaller in
            let same = ap (λ (x : Part). x.bound) (parts_are k l) in omega (arith, more, same);
        part_is = K.part_is ∙ parts_are k l;
        sets_are = λ y s h. refl;
      }),
      subst (λ (x : Part). HasPoint (graphs k).graph.size (part_at parts) k x
          (part_at stored.chosen_points.items k) (useful k)) (sym K.part_is)
          (subst (λ (x : Part). HasPoint (graphs k).graph.size (part_at parts) k (part_at parts k)
          x (useful k)) (sym K.point_is) ((useful_found k).1 l).1),
    ),
  )

  chosen_found : (k : ℕ) → (u : ℕ → ℕ → Bool) × (k < length set.tasks → IsFound k u)
  chosen_found k =
      elim (cases_lt k (length set.tasks)) [
        | inl l ↦ let f = found_smaller k l (A.least k l) in (f.0, λ h. f.1)
        | inr g ↦ (λ y c. false, λ h. absurd (omega (arith, g, h)))
      ]

  abbrev chosen : TaskParts
  chosen =
      record { part = part_at stored.chosen.items; useful = λ k. (chosen_found k).0 }

  abbrev all : RefinedParts
  all = record { analysed = listed; useful = useful; chosen = chosen }

  are : AreRefinedParts set graphs all
  are =
      record {
        best = best;
        useful = useful_sets;
        chosen = λ k l. ((chosen_found k).1 l).0;
      }

  -- the chosen parts evict what the plain ones evict
  plain_evicts : (k : ℕ) → k < length set.tasks
      → IsSetOf (part_at parts k).evicting
      (IsEcb (graphs k).graph (accesses_of set.platform (graphs k)))
  plain_evicts k l =
      subst (λ (x : Part). IsSetOf x.evicting
      (IsEcb (graphs k).graph (accesses_of set.platform (graphs k)))) (sym (A.plain k l).part)
      (A.plain k l).is.best.evicting

  evicts_same : (k : ℕ) → k < length set.tasks
      → IsChosenPoint set.platform (graphs k) (part_at parts) k (part_at parts k)
      (part_at points k) (part_at stored.chosen.items k) (part_at stored.chosen_points.items k)
      → (part_at parts k).evicting ≡ (part_at stored.chosen.items k).evicting
  evicts_same k l (inl S) =
      same_sets (part_at parts k).evicting (part_at stored.chosen.items k).evicting
      (IsEcb (graphs k).graph (accesses_of set.platform (graphs k))) (plain_evicts k l)
      S.is.persistent.evicting
  evicts_same k l (inr K) = ap (λ (x : Part). x.evicting) (sym K.part_is)

  -- the parts of the methods by program point
  module _ (own : ℕ → Part) (sets : SetsAtNodes) (standing : ℕ → Part)
      (evicts : (k : ℕ) → k < length set.tasks → (part_at parts k).evicting ≡ (own k).evicting)
      (has_point : (k : ℕ) → k < length set.tasks
      → HasPoint (graphs k).graph.size (part_at parts) k (own k) (standing k) (sets k)) where
    abbrev shared : ℕ → ℕ → ℕ
    shared = point_shared graphs sets own

    -- a standing set shares the most that is shared at a node
    shares : (j k : ℕ) → j < k → k < length set.tasks
        → shared_sets standing j k ≡ shared j k
    shares j k h l =
        ap (λ (f : ℕ → Bool). shared_count (has (standing k).useful) f 512)
        (evictions_same standing (part_at parts) j
        (λ q m. evicts q (omega (arith, m, h, l))
        ∙ sym (has_point q (omega (arith, m, h, l))).evicting))
        ∙ (has_point k l).stands j h
        ∙ ap (λ (f : ℕ → Bool). most_shared (sets k) f (graphs k).graph.size)
        (evictions_same (part_at parts) own j
        (λ q m. sym (evicts q (omega (arith, m, h, l)))))

    -- its delay is the delay by program point
    gamma_same : (window : ℕ → ℕ) (w i j : ℕ) → i < length set.tasks
        → gamma_ecb set standing window w i j ≡ gamma_point set shared window w i j
    gamma_same window w i j l =
        ap (λ z. set.platform.miss * z)
        (choice_where (shared_sets standing j) (shared j)
        (affected_preemptions set window w i j) (suc i) (jobs_of set j w) (λ k h.
        elim (cases_lt j k) [
          | inl lt ↦ inr (shares j k lt (omega (arith, h, l)))
          | inr ge ↦ let b = le-ltb j k ge in inl (rw b refl)
        ]))

    point_same : (window : ℕ → ℕ) (i : ℕ) → i < length set.tasks → (w : ℕ)
        → demand set standing longest window i multiset.Ecb w
        ≡ refined_demand set own shared (longest_at set.platform graphs) window i Point w
    point_same window i l w =
        let own_bound = (has_point i l).bound in
        let begun = blocking_same set.platform.switching longest (longest_at set.platform graphs) i
        (length set.tasks) L in
        let sums = sum_same
        (λ j. jobs_demand set standing w j + gamma_ecb set standing window w i j)
        (λ j. jobs_demand set own w j + gamma_point set shared window w i j) i
        (λ j h.
        let g = gamma_same window w i j l in
        let b = ap (λ x. jobs_of set j w * (x + (set.platform.switch + set.platform.switch)))
        (has_point j (omega (arith, h, l))).bound in
        omega (arith, g, b)) in
        omega (arith, own_bound, begun, sums)

  -- the parts of the multiset methods
  union_same : (own : ℕ → Part) (listed : ℕ → Part)
      → ((k : ℕ) → k < length set.tasks → listed k ≡ own k) → (by : Method) (window : ℕ → ℕ) (i : ℕ)
      → i < length set.tasks → (w : ℕ)
      → demand set listed longest window i by w
      ≡ demand set own (longest_at set.platform graphs) window i by w
  union_same own listed same by window i l w =
      demand_same set listed own longest (longest_at set.platform graphs) window
      window i times l (λ k h. same k (omega (arith, h, l))) L (λ k h. refl) by w

  plain_point : (k : ℕ) → k < length set.tasks
      → HasPoint (graphs k).graph.size (part_at parts) k (part_in listed k) (part_at points k)
      (useful k)
  plain_point k l =
      subst (λ (x : Part). HasPoint (graphs k).graph.size (part_at parts) k x (part_at points k)
      (useful k)) (parts_are k l) ((useful_found k).1 l).1

  needs_same : (window : ℕ → ℕ) (i : ℕ) → i < length set.tasks → (m : PointMethod) (w : ℕ)
      → counted_needs set (list_by stored) longest window i m w
      ≡ point_needs set graphs all window i m w
  needs_same window i l Ucb w =
      union_same (part_in listed) (part_at parts) parts_are multiset.Ucb window i l w
  needs_same window i l Ecb w =
      union_same (part_in listed) (part_at parts) parts_are multiset.Ecb window i l w
  needs_same window i l Point w =
      point_same (part_in listed) useful (part_at points)
      (λ k h. ap (λ (x : Part). x.evicting) (parts_are k h)) plain_point window i l w
  needs_same window i l PersistentUcb w =
      union_same (part_at stored.chosen.items) (part_at stored.chosen.items) (λ k h. refl)
      multiset.Ucb window i l w
  needs_same window i l PersistentPoint w =
      point_same (part_at stored.chosen.items) (λ k. (chosen_found k).0)
      (part_at stored.chosen_points.items) (λ k h. evicts_same k h (A.least k h))
      (λ k h. ((chosen_found k).1 h).1) window i l w

  bounds_same : (i : ℕ) → i < length set.tasks → (m : PointMethod)
      → counted_bounds (list_by stored) i m ≡ bound_by all i m
  bounds_same i l Ucb = ap (λ (x : Part). x.bound) (parts_are i l)
  bounds_same i l Ecb = ap (λ (x : Part). x.bound) (parts_are i l)
  bounds_same i l Point = (plain_point i l).bound
  bounds_same i l PersistentUcb = refl
  bounds_same i l PersistentPoint = ((chosen_found i).1 l).1.bound

  first_too : (n : ℕ) (tasks : List RefinedTask) → n ≤ length set.tasks
      → AreFirstRefined set (counted_needs set (list_by stored) longest)
      (counted_bounds (list_by stored)) n tasks
      → AreFirstRefined set (point_needs set graphs all) (bound_by all) n tasks
  first_too n tasks le F =
      record {
        size = F.size;
        bound = λ i l.
            F.bound i l ∙ bounds_same i (omega (arith, le, l)) (method_at tasks i);
        window = λ i l.
            refined_too set
            (counted_needs set (list_by stored) longest (window_at tasks) i)
            (point_needs set graphs all (window_at tasks) i) i (method_at tasks i)
            (window_at tasks i) (needs_same (window_at tasks) i (omega (arith, le, l)))
            (F.window i l);
        response = F.response;
      }

  pub are_refined : (tasks : List RefinedTask)
      → AreFirstRefined set (counted_needs set (list_by stored) longest)
      (counted_bounds (list_by stored)) (length set.tasks) tasks → AreRefined set graphs tasks
  are_refined tasks F =
      record {
        parts = all;
        are = are;
        by = first_too (length set.tasks) tasks (omega arith) F;
      }

  pub not_refined : (e : RefineError)
      → HasNoRefined set (counted_needs set (list_by stored) longest)
      (counted_bounds (list_by stored)) e → IsRefineError set graphs e
  not_refined Memory R = tt
  not_refined (TooLarge t address) R = absurd R
  not_refined (Unschedulable t) R = (
    all,
    are,
    record {
      task = R.task;
      higher = R.higher;
      refined =
          first_too t.0 R.higher (let l = R.task in omega (arith, l)) R.refined;
      none = λ m.
          none_too set
          (counted_needs set (list_by stored) longest (window_at R.higher) t.0 m)
          (point_needs set graphs all (window_at R.higher) t.0 m) t.0
          (needs_same (window_at R.higher) t.0 R.task m) (R.none m);
    },
  )

  -- the lists have all tasks
  pub have_size : HaveSize stored (length set.tasks)
  have_size Ucb = A.parts_size
  have_size Ecb = A.parts_size
  have_size Point = A.points_size
  have_size PersistentUcb = A.chosen_size
  have_size PersistentPoint = A.chosen_points_size

-- a result of which more is known
pub result_too : {A B : Type 0} (r : Result A B) (P Q : A → Type 0) (E F : B → Type 0)
    → ((a : A) → P a → Q a) → ((b : B) → E b → F b) → MatchResult r P E → MatchResult r Q F
result_too (Ok a) P Q E F p e h = p a h
result_too (Err b) P Q E F p e h = e b h
