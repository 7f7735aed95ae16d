-- Step 3, fetches_are_kept_walk: while its watch is not broken, each job's fetches are a kept walk
-- of its task's graph.
use Rattle.std.proofs.Common.{◌≡◌, ℕ, zero, suc, ◌<◌, ◌≤◌, true, [], length, Some, None, refl, sym}
use Rattle.std.proofs.Common.{◌∙◌, ap, subst, inl, inr, arith, ◌==◌}
use Rattle.std.proofs.lemmas.Bool.{eq-eqb, false≢true}
use Rattle.crpd_base.proofs.Options.{same_or_not}
use Rattle.crpd_base.specs.declared.data.Platform.{Platform}
use Rattle.crpd_base.specs.declared.data.ScriptJob.{ScriptJob}
use Rattle.crpd_base.specs.declared.data.TaskSet.{TaskSet}
use Rattle.rv_decode.specs.Flow.{flows}
use Rattle.flow_watch.specs.Watch.{Watch, start, is_unbroken}
use Rattle.loop_regions.specs.Watched.{IsWatchedWalk}
use Rattle.loop_regions.proofs.Watched.{watch_start_law}
use Rattle.loop_regions.specs.TaskGraph.{TaskGraph}
use Rattle.cert_check.specs.JudgeInput.{IsGraphOf}
use Rattle.preempt_machine.specs.Machine.{Job, no_job, plan_of}
use Rattle.preempt_machine.specs.Step.{is_open, Turn, turn_of, turn_after_step, Start, state}
use Rattle.preempt_machine.specs.Safe.{NamesTasks}
use Rattle.preempt_machine.proofs.Steps.{candidate_some, step_own, step_other}
use Rattle.run_account.specs.Fetches.{job_after}
use Rattle.run_account.proofs.Jobs.{jobs_length, line_is, new_at}
use Rattle.run_account.proofs.Owners.{candidate_at}
use Rattle.run_account.proofs.JobWalks.{kept_before, nodes_other, nodes_own, opened, same_plan}
use Rattle.run_account.proofs.Stands.{nodes_after}
use Rattle.run_account.specs.Nodes.{job_task, plan_at, node_of_job, node_number}
use Rattle.run_account.specs.Walks.{fetched_nodes}
use Rattle.sound_laws.specs.Walks.{HasTaskRanges, IsCodeOf, before_of, IsOnWalk, IsNoneOrKeptWalk}
use Rattle.sound_laws.specs.Walks.{FetchesAreKeptWalk}
use Rattle.sound_laws.proofs.Walks.Stands.{Stands, stands_on, number_there}
use Rattle.sound_laws.proofs.Walks.Walked.{WalkTurn, walk_turn}

module _ (s : Start) (set : TaskSet) (graphs : ℕ → TaskGraph) (R : HasTaskRanges set)
    (C : IsCodeOf s.system set graphs) (T : NamesTasks set s.lines) where
  abbrev pub graph_at : ℕ → TaskGraph
  graph_at x = graphs (job_task s x)

  pub below_at : (n x : ℕ) → candidate_at s n ≡ Some x → x < length s.lines
  below_at n x e =
      let b = (candidate_some s.system (state s n) x e).below in omega (arith, b, jobs_length s n)

  pub task_below : (x : ℕ) → x < length s.lines → job_task s x < length set.tasks
  task_below x h =
      subst (λ (l : ScriptJob). l.task.0 < length set.tasks) (sym (line_is s 0 x h))
      (T x no_job.line h)

  pub ok : (x : ℕ) → x < length s.lines → IsGraphOf s.system.word (plan_at s x) (graph_at x)
  ok x h = C.graphs_of (job_task s x) (task_below x h)

  pub hit_some : 1 ≤ s.system.platform.hit
  hit_some = subst (λ (p : Platform). 1 ≤ p.hit) (sym C.platform) R.hit

  abbrev pub turn_at : ℕ → ℕ → Turn
  turn_at n x = turn_of s.system (state s n) x

  -- the start
  watch_is : (x : ℕ) → x < length s.lines → (job_after s 0 x).watch ≡ start (plan_at s x)
  watch_is x h =
      ap (λ (j : Job). j.watch) (new_at s x h)
      ∙ ap (λ (l : ScriptJob). start (plan_of s.system l.task.0)) (sym (line_is s 0 x h))

  entry_is : (x : ℕ) → x < length s.lines → (job_after s 0 x).pc ≡ (plan_at s x).entry
  entry_is x h =
      ap (λ (j : Job). j.pc) (new_at s x h)
      ∙ ap (λ (l : ScriptJob). (plan_of s.system l.task.0).entry) (sym (line_is s 0 x h))

  pub left_zero : (x : ℕ) → x < length s.lines → (job_after s 0 x).left ≡ 0
  left_zero x h = ap (λ (j : Job). j.left) (new_at s x h)

  first_by : (x : ℕ) → x < length s.lines → (w : Watch) → start (plan_at s x) ≡ w
      → is_unbroken w ≡ true → IsOnWalk s.system.word (plan_at s x) (graph_at x)
      (job_after s 0 x) []
  first_by x h None e k = absurd (false≢true k)
  first_by x h (Some frames) e k =
      let g = ok x h in
      let W = watch_start_law (flows s.system.word) (plan_at s x) (graph_at x).graph
      (graph_at x).places (graph_at x).nest frames g.follows g.regions e in
      let watch : (job_after s 0 x).watch ≡ Some frames = watch_is x h ∙ e in
      let node : node_of_job (graph_at x) (job_after s 0 x) ≡ (graph_at x).graph.first =
      ap (λ w. node_number (graph_at x) w (job_after s 0 x).pc) watch
      ∙ ap (λ a. node_number (graph_at x) (Some frames) a) (entry_is x h)
      ∙ number_there s.system (plan_at s x) (graph_at x) g C.map (graph_at x).graph.first []
      (plan_at s x).entry frames W in
      let bit : ((job_after s 0 x).left == 0) ≡ true = eq-eqb _ _ (left_zero x h) in
      let before : before_of (job_after s 0 x) [] ≡ [] = rw bit refl in
      record {
        frames = frames;
        watch = watch;
        walked =
            subst (λ y. IsWatchedWalk (flows s.system.word) (plan_at s x) (graph_at x).graph
            (graph_at x).places (graph_at x).nest y (before_of (job_after s 0 x) [])
            (job_after s 0 x).pc frames) (sym node)
            (subst (λ b. IsWatchedWalk (flows s.system.word) (plan_at s x) (graph_at x).graph
            (graph_at x).places (graph_at x).nest (graph_at x).graph.first b (job_after s 0 x).pc
            frames) (sym before)
            (subst (λ a. IsWatchedWalk (flows s.system.word) (plan_at s x) (graph_at x).graph
            (graph_at x).places (graph_at x).nest (graph_at x).graph.first [] a frames)
            (sym (entry_is x h)) W));
        under_way = λ ne. absurd (ne (left_zero x h));
      }

  -- what holds of a job
  pub record IsWalking (n x : ℕ) : Type 0 where
    pub nodes_kept : IsNoneOrKeptWalk (graph_at x) (fetched_nodes s graphs n x)
    pub on_walk : is_open (job_after s n x).standing ≡ true
        → IsOnWalk s.system.word (plan_at s x) (graph_at x) (job_after s n x)
        (fetched_nodes s graphs n x)

  pub stands_at : (n x : ℕ) → x < length s.lines
      → IsOnWalk s.system.word (plan_at s x) (graph_at x) (job_after s n x)
      (fetched_nodes s graphs n x)
      → Stands s.system (graph_at x) (node_of_job (graph_at x) (job_after s n x))
      (job_after s n x).pc
  stands_at n x h W =
      stands_on s.system (plan_at s x) (graph_at x) (ok x h) C.map (job_after s n x)
      (fetched_nodes s graphs n x) W

  pub turn_walks : (n x : ℕ) → candidate_at s n ≡ Some x → IsWalking n x
      → WalkTurn s.system (plan_at s x) (graph_at x)
      (nodes_after s.system (graph_at x) (turn_at n x) (fetched_nodes s graphs n x))
      (turn_after_step s.system (state s n).time (turn_at n x))
  turn_walks n x e is =
      let h = below_at n x e in
      let o = opened s graphs n x e in
      let W = is.on_walk o in
      walk_turn s.system (plan_at s x) (graph_at x) (ok x h) C.map hit_some (state s n).time
      (turn_at n x) (fetched_nodes s graphs n x) W (stands_at n x h W) (same_plan s graphs n x) o

  walking_step : (n x : ℕ) → is_unbroken (job_after s (suc n) x).watch ≡ true → IsWalking n x
      → IsWalking (suc n) x
  walking_step n x k is =
      elim (same_or_not (candidate_at s n) (Some x)) [
        | inl e ↦
            let t = turn_walks n x e is in
            let own = step_own s.system (state s n) x e in
            let nodes = nodes_own s graphs n x e in
            record {
              nodes_kept = subst (λ b. IsNoneOrKeptWalk (graph_at x) b) (sym nodes) t.nodes_kept;
              on_walk = λ o.
                  subst (λ b. IsOnWalk s.system.word (plan_at s x) (graph_at x)
                  (job_after s (suc n) x) b) (sym nodes)
                  (subst (λ (j : Job). IsOnWalk s.system.word (plan_at s x) (graph_at x) j
                  (nodes_after s.system (graph_at x) (turn_at n x) (fetched_nodes s graphs n x)))
                  (sym own)
                  (t.stays (subst (λ (j : Job). is_unbroken j.watch ≡ true) own k)
                  (subst (λ (j : Job). is_open j.standing ≡ true) own o)));
            }
        | inr ne ↦
            let same = step_other s.system (state s n) x ne in
            let nodes = nodes_other s graphs n x ne in
            record {
              nodes_kept = subst (λ b. IsNoneOrKeptWalk (graph_at x) b) (sym nodes) is.nodes_kept;
              on_walk = λ o.
                  subst (λ b. IsOnWalk s.system.word (plan_at s x) (graph_at x)
                  (job_after s (suc n) x) b) (sym nodes)
                  (subst (λ (j : Job). IsOnWalk s.system.word (plan_at s x) (graph_at x) j
                  (fetched_nodes s graphs n x)) (sym same)
                  (is.on_walk (subst (λ (j : Job). is_open j.standing ≡ true) same o)));
            }
      ]

  pub walking : (n x : ℕ) → x < length s.lines → is_unbroken (job_after s n x).watch ≡ true
      → IsWalking n x
  walking zero x h k =
      record {
        nodes_kept = tt;
        on_walk = λ o.
            first_by x h (start (plan_at s x)) refl (ap is_unbroken (sym (watch_is x h)) ∙ k);
      }
  walking (suc n) x h k = walking_step n x k (walking n x h (kept_before s graphs n x k))

pub fetches_are_kept_walk : FetchesAreKeptWalk
fetches_are_kept_walk s set graphs n x R C F =
    let is = walking s set graphs R C F.tasks n x F.job F.unbroken in
    (is.nodes_kept, is.on_walk)
