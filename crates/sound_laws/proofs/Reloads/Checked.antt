-- For steps 5 and 6: the reloads of a checked run. Each is its job's own, with its evictor, and the
-- ledger's reloads are among them.
use Rattle.std.proofs.Common.{◌≡◌, ℕ, ◌<◌, ◌≤◌, Bool, true, false, ◌&&◌, length, Option, Some}
use Rattle.std.proofs.Common.{None, refl, sym, ◌∙◌, ap, subst, arith}
use Rattle.std.specs.Prelude.{nat_lt, if◌then◌else◌, unwrap_or}
use Rattle.std.proofs.lemmas.Bool.{and_from}
use Rattle.std.proofs.lemmas.Bool.{false≢true, and_parts, lt-ltb, ltb-true}
use Rattle.crpd_base.proofs.Options.{some_injective}
use Rattle.icache.specs.Cache.{block_of, set_of, is_hit}
use Rattle.crpd_base.specs.Sets.{has as has_set}
use Rattle.preempt_machine.specs.Step.{turn_of, Fetch, state, makes_fetch}
use Rattle.preempt_machine.proofs.Steps.{fetch_says}
use Rattle.run_account.specs.Fetches.{job_after, fetched_set}
use Rattle.run_account.specs.Reloads.{FetchesAt, IsOwnReload, IsEvictor, fetched_block}
use Rattle.run_account.proofs.Owners.{candidate_at}
use Rattle.run_account.proofs.ReloadLaws.{fetcher_open}
use Rattle.run_account.proofs.OwnFetches.{own_candidate, last_fetcher, last_fetcher_is}
use Rattle.run_account.specs.Nodes.{job_task, plan_at, node_of_job}
use Rattle.run_account.specs.Walks.{fetched_nodes}
use Rattle.sound_laws.specs.Walks.{before_of}
use Rattle.sound_laws.specs.StepTests.{misses_if, is_counted}
use Rattle.sound_laws.proofs.Windows.Busy.{task_at}
use Rattle.run_account.proofs.Preemptors.{preemptor_of}
use Rattle.sound_laws.proofs.Walks.Stands.{walk_node}
use Rattle.sound_laws.proofs.Walks.KeptWalks.{ok, walking}
use Rattle.sound_laws.proofs.Execution.Spends.{extra_of}
use Rattle.sound_laws.proofs.Reloads.OwnFetches.{part_reload, set_is}
use Rattle.sound_laws.proofs.Walks.CheckedRuns.{CheckedRun, parts, walks_at, sound_at, is_below}
use Rattle.sound_laws.proofs.Walks.CheckedRuns.{kept_at}

module _ (K : CheckedRun) where
  open K use {start as s, set, graphs, horizon, in_range as R, code as C, run, kept}

  abbrev pub set_at : ℕ → ℕ
  set_at a = set_of s.system.platform (block_of s.system.platform a)

  -- the reloads: steps that miss at a node that is counted as a hit
  abbrev pub reload_by : Option ℕ → ℕ → Bool
  reload_by None n = false
  reload_by (Some y) n =
      misses_if s.system (is_counted s graphs (walks_at K y).counts y n)
      (turn_of s.system (state s n) y)

  abbrev pub is_reload : ℕ → Bool
  is_reload n = nat_lt n horizon && reload_by (candidate_at s n) n

  abbrev pub extra : ℕ → ℕ
  extra n = if is_reload n then s.system.platform.miss else 0

  abbrev pub victim : ℕ → ℕ
  victim n = unwrap_or (candidate_at s n) 0

  abbrev pub cached : ℕ → ℕ
  cached n = set_at (job_after s n (victim n)).pc

  abbrev pub evictor_at : ℕ → ℕ
  evictor_at n = last_fetcher s (cached n) n

  abbrev pub preemptor_at : ℕ → ℕ
  preemptor_at n = preemptor_of s (victim n) (cached n) n

  -- what such a reload is: its job's own, with its evictor
  pub record IsCheckedReload (n : ℕ) : Type 0 where
    pub is_candidate : candidate_at s n ≡ Some (victim n)
    pub below : victim n < length s.lines
    pub own_time : ℕ
    pub fetch : Fetch
    pub own : Fetch
    pub reload : IsOwnReload s (victim n) n own_time fetch own
    pub left : (job_after s n (victim n)).left ≡ 0
    pub counted : is_counted s graphs (walks_at K (victim n)).counts (victim n) n ≡ true
    pub set_same : fetched_set s fetch ≡ cached n
    pub useful : has_set (parts K (task_at s (victim n))).useful (cached n) ≡ true
    pub last_time : ℕ
    pub last : Fetch
    pub evicts : IsEvictor s (evictor_at n) n last_time fetch last

  pub reload_at : (n x : ℕ) → n ≤ horizon → candidate_at s n ≡ Some x → victim n ≡ x
      → misses_if s.system (is_counted s graphs (walks_at K x).counts x n)
      (turn_of s.system (state s n) x) ≡ true → IsCheckedReload n
  reload_at n x early e vx b =
      let h = is_below K n x e in
      let k = kept_at K n x early h in
      let r = part_reload s set graphs R C run.tasks x h (walks_at K x) (sound_at K x h) n k e b in
      let last = last_fetcher_is s (set_at (job_after s n x).pc) n r.own_time r.own
      r.reload.own.earlier r.reload.own.own.is r.reload.own.to_set in
      record {
        is_candidate = e ∙ ap Some (sym vx);
        below = subst (λ k. k < length s.lines) (sym vx) h;
        own_time = r.own_time;
        fetch = record { job = x; address = (job_after s n x).pc };
        own = r.own;
        reload =
            subst (λ k. IsOwnReload s k n r.own_time
            (record { job = x; address = (job_after s n x).pc }) r.own) (sym vx) r.reload;
        left = subst (λ k. (job_after s n k).left ≡ 0) (sym vx) r.left;
        counted =
            subst (λ k. is_counted s graphs (walks_at K k).counts k n ≡ true) (sym vx) r.counted;
        set_same = ap (λ k. set_at (job_after s n k).pc) (sym vx);
        useful =
            subst (λ k. has_set (parts K (task_at s k)).useful (set_at (job_after s n k).pc) ≡ true)
            (sym vx) r.in_set;
        last_time = last.time;
        last = last.fetch;
        evicts = record {
          last = last.last;
          by = last.by ∙ ap (λ k. last_fetcher s (set_at (job_after s n k).pc) n) (sym vx);
        };
      }

  pub reload_says_by : (n : ℕ) (o : Option ℕ) → n ≤ horizon → candidate_at s n ≡ o
      → reload_by o n ≡ true → IsCheckedReload n
  reload_says_by n None l e b = absurd (false≢true b)
  reload_says_by n (Some x) l e b = reload_at n x l e (ap (λ c. unwrap_or c 0) e) b

  pub reload_early : (n : ℕ) → is_reload n ≡ true → n < horizon
  reload_early n b =
      ltb-true n horizon (and_parts (nat_lt n horizon) (reload_by (candidate_at s n) n) b).0

  pub reload_says : (n : ℕ) → is_reload n ≡ true → IsCheckedReload n
  reload_says n b =
      let l = reload_early n b in
      reload_says_by n (candidate_at s n) (omega arith) refl
      (and_parts (nat_lt n horizon) (reload_by (candidate_at s n) n) b).1

  pub extra_is : (n y : ℕ) → n < horizon → candidate_at s n ≡ Some y
      → extra n ≡ extra_of s.system (is_counted s graphs (walks_at K y).counts y n)
      (turn_of s.system (state s n) y)
  extra_is n y l e =
      let b : nat_lt n horizon ≡ true = lt-ltb n horizon l in
      let one : extra n ≡ (if reload_by (candidate_at s n) n then s.system.platform.miss else 0) =
      rw b refl in
      one ∙ ap (λ c. if reload_by c n then s.system.platform.miss else 0) e

  -- a fetch is to a set that the job's task evicts
  pub fetch_evicts : (m y : ℕ) (f : Fetch) → m ≤ horizon → FetchesAt s y m f
      → has_set (parts K (task_at s y)).evicting (fetched_set s f) ≡ true
  fetch_evicts m y f early at =
      let e = own_candidate s y m f at in
      let h = is_below K m y e in
      let o = fetcher_open s y m f at in
      let k = kept_at K m y early h in
      let W = (walking s set graphs R C run.tasks m y h k).on_walk o in
      let node = walk_node s.system (plan_at s y) (graphs (job_task s y))
      (ok s set graphs R C run.tasks y h) C.map
      (node_of_job (graphs (job_task s y)) (job_after s m y))
      (before_of (job_after s m y) (fetched_nodes s graphs m y)) W.walked.walk in
      let own = (sound_at K y h).evicts (node_of_job (graphs (job_task s y)) (job_after s m y))
      node in
      let at_pc : has_set (parts K (task_at s y)).evicting (set_at (job_after s m y).pc) ≡ true =
      subst (λ z. has_set (walks_at K y).part.evicting z ≡ true)
      (set_is s set graphs R C run.tasks y h m k o) own in
      let says_at = fetch_says s.system (state s m) f at.is in
      let address : (job_after s m y).pc ≡ f.address =
      ap (λ z. (job_after s m z).pc) (sym at.by) ∙ sym says_at.at in
      subst (λ a. has_set (parts K (task_at s y)).evicting (set_at a) ≡ true) address at_pc

  -- a fetch that misses at a node that is counted as a hit is a reload
  pub reload_test : (n x : ℕ) (f : Fetch) → n < horizon → FetchesAt s x n f
      → is_counted s graphs (walks_at K x).counts x n ≡ true
      → is_hit s.system.platform (state s n).cache (fetched_block s f) ≡ false → is_reload n ≡ true
  reload_test n x f l fetches counted missed =
      let mine = own_candidate s x n f fetches in
      let at = fetch_says s.system (state s n) f fetches.is in
      let makes : makes_fetch s.system (turn_of s.system (state s n) x) ≡ true =
      subst (λ y. makes_fetch s.system (turn_of s.system (state s n) y) ≡ true) fetches.by
      at.makes in
      let address : f.address ≡ (job_after s n x).pc =
      at.at ∙ ap (λ y. (job_after s n y).pc) fetches.by in
      let misses : is_hit s.system.platform (state s n).cache
      (block_of s.system.platform (job_after s n x).pc) ≡ false =
      subst (λ a. is_hit s.system.platform (state s n).cache (block_of s.system.platform a) ≡ false)
      address missed in
      let is : misses_if s.system (is_counted s graphs (walks_at K x).counts x n)
      (turn_of s.system (state s n) x) ≡ true = rw (makes, counted, misses) refl in
      and_from (nat_lt n horizon) _ (lt-ltb n horizon l)
      (subst (λ q. reload_by q n ≡ true) (sym mine) is)

  pub fetch_same : (n x y : ℕ) (f g : Fetch) → FetchesAt s x n f → FetchesAt s y n g → f ≡ g
  fetch_same n x y f g a b = some_injective (sym a.is ∙ b.is)

  pub victim_is : (n x : ℕ) (f : Fetch) → FetchesAt s x n f → x ≡ victim n
  victim_is n x f e = sym (ap (λ q. unwrap_or q 0) (own_candidate s x n f e))
