-- The preemptor of a reload, as a function of its step.
use Rattle.std.proofs.Common.{◌≡◌, ℕ, zero, suc, ◌+◌, ◌-◌, ◌<◌, ◌≤◌, ◌≢◌, ◌⊎◌, Bool, true, false}
use Rattle.std.proofs.Common.{Option, Some, None, refl, sym, ◌∙◌, ap, subst, inl, inr, arith}
use Rattle.std.specs.Prelude.{◌==◌, nat_lt, if◌then◌else◌}
use Rattle.std.proofs.lemmas.Bool.{cases_Bool, cases_eq, cases_lt, cases_order, false≢true}
use Rattle.std.proofs.lemmas.Bool.{eqb-true, eq-eqb, lt-ltb, le-ltb}
use Rattle.crpd_base.proofs.Options.{some_injective, none_some}
use Rattle.preempt_machine.specs.Step.{before, Fetch, Start, state, fetch_at}
use Rattle.preempt_machine.proofs.Order.{comes_before_trans, comes_before_total}
use Rattle.run_account.specs.Fetches.{fetched_set, IsLastFetchTo, HasCache}
use Rattle.run_account.specs.Reloads.{FetchesAt, IsOwnReload, IsPreemptor}
use Rattle.run_account.proofs.ReloadLaws.{evictor_is_other, same_fetch, one_job_of}
use Rattle.run_account.proofs.ReloadLaws.{one_reload_of}
use Rattle.run_account.proofs.LastBelow.{found_below, found_is, found_last, some_from}

-- the first number from low on that passes
abbrev pub next_from : (ℕ → Bool) → ℕ → ℕ → ℕ
next_from p low zero = low
next_from p low (suc fuel) = if p low then low else next_from p (suc low) fuel

record IsNext (p : ℕ → Bool) (low fuel next : ℕ) : Type 0 where
  passes : p next ≡ true
  from : low ≤ next
  by : next ≤ low + fuel
  none : (m : ℕ) → low ≤ m → m < next → p m ≡ false

next_is : (p : ℕ → Bool) (fuel low : ℕ) → p (low + fuel) ≡ true
    → IsNext p low fuel (next_from p low fuel)
next_is p zero low h =
    let e : low + 0 ≡ low = omega arith in
    record {
      passes = subst (λ k. p k ≡ true) e h;
      from = omega arith;
      by = omega arith;
      none = λ m a b. absurd (omega arith);
    }
next_is p (suc fuel) low h =
    elim (cases_Bool (p low)) [
      | inl b ↦
          rw b (record {
            passes = b;
            from = omega arith;
            by = omega arith;
            none = λ m l k. absurd (omega arith);
          })
      | inr b ↦
          let e : low + suc fuel ≡ suc low + fuel = omega arith in
          let r = next_is p fuel (suc low) (subst (λ k. p k ≡ true) e h) in
          rw b (record {
            passes = r.passes;
            from = omega (arith, r.from);
            by = omega (arith, r.by);
            none = λ m l k. elim (cases_eq m low) [
              | inl q ↦ subst (λ z. p z ≡ false) (sym q) b
              | inr ne ↦ r.none m (omega arith) k
            ];
          })
    ]

-- whether a job makes the fetch of a step, and whether the fetch is to a set
abbrev pub has_job : ℕ → Option Fetch → Bool
has_job x None = false
has_job x (Some f) = f.job == x

abbrev pub has_set : Start → ℕ → Option Fetch → Bool
has_set s set None = false
has_set s set (Some f) = fetched_set s f == set

abbrev pub job_in : Option Fetch → ℕ
job_in None = 0
job_in (Some f) = f.job

-- the fetch of a step that passes
record HasFetch (s : Start) (n : ℕ) (q : Fetch → Type 0) : Type 0 where
  fetch : Fetch
  is : fetch_at s n ≡ Some fetch
  holds : q fetch

job_fetch : (s : Start) (n x : ℕ) (o : Option Fetch) → fetch_at s n ≡ o → has_job x o ≡ true
    → HasFetch s n (λ f. f.job ≡ x)
job_fetch s n x None e h = absurd (false≢true h)
job_fetch s n x (Some f) e h = record { fetch = f; is = e; holds = eqb-true _ _ h }

set_fetch : (s : Start) (n set : ℕ) (o : Option Fetch) → fetch_at s n ≡ o → has_set s set o ≡ true
    → HasFetch s n (λ f. fetched_set s f ≡ set)
set_fetch s n set None e h = absurd (false≢true h)
set_fetch s n set (Some f) e h = record { fetch = f; is = e; holds = eqb-true _ _ h }

job_passes : (s : Start) (n x : ℕ) (f : Fetch) → fetch_at s n ≡ Some f → f.job ≡ x
    → has_job x (fetch_at s n) ≡ true
job_passes s n x f e q = rw e (eq-eqb _ _ q)

set_passes : (s : Start) (n set : ℕ) (f : Fetch) → fetch_at s n ≡ Some f → fetched_set s f ≡ set
    → has_set s set (fetch_at s n) ≡ true
set_passes s n set f e q = rw e (eq-eqb _ _ q)

-- the later of a job and the fetcher of a step, and the latest of a job and the fetchers after step
-- a and before step w
abbrev pub later : Start → ℕ → Option Fetch → ℕ
later s r None = r
later s r (Some f) = if before (state s 0).jobs r f.job then f.job else r

abbrev pub latest : Start → ℕ → ℕ → ℕ → ℕ
latest s a base zero = base
latest s a base (suc w) =
    if nat_lt a w then later s (latest s a base w) (fetch_at s w) else latest s a base w

-- at most as late in the order of jobs
abbrev pub IsUpTo : Start → ℕ → ℕ → Type 0
IsUpTo s x y = (x ≡ y) ⊎ (before (state s 0).jobs x y ≡ true)

up_trans : (s : Start) (x y z : ℕ) → IsUpTo s x y → before (state s 0).jobs y z ≡ true
    → before (state s 0).jobs x z ≡ true
up_trans s x y z (inl e) b = subst (λ k. before (state s 0).jobs k z ≡ true) (sym e) b
up_trans s x y z (inr c) b = comes_before_trans _ _ _ _ _ _ c b

record IsLatest (s : Start) (a v w base y : ℕ) : Type 0 where
  time : ℕ
  fetch : Fetch
  after : a < time
  early : (time ≡ v) ⊎ (time < w)
  by : FetchesAt s y time fetch
  base_up : IsUpTo s base y
  all : (m : ℕ) (g : Fetch) → a < m → m < w → fetch_at s m ≡ Some g → IsUpTo s g.job y

latest_more : (s : Start) (a v w base r : ℕ) → IsLatest s a v w base r
    → ((g : Fetch) → fetch_at s w ≡ Some g → a < w → IsUpTo s g.job r)
    → IsLatest s a v (suc w) base r
latest_more s a v w base r h here =
    record {
      time = h.time;
      fetch = h.fetch;
      after = h.after;
      by = h.by;
      base_up = h.base_up;
      early = elim h.early [ inl e ↦ inl e | inr l ↦ inr (omega arith) ];
      all = λ m g l k e. elim (cases_eq m w) [
        | inl q ↦ here g (subst (λ z. fetch_at s z ≡ Some g) q e) (omega arith)
        | inr ne ↦ h.all m g l (omega arith) e
      ];
    }

latest_step : (s : Start) (a v w base r : ℕ) (o : Option Fetch) → fetch_at s w ≡ o → a < w
    → IsLatest s a v w base r → IsLatest s a v (suc w) base (later s r o)
latest_step s a v w base r None e l h =
    latest_more s a v w base r h (λ g q k. absurd (none_some (sym e ∙ q)))
latest_step s a v w base r (Some f) e l h =
    elim (cases_Bool (before (state s 0).jobs r f.job)) [
      | inl b ↦ rw b (record {
        time = w;
        fetch = f;
        after = l;
        early = inr (omega arith);
        by = record { is = e; by = refl };
        base_up = inr (up_trans s base r f.job h.base_up b);
        all = λ m g k z q. elim (cases_eq m w) [
          | inl same ↦
              inl (ap (λ (y : Fetch). y.job)
              (some_injective (sym (subst (λ x. fetch_at s x ≡ Some g) same q) ∙ e)))
          | inr ne ↦ inr (up_trans s g.job r f.job (h.all m g k (omega arith) q) b)
        ];
      })
      | inr b ↦ rw b (latest_more s a v w base r h (λ g q k.
          let same : g ≡ f = some_injective (sym q ∙ e) in
          subst (λ (y : Fetch). IsUpTo s y.job r) (sym same)
          (elim (cases_eq f.job r) [
            | inl z ↦ inl z
            | inr ne ↦ inr (comes_before_total _ _ _ _ b (λ z. ne (sym z)))
          ])))
    ]

latest_is : (s : Start) (a v base : ℕ) (e : Fetch) → a < v → FetchesAt s base v e → (w : ℕ)
    → IsLatest s a v w base (latest s a base w)
latest_is s a v base e l h zero =
    record {
      time = v;
      fetch = e;
      after = l;
      early = inl refl;
      by = h;
      base_up = inl refl;
      all = λ m g k z q. absurd (omega arith);
    }
latest_is s a v base e l h (suc w) =
    elim (cases_lt a w) [
      | inl k ↦
          rw (lt-ltb a w k)
          (latest_step s a v w base (latest s a base w) (fetch_at s w) refl k
          (latest_is s a v base e l h w))
      | inr k ↦
          rw (le-ltb a w k)
          (latest_more s a v w base (latest s a base w) (latest_is s a v base e l h w)
          (λ g q z. absurd (omega arith)))
    ]

-- the last fetch to a set before step n, the fetches of x around it, and the latest job between
-- these
abbrev pub last_time : Start → ℕ → ℕ → ℕ
last_time s set n = found_below (λ m. has_set s set (fetch_at s m)) n

abbrev pub own_before : Start → ℕ → ℕ → ℕ
own_before s x v = found_below (λ m. has_job x (fetch_at s m)) v

abbrev pub own_after : Start → ℕ → ℕ → ℕ → ℕ
own_after s x v n = next_from (λ m. has_job x (fetch_at s m)) (suc v) (n - suc v)

abbrev pub preemptor_of : Start → ℕ → ℕ → ℕ → ℕ
preemptor_of s x set n =
    latest s (own_before s x (last_time s set n)) (job_in (fetch_at s (last_time s set n)))
    (own_after s x (last_time s set n) n)

-- the preemptor that these give
pub record HasPreemptor (s : Start) (x t p : ℕ) (f : Fetch) : Type 0 where
  pub a : ℕ
  pub v : ℕ
  pub c : ℕ
  pub is : IsPreemptor s x p t a v c f
  pub up : IsUpTo s is.evictor.job p

pub preemptor_is : (s : Start) (x t u : ℕ) (f g : Fetch) → HasCache s → IsOwnReload s x t u f g
    → HasPreemptor s x t (preemptor_of s x (fetched_set s f) t) f
preemptor_is s x t u f g cached reload =
    let set = fetched_set s f in
    let v = last_time s (fetched_set s f) t in
    let some = some_from (λ m. has_set s (fetched_set s f) (fetch_at s m)) t u reload.own.earlier
    (set_passes s u (fetched_set s f) g reload.own.own.is reload.own.to_set) in
    let at_v = found_is (λ m. has_set s (fetched_set s f) (fetch_at s m)) t some in
    let e = set_fetch s (last_time s (fetched_set s f) t) (fetched_set s f)
    (fetch_at s (last_time s (fetched_set s f) t)) refl at_v.1 in
    with_last s x t u f g cached reload (last_time s (fetched_set s f) t) e.fetch
    (record {
      earlier = at_v.0;
      is = e.is;
      to_set = e.holds;
      last = λ m k a b q z.
          let top = found_last (λ w. has_set s (fetched_set s f) (fetch_at s w)) t m b
          (set_passes s m (fetched_set s f) k q z) in omega arith;
    })
    (ap job_in e.is)
  where
    with_last : (s : Start) (x t u : ℕ) (f g : Fetch) → HasCache s → IsOwnReload s x t u f g
        → (v : ℕ) (e : Fetch) → IsLastFetchTo s (fetched_set s f) t v e
        → job_in (fetch_at s v) ≡ e.job
        → HasPreemptor s x t
        (latest s (own_before s x v) (job_in (fetch_at s v)) (own_after s x v t)) f
    with_last s x t u f g cached reload v e last job =
        let others = evictor_is_other s x t u f g e.job v e cached reload
        (record { last = last; by = refl }) in
        let some = some_from (λ m. has_job x (fetch_at s m)) v u others.since
        (job_passes s u x g reload.own.own.is reload.own.own.by) in
        let at_a = found_is (λ m. has_job x (fetch_at s m)) v some in
        let fa = job_fetch s (own_before s x v) x (fetch_at s (own_before s x v)) refl at_a.1 in
        let sum : suc v + (t - suc v) ≡ t = let l = last.earlier in omega arith in
        let n = next_is (λ m. has_job x (fetch_at s m)) (t - suc v) (suc v)
        (subst (λ k. has_job x (fetch_at s k) ≡ true) (sym sum)
        (job_passes s t x f reload.fetches.is reload.fetches.by)) in
        let fc = job_fetch s (own_after s x v t) x (fetch_at s (own_after s x v t)) refl n.passes in
        let none : (w : ℕ) (k : Fetch) → own_before s x v < w → w < own_after s x v t
        → fetch_at s w ≡ Some k → k.job ≢ x =
        λ w k l m q z. elim (cases_order w v) [
          | inl at ↦
              others.other
              (ap (λ (y : Fetch). y.job)
              (same_fetch s v e k last.is (subst (λ d. fetch_at s d ≡ Some k) at q)) ∙ z)
          | inr o ↦ elim o [
            | inl early ↦ let top =
                found_last (λ d. has_job x (fetch_at s d)) v w early (job_passes s w x k q z) in
                absurd (omega arith)
            | inr late ↦ false≢true (sym (n.none w late m) ∙ job_passes s w x k q z)
          ]
        ] in
        let p = latest_is s (own_before s x v) v e.job e at_a.0 (record { is = last.is; by = refl })
        (own_after s x v t) in
        let from = n.from in
        let by = n.by in
        let until : p.time < own_after s x v t = elim p.early [ inl q ↦ omega arith | inr l ↦ l ] in
        subst (λ y. HasPreemptor s x t (latest s (own_before s x v) y (own_after s x v t)) f)
        (sym job)
        (record {
          a = own_before s x v;
          v = v;
          c = own_after s x v t;
          is = record {
            evictor = e;
            last = last;
            lies = record {
              from = fa.fetch;
              to = fc.fetch;
              gap = record {
                after = at_a.0;
                until = omega arith;
                begins = record { is = fa.is; by = fa.holds };
                ends = record { is = fc.is; by = fc.holds };
                none = none;
              };
            };
            in_time = omega arith;
            passes = record {
              at = p.time;
              fetch = p.fetch;
              after = p.after;
              until = until;
              by = p.by;
              other = λ z. none p.time p.fetch p.after until p.by.is (p.by.by ∙ z);
              latest = p.all;
            };
          };
          up = p.base_up;
        })

-- two reloads of one preemptor and one set are the same
pub same_reload : (s : Start) (x t u : ℕ) (f g : Fetch) (x' t' u' : ℕ) (f' g' : Fetch)
    (p p' a v c a' v' c' : ℕ) → HasCache s →
    IsOwnReload s x t u f g → IsOwnReload s x' t' u' f' g' → fetched_set s f ≡ fetched_set s f' →
    IsPreemptor s x p t a v c f → IsPreemptor s x' p' t' a' v' c' f' → p ≡ p' → (x ≡ x') × (t ≡ t')
same_reload s x t u f g x' t' u' f' g' p p' a v c a' v' c' cached r r' same q q' e =
    let q2 : IsPreemptor s x' p t' a' v' c' f' =
    subst (λ k. IsPreemptor s x' k t' a' v' c' f') (sym e) q' in
    let job = one_job_of s x t f x' t' f' p a v c a' v' c' q q2 in
    let r3 : IsOwnReload s x t' u' f' g' = subst (λ k. IsOwnReload s k t' u' f' g') (sym job) r' in
    let q3 : IsPreemptor s x p t' a' v' c' f' =
    subst (λ k. IsPreemptor s k p t' a' v' c' f') (sym job) q2 in (
      job,
      one_reload_of s x t u f g t' u' f' g' p a v c a' v' c' r r3 same q q3,
    )

-- two reloads of one preemptor are one job's
pub same_job : (s : Start) (x t u : ℕ) (f g : Fetch) (x' t' u' : ℕ) (f' g' : Fetch)
    (p p' a v c a' v' c' : ℕ) → HasCache s →
    IsOwnReload s x t u f g → IsOwnReload s x' t' u' f' g' → IsPreemptor s x p t a v c f
    → IsPreemptor s x' p' t' a' v' c' f' → p ≡ p' → x ≡ x'
same_job s x t u f g x' t' u' f' g' p p' a v c a' v' c' cached r r' q q' e =
    one_job_of s x t f x' t' f' p a v c a' v' c' q
    (subst (λ k. IsPreemptor s x' k t' a' v' c' f') (sym e) q')
