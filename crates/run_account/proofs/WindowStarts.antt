-- Each job has exactly one window start.
use Rattle.std.proofs.Common.{◌≡◌, ℕ, zero, suc, ◌<◌, ◌≤◌, ◌⊎◌, inl, inr, true, false, length}
use Rattle.std.proofs.Common.{arith, sym, ◌∙◌, subst}
use Rattle.std.proofs.lemmas.Bool.{cases_Bool, cases_eq, cases_lt, cases_order, false≢true}
use Rattle.preempt_machine.specs.Step.{is_open, Start}
use Rattle.run_account.specs.Fetches.{job_after}
use Rattle.run_account.specs.Ledger.{IsWindowStart, WindowHasStart}
use Rattle.run_account.specs.Nodes.{job_task}

module _ (s : Start) (i : ℕ) where
  -- a higher job that was released before step u is open there
  record IsHigherOpen (u y : ℕ) : Type 0 where
    pub below : y < length s.lines
    pub higher : job_task s y < job_task s i
    pub released : (job_after s 0 y).line.release < u
    pub open_still : is_open (job_after s u y).standing ≡ true

  -- of the jobs below a place no such job is open at step u
  abbrev IsQuietBelow : ℕ → ℕ → Type 0
  IsQuietBelow u k =
      (y : ℕ) → y < k → job_task s y < job_task s i → (job_after s 0 y).line.release < u
      → is_open (job_after s u y).standing ≡ false

  abbrev IsBusy : ℕ → Type 0
  IsBusy u =
      (y : ℕ) × (y < length s.lines) × (job_task s y < job_task s i)
      × ((job_after s 0 y).line.release < u) × (is_open (job_after s u y).standing ≡ true)

  -- the job at a place is such a job, or is not
  look_at : (u y : ℕ) → y < length s.lines → IsBusy u
      ⊎ (job_task s y < job_task s i → (job_after s 0 y).line.release < u
      → is_open (job_after s u y).standing ≡ false)
  look_at u y below =
      elim (cases_lt (job_task s y) (job_task s i)) [
        | inr low ↦ inr (λ h r. absurd (omega arith))
        | inl higher ↦ elim (cases_lt (job_after s 0 y).line.release u) [
          | inr late ↦ inr (λ h r. absurd (omega arith))
          | inl released ↦ elim (cases_Bool (is_open (job_after s u y).standing)) [
            | inl o ↦ inl (y, below, higher, released, o)
            | inr over ↦ inr (λ h r. over)
          ]
        ]
      ]

  look : (u k : ℕ) → k ≤ length s.lines → IsBusy u ⊎ IsQuietBelow u k
  look u zero le = inr (λ y b h r. absurd (omega arith))
  look u (suc k) le =
      elim (look u k (omega arith)) [
        | inl busy ↦ inl busy
        | inr quiet ↦ elim (look_at u k (omega arith)) [
          | inl busy ↦ inl busy
          | inr here ↦ inr (λ y b h r. elim (cases_eq y k) [
            | inl e ↦
                subst (λ x. is_open (job_after s u x).standing ≡ false) (sym e)
                (here (subst (λ x. job_task s x < job_task s i) e h)
                (subst (λ x. (job_after s 0 x).line.release < u) e r))
            | inr ne ↦ quiet y (omega arith) h r
          ])
        ]
      ]

  -- the last quiet step at or before a given one
  record IsLastQuiet (n t : ℕ) : Type 0 where
    pub by : t ≤ n
    pub quiet : IsQuietBelow t (length s.lines)
    pub busy : (u : ℕ) → t < u → u ≤ n → IsBusy u

  last_quiet : (n : ℕ) → (t : ℕ) × IsLastQuiet n t
  last_quiet zero = (
    zero,
    record {
      by = omega arith;
      quiet = λ y b h r. absurd (omega arith);
      busy = λ u l g. absurd (omega arith);
    },
  )
  last_quiet (suc n) =
      elim (look (suc n) (length s.lines) (omega arith)) [
        | inr quiet ↦ (
          suc n,
          record { by = omega arith; quiet = quiet; busy = λ u l g. absurd (omega arith) },
        )
        | inl now ↦
            let before = last_quiet n in (
              before.0,
              record {
                by = omega (arith, before.1.by);
                quiet = before.1.quiet;
                busy = λ u l g. elim (cases_eq u (suc n)) [
                  | inl e ↦ subst IsBusy (sym e) now
                  | inr ne ↦ before.1.busy u l (omega arith)
                ];
              },
            )
      ]

  found : (t : ℕ) × IsWindowStart s i t
  found =
      let last = last_quiet (job_after s 0 i).line.release in (
        last.0,
        record { by = last.1.by; quiet = last.1.quiet; busy = last.1.busy },
      )

  -- no later step is quiet
  no_later : (t u : ℕ) → IsWindowStart s i t → IsWindowStart s i u → t < u → ⊥
  no_later t u one other later =
      let b = one.busy u later other.by in
      false≢true (sym (other.quiet b.0 b.1 b.2 b.3) ∙ b.4)

pub window_has_start : WindowHasStart
window_has_start = record {
  some = found;
  one = λ s i t u one other. elim (cases_order t u) [
    | inl e ↦ e
    | inr o ↦ elim o [
      | inl l ↦ absurd (no_later s i t u one other l)
      | inr l ↦ absurd (no_later s i u t other one l)
    ]
  ];
}
