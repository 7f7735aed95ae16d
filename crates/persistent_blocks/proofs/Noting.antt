-- The nodes of regions are noted one by one, and the sets with two blocks are forgotten.
use Rattle.std.proofs.Common.{◌≡◌, ◌≢◌, ◌⊎◌, ℕ, ◌+◌, ◌<◌, ◌≤◌, ◌==◌, ◌||◌, ◌&&◌, Bool, true, false}
use Rattle.std.proofs.Common.{if◌then◌else◌, List, [], length, take, set, get_or, Some, None}
use Rattle.std.proofs.Common.{IsTrue, refl, sym, ap, ◌∙◌, subst, inl, inr, ⊎_elim, arith, eq-eqb, ne_eqb}
use Rattle.std.proofs.Common.{get_or-set_same, get_or-set_other, length-set}
use Rattle.std.proofs.lemmas.Bool.{cases_eq, cases_lt, cases_Bool, false≢true, eqb-true, or_cases}
use Rattle.std.proofs.lemmas.Bool.{or_left, or_right, lt-ltb, le-ltb}
use Rattle.std.proofs.Math.Dec.{ltb}
use Rattle.std.proofs.lemmas.List.{get_or_past}
use Rattle.std.proofs.lemmas.List.Folds.{list_any_more}
use Rattle.crpd_base.proofs.Options.{some_injective, none_some}
use Rattle.crpd_base.specs.Sets.{has, member}
use Rattle.icache.specs.Accesses.{Accesses}
use Rattle.icache.specs.Cache.{Cache, held}
use Rattle.loop_regions.specs.CodeNest.{has as lists}
use Rattle.loop_regions.specs.Nest.{Nest}
use Rattle.must_cache.specs.Marks.{sets_at}
use Rattle.must_cache.specs.States.{state_at}
use Rattle.persistent_blocks.specs.Inner.Noted.{HasNoted, with_node, AreNoted, with_round}
use Rattle.persistent_blocks.specs.Inner.Noted.{ArePersistentPairs}

-- a value that was changed at one place
at_it : {A : Type 0} (t s : ℕ) (x y : A) → t ≡ s → (if t == s then x else y) ≡ x
at_it t s x y e = rw (eq-eqb t s e) refl

off_it : {A : Type 0} (t s : ℕ) (x y : A) → t ≢ s → (if t == s then x else y) ≡ y
off_it t s x y ne = rw (ne_eqb t s ne) refl

module _ (a : Accesses) (noted : ℕ → Bool) (y set block : ℕ) (first : Cache) (mixed : List ℕ)
    (here : a.set y ≡ set) (is : a.block y ≡ block) (H : HasNoted a noted first mixed) where
  old : (z : ℕ) → IsTrue (noted z) → IsTrue (with_node noted y z)
  old z t = or_left (noted z) (z == y) t

  new : IsTrue (with_node noted y y)
  new = or_right (noted y) (y == y) (eq-eqb y y refl)

  either : (z : ℕ) → IsTrue (with_node noted y z) → IsTrue (noted z) ⊎ (z ≡ y)
  either z t =
      ⊎_elim (λ o. inl o) (λ e. inr (eqb-true z y e)) (or_cases (noted z) (z == y) t)

  -- the first block of its set
  pub note_first : (after : Cache) → held first set ≡ None
      → ((s : ℕ) → held after s ≡ (if set == s then Some block else held first s))
      → HasNoted a (with_node noted y) after mixed
  note_first after none held_is = record {
    some = λ s m h. elim (cases_eq set s) [
      | inl e ↦ (
        y,
        new,
        here ∙ e,
        is ∙ some_injective (sym (held_is s ∙ at_it set s (Some block) (held first s) e) ∙ h),
      )
      | inr ne ↦
          let z = H.some s m (sym (held_is s ∙ off_it set s (Some block) (held first s) ne) ∙ h) in
          (z.0, old z.0 z.1, z.2, z.3)
    ];
    each = λ z t. elim (either z t) [
      | inl o ↦ elim (H.each z o) [
        | inl both ↦ inl both
        | inr one ↦ elim (cases_eq set (a.set z)) [
          | inl e ↦
              absurd (none_some (sym none ∙ ap (held first) e ∙ one))
          | inr ne ↦
              inr (held_is (a.set z) ∙ off_it set (a.set z) (Some block) (held first (a.set z)) ne
              ∙ one)
        ]
      ]
      | inr e ↦
          inr (held_is (a.set z)
          ∙ at_it set (a.set z) (Some block) (held first (a.set z)) (sym here ∙ ap a.set (sym e))
          ∙ ap Some (sym is ∙ ap a.block (sym e)))
    ];
    apart = λ s m t each. H.apart s m t (λ z o. each z (old z o));
  }

  -- the same block again
  pub note_same : held first set ≡ Some block → HasNoted a (with_node noted y) first mixed
  note_same one = record {
    some = λ s m h. let z = H.some s m h in (z.0, old z.0 z.1, z.2, z.3);
    each = λ z t. elim (either z t) [
      | inl o ↦ H.each z o
      | inr e ↦
          inr (ap (λ x. held first (a.set x)) e ∙ ap (held first) here ∙ one
          ∙ ap Some (sym is ∙ ap a.block (sym e)))
    ];
    apart = λ s m t each. H.apart s m t (λ z o. each z (old z o));
  }

  -- another block
  pub note_other : (other : ℕ) (after : List ℕ) → held first set ≡ Some other → other ≢ block
      → ((t : ℕ) → member after t ≡ (if t == set then 1 else member mixed t))
      → HasNoted a (with_node noted y) first after
  note_other other after one ne member_is =
      let inserted : IsTrue (has after set) =
      ap (λ m. m == 1) (member_is set ∙ at_it set set 1 (member mixed set) refl) in
      let kept : (s : ℕ) → s ≢ set → has after s ≡ has mixed s = λ s off.
      ap (λ m. m == 1) (member_is s ∙ off_it s set 1 (member mixed s) off) in
      record {
        some = λ s m h. let z = H.some s m h in (z.0, old z.0 z.1, z.2, z.3);
        each = λ z t. elim (cases_eq (a.set z) set) [
          | inl e ↦ inl (subst (λ s. IsTrue (has after s)) (sym e) inserted)
          | inr off ↦ elim (either z t) [
            | inl o ↦ elim (H.each z o) [
              | inl both ↦ inl (kept (a.set z) off ∙ both)
              | inr same ↦ inr same
            ]
            | inr e ↦ absurd (off (ap a.set e ∙ here))
          ]
        ];
        apart = λ s m t each. elim (cases_eq s set) [
          | inl e ↦
              let z = H.some set other one in
              ne (sym z.3 ∙ each z.0 (old z.0 z.1) (z.2 ∙ sym e)
              ∙ sym (each y new (here ∙ sym e)) ∙ is)
          | inr off ↦ H.apart s m (sym (kept s off) ∙ t) (λ z o. each z (old z o))
        ];
      }

-- equal tests have noted the same
pub noted_alike : (a : Accesses) (p q : ℕ → Bool) (first : Cache) (mixed : List ℕ)
    → ((z : ℕ) → p z ≡ q z) → HasNoted a p first mixed → HasNoted a q first mixed
noted_alike a p q first mixed same H = record {
  some = λ s m h. let z = H.some s m h in (z.0, sym (same z.0) ∙ z.1, z.2, z.3);
  each = λ z t. H.each z (same z ∙ t);
  apart = λ s m t each. H.apart s m t (λ z o. each z (sym (same z) ∙ o));
}

more_here : (n h z : Bool) → ((n || (h && z)) || z) ≡ (n || ((h || true) && z))
more_here true h z = refl
more_here false true true = refl
more_here false true false = refl
more_here false false true = refl
more_here false false false = refl

more_there : (n h z : Bool) → (n || (h && z)) ≡ (n || ((h || false) && z))
more_there true h z = refl
more_there false true z = refl
more_there false false z = refl

-- node y is noted in one more region
module _ (a : Accesses) (noted : ℕ → ℕ → Bool) (y : ℕ) (regions : List ℕ) (i : ℕ)
    (within : i < length regions) where
  more : (r z : ℕ) → (b : Bool) → (get_or regions i 0 == r) ≡ b
      → (noted r z || ((lists (take i regions) r || b) && (z == y)))
      ≡ with_round noted (take (i + 1) regions) y r z
  more r z b e =
      ap (λ l. noted r z || (l && (z == y)))
      (ap (λ x. lists (take i regions) r || x) (sym e)
      ∙ sym (list_any_more (λ s. s == r) regions i 0 within))

  same_there : (r z : ℕ) → get_or regions i 0 ≢ r
      → with_round noted (take i regions) y r z ≡ with_round noted (take (i + 1) regions) y r z
  same_there r z ne =
      more_there (noted r z) (lists (take i regions) r) (z == y)
      ∙ more r z false (ne_eqb (get_or regions i 0) r ne)

  same_here : (z : ℕ) → let r = get_or regions i 0 in
      with_node (with_round noted (take i regions) y r) y z
      ≡ with_round noted (take (i + 1) regions) y r z
  same_here z =
      let r = get_or regions i 0 in
      more_here (noted r z) (lists (take i regions) r) (z == y) ∙ more r z true (eq-eqb r r refl)

  -- which is none of the states'
  pub round_past : (firsts : List Cache) (mixed : List (List ℕ))
      → length firsts ≤ get_or regions i 0
      → AreNoted a (with_round noted (take i regions) y) firsts mixed
      → AreNoted a (with_round noted (take (i + 1) regions) y) firsts mixed
  round_past firsts mixed past H r lt =
      noted_alike a (with_round noted (take i regions) y r)
      (with_round noted (take (i + 1) regions) y r) (state_at firsts r) (sets_at mixed r)
      (λ z. same_there r z (λ e. omega arith)) (H r lt)

  -- or whose state is changed
  pub round_more : (firsts : List Cache) (mixed : List (List ℕ)) (state : Cache) (sets : List ℕ)
      → length mixed ≡ length firsts → let k = get_or regions i 0 in k < length firsts
      → AreNoted a (with_round noted (take i regions) y) firsts mixed
      → (HasNoted a (with_round noted (take i regions) y k) (state_at firsts k) (sets_at mixed k)
      → HasNoted a (with_node (with_round noted (take i regions) y k) y) state sets)
      → AreNoted a (with_round noted (take (i + 1) regions) y) (set firsts k state)
      (set mixed k sets)
  round_more firsts mixed state sets count there H step r lt =
      let k = get_or regions i 0 in
      let inside : r < length firsts = omega (arith, lt, length-set {A = Cache}) in
      elim (cases_eq r k) [
        | inl e ↦
            let now : state_at (set firsts k state) r ≡ state =
            ap (state_at (set firsts k state)) e ∙ get_or-set_same firsts k state [] there in
            let apart : sets_at (set mixed k sets) r ≡ sets =
            ap (sets_at (set mixed k sets)) e
            ∙ get_or-set_same mixed k sets [] (omega arith) in
            rw (now, apart) (noted_alike a (with_node (with_round noted (take i regions) y k) y)
            (with_round noted (take (i + 1) regions) y r) state sets
            (λ z. same_here z ∙ ap (λ x. with_round noted (take (i + 1) regions) y x z) (sym e))
            (step (H k there)))
        | inr ne ↦
            rw (get_or-set_other firsts k r state [] ne, get_or-set_other mixed k r sets [] ne)
            (noted_alike a (with_round noted (take i regions) y r)
            (with_round noted (take (i + 1) regions) y r) (state_at firsts r) (sets_at mixed r)
            (λ z. same_there r z (λ e. ne (sym e))) (H r inside))
      ]

nothing_round : (n z : Bool) → n ≡ (n || (false && z))
nothing_round true z = refl
nothing_round false z = refl

-- at first it is noted in none
pub round_none : (a : Accesses) (noted : ℕ → ℕ → Bool) (y : ℕ) (regions : List ℕ)
    (firsts : List Cache) (mixed : List (List ℕ)) → AreNoted a noted firsts mixed
    → AreNoted a (with_round noted (take 0 regions) y) firsts mixed
round_none a noted y regions firsts mixed H r lt =
    noted_alike a (noted r) (with_round noted (take 0 regions) y r) (state_at firsts r)
    (sets_at mixed r) (λ z. nothing_round (noted r z) (z == y)) (H r lt)

-- the nodes of regions among the first k
abbrev pub below : (ℕ → ℕ → Bool) → ℕ → ℕ → ℕ → Bool
below holds k r z = holds r z && ltb z k

-- one more node, in the regions that hold it
pub node_more : (a : Accesses) (holds : ℕ → ℕ → Bool) (k : ℕ) (round : List ℕ)
    (firsts : List Cache) (mixed : List (List ℕ)) → ((r : ℕ) → lists round r ≡ holds r k)
    → AreNoted a (with_round (below holds k) round k) firsts mixed
    → AreNoted a (below holds (k + 1)) firsts mixed
node_more a holds k round firsts mixed is H r lt =
    noted_alike a (with_round (below holds k) round k r) (below holds (k + 1) r) (state_at firsts r)
    (sets_at mixed r) (λ z. alike z) (H r lt)
  where
    same : (h : Bool) → ((h && false) || (h && true)) ≡ (h && true)
    same true = refl
    same false = refl

    other : (h b l : Bool) → ((h && b) || (l && false)) ≡ (h && b)
    other true true l = refl
    other true false true = refl
    other true false false = refl
    other false b true = refl
    other false b false = refl

    alike : (z : ℕ) → with_round (below holds k) round k r z ≡ below holds (k + 1) r z
    alike z = elim (cases_eq z k) [
      | inl e ↦
          let not_yet : ltb z k ≡ false = le-ltb z k (omega arith) in
          let now : ltb z (k + 1) ≡ true = lt-ltb z (k + 1) (omega arith) in
          let here : lists round r ≡ holds r z = is r ∙ ap (holds r) (sym e) in
          rw (not_yet, now, here, eq-eqb z k e) (same (holds r z))
      | inr ne ↦
          let alike : ltb z k ≡ ltb z (k + 1) = elim (cases_lt z k) [
            | inl l ↦ lt-ltb z k l ∙ sym (lt-ltb z (k + 1) (omega arith))
            | inr g ↦ le-ltb z k g ∙ sym (le-ltb z (k + 1) (omega arith))
          ] in
          rw (← alike, ne_eqb z k ne) (other (holds r z) (ltb z k) (lists round r))
    ]

-- at first none is noted
pub noted_none : (a : Accesses) (holds : ℕ → ℕ → Bool) (firsts : List Cache)
    (mixed : List (List ℕ)) → ((r s : ℕ) → held (state_at firsts r) s ≡ None)
    → ((r s : ℕ) → has (sets_at mixed r) s ≡ false) → AreNoted a (below holds 0) firsts mixed
noted_none a holds firsts mixed none apart r lt =
    let never : (z : ℕ) → IsTrue (below holds 0 r z) → ⊥ = λ z t.
    false≢true (sym (le-ltb z 0 (omega arith)) ∙ second (holds r z) (ltb z 0) t) in
    record {
      some = λ s m h. absurd (none_some (sym (none r s) ∙ h));
      each = λ z t. absurd (never z t);
      apart = λ s m t each. false≢true (sym (apart r s) ∙ t);
    }
  where
    second : (h b : Bool) → IsTrue (h && b) → IsTrue b
    second true b t = t
    second false b t = absurd (false≢true t)

-- in the end all are, if regions hold only nodes below n
pub noted_all : (a : Accesses) (holds : ℕ → ℕ → Bool) (n : ℕ) (firsts : List Cache)
    (mixed : List (List ℕ)) → ((r y : ℕ) → n ≤ y → holds r y ≡ false)
    → AreNoted a (below holds n) firsts mixed → AreNoted a holds firsts mixed
noted_all a holds n firsts mixed only H r lt =
    noted_alike a (below holds n r) (holds r) (state_at firsts r) (sets_at mixed r)
    (λ z. elim (cases_lt z n) [
      | inl l ↦ rw (lt-ltb z n l) (all (holds r z))
      | inr g ↦ rw (only r z g) refl
    ]) (H r lt)
  where
    all : (h : Bool) → (h && true) ≡ h
    all true = refl
    all false = refl

-- without the sets with two blocks, what is noted of all nodes are the persistent pairs
pub persistent_pairs : (a : Accesses) (n : Nest) (firsts pairs : List Cache)
    (mixed : List (List ℕ)) → length firsts ≡ n.size → length pairs ≡ n.size
    → AreNoted a n.holds firsts mixed
    → ((r s : ℕ) → r < length firsts → held (state_at pairs r) s
    ≡ (if has (sets_at mixed r) s then None else held (state_at firsts r) s))
    → ArePersistentPairs a n pairs
persistent_pairs a n firsts pairs mixed count same H forgotten r s m = elim (cases_lt r n.size) [
  | inl lt ↦
      let h = H r (omega arith) in
      let is = forgotten r s (omega arith) in
      elim (cases_Bool (has (sets_at mixed r) s)) [
        | inl t ↦ (
          λ e. absurd (none_some (sym (is ∙ rw t refl) ∙ e)),
          λ p. absurd (h.apart s m t (λ y o at. p.each y o at)),
        )
        | inr f ↦
            let one : held (state_at pairs r) s ≡ held (state_at firsts r) s = is ∙ rw f refl in (
              λ e.
                  let z = h.some s m (sym one ∙ e) in
                  record {
                    region = lt;
                    node = z.0;
                    holds = z.1;
                    own = z.2;
                    each = λ y o at. elim (h.each y o) [
                      | inl t ↦ absurd (false≢true (sym f ∙ ap (has (sets_at mixed r)) (sym at) ∙ t))
                      | inr b ↦
                          some_injective (sym b ∙ ap (held (state_at firsts r)) at ∙ sym one ∙ e)
                    ];
                  },
              λ p. elim (h.each p.node p.holds) [
                | inl t ↦
                    absurd (false≢true (sym f ∙ ap (has (sets_at mixed r)) (sym p.own) ∙ t))
                | inr b ↦
                    one ∙ ap (held (state_at firsts r)) (sym p.own) ∙ b
                    ∙ ap Some (p.each p.node p.holds p.own)
              ],
            )
      ]
  | inr ge ↦
      let none : held (state_at pairs r) s ≡ None =
      ap (λ c. held c s) (get_or_past pairs r [] (omega arith)) in (
        λ e. absurd (none_some (sym none ∙ e)),
        λ p. absurd (let lt = p.region in omega arith),
      )
]
