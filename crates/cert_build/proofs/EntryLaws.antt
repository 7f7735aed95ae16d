-- The entries of leaders, node by node.
use Rattle.std.proofs.Common.{◌≡◌, ◌≢◌, ℕ, zero, suc, ◌+◌, ◌<◌, ◌≤◌, ◌^◌, List, [], ◌∷◌, ◌++◌}
use Rattle.std.proofs.Common.{Option, Some, None, IsTrue, IsFalse, ◌↔◌, length, get_or, refl, sym}
use Rattle.std.proofs.Common.{◌∙◌, subst, inl, inr, ⊎_elim, arith, ◌==◌, is_some, All, AllPairs}
use Rattle.std.proofs.lemmas.Bool.{cases_Bool, cases_eq, cases_lt, eqb-true, eq-eqb, ne_eqb}
use Rattle.std.proofs.lemmas.Bool.{false≢true}
use Rattle.std.proofs.lemmas.List.Elements.{All-append}
use Rattle.crpd_base.proofs.Options.{none_some, not_none}
use Rattle.crpd_base.specs.declared.data.Platform.{Platform}
use Rattle.crpd_base.specs.declared.data.NodeState.{NodeState}
use Rattle.crpd_base.specs.declared.data.TaskPart.{TaskPart}
use Rattle.crpd_base.specs.Sets.{has, AreWords}
use Rattle.flat_graph.specs.Graph.{Graph, IsGraph, IsLeader}
use Rattle.icache.specs.Accesses.{Accesses, accesses, last_access}
use Rattle.must_cache.specs.Sure.{Sure}
use Rattle.useful_sets.specs.Sets.{AreUseful, sets_at}
use Rattle.useful_sets.specs.Useful.{Useful}
use Rattle.evict_sets.specs.ListedPart.{state_entry_of, block_of_set}
use Rattle.cert_check.proofs.Leaders.{continues_one}
use Rattle.crpd_base.specs.CertificateRanges.{RiseFrom, IsState}
use Rattle.cert_model.proofs.Ranged.{rise_wider}
use Rattle.cert_build.specs.Best.{IsBestState, AreBestStates}
use Rattle.cert_build.specs.Inner.Entries.{ListsSure, IsStateEntry, AreLeaderEntries}

all_one : {X : Type 0} (P : X → Type 0) (x : X) → P x → All P (x ∷ [])
all_one P x h zero d l = h
all_one P x h (suc k) d l = absurd (omega (arith, l))

-- ---- ascending lists

pub rise_push : {A : Type 0} (number : A → ℕ) (low n limit : ℕ) (xs : List A) (x : A)
    → RiseFrom number low n xs → low ≤ number x → n ≤ number x → number x < limit
    → RiseFrom number low limit (xs ++ x ∷ [])
rise_push number low n limit [] x r a b c = (a, c, tt)
rise_push number low n limit (y ∷ ys) x r a b c =
    let k = r.1 in (
      r.0,
      omega (arith, k, b, c),
      rise_push number (number y + 1) n limit ys x r.2 (omega (arith, k, b)) b c,
    )

rise_low : {A : Type 0} (number : A → ℕ) (low limit : ℕ) (xs : List A) (k : ℕ) (d : A)
    → RiseFrom number low limit xs → k < length xs → low ≤ number (get_or xs k d)
rise_low number low limit [] k d r l = absurd (omega (arith, l))
rise_low number low limit (x ∷ xs) zero d r l = r.0
rise_low number low limit (x ∷ xs) (suc k) d r l =
    let a = r.0 in
    let b = rise_low number (number x + 1) limit xs k d r.2 (omega (arith, l)) in
    omega (arith, a, b)

pub rise_pairs : {A : Type 0} (number : A → ℕ) (low limit : ℕ) (xs : List A)
    → RiseFrom number low limit xs → AllPairs (λ (x y : A). number x < number y) xs
rise_pairs number low limit [] r i j d l m = absurd (omega (arith, m))
rise_pairs number low limit (x ∷ xs) r zero zero d l m = absurd (omega (arith, l))
rise_pairs number low limit (x ∷ xs) r zero (suc j) d l m =
    let b = rise_low number (number x + 1) limit xs j d r.2 (omega (arith, m)) in omega (arith, b)
rise_pairs number low limit (x ∷ xs) r (suc i) zero d l m = absurd (omega (arith, l))
rise_pairs number low limit (x ∷ xs) r (suc i) (suc j) d l m =
    rise_pairs number (number x + 1) limit xs r.2 i j d (omega (arith, l)) (omega (arith, m))

-- ---- the pairs

-- no pair is past those that rise below a limit
past : (low n s : ℕ) (xs : List (ℕ × ℕ)) → n ≤ s → RiseFrom (λ (p : ℕ × ℕ). p.0) low n xs
    → block_of_set xs s ≡ None
past low n s [] le r = refl
past low n s (x ∷ xs) le r =
    let b = r.1 in
    rw (ne_eqb x.0 s (λ e. absurd (omega (arith, e, b, le)))) (past (x.0 + 1) n s xs le r.2)

-- a pair past them is found
added : (low n m : ℕ) (xs : List (ℕ × ℕ)) → RiseFrom (λ (p : ℕ × ℕ). p.0) low n xs
    → block_of_set (xs ++ (n, m) ∷ []) n ≡ Some m
added low n m [] r = rw (eq-eqb n n refl) refl
added low n m (x ∷ xs) r =
    let b = r.1 in
    rw (ne_eqb x.0 n (λ e. absurd (omega (arith, e, b)))) (added (x.0 + 1) n m xs r.2)

-- and changes nothing at different sets
elsewhere : (n m s : ℕ) (xs : List (ℕ × ℕ)) → n ≢ s
    → block_of_set (xs ++ (n, m) ∷ []) s ≡ block_of_set xs s
elsewhere n m s [] ne = rw (ne_eqb n s ne) refl
elsewhere n m s (x ∷ xs) ne =
    elim (cases_Bool (x.0 == s)) [
      | inl b ↦ rw b refl
      | inr b ↦ rw b (elsewhere n m s xs ne)
    ]

module _ (g : Graph) (a : Accesses) (y n : ℕ) where
  -- one more set, which surely holds a block or none
  next : (xs : List (ℕ × ℕ)) (o : Option ℕ) (s m : ℕ) → s < n + 1
      → ((x : ℕ) → (o ≡ Some x) ↔ Sure g a y n x) → block_of_set xs n ≡ o
      → ((t x : ℕ) → t < n → (block_of_set xs t ≡ Some x) ↔ Sure g a y t x)
      → (block_of_set xs s ≡ Some m) ↔ Sure g a y s m
  next xs o s m lt here is before =
      ⊎_elim
      (λ (e : s ≡ n). subst (λ t. (block_of_set xs t ≡ Some m) ↔ Sure g a y t m) (sym e) (
        λ b. (here m).0 (sym is ∙ b),
        λ sure. is ∙ (here m).1 sure,
      ))
      (λ ne. before s m (omega (arith, lt, ne)))
      (cases_eq s n)

  pub listed_more : (o : Option ℕ) (m : ℕ) (xs new : List (ℕ × ℕ))
      → ((x : ℕ) → (o ≡ Some x) ↔ Sure g a y n x) → o ≡ Some m → new ≡ xs ++ (n, m) ∷ []
      → m < 2 ^ 32 → ListsSure g a y n xs → ListsSure g a y (n + 1) new
  listed_more o m xs new here some is bits L =
      subst (λ (l : List (ℕ × ℕ)). ListsSure g a y (n + 1) l) (sym is)
      (record {
        each = λ s x lt. next (xs ++ (n, m) ∷ []) o s x lt here (added 0 n m xs L.rise ∙ sym some)
            (λ t z l. let same = elsewhere n m t xs (λ e. absurd (omega (arith, e, l))) in
            (λ b. (L.each t z l).0 (sym same ∙ b), λ sure. same ∙ (L.each t z l).1 sure));
        rise =
            rise_push (λ (p : ℕ × ℕ). p.0) 0 n (n + 1) xs (n, m) L.rise (omega arith) (omega arith)
            (omega arith);
        blocks =
            All-append (λ (x : ℕ × ℕ). x.1 < 2 ^ 32) xs ((n, m) ∷ []) L.blocks
            (all_one (λ (x : ℕ × ℕ). x.1 < 2 ^ 32) (n, m) bits);
      })

  pub listed_same : (o : Option ℕ) (xs new : List (ℕ × ℕ))
      → ((x : ℕ) → (o ≡ Some x) ↔ Sure g a y n x) → o ≡ None → new ≡ xs → ListsSure g a y n xs
      → ListsSure g a y (n + 1) new
  listed_same o xs new here none is L =
      subst (λ (l : List (ℕ × ℕ)). ListsSure g a y (n + 1) l) (sym is)
      (record {
        each = λ s x lt.
            next xs o s x lt here (past 0 n n xs (omega arith) L.rise ∙ sym none) L.each;
        rise = rise_wider (λ (p : ℕ × ℕ). p.0) 0 n (n + 1) xs (omega arith) L.rise;
        blocks = L.blocks;
      })

-- the sets that surely hold a block are the platform's
last_set : (p : Platform) (address : ℕ → ℕ) (s m : ℕ) (before : List ℕ) → 0 < p.sets
    → last_access (accesses p address) s before ≡ Some m → s < p.sets
last_set p address s m [] some e = absurd (none_some e)
last_set p address s m (x ∷ before) some e =
    elim (cases_Bool ((accesses p address).set x == s)) [
      | inl b ↦ let same : (accesses p address).set x ≡ s =
          eqb-true ((accesses p address).set x) s b in omega (arith, same, some)
      | inr b ↦ last_set p address s m before some (rw b at e)
    ]

sure_set : (p : Platform) (g : Graph) (address : ℕ → ℕ) (y s m : ℕ) → IsGraph g → 0 < p.sets
    → y < g.size → Sure g (accesses p address) y s m → s < p.sets
sure_set p g address y s m G some lt sure =
    let walk = G.reached y lt in last_set p address s m walk.0 some (sure walk.0 walk.1)

module _ (p : Platform) (g : Graph) (address : ℕ → ℕ) (useful : List (List ℕ)) (G : IsGraph g)
    (some : 0 < p.sets) (few : p.sets ≤ 512) (U : AreUseful g (accesses p address) useful) where
  abbrev a : Accesses
  a = accesses p address

  sure_pairs : (y s m : ℕ) (pairs : List (ℕ × ℕ)) → y < g.size → ListsSure g a y p.sets pairs
      → (block_of_set pairs s ≡ Some m) ↔ Sure g a y s m
  sure_pairs y s m pairs lt L =
      elim (cases_lt s p.sets) [
        | inl l ↦ L.each s m l
        | inr ge ↦ (
          λ b. absurd (not_none (block_of_set pairs s) m (past 0 p.sets s pairs ge L.rise) b),
          λ sure. let l =
              sure_set p g address y s m G some lt sure in absurd (omega (arith, l, ge)),
        )
      ]

  -- the entry of a leader
  pub best_entry : (y : ℕ) (words : List ℕ) (e : NodeState) → y < g.size → IsLeader g y
      → words ≡ sets_at useful y → IsStateEntry g a y words p.sets e → IsBestState g a e
  best_entry y words e lt leads words_is E =
      record {
        node = subst (λ n. n < g.size) (sym E.node) lt;
        leader = subst (λ n. IsLeader g n) (sym E.node) leads;
        sure = λ s m.
            subst (λ n. (block_of_set e.sure s ≡ Some m) ↔ Sure g a n s m) (sym E.node)
            (sure_pairs y s m e.sure lt E.sure);
        ascending = rise_pairs (λ (x : ℕ × ℕ). x.0) 0 p.sets e.sure E.sure.rise;
        useful = record {
          size = subst (λ (l : List ℕ). AreWords 8 l) (sym E.useful) E.size;
          numbers = λ s. subst (λ n. IsTrue (has e.useful s) ↔ Useful g a n s) (sym E.node)
              (subst (λ (l : List ℕ). IsTrue (has l s) ↔ Useful g a y s) (sym (E.useful ∙ words_is))
              (U.each y s lt));
        };
      }

  pub entry_ranges : (y : ℕ) (words : List ℕ) (e : NodeState)
      → IsStateEntry g a y words p.sets e → IsState e
  entry_ranges y words e E =
      record {
        sets = rise_wider (λ (x : ℕ × ℕ). x.0) 0 p.sets 512 e.sure few E.sure.rise;
        blocks = E.sure.blocks;
      }

-- ---- the entries so far

-- a list with one more entry lists at least as many nodes
not_first : (states : List NodeState) (e : NodeState) (y : ℕ)
    → IsFalse (is_some (state_entry_of (states ++ e ∷ []) y))
    → IsFalse (is_some (state_entry_of states y))
not_first [] e y out = refl
not_first (s ∷ states) e y out =
    elim (cases_Bool (s.node == y)) [
      | inl b ↦ absurd (false≢true (sym (rw b at out)))
      | inr b ↦ rw b (not_first states e y (rw b at out))
    ]

not_last : (states : List NodeState) (e : NodeState) (y : ℕ)
    → IsFalse (is_some (state_entry_of (states ++ e ∷ []) y)) → e.node ≢ y
not_last [] e y out = λ same. false≢true (sym (rw (eq-eqb e.node y same) at out))
not_last (s ∷ states) e y out =
    elim (cases_Bool (s.node == y)) [
      | inl b ↦ absurd (false≢true (sym (rw b at out)))
      | inr b ↦ not_last states e y (rw b at out)
    ]

module _ (g : Graph) (a : Accesses) where
  pub entries_more : (n : ℕ) (states new : List NodeState) (e : NodeState) → new ≡ states ++ e ∷ []
      → e.node ≡ n → IsBestState g a e → IsState e → AreLeaderEntries g a n states
      → AreLeaderEntries g a (n + 1) new
  entries_more n states new e is node best ranges A =
      subst (λ (l : List NodeState). AreLeaderEntries g a (n + 1) l) (sym is)
      (record {
        leaders = λ y l out.
            A.leaders y (let ne = not_last states e y out in omega (arith, l, ne, node))
            (not_first states e y out);
        each =
            All-append (IsBestState g a) states (e ∷ []) A.each (all_one (IsBestState g a) e best);
        rise =
            rise_push (λ (s : NodeState). s.node) 0 n (n + 1) states e A.rise (omega arith)
            (omega (arith, node)) (omega (arith, node));
        ranges = All-append IsState states (e ∷ []) A.ranges (all_one IsState e ranges);
      })

  pub entries_same : (n : ℕ) (states : List NodeState) → IsGraph g → (IsLeader g n → ⊥)
      → AreLeaderEntries g a n states → AreLeaderEntries g a (n + 1) states
  entries_same n states G h A =
      record {
        leaders = λ y l out.
            ⊎_elim (λ e. continues_one g G y (subst (λ x. IsLeader g x → ⊥) (sym e) h))
            (λ ne. A.leaders y (omega (arith, l, ne)) out) (cases_eq y n);
        each = A.each;
        rise = rise_wider (λ (s : NodeState). s.node) 0 n (n + 1) states (omega arith) A.rise;
        ranges = A.ranges;
      }

  -- the entries of all leaders
  pub all_entries : (t : TaskPart) → AreLeaderEntries g a g.size t.states → AreBestStates g a t
  all_entries t A =
      record {
        leaders = A.leaders;
        each = A.each;
        ascending = rise_pairs (λ (s : NodeState). s.node) 0 g.size t.states A.rise;
      }
