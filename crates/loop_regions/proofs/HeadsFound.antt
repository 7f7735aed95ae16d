-- The heads of stated loops, node by node, and the regions that hold a node, head by head.
use Rattle.std.proofs.Common.{◌≡◌, ◌↔◌, ℕ, ◌+◌, ◌<◌, List, [], ◌∷◌, ◌++◌, length, Some, None}
use Rattle.std.proofs.Common.{slice_get, IsTrue, sym, ap, ◌∙◌, subst, ⊎_elim, arith, length-append}
use Rattle.std.proofs.Common.{if◌then◌else◌}
use Rattle.std.proofs.lemmas.Bool.{cases_eq}
use Rattle.std.proofs.lemmas.Option.{slice_get_within}
use Rattle.crpd_base.proofs.Elements.{at_more, at_end, at_kept}
use Rattle.crpd_base.specs.declared.data.LoopAt.{LoopAt}
use Rattle.flat_graph.specs.Graph.{Places}
use Rattle.loop_regions.specs.Stated.{region_holds}
use Rattle.loop_regions.specs.CodeNest.{has}
use Rattle.loop_regions.specs.Inner.Heads.{IsLoopAt, AreHeads, IsHeldBy}
use Rattle.loop_regions.specs.declared.heads.Head.{Head}
use Rattle.loop_regions.proofs.Has.{has_placed, placed_has, has_more}

module _ (p : Places) (loops : List LoopAt) where
  pub no_heads : AreHeads p loops 0 []
  no_heads = record {
    few = omega arith;
    node = λ r h e. absurd (let w = slice_get_within {A = Head} [] r h e in omega arith);
    numbered = λ r s h k lt e f. absurd (let w = slice_get_within {A = Head} [] r h e in
        omega arith);
    stated = λ r h e. absurd (let w = slice_get_within {A = Head} [] r h e in omega arith);
    all = λ l y c lt e. absurd (omega arith);
  }

  pub no_head : (k : ℕ) (heads : List Head) → AreHeads p loops k heads
      → IsLoopAt loops (p.address k) None → AreHeads p loops (k + 1) heads
  no_head k heads H none = record {
    few = let f = H.few in omega arith;
    node = λ r h e. let lt = H.node r h e in omega arith;
    numbered = H.numbered;
    stated = H.stated;
    all = λ l y c lt e.
        ⊎_elim (λ is. absurd (none l c (subst (λ z. p.address z ≡ l.head) is e)))
        (λ ne. H.all l y c (omega arith) e) (cases_eq y k);
  }

  pub one_head : (k i b : ℕ) (heads : List Head) → AreHeads p loops k heads
      → (l : LoopAt) × (slice_get loops i ≡ Some l) × (p.address k ≡ l.head) × (b ≡ l.bound)
      → AreHeads p loops (k + 1) (heads ++ record { node = k; stated = i; bound = b } ∷ [])
  one_head k i b heads H some = record {
    few = let f = H.few in omega (arith, length-append heads (here ∷ []));
    node = λ r h e.
        ⊎_elim (λ t. let lt = H.node r h t in omega arith)
        (λ t. let s = ap (λ (x : Head). x.node) t.1 in omega (arith, s)) (at_more heads here r h e);
    numbered = λ r s h j lt eh ej. ⊎_elim
        (λ u. ⊎_elim
        (λ t. H.numbered r s h j lt t u)
        (λ t. absurd (let w = slice_get_within heads s j u in omega (arith, t.0)))
        (at_more heads here r h eh))
        (λ u. ⊎_elim
        (λ t. let w = H.node r h t in let n = ap (λ (x : Head). x.node) u.1 in omega (arith, n))
        (λ t. absurd (omega (arith, t.0, u.0)))
        (at_more heads here r h eh))
        (at_more heads here s j ej);
    stated = λ r h e. ⊎_elim
        (λ t. H.stated r h t)
        (λ t. subst (λ (x : Head). (l : LoopAt) × (slice_get loops x.stated ≡ Some l)
        × (p.address x.node ≡ l.head) × (x.bound ≡ l.bound)) t.1 some)
        (at_more heads here r h e);
    all = λ l y c lt e. ⊎_elim
        (λ is. (length heads, here, at_end heads here, sym is))
        (λ ne. let a = H.all l y c (omega arith) e in
        (a.0, a.1, at_kept heads here a.0 a.1 a.2, a.3))
        (cases_eq y k);
  }
    where
      here : Head
      here = record { node = k; stated = i; bound = b }

  -- one more head
  pub placed : (heads : List Head) (y k : ℕ) (h : Head) (l : LoopAt) (old new : List ℕ)
      → slice_get heads k ≡ Some h → slice_get loops h.stated ≡ Some l
      → new ≡ old ++ (if region_holds p l (p.context h.node) y then k ∷ [] else [])
      → ((r : ℕ) → IsTrue (has old r) ↔ ((r < k) × IsHeldBy p loops heads y r))
      → (r : ℕ) → IsTrue (has new r) ↔ ((r < k + 1) × IsHeldBy p loops heads y r)
  placed heads y k h l old new eh el e H r =
      let b = region_holds p l (p.context h.node) y in (
        (λ t. ⊎_elim
            (λ o. let q = (H r).0 o in (omega (arith, q.0), q.1))
            (λ n. subst (λ x. (x < k + 1) × IsHeldBy p loops heads y x) n.1
            (omega arith, (h, l, eh, el, n.0)))
            (has_placed old k r b (subst (λ xs. IsTrue (has xs r)) e t))),
        (λ q. subst (λ xs. IsTrue (has xs r)) (sym e)
            (⊎_elim
            (λ is. subst (λ x. IsTrue (has (old ++ (if b then k ∷ [] else [])) x)) (sym is)
            (placed_has old k b (held q is)))
            (λ ne. has_more old (if b then k ∷ [] else []) r ((H r).1 (omega (arith, q.0), q.1)))
            (cases_eq r k))),
      )
    where
      held : ((r < k + 1) × IsHeldBy p loops heads y r) → r ≡ k
          → IsTrue (region_holds p l (p.context h.node) y)
      held q is =
          let by = q.1 in
          let hs : Some by.0 ≡ Some h = sym by.2 ∙ ap (slice_get heads) is ∙ eh in
          let same : by.0 ≡ h = cc in
          let ls : Some by.1 ≡ Some l = sym by.3 ∙ ap (λ (x : Head). slice_get loops x.stated) same
          ∙ el in
          let same_loop : by.1 ≡ l = cc in
          subst (λ (x : LoopAt). IsTrue (region_holds p x (p.context h.node) y)) same_loop
          (subst (λ (x : Head). IsTrue (region_holds p by.1 (p.context x.node) y)) same by.4)
