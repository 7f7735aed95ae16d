-- Where nothing is brought, the last events of walks are the last accesses, and Prepaid is Sure.
use Rattle.std.proofs.Common.{◌≡◌, ℕ, ◌==◌, if◌then◌else◌, List, [], ◌∷◌, Option, Some, Bool}
use Rattle.std.proofs.Common.{refl, sym, ap, ◌∙◌, inl, ⊎_elim, None}
use Rattle.flat_graph.specs.Graph.{Graph, IsLeader}
use Rattle.icache.specs.Accesses.{Accesses, last_access}
use Rattle.icache.specs.Cache.{Cache}
use Rattle.must_cache.specs.Events.{accesses_alone, last_event}
use Rattle.must_cache.specs.Prepaid.{PrepaidLaw}
use Rattle.must_cache.specs.FirstWalks.{IsSureLeader, AreSureParts, HoldsPrepaid}
use Rattle.must_cache.specs.FirstWalks.{ArePrepaidParts}

-- the last event is the last access
alone_event : (a : Accesses) (s : ℕ) (before : List ℕ) (y : ℕ)
    → last_event (accesses_alone a) s before y ≡ last_access a s before
alone_event a s [] y = refl
alone_event a s (u ∷ before) y =
    ap (λ o. if a.set u == s then Some (a.block u) else o) (alone_event a s before u)

pub prepaid_sure : PrepaidLaw
prepaid_sure g a y s m = (
  λ p before walk. sym (alone_event a s before y) ∙ p before walk,
  λ p before walk. alone_event a s before y ∙ p before walk,
)

sure_leader : (g : Graph) (a : Accesses) (place : Option ℕ) (states : List Cache)
    (unsure : List ℕ) (y : ℕ) → HoldsPrepaid g (accesses_alone a) place states unsure y
    → IsSureLeader g a place states unsure y
sure_leader g a place states unsure y l = record {
  at = l.at;
  is = l.is;
  within = l.within;
  each = λ s m. (
    λ h. (prepaid_sure g a y s m).0 ((l.each s m).0 h),
    λ h. (l.each s m).1 ((prepaid_sure g a y s m).1 h),
  );
}

prepaid_leader : (g : Graph) (a : Accesses) (place : Option ℕ) (states : List Cache)
    (unsure : List ℕ) (y : ℕ) → IsSureLeader g a place states unsure y
    → HoldsPrepaid g (accesses_alone a) place states unsure y
prepaid_leader g a place states unsure y l = record {
  at = l.at;
  is = l.is;
  within = l.within;
  each = λ s m. (
    λ h. (prepaid_sure g a y s m).1 ((l.each s m).0 h),
    λ h. (l.each s m).1 ((prepaid_sure g a y s m).0 h),
  );
}

-- the parts by Prepaid are those by Sure
pub sure_from_prepaid : (g : Graph) (a : Accesses) (places : List (Option ℕ))
    (states : List Cache) (hits : List Bool) (unsure : List (List ℕ))
    → ArePrepaidParts g (accesses_alone a) places states hits unsure
    → AreSureParts g a places states hits unsure
sure_from_prepaid g a places states hits unsure p = record {
  hits_count = p.hits_count;
  places_count = p.places_count;
  unsure_count = p.unsure_count;
  hit = λ y lt. (
    λ t. (prepaid_sure g a y (a.set y) (a.block y)).0 ((p.hit y lt).0 t),
    λ h. (p.hit y lt).1 ((prepaid_sure g a y (a.set y) (a.block y)).1 h),
  );
  leader = λ y lt l. sure_leader g a _ states _ y (p.kept y lt (inl l));
}

pub prepaid_from_sure : (g : Graph) (a : Accesses) (places : List (Option ℕ))
    (states : List Cache) (hits : List Bool) (unsure : List (List ℕ))
    → AreSureParts g a places states hits unsure
    → ArePrepaidParts g (accesses_alone a) places states hits unsure
prepaid_from_sure g a places states hits unsure p = record {
  hits_count = p.hits_count;
  places_count = p.places_count;
  unsure_count = p.unsure_count;
  hit = λ y lt. (
    λ t. (prepaid_sure g a y (a.set y) (a.block y)).1 ((p.hit y lt).0 t),
    λ h. (p.hit y lt).1 ((prepaid_sure g a y (a.set y) (a.block y)).0 h),
  );
  kept = λ y lt k. ⊎_elim
      (λ (l : IsLeader g y). prepaid_leader g a _ states _ y (p.leader y lt l))
      (λ (b : (v : ℕ) × (s : ℕ) × (m : ℕ) × (None ≡ Some m)).
      absurd (let h : None ≡ Some b.2 = b.3 in cc))
      k;
}
