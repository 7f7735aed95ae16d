-- The text of a certificate is read as its tree.
use Rattle.std.proofs.Common.{◌≡◌, ℕ, ◌+◌, ◌<◌, ◌≤◌, ◌^◌, suc, max, List, [], ◌∷◌, map, Some}
use Rattle.std.proofs.Common.{option_map, option_and_then, refl, sym, ap, ap₂, ◌∙◌, arith}
use Rattle.std.proofs.Common.{append-nil}
use Rattle.std.specs.List.{AllByRecursion}
use Rattle.std.proofs.lemmas.List.Elements.{recursion_from_All}
use Rattle.json.proofs.Printed.Trees.{value-json_tokens}
use Rattle.json.specs.Lex.{tokens}
use Rattle.json.specs.Json as json
use Rattle.json.specs.Tree as tree
use Rattle.serde_json.proofs.Numbers.{number_of-decimal}
use Rattle.serde_json.specs.Data.{Data, null, boolean, number, string, array, object, Items}
use Rattle.serde_json.specs.Data.{no_items, item, Members, no_members, member, depth, items_depth}
use Rattle.serde_json.specs.Data.{members_depth}
use Rattle.serde_json.specs.Read.{read, of_json, of_items, max_depth}
use Rattle.serde_json.specs.View.{items_of}
use Rattle.serde_json.specs.Written.{outline, items_outline, members_outline}
use Rattle.crpd_base.specs.Sets.{numbers_below}
use Rattle.crpd_base.specs.Ranges.{IsPlatform}
use Rattle.crpd_base.specs.declared.data.Certificate.{Certificate}
use Rattle.crpd_base.specs.declared.data.NodeState.{NodeState}
use Rattle.crpd_base.specs.declared.data.Platform.{Platform}
use Rattle.crpd_base.specs.declared.data.TaskPart.{TaskPart}
use Rattle.crpd_base.specs.CertificateRanges.{RiseFrom, IsState, ArePotentials, IsTaskPart}
use Rattle.crpd_base.specs.CertificateRanges.{IsCertificate}
use Rattle.cert_model.specs.Inner.Tokens.{tokens_of}
use Rattle.cert_model.specs.Writing.{whole_number, numbers_data, set_data}
use Rattle.cert_model.specs.Writing.{pair_items, state_data, task_data, platform_members}
use Rattle.cert_model.specs.Writing.{task_members, certificate_members}
use Rattle.cert_model.proofs.Back.{below_rise}

-- ---- each part of the tree

abbrev IsRead : Data → Type 0
IsRead d = of_json (outline d) ≡ Some d

number_read : (n : ℕ) → n < 2 ^ 64 → IsRead (whole_number n)
number_read n h = rw (number_of-decimal n h)

items_read : {A : Type 0} (f : A → Data) (xs : List A) → AllByRecursion (λ x. IsRead (f x)) xs
    → of_items (items_outline (items_of (map f xs))) ≡ Some (items_of (map f xs))
items_read f [] h = refl
items_read f (x ∷ xs) h = rw (h.0, items_read f xs h.1)

each_number : (ns : List ℕ) → AllByRecursion (λ n. n ≤ 2 ^ 40) ns
    → AllByRecursion (λ n. IsRead (whole_number n)) ns
each_number [] h = tt
each_number (n ∷ ns) h = (number_read n (omega (arith, h.0)), each_number ns h.1)

potentials_read : (ns : List ℕ) → ArePotentials ns → IsRead (numbers_data ns)
potentials_read ns h =
    ap (option_map array)
    (items_read whole_number ns (each_number ns (recursion_from_All (λ n. n ≤ 2 ^ 40) ns h.each)))

risen : (low : ℕ) (ns : List ℕ) → RiseFrom (λ (n : ℕ). n) low 512 ns
    → AllByRecursion (λ n. IsRead (whole_number n)) ns
risen low [] h = tt
risen low (n ∷ ns) h = (number_read n (omega (arith, h.1)), risen (n + 1) ns h.2)

set_read : (words : List ℕ) → IsRead (set_data words)
unfolding set_data
set_read words =
    ap (option_map array)
    (items_read whole_number (numbers_below words 512)
    (risen 0 (numbers_below words 512) (below_rise words 512)))

pairs_read : (low : ℕ) (ps : List (ℕ × ℕ)) → RiseFrom (λ (p : ℕ × ℕ). p.0) low 512 ps
    → AllByRecursion (λ (p : ℕ × ℕ). p.1 < 2 ^ 32) ps
    → of_items (items_outline (pair_items ps)) ≡ Some (pair_items ps)
pairs_read low [] r h = refl
pairs_read low (p ∷ ps) r h =
    rw (
      number_of-decimal p.0 (omega (arith, r.1)),
      number_of-decimal p.1 (omega (arith, h.0)),
      pairs_read (p.0 + 1) ps r.2 h.1,
    )

sure_read : (s : NodeState) → IsState s
    → of_items (items_outline (pair_items s.sure)) ≡ Some (pair_items s.sure)
sure_read s h =
    pairs_read 0 s.sure h.sets (recursion_from_All (λ (p : ℕ × ℕ). p.1 < 2 ^ 32) s.sure h.blocks)

state_read : (s : NodeState) → s.node < 16384 → IsState s → IsRead (state_data s)
state_read s n h = rw (number_of-decimal s.node (omega arith), sure_read s h, set_read s.useful)

each_state : (low : ℕ) (ss : List NodeState) → RiseFrom (λ (s : NodeState). s.node) low 16384 ss
    → AllByRecursion IsState ss → AllByRecursion (λ s. IsRead (state_data s)) ss
each_state low [] r h = tt
each_state low (s ∷ ss) r h = (state_read s r.1 h.0, each_state (s.node + 1) ss r.2 h.1)

states_read : (t : TaskPart) → IsTaskPart t → IsRead (array (items_of (map state_data t.states)))
states_read t h =
    ap (option_map array)
    (items_read state_data t.states
    (each_state 0 t.states h.nodes (recursion_from_All IsState t.states h.states)))

platform_read : (p : Platform) → IsPlatform p → IsRead (object (platform_members p))
unfolding platform_members
platform_read p h =
    rw (
      number_of-decimal p.memory (omega (arith, h.memory)),
      number_of-decimal p.div (omega (arith, h.div)),
      number_of-decimal p.hit (omega (arith, h.hit)),
      number_of-decimal p.line (omega (arith, h.line)),
      number_of-decimal p.miss (omega (arith, h.miss)),
      number_of-decimal p.mul (omega (arith, h.mul)),
      number_of-decimal p.sets (omega (arith, h.sets)),
      number_of-decimal p.switch (omega (arith, h.switch)),
      number_of-decimal p.taken (omega (arith, h.taken)),
    )

task_read : (t : TaskPart) → IsTaskPart t → IsRead (task_data t)
unfolding task_members
task_read t h =
    rw (
      number_of-decimal t.part.bound (omega (arith, h.bound)),
      set_read t.part.evicting,
      potentials_read t.loops h.loops,
      potentials_read t.potentials h.potentials,
      number_of-decimal t.response (omega (arith, h.response)),
      states_read t h,
      set_read t.part.useful,
      number_of-decimal t.window (omega (arith, h.window)),
    )

each_task : (ts : List TaskPart) → AllByRecursion IsTaskPart ts
    → AllByRecursion (λ t. IsRead (task_data t)) ts
each_task [] h = tt
each_task (t ∷ ts) h = (task_read t h.0, each_task ts h.1)

certificate_read : (c : Certificate) → IsCertificate c → IsRead (object (certificate_members c))
unfolding certificate_members
certificate_read c h =
    rw (
      platform_read c.platform h.platform,
      items_read task_data c.tasks
          (each_task c.tasks (recursion_from_All IsTaskPart c.tasks h.tasks.each)),
      number_of-decimal 2 (omega arith),
    )

-- ---- it is not nested too deep

mutual
  same_depth : (d : Data) → tree.depth (outline d) ≡ depth d
  same_depth null = refl
  same_depth (boolean b) = refl
  same_depth (number n) = refl
  same_depth (string s) = refl
  same_depth (array ds) = ap suc (same_items_depth ds)
  same_depth (object ms) = ap suc (same_members_depth ms)

  same_items_depth : (ds : Items) → tree.items_depth (items_outline ds) ≡ items_depth ds
  same_items_depth no_items = refl
  same_items_depth (item d ds) = ap₂ max (same_depth d) (same_items_depth ds)

  same_members_depth : (ms : Members) → tree.members_depth (members_outline ms) ≡ members_depth ms
  same_members_depth no_members = refl
  same_members_depth (member k d ms) = ap₂ max (same_depth d) (same_members_depth ms)

items_low : {X : Type 0} (f : X → Data) (k : ℕ) → ((x : X) → depth (f x) ≤ k) → (xs : List X)
    → items_depth (items_of (map f xs)) ≤ k
items_low f k one [] = omega arith
items_low f k one (x ∷ xs) = omega (arith, one x, items_low f k one xs)

number_low : (n : ℕ) → depth (whole_number n) ≤ 0
number_low n = omega arith

pairs_low : (ps : List (ℕ × ℕ)) → items_depth (pair_items ps) ≤ 0
pairs_low [] = omega arith
pairs_low (p ∷ ps) = omega (arith, pairs_low ps)

set_low : (words : List ℕ) → depth (set_data words) ≤ 1
unfolding set_data
set_low words = omega (arith, items_low whole_number 0 number_low (numbers_below words 512))

state_low : (s : NodeState) → depth (state_data s) ≤ 2
state_low s = omega (arith, pairs_low s.sure, set_low s.useful)

platform_low : (p : Platform) → members_depth (platform_members p) ≤ 0
unfolding platform_members
platform_low p = omega arith

task_low : (t : TaskPart) → depth (task_data t) ≤ 4
unfolding task_members
task_low t =
    omega (
      arith,
      set_low t.part.evicting,
      items_low whole_number 0 number_low t.loops,
      items_low whole_number 0 number_low t.potentials,
      items_low state_data 2 state_low t.states,
      set_low t.part.useful,
    )

certificate_low : (c : Certificate) → depth (object (certificate_members c)) ≤ max_depth
unfolding certificate_members
certificate_low c = omega (arith, platform_low c.platform, items_low task_data 4 task_low c.tasks)

-- ---- the whole

pub certificate_reads : (c : Certificate) (text : List ℕ) → IsCertificate c
    → tokens text ≡ tokens_of (object (certificate_members c))
    → read text ≡ Some (object (certificate_members c))
certificate_reads c text h same =
    let whole = object (certificate_members c) in
    ap (λ o. option_and_then of_json (option_and_then (λ p. json.if_last p.0 p.1) o))
    (ap (json.value max_depth) (same ∙ sym (append-nil (tokens_of whole)))
    ∙ value-json_tokens (outline whole) max_depth []
    (omega (arith, same_depth whole, certificate_low c)))
    ∙ certificate_read c h
