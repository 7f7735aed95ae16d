-- What was written is read as the same certificate.
use Rattle.std.proofs.Common.{◌≡◌, ◌≢◌, ◌⊎◌, ℕ, zero, suc, ◌+◌, ◌≤◌, ◌<◌, ◌^◌, true, List, [], ◌∷◌}
use Rattle.std.proofs.Common.{◌++◌, length, map, codes, Option, Some, option_map, Result, Ok, refl}
use Rattle.std.proofs.Common.{sym, ap, subst, ◌∙◌, arith, inl, inr, All, if◌then◌else◌, ◌==◌}
use Rattle.std.specs.List.{AllByRecursion}
use Rattle.std.proofs.lemmas.Bool.{le-leb, le-ltb, lt-ltb}
use Rattle.std.proofs.lemmas.Bool.Decides.{nat_tests}
use Rattle.std.proofs.lemmas.List.{length-map}
use Rattle.std.proofs.lemmas.List.Elements.{recursion_from_All}
use Rattle.crpd_base.specs.Ranges.{IsPlatform}
use Rattle.crpd_base.specs.Sets.{member, AreWords, numbers_below}
use Rattle.crpd_base.proofs.Bits.{member_le_one, same_words, zero_or_one}
use Rattle.crpd_base.specs.declared.data.Certificate.{Certificate}
use Rattle.crpd_base.specs.declared.data.Method.{Method}
use Rattle.crpd_base.specs.declared.data.Method.TheVariants.{Ucb, Ecb}
use Rattle.crpd_base.specs.declared.data.NodeState.{NodeState}
use Rattle.crpd_base.specs.declared.data.Platform.{Platform}
use Rattle.crpd_base.specs.declared.data.Switching.{Switching}
use Rattle.crpd_base.specs.declared.data.Switching.TheVariants.{Cycle, Instruction}
use Rattle.crpd_base.specs.declared.data.TaskPart.{TaskPart}
use Rattle.serde_json.specs.Data.{Data, Members, object, array, string}
use Rattle.serde_json.specs.Find.{as_object, get_member}
use Rattle.serde_json.specs.View.{items_of}
use Rattle.cert_model.specs.declared.error.CertError.{CertError}
use Rattle.cert_model.specs.declared.version.Version.TheVariants.{Second}
use Rattle.crpd_base.specs.Outcome.{◌>>=◌}
use Rattle.text_keys.specs.Paths.{each, item_path}
use Rattle.cert_model.specs.Keys.{value_at_key, value_or_bad, required}
use Rattle.cert_model.specs.Kinds as kind
use Rattle.crpd_base.specs.Names.{is_line_length, is_name, method_name}
use Rattle.cert_model.specs.Kinds.{whole, below, all_of, rising, words_of, is_in, pair}
use Rattle.cert_model.specs.Kinds.{pairs_from, state_of, states_from}
use Rattle.crpd_base.specs.CertificateRanges.{RiseFrom, IsState, ArePotentials, IsTaskPart}
use Rattle.crpd_base.specs.CertificateRanges.{AreTasks, IsCertificate}
use Rattle.cert_model.specs.Inner.Ranges.{HasSetWords}
use Rattle.cert_model.specs.Reading.{cycles, version_at, second_platform, fields_at, task_at}
use Rattle.cert_model.specs.Reading.{tasks_at, entries, within_entry_limit, certificate_at}
use Rattle.cert_model.specs.Writing as write
use Rattle.cert_model.specs.Writing.{whole_number, platform_members, task_members}
use Rattle.cert_model.specs.Writing.{certificate_members}
use Rattle.crpd_base.proofs.NumbersLeft.{below_none, below_more, below_same}
use Rattle.cert_model.proofs.Ranged.{rise_wider}
use Rattle.cert_model.proofs.Rising.{flag, in_more, words_are, words_member}

-- ---- numbers

whole_back : (low high n : ℕ) → low ≤ n → n ≤ high → whole low high (whole_number n) ≡ Some n
whole_back low high n a b = rw (le-leb low n a, le-leb n high b)

below_back : (low limit n : ℕ) → low ≤ n → n < limit → below low limit (whole_number n) ≡ Some n
below_back low limit n a b = rw (le-leb low n a, lt-ltb n limit b)

line_back : (n : ℕ) → is_line_length n ≡ true → kind.line_bytes (whole_number n) ≡ Some n
unfolding kind.line_bytes
line_back n h = rw h

-- ---- lists

all_of_back : {A : Type 0} (f : A → Data) (read : Data → Option A) (xs : List A)
    → AllByRecursion (λ x. read (f x) ≡ Some x) xs → all_of read (items_of (map f xs)) ≡ Some xs
all_of_back f read [] h = refl
all_of_back f read (x ∷ xs) h = rw (h.0, all_of_back f read xs h.1)

numbers_back : (ns : List ℕ) → AllByRecursion (λ n. n ≤ 2 ^ 40) ns
    → AllByRecursion (λ n. whole 0 (2 ^ 40) (whole_number n) ≡ Some n) ns
numbers_back [] h = tt
numbers_back (n ∷ ns) h = (whole_back 0 (2 ^ 40) n (omega arith) h.0, numbers_back ns h.1)

potentials_back : (ns : List ℕ) → ArePotentials ns
    → kind.potentials 16384 (write.numbers_data ns) ≡ Some ns
unfolding kind.potentials
potentials_back ns h =
    rw (
      all_of_back whole_number (whole 0 (2 ^ 40)) ns
          (numbers_back ns (recursion_from_All (λ n. n ≤ 2 ^ 40) ns h.each)),
      le-leb (length ns) 16384 h.few,
    )

-- ---- sets

rising_back : (low limit : ℕ) (ns : List ℕ) → RiseFrom (λ (n : ℕ). n) low limit ns
    → rising low limit (items_of (map whole_number ns)) ≡ Some ns
rising_back low limit [] h = refl
rising_back low limit (n ∷ ns) h =
    rw (below_back low limit n h.0 h.1, rising_back (n + 1) limit ns h.2)

rise_last : (low k : ℕ) (xs : List ℕ) → low ≤ k → RiseFrom (λ (n : ℕ). n) low k xs
    → RiseFrom (λ (n : ℕ). n) low (suc k) (xs ++ k ∷ [])
rise_last low k [] h r = (h, omega arith, tt)
rise_last low k (x ∷ xs) h r =
    (r.0, omega (arith, r.1), rise_last (x + 1) k xs (omega (arith, r.1)) r.2)

pub below_rise : (words : List ℕ) (n : ℕ) → RiseFrom (λ (m : ℕ). m) 0 n (numbers_below words n)
below_rise words zero =
    subst (λ (l : List ℕ). RiseFrom (λ (m : ℕ). m) 0 0 l) (sym (below_none words)) tt
below_rise words (suc n) =
    elim (zero_or_one (member words n) (member_le_one words n)) [
      | inl off ↦
          subst (λ (l : List ℕ). RiseFrom (λ (m : ℕ). m) 0 (suc n) l) (sym (below_same words n off))
          (rise_wider (λ (m : ℕ). m) 0 n (suc n) (numbers_below words n) (omega arith)
          (below_rise words n))
      | inr on ↦
          subst (λ (l : List ℕ). RiseFrom (λ (m : ℕ). m) 0 (suc n) l) (sym (below_more words n on))
          (rise_last 0 n (numbers_below words n) (omega arith) (below_rise words n))
    ]

not_equal : (t n x : ℕ) → t ≢ n → (if t == n then 1 else x) ≡ x
not_equal t n x d = grind (arith, nat_tests)

equal : (n x : ℕ) → (if n == n then 1 else x) ≡ 1
equal n x = grind (arith, nat_tests)

in_past : (words : List ℕ) (n t : ℕ) → n ≤ t → flag (is_in t (numbers_below words n)) ≡ 0
in_past words zero t h = ap (λ (l : List ℕ). flag (is_in t l)) (below_none words)
in_past words (suc n) t h =
    elim (zero_or_one (member words n) (member_le_one words n)) [
      | inl off ↦
          ap (λ (l : List ℕ). flag (is_in t l)) (below_same words n off)
          ∙ in_past words n t (omega arith)
      | inr on ↦
          ap (λ (l : List ℕ). flag (is_in t l)) (below_more words n on)
          ∙ in_more (numbers_below words n) n t ∙ not_equal t n _ (omega arith)
          ∙ in_past words n t (omega arith)
    ]

last_or_before : (t n : ℕ) → t < suc n → (t ≡ n) ⊎ (t < n)
last_or_before t n h = grind arith

in_within : (words : List ℕ) (n t : ℕ) → t < n
    → flag (is_in t (numbers_below words n)) ≡ member words t
in_within words zero t h = absurd (omega arith)
in_within words (suc n) t h =
    elim (zero_or_one (member words n) (member_le_one words n)) [
      | inl off ↦ elim (last_or_before t n h) [
        | inl last ↦
            ap (λ (l : List ℕ). flag (is_in t l)) (below_same words n off)
            ∙ in_past words n t (omega arith) ∙ sym (ap (member words) last ∙ off)
        | inr before ↦
            ap (λ (l : List ℕ). flag (is_in t l)) (below_same words n off)
            ∙ in_within words n t before
      ]
      | inr on ↦ elim (last_or_before t n h) [
        | inl last ↦
            ap (λ (l : List ℕ). flag (is_in t l)) (below_more words n on)
            ∙ ap (λ (m : ℕ). flag (is_in m (numbers_below words n ++ n ∷ []))) last
            ∙ in_more (numbers_below words n) n n ∙ equal n _
            ∙ sym (ap (member words) last ∙ on)
        | inr before ↦
            ap (λ (l : List ℕ). flag (is_in t l)) (below_more words n on)
            ∙ in_more (numbers_below words n) n t ∙ not_equal t n _ (omega arith)
            ∙ in_within words n t before
      ]
    ]

words_back : (words : List ℕ) → AreWords 8 words → words_of (numbers_below words 512) ≡ words
words_back words h =
    same_words (words_of (numbers_below words 512)) words 8 (words_are (numbers_below words 512)) h
    (λ t lt. words_member (numbers_below words 512) t lt ∙ in_within words 512 t lt)

set_back : (words : List ℕ) → AreWords 8 words
    → kind.set_numbers 512 (write.set_data words) ≡ Some words
unfolding kind.set_numbers write.set_data
set_back words h =
    ap (option_map words_of) (rising_back 0 512 (numbers_below words 512) (below_rise words 512))
    ∙ ap (λ l. Some l) (words_back words h)

-- ---- node states

pair_back : (low limit : ℕ) (p : ℕ × ℕ) → low ≤ p.0 → p.0 < limit → p.1 < 2 ^ 32
    → pair low limit (whole_number p.0) (whole_number p.1) ≡ Some p
unfolding pair
pair_back low limit p a b c =
    rw (below_back low limit p.0 a b, below_back 0 (2 ^ 32) p.1 (omega arith) c)

pairs_back : (low limit : ℕ) (ps : List (ℕ × ℕ)) → RiseFrom (λ (p : ℕ × ℕ). p.0) low limit ps
    → AllByRecursion (λ (p : ℕ × ℕ). p.1 < 2 ^ 32) ps
    → pairs_from low limit (write.pair_items ps) ≡ Some ps
pairs_back low limit [] r h = refl
pairs_back low limit (p ∷ ps) r h =
    rw (pair_back low limit p r.0 r.1 h.0, pairs_back (p.0 + 1) limit ps r.2 h.1)

sure_back : (s : NodeState) → IsState s
    → kind.sure_pairs 512 (array (write.pair_items s.sure)) ≡ Some s.sure
unfolding kind.sure_pairs
sure_back s h =
    pairs_back 0 512 s.sure h.sets
    (recursion_from_All (λ (p : ℕ × ℕ). p.1 < 2 ^ 32) s.sure h.blocks)

state_back : (low : ℕ) (s : NodeState) → low ≤ s.node → s.node < 16384 → IsState s
    → AreWords 8 s.useful → kind.state_value 512 16384 low (write.state_data s) ≡ Some s
unfolding kind.state_value state_of
state_back low s a b h w = rw (below_back low 16384 s.node a b, sure_back s h, set_back s.useful w)

states_from_back : (low : ℕ) (ss : List NodeState)
    → RiseFrom (λ (s : NodeState). s.node) low 16384 ss → AllByRecursion IsState ss
    → AllByRecursion (λ (s : NodeState). AreWords 8 s.useful) ss
    → states_from 512 16384 low (items_of (map write.state_data ss)) ≡ Some ss
states_from_back low [] r h w = refl
states_from_back low (s ∷ ss) r h w =
    rw (state_back low s r.0 r.1 h.0 w.0, states_from_back (s.node + 1) ss r.2 h.1 w.1)

states_back : (ss : List NodeState) → RiseFrom (λ (s : NodeState). s.node) 0 16384 ss
    → All IsState ss → All (λ (s : NodeState). AreWords 8 s.useful) ss
    → kind.states 512 16384 (array (items_of (map write.state_data ss))) ≡ Some ss
unfolding kind.states
states_back ss r h w =
    states_from_back 0 ss r (recursion_from_All IsState ss h)
    (recursion_from_All (λ (s : NodeState). AreWords 8 s.useful) ss w)

-- ---- texts

switching_back : (s : Switching) → kind.switching (string (write.switching_name s)) ≡ Some s
unfolding kind.switching
switching_back Cycle = refl
switching_back Instruction = refl

method_back : (m : Method) → kind.method (string (method_name m)) ≡ Some m
unfolding kind.method
method_back Ucb = refl
method_back Ecb = refl

name_back : (s : List ℕ) → is_name s ≡ true → kind.name (string s) ≡ Some s
unfolding kind.name
name_back s h = rw h

-- ---- keys

bind_back : {A B : Type 0} (r : Result A CertError) (f : A → Result B CertError) (x : A) (y : B)
    → r ≡ Ok x → f x ≡ Ok y → (r >>= f) ≡ Ok y
bind_back r f x y e g = ap (λ z. z >>= f) e ∙ g

present_back : (path key : List ℕ) (ms : Members) (d : Data) → get_member key ms ≡ Some d
    → value_at_key path key ms ≡ Ok d
present_back path key ms d e = rw (e, value_at_key)

required_back : {A : Type 0} (read : Data → Option A) (path key : List ℕ) (ms : Members) (d : Data)
    (x : A) → get_member key ms ≡ Some d → read d ≡ Some x → required read path key ms ≡ Ok x
unfolding required
required_back read path key ms d x e k =
    bind_back (value_at_key path key ms) (λ v. value_or_bad path key (read v)) d x
    (present_back path key ms d e) (ap (value_or_bad path key) k)

-- ---- the platform

cycles_back : (path key : List ℕ) (ms : Members) (n : ℕ) → get_member key ms ≡ Some (whole_number n)
    → n ≤ 65535 → required cycles path key ms ≡ Ok n
cycles_back path key ms n e h =
    required_back cycles path key ms (whole_number n) n e (whole_back 0 65535 n (omega arith) h)

number_back : (low high : ℕ) (path key : List ℕ) (ms : Members) (n : ℕ)
    → get_member key ms ≡ Some (whole_number n) → (low ≤ n) × (n ≤ high)
    → required (whole low high) path key ms ≡ Ok n
number_back low high path key ms n e h =
    required_back (whole low high) path key ms (whole_number n) n e (whole_back low high n h.0 h.1)

platform_back : (path : List ℕ) (p : Platform) → IsPlatform p
    → second_platform path (platform_members p) ≡ Ok p
unfolding second_platform platform_members
platform_back path p h =
    bind_back _ _ p.memory p (cycles_back path (codes "data") _ p.memory refl h.memory)
    (bind_back _ _ p.div p (cycles_back path (codes "div") _ p.div refl h.div)
    (bind_back _ _ p.hit p (number_back 1 65535 path (codes "hit") _ p.hit refl h.hit)
    (bind_back _ _ p.line p
    (required_back kind.line_bytes path (codes "line") _ (whole_number p.line) p.line refl
    (line_back p.line h.line_size))
    (bind_back _ _ p.miss p (cycles_back path (codes "miss") _ p.miss refl h.miss)
    (bind_back _ _ p.mul p (cycles_back path (codes "mul") _ p.mul refl h.mul)
    (bind_back _ _ p.sets p (number_back 1 512 path (codes "sets") _ p.sets refl h.sets)
    (bind_back _ _ p.switch p (cycles_back path (codes "switch") _ p.switch refl h.switch)
    (bind_back _ _ p.switching p
    (required_back kind.switching path (codes "switching") _
    (string (write.switching_name p.switching)) p.switching refl (switching_back p.switching))
    (bind_back _ _ p.taken p (cycles_back path (codes "taken") _ p.taken refl h.taken) refl)))))))))

-- ---- tasks

fields_back : (path : List ℕ) (t : TaskPart) → IsTaskPart t → HasSetWords t
    → fields_at Second path (task_members t) ≡ Ok t
unfolding fields_at task_members
fields_back path t h w =
    bind_back _ _ t.part.bound t
    (number_back 0 (2 ^ 41) path (codes "bound") _ t.part.bound refl (omega arith, h.bound))
    (bind_back _ _ t.part.evicting t
    (required_back (kind.set_numbers 512) path (codes "evicting") _ (write.set_data t.part.evicting)
    t.part.evicting refl (set_back t.part.evicting w.evicting))
    (bind_back _ _ t.loops t
    (required_back (kind.potentials 16384) path (codes "loops") _ (write.numbers_data t.loops)
    t.loops refl (potentials_back t.loops h.loops))
    (bind_back _ _ t.method t
    (required_back kind.method path (codes "method") _ (string (method_name t.method)) t.method refl
    (method_back t.method))
    (bind_back _ _ t.name t
    (required_back kind.name path (codes "name") _ (string t.name) t.name refl
    (name_back t.name h.name))
    (bind_back _ _ t.potentials t
    (required_back (kind.potentials 16384) path (codes "potentials") _
    (write.numbers_data t.potentials) t.potentials refl (potentials_back t.potentials h.potentials))
    (bind_back _ _ t.response t
    (number_back 0 (2 ^ 41) path (codes "response") _ t.response refl (omega arith, h.response))
    (bind_back _ _ t.states t
    (required_back (kind.states 512 16384) path (codes "states") _
    (array (items_of (map write.state_data t.states))) t.states refl
    (states_back t.states h.nodes h.states w.states))
    (bind_back _ _ t.part.useful t
    (required_back (kind.set_numbers 512) path (codes "useful") _ (write.set_data t.part.useful)
    t.part.useful refl (set_back t.part.useful w.useful))
    (bind_back _ _ t.window t
    (number_back 0 (2 ^ 40) path (codes "window") _ t.window refl (omega arith, h.window))
    refl)))))))))

each_back : (i : ℕ) (ts : List TaskPart) → AllByRecursion IsTaskPart ts
    → AllByRecursion HasSetWords ts → each (task_at Second) i (map task_members ts) ≡ Ok ts
unfolding each
each_back i [] h w = refl
each_back i (t ∷ ts) h w =
    rw (fields_back (item_path [] (codes "tasks") i) t h.0 w.0, each_back (i + 1) ts h.1 w.1)

all_objects : (ts : List TaskPart)
    → all_of as_object (items_of (map write.task_data ts)) ≡ Some (map task_members ts)
all_objects [] = refl
all_objects (t ∷ ts) = rw (all_objects ts)

objects_back : (ts : List TaskPart) → 1 ≤ length ts → length ts ≤ 32
    → kind.objects 32 (array (items_of (map write.task_data ts))) ≡ Some (map task_members ts)
unfolding kind.objects
objects_back ts a b =
    rw (all_objects ts, length-map ts task_members, le-leb 1 (length ts) a, le-leb (length ts) 32 b)

tasks_back : (ms : Members) (ts : List TaskPart)
    → get_member (codes "tasks") ms ≡ Some (array (items_of (map write.task_data ts))) → AreTasks ts
    → All HasSetWords ts → tasks_at Second ms ≡ Ok ts
unfolding tasks_at
tasks_back ms ts e h w =
    bind_back _ _ (map task_members ts) ts
    (required_back (kind.objects 32) [] (codes "tasks") ms
    (array (items_of (map write.task_data ts))) (map task_members ts) e
    (objects_back ts h.some h.few))
    (each_back 0 ts (recursion_from_All IsTaskPart ts h.each) (recursion_from_All HasSetWords ts w))

-- ---- the certificate

counted_back : (c : Certificate) → entries c.tasks ≤ 4000000 → within_entry_limit c ≡ Ok c
unfolding within_entry_limit
counted_back c h = rw (le-ltb 4000000 (entries c.tasks) h)

version_back : (ms : Members) → get_member (codes "version") ms ≡ Some (whole_number 2)
    → version_at ms ≡ Ok Second
unfolding version_at
version_back ms e =
    bind_back _ _ 2 Second
    (required_back kind.unsigned_number [] (codes "version") ms (whole_number 2) 2 e refl) refl

pub certificate_back : (c : Certificate) → IsCertificate c → All HasSetWords c.tasks
    → certificate_at (certificate_members c) ≡ Ok c
unfolding certificate_at certificate_members
certificate_back c h w =
    bind_back _ _ Second c (version_back _ refl)
    (bind_back _ _ (platform_members c.platform) c
    (required_back as_object [] (codes "platform") _ (object (platform_members c.platform))
    (platform_members c.platform) refl refl)
    (bind_back _ _ c.platform c (platform_back (codes "platform.") c.platform h.platform)
    (bind_back _ _ c.tasks c (tasks_back _ c.tasks refl h.tasks w) (counted_back c h.entries))))
