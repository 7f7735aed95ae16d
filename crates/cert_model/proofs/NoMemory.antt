-- The definition of reading a certificate never runs out of memory; only the code can.
use Rattle.std.proofs.Common.{◌≡◌, ℕ, ◌^◌, ◌++◌, ◌==◌, List, [], codes, nat_lt, Option, Some, None}
use Rattle.std.proofs.Common.{Result, Ok, Err}
use Rattle.std.specs.Str.{is_utf8}
use Rattle.crpd_base.specs.Limits.{longest_time, most_cost, most_entries}
use Rattle.crpd_base.specs.declared.data.Certificate.{Certificate}
use Rattle.serde_json.specs.Data.{Data, Members}
use Rattle.serde_json.specs.Find.{as_object, get_member}
use Rattle.serde_json.specs.Read.{read}
use Rattle.crpd_base.specs.Outcome.{◌>>=◌}
use Rattle.text_keys.specs.Paths.{item_path}
use Rattle.text_keys.proofs.NoMemory.{IsFree, bind_free, each_free, if_free, never}
use Rattle.cert_model.specs.declared.error.CertError.{CertError}
use Rattle.cert_model.specs.declared.error.CertError.TheVariants.{Memory, Missing}
use Rattle.cert_model.specs.declared.version.Version.{Version}
use Rattle.cert_model.specs.declared.version.Version.TheVariants.{First, Second}
use Rattle.cert_model.specs.Keys.{required, value_at_key, value_or_bad}
use Rattle.cert_model.specs.Kinds as kind
use Rattle.cert_model.specs.Kinds.{unsigned_number, whole}
use Rattle.cert_model.specs.Reading.{certificate_at, cycles, document, entries, fields_at}
use Rattle.cert_model.specs.Reading.{first_platform, most_nodes, most_sets, most_tasks, platform_at}
use Rattle.cert_model.specs.Reading.{reading, second_platform, task_at, tasks_at, version_at}
use Rattle.cert_model.specs.Reading.{whole_text, within_entry_limit}

there_free : (path key : List ℕ) (o : Option Data)
    → IsFree {A = Data} {E = CertError} Memory
    (elim o [ None ↦ Err (Missing (path ++ key)) | Some d ↦ Ok d ])
there_free path key None = λ e. cc
there_free path key (Some d) = tt

good_free : {A : Type 0} (path key : List ℕ) (o : Option A)
    → IsFree Memory (value_or_bad path key o)
good_free path key None = λ e. cc
good_free path key (Some x) = tt

required_free : {A : Type 0} (kind : Data → Option A) (path key : List ℕ) (ms : Members)
    → IsFree Memory (required kind path key ms)
unfolding required
required_free kind path key ms =
    bind_free Memory (value_at_key path key ms) _ (there_free path key (get_member key ms))
    (λ d. good_free path key (kind d))

-- after a key
key_free : {A B : Type 0} (kind : Data → Option A) (path key : List ℕ) (ms : Members)
    (next : A → Result B CertError) → ((x : A) → IsFree Memory (next x))
    → IsFree Memory (required kind path key ms >>= next)
key_free kind path key ms next later =
    bind_free Memory (required kind path key ms) next (required_free kind path key ms) later

version_free : (ms : Members) → IsFree Memory (version_at ms)
unfolding version_at
version_free ms =
    key_free unsigned_number [] (codes "version") ms _ (λ n.
    if_free Memory (n == 1) _ _ tt (if_free Memory (n == 2) _ _ tt (λ e. cc)))

platform_free : (version : Version) (path : List ℕ) (ms : Members)
    → IsFree Memory (platform_at version path ms)
unfolding first_platform second_platform
platform_free First path ms =
    key_free cycles path (codes "data") ms _ (λ _.
    key_free (whole 1 most_cost) path (codes "hit") ms _ (λ _.
    key_free kind.line_bytes path (codes "line") ms _ (λ _.
    key_free cycles path (codes "miss") ms _ (λ _.
    key_free (whole 1 256) path (codes "sets") ms _ (λ _.
    key_free cycles path (codes "switch") ms _ (λ _.
    key_free cycles path (codes "taken") ms _ (λ _. tt)))))))
platform_free Second path ms =
    key_free cycles path (codes "data") ms _ (λ _.
    key_free cycles path (codes "div") ms _ (λ _.
    key_free (whole 1 most_cost) path (codes "hit") ms _ (λ _.
    key_free kind.line_bytes path (codes "line") ms _ (λ _.
    key_free cycles path (codes "miss") ms _ (λ _.
    key_free cycles path (codes "mul") ms _ (λ _.
    key_free (whole 1 512) path (codes "sets") ms _ (λ _.
    key_free cycles path (codes "switch") ms _ (λ _.
    key_free kind.switching path (codes "switching") ms _ (λ _.
    key_free cycles path (codes "taken") ms _ (λ _. tt))))))))))

fields_free : (version : Version) (path : List ℕ) (ms : Members)
    → IsFree Memory (fields_at version path ms)
unfolding fields_at
fields_free version path ms =
    let sets = kind.set_numbers (most_sets version) in
    let potentials = kind.potentials (most_nodes version) in
    key_free (whole 0 (2 ^ 41)) path (codes "bound") ms _ (λ _.
    key_free sets path (codes "evicting") ms _ (λ _.
    key_free potentials path (codes "loops") ms _ (λ _.
    key_free kind.method path (codes "method") ms _ (λ _.
    key_free kind.name path (codes "name") ms _ (λ _.
    key_free potentials path (codes "potentials") ms _ (λ _.
    key_free (whole 0 (2 ^ 41)) path (codes "response") ms _ (λ _.
    key_free (kind.states (most_sets version) (most_nodes version)) path (codes "states") ms _ (λ _.
    key_free sets path (codes "useful") ms _ (λ _.
    key_free (whole 0 longest_time) path (codes "window") ms _ (λ _. tt))))))))))

tasks_free : (version : Version) (ms : Members) → IsFree Memory (tasks_at version ms)
unfolding tasks_at
tasks_free version ms =
    key_free (kind.objects (most_tasks version)) [] (codes "tasks") ms _ (λ objects.
    each_free Memory (task_at version)
    (λ i m. fields_free version (item_path [] (codes "tasks") i) m) 0 objects)

within_free : (c : Certificate) → IsFree Memory (within_entry_limit c)
unfolding within_entry_limit
within_free c = if_free Memory (nat_lt most_entries (entries c.tasks)) _ _ (λ e. cc) tt

certificate_free : (ms : Members) → IsFree Memory (certificate_at ms)
unfolding certificate_at
certificate_free ms =
    bind_free Memory (version_at ms) _ (version_free ms) (λ version.
    key_free as_object [] (codes "platform") ms _ (λ object.
    bind_free Memory (platform_at version (codes "platform.") object) _
    (platform_free version (codes "platform.") object) (λ platform.
    bind_free Memory (tasks_at version ms) _ (tasks_free version ms) (λ tasks.
    within_free (record { platform = platform; tasks = tasks })))))

whole_free : (o : Option Members) → IsFree Memory (whole_text o)
whole_free None = λ e. cc
whole_free (Some ms) = certificate_free ms

document_free : (o : Option Data) → IsFree Memory (document o)
document_free None = λ e. cc
document_free (Some d) = whole_free (as_object d)

reading_free : (bytes : List ℕ) → IsFree Memory (reading bytes)
unfolding reading
reading_free bytes =
    if_free Memory (is_utf8 bytes) _ _ (document_free (read bytes)) (λ e. cc)

pub reading_never : (bytes : List ℕ) → reading bytes ≡ Err Memory → ⊥
reading_never bytes = never Memory (reading bytes) (reading_free bytes)
