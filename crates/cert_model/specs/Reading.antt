-- The meaning of the text of a certificate, or the first refusal: the keys of each object, in
-- order, each with its kind.
use Rattle.std.specs.Prelude.{ℕ, ◌^◌, List, [], codes, ◌==◌, Option, Some, None}
use Rattle.std.specs.Prelude.{nat_lt, Result, Ok, Err, if◌then◌else◌}
use Rattle.std.specs.Str.{is_utf8}
use Rattle.crpd_base.specs.Limits as limits
use Rattle.crpd_base.specs.Limits.{most_cost, longest_time, most_entries}
pub use Rattle.crpd_base.specs.Entries.{set_size, state_entries, task_entries, entries}
use Rattle.crpd_base.specs.declared.data.Certificate.{Certificate}
use Rattle.crpd_base.specs.declared.data.Platform.{Platform}
use Rattle.crpd_base.specs.declared.data.Switching.TheVariants.{Cycle}
use Rattle.crpd_base.specs.declared.data.TaskPart.{TaskPart}
use Rattle.serde_json.specs.Data.{Data, Members}
use Rattle.serde_json.specs.Find.{as_object}
use Rattle.serde_json.specs.Read.{read}
use Rattle.cert_model.specs.declared.error.CertError.{CertError}
use Rattle.cert_model.specs.declared.error.CertError.TheVariants.{NotJson, BadValue, TooLong}
use Rattle.cert_model.specs.declared.error.CertError.TheVariants.{OtherVersion}
use Rattle.cert_model.specs.declared.version.Version.{Version}
use Rattle.cert_model.specs.declared.version.Version.TheVariants.{First, Second}
use Rattle.cert_model.specs.Kinds as kind
use Rattle.cert_model.specs.Kinds.{whole, unsigned_number}
use Rattle.crpd_base.specs.Outcome.{◌>>=◌}
use Rattle.text_keys.specs.Paths.{item_path, each}
use Rattle.cert_model.specs.Keys.{required}

-- ---- the limits of a version

-- the most cache sets of a platform of a version
abbrev pub most_sets : Version → ℕ
most_sets First = 256
most_sets Second = limits.most_sets

-- the most nodes of a task of a version
abbrev pub most_nodes : Version → ℕ
most_nodes First = 4096
most_nodes Second = limits.most_nodes

-- the most tasks of a certificate of a version
abbrev pub most_tasks : Version → ℕ
most_tasks First = 16
most_tasks Second = limits.most_tasks

-- ---- the version

-- the version with a number, or the refusal of any other number
abbrev pub version_numbered : ℕ → Result Version CertError
version_numbered n = if n == 1 then Ok First else if n == 2 then Ok Second else Err (OtherVersion n)

-- the version that an object states, or the refusal
unfoldable pub version_at : Members → Result Version CertError
version_at ms = do
  n ← required unsigned_number [] (codes "version") ms
  version_numbered n

-- ---- the platform

-- a number of cycles
abbrev pub cycles : Data → Option ℕ
cycles = whole 0 most_cost

-- version 1: multiplication and division cost no cycles, and a switch may happen in every cycle
unfoldable pub first_platform : List ℕ → Members → Result Platform CertError
first_platform path ms = do
  memory ← required cycles path (codes "data") ms
  hit ← required (whole 1 most_cost) path (codes "hit") ms
  line ← required kind.line_bytes path (codes "line") ms
  miss ← required cycles path (codes "miss") ms
  sets ← required (whole 1 256) path (codes "sets") ms
  switch ← required cycles path (codes "switch") ms
  taken ← required cycles path (codes "taken") ms
  Ok (record {
    line = line;
    sets = sets;
    hit = hit;
    miss = miss;
    memory = memory;
    taken = taken;
    switch = switch;
    mul = 0;
    div = 0;
    switching = Cycle;
  })

-- the platform in an object of version 2, or the first refusal
unfoldable pub second_platform : List ℕ → Members → Result Platform CertError
second_platform path ms = do
  memory ← required cycles path (codes "data") ms
  div ← required cycles path (codes "div") ms
  hit ← required (whole 1 most_cost) path (codes "hit") ms
  line ← required kind.line_bytes path (codes "line") ms
  miss ← required cycles path (codes "miss") ms
  mul ← required cycles path (codes "mul") ms
  sets ← required (whole 1 limits.most_sets) path (codes "sets") ms
  switch ← required cycles path (codes "switch") ms
  switching ← required kind.switching path (codes "switching") ms
  taken ← required cycles path (codes "taken") ms
  Ok (record {
    line = line;
    sets = sets;
    hit = hit;
    miss = miss;
    memory = memory;
    taken = taken;
    switch = switch;
    mul = mul;
    div = div;
    switching = switching;
  })

-- the platform in an object of a version, or the first refusal
abbrev pub platform_at : Version → List ℕ → Members → Result Platform CertError
platform_at First = first_platform
platform_at Second = second_platform

-- ---- tasks

-- the task's part in an object of a version, or the first refusal
unfoldable pub fields_at : Version → List ℕ → Members → Result TaskPart CertError
fields_at version path ms = do
  bound ← required (whole 0 (2 ^ 41)) path (codes "bound") ms
  evicting ← required (kind.set_numbers (most_sets version)) path (codes "evicting") ms
  loops ← required (kind.potentials (most_nodes version)) path (codes "loops") ms
  method ← required kind.method path (codes "method") ms
  name ← required kind.name path (codes "name") ms
  potentials ← required (kind.potentials (most_nodes version)) path (codes "potentials") ms
  response ← required (whole 0 (2 ^ 41)) path (codes "response") ms
  states ← required (kind.states (most_sets version) (most_nodes version)) path (codes "states") ms
  useful ← required (kind.set_numbers (most_sets version)) path (codes "useful") ms
  window ← required (whole 0 longest_time) path (codes "window") ms
  Ok (record {
    name = name;
    part = record { bound = bound; evicting = evicting; useful = useful };
    states = states;
    potentials = potentials;
    loops = loops;
    method = method;
    window = window;
    response = response;
  })

-- the task at a place
abbrev pub task_at : Version → ℕ → Members → Result TaskPart CertError
task_at version i = fields_at version (item_path [] (codes "tasks") i)

-- ---- the certificate

-- the certificate if it has at most the allowed state entries, otherwise the refusal with their
-- number
unfoldable pub within_entry_limit : Certificate → Result Certificate CertError
within_entry_limit c =
    if nat_lt most_entries (entries c.tasks) then Err (TooLong (entries c.tasks)) else Ok c

-- the tasks' parts in a certificate's object, or the first refusal
unfoldable pub tasks_at : Version → Members → Result (List TaskPart) CertError
tasks_at version ms = do
  objects ← required (kind.objects (most_tasks version)) [] (codes "tasks") ms
  each (task_at version) 0 objects

-- the certificate in an object, or the first refusal
unfoldable pub certificate_at : Members → Result Certificate CertError
certificate_at ms = do
  version ← version_at ms
  object ← required as_object [] (codes "platform") ms
  platform ← platform_at version (codes "platform.") object
  tasks ← tasks_at version ms
  within_entry_limit (record { platform = platform; tasks = tasks })

-- the certificate of a text that is an object, otherwise the refusal of the whole text
abbrev pub whole_text : Option Members → Result Certificate CertError
whole_text None = Err (BadValue (codes "-"))
whole_text (Some ms) = certificate_at ms

-- the certificate of a JSON text; any other text is refused
abbrev pub document : Option Data → Result Certificate CertError
document None = Err NotJson
document (Some d) = whole_text (as_object d)

-- The meaning of the text, or its first refusal.
unfoldable pub reading : List ℕ → Result Certificate CertError
reading bytes = if is_utf8 bytes then document (read bytes) else Err NotJson
