-- Inner definitions: the keys of a task, of which the first two are read together.
use Rattle.std.specs.Prelude.{ℕ, ◌^◌, List, codes, Result, Ok}
use Rattle.crpd_base.specs.Limits.{longest_time}
use Rattle.crpd_base.specs.Outcome.{◌>>=◌}
use Rattle.crpd_base.specs.declared.data.TaskPart.{TaskPart}
use Rattle.serde_json.specs.Data.{Members}
use Rattle.cert_model.specs.declared.error.CertError.{CertError}
use Rattle.cert_model.specs.declared.version.Version.{Version}
use Rattle.cert_model.specs.Keys.{required}
use Rattle.cert_model.specs.Kinds as kind
use Rattle.cert_model.specs.Kinds.{whole}
use Rattle.cert_model.specs.Reading.{most_nodes, most_sets}

-- The keys `bound` and `evicting` of a task: at most 2^41 cycles, and numbers of sets.
unfoldable pub bound_and_evicting : Version → List ℕ → Members → Result (ℕ × List ℕ) CertError
bound_and_evicting version path ms = do
  bound ← required (whole 0 (2 ^ 41)) path (codes "bound") ms
  evicting ← required (kind.set_numbers (most_sets version)) path (codes "evicting") ms
  Ok (bound, evicting)

-- The task that the keys state, in order, or the first refusal.
unfoldable pub fields_at : Version → List ℕ → Members → Result TaskPart CertError
fields_at version path ms = do
  first ← bound_and_evicting version path ms
  loops ← required (kind.potentials (most_nodes version)) path (codes "loops") ms
  method ← required kind.method path (codes "method") ms
  name ← required kind.name path (codes "name") ms
  potentials ← required (kind.potentials (most_nodes version)) path (codes "potentials") ms
  response ← required (whole 0 (2 ^ 41)) path (codes "response") ms
  states ← required (kind.states (most_sets version) (most_nodes version)) path (codes "states") ms
  useful ← required (kind.set_numbers (most_sets version)) path (codes "useful") ms
  window ← required (whole 0 longest_time) path (codes "window") ms
  Ok (record {
    name = name;
    part = record { bound = first.0; evicting = first.1; useful = useful };
    states = states;
    potentials = potentials;
    loops = loops;
    method = method;
    window = window;
    response = response;
  })
