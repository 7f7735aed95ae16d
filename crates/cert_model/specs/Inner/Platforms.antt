-- Inner definitions: the keys of a platform in one order for both versions. A key that version 1
-- lacks is included, with a fixed value.
use Rattle.std.specs.Prelude.{ℕ, List, codes, Result, Ok}
use Rattle.crpd_base.specs.Limits.{most_cost}
use Rattle.crpd_base.specs.Outcome.{◌>>=◌}
use Rattle.crpd_base.specs.declared.data.Platform.{Platform}
use Rattle.crpd_base.specs.declared.data.Switching.{Switching}
use Rattle.crpd_base.specs.declared.data.Switching.TheVariants.{Cycle}
use Rattle.serde_json.specs.Data.{Members}
use Rattle.cert_model.specs.declared.error.CertError.{CertError}
use Rattle.cert_model.specs.declared.version.Version.{Version}
use Rattle.cert_model.specs.declared.version.Version.TheVariants.{First, Second}
use Rattle.cert_model.specs.Keys.{required}
use Rattle.cert_model.specs.Kinds as kind
use Rattle.cert_model.specs.Kinds.{whole}
use Rattle.cert_model.specs.Reading.{cycles, most_sets}

-- a number of cycles, 0 in version 1
abbrev pub later_cycles : Version → List ℕ → List ℕ → Members → Result ℕ CertError
later_cycles First path key ms = Ok 0
later_cycles Second path key ms = required cycles path key ms

-- where a switch may happen, in every cycle in version 1
abbrev pub later_switching : Version → List ℕ → Members → Result Switching CertError
later_switching First path ms = Ok Cycle
later_switching Second path ms = required kind.switching path (codes "switching") ms

-- the platform in an object, of either version, or the first refusal
unfoldable pub platform_keys : Version → List ℕ → Members → Result Platform CertError
platform_keys version path ms = do
  memory ← required cycles path (codes "data") ms
  div ← later_cycles version path (codes "div") ms
  hit ← required (whole 1 most_cost) path (codes "hit") ms
  line ← required kind.line_bytes path (codes "line") ms
  miss ← required cycles path (codes "miss") ms
  mul ← later_cycles version path (codes "mul") ms
  sets ← required (whole 1 (most_sets version)) path (codes "sets") ms
  switch ← required cycles path (codes "switch") ms
  switching ← later_switching version path ms
  taken ← required cycles path (codes "taken") ms
  Ok (record {
    line = line;
    sets = sets;
    hit = hit;
    miss = miss;
    memory = memory;
    taken = taken;
    switch = switch;
    mul = mul;
    div = div;
    switching = switching;
  })
