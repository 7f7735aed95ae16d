-- The keys of a task, of which the last are read as one part, are read in sequence.
use Rattle.std.proofs.Common.{◌≡◌, ℕ, List, Result, Ok, None, codes}
use Rattle.crpd_base.proofs.Results.{bind_assoc}
use Rattle.crpd_base.specs.Outcome.{◌>>=◌}
use Rattle.crpd_base.specs.declared.data.TaskSpec.{TaskSpec}
use Rattle.toml.specs.Data.{Members}
use Rattle.text_keys.specs.declared.error.KeyError.{KeyError}
use Rattle.text_keys.specs.TomlKeys.{all_known, required, optional}
use Rattle.set_reader.specs.Inner.Parts.{load_at}
use Rattle.set_reader.specs.Kinds as kind
use Rattle.set_reader.specs.Reading.{task_keys, entry_place, fields_at}

abbrev pub in_parts : List ℕ → Members → Result TaskSpec KeyError
in_parts path ms = do
  _ ← all_known task_keys path ms
  name ← required kind.name path (codes "name") ms
  file ← required kind.file path (codes "file") ms
  entry ← optional None entry_place path (codes "entry") ms
  load ← load_at path ms
  Ok (record {
    name = name;
    file = file;
    entry = entry;
    period = load.period;
    deadline = load.deadline;
    jitter = load.jitter;
    stack = load.stack;
    global = load.global;
    loops = load.loops;
  })

pub fields_in_parts : (path : List ℕ) (ms : Members) → fields_at path ms ≡ in_parts path ms
unfolding fields_at load_at
fields_in_parts path ms = simp bind_assoc
