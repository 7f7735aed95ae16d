-- What the run of a script starts from, and where it ends.
use Rattle.std.specs.Prelude.{ℕ, List, [], ◌∷◌, replicate, None}
use Rattle.crpd_base.specs.Limits.{most_sets}
use Rattle.crpd_base.specs.declared.data.Image.{Image}
use Rattle.crpd_base.specs.declared.data.Platform.{Platform}
use Rattle.crpd_base.specs.declared.data.Script.{Script}
use Rattle.crpd_base.specs.declared.data.Segment.{Segment}
use Rattle.crpd_base.specs.declared.data.TaskSet.{TaskSet}
use Rattle.icache.specs.Cache.{Cache, cache_after_access}
use Rattle.rv_core.specs.Memory.{Memory, put_all, clear_bytes}
use Rattle.code_map.specs.Words.{Code}
use Rattle.preempt_machine.specs.Machine.{Machine}
use Rattle.preempt_machine.specs.Safe.{system_of}
use Rattle.preempt_machine.specs.Step.{Start, state}

-- each block is in its cache set, where a later block replaces an earlier one
abbrev pub with_blocks : Platform → Cache → List ℕ → Cache
with_blocks p cache [] = cache
with_blocks p cache (b ∷ blocks) = with_blocks p (cache_after_access p cache b) blocks

-- the cache at the start of a script, with room for the most sets of a platform
unfoldable pub start_cache : Platform → List ℕ → Cache
start_cache p blocks = with_blocks p (replicate most_sets None) blocks

-- a segment's bytes of its file, and 0 at its addresses after them
abbrev pub with_segment : Memory → Segment → Memory
with_segment memory s = put_all (clear_bytes memory s.address s.size) s.address s.bytes

-- the segments of a file, where a later one replaces an earlier one
abbrev pub with_segments : Memory → List Segment → Memory
with_segments memory [] = memory
with_segments memory (s ∷ segments) = with_segments (with_segment memory s) segments

-- the segments of files, where a later file replaces an earlier one
abbrev pub with_images : Memory → List Image → Memory
with_images memory [] = memory
with_images memory (i ∷ images) = with_images (with_segments memory i.segments) images

-- the data memory at the start of a script: all other bytes are 0
unfoldable pub start_memory : List Image → Memory
start_memory images = with_images [] images

-- what the run of a script starts from
abbrev pub start_of_script : TaskSet → Code → Script → Start
start_of_script set code script =
    record {
      system = system_of set code;
      cache = start_cache set.platform script.cache;
      memory = start_memory code.images;
      lines = script.jobs;
    }

-- the state after the script's cycles
abbrev pub script_end_state : TaskSet → Code → Script → Machine
script_end_state set code script = state (start_of_script set code script) script.cycles
