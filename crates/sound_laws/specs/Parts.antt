-- The part of a certificate as a part over walks.
use Rattle.std.specs.Prelude.{ℕ, Bool, false, List, [], ◌∷◌}
use Rattle.crpd_base.specs.declared.data.TaskPart.{TaskPart}
use Rattle.cert_check.specs.ListedPotentials.{potentials_of}
use Rattle.loop_regions.specs.Potentials.{rest}
use Rattle.loop_regions.specs.TaskGraph.{TaskGraph}
use Rattle.walk_parts.specs.Parts.{WalkPart}

-- whether the last node of a walk is a hit
abbrev pub last_counts : (ℕ → Bool) → List ℕ → Bool
last_counts is_hit [] = false
last_counts is_hit (y ∷ before) = is_hit y

-- a task's part of a certificate, with the hits that are counted and the useful sets of its nodes:
-- nothing is paid for in advance
abbrev pub certified_walks : TaskGraph → TaskPart → (ℕ → Bool) → (ℕ → ℕ → Bool) → WalkPart
certified_walks t c is_hit useful =
    record {
      part = c.part;
      counts = last_counts is_hit;
      rest = rest t.nest (potentials_of c);
      useful = useful;
    }
