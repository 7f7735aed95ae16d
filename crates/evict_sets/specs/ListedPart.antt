-- What a task's part of a certificate lists.
use Rattle.std.specs.Prelude.{ℕ, Bool, false, ◌==◌, if◌then◌else◌, List, [], ◌∷◌, Option, Some}
use Rattle.std.specs.Prelude.{None, is_some, slice_index_or}
use Rattle.crpd_base.specs.declared.data.NodeState.{NodeState}
use Rattle.crpd_base.specs.declared.data.TaskPart.{TaskPart}
use Rattle.crpd_base.specs.Sets.{has}
use Rattle.crpd_base.specs.declared.data.Certificate.{Certificate}
use Rattle.crpd_base.specs.declared.data.Method.TheVariants.{Ucb}
use Rattle.evict_sets.specs.Full.{Listed}

-- the entry of a node
abbrev pub state_entry_of : List NodeState → ℕ → Option NodeState
state_entry_of [] y = None
state_entry_of (s ∷ states) y = if s.node == y then Some s else state_entry_of states y

-- the block that a list of pairs gives to a set
abbrev pub block_of_set : List (ℕ × ℕ) → ℕ → Option ℕ
block_of_set [] c = None
block_of_set (x ∷ sure) c = if x.0 == c then Some x.1 else block_of_set sure c

-- the block of a cache set by a node's entry; None without an entry
abbrev pub block_by_entry : Option NodeState → ℕ → Option ℕ
block_by_entry None c = None
block_by_entry (Some s) c = block_of_set s.sure c

-- whether a cache set is useful by a node's entry; it is not without one
abbrev pub is_useful_by_entry : Option NodeState → ℕ → Bool
is_useful_by_entry None c = false
is_useful_by_entry (Some s) c = has s.useful c

-- what is listed
abbrev pub listed_of : TaskPart → Listed
listed_of t =
    record {
      is_listed = λ y. is_some (state_entry_of t.states y);
      state = λ y c. block_by_entry (state_entry_of t.states y) c;
      useful = λ y c. is_useful_by_entry (state_entry_of t.states y) c;
    }

-- an empty part, for tasks past the certificate's end
abbrev pub no_task_part : TaskPart
no_task_part =
    record {
      name = [];
      part = record { bound = 0; evicting = []; useful = [] };
      states = [];
      potentials = [];
      loops = [];
      method = Ucb;
      window = 0;
      response = 0;
    }

-- the part of the task at a place
abbrev pub certified_task : Certificate → ℕ → TaskPart
certified_task c i = slice_index_or c.tasks i no_task_part
