-- The limits of the certifier, as numbers.
use Rattle.std.specs.Prelude.{ℕ, ◌^◌}

-- the most cache sets of a platform
abbrev pub most_sets : ℕ
most_sets = 512

-- the largest cost of a platform, in cycles
abbrev pub most_cost : ℕ
most_cost = 65535

-- the most tasks of a set
abbrev pub most_tasks : ℕ
most_tasks = 32

-- the most analyses of a refined certificate
abbrev pub most_analyses : ℕ
most_analyses = 4

-- the most stated loops of a task
abbrev pub most_loops : ℕ
most_loops = 64

-- the largest bound that may be stated for a loop
abbrev pub most_iterations : ℕ
most_iterations = 1000000

-- the most nodes of a task's flat graph
abbrev pub most_nodes : ℕ
most_nodes = 2 ^ 14

-- the largest period, deadline, jitter, potential and number of cycles of a script, in cycles
abbrev pub longest_time : ℕ
longest_time = 2 ^ 40

-- the most state entries of a certificate
abbrev pub most_entries : ℕ
most_entries = 4000000

-- the most jobs of a script
abbrev pub most_jobs : ℕ
most_jobs = 10000

-- the most bytes of a task set, of a script and of an ELF file
abbrev pub file_bytes : ℕ
file_bytes = 2 ^ 24

-- the most bytes of a certificate
abbrev pub certificate_bytes : ℕ
certificate_bytes = 2 ^ 27
