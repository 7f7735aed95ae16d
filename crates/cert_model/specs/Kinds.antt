-- The kinds of a certificate's values: what a value means, or None if it is of a different kind or
-- outside its range.
use Rattle.std.specs.Prelude.{ℕ, zero, suc, ◌+◌, ◌*◌, ◌^◌, List, [], ◌∷◌, length, codes, Bool}
use Rattle.std.specs.Prelude.{◌&&◌, ◌==◌, nat_le, nat_lt, Option, Some, None, option_map}
use Rattle.std.specs.Prelude.{option_and_then, if◌then◌else◌}
use Rattle.std.specs.List.{list_any}
use Rattle.std.specs.Str.{bytes_eq}
use Rattle.crpd_base.specs.Limits.{longest_time}
use Rattle.serde_json.specs.Data.{Data, Items, no_items, item, Members}
use Rattle.serde_json.specs.Find.{as_number, as_u64, as_str, as_array, as_object}
use Rattle.crpd_base.specs.Names.{is_between, is_line_length, is_name}
use Rattle.crpd_base.specs.declared.data.Method.{Method}
use Rattle.crpd_base.specs.declared.data.Method.TheVariants.{Ucb, Ecb}
use Rattle.crpd_base.specs.declared.data.NodeState.{NodeState}
use Rattle.crpd_base.specs.declared.data.Switching.{Switching}
use Rattle.text_keys.specs.Named.{only, switching_named}

-- Steps in sequence, as long as each gives something.
infixl 10 ◌>>=◌
abbrev pub ◌>>=◌ : {A B : Type 0} → Option A → (A → Option B) → Option B
x >>= f = option_and_then f x

-- ---- numbers

-- a number that is stored as an unsigned one of 64 bits: it has no point, exponent or sign
abbrev pub unsigned_number : Data → Option ℕ
unsigned_number d = as_number d >>= as_u64

-- a number from low to high
abbrev pub whole : ℕ → ℕ → Data → Option ℕ
whole low high d = only (is_between low high) (unsigned_number d)

-- a number of at least low, below a limit
abbrev pub below : ℕ → ℕ → Data → Option ℕ
below low limit d = only (λ n. nat_le low n && nat_lt n limit) (unsigned_number d)

-- the length of a cache line in bytes
unfoldable pub line_bytes : Data → Option ℕ
line_bytes d = only is_line_length (unsigned_number d)

-- ---- texts

-- where a switch may happen, by its name
unfoldable pub switching : Data → Option Switching
switching d = as_str d >>= switching_named

-- the method with a name
abbrev pub method_named : List ℕ → Option Method
method_named s =
    if bytes_eq s (codes "ucb") then Some Ucb else if bytes_eq s (codes "ecb")
    then Some Ecb else None

-- a method, by its name
unfoldable pub method : Data → Option Method
method d = as_str d >>= method_named

-- a text that may name a task
unfoldable pub name : Data → Option (List ℕ)
name d = only is_name (as_str d)

-- ---- lists

-- a list whose items are all of a kind
abbrev pub all_of : {A : Type 0} → (Data → Option A) → Items → Option (List A)
all_of kind no_items = Some []
all_of kind (item d ds) = kind d >>= (λ x. option_map (λ xs. x ∷ xs) (all_of kind ds))

-- the items of an array that are all of a kind; None if one is not, or if it is no array
abbrev pub listed : {A : Type 0} → (Data → Option A) → Data → Option (List A)
listed kind d = as_array d >>= all_of kind

-- at most that many potentials, each at most 2^40
unfoldable pub potentials : ℕ → Data → Option (List ℕ)
potentials most d = only (λ xs. nat_le (length xs) most) (listed (whole 0 longest_time) d)

-- 1 to that many objects
unfoldable pub objects : ℕ → Data → Option (List Members)
objects most d = only (λ ts. is_between 1 most (length ts)) (listed as_object d)

-- ---- sets of numbers

-- the numbers of a list, each above the one before: at least low, below a limit
abbrev pub rising : ℕ → ℕ → Items → Option (List ℕ)
rising low limit no_items = Some []
rising low limit (item d ds) =
    below low limit d >>= (λ n. option_map (λ ns. n ∷ ns) (rising (n + 1) limit ds))

-- whether a number is in a list
abbrev pub is_in : ℕ → List ℕ → Bool
is_in n ns = list_any (λ x. x == n) ns

-- which of the numbers from the first on are in a list, as the bits of a word, the lowest first
unfoldable pub word_of : List ℕ → ℕ → ℕ → ℕ
word_of ns first zero = 0
word_of ns first (suc bits) = (if is_in first ns then 1 else 0) + 2 * word_of ns (first + 1) bits

-- the words of 64 bits of a list of numbers, from one number on
unfoldable pub words_from : List ℕ → ℕ → ℕ → List ℕ
words_from ns first zero = []
words_from ns first (suc words) = word_of ns first 64 ∷ words_from ns (first + 64) words

-- the set of a list's numbers below 512, as its 8 words
unfoldable pub words_of : List ℕ → List ℕ
words_of ns = words_from ns 0 8

-- set numbers, each above the one before and below a limit
unfoldable pub set_numbers : ℕ → Data → Option (List ℕ)
set_numbers limit d = option_map words_of (as_array d >>= rising 0 limit)

-- ---- node states

-- a set number and a block number
unfoldable pub pair : ℕ → ℕ → Data → Data → Option (ℕ × ℕ)
pair low limit set block = do
  s ← below low limit set
  b ← below 0 (2 ^ 32) block
  Some (s, b)

-- set, block, set, block: each set above the one before and below a limit
abbrev pub pairs_from : ℕ → ℕ → Items → Option (List (ℕ × ℕ))
pairs_from low limit no_items = Some []
pairs_from low limit (item set no_items) = None
pairs_from low limit (item set (item block ds)) =
    pair low limit set block
    >>= (λ p. option_map (λ more. p ∷ more) (pairs_from (p.0 + 1) limit ds))

-- the sure pairs in an array, in strictly increasing order of sets
unfoldable pub sure_pairs : ℕ → Data → Option (List (ℕ × ℕ))
sure_pairs limit d = as_array d >>= pairs_from 0 limit

-- a node of at least low, with its sure pairs and its useful sets
unfoldable pub state_of : ℕ → ℕ → ℕ → Data → Data → Data → Option NodeState
state_of sets nodes low node sure useful = do
  n ← below low nodes node
  pairs ← sure_pairs sets sure
  words ← set_numbers sets useful
  Some (record { node = n; sure = pairs; useful = words })

-- the result of f for exactly three items
abbrev pub three_items : {A : Type 0} → (Data → Data → Data → Option A) → Items → Option A
three_items f (item a (item b (item c no_items))) = f a b c
three_items f _ = None

-- the entry of a node of at least low, in an array of three
unfoldable pub state_value : ℕ → ℕ → ℕ → Data → Option NodeState
state_value sets nodes low d = as_array d >>= three_items (state_of sets nodes low)

-- each node above the one before, so at most as many as the limit
abbrev pub states_from : ℕ → ℕ → ℕ → Items → Option (List NodeState)
states_from sets nodes low no_items = Some []
states_from sets nodes low (item d ds) =
    state_value sets nodes low d
    >>= (λ s. option_map (λ more. s ∷ more) (states_from sets nodes (s.node + 1) ds))

-- the entries of nodes in an array, in strictly increasing order of nodes
unfoldable pub states : ℕ → ℕ → Data → Option (List NodeState)
states sets nodes d = as_array d >>= states_from sets nodes 0
