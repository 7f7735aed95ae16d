-- The addresses of a task's places in its own file, and the plan of a task.
use Rattle.std.specs.Prelude.{ℕ, ◌+◌, ◌^◌, ◌==◌, List, [], ◌∷◌, ◌++◌, codes, nat_lt, Option, Some}
use Rattle.std.specs.Prelude.{None, is_some, option_and_then, ok_or, Result, Ok, if◌then◌else◌}
use Rattle.std.specs.Fmt.{decimal}
use Rattle.crpd_base.specs.declared.data.Image.{Image}
use Rattle.crpd_base.specs.declared.data.LoopAt.{LoopAt}
use Rattle.crpd_base.specs.declared.data.LoopSpec.{LoopSpec}
use Rattle.crpd_base.specs.declared.data.Place.{Place}
use Rattle.crpd_base.specs.declared.data.Place.TheVariants.{Number, Symbol as Named}
use Rattle.crpd_base.specs.declared.data.Symbol.{Symbol}
use Rattle.crpd_base.specs.declared.data.Task.{Task}
use Rattle.crpd_base.specs.declared.data.TaskPlan.{TaskPlan}
use Rattle.crpd_base.specs.declared.data.TaskSpec.{TaskSpec}
use Rattle.code_map.specs.declared.error.MapError.{MapError}
use Rattle.code_map.specs.declared.error.MapError.TheVariants.{UnknownSymbol, EntryOutside}
use Rattle.crpd_base.specs.Outcome.{◌>>=◌, ensure, each}
use Rattle.code_map.specs.Values.{value_of}

-- how a place is reported: its symbol, followed by `+` and the offset in decimal if the offset is
-- not 0
unfoldable pub place_text : List ℕ → ℕ → List ℕ
place_text name offset = if offset == 0 then name else name ++ codes "+" ++ decimal offset

-- a value with an offset, if the sum is below 2 ^ 32
abbrev pub value_with_offset : ℕ → ℕ → Option ℕ
value_with_offset offset value =
    if nat_lt (value + offset) (2 ^ 32) then Some (value + offset) else None

-- a symbol's value with an offset, if the file has the symbol and the sum is below 2 ^ 32
abbrev pub symbol_address : List Symbol → List ℕ → ℕ → Option ℕ
symbol_address symbols name offset =
    option_and_then (value_with_offset offset) (value_of symbols name)

-- the address of a task's place
unfoldable pub address_of : Task → List Symbol → Place → Result ℕ MapError
address_of task symbols (Number address) = Ok address
address_of task symbols (Named name offset) =
    ok_or (symbol_address symbols name offset) (UnknownSymbol task (place_text name offset))

-- the entry: that of the file if no place is stated
unfoldable pub entry_of : Task → Image → Option Place → Result ℕ MapError
entry_of task image None = Ok image.entry
entry_of task image (Some place) = address_of task image.symbols place

-- a range, from its first place up to, but not including, its second
unfoldable pub range_of : Task → List Symbol → Place × Place → Result (ℕ × ℕ) MapError
range_of task symbols range = do
  first ← address_of task symbols range.0
  last ← address_of task symbols range.1
  Ok (first, last)

-- a stated loop: its head, then its ranges
unfoldable pub loop_of : Task → List Symbol → LoopSpec → Result LoopAt MapError
loop_of task symbols spec = do
  head ← address_of task symbols spec.head
  ranges ← each (range_of task symbols) spec.ranges
  Ok (record { head = head; bound = spec.bound; ranges = ranges })

-- the plan of a task: entry, stack, global and loops, and then the entry must have a word
unfoldable pub plan_of : (ℕ → Option ℕ) → Task → TaskSpec → Image → Result TaskPlan MapError
plan_of word task spec image = do
  entry ← entry_of task image spec.entry
  stack ← address_of task image.symbols spec.stack
  global ← address_of task image.symbols spec.global
  loops ← each (loop_of task image.symbols) spec.loops
  _ ← ensure (is_some (word entry)) (EntryOutside task entry)
  Ok (record { entry = entry; stack = stack; global = global; loops = loops })

-- the plans of the tasks from a number on, each with the image of its file
unfoldable pub plans_of : (ℕ → Option ℕ) → ℕ → List TaskSpec → List Image
    → Result (List TaskPlan) MapError
plans_of word n [] images = Ok []
plans_of word n (t ∷ ts) [] = Ok []
plans_of word n (t ∷ ts) (i ∷ is) = do
  plan ← plan_of word (record { 0 = n }) t i
  plans ← plans_of word (n + 1) ts is
  Ok (plan ∷ plans)
