-- Addresses at which files have different code bytes. Tasks that name the same file have equal
-- images, which never conflict.
use Rattle.std.specs.Prelude.{ℕ, ◌^◌, ◌==◌, Bool, false, not, List, zero, suc, Option, Some, None}
use Rattle.std.specs.Prelude.{if◌then◌else◌}
use Rattle.std.specs.Option.{option_or}
use Rattle.std.specs.List.{list_any}
use Rattle.crpd_base.specs.declared.data.Image.{Image}
use Rattle.code_map.specs.Words.{find_map, image_byte}

-- two bytes that differ; no byte differs from none
abbrev pub differ : Option ℕ → Option ℕ → Bool
differ None b = false
differ (Some x) None = false
differ (Some x) (Some y) = not (x == y)

-- f has a different number for some element than for the first with one
abbrev pub disagree : {X : Type 0} → (X → Option ℕ) → List X → Bool
disagree f xs = list_any (λ x. differ (find_map f xs) (f x)) xs

-- the files have different code bytes at an address
abbrev pub is_conflict : List Image → ℕ → Bool
is_conflict images a = disagree (λ i. image_byte i a) images

-- the smallest number below n that passes a test
unfoldable pub least_below : ℕ → (ℕ → Bool) → Option ℕ
least_below zero p = None
least_below (suc n) p = option_or (least_below n p) (if p n then Some n else None)

-- the lowest address at which the files have different code bytes
unfoldable pub first_conflict : List Image → Option ℕ
first_conflict images = least_below (2 ^ 32) (is_conflict images)
