-- The code of the tasks' files: its bytes and words, with the files' images and the addresses of
-- the tasks' places.
use Rattle.std.specs.Prelude.{ℕ, ◌+◌, ◌-◌, ◌*◌, ◌%◌, ◌==◌, Bool, not, ◌&&◌, List, [], ◌∷◌}
use Rattle.std.specs.Prelude.{slice_get, nat_le, Option, None, is_some, option_map, option_and_then}
use Rattle.std.specs.Prelude.{if◌then◌else◌}
use Rattle.std.specs.Option.{option_or}
use Rattle.crpd_base.specs.declared.data.Image.{Image}
use Rattle.crpd_base.specs.declared.data.Segment.{Segment}
use Rattle.crpd_base.specs.declared.data.TaskPlan.{TaskPlan}

-- the return address of jobs; there is no word at it
abbrev pub end : ℕ
end = 0xFFFFFFFC

-- the tasks' images and plans, in the order of the tasks
pub record Code : Type 0 where
  pub images : List Image
  pub plans : List TaskPlan

-- the value of f for the first element that has one
abbrev pub find_map : {X Y : Type 0} → (X → Option Y) → List X → Option Y
find_map f [] = None
find_map f (x ∷ xs) = option_or (f x) (find_map f xs)

-- the byte at an address, if the bytes begin at a start
abbrev pub byte_from : ℕ → List ℕ → ℕ → Option ℕ
byte_from start bytes a = if nat_le start a then slice_get bytes (a - start) else None

-- the code byte of a segment: a byte of the file (p_filesz), if the segment is executable (PF_X)
abbrev pub segment_byte : Segment → ℕ → Option ℕ
segment_byte s a = if s.executable then byte_from s.address s.bytes a else None

-- the code byte of a file: that of the first segment that has one at the address
abbrev pub image_byte : Image → ℕ → Option ℕ
image_byte image a = find_map (λ s. segment_byte s a) image.segments

-- the code byte of the first file that has one
abbrev pub code_byte : List Image → ℕ → Option ℕ
code_byte images a = find_map (λ i. image_byte i a) images

-- the number of four bytes, the lowest first, if there are all four
abbrev pub little_endian : Option ℕ → Option ℕ → Option ℕ → Option ℕ → Option ℕ
little_endian a b c d =
    option_and_then
    (λ w. option_and_then (λ x.
    option_and_then (λ y. option_map (λ z. w + 256 * x + 65536 * y + 16777216 * z) d) c) b) a

-- the word of four bytes at a multiple of 4 that is not the return address of jobs
abbrev pub word_by : (ℕ → Option ℕ) → ℕ → Option ℕ
word_by byte a =
    if a % 4 == 0 && not (a == end)
    then little_endian (byte a) (byte (a + 1)) (byte (a + 2)) (byte (a + 3)) else None

-- the word at an address
unfoldable pub word_at : List Image → ℕ → Option ℕ
word_at images = word_by (code_byte images)

-- whether a word is entirely in this file
unfoldable pub owns : Image → ℕ → Bool
owns image a = is_some (word_by (image_byte image) a)
