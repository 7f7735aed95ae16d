-- The machine starts from a valid data memory, if the segments' bytes are bytes.
use Rattle.std.proofs.Common.{ℕ, ◌+◌, ◌^◌, ◌<◌, ◌≤◌, List, [], ◌∷◌, length, arith}
use Rattle.std.specs.Prelude.{All}
use Rattle.std.proofs.lemmas.List.Elements.{All-head, All-tail}
use Rattle.crpd_base.specs.Images.{IsImage}
use Rattle.crpd_base.specs.declared.data.Image.{Image}
use Rattle.crpd_base.specs.declared.data.Segment.{Segment}
use Rattle.rv_core.specs.Memory.{IsMemory, Memory, clear_bytes, put_all, put_byte}
use Rattle.rv_core.proofs.Memories.{clear_from, put_from}
use Rattle.preempt_machine.specs.Starts.{start_memory, with_images, with_segment, with_segments}

-- a byte
abbrev IsByte : ℕ → Type 0
IsByte b = b < 2 ^ 8

-- each byte of each segment of an image is a byte
abbrev pub HasBytes : Image → Type 0
HasBytes image = All (λ (s : Segment). All IsByte s.bytes) image.segments

bytes_kept : (memory : Memory) (a : ℕ) (bytes : List ℕ) → IsMemory memory
    → a + length bytes ≤ 2 ^ 32 → All IsByte bytes → IsMemory (put_all memory a bytes)
bytes_kept memory a [] h fits small = h
bytes_kept memory a (b ∷ bytes) h fits small =
    bytes_kept (put_byte memory a b) (a + 1) bytes
    (put_from 0 memory a b h (omega arith) (omega arith) (All-head IsByte b bytes small))
    (omega arith) (All-tail IsByte b bytes small)

abbrev IsBelow : Segment → Type 0
IsBelow s = s.address + s.size ≤ 2 ^ 32

abbrev IsSized : Segment → Type 0
IsSized s = length s.bytes ≤ s.size

abbrev AreBytes : Segment → Type 0
AreBytes s = All IsByte s.bytes

segment_kept : (memory : Memory) (s : Segment) → IsMemory memory → IsBelow s → IsSized s
    → AreBytes s → IsMemory (with_segment memory s)
segment_kept memory s h below sized small =
    bytes_kept (clear_bytes memory s.address s.size) s.address s.bytes
    (clear_from 0 memory s.address s.size h) (omega arith) small

segments_kept : (memory : Memory) (segments : List Segment) → IsMemory memory → All IsBelow segments
    → All IsSized segments → All AreBytes segments → IsMemory (with_segments memory segments)
segments_kept memory [] h below sized small = h
segments_kept memory (s ∷ segments) h below sized small =
    segments_kept (with_segment memory s) segments
    (segment_kept memory s h (All-head IsBelow s segments below) (All-head IsSized s segments sized)
    (All-head AreBytes s segments small))
    (All-tail IsBelow s segments below) (All-tail IsSized s segments sized)
    (All-tail AreBytes s segments small)

images_kept : (memory : Memory) (images : List Image) → IsMemory memory → All IsImage images
    → All HasBytes images → IsMemory (with_images memory images)
images_kept memory [] h are small = h
images_kept memory (i ∷ images) h are small =
    let first : IsImage i = All-head IsImage i images are in
    images_kept (with_segments memory i.segments) images
    (segments_kept memory i.segments h first.below first.sized (All-head HasBytes i images small))
    (All-tail IsImage i images are) (All-tail HasBytes i images small)

pub start_kept : (images : List Image) → All IsImage images → All HasBytes images
    → IsMemory (start_memory images)
unfolding start_memory
start_kept images are small = images_kept [] images tt are small
