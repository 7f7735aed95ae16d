-- The segments of the generated files hold bytes.
use Rattle.std.proofs.Common.{◌≡◌, ℕ, zero, suc, ◌/◌, ◌%◌, ◌^◌, ◌<◌, List, [], ◌∷◌, length, map}
use Rattle.std.proofs.Common.{get_or, Ok, ap, sym, subst, ◌∙◌, arith, w32}
use Rattle.std.specs.Prelude.{All, Result}
use Rattle.std.specs.Int.{byte_at, bytes_low_first, to_le_bytes}
use Rattle.std.specs.List.{range_with_len}
use Rattle.std.proofs.lemmas.List.{get_or-map, length-map}
use Rattle.std.proofs.lemmas.List.Elements.{All-append, All-cons, All-nil}
use Rattle.std.proofs.lemmas.List.FromFn.{get_or-map-range_with_len, length-map-range_with_len}
use Rattle.crpd_base.specs.declared.data.Image.{Image}
use Rattle.crpd_base.specs.declared.data.Segment.{Segment}
use Rattle.elf_reader.specs.Reading as elf
use Rattle.elf_reader.specs.declared.error.ElfError.{ElfError}
use Rattle.gen_tasks.specs.Files.{words}
use Rattle.gen_tasks.specs.GeneratedInput.{made}
use Rattle.gen_tasks.specs.Programs.{image_at}
use Rattle.gen_tasks.proofs.ElfLaw.{files_read}

-- a byte
abbrev IsByte : ℕ → Type 0
IsByte b = b < 2 ^ 8

-- each byte of each segment of an image is one
abbrev HasBytes : Image → Type 0
HasBytes image = All (λ (s : Segment). All IsByte s.bytes) image.segments

abbrev AreBytes : Segment → Type 0
AreBytes s = All IsByte s.bytes

low_byte : (n : ℕ) → n % 256 < 2 ^ 8
low_byte n = omega arith

byte_small : (i n : ℕ) → byte_at i n < 2 ^ 8
byte_small zero n = low_byte n
byte_small (suc i) n = low_byte (n / 256 ^ suc i)

bytes_small : (i k n : ℕ) → All IsByte (bytes_low_first i k n)
bytes_small i zero n = All-nil IsByte
bytes_small i (suc k) n =
    All-cons IsByte (byte_at i n) (bytes_low_first (suc i) k n) (byte_small i n)
    (bytes_small (suc i) k n)

word_bytes : (x : ℕ) → All IsByte (to_le_bytes w32 x)
word_bytes x = bytes_small 0 4 x

words_bytes : (xs : List ℕ) → All IsByte (words xs)
words_bytes [] = All-nil IsByte
words_bytes (x ∷ xs) =
    All-append IsByte (to_le_bytes w32 x) (words xs) (word_bytes x) (words_bytes xs)

image_bytes : (n i : ℕ) → HasBytes (image_at n i)
image_bytes n i = All-cons AreBytes _ [] (words_bytes _) (All-nil AreBytes)

-- the image of a file has bytes
abbrev pub MeansBytes : List ℕ → Type 0
MeansBytes file = (image : Image) → elf.reading file ≡ Ok image → HasBytes image

same_image : (x y : Image) → ◌≡◌ {A = Result Image ElfError} (Ok x) (Ok y) → x ≡ y
same_image x y e = cc

pub made_files_mean : (n : ℕ) → All MeansBytes (made n).files
made_files_mean n k d lt image is =
    let files = (made n).files in
    let all = files_read n in
    let means : ℕ → Result Image ElfError = λ i. Ok (image_at n i) in
    let count : length files ≡ 16 = sym (length-map files elf.reading) ∙ ap length all
    ∙ length-map-range_with_len means 0 16 in
    let at : get_or (map elf.reading files) k (elf.reading d) ≡ elf.reading (get_or files k d) =
    get_or-map elf.reading files k d (elf.reading d) lt in
    let there : get_or (map means (range_with_len 0 16)) k (elf.reading d) ≡ Ok (image_at n k) =
    get_or-map-range_with_len means 0 16 k k (elf.reading d) (omega arith) (omega arith) in
    let found : elf.reading (get_or files k d) ≡ Ok (image_at n k) =
    sym at ∙ ap (λ rs. get_or rs k (elf.reading d)) all ∙ there in
    subst HasBytes (same_image (image_at n k) image (sym found ∙ is)) (image_bytes n k)
