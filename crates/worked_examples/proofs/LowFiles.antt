-- Files whose bytes are all below the address at which jobs end are a code map.
use Rattle.std.proofs.Common.{◌≡◌, ℕ, ◌+◌, ◌-◌, ◌<◌, Bool, true, not, ◌&&◌, List, [], ◌∷◌, length}
use Rattle.std.proofs.Common.{Option, Some, None, IsTrue, refl, inl, inr, arith, nat_le, ◌==◌, ◌%◌}
use Rattle.std.specs.Option.{option_or}
use Rattle.std.proofs.lemmas.Bool.{cases_Bool, and_parts, leb-true}
use Rattle.std.proofs.lemmas.Option.{slice_get_within, none-some}
use Rattle.crpd_base.specs.declared.data.Image.{Image}
use Rattle.crpd_base.specs.declared.data.Segment.{Segment}
use Rattle.rv_decode.specs.Address.{end_address}
use Rattle.rv_decode.specs.Flow.{IsCodeMap}
use Rattle.code_map.specs.Words.{find_map, byte_from, segment_byte, image_byte, code_byte}
use Rattle.code_map.specs.Words.{little_endian, word_at}

abbrev pub are_low : List Segment → Bool
are_low [] = true
are_low (s ∷ segments) = nat_le (s.address + length s.bytes) end_address && are_low segments

abbrev pub are_low_files : List Image → Bool
are_low_files [] = true
are_low_files (i ∷ images) = are_low i.segments && are_low_files images

byte_below : (start : ℕ) (bytes : List ℕ) (a b : ℕ) → byte_from start bytes a ≡ Some b
    → a < start + length bytes
byte_below start bytes a b e =
    elim (cases_Bool (nat_le start a)) [
      | inl t ↦ let l =
          slice_get_within bytes (a - start) b (rw t at e) in let above =
          leb-true start a t in omega arith
      | inr f ↦ absurd (none-some b (rw f at e))
    ]

segment_below : (s : Segment) (a b : ℕ) → segment_byte s a ≡ Some b → a < s.address + length s.bytes
segment_below s a b e =
    elim (cases_Bool s.executable) [
      | inl t ↦ byte_below s.address s.bytes a b (rw t at e)
      | inr f ↦ absurd (none-some b (rw f at e))
    ]

image_by : (s : Segment) (segments : List Segment) (a b : ℕ) (o rest : Option ℕ)
    → segment_byte s a ≡ o → IsTrue (nat_le (s.address + length s.bytes) end_address)
    → (rest ≡ Some b → a < end_address) → option_or o rest ≡ Some b → a < end_address
image_by s segments a b None rest q low more e = more e
image_by s segments a b (Some x) rest q low more e =
    let l = segment_below s a x q in
    let h = leb-true (s.address + length s.bytes) end_address low in omega arith

image_below : (segments : List Segment) (a b : ℕ) → IsTrue (are_low segments)
    → find_map (λ s. segment_byte s a) segments ≡ Some b → a < end_address
image_below [] a b t e = absurd (none-some b e)
image_below (s ∷ segments) a b t e =
    let parts = and_parts (nat_le (s.address + length s.bytes) end_address) (are_low segments) t in
    image_by s segments a b (segment_byte s a) (find_map (λ z. segment_byte z a) segments) refl
    parts.0 (image_below segments a b parts.1) e

code_by : (i : Image) (a b : ℕ) (o rest : Option ℕ) → image_byte i a ≡ o
    → IsTrue (are_low i.segments) → (rest ≡ Some b → a < end_address) → option_or o rest ≡ Some b
    → a < end_address
code_by i a b None rest q low more e = more e
code_by i a b (Some x) rest q low more e = image_below i.segments a x low q

code_below : (images : List Image) (a b : ℕ) → IsTrue (are_low_files images)
    → code_byte images a ≡ Some b → a < end_address
code_below [] a b t e = absurd (none-some b e)
code_below (i ∷ images) a b t e =
    let parts = and_parts (are_low i.segments) (are_low_files images) t in
    code_by i a b (image_byte i a) (code_byte images a) refl parts.0
    (code_below images a b parts.1) e

-- a word has its last byte
last_byte : (p q r t : Option ℕ) (w : ℕ) → little_endian p q r t ≡ Some w → (b : ℕ) × (t ≡ Some b)
last_byte None q r t w e = absurd (none-some w e)
last_byte (Some x) None r t w e = absurd (none-some w e)
last_byte (Some x) (Some y) None t w e = absurd (none-some w e)
last_byte (Some x) (Some y) (Some z) None w e = absurd (none-some w e)
last_byte (Some x) (Some y) (Some z) (Some b) w e = (b, refl)

pub low_code : (images : List Image) → IsTrue (are_low_files images) → IsCodeMap (word_at images)
unfolding word_at
low_code images low a w e =
    elim (cases_Bool (a % 4 == 0 && not (a == end_address))) [
      | inl t ↦
          let last = last_byte (code_byte images a) (code_byte images (a + 1))
          (code_byte images (a + 2)) (code_byte images (a + 3)) w (rw t at e) in
          let below = code_below images (a + 3) last.0 low last.1 in
          omega arith
      | inr f ↦ absurd (none-some w (rw f at e))
    ]
