-- What loops over blocks, segments and files have written so far.
use Rattle.std.proofs.Common.{◌≡◌, ℕ, ◌+◌, ◌<◌, List, [], ◌∷◌, ◌++◌, length, take, Option, Some}
use Rattle.std.proofs.Common.{None, refl, sym, ◌∙◌, ap, arith, get_or, length-set, replicate}
use Rattle.std.proofs.lemmas.List.{ext_get_or, get_or-replicate, length-replicate, take_more}
use Rattle.crpd_base.specs.declared.data.Image.{Image}
use Rattle.crpd_base.specs.declared.data.Platform.{Platform}
use Rattle.crpd_base.specs.declared.data.Segment.{Segment}
use Rattle.icache.specs.Cache.{Cache, cache_after_access, held, set_of}
use Rattle.rv_core.specs.Memory.{Memory}
use Rattle.preempt_machine.specs.Starts.{start_cache, with_blocks, with_images}
use Rattle.preempt_machine.specs.Starts.{with_segment, with_segments}

-- one more block at the end
blocks_more : (p : Platform) (cache : Cache) (xs : List ℕ) (b : ℕ)
    → with_blocks p cache (xs ++ b ∷ []) ≡ cache_after_access p (with_blocks p cache xs) b
blocks_more p cache [] b = refl
blocks_more p cache (x ∷ xs) b = blocks_more p (cache_after_access p cache x) xs b

segments_more : (memory : Memory) (xs : List Segment) (s : Segment)
    → with_segments memory (xs ++ s ∷ []) ≡ with_segment (with_segments memory xs) s
segments_more memory [] s = refl
segments_more memory (x ∷ xs) s = segments_more (with_segment memory x) xs s

images_more : (memory : Memory) (xs : List Image) (i : Image)
    → with_images memory (xs ++ i ∷ []) ≡ with_segments (with_images memory xs) i.segments
images_more memory [] i = refl
images_more memory (x ∷ xs) i = images_more (with_segments memory x.segments) xs i

-- the blocks up to one more
pub next_block : (p : Platform) (cache : Cache) (xs : List ℕ) (i : ℕ) → i < length xs
    → with_blocks p cache (take (i + 1) xs)
    ≡ cache_after_access p (with_blocks p cache (take i xs)) (get_or xs i 0)
next_block p cache xs i h =
    ap (with_blocks p cache) (take_more xs i 0 h) ∙ blocks_more p cache (take i xs) (get_or xs i 0)

pub next_segment : (memory : Memory) (xs : List Segment) (i : ℕ) (d : Segment) → i < length xs
    → with_segments memory (take (i + 1) xs)
    ≡ with_segment (with_segments memory (take i xs)) (get_or xs i d)
next_segment memory xs i d h =
    ap (with_segments memory) (take_more xs i d h)
    ∙ segments_more memory (take i xs) (get_or xs i d)

pub next_image : (memory : Memory) (xs : List Image) (i : ℕ) (d : Image) → i < length xs
    → with_images memory (take (i + 1) xs)
    ≡ with_segments (with_images memory (take i xs)) (get_or xs i d).segments
next_image memory xs i d h =
    ap (with_images memory) (take_more xs i d h) ∙ images_more memory (take i xs) (get_or xs i d)

-- a cache with no block
pub empty_is : (n : ℕ) (cache : Cache) → length cache ≡ n → ((set : ℕ) → held cache set ≡ None)
    → cache ≡ replicate n None
empty_is n cache long none =
    ext_get_or None cache (replicate n None) (long ∙ sym (length-replicate n None))
    (λ i h. none i ∙ sym (get_or-replicate n i None None (omega (arith, long))))

-- the cache at the start of a script has room for 512 sets
blocks_length : (p : Platform) (cache : Cache) (blocks : List ℕ)
    → length (with_blocks p cache blocks) ≡ length cache
blocks_length p cache [] = refl
blocks_length p cache (b ∷ blocks) =
    blocks_length p (cache_after_access p cache b) blocks ∙ length-set cache (set_of p b) (Some b)

pub start_cache_length : (p : Platform) (blocks : List ℕ) → length (start_cache p blocks) ≡ 512
unfolding start_cache
start_cache_length p blocks =
    blocks_length p (replicate 512 None) blocks ∙ length-replicate {A = Option ℕ} 512 None
