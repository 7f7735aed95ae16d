use Rattle.std.proofs.Common.{◌≡◌, ℕ, ◌<◌, ◌≤◌, List, [], length, take, sym, ◌∙◌, ap, subst, get_or}
use Rattle.std.specs.Prelude.{All}
use Rattle.std.proofs.lemmas.List.{take_all}
use Rattle.std.proofs.lemmas.List.Elements.{All-get_or}
use Rattle.crpd_base.specs.Images.{IsImage}
use Rattle.crpd_base.specs.declared.data.Image.{Image}
use Rattle.crpd_base.specs.declared.data.Segment.{Segment}
use Rattle.rv_core.specs.Memory.{Memory}
use Rattle.preempt_machine.specs.Starts.{start_memory, with_images, with_segments}
use Rattle.preempt_machine.proofs.Loads.{next_image}
use Rattle.preempt_machine.proofs.start.start_memory.Goals as goal

-- an item of a list of images
item_is : (items images : List Image) (i : ℕ) (image : Image) → items ≡ images
    → image ≡ get_or items i image → image ≡ get_or images i image
item_is items images i image e h = subst (λ (l : List Image). image ≡ get_or l i image) e h

item_good : (items images : List Image) (i : ℕ) (image : Image) → items ≡ images
    → image ≡ get_or items i image → i < length items → All IsImage images → IsImage image
item_good items images i image e h inside all =
    subst IsImage (sym (item_is items images i image e h))
    (All-get_or IsImage images i image (subst (λ (l : List Image). i < length l) e inside) all)

pub put_segments-requires-clause-below : goal.put_segments-requires-clause-below
put_segments-requires-clause-below c =
    let good = item_good c.images-image-items.result.now c.args.code.now.images
    c.loop-image.image-index c.image-item.result c.loop-image.invariant.items c.image-item.is
    c.loop-image-test.true c.images_law.ensures in
    rw c.as_slice.ensures good.below

pub put_segments-requires-clause-sized : goal.put_segments-requires-clause-sized
put_segments-requires-clause-sized c =
    let good = item_good c.images-image-items.result.now c.args.code.now.images
    c.loop-image.image-index c.image-item.result c.loop-image.invariant.items c.image-item.is
    c.loop-image-test.true c.images_law.ensures in
    rw c.as_slice.ensures good.sized

pub loop-image-preserved : goal.loop-image-preserved
loop-image-preserved c =
    let images = c.args.code.now.images in
    let i = c.loop-image.image-index in
    let image = c.image-item.result in
    let h = c.loop-image.invariant in
    let inside : i < length images = subst (λ (l : List Image). i < length l) h.items
    c.loop-image-test.true in
    let is = item_is c.images-image-items.result.now images i image h.items c.image-item.is in
    let so_far = with_images [] (take i images) in
    let put : c.put_segments.new.memory ≡ with_segments c.loop-image.memory c.as_slice.result.now =
    c.in_ok-put_segments.ensures in
    record {
      memory = put
          ∙ ap (λ (ss : List Segment). with_segments c.loop-image.memory ss) c.as_slice.ensures
          ∙ ap (λ (m : Memory). with_segments m image.segments) h.memory
          ∙ ap (λ (x : Image). with_segments so_far x.segments) is
          ∙ sym (next_image [] images i image inside);
      items = h.items;
    }

pub returns : goal.returns
unfolding start_memory
returns c =
    let images = c.args.code.now.images in
    let i = c.loop-image.image-index in
    let past : length images
    ≤ i =
    subst (λ (l : List Image). length l ≤ i) c.loop-image.invariant.items c.loop-image-test.false in
    c.loop-image.invariant.memory ∙ ap (with_images []) (take_all i images past)
