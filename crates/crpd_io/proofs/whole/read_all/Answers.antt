use Rattle.std.proofs.Common.{◌≡◌, ◌≤◌, ◌∙◌, List, ℕ, Some, ap, length, refl, arith}
use Rattle.crpd_io.proofs.Logs.{adds_one, the_answer}
use Rattle.crpd_io.proofs.Sizes.{adds_reads, adds_size, asked_one, read_bytes, told_size}
use Rattle.crpd_io.proofs.Wholes.{cut, longer, missing, there}
use Rattle.crpd_io.proofs.whole.read_all.Goals as goal

pub returns-in-Ok-None-clause-fault : goal.returns-in-Ok-None-clause-fault
returns-in-Ok-None-clause-fault g c e = absurd (grind arith)

pub returns-in-Ok-None-clause-exact : goal.returns-in-Ok-None-clause-exact
returns-in-Ok-None-clause-exact g c = λ contents since.
    missing (contents c.args.name.now) c.args.most
    (rw c.in-Ok-None.field-0-is at (the_answer _ c.in-Ok-None.ensures.logged since).size)

pub returns-in-Ok-None-clause-answers : goal.returns-in-Ok-None-clause-answers
returns-in-Ok-None-clause-answers g c =
    adds_size c.args.name.now c.in-Ok-None.field-0 c.in-Ok-None.ensures.logged
    c.in-Ok-None.ensures.told

pub returns-in-Ok-None-clause-asked : goal.returns-in-Ok-None-clause-asked
returns-in-Ok-None-clause-asked g c = asked_one _ _ _ c.in-Ok-None.ensures.logged

pub returns-in-Err-clause-answers : goal.returns-in-Err-clause-answers
returns-in-Err-clause-answers g c =
    adds_one _ _ _ _ c.in-Err.ensures.logged (λ contents here. record { size = tt; reads = tt }) refl

pub returns-in-Err-clause-asked : goal.returns-in-Err-clause-asked
returns-in-Err-clause-asked g c = asked_one _ _ _ c.in-Err.ensures.logged

pub returns-then-size-most-clause-exact : goal.returns-then-size-most-clause-exact
returns-then-size-most-clause-exact g c = λ contents since.
    longer (contents c.args.name.now) c.in-Ok-Some.size c.args.most
    (omega (arith, c.if-size-most.true))
    (told_size (contents c.args.name.now) c.in-Ok-Some.size
    (rw c.in-Ok-Some.field-0-is at (the_answer _ c.in-Ok-Some.ensures.logged since).size))

pub returns-then-size-most-clause-answers : goal.returns-then-size-most-clause-answers
returns-then-size-most-clause-answers g c =
    adds_size c.args.name.now c.in-Ok-Some.field-0 c.in-Ok-Some.ensures.logged
    c.in-Ok-Some.ensures.told

pub returns-then-size-most-clause-asked : goal.returns-then-size-most-clause-asked
returns-then-size-most-clause-asked g c = asked_one _ _ _ c.in-Ok-Some.ensures.logged

pub returns-in-Err-zeros-clause-exact : goal.returns-in-Err-zeros-clause-exact
returns-in-Err-zeros-clause-exact g c = λ contents since.
    there (contents c.args.name.now) c.in-Ok-Some.size c.args.most c.if-size-most.false
    (told_size (contents c.args.name.now) c.in-Ok-Some.size
    (rw c.in-Ok-Some.field-0-is at (the_answer _ c.in-Ok-Some.ensures.logged since).size))

pub returns-in-Err-zeros-clause-answers : goal.returns-in-Err-zeros-clause-answers
returns-in-Err-zeros-clause-answers g c =
    adds_size c.args.name.now c.in-Ok-Some.field-0 c.in-Ok-Some.ensures.logged
    c.in-Ok-Some.ensures.told

pub returns-in-Err-zeros-clause-asked : goal.returns-in-Err-zeros-clause-asked
returns-in-Err-zeros-clause-asked g c = asked_one _ _ _ c.in-Ok-Some.ensures.logged

pub returns-in-Ok-fill-clause-exact : goal.returns-in-Ok-fill-clause-exact
returns-in-Ok-fill-clause-exact g c = λ contents since.
    let room : length c.as_mut_slice.result.now ≡ c.in-Ok-Some.size =
    ap (λ (bs : List ℕ). length bs) c.as_mut_slice.ensures.value ∙ c.in-Ok.ensures in
    let within : c.in-Ok-fill.n ≤ length c.fill.new.into =
    omega (arith, c.in-Ok-fill.ensures.fits, c.fill.auto.into) in
    let has = c.in-Ok-fill.ensures.reads (Some c.in-Ok-Some.field-0) _ c.in-Ok-Some.ensures.logged in
    let fits = the_answer _ has.are since in
    read_bytes (contents c.args.name.now) c.in-Ok-Some.field-0 c.in-Ok-Some.size _ c.in-Ok-fill.n
    c.args.most c.fill.new.into c.truncate.new.self.items has.reads c.in-Ok-Some.field-0-is room
    c.if-size-most.false fits.size fits.reads within has.hold
    (cut c.in-Ok-fill.n c.in-Ok.bytes.len c.fill.new.into _ c.truncate.new.self.items within
    (omega (arith, c.in-Ok-fill.ensures.fits, c.as_mut_slice.ensures.len))
    c.truncate.ensures.items)

pub returns-in-Ok-fill-clause-answers : goal.returns-in-Ok-fill-clause-answers
returns-in-Ok-fill-clause-answers g c =
    let room : length c.as_mut_slice.result.now ≡ c.in-Ok-Some.size =
    ap (λ (bs : List ℕ). length bs) c.as_mut_slice.ensures.value ∙ c.in-Ok.ensures in
    let has = c.in-Ok-fill.ensures.reads (Some c.in-Ok-Some.field-0) _ c.in-Ok-Some.ensures.logged in
    adds_reads c.args.name.now c.in-Ok-Some.field-0 c.in-Ok-Some.size _ has.reads
    c.in-Ok-Some.field-0-is room has.are c.in-Ok-Some.ensures.told
    (λ contents here. has.right contents (c.in-Ok-Some.ensures.same ∙ here)) has.hold.0

pub returns-in-Ok-fill-clause-asked : goal.returns-in-Ok-fill-clause-asked
returns-in-Ok-fill-clause-asked g c =
    let has = c.in-Ok-fill.ensures.reads (Some c.in-Ok-Some.field-0) _ c.in-Ok-Some.ensures.logged in
    asked_one _ _ _ has.are

pub returns-in-Err-fill-clause-answers : goal.returns-in-Err-fill-clause-answers
returns-in-Err-fill-clause-answers g c =
    let room : length c.as_mut_slice.result.now ≡ c.in-Ok-Some.size =
    ap (λ (bs : List ℕ). length bs) c.as_mut_slice.ensures.value ∙ c.in-Ok.ensures in
    let has = c.in-Err-fill.ensures.reads (Some c.in-Ok-Some.field-0) _ c.in-Ok-Some.ensures.logged in
    adds_reads c.args.name.now c.in-Ok-Some.field-0 c.in-Ok-Some.size _ has.reads
    c.in-Ok-Some.field-0-is room has.are c.in-Ok-Some.ensures.told
    (λ contents here. has.right contents (c.in-Ok-Some.ensures.same ∙ here)) has.hold

pub returns-in-Err-fill-clause-asked : goal.returns-in-Err-fill-clause-asked
returns-in-Err-fill-clause-asked g c =
    let has = c.in-Err-fill.ensures.reads (Some c.in-Ok-Some.field-0) _ c.in-Ok-Some.ensures.logged in
    asked_one _ _ _ has.are
