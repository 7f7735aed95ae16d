-- The code of a set has a plan for each task, and its words end below the last address.
use Rattle.std.proofs.Common.{◌≡◌, ◌∙◌, ap, refl, sym, subst, ℕ, suc, ◌+◌, ◌%◌, ◌&&◌, Bool, true}
use Rattle.std.proofs.Common.{false, not, cond, List, [], ◌∷◌, length, Option, Some, None, Result}
use Rattle.std.proofs.Common.{Ok, arith, All, ◌==◌}
use Rattle.crpd_base.proofs.Results.{bind_ok}
use Rattle.crpd_base.specs.Images.{IsImage}
use Rattle.crpd_base.specs.declared.data.Image.{Image}
use Rattle.crpd_base.specs.declared.data.TaskPlan.{TaskPlan}
use Rattle.crpd_base.specs.declared.data.TaskSet.{TaskSet}
use Rattle.crpd_base.specs.declared.data.TaskSpec.{TaskSpec}
use Rattle.code_map.specs.declared.error.MapError.{MapError}
use Rattle.code_map.specs.declared.error.MapError.TheVariants.{CodeConflict}
use Rattle.code_map.specs.Conflicts.{first_conflict}
use Rattle.crpd_base.specs.Outcome.{◌>>=◌, nowhere}
use Rattle.code_map.specs.Places.{plan_of, plans_of}
use Rattle.code_map.specs.Reading.{code_of, files_of}
use Rattle.code_map.specs.Words.{Code, code_byte, image_byte, little_endian, word_at}
use Rattle.code_map.proofs.Has.{has_found}
use Rattle.code_map.proofs.Indexed.{byte_below}
use Rattle.code_map.proofs.KeptWords.{within_end}
use Rattle.rv_decode.specs.Address.{end_address}
use Rattle.rv_decode.specs.Flow.{IsCodeMap}

plans_length : (word : ℕ → Option ℕ) (n : ℕ) (ts : List TaskSpec) (is : List Image)
    (plans : List TaskPlan) → length is ≡ length ts → plans_of word n ts is ≡ Ok plans
    → length plans ≡ length ts
unfolding plans_of
plans_length word n [] is plans l e = let same : [] ≡ plans = cc in sym (ap length same)
plans_length word n (t ∷ ts) [] plans l e = absurd (omega arith)
plans_length word n (t ∷ ts) (i ∷ is) plans l e =
    let first = bind_ok (plan_of word (record { 0 = n }) t i) _ plans e in
    let later = bind_ok (plans_of word (n + 1) ts is) (λ ps. Ok (first.0 ∷ ps)) plans first.2 in
    let same : first.0 ∷ later.0 ≡ plans = cc in
    sym (ap length same) ∙ ap suc (plans_length word (n + 1) ts is later.0 (omega arith) later.1)

files_are : (o : Option ℕ) (images files : List Image)
    → (nowhere CodeConflict o >>= (λ x. Ok images)) ≡ Ok files → images ≡ files
files_are None images files e = cc
files_are (Some a) images files e = absurd cc

read_files : (images files : List Image) → files_of images ≡ Ok files → images ≡ files
unfolding files_of
read_files images files e = files_are (first_conflict images) images files e

pub code_parts : (set : TaskSet) (images : List Image) (code : Code) → code_of set images ≡ Ok code
    → (code.images ≡ images) × (plans_of (word_at images) 0 set.tasks images ≡ Ok code.plans)
unfolding code_of
code_parts set images code e =
    let files = bind_ok (files_of images) _ code e in
    let plans = bind_ok (plans_of (word_at files.0) 0 set.tasks files.0) _ code files.2 in
    same files.0 plans.0 (read_files images files.0 files.1) plans.1 plans.2
  where
    same : (files : List Image) (plans : List TaskPlan) → images ≡ files
        → plans_of (word_at files) 0 set.tasks files ≡ Ok plans
        → ◌≡◌ {A = Result Code MapError} (Ok (record { images = files; plans = plans })) (Ok code)
        → (code.images ≡ images) × (plans_of (word_at images) 0 set.tasks images ≡ Ok code.plans)
    same files plans are e is =
        let code_is : ◌≡◌ {A = Code} (record { images = files; plans = plans }) code = cc in
        let there : plans_of (word_at images) 0 set.tasks images ≡ Ok plans =
        ap (λ fs. plans_of (word_at fs) 0 set.tasks fs) are ∙ e in (
          sym (ap (λ (c : Code). c.images) code_is) ∙ sym are,
          there ∙ ap (λ (c : Code). Ok c.plans) code_is,
        )

-- the code of a set has a plan for each task
pub plan_per_task : (set : TaskSet) (images : List Image) (code : Code)
    → length images ≡ length set.tasks → code_of set images ≡ Ok code
    → length code.plans ≡ length set.tasks
plan_per_task set images code l e =
    plans_length (word_at images) 0 set.tasks images code.plans l (code_parts set images code e).1

byte_there : (a b c d : Option ℕ) (w : ℕ) → little_endian a b c d ≡ Some w → (x : ℕ) × (a ≡ Some x)
byte_there None b c d w e = absurd cc
byte_there (Some x) b c d w e = (x, refl)

word_there : (test : Bool) (o : Option ℕ) (w : ℕ) → cond test o None ≡ Some w → o ≡ Some w
word_there true o w e = e
word_there false o w e = absurd cc

-- words of images whose segments fit in memory end below the last address
pub words_end : (images : List Image) → All IsImage images → IsCodeMap (word_at images)
unfolding word_at
words_end images are a w e =
    let bytes = word_there (a % 4 == 0 && not (a == end_address))
    (little_endian (code_byte images a) (code_byte images (a + 1)) (code_byte images (a + 2))
    (code_byte images (a + 3))) w e in
    let first = byte_there (code_byte images a) (code_byte images (a + 1))
    (code_byte images (a + 2)) (code_byte images (a + 3)) w bytes in
    within_end (code_byte images) a (Some w)
    (byte_below images a first.0 are (has_found (λ i. image_byte i a) images first.0 first.1))
    (sym e)

-- the words of the code of a set do too
pub code_ends : (set : TaskSet) (images : List Image) (code : Code) → All IsImage images
    → code_of set images ≡ Ok code → IsCodeMap (word_at code.images)
code_ends set images code are e =
    subst (λ files. IsCodeMap (word_at files)) (sym (code_parts set images code e).0)
    (words_end images are)
