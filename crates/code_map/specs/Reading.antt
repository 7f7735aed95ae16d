-- The meaning of the tasks' files: the code, or the first refusal.
use Rattle.std.specs.Prelude.{List, Result, Ok}
use Rattle.crpd_base.specs.declared.data.Image.{Image}
use Rattle.crpd_base.specs.declared.data.TaskSet.{TaskSet}
use Rattle.code_map.specs.declared.error.MapError.{MapError}
use Rattle.code_map.specs.declared.error.MapError.TheVariants.{CodeConflict}
use Rattle.code_map.specs.Conflicts.{first_conflict}
use Rattle.crpd_base.specs.Outcome.{◌>>=◌, nowhere}
use Rattle.code_map.specs.Places.{plans_of}
use Rattle.code_map.specs.Words.{Code, word_at}

-- files without a conflict
unfoldable pub files_of : List Image → Result (List Image) MapError
files_of images = do
  _ ← nowhere CodeConflict (first_conflict images)
  Ok images

-- the code of a task set whose tasks have these images, or the first refusal
unfoldable pub code_of : TaskSet → List Image → Result Code MapError
code_of set images = do
  files ← files_of images
  plans ← plans_of (word_at files) 0 set.tasks files
  Ok (record { images = files; plans = plans })
