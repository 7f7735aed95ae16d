-- Files in memory, under the names that tasks use for them.
use Rattle.std.proofs.Common.{◌≡◌, ℕ, zero, suc, ◌+◌, ◌<◌, List, [], ◌∷◌, ◌++◌, length, map, take}
use Rattle.std.proofs.Common.{get_or, Some, Option, refl, ap, sym, ◌∙◌, arith, add-one, String, Vec}
use Rattle.std.proofs.Common.{string_bytes, if◌then◌else◌, zip}
use Rattle.std.proofs.lemmas.List.{get_or-map, length-map, map-append}
use Rattle.std.specs.Str.{bytes_eq}
use Rattle.crpd_base.specs.declared.data.TaskSpec.{TaskSpec}
use Rattle.crpd_io.specs.FilesInMemory.{file_named}
use Rattle.crpd_tool.specs.Generate.{contents_of_files}

-- the name and the bytes of a file in memory
abbrev pub seen : {Y Z : Type 0} → String Y × Vec ℕ Z → List ℕ × List ℕ
seen file = (string_bytes file.0, file.1.items)

pub found_by : {Y Z : Type 0} (files : List (String Y × Vec ℕ Z)) (name : List ℕ)
    → file_named files name ≡ contents_of_files (map seen files) name
found_by [] name = refl
found_by (file ∷ files) name =
    ap (λ (o : Option (List ℕ)). if bytes_eq name (string_bytes file.0) then Some file.1.items
    else o) (found_by files name)

-- the contents are one function of names
pub contents_are : {Y Z : Type 0} (files : List (String Y × Vec ℕ Z))
    → file_named files ≡ contents_of_files (map seen files)
contents_are files = λ i name. found_by files name i

-- one more pair
pub zip_more : {A B : Type 0} (xs : List A) (ys : List B) (i : ℕ) (c : A) (d : B) → i < length xs
    → i < length ys
    → zip (take (i + 1) xs) (take (i + 1) ys)
    ≡ zip (take i xs) (take i ys) ++ (get_or xs i c, get_or ys i d) ∷ []
zip_more [] ys i c d h k = absurd (omega arith)
zip_more (x ∷ xs) [] i c d h k = absurd (omega arith)
zip_more (x ∷ xs) (y ∷ ys) zero c d h k = refl
zip_more (x ∷ xs) (y ∷ ys) (suc i) c d h k =
    let more = zip_more xs ys i c d (omega arith) (omega arith) in
    rw add-one (ap (λ zs. (x, y) ∷ zs) (rw add-one at more))

-- the files' names
abbrev pub names_of : List TaskSpec → List (List ℕ)
names_of tasks = map (λ (t : TaskSpec). t.file) tasks

-- one more file is in memory
pub seen_more : {Y Z : Type 0} (tasks : List TaskSpec) (files : List (List ℕ))
    (kept now : List (String Y × Vec ℕ Z)) (i : ℕ) (task : TaskSpec) (bytes : List ℕ)
    (name : String Y) (copy : Vec ℕ Z)
    → i < length tasks → i < length files → task ≡ get_or tasks i task
    → bytes ≡ get_or files i bytes → string_bytes name ≡ task.file → copy.items ≡ bytes
    → now ≡ kept ++ (name, copy) ∷ []
    → map seen kept ≡ zip (take i (names_of tasks)) (take i files)
    → map seen now ≡ zip (take (i + 1) (names_of tasks)) (take (i + 1) files)
seen_more tasks files kept now i task bytes name copy in_tasks in_files task_is bytes_is name_is
    copy_is more before =
    let file : TaskSpec → List ℕ = λ t. t.file in
    let name_at : string_bytes name ≡ get_or (names_of tasks) i task.file =
    name_is ∙ ap file task_is ∙ sym (get_or-map file tasks i task task.file in_tasks) in
    let copy_at : copy.items ≡ get_or files i bytes = copy_is ∙ bytes_is in
    let new : map seen now ≡ map seen kept ++ (string_bytes name, copy.items) ∷ [] =
    ap (map seen) more ∙ map-append seen kept ((name, copy) ∷ []) in
    let long : i < length (names_of tasks) = omega (arith, length-map tasks file) in
    let pair : ◌≡◌ {A = List ℕ × List ℕ} (string_bytes name, copy.items) (
      get_or (names_of tasks) i task.file,
      get_or files i bytes,
    ) = cc in
    new ∙ ap (λ l. l ++ (string_bytes name, copy.items) ∷ []) before
    ∙ ap (λ p. zip (take i (names_of tasks)) (take i files) ++ p ∷ []) pair
    ∙ sym (zip_more (names_of tasks) files i task.file bytes long in_files)
