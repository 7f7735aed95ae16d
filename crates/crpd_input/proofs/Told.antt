-- The steps that read or shape stop only at refusals: out of memory and faults come from the code.
use Rattle.std.proofs.Common.{◌≡◌, ◌≢◌, ℕ, List, [], ◌∷◌, Result}
use Rattle.std.proofs.Common.{Ok, Err, refl, sym, subst, inl, inr, ap}
use Rattle.crpd_base.specs.declared.data.TaskSet.{TaskSet}
use Rattle.crpd_base.specs.declared.data.TaskSpec.{TaskSpec}
use Rattle.set_reader.specs.Reading as set
use Rattle.set_reader.specs.declared.error.SetError.TheVariants as set_error
use Rattle.set_reader.proofs.NoMemory as set_proof
use Rattle.elf_reader.specs.Reading as elf
use Rattle.elf_reader.specs.declared.error.ElfError.TheVariants as elf_error
use Rattle.elf_reader.proofs.NoMemory as elf_proof
use Rattle.code_map.specs.Reading as code
use Rattle.code_map.specs.declared.error.MapError.TheVariants as map_error
use Rattle.code_map.proofs.NoMemory as code_proof
use Rattle.cert_model.specs.Reading as certificate
use Rattle.cert_model.specs.declared.error.CertError.TheVariants as cert_error
use Rattle.cert_model.proofs.NoMemory as certificate_proof
use Rattle.script_reader.specs.Reading as script
use Rattle.script_reader.specs.declared.error.ScriptError.TheVariants as script_error
use Rattle.script_reader.proofs.NoMemory as script_proof
use Rattle.set_reader.specs.declared.error.SetError.{SetError}
use Rattle.elf_reader.specs.declared.error.ElfError.{ElfError}
use Rattle.code_map.specs.declared.error.MapError.{MapError}
use Rattle.cert_model.specs.declared.error.CertError.{CertError}
use Rattle.script_reader.specs.declared.error.ScriptError.{ScriptError}
use Rattle.flat_graph.specs.declared.error.GraphError.{GraphError}
use Rattle.flat_graph.specs.declared.error.GraphError.TheVariants as graph_error
use Rattle.loop_regions.specs.declared.error.LoopError.{LoopError}
use Rattle.loop_regions.specs.declared.error.LoopError.TheVariants as loop_error
use Rattle.task_shapes.specs.Graphs.{GraphsOf, RegionsOf}
use Rattle.task_shapes.specs.Inputs.{SetWithCode, name_at}
use Rattle.task_shapes.specs.Shapes.{SetWithShapes, ShapesOf}
use Rattle.flat_graph.specs.CodeGraph.{CodeGraph}
use Rattle.task_shapes.specs.declared.error.ShapeError.{ShapeError}
use Rattle.crpd_io.specs.Outside.{Contents}
use Rattle.crpd_io.specs.Whole.{FileRefusal, file_within, no_file, too_long}
use Rattle.crpd_input.specs.declared.halt.Halt.{Halt}
use Rattle.crpd_input.specs.declared.halt.Halt.TheVariants.{Refused, Memory, Fault}
use Rattle.crpd_input.specs.Reading.{certificate_halt, certificate_in, code_in, elf_halt, image_in}
use Rattle.crpd_input.specs.Reading.{images_in, input_in, map_halt, set_halt, set_in}
use Rattle.crpd_input.specs.Script.{script_halt, script_in}
use Rattle.crpd_input.specs.Shapes.{GraphsFrom, ShapedFrom, ShapedIn, graph_halt, loop_halt}
use Rattle.crpd_input.specs.Shapes.{shape_halt}
use Rattle.crpd_input.specs.Steps.{AsStep, Exactly, Then, and_then, bytes_in, certificate_bytes, each}
use Rattle.crpd_input.specs.Steps.{file_bytes, or_refused, refused_file}

-- a refusal
abbrev pub IsRefused : Halt → Type 0
IsRefused (Refused refusal) = Unit {0}
IsRefused Memory = ⊥
IsRefused Fault = ⊥

-- a value or a refusal
abbrev pub IsAnswered : {A : Type 0} → Result A Halt → Type 0
IsAnswered (Ok value) = Unit {0}
IsAnswered (Err halt) = IsRefused halt

-- a step ends only with a value or a refusal
abbrev pub IsTold : {A : Type 0} → (Result A Halt → Type 0) → Type 0
IsTold {A} P = (r : Result A Halt) → P r → IsAnswered r

-- ---- steps in sequence

pub and_told : {A B : Type 0} (r : Result A Halt) (next : A → Result B Halt) → IsAnswered r
    → ((x : A) → IsAnswered (next x)) → IsAnswered (and_then r next)
and_told (Ok value) next told later = later value
and_told (Err halt) next told later = told

each_told : {A B : Type 0} (step : A → Result B Halt) → ((x : A) → IsAnswered (step x))
    → (xs : List A) → IsAnswered (each step xs)
unfolding each
each_told step one [] = tt
each_told step one (x ∷ xs) =
    and_told (step x) _ (one x) (λ y. and_told (each step xs) _ (each_told step one xs) (λ ys. tt))

pub exactly_told : {A : Type 0} (given : Result A Halt) → IsAnswered given → IsTold (Exactly given)
exactly_told given told r is = subst IsAnswered is told

pub then_told : {A B : Type 0} (P : Result A Halt → Type 0) (next : A → Result B Halt → Type 0)
    → IsTold P → ((x : A) → IsTold (next x)) → IsTold (Then P next)
then_told P next told later r (inl went) = later went.0 r went.2
then_told P next told later r (inr stopped) =
    subst IsAnswered (sym stopped.2) (told (Err stopped.0) stopped.1)

-- ---- the stops

file_told : {A : Type 0} (name : List ℕ) (r : Result A FileRefusal)
    → IsAnswered (refused_file name r)
file_told name (Ok bytes) = tt
file_told name (Err no_file) = tt
file_told name (Err too_long) = tt

set_told : (file : List ℕ) (e : SetError) → e ≢ set_error.Memory → IsRefused (set_halt file e)
set_told file set_error.Memory free = absurd (free refl)
set_told file e free = tt

elf_told : (file : List ℕ) (e : ElfError) → e ≢ elf_error.Memory → IsRefused (elf_halt file e)
elf_told file elf_error.Memory free = absurd (free refl)
elf_told file e free = tt

map_told : (file : List ℕ) (set : TaskSet) (e : MapError) → e ≢ map_error.Memory
    → IsRefused (map_halt file set e)
map_told file set map_error.Memory free = absurd (free refl)
map_told file set e free = tt

certificate_error_told : (file : List ℕ) (e : CertError) → e ≢ cert_error.Memory
    → IsRefused (certificate_halt file e)
certificate_error_told file cert_error.Memory free = absurd (free refl)
certificate_error_told file e free = tt

script_error_told : (file : List ℕ) (e : ScriptError) → e ≢ script_error.Memory
    → IsRefused (script_halt file e)
script_error_told file script_error.Memory free = absurd (free refl)
script_error_told file e free = tt

graph_told : (name : List ℕ) (e : GraphError) → e ≢ graph_error.Memory
    → IsRefused (graph_halt name e)
graph_told name graph_error.Memory free = absurd (free refl)
graph_told name e free = tt

loop_told : (name : List ℕ) (e : LoopError) → e ≢ loop_error.Memory → IsRefused (loop_halt name e)
loop_told name loop_error.Memory free = absurd (free refl)
loop_told name e free = tt

-- the result of reading, if its error is not out of memory
read_told : {A E : Type 0} (halt_of : E → Halt) (memory : E) (r : Result A E)
    → (r ≡ Err memory → ⊥) → ((e : E) → e ≢ memory → IsRefused (halt_of e))
    → IsAnswered (or_refused halt_of r)
read_told halt_of memory (Ok value) never told = tt
read_told halt_of memory (Err e) never told = told e (λ same. never (ap (λ d. Err d) same))

-- ---- the steps that read

bytes_told : {A : Type 0} (most : ℕ) (contents : Contents) (name : List ℕ)
    (next : List ℕ → Result A Halt) → ((bytes : List ℕ) → IsAnswered (next bytes))
    → IsAnswered (and_then (bytes_in most contents name) next)
bytes_told most contents name next later =
    and_told (bytes_in most contents name) next
    (file_told name (file_within most (contents name))) later

pub set_in_told : (contents : Contents) (name : List ℕ) → IsAnswered (set_in contents name)
set_in_told contents name =
    bytes_told file_bytes contents name _ (λ bytes.
    read_told (set_halt name) set_error.Memory (set.reading bytes) (set_proof.reading_never bytes)
    (set_told name))

image_told : (contents : Contents) (name : List ℕ) → IsAnswered (image_in contents name)
image_told contents name =
    bytes_told file_bytes contents name _ (λ bytes.
    read_told (elf_halt name) elf_error.Memory (elf.reading bytes) (elf_proof.reading_never bytes)
    (elf_told name))

pub code_in_told : (contents : Contents) (name : List ℕ) (s : TaskSet)
    → IsAnswered (code_in contents name s)
code_in_told contents name s =
    and_told (images_in contents s.tasks) _
    (each_told (λ (t : TaskSpec). image_in contents t.file)
    (λ (t : TaskSpec). image_told contents t.file) s.tasks) (λ images.
    read_told (map_halt name s) map_error.Memory (code.code_of s images)
    (code_proof.code_never s images) (map_told name s))

pub input_told : (contents : Contents) (name : List ℕ) → IsTold (Exactly (input_in contents name))
input_told contents name =
    exactly_told (input_in contents name)
    (and_told (set_in contents name) _ (set_in_told contents name) (λ s.
    and_told (code_in contents name s) _ (code_in_told contents name s) (λ c. tt)))

pub certificate_told : (contents : Contents) (name : List ℕ)
    → IsTold (Exactly (certificate_in contents name))
certificate_told contents name =
    exactly_told (certificate_in contents name)
    (bytes_told certificate_bytes contents name _ (λ bytes.
    read_told (certificate_halt name) cert_error.Memory (certificate.reading bytes)
    (certificate_proof.reading_never bytes) (certificate_error_told name)))

pub script_told : (contents : Contents) (name : List ℕ) (s : TaskSet)
    → IsTold (Exactly (script_in contents name s))
script_told contents name s =
    exactly_told (script_in contents name s)
    (bytes_told file_bytes contents name _ (λ bytes.
    read_told (script_halt name) script_error.Memory (script.reading bytes s)
    (script_proof.reading_never bytes s) (script_error_told name)))

-- ---- the steps that shape

as_told : {A E : Type 0} (halt_of : E → Halt) (P : Result A E → Type 0)
    → ((e : E) → P (Err e) → IsRefused (halt_of e)) → IsTold (AsStep halt_of P)
as_told halt_of P each (Ok value) is = tt
as_told halt_of P each (Err halt) is = subst IsRefused (sym is.2) (each is.0 is.1)

graphs_refused : (input : SetWithCode) (e : ShapeError) → GraphsOf input (Err e)
    → IsRefused (shape_halt e)
graphs_refused input e is =
    let at = is.2.2 in
    subst (λ d. IsRefused (shape_halt d)) (sym at.3)
    (graph_told (name_at input is.0) at.0 at.1)

regions_refused : (input : SetWithCode) (graphs : List CodeGraph) (e : ShapeError)
    → RegionsOf input graphs (Err e) → IsRefused (shape_halt e)
regions_refused input graphs e is =
    let at = is.2.4 in
    subst (λ d. IsRefused (shape_halt d)) (sym at.3)
    (loop_told (name_at input is.0) at.0 at.1)

same_error : (e d : ShapeError) → ◌≡◌ {A = Result SetWithShapes ShapeError} (Err e) (Err d) → e ≡ d
same_error e d is = cc

shapes_refused : (input : SetWithCode) (e : ShapeError) → ShapesOf input (Err e)
    → IsRefused (shape_halt e)
shapes_refused input e (inl (graphs, found, inl (nests, regions, is))) = absurd cc
shapes_refused input e (inl (graphs, found, inr (d, stops, is))) =
    subst (λ x. IsRefused (shape_halt x)) (sym (same_error e d is))
    (regions_refused input graphs d stops)
shapes_refused input e (inr (d, stops, is)) =
    subst (λ x. IsRefused (shape_halt x)) (sym (same_error e d is)) (graphs_refused input d stops)

pub graphs_told : (input : SetWithCode) → IsTold (GraphsFrom input)
graphs_told input = as_told shape_halt (GraphsOf input) (graphs_refused input)

pub shaped_told : (input : SetWithCode) → IsTold (ShapedFrom input)
shaped_told input = as_told shape_halt (ShapesOf input) (shapes_refused input)

pub shaped_in_told : (contents : Contents) (name : List ℕ) → IsTold (ShapedIn contents name)
shaped_in_told contents name =
    then_told (Exactly (input_in contents name)) ShapedFrom (input_told contents name) shaped_told
