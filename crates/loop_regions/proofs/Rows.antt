-- Small lists of steps, by computation: a call, its return and an ECALL.
use Rattle.std.proofs.Common.{◌≡◌, ℕ, List, [], ◌∷◌, Option, Some, None, refl}
use Rattle.std.specs.Prelude.{◌==◌, if◌then◌else◌, pos, replicate}
use Rattle.crpd_base.specs.declared.data.TaskPlan.{TaskPlan}
use Rattle.rv_decode.specs.declared.Ins.{Ins}
use Rattle.rv_decode.specs.declared.Ins.TheVariants.{Jal, Jalr, Ecall}
use Rattle.rv_decode.specs.Table.{ins_of_word, table}
use Rattle.rv_decode.specs.Flow.{flow}
use Rattle.rv_core.specs.Effect.{next_pc}
use Rattle.flat_graph.specs.FlatGraph.{FlatNode}
use Rattle.flow_watch.specs.Watch.{step as watch_step}
use Rattle.loop_regions.specs.Steps.{Step, AreSteps, AnswersAfter, exits, returns, nodes_along}

abbrev words : ℕ → Option ℕ
words a =
    if a == 0x1000 then Some 0x008000EF
    else (if a == 0x1004 then Some 0x00000073 else (if a == 0x1008 then Some 0x00008067 else None))

abbrev plan : TaskPlan
plan = record { entry = 0x1000; stack = 0; global = 0; loops = [] }

-- registers with this value in x1
abbrev linked : ℕ → List ℕ
linked a = 0 ∷ a ∷ replicate 30 0

abbrev step : ℕ → Ins → ℕ → Step
step from ins to = record { from = from; ins = ins; to = to }

abbrev steps : List Step
steps = step 0x1008 (Jalr 0 1 (pos 0)) 0x1004 ∷ step 0x1000 (Jal 1 (pos 8)) 0x1008 ∷ []

are_steps : AreSteps words 0x1000 steps
unfolding ins_of_word table next_pc
are_steps = (
  record {
    stands = record { word = 0x00008067; here = refl; reads = refl };
    registers = linked 0x1004;
    goes = refl;
  },
  refl,
  (
    record {
      stands = record { word = 0x008000EF; here = refl; reads = refl };
      registers = linked 0;
      goes = refl;
    },
    refl,
    tt,
  ),
)

abbrev at : List ℕ → ℕ → FlatNode
at context address = record { context = context; address = address }

along : nodes_along plan steps ≡ at [] 0x1004 ∷ at (0x1000 ∷ []) 0x1008 ∷ at [] 0x1000 ∷ []
unfolding watch_step flow
along = refl

answer : AnswersAfter words plan steps
unfolding ins_of_word table next_pc watch_step flow
answer = exits Ecall (linked 0) (record { word = 0x00000073; here = refl; reads = refl }) refl refl

-- a return of the bottom frame
abbrev leaf : TaskPlan
leaf = record plan { entry = 0x1008 }

leaf_answer : AnswersAfter words leaf []
unfolding ins_of_word table next_pc watch_step flow
leaf_answer =
    returns (step 0x1008 (Jalr 0 1 (pos 0)) 0xFFFFFFFC)
    (record {
      stands = record { word = 0x00008067; here = refl; reads = refl };
      registers = linked 0xFFFFFFFC;
      goes = refl;
    })
    refl refl
