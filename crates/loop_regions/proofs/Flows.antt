-- Where instructions go, by their flow.
use Rattle.std.proofs.Common.{◌≡◌, ◌⊎◌, ℕ, zero, suc, Bool, true, false, List, refl, sym, ◌∙◌, ap}
use Rattle.std.proofs.Common.{inl, inr, ℤ, pos}
use Rattle.rv_decode.specs.declared.Ins.{Ins}
use Rattle.rv_decode.specs.declared.Ins.TheVariants.{Jal, Jalr, Beq, Bne, Blt, Bge, Bltu, Bgeu}
use Rattle.rv_decode.specs.declared.Ins.TheVariants.{Ecall, Ebreak}
use Rattle.rv_decode.specs.Address.{next_address, plus}
use Rattle.rv_decode.specs.Flow.{Flow, Plain, Branch, Jump, Call, Return, Exit, Break, OtherJalr}
use Rattle.rv_decode.specs.Flow.{OtherJal, flow}
use Rattle.rv_core.specs.declared.Next.{Next}
use Rattle.rv_core.specs.declared.Next.TheVariants.{Goto, Answer, Fault}
use Rattle.rv_core.specs.Effect.{next_pc, branch}
use Rattle.loop_regions.specs.Watched.{CanGo}

-- the next state by a flow
abbrev pub GoesBy : Flow → ℕ → Next → Type 0
GoesBy Plain a next = next ≡ Goto (next_address a)
GoesBy (Branch t) a next = (next ≡ Goto (next_address a)) ⊎ (next ≡ Goto t)
GoesBy (Jump t) a next = next ≡ Goto t
GoesBy (Call t) a next = next ≡ Goto t
GoesBy Return a next = (to : ℕ) × (next ≡ Goto to)
GoesBy Exit a next = next ≡ Answer
GoesBy Break a next = next ≡ Fault
GoesBy OtherJalr a next = (to : ℕ) × (next ≡ Goto to)
GoesBy OtherJal a next = (to : ℕ) × (next ≡ Goto to)

branch_goes : (b : Bool) (a : ℕ) (imm : ℤ)
    → (branch b a imm ≡ Goto (next_address a)) ⊎ (branch b a imm ≡ Goto (plus a imm))
branch_goes true a imm = inr refl
branch_goes false a imm = inl refl

pub flow_goes : (ins : Ins) (a : ℕ) (r : List ℕ) → GoesBy (flow a ins) a (next_pc ins a r)
unfolding flow next_pc
flow_goes (Jal zero imm) a r = refl
flow_goes (Jal (suc zero) imm) a r = refl
flow_goes (Jal (suc (suc d)) imm) a r = (_, refl)
flow_goes (Jalr zero (suc zero) (pos zero)) a r = (_, refl)
flow_goes (Jalr _ _ _) a r = (_, refl)
flow_goes (Beq _ _ imm) a r = branch_goes _ a imm
flow_goes (Bne _ _ imm) a r = branch_goes _ a imm
flow_goes (Blt _ _ imm) a r = branch_goes _ a imm
flow_goes (Bge _ _ imm) a r = branch_goes _ a imm
flow_goes (Bltu _ _ imm) a r = branch_goes _ a imm
flow_goes (Bgeu _ _ imm) a r = branch_goes _ a imm
flow_goes Ecall a r = refl
flow_goes Ebreak a r = refl
flow_goes _ a r = refl

to_of : Next → ℕ
to_of (Goto to) = to
to_of Answer = 0
to_of Fault = 0

pub goto_same : (a b : ℕ) → Goto a ≡ Goto b → a ≡ b
unfolding to_of
goto_same a b e = ap to_of e

-- the next address is one to which the flow can go
pub can_go : (f : Flow) (a : ℕ) (next : Next) (to : ℕ) → GoesBy f a next → next ≡ Goto to
    → CanGo a f to
can_go Plain a next to g e = goto_same to (next_address a) (sym e ∙ g)
can_go (Branch t) a next to (inl g) e = inl (goto_same to (next_address a) (sym e ∙ g))
can_go (Branch t) a next to (inr g) e = inr (goto_same to t (sym e ∙ g))
can_go (Jump t) a next to g e = goto_same to t (sym e ∙ g)
can_go (Call t) a next to g e = goto_same to t (sym e ∙ g)
can_go Return a next to g e = tt
can_go Exit a next to g e = absurd (let x = sym e ∙ g in cc)
can_go Break a next to g e = absurd (let x = sym e ∙ g in cc)
can_go OtherJalr a next to g e = tt
can_go OtherJal a next to g e = tt

-- only an ECALL completes a job
pub answer_exits : (f : Flow) (a : ℕ) (next : Next) → GoesBy f a next → next ≡ Answer → f ≡ Exit
answer_exits Plain a next g e = absurd (let x = sym e ∙ g in cc)
answer_exits (Branch t) a next (inl g) e = absurd (let x = sym e ∙ g in cc)
answer_exits (Branch t) a next (inr g) e = absurd (let x = sym e ∙ g in cc)
answer_exits (Jump t) a next g e = absurd (let x = sym e ∙ g in cc)
answer_exits (Call t) a next g e = absurd (let x = sym e ∙ g in cc)
answer_exits Return a next g e = absurd (let x = sym e ∙ g.1 in cc)
answer_exits Exit a next g e = refl
answer_exits Break a next g e = absurd (let x = sym e ∙ g in cc)
answer_exits OtherJalr a next g e = absurd (let x = sym e ∙ g.1 in cc)
answer_exits OtherJal a next g e = absurd (let x = sym e ∙ g.1 in cc)
