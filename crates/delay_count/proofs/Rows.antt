-- The two delays and the demand of small sets, by computation.
use Rattle.std.proofs.Common.{◌≡◌, ℕ, zero, suc, [], ◌∷◌, refl}
use Rattle.crpd_base.specs.declared.data.Switching.{Switching}
use Rattle.crpd_base.specs.declared.data.Switching.TheVariants.{Cycle, Instruction}
use Rattle.crpd_base.specs.declared.data.TaskSet.{TaskSet}
use Rattle.crpd_base.specs.declared.data.Part.{Part}
use Rattle.crpd_base.specs.declared.data.Method.TheVariants.{Ucb, Ecb}
use Rattle.delay_count.specs.Gamma.{gamma_ucb, gamma_ecb, union_count, shared_count}
use Rattle.delay_count.specs.Gamma.{greatest_choice}
use Rattle.delay_count.specs.Demand.{demand}
use Rattle.delay_count.proofs.Samples.{platform, task, three, part, apart, crossed, aside}

abbrev windows : ℕ → ℕ
windows k = 100

abbrev longest : ℕ → ℕ
longest k = 11

apart_ucb_0 : gamma_ucb (three 10000) apart windows 100 2 0 ≡ 30
unfolding union_count
apart_ucb_0 = refl

apart_ucb_1 : gamma_ucb (three 10000) apart windows 100 2 1 ≡ 0
unfolding union_count
apart_ucb_1 = refl

apart_ecb_0 : gamma_ecb (three 10000) apart windows 100 2 0 ≡ 30
unfolding shared_count
apart_ecb_0 = refl

apart_ecb_1 : gamma_ecb (three 10000) apart windows 100 2 1 ≡ 30
unfolding shared_count
apart_ecb_1 = refl

crossed_ucb_0 : gamma_ucb (three 10000) crossed windows 100 2 0 ≡ 40
unfolding union_count
crossed_ucb_0 = refl

crossed_ucb_1 : gamma_ucb (three 10000) crossed windows 100 2 1 ≡ 20
unfolding union_count
crossed_ucb_1 = refl

crossed_ecb_0 : gamma_ecb (three 10000) crossed windows 100 2 0 ≡ 20
unfolding shared_count
crossed_ecb_0 = refl

crossed_ecb_1 : gamma_ecb (three 10000) crossed windows 100 2 1 ≡ 20
unfolding shared_count
crossed_ecb_1 = refl

aside_ucb_0 : gamma_ucb (three 10000) aside windows 100 2 0 ≡ 40
unfolding union_count
aside_ucb_0 = refl

aside_ucb_1 : gamma_ucb (three 10000) aside windows 100 2 1 ≡ 0
unfolding union_count
aside_ucb_1 = refl

aside_ecb_0 : gamma_ecb (three 10000) aside windows 100 2 0 ≡ 20
unfolding shared_count
aside_ecb_0 = refl

aside_ecb_1 : gamma_ecb (three 10000) aside windows 100 2 1 ≡ 20
unfolding shared_count
aside_ecb_1 = refl

-- (three 10000) tasks with the windows 55, 115 and 175
aside_highest : demand (three 10000) aside longest windows 0 Ucb 55 ≡ 55
aside_highest = refl

aside_middle : demand (three 10000) aside longest windows 1 Ucb 115 ≡ 115
unfolding union_count
aside_middle = refl

aside_lowest : demand (three 10000) aside longest windows 2 Ucb 175 ≡ 175
unfolding union_count
aside_lowest = refl

aside_lowest_ecb : demand (three 10000) aside longest windows 2 Ecb 175 ≡ 175
unfolding shared_count
aside_lowest_ecb = refl

-- two tasks that share a set: switching at every cycle, with jitter, and between instructions
abbrev two : Switching → ℕ → TaskSet
two mode jitter = record { platform = platform mode; tasks = task 100 jitter ∷ task 100 0 ∷ [] }

abbrev one_set : ℕ → Part
one_set k = part 12 1 1

high : demand (two Cycle 0) one_set longest windows 0 Ucb 17 ≡ 17
high = refl

low : demand (two Cycle 0) one_set longest windows 1 Ucb 49 ≡ 49
unfolding union_count
low = refl

low_with_jitter : demand (two Cycle 60) one_set longest windows 1 Ucb 81 ≡ 81
unfolding union_count
low_with_jitter = refl

high_between : demand (two Instruction 0) one_set longest windows 0 Ucb 27 ≡ 27
high_between = refl

low_between : demand (two Instruction 0) one_set longest windows 1 Ucb 59 ≡ 59
unfolding union_count
low_between = refl

-- the largest choice is not always that of the first task, nor of the one with most sets alone
abbrev value : ℕ → ℕ
value zero = 2
value (suc zero) = 5
value (suc (suc k)) = 3

abbrev count : ℕ → ℕ
count zero = 4
count (suc zero) = 1
count (suc (suc k)) = 2

one_choice : greatest_choice value count 3 1 ≡ 5
one_choice = refl

two_choices : greatest_choice value count 3 2 ≡ 8
two_choices = refl

four_choices : greatest_choice value count 3 4 ≡ 13
four_choices = refl

all_choices : greatest_choice value count 3 9 ≡ 19
all_choices = refl

no_choice : greatest_choice value count 3 0 ≡ 0
no_choice = refl
