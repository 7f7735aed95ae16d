-- One more digit of a number.
use Rattle.std.proofs.Common.{◌≡◌, ℕ, ◌+◌, ◌-◌, ◌*◌, ◌^◌, ◌<◌, ◌≤◌, true, List, length, drop}
use Rattle.std.proofs.Common.{get_or, ap, sym, ◌∙◌, arith, add-one, nat_le}
use Rattle.std.specs.List.{list_all}
use Rattle.std.proofs.Math.Nat.{pow-suc}
use Rattle.std.proofs.lemmas.Bool.{and_parts, leb-true}
use Rattle.std.proofs.lemmas.List.{drop_all, drop_more}
use Rattle.std.proofs.lemmas.List.Sums.{AllPass-from_list_all}
use Rattle.crpd_tool.specs.Numbers.{is_digit, value_after}

digit_small : (digits : List ℕ) (i : ℕ) → i < length digits → list_all is_digit digits ≡ true
    → get_or digits i 0 ≤ 57
digit_small digits i lt all =
    let passes : is_digit (get_or digits i 0) ≡ true =
    AllPass-from_list_all is_digit digits all i 0 lt in
    leb-true (get_or digits i 0) 57
    (and_parts (nat_le 48 (get_or digits i 0)) (nat_le (get_or digits i 0) 57) passes).1

pub below_more : (digits : List ℕ) (n i d : ℕ) → i < length digits → list_all is_digit digits ≡ true
    → d ≡ get_or digits i 0 - 48 → n < 10 ^ i → 10 * n + d < 10 ^ (i + 1)
below_more digits n i d lt all is below =
    let small : get_or digits i 0 ≤ 57 = digit_small digits i lt all in
    let power : 10 ^ (i + 1) ≡ 10 ^ i * 10 = rw add-one (pow-suc 10 i) in
    omega arith

pub written_more : (digits : List ℕ) (n i d : ℕ) → i < length digits → d ≡ get_or digits i 0 - 48
    → value_after n (drop i digits) ≡ value_after 0 digits
    → value_after (10 * n + d) (drop (i + 1) digits) ≡ value_after 0 digits
unfolding value_after
written_more digits n i d lt is written =
    ap (λ k. value_after (10 * n + k) (drop (i + 1) digits)) is
    ∙ sym (ap (value_after n) (drop_more digits i 0 lt)) ∙ written

pub written_all : (digits : List ℕ) (n i : ℕ) → length digits ≤ i
    → value_after n (drop i digits) ≡ value_after 0 digits → n ≡ value_after 0 digits
unfolding value_after
written_all digits n i le written = sym (ap (value_after n) (drop_all i digits le)) ∙ written
