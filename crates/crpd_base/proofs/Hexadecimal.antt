-- What `{:08x}` writes.
use Rattle.std.proofs.Common.{◌≡◌, ℕ, ◌-◌, ◌^◌, false, [], length, refl, arith}
use Rattle.std.proofs.lemmas.List.{append-nil}
use Rattle.std.specs.Fmt.{char_count, digits, format_spec, padded_integral}
use Rattle.crpd_base.specs.Texts.{hexadecimal}

pub styled_hexadecimal : (n : ℕ)
    → padded_integral (format_spec 32 0 4 8 (2 ^ 64 - 1)) false [] (digits 16 false n)
    ≡ hexadecimal n
unfolding padded_integral char_count
styled_hexadecimal n =
    let e : 8 - length (digits 16 false n) - 0 - 0 ≡ 8 - length (digits 16 false n) = omega arith in
    rw (e, append-nil (digits 16 false n)) refl
