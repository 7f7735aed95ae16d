-- The values of symbols.
use Rattle.std.specs.Prelude.{ℕ, List, find, Option, option_map}
use Rattle.std.specs.Str.{bytes_eq}
use Rattle.crpd_base.specs.declared.data.Symbol.{Symbol}

-- the value of the first symbol with a name, compared by bytes
unfoldable pub value_of : List Symbol → List ℕ → Option ℕ
value_of symbols name =
    option_map (λ (s : Symbol). s.value) (find (λ (s : Symbol). bytes_eq s.name name) symbols)
