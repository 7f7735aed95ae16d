-- A value that is read as a list or text in memory, and seen as the list.
use Rattle.std.proofs.Common.{◌≡◌, List, ℕ, Option, Some, None, option_map, Result, Ok, Err}
use Rattle.text_keys.specs.declared.error.KeyError.{KeyError}
use Rattle.crpd_base.specs.Outcome.{Gives}
use Rattle.text_keys.specs.TomlKeys.{value_or_bad}

pub good_seen : {X Y : Type 0} (out : KeyError) (view : X → Y) (path key : List ℕ) (read : Option X)
    (o : Option Y) (r : Result X KeyError)
    → Gives out (λ x. x) r (value_or_bad path key read) → option_map view read ≡ o
    → Gives out view r (value_or_bad path key o)
good_seen out view path key None None (Ok x) h e = absurd cc
good_seen out view path key None None (Err x) h e = λ n. let k = h n in cc
good_seen out view path key None (Some y) r h e = absurd cc
good_seen out view path key (Some x) None r h e = absurd cc
good_seen out view path key (Some x) (Some y) (Ok z) h e = cc
good_seen out view path key (Some x) (Some y) (Err z) h e = λ n. let k = h n in absurd cc
